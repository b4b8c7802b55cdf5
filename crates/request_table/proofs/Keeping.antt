-- What holds of a table after each call.
use Rattle.std.proofs.Common.{◌≡◌, ◌==◌, ◌<◌, ◌≤◌, ◌+◌, ◌-◌, ℕ, zero, suc, Bool, true, false, true≢false, cond, ◌&&◌, List, [], ◌∷◌, filter, length, replicate, get_or, set, Some, None, is_some, IsSome, IfSome, IsTrue, slice_get, inl, inr, refl, sym, ap, ◌∙◌, subst, arith, length-set, get_or-set_same, get_or-set_other, eq-eqb}
use Rattle.std.specs.List.{list_all}
use Rattle.std.specs.Option.{option_map_or}
use Rattle.std.proofs.lemmas.Bool.{cases_eq, cases_lt, ne_eqb, and_left, and_right, lt-leb, le-leb}
use Rattle.std.proofs.lemmas.List.{get_or_past, get_or-replicate, length-replicate, length_push}
use Rattle.irp_core.proofs.ByTest.{by_value}
use Rattle.irp_core.proofs.Names.{same_id-refl}
use Rattle.irp_core.specs.Steps.{same_id}
use Rattle.irp_core.specs.Words.{bit}
use Rattle.irp_core.specs.declared.ids.{IrpId.{IrpId}, FileId.{FileId}}
use Rattle.request_table.specs.declared.stage.{Stage.{Stage, TheVariants.{Free, Listed, Taken, Ending, Spent}}}
use Rattle.request_table.specs.Stages.{same_file, file_of, is_free, is_spent, is_under_way, is_for, may_be_due}
use Rattle.request_table.specs.Requests.{Requests, IsSound, stage_of, due_of, times_free, with_stage, finished, stage_after, free_after, fresh, ids_below, IsTableSize}
use Rattle.request_table.specs.Parts.{IsKept}
use Rattle.request_table.specs.declared.refusals.BeginRefused.{TheVariants.{UnknownFile, AllSpent, AllUnderWay}}
use Rattle.request_table.specs.Refusals.{refusal_to_begin}
use Rattle.request_table.proofs.Counting.{count-cons, count-push, count-set, count-le, count-copies, count-all, copy-at}

-- a number whose stage passes a test that Spent fails is known
pub known-by : (p : Stage → Bool) (stages : List Stage) (i : IrpId) → p Spent ≡ false → p (get_or stages i.0 Spent) ≡ true → i.0 < length stages
known-by p stages i never way = elim (cases_lt i.0 (length stages)) [
  | inl low ↦ low
  | inr past ↦ absurd (true≢false (sym way ∙ ap p (get_or_past stages i.0 Spent past) ∙ never))
]

-- what holds of a number, and of each other one, holds of each
pub by_number : (P : IrpId → Type 0) (i : IrpId) → P i → ((j : IrpId) → (j.0 ≡ i.0 → ⊥) → P j) → (j : IrpId) → P j
by_number P i own others j = elim (cases_eq j.0 i.0) [
  | inl same ↦ (let is : j ≡ i = λ k. record { 0 = same k } in subst P (sym is) own)
  | inr apart ↦ others j apart
]

-- two numbers that aren't one
pub other-id : (j i : IrpId) → (j.0 ≡ i.0 → ⊥) → same_id j i ≡ false
unfolding same_id
other-id j i apart = ne_eqb j.0 i.0 apart

same-number : (j i : IrpId) → j.0 ≡ i.0 → same_id j i ≡ true
unfolding same_id
same-number j i is = eq-eqb j.0 i.0 is

-- how many a file has, and how many others have, with one more and with one less for it
pub one-more : (lens : List ℕ) (f g : FileId) → f.0 < length lens → get_or (set lens f.0 (get_or lens f.0 0 + 1)) g.0 0 ≡ get_or lens g.0 0 + cond (same_file g f) 1 0
one-more lens f g within = elim (cases_eq g.0 f.0) [
  | inl same ↦ rw (eq-eqb g.0 f.0 same, same) (get_or-set_same lens f.0 _ 0 within)
  | inr apart ↦ rw (ne_eqb g.0 f.0 apart) (omega (arith, get_or-set_other lens f.0 g.0 (get_or lens f.0 0 + 1) 0 apart))
]

pub one-less : (lens : List ℕ) (f g : FileId) → f.0 < length lens → 1 ≤ get_or lens f.0 0 → get_or (set lens f.0 (get_or lens f.0 0 - 1)) g.0 0 + cond (same_file g f) 1 0 ≡ get_or lens g.0 0
one-less lens f g within some = elim (cases_eq g.0 f.0) [
  | inl same ↦ rw (eq-eqb g.0 f.0 same, same) (omega (arith, get_or-set_same lens f.0 (get_or lens f.0 0 - 1) 0 within))
  | inr apart ↦ rw (ne_eqb g.0 f.0 apart) (omega (arith, get_or-set_other lens f.0 g.0 (get_or lens f.0 0 - 1) 0 apart))
]

-- another stage of one number, and what it takes for a table to stay sound
pub record IsMove (r : Requests) (i : IrpId) (s : Stage) (free : List IrpId) : Type 0 where
  pub known : i.0 < length r.stages
  pub due : IsSome (due_of r i) → IsTrue (may_be_due s)
  pub free_here : length (filter (same_id i) free) ≡ cond (is_free s) 1 0
  pub free_else : (j : IrpId) → (j.0 ≡ i.0 → ⊥) → length (filter (same_id j) free) ≡ times_free r j
  pub free_count : length free + cond (is_free (stage_of r i)) 1 0 ≡ length r.free + cond (is_free s) 1 0

-- each number stands among the free ones as often as its stage says, also after another stage of one
pub once-moved : (r : Requests) → ((j : IrpId) → times_free r j ≡ cond (is_free (stage_of r j)) 1 0) → (i : IrpId) (s : Stage) (free : List IrpId) → i.0 < length r.stages
    → length (filter (same_id i) free) ≡ cond (is_free s) 1 0
    → ((j : IrpId) → (j.0 ≡ i.0 → ⊥) → length (filter (same_id j) free) ≡ times_free r j)
    → (j : IrpId) → length (filter (same_id j) free) ≡ cond (is_free (get_or (set r.stages i.0 s) j.0 Spent)) 1 0
once-moved r once i s free known here others = by_number (λ j. length (filter (same_id j) free) ≡ cond (is_free (get_or (set r.stages i.0 s) j.0 Spent)) 1 0) i
    (here ∙ ap (λ x. bit (is_free x)) (sym (get_or-set_same r.stages i.0 s Spent known)))
    (λ j apart. others j apart ∙ once j ∙ ap (λ x. bit (is_free x)) (sym (get_or-set_other r.stages i.0 j.0 s Spent apart)))

pub kept-moved : {lens : List ℕ} {all room : ℕ} {r : Requests} → IsKept lens all room r → {i : IrpId} {s : Stage} {free : List IrpId} → IsMove r i s free → (new : List ℕ) (more : ℕ)
    → ((f : FileId) → get_or new f.0 0 + cond (is_for f (stage_of r i)) 1 0 ≡ get_or lens f.0 0 + cond (is_for f s) 1 0)
    → more + cond (is_under_way (stage_of r i)) 1 0 ≡ all + cond (is_under_way s) 1 0
    → length new ≡ length lens
    → IsKept new more room (record r { stages = set r.stages i.0 s; free = free })
kept-moved {lens} {all} {room} {r} kept {i} {s} {free} move new more counts all_counts each = record {
  sound = record {
    free_once = once-moved r kept.sound.free_once i s free move.known move.free_here move.free_else;
    due_waits = by_number (λ j. IsSome (due_of r j) → IsTrue (may_be_due (get_or stages j.0 Spent))) i
        (λ is. ap may_be_due here ∙ move.due is)
        (λ j apart is. ap may_be_due (there j apart) ∙ kept.sound.due_waits j is);
    all_have_dues = kept.sound.all_have_dues ∙ sym same_length;
    files_known = λ f past. sym (counted f) ∙ get_or_past new f.0 0 (omega (arith, each, kept.each_file));
  };
  counted = counted;
  all_counted = omega (arith, all_counts, kept.all_counted, count-set is_under_way r.stages i.0 Spent s move.known);
  each_file = each ∙ kept.each_file;
  free_counted = omega (arith, move.free_count, kept.free_counted, count-set is_free r.stages i.0 Spent s move.known);
  room_for_each = omega (arith, kept.room_for_each, same_length);
  few = omega (arith, kept.few, same_length);
  few_files = kept.few_files;
}
  where
    stages : List Stage
    stages = set r.stages i.0 s

    here : get_or stages i.0 Spent ≡ s
    here = get_or-set_same r.stages i.0 s Spent move.known

    there : (j : IrpId) → (j.0 ≡ i.0 → ⊥) → get_or stages j.0 Spent ≡ stage_of r j
    there j apart = get_or-set_other r.stages i.0 j.0 s Spent apart

    same_length : length stages ≡ length r.stages
    same_length = length-set r.stages i.0 s

    counted : (f : FileId) → get_or new f.0 0 ≡ length (filter (is_for f) stages)
    counted f = omega (arith, counts f, kept.counted f, count-set (is_for f) r.stages i.0 Spent s move.known)

-- a request under way isn't free
pub not-free : (s : Stage) → is_under_way s ≡ true → is_free s ≡ false
not-free Free way = absurd (true≢false (sym way))
not-free _ way = refl

-- another stage of a request that stays under way
pub kept-stage : {lens : List ℕ} {all room : ℕ} {r : Requests} → IsKept lens all room r → (i : IrpId) (s : Stage) → is_under_way (stage_of r i) ≡ true → file_of s ≡ file_of (stage_of r i) → (IsSome (due_of r i) → IsTrue (may_be_due s)) → IsKept lens all room (with_stage i s r)
kept-stage {lens} {all} {room} {r} kept i s way file due =
    let same : is_free s ≡ is_free (stage_of r i) = not-free s (ap is_some file ∙ way) ∙ sym (not-free (stage_of r i) way) in
    let move : IsMove r i s r.free = record {
      known = known-by is_under_way r.stages i refl way;
      due = due;
      free_here = kept.sound.free_once i ∙ ap bit (sym same);
      free_else = λ j apart. refl;
      free_count = ap (λ b. length r.free + cond b 1 0) (sym same);
    } in
    kept-moved kept move lens all
    (λ f. ap (λ o. get_or lens f.0 0 + cond (option_map_or (same_file f) o false) 1 0) (sym file))
    (ap (λ o. all + cond (is_some o) 1 0) (sym file))
    refl

-- what is free first: its stage is Free, and it stands nowhere else
pub first-free : (r : Requests) → ((j : IrpId) → times_free r j ≡ cond (is_free (stage_of r j)) 1 0) → (i : IrpId) (rest : List IrpId) → r.free ≡ i ∷ rest → (is_free (stage_of r i) ≡ true) × (length (filter (same_id i) rest) ≡ 0)
first-free r once i rest is =
    by_value (λ b. times_free r i ≡ cond b 1 0 → (b ≡ true) × (length (filter (same_id i) rest) ≡ 0)) (is_free (stage_of r i))
    (λ m own. (refl, omega (arith, own, twice)))
    (λ m own. absurd (omega (arith, own, twice)))
    (once i)
  where
    twice : times_free r i ≡ length (filter (same_id i) rest) + 1
    twice = ap (λ xs. length (filter (same_id i) xs)) is ∙ count-cons (same_id i) i rest ∙ ap (λ b. length (filter (same_id i) rest) + cond b 1 0) (same_id-refl i)

pub is-free : (s : Stage) → is_free s ≡ true → s ≡ Free
is-free Free way = refl
is-free _ way = absurd (true≢false (sym way))

pub rest-else : (r : Requests) (i : IrpId) (rest : List IrpId) → r.free ≡ i ∷ rest → (j : IrpId) → (j.0 ≡ i.0 → ⊥) → length (filter (same_id j) rest) ≡ times_free r j
rest-else r i rest is j apart = omega (arith, ap (λ xs. length (filter (same_id j) xs)) is, count-cons (same_id j) i rest, ap bit (other-id j i apart))

pub first-known : {r : Requests} → IsSound r → (i : IrpId) (rest : List IrpId) → r.free ≡ i ∷ rest → i.0 < length r.stages
first-known {r} sound i rest is = known-by is_free r.stages i refl (first-free r sound.free_once i rest is).0

pub kept-begun : {lens : List ℕ} {all room : ℕ} {r : Requests} → IsKept lens all room r → (i : IrpId) (f : FileId) (rest : List IrpId) → r.free ≡ i ∷ rest → f.0 < length lens
    → IsKept (set lens f.0 (get_or lens f.0 0 + 1)) (all + 1) room (record r { stages = set r.stages i.0 (Listed f); free = rest })
kept-begun {lens} {all} {room} {r} kept i f rest is file =
    let first = first-free r kept.sound.free_once i rest is in
    let was : stage_of r i ≡ Free = is-free (stage_of r i) first.0 in
    let move : IsMove r i (Listed f) rest = record {
      known = first-known kept.sound i rest is;
      due = λ is. refl;
      free_here = first.1;
      free_else = rest-else r i rest is;
      free_count = omega (arith, ap length is, ap bit first.0);
    } in
    kept-moved kept move (set lens f.0 (get_or lens f.0 0 + 1)) (all + 1)
    (λ g. omega (arith, ap (λ s. bit (is_for g s)) was, one-more lens f g file))
    (omega (arith, ap (λ s. bit (is_under_way s)) was))
    (length-set lens f.0 (get_or lens f.0 0 + 1))

-- a request under way is counted, for a known file
pub counted-one : {lens : List ℕ} {all room : ℕ} {r : Requests} → IsKept lens all room r → (i : IrpId) (f : FileId) → file_of (stage_of r i) ≡ Some f → (f.0 < length lens) × (1 ≤ get_or lens f.0 0) × (1 ≤ all)
counted-one {lens} {all} {room} {r} kept i f file = (known, some, omega (arith, kept.all_counted, count-set is_under_way r.stages i.0 Spent Spent within, ap (λ o. bit (is_some o)) file))
  where
    within : i.0 < length r.stages
    within = known-by is_under_way r.stages i refl (ap is_some file)

    own : bit (is_for f (stage_of r i)) ≡ 1
    own = ap (λ o. bit (option_map_or (same_file f) o false)) file ∙ ap bit (eq-eqb f.0 f.0 refl)

    some : 1 ≤ get_or lens f.0 0
    some = omega (arith, kept.counted f, count-set (is_for f) r.stages i.0 Spent Spent within, own)

    known : f.0 < length lens
    known = elim (cases_lt f.0 (length lens)) [ inl low ↦ low | inr past ↦ absurd (omega (arith, some, get_or_past lens f.0 0 past)) ]

-- the free numbers, once one more is put back or spent
pub free-here : (spent : Bool) (i : IrpId) (free : List IrpId) → length (filter (same_id i) free) ≡ 0 → length (filter (same_id i) (free_after spent i free)) ≡ cond (is_free (stage_after spent)) 1 0
free-here true i free none = none
free-here false i free none = omega (arith, count-push (same_id i) free i, none, ap bit (same_id-refl i))

pub free-else : (spent : Bool) (i j : IrpId) (free : List IrpId) → (j.0 ≡ i.0 → ⊥) → length (filter (same_id j) (free_after spent i free)) ≡ length (filter (same_id j) free)
free-else true i j free apart = refl
free-else false i j free apart = omega (arith, count-push (same_id j) free i, ap bit (other-id j i apart))

free-count : (spent : Bool) (i : IrpId) (free : List IrpId) → length (free_after spent i free) ≡ length free + cond (is_free (stage_after spent)) 1 0
free-count true i free = omega arith
free-count false i free = length_push free i

over-for : (spent : Bool) (f : FileId) → is_for f (stage_after spent) ≡ false
over-for true f = refl
over-for false f = refl

pub over-at-all : (spent : Bool) → is_under_way (stage_after spent) ≡ false
over-at-all true = refl
over-at-all false = refl

pub kept-finished : {lens : List ℕ} {all room : ℕ} {r : Requests} → IsKept lens all room r → (i : IrpId) (f : FileId) (spent : Bool) → file_of (stage_of r i) ≡ Some f → due_of r i ≡ None
    → IsKept (set lens f.0 (get_or lens f.0 0 - 1)) (all - 1) room (finished i spent r)
kept-finished {lens} {all} {room} {r} kept i f spent file due =
    let one = counted-one kept i f file in
    let way : is_under_way (stage_of r i) ≡ true = ap is_some file in
    let busy = not-free (stage_of r i) way in
    let move : IsMove r i (stage_after spent) (free_after spent i r.free) = record {
      known = known-by is_under_way r.stages i refl way;
      due = λ is. absurd (true≢false (sym is ∙ ap is_some due));
      free_here = free-here spent i r.free (kept.sound.free_once i ∙ ap bit busy);
      free_else = λ j apart. free-else spent i j r.free apart;
      free_count = omega (arith, free-count spent i r.free, ap bit busy);
    } in
    kept-moved kept move (set lens f.0 (get_or lens f.0 0 - 1)) (all - 1)
    (λ g. omega (arith, one-less lens f g one.0 one.1, ap (λ o. bit (option_map_or (same_file g) o false)) file, ap bit (over-for spent g)))
    (omega (arith, one.2, ap bit way, ap bit (over-at-all spent)))
    (length-set lens f.0 (get_or lens f.0 0 - 1))

-- what is under way isn't free, so there is room for it among the free ones
pub room-for : {lens : List ℕ} {all room : ℕ} {r : Requests} → IsKept lens all room r → (i : IrpId) → is_under_way (stage_of r i) ≡ true → length r.free < room
room-for {lens} {all} {room} {r} kept i way =
    omega (arith, kept.free_counted, kept.room_for_each, count-le is_free (set r.stages i.0 Free), length-set r.stages i.0 Free, count-set is_free r.stages i.0 Spent Free (known-by is_under_way r.stages i refl way), ap bit (not-free (stage_of r i) way))

-- each number is spent exactly if none is free and none under way
pub all-spent : (stages : List Stage) → list_all is_spent stages ≡ ((length (filter is_free stages) == 0) && (length (filter is_under_way stages) == 0))
all-spent [] = refl
all-spent (Free ∷ stages) = sym (and_left _ _ (ne_eqb (suc (length (filter is_free stages))) 0 (λ e. omega arith)))
all-spent (Listed f ∷ stages) = sym (and_right _ _ (ne_eqb (suc (length (filter is_under_way stages))) 0 (λ e. omega arith)))
all-spent (Taken f named ∷ stages) = sym (and_right _ _ (ne_eqb (suc (length (filter is_under_way stages))) 0 (λ e. omega arith)))
all-spent (Ending f why ∷ stages) = sym (and_right _ _ (ne_eqb (suc (length (filter is_under_way stages))) 0 (λ e. omega arith)))
all-spent (Spent ∷ stages) = all-spent stages

-- a request that may begin is for a known file
pub may-begin : (r : Requests) (f : FileId) → refusal_to_begin r f ≡ None → f.0 < length r.closed_files
may-begin r f none = elim (cases_lt f.0 (length r.closed_files)) [
  | inl low ↦ low
  | inr past ↦ (let unknown : Some UnknownFile ≡ None = rw (le-leb (length r.closed_files) f.0 past) at none in absurd (cc))
]

-- a request for a known and open file, in an open table, is refused only for want of a number
pub refusal-last : {lens : List ℕ} {all room : ℕ} {r : Requests} → IsKept lens all room r → (q : Requests) (f : FileId) → r ≡ q → f.0 < length r.closed_files → r.closed ≡ false → get_or r.closed_files f.0 false ≡ false
    → refusal_to_begin q f ≡ cond (length r.free == 0) (cond (all == 0) (Some AllSpent) (Some AllUnderWay)) None
refusal-last {lens} {all} {room} {r} kept q f is known open_table open_file =
    ap (λ (t : Requests). refusal_to_begin t f) (sym is)
    ∙ rw (lt-leb (length r.closed_files) f.0 known, open_table, open_file, all-spent r.stages, ← kept.free_counted, ← kept.all_counted)
    (by_value (λ b. cond (b && (all == 0)) (Some AllSpent) (cond b (Some AllUnderWay) None) ≡ cond b (cond (all == 0) (Some AllSpent) (Some AllUnderWay)) None) (length r.free == 0) (λ m. refl) (λ m. refl))

-- the next number is known and free
pub next-free : (r : Requests) (free : List IrpId) → IsSound r → r.free ≡ free → (IfSome (slice_get free 0) (λ i. i.0 < length r.stages)) × (IfSome (slice_get free 0) (λ i. stage_of r i ≡ Free))
next-free r [] sound is = (tt, tt)
next-free r (i ∷ rest) sound is = (first-known sound i rest is, is-free (stage_of r i) (first-free r sound.free_once i rest is).0)

-- the numbers below n, each once
ids-out : (n : ℕ) (i : IrpId) → n ≤ i.0 → length (filter (same_id i) (ids_below n)) ≡ 0
ids-out zero i past = refl
ids-out (suc n) i past = omega (arith, count-push (same_id i) (ids_below n) (record { 0 = n }), ids-out n i (omega arith), ap bit (other-id i (record { 0 = n }) (λ e. omega arith)))

ids-in : (n : ℕ) (i : IrpId) → i.0 < n → length (filter (same_id i) (ids_below n)) ≡ 1
ids-in zero i low = absurd (omega arith)
ids-in (suc n) i low = elim (cases_eq i.0 n) [
  | inl last ↦ omega (arith, count-push (same_id i) (ids_below n) (record { 0 = n }), ids-out n i (omega arith), ap bit (same-number i (record { 0 = n }) last))
  | inr before ↦ omega (arith, count-push (same_id i) (ids_below n) (record { 0 = n }), ids-in n i (omega arith), ap bit (other-id i (record { 0 = n }) before))
]

length-ids : (n : ℕ) → length (ids_below n) ≡ n
length-ids zero = refl
length-ids (suc n) = omega (arith, length_push (ids_below n) (record { 0 = n }), length-ids n)

pub fresh-once : (irps files : ℕ) (i : IrpId) → times_free (fresh irps files) i ≡ cond (is_free (stage_of (fresh irps files) i)) 1 0
fresh-once irps files i = elim (cases_lt i.0 irps) [
  | inl low ↦ ids-in irps i low ∙ ap (λ s. bit (is_free s)) (sym (get_or-replicate irps i.0 Free Spent low))
  | inr past ↦ ids-out irps i past ∙ ap (λ s. bit (is_free s)) (sym (get_or_past (replicate irps Free) i.0 Spent (omega (arith, length-replicate irps Free))))
]

pub kept-fresh : (irps files room : ℕ) → IsTableSize irps files → irps ≤ room → IsKept (replicate files 0) 0 room (fresh irps files)
kept-fresh irps files room size enough = record {
  sound = record {
    free_once = fresh-once irps files;
    due_waits = λ i is. absurd (true≢false (sym is ∙ ap is_some (copy-at irps i.0 None)));
    all_have_dues = length-replicate irps None ∙ sym (length-replicate irps Free);
    files_known = λ f past. count-copies (is_for f) irps Free refl;
  };
  counted = λ f. copy-at files f.0 0 ∙ sym (count-copies (is_for f) irps Free refl);
  all_counted = sym (count-copies is_under_way irps Free refl);
  each_file = length-replicate files 0 ∙ sym (length-replicate files false);
  free_counted = omega (arith, length-ids irps, count-all is_free irps Free refl);
  room_for_each = omega (arith, length-replicate irps Free);
  few = omega (arith, length-replicate irps Free, size.irps_in_range);
  few_files = omega (arith, length-replicate files false, size.files_in_range);
}
