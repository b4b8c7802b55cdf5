-- Something goes wrong in each order that ends with a law broken.
use Rattle.std.proofs.Common.{◌≡◌, ◌≢◌, ℕ, ◌<◌, ◌≤◌, ◌==◌, zero, suc, Bool, true, false, cond, not, ◌&&◌, ◌||◌, ◌⊎◌, inl, inr, List, [], ◌∷◌, ◌++◌, length, Option, Some, None, refl, ap, sym, ◌∙◌, subst, arith, append_assoc, ⊎_elim, IsTrue}
use Rattle.std.proofs.lemmas.Bool.{cases_lt}
use Rattle.std.specs.List.{list_any}
use Rattle.std.specs.Option.{is_some, option_and_then, option_map_or}
use Rattle.irp_core.specs.declared.ids.{IrpLife.{IrpLife}, PassId.{PassId}}
use Rattle.irp_core.specs.declared.step.{Kind.{Kind, TheVariants.{Arm, Test, Disarm, End, Flag, Take, Out, Done, Renew, Rearm}}, Made.{Made}}
use Rattle.irp_core.specs.Owners.{dones, has_gone, listed, owes}
use Rattle.irp_core.specs.Standings.{names}
use Rattle.irp_core.specs.Steps.{found_one, is, name_of, number, same_kind, since}
use Rattle.irp_core.specs.Words.{armed, flagged, was_armed}
use Rattle.irp_core.proofs.Names.{same_irp-eq, same_irp-refl, same_pass-refl}
use Rattle.csq_explain.specs.declared.harms.{Harm.TheVariants.{Stray}, HarmAt.{HarmAt}}
use Rattle.csq_explain.specs.declared.irp_record.IrpRecord.{IrpRecord}
use Rattle.csq_explain.specs.declared.line_steps.LineStep.{LineStep}
use Rattle.csq_explain.specs.declared.word_values.WordValues.{WordValues}
use Rattle.csq_explain.specs.Harms.{at_step, done_harm, end_by, end_harm, end_harms, harm_at, harm_list, harms_of, left_harm, list_harm, lost_harm, open_harm, other_harm, own_harm, step_harm, step_harms}
use Rattle.csq_explain.specs.IrpRecords.{record_after, record_with}
use Rattle.csq_explain.specs.Laws.{BrokenLawsAreHarms, EachBrokenLawIsAHarm, GoByWords, IsFresh}
use Rattle.csq_explain.specs.LineSteps.{by_words, made_in}
use Rattle.csq_explain.specs.Tables.{table}
use Rattle.csq_explain.specs.WordValues.{found_in, value_in, words_after, words_of}
use Rattle.csq_explain.proofs.Records.{words_recorded}

-- of two lists one isn't empty
some_first : {A : Type 0} (xs ys : List A) → xs ≢ [] → (xs ++ ys) ≢ []
some_first [] ys h = absurd (h refl)
some_first (x ∷ xs) ys h = λ e. cc

some_last : {A : Type 0} (xs ys : List A) → ys ≢ [] → (xs ++ ys) ≢ []
some_last [] ys h = h
some_last (x ∷ xs) ys h = λ e. cc

some_harm : (o : Option HarmAt) → is_some o ≡ true → harm_list o ≢ []
some_harm (Some h) e = λ z. cc
some_harm None e = absurd cc

-- i was put into the list, and wasn't taken out of it since
abbrev in_list : List Made → IrpLife → Bool
in_list E i = since (λ m. is (Arm i) m || is (Rearm i) m) (λ m. found_one (Disarm i) m || is (Out i) m) E

abbrev was_done : List Made → IrpLife → Bool
was_done E i = list_any (is (Done i)) E

-- what is known of i tells what the steps E did to it
abbrev Tells : IrpRecord → List Made → IrpLife → Type 0
Tells r E i = (r.words ≡ words_of E i) × (is_some r.listed ≡ in_list E i) × (is_some r.done ≡ was_done E i)

cond_none : {A : Type 0} (b : Bool) (o : Option A) (c : Bool) → is_some o ≡ c → is_some (cond b None o) ≡ (not (b || false) && c)
cond_none true o c e = refl
cond_none false o c e = e

-- a step more
module _ (i : IrpLife) (n v : ℕ) (p : PassId) (E : List Made) (l d s : Option LineStep) (listed_is : is_some l ≡ in_list E i) (done_is : is_some d ≡ was_done E i) where
  abbrev before : IrpRecord
  before = record { words = words_of E i; listed = l; done = d; stray = s }

  abbrev step : Kind → LineStep
  step k = record { line = n; made = record { pass = p; kind = k; found = v } }

  tells_step : (k : Kind) (b : Bool) → names i k ≡ b → is (Renew i) (step k).made ≡ false → Tells (record_with before (step k)) ((step k).made ∷ E) i
  tells_step (Arm j) true e z = rw e (refl, refl, done_is)
  tells_step (Arm j) false e z = rw e (refl, listed_is, done_is)
  tells_step (Test j) true e z = rw e (refl, listed_is, done_is)
  tells_step (Test j) false e z = rw e (refl, listed_is, done_is)
  tells_step (Disarm j) true e z = rw e (refl, cond_none (v == 1) l (in_list E i) listed_is, done_is)
  tells_step (Disarm j) false e z = rw e (refl, listed_is, done_is)
  tells_step End b e z = (refl, listed_is, done_is)
  tells_step (Flag j) true e z = rw e (refl, listed_is, done_is)
  tells_step (Flag j) false e z = rw e (refl, listed_is, done_is)
  tells_step (Take j) true e z = rw e (refl, listed_is, done_is)
  tells_step (Take j) false e z = rw e (refl, listed_is, done_is)
  tells_step (Out j) true e z = rw e (refl, refl, done_is)
  tells_step (Out j) false e z = rw e (refl, listed_is, done_is)
  tells_step (Done j) true e z = rw e (refl, listed_is, refl)
  tells_step (Done j) false e z = rw e (refl, listed_is, done_is)
  tells_step (Renew j) true e z = absurd (cc (e, z))
  tells_step (Renew j) false e z = rw e (refl, listed_is, done_is)
  tells_step (Rearm j) true e z = rw e (refl, refl, done_is)
  tells_step (Rearm j) false e z = rw e (refl, listed_is, done_is)

tells_more : (i : IrpLife) (E : List Made) (r : IrpRecord) (x : LineStep) → is (Renew i) x.made ≡ false → Tells r E i → Tells (record_with r x) (x.made ∷ E) i
tells_more i E r x z t =
    let P : WordValues → Type 0 = λ w. Tells (record_with (record { words = w; listed = r.listed; done = r.done; stray = r.stray }) x) (x.made ∷ E) i in
    subst P (sym t.0) (tells_step i x.line x.made.found x.made.pass E r.listed r.done r.stray t.1 t.2 x.made.kind (names i x.made.kind) refl z)

or_parts : (a b : Bool) → (a || b) ≡ false → (a ≡ false) × (b ≡ false)
or_parts false false e = (refl, refl)
or_parts true b e = absurd cc
or_parts false true e = absurd cc

-- a step that names a life names it in its kind
name_is : (i : IrpLife) (k : Kind) → names i k ≡ true → name_of k ≡ Some i
name_is i (Arm j) e = ap Some (same_irp-eq j i e)
name_is i (Test j) e = ap Some (same_irp-eq j i e)
name_is i (Disarm j) e = ap Some (same_irp-eq j i e)
name_is i End e = absurd cc
name_is i (Flag j) e = ap Some (same_irp-eq j i e)
name_is i (Take j) e = ap Some (same_irp-eq j i e)
name_is i (Out j) e = ap Some (same_irp-eq j i e)
name_is i (Done j) e = ap Some (same_irp-eq j i e)
name_is i (Renew j) e = ap Some (same_irp-eq j i e)
name_is i (Rearm j) e = ap Some (same_irp-eq j i e)

done_kind : (i : IrpLife) (k : Kind) → same_kind k (Done i) ≡ true → k ≡ Done i
done_kind i (Done j) e = ap Done (same_irp-eq j i e)
done_kind i k e = absurd cc

done_any : (E : List Made) (i : IrpLife) → dones E i ≢ [] → was_done E i ≡ true
done_any [] i h = absurd (h refl)
done_any (m ∷ E) i h = go (done_any E i) (is (Done i) m) refl
  where
    go : (dones E i ≢ [] → was_done E i ≡ true) → (b : Bool) → is (Done i) m ≡ b → was_done (m ∷ E) i ≡ true
    go rest true e = rw e refl
    go rest false e = rw e (rest (subst (λ c. cond c (m ∷ dones E i) (dones E i) ≢ []) e h))

one_of : {A : Type 0} (x : A) (xs : List A) → 2 ≤ length (x ∷ xs) → xs ≢ []
one_of x [] h = absurd (omega (arith, h))
one_of x (y ∷ xs) h = λ e. cc

twice_harm : (r : IrpRecord) (x : LineStep) (d : Option LineStep) → is_some d ≡ true → is_some (done_harm r x d) ≡ true
twice_harm r x (Some first) e = refl
twice_harm r x None e = absurd cc

abbrev line_of : ℕ → ℕ → PassId → Kind → LineStep
line_of n v p k = record { line = n; made = record { pass = p; kind = k; found = v } }

listed_harm : (x : LineStep) (d l : Option LineStep) → is_some d ≡ true → is_some (list_harm x d l) ≡ true
listed_harm x (Some first) l e = refl
listed_harm x None l e = absurd cc

routine_harm : (r : IrpRecord) (x : LineStep) (d : Option LineStep) → r.words.routine ≡ true → is_some (done_harm r x d) ≡ true
routine_harm r x (Some first) e = refl
routine_harm r x None e = rw e refl

-- what is listed by irp_core is in the list
listed_step : (arm rearm goes was gone before : Bool) → ((was && not gone) ≡ true → before ≡ true) → ((arm || was) && not (goes || (not rearm && gone))) ≡ true → ((arm || rearm) || (not goes && before)) ≡ true
listed_step true rearm goes was gone before less h = refl
listed_step false true goes was gone before less h = refl
listed_step false false true true gone before less h = absurd cc
listed_step false false true false gone before less h = absurd cc
listed_step false false false was gone before less h = less h

listed_in : (E : List Made) (i : IrpLife) → listed E i ≡ true → in_list E i ≡ true
listed_in [] i h = absurd cc
listed_in (m ∷ E) i h = listed_step (is (Arm i) m) (is (Rearm i) m) (found_one (Disarm i) m || is (Out i) m) (was_armed E i) (has_gone E i) (in_list E i) (listed_in E i) h

or_first : (a b : Bool) → b ≡ false → (a || b) ≡ true → a ≡ true
or_first true b e h = refl
or_first false b e h = absurd (cc (e, h))

and_none : (a : Bool) → (a && false) ≡ true → ⊥
and_none true e = absurd cc
and_none false e = absurd cc

-- what goes wrong in the end, by what is known of it
abbrev pub ended : IrpRecord → Option LineStep → Option LineStep → Option LineStep → Option HarmAt
ended r (Some first) s l = left_harm r first l
ended r None (Some take) l = Some (at_step take Stray)
ended r None None l = lost_harm r l

pub ended_is : (r : IrpRecord) (d s l : Option LineStep) → r.done ≡ d → r.stray ≡ s → r.listed ≡ l → end_harm r ≡ ended r d s l
ended_is r (Some first) s l e f g = ap (end_by r) e ∙ ap (left_harm r first) g
ended_is r None (Some take) l e f g = ap (end_by r) e ∙ ap (open_harm r) f
ended_is r None None l e f g = ap (end_by r) e ∙ ap (open_harm r) f ∙ ap (lost_harm r) g

left_at_end : (r : IrpRecord) (d s l : Option LineStep) → is_some d ≡ true → is_some l ≡ true → r.words.routine ≡ false → is_some (ended r d s l) ≡ true
left_at_end r (Some first) s (Some x) e f a = rw a refl
left_at_end r (Some first) s None e f a = absurd cc
left_at_end r None s l e f a = absurd cc

lost_at_end : (r : IrpRecord) (d s l : Option LineStep) → is_some d ≡ false → is_some l ≡ true → r.words.flag ≡ true → r.words.routine ≡ true → is_some (ended r d s l) ≡ true
lost_at_end r None (Some take) l e f a b = refl
lost_at_end r None None (Some x) e f a b = rw (a, b) refl
lost_at_end r None None None e f a b = absurd cc
lost_at_end r (Some first) s l e f a b = absurd cc

pub ends_append : (rs ss : List IrpRecord) → end_harms (rs ++ ss) ≡ end_harms rs ++ end_harms ss
ends_append [] ss = refl
ends_append (r ∷ rs) ss = ap (λ t. harm_list (end_harm r) ++ t) (ends_append rs ss) ∙ sym (append_assoc (harm_list (end_harm r)) (end_harms rs) (end_harms ss))

end_table : (f : ℕ → IrpRecord) (k n : ℕ) → k < n → is_some (end_harm (f k)) ≡ true → end_harms (table f n) ≢ []
end_table f k zero lt s = absurd (omega (arith, lt))
end_table f k (suc n) lt s = subst (λ hs. hs ≢ []) (sym (ends_append (table f n) (f n ∷ []))) (⊎_elim (below (λ h. end_table f k n h s)) here (cases_lt k n))
  where
    below : (k < n → end_harms (table f n) ≢ []) → k < n → (end_harms (table f n) ++ end_harms (f n ∷ [])) ≢ []
    below less h = some_first _ _ (less h)

    here : n ≤ k → (end_harms (table f n) ++ end_harms (f n ∷ [])) ≢ []
    here h = let same : k ≡ n = omega (arith, lt, h) in some_last (end_harms (table f n)) _ (some_first _ _ (some_harm _ (ap (λ j. is_some (end_harm (f j))) (sym same) ∙ s)))

module _ (i : IrpLife) (U : List LineStep) (fresh : IsFresh U i) where
  abbrev known : List LineStep → IrpRecord
  known W = record_after (W ++ U) i.irp

  abbrev NotRenewed : List LineStep → Type 0
  NotRenewed W = list_any (is (Renew i)) (made_in W) ≡ false

  tells : (W : List LineStep) → NotRenewed W → Tells (known W) (made_in W) i
  tells [] z = (ap (λ (r : IrpRecord). r.words) fresh, ap (λ (r : IrpRecord). is_some r.listed) fresh, ap (λ (r : IrpRecord). is_some r.done) fresh)
  tells (x ∷ W) z =
      let parts = or_parts (is (Renew i) x.made) _ z in
      tells_more i (made_in W) (known W) x parts.0 (tells W parts.1)

  -- its record's life is i's
  is_own : (W : List LineStep) → NotRenewed W → (known W).words.name ≡ i
  is_own W z = ap (λ (w : WordValues). w.name) (tells W z).0

  -- what goes wrong at a step of i
  own_step : (W : List LineStep) (x : LineStep) → NotRenewed W → names i x.made.kind ≡ true → step_harm (W ++ U) x ≡ own_harm (known W) x x.made.kind
  own_step W x z e =
      let at : IrpLife → Option HarmAt = λ j. harm_at (record_after (W ++ U) j.irp) x in
      let choice : Bool → Option HarmAt = λ b. cond b (own_harm (known W) x x.made.kind) (other_harm (known W) x x.made.kind) in
      ap (λ o. option_and_then at o) (name_is i x.made.kind e) ∙ ap choice (ap (λ j. names j x.made.kind) (is_own W z) ∙ e)

  harmed : (W : List LineStep) (x : LineStep) → NotRenewed W → names i x.made.kind ≡ true → is_some (own_harm (known W) x x.made.kind) ≡ true → step_harms ((x ∷ W) ++ U) ≢ []
  harmed W x z e s = some_last _ _ (some_harm _ (ap is_some (own_step W x z e) ∙ s))

  -- i is completed a second time
  twice : (W : List LineStep) → NotRenewed W → 2 ≤ length (dones (made_in W) i) → step_harms (W ++ U) ≢ []
  twice [] z h = absurd (omega (arith, h))
  twice (x ∷ W) z h = go (twice W (or_parts (is (Renew i) x.made) _ z).1) (is (Done i) x.made) refl (or_parts (is (Renew i) x.made) _ z).1
    where
      go : (2 ≤ length (dones (made_in W) i) → step_harms (W ++ U) ≢ []) → (b : Bool) → is (Done i) x.made ≡ b → NotRenewed W → step_harms ((x ∷ W) ++ U) ≢ []
      go rest false e y = some_first _ _ (rest (subst (λ c. 2 ≤ length (cond c (x.made ∷ dones (made_in W) i) (dones (made_in W) i))) e h))
      go rest true e y =
          let more : 2 ≤ length (x.made ∷ dones (made_in W) i) = subst (λ c. 2 ≤ length (cond c (x.made ∷ dones (made_in W) i) (dones (made_in W) i))) e h in
          let some : is_some (known W).done ≡ true = (tells W y).2 ∙ done_any (made_in W) i (one_of x.made (dones (made_in W) i) more) in
          let kind = done_kind i x.made.kind e in
          harmed W x y (ap (λ k. names i k) kind ∙ same_irp-refl i) (ap (λ k. is_some (own_harm (known W) x k)) kind ∙ twice_harm (known W) x (known W).done some)

  -- i was completed, and its routine is set
  armed_done : (n v : ℕ) (p : PassId) (k : Kind) (W : List LineStep) → NotRenewed W → (b : Bool) → names i k ≡ b
      → (was_done (made_in W) i ≡ true → armed (made_in W) i ≡ true → step_harms (W ++ U) ≢ [])
      → was_done (record { pass = p; kind = k; found = v } ∷ made_in W) i ≡ true → armed (record { pass = p; kind = k; found = v } ∷ made_in W) i ≡ true
      → step_harms ((record { line = n; made = record { pass = p; kind = k; found = v } } ∷ W) ++ U) ≢ []
  armed_done n v p (Arm j) W z true e less d a = harmed W (line_of n v p (Arm j)) z e (listed_harm (line_of n v p (Arm j)) (known W).done (known W).listed ((tells W z).2 ∙ d))
  armed_done n v p (Rearm j) W z true e less d a = harmed W (line_of n v p (Rearm j)) z e (listed_harm (line_of n v p (Rearm j)) (known W).done (known W).listed ((tells W z).2 ∙ d))
  armed_done n v p (Done j) W z true e less d a = harmed W (line_of n v p (Done j)) z e (routine_harm (known W) (line_of n v p (Done j)) (known W).done (ap (λ (w : WordValues). w.routine) (tells W z).0 ∙ a))
  armed_done n v p (Disarm j) W z true e less d a = let none : false ≡ true = rw e at a in absurd cc
  armed_done n v p (Take j) W z true e less d a = let none : false ≡ true = rw e at a in absurd cc
  armed_done n v p (Arm j) W z false e less d a = some_first _ _ (less d (rw e at a))
  armed_done n v p (Rearm j) W z false e less d a = some_first _ _ (less d (rw e at a))
  armed_done n v p (Done j) W z false e less d a = some_first _ _ (less (rw e at d) a)
  armed_done n v p (Disarm j) W z false e less d a = some_first _ _ (less d (rw e at a))
  armed_done n v p (Take j) W z false e less d a = some_first _ _ (less d (rw e at a))
  armed_done n v p (Test j) W z b e less d a = some_first _ _ (less d a)
  armed_done n v p End W z b e less d a = some_first _ _ (less d a)
  armed_done n v p (Flag j) W z b e less d a = some_first _ _ (less d a)
  armed_done n v p (Out j) W z b e less d a = some_first _ _ (less d a)
  armed_done n v p (Renew j) W z b e less d a = some_first _ _ (less d a)

  gone_armed : (W : List LineStep) → NotRenewed W → was_done (made_in W) i ≡ true → armed (made_in W) i ≡ true → step_harms (W ++ U) ≢ []
  gone_armed [] z d a = absurd cc
  gone_armed (x ∷ W) z d a =
      let rest = (or_parts (is (Renew i) x.made) _ z).1 in
      armed_done x.line x.made.found x.made.pass x.made.kind W rest (names i x.made.kind) refl (gone_armed W rest) d a

  -- what goes wrong with i in the end is reported
  module _ (irps : ℕ) (known_irp : number i < irps) (W : List LineStep) where
    ends : is_some (end_harm (known W)) ≡ true → harms_of irps (W ++ U) ≢ []
    ends s = some_last (step_harms (W ++ U)) _ (end_table (λ n. record_after (W ++ U) (record { 0 = n })) (number i) irps known_irp s)

    gone : NotRenewed W → dones (made_in W) i ≢ [] → IsTrue (listed (made_in W) i || armed (made_in W) i) → harms_of irps (W ++ U) ≢ []
    gone z d h = go (armed (made_in W) i) refl
      where
        done : was_done (made_in W) i ≡ true
        done = done_any (made_in W) i d

        go : (b : Bool) → armed (made_in W) i ≡ b → harms_of irps (W ++ U) ≢ []
        go true a = some_first _ _ (gone_armed W z done a)
        go false a =
            let t = tells W z in
            let is_listed : listed (made_in W) i ≡ true = or_first (listed (made_in W) i) (armed (made_in W) i) a h in
            ends (ap is_some (ended_is (known W) _ _ _ refl refl refl) ∙ left_at_end (known W) (known W).done (known W).stray (known W).listed (t.2 ∙ done) (t.1 ∙ listed_in (made_in W) i is_listed) (ap (λ (w : WordValues). w.routine) t.0 ∙ a))

  -- a value that a step of i finds by the words
  found_own : (W : List LineStep) → NotRenewed W → (x : LineStep) → x ≡ by_words (W ++ U) x.line x.made.pass x.made.kind → names i x.made.kind ≡ true → x.made.found ≡ value_in (words_of (made_in W) i) x.made.kind
  found_own W z x g e =
      let words : IrpLife → ℕ = λ j. found_in (words_after (made_in (W ++ U)) j.irp) x.made.kind in
      let is : words_after (made_in (W ++ U)) i.irp ≡ words_of (made_in W) i = sym (words_recorded (W ++ U) i.irp) ∙ (tells W z).0 in
      ap (λ (y : LineStep). y.made.found) g
      ∙ ap (λ o. option_map_or words o 0) (name_is i x.made.kind e)
      ∙ ap (λ w. found_in w x.made.kind) is
      ∙ ap (λ b. cond b (value_in (words_of (made_in W) i) x.made.kind) 0) e

  -- what is listed has its routine, or a pass owes it
  abbrev IsKept : List Made → Type 0
  IsKept E = (armed E i ≡ true) ⊎ ((q : PassId) × (owes E q i ≡ true))

  owed_only : (E : List Made) → armed E i ≡ false → IsKept E → (q : PassId) × (owes E q i ≡ true)
  owed_only E a (inl b) = absurd (cc (a, b))
  owed_only E a (inr o) = o

  kept_step : (n v : ℕ) (p : PassId) (k : Kind) (E : List Made) (b : Bool) → names i k ≡ b → (b ≡ true → v ≡ value_in (words_of E i) k) → (listed E i ≡ true → IsKept E)
      → listed (record { pass = p; kind = k; found = v } ∷ E) i ≡ true → IsKept (record { pass = p; kind = k; found = v } ∷ E)
  kept_step n v p (Arm j) E true e f less h = inl (rw e refl)
  kept_step n v p (Rearm j) E true e f less h = inl (rw e refl)
  kept_step n v p (Disarm j) E true e f less h = go (armed E i) refl
    where
      go : (b : Bool) → armed E i ≡ b → IsKept (record { pass = p; kind = Disarm j; found = v } ∷ E)
      go true a = let gone : (was_armed E i && false) ≡ true = rw (e, f refl, a) at h in absurd (and_none (was_armed E i) gone)
      go false a = let still : listed E i ≡ true = rw (e, f refl, a) at h in inr (owed_only E a (less still))
  kept_step n v p (Take j) E true e f less h = go (armed E i) refl
    where
      go : (b : Bool) → armed E i ≡ b → IsKept (record { pass = p; kind = Take j; found = v } ∷ E)
      go true a = inr (p, rw (e, f refl, a, same_pass-refl p) refl)
      go false a = let (q, o) = owed_only E a (less h) in inr (q, rw (e, f refl, a) o)
  kept_step n v p (Out j) E true e f less h = let gone : (was_armed E i && false) ≡ true = rw e at h in absurd (and_none (was_armed E i) gone)
  kept_step n v p (Arm j) E false e f less h = rw e (less (rw e at h))
  kept_step n v p (Rearm j) E false e f less h = rw e (less (rw e at h))
  kept_step n v p (Disarm j) E false e f less h = rw e (less (rw e at h))
  kept_step n v p (Take j) E false e f less h = rw e (less h)
  kept_step n v p (Out j) E false e f less h = rw e (less (rw e at h))
  kept_step n v p (Test j) E b e f less h = less h
  kept_step n v p End E b e f less h = less h
  kept_step n v p (Flag j) E b e f less h = less h
  kept_step n v p (Done j) E b e f less h = less h
  kept_step n v p (Renew j) E b e f less h = less h

  kept : (W : List LineStep) → NotRenewed W → GoByWords (W ++ U) → listed (made_in W) i ≡ true → IsKept (made_in W)
  kept [] z g h = absurd cc
  kept (x ∷ W) z g h =
      let rest = (or_parts (is (Renew i) x.made) _ z).1 in
      kept_step x.line x.made.found x.made.pass x.made.kind (made_in W) (names i x.made.kind) refl (found_own W rest x g.0) (kept W rest g.1) h

  pub broken : (irps : ℕ) → number i < irps → (W : List LineStep) → NotRenewed W → EachBrokenLawIsAHarm irps W U i
  broken irps less W z = record {
    twice = λ h. some_first _ _ (twice W z h);
    gone = λ d h. gone irps less W z d h;
    flagged = λ g f l o. go g f l o (kept W z g l);
  }
    where
      go : GoByWords (W ++ U) → flagged (made_in W) i ≡ true → listed (made_in W) i ≡ true → ((p : PassId) → owes (made_in W) p i ≡ false) → IsKept (made_in W) → harms_of irps (W ++ U) ≢ []
      go g f l o (inr (q, owed)) = absurd (cc (owed, o q))
      go g f l o (inl a) = done_or_not (was_done (made_in W) i) refl
        where
          done_or_not : (b : Bool) → was_done (made_in W) i ≡ b → harms_of irps (W ++ U) ≢ []
          done_or_not true d = some_first _ _ (gone_armed W z d a)
          done_or_not false d =
              let t = tells W z in
              ends irps less W (ap is_some (ended_is (known W) _ _ _ refl refl refl) ∙ lost_at_end (known W) (known W).done (known W).stray (known W).listed (t.2 ∙ d) (t.1 ∙ listed_in (made_in W) i l)
              (ap (λ (w : WordValues). w.flag) t.0 ∙ f) (ap (λ (w : WordValues). w.routine) t.0 ∙ a))

pub broken_harms : (irps : ℕ) (W U : List LineStep) → BrokenLawsAreHarms irps W U
broken_harms irps W U i less fresh z = broken i U fresh irps less W z
