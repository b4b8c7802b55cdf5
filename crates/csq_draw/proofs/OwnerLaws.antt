-- Who is drawn as an IRP's owner is its owner by the run.
use Rattle.std.proofs.Common.{◌≡◌, ◌≢◌, ◌↔◌, ℕ, ◌==◌, Bool, true, false, cond, List, [], ◌∷◌, length, Option, Some, None, refl, ap, sym, ◌∙◌, subst, arith}
use Rattle.std.proofs.lemmas.Bool.{and_parts}
use Rattle.csq_draw.proofs.Imports.{option_map, option_map_or, IrpId, IrpLife, PassId, Kind, Made, Size, IsRun, EachRunFrom, same_irp, same_pass, name_of, named, same_irp-refl, same_irp-eq, same_id-eq, same_pass-refl, same_pass-eq, other_irp, Owner, is_of_irp, owner, owner_named, owners}
use Rattle.irp_core.specs.declared.ids.Life.{Life}
use Rattle.irp_core.specs.declared.inside.Inside.{Inside}
use Rattle.irp_core.specs.declared.standing.Standing.{Standing}
use Rattle.irp_core.specs.declared.standing.Standing.TheVariants.{Home, Waiting, Owed, Held, Finished}
use Rattle.irp_core.specs.declared.step.Kind.TheVariants.{Arm, Test, Disarm, End, Flag, Take, Out, Done, Renew, Rearm}
use Rattle.irp_core.specs.Inside.{inside}
use Rattle.irp_core.specs.Lives.{renews, present_life, present, IsPresent}
use Rattle.irp_core.specs.Owners.{owes, holds, dones}
use Rattle.irp_core.specs.Standings.{IsStanding, moved, names, standing_after, is_waiting, is_owed_by, is_held_by}
use Rattle.irp_core.specs.declared.standing.IrpPlace.{IrpPlace}
use Rattle.irp_core.specs.declared.standing.IrpPlace.TheVariants as place
use Rattle.irp_core.specs.Completion.{removed, IsPlace}
use Rattle.irp_core.specs.Words.{bit, armed, flagged}
use Rattle.irp_core.proofs.Growing.{run_less}
use Rattle.irp_core.proofs.Lives.{life_same, armed_present, owed_present, held_present, Next, renewed_present, renewed_home}
use Rattle.irp_core.proofs.MachineStates.{is_standing, standing_says, standing_grows}
use Rattle.irp_core.proofs.Rows.{DonesAre, Stands, stands_same}
use Rattle.csq_draw.specs.declared.owners.Having.{Having}
use Rattle.csq_draw.specs.declared.owners.Having.TheVariants.{Owes, Holds}
use Rattle.csq_draw.specs.Laws.{EachDrawnOwnerOwesOrHolds}
use Rattle.csq_draw.specs.Lanes.{lane_for}
use Rattle.csq_explain.specs.declared.word_values.WordValues.{WordValues}
use Rattle.csq_explain.specs.WordValues.{words_of}
use Rattle.csq_draw.specs.Words.{words_named, routine_at}
use Rattle.csq_replay.proofs.OneAnswer.{one_place}

abbrev drawn_as : PassId → Having → ℕ → ℕ → IrpLife → Option Owner
drawn_as p having row lane i = Some (record { name = i; pass = p; having = having; row = row; lane = lane })

-- i, which stands so, is drawn with this owner
abbrev Fits : IrpLife → Standing → Option Owner → Type 0
Fits i (Owed p) o = (row : ℕ) × (lane : ℕ) × (o ≡ drawn_as p Owes row lane i)
Fits i (Held p status) o = (row : ℕ) × (lane : ℕ) × (o ≡ drawn_as p Holds row lane i)
Fits i _ o = o ≡ None

-- IRP n of this number stands in its present life as it is drawn
abbrev IsDrawn : Size → ℕ → IrpId → List Made → Type 0
IsDrawn size irps n E = (s : Standing) × Stands E (present size.first E n) s × Fits (present size.first E n) s (owner irps E n)

bit_found : (b : Bool) (v : ℕ) → v ≡ bit b → (v == 1) ≡ b
bit_found b v e = grind arith

-- a step of another IRP is of none of its lives
unnamed : (n : IrpId) (l : Life) (k : Kind) → is_of_irp n k ≡ false → names (record { irp = n; life = l }) k ≡ false
unnamed n l k e = grind (arith, other_irp)

unrenewed : (n : IrpId) (k : Kind) → is_of_irp n k ≡ false → renews n k ≡ false
unrenewed n k e = grind arith

-- a name of the present life
is_present : (size : Size) (n : IrpId) (E : List Made) (j : IrpLife) → j.irp ≡ n → IsPresent size.first E j → j ≡ present size.first E n
is_present size n E j e now = named j (present size.first E n) (ap (λ (x : IrpId). x.0) e) (now ∙ ap (λ x. present_life size.first E x) e)

-- what a step that names j makes of how i stands and is drawn; `t` says whether they are one
module _ (i j : IrpLife) (p : PassId) (x : Inside) where
  armed_fits : (t : Bool) (s : Standing) (o : Option Owner) → Fits i s o → Fits i (cond t (moved (Arm j) s p x) s) o
  armed_fits t s o f = grind arith

  tested_fits : (t : Bool) (s : Standing) (o : Option Owner) → Fits i s o → Fits i (cond t (moved (Test j) s p x) s) o
  tested_fits t s o f = grind arith

  flagged_fits : (t : Bool) (s : Standing) (o : Option Owner) → Fits i s o → Fits i (cond t (moved (Flag j) s p x) s) o
  flagged_fits t s o f = grind arith

  -- an exchange that found no routine
  untaken_fits : (t : Bool) (s : Standing) (o : Option Owner) → (t ≡ true → is_waiting s ≡ false) → Fits i s o → Fits i (cond t (moved (Take j) s p x) s) o
  untaken_fits t s o w f = grind arith

  missed_fits : (t : Bool) (s : Standing) (o : Option Owner) → (t ≡ true → is_waiting s ≡ false) → Fits i s o → Fits i (cond t (moved (Disarm j) s p x) s) o
  missed_fits t s o w f = grind arith

  -- one that found it, and the steps of an owner
  module _ (row lane : ℕ) (same : j ≡ i) where
    taken_fits : (s : Standing) → is_waiting s ≡ true → Fits i (moved (Take j) s p x) (drawn_as p Owes row lane j)
    taken_fits s w = grind arith

    disarmed_fits : (s : Standing) → is_waiting s ≡ true → Fits i (moved (Disarm j) s p x) (drawn_as p Holds row lane j)
    disarmed_fits s w = grind arith

    out_fits : (s : Standing) → is_owed_by p s ≡ true → Fits i (moved (Out j) s p x) (drawn_as p Holds row lane j)
    out_fits s w = grind arith

  done_fits : (s : Standing) → is_held_by p s ≡ true → Fits i (moved (Done j) s p x) None
  done_fits s w = grind arith

  rearmed_fits : (s : Standing) → is_held_by p s ≡ true → Fits i (moved (Rearm j) s p x) None
  rearmed_fits s w = grind arith

-- no pass is drawn as the owner of what was completed
over_fits : (i : IrpLife) (s : Standing) (ends : List Made) (o : Option Owner) → DonesAre s ends → ends ≢ [] → Fits i s o → o ≡ None
over_fits i s ends o d ne f = grind arith

-- one more step, of IRP n
module _ (size : Size) (irps : ℕ) (n : IrpId) (p : PassId) (v : ℕ) (E : List Made) (s : Standing) (st : Stands E (present size.first E n) s) (f : Fits (present size.first E n) s (owner irps E n)) where
  abbrev now : IrpLife
  now = present size.first E n

  abbrev step : Kind → Made
  step k = record { pass = p; kind = k; found = v }

  abbrev lane_now : ℕ
  lane_now = lane_for (owners irps E) p (owner irps E n)

  stands_next : (k : Kind) → IsRun size (step k ∷ E) → Stands (step k ∷ E) now (standing_after E (step k) now s)
  stands_next k r = standing_says size (step k ∷ E) r now _ (standing_grows size (step k) E r now s (is_standing E now s st))

  names_now : (j : IrpLife) → j ≡ now → same_irp j now ≡ true
  names_now j e = subst (λ (y : IrpLife). same_irp j y ≡ true) e (same_irp-refl j)

  at_now : (j : IrpLife) → j ≡ now → (b : Bool) → armed E j ≡ b → is_waiting s ≡ b
  at_now j e b a = sym st.set_is ∙ ap (λ (y : IrpLife). armed E y) (sym e) ∙ a

  drawn_next : (k : Kind) → IsRun size (step k ∷ E) → is_of_irp n k ≡ true → IsDrawn size irps n (step k ∷ E)
  drawn_next (Arm j) r e = (standing_after E (step (Arm j)) now s, stands_next (Arm j) r, rw e (armed_fits now j p (inside E p) (same_irp j now) s (owner irps E n) f))
  drawn_next (Test j) r e = (standing_after E (step (Test j)) now s, stands_next (Test j) r, rw e (tested_fits now j p (inside E p) (same_irp j now) s (owner irps E n) f))
  drawn_next (Disarm j) r e = (standing_after E (step (Disarm j)) now s, stands_next (Disarm j) r, go (armed E j) refl)
    where
      go : (b : Bool) → armed E j ≡ b → Fits now (standing_after E (step (Disarm j)) now s) (owner irps (step (Disarm j) ∷ E) n)
      go true a =
          let same = same_id-eq j.irp n e in
          let named_now = is_present size n E j same (armed_present size E (run_less size (step (Disarm j)) E r) j a) in
          rw (e, bit_found (armed E j) v r.found.0 ∙ a, names_now j named_now) (disarmed_fits now j p (inside E p) (length E) lane_now named_now s (at_now j named_now true a))
      go false a = rw (e, bit_found (armed E j) v r.found.0 ∙ a) (missed_fits now j p (inside E p) (same_irp j now) s (owner irps E n) (λ t. at_now j (same_irp-eq j now t) false a) f)
  drawn_next End r e = absurd (cc e)
  drawn_next (Flag j) r e = (standing_after E (step (Flag j)) now s, stands_next (Flag j) r, rw e (flagged_fits now j p (inside E p) (same_irp j now) s (owner irps E n) f))
  drawn_next (Take j) r e = (standing_after E (step (Take j)) now s, stands_next (Take j) r, go (armed E j) refl)
    where
      go : (b : Bool) → armed E j ≡ b → Fits now (standing_after E (step (Take j)) now s) (owner irps (step (Take j) ∷ E) n)
      go true a =
          let same = same_id-eq j.irp n e in
          let named_now = is_present size n E j same (armed_present size E (run_less size (step (Take j)) E r) j a) in
          rw (e, bit_found (armed E j) v r.found.0 ∙ a, names_now j named_now) (taken_fits now j p (inside E p) (length E) lane_now named_now s (at_now j named_now true a))
      go false a = rw (e, bit_found (armed E j) v r.found.0 ∙ a) (untaken_fits now j p (inside E p) (same_irp j now) s (owner irps E n) (λ t. at_now j (same_irp-eq j now t) false a) f)
  drawn_next (Out j) r e =
      let same = same_id-eq j.irp n e in
      let named_now = is_present size n E j same (owed_present size E (run_less size (step (Out j)) E r) j p r.owned.0) in
      let mine : is_owed_by p s ≡ true = sym (st.owing_is p) ∙ ap (λ (y : IrpLife). owes E p y) (sym named_now) ∙ r.owned.0 in
      (standing_after E (step (Out j)) now s, stands_next (Out j) r, rw (e, names_now j named_now) (out_fits now j p (inside E p) (length E) lane_now named_now s mine))
  drawn_next (Done j) r e =
      let same = same_id-eq j.irp n e in
      let named_now = is_present size n E j same (held_present size E (run_less size (step (Done j)) E r) j p r.owned.0) in
      let mine : is_held_by p s ≡ true = sym (st.holding_is p) ∙ ap (λ (y : IrpLife). holds E p y) (sym named_now) ∙ r.owned.0 in
      (standing_after E (step (Done j)) now s, stands_next (Done j) r, rw (e, names_now j named_now) (done_fits now j p (inside E p) s mine))
  drawn_next (Rearm j) r e =
      let same = same_id-eq j.irp n e in
      let held = (and_parts (holds E p j) (removed E j) r.owned.0).0 in
      let named_now = is_present size n E j same (held_present size E (run_less size (step (Rearm j)) E r) j p held) in
      let mine : is_held_by p s ≡ true = sym (st.holding_is p) ∙ ap (λ (y : IrpLife). holds E p y) (sym named_now) ∙ held in
      (standing_after E (step (Rearm j)) now s, stands_next (Rearm j) r, rw (e, names_now j named_now) (rearmed_fits now j p (inside E p) s mine))
  drawn_next (Renew j) r e =
      let same = same_id-eq j.irp n e in
      let was_now = is_present size n E j same r.owned.0.0 in
      let ended : dones E now ≢ [] = subst (λ (y : IrpLife). dones E y ≢ []) was_now r.owned.0.1 in
      let next = is_present size n (step (Renew j) ∷ E) (Next size p j v E r) same (renewed_present size p j v E r) in
      (Home, subst (λ (y : IrpLife). Stands (step (Renew j) ∷ E) y Home) next (renewed_home size p j v E r), rw e (over_fits now s (dones E now) (owner irps E n) st.dones_are ended f))

drawn : (size : Size) (irps : ℕ) (n : IrpId) (E : List Made) → IsRun size E → IsDrawn size irps n E
drawn size irps n [] r = (Home, record { ever_is = refl; set_is = refl; claims_are = refl; owing_is = λ q. refl; holding_is = λ q. refl; done_is = λ q. refl; dones_are = refl; left_is = refl; due = refl }, refl)
drawn size irps n (m ∷ E) r = go (is_of_irp n m.kind) refl (drawn size irps n E (run_less size m E r))
  where
    go : (b : Bool) → is_of_irp n m.kind ≡ b → IsDrawn size irps n E → IsDrawn size irps n (m ∷ E)
    go true e d = drawn_next size irps n m.pass m.found E d.0 d.1 d.2 m.kind r e
    go false e d =
        let now = present size.first E n in
        let lived : present size.first E n ≡ present size.first (m ∷ E) n = named _ _ refl (sym (life_same size.first m E n (unrenewed n m.kind e))) in
        let here : Stands (m ∷ E) now d.0 = standing_kept e d.0 d.1 in
        (d.0, subst (λ (y : IrpLife). Stands (m ∷ E) y d.0) lived here, subst (λ (y : IrpLife). Fits y d.0 (owner irps (m ∷ E) n)) lived (rw e d.2))
      where
        standing_kept : is_of_irp n m.kind ≡ false → (s : Standing) → Stands E (present size.first E n) s → Stands (m ∷ E) (present size.first E n) s
        standing_kept e s st = stands_same m.pass m.kind m.found E (present size.first E n) s (unnamed n (present size.first E n).life m.kind e) st

-- the life that it is drawn in
abbrev name_in : IrpLife → Option Owner → IrpLife
name_in i (Some o) = o.name
name_in i None = i

named_as : (i : IrpLife) (o : Option Owner) (s : Standing) → Fits i s o → (a : Owner) → o ≡ Some a → a.name ≡ i
named_as i o Home f a e = absurd (cc (f, e))
named_as i o Waiting f a e = absurd (cc (f, e))
named_as i o (Owed q) f a e = ap (name_in i) (sym e ∙ f.2)
named_as i o (Held q status) f a e = ap (name_in i) (sym e ∙ f.2)
named_as i o (Finished status q) f a e = absurd (cc (f, e))

-- of two owners that are one
abbrev pass_in : PassId → Option Owner → PassId
pass_in q (Some o) = o.pass
pass_in q None = q

abbrev is_owing : Having → Bool
is_owing Owes = true
is_owing Holds = false

abbrev owing : Option Owner → Bool
owing (Some o) = is_owing o.having
owing None = false

-- who is drawn as the owner of i, which stands so
module _ (i : IrpLife) (p : PassId) (o : Option Owner) where
  owed_is : (s : Standing) → Fits i s o → ((row : ℕ) × (lane : ℕ) × (o ≡ drawn_as p Owes row lane i)) ↔ (is_owed_by p s ≡ true)
  owed_is Home f = (λ d. absurd (cc (f, d.2)), λ w. absurd (cc w))
  owed_is Waiting f = (λ d. absurd (cc (f, d.2)), λ w. absurd (cc w))
  owed_is (Owed q) f = (λ d. same_by (sym f.2 ∙ d.2), λ w. (f.0, f.1, f.2 ∙ ap (λ y. drawn_as y Owes f.0 f.1 i) (same_pass-eq q p w)))
    where
      same_by : {a b c d : ℕ} → drawn_as q Owes a b i ≡ drawn_as p Owes c d i → same_pass q p ≡ true
      same_by e = subst (λ (y : PassId). same_pass q y ≡ true) (ap (pass_in q) e) (same_pass-refl q)
  owed_is (Held q status) f = (λ d. absurd (cc (ap owing (sym f.2 ∙ d.2))), λ w. absurd (cc w))
  owed_is (Finished status q) f = (λ d. absurd (cc (f, d.2)), λ w. absurd (cc w))

  held_is : (s : Standing) → Fits i s o → ((row : ℕ) × (lane : ℕ) × (o ≡ drawn_as p Holds row lane i)) ↔ (is_held_by p s ≡ true)
  held_is Home f = (λ d. absurd (cc (f, d.2)), λ w. absurd (cc w))
  held_is Waiting f = (λ d. absurd (cc (f, d.2)), λ w. absurd (cc w))
  held_is (Owed q) f = (λ d. absurd (cc (ap owing (sym f.2 ∙ d.2))), λ w. absurd (cc w))
  held_is (Held q status) f = (λ d. same_by (sym f.2 ∙ d.2), λ w. (f.0, f.1, f.2 ∙ ap (λ y. drawn_as y Holds f.0 f.1 i) (same_pass-eq q p w)))
    where
      same_by : {a b c d : ℕ} → drawn_as q Holds a b i ≡ drawn_as p Holds c d i → same_pass q p ≡ true
      same_by e = subst (λ (y : PassId). same_pass q y ≡ true) (ap (pass_in q) e) (same_pass-refl q)
  held_is (Finished status q) f = (λ d. absurd (cc (f, d.2)), λ w. absurd (cc w))

pub each_owner : EachRunFrom EachDrawnOwnerOwesOrHolds
each_owner size E r = record {
  named = λ irps n a e. let d = drawn size irps n E r in named_as (present size.first E n) (owner irps E n) d.0 d.2 a e;
  owed = λ irps n p. let d = drawn size irps n E r in let is = owed_is (present size.first E n) p (owner irps E n) d.0 d.2 in (λ a. d.1.owing_is p ∙ is.0 a, λ b. is.1 (sym (d.1.owing_is p) ∙ b));
  held = λ irps n p. let d = drawn size irps n E r in let is = held_is (present size.first E n) p (owner irps E n) d.0 d.2 in (λ a. d.1.holding_is p ∙ is.0 a, λ b. is.1 (sym (d.1.holding_is p) ∙ b));
}

-- the routine is set of an IRP that is listed and that no pass owes
pub routine_is : (size : Size) (irps : ℕ) (E : List Made) → IsRun size E → (n : IrpId) (p : IrpPlace) → IsPlace E (present size.first E n) p → routine_at p (owner irps E n) ≡ armed E (present size.first E n)
routine_is size irps E r n p is = let d = drawn size irps n E r in go d.0 (is_standing E (present size.first E n) d.0 d.1) d.2 ∙ sym d.1.set_is
  where
    at : (q : IrpPlace) → IsPlace E (present size.first E n) q → routine_at p (owner irps E n) ≡ routine_at q (owner irps E n)
    at q h = ap (λ x. routine_at x (owner irps E n)) (one_place size E r (present size.first E n) p q is h)

    go : (s : Standing) → IsStanding E (present size.first E n) s → Fits (present size.first E n) s (owner irps E n) → routine_at p (owner irps E n) ≡ is_waiting s
    go Home h f = at place.Home h
    go Waiting h f = at place.Listed h.0 ∙ ap (λ o. routine_at place.Listed o) f
    go (Owed q) h f = at place.Listed h.0 ∙ ap (λ o. routine_at place.Listed o) f.2
    go (Held q status) h f = at (place.HeldBy q) h.0
    go (Finished status q) h f = at (place.Completed status q) h

-- what a machine says of the IRP that a step names are its words
pub words_reported : (size : Size) (E : List Made) → IsRun size E → (k : Kind) (i : IrpLife) → name_of k ≡ Some i → (life : Life) → life.0 ≡ present_life size.first E i.irp
    → (flag : Bool) → flag ≡ flagged E (present size.first E i.irp) → (p : IrpPlace) → IsPlace E (present size.first E i.irp) p → (o : Option Owner) → o ≡ owner_named size.irps E k
    → (routine : Bool) → routine ≡ routine_at p o → Some (record { name = record { irp = i.irp; life = life }; flag = flag; routine = routine }) ≡ words_named size.first E k
words_reported size E r k i e life now flag set p at o has routine is =
    let words : IrpLife → Bool → Bool → Option WordValues = λ x f b. Some (record { name = x; flag = f; routine = b }) in
    let j = present size.first E i.irp in
    let his : o ≡ owner size.irps E i.irp = has ∙ ap (λ (x : Option IrpLife). option_map_or (λ y. owner size.irps E y.irp) x None) e in
    ap (λ x. words x flag routine) (named (record { irp = i.irp; life = life }) j refl now)
    ∙ ap (λ f. words j f routine) set
    ∙ ap (words j (flagged E j)) (is ∙ ap (routine_at p) his ∙ routine_is size size.irps E r i.irp p at)
    ∙ sym (ap (λ (x : Option IrpLife). option_map (λ y. words_of E (present size.first E y.irp)) x) e)
