-- A drawing shows the run that it was noted of.
use Rattle.std.proofs.Common.{◌≡◌, ℕ, suc, ◌+◌, ◌<◌, Bool, true, false, cond, List, [], ◌∷◌, ◌++◌, length, get_or, set, replicate, Option, Some, None, refl, ap, sym, ◌∙◌, subst, length-append, add-one, arith}
use Rattle.csq_draw.proofs.Imports.{option_map_or, IrpId, PassId, Kind, Made, number, same_id, name_of, IrpLife, Size, OfIrp, same_id-refl, same_id-eq, Numbered, run_of, all_passes, length-table, table-same, table-replicate, get-table, set-table, Shown, IrpNow, Owner, Row, is_of_irp, owner, owner_after, owner_named, ended_by, owners, lock_of, lock_at, owner_in, with_owner, Shows, NotesStep}
use Rattle.irp_core.specs.MachineState.{MachineState, Agrees, size_of}
use Rattle.csq_explain.specs.declared.passes.PassNow.{PassNow}
use Rattle.csq_draw.specs.declared.marks.Legality.TheVariants.{Legal}
use Rattle.csq_explain.specs.declared.sentences.StepInCall.{StepInCall}
use Rattle.csq_explain.specs.Sentences.{in_call}
use Rattle.csq_draw.specs.Rows.{row_of, rows_of}
use Rattle.csq_explain.specs.declared.word_values.WordValues.{WordValues}
use Rattle.csq_draw.specs.Words.{words_named, AreWordsNamed}

pub length-rows : (size : Size) (W : List Numbered) → length (rows_of size W) ≡ length W
length-rows size [] = refl
length-rows size (w ∷ W) = length-append (rows_of size W) (row_of size w W ∷ []) ∙ ap (λ n. n + 1) (length-rows size W) ∙ add-one (length W)

length-run : (W : List Numbered) → length (run_of W) ≡ length W
length-run [] = refl
length-run (w ∷ W) = ap (λ n. suc n) (length-run W)

pub length-owners : (n : ℕ) (E : List Made) → length (owners n E) ≡ n
length-owners n E = length-table (λ k. owner n E (record { 0 = k })) n

-- numbers that differ are of IRPs that differ
pub other_id : (n m : IrpId) → (m.0 ≡ n.0 → ⊥) → same_id n m ≡ false
other_id n m ne = go (same_id n m) refl
  where
    go : (b : Bool) → same_id n m ≡ b → b ≡ false
    go false e = refl
    go true e = absurd (ne (ap (λ (x : IrpId). x.0) (sym (same_id-eq n m e))))

-- before the first step
pub shows_none : (size : Size) (os : List (Option Owner)) → os ≡ replicate size.irps None → Shows size [] os []
shows_none size os b = record { shown_rows = refl; shown_owners = b ∙ sym (table-replicate (λ k. owner size.irps [] (record { 0 = k })) None size.irps (λ k. refl)) }

-- the owners after a step, whose row is the number of steps before it
module _ (m : Made) (E : List Made) (n : ℕ) where
  owner_if : (k : ℕ) (b : Bool) → is_of_irp (record { 0 = k }) m.kind ≡ b
      → owner n (m ∷ E) (record { 0 = k }) ≡ cond b (owner_after (owners n E) (owner n E (record { 0 = k })) m (length E)) (owner n E (record { 0 = k }))
  owner_if k b is = ap (λ x. cond x (owner_after (owners n E) (owner n E (record { 0 = k })) m (length E)) (owner n E (record { 0 = k }))) is

  named_by : (o : Option IrpLife) → name_of m.kind ≡ o → (k : ℕ) → is_of_irp (record { 0 = k }) m.kind ≡ option_map_or (λ i. same_id i.irp (record { 0 = k })) o false
  named_by o e k = ap (λ (x : Option IrpLife). option_map_or (λ i. same_id i.irp (record { 0 = k })) x false) e

  -- a step that names no IRP
  owners_same : name_of m.kind ≡ None → owners n E ≡ owners n (m ∷ E)
  owners_same none = table-same (λ k. owner n E (record { 0 = k })) (λ k. owner n (m ∷ E) (record { 0 = k })) n (λ k lt. sym (owner_if k false (named_by None none k)))

  -- a step of i
  owners_set : (i : IrpLife) → name_of m.kind ≡ Some i → number i < n
      → set (owners n E) (number i) (owner_after (owners n E) (get_or (owners n E) (number i) None) m (length E)) ≡ owners n (m ∷ E)
  owners_set i some lt =
      let before : ℕ → Option Owner = λ k. owner n E (record { 0 = k }) in
      let after : ℕ → Option Owner = λ k. owner n (m ∷ E) (record { 0 = k }) in
      set-table before after n (number i) (owner_after (owners n E) (get_or (owners n E) (number i) None) m (length E)) lt
      (ap (λ x. owner_after (owners n E) x m (length E)) (get-table before n (number i) None lt) ∙ sym (owner_if (number i) true (named_by (Some i) some (number i) ∙ same_id-refl i.irp)))
      (λ j ne. sym (owner_if j false (named_by (Some i) some j ∙ other_id i.irp (record { 0 = j }) ne)))

  -- the IRP that a step names, where it names one, is known
  abbrev IsNamed : Option IrpLife → Type 0
  IsNamed None = Unit {0}
  IsNamed (Some i) = number i < n

  named_known : (k : Kind) → OfIrp (λ i. number i < n) k → IsNamed (name_of k)
  named_known k h = grind arith

  owners_more : OfIrp (λ i. number i < n) m.kind → with_owner (owners n E) m (length E) ≡ owners n (m ∷ E)
  owners_more h = go (name_of m.kind) refl (named_known m.kind h)
    where
      go : (o : Option IrpLife) → name_of m.kind ≡ o → IsNamed o → with_owner (owners n E) m (length E) ≡ owners n (m ∷ E)
      go None e known = ap (λ (x : Option IrpLife). option_map_or (λ i. set (owners n E) (number i) (owner_after (owners n E) (get_or (owners n E) (number i) None) m (length E))) x (owners n E)) e ∙ owners_same e
      go (Some i) e known =
          ap (λ (x : Option IrpLife). option_map_or (λ i. set (owners n E) (number i) (owner_after (owners n E) (get_or (owners n E) (number i) None) m (length E))) x (owners n E)) e ∙ owners_set i e known

  -- of these owners, that of the IRP that a step names
  owner_is : OfIrp (λ i. number i < n) m.kind → owner_in (owners n E) m.kind ≡ owner_named n E m.kind
  owner_is h = go (name_of m.kind) refl (named_known m.kind h)
    where
      go : (o : Option IrpLife) → name_of m.kind ≡ o → IsNamed o → owner_in (owners n E) m.kind ≡ owner_named n E m.kind
      go None e known =
          ap (λ (x : Option IrpLife). option_map_or (λ i. get_or (owners n E) (number i) None) x None) e
          ∙ sym (ap (λ (x : Option IrpLife). option_map_or (λ i. owner n E i.irp) x None) e)
      go (Some i) e known =
          ap (λ (x : Option IrpLife). option_map_or (λ i. get_or (owners n E) (number i) None) x None) e
          ∙ get-table (λ k. owner n E (record { 0 = k })) n (number i) None known
          ∙ sym (ap (λ (x : Option IrpLife). option_map_or (λ i. owner n E i.irp) x None) e)

-- one more step was noted
module _ (size : Size) (rows : List Row) (os : List (Option Owner)) (w : Numbered) (W : List Numbered) (h : Shows size rows os W) where
  row_is : (step : StepInCall) (held : Option PassId) (words : Option WordValues) → step ≡ in_call (run_of W) w.step → held ≡ lock_of (all_passes size W) → OfIrp (λ i. number i < size.irps) w.step.kind
      → words ≡ words_named size.first (run_of (w ∷ W)) w.step.kind
      → record { row = length rows; line = w.line; step = step; legality = Legal; lock = lock_at held step.made; ended = ended_by step.made.kind (owner_in os step.made.kind); words = words } ≡ row_of size w W
  row_is step held words reported lock known are =
      let row : ℕ → StepInCall → Option PassId → Option Owner → Option WordValues → Row = λ n s q o x. record { row = n; line = w.line; step = s; legality = Legal; lock = lock_at q s.made; ended = ended_by s.made.kind o; words = x } in
      ap (λ n. row n step held (owner_in os step.made.kind) words) (ap length h.shown_rows ∙ length-rows size W)
      ∙ ap (λ q. row (length W) step q (owner_in os step.made.kind) words) lock
      ∙ ap (λ (s : StepInCall). row (length W) s (lock_of (all_passes size W)) (owner_in os s.made.kind) words) reported
      ∙ ap (λ o. row (length W) (in_call (run_of W) w.step) (lock_of (all_passes size W)) o words) (ap (λ x. owner_in x w.step.kind) h.shown_owners ∙ owner_is w.step (run_of W) size.irps known)
      ∙ ap (row (length W) (in_call (run_of W) w.step) (lock_of (all_passes size W)) (owner_named size.irps (run_of W) w.step.kind)) are

  module _ (step : StepInCall) (held : Option PassId) (words : Option WordValues) (rows' : List Row) (os' : List (Option Owner)) (noted : NotesStep rows os w.line step held words rows' os')
      (reported : step ≡ in_call (run_of W) w.step) (known : OfIrp (λ i. number i < size.irps) w.step.kind) where
    owners_then : os' ≡ owners size.irps (run_of (w ∷ W))
    owners_then =
        noted.noted_owners ∙ ap (λ (s : StepInCall). with_owner os s.made (length rows)) reported ∙ ap (λ x. with_owner x w.step (length rows)) h.shown_owners
        ∙ ap (λ n. with_owner (owners size.irps (run_of W)) w.step n) (ap length h.shown_rows ∙ length-rows size W ∙ sym (length-run W)) ∙ owners_more w.step (run_of W) size.irps known

    -- these are the words of its IRP, by the machine that made it
    words_then : (machine : MachineState) → size_of machine ≡ size → Agrees machine (run_of (w ∷ W)) → AreWordsNamed machine step.made.kind (owner_in os' step.made.kind) words
        → words ≡ words_named size.first (run_of (w ∷ W)) w.step.kind
    words_then machine same agrees are =
        let kinds : step.made.kind ≡ w.step.kind = ap (λ (s : StepInCall). s.made.kind) reported in
        let E = run_of (w ∷ W) in
        let his : owner_in os' w.step.kind ≡ owner_named size.irps E w.step.kind = ap (λ x. owner_in x w.step.kind) owners_then ∙ owner_is w.step E size.irps known in
        let P : Kind → Type 0 = λ k. AreWordsNamed machine k (owner_in os' k) words in
        subst P kinds are E agrees (his ∙ ap (λ (s : Size). owner_named s.irps E w.step.kind) (sym same)) ∙ ap (λ (s : Size). words_named s.first E w.step.kind) same

    pub shows_more : held ≡ lock_of (all_passes size W) → (machine : MachineState) → size_of machine ≡ size → Agrees machine (run_of (w ∷ W)) → AreWordsNamed machine step.made.kind (owner_in os' step.made.kind) words
        → Shows size rows' os' (w ∷ W)
    shows_more lock machine same agrees are = record {
      shown_rows = noted.noted_rows ∙ ap (λ r. rows ++ r ∷ []) (row_is step held words reported lock known (words_then machine same agrees are)) ∙ ap (λ rs. rs ++ row_of size w W ∷ []) h.shown_rows;
      shown_owners = owners_then;
    }

-- how many owners a drawing has
pub owners_count : (size : Size) (rows : List Row) (os : List (Option Owner)) (W : List Numbered) → Shows size rows os W → length os ≡ size.irps
owners_count size rows os W h = ap length h.shown_owners ∙ length-owners size.irps (run_of W)

-- what is shown of these
abbrev pub showing : Option ℕ → List PassNow → List IrpNow → List Row → List (Option Owner) → Shown
showing refused passes irps rows owners = record { passes = passes; irps = irps; rows = rows; owners = owners; refused = refused }

pub same_shown : (refused : Option ℕ) (ps qs : List PassNow) (xs ys : List IrpNow) (rows lines : List Row) (os vs : List (Option Owner)) → ps ≡ qs → xs ≡ ys → rows ≡ lines → os ≡ vs → showing refused ps xs rows os ≡ showing refused qs ys lines vs
same_shown refused ps qs xs ys rows lines os vs a b c d =
    ap (λ p. showing refused p xs rows os) a ∙ ap (λ x. showing refused qs x rows os) b ∙ ap (λ r. showing refused qs ys r os) c ∙ ap (showing refused qs ys lines) d
