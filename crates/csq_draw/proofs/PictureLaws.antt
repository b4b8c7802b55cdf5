-- The laws of pictures.
use Rattle.std.proofs.Common.{◌≡◌, ◌||◌, inl, inr, ℕ, ◌+◌, ◌<◌, ◌≤◌, Bool, true, false, cond, if◌then◌else◌, List, [], ◌∷◌, ◌++◌, length, get_or, replicate, Option, Some, None, option_to_list, refl, ap, sym, ◌∙◌, subst, arith, append-nil}
use Rattle.std.specs.List.{position, list_any}
use Rattle.std.specs.Prelude.{is_some}
use Rattle.std.proofs.lemmas.List.Quantifiers.{position-Some}
use Rattle.csq_draw.proofs.Imports.{option_map, PassId, Made, same_pass, by, Size, IsRun, same_pass-eq, Numbered, run_of, Owner, Row, owners, new_pass_now, pass_after, pass_now, lock_of, columns, column_of, each, column_elements, number_element, mark_element, call_elements, shade_elements, span_elements, bars_elements, arrow_elements, behind_elements, row_after, rows_elements, new_irp, last_elements, word_elements, fresh_irps, irps_of, irp_named, with_irp, IrpNow, LastSeen, Spot, open_elements, owners_elements, closed_elements, refused_elements, Shown, above_elements, close_of, found_at, shown_elements, steps_shown, all_passes, reason_of, get-table, position-None, count-more, length-passes, inside_is}
use Rattle.irp_core.specs.Inside.{inside, inside_after, has_lock}
use Rattle.irp_core.specs.Lock.{HasLock, needs_lock}
use Rattle.irp_core.proofs.Growing.{run_less, run_parted, HasLock-has_lock, has_lock-HasLock}
use Rattle.irp_core.proofs.Next.{lock_one}
use Rattle.std.proofs.lemmas.List.{length-replicate}
use Rattle.csq_draw.proofs.Known.{length-after}
use Rattle.csq_draw.proofs.Picking.{none_closed, none_picked, none_then, picked-append, then_none}
use Rattle.csq_draw.proofs.RowElements.{rows-last}
use Rattle.csq_draw.proofs.Showing.{length-rows}
use Rattle.csq_draw.specs.declared.arrows.Arrow.{Arrow}
use Rattle.csq_draw.specs.Lives.{past_lives}
use Rattle.csq_draw.specs.declared.marks.Legality.{Legality}
use Rattle.csq_draw.specs.declared.spans.LineEnd.{LineEnd, TheVariants.{Step, Refusal, Last}}
use Rattle.csq_draw.specs.declared.marks.Mark.{Mark}
use Rattle.csq_draw.specs.declared.marks.Number.{Number}
use Rattle.csq_draw.specs.declared.marks.Shade.{Shade}
use Rattle.csq_explain.specs.declared.passes.PassNow.{PassNow}
use Rattle.csq_draw.specs.declared.element.Element.{Element}
use Rattle.csq_draw.specs.Arrows.{found_in}
use Rattle.csq_draw.specs.Marks.{takes_lock, lets_go}
use Rattle.csq_draw.specs.Endings.{rest_of}
use Rattle.csq_draw.specs.Pictures.{place_named, words_until}
use Rattle.csq_draw.specs.Rows.{row_of, rows_of}
use Rattle.csq_draw.specs.Laws.{marks, picked, added, AddsStepByStep, pick_of, mark_in, number_in, arrow_in, arrow_to, shade_by, EachStepHasOneMark, EachStepShowsItsWords, EachLineHasItsNumber, EachShadeIsOfTheLock, EachPassHasItsColumn, HasItAt, TheShadedPassHasTheLock}

-- what is picked out of the shade of a row, if a pass has the lock there
abbrev shades_with : {A : Type 0} → (Shade → List A) → List PassNow → Row → Option PassId → List A
shades_with shade ps row (Some p) = shade (record { row = row.row; column = column_of ps p; first = takes_lock row.step; last = lets_go row.step })
shades_with shade ps row None = []

no_shade : {A : Type 0} (ps : List PassNow) (row : Row) (lock : Option PassId) → shades_with {A = A} (λ s. []) ps row lock ≡ []
no_shade ps row lock = grind arith

-- and out of the arrow to a row, if another pass wrote what its step found
abbrev arrows_with : {A : Type 0} → (Arrow → List A) → List PassNow → Row → Option Spot → List A
arrows_with arrow ps row (Some spot) = if same_pass spot.pass row.step.made.pass then []
    else arrow (record { from_column = column_of ps spot.pass; from = spot; column = column_of ps row.step.made.pass; row = row.row; line = row.line })
arrows_with arrow ps row None = []

no_arrow : {A : Type 0} (ps : List PassNow) (row : Row) (spot : Option Spot) → arrows_with {A = A} (λ a. []) ps row spot ≡ []
no_arrow ps row spot = grind arith

-- what is picked out of the elements of a picture: this of a mark, of the number of a line, of a shade and of an arrow
module _ {A : Type 0} (mark : Mark → List A) (number : Number → List A) (shade : Shade → List A) (arrow : Arrow → List A) where
  abbrev pick : Element → List A
  pick = pick_of mark number shade arrow

  -- nothing is of a column, of a line that is kept to the end, of the names of words, of bars and of the line of an owner
  no_column : (passes : List PassNow) (rows n : ℕ) (now : PassNow) → picked pick (column_elements passes rows n now) ≡ []
  no_column passes rows n now = grind arith

  no_name : (passes : List PassNow) (irps : List IrpNow) (n : ℕ) (now : IrpNow) → picked pick (word_elements passes irps n now) ≡ []
  no_name passes irps n now = grind arith

  pub no_bars : (columns place to : ℕ) (to_the_end : Bool) (last : Option LastSeen) → picked pick (bars_elements columns place to to_the_end last) ≡ []
  no_bars columns place to to_the_end last = grind arith

  no_span : (passes : List PassNow) (to : ℕ) (end : LineEnd) (owner : Option Owner) → picked pick (span_elements passes to end owner) ≡ []
  no_span passes to end owner = grind arith

  no_call : (passes : List PassNow) (before : IrpNow) (row : Row) (legality : Legality) → picked pick (call_elements passes before row legality) ≡ []
  no_call passes before row legality = grind arith

  -- of the owners after all rows
  no_owner : (passes : List PassNow) (count : ℕ) (refused : Option ℕ) (owners : List (Option Owner)) → picked pick (owners_elements passes count refused owners) ≡ []
  no_owner passes count (Some row) owners = none_picked pick (open_elements passes row Refusal) (λ n owner. no_span passes row Refusal owner) 0 owners
  no_owner passes count None owners = none_picked pick (open_elements passes count Last) (λ n owner. no_span passes count Last owner) 0 owners

  arrow_picked : (passes : List PassNow) (row : Row) (spot : Option Spot) → picked pick (arrow_elements passes row spot) ≡ arrows_with arrow passes row spot
  arrow_picked passes row spot = grind (arith, append-nil)

  shade_picked : (passes : List PassNow) (row : Row) (lock : Option PassId) → picked pick (shade_elements passes row lock) ≡ shades_with shade passes row lock
  shade_picked passes row lock = grind (arith, append-nil)

  -- and of what stands above all rows
  pub above_picked : (passes : List PassNow) (irps : List IrpNow) (count : ℕ) → picked pick (above_elements passes irps count) ≡ []
  above_picked passes irps count =
      let named = each (column_elements passes count) 0 passes in
      let words = each (word_elements passes irps) 0 irps in
      let last = each (last_elements passes irps count) 0 irps in
      none_then pick named (words ++ last) _ (none_picked pick (column_elements passes count) (no_column passes count) 0 passes)
      (none_then pick words last _ (none_picked pick (word_elements passes irps) (no_name passes irps) 0 irps)
      (none_picked pick (last_elements passes irps count) (λ n now. no_bars (columns passes) _ count true now.last) 0 irps))

  no_words : (passes : List PassNow) (irps : List IrpNow) (before : IrpNow) (row : Row) → picked pick (words_until passes irps before row) ≡ []
  no_words passes irps before row = go (is_some row.words)
    where
      go : (b : Bool) → picked pick (cond b (bars_elements (columns passes) (place_named irps row.step.made.kind) row.row false before.last) []) ≡ []
      go true = no_bars (columns passes) (place_named irps row.step.made.kind) row.row false before.last
      go false = refl

  -- behind a mark
  behind_picked : (passes : List PassNow) (irps : List IrpNow) (before : IrpNow) (row : Row)
      → picked pick (behind_elements passes irps before row) ≡ shades_with shade passes row row.lock ++ arrows_with arrow passes row (found_at before row)
  behind_picked passes irps before row =
      let last = arrow_elements passes row (found_at before row) in
      let bars = words_until passes irps before row in
      let span = span_elements passes row.row Step row.ended in
      picked-append pick (shade_elements passes row row.lock) (span ++ (bars ++ last))
      ∙ ap (λ t. t ++ picked pick (span ++ (bars ++ last))) (shade_picked passes row row.lock)
      ∙ ap (λ t. shades_with shade passes row row.lock ++ t) (none_then pick span (bars ++ last) _ (no_span passes row.row Step row.ended)
      (none_then pick bars last _ (no_words passes irps before row) (arrow_picked passes row (found_at before row))))

  -- of the mark of a row
  abbrev mark_in_row : List PassNow → List IrpNow → Row → List A
  mark_in_row passes irps row = mark (record { row = row.row; column = column_of passes row.step.made.pass; columns = columns passes; place = place_named irps row.step.made.kind; step = row.step; legality = row.legality; words = row.words })

  -- of a row, with the pass that has the lock there, and the step that wrote what its step found
  abbrev pub row_with : List PassNow → List IrpNow → Row → Option PassId → Option Spot → List A
  row_with passes irps row lock spot = number (record { row = row.row; line = row.line }) ++ ((shades_with shade passes row lock ++ arrows_with arrow passes row spot) ++ (mark_in_row passes irps row ++ []))

  pub row_picked : (passes : List PassNow) (irps : List IrpNow) (before : IrpNow) (row : Row) → picked pick (row_after passes irps before row) ≡ row_with passes irps row row.lock (found_at before row)
  row_picked passes irps before row =
      let found = found_at before row in
      let call = call_elements passes before row row.legality in
      let marked = mark_in_row passes irps row in
      ap (λ t. number (record { row = row.row; line = row.line }) ++ t) (picked-append pick (behind_elements passes irps before row) (mark_element passes irps row ∷ call)
      ∙ ap (λ t. t ++ (marked ++ picked pick call)) (behind_picked passes irps before row)
      ∙ ap (λ t. (shades_with shade passes row row.lock ++ arrows_with arrow passes row found) ++ (marked ++ t)) (no_call passes before row row.legality))

  -- of what a picture shows it is what is picked out of its rows
  pub of_rows : (s : Shown) (count : ℕ) (zs : List A) → picked pick (rows_elements s.passes s.irps (fresh_irps s.irps) s.rows) ≡ zs → picked pick (shown_elements s count) ≡ zs
  of_rows s count zs e =
      let rows = rows_elements s.passes s.irps (fresh_irps s.irps) s.rows in
      let last = owners_elements s.passes count s.refused s.owners in
      none_then pick (above_elements s.passes s.irps count) (rows ++ last) _ (above_picked s.passes s.irps count) (then_none pick rows last _ e (no_owner s.passes count s.refused s.owners))

  -- where this is what a law wants of a row
  module _ (of_row : List PassNow → List IrpNow → Row → Option Spot → List A) (is : (passes : List PassNow) (irps : List IrpNow) (row : Row) (spot : Option Spot) → row_with passes irps row row.lock spot ≡ of_row passes irps row spot) (size : Size) where
    -- of a step after the steps W
    abbrev pub of_step : List PassNow → List IrpNow → Numbered → List Numbered → List A
    of_step passes irps w W = of_row passes irps (row_of size w W) (found_at (irp_named (irps_of size W) w.step.kind) (row_of size w W))

    pub all_picked : (passes : List PassNow) (irps : List IrpNow) (W : List Numbered) → picked pick (rows_elements passes irps (replicate size.irps new_irp) (rows_of size W)) ≡ added (of_step passes irps) W
    all_picked passes irps [] = refl
    all_picked passes irps (w ∷ W) =
        let row = row_of size w W in
        let fresh = replicate size.irps new_irp in
        let before = irp_named (irps_of size W) w.step.kind in
        ap (λ es. picked pick es) (rows-last passes irps fresh (rows_of size W) row)
        ∙ picked-append pick (rows_elements passes irps fresh (rows_of size W)) (row_after passes irps before row)
        ∙ ap (λ t. picked pick (rows_elements passes irps fresh (rows_of size W)) ++ t) (row_picked passes irps before row ∙ is passes irps row (found_at before row))
        ∙ ap (λ t. t ++ of_step passes irps w W) (all_picked passes irps W)

    module _ (W : List Numbered) where
      abbrev passes : List PassNow
      passes = all_passes size W

      abbrev irps : List IrpNow
      irps = irps_of size W

      abbrev count : ℕ
      count = length (rows_of size W)

      abbrev shown : List Element
      shown = shown_elements (steps_shown size W) count

      fresh_are : fresh_irps irps ≡ replicate size.irps new_irp
      fresh_are = ap (λ n. replicate n new_irp) (length-after (replicate size.irps new_irp) (rows_of size W) ∙ length-replicate size.irps new_irp)

      shown_picked : picked pick shown ≡ added (of_step passes irps) W
      shown_picked = of_rows (steps_shown size W) count _ (ap (λ xs. picked pick (rows_elements passes irps xs (rows_of size W))) fresh_are ∙ all_picked passes irps W)

      all_shown : AddsStepByStep size W pick (of_step passes irps) (λ n. number (record { row = length W; line = n }))
      all_shown = record {
        stopped = λ n stop.
            let refused = refused_elements count n (reason_of size W stop) in
            let line = append-nil (number (record { row = count; line = n })) ∙ ap (λ k. number (record { row = k; line = n })) (length-rows size W) in
            picked-append pick shown refused ∙ ap (λ t. t ++ picked pick refused) shown_picked ∙ ap (λ t. added (of_step passes irps) W ++ t) line;
        closed = λ reported at_rest.
            let rest = rest_of passes at_rest in
            let lives = past_lives irps (rows_of size W) in
            then_none pick shown (closed_elements irps lives reported rest count) _ shown_picked (none_closed pick (λ n b. refl) irps lives reported rest count);
      }

all_shades : (ps : List PassNow) (irps : List IrpNow) (row : Row) (spot : Option Spot) (lock : Option PassId) → row_with (λ m. []) (λ n. []) (λ s. s ∷ []) (λ a. []) ps irps row lock spot ≡ shade_by ps row.row row.step lock
all_shades ps irps row spot lock = grind (arith, append-nil)

all_arrows : (ps : List PassNow) (row : Row) (spot : Option Spot) → arrows_with (λ a. a ∷ []) ps row spot ≡ arrow_to ps row.step.made.pass row.row row.line spot
all_arrows ps row spot = grind arith

-- of a law for which neither shades nor arrows count
pub quiet : {A : Type 0} (ps : List PassNow) (row : Row) (spot : Option Spot) → shades_with {A = A} (λ s. []) ps row row.lock ++ arrows_with {A = A} (λ a. []) ps row spot ≡ []
quiet ps row spot = ap (λ t. t ++ arrows_with (λ a. []) ps row spot) (no_shade ps row row.lock) ∙ no_arrow ps row spot

-- of any rows
pub marks_picked : (ps : List PassNow) (xs known : List IrpNow) (rows : List Row) → picked mark_in (rows_elements ps xs known rows) ≡ marks ps xs rows
marks_picked ps xs known [] = refl
marks_picked ps xs known (row ∷ rows) =
    let before = irp_named known row.step.made.kind in
    let rest = rows_elements ps xs (with_irp known row) rows in
    let one = row_picked (λ m. m ∷ []) (λ n. []) (λ s. []) (λ a. []) ps xs before row ∙ ap (λ t. t ++ mark_in (mark_element ps xs row)) (quiet ps row (found_at before row)) in
    picked-append mark_in (row_after ps xs before row) rest
    ∙ ap (λ t. t ++ picked mark_in rest) one ∙ ap (λ t. mark_in (mark_element ps xs row) ++ t) (marks_picked ps xs (with_irp known row) rows)

-- of the steps W
module _ (size : Size) (W : List Numbered) where
  pub each_mark : EachStepHasOneMark size W
  each_mark = all_shown (λ m. m ∷ []) (λ n. []) (λ s. []) (λ a. []) (λ ps irps row spot. mark_in (mark_element ps irps row))
      (λ ps irps row spot. ap (λ t. t ++ mark_in (mark_element ps irps row)) (quiet ps row spot)) size W

  pub each_words : EachStepShowsItsWords size W
  each_words = all_shown (λ m. option_to_list m.words) (λ n. []) (λ s. []) (λ a. []) (λ ps irps row spot. option_to_list row.words)
      (λ ps irps row spot. ap (λ t. t ++ (option_to_list row.words ++ [])) (quiet ps row spot) ∙ append-nil (option_to_list row.words)) size W

  pub each_number : EachLineHasItsNumber size W
  each_number = all_shown (λ m. []) (λ n. n ∷ []) (λ s. []) (λ a. []) (λ ps irps row spot. number_in (number_element row))
      (λ ps irps row spot. ap (λ t. number_in (number_element row) ++ (t ++ [])) (quiet ps row spot)) size W

  pub each_shade : EachShadeIsOfTheLock size W
  each_shade = all_shown (λ m. []) (λ n. []) (λ s. s ∷ []) (λ a. []) (λ ps irps row spot. shade_by ps row.row row.step row.lock) (λ ps irps row spot. all_shades ps irps row spot row.lock) size W

  -- an arrow to each step that found what another pass wrote, by what was known of its IRP
  pub drawn_arrows : AddsStepByStep size W arrow_in (λ w V. arrow_to (all_passes size W) w.step.pass (length V) w.line (found_in (irp_named (irps_of size V) w.step.kind) w.step.kind w.step.found)) (λ n. [])
  drawn_arrows = all_shown (λ m. []) (λ n. []) (λ s. []) (λ a. a ∷ []) (λ ps irps row spot. arrow_to ps row.step.made.pass row.row row.line spot)
      (λ ps irps row spot. append-nil (shades_with (λ s. []) ps row row.lock ++ arrows_with (λ a. a ∷ []) ps row spot) ∙ ap (λ t. t ++ arrows_with (λ a. a ∷ []) ps row spot) (no_shade ps row row.lock) ∙ all_arrows ps row spot) size W

  -- a pass that has the lock made a step
  known : (E : List Made) → IsRun size E → (p : PassId) → has_lock (inside E p) ≡ true → p.0 ≤ size.passes
  known [] r p h = absurd (cc h)
  known (m ∷ E) r p h = go (same_pass m.pass p) refl (known E (run_less size m E r) p)
    where
      go : (b : Bool) → same_pass m.pass p ≡ b → (has_lock (inside E p) ≡ true → p.0 ≤ size.passes) → p.0 ≤ size.passes
      go true e less = let same = same_pass-eq m.pass p e in let P : PassId → Type 0 = λ x. x.0 ≤ size.passes in subst P same r.known.0.to
      go false e less = less (sym (ap (λ x. has_lock (cond x (inside_after (inside E p) m.kind m.found) (inside E p))) e) ∙ h)

  abbrev locked : PassNow → Bool
  locked now = has_lock now.inside

  -- the pass at a place of the passes
  at_place : (n : ℕ) → n < length (all_passes size W) → locked (get_or (all_passes size W) n new_pass_now) ≡ has_lock (inside (run_of W) (record { 0 = n }))
  at_place n lt =
      ap locked (get-table (λ p. pass_now W (record { 0 = p })) (size.passes + 1) n new_pass_now (omega (arith, lt, length-passes size W))) ∙ ap has_lock (inside_is (record { 0 = n }) W)

  module _ (r : IsRun size (run_of W)) where
    found : (o : Option ℕ) → position locked (all_passes size W) ≡ o → (p : PassId) → option_map (λ n. let q : PassId = record { 0 = n } in q) o ≡ Some p → HasLock (run_of W) p
    found None e p h = absurd (cc h)
    found (Some n) e p h =
        let at = position-Some locked (all_passes size W) n new_pass_now e in
        let has = sym (at_place n at.0) ∙ at.1 in
        let q : PassId = record { 0 = n } in
        let same : q ≡ p = cc h in
        let P : PassId → Type 0 = λ x. HasLock (run_of W) x in
        subst P same (has_lock-HasLock (run_of W) q (run_parted size (run_of W) r q) has)

    pub shaded_has : (p : PassId) → lock_of (all_passes size W) ≡ Some p → HasLock (run_of W) p
    shaded_has p h = found (position locked (all_passes size W)) refl p h

    missed : (o : Option ℕ) → position locked (all_passes size W) ≡ o → (p : PassId) → HasLock (run_of W) p → option_map (λ n. let q : PassId = record { 0 = n } in q) o ≡ Some p
    missed (Some n) e p lock =
        let q : PassId = record { 0 = n } in
        let mine = found (Some n) e q refl in
        ap Some (lock_one size (run_of W) r p (HasLock-has_lock (run_of W) p lock) q (HasLock-has_lock (run_of W) q mine))
    missed None e p lock =
        let lt : p.0 < length (all_passes size W) = omega (arith, known (run_of W) r p (HasLock-has_lock (run_of W) p lock), length-passes size W) in
        let free = position-None locked (all_passes size W) e p.0 new_pass_now lt in
        absurd (cc (sym (at_place p.0 lt) ∙ free, HasLock-has_lock (run_of W) p lock))

    pub has_is_shaded : (p : PassId) → HasLock (run_of W) p → lock_of (all_passes size W) ≡ Some p
    has_is_shaded p lock = missed (position locked (all_passes size W)) refl p lock

  -- a pass that made a step of the run makes one
  makes_it : (p : PassId) (V : List Numbered) → list_any (by p) (run_of V) ≡ true → (pass_now V p).makes ≡ true
  makes_it p [] h = absurd (cc h)
  makes_it p (w ∷ V) h = go (by p w.step) refl (makes_it p V)
    where
      go : (b : Bool) → by p w.step ≡ b → (list_any (by p) (run_of V) ≡ true → (pass_now V p).makes ≡ true) → (pass_now (w ∷ V) p).makes ≡ true
      go true e less = ap (λ x. (cond x (pass_after (pass_now V p) w) (pass_now V p)).makes) e
      go false e less =
          ap (λ x. (cond x (pass_after (pass_now V p) w) (pass_now V p)).makes) e
          ∙ less (sym (ap (λ x. x || list_any (by p) (run_of V)) e) ∙ h)

  pub own_column : EachPassHasItsColumn size W
  own_column p q below among made =
      let passes = all_passes size W in
      let at : p.0 < length passes = omega (arith, among, length-passes size W) in
      let is = ap (λ (now : PassNow). now.makes) (get-table (λ k. pass_now W (record { 0 = k })) (size.passes + 1) p.0 new_pass_now (omega (arith, among))) in
      count-more (λ (now : PassNow). now.makes) passes p.0 q.0 new_pass_now at below (is ∙ makes_it p W made)

-- who has the lock as a step is made
module _ (size : Size) (W : List Numbered) (w : Numbered) (r : IsRun size (run_of (w ∷ W))) (p : PassId) where
  abbrev before : Option PassId
  before = lock_of (all_passes size W)

  has_it : (b : Bool) → needs_lock w.step.kind ≡ b → cond b (Some w.step.pass) before ≡ Some p → HasItAt w.step (run_of W) p
  has_it true e h = inl (e, cc h)
  has_it false e h = inr (e, shaded_has size W (run_less size w.step (run_of W) r) p h)

  shades_it : (b : Bool) → needs_lock w.step.kind ≡ b → HasItAt w.step (run_of W) p → cond b (Some w.step.pass) before ≡ Some p
  shades_it true e (inl (needs, same)) = ap Some same
  shades_it true e (inr (free, lock)) = absurd (cc (e, free))
  shades_it false e (inl (needs, same)) = absurd (cc (e, needs))
  shades_it false e (inr (free, lock)) = has_is_shaded size W (run_less size w.step (run_of W) r) p lock

pub shaded : (size : Size) (W : List Numbered) → TheShadedPassHasTheLock size W
shaded size W w r p = (has_it size W w r p (needs_lock w.step.kind) refl, shades_it size W w r p (needs_lock w.step.kind) refl)
