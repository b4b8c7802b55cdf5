-- Bars run from each step of an IRP to its next one.
use Rattle.std.proofs.Common.{◌≡◌, ◌||◌, ℕ, zero, suc, ◌+◌, ◌<◌, ◌≤◌, Bool, true, false, cond, List, [], ◌∷◌, ◌++◌, length, replicate, take, Option, Some, None, refl, ap, sym, ◌∙◌, subst, arith}
use Rattle.std.specs.Prelude.{is_some}
use Rattle.std.specs.List.{list_any}
use Rattle.csq_draw.proofs.Imports.{count-more, option_map, option_map_or, length-take-le, take_all, take_more, IrpId, IrpLife, Kind, Made, Size, IsRun, OfIrp, Owner, PassId, number, name_of, same_id, same_id-eq, Numbered, run_of, all_passes, is_of_irp, Row, IrpNow, LastSeen, Spot, above_elements, arrow_elements, bars_elements, behind_elements, call_elements, closed_elements, column_elements, each, fresh_irps, irp_after, irp_at, irp_named, irps_of, last_elements, mark_element, new_irp, open_elements, owners_elements, reason_of, refused_elements, row_after, rows_elements, shade_elements, shown_elements, span_elements, steps_shown, word_elements}
use Rattle.irp_core.proofs.Growing.{run_less}
use Rattle.irp_core.specs.Lives.{present}
use Rattle.irp_core.specs.declared.step.Kind.TheVariants.{Arm, Test, Disarm, End, Flag, Take, Out, Done, Renew, Rearm}
use Rattle.csq_draw.specs.Lives.{past_lives}
use Rattle.csq_draw.specs.declared.marks.Legality.{Legality}
use Rattle.csq_draw.specs.declared.spans.LineEnd.{LineEnd, TheVariants.{Step, Last}}
use Rattle.csq_draw.specs.Arrows.{found_at}
use Rattle.csq_draw.specs.Endings.{rest_of}
use Rattle.csq_draw.specs.Irps.{irp_column, last_by}
use Rattle.csq_draw.specs.Laws.{added, bars, bars_from, bars_in, bars_of, bars_to, bars_to_end, last_seen, picked, EachBarShowsTheWords, EachIrpHasItsPlace}
use Rattle.csq_draw.specs.Passes.{columns}
use Rattle.csq_draw.specs.Pictures.{place_named, words_until}
use Rattle.csq_draw.specs.Words.{words_named}
use Rattle.csq_draw.specs.Rows.{row_of, rows_of}
use Rattle.csq_explain.specs.WordValues.{words_of}
use Rattle.csq_draw.proofs.Known.{at_next, long, none_yet}
use Rattle.csq_draw.proofs.Picking.{none_closed, none_picked, none_then, picked-append, picked_last, then_none}
use Rattle.csq_draw.proofs.RowElements.{rows-last}
use Rattle.csq_draw.proofs.Showing.{length-rows}
use Rattle.csq_explain.specs.declared.passes.PassNow.{PassNow}

-- which bars elements are, and which have none
a_bar : (passes : List PassNow) (place to : ℕ) (to_the_end : Bool) (last : Option LastSeen) → picked bars_in (bars_elements (columns passes) place to to_the_end last) ≡ bars_from passes place to to_the_end last
a_bar passes place to to_the_end (Some seen) = refl
a_bar passes place to to_the_end None = refl

no_column : (passes : List PassNow) (rows n : ℕ) (now : PassNow) → picked bars_in (column_elements passes rows n now) ≡ []
no_column passes rows n now = grind arith

no_name : (passes : List PassNow) (irps : List IrpNow) (n : ℕ) (now : IrpNow) → picked bars_in (word_elements passes irps n now) ≡ []
no_name passes irps n now = grind arith

no_shade : (passes : List PassNow) (row : Row) (lock : Option PassId) → picked bars_in (shade_elements passes row lock) ≡ []
no_shade passes row lock = grind arith

no_span : (passes : List PassNow) (to : ℕ) (end : LineEnd) (owner : Option Owner) → picked bars_in (span_elements passes to end owner) ≡ []
no_span passes to end owner = grind arith

no_arrow : (passes : List PassNow) (row : Row) (spot : Option Spot) → picked bars_in (arrow_elements passes row spot) ≡ []
no_arrow passes row spot = grind arith

no_call : (passes : List PassNow) (before : IrpNow) (row : Row) (legality : Legality) → picked bars_in (call_elements passes before row legality) ≡ []
no_call passes before row legality = grind arith

-- of a row: the bars of its IRP until then, if it shows words
words_bars : (passes : List PassNow) (irps : List IrpNow) (before : IrpNow) (row : Row) → picked bars_in (words_until passes irps before row) ≡ cond (is_some row.words) (bars_from passes (place_named irps row.step.made.kind) row.row false before.last) []
words_bars passes irps before row = go (is_some row.words)
  where
    go : (b : Bool) → picked bars_in (cond b (bars_elements (columns passes) (place_named irps row.step.made.kind) row.row false before.last) []) ≡ cond b (bars_from passes (place_named irps row.step.made.kind) row.row false before.last) []
    go true = a_bar passes (place_named irps row.step.made.kind) row.row false before.last
    go false = refl

row_bars : (passes : List PassNow) (irps : List IrpNow) (before : IrpNow) (row : Row) → picked bars_in (row_after passes irps before row) ≡ cond (is_some row.words) (bars_from passes (place_named irps row.step.made.kind) row.row false before.last) []
row_bars passes irps before row =
    let shade = shade_elements passes row row.lock in
    let span = span_elements passes row.row Step row.ended in
    let until = words_until passes irps before row in
    let arrow = arrow_elements passes row (found_at before row) in
    let call = call_elements passes before row row.legality in
    let behind = none_then bars_in shade (span ++ (until ++ arrow)) _ (no_shade passes row row.lock)
    (none_then bars_in span (until ++ arrow) _ (no_span passes row.row Step row.ended)
    (then_none bars_in until arrow _ (words_bars passes irps before row) (no_arrow passes row (found_at before row)))) in
    then_none bars_in (behind_elements passes irps before row) (mark_element passes irps row ∷ call) _ behind (no_call passes before row row.legality)

module _ (size : Size) where
  -- a step of IRP n is the last one of that IRP
  named : (w : Numbered) (W : List Numbered) (n : IrpId) (before : Option LastSeen) (o : Option IrpLife) → option_map_or (λ i. same_id i.irp n) o false ≡ true
      → last_by (length W) (option_map (λ i. words_of (run_of (w ∷ W)) (present size.first (run_of (w ∷ W)) i.irp)) o) before ≡ Some (record { row = length W; words = words_of (run_of (w ∷ W)) (present size.first (run_of (w ∷ W)) n) })
  named w W n before None e = absurd (cc e)
  named w W n before (Some i) e =
      let E = run_of (w ∷ W) in
      ap (λ m. let seen : LastSeen = record { row = length W; words = words_of E (present size.first E m) } in Some seen) (same_id-eq i.irp n e)

  -- what is known of IRP n is what was seen last of it
  last_is : (W : List Numbered) (n : IrpId) → n.0 < size.irps → (irp_at (irps_of size W) n).last ≡ last_seen size n W
  last_is [] n lt = ap (λ (x : IrpNow). x.last) (none_yet size n lt)
  last_is (w ∷ W) n lt = ap (λ (x : IrpNow). x.last) (at_next size w W n lt) ∙ go (is_of_irp n w.step.kind) refl (last_is W n lt)
    where
      go : (b : Bool) → is_of_irp n w.step.kind ≡ b → (irp_at (irps_of size W) n).last ≡ last_seen size n W → (cond b (irp_after (irp_at (irps_of size W) n) (row_of size w W)) (irp_at (irps_of size W) n)).last ≡ last_seen size n (w ∷ W)
      go true e before = named w W n (irp_at (irps_of size W) n).last (name_of w.step.kind) e ∙ rw e refl
      go false e before = before ∙ rw e refl

  of_last : (passes : List PassNow) (irps : List IrpNow) (W : List Numbered) (i : IrpLife) → number i < size.irps → bars_from passes (irp_column irps i.irp) (length W) false (irp_at (irps_of size W) i.irp).last ≡ bars_of size passes irps W false i.irp
  of_last passes irps W i lt = ap (λ s. bars_from passes (irp_column irps i.irp) (length W) false s) (last_is W i.irp lt)

  -- and so are the bars to a step, of the IRP that it names
  named_bars : (passes : List PassNow) (irps : List IrpNow) (E : List Made) (k : Kind) (W : List Numbered) → OfIrp (λ i. number i < size.irps) k → cond (is_some (words_named size.first E k)) (bars_from passes (place_named irps k) (length W) false (irp_named (irps_of size W) k).last) [] ≡ option_map_or (λ i. bars_of size passes irps W false i.irp) (name_of k) []
  named_bars passes irps E (Arm i) W lt = of_last passes irps W i lt
  named_bars passes irps E (Test i) W lt = of_last passes irps W i lt
  named_bars passes irps E (Disarm i) W lt = of_last passes irps W i lt
  named_bars passes irps E (Flag i) W lt = of_last passes irps W i lt
  named_bars passes irps E (Take i) W lt = of_last passes irps W i lt
  named_bars passes irps E (Out i) W lt = of_last passes irps W i lt
  named_bars passes irps E (Done i) W lt = of_last passes irps W i lt
  named_bars passes irps E (Renew i) W lt = of_last passes irps W i lt
  named_bars passes irps E (Rearm i) W lt = of_last passes irps W i lt
  named_bars passes irps E End W lt = refl

  -- of a run, the bars of its rows
  rows_bars : (passes : List PassNow) (irps : List IrpNow) (W : List Numbered) → IsRun size (run_of W) → picked bars_in (rows_elements passes irps (replicate size.irps new_irp) (rows_of size W)) ≡ added (bars_to size passes irps) W
  rows_bars passes irps [] r = refl
  rows_bars passes irps (w ∷ W) r =
      let row = row_of size w W in
      let fresh = replicate size.irps new_irp in
      let before = irp_named (irps_of size W) w.step.kind in
      ap (λ es. picked bars_in es) (rows-last passes irps fresh (rows_of size W) row)
      ∙ picked-append bars_in (rows_elements passes irps fresh (rows_of size W)) (row_after passes irps before row)
      ∙ ap (λ t. picked bars_in (rows_elements passes irps fresh (rows_of size W)) ++ t) (row_bars passes irps before row ∙ named_bars passes irps (run_of (w ∷ W)) w.step.kind W r.known.0.irp)
      ∙ ap (λ t. t ++ bars_to size passes irps w W) (rows_bars passes irps W (run_less size w.step (run_of W) r))

  module _ (W : List Numbered) where
    abbrev passes : List PassNow
    passes = all_passes size W

    abbrev irps : List IrpNow
    irps = irps_of size W

    abbrev count : ℕ
    count = length (rows_of size W)

    -- those of the first n IRPs to the end
    first_bars : (n : ℕ) → n ≤ size.irps → picked bars_in (each (last_elements passes irps count) 0 (take n irps)) ≡ bars_to_end size passes irps W n
    first_bars zero le = refl
    first_bars (suc n) le =
        let next : suc n ≡ n + 1 = omega arith in
        let lt : n < length irps = omega (arith, le, long size W) in
        let irp : IrpId = record { 0 = n } in
        let now = irp_at irps irp in
        let at : 0 + length (take n irps) ≡ n = omega (arith, length-take-le n irps (omega (arith, lt))) in
        ap (λ k. picked bars_in (each (last_elements passes irps count) 0 (take k irps))) next
        ∙ ap (λ xs. picked bars_in (each (last_elements passes irps count) 0 xs)) (take_more irps n new_irp lt)
        ∙ picked_last bars_in (last_elements passes irps count) 0 (take n irps) now
        ∙ ap (λ k. picked bars_in (each (last_elements passes irps count) 0 (take n irps)) ++ picked bars_in (last_elements passes irps count k now)) at
        ∙ ap (λ t. picked bars_in (each (last_elements passes irps count) 0 (take n irps)) ++ t) (a_bar passes (irp_column irps irp) count true now.last
        ∙ ap (λ k. bars_from passes (irp_column irps irp) k true now.last) (length-rows size W)
        ∙ ap (λ s. bars_from passes (irp_column irps irp) (length W) true s) (last_is W irp (omega (arith, le))))
        ∙ ap (λ t. t ++ bars_from passes (irp_column irps irp) (length W) true (last_seen size irp W)) (first_bars n (omega (arith, le)))

    last_bars : picked bars_in (each (last_elements passes irps count) 0 irps) ≡ bars_to_end size passes irps W size.irps
    last_bars = ap (λ xs. picked bars_in (each (last_elements passes irps count) 0 xs)) (sym (take_all size.irps irps (omega (arith, long size W)))) ∙ first_bars size.irps (omega arith)

    above_bars : picked bars_in (above_elements passes irps count) ≡ bars_to_end size passes irps W size.irps
    above_bars =
        let names = each (word_elements passes irps) 0 irps in
        let last = each (last_elements passes irps count) 0 irps in
        none_then bars_in (each (column_elements passes count) 0 passes) (names ++ last) _ (none_picked bars_in (column_elements passes count) (no_column passes count) 0 passes)
        (none_then bars_in names last _ (none_picked bars_in (word_elements passes irps) (no_name passes irps) 0 irps) last_bars)

    shown_bars : IsRun size (run_of W) → picked bars_in (shown_elements (steps_shown size W) count) ≡ bars size passes irps W
    shown_bars r =
        let s = steps_shown size W in
        let rows = rows_elements passes irps (fresh_irps irps) (rows_of size W) in
        let owners = owners_elements passes count None s.owners in
        let drawn = ap (λ n. picked bars_in (rows_elements passes irps (replicate n new_irp) (rows_of size W))) (long size W) ∙ rows_bars passes irps W r in
        picked-append bars_in (above_elements passes irps count) (rows ++ owners)
        ∙ ap (λ t. t ++ picked bars_in (rows ++ owners)) above_bars
        ∙ ap (λ t. bars_to_end size passes irps W size.irps ++ t) (then_none bars_in rows owners _ drawn (none_picked bars_in (open_elements passes count Last) (λ n owner. no_span passes count Last owner) 0 s.owners))

pub each_bar : (size : Size) (W : List Numbered) → EachBarShowsTheWords size W
each_bar size W =
    let passes = all_passes size W in
    let irps = irps_of size W in
    let count = length (rows_of size W) in
    let shown = shown_elements (steps_shown size W) count in
    record {
      stopped = λ r n stop. then_none bars_in shown (refused_elements count n (reason_of size W stop)) _ (shown_bars size W r) refl;
      closed = λ r reported at_rest.
          let rest = rest_of passes at_rest in
          let lives = past_lives irps (rows_of size W) in
          then_none bars_in shown (closed_elements irps lives reported rest count) _ (shown_bars size W r) (none_closed bars_in (λ n b. refl) irps lives reported rest count);
    }

-- an IRP that a step names was seen
module _ (size : Size) where
  was_seen : (n : IrpId) (W : List Numbered) → list_any (λ m. is_of_irp n m.kind) (run_of W) ≡ true → is_some (last_seen size n W) ≡ true
  was_seen n [] h = absurd (cc h)
  was_seen n (w ∷ W) h = go (is_of_irp n w.step.kind) refl (was_seen n W)
    where
      go : (b : Bool) → is_of_irp n w.step.kind ≡ b → (list_any (λ m. is_of_irp n m.kind) (run_of W) ≡ true → is_some (last_seen size n W) ≡ true) → is_some (last_seen size n (w ∷ W)) ≡ true
      go true e less = rw e refl
      go false e less = rw e (less (sym (ap (λ b. b || list_any (λ m. is_of_irp n m.kind) (run_of W)) e) ∙ h))

  -- an IRP that a step names is one of the pool
  known_by : (n : IrpId) (i : IrpLife) → same_id i.irp n ≡ true → number i < size.irps → n.0 < size.irps
  known_by n i e lt = subst (λ (m : IrpId). m.0 < size.irps) (same_id-eq i.irp n e) lt

  known_kind : (n : IrpId) (k : Kind) → is_of_irp n k ≡ true → OfIrp (λ i. number i < size.irps) k → n.0 < size.irps
  known_kind n (Arm i) e lt = known_by n i e lt
  known_kind n (Test i) e lt = known_by n i e lt
  known_kind n (Disarm i) e lt = known_by n i e lt
  known_kind n (Flag i) e lt = known_by n i e lt
  known_kind n (Take i) e lt = known_by n i e lt
  known_kind n (Out i) e lt = known_by n i e lt
  known_kind n (Done i) e lt = known_by n i e lt
  known_kind n (Renew i) e lt = known_by n i e lt
  known_kind n (Rearm i) e lt = known_by n i e lt
  known_kind n End e lt = absurd (cc e)

  named_known : (n : IrpId) (W : List Numbered) → IsRun size (run_of W) → list_any (λ m. is_of_irp n m.kind) (run_of W) ≡ true → n.0 < size.irps
  named_known n [] r h = absurd (cc h)
  named_known n (w ∷ W) r h = go (is_of_irp n w.step.kind) refl (named_known n W (run_less size w.step (run_of W) r))
    where
      go : (b : Bool) → is_of_irp n w.step.kind ≡ b → (list_any (λ m. is_of_irp n m.kind) (run_of W) ≡ true → n.0 < size.irps) → n.0 < size.irps
      go true e less = known_kind n w.step.kind e r.known.0.irp
      go false e less = less (sym (ap (λ b. b || list_any (λ m. is_of_irp n m.kind) (run_of W)) e) ∙ h)

  pub own_place : (W : List Numbered) → EachIrpHasItsPlace size W
  own_place W r n k below named =
      let irps = irps_of size W in
      let among = named_known n W r named in
      let at : n.0 < length irps = omega (arith, among, long size W) in
      count-more (λ (now : IrpNow). is_some now.last) irps n.0 k.0 new_irp at below (ap (λ s. is_some s) (last_is size W n among) ∙ was_seen n W named)
