-- A removal that returns none.
use Rattle.std.proofs.Common.{◌≡◌, ◌&&◌, ◌||◌, not, Bool, true, false, true≢false, List, [], ◌∷◌, ◌++◌, None, refl, sym, ap, ◌∙◌, subst}
use Rattle.std.proofs.lemmas.Bool.{or_right}
use Rattle.irp_core.specs.Steps.{is, same_irp}
use Rattle.irp_core.specs.Own.{inside_of}
use Rattle.irp_core.specs.Owners.{taken, listed}
use Rattle.irp_core.specs.Words.{was_armed}
use Rattle.irp_core.specs.declared.ids.IrpLife.{IrpLife}
use Rattle.irp_core.specs.declared.inside.Inside.TheVariants.{Nothing}
use Rattle.irp_core.specs.declared.step.Kind.TheVariants.{Arm}
use Rattle.irp_core.specs.declared.step.Made.{Made}
use Rattle.csq_list.specs.declared.entry.Peek.TheVariants.{Any}
use Rattle.csq_words.specs.Traces.{steps_in}
use Rattle.csq_words.specs.declared.views.HistoryEntry.{HistoryEntry}
use Rattle.csq_words.specs.declared.views.Event.TheVariants.{RemoveNext}
use Rattle.csq_words.specs.declared.views.PassRecord.{PassRecord}
use Rattle.csq_words.specs.Queue.{Queued, Limits, has_entry, has_marked, first_unmarked}
use Rattle.csq_words.specs.History.{IsLegal, IsExtendedBy, end_of}
use Rattle.csq_words.specs.Rule.{lists}
use Rattle.csq_words.proofs.Facts.{off}
use Rattle.csq_words.proofs.Marking.{none_head}
use Rattle.csq_words.proofs.Marks.{marked_taken}
use Rattle.csq_queue.specs.Searches.{marked}
use Rattle.csq_queue.specs.Effects.{AddsEvents}

-- what was armed stays so
pub armed_stays : (i : IrpLife) (shorter longer : List Made) → IsExtendedBy shorter longer → was_armed shorter i ≡ true → was_armed longer i ≡ true
armed_stays i shorter longer h set = ap (λ (l : List Made). was_armed l i) h.1 ∙ go h.0
  where
    go : (newer : List Made) → was_armed (newer ++ shorter) i ≡ true
    go [] = set
    go (m ∷ newer) = or_right (is (Arm i) m) (was_armed (newer ++ shorter) i) (go newer)

-- where no unmarked entry is left, each entry is marked
all_marked : (es : List Queued) (i : IrpLife) → first_unmarked Any es ≡ None → has_entry es i ≡ true → has_marked es i ≡ true
all_marked [] i none h = off h
all_marked (e ∷ es) i none h = let x = none_head Any e es none in go (same_irp e.irp i) e.marked x.0 (all_marked es i x.1) h
  where
    go : (b m : Bool) → (not m && true) ≡ false → (has_entry es i ≡ true → has_marked es i ≡ true) → (b || has_entry es i) ≡ true → ((b && m) || has_marked es i) ≡ true
    go true true x rest h = refl
    go true false x rest h = absurd (true≢false x)
    go false m x rest h = rest h

-- so what is still listed, once a removal has returned none, some canceller has
pub all_taken : (l : Limits) (old new : PassRecord) (history : List HistoryEntry) (marks : List IrpLife) (i : IrpLife) → AddsEvents l history old new (RemoveNext Any None ∷ marked marks) → inside_of new.steps ≡ Nothing
    → listed (steps_in new.trace) i ≡ true → taken (steps_in new.trace) i ≡ true
all_taken l old new history marks i a outside h =
    let legal = subst (IsLegal l) a.ends a.legal in
    let none : first_unmarked Any (end_of l.first new.seen).entries ≡ None = ap (λ (x : List HistoryEntry). first_unmarked Any (end_of l.first x).entries) a.ends ∙ sym legal.0 in
    let told = a.sees.agrees.history_is in
    let entry : has_entry (end_of l.first new.seen).entries i ≡ true = told.listed_is i ∙ (ap (λ s. not (lists s i) && listed (steps_in new.trace) i) outside ∙ h) in
    marked_taken l.first (steps_in new.trace) new.seen i told.true_of (all_marked (end_of l.first new.seen).entries i none entry)
