-- A cancel, whose pass sees the execution at each of its steps.
use Rattle.std.proofs.Common.{◌∷◌, ◌∷◌, ◌≡◌, ℕ, List, ◌++◌, ap, sym, subst, ◌∙◌}
use Rattle.csq_words.specs.declared.views.Tick.TheVariants.{Enters, Makes}
use Rattle.csq_queue.proofs.Imports.{IrpLife, Size, Flag, Take, HistoryEntry, Event, PassRecord, Limits, IsExtendedBy, entries_of, saw, with_step, with_calls, FindsUnset, extended_more, extended_on, AddsEvents, EndsWithTake}

-- the steps of a cancel go on from what its pass had seen
pub marked_follows : (size : Size) (i : IrpLife) (flag found : ℕ) (old new : PassRecord) → EndsWithTake size i flag found old new → IsExtendedBy old.trace new.trace
marked_follows size i flag found old new e =
    let flagged = extended_more (Makes record { pass = new.pass; kind = Flag i; found = flag }) old.trace e.earlier e.flags in
    let taken = extended_more (Makes record { pass = new.pass; kind = Take i; found = found }) old.trace e.before (extended_on _ _ _ flagged e.takes) in
    subst (IsExtendedBy old.trace) (sym e.trace_is) taken

-- so does a completion
pub completed_follows : (size : Size) (i : IrpLife) (old new : PassRecord) → FindsUnset size i old new → IsExtendedBy old.trace new.trace
completed_follows size i old new f = subst (IsExtendedBy old.trace) (sym f.last.trace_is) (extended_more _ old.trace f.last.before f.last.follows)

-- what a cancel routine adds to what its pass saw it adds to what the pass had seen before it marked the IRP
pub adds_before : (l : Limits) (history : List HistoryEntry) (old mid out : PassRecord) (es : List Event) (i : IrpLife) (flag found : ℕ) → mid ≡ saw mid.trace (with_step (Take i) found (with_step (Flag i) flag old))
    → IsExtendedBy old.trace mid.trace → AddsEvents l history mid out es → AddsEvents l history old out es
adds_before l history old mid out es i flag found e follows a = record {
  legal = a.legal;
  sees = a.sees;
  pass = a.pass ∙ ap (λ (r : PassRecord). r.pass) e;
  follows = extended_on _ _ _ follows a.follows;
  begins = subst (λ (seen : List HistoryEntry). IsExtendedBy seen out.seen) (ap (λ (r : PassRecord). r.seen) e) a.begins;
  calls = a.calls ∙ ap (λ (r : PassRecord). (with_calls es r).mine) e;
  once = a.once;
  ends = a.ends ∙ ap (λ (r : PassRecord). entries_of r.pass es ++ history) e;
  since = subst (λ (seen : List HistoryEntry). IsExtendedBy seen history) (ap (λ (r : PassRecord). r.seen) e) a.since;
  call = record {
    before = a.call.before;
    entered = record { within = a.call.entered.within; trace_is = a.call.entered.trace_is ∙ ap (λ (r : PassRecord). a.call.entered.within ++ (Enters r.pass ∷ a.call.before)) e; stays = a.call.entered.stays };
    follows = extended_on _ _ _ follows a.call.follows;
    found_is = a.call.found_is;
    events_are = a.call.events_are ∙ ap (λ (r : PassRecord). entries_of r.pass es) e;
  };
}
