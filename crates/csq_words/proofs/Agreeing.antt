-- What follows from what the rule says of the two records.
use Rattle.std.proofs.Common.{◌≡◌, true, false, not, ◌&&◌, List, ◌∷◌, sym, ap, ◌∙◌, subst}
use Rattle.csq_words.proofs.Imports.{IrpId, Life, was_armed, listed, Made, Tick, steps_in, Size, Reuse, HistoryEntry, PassRecord, QueueRecord, inside_of, present_in, has_entry, has_irp, end_of, inserts, lists, AreTrueOf, RecordsAgree}
use Rattle.irp_core.specs.declared.inside.Inside.TheVariants.{Nothing}
use Rattle.csq_words.proofs.Facts.{done_over}

module _ (size : Size) (q : QueueRecord) (r : PassRecord) (trace : List Tick) (t : RecordsAgree size trace q r) where
  abbrev run : List Made
  run = steps_in trace

  -- a reuse that was recorded just now found its IRP used and not listed
  pub reused : (n : IrpId) (life : Life) (e : HistoryEntry) (before : List HistoryEntry) → e.event ≡ Reuse n life → q.history ≡ e ∷ before → inside_of r.steps ≡ Nothing
      → (has_irp (end_of q.first before).used (present_in (end_of q.first before) n) ≡ true) × (has_entry (end_of q.first before).entries (present_in (end_of q.first before) n) ≡ false)
  reused n life e before is at outside =
      let h = t.history_is in
      let u = end_of q.first before in
      let i = present_in u n in
      let at' : q.history ≡ record { pass = e.pass; event = Reuse n life } ∷ before = at ∙ (λ k. record { pass = e.pass; event = is k } ∷ before) in
      let truths : AreTrueOf q.first run (record { pass = e.pass; event = Reuse n life } ∷ before) = subst (AreTrueOf q.first run) at' h.true_of in
      let over = done_over size run h.is_run i truths.0.done in (
        ap (λ l. has_irp (end_of q.first l).used i) (sym at') ∙ (h.used_is i ∙ (ap (λ s. not (inserts s i) && was_armed run i) outside ∙ over.0)),
        ap (λ l. has_entry (end_of q.first l).entries i) (sym at') ∙ (h.listed_is i ∙ (ap (λ s. not (lists s i) && listed run i) outside ∙ over.2)),
      )
