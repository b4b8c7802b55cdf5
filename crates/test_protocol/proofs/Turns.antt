-- What an insert, a removal and a reuse make of the queue's record.
use Rattle.std.proofs.Common.{◌≡◌, ◌∙◌, ◌||◌, ℕ, Bool, true, false, List, [], ◌∷◌, refl, ap, sym, subst, arith}
use Rattle.irp_core.specs.Steps.{same_irp, same_id}
use Rattle.irp_core.specs.declared.ids.IrpLife.{IrpLife}
use Rattle.irp_core.specs.declared.ids.PassId.{PassId}
use Rattle.irp_core.proofs.Names.{same_irp-refl, same_id-refl, other_life}
use Rattle.irp_core.specs.declared.step.Kind.TheVariants.{Disarm}
use Rattle.irp_core.specs.declared.inside.Inside.TheVariants as inner
use Rattle.csq_list.specs.declared.entry.Place.TheVariants.{Back}
use Rattle.csq_list.specs.Listing.{put_at}
use Rattle.csq_words.specs.declared.views.Event.TheVariants as event
use Rattle.csq_words.specs.declared.calls.Call.TheVariants.{Remove}
use Rattle.csq_words.specs.Calls.{MayMake, after_step}
use Rattle.irp_core.specs.Own.{inside_of}
use Rattle.csq_words.specs.declared.views.PassRecord.{PassRecord}
use Rattle.csq_words.specs.declared.views.Event.{Event}
use Rattle.csq_words.specs.declared.views.InsertReply.TheVariants.{Pending}
use Rattle.csq_words.specs.declared.views.QueueRecord.{QueueRecord}
use Rattle.csq_words.specs.declared.views.Reusing.TheVariants.{Nothing}
use Rattle.csq_words.specs.Queue.{Queued, present_in, new_entry, has_irp, without}
use Rattle.irp_core.specs.declared.step.Made.{Made}
use Rattle.csq_words.specs.declared.views.Tick.{Tick}
use Rattle.csq_words.specs.Records.{entered, queue_of, queue_in, with_events, with_trace, with_reusing}
use Rattle.csq_words.specs.Rule.{next_life}
use Rattle.test_protocol.specs.Listed.{IsHome, IsInserted, only_entry}

-- IRP 0, for file object 0, is pending
abbrev pub pending_event : Event
pending_event = event.Insert record { 0 = 0 } record { 0 = 0 } Back Pending

pub after_pending : (i : IrpLife) (q : QueueRecord) (p : PassId) → IsHome i q → IsInserted i (only_entry i) (with_events p (pending_event ∷ []) q)
after_pending i q p h =
    let u = queue_of q in
    let put : List Queued → List Queued = λ es. put_at Back (new_entry (present_in u record { 0 = 0 }) record { 0 = 0 }) es in
    let alone : IrpLife → List Queued = λ k. new_entry k record { 0 = 0 } ∷ [] in
    record {
      idle = h.idle;
      present = h.present;
      entries_are = ap put h.empty ∙ ap alone (sym h.present);
      unused = λ j less.
          let a : same_irp i j ≡ false = other_life i j (λ e. omega (arith, e, less)) in
          let b : has_irp u.used j ≡ false = h.unused j (omega (arith, less)) in
          subst (λ (k : IrpLife). (same_irp k j || has_irp u.used j) ≡ false) h.present (rw (a, b) refl);
    }

-- what is left of the only entry without its IRP
pub none_left : (i : IrpLife) (es : List Queued) → es ≡ only_entry i → without i es ≡ []
none_left i es e = ap (without i) e ∙ (rw same_irp-refl refl)

-- what is home, or alone inserted, is so whatever the record has of the execution
pub home_in : (i : IrpLife) (q : QueueRecord) (trace : List Tick) → IsHome i q → IsHome i (with_trace trace q)
home_in i q trace h = record { idle = h.idle; present = h.present; empty = h.empty; unused = h.unused }

pub inserted_in : (i : IrpLife) (entries : List Queued) (q : QueueRecord) (trace : List Tick) → IsInserted i entries q → IsInserted i entries (with_trace trace q)
inserted_in i entries q trace h = record { idle = h.idle; present = h.present; entries_are = h.entries_are; unused = h.unused }

-- and as a call enters
pub inserted_entered : (i : IrpLife) (entries : List Queued) (q : QueueRecord) → IsInserted i entries q → IsInserted i entries (entered q)
inserted_entered i entries q h = record { idle = h.idle; present = h.present; entries_are = h.entries_are; unused = h.unused }

-- the disarm of a removal may come where its IRP alone is listed
pub may_disarm : (i : IrpLife) (q : QueueRecord) (r : PassRecord) → IsInserted i (only_entry i) q → inside_of r.steps ≡ inner.Nothing → MayMake (Remove i) (Disarm i) q r
may_disarm i q r at outside = (refl, rw outside refl, rw (at.entries_are, same_irp-refl) refl)

-- it leaves none
pub after_removal : (i : IrpLife) (q : QueueRecord) (r : PassRecord) (n : ℕ) → n ≡ 1 → IsInserted i (only_entry i) q → IsInserted i [] (queue_in (after_step (Remove i) (Disarm i) n q r))
after_removal i q r n one at =
    subst (λ (k : ℕ). IsInserted i [] (queue_in (after_step (Remove i) (Disarm i) k q r))) (sym one)
    (record { idle = at.idle; present = at.present; entries_are = none_left i _ at.entries_are; unused = at.unused })

-- a reuse of i begins its next life
pub after_reuse : (i : IrpLife) (q : QueueRecord) (p : PassId) → IsInserted i [] (with_reusing Nothing q) → IsHome (next_life i) (with_events p (event.Reuse i.irp (next_life i).life ∷ []) (with_reusing Nothing q))
after_reuse i q p h =
    let next : IrpLife → IrpLife = next_life in
    let zero_named : IrpLife → Bool = λ k. same_id k.irp record { 0 = 0 } in
    let named : same_id i.irp record { 0 = 0 } ≡ true = ap zero_named h.present ∙ same_id-refl record { 0 = 0 } in
    record {
      idle = refl;
      present = ap next h.present ∙ (rw named refl);
      empty = h.entries_are;
      unused = λ j less. h.unused j (omega (arith, less));
    }
