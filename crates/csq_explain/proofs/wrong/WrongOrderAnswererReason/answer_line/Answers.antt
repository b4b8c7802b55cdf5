use Rattle.std.proofs.Common.{◌<◌, cond, ◌++◌, ◌∷◌, ◌∙◌, [], Some, None, ap, sym, refl, subst, append-nil, string_bytes, ℕ}
use Rattle.irp_core.specs.Runs.{OfIrp}
use Rattle.irp_core.specs.Steps.{number}
use Rattle.csq_explain.proofs.Imports.{Skipped, Accepted, Stopped}
use Rattle.csq_explain.specs.declared.execution.Execution.{Execution}
use Rattle.csq_explain.specs.Executions.{Follows, StopsFor}
use Rattle.csq_explain.specs.WrongOrders.{IsOfKnown, WrongAfter, accepted_text, stopped_text, broken_after, goes_on, with_accepted, with_stopped}
use Rattle.csq_explain.proofs.Outcomes.{was_skipped, was_accepted, was_stopped}
use Rattle.csq_explain.proofs.Wrongs.{stands_since, stopped_leaves, stopped_known}
use Rattle.csq_explain.proofs.wrong.WrongOrderAnswererReason.answer_line.Goals as goal

pub add_accepted-requires : goal.add_accepted-requires
add_accepted-requires g c =
    let (size, d, a) = c.requires in
    let came = was_accepted size d.own c.args.line.number c.args.line.bytes.now _ c.in-Accepted.step (c.in-Accepted.ensures size d.own a.follows) in
    let P : ℕ → Type 0 = λ n. OfIrp (λ i. number i < n) c.in-Accepted.step.made.kind in
    subst P (sym a.all.count) came.0.1.known.0.irp

pub add_stopped-requires : goal.add_stopped-requires
add_stopped-requires g c =
    let (size, d, a) = c.requires in
    let reason = c.in-Stopped.reason in
    let came = was_stopped size d.own c.args.line.number c.args.line.bytes.now _ reason (c.in-Stopped.ensures size d.own a.follows) in
    subst (λ n. IsOfKnown n reason.stop) (sym a.all.count) (stopped_known size _ c.args.line.bytes.now reason.stop came.0)

pub returns-in-Skipped : goal.returns-in-Skipped
returns-in-Skipped g c = λ size d a.
    let came = was_skipped size d.own c.args.line.number c.args.line.bytes.now _ (c.in-Skipped.ensures size d.own a.follows) in (
      [],
      sym (append-nil _),
      (Some d, (Skipped, came.0, refl, refl), record { follows = came.1; all = a.all; since = a.since }),
    )

pub returns-in_ok-add_accepted-in-Accepted : goal.returns-in_ok-add_accepted-in-Accepted
returns-in_ok-add_accepted-in-Accepted g c = λ size d a.
    let n = c.args.line.number in
    let made = c.in-Accepted.step.made in
    let old = string_bytes c.args.text.now in
    let came = was_accepted size d.own n c.args.line.bytes.now _ c.in-Accepted.step (c.in-Accepted.ensures size d.own a.follows) in
    let ensured = c.in_ok-add_accepted-in-Accepted.ensures in
    let added = ensured.added size.irps d.steps a.all in
    let P : Execution _ → Type 0 = λ x. Follows size x (record { line = n; step = made } ∷ d.own) in (
      accepted_text d.steps d.broken n made,
      added.1 ∙ ap (λ b. old ++ accepted_text d.steps b n made) a.since,
      (
        Some (with_accepted d n made),
        (Accepted made, came.0, refl, refl),
        record {
          follows = subst P (sym ensured.execution) came.2;
          all = stands_since _ size.irps d.steps _ d.broken n made a.since added.0;
          since = ensured.broken ∙ a.since;
        },
      ),
    )

pub returns-in_ok-add_stopped-in-Stopped : goal.returns-in_ok-add_stopped-in-Stopped
returns-in_ok-add_stopped-in-Stopped g c = λ size d a.
    let n = c.args.line.number in
    let reason = c.in-Stopped.reason in
    let stop = reason.stop in
    let old = string_bytes c.args.text.now in
    let came = was_stopped size d.own n c.args.line.bytes.now _ reason (c.in-Stopped.ensures size d.own a.follows) in
    let ensured = c.in_ok-add_stopped-in-Stopped.ensures in
    let added = ensured.added size.irps d.steps a.all in
    let P : Execution _ → Type 0 = λ x. Follows size x d.own in
    let after : WrongAfter _ size (with_stopped d n stop) = record {
      follows = subst P (sym ensured.execution) came.2;
      all = added.0;
      since = ensured.broken ∙ ap (λ b. broken_after b n stop) a.since;
    } in (
      stopped_text d.steps d.broken n stop,
      added.1 ∙ ap (λ b. old ++ stopped_text d.steps b n stop) a.since,
      (
        cond (goes_on stop) (Some (with_stopped d n stop)) None,
        (Stopped stop, came.0, refl, refl),
        stopped_leaves (λ x. WrongAfter _ size x) (λ r. StopsFor size d.own n c.args.line.bytes.now r) (with_stopped d n stop) reason _ c.why_ended-why.ensures after (came.0, came.1),
      ),
    )
