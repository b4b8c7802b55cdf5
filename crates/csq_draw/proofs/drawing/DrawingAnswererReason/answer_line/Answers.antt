use Rattle.std.proofs.Common.{◌≡◌, ◌<◌, ℕ, List, [], ◌∷◌, ◌++◌, ◌∙◌, Option, Some, None, ap, sym, refl, subst, append-nil, append_assoc, arith, length}
use Rattle.csq_replay.specs.declared.schedule.outcome.Outcome.TheVariants.{Skipped, Accepted, Stopped}
use Rattle.csq_explain.specs.declared.execution.Execution.{Execution}
use Rattle.csq_explain.specs.Executions.{Follows}
use Rattle.csq_explain.specs.LineSteps.{by_words}
use Rattle.csq_explain.proofs.Outcomes.{was_skipped, was_accepted, was_stopped}
use Rattle.csq_explain.proofs.Wrongs.{stopped_known}
use Rattle.csq_draw.specs.declared.marks.Legality.TheVariants.{Later}
use Rattle.csq_draw.specs.declared.refusals.FirstRefusal.{FirstRefusal}
use Rattle.csq_draw.specs.Refusals.{first_refusal, legality_of, noted_step}
use Rattle.csq_draw.specs.declared.view.PictureView.{PictureView}
use Rattle.csq_draw.specs.Rows.{rows_of}
use Rattle.csq_draw.specs.Drawings.{after_accepted, after_refused, after_stopped, reason_at}
use Rattle.csq_draw.specs.WrongRows.{wrong_row}
use Rattle.csq_draw.proofs.Imports.{OfIrp, number, Numbered, Row, Size, drawn_rows, length-passes, lock_of}
use Rattle.csq_draw.proofs.OrderShowing.{noted_known, kept_follows, kept_shows, owners_count, row_more}
use Rattle.csq_draw.proofs.Showing.{shows_more}
use Rattle.csq_draw.proofs.drawing.DrawingAnswererReason.answer_line.Goals as goal

pub lock_of-held-requires : goal.lock_of-held-requires
lock_of-held-requires g c =
    let (k, d, a) = c.requires in
    let most = a.0.follows.limits.3 in
    omega (arith, most, ap length c.deref.ensures.value, ap length a.0.follows.passes, length-passes k.0 d.own)

pub note_kept-requires-clause-owner : goal.note_kept-requires-clause-owner
note_kept-requires-clause-owner g c =
    let (k, d, a) = c.requires in
    let came = was_accepted k.0 d.own c.args.line.number c.args.line.bytes.now _ c.in-Accepted.step (c.in-Accepted.ensures k.0 d.own a.0.follows) in
    let P : ℕ → Type 0 = λ n. OfIrp (λ i. number i < n) c.in-Accepted.step.made.kind in
    subst P (sym (owners_count _ k.0 d a.0)) came.0.1.known.0.irp

pub note_kept-requires-clause-order : goal.note_kept-requires-clause-order
note_kept-requires-clause-order g c =
    let (k, d, a) = c.requires in
    let came = was_accepted k.0 d.own c.args.line.number c.args.line.bytes.now _ c.in-Accepted.step (c.in-Accepted.ensures k.0 d.own a.0.follows) in
    let P : ℕ → Type 0 = λ n. OfIrp (λ i. number i < n) c.in-Accepted.step.made.kind in
    subst P (sym a.0.all.count) came.0.1.known.0.irp

pub note_by_words-requires : goal.note_by_words-requires
note_by_words-requires g c =
    let (k, d, a) = c.requires in
    let came = was_accepted k.0 d.own c.args.line.number c.args.line.bytes.now _ c.in-Accepted.step (c.in-Accepted.ensures k.0 d.own a.0.follows) in
    let P : ℕ → Type 0 = λ n. OfIrp (λ i. number i < n) c.in-Accepted.step.made.kind in
    subst P (sym a.0.all.count) came.0.1.known.0.irp

pub note_refused-requires : goal.note_refused-requires
note_refused-requires g c =
    let (k, d, a) = c.requires in
    let reason = c.in-Stopped.reason in
    let came = was_stopped k.0 d.own c.args.line.number c.args.line.bytes.now _ reason (c.in-Stopped.ensures k.0 d.own a.0.follows) in
    let goes : noted_step k.1.wrong reason.stop ≡ Some (c.in-Some-noted_step.step, c.in-Some-noted_step.cause) = ap (λ (v : PictureView). noted_step v.wrong reason.stop) (sym a.1) ∙ sym c.noted_step.ensures ∙ c.in-Some-noted_step.is in
    let known = noted_known k.0.irps k.1.wrong reason.stop c.in-Some-noted_step.step c.in-Some-noted_step.cause (stopped_known k.0 _ c.args.line.bytes.now reason.stop came.0) goes in
    let P : ℕ → Type 0 = λ n. OfIrp (λ i. number i < n) c.in-Some-noted_step.step.kind in
    subst P (sym a.0.all.count) known

pub write_stop-requires-clause-irps : goal.write_stop-requires-clause-irps
write_stop-requires-clause-irps g c =
    let (k, d, a) = c.requires in
    let most = a.0.follows.limits.1 in
    omega (arith, most, owners_count _ k.0 d a.0)

pub write_stop-requires-clause-few : goal.write_stop-requires-clause-few
write_stop-requires-clause-few g c =
    let (k, d, a) = c.requires in
    let came = was_stopped k.0 d.own c.args.line.number c.args.line.bytes.now _ c.in-Stopped.reason (c.in-Stopped.ensures k.0 d.own a.0.follows) in
    let most = a.0.follows.limits.3 in
    omega (arith, most, ap length came.2.passes, length-passes k.0 d.own)

pub returns-in_ok-note-in-Skipped : goal.returns-in_ok-note-in-Skipped
returns-in_ok-note-in-Skipped g c = λ k d a.
    let came = was_skipped k.0 d.own c.args.line.number c.args.line.bytes.now _ (c.in-Skipped.ensures k.0 d.own a.0.follows) in (
      [],
      sym (append-nil _),
      (
        Some d,
        (Skipped, came.0, refl, refl),
        (record { follows = came.1; rows = a.0.rows; owned = a.0.owned; all = a.0.all; numbered = a.0.numbered; since = a.0.since; kept = a.0.kept }, a.1),
      ),
    )

pub returns-in_ok-note_kept-in-None : goal.returns-in_ok-note_kept-in-None
returns-in_ok-note_kept-in-None g c = λ k d a.
    let size = k.0 in
    let n = c.args.line.number in
    let line = c.args.line.bytes.now in
    let step = c.in-Accepted.step in
    let W = d.kept in
    let w : Numbered = record { line = n; step = step.made } in
    let none = sym a.0.since ∙ c.in-None.is in
    let kept = a.0.kept none in
    let follows = kept_follows c.args.self.now size d a.0 none in
    let shown = kept_shows c.args.self.now size d a.0 none in
    let own = was_accepted size d.own n line _ step (c.in-Accepted.ensures size d.own a.0.follows) in
    let came = was_accepted size W n line _ step (c.in-Accepted.ensures size W follows) in
    let noted = c.in_ok-note_kept-in-None.ensures in
    let Q : Execution _ → Type 0 = λ x. Follows size x (w ∷ d.own) in
    let held = c.lock_of-held.ensures ∙ ap lock_of (c.deref.ensures.value ∙ follows.passes) in
    let (words, are, notes) = noted.noted in
    let shows = shows_more size _ _ w W shown step _ words _ _ notes came.1 came.0.1.known.0.irp held _ came.2.same came.2.agrees are in
    let rows = shows.shown_rows ∙ sym (append-nil (rows_of size (w ∷ W))) ∙ sym (ap (λ bs. rows_of size (w ∷ W) ++ bs) kept.1) in (
      [],
      sym (append-nil _),
      (
        Some (after_accepted d n step.made None),
        (Accepted step.made, own.0, ap (λ r. Some (after_accepted d n step.made r)) (sym none), refl),
        (
          record {
            follows = subst Q (sym noted.execution) own.2;
            rows = rows;
            owned = shows.shown_owners;
            all = noted.order size.irps d.steps a.0.all;
            numbered = row_more _ _ _ (record { line = n; made = step.made }) d.steps notes.noted_rows a.0.numbered;
            since = noted.refusal ∙ c.in-None.is;
            kept = λ h. (ap (λ x. w ∷ x) kept.0, kept.1);
          },
          noted.view ∙ a.1,
        ),
      ),
    )

pub returns-in_ok-note_by_words-in-Some : goal.returns-in_ok-note_by_words-in-Some
returns-in_ok-note_by_words-in-Some g c = λ k d a.
    let size = k.0 in
    let n = c.args.line.number in
    let made = c.in-Accepted.step.made in
    let some = sym a.0.since ∙ c.in-Some.is in
    let came = was_accepted size d.own n c.args.line.bytes.now _ c.in-Accepted.step (c.in-Accepted.ensures size d.own a.0.follows) in
    let noted = c.in_ok-note_by_words-in-Some.ensures in
    let P : Execution _ → Type 0 = λ x. Follows size x (record { line = n; step = made } ∷ d.own) in
    let row : ℕ → List Row = λ m. wrong_row d.steps m (by_words d.steps n made.pass made.kind) Later ∷ [] in
    let added = noted.rows size.irps d.steps a.0.all in
    let rows = added ∙ ap (λ rs. rs ++ row (length c.args.self.now.rows.items)) a.0.rows ∙ ap (λ m. drawn_rows size d ++ row m) a.0.numbered ∙ append_assoc (rows_of size d.kept) d.later (row (length d.steps)) in (
      [],
      sym (append-nil _),
      (
        Some (after_accepted d n made (Some _)),
        (Accepted made, came.0, ap (λ r. Some (after_accepted d n made r)) (sym some), refl),
        (
          record {
            follows = subst P (sym noted.execution) came.2;
            rows = rows;
            owned = ap (λ os. os.items) noted.owners ∙ a.0.owned;
            all = noted.order size.irps d.steps a.0.all;
            numbered = row_more _ _ _ (by_words d.steps n made.pass made.kind) d.steps added a.0.numbered;
            since = noted.refusal ∙ c.in-Some.is;
            kept = λ h. absurd (cc h);
          },
          noted.view ∙ a.1,
        ),
      ),
    )

pub returns-in_ok-note_refused-in-Some-noted_step : goal.returns-in_ok-note_refused-in-Some-noted_step
returns-in_ok-note_refused-in-Some-noted_step g c = λ k d a.
    let size = k.0 in
    let n = c.args.line.number in
    let reason = c.in-Stopped.reason in
    let step = c.in-Some-noted_step.step in
    let cause = c.in-Some-noted_step.cause in
    let self = c.args.self.now in
    let came = was_stopped size d.own n c.args.line.bytes.now _ reason (c.in-Stopped.ensures size d.own a.0.follows) in
    let goes : noted_step k.1.wrong reason.stop ≡ Some (step, cause) = ap (λ (v : PictureView). noted_step v.wrong reason.stop) (sym a.1) ∙ sym c.noted_step.ensures ∙ c.in-Some-noted_step.is in
    let due = reason_at size d reason.stop in
    let noted = c.in_ok-note_refused-in-Some-noted_step.ensures in
    let P : Execution _ → Type 0 = λ x. Follows size x d.own in
    let row : ℕ → Option FirstRefusal → List Row = λ m r. wrong_row d.steps m (by_words d.steps n step.pass step.kind) (legality_of r cause) ∷ [] in
    let added = noted.rows size.irps d.steps a.0.all in
    let count = length self.rows.items in
    let rows = added ∙ ap (λ rs. rs ++ row count self.refusal) a.0.rows ∙ ap (λ m. drawn_rows size d ++ row m self.refusal) a.0.numbered ∙ ap (λ r. drawn_rows size d ++ row (length d.steps) r) a.0.since
    ∙ append_assoc (rows_of size d.kept) d.later (row (length d.steps) d.refusal) in
    let first : Option FirstRefusal → ℕ → Option FirstRefusal = λ r m. Some (first_refusal r (record { line = n; row = m; reason = reason })) in (
      [],
      sym (append-nil _),
      (
        Some (after_refused d n step cause reason),
        (
          Stopped reason.stop,
          came.0,
          ap (λ r. Some (after_refused d n step cause r)) came.1 ∙ sym (ap (after_stopped d n due) goes),
          refl,
        ),
        (
          record {
            follows = subst P (sym noted.execution) came.2;
            rows = rows;
            owned = ap (λ os. os.items) noted.owners ∙ a.0.owned;
            all = noted.order size.irps d.steps a.0.all;
            numbered = row_more _ _ _ (by_words d.steps n step.pass step.kind) d.steps added a.0.numbered;
            since = noted.refusal ∙ ap (λ r. first r count) a.0.since ∙ ap (first d.refusal) a.0.numbered;
            kept = λ h. absurd (cc h);
          },
          noted.view ∙ a.1,
        ),
      ),
    )

pub returns-in_ok-write_stop-in-None-noted_step : goal.returns-in_ok-write_stop-in-None-noted_step
returns-in_ok-write_stop-in-None-noted_step g c = λ k d a.
    let n = c.args.line.number in
    let reason = c.in-Stopped.reason in
    let came = was_stopped k.0 d.own n c.args.line.bytes.now _ reason (c.in-Stopped.ensures k.0 d.own a.0.follows) in
    let ends : noted_step k.1.wrong reason.stop ≡ None = ap (λ (v : PictureView). noted_step v.wrong reason.stop) (sym a.1) ∙ sym c.noted_step.ensures ∙ c.in-None-noted_step.is in
    let (added, grew) = c.in_ok-write_stop-in-None-noted_step.ensures in
    (added, grew, (None, (Stopped reason.stop, came.0, sym (ap (after_stopped d n (reason_at k.0 d reason.stop)) ends), tt), (came.0, came.1)))
