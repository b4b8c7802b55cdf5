-- What a schedule led to, as it is drawn: up to the first refused step by its execution, and from there on, if the drawing goes on, by the two words of each IRP alone.
use Rattle.std.specs.Prelude.{◌≡◌, ℕ, Bool, List, [], ◌∷◌, ◌++◌, length, replicate, Option, Some, None, IfSome, slice_index_or, slice_set}
use Rattle.std.specs.Option.{option_map_or}
use Rattle.irp_core.specs.declared.ids.PassId.{PassId}
use Rattle.irp_core.specs.declared.refusals.StepRefused.{StepRefused}
use Rattle.irp_core.specs.declared.step.{Kind.{Kind}, Made.{Made}, Step.{Step}}
use Rattle.irp_core.specs.Runs.{Size}
use Rattle.irp_core.specs.Steps.{number, name_of}
use Rattle.csq_replay.specs.declared.schedule.closing.IrpLine.{IrpLine}
use Rattle.csq_replay.specs.declared.schedule.outcome.{Outcome.{Outcome, TheVariants.{Skipped, Accepted, Stopped}}, Stop.{Stop}}
use Rattle.csq_replay.specs.Lines.{GrewBy}
use Rattle.csq_replay.specs.Outcomes.{ComesTo}
use Rattle.csq_replay.specs.Schedule.{Closes, Numbered, run_of}
use Rattle.csq_explain.specs.declared.line_steps.LineStep.{LineStep}
use Rattle.csq_explain.specs.declared.reasons.Reason.{Reason}
use Rattle.csq_explain.specs.declared.sentences.StepInCall.{StepInCall}
use Rattle.csq_explain.specs.declared.word_values.WordValues.{WordValues}
use Rattle.csq_explain.specs.Executions.{Follows}
use Rattle.csq_explain.specs.Harms.{harms_of}
use Rattle.csq_explain.specs.LineSteps.{by_words}
use Rattle.csq_explain.specs.Orders.{OrderStands}
use Rattle.csq_explain.specs.Passes.{all_passes}
use Rattle.csq_explain.specs.Reasons.{reason_of}
use Rattle.csq_draw.specs.declared.drawing.Drawing.{Drawing}
use Rattle.csq_draw.specs.declared.refusals.FirstRefusal.{FirstRefusal}
use Rattle.csq_draw.specs.declared.marks.Legality.{Legality, TheVariants.{Legal, Later}}
use Rattle.csq_draw.specs.declared.owners.Owner.{Owner}
use Rattle.csq_draw.specs.declared.rows.Row.{Row}
use Rattle.csq_draw.specs.declared.view.PictureView.{PictureView}
use Rattle.csq_draw.specs.Irps.{irps_after, new_irp}
use Rattle.csq_draw.specs.Owners.{owner_after, ended_by, owners}
use Rattle.csq_draw.specs.Passes.{lock_at}
use Rattle.csq_draw.specs.Pictures.{EndShown, Shown, broken_end, close_of, steps_shown}
use Rattle.csq_draw.specs.Refusals.{first_refusal, legality_of, noted_step}
use Rattle.csq_draw.specs.Rows.{rows_of}
use Rattle.csq_draw.specs.WrongRows.{makers, wrong_row}

-- the row of a step after these, from the refused one on
abbrev pub later_row : List LineStep → LineStep → Legality → Row
later_row V x legality = wrong_row V (length V) x legality

-- what a schedule led to: the steps that the protocol allows up to the first refused one; the steps of the execution, which leaves out what it refuses, and all steps, the newest first; the rows from the refused one on; and the refusal
pub record Drawn : Type 0 where
  pub kept : List Numbered
  pub own : List Numbered
  pub steps : List LineStep
  pub later : List Row
  pub refusal : Option FirstRefusal

-- before the first line
abbrev pub new_drawn : Drawn
new_drawn = record { kept = []; own = []; steps = []; later = []; refusal = None }

-- after the step of the nth line that the execution makes: as it makes it, and after a refusal by the words
abbrev pub after_accepted : Drawn → ℕ → Made → Option FirstRefusal → Drawn
after_accepted d n m None = record {
  kept = record { line = n; step = m } ∷ d.kept;
  own = record { line = n; step = m } ∷ d.own;
  steps = record { line = n; made = m } ∷ d.steps;
  later = d.later;
  refusal = None;
}
after_accepted d n m (Some refusal) = record {
  kept = d.kept;
  own = record { line = n; step = m } ∷ d.own;
  steps = by_words d.steps n m.pass m.kind ∷ d.steps;
  later = d.later ++ later_row d.steps (by_words d.steps n m.pass m.kind) Later ∷ [];
  refusal = Some refusal;
}

-- after one that it refuses for this reason: by the words
abbrev pub after_refused : Drawn → ℕ → Step → StepRefused → Reason → Drawn
after_refused d n s cause reason = record {
  kept = d.kept;
  own = d.own;
  steps = by_words d.steps n s.pass s.kind ∷ d.steps;
  later = d.later ++ later_row d.steps (by_words d.steps n s.pass s.kind) (legality_of d.refusal cause) ∷ [];
  refusal = Some (first_refusal d.refusal (record { line = n; row = length d.steps; reason = reason }));
}

-- after a line at which it stops for this reason, if the drawing goes on after it
abbrev pub after_stopped : Drawn → ℕ → Reason → Option (Step × StepRefused) → Option Drawn
after_stopped d n reason (Some x) = Some (after_refused d n x.0 x.1 reason)
after_stopped d n reason None = None

-- why it stops there
abbrev pub reason_at : Size → Drawn → Stop → Reason
reason_at size d stop = reason_of size d.own stop

-- what the nth line leads to
abbrev pub drawn_after : Size → Bool → Drawn → ℕ → Outcome → Option Drawn
drawn_after size wrong d n Skipped = Some d
drawn_after size wrong d n (Accepted m) = Some (after_accepted d n m d.refusal)
drawn_after size wrong d n (Stopped stop) = after_stopped d n (reason_at size d stop) (noted_step wrong stop)

-- the rows of all steps
abbrev pub drawn_rows : Size → Drawn → List Row
drawn_rows size d = rows_of size d.kept ++ d.later

-- what an order shows that broke the protocol so: each pass that makes a step of a row has a column, and the owners are those as it was broken
abbrev pub order_shown : Size → Drawn → FirstRefusal → Shown
order_shown size d refusal = record {
  passes = makers (all_passes size d.own) (drawn_rows size d);
  irps = irps_after (replicate size.irps new_irp) (drawn_rows size d);
  rows = drawn_rows size d;
  owners = owners size.irps (run_of d.kept);
  refused = Some refusal.row;
}

-- what is shown: the steps, or the order once it broke the protocol
abbrev pub drawn_shown : Size → Drawn → Option FirstRefusal → Shown
drawn_shown size d (Some refusal) = order_shown size d refusal
drawn_shown size d None = steps_shown size d.kept

-- how the picture ends if all lines were handled: with what is reported in the end, or with what goes wrong
abbrev pub EndsAs : Size → Drawn → Option FirstRefusal → EndShown → Type 0
EndsAs size d (Some refusal) e = e ≡ broken_end refusal.line refusal.reason (harms_of size.irps d.steps)
EndsAs size d None e = (reported : List IrpLine) × (at_rest : Bool) × Closes size (run_of d.kept) reported at_rest × (e ≡ close_of size d.kept reported at_rest)

-- a line is noted by a drawing that goes on after refused steps or not: it leads on as the execution says, and is then answered nothing
abbrev pub NotesLine : Size → Bool → Drawn → ℕ → List ℕ → List ℕ → Option Drawn → Type 0
NotesLine size wrong d n line text more = (comes : Outcome) × ComesTo size (run_of d.own) line comes × (more ≡ drawn_after size wrong d n comes) × IfSome more (λ next. text ≡ [])

-- a text grew
abbrev pub Grew : List ℕ → List ℕ → Type 0
Grew old new = (added : List ℕ) × GrewBy old new added

-- of these owners the one of the IRP that a step of this kind names
abbrev pub owner_in : List (Option Owner) → Kind → Option Owner
owner_in os k = option_map_or (λ i. slice_index_or os (number i) None) (name_of k) None

-- the owners after a step on this row
abbrev pub with_owner : List (Option Owner) → Made → ℕ → List (Option Owner)
with_owner os m row = option_map_or (λ i. slice_set os (number i) (owner_after os (slice_index_or os (number i) None) m row)) (name_of m.kind) os

-- rows and owners are those of the steps W
pub record Shows (size : Size) (rows : List Row) (os : List (Option Owner)) (W : List Numbered) : Type 0 where
  pub shown_rows : rows ≡ rows_of size W
  pub shown_owners : os ≡ owners size.irps (run_of W)

-- a step that this line names was noted, before which this pass had the lock, and after which its IRP has these words
pub record NotesStep (rows : List Row) (os : List (Option Owner)) (line : ℕ) (step : StepInCall) (held : Option PassId) (words : Option WordValues) (new_rows : List Row) (new_owners : List (Option Owner)) : Type 0 where
  pub noted_rows : new_rows ≡ rows ++ record {
    row = length rows;
    line = line;
    step = step;
    legality = Legal;
    lock = lock_at held step.made;
    ended = ended_by step.made.kind (owner_in os step.made.kind);
    words = words;
  } ∷ []
  pub noted_owners : new_owners ≡ with_owner os step.made (length rows)

-- a drawing stands where the lines so far of a schedule of this size led to; as long as the protocol is kept, the execution is what is drawn
pub record DrawingStands {A : Type 0} (drawing : Drawing A) (size : Size) (d : Drawn) : Type 0 where
  pub follows : Follows size drawing.execution d.own
  pub rows : drawing.rows.items ≡ drawn_rows size d
  pub owned : drawing.owners.items ≡ owners size.irps (run_of d.kept)
  pub all : OrderStands drawing.order size.irps d.steps
  pub numbered : length drawing.rows.items ≡ length d.steps
  pub since : drawing.refusal ≡ d.refusal
  pub kept : d.refusal ≡ None → (d.own ≡ d.kept) × (d.later ≡ [])

-- and it is of this view
abbrev pub StandsInView : {A : Type 0} → Drawing A → Size × PictureView → Drawn → Type 0
StandsInView drawing kind d = DrawingStands drawing kind.0 d × (drawing.view ≡ kind.1)
