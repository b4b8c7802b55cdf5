-- What a drawing shows.
use Rattle.std.proofs.Common.{◌≡◌, ◌<◌, ℕ, ◌+◌, Bool, true, false, cond, List, [], ◌∷◌, ◌++◌, length, replicate, Option, None, Some, refl, ap, sym, ◌∙◌, subst, append-nil, length-append, add-one}
use Rattle.irp_core.specs.declared.refusals.StepRefused.{StepRefused}
use Rattle.irp_core.specs.declared.step.Step.{Step}
use Rattle.irp_core.proofs.Names.{same_some}
use Rattle.csq_replay.specs.declared.schedule.outcome.Stop.{Stop, TheVariants.{Refused}}
use Rattle.csq_explain.specs.declared.passes.PassNow.{PassNow}
use Rattle.csq_explain.specs.Executions.{Follows}
use Rattle.csq_explain.specs.WrongOrders.{IsOfKnown, goes_on}
use Rattle.csq_draw.specs.declared.drawing.Drawing.{Drawing}
use Rattle.csq_draw.specs.declared.refusals.FirstRefusal.{FirstRefusal}
use Rattle.csq_draw.specs.Refusals.{noted_step}
use Rattle.csq_draw.specs.Rows.{rows_of}
use Rattle.csq_draw.specs.WrongRows.{makers, shown_makers}
use Rattle.csq_draw.specs.Pictures.{Shown}
use Rattle.csq_draw.proofs.Imports.{DrawingStands, Drawn, IrpNow, Numbered, OfIrp, Row, Shows, Size, all_passes, drawn_rows, drawn_shown, irps_after, irps_of, new_irp, number, option_map, run_of}
use Rattle.csq_draw.proofs.Showing.{length-owners, same_shown, showing}
use Rattle.csq_draw.proofs.WrongLaws.{length-makers}

module _ {A : Type 0} (w : Drawing A) (size : Size) (d : Drawn) (stands : DrawingStands w size d) where
  -- how many owners it has
  pub owners_count : length w.owners.items ≡ size.irps
  owners_count = ap length stands.owned ∙ length-owners size.irps (run_of d.kept)

  -- as long as the protocol is kept: its rows, and that its execution and its rows are those of the steps
  pub kept_rows : d.refusal ≡ None → w.rows.items ≡ rows_of size d.kept
  kept_rows none = stands.rows ∙ ap (λ bs. rows_of size d.kept ++ bs) (stands.kept none).1 ∙ append-nil (rows_of size d.kept)

  pub kept_follows : d.refusal ≡ None → Follows size w.execution d.kept
  kept_follows none = let P : List Numbered → Type 0 = λ W. Follows size w.execution W in subst P (stands.kept none).0 stands.follows

  pub kept_shows : d.refusal ≡ None → Shows size w.rows.items w.owners.items d.kept
  kept_shows none = record { shown_rows = kept_rows none; shown_owners = stands.owned }

  abbrev fresh : List IrpNow
  fresh = replicate (length w.owners.items) new_irp

  fresh_are : fresh ≡ replicate size.irps new_irp
  fresh_are = ap (λ n. replicate n new_irp) owners_count

  -- what is known of the IRPs is what the steps say
  pub kept_irps : d.refusal ≡ None → irps_after fresh w.rows.items ≡ irps_of size d.kept
  kept_irps none = ap (λ xs. irps_after xs w.rows.items) fresh_are ∙ ap (irps_after (replicate size.irps new_irp)) (kept_rows none)

  -- with the passes and IRPs that its rows say, it shows what the lines led to
  pub drawn_is : showing (option_map (λ (x : FirstRefusal). x.row) w.refusal) (shown_makers w.refusal w.execution.passes.items w.rows.items) (irps_after fresh w.rows.items) w.rows.items w.owners.items ≡ drawn_shown size d d.refusal
  drawn_is = ap shows stands.since ∙ go d.refusal refl
    where
      shows : Option FirstRefusal → Shown
      shows r = showing (option_map (λ (x : FirstRefusal). x.row) r) (shown_makers r w.execution.passes.items w.rows.items) (irps_after fresh w.rows.items) w.rows.items w.owners.items

      go : (r : Option FirstRefusal) → d.refusal ≡ r → shows r ≡ drawn_shown size d r
      go None none = same_shown None _ _ _ _ _ _ _ _ (kept_follows none).passes (kept_irps none) (kept_rows none) stands.owned
      go (Some refusal) some =
          let made = ap (λ ps. makers ps w.rows.items) stands.follows.passes ∙ ap (makers (all_passes size d.own)) stands.rows in
          let known = ap (λ xs. irps_after xs w.rows.items) fresh_are ∙ ap (irps_after (replicate size.irps new_irp)) stands.rows in
          same_shown (Some refusal.row) _ _ _ _ _ _ _ _ made known stands.rows stands.owned

-- no pass is added
pub length-shown_makers : (refusal : Option FirstRefusal) (passes : List PassNow) (rows : List Row) → length (shown_makers refusal passes rows) ≡ length passes
length-shown_makers None passes rows = refl
length-shown_makers (Some refusal) passes rows = length-makers passes rows

-- the step that an order goes on after is of an IRP that there is
pub noted_known : (irps : ℕ) (wrong : Bool) (stop : Stop) (step : Step) (cause : StepRefused) → IsOfKnown irps stop → noted_step wrong stop ≡ Some (step, cause) → OfIrp (λ i. number i < irps) step.kind
noted_known irps true (Refused s c) step cause known e = go (goes_on (Refused s c)) refl e
  where
    go : (b : Bool) → goes_on (Refused s c) ≡ b → cond {A = Option (Step × StepRefused)} b (Some (s, c)) None ≡ Some (step, cause) → OfIrp (λ i. number i < irps) step.kind
    go true on e = let same : s ≡ step = ap (λ (x : Step × StepRefused). x.0) (same_some (s, c) (step, cause) e) in subst (λ (x : Step). OfIrp (λ i. number i < irps) x.kind) same (known on)
    go false on e = absurd cc
noted_known irps false (Refused s c) step cause known e = absurd cc
noted_known irps wrong stop step cause known e = absurd cc

-- one row more, and one step more
pub row_more : {A B : Type 0} (new rows : List A) (row : A) (x : B) (xs : List B) → new ≡ rows ++ row ∷ [] → length rows ≡ length xs → length new ≡ length (x ∷ xs)
row_more new rows row x xs is same = ap length is ∙ length-append rows (row ∷ []) ∙ ap (λ n. n + 1) same ∙ add-one (length xs)
