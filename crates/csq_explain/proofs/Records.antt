-- What is known of an IRP in its present life: its words are those that steps are followed by.
use Rattle.std.proofs.Common.{◌≡◌, ◌+◌, Bool, true, false, cond, List, [], ◌∷◌, refl, ap, ◌∙◌, nat_lt}
use Rattle.irp_core.specs.declared.ids.IrpId.{IrpId}
use Rattle.irp_core.specs.declared.step.{Kind.{Kind, TheVariants.{Renew}}}
use Rattle.irp_core.specs.Lives.{last_life}
use Rattle.irp_core.specs.Standings.{names}
use Rattle.irp_core.specs.Steps.{life_of}
use Rattle.csq_explain.specs.declared.irp_record.IrpRecord.{IrpRecord}
use Rattle.csq_explain.specs.declared.line_steps.LineStep.{LineStep}
use Rattle.csq_explain.specs.IrpRecords.{moved, new_record, record_after}
use Rattle.csq_explain.specs.LineSteps.{made_in}
use Rattle.csq_explain.specs.WordValues.{changed, clear_words, words_after, words_with}

renewed_words : (r : IrpRecord) (b : Bool) → (cond b (new_record r.words.name.irp (life_of r.words.name + 1)) r).words ≡ cond b (clear_words r.words.name.irp (life_of r.words.name + 1)) r.words
renewed_words r true = refl
renewed_words r false = refl

moved_words : (r : IrpRecord) (x : LineStep) (k : Kind) → (moved r x k).words ≡ changed r.words k
moved_words r x (Renew i) = renewed_words r (nat_lt (life_of r.words.name) last_life)
moved_words r x k = refl

words_with_is : (r : IrpRecord) (x : LineStep) (b : Bool) → (cond b (moved r x x.made.kind) r).words ≡ cond b (changed r.words x.made.kind) r.words
words_with_is r x true = moved_words r x x.made.kind
words_with_is r x false = refl

pub words_recorded : (V : List LineStep) (n : IrpId) → (record_after V n).words ≡ words_after (made_in V) n
words_recorded [] n = refl
words_recorded (x ∷ V) n =
    words_with_is (record_after V n) x (names (record_after V n).words.name x.made.kind)
    ∙ ap (λ w. words_with w x.made.kind) (words_recorded V n)

-- a record stays its IRP's
renewed_irp : (r : IrpRecord) (b : Bool) → (cond b (new_record r.words.name.irp (life_of r.words.name + 1)) r).words.name.irp ≡ r.words.name.irp
renewed_irp r true = refl
renewed_irp r false = refl

moved_irp : (r : IrpRecord) (x : LineStep) (k : Kind) → (moved r x k).words.name.irp ≡ r.words.name.irp
moved_irp r x (Renew i) = renewed_irp r (nat_lt (life_of r.words.name) last_life)
moved_irp r x k = refl

irp_with : (r : IrpRecord) (x : LineStep) (b : Bool) → (cond b (moved r x x.made.kind) r).words.name.irp ≡ r.words.name.irp
irp_with r x true = moved_irp r x x.made.kind
irp_with r x false = refl

pub irp_recorded : (V : List LineStep) (n : IrpId) → (record_after V n).words.name.irp ≡ n
irp_recorded [] n = refl
irp_recorded (x ∷ V) n = irp_with (record_after V n) x (names (record_after V n).words.name x.made.kind) ∙ irp_recorded V n
