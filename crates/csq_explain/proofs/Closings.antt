-- The closing lines of an explanation.
use Rattle.std.proofs.Common.{◌≡◌, ℕ, ◌+◌, ◌<◌, ◌≤◌, Bool, true, false, cond, ◌⊎◌, inl, inr, List, [], ◌∷◌, ◌++◌, take, length, get_or, append_assoc, append-nil, refl, ap, sym, ◌∙◌, codes}
use Rattle.std.proofs.lemmas.List.{take_all, take_more}
use Rattle.csq_explain.proofs.Imports.{IrpLine, Size, Skipped, Numbered, run_of, irp_line_text, claim_line, grew_more, remark, explained_irps, explained_claims, claim_remark, Made, same_irp-refl}
use Rattle.csq_replay.proofs.Closings.{lines-append}
use Rattle.csq_replay.specs.declared.schedule.outcome.Outcome.{Outcome}
use Rattle.csq_replay.specs.Schedule.{Closes, answer_text, rest_text, claim_lines}
use Rattle.csq_explain.specs.Explaining.{line_remark}
use Rattle.csq_explain.specs.Explanations.{line_text, irps_text, rest_line, noted_claims, noted_claim, IsTextClosing}
use Rattle.csq_replay.specs.Lines.{GrewBy}
use Rattle.csq_explain.specs.Endings.{irp_sentence, rest_sentence}
use Rattle.irp_core.specs.declared.ids.IrpLife.{IrpLife}
use Rattle.irp_core.specs.declared.step.Kind.TheVariants.{Disarm, Take}
use Rattle.irp_core.specs.Texts.{name_text, pass_text}

explained-append : (xs ys : List IrpLine) → explained_irps (xs ++ ys) ≡ explained_irps xs ++ explained_irps ys
explained-append [] ys = refl
explained-append (x ∷ xs) ys = ap (λ t. ((irp_line_text x ++ codes "\n") ++ remark (irp_sentence x)) ++ t) (explained-append xs ys)
    ∙ sym (append_assoc ((irp_line_text x ++ codes "\n") ++ remark (irp_sentence x)) (explained_irps xs) (explained_irps ys))

irps-append : (b : Bool) (xs ys : List IrpLine) → irps_text b (xs ++ ys) ≡ irps_text b xs ++ irps_text b ys
irps-append true xs ys = explained-append xs ys
irps-append false xs ys = lines-append xs ys

irp_alone : (b : Bool) (x : IrpLine) → irps_text b (x ∷ []) ≡ (irp_line_text x ++ codes "\n") ++ cond b (remark (irp_sentence x)) []
irp_alone true x = append-nil ((irp_line_text x ++ codes "\n") ++ remark (irp_sentence x))
irp_alone false x = refl

-- one more line was written, and a sentence where it is asked for
pub grew_irp : (b : Bool) (xs : List IrpLine) (k : ℕ) (d : IrpLine) (old before between new : List ℕ) → k < length xs → GrewBy old before (irps_text b (take k xs))
    → GrewBy before between (irp_line_text (get_or xs k d) ++ codes "\n") → GrewBy between new (cond b (remark (irp_sentence (get_or xs k d))) []) → GrewBy old new (irps_text b (take (k + 1) xs))
grew_irp b xs k d old before between new lt a line sentence =
    let x : IrpLine = get_or xs k d in
    let last : List ℕ = (irp_line_text (get_or xs k d) ++ codes "\n") ++ cond b (remark (irp_sentence (get_or xs k d))) [] in
    let whole : irps_text b (take (k + 1) xs) ≡ irps_text b (take k xs) ++ last =
    ap (irps_text b) (take_more xs k d lt) ∙ irps-append b (take k xs) (get_or xs k d ∷ []) ∙ ap (λ t. irps_text b (take k xs) ++ t) (irp_alone b (get_or xs k d)) in
    grew_more old before new (irps_text b (take k xs)) last a
    (grew_more before between new (irp_line_text (get_or xs k d) ++ codes "\n") (cond b (remark (irp_sentence (get_or xs k d))) []) line sentence) ∙ ap (λ t. old ++ t) (sym whole)

-- the sentence on a claim
pub claimed_remark : (m : Made) (i : IrpLife) → (m.kind ≡ Disarm i) ⊎ (m.kind ≡ Take i) → m.found ≡ 1
    → claim_remark m ≡ codes "  IRP " ++ (name_text i ++ (codes " was claimed by " ++ (pass_text m.pass ++ codes ", whose exchange found the cancel routine\n")))
claimed_remark m i (inl kind) found = rw (kind, same_irp-refl i, found) refl
claimed_remark m i (inr kind) found = rw (kind, same_irp-refl i, found) refl

-- the answer to a line, and a sentence where it is asked for
pub line_is : (b : Bool) (size : Size) (W : List Numbered) (n : ℕ) (line : List ℕ) (comes : Outcome) → answer_text W n line comes ++ cond b (line_remark size W comes) [] ≡ line_text b size W n line comes
line_is true size W n line comes = refl
line_is false size W n line comes = append-nil (answer_text W n line comes)

pub skipped_is : (b : Bool) (size : Size) (W : List Numbered) (n : ℕ) (line : List ℕ) → [] ≡ line_text b size W n line Skipped
skipped_is true size W n line = refl
skipped_is false size W n line = refl

-- whether all is at rest, and a sentence where it is asked for
pub rest_is : (b rest : Bool) → (rest_text rest ++ codes "\n") ++ cond b (remark (rest_sentence rest)) [] ≡ rest_line b rest
rest_is true rest = refl
rest_is false rest = append-nil (rest_text rest ++ codes "\n")

-- the claims, with one more
pub claims_more : (b : Bool) (w : Numbered) (W : List Numbered) → noted_claims b W ++ noted_claim b w ≡ noted_claims b (w ∷ W)
claims_more true w W = sym (append_assoc (explained_claims W) (claim_line w) (claim_remark w.step))
claims_more false w W = ap (λ t. claim_lines W ++ t) (append-nil (claim_line w))

-- what is written in the end
pub closing_is : (b : Bool) (size : Size) (claims : Bool) (W : List Numbered) (reported : List IrpLine) (rest : Bool) → Closes size (run_of W) reported rest
    → IsTextClosing b size claims W (irps_text b reported ++ (rest_line b rest ++ cond claims (noted_claims b W) []))
closing_is true size claims W reported rest closes = (reported, rest, closes, refl)
closing_is false size claims W reported rest closes = (reported, rest, closes, refl)

-- all were
pub grew_irps : (b : Bool) (xs : List IrpLine) (k : ℕ) (old new : List ℕ) → length xs ≤ k → GrewBy old new (irps_text b (take k xs)) → GrewBy old new (irps_text b xs)
grew_irps b xs k old new le a = a ∙ ap (λ ys. old ++ irps_text b ys) (take_all k xs le)
