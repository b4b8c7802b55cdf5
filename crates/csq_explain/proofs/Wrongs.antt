-- Orders that may break the protocol, line by line.
use Rattle.std.proofs.Common.{◌≡◌, ℕ, ◌+◌, ◌<◌, ◌≤◌, ⊎_elim, arith, Bool, true, false, cond, Option, Some, None, subst, List, [], ◌∷◌, ◌++◌, length, get_or, take, append-nil, append_assoc, ap, sym, ◌∙◌, codes}
use Rattle.std.proofs.lemmas.Bool.{cases_lt}
use Rattle.std.proofs.lemmas.List.{take_more, take_all}
use Rattle.irp_core.specs.declared.refusals.StepRefused.TheVariants.{UnknownIrp, UnknownPass}
use Rattle.irp_core.specs.declared.step.{Kind.{Kind, TheVariants.{Arm, Test, Disarm, End, Flag, Take, Out, Done, Renew, Rearm}}, Made.{Made}}
use Rattle.irp_core.specs.Runs.{OfIrp, Size}
use Rattle.irp_core.specs.Steps.{number}
use Rattle.csq_replay.specs.declared.schedule.outcome.{Outcome.TheVariants.{Stopped}, Stop.{Stop, TheVariants.{TooLong, Malformed, Refused}}}
use Rattle.csq_replay.specs.Outcomes.{ComesTo}
use Rattle.csq_replay.proofs.Closings.{grew_more}
use Rattle.csq_replay.specs.Lines.{GrewBy, Leaves}
use Rattle.csq_explain.specs.declared.harms.HarmAt.{HarmAt}
use Rattle.csq_explain.specs.declared.reasons.Reason.{Reason}
use Rattle.csq_explain.specs.Harms.{harm_text}
use Rattle.csq_explain.specs.declared.line_steps.LineStep.{LineStep}
use Rattle.csq_explain.specs.declared.order.Order.{Order}
use Rattle.csq_explain.specs.Orders.{OrderStands}
use Rattle.csq_explain.specs.WrongOrders.{IsOfKnown, accepted_step, Wrong, goes_on, harms_text, why_ended}

-- a line that the execution stops at leaves the order at what it led to, or ends the handling
pub stopped_leaves : (stands : Wrong → Type 0) (fits : Reason → Type 0) (d : Wrong) (reason : Reason) (why : Option Reason) → why ≡ why_ended reason → stands d → fits reason → Leaves stands fits why (cond (goes_on reason.stop) (Some d) None)
stopped_leaves stands fits d reason why is s f = subst (λ (x : Option Reason). Leaves stands fits x (cond (goes_on reason.stop) (Some d) None)) (sym is) (go (goes_on reason.stop))
  where
    go : (b : Bool) → Leaves stands fits (cond b None (Some reason)) (cond b (Some d) None)
    go true = s
    go false = f

below : (n m : ℕ) → (¬ ¬ (n < m)) → n < m
below n m h = ⊎_elim (λ lt. lt) (λ le. absurd (h (λ lt. omega (arith, lt, le)))) (cases_lt n m)

-- the line of the first refused step is another number
pub stands_since : {A : Type 0} (order : Order A) (irps : ℕ) (V : List LineStep) (b c n : ℕ) (m : Made) → b ≡ c → OrderStands order irps (accepted_step V b n m ∷ V) → OrderStands order irps (accepted_step V c n m ∷ V)
stands_since order irps V b c n m e stands = subst (λ x. OrderStands order irps (accepted_step V x n m ∷ V)) e stands

-- that a kind's IRP is below a number can be decided
of_known : (irps : ℕ) (k : Kind) → (¬ ¬ OfIrp (λ i. number i < irps) k) → OfIrp (λ i. number i < irps) k
of_known irps (Arm i) h = below (number i) irps h
of_known irps (Test i) h = below (number i) irps h
of_known irps (Disarm i) h = below (number i) irps h
of_known irps End h = tt
of_known irps (Flag i) h = below (number i) irps h
of_known irps (Take i) h = below (number i) irps h
of_known irps (Out i) h = below (number i) irps h
of_known irps (Done i) h = below (number i) irps h
of_known irps (Renew i) h = below (number i) irps h
of_known irps (Rearm i) h = below (number i) irps h

-- an order goes on after a line at which the execution stops only if there is its IRP: that is looked at first
pub stopped_known : (size : Size) (E : List Made) (line : List ℕ) (stop : Stop) → ComesTo size E line (Stopped stop) → IsOfKnown size.irps stop
stopped_known size E line (Refused s UnknownIrp) came = λ e. absurd cc
stopped_known size E line (Refused s UnknownPass) came = λ e. absurd cc
stopped_known size E line (Refused s cause) came = λ e. of_known size.irps s.kind (came.1.first UnknownIrp (omega arith))
stopped_known size E line TooLong came = tt
stopped_known size E line Malformed came = tt

-- one harm more
texts-last : (hs : List HarmAt) (h : HarmAt) → harms_text (hs ++ h ∷ []) ≡ harms_text hs ++ (harm_text h.step h.harm ++ codes "\n")
texts-last [] h = append-nil (harm_text h.step h.harm ++ codes "\n")
texts-last (x ∷ hs) h = ap (λ t. (harm_text x.step x.harm ++ codes "\n") ++ t) (texts-last hs h) ∙ sym (append_assoc (harm_text x.step x.harm ++ codes "\n") (harms_text hs) (harm_text h.step h.harm ++ codes "\n"))

pub grew_harm : (hs : List HarmAt) (k : ℕ) (d : HarmAt) (old between new : List ℕ) → k < length hs → GrewBy old between (harms_text (take k hs)) → new ≡ between ++ (harm_text (get_or hs k d).step (get_or hs k d).harm ++ codes "\n") → GrewBy old new (harms_text (take (k + 1) hs))
grew_harm hs k d old between new lt a b =
    let h = get_or hs k d in
    grew_more old between new (harms_text (take k hs)) (harm_text h.step h.harm ++ codes "\n") a b
    ∙ ap (λ t. old ++ t) (sym (ap harms_text (take_more hs k d lt) ∙ texts-last (take k hs) h))

-- all of them
pub grew_harms : (hs : List HarmAt) (k : ℕ) (old new : List ℕ) → length hs ≤ k → GrewBy old new (harms_text (take k hs)) → GrewBy old new (harms_text hs)
grew_harms hs k old new le a = a ∙ ap (λ ys. old ++ harms_text ys) (take_all k hs le)
