use Rattle.std.proofs.Common.{◌≡◌, ◌<◌, ◌==◌, Bool, false, true, cond, length, Some, None, sym, ap, ◌∙◌, arith, eq-eqb}
use Rattle.std.proofs.lemmas.Bool.{ne_eqb}
use Rattle.std.proofs.lemmas.List.{get_or_default}
use Rattle.request_table.specs.declared.refusals.BeginRefused.TheVariants.{AllSpent, AllUnderWay}
use Rattle.request_table.specs.Refusals.{refusal_to_begin}
use Rattle.request_table.proofs.Keeping.{refusal-last}
use Rattle.request_table.proofs.table.RequestTable.refusal_to_begin.Given.{Over}
use Rattle.request_table.proofs.table.RequestTable.refusal_to_begin.Goals as goal
use Rattle.request_table.proofs.table.RequestTable.refusal_to_begin.Goals.{After-is_empty}

-- by whether a number is free, and whether one is under way
last : (g : Over) (c : After-is_empty g) (empty none : Bool) → (length c.self.inside.free.items == 0) ≡ empty → (c.self.inside.all == 0) ≡ none
    → cond empty (cond none (Some AllSpent) (Some AllUnderWay)) None ≡ refusal_to_begin c.args.self.now c.args.file
last g c empty none is_empty is_none =
    let t = c.self.inside in
    let known : c.args.file.0 < length t.closed_files.items = omega (arith, c.if-file-len.false, c.len.ensures) in
    sym (refusal-last c.self.invariant c.args.self.now c.args.file c.self.view_is known c.if-self.false
    (get_or_default t.closed_files.items c.args.file.0 false c.index.result.now known ∙ sym c.index.ensures ∙ c.if-index.false)
    ∙ (λ k. cond (is_empty k) (cond (is_none k) (Some AllSpent) (Some AllUnderWay)) None))

pub returns-then-not-is_empty : goal.returns-then-not-is_empty
returns-then-not-is_empty g c =
    last g (goal.at.returns-then-not-is_empty g c).After-is_empty false (c.self.inside.all == 0)
    (ap (λ n. n == 0) (sym c.self.inside.free.ok.0) ∙ sym c.is_empty.ensures ∙ c.if-not-is_empty.true) (λ k. c.self.inside.all == 0)

pub returns-then-self-eq0 : goal.returns-then-self-eq0
returns-then-self-eq0 g c =
    last g (goal.at.returns-then-self-eq0 g c).After-is_empty true true
    (ap (λ n. n == 0) (sym c.self.inside.free.ok.0) ∙ sym c.is_empty.ensures ∙ c.if-not-is_empty.false)
    (eq-eqb c.self.inside.all 0 c.if-self-eq0.true)

pub returns : goal.returns
returns g c =
    last g (goal.at.returns g c).After-is_empty true false
    (ap (λ n. n == 0) (sym c.self.inside.free.ok.0) ∙ sym c.is_empty.ensures ∙ c.if-not-is_empty.false)
    (ne_eqb c.self.inside.all 0 c.if-self-eq0.false)
