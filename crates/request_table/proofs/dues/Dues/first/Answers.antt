use Rattle.std.proofs.Common.{◌≡◌, ◌<◌, ◌-◌, ℕ, List, Option, get_or, length, subst, sym, ap, ◌∙◌, arith}
use Rattle.std.proofs.lemmas.List.{get_or_default}
use Rattle.request_table.specs.declared.dues.TheConstants.{NEVER}
use Rattle.request_table.specs.Times.{IsFirstDue, NoneIsDue}
use Rattle.request_table.proofs.Trees.{none-due, first-due}
use Rattle.request_table.proofs.dues.Dues.first.Goals as goal

pub returns-then-time-clause-none : goal.returns-then-time-clause-none
returns-then-time-clause-none g c =
    let d = c.self.inside in
    let within : 1 < length d.times.items = omega (arith, c.self.invariant.some, c.self.invariant.size) in
    subst (λ (dues : List (Option ℕ)). NoneIsDue dues) c.self.view_is
    (none-due d.leaves d.times.items c.self.invariant (omega (arith, c.if-time.true, c.index-time.ensures, get_or_default d.times.items 1 0 c.index-time.result.now within)))

pub returns-clause-first : goal.returns-clause-first
returns-clause-first g c =
    let d = c.self.inside in
    let time = c.index-time.result.now in
    let within : 1 < length d.times.items = omega (arith, c.self.invariant.some, c.self.invariant.size) in
    let top : get_or d.times.items 1 0 ≡ time = get_or_default d.times.items 1 0 time within ∙ sym c.index-time.ensures in
    let before : time < NEVER = omega (arith, c.if-time.false) in
    let leaf = c.least_leaf-leaf.result in
    let list = c.deref.ensures.value in
    let least : get_or d.times.items leaf 0 ≡ time = sym (λ k. get_or (list k) leaf 0) ∙ c.least_leaf-leaf.ensures.least ∙ (λ k. get_or (list k) 1 0) ∙ top in
    subst (λ (dues : List (Option ℕ)). IsFirstDue dues (record { 0 = leaf - d.leaves }) time) c.self.view_is
    (first-due d.leaves leaf time d.times.items c.self.invariant c.least_leaf-leaf.ensures.leaf (omega (arith, c.least_leaf-leaf.ensures.within, ap length list)) least top before)
