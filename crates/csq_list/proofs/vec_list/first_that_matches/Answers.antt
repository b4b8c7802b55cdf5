use Rattle.std.proofs.Common.{◌≡◌, ap, length, slice_range, sym, ◌∙◌, rules, [], arith}
use Rattle.std.proofs.lemmas.Grind.{common_steps}
use Rattle.std.specs.VecDeque.{deque_len}
use Rattle.csq_list.proofs.Imports.{take_rest, deque_iter_rest, first_match}
use Rattle.csq_list.proofs.Finding.{match-here, match-later}
use Rattle.csq_list.proofs.vec_list.first_that_matches.Goals as goal

pub loop-entry-init : goal.loop-entry-init
loop-entry-init g c =
    let len : deque_len c.args.entries.now ≡ length c.args.entries.now.items = search rules in
    ap (λ it. first_match c.args.peek (deque_iter_rest it)) c.into_iter-entry-iterator.ensures.into_iter_gives
    ∙ ap (first_match c.args.peek) (c.range-entry-items.ensures.rest ∙ ap (slice_range c.args.entries.now.items c.args.from) len ∙ take_rest c.args.entries.now.items c.args.from)

pub returns-then-matches : goal.returns-then-matches
returns-then-matches g c = sym (match-here c.args.peek c.in-Some.entry.now (deque_iter_rest c.next.new.self) (sym c.matches.ensures ∙ c.if-matches.true)) ∙ ap (first_match c.args.peek) (sym c.in-Some.ensures.steps) ∙ c.loop-entry.invariant

pub loop-entry-preserved : goal.loop-entry-preserved
loop-entry-preserved g c = sym (match-later c.args.peek c.in-Some.entry.now (deque_iter_rest c.next.new.self) (sym c.matches.ensures ∙ c.if-matches.false)) ∙ ap (first_match c.args.peek) (sym c.in-Some.ensures.steps) ∙ c.loop-entry.invariant

pub returns : goal.returns
returns g c = let none : deque_iter_rest c.loop-entry.entry-iterator ≡ [] = grind (arith, common_steps, c.in-None.ensures.steps.0) in sym (ap (first_match c.args.peek) none) ∙ c.loop-entry.invariant
