use Rattle.std.proofs.Common.{◌≡◌, ◌≤◌, ◌∙◌, Some, None, length, rules, refl, sym, arith}
use Rattle.csq_checked.proofs.Imports.{first_match, rest_after, found-listed, found-nearer, listed}
use Rattle.csq_checked.proofs.Standing.{goes_on, is_first, none_stands, empty_stands, rest_within}
use Rattle.csq_checked.proofs.judge.peek.stands_after.Goals as goal

pub matches-init : goal.matches-init
matches-init c = record {
  start = c.requires;
  same = refl;
  nearer = let within = rest_within c.args.from (listed c.args.queue.now) in omega (arith, within);
}

pub returns-in_default : goal.returns-in_default
returns-in_default c =
    let none : first_match c.args.peek (rest_after c.matches.at (listed c.args.queue.now)) ≡ None = search rules in
    sym (none_stands c.args.peek c.args.irp (rest_after c.matches.at (listed c.args.queue.now)) none) ∙ c.matches.invariant.same

pub returns-then-is_same : goal.returns-then-is_same
returns-then-is_same c =
    let first : first_match c.args.peek (rest_after c.matches.at (listed c.args.queue.now)) ≡ Some c.in-Some.next = sym c.match_after.ensures ∙ c.in-Some.is in
    sym (is_first c.args.peek c.matches.at (listed c.args.queue.now) c.len-end.ensures.each_once c.in-Some.next first c.args.irp (sym c.if-is_same.ensures)) ∙ c.matches.invariant.same

pub matches-preserved : goal.matches-preserved
matches-preserved c =
    let es = listed c.args.queue.now in
    let first : first_match c.args.peek (rest_after c.matches.at es) ≡ Some c.in-Some.next = sym c.match_after.ensures ∙ c.in-Some.is in
    let nearer = found-nearer c.args.peek c.in-Some.next c.matches.at es first c.len-end.ensures.each_once in
    record {
      start = found-listed c.args.peek c.in-Some.next c.matches.at es first;
      same = sym (goes_on c.args.peek c.matches.at es c.len-end.ensures.each_once c.in-Some.next first c.args.irp (sym c.if-is_same.ensures)) ∙ c.matches.invariant.same;
      nearer = omega (arith, nearer, c.matches.invariant.nearer);
    }

pub returns : goal.returns
returns c =
    let es = listed c.args.queue.now in
    let nothing : length (rest_after c.matches.at es) ≤ 0 = omega (arith, c.matches.invariant.nearer, c.matches-test.false, c.len-end.ensures.count) in
    sym (empty_stands c.args.peek c.args.irp (rest_after c.matches.at es) nothing) ∙ c.matches.invariant.same
