use Rattle.std.proofs.Common.{◌≡◌, ◌∙◌, Some, None, rules, sym, arith}
use Rattle.csq_list.specs.declared.entry.Peek.TheVariants.{File}
use Rattle.csq_checked.proofs.Imports.{first_match, rest_after, found-listed, found-nearer, first_left, listed}
use Rattle.csq_checked.proofs.Leaving.{goes_on, left_here, nothing_left}
use Rattle.csq_checked.proofs.judge.cleanup.find_left.Goals as goal

pub returns-in_default : goal.returns-in_default
returns-in_default c =
    let es = listed c.args.queue.now in
    let rest = rest_after c.matches.at es in
    let excused = c.args.excused.now in
    let none : first_match (File c.args.file) rest ≡ None = search rules in
    let nothing : first_left excused c.args.file rest ≡ None = nothing_left excused (File c.args.file) rest none in
    let same : first_left excused c.args.file rest ≡ first_left excused c.args.file es = c.matches.invariant.same in
    sym nothing ∙ same

pub returns-then-not-may_stay : goal.returns-then-not-may_stay
returns-then-not-may_stay c =
    let es = listed c.args.queue.now in
    let rest = rest_after c.matches.at es in
    let excused = c.args.excused.now in
    let first : first_match (File c.args.file) rest ≡ Some c.in-Some.irp = sym c.match_after.ensures ∙ c.in-Some.is in
    let left : first_left excused c.args.file rest ≡ Some c.in-Some.irp = left_here excused (File c.args.file) c.matches.at es c.len-end.ensures.each_once c.in-Some.irp first (sym c.if-not-may_stay.ensures) in
    let same : first_left excused c.args.file rest ≡ first_left excused c.args.file es = c.matches.invariant.same in
    sym left ∙ same

pub matches-preserved : goal.matches-preserved
matches-preserved c =
    let es = listed c.args.queue.now in
    let rest = rest_after c.matches.at es in
    let excused = c.args.excused.now in
    let first : first_match (File c.args.file) rest ≡ Some c.in-Some.irp = sym c.match_after.ensures ∙ c.in-Some.is in
    let nearer = found-nearer (File c.args.file) c.in-Some.irp c.matches.at es first c.len-end.ensures.each_once in
    let on : first_left excused c.args.file rest ≡ first_left excused c.args.file (rest_after (Some c.in-Some.irp) es) =
    goes_on excused (File c.args.file) c.matches.at es c.len-end.ensures.each_once c.in-Some.irp first (sym c.if-not-may_stay.ensures) in
    let same : first_left excused c.args.file rest ≡ first_left excused c.args.file es = c.matches.invariant.same in
    record {
      start = found-listed (File c.args.file) c.in-Some.irp c.matches.at es first;
      same = sym on ∙ same;
      nearer = omega (arith, nearer, c.matches.invariant.nearer);
    }
