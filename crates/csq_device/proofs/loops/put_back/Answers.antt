use Rattle.std.proofs.Common.{◌+◌, sym, subst, arith}
use Rattle.csq_device.proofs.Imports.{CANCELLED, HasCompleted, PutsEachBack}
use Rattle.csq_device.proofs.Working.{completed_more}
use Rattle.csq_device.proofs.PuttingBack.{backs_more}
use Rattle.csq_device.proofs.loops.put_back.Goals as goal

pub loop-turn-preserved : goal.loop-turn-preserved
loop-turn-preserved g c =
    let was = c.loop-turn.invariant in
    let one = c.put_one_back.ensures in
    let old = c.args.pass.now in
    let new = c.put_one_back.new.pass in
    let plus = c.plus-calls.ensures in
    record {
      few = let before = was.few in let more = one.most in let sum = plus.made in omega arith;
      done = subst (λ n. HasCompleted CANCELLED n old new) (sym plus.completed) (completed_more CANCELLED c.loop-turn.calls.completed c.put_one_back.result.completed old c.loop-turn.pass new was.done one.completed);
      turns = subst (λ n. PutsEachBack (c.loop-turn.turn + 1) n old new) (sym plus.made) (backs_more c.loop-turn.turn c.loop-turn.calls.made c.put_one_back.result.made old c.loop-turn.pass new was.turns one.turn);
    }
