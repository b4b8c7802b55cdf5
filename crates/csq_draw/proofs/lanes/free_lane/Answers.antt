use Rattle.std.proofs.Common.{◌≡◌, ◌∙◌, ◌<◌, true, false, refl, sym, arith}
use Rattle.csq_draw.specs.Lanes.{is_taken, free_lane}
use Rattle.csq_draw.proofs.LaneLaws.{first_after, first_here, first_past}
use Rattle.csq_draw.proofs.lanes.free_lane.Goals as goal

pub loop-lane-init : goal.loop-lane-init
unfolding free_lane
loop-lane-init c = refl

pub loop-lane-preserved : goal.loop-lane-preserved
loop-lane-preserved c =
    let lane = c.loop-lane.lane in
    let below : lane < 8 = omega arith in
    let taken : is_taken c.args.owners.now c.args.pass lane ≡ true = sym c.is_taken.ensures ∙ c.if-not-is_taken.false in
    sym (first_after c.args.owners.now c.args.pass 8 lane below taken) ∙ c.loop-lane.invariant

pub returns-then-not-is_taken : goal.returns-then-not-is_taken
returns-then-not-is_taken c =
    let lane = c.loop-lane.lane in
    let below : lane < 8 = omega arith in
    let free : is_taken c.args.owners.now c.args.pass lane ≡ false = sym c.is_taken.ensures ∙ c.if-not-is_taken.true in
    sym (first_here c.args.owners.now c.args.pass 8 lane below free) ∙ c.loop-lane.invariant

pub returns : goal.returns
returns c =
    let past : c.loop-lane.lane ≡ 8 = omega arith in
    first_past c.args.owners.now c.args.pass 8 c.loop-lane.lane past ∙ c.loop-lane.invariant
