use Rattle.std.proofs.Common.{Ok, subst}
use Rattle.csq_c.specs.Replays.{MakesStep, ReplayState}
use Rattle.csq_c.proofs.Replaying.{goes_on, in_range, makes}
use Rattle.csq_c.proofs.replay.body.ReplayBody.step.Goals as goal

pub note-requires : goal.note-requires
note-requires c = let (W, f) = c.self.invariant in in_range c.args.number c.args.step c.in_ok-found.found _ c.step.new.self c.in_ok-found.ensures.size c.in_ok-found.ensures.made W f

pub invariant_of-self-2 : goal.invariant_of-self-2
invariant_of-self-2 c =
    let (W, f) = c.self.invariant in
    (_, goes_on c.args.number c.args.step c.in_ok-found.found _ c.step.new.self c.in_ok-found.ensures.size c.in_ok-found.ensures.made _ c.note.ensures W f)

pub returns : goal.returns
returns c =
    let before : ReplayState = record { machine = c.self.inside.machine; calls = c.self.inside.calls.items } in
    let after : ReplayState = record { machine = c.step.new.self; calls = c.note.new.calls.items } in
    subst (λ (s : ReplayState). MakesStep c.args.number c.args.step (Ok c.in_ok-found.found) s after) c.self.view_is
    (makes c.args.number c.args.step c.in_ok-found.found before c.step.new.self c.in_ok-found.ensures.size c.in_ok-found.ensures.made c.note.new.calls.items c.note.ensures)
