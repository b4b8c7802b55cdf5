use Rattle.std.proofs.Common.{Some, refl, ap, ◌∙◌, arith}
use Rattle.csq_replay.proofs.Imports.{slice_set, NtStatus, Nothing, Done, present_of}
use Rattle.csq_replay.proofs.Going.{starts, may_done, present_is, may_as, done_as}
use Rattle.csq_replay.proofs.Calling.{done_keeps, irps_are}
use Rattle.csq_replay.proofs.script.driver.Driver.finish.Goals as goal

pub present-name-requires : goal.present-name-requires
present-name-requires g c = let (l, s, k, known, held) = c.requires in omega (arith, known, irps_are l _ s k)

pub make-requires : goal.make-requires
make-requires g c =
    let (l, s, k, known, held) = c.requires in
    let e = c.present-name.ensures s.run k.agrees ∙ present_is l _ s k c.args.irp in
    may_as _ Done _ _ e (may_done _ s.run Nothing (starts l _ s k) (present_of s c.args.irp) refl (omega (arith, known, irps_are l _ s k)) held)

pub index_mut-requires : goal.index_mut-requires
index_mut-requires g c = let (l, s, k, known, held) = c.requires in omega (arith, known, k.statuses_size)

pub returns : goal.returns
returns g c = λ l s k.
    let (l', s', k', known, held) = c.requires in
    let e = c.present-name.ensures s.run k.agrees ∙ present_is l _ s k c.args.irp in
    done_keeps l _ s k c.args.irp c.args.status (omega (arith, known, irps_are l' _ s' k', irps_are l _ s k)) _ (done_as _ _ _ (present_of s c.args.irp) e (c.make.ensures.made s.run k.agrees).0) c.make.ensures.size _ (ap (λ (status : NtStatus). slice_set c.args.self.now.statuses.items c.args.irp.0 (Some status)) c.status.ensures)
