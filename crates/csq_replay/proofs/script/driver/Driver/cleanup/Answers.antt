use Rattle.csq_replay.specs.Calls.Does.{cleaned}
use Rattle.csq_replay.proofs.Cleaning.{cleanup_refused}
use Rattle.csq_replay.proofs.Handing.{handed_on}
use Rattle.csq_replay.proofs.script.driver.Driver.cleanup.Goals as goal

pub returns-in_err-close : goal.returns-in_err-close
returns-in_err-close g c = λ l s k. let (t, close, kept) = c.in_err-close.ensures l s k in rw (handed_on _ _ c.from_residual.ensures.1) (t, cleanup_refused l s t c.args.file _ close, kept)

pub remove_all-requires : goal.remove_all-requires
remove_all-requires g c =
    let (l, s, k) = c.requires in
    let (t, close, kept) = c.in_ok-close.ensures l s k in
    (l, t, kept)

pub returns : goal.returns
returns g c = λ l s k.
    let (t, close, kept) = c.in_ok-close.ensures l s k in
    let (u, cleans, last) = c.remove_all.ensures l t kept in
    (u, cleaned c.args.file t u _ close cleans, last)
