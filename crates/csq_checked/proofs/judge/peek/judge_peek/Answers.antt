use Rattle.std.proofs.Common.{◌≡◌, ◌∙◌, Ok, refl, ap, sym}
use Rattle.csq_checked.proofs.Imports.{place-found, listed, Agrees}
use Rattle.csq_checked.proofs.Judging.{agrees_exactly}
use Rattle.csq_checked.proofs.judge.peek.judge_peek.Goals as goal

pub judge_beside-requires : goal.judge_beside-requires
judge_beside-requires c = place-found c.args.peek c.args.after (listed c.args.queue.now) c.in_ok-first.first c.in_ok-first.ensures.first

pub returns-clause-agrees : goal.returns-clause-agrees
returns-clause-agrees c =
    let es = listed c.args.queue.now in
    let first = c.in_ok-first.first in
    let exactly = agrees_exactly es c.args.peek first c.args.answer in (
      λ h. (c.in_ok-first.ensures.start.0 refl, exactly.0 (let is : c.judge_beside.result ≡ Agrees = cc in sym c.judge_beside.ensures ∙ is) ∙ c.in_ok-first.ensures.first),
      λ e. ap Ok (c.judge_beside.ensures ∙ exactly.1 (e.1 ∙ sym c.in_ok-first.ensures.first)),
    )
