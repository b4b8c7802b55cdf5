use Rattle.std.proofs.Common.{◌+◌, ◌∙◌, List, sym, ap, subst, rules}
use Rattle.csq_device.specs.declared.roles.Duty.{Duty}
use Rattle.csq_device.proofs.Imports.{Role, AreCallsOfAll, AreFew, AreNumbered, duties_from, roles_in}
use Rattle.csq_device.proofs.Planned.{calls_in, calls_few, duties-numbered}
use Rattle.csq_device.proofs.threads.serve_all.Goals as goal

pub join_all-calls-requires-clause-few : goal.join_all-calls-requires-clause-few
join_all-calls-requires-clause-few g c =
    let duties = c.in_ok-start_all.ensures.duties ∙ ap (λ (roles : List Role). duties_from c.args.plan 1 roles) c.requires.roles in
    subst AreFew (sym duties) (calls_few c.args.plan)

pub join_all-calls-requires-clause-numbered : goal.join_all-calls-requires-clause-numbered
join_all-calls-requires-clause-numbered g c =
    let duties = c.in_ok-start_all.ensures.duties ∙ ap (λ (roles : List Role). duties_from c.args.plan 1 roles) c.requires.roles in
    subst (AreNumbered 1) (sym duties) (duties-numbered c.args.plan 1 (roles_in c.args.plan))

pub returns-clause-shift : goal.returns-clause-shift
returns-clause-shift g c =
    let duties = c.in_ok-start_all.ensures.duties ∙ ap (λ (roles : List Role). duties_from c.args.plan 1 roles) c.requires.roles in
    let calls = c.join_all-calls.result in
    let cleaned = c.join-cleaned.ensures in
    record {
      calls_are = calls_in c.args.plan calls (subst (λ (ds : List Duty). AreCallsOfAll ds calls) duties c.join_all-calls.ensures.calls);
      handed_is = λ i. c.join_all-calls.ensures.handed i + cleaned.count_is i;
      given = c.join_all-calls.ensures.receipts;
      last = search rules;
      rests = cleaned.rests;
      all = search rules;
      none_left = search rules;
    }
