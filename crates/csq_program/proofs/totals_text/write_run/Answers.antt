use Rattle.std.proofs.Common.{◌≡◌, ◌++◌, Bool, subst, sym}
use Rattle.std.specs.Prelude.{OnOk, string_bytes}
use Rattle.csq_program.specs.Totals.{totals_text, states_text, completions_text, calls_text, time_text, counts_text, reported_text}
use Rattle.csq_program.proofs.Appending.{grown, grown_last}
use Rattle.csq_program.proofs.totals_text.write_run.Goals as goal

pub returns : goal.returns
returns g c =
    let t = c.args.totals.now in
    let old = string_bytes c.args.text.now in
    let first = string_bytes c.write_totals.new.text in
    let second = string_bytes c.write_states.new.text in
    let third = string_bytes c.write_completions.new.text in
    let fourth = string_bytes c.write_calls.new.text in
    let new = string_bytes c.write_time.new.text in
    let states = states_text t in
    let busy = c.args.busy in
    let completions = completions_text busy t in
    let calls = calls_text busy t in
    let two = grown first second third states completions c.in_ok-write_states.ensures c.in_ok-write_completions.ensures in
    let three = grown first third fourth (states ++ completions) calls two c.in_ok-write_calls.ensures in
    let four = grown_last c.write_time.result first fourth new (states ++ completions ++ calls) (time_text c.args.took) three c.write_time.ensures in
    let all = grown_last c.write_time.result old first new (totals_text t) (counts_text busy t c.args.took) c.in_ok-write_totals.ensures four in
    subst (λ (b : Bool). OnOk c.write_time.result (new ≡ old ++ reported_text b busy t c.args.took)) (sym c.if-not-all.false) all
