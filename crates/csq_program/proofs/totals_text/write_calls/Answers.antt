use Rattle.std.proofs.Common.{◌≡◌, ◌++◌, codes}
use Rattle.std.specs.Prelude.{OnOk, string_bytes}
use Rattle.csq_program.specs.Totals.{line, line_if, missed_text}
use Rattle.csq_program.proofs.Appending.{grown, grown_last}
use Rattle.csq_program.proofs.totals_text.write_calls.Goals as goal

pub returns : goal.returns
returns g c =
    let t = c.args.totals.now in
    let old = string_bytes c.args.text.now in
    let first = string_bytes c.writeln.new.self in
    let second = string_bytes c.writeln-2.new.self in
    let third = string_bytes c.writeln-3.new.self in
    let fourth = string_bytes c.writeln-4.new.self in
    let fifth = string_bytes c.writeln-5.new.self in
    let sixth = string_bytes c.write_missed.new.text in
    let new = string_bytes c.write_put_backs.new.text in
    let inserts = line (codes "inserts ") t.inserts.made in
    let removals = line (codes "removals ") t.removals.made in
    let found = line (codes "removals that found an IRP ") t.removals.completed in
    let cancels = line (codes "cancels ") t.cancels.made in
    let took = line (codes "cancels that took the routine ") t.cancels.completed in
    let missed = missed_text t in
    let put_backs = line_if c.args.busy (codes "put-backs ") t.put_backs.made in
    let one : first ≡ old ++ inserts = c.in_ok-writeln.ensures.bytes in
    let two : second ≡ first ++ removals = c.in_ok-writeln-2.ensures.bytes in
    let three : third ≡ second ++ found = c.in_ok-writeln-3.ensures.bytes in
    let four : fourth ≡ third ++ cancels = c.in_ok-writeln-4.ensures.bytes in
    let five : fifth ≡ fourth ++ took = c.in_ok-writeln-5.ensures.bytes in
    let six : sixth ≡ fifth ++ missed = c.in_ok-write_missed.ensures in
    let seven : OnOk c.write_put_backs.result (new ≡ sixth ++ put_backs) = c.write_put_backs.ensures in
    let both = grown old first second inserts removals one two in
    let three_lines = grown old second third (inserts ++ removals) found both three in
    let four_lines = grown old third fourth (inserts ++ removals ++ found) cancels three_lines four in
    let five_lines = grown old fourth fifth (inserts ++ removals ++ found ++ cancels) took four_lines five in
    let six_lines = grown old fifth sixth (inserts ++ removals ++ found ++ cancels ++ took) missed five_lines six in
    grown_last c.write_put_backs.result old sixth new (inserts ++ removals ++ found ++ cancels ++ took ++ missed) put_backs six_lines seven
