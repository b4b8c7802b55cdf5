use Rattle.std.proofs.Common.{◌≡◌, ◌++◌, codes}
use Rattle.std.specs.Prelude.{OnOk, string_bytes}
use Rattle.csq_program.specs.Totals.{line, line_if}
use Rattle.csq_program.proofs.Appending.{grown, grown_last}
use Rattle.csq_program.proofs.totals_text.write_completions.Goals as goal

pub returns : goal.returns
returns g c =
    let t = c.args.totals.now in
    let old = string_bytes c.args.text.now in
    let first = string_bytes c.writeln.new.self in
    let second = string_bytes c.writeln-2.new.self in
    let third = string_bytes c.writeln-3.new.self in
    let fourth = string_bytes c.writeln-4.new.self in
    let new = string_bytes c.write_busy_completions.new.text in
    let submitters = line (codes "completed by submitters ") t.inserts.completed in
    let workers = line (codes "completed by workers ") t.removals.completed in
    let cancellers = line (codes "completed by cancellers ") t.cancels.completed in
    let cleanup = line (codes "completed by cleanup ") t.cleaned in
    let busy_workers = line_if c.args.busy (codes "completed by busy workers ") t.put_backs.completed in
    let one : first ≡ old ++ submitters = c.in_ok-writeln.ensures.bytes in
    let two : second ≡ first ++ workers = c.in_ok-writeln-2.ensures.bytes in
    let three : third ≡ second ++ cancellers = c.in_ok-writeln-3.ensures.bytes in
    let four : fourth ≡ third ++ cleanup = c.in_ok-writeln-4.ensures.bytes in
    let five : OnOk c.write_busy_completions.result (new ≡ fourth ++ busy_workers) = c.write_busy_completions.ensures in
    let both = grown old first second submitters workers one two in
    let three_lines = grown old second third (submitters ++ workers) cancellers both three in
    let all = grown old third fourth (submitters ++ workers ++ cancellers) cleanup three_lines four in
    grown_last c.write_busy_completions.result old fourth new (submitters ++ workers ++ cancellers ++ cleanup) busy_workers all five
