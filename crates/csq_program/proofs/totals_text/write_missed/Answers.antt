use Rattle.std.proofs.Common.{◌≡◌, ◌+◌, ◌-◌, ◌++◌, codes, subst, arith}
use Rattle.std.specs.Prelude.{OnOk, string_bytes}
use Rattle.csq_program.specs.Totals.{line}
use Rattle.csq_program.proofs.Appending.{grown, grown_last}
use Rattle.csq_program.proofs.totals_text.write_missed.Goals as goal

pub returns : goal.returns
returns g c =
    let t = c.args.totals.now in
    let old = string_bytes c.args.text.now in
    let first = string_bytes c.writeln.new.self in
    let second = string_bytes c.writeln-2.new.self in
    let third = string_bytes c.writeln-3.new.self in
    let new = string_bytes c.writeln-4.new.self in
    let early = t.flagged_home + (t.inserts.completed - t.raced) in
    let late = t.cancels.made - t.cancels.completed - (t.flagged_home + t.inserts.completed) in
    let missed = line (codes "cancels too early or too late ") (t.cancels.made - t.cancels.completed) in
    let before = line (codes "cancels before the insert ") early in
    let during = line (codes "cancels during the insert ") t.raced in
    let after = line (codes "cancels after the removal ") late in
    let counted : c.missed-missed.result ≡ t.cancels.made - t.cancels.completed = let sum = c.missed-missed.ensures in omega (arith, sum) in
    let one : first ≡ old ++ missed = subst (λ n. first ≡ old ++ line (codes "cancels too early or too late ") n) counted c.in_ok-writeln.ensures.bytes in
    let two : second ≡ first ++ before = subst (λ n. second ≡ first ++ line (codes "cancels before the insert ") n) c.missed_before-before.ensures c.in_ok-writeln-2.ensures.bytes in
    let three : third ≡ second ++ during = subst (λ n. third ≡ second ++ line (codes "cancels during the insert ") n) c.missed_during-during.ensures c.in_ok-writeln-3.ensures.bytes in
    let four : OnOk c.writeln-4.result (new ≡ third ++ after) = subst (λ n. OnOk c.writeln-4.result (new ≡ third ++ line (codes "cancels after the removal ") n)) c.missed_after-after.ensures c.writeln-4.ensures.bytes in
    let both = grown old first second missed before one two in
    let three_lines = grown old second third (missed ++ before) during both three in
    grown_last c.writeln-4.result old third new (missed ++ before ++ during) after three_lines four
