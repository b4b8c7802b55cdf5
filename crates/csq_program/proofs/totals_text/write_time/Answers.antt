use Rattle.std.proofs.Common.{◌≡◌, ◌-◌, ◌/◌, ◌%◌, ◌^◌, ℕ, List, ◌++◌, length, codes, decimal, Option, ap, ◌∙◌, subst, sym, refl, arith}
use Rattle.std.specs.Prelude.{OnOk, string_bytes}
use Rattle.std.specs.Duration.{as_nanos}
use Rattle.std.specs.Fmt.{char_count, format_spec, padded_integral, styled_decimal}
use Rattle.std.proofs.lemmas.List.{append-nil}
use Rattle.std.specs.declared.time.Duration.{Duration}
use Rattle.csq_program.specs.Totals.{three_digits, time_text}
use Rattle.csq_program.proofs.totals_text.write_time.Goals as goal

-- what `{:03}` writes of a number
padded_three : (n : ℕ) → styled_decimal (format_spec 32 0 4 3 (2 ^ 64 - 1)) n ≡ three_digits n
unfolding padded_integral char_count
padded_three n = let whole : 3 - length (decimal n) - 0 - 0 ≡ 3 - length (decimal n) = omega arith in rw (whole, append-nil) refl

pub returns-in-Some : goal.returns-in-Some
returns-in-Some g c =
    let old = string_bytes c.args.text.now in
    let new = string_bytes c.writeln.new.self in
    let nanos = as_nanos c.in-Some.took in
    let text : ℕ → List ℕ → List ℕ = λ whole part. codes "milliseconds " ++ (decimal whole ++ (codes "." ++ (part ++ codes "\n"))) in
    let part : styled_decimal c.laid_out.result (c.as_micros.result % 1000) ≡ three_digits (nanos / 1000 % 1000) =
    rw c.laid_out.ensures (padded_three (c.as_micros.result % 1000)) ∙ ap (λ (n : ℕ). three_digits (n % 1000)) c.as_micros.ensures in
    let same : text c.as_millis-milliseconds.result (styled_decimal c.laid_out.result (c.as_micros.result % 1000)) ≡ text (nanos / 1000000) (three_digits (nanos / 1000 % 1000)) = λ k. text (c.as_millis-milliseconds.ensures k) (part k) in
    let said = subst (λ (t : List ℕ). OnOk c.writeln.result (new ≡ old ++ t)) same c.writeln.ensures.bytes in
    subst (λ (took : Option Duration). OnOk c.writeln.result (new ≡ old ++ time_text took)) (sym c.in-Some.is) said

pub returns-in-None : goal.returns-in-None
returns-in-None g c =
    subst (λ (took : Option Duration). OnOk c.writeln-in-None.result (string_bytes c.writeln-in-None.new.self ≡ string_bytes c.args.text.now ++ time_text took)) (sym c.in-None.is) c.writeln-in-None.ensures.bytes
