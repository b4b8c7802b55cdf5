use Rattle.std.proofs.Common.{refl, sym, ◌∙◌, arith}
use Rattle.csq_program.proofs.Numbers.{option_read, same_read}
use Rattle.csq_program.proofs.command.given_in.Goals as goal

pub returns-in-Some-clause-number : goal.returns-in-Some-clause-number
returns-in-Some-clause-number c = record {
  given = λ n least most text.
      let fits = c.ranges.most.fits in
      let read = option_read c.args.options.now c.args.name.now c.get_one.result c.get_one.ensures.value n (omega arith) text in
      sym c.in-Some.is ∙ read;
  absent = λ none. sym c.in-Some.is ∙ c.get_one.ensures.none none;
}

pub returns-in_default-clause-number : goal.returns-in_default-clause-number
returns-in_default-clause-number c = record {
  given = λ n least most text.
      let fits = c.ranges.most.fits in
      let read = option_read c.args.options.now c.args.name.now c.get_one.result c.get_one.ensures.value n (omega arith) text in
      let same = same_read c.get_one.result c.in-Some.number n c.in-Some.is read in
      let above = c.if-number-most.false in
      absurd (omega arith);
  absent = λ none. refl;
}

pub returns-in_default-2-clause-number : goal.returns-in_default-2-clause-number
returns-in_default-2-clause-number c = record {
  given = λ n least most text.
      let fits = c.ranges.most.fits in
      let read = option_read c.args.options.now c.args.name.now c.get_one.result c.get_one.ensures.value n (omega arith) text in
      let same = same_read c.get_one.result c.in-Some.number n c.in-Some.is read in
      let below = c.if-least-number.false in
      absurd (omega arith);
  absent = λ none. refl;
}

pub returns-in_default-3-clause-number : goal.returns-in_default-3-clause-number
returns-in_default-3-clause-number c = record {
  given = λ n least most text.
      let fits = c.ranges.most.fits in
      let read = option_read c.args.options.now c.args.name.now c.get_one.result c.get_one.ensures.value n (omega arith) text in
      sym c.in_default.is ∙ read;
  absent = λ none. refl;
}
