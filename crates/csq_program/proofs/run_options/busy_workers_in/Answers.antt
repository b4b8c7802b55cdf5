use Rattle.std.proofs.Common.{◌≡◌, Some, None, codes, refl, sym, ◌∙◌, arith}
use Rattle.csq_program.proofs.Numbers.{option_read, same_read}
use Rattle.csq_program.proofs.run_options.busy_workers_in.Goals as goal

pub returns-in-Some-clause-count : goal.returns-in-Some-clause-count
returns-in-Some-clause-count c = record {
  given = λ n most text.
      let read = option_read c.args.options.now (codes "busy-workers") c.get_one.result c.get_one.ensures.value n (omega arith) text in
      same_read c.get_one.result c.in-Some.count n c.in-Some.is read;
  absent = λ none.
      let bad : Some c.in-Some.count ≡ None = sym c.in-Some.is ∙ c.get_one.ensures.none none in
      cc;
}

pub returns-in_default-clause-count : goal.returns-in_default-clause-count
returns-in_default-clause-count c = record {
  given = λ n most text.
      let read = option_read c.args.options.now (codes "busy-workers") c.get_one.result c.get_one.ensures.value n (omega arith) text in
      let same = same_read c.get_one.result c.in-Some.count n c.in-Some.is read in
      let above = c.if-count-le-MAX_THREADS.false in
      absurd (omega arith);
  absent = λ none. refl;
}

pub returns-in_default-2-clause-count : goal.returns-in_default-2-clause-count
returns-in_default-2-clause-count c = record {
  given = λ n most text.
      let read = option_read c.args.options.now (codes "busy-workers") c.get_one.result c.get_one.ensures.value n (omega arith) text in
      let bad : None ≡ Some n = sym c.in_default.is ∙ read in
      cc;
  absent = λ none. refl;
}
