use Rattle.std.proofs.Common.{◌+◌, ◌<◌, ◌^◌, length, subst, refl, sym, ap, ◌∙◌, arith, rules}
use Rattle.csq_diagnose.proofs.Imports.{Expected, Admits, expected_at, words_left}
use Rattle.csq_diagnose.proofs.Walking.{stands_there, one_more_fits, left_after, ended, item_expected, nothing_past}
use Rattle.csq_diagnose.proofs.misfit.first_misfit.Goals as goal

pub returns-then-not-admits : goal.returns-then-not-admits
returns-then-not-admits c =
    let inv = c.loop-expected.invariant in
    let test = c.loop-expected-test.true in
    let cut = c.split_piece.ensures.pieces in
    let few : length c.args.line.now < 2 ^ 63 = search rules in
    let item = item_expected c.loop-expected.expected-index c.args.places.now _ test in
    record {
      begun = inv.begun;
      bound = let counted = inv.counted in omega (arith, counted, test);
      expected = item ∙ ap (λ k. expected_at c.args.places.now k) (sym inv.counted);
      short = tt;
      there = stands_there c.args.line.now c.loop-expected.text.now c.split_piece.result.0.now c.split_piece.result.1 c.loop-expected.before inv.left cut _ c.split_piece.result.0 refl refl refl c.is_none.ensures refl
          (λ a. let t = c.admits.ensures.1 a in let f = c.if-not-admits.true in cc (t, f)) inv.short few;
    }

pub returns-in_default : goal.returns-in_default
returns-in_default c =
    let inv = c.loop-expected.invariant in
    let test = c.loop-expected-test.true in
    let counted = inv.counted in
    let cut = c.split_piece.ensures.pieces in
    let line = c.args.line.now in
    let text = c.loop-expected.text.now in
    let word = c.split_piece.result.0.now in
    let item = item_expected c.loop-expected.expected-index c.args.places.now _ test ∙ ap (λ k. expected_at c.args.places.now k) (sym counted) in
    let admitted = c.admits.ensures.0 c.if-not-admits.false in
    let fits = one_more_fits line text word c.split_piece.result.1 c.loop-expected.before inv.left cut c.args.places.now inv.begun (omega (arith, counted, test)) (subst (λ (e : Expected). Admits e word) item admitted) in
    let left = left_after line text word c.split_piece.result.1 c.loop-expected.before inv.left cut ∙ ap words_left c.in_default.is in
    ended c.args.places.now line (c.loop-expected.before + 1) c.missing.result fits left c.missing.ensures.none c.missing.ensures.some

pub loop-expected-preserved : goal.loop-expected-preserved
loop-expected-preserved c =
    let inv = c.loop-expected.invariant in
    let test = c.loop-expected-test.true in
    let counted = inv.counted in
    let cut = c.split_piece.ensures.pieces in
    let line = c.args.line.now in
    let text = c.loop-expected.text.now in
    let word = c.split_piece.result.0.now in
    let item = item_expected c.loop-expected.expected-index c.args.places.now _ test ∙ ap (λ k. expected_at c.args.places.now k) (sym counted) in
    let admitted = c.admits.ensures.0 c.if-not-admits.false in
    let shorter = rw c.in-Some.is at c.split_piece.ensures.shorter in
    let short = inv.short in
    record {
      counted = ap (λ k. k + 1) counted;
      begun = one_more_fits line text word c.split_piece.result.1 c.loop-expected.before inv.left cut c.args.places.now inv.begun (omega (arith, counted, test)) (subst (λ (e : Expected). Admits e word) item admitted);
      left = left_after line text word c.split_piece.result.1 c.loop-expected.before inv.left cut ∙ ap words_left c.in-Some.is;
      short = omega (arith, shorter, short);
    }

pub returns : goal.returns
returns c =
    let inv = c.loop-expected.invariant in
    let cut = c.split_piece-2.ensures.pieces in
    let few : length c.args.line.now < 2 ^ 63 = search rules in
    let past = c.loop-expected-test.false in
    let counted = inv.counted in
    record {
      begun = inv.begun;
      bound = omega (arith, counted, past);
      expected = sym (nothing_past c.loop-expected.before c.args.places.now (omega (arith, counted, past)));
      short = tt;
      there = stands_there c.args.line.now c.loop-expected.text.now c.split_piece-2.result.0.now c.split_piece-2.result.1 c.loop-expected.before inv.left cut _ c.split_piece-2.result.0 refl refl refl c.is_none-2.ensures refl (λ a. a) inv.short few;
    }
