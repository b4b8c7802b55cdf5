use Rattle.std.proofs.Common.{◌++◌, [], arith}
use Rattle.csq_replay.specs.Pieces.{lines_of}
use Rattle.csq_replay.proofs.Closings.{grew_more, grew_none}
use Rattle.csq_replay.proofs.Answering.{line_stops, line_goes_on, lines_end, went_on}
use Rattle.csq_replay.proofs.lines.answer_lines.Goals as goal

pub lines-init : goal.lines-init
lines-init g c = record {
  bound = omega arith;
  stands = c.requires;
  answers = λ k first at. (first, [], at, grew_none _, λ end more ended others. others);
}

pub answer_line-requires : goal.answer_line-requires
answer_line-requires g c = c.lines.invariant.stands

pub returns-in-Some : goal.returns-in-Some
returns-in-Some g c = λ k first at.
    let (s, added, stands, grown, complete) = c.lines.invariant.answers k first at in
    let (piece, grown_now, (more, answer, leaves)) = c.in_ok-why.ensures k s stands in (
      added ++ piece,
      grew_more _ _ _ added piece grown grown_now,
      line_stops _ _ _ _ first s (record { number = c.lines.number; bytes = c.split_line.result.0 }) _ (lines_of c.split_line.result.1.now) c.split_line.ensures.lines added complete piece more answer _ _ c.in-Some.why c.in-Some.is leaves,
    )

pub lines-preserved : goal.lines-preserved
lines-preserved g c = record {
  bound = omega (arith, c.lines.invariant.bound, c.split_line.ensures.shorter);
  stands =
      let (k, s, stands) = c.lines.invariant.stands in
      let (piece, grown_now, (more, answer, leaves)) = c.in_ok-why.ensures k s stands in
      let next = went_on _ _ _ more leaves c.in_default.is in
      (k, next.0, next.1);
  answers = λ k first at.
      let (s, added, stands, grown, complete) = c.lines.invariant.answers k first at in
      let (piece, grown_now, (more, answer, leaves)) = c.in_ok-why.ensures k s stands in
      let next = line_goes_on _ _ _ _ first s (record { number = c.lines.number; bytes = c.split_line.result.0 }) _ (lines_of c.split_line.result.1.now) c.split_line.ensures.lines added complete piece more answer _ _ c.in_default.is leaves in
      (next.0, added ++ piece, next.1, grew_more _ _ _ added piece grown grown_now, next.2);
}

pub close-requires : goal.close-requires
close-requires g c = c.lines.invariant.stands

pub returns : goal.returns
returns g c = λ k first at.
    let (s, added, stands, grown, complete) = c.lines.invariant.answers k first at in
    let (closing, grown_now, closed) = c.in_ok-close.ensures k s stands in (
      added ++ closing,
      grew_more _ _ _ added closing grown grown_now,
      lines_end _ _ _ _ first s c.lines.number c.lines.rest.now added closing c.lines-test.ensures complete closed,
    )
