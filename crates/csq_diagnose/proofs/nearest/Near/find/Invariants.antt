use Rattle.std.proofs.Common.{◌≡◌, take}
use Rattle.std.specs.Prelude.{MatchOption}
use Rattle.csq_diagnose.specs.Nearness.{IsNearest}
use Rattle.csq_diagnose.proofs.OneOf.{shown}
use Rattle.csq_diagnose.proofs.nearest.Near.find.Given as goal

-- it is the nearest of the words so far
abbrev pub invariant-loop-one : goal.invariant-loop-one
invariant-loop-one g l = MatchOption l.best (l.one-index ≡ 0) (IsNearest (shown (take l.one-index l.words)) l.word)
