use Rattle.std.proofs.Common.{◌+◌, ◌≤◌, List, ℕ, length, string_bytes}
use Rattle.csq_replay.proofs.Imports.{lines_of, GrewBy}
use Rattle.csq_replay.proofs.Answering.{Completes}
use Rattle.csq_replay.proofs.lines.answer_lines.Given as goal

-- what was added answers the lines so far, and whatever the rest is answered completes it
abbrev pub invariant-lines : goal.invariant-lines
invariant-lines g l = record {
  bound : l.number + length l.rest ≤ length l.fn.input + 1;
  stands : (c : g.X.Answerer.Kind) × (s : g.X.Answerer.State) × g.X.Answerer.stands l.answerer c s;
  answers : (c : g.X.Answerer.Kind) (first : g.X.Answerer.State) → g.X.Answerer.stands l.fn.answerer c first
      → (s : g.X.Answerer.State) × (added : List ℕ) × g.X.Answerer.stands l.answerer c s × GrewBy (string_bytes l.fn.text) (string_bytes l.text) added
      × Completes (g.X.Answerer.answers c) (g.X.Answerer.stops c) (g.X.Answerer.closes c) (lines_of l.fn.input) first s l.number (lines_of l.rest) added;
}

abbrev pub decreases-lines : goal.decreases-lines
decreases-lines g l = length l.rest
