use Rattle.std.proofs.Crossing.{frees}
use Rattle.test_program.proofs.tests.devices.run_over.Goals as goal

-- a block goes back to the heap that the refusing one passes on
pub answer_run-answered-requires-frees-A-Allocator : goal.answer_run-answered-requires-frees-A-Allocator
answer_run-answered-requires-frees-A-Allocator g c κs within = record { frees = λ heap τ p. frees.frees heap.now.inner τ p }
