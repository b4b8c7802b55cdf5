-- How idle passes are kept.
use Rattle.csq_queue.specs.Opens.{OpenPassState}
use Rattle.csq_checked.specs.declared.idle.IdleForm.{IdleForm, TheVariants.{Boxed, Bare}}
use Rattle.csq_checked.specs.Passes.{open_state}

-- the pass that is kept so
abbrev pub idle_state : IdleForm → OpenPassState
idle_state (Boxed pass) = open_state pass.value
idle_state (Bare pass) = pass
