-- The two words of an IRP, as they are drawn beside a step.
use Rattle.std.specs.Prelude.{◌≡◌, ℕ, ◌==◌, Bool, true, false, List, Option, None}
use Rattle.std.specs.Option.{option_map}
use Rattle.irp_core.specs.declared.standing.IrpPlace.{IrpPlace, TheVariants.{Listed}}
use Rattle.irp_core.specs.declared.step.{Kind.{Kind, TheVariants.{Arm, Disarm, Flag, Take, Renew, Rearm}}, Made.{Made}}
use Rattle.irp_core.specs.Lives.{present}
use Rattle.irp_core.specs.MachineState.{MachineState, Agrees, size_of}
use Rattle.irp_core.specs.Steps.{name_of}
use Rattle.csq_draw.specs.declared.owners.Owner.{Owner}
use Rattle.csq_explain.specs.declared.word_values.WordValues.{WordValues}
use Rattle.csq_explain.specs.WordValues.{words_of}
use Rattle.csq_draw.specs.Owners.{owner_named}

-- the words of the IRP that a step of this kind names, in its present life
abbrev pub words_named : ℕ → List Made → Kind → Option WordValues
words_named first E k = option_map (λ i. words_of E (present first E i.irp)) (name_of k)

-- whether the routine is set of an IRP at this place, which has this owner
abbrev pub routine_at : IrpPlace → Option Owner → Bool
routine_at Listed None = true
routine_at _ _ = false

-- of every run that the machine agrees with, and that has this owner, these are the words of the IRP that such a step names
abbrev pub AreWordsNamed : MachineState → Kind → Option Owner → Option WordValues → Type 0
AreWordsNamed machine k owner words = (E : List Made) → Agrees machine E → owner ≡ owner_named (size_of machine).irps E k → words ≡ words_named (size_of machine).first E k

-- whether a step of this kind that found this value changed the Cancel flag, or began it anew
abbrev pub changes_flag : Kind → ℕ → Bool
changes_flag (Flag i) found = found == 0
changes_flag (Renew i) found = true
changes_flag _ found = false
