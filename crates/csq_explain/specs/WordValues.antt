-- The two words of an IRP, and the life that they are of: a step of another life finds nothing in them and changes nothing.
use Rattle.std.specs.Prelude.{ℕ, ◌+◌, nat_lt, true, false, List, [], ◌∷◌, if◌then◌else◌}
use Rattle.std.specs.Option.{option_map_or}
use Rattle.irp_core.specs.declared.ids.{IrpId.{IrpId}, IrpLife.{IrpLife}}
use Rattle.irp_core.specs.declared.step.{Kind.{Kind, TheVariants.{Arm, Test, Disarm, Flag, Take, Renew, Rearm}}, Made.{Made}}
use Rattle.irp_core.specs.Lives.{last_life}
use Rattle.irp_core.specs.Standings.{names}
use Rattle.irp_core.specs.Steps.{life_of, name_of}
use Rattle.irp_core.specs.Words.{bit, flagged, armed}
use Rattle.csq_explain.specs.declared.word_values.WordValues.{WordValues}

-- both words are clear, in this life of IRP n
abbrev pub clear_words : IrpId → ℕ → WordValues
clear_words n life = record { name = record { irp = n; life = record { 0 = life } }; flag = false; routine = false }

-- the words that a renew begins: clear, in the next life, if there is one
abbrev pub renewed : WordValues → WordValues
renewed w = if nat_lt (life_of w.name) last_life then clear_words w.name.irp (life_of w.name + 1) else w

-- the words after a step of their life
abbrev pub changed : WordValues → Kind → WordValues
changed w (Arm i) = record { name = w.name; flag = w.flag; routine = true }
changed w (Disarm i) = record { name = w.name; flag = w.flag; routine = false }
changed w (Flag i) = record { name = w.name; flag = true; routine = w.routine }
changed w (Take i) = record { name = w.name; flag = w.flag; routine = false }
changed w (Renew i) = renewed w
changed w (Rearm i) = record { name = w.name; flag = w.flag; routine = true }
changed w _ = w

-- the words after a step of this kind
abbrev pub words_with : WordValues → Kind → WordValues
words_with w k = if names w.name k then changed w k else w

-- the value that a step of their life finds in them
abbrev pub value_in : WordValues → Kind → ℕ
value_in w (Arm i) = bit w.routine
value_in w (Test i) = bit w.flag
value_in w (Disarm i) = bit w.routine
value_in w (Flag i) = bit w.flag
value_in w (Take i) = bit w.routine
value_in w (Rearm i) = bit w.routine
value_in w _ = 0

-- the value that a step of this kind finds in them
abbrev pub found_in : WordValues → Kind → ℕ
found_in w k = if names w.name k then value_in w k else 0

-- the words of IRP n after these steps, the newest first: clear in its first life, before the first one
abbrev pub words_after : List Made → IrpId → WordValues
words_after [] n = clear_words n 0
words_after (m ∷ E) n = words_with (words_after E n) m.kind

-- the value that a step of this kind finds after these: what the words of its IRP hold
abbrev pub found_after : List Made → Kind → ℕ
found_after E k = option_map_or (λ i. found_in (words_after E i.irp) k) (name_of k) 0

-- the words of i after E by the protocol, which keeps those of each life apart
abbrev pub words_of : List Made → IrpLife → WordValues
words_of E i = record { name = i; flag = flagged E i; routine = armed E i }
