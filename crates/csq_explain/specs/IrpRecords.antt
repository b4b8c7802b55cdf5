-- What an order that may break the protocol has done to an IRP in its present life. The orders here have their newest step first.
use Rattle.std.specs.Prelude.{ℕ, ◌+◌, ◌==◌, ◌&&◌, not, nat_lt, List, [], ◌∷◌, Option, Some, None, if◌then◌else◌}
use Rattle.irp_core.specs.declared.ids.IrpId.{IrpId}
use Rattle.irp_core.specs.declared.step.{Kind.{Kind, TheVariants.{Arm, Disarm, Flag, Take, Out, Done, Renew, Rearm}}}
use Rattle.irp_core.specs.Lives.{last_life}
use Rattle.irp_core.specs.Standings.{names}
use Rattle.irp_core.specs.Steps.{life_of}
use Rattle.csq_explain.specs.declared.irp_record.IrpRecord.{IrpRecord}
use Rattle.csq_explain.specs.declared.line_steps.LineStep.{LineStep}
use Rattle.csq_explain.specs.declared.word_values.WordValues.{WordValues}
use Rattle.csq_explain.specs.Tables.{table}
use Rattle.csq_explain.specs.WordValues.{changed, clear_words}

-- nothing was done to IRP n in this life
abbrev pub new_record : IrpId → ℕ → IrpRecord
new_record n life = record { words = clear_words n life; listed = None; done = None; stray = None }

-- after a renew: the next life, if there is one
abbrev pub renewed_record : IrpRecord → IrpRecord
renewed_record r = if nat_lt (life_of r.words.name) last_life then new_record r.words.name.irp (life_of r.words.name + 1) else r

-- after a step by which it comes into the list, or leaves it
abbrev pub with_listed : IrpRecord → WordValues → Option LineStep → IrpRecord
with_listed r w listed = record { words = w; listed = listed; done = r.done; stray = r.stray }

-- after a step by which a take is known as a stray one, or no more
abbrev pub with_stray : IrpRecord → WordValues → Option LineStep → IrpRecord
with_stray r w stray = record { words = w; listed = r.listed; done = r.done; stray = stray }

-- the first of two completions
abbrev pub first_done : Option LineStep → LineStep → LineStep
first_done (Some first) x = first
first_done None x = x

-- after x, a step of its life and of this kind: an arm or a rearm lists it, a disarm that finds the routine and an out take it out of the list, and a take that finds the routine is a stray one as long as the flag is clear
abbrev pub moved : IrpRecord → LineStep → Kind → IrpRecord
moved r x (Arm i) = with_listed r (changed r.words (Arm i)) (Some x)
moved r x (Disarm i) = with_listed r (changed r.words (Disarm i)) (if x.made.found == 1 then None else r.listed)
moved r x (Flag i) = with_stray r (changed r.words (Flag i)) None
moved r x (Take i) = with_stray r (changed r.words (Take i)) (if not r.words.flag && x.made.found == 1 then Some x else r.stray)
moved r x (Out i) = with_listed r r.words None
moved r x (Done i) = record { words = r.words; listed = r.listed; done = Some (first_done r.done x); stray = r.stray }
moved r x (Renew i) = renewed_record r
moved r x (Rearm i) = with_listed r (changed r.words (Rearm i)) (Some x)
moved r x _ = r

-- after a step: one of another IRP or another life changes nothing
abbrev pub record_with : IrpRecord → LineStep → IrpRecord
record_with r x = if names r.words.name x.made.kind then moved r x x.made.kind else r

-- after these steps
abbrev pub record_after : List LineStep → IrpId → IrpRecord
record_after [] n = new_record n 0
record_after (x ∷ V) n = record_with (record_after V n) x

-- of each of these IRPs, by rising number
abbrev pub records : ℕ → List LineStep → List IrpRecord
records irps V = table (λ n. record_after V (record { 0 = n })) irps
