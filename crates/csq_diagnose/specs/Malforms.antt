-- Why a line names no step, or no call.
use Rattle.std.specs.Prelude.{◌≡◌, List, ℕ, [], map, Option, None, MatchOption}
use Rattle.std.specs.Char.{to_ascii_lowercase}
use Rattle.csq_diagnose.specs.declared.expected.Expected.{Expected}
use Rattle.csq_diagnose.specs.declared.found.Found.{Found, TheVariants.{Word}}
use Rattle.csq_diagnose.specs.declared.grammar.Grammar.{Grammar}
use Rattle.csq_diagnose.specs.declared.malformed.Malformed.{Malformed}
use Rattle.csq_diagnose.specs.declared.misfit.Misfit.{Misfit}
use Rattle.csq_diagnose.specs.declared.nearest.Near.{Near}
use Rattle.csq_diagnose.specs.Expecting.{expected_words}
use Rattle.csq_diagnose.specs.Founds.{IsFoundIn}
use Rattle.csq_diagnose.specs.Misfits.{IsMisfit}
use Rattle.csq_diagnose.specs.Nearness.{IsNearest}

-- the word in small letters
abbrev pub in_small_letters : List ℕ → List ℕ
in_small_letters = map to_ascii_lowercase

-- it is the nearest to a word that was found, small letters or not, of those that can be listed
abbrev pub IsNearTo : Expected → Found → Option Near → Type 0
IsNearTo e (Word text) near = MatchOption near (expected_words e ≡ []) (IsNearest (expected_words e) (in_small_letters text.now))
IsNearTo e _ near = near ≡ None

-- it reports the misfit of the line
abbrev pub IsMalformed : Grammar → List ℕ → Malformed → Type 0
IsMalformed g line fault = (m : Misfit) × IsMisfit g line m × (fault.expected ≡ m.expected) × IsFoundIn m fault.found fault.column × IsNearTo fault.expected fault.found fault.near
