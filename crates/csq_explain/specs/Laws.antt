-- What holds of every explanation, of a schedule and of a script, and of the words that wrong orders go by.
use Rattle.std.specs.Prelude.{◌≡◌, ◌≢◌, ◌<◌, ◌≤◌, ◌||◌, ℕ, Bool, List, [], ◌∷◌, ◌++◌, length, IsTrue, IsFalse}
use Rattle.std.specs.List.{list_any}
use Rattle.irp_core.specs.declared.ids.{IrpId.{IrpId}, IrpLife.{IrpLife}, PassId.{PassId}}
use Rattle.irp_core.specs.declared.step.{Kind.TheVariants.{Renew}, Made.{Made}}
use Rattle.irp_core.specs.Lives.{present}
use Rattle.irp_core.specs.Owners.{dones, listed, owes}
use Rattle.irp_core.specs.Runs.{Size, MayFollow, IsAtRest}
use Rattle.irp_core.specs.Steps.{is, life_of, number}
use Rattle.irp_core.specs.Words.{armed, flagged}
use Rattle.csq_words.specs.Queue.{Limits}
use Rattle.csq_replay.specs.declared.lines.answer.Ended.{Ended}
use Rattle.csq_explain.specs.Explaining.{IsExplanation}
use Rattle.csq_explain.specs.ExplainingCalls.{IsScriptExplanation}
use Rattle.csq_explain.specs.declared.line_steps.LineStep.{LineStep}
use Rattle.csq_explain.specs.Harms.{harms_of}
use Rattle.csq_explain.specs.IrpRecords.{new_record, record_after}
use Rattle.csq_explain.specs.LineSteps.{by_words, made_in}
use Rattle.csq_explain.specs.WordValues.{words_after, words_of}

-- two explanations of one schedule are the same
abbrev pub HasOneExplanation : Size → Bool → List ℕ → Type 0
HasOneExplanation size claims input = (text other : List ℕ) (ended otherwise : Ended)
    → IsExplanation size claims input text ended → IsExplanation size claims input other otherwise → (text ≡ other) × (ended ≡ otherwise)

-- two explanations of one script are the same
abbrev pub HasOneScriptExplanation : Limits → List ℕ → Type 0
HasOneScriptExplanation l input = (text other : List ℕ) (ended otherwise : Ended)
    → IsScriptExplanation l input text ended → IsScriptExplanation l input other otherwise → (text ≡ other) × (ended ≡ otherwise)

-- of a run from life 0 on, the words of each IRP are those of its present life by the run
abbrev pub TheWordsAreTheRuns : ℕ → List Made → Type 0
TheWordsAreTheRuns first E = first ≡ 0 → (n : IrpId) → words_after E n ≡ words_of E (present first E n)

-- and what the words say of its next step, in the nth line, is that step
abbrev pub EachNextStepFindsTheWords : Size → List LineStep → Type 0
EachNextStepFindsTheWords size V = size.first ≡ 0 → (n : ℕ) (m : Made) → MayFollow size (made_in V) m → by_words V n m.pass m.kind ≡ record { line = n; made = m }

-- nothing goes wrong in an execution that has come to rest
abbrev pub NothingGoesWrongAtRest : Size → List LineStep → Type 0
NothingGoesWrongAtRest size V = size.first ≡ 0 → IsAtRest (made_in V) → harms_of size.irps V ≡ []

-- each step finds the value that it finds by the words
abbrev pub GoByWords : List LineStep → Type 0
GoByWords [] = Unit {0}
GoByWords (x ∷ V) = (x ≡ by_words V x.line x.made.pass x.made.kind) × GoByWords V

-- after U, the life that i names is its IRP's present one, and nothing is known of it. (So it is before the first step, in life 0, and after a renew.)
abbrev pub IsFresh : List LineStep → IrpLife → Type 0
IsFresh U i = record_after U i.irp ≡ new_record i.irp (life_of i)

-- something goes wrong in an order that ends with W, if a law of irp_core is broken in the end of what W did to i: it was completed twice; it was completed, and is listed or armed; it is flagged and listed, and no pass owes it
pub record EachBrokenLawIsAHarm (irps : ℕ) (W U : List LineStep) (i : IrpLife) : Type 0 where
  pub twice : 2 ≤ length (dones (made_in W) i) → harms_of irps (W ++ U) ≢ []
  pub gone : dones (made_in W) i ≢ [] → IsTrue (listed (made_in W) i || armed (made_in W) i) → harms_of irps (W ++ U) ≢ []
  pub flagged : GoByWords (W ++ U) → IsTrue (flagged (made_in W) i) → IsTrue (listed (made_in W) i) → ((p : PassId) → IsFalse (owes (made_in W) p i)) → harms_of irps (W ++ U) ≢ []

-- of each life that is fresh before W, and that W doesn't renew
abbrev pub BrokenLawsAreHarms : ℕ → List LineStep → List LineStep → Type 0
BrokenLawsAreHarms irps W U = (i : IrpLife) → number i < irps → IsFresh U i → IsFalse (list_any (is (Renew i)) (made_in W)) → EachBrokenLawIsAHarm irps W U i
