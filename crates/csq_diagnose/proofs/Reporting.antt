-- What else is said of the lines of an input that was answered: the diagnosis of its end.
use Rattle.std.proofs.Common.{◌≡◌, ℕ, ◌+◌, List, [], Some, None, Option, Result, Ok, Err, IfOk, OnOk, refl, sym, subst, codes}
use Rattle.csq_replay.specs.declared.lines.answer.Ended.{Ended}
use Rattle.csq_replay.specs.declared.lines.answer.Ended.TheVariants as ended
use Rattle.csq_replay.specs.declared.lines.Ending.{Ending}
use Rattle.csq_replay.specs.declared.lines.Ending.TheVariants.{AllHandled, TooLong, StoppedAt}
use Rattle.csq_replay.specs.Pieces.{lines_of}
use Rattle.csq_replay.specs.Lines.{AnswersAll, AnswersUntil, IsAnswer, IsAnswerUntil, IsEndAt, ended_of}
use Rattle.csq_replay.specs.Lines.AnswersAll.{all_handled, goes_on, stops}
use Rattle.csq_replay.specs.Lines.IsAnswer.{too_long_input, answered}
use Rattle.csq_diagnose.specs.Reports.{IsEndDiagnosis}

pub on_ok : {X E : Type 0} {P Q : Type 0} (r : Result X E) → (P → Q) → OnOk r P → OnOk r Q
on_ok (Ok x) f p = f p
on_ok (Err e) f p = p

-- what is so of every value is so of a result's, if there is one
pub if_ok : {X E : Type 0} {P Q : X → Type 0} (r : Result X E) → ((x : X) → P x → Q x) → IfOk r P → IfOk r Q
if_ok (Ok x) f p = f x p
if_ok (Err e) f p = p

module _ {S T W : Type 0} (f : S → T) (answers : S → ℕ → List ℕ → List ℕ → Option S → Type 0) (fits : S → ℕ → List ℕ → W → Type 0) (closes : S → List ℕ → Type 0)
    (others : T → ℕ → List ℕ → List ℕ → Option T → Type 0) (reports : W → ℕ → List ℕ → List ℕ → Type 0)
    (on : (s t : S) (n : ℕ) (line text : List ℕ) → answers s n line text (Some t) → others (f s) n line [] (Some (f t)))
    (ends : (s : S) (n : ℕ) (line said : List ℕ) (why : W) → fits s n line why → reports why n line said → others (f s) n line said None) where
  closed_by : (end : Ending W) (said : List ℕ) → IsEndDiagnosis reports end said → ended.AllHandled ≡ ended_of end → said ≡ []
  closed_by AllHandled said is e = is
  closed_by TooLong said is e = absurd (cc e)
  closed_by (StoppedAt at why) said is e = absurd (cc e)

  ended_by : (end : Ending W) (said : List ℕ) → IsEndDiagnosis reports end said → (s : S) (n : ℕ) (line : List ℕ) → IsEndAt n line (fits s n line) end → others (f s) n line said None
  ended_by AllHandled said is s n line at = absurd at
  ended_by TooLong said is s n line at = absurd at
  ended_by (StoppedAt l why) said is s n line (number, bytes, fit) =
      let Number : ℕ → Type 0 = λ k. reports why k l.bytes.now said in
      let Bytes : List ℕ → Type 0 = λ b. reports why n b said in
      ends s n line said why fit (subst Bytes bytes (subst Number number is))

  module _ (end : Ending W) (said : List ℕ) (is : IsEndDiagnosis reports end said) where
    others_all : (s : S) (n : ℕ) (lines : List (List ℕ)) (text : List ℕ) (e : Ended) → e ≡ ended_of end → AnswersAll (AnswersUntil answers fits end) closes s n lines text e
        → AnswersAll others (λ (t : T) u. u ≡ []) (f s) n lines said e
    others_all s n lines text e same (all_handled a m t closed) = all_handled (f s) n said (closed_by end said is same)
    others_all s n lines text e same (goes_on a t m line left piece rest e' h more) = goes_on (f s) (f t) n line left [] said e (on s t n line piece h.0) (others_all t (n + 1) left rest e same more)
    others_all s n lines text e same (stops a m line left piece h) = stops (f s) n line left said (ended_by end said is s n line h.1)

  long_said : (end : Ending W) (said : List ℕ) → IsEndDiagnosis reports end said → end ≡ TooLong → said ≡ codes "input too long\n"
  long_said AllHandled said is e = absurd (cc e)
  long_said TooLong said is e = is
  long_said (StoppedAt at why) said is e = absurd (cc e)

  -- the diagnosis of the end of an answer is one of its input
  pub diagnosed : (end : Ending W) (said : List ℕ) → IsEndDiagnosis reports end said → (s : S) (input text : List ℕ) → IsAnswerUntil answers fits closes s input text end
      → IsAnswer others (λ (t : T) u. u ≡ []) (f s) input said (ended_of end)
  diagnosed end said is s input text answer = go (ended_of end) refl text answer.answer
    where
      go : (e : Ended) → e ≡ ended_of end → (text : List ℕ) → IsAnswer (AnswersUntil answers fits end) closes s input text e → IsAnswer others (λ (t : T) u. u ≡ []) (f s) input said e
      go e same text (too_long_input lt) =
          let P : List ℕ → Type 0 = λ u. IsAnswer others (λ (t : T) u. u ≡ []) (f s) input u ended.Stopped in
          subst P (sym (long_said end said is (answer.long lt))) (too_long_input lt)
      go e same text (answered t e' le all) = answered said e le (others_all end said is s 1 (lines_of input) text e same all)
