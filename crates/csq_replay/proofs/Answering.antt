-- Answers, line after line.
use Rattle.std.proofs.Common.{◌≡◌, ℕ, ◌+◌, List, ◌∷◌, ◌++◌, Option, Some, None, Result, Ok, Err, IfOk, ◌≤◌, append_assoc, refl, ap, subst, sym, ◌∙◌, length, true, eqb-true, arith}
use Rattle.csq_replay.proofs.Imports.{nil_from_length, ◌==◌, Ended, lines_of, GrewBy, Leaves, AnswersAll, IsAnswer}
use Rattle.csq_replay.specs.Lines.{AnswersUntil, IsAnswerUntil, ended_of}
use Rattle.csq_replay.specs.declared.lines.Line.{Line}
use Rattle.csq_replay.specs.declared.lines.Ending.{Ending}
use Rattle.csq_replay.specs.declared.lines.Ending.TheVariants as ending
use Rattle.csq_replay.specs.declared.lines.answer.Ended.TheVariants.{AllHandled, Stopped}
use Rattle.csq_replay.specs.Inputs.{input_limit}
use Rattle.csq_replay.specs.Lines.AnswersAll.{all_handled, goes_on, stops}
use Rattle.csq_replay.specs.Lines.IsAnswer.{too_long_input, answered}

-- the handling goes on at the state that it left
pub went_on : {S W : Type 0} (stands : S → Type 0) (fits : W → Type 0) (why : Option W) (more : Option S) → Leaves stands fits why more → why ≡ None → (s : S) × stands s
went_on stands fits None (Some s) at is = (s, at)
went_on stands fits None None at is = absurd at
went_on stands fits (Some why) more at is = absurd cc

module _ {S W : Type 0} (answers : S → ℕ → List ℕ → List ℕ → Option S → Type 0) (fits : S → ℕ → List ℕ → W → Type 0) (closes : S → List ℕ → Type 0) where
  -- the lines are answered so, where the handling ends so
  abbrev pub Until : Ending W → S → ℕ → List (List ℕ) → List ℕ → Ended → Type 0
  Until end = AnswersAll (AnswersUntil answers fits end) closes

  -- whatever the lines that are left are answered after s, with `added` before it it answers all
  abbrev pub Completes : List (List ℕ) → S → S → ℕ → List (List ℕ) → List ℕ → Type 0
  Completes whole first s n left added =
      (end : Ending W) (more : List ℕ) (ended : Ended) → Until end s n left more ended → Until end first 1 whole (added ++ more) ended

  module _ (whole : List (List ℕ)) (first s : S) (line : Line) (lines left : List (List ℕ)) (cut : lines ≡ line.bytes.now ∷ left)
      (added : List ℕ) (complete : Completes whole first s line.number lines added) (text : List ℕ) (more : Option S) (answer : answers s line.number line.bytes.now text more)
      (stands : S → Type 0) where
    with_line : Completes whole first s line.number (line.bytes.now ∷ left) added
    with_line = let P : List (List ℕ) → Type 0 = λ ls. Completes whole first s line.number ls added in subst P cut complete

    left_by : (why led : Option W) → why ≡ led → Leaves stands (fits s line.number line.bytes.now) why more → Leaves stands (fits s line.number line.bytes.now) led more
    left_by why led is leaves = let P : Option W → Type 0 = λ o. Leaves stands (fits s line.number line.bytes.now) o more in subst P is leaves

    pub line_stops : (led : Option W) (why : W) → led ≡ Some why → Leaves stands (fits s line.number line.bytes.now) led more → Until (ending.StoppedAt line why) first 1 whole (added ++ text) Stopped
    line_stops led why is leaves = go more answer (left_by led (Some why) is leaves)
      where
        go : (m : Option S) → answers s line.number line.bytes.now text m → Leaves stands (fits s line.number line.bytes.now) (Some why) m → Until (ending.StoppedAt line why) first 1 whole (added ++ text) Stopped
        go None h at = with_line (ending.StoppedAt line why) text Stopped (stops s line.number line.bytes.now left text (h, (refl, refl, at)))
        go (Some t) h at = absurd at

    pub line_goes_on : (led : Option W) → led ≡ None → Leaves stands (fits s line.number line.bytes.now) led more → (t : S) × stands t × Completes whole first t (line.number + 1) left (added ++ text)
    line_goes_on led is leaves = go more answer (left_by led None is leaves)
      where
        go : (m : Option S) → answers s line.number line.bytes.now text m → Leaves stands (fits s line.number line.bytes.now) None m → (t : S) × stands t × Completes whole first t (line.number + 1) left (added ++ text)
        go None h at = absurd at
        go (Some t) h at = (
          t,
          at,
          λ end rest ended others.
              let P : List ℕ → Type 0 = λ x. Until end first 1 whole x ended in
              subst P (sym (append_assoc added text rest)) (with_line end (text ++ rest) ended (goes_on s t line.number line.bytes.now left text rest ended (h, tt) others)),
        )

  -- where no bytes are left, the closing lines complete the answer
  pub lines_end : (whole : List (List ℕ)) (first s : S) (n : ℕ) (rest added closing : List ℕ) → true ≡ (length rest == 0) → Completes whole first s n (lines_of rest) added
      → closes s closing → Until ending.AllHandled first 1 whole (added ++ closing) AllHandled
  lines_end whole first s n rest added closing none complete closed =
      let C : List ℕ → Type 0 = λ bytes. Completes whole first s n (lines_of bytes) added in
      subst C (nil_from_length rest (eqb-true (length rest) 0 (sym none))) complete ending.AllHandled closing AllHandled (all_handled s n closing closed)

  -- what each of its lines is answered answers an input that isn't too long
  pub each_answer : {X : Type 0} (s : S) (input old new : List ℕ) (result : Result (Ending W) X) → length input ≤ input_limit
      → IfOk result (λ end. (added : List ℕ) × GrewBy old new added × Until end s 1 (lines_of input) added (ended_of end))
      → IfOk result (λ end. (added : List ℕ) × GrewBy old new added × IsAnswerUntil answers fits closes s input added end)
  each_answer s input old new (Ok end) le (added, grown, all) = (added, grown, record { answer = answered added (ended_of end) le all; long = λ lt. absurd (omega (arith, lt, le)) })
  each_answer s input old new (Err e) le h = h

  -- where its handling ended so, it is answered so
  until_all : (end : Ending W) (s : S) (n : ℕ) (lines : List (List ℕ)) (text : List ℕ) (ended : Ended) → Until end s n lines text ended → AnswersAll answers closes s n lines text ended
  until_all end s n lines text ended (all_handled a m t closed) = all_handled s n text closed
  until_all end s n lines text ended (goes_on a t m line left piece rest e h others) = goes_on s t n line left piece rest ended h.0 (until_all end t (n + 1) left rest ended others)
  until_all end s n lines text ended (stops a m line left piece h) = stops s n line left text h.0

  pub until_answer : (s : S) (input text : List ℕ) (end : Ending W) → IsAnswerUntil answers fits closes s input text end → IsAnswer answers closes s input text (ended_of end)
  until_answer s input text end is = go (ended_of end) text is.answer
    where
      go : (ended : Ended) (text : List ℕ) → IsAnswer (AnswersUntil answers fits end) closes s input text ended → IsAnswer answers closes s input text ended
      go ended text (too_long_input lt) = too_long_input lt
      go ended text (answered t e le all) = answered text ended le (until_all end s 1 (lines_of input) text ended all)

module _ {S : Type 0} (answers : S → ℕ → List ℕ → List ℕ → Option S → Type 0) (closes : S → List ℕ → Type 0) where
  -- two answers are one, where two answers to a line are, and two closings are, after every state that fits
  module _ (Fits : S → Type 0)
      (one_line : (s : S) (n : ℕ) (line t u : List ℕ) (m k : Option S) → Fits s → answers s n line t m → answers s n line u k → (t ≡ u) × (m ≡ k))
      (fits_on : (s t : S) (n : ℕ) (line text : List ℕ) → Fits s → answers s n line text (Some t) → Fits t)
      (one_closing : (s : S) (t u : List ℕ) → Fits s → closes s t → closes s u → t ≡ u) where
    one_answer : (s : S) (n : ℕ) (lines : List (List ℕ)) (t u : List ℕ) (e f : Ended) → Fits s
        → AnswersAll answers closes s n lines t e → AnswersAll answers closes s n lines u f → (t ≡ u) × (e ≡ f)
    one_answer s n lines t u e f fits (all_handled a m text closed) (all_handled a' m' text' closed') = (one_closing s t u fits closed closed', refl)
    one_answer s n lines t u e f fits (goes_on a more m line left text rest ended h others) (goes_on a' more' m' line' left' text' rest' ended' h' others') =
        let same = one_line s n line text text' (Some more) (Some more') fits h h' in
        let next : more' ≡ more = cc (sym same.1) in
        let P : S → Type 0 = λ x. AnswersAll answers closes x (n + 1) left rest' f in
        let rests = one_answer more (n + 1) left rest rest' e f (fits_on s more n line text fits h) others (subst P next others') in
        (ap (λ x. x ++ rest) same.0 ∙ ap (λ x. text' ++ x) rests.0, rests.1)
    one_answer s n lines t u e f fits (goes_on a more m line left text rest ended h others) (stops a' m' line' left' text' h') =
        absurd (cc ((one_line s n line text u (Some more) None fits h h').1))
    one_answer s n lines t u e f fits (stops a m line left text h) (goes_on a' more' m' line' left' text' rest' ended' h' others') =
        absurd (cc ((one_line s n line t text' None (Some more') fits h h').1))
    one_answer s n lines t u e f fits (stops a m line left text h) (stops a' m' line' left' text' h') = ((one_line s n line t u None None fits h h').0, refl)

    pub one_input_answer : (s : S) → Fits s → (input t u : List ℕ) (e f : Ended) → IsAnswer answers closes s input t e → IsAnswer answers closes s input u f → (t ≡ u) × (e ≡ f)
    one_input_answer s fits input t u e f (too_long_input lt) (too_long_input lt') = (refl, refl)
    one_input_answer s fits input t u e f (too_long_input lt) (answered text ended le others) = absurd (omega (arith, lt, le))
    one_input_answer s fits input t u e f (answered text ended le others) (too_long_input lt) = absurd (omega (arith, lt, le))
    one_input_answer s fits input t u e f (answered text ended le others) (answered text' ended' le' others') =
        one_answer s 1 (lines_of input) t u e f fits others others'
