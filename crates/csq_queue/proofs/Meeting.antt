-- Two passes that see the same execution.
use Rattle.csq_queue.proofs.Imports.{Tick, steps_in, IsExtendedBy, length-append, filter-append, PassId, Made, Nothing, Size, own, by, PassRecord, QueueRecord, inside_of, caught_up, inserts, lists, again, in_flight, IsHistoryOf, RecordsAgree, SomeRunAgrees, SeesRun}
use Rattle.std.proofs.Common.{◌≡◌, List, [], ◌∷◌, ◌++◌, length, Some, refl, sym, ap, ◌∙◌, arith}
use Rattle.csq_words.specs.Traces.{entries_in, IsTrace}
use Rattle.csq_words.proofs.Keeping.{same_flight}
use Rattle.csq_words.proofs.Traced.{steps_extended}
use Rattle.csq_queue.proofs.Presence.{sees_run}

-- a pass's steps in a run that goes on
pub own-append : (p : PassId) (newer run : List Made) → own p (newer ++ run) ≡ own p newer ++ own p run
own-append p newer run = filter-append (by p) newer run

-- nothing was added to a list that is as long as it was
pub none_added : {A : Type 0} (newer old : List A) → length (newer ++ old) ≡ length old → newer ≡ []
none_added [] old e = refl
none_added (x ∷ newer) old e = let l = length-append newer old in absurd (omega (arith, e, l))

-- between two times at which the pass had the same steps, it had them too
pub own_between : (p : PassId) (first then last : List Made) → IsExtendedBy first then → IsExtendedBy then last → own p first ≡ own p last → own p then ≡ own p first
own_between p first then last one two same =
    let there : own p then ≡ own p one.0 ++ own p first = ap (own p) one.1 ∙ own-append p one.0 first in
    let here : own p last ≡ own p two.0 ++ own p then = ap (own p) two.1 ∙ own-append p two.0 then in
    let longer : length (own p two.0 ++ own p then) ≡ length (own p first) = ap length (sym here ∙ sym same) in
    let more : length (own p one.0 ++ own p first) ≡ length (own p then) = ap length (sym there) in
    let a = length-append (own p two.0) (own p then) in
    let b = length-append (own p one.0) (own p first) in
    let none' = none_added (own p one.0) (own p first) (omega (arith, longer, more, a, b)) in
    there ∙ ap (λ l. l ++ own p first) none'

-- a pass that took no step since an earlier time sees what was observed since
pub caught_up_sees : (size : Size) (q : QueueRecord) (r : PassRecord) → inside_of r.steps ≡ Nothing → r.steps ≡ own r.pass (steps_in r.trace) → IsExtendedBy r.trace q.trace → IsTrace q.first q.trace → entries_in q.trace ≡ q.history → IsHistoryOf size (steps_in q.trace) q Nothing → SomeRunAgrees size q r
    → SeesRun size (caught_up q r)
caught_up_sees size q r outside steps since traced entries history agreed =
    let mine = agreed.1.pass_is in
    let between = own_between r.pass (steps_in r.trace) (steps_in q.trace) (steps_in agreed.0) (steps_extended since) (steps_extended agreed.1.seen) (sym steps ∙ mine.steps_is) in
    sees_run size q.trace q r record {
      is_trace = traced;
      entries_are = entries;
      history_is = same_flight size (steps_in q.trace) q Nothing (in_flight (Some r)) (λ i. (sym (ap (λ s. lists s i) outside), sym (ap (λ s. inserts s i) outside), sym (ap (λ s. again s i) outside))) history;
      pass_is = record { seen_is = mine.seen_is; mine_is = mine.mine_is; steps_is = steps ∙ sym between; completed_is = mine.completed_is };
      callers = agreed.1.callers;
      seen = ([], refl);
      pass_seen = since;
    } outside

-- what a pass that is inside no program has observed agrees with the history
pub observed_history : (size : Size) (trace : List Tick) (q : QueueRecord) (r : PassRecord) → inside_of r.steps ≡ Nothing → RecordsAgree size trace q r → IsHistoryOf size (steps_in trace) q Nothing
observed_history size trace q r outside agreed = same_flight size (steps_in trace) q (in_flight (Some r)) Nothing (λ i. (ap (λ s. lists s i) outside, ap (λ s. inserts s i) outside, ap (λ s. again s i) outside)) agreed.history_is
