-- The steps of a call under the lock keep the rule.
use Rattle.csq_words.proofs.Named.{by_pass}
use Rattle.std.proofs.Common.{true, false, cond, ◌≡◌, ℕ, ◌*◌, ◌≤◌, not, ◌&&◌, List, [], ◌∷◌, ◌++◌, map, length, set, Some, append_assoc, refl, sym, ap, ◌∙◌, subst, arith}
use Rattle.csq_words.proofs.Imports.{inside_of, PassId, Kind, Made, IrpLife, inside, inside_after, listed, Size, IsRun, same_pass-refl, IsFreeFor, Event, Completion, PassRecord, QueueRecord, View, has_entry, has_irp, end_of, IsOrderly, given_to, OwnersPutBack, view_of, entries_of, with_events, with_calls, with_step, with_trace, with_reusing, own, was_armed, present_life, IrpId, Reusing, IsExtendedBy, Tick, Makes, steps_in, inserts, lists, again, in_flight, passes_given, AreDue, AreTrueOf, IsReuse, IsHistoryOf, with_done, completed_in, IsPassOf, AreStored, RuleHoldsBy, RecordsAgree, HasObserved, own-mine, own-other}
use Rattle.csq_words.proofs.PassSteps.{AllWords}
use Rattle.csq_words.proofs.Keeping.{inside_is, only_joined, nobody_in}
use Rattle.csq_words.proofs.SeatSteps.{LockedStep, locked_step, again_locks, inside_other, begun_more}
use Rattle.csq_words.specs.Traces.{IsTrace, says}
use Rattle.csq_words.proofs.Facts.{extended_on}
use Rattle.csq_words.proofs.Traced.{steps_says, traced_made}
use Rattle.csq_words.proofs.Entries.{begins_more, calls_of-other, calls_of-mine}

-- the rule, as the joined pass sees it
pub record Sees (size : Size) (words : List ℕ) (run : List Made) (q : QueueRecord) (r : PassRecord) : Type 0 where
  pub wide : length words ≡ 3 * size.irps
  pub words_are : AllWords size words run q.reusing
  pub history_is : IsHistoryOf size run q (in_flight (Some r))
  pub reuse_is : IsReuse size run q.reusing
  pub same : inside_of r.steps ≡ inside run r.pass
  pub steps_is : r.steps ≡ own r.pass run
  pub completed_is : map (λ (c : Completion). c.irp) r.completed ≡ completed_in r.steps
  pub free : IsFreeFor run r.pass
  pub from : 1 ≤ r.pass.0
  pub to : r.pass.0 ≤ size.passes

pub sees : (size : Size) (words : List ℕ) (views : List View) (trace : List Tick) (id : ℕ) (q : QueueRecord) (r : PassRecord) (seat : PassId → ℕ) → RuleHoldsBy size words views trace id q (Some r) seat → Sees size words (steps_in trace) q r
sees size words views trace id q r seat k =
    let run = steps_in trace in
    let mine = (k.each_view id (view_of q (Some r)) k.queue_is).pass_here r refl in
    let to = mine.1.to in
    let few = k.agrees.few in record {
      wide = k.agrees.wide;
      words_are = k.agrees.words_are;
      history_is = k.agrees.history_is;
      reuse_is = k.agrees.reuse_is;
      same = inside_is run r words q mine.2;
      steps_is = mine.2.of_pass.steps_is;
      completed_is = mine.2.of_pass.completed_is;
      free = only_joined run r k.lock;
      from = mine.1.from;
      to = omega arith;
    }

-- what a step of this kind that found n, records these events and leaves the reuse so owes, where the words become words'
pub record IsMade (size : Size) (words words' : List ℕ) (run : List Made) (q : QueueRecord) (r : PassRecord) (kind : Kind) (n : ℕ) (es : List Event) (reuse : Reusing) : Type 0 where
  pub wide : length words' ≡ length words
  pub is_run : IsRun size (record { pass = r.pass; kind = kind; found = n } ∷ run)
  pub words_are : AllWords size words' (record { pass = r.pass; kind = kind; found = n } ∷ run) reuse
  pub reuse_is : IsReuse size (record { pass = r.pass; kind = kind; found = n } ∷ run) reuse
  pub inert : (is : List IrpLife) → with_done kind is ≡ is
  pub stored : (cs : List Completion) → AreStored words cs → AreStored words' cs
  pub listed_is : (i : IrpLife) → has_entry (end_of q.first (entries_of r.pass es ++ q.history)).entries i ≡ (not (lists (inside_after (inside_of r.steps) kind n) i) && listed (record { pass = r.pass; kind = kind; found = n } ∷ run) i)
  pub used_is : (i : IrpLife) → has_irp (end_of q.first (entries_of r.pass es ++ q.history)).used i ≡ (not (inserts (inside_after (inside_of r.steps) kind n) i) && was_armed (record { pass = r.pass; kind = kind; found = n } ∷ run) i)
  pub lives_are : (m : IrpId) → (end_of q.first (entries_of r.pass es ++ q.history)).lives m ≡ present_life size.first (record { pass = r.pass; kind = kind; found = n } ∷ run) m
  pub true_of : AreTrueOf q.first (record { pass = r.pass; kind = kind; found = n } ∷ run) (entries_of r.pass es ++ q.history)
  pub orderly : IsOrderly q.first (entries_of r.pass es ++ q.history)
  pub given_is : (i : IrpLife) → again (inside_after (inside_of r.steps) kind n) i ≡ false → given_to q.first i (entries_of r.pass es ++ q.history) ≡ passes_given (record { pass = r.pass; kind = kind; found = n } ∷ run) i
  pub putting_back : (i : IrpLife) → again (inside_after (inside_of r.steps) kind n) i ≡ true → given_to q.first i (entries_of r.pass es ++ q.history) ≡ r.pass ∷ []
  pub owners : OwnersPutBack q.first (entries_of r.pass es ++ q.history)
  pub due : AreDue r.steps r.completed → AreDue (record { pass = r.pass; kind = kind; found = n } ∷ r.steps) r.completed

-- the execution after it
abbrev pub made_trace : PassRecord → Kind → ℕ → List Event → List Tick → List Tick
made_trace r kind n es trace = says (entries_of r.pass es) ++ (Makes record { pass = r.pass; kind = kind; found = n } ∷ trace)

-- the queue's record after it, which has observed this execution
abbrev pub made_record : PassRecord → List Event → Reusing → List Tick → QueueRecord → QueueRecord
made_record r es reuse trace q = with_events r.pass es (with_reusing reuse (with_trace trace q))

-- what the rule says after the step
abbrev pub KeptAfter : Size → List ℕ → List View → List Tick → ℕ → (PassId → ℕ) → QueueRecord → PassRecord → Type 0
KeptAfter size words views trace id seat q r = RuleHoldsBy size words (set views id (view_of q (Some r))) trace id q (Some r) seat × RecordsAgree size trace q r

-- the same where the queue's record has the run, and had a beginning of it before
abbrev pub ObservedAfter : Size → List ℕ → List View → ℕ → (PassId → ℕ) → QueueRecord → QueueRecord → PassRecord → Type 0
ObservedAfter size words views id seat old q r = RuleHoldsBy size words (set views id (view_of q (Some r))) q.trace id q (Some r) seat × HasObserved size old q r

-- two records with which the rule says that the execution agrees
pub agreed_kept : (size : Size) (words : List ℕ) (views : List View) (trace : List Tick) (id : ℕ) (q : QueueRecord) (r : PassRecord) (seat : PassId → ℕ)
    → RuleHoldsBy size words views trace id q (Some r) seat → RuleHoldsBy size words views trace id q (Some r) seat × RecordsAgree size trace q r
agreed_kept size words views trace id q r seat k =
    let seen = k.each_seen id (view_of q (Some r)) k.queue_is in
    let rec = ((k.each_view id (view_of q (Some r)) k.queue_is).pass_here r refl).2 in
    (k, record { is_trace = k.traced.is_trace; entries_are = k.traced.entries_are; history_is = k.agrees.history_is; pass_is = rec.of_pass; callers = λ p s. (k.agrees.nobody p (nobody_in q.made size.passes p k.agrees.few s)).1; seen = seen.queue q refl; pass_seen = seen.pass r refl })

pub made_kept : (size : Size) (words words' : List ℕ) (views : List View) (trace : List Tick) (id : ℕ) (q : QueueRecord) (r : PassRecord) (seat : PassId → ℕ) (kind : Kind) (n : ℕ) (es : List Event) (reuse : Reusing)
    → RuleHoldsBy size words views trace id q (Some r) seat → IsMade size words words' (steps_in trace) q r kind n es reuse
    → IsTrace q.first (made_trace r kind n es trace) → ObservedAfter size words' views id seat q (made_record r es reuse (made_trace r kind n es trace) q) (with_calls es (with_step kind n r))
made_kept size words words' views trace id q r seat kind n es reuse k x traced =
    let run = steps_in trace in
    let trace' = made_trace r kind n es trace in
    let m : Made = record { pass = r.pass; kind = kind; found = n } in
    let q' = made_record r es reuse trace' q in
    let steps_are : steps_in trace' ≡ m ∷ run = steps_says (entries_of r.pass es) (Makes m ∷ trace) in
    let longer : IsExtendedBy trace trace' = (says (entries_of r.pass es) ++ (Makes m ∷ []), sym (append_assoc (says (entries_of r.pass es)) (Makes m ∷ []) trace)) in
    let seen = k.each_seen id (view_of q (Some r)) k.queue_is in
    let history' = entries_of r.pass es ++ q.history in
    let r' = with_calls es (with_step kind n r) in
    let owner = (k.each_view id (view_of q (Some r)) k.queue_is).pass_here r refl in
    let was = owner.2.of_pass in
    let inside_mine : inside (m ∷ run) r.pass ≡ inside_after (inside_of r.steps) kind n =
    ap (λ b. cond b (inside_after (inside run r.pass) kind n) (inside run r.pass)) (same_pass-refl r.pass) ∙ ap (λ s. inside_after s kind n) (sym (inside_is run r words q owner.2)) in
    let history_is : IsHistoryOf size (m ∷ run) q' (in_flight (Some r')) = record {
      is_run = x.is_run;
      first_is = k.agrees.history_is.first_is;
      listed_is = x.listed_is;
      used_is = x.used_is;
      lives_are = x.lives_are;
      true_of = x.true_of;
      orderly = x.orderly;
      given_is = x.given_is;
      putting_back = λ p i h. by_pass (given_to q.first i history' ≡ p ∷ []) p r.pass
          (λ same. subst (λ (o : PassId). given_to q.first i history' ≡ o ∷ []) (sym same) (x.putting_back i (ap (λ s. again s i) (sym inside_mine) ∙ (ap (λ (o : PassId). again (inside (m ∷ run) o) i) (sym same) ∙ h))))
          (λ ne. absurd (ne (only_joined run r k.lock p (again_locks (inside run p) i (ap (λ s. again s i) (sym (inside_other m run p ne)) ∙ h)))));
      owners = x.owners;
    } in
    let pass_is : IsPassOf (m ∷ run) history' r' = record {
      seen_is = begins_more r.seen q.history (entries_of r.pass es) was.seen_is;
      mine_is = calls_of-mine r.pass es q.history r.mine was.mine_is;
      steps_is = ap (λ u. m ∷ u) was.steps_is ∙ sym (own-mine r.pass m run refl);
      completed_is = was.completed_is ∙ sym (x.inert (completed_in r.steps));
    } in
    let kept = agreed_kept size words' (set views id (view_of q' (Some r'))) trace' id q' r' seat
    (locked_step size words words' views trace trace' id q q' seat r r' k (subst (λ (e : List Made). LockedStep size words words' run e trace trace' q q' r r') (sym steps_are) record {
      same_pass = refl;
      same_made = refl;
      same_back = refl;
      same_shown = refl;
      wide = x.wide;
      words_are = x.words_are;
      history_is = history_is;
      reuse_is = x.reuse_is;
      others = λ o ne rec. record {
        of_pass = record {
          seen_is = begins_more o.seen q.history (entries_of r.pass es) rec.of_pass.seen_is;
          mine_is = rec.of_pass.mine_is ∙ sym (calls_of-other o.pass r.pass es q.history ne);
          steps_is = rec.of_pass.steps_is ∙ sym (own-other o.pass m run (λ e. ne (sym e)));
          completed_is = rec.of_pass.completed_is;
        };
        stored = x.stored o.completed rec.stored;
        due = rec.due;
        begun = begun_more q.first m run o.lives rec.begun;
      };
      elsewhere = λ p ne. (own-other p m run (λ e. ne (sym e)), calls_of-other p r.pass es q.history ne, inside_other m run p ne);
      traced = traced_made k.traced (entries_of r.pass es) m r' refl refl traced;
      longer = longer;
      seen = ([], refl);
      mine_seen = extended_on r.trace trace trace' (seen.pass r refl) longer;
      grows = λ shorter g. begins_more shorter q.history (entries_of r.pass es) g;
      mine = record { of_pass = pass_is; stored = x.stored r.completed owner.2.stored; due = x.due owner.2.due; begun = begun_more q.first m run r.lives owner.2.begun };
    })) in (kept.0, record { call = record { agreed = kept.1; in_call = kept.0.traced.in_call r' refl }; follows = extended_on q.trace trace trace' (seen.queue q refl) longer })
