-- The order of the calls follows from what each call's pass had seen before it.
use Rattle.std.proofs.Common.{◌≡◌, ◌≢◌, ◌⊎◌, inl, inr, Bool, ◌&&◌, List, [], ◌∷◌, ◌++◌, length, append_assoc, refl, sym, ap, ◌∙◌, subst}
use Rattle.csq_words.proofs.Traced.{steps_over}
use Rattle.csq_queue.proofs.Imports.{Tick, steps_in, append_cancel_right, filter-append, own, same_pass, PassId, Made, HistoryEntry, Event, PassRecord, Limits, IsExtendedBy, is_call, calls_of, entries_of, extended_on, made_by}
use Rattle.csq_words.specs.Traces.{StandInOrder}
use Rattle.csq_words.specs.Stories.{AreComparable}
use Rattle.csq_words.proofs.OneHistory.{one_begins}
use Rattle.csq_words.proofs.Placing.{own_entry, in_order}
use Rattle.csq_queue.specs.Cleanups.{SeesCalls}
use Rattle.csq_queue.specs.Order.{LockedCall, entries, ComesBefore, StandBefore, CallsAreOrdered, CallsComeAfterWhatWasSeen, StepsComeAfterWhatWasSeen, CallsToldOfCameFirst, EventsLeftStandInOrder, EventsOfAnOpenQueueStandInOrder}
use Rattle.csq_queue.proofs.StoriesLeft.{closing_see}
use Rattle.csq_queue.proofs.Meeting.{own-append, none_added}

module _ {limits : Limits} where
  -- what a call leaves goes on from what it found
  found_in : (c : LockedCall limits) → IsExtendedBy c.found c.new.seen
  found_in c = (entries c, c.adds.ends)

  -- in each history that goes on from what d left, the events of a call before it stand before its own
  pub stands : (c d : LockedCall limits) → ComesBefore c d → (history : List HistoryEntry) → IsExtendedBy d.new.seen history → StandBefore history c d
  stands c d before history more =
      let found : d.found ≡ before.0 ++ (entries c ++ c.found) = before.1 ∙ ap (λ (h : List HistoryEntry). before.0 ++ h) c.adds.ends in
      (more.0, before.0, more.1 ∙ ap (λ (h : List HistoryEntry). more.0 ++ h) (d.adds.ends ∙ ap (λ (h : List HistoryEntry). entries d ++ h) found))

-- lists
module _ {A : Type 0} where
  -- a list has no element, or one that is the oldest
  oldest_of : (xs : List A) → (xs ≡ []) ⊎ ((newer : List A) × (x : A) × (xs ≡ newer ++ (x ∷ [])))
  oldest_of [] = inl refl
  oldest_of (x ∷ xs) = go (oldest_of xs)
    where
      go : (xs ≡ []) ⊎ ((newer : List A) × (y : A) × (xs ≡ newer ++ (y ∷ []))) → (x ∷ xs ≡ []) ⊎ ((newer : List A) × (y : A) × (x ∷ xs ≡ newer ++ (y ∷ [])))
      go (inl none) = inr ([], x, ap (λ l. x ∷ l) none)
      go (inr (newer, y, is)) = inr (x ∷ newer, y, ap (λ l. x ∷ l) is)

  -- what stands in one list directly after the same elements is one
  same_at : (a b t : List A) (e f : A) → a ++ (e ∷ t) ≡ b ++ (f ∷ t) → e ≡ f
  same_at a b t e f is = go (one_begins a b (e ∷ t) (f ∷ t) is)
    where
      first_is : (n : List A) (x y : A) → y ∷ t ≡ n ++ (x ∷ t) → y ≡ x
      first_is n x y more =
          let none : n ≡ [] = none_added n (x ∷ t) (ap length (sym more)) in
          let same : y ∷ t ≡ x ∷ t = more ∙ ap (λ l. l ++ (x ∷ t)) none in cc

      go : AreComparable (e ∷ t) (f ∷ t) → e ≡ f
      go (inl (n, more)) = sym (first_is n e f more)
      go (inr (n, more)) = first_is n f e more

-- entries of no event
no_entries : (p : PassId) (es : List Event) → entries_of p es ≡ [] → es ≡ []
no_entries p [] none = refl
no_entries p (v ∷ es) none = absurd cc

module _ {limits : Limits} where
  -- a call that comes before itself has added nothing
  adds_nothing : (c : LockedCall limits) → ComesBefore c c → c.events ≡ []
  adds_nothing c itself =
      let whole : c.found ≡ (itself.0 ++ entries c) ++ c.found = itself.1 ∙ (ap (λ (h : List HistoryEntry). itself.0 ++ h) c.adds.ends ∙ sym (append_assoc itself.0 (entries c) c.found)) in
      no_entries c.old.pass c.events (none_after itself.0 (entries c) (none_added (itself.0 ++ entries c) c.found (ap length (sym whole))))
    where
      none_after : (xs ys : List HistoryEntry) → xs ++ ys ≡ [] → ys ≡ []
      none_after [] ys none = none
      none_after (x ∷ xs) ys none = absurd cc

  -- of two calls of different passes, that which found the older history comes before the other: else an entry would be of both
  comes_first : (c d : LockedCall limits) (history : List HistoryEntry) → IsExtendedBy c.new.seen history → IsExtendedBy d.new.seen history → c.old.pass ≢ d.old.pass → d.events ≢ [] → IsExtendedBy c.found d.found → ComesBefore c d
  comes_first c d history one two apart some older =
      let there = extended_on d.found d.new.seen history (found_in d) two in
      go (one_begins one.0 there.0 c.new.seen d.found (sym one.1 ∙ there.1))
    where
      overlap : (x : List HistoryEntry) → c.new.seen ≡ x ++ d.found → (x ≡ []) ⊎ ((newer : List HistoryEntry) × (e : HistoryEntry) × (x ≡ newer ++ (e ∷ []))) → (entries d ≡ []) ⊎ ((newer : List HistoryEntry) × (f : HistoryEntry) × (entries d ≡ newer ++ (f ∷ []))) → ComesBefore c d
      overlap x is (inl none) ends = ([], sym (is ∙ ap (λ l. l ++ d.found) none))
      overlap x is (inr (newer, e, ends)) (inl none) = absurd (some (no_entries d.old.pass d.events none))
      overlap x is (inr (newer, e, ends)) (inr (newer', f, ends')) =
          let mine : entries c ≡ newer ++ (e ∷ older.0) = append_cancel_right (entries c) (newer ++ (e ∷ older.0)) c.found
          (sym c.adds.ends ∙ (is ∙ ((λ k. ends k ++ older.1 k) ∙ (append_assoc newer (e ∷ []) (older.0 ++ c.found) ∙ sym (append_assoc newer (e ∷ older.0) c.found))))) in
          let here : history ≡ (one.0 ++ newer) ++ (e ∷ d.found) = one.1 ∙ (ap (λ (h : List HistoryEntry). one.0 ++ h) (is ∙ (ap (λ l. l ++ d.found) ends ∙ append_assoc newer (e ∷ []) d.found)) ∙ sym (append_assoc one.0 newer (e ∷ d.found))) in
          let there : history ≡ (two.0 ++ newer') ++ (f ∷ d.found) = two.1 ∙ (ap (λ (h : List HistoryEntry). two.0 ++ h) (d.adds.ends ∙ (ap (λ l. l ++ d.found) ends' ∙ append_assoc newer' (f ∷ []) d.found)) ∙ sym (append_assoc two.0 newer' (f ∷ d.found))) in
          let same : e ≡ f = same_at (one.0 ++ newer) (two.0 ++ newer') d.found e f (sym here ∙ there) in
          absurd (apart (own_entry c.old.pass c.events newer older.0 e mine ∙ (ap (λ (z : HistoryEntry). z.pass) same ∙ sym (own_entry d.old.pass d.events newer' [] f ends'))))

      go : AreComparable c.new.seen d.found → ComesBefore c d
      go (inl before) = before
      go (inr (x, is)) = overlap x is (oldest_of x) (oldest_of (entries d))

  either_first : (c d : LockedCall limits) (history : List HistoryEntry) → IsExtendedBy c.new.seen history → IsExtendedBy d.new.seen history → c.old.pass ≢ d.old.pass → c.events ≢ [] → d.events ≢ [] → ComesBefore c d ⊎ ComesBefore d c
  either_first c d history one two apart some some' =
      let here = extended_on c.found c.new.seen history (found_in c) one in
      let there = extended_on d.found d.new.seen history (found_in d) two in
      go (one_begins here.0 there.0 c.found d.found (sym here.1 ∙ there.1))
    where
      go : AreComparable c.found d.found → ComesBefore c d ⊎ ComesBefore d c
      go (inl older) = inl (comes_first c d history one two apart some' older)
      go (inr older) = inr (comes_first d c history two one (λ e. apart (sym e)) some older)

-- all calls are in one order
pub ordered : CallsAreOrdered
ordered = record {
  told = λ limits c d told. extended_on c.new.seen d.old.seen d.found told d.adds.since;
  transitive = λ limits c d e one two. extended_on c.new.seen d.new.seen e.found (extended_on c.new.seen d.found d.new.seen one (found_in d)) two;
  irreflexive = λ limits c itself. adds_nothing c itself;
  stand = λ limits c d before history more. stands c d before history more;
  total = λ limits c d history one two apart some some'. either_first c d history one two apart some some';
}

-- the calls of a cleanup come after what its pass had seen
cleaned : (limits : Limits) (old new : PassRecord) (calls : List Event) → SeesCalls limits old new calls → (seen : List HistoryEntry) → IsExtendedBy seen old.seen
    → (newer others : List HistoryEntry) × (new.seen ≡ newer ++ seen) × (calls_of old.pass newer ≡ entries_of old.pass calls ++ others)
unfolding extended_on
cleaned limits old new calls sees seen told =
    let all = extended_on seen old.seen new.seen told sees.begins in
    let own : HistoryEntry → Bool = λ e. same_pass e.pass old.pass && is_call e.event in (
      all.0,
      sees.since.0 ++ calls_of old.pass told.0,
      all.1,
      filter-append own sees.begins.0 told.0 ∙ (ap (λ (l : List HistoryEntry). l ++ calls_of old.pass told.0) sees.since.1 ∙ append_assoc (entries_of old.pass calls) sees.since.0 (calls_of old.pass told.0)),
    )

-- a call finds what its pass had seen, and the calls of a cleanup come after it
pub after_seen : CallsComeAfterWhatWasSeen
after_seen = record {
  call = λ limits d seen told. extended_on seen d.old.seen d.found told d.adds.since;
  cleanup = λ limits old new calls sees seen told. cleaned limits old new calls sees seen told;
}

-- so do the steps of a call
pub steps_after_seen : StepsComeAfterWhatWasSeen
steps_after_seen limits d acts made own_is run told =
    let p = d.old.pass in
    let newer = d.adds.follows.0 in
    let made_since = steps_in newer in
    let whole : d.new.steps ≡ own p made_since ++ own p (steps_in d.old.trace) = d.adds.sees.agrees.pass_is.steps_is ∙ (ap (λ q. own q (steps_in d.new.trace)) d.adds.pass ∙ (ap (λ t. own p (steps_in t)) d.adds.follows.1 ∙ (ap (own p) (steps_over newer d.old.trace) ∙ own-append p made_since (steps_in d.old.trace)))) in
    let mine : own p made_since ≡ made_by p acts = append_cancel_right (own p made_since) (made_by p acts) d.old.steps (ap (λ (l : List Made). own p made_since ++ l) own_is ∙ (sym whole ∙ made)) in
    (newer, told.0, d.adds.follows.1 ∙ ap (λ (l : List Tick). newer ++ l) told.1, mine)

-- so the calls stand in what is left
pub told_came_first : CallsToldOfCameFirst
told_came_first limits pass receipts taken listing finals rest c d told k r at more =
    stands c d (extended_on c.new.seen d.old.seen d.found told d.adds.since) finals.queue.history (extended_on d.new.seen r.seen finals.queue.history more ((closing_see limits pass receipts taken listing finals rest).seen k r at))

-- and each event of it stands at its step
pub left_in_order : EventsLeftStandInOrder
left_in_order limits pass receipts taken listing finals rest = (subst (λ n. StandInOrder n finals.queue.trace) rest.first_is (in_order finals.queue.first finals.queue.trace rest.last.is_trace), rest.last.entries_are)

pub open_in_order : EventsOfAnOpenQueueStandInOrder
open_in_order limits taken old listing finals closed =
    (subst (λ n. StandInOrder n finals.queue.trace) closed.first_is (in_order finals.queue.first finals.queue.trace closed.last.is_trace), closed.last.entries_are ∙ closed.given.history)
