-- A call that had returned before another began comes first: else the pass of the second had made more calls at the moment between them than it begins with.
use Rattle.std.proofs.Common.{◌≡◌, ◌≢◌, ◌⊎◌, inl, inr, ℕ, ◌≤◌, Bool, true, false, List, [], ◌∷◌, ◌++◌, length, Some, append_assoc, refl, sym, ap, ◌∙◌, subst, arith}
use Rattle.std.proofs.lemmas.List.{length-append}
use Rattle.irp_core.proofs.Names.{same_pass-eq, same_pass-ne}
use Rattle.csq_words.specs.declared.views.View.{View}
use Rattle.csq_words.specs.Rule.{IsPassOf}
use Rattle.csq_words.specs.Stories.{AreComparable}
use Rattle.csq_words.proofs.OneHistory.{one_begins}
use Rattle.csq_words.proofs.Placing.{own_entry}
use Rattle.csq_queue.proofs.Imports.{steps_in, some, some-injective, get_elem?, append_cancel_right, filter-append, same_pass, PassId, HistoryEntry, Event, PassRecord, Limits, IsExtendedBy, calls_of, entries_of, only_calls, extended_on, HasBack}
use Rattle.csq_queue.specs.Order.{LockedCall, entries, ComesBefore, StandBefore}
use Rattle.csq_queue.specs.Moments.{Moment, HasPass, HasReceipt, ReturnedBefore, CallsAreInRealTime, CallsLeftAreInRealTime, CallsOfAnOpenQueueAreInRealTime}
use Rattle.csq_queue.proofs.Ordering.{stands}
use Rattle.csq_queue.proofs.StoriesLeft.{closing_see, open_see}

-- a longer history has no fewer calls of a pass
no_fewer : (p : PassId) (newer history : List HistoryEntry) → length (calls_of p history) ≤ length (calls_of p (newer ++ history))
no_fewer p newer history =
    let split : calls_of p (newer ++ history) ≡ calls_of p newer ++ calls_of p history = filter-append _ newer history in
    let long = ap length split ∙ length-append (calls_of p newer) (calls_of p history) in
    omega (arith, long)

-- what doesn't lengthen a list is empty
adds_none : (xs ys : List HistoryEntry) → length (xs ++ ys) ≤ length ys → xs ≡ []
adds_none [] ys few = refl
adds_none (x ∷ xs) ys few = let longer = length-append xs ys in absurd (omega (arith, few, longer))

-- the history of a moment
module _ {limits : Limits} (moment : Moment limits) where
  abbrev history_at : List HistoryEntry
  history_at = moment.rule.2.history

  -- a receipt's record is that of a pass that is back
  is_back : (r : PassRecord) → HasReceipt moment r → HasBack moment.rule.2 r
  is_back r has = (moment.rule.5.each_view has.0 has.1 has.2).back_here r has.3

  -- each record is one of this history
  of_pass : (r : PassRecord) → HasPass moment r → IsPassOf (steps_in moment.rule.0) history_at r
  of_pass r has = ((moment.rule.5.each_view has.0 has.1 has.2).pass_here r has.3).2.of_pass

  of_either : (r : PassRecord) → HasPass moment r ⊎ HasReceipt moment r → IsPassOf (steps_in moment.rule.0) history_at r
  of_either r (inl out) = of_pass r out
  of_either r (inr back) = let there = is_back r back in (moment.rule.5.agrees.backs there.0 r there.1).is_record.of_pass

  -- a pass has one record
  one_record : (r s : PassRecord) → HasPass moment r ⊎ HasReceipt moment r → HasPass moment s → r.pass ≡ s.pass → r ≡ s
  one_record r s (inl out) has same =
      let at_r = ((moment.rule.5.each_view out.0 out.1 out.2).pass_here r out.3).0 in
      let at_s = ((moment.rule.5.each_view has.0 has.1 has.2).pass_here s has.3).0 in
      let seat : out.0 ≡ has.0 = sym at_r ∙ (ap moment.rule.4 same ∙ at_s) in
      let view : out.1 ≡ has.1 = some-injective out.1 has.1 (sym out.2 ∙ (ap (get_elem? moment.state.views) seat ∙ has.2)) in
      let record_is : Some r ≡ Some s = sym out.3 ∙ (ap (λ (v : View). v.pass) view ∙ has.3) in cc
  one_record r s (inr back) has same =
      let there = is_back r back in
      let out = ((moment.rule.5.each_view has.0 has.1 has.2).pass_here s has.3).1 in
      absurd (out.not_back there.0 r there.1 same)

module _ {limits : Limits} (c d : LockedCall limits) (before : ReturnedBefore c d) (history : List HistoryEntry) (first : IsExtendedBy c.new.seen history) (second : IsExtendedBy d.new.seen history) where
  abbrev p : PassId
  p = d.old.pass

  -- at the moment d's pass had made no more calls than d begins with, so nothing that d adds was in the history
  not_yet : (newer : List HistoryEntry) → history_at before.moment ≡ newer ++ d.new.seen → ⊥
  not_yet newer is =
      let of_d = of_pass before.moment d.old before.waiting in
      let all : history_at before.moment ≡ newer ++ (entries d ++ d.found) = is ∙ ap (λ (l : List HistoryEntry). newer ++ l) d.adds.ends in
      let made : length (calls_of p (history_at before.moment)) ≡ length d.old.mine = ap length (sym of_d.mine_is) in
      let then : length (calls_of p (history_at before.moment)) ≡ length (calls_of p (newer ++ (entries d ++ d.found))) = ap (λ (l : List HistoryEntry). length (calls_of p l)) all in
      let fewer = no_fewer p newer (entries d ++ d.found) in
      let now : only_calls (entries d) ++ d.old.mine ≡ calls_of p (entries d ++ d.found) = sym d.adds.calls ∙ (d.adds.once ∙ (λ k. calls_of (d.adds.pass k) (d.adds.ends k))) in
      let count : length (only_calls (entries d) ++ d.old.mine) ≡ length (calls_of p (entries d ++ d.found)) = ap length now in
      before.some_call (adds_none (only_calls (entries d)) d.old.mine (omega (arith, fewer, made, then, count)))

  -- a history that the moment's history begins with, whose newest event is none of d's, is one that d found
  found_it : (e : HistoryEntry) (older : List HistoryEntry) → e.pass ≢ p → IsExtendedBy (e ∷ older) history → IsExtendedBy (e ∷ older) (history_at before.moment) → IsExtendedBy (e ∷ older) d.found
  found_it e older other whole then = go (one_begins whole.0 found.0 t d.found (sym whole.1 ∙ found.1))
    where
      t : List HistoryEntry
      t = e ∷ older

      found : IsExtendedBy d.found history
      found = extended_on d.found d.new.seen history (entries d, d.adds.ends) second

      inside : (x : HistoryEntry) (m : List HistoryEntry) → t ≡ x ∷ (m ++ d.found) → AreComparable t d.new.seen → IsExtendedBy t d.found
      inside x m is (inr less) = absurd (not_yet (then.0 ++ less.0) (then.1 ∙ (ap (λ (l : List HistoryEntry). then.0 ++ l) less.1 ∙ sym (append_assoc then.0 less.0 d.new.seen))))
      inside x m is (inl more) =
          let same : entries d ≡ more.0 ++ (x ∷ m) =
          append_cancel_right (entries d) (more.0 ++ (x ∷ m)) d.found (sym d.adds.ends ∙ (more.1 ∙ (ap (λ (l : List HistoryEntry). more.0 ++ l) is ∙ sym (append_assoc more.0 (x ∷ m) d.found)))) in
          let one : e ≡ x = cc in
          absurd (other (ap (λ (z : HistoryEntry). z.pass) one ∙ sym (own_entry p d.events more.0 m x same)))

      longer : (m : List HistoryEntry) → t ≡ m ++ d.found → IsExtendedBy t d.found
      longer [] is = ([], sym is)
      longer (x ∷ m) is = inside x m is (one_begins whole.0 second.0 t d.new.seen (sym whole.1 ∙ second.1))

      go : AreComparable t d.found → IsExtendedBy t d.found
      go (inl is) = is
      go (inr more) = longer more.0 more.1

  came_first : ComesBefore c d
  came_first = go (same_pass c.old.pass p) refl
    where
      then : IsExtendedBy c.new.seen (history_at before.moment)
      then = let r = before.returned in extended_on c.new.seen r.now.seen (history_at before.moment) r.seen (of_either before.moment r.now r.here).seen_is

      last : (es : List Event) → es ≢ [] → c.new.seen ≡ entries_of c.old.pass es ++ c.found → c.old.pass ≢ p → ComesBefore c d
      last [] none is other = absurd (none refl)
      last (v ∷ es) none is other =
          let e : HistoryEntry = record { pass = c.old.pass; event = v } in
          subst (λ (l : List HistoryEntry). IsExtendedBy l d.found) (sym is)
          (found_it e (entries_of c.old.pass es ++ c.found) other (subst (λ (l : List HistoryEntry). IsExtendedBy l history) is first) (subst (λ (l : List HistoryEntry). IsExtendedBy l (history_at before.moment)) is then))

      go : (b : Bool) → same_pass c.old.pass p ≡ b → ComesBefore c d
      go true is =
          let r = before.returned in
          let same = one_record before.moment r.now d.old r.here before.waiting (r.pass ∙ same_pass-eq c.old.pass p is) in
          extended_on c.new.seen d.old.seen d.found (subst (λ (x : PassRecord). IsExtendedBy c.new.seen x.seen) same r.seen) d.adds.since
      go false is = last c.events before.some_events c.adds.ends (λ (same : c.old.pass ≡ p). same_pass-ne c.old.pass p is (ap (λ (q : PassId). q.0) same))

pub in_real_time : CallsAreInRealTime
in_real_time limits c d before history first second = came_first c d before history first second

module _ {limits : Limits} (c d : LockedCall limits) (before : ReturnedBefore c d) where
  stand_so : (history : List HistoryEntry) → IsExtendedBy c.new.seen history → IsExtendedBy d.new.seen history → StandBefore history c d
  stand_so history one two = stands c d (came_first c d before history one two) history two

pub left_in_real_time : CallsLeftAreInRealTime
left_in_real_time limits pass receipts taken listing finals rest c d before j k r s at_r at_s of_r of_s =
    let see = closing_see limits pass receipts taken listing finals rest in
    stand_so c d before finals.queue.history (extended_on c.new.seen r.seen finals.queue.history of_r (see.seen j r at_r)) (extended_on d.new.seen s.seen finals.queue.history of_s (see.seen k s at_s))

pub open_in_real_time : CallsOfAnOpenQueueAreInRealTime
open_in_real_time limits taken old listing finals closed c d before j k r s at_r at_s of_r of_s =
    let see = open_see limits taken old listing finals closed in
    stand_so c d before old.history (extended_on c.new.seen r.seen old.history of_r (see.seen j r at_r)) (extended_on d.new.seen s.seen old.history of_s (see.seen k s at_s))
