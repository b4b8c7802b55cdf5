-- Where every pass is back, each life that has begun has a story.
use Rattle.std.proofs.Common.{◌≡◌, ◌⊎◌, ℕ, ◌<◌, ◌≤◌, Bool, true, false, cond, not, ◌&&◌, ◌||◌, List, [], ◌∷◌, ◌++◌, map, length, Some, None, inl, inr, ⊎_elim, refl, sym, ap, ◌∙◌, subst, arith}
use Rattle.std.specs.Option.{option_map}
use Rattle.csq_words.proofs.Imports.{by_value, Tick, steps_in, list_any, find, some-injective, get_elem?, cases_lt, false_from_ne_true, or_right, FileId, IrpId, PassId, NtStatus, CANCELLED, Arm, Done, Rearm, Made, Standing, Home, Waiting, Owed, Held, Finished, number, life_of, same_irp, is, by, own, IrpLife, flagged, was_armed, claims, dones, listed, present_life, IsPresent, HasBegun, Size, IsRun, same_irp-refl, same_irp-eq, same_pass-refl, same_some, Row, stands, rest_flagged, removed_in-own, inserted_listed, inside, Inside, removed, Place, Peek, put_at, matches, Pending, Cancelled, Refused, Event, FlagSeen, Mark, Insert, RemoveNext, Remove, CloseFile, Reuse, PutBack, HistoryEntry, Completion, PassRecord, QueueRecord, Queued, QueueState, present_in, has_irp, has_entry, first_unmarked, without, new_entry, after_event, end_of, MayStand, IsOrderly, OwnersPutBack, IsGone, puts_back, gives, given_to, queue_of, inside_of, removed_in, status_recorded, is_done, was_set, was_put_back, IsTrueOf, AreTrueOf, inserts, lists, again, RecordsAgree, FinalWords, final_status, IsRecordedBack, AllBack, IsFinal, InLife, any_filtered, inside_of-own}
use Rattle.irp_core.proofs.Resting.{unknown_stands}
use Rattle.irp_core.proofs.Next as growing
use Rattle.irp_core.specs.declared.inside.Inside.TheVariants.{Nothing, Armed, FlagSeen, Removing, Cancelling}
use Rattle.csq_words.specs.declared.views.Event.TheVariants as event
use Rattle.csq_words.specs.Stories.{accepts, inserted_by, IsOneOf, HasRecorded, Story, IsGivenOnce, EachStayHasAStory, NoIrpHasTwoStories, StoriesHaveTheStatusRecorded}
use Rattle.csq_words.proofs.Facts.{off, given_claim, dones_some, done_over}
use Rattle.csq_words.proofs.Truths.{left}
use Rattle.csq_words.proofs.Closing.{no_zero, cancelled_is, keeps_records}
use Rattle.csq_words.proofs.Entries.{has_entry-marking, has_entry-placed, has_entry-without}
use Rattle.csq_words.proofs.Claiming.{done_own, done_by, recorded_done, completed_has, has_status, recorded_due}

-- what is listed with a mark, or without one, is listed
any_less : (f g : Queued → Bool) (es : List Queued) → list_any (λ e. f e && g e) es ≡ true → list_any f es ≡ true
any_less f g [] h = h
any_less f g (e ∷ es) h = go (f e) (g e) (any_less f g es) h
  where
    go : (a b : Bool) → (list_any (λ e. f e && g e) es ≡ true → list_any f es ≡ true) → ((a && b) || list_any (λ e. f e && g e) es) ≡ true → (a || list_any f es) ≡ true
    go true b rest h = refl
    go false b rest h = rest h

-- the first unmarked match is listed
first_listed : (k : Peek) (es : List Queued) (j : IrpLife) → Some j ≡ first_unmarked k es → has_entry es j ≡ true
first_listed k [] j h = absurd cc
first_listed k (e ∷ es) j h = by_value (λ b. (Some j ≡ first_unmarked k es → has_entry es j ≡ true) → Some j ≡ option_map (λ (x : Queued). x.irp) (cond b (Some e) (find (λ (x : Queued). not x.marked && matches k x.file) es)) → (same_irp e.irp j || has_entry es j) ≡ true) (not e.marked && matches k e.file)
    (λ _ rest h. let same : j ≡ e.irp = cc in rw (sym same, same_irp-refl) refl)
    (λ _ rest h. or_right (same_irp e.irp j) (has_entry es j) (rest h)) (first_listed k es j) h

-- what a put-back of i ends
abbrev kept : IrpLife → Event → List PassId → List PassId
kept i e ps = cond (puts_back i e) [] ps

-- what was armed has its routine set
set_by_arm : (i : IrpLife) (steps : List Made) → was_armed steps i ≡ true → was_set steps i ≡ true
set_by_arm i [] h = h
set_by_arm i (m ∷ steps) h = go (is (Arm i) m) (is (Rearm i) m) (set_by_arm i steps) h
  where
    go : (a b : Bool) → (was_armed steps i ≡ true → was_set steps i ≡ true) → (a || was_armed steps i) ≡ true → ((a || b) || was_set steps i) ≡ true
    go true b rest h = refl
    go false b rest h = or_right b (was_set steps i) (rest h)

set_by_rearm : (i : IrpLife) (steps : List Made) → was_put_back steps i ≡ true → was_set steps i ≡ true
set_by_rearm i [] h = h
set_by_rearm i (m ∷ steps) h = go (is (Arm i) m) (is (Rearm i) m) (set_by_rearm i steps) h
  where
    go : (a b : Bool) → (was_put_back steps i ≡ true → was_set steps i ≡ true) → (b || was_put_back steps i) ≡ true → ((a || b) || was_set steps i) ≡ true
    go true b rest h = refl
    go false true rest h = refl
    go false false rest h = rest h

-- no insert accepted it yet
record Unused (used entry : Bool) (inserted given : List PassId) : Type 0 where
  unused : used ≡ false
  unlisted : entry ≡ false
  none : inserted ≡ []
  to_none : given ≡ []

-- an insert of one pass accepted it, and it is listed
record Waits (run : List Made) (i : IrpLife) (used entry : Bool) (inserted given : List PassId) : Type 0 where
  used_is : used ≡ true
  listed_is : entry ≡ true
  inserter : PassId
  one : inserted ≡ inserter ∷ []
  armed : was_set (own inserter run) i ≡ true
  to_none : given ≡ []

-- it was given to one pass, which claimed it
record IsGiven (run : List Made) (i : IrpLife) (used entry : Bool) (inserted given : List PassId) : Type 0 where
  used_is : used ≡ true
  unlisted : entry ≡ false
  inserter : PassId
  one : inserted ≡ inserter ∷ []
  armed : was_set (own inserter run) i ≡ true
  owner : PassId
  to_one : given ≡ owner ∷ []

-- how far the story of i is
abbrev SoFar : List Made → IrpLife → Bool → Bool → List PassId → List PassId → Type 0
SoFar run i used entry inserted given = Unused used entry inserted given ⊎ Waits run i used entry inserted given ⊎ IsGiven run i used entry inserted given

module _ (run : List Made) (i : IrpLife) (used entry : Bool) (inserted given : List PassId) where
  only_unused : SoFar run i used entry inserted given → used ≡ false → Unused used entry inserted given
  only_unused (inl h) e = h
  only_unused (inr (inl h)) e = off (sym e ∙ h.used_is)
  only_unused (inr (inr h)) e = off (sym e ∙ h.used_is)

  only_waiting : SoFar run i used entry inserted given → entry ≡ true → Waits run i used entry inserted given
  only_waiting (inl h) e = off (sym h.unlisted ∙ e)
  only_waiting (inr (inl h)) e = h
  only_waiting (inr (inr h)) e = off (sym h.unlisted ∙ e)

  only_given : SoFar run i used entry inserted given → used ≡ true → entry ≡ false → IsGiven run i used entry inserted given
  only_given (inl h) e f = off (sym h.unused ∙ e)
  only_given (inr (inl h)) e f = off (sym f ∙ h.listed_is)
  only_given (inr (inr h)) e f = h

module _ (size : Size) (run : List Made) (r : IsRun size run) (i : IrpLife) (u : QueueState) (inserted given : List PassId) (s : SoFar run i (has_irp u.used i) (has_entry u.entries i) inserted given) where
  -- after an event of p
  abbrev Next : PassId → Event → Type 0
  Next p e = SoFar run i (has_irp (after_event u e).used i) (has_entry (after_event u e).entries i) (cond (accepts u i e) (p ∷ kept i e inserted) (kept i e inserted)) (cond (gives u i e) (p ∷ kept i e given) (kept i e given))

  pending : (p : PassId) (n : IrpId) (f : FileId) (place : Place) → has_irp u.used (present_in u n) ≡ false → was_armed (own p run) (present_in u n) ≡ true → Next p (Insert n f place Pending)
  pending p n f place fresh armed = by_value (λ b. SoFar run i (b || has_irp u.used i) (has_entry (put_at place (new_entry (present_in u n) f) u.entries) i) (cond b (p ∷ inserted) inserted) given) (same_irp (present_in u n) i)
      (λ e. let same = same_irp-eq (present_in u n) i e in
      let h = only_unused run i _ _ _ _ s (ap (has_irp u.used) (sym same) ∙ fresh) in inr (inl record {
        used_is = refl;
        listed_is = has_entry-placed place (new_entry (present_in u n) f) u.entries i ∙ ap (λ b. b || has_entry u.entries i) e;
        inserter = p;
        one = ap (λ l. p ∷ l) h.none;
        armed = set_by_arm i (own p run) (ap (was_armed (own p run)) (sym same) ∙ armed);
        to_none = h.to_none;
      }))
      (λ e. subst (λ x. SoFar run i (has_irp u.used i) x inserted given) (sym (has_entry-placed place (new_entry (present_in u n) f) u.entries i ∙ ap (λ b. b || has_entry u.entries i) e)) s)

  took_back : (p : PassId) (n : IrpId) (f : FileId) (place : Place) → has_irp u.used (present_in u n) ≡ false → was_armed (own p run) (present_in u n) ≡ true → Next p (Insert n f place Cancelled)
  took_back p n f place fresh armed = by_value (λ b. SoFar run i (b || has_irp u.used i) (has_entry u.entries i) (cond b (p ∷ inserted) inserted) (cond b (p ∷ given) given)) (same_irp (present_in u n) i)
      (λ e. let same = same_irp-eq (present_in u n) i e in
      let h = only_unused run i _ _ _ _ s (ap (has_irp u.used) (sym same) ∙ fresh) in inr (inr record {
        used_is = refl;
        unlisted = h.unlisted;
        inserter = p;
        one = ap (λ l. p ∷ l) h.none;
        armed = set_by_arm i (own p run) (ap (was_armed (own p run)) (sym same) ∙ armed);
        owner = p;
        to_one = ap (λ l. p ∷ l) h.to_none;
      }))
      (λ _. s)

  leaves : (p : PassId) (j : IrpLife) → has_entry u.entries j ≡ true → SoFar run i (has_irp u.used i) (has_entry (without j u.entries) i) inserted (cond (same_irp j i) (p ∷ given) given)
  leaves p j there = by_value (λ b. SoFar run i (has_irp u.used i) (has_entry (without j u.entries) i) inserted (cond b (p ∷ given) given)) (same_irp j i)
      (λ e. let same = same_irp-eq j i e in
      let h = only_waiting run i _ _ _ _ s (ap (has_entry u.entries) (sym same) ∙ there) in inr (inr record {
        used_is = h.used_is;
        unlisted = has_entry-without j u.entries i ∙ ap (λ b. not b && has_entry u.entries i) e;
        inserter = h.inserter;
        one = h.one;
        armed = h.armed;
        owner = p;
        to_one = ap (λ l. p ∷ l) h.to_none;
      }))
      (λ e. subst (λ x. SoFar run i (has_irp u.used i) x inserted given) (sym (has_entry-without j u.entries i ∙ ap (λ b. not b && has_entry u.entries i) e)) s)

  put_back : (p : PassId) (j : IrpLife) (f : FileId) (place : Place) → IsGone u j → was_put_back (own p run) j ≡ true → Next p (PutBack j f place Pending)
  put_back p j f place gone back = by_value (λ b. SoFar run i (has_irp u.used i) (has_entry (put_at place (new_entry j f) u.entries) i) (cond b (p ∷ cond b [] inserted) (cond b [] inserted)) (cond b [] given)) (same_irp j i)
      (λ e. let same = same_irp-eq j i e in inr (inl record {
        used_is = ap (has_irp u.used) (sym same) ∙ gone.0;
        listed_is = has_entry-placed place (new_entry j f) u.entries i ∙ ap (λ b. b || has_entry u.entries i) e;
        inserter = p;
        one = refl;
        armed = set_by_rearm i (own p run) (ap (was_put_back (own p run)) (sym same) ∙ back);
        to_none = refl;
      }))
      (λ e. subst (λ x. SoFar run i (has_irp u.used i) x inserted given) (sym (has_entry-placed place (new_entry j f) u.entries i ∙ ap (λ b. b || has_entry u.entries i) e)) s)

  took_again : (p : PassId) (j : IrpLife) (f : FileId) (place : Place) → IsGone u j → was_put_back (own p run) j ≡ true → Next p (PutBack j f place Cancelled)
  took_again p j f place gone back = by_value (λ b. SoFar run i (has_irp u.used i) (has_entry u.entries i) (cond b (p ∷ cond b [] inserted) (cond b [] inserted)) (cond b (p ∷ cond b [] given) (cond b [] given))) (same_irp j i)
      (λ e. let same = same_irp-eq j i e in inr (inr record {
        used_is = ap (has_irp u.used) (sym same) ∙ gone.0;
        unlisted = ap (has_entry u.entries) (sym same) ∙ gone.1;
        inserter = p;
        one = refl;
        armed = set_by_rearm i (own p run) (ap (was_put_back (own p run)) (sym same) ∙ back);
        owner = p;
        to_one = refl;
      }))
      (λ _. s)

  next : (p : PassId) (e : Event) → MayStand u e → IsTrueOf run u p e → Next p e
  next p (FlagSeen j) may t = s
  next p (Mark j) may t = subst (λ x. SoFar run i (has_irp u.used i) x inserted given) (sym (has_entry-marking j u.entries i)) s
  next p (Insert n f place Pending) may t = pending p n f place may t
  next p (Insert n f place Cancelled) may t = took_back p n f place may.0 t.arm
  next p (Insert n f place (Refused cause)) may t = s
  next p (RemoveNext k None) may t = s
  next p (RemoveNext k (Some j)) may t = leaves p j (first_listed k u.entries j may)
  next p (Remove j false) may t = s
  next p (Remove j true) may t = leaves p j (any_less _ (λ (e : Queued). not e.marked) u.entries (sym may))
  next p (event.Out j) may t = leaves p j (any_less _ (λ (e : Queued). e.marked) u.entries may)
  next p (CloseFile f) may t = s
  next p (Reuse n life) may t = s
  next p (PutBack j f place Pending) may t = put_back p j f place may t
  next p (PutBack j f place Cancelled) may t = took_again p j f place may.0 t.rearm
  next p (PutBack j f place (Refused cause)) may t = s

-- how far the story of i is at the end of a history
so_far : (size : Size) (run : List Made) → IsRun size run → (i : IrpLife) (first : ℕ) (history : List HistoryEntry) → IsOrderly first history → AreTrueOf first run history
    → SoFar run i (has_irp (end_of first history).used i) (has_entry (end_of first history).entries i) (inserted_by first i history) (given_to first i history)
so_far size run r i first [] o t = inl record { unused = refl; unlisted = refl; none = refl; to_none = refl }
so_far size run r i first (e ∷ history) o t = next size run r i (end_of first history) (inserted_by first i history) (given_to first i history) (so_far size run r i first history o.1 t.1) e.pass e.event o.0 t.0

-- what was claimed and completed once, by one pass
record Over (claimed completed : List Made) : Type 0 where
  owner : PassId
  one_claim' : IsOneOf owner claimed
  one_done : IsOneOf owner completed

module _ (ever set : Bool) (cl : List Made) (ow ho dn : PassId → Bool) (ends : List Made) (left byr : Bool) (i : IrpLife) where
  -- an IRP that nobody owes or holds
  row_story : (s : Standing) → Row ever set cl ow ho dn ends left byr i s → ((p : PassId) → ow p ≡ false) → ((p : PassId) → ho p ≡ false)
      → ((ever ≡ false) × (cl ≡ []) × (ends ≡ [])) ⊎ (((ever ≡ true) × (left ≡ false) × (cl ≡ []) × (ends ≡ [])) ⊎ ((ever ≡ true) × (left ≡ true) × Over cl ends))
  row_story Home h o g = inl (h.ever_is, h.claims_are, h.dones_are)
  row_story Waiting h o g = inr (inl (h.ever_is, h.left_is, h.claims_are, h.dones_are))
  row_story (Finished status p) h o g = inr (inr (h.ever_is, h.left_is, record { owner = p; one_claim' = h.claims_are; one_done = h.dones_are }))
  row_story (Owed p) h o g = off (sym (o p) ∙ (h.owing_is p ∙ same_pass-refl p))
  row_story (Held p status) h o g = off (sym (g p) ∙ (h.holding_is p ∙ same_pass-refl p))

module _ (size : Size) (words : List ℕ) (q : QueueRecord) (f : IsFinal size words q) (all : AllBack q) (i : IrpLife) (begun : HasBegun size.first (steps_in q.trace) i) where
  is_run : IsRun size (steps_in q.trace)
  is_run = f.agrees.history_is.is_run

  abbrev finally : FinalWords
  finally = record { irps = size.irps; words = words; queue = q }

  agreed : SoFar (steps_in q.trace) i (has_irp (queue_of q).used i) (has_entry (queue_of q).entries i) (inserted_by q.first i q.history) (given_to q.first i q.history)
  agreed = so_far size (steps_in q.trace) is_run i q.first q.history f.agrees.history_is.orderly f.agrees.history_is.true_of

  -- the status of i that p recorded
  record HasStatus (p : PassId) : Type 0 where
    status : NtStatus
    recorded : HasRecorded q p i status
    due : removed (steps_in q.trace) i ≡ false → status ≡ CANCELLED
    final : InLife finally i (final_status finally i.irp ≡ Some status)

  -- a life that was not completed is the present one
  now_present : dones (steps_in q.trace) i ≡ [] → IsPresent q.first (steps_in q.trace) i
  now_present none = subst (λ n. IsPresent n (steps_in q.trace) i) (sym f.agrees.history_is.first_is) (⊎_elim
      (λ (lt : life_of i < present_life size.first (steps_in q.trace) i.irp). let one = f.over i begun.0 lt in let zero' : length (dones (steps_in q.trace) i) ≡ 0 = ap length none in absurd (omega (arith, one, zero')))
      (λ (le : present_life size.first (steps_in q.trace) i.irp ≤ life_of i). let to = begun.1 in omega (arith, le, to))
      (cases_lt (life_of i) (present_life size.first (steps_in q.trace) i.irp)))

  -- a pass with steps is back
  is_back : (p : PassId) → is_done (own p (steps_in q.trace)) i ≡ true → IsRecordedBack q p
  is_back p d = all p (⊎_elim (λ (l : p.0 < 1). nobody (no_zero size (steps_in q.trace) is_run p (omega arith))) (λ x. x) (cases_lt p.0 1)) (⊎_elim (λ (l : q.made < p.0). nobody (f.agrees.nobody p (inr l)).0) (λ x. x) (cases_lt q.made p.0))
    where
      nobody : {P : Type 0} → own p (steps_in q.trace) ≡ [] → P
      nobody none = off (sym (ap (λ t. is_done t i) none) ∙ d)

  -- the pass that completed i has recorded a status of it, which is final
  the_status : (p : PassId) → is_done (own p (steps_in q.trace)) i ≡ true → number i < size.irps → HasStatus p
  the_status p d known =
      let (k, r, at, same) = is_back p d in
      let b = (f.agrees.backs k r at).is_record in
      let has : has_irp (map (λ (c : Completion). c.irp) r.completed) i ≡ true = ap (λ l. has_irp l i) b.of_pass.completed_is ∙ completed_has r.steps i (ap (λ t. is_done t i) b.of_pass.steps_is ∙ (ap (λ (x : PassId). is_done (own x (steps_in q.trace)) i) same ∙ d)) in
      let s = has_status r.completed i has in
      record { status = s.0; recorded = (k, r, at, same, s.1, λ j o there is. let once : j ≡ k = f.agrees.back_once j k o r there at (is ∙ sym same) in some-injective o r (sym there ∙ (ap (get_elem? q.back) once ∙ at))); due = λ e. recorded_due r.steps r.completed i s.0 b.due s.1 (false_from_ne_true (removed_in r.steps i) (λ x. off (sym e ∙ removed_in-own size r.pass i (steps_in q.trace) is_run (subst (λ t. removed_in t i ≡ true) b.of_pass.steps_is x)))); final = (keeps_records size words q f).statuses k r at i s.0 known s.1 }

  -- what was completed is an IRP that there is
  done_known : is_done (steps_in q.trace) i ≡ true → number i < size.irps
  done_known d = ⊎_elim (λ x. x) (λ (le : size.irps ≤ number i). absurd (dones_some (steps_in q.trace) i d (unknown_stands size i le (steps_in q.trace) is_run).dones_are)) (cases_lt (number i) size.irps)

  pub a_story : Story finally i
  a_story = let s = stands size (steps_in q.trace) is_run i in go (row_story _ _ _ _ _ _ _ _ _ i s.0 s.1 (λ p. f.rests.owed p i) (λ p. f.rests.held p i))
    where
      go : ((was_armed (steps_in q.trace) i ≡ false) × (claims (steps_in q.trace) i ≡ []) × (dones (steps_in q.trace) i ≡ []))
          ⊎ (((was_armed (steps_in q.trace) i ≡ true) × (left (steps_in q.trace) i ≡ false) × (claims (steps_in q.trace) i ≡ []) × (dones (steps_in q.trace) i ≡ [])) ⊎ ((was_armed (steps_in q.trace) i ≡ true) × (left (steps_in q.trace) i ≡ true) × Over (claims (steps_in q.trace) i) (dones (steps_in q.trace) i)))
          → Story finally i
      go (inl h) =
          let u = only_unused (steps_in q.trace) i _ _ _ _ agreed (f.agrees.history_is.used_is i ∙ h.0) in
          inl (record { is_present = now_present h.2; inserted = u.none; given = u.to_none; claimed = h.1; completed = h.2 })
      go (inr (inl h)) =
          let there : listed (steps_in q.trace) i ≡ true = rw (h.0, h.1) refl in
          let u = only_waiting (steps_in q.trace) i _ _ _ _ agreed (f.agrees.history_is.listed_is i ∙ there) in
          inr (inl record {
            is_present = now_present h.3;
            listed = u.listed_is;
            clear = false_from_ne_true (flagged (steps_in q.trace) i) (λ e. rest_flagged size (steps_in q.trace) is_run f.rests i (e, there));
            inserter = u.inserter;
            inserted = u.one;
            armed = u.armed;
            given = u.to_none;
            claimed = h.2;
            completed = h.3;
          })
      go (inr (inr h)) =
          let gone : listed (steps_in q.trace) i ≡ false = rw (h.0, h.1) refl in
          let u = only_given (steps_in q.trace) i _ _ _ _ agreed (f.agrees.history_is.used_is i ∙ h.0) (f.agrees.history_is.listed_is i ∙ gone) in
          let claimed = given_claim (steps_in q.trace) i u.owner (sym (f.agrees.history_is.given_is i refl) ∙ u.to_one) in
          let same_claim : claimed.0 ≡ h.2.one_claim'.0 = cc (claimed.1, h.2.one_claim'.1) in
          let owner : h.2.owner ≡ u.owner = sym h.2.one_claim'.2 ∙ (ap (λ (m : Made). m.pass) (sym same_claim) ∙ claimed.2) in
          let done : IsOneOf u.owner (dones (steps_in q.trace) i) = subst (λ p. IsOneOf p (dones (steps_in q.trace) i)) owner h.2.one_done in
          let d : is_done (own u.owner (steps_in q.trace)) i ≡ true = ap (λ (p : PassId). is_done (own p (steps_in q.trace)) i) (sym done.2) ∙ done_own (steps_in q.trace) done.0 i done.1 in
          let d' : is_done (steps_in q.trace) i ≡ true = any_filtered (is (Done i)) (by u.owner) (steps_in q.trace) d in
          let s = the_status u.owner d (done_known d') in
          inr (inr record {
            unlisted = f.agrees.history_is.listed_is i ∙ gone;
            inserter = u.inserter;
            inserted = u.one;
            armed = u.armed;
            owner = u.owner;
            given = u.to_one;
            claimed = claimed;
            completed = done;
            status = s.status;
            recorded = s.recorded;
            cancelled = λ shown. s.due (cancelled_is q.first (steps_in q.trace) i q.history f.agrees.history_is.true_of shown).not_removed;
            final = s.final;
          })

-- its status is the one that a pass recorded
pub has_status_recorded : StoriesHaveTheStatusRecorded
has_status_recorded size words q f finals i story r back status said =
    let b = (f.agrees.backs back.0 r back.1).is_record.of_pass in
    let done : is_done (own r.pass (steps_in q.trace)) i ≡ true = ap (λ t. is_done t i) (sym b.steps_is) ∙ recorded_done r.steps r.completed i status b.completed_is said in
    let owner : story.owner ≡ r.pass = sym story.completed.2 ∙ done_by (steps_in q.trace) story.completed.0 i r.pass story.completed.1 done in
    let same : r ≡ story.recorded.1 = story.recorded.5 back.0 r back.1 (sym owner) in
    (owner, same_some story.status status (sym story.recorded.4 ∙ (ap (λ (o : PassRecord). status_recorded i o.completed) (sym same) ∙ said)))

-- what is in an insert or a put-back is listed
in_insert_listed : (s : Inside) (i : IrpLife) → lists s i ≡ true → growing.inserts i s ≡ true
in_insert_listed Nothing i h = off h
in_insert_listed Removing i h = off h
in_insert_listed (Cancelling j) i h = off h
in_insert_listed x i h = h

insert_lists : (s : Inside) (i : IrpLife) → lists s i ≡ false → inserts s i ≡ false
insert_lists (Armed j) i h = h
insert_lists (FlagSeen j) i h = h
insert_lists s i h = refl

module _ (ever set : Bool) (cl : List Made) (ow ho dn : PassId → Bool) (ends : List Made) (left byr : Bool) (i : IrpLife) where
  -- who completed an IRP made its one claim
  row_done_claim : (s : Standing) → Row ever set cl ow ho dn ends left byr i s → (p : PassId) → IsOneOf p ends → IsOneOf p cl
  row_done_claim (Finished status o) h p d =
      let same : d.0 ≡ h.dones_are.0 = cc (d.1, h.dones_are.1) in
      (h.claims_are.0, h.claims_are.1, h.claims_are.2 ∙ (sym h.dones_are.2 ∙ (ap (λ (m : Made). m.pass) (sym same) ∙ d.2)))
  row_done_claim x h p d = absurd (cc (d.1, h.dones_are))

module _ (run : List Made) (i : IrpLife) (used entry : Bool) (inserted given : List PassId) where
  inserted_once : SoFar run i used entry inserted given → length inserted ≤ 1
  inserted_once (inl h) = rw h.none (omega arith)
  inserted_once (inr (inl h)) = rw h.one (omega arith)
  inserted_once (inr (inr h)) = rw h.one (omega arith)

  given_once : SoFar run i used entry inserted given → length given ≤ 1
  given_once (inl h) = rw h.to_none (omega arith)
  given_once (inr (inl h)) = rw h.to_none (omega arith)
  given_once (inr (inr h)) = rw h.to_one (omega arith)

module _ (size : Size) (q : QueueRecord) (r : PassRecord) (trace : List Tick) (agreed : RecordsAgree size trace q r) (i : IrpLife) (quiet : again (inside_of r.steps) i ≡ false) where
  is_run' : IsRun size (steps_in trace)
  is_run' = agreed.history_is.is_run

  far : SoFar (steps_in trace) i (has_irp (queue_of q).used i) (has_entry (queue_of q).entries i) (inserted_by q.first i q.history) (given_to q.first i q.history)
  far = so_far size (steps_in trace) is_run' i q.first q.history agreed.history_is.orderly agreed.history_is.true_of

  -- what was completed is in no insert
  no_insert : listed (steps_in trace) i ≡ false → lists (inside_of r.steps) i ≡ false
  no_insert gone = false_from_ne_true _ (λ h. off (sym gone ∙ inserted_listed size (steps_in trace) is_run' r.pass i (in_insert_listed (inside (steps_in trace) r.pass) i (ap (λ s. lists s i) (sym (inside_of-own r.pass (steps_in trace))) ∙ (ap (λ t. lists (inside_of t) i) (sym agreed.pass_is.steps_is) ∙ h)))))

  done_given : (p : PassId) → IsOneOf p (dones (steps_in trace) i) → given_to q.first i q.history ≡ p ∷ []
  done_given p d =
      let s = stands size (steps_in trace) is_run' i in
      let claim = row_done_claim _ _ _ _ _ _ _ _ _ i s.0 s.1 p d in
      let over = done_over size (steps_in trace) is_run' i (any_filtered (is (Done i)) (by d.0.pass) (steps_in trace) (done_own (steps_in trace) d.0 i d.1)) in
      let out = no_insert over.2 in
      let none = insert_lists (inside_of r.steps) i out in
      let u = only_given (steps_in trace) i _ _ _ _ far (agreed.history_is.used_is i ∙ rw (none, over.0) refl) (agreed.history_is.listed_is i ∙ rw (out, over.2) refl) in
      let claimed = given_claim (steps_in trace) i u.owner (sym (agreed.history_is.given_is i quiet) ∙ u.to_one) in
      let same : claimed.0 ≡ claim.0 = cc (claimed.1, claim.1) in
      let owner : u.owner ≡ p = sym claimed.2 ∙ (ap (λ (m : Made). m.pass) same ∙ claim.2) in
      u.to_one ∙ ap (λ (x : PassId). x ∷ []) owner

  pub is_given_once : IsGivenOnce q (steps_in trace) i
  is_given_once = record {
    inserted = inserted_once (steps_in trace) i _ _ _ _ far;
    given = given_once (steps_in trace) i _ _ _ _ far;
    claimed = λ p e. given_claim (steps_in trace) i p (sym (agreed.history_is.given_is i quiet) ∙ e);
    completed = done_given;
  }

-- what stands before an event of a history, and the event itself
before_event : (first : ℕ) (run : List Made) (newer before : List HistoryEntry) (e : HistoryEntry) → IsOrderly first (newer ++ (e ∷ before)) → AreTrueOf first run (newer ++ (e ∷ before)) → OwnersPutBack first (newer ++ (e ∷ before))
    → IsOrderly first (e ∷ before) × AreTrueOf first run (e ∷ before) × OwnersPutBack first (e ∷ before)
before_event first run [] before e o t w = (o, t, w)
before_event first run (x ∷ newer) before e o t w = before_event first run newer before e o.1 t.1 w.1

-- what a put-back found, and did
put_back_found : (run : List Made) (u : QueueState) (p : PassId) (v : Event) (i : IrpLife) → MayStand u v → IsTrueOf run u p v → puts_back i v ≡ true → IsGone u i × (was_put_back (own p run) i ≡ true)
put_back_found run u p (PutBack j f place Pending) i may t h = let same = same_irp-eq j i h in (subst (IsGone u) same may, ap (was_put_back (own p run)) (sym same) ∙ t)
put_back_found run u p (PutBack j f place Cancelled) i may t h = let same = same_irp-eq j i h in (subst (IsGone u) same may.0, ap (was_put_back (own p run)) (sym same) ∙ t.rearm)
put_back_found run u p v i may t h = off h

pub stay_story : EachStayHasAStory
stay_story size run q flight h newer before e is i back =
    let b = before_event q.first run newer before e (subst (IsOrderly q.first) is h.orderly) (subst (AreTrueOf q.first run) is h.true_of) (subst (OwnersPutBack q.first) is h.owners) in
    let found = put_back_found run (end_of q.first before) e.pass e.event i b.0.0 b.1.0 back in
    let u = only_given run i _ _ _ _ (so_far size run h.is_run i q.first before b.0.1 b.1.1) found.0.0 found.0.1 in
    record { inserter = u.inserter; inserted = u.one; armed = u.armed; given = b.2.0 i back; rearmed = found.1 }

-- of the three stories of an IRP no two hold
pub no_two_stories : NoIrpHasTwoStories
no_two_stories finals q i = (
  λ never listed. absurd (cc (never.inserted, listed.inserted)),
  λ never ended. absurd (cc (never.inserted, ended.inserted)),
  λ listed ended. absurd (cc (listed.given, ended.given)),
)
