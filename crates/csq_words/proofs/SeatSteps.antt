-- The two general lemmas: a step of a pass's own seat, and a step of the queue's seat while it is joined with a pass, keep the rule.
use Rattle.std.proofs.Common.{◌≡◌, ◌≢◌, ℕ, ◌<◌, ◌≤◌, false, cond, not, ◌&&◌, List, [], ◌∷◌, length, set, Option, Some, refl, sym, ap, ◌∙◌, subst, ⊎_elim, arith, true, None}
use Rattle.csq_words.proofs.Imports.{or_right, some, get_elem?, set_here, set_else, PassId, Made, is, own, IrpLife, Inside, inside, inside_after, has_lock, listed, Size, IsRun, PassRecord, QueueRecord, View, calls_of, IsExtendedBy, view_of, pass_view, was_armed, present_life, life_grows, IrpId, Done, Reusing, Nothing, Looked, StatusRenewed, inserts, lists, passes_given, HasWords, is_done, in_flight, AreTrueOf, IsHistoryOf, MayRenew, IsReuse, AreStored, HaveBegun, IsRecord, IsOut, IsNobody, HasBack, BackOnce, Fits, HasSeen, HaveSeen, HistoryEntry, Tick, Makes, IsTraceOf, steps_in, SeatHasRecord, RuleHoldsBy, again, same_pass-not, own-other, some-injective}
use Rattle.irp_core.specs.declared.inside.Inside.TheVariants.{Rearmed, FlagSeenAgain}
use Rattle.irp_core.specs.Lock.{needs_lock}
use Rattle.csq_words.proofs.Facts.{off, extended_on}
use Rattle.csq_words.proofs.Named.{by_pass}
use Rattle.csq_words.proofs.Indexes.{at_below, at_once}
use Rattle.csq_words.proofs.Truths.{truths_stay}
use Rattle.csq_words.proofs.Keeping.{none_is, all_set, seen_more, seen_pass, seen_joined, present_else, apart_from, only_joined}
use Rattle.csq_words.proofs.Traced.{traced_unlocked}
use Rattle.csq_words.specs.Traces.{caller_in}
use Rattle.std.specs.Option.{option_map}

-- what a step of a pass's own seat owes, which leaves this run, by this trace, and leaves the pass with the record r'
pub record OwnStep (size : Size) (words words' : List ℕ) (run run' : List Made) (trace trace' : List Tick) (q : QueueRecord) (r r' : PassRecord) : Type 0 where
  pub same_pass : r'.pass ≡ r.pass
  pub wide : length words' ≡ length words
  pub is_run : IsRun size run'
  pub words_are : (n : IrpId) → n.0 < size.irps → HasWords size.first words' run' q.reusing n
  pub listed_same : (i : IrpLife) → listed run' i ≡ listed run i
  pub armed_same : (i : IrpLife) → was_armed run' i ≡ was_armed run i
  pub given_same : (i : IrpLife) → passes_given run' i ≡ passes_given run i
  pub lives_same : (n : IrpId) → present_life size.first run' n ≡ present_life size.first run n
  pub true_of : AreTrueOf q.first run' q.history
  pub reuse_is : IsReuse size run' q.reusing
  pub others : (o : PassRecord) → o.pass ≢ r.pass → IsRecord q.first words run q.history o → IsRecord q.first words' run' q.history o
  pub elsewhere : (p : PassId) → p ≢ r.pass → (own p run' ≡ own p run) × (inside run' p ≡ inside run p)
  pub unlocked : has_lock (inside run' r.pass) ≡ false
  pub longer : IsExtendedBy trace trace'
  pub traced : (joined : Option PassRecord) → caller_in trace ≢ Some r.pass → IsTraceOf q.first trace q.history q.found joined → IsTraceOf q.first trace' q.history q.found joined
  pub mine_seen : IsExtendedBy r'.trace trace'
  pub mine : IsRecord q.first words' run' q.history r'

renew_more : (size : Size) (m : Made) (run : List Made) → ((n : IrpId) → present_life size.first (m ∷ run) n ≡ present_life size.first run n) → (i : IrpLife) → MayRenew size run i → MayRenew size (m ∷ run) i
renew_more size m run same i h = record { known = h.known; is_present = h.is_present ∙ sym (same i.irp); done = or_right (is (Done i) m) (is_done run i) h.done; few = h.few }

-- lives that have begun stay so
pub begun_more : (first : ℕ) (m : Made) (run : List Made) (is : List IrpLife) → HaveBegun first run is → HaveBegun first (m ∷ run) is
begun_more first m run [] h = tt
begun_more first m run (i ∷ is) h = let g = life_grows first m run i.irp in ((h.0.0, omega (arith, g, h.0.1)), begun_more first m run is h.1)

-- so does the reuse in flight, where no life ends
pub reuse_more : (size : Size) (m : Made) (run : List Made) → ((n : IrpId) → present_life size.first (m ∷ run) n ≡ present_life size.first run n) → (reuse : Reusing) → IsReuse size run reuse → IsReuse size (m ∷ run) reuse
reuse_more size m run same Nothing h = tt
reuse_more size m run same (Looked i) h = renew_more size m run same i h
reuse_more size m run same (StatusRenewed i) h = renew_more size m run same i h

-- whoever puts an IRP back has the lock
pub again_locks : (s : Inside) (i : IrpLife) → again s i ≡ true → has_lock s ≡ true
again_locks (Rearmed j) i h = refl
again_locks (FlagSeenAgain j) i h = refl
again_locks s i h = off h

-- what another pass is inside of stays
pub inside_other : (m : Made) (run : List Made) (p : PassId) → p ≢ m.pass → inside (m ∷ run) p ≡ inside run p
inside_other m run p ne = ap (λ b. cond b (inside_after (inside run p) m.kind m.found) (inside run p)) (same_pass-not m.pass p (λ e. ne (sym e)))

-- a pass has its number
somebody : (m : ℕ) (a n : PassId) → n ≡ a → 1 ≤ a.0 → a.0 ≤ m → IsNobody m n → ⊥
somebody m a n e from to s = let e' : n.0 ≡ a.0 = ap (λ (x : PassId). x.0) e in ⊎_elim (λ (z : n.0 ≡ 0). omega (arith, e', from, z)) (λ (l : m < n.0). omega (arith, e', to, l)) s

-- the queue's seat isn't joined with a pass whose seat is its own
pub not_joined : (size : Size) (words : List ℕ) (views : List View) (trace : List Tick) (queue_at : ℕ) (queue : QueueRecord) (joined : Option PassRecord) (seat : PassId → ℕ) (id : ℕ) (r : PassRecord)
    → RuleHoldsBy size words views trace queue_at queue joined seat → get_elem? views id ≡ some (pass_view r) → (held : PassRecord) → joined ≡ Some held → held.pass ≡ r.pass → ⊥
not_joined size words views trace queue_at queue joined seat id r k at held is same =
    let ours = (k.each_view id (pass_view r) at).pass_here r refl in
    let there : get_elem? views queue_at ≡ some (view_of queue (Some held)) = k.queue_is ∙ ap (λ (o : Option PassRecord). some (view_of queue o)) is in
    let theirs = (k.each_view queue_at (view_of queue (Some held)) there).pass_here held refl in
    let one : queue_at ≡ id = sym theirs.0 ∙ (ap seat same ∙ ours.0) in
    none_is queue (ap (λ (v : View). v.queue) (some-injective (pass_view r) (view_of queue (Some held)) (sym at ∙ (ap (get_elem? views) (sym one) ∙ there))))

-- so it is in no call under the lock
not_caller : (size : Size) (words : List ℕ) (views : List View) (trace : List Tick) (queue_at : ℕ) (queue : QueueRecord) (joined : Option PassRecord) (seat : PassId → ℕ) (id : ℕ) (r : PassRecord)
    → RuleHoldsBy size words views trace queue_at queue joined seat → get_elem? views id ≡ some (pass_view r) → caller_in trace ≢ Some r.pass
not_caller size words views trace queue_at queue joined seat id r k at calls = by_joined joined refl (sym k.traced.caller_is ∙ calls)
  where
    by_joined : (o : Option PassRecord) → joined ≡ o → option_map (λ (h : PassRecord). h.pass) o ≡ Some r.pass → ⊥
    by_joined None is pass = none_is r.pass pass
    by_joined (Some held) is pass = let same : held.pass ≡ r.pass = cc in not_joined size words views trace queue_at queue joined seat id r k at held is same

pub own_step : (size : Size) (words words' : List ℕ) (views : List View) (trace trace' : List Tick) (queue_at : ℕ) (queue : QueueRecord) (joined : Option PassRecord) (seat : PassId → ℕ) (id : ℕ) (r r' : PassRecord)
    → RuleHoldsBy size words views trace queue_at queue joined seat → get_elem? views id ≡ some (pass_view r) → OwnStep size words words' (steps_in trace) (steps_in trace') trace trace' queue r r'
    → RuleHoldsBy size words' (set views id (pass_view r')) trace' queue_at queue joined seat
own_step size words words' views trace trace' queue_at queue joined seat id r r' k at p =
    let run = steps_in trace in
    let run' = steps_in trace' in
    let mine = (k.each_view id (pass_view r) at).pass_here r refl in
    record {
      agrees = record {
        wide = p.wide ∙ k.agrees.wide;
        words_are = p.words_are;
        history_is = record {
          is_run = p.is_run;
          first_is = k.agrees.history_is.first_is;
          lives_are = λ n. k.agrees.history_is.lives_are n ∙ sym (p.lives_same n);
          listed_is = λ i. k.agrees.history_is.listed_is i ∙ ap (λ b. not (lists (in_flight joined) i) && b) (sym (p.listed_same i));
          used_is = λ i. k.agrees.history_is.used_is i ∙ ap (λ b. not (inserts (in_flight joined) i) && b) (sym (p.armed_same i));
          true_of = p.true_of;
          orderly = k.agrees.history_is.orderly;
          given_is = λ i n. k.agrees.history_is.given_is i n ∙ sym (p.given_same i);
          putting_back = λ n i h. k.agrees.history_is.putting_back n i (by_pass (again (inside run n) i ≡ true) n r.pass
              (λ e. off (sym p.unlocked ∙ (ap (λ (x : PassId). has_lock (inside run' x)) (sym e) ∙ again_locks (inside run' n) i h)))
              (λ ne. ap (λ s. again s i) (sym (p.elsewhere n ne).1) ∙ h));
          owners = k.agrees.history_is.owners;
        };
        reuse_is = p.reuse_is;
        backs = λ i o e. let b = k.agrees.backs i o e in record { is_record = p.others o (mine.1.not_back i o e) b.is_record; rests = b.rests; made = b.made };
        back_once = k.agrees.back_once;
        shown = k.agrees.shown;
        few = k.agrees.few;
        nobody = λ n s. let u = k.agrees.nobody n s in
            ((p.elsewhere n (λ e. somebody queue.made r.pass n e mine.1.from mine.1.to s)).0 ∙ u.0, u.1);
      };
      traced = p.traced joined (not_caller size words views trace queue_at queue joined seat id r k at) k.traced;
      each_seen = all_set (λ i v. HasSeen trace' v) views id (pass_view r') (λ i v _ e. seen_more p.longer (k.each_seen i v e)) (seen_pass r' p.mine_seen);
      queue_is = set_else views id queue_at (pass_view r') (λ e. none_is queue (ap (λ v. v.queue) (at_once views id queue_at (pass_view r) (view_of queue joined) (sym e) at k.queue_is))) ∙ k.queue_is;
      lock = λ q l. by_pass ((o : PassRecord) × (joined ≡ Some o) × (o.pass ≡ q)) q r.pass
          (λ e. off (sym p.unlocked ∙ (ap (λ (x : PassId). has_lock (inside run' x)) (sym e) ∙ l)))
          (λ ne. k.lock q (ap has_lock (sym (p.elsewhere q ne).1) ∙ l));
      idle = k.idle;
      each_view = all_set (Fits words' run' queue queue_at seat) views id (pass_view r')
          (λ i v ne e. let f = k.each_view i v e in record {
            queue_here = f.queue_here;
            pass_here = λ o is. let g = f.pass_here o is in (g.0, g.1, p.others o (λ e'. ne (sym g.0 ∙ (ap seat e' ∙ mine.0))) g.2);
            back_here = f.back_here;
            prefix_here = f.prefix_here;
          })
          record {
            queue_here = λ e. off e;
            pass_here = λ o is. let same : r' ≡ o = cc is in
                subst (λ (u : PassRecord). (seat u.pass ≡ id) × IsOut queue u.pass × IsRecord queue.first words' run' queue.history u) same
                (ap seat p.same_pass ∙ mine.0, subst (IsOut queue) (sym p.same_pass) mine.1, p.mine);
            back_here = λ o is. none_is o is;
            prefix_here = λ u is. none_is u is;
          };
      present = λ q out. by_pass (SeatHasRecord (set views id (pass_view r')) (seat q) q) q r.pass
          (λ e. (pass_view r', r', ap (get_elem? (set views id (pass_view r'))) (ap seat e ∙ mine.0) ∙ set_here views id (pass_view r') (at_below views id (pass_view r) at), refl, p.same_pass ∙ sym e))
          (λ ne. let was = k.present q out in present_else views id (pass_view r') (seat q) q (apart_from views id (pass_view r) r (seat q) q at refl ne was) was);
    }

-- what a step owes that makes the run longer by m, of no life's end
pub record LongerStep (size : Size) (words words' : List ℕ) (run : List Made) (trace : List Tick) (m : Made) (q : QueueRecord) (r r' : PassRecord) : Type 0 where
  pub by : m.pass ≡ r.pass
  pub same_pass : r'.pass ≡ r.pass
  pub wide : length words' ≡ length words
  pub is_run : IsRun size (m ∷ run)
  pub words_are : (n : IrpId) → n.0 < size.irps → HasWords size.first words' (m ∷ run) q.reusing n
  pub listed_same : (i : IrpLife) → listed (m ∷ run) i ≡ listed run i
  pub armed_same : (i : IrpLife) → was_armed (m ∷ run) i ≡ was_armed run i
  pub given_same : (i : IrpLife) → passes_given (m ∷ run) i ≡ passes_given run i
  pub lives_same : (n : IrpId) → present_life size.first (m ∷ run) n ≡ present_life size.first run n
  pub stored : (o : PassRecord) → IsRecord q.first words run q.history o → AreStored words' o.completed
  pub unlocked : has_lock (inside (m ∷ run) r.pass) ≡ false
  pub free : needs_lock m.kind ≡ false
  pub sees_it : r'.trace ≡ Makes m ∷ trace
  pub mine : IsRecord q.first words' (m ∷ run) q.history r'

pub longer_step : (size : Size) (words words' : List ℕ) (run : List Made) (trace : List Tick) (m : Made) (q : QueueRecord) (r r' : PassRecord) → AreTrueOf q.first run q.history → IsReuse size run q.reusing
    → LongerStep size words words' run trace m q r r' → OwnStep size words words' run (m ∷ run) trace (Makes m ∷ trace) q r r'
longer_step size words words' run trace m q r r' true' reuse p = record {
  same_pass = p.same_pass;
  wide = p.wide;
  is_run = p.is_run;
  words_are = p.words_are;
  listed_same = p.listed_same;
  armed_same = p.armed_same;
  given_same = p.given_same;
  lives_same = p.lives_same;
  true_of = truths_stay size m run p.is_run q.first q.history true';
  reuse_is = reuse_more size m run p.lives_same q.reusing reuse;
  others = λ o ne rec. record {
    of_pass = record {
      seen_is = rec.of_pass.seen_is;
      mine_is = rec.of_pass.mine_is;
      steps_is = rec.of_pass.steps_is ∙ sym (own-other o.pass m run (λ e. ne (sym e ∙ p.by)));
      completed_is = rec.of_pass.completed_is;
    };
    stored = p.stored o rec;
    due = rec.due;
    begun = begun_more q.first m run o.lives rec.begun;
  };
  elsewhere = λ n ne. (own-other n m run (λ e. ne (sym e ∙ p.by)), inside_other m run n (λ e. ne (e ∙ p.by)));
  unlocked = p.unlocked;
  longer = (Makes m ∷ [], refl);
  traced = λ joined alone t. traced_unlocked m p.free (λ e. alone (e ∙ ap Some p.by)) t;
  mine_seen = ([], sym p.sees_it);
  mine = p.mine;
}

-- what a step of the joined seat owes, which leaves it with this run, these records, and with as many passes
pub record LockedStep (size : Size) (words words' : List ℕ) (run run' : List Made) (trace trace' : List Tick) (q q' : QueueRecord) (r r' : PassRecord) : Type 0 where
  pub same_pass : r'.pass ≡ r.pass
  pub same_made : q'.made ≡ q.made
  pub same_back : q'.back ≡ q.back
  pub same_shown : q'.shown ≡ q.shown
  pub wide : length words' ≡ length words
  pub words_are : (n : IrpId) → n.0 < size.irps → HasWords size.first words' run' q'.reusing n
  pub history_is : IsHistoryOf size run' q' (in_flight (Some r'))
  pub reuse_is : IsReuse size run' q'.reusing
  pub others : (o : PassRecord) → o.pass ≢ r.pass → IsRecord q.first words run q.history o → IsRecord q'.first words' run' q'.history o
  pub elsewhere : (p : PassId) → p ≢ r.pass → (own p run' ≡ own p run) × (calls_of p q'.history ≡ calls_of p q.history) × (inside run' p ≡ inside run p)
  pub traced : IsTraceOf q'.first trace' q'.history q'.found (Some r')
  pub longer : IsExtendedBy trace trace'
  pub seen : IsExtendedBy q'.trace trace'
  pub mine_seen : IsExtendedBy r'.trace trace'
  pub grows : (shorter : List HistoryEntry) → IsExtendedBy shorter q.history → IsExtendedBy shorter q'.history
  pub mine : IsRecord q'.first words' run' q'.history r'

pub locked_step : (size : Size) (words words' : List ℕ) (views : List View) (trace trace' : List Tick) (id : ℕ) (q q' : QueueRecord) (seat : PassId → ℕ) (r r' : PassRecord)
    → RuleHoldsBy size words views trace id q (Some r) seat → LockedStep size words words' (steps_in trace) (steps_in trace') trace trace' q q' r r'
    → RuleHoldsBy size words' (set views id (view_of q' (Some r'))) trace' id q' (Some r') seat
locked_step size words words' views trace trace' id q q' seat r r' k p =
    let run = steps_in trace in
    let run' = steps_in trace' in
    let was_seen = k.each_seen id (view_of q (Some r)) k.queue_is in
    let backs_seen : HaveSeen trace q.back = was_seen.backs q refl in
    let mine = (k.each_view id (view_of q (Some r)) k.queue_is).pass_here r refl in
    let v' = view_of q' (Some r') in
    let out : (n : PassId) → IsOut q n → IsOut q' n = λ n o. record { from = o.from; to = rw p.same_made o.to; not_back = rw p.same_back o.not_back } in
    let in' : (n : PassId) → IsOut q' n → IsOut q n = λ n o. record { from = o.from; to = rw (← p.same_made) o.to; not_back = rw (← p.same_back) o.not_back } in
    let back : (o : PassRecord) → HasBack q o → HasBack q' o = λ o g. (g.0, ap (λ l. get_elem? l g.0) p.same_back ∙ g.1) in
    let here = set_here views id v' (at_below views id (view_of q (Some r)) k.queue_is) in
    let few = k.agrees.few in
    record {
      agrees = record {
        wide = p.wide ∙ k.agrees.wide;
        words_are = p.words_are;
        history_is = p.history_is;
        reuse_is = p.reuse_is;
        backs = λ i o e. let at : get_elem? q.back i ≡ some o = ap (λ l. get_elem? l i) (sym p.same_back) ∙ e in
            let b = k.agrees.backs i o at in record { is_record = p.others o (mine.1.not_back i o at) b.is_record; rests = b.rests; made = rw p.same_made b.made };
        back_once = subst BackOnce (sym p.same_back) k.agrees.back_once;
        shown = λ i o e. back o (k.agrees.shown i o (ap (λ l. get_elem? l i) (sym p.same_shown) ∙ e));
        few = rw p.same_made few;
        nobody = λ n s. let s' : IsNobody q.made n = subst (λ m. IsNobody m n) p.same_made s in
            let u = k.agrees.nobody n s' in
            let e = p.elsewhere n (λ is. somebody q.made r.pass n is mine.1.from mine.1.to s') in (e.0 ∙ u.0, e.1 ∙ u.1);
      };
      traced = p.traced;
      each_seen = all_set (λ i v. HasSeen trace' v) views id v' (λ i v _ e. seen_more p.longer (k.each_seen i v e))
          (seen_joined q' r' p.seen (subst (HaveSeen trace') (sym p.same_back) (λ i o e. extended_on o.trace trace trace' (backs_seen i o e) p.longer)) p.mine_seen);
      queue_is = here;
      lock = λ n l. by_pass ((o : PassRecord) × (Some r' ≡ Some o) × (o.pass ≡ n)) n r.pass
          (λ e. (r', refl, p.same_pass ∙ sym e))
          (λ ne. absurd (ne (only_joined run r k.lock n (ap has_lock (sym (p.elsewhere n ne).2) ∙ l))));
      idle = λ none. none_is r' (sym none);
      each_view = all_set (Fits words' run' q' id seat) views id v'
          (λ i v ne e. let f = k.each_view i v e in record {
            queue_here = f.queue_here;
            pass_here = λ o is. let g = f.pass_here o is in (g.0, out o.pass g.1, p.others o (λ e'. ne (sym g.0 ∙ (ap seat e' ∙ mine.0))) g.2);
            back_here = λ o is. back o (f.back_here o is);
            prefix_here = λ s is. p.grows s.history (f.prefix_here s is);
          })
          record {
            queue_here = λ _. refl;
            pass_here = λ o is. let same : r' ≡ o = cc is in
                subst (λ (u : PassRecord). (seat u.pass ≡ id) × IsOut q' u.pass × IsRecord q'.first words' run' q'.history u) same
                (ap seat p.same_pass ∙ mine.0, subst (IsOut q') (sym p.same_pass) (out r.pass mine.1), p.mine);
            back_here = λ o is. none_is o is;
            prefix_here = λ u is. none_is u is;
          };
      present = λ n o. by_pass (SeatHasRecord (set views id v') (seat n) n) n r.pass
          (λ e. (v', r', ap (get_elem? (set views id v')) (ap seat e ∙ mine.0) ∙ here, refl, p.same_pass ∙ sym e))
          (λ ne. let was = k.present n (in' n o) in present_else views id v' (seat n) n (apart_from views id (view_of q (Some r)) r (seat n) n k.queue_is refl ne was) was);
    }
