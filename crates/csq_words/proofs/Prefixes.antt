-- What a pass has seen: cutting it off, and joining it to another pass's record, keeps the rule, by which that pass then has seen more.
use Rattle.std.proofs.Common.{◌≡◌, ℕ, List, [], ◌∷◌, ◌++◌, set, refl, sym, ap, ◌∙◌, subst}
use Rattle.csq_words.proofs.Imports.{set-get_or, some, none, get_elem?, Allows, Splits, Joins, step, keeps, set_here, set_else, set_again, at_longer, PassId, Made, Size, PassRecord, QueueRecord, View, view_of, pass_view, receipt_view, prefix_view, spent_view, pass_prefix_view, prefix_of, saw_prefix, same_view, prefix_view_of, with_prefix_of, IsOrderly, Inside, IsExtendedBy, Tick, steps_in, HasSeen, AreTrueOf, IsRecord, IsOut, WordsAgree, in_flight, Fits, SeatHasRecord, RuleHoldsBy, RuleHolds, SeatView, SeesAll}
use Rattle.csq_words.specs.declared.views.Prefix.{Prefix}
use Rattle.csq_words.specs.Traces.{IsTrace}
use Rattle.csq_words.proofs.Facts.{off}
use Rattle.csq_words.proofs.Named.{by_pass}
use Rattle.csq_words.proofs.Indexes.{at_below, at_once}
use Rattle.csq_words.proofs.Keeping.{none_is, seen_prefix, seen_pass_prefix, seen_pass, seen_nothing, all_set, all_push, present_else, present_more, apart, apart_from}

-- a prefix that the seat's view has is cut off
cuts_seen : (size : Size) (id : ℕ) (v : View) (s : Prefix)
    → ((words : List ℕ) (run : List Made) (q : QueueRecord) (queue_at : ℕ) (seat : PassId → ℕ) (flight : Inside) → WordsAgree size words run q flight → Fits words run q queue_at seat id v → IsExtendedBy s.history q.history)
    → ((trace : List Tick) → HasSeen trace v → IsExtendedBy s.trace trace)
    → Splits (RuleHolds size) id v v (prefix_view s)
cuts_seen size id v s shown saw st (trace, queue_at, queue, joined, seat, k) at =
    let run = steps_in trace in
    let here = k.each_view id v at in
    let fits : ℕ → View → Type 0 = Fits st.words run queue queue_at seat in
    let longer : RuleHoldsBy size st.words (st.views ++ prefix_view s ∷ []) trace queue_at queue joined seat = record {
      agrees = k.agrees;
      traced = k.traced;
      each_seen = all_push (λ i v. HasSeen trace v) st.views (prefix_view s) k.each_seen (seen_prefix s (saw trace (k.each_seen id v at)));
      queue_is = at_longer st.views (prefix_view s ∷ []) queue_at (view_of queue joined) k.queue_is;
      lock = k.lock;
      idle = k.idle;
      each_view = all_push fits st.views (prefix_view s) k.each_view record {
        queue_here = λ e. off e;
        pass_here = λ o is. none_is o is;
        back_here = λ o is. none_is o is;
        prefix_here = λ u is. let same : s ≡ u = cc is in subst (λ (p : Prefix). IsExtendedBy p.history queue.history) same (shown st.words run queue queue_at seat (in_flight joined) k.agrees here);
      };
      present = λ p out. present_more st.views (prefix_view s) (seat p) p (k.present p out);
    } in (trace, queue_at, queue, joined, seat, subst (λ (views : List View). RuleHoldsBy size st.words (views ++ prefix_view s ∷ []) trace queue_at queue joined seat) (sym (set_again st.views id v at)) longer)

-- it is joined to a pass's seat
joins_seen : (size : Size) (id other : ℕ) (r : PassRecord) (s : Prefix) → Joins (RuleHolds size) id (pass_view r) other (prefix_view s) (pass_prefix_view r s) spent_view
joins_seen size id other r s st (trace, queue_at, queue, joined, seat, k) at ne there' =
    let run = steps_in trace in
    let v' = pass_prefix_view r s in
    let there : get_elem? st.views other ≡ some (prefix_view s) = sym (set_else st.views id other v' ne) ∙ there' in
    let mine = (k.each_view id (pass_view r) at).pass_here r refl in
    let seen = (k.each_view other (prefix_view s) there).prefix_here s refl in
    let one = set st.views id v' in
    let fits : ℕ → View → Type 0 = Fits st.words run queue queue_at seat in
    let here : get_elem? (set one other spent_view) id ≡ some v' = set_else one other id spent_view (λ e. ne (sym e)) ∙ set_here st.views id v' (at_below st.views id (pass_view r) at) in (
      trace,
      queue_at,
      queue,
      joined,
      seat,
      record {
        agrees = k.agrees;
        traced = k.traced;
        each_seen = all_set (λ i v. HasSeen trace v) one other spent_view
            (λ i v _ e. all_set (λ j u. HasSeen trace u) st.views id v' (λ j u _ e'. k.each_seen j u e')
            (seen_pass_prefix r s ((k.each_seen id (pass_view r) at).pass r refl) ((k.each_seen other (prefix_view s) there).prefix s refl)) i v e)
            seen_nothing;
        queue_is = set_else one other queue_at spent_view (λ e. none_is queue (ap (λ (u : View). u.queue) (at_once st.views other queue_at (prefix_view s) (view_of queue joined) (sym e) there k.queue_is)))
            ∙ (set_else st.views id queue_at v' (λ e. none_is queue (ap (λ (u : View). u.queue) (at_once st.views id queue_at (pass_view r) (view_of queue joined) (sym e) at k.queue_is))) ∙ k.queue_is);
        lock = k.lock;
        idle = k.idle;
        each_view = all_set fits one other spent_view
            (λ i v _ e. all_set fits st.views id v' (λ j u _ e'. k.each_view j u e')
            record {
              queue_here = λ e'. off e';
              pass_here = λ o is. let same : r ≡ o = cc is in subst (λ (u : PassRecord). (seat u.pass ≡ id) × IsOut queue u.pass × IsRecord queue.first st.words run queue.history u) same mine;
              back_here = λ o is. none_is o is;
              prefix_here = λ u is. let same : s ≡ u = cc is in subst (λ (p : Prefix). IsExtendedBy p.history queue.history) same seen;
            }
            i v e)
            record { queue_here = λ e. off e; pass_here = λ o is. none_is o is; back_here = λ o is. none_is o is; prefix_here = λ u is. none_is u is };
        present = λ p out. by_pass (SeatHasRecord (set one other spent_view) (seat p) p) p r.pass
            (λ e. (v', r, ap (get_elem? (set one other spent_view)) (ap seat e ∙ mine.0) ∙ here, refl, sym e))
            (λ no. let was = k.present p out in
            present_else one other spent_view (seat p) p (apart st.views other (prefix_view s) (seat p) p there refl was)
            (present_else st.views id v' (seat p) p (apart_from st.views id (pass_view r) r (seat p) p at refl no was) was));
      },
    )

-- the pass has then seen the history and the execution so far
sees_all : (size : Size) (slots id : ℕ) (r : PassRecord) (s : Prefix) (held : List (ℕ × Unit {0})) → Allows (RuleHolds size) slots id (pass_prefix_view r s, held) 0 (λ n. n) (SeesAll size (step slots 0 0 0 none) (pass_prefix_view r s, held))
sees_all size slots id r s held st (trace, queue_at, queue, joined, seat, k) _ at _ =
    let run = steps_in trace in
    let known = k.each_seen id (pass_prefix_view r s) at in
    let f = k.each_view id (pass_prefix_view r s) at in
    let mine = f.pass_here r refl in
    let seen = f.prefix_here s refl in
    let rec = mine.2 in
    let was = rec.of_pass in
    let agreed = k.agrees.history_is in
    let r' = saw_prefix (record { history = queue.history; trace = trace }) r in
    let fits : ℕ → View → Type 0 = Fits st.words run queue queue_at seat in
    let newer : IsRecord queue.first st.words run queue.history r' = record {
      of_pass = record { seen_is = ([], refl); mine_is = was.mine_is; steps_is = was.steps_is; completed_is = was.completed_is };
      stored = rec.stored;
      due = rec.due;
      begun = rec.begun;
    } in
    let kept : RuleHoldsBy size st.words (set st.views id (pass_view r')) trace queue_at queue joined seat = record {
      agrees = k.agrees;
      traced = k.traced;
      each_seen = all_set (λ i v. HasSeen trace v) st.views id (pass_view r') (λ i v _ e. k.each_seen i v e) (seen_pass r' ([], refl));
      queue_is = set_else st.views id queue_at (pass_view r') (λ e. none_is queue (ap (λ (u : View). u.queue) (at_once st.views id queue_at (pass_prefix_view r s) (view_of queue joined) (sym e) at k.queue_is))) ∙ k.queue_is;
      lock = k.lock;
      idle = k.idle;
      each_view = all_set fits st.views id (pass_view r') (λ i v _ e. k.each_view i v e) record {
        queue_here = λ e. off e;
        pass_here = λ o is. let same : r' ≡ o = cc is in subst (λ (u : PassRecord). (seat u.pass ≡ id) × IsOut queue u.pass × IsRecord queue.first st.words run queue.history u) same (mine.0, mine.1, newer);
        back_here = λ o is. none_is o is;
        prefix_here = λ u is. none_is u is;
      };
      present = λ p out. by_pass (SeatHasRecord (set st.views id (pass_view r')) (seat p) p) p r.pass
          (λ e. (pass_view r', r', ap (get_elem? (set st.views id (pass_view r'))) (ap seat e ∙ mine.0) ∙ set_here st.views id (pass_view r') (at_below st.views id (pass_prefix_view r s) at), refl, sym e))
          (λ no. let was' = k.present p out in present_else st.views id (pass_view r') (seat p) p (apart_from st.views id (pass_prefix_view r s) r (seat p) p at refl no was') was');
    } in
    let first : queue.first ≡ size.first = agreed.first_is in (
      pass_view r',
      keeps,
      tt,
      (trace, queue_at, queue, joined, seat, subst (λ ws. RuleHoldsBy size ws (set st.views id (pass_view r')) trace queue_at queue joined seat) (sym (set-get_or st.words 0 0)) kept),
      (
        refl,
        record {
          sees = record { follows = known.pass r refl; is_run = agreed.is_run; steps_are = was.steps_is };
          begins = was.seen_is;
          history = seen;
          trace = known.prefix s refl;
          is_trace = subst (λ n. IsTrace n trace) first k.traced.is_trace;
          entries_are = k.traced.entries_are;
          once = was.mine_is;
          orderly = subst (λ n. IsOrderly n queue.history) first agreed.orderly;
          true_of = subst (λ n. AreTrueOf n run queue.history) first agreed.true_of;
        },
      ),
    )

-- the same at views that are known
pub cuts_seen_as : (size : Size) (id : ℕ) (v : View) (r : PassRecord) → v ≡ pass_view r → Splits (RuleHolds size) id v (same_view v) (prefix_view_of v)
cuts_seen_as size id v r is = subst (λ (u : View). Splits (RuleHolds size) id u (same_view u) (prefix_view_of u)) (sym is)
    (cuts_seen size id (pass_view r) (prefix_of r) (λ words run q queue_at seat flight a f. (f.pass_here r refl).2.of_pass.seen_is) (λ trace h. h.pass r refl))

pub cuts_back_seen_as : (size : Size) (id : ℕ) (v : View) (r : PassRecord) → v ≡ receipt_view r → Splits (RuleHolds size) id v (same_view v) (prefix_view_of v)
cuts_back_seen_as size id v r is = subst (λ (u : View). Splits (RuleHolds size) id u (same_view u) (prefix_view_of u)) (sym is)
    (cuts_seen size id (receipt_view r) (prefix_of r) (λ words run q queue_at seat flight a f. let back = f.back_here r refl in (a.backs back.0 r back.1).is_record.of_pass.seen_is) (λ trace h. h.back r refl))

pub copies_seen_as : (size : Size) (id : ℕ) (v : View) (s : Prefix) → v ≡ prefix_view s → Splits (RuleHolds size) id v (same_view v) (same_view v)
copies_seen_as size id v s is = subst (λ (u : View). Splits (RuleHolds size) id u (same_view u) (same_view u)) (sym is)
    (cuts_seen size id (prefix_view s) s (λ words run q queue_at seat flight a f. f.prefix_here s refl) (λ trace h. h.prefix s refl))

pub joins_seen_as : (size : Size) (id other : ℕ) (v w : View) (r : PassRecord) (s : Prefix) → v ≡ pass_view r → w ≡ prefix_view s → Joins (RuleHolds size) id v other w (with_prefix_of v w) spent_view
joins_seen_as size id other v w r s is is' = subst (λ (u : View × View). Joins (RuleHolds size) id u.0 other u.1 (with_prefix_of u.0 u.1) spent_view) (λ i. (sym is i, sym is' i)) (joins_seen size id other r s)

pub sees_all_as : (size : Size) (slots id : ℕ) (m : SeatView) (r : PassRecord) (s : Prefix) → m.0 ≡ pass_prefix_view r s → (other : Size) → other ≡ size → Allows (RuleHolds size) slots id m 0 (λ n. n) (SeesAll other (step slots 0 0 0 none) m)
sees_all_as size slots id m r s is other sized = subst (λ (z : View × Size). Allows (RuleHolds size) slots id (z.0, m.1) 0 (λ n. n) (SeesAll z.1 (step slots 0 0 0 none) (z.0, m.1))) (λ k. (sym is k, sym sized k)) (sees_all size slots id r s m.1)
