-- The queue's seat observes the execution: this keeps the rule, which says of the records then.
use Rattle.std.proofs.Common.{◌≡◌, ℕ, false, List, [], Some, None, refl, sym, subst, set}
use Rattle.csq_words.specs.Traces.{entries_in, IsTrace}
use Rattle.csq_words.proofs.Imports.{Tick, HasSeen, HaveSeen, steps_in, set-get_or, none, Allows, step, keeps, set_here, has_lock, PassId, Size, PassRecord, QueueRecord, View, view_of, with_trace, inside_of, in_flight, IsOut, WordsAgree, Fits, RuleHoldsBy, RuleHolds, QueueHasRun, SeatView, Observes, ObservesQueue, ObservesBoth}
use Rattle.irp_core.specs.declared.inside.Inside.TheVariants as inner
use Rattle.csq_words.proofs.Indexes.{at_below}
use Rattle.csq_words.proofs.Keeping.{none_is, seen_alone, same_history, all_set, present_else, apart, at_queue, nobody_in, agrees_same, free_flight, are_back}
use Rattle.csq_words.proofs.ReuseSteps.{renewal_kept}

-- the queue's record has the execution so far
observes : (size : Size) (slots id : ℕ) (q : QueueRecord) (r : PassRecord) (held : List (ℕ × Unit {0})) → Allows (RuleHolds size) slots id (view_of q (Some r), held) 0 (λ n. n) (Observes size (step slots 0 0 0 none) (view_of q (Some r), held))
observes size slots id q r held s h _ at _ =
    let (trace, seat, k) = at_queue size s id q (Some r) h at in
    let run = steps_in trace in
    let q' = with_trace trace q in
    let kept = renewal_kept size s.words s.words s.views trace trace id q r seat q.reusing ([], refl) k refl k.agrees.words_are k.agrees.reuse_is (λ cs h. h) in (
      view_of q' (Some r),
      keeps,
      tt,
      (trace, id, q', Some r, seat, subst (λ ws. RuleHoldsBy size ws (set s.views id (view_of q' (Some r))) trace id q' (Some r) seat) (sym (set-get_or s.words 0 0)) kept.0),
      (refl, record { call = record { agreed = kept.1; in_call = kept.0.traced.in_call r refl }; follows = (k.each_seen id (view_of q (Some r)) at).queue q refl }),
    )

-- the same at a view that is known
pub observes_as : (size : Size) (slots id : ℕ) (m : SeatView) (q : QueueRecord) (r : PassRecord) → m.0 ≡ view_of q (Some r) → (other : Size) → other ≡ size → Allows (RuleHolds size) slots id m 0 (λ n. n) (Observes other (step slots 0 0 0 none) m)
observes_as size slots id m q r is other sized = subst (λ (z : View × Size). Allows (RuleHolds size) slots id (z.0, m.1) 0 (λ n. n) (Observes z.1 (step slots 0 0 0 none) (z.0, m.1))) (λ k. (sym is k, sym sized k)) (observes size slots id q r m.1)

-- the queue's record, joined with no pass, has the execution so far
alone_kept : (size : Size) (words : List ℕ) (views : List View) (trace : List Tick) (id : ℕ) (q : QueueRecord) (seat : PassId → ℕ) → RuleHoldsBy size words views trace id q None seat
    → RuleHoldsBy size words (set views id (view_of (with_trace trace q) None)) trace id (with_trace trace q) None seat
alone_kept size words views trace id q seat k =
    let run = steps_in trace in
    let seen = k.each_seen id (view_of q None) k.queue_is in
    let q' = with_trace trace q in
    let at = k.queue_is in
    let fits : ℕ → View → Type 0 = Fits words run q' id seat in
    let a = k.agrees in
    let agreed = a.history_is in record {
      agrees = record {
        wide = a.wide;
        words_are = a.words_are;
        history_is = same_history agreed;
        reuse_is = a.reuse_is;
        backs = λ i o e. let b = a.backs i o e in record { is_record = b.is_record; rests = b.rests; made = b.made };
        back_once = a.back_once;
        shown = a.shown;
        few = a.few;
        nobody = a.nobody;
      };
      traced = k.traced;
      each_seen = all_set (λ i v. HasSeen trace v) views id (view_of q' None) (λ i v _ e. k.each_seen i v e) (seen_alone q' ([], refl) (seen.backs q refl));
      queue_is = set_here views id (view_of q' None) (at_below views id (view_of q None) at);
      lock = k.lock;
      idle = k.idle;
      each_view = all_set fits views id (view_of q' None)
          (λ j v away e. let f = k.each_view j v e in record { queue_here = f.queue_here; pass_here = λ o is. let g = f.pass_here o is in (g.0, outside g.1, g.2); back_here = f.back_here; prefix_here = f.prefix_here })
          record { queue_here = λ _. refl; pass_here = λ o is. none_is o is; back_here = λ o is. none_is o is; prefix_here = λ u is. none_is u is };
      present = λ p out. let was = k.present p (outside' out) in present_else views id (view_of q' None) (seat p) p (apart views id (view_of q None) (seat p) p at refl was) was;
    }
  where
    outside : {p : PassId} → IsOut q p → IsOut (with_trace trace q) p
    outside o = record { from = o.from; to = o.to; not_back = o.not_back }

    outside' : {p : PassId} → IsOut (with_trace trace q) p → IsOut q p
    outside' o = record { from = o.from; to = o.to; not_back = o.not_back }

-- what the rule says of the record then, where no insert is in flight
agreed_of : (size : Size) (words : List ℕ) (q : QueueRecord) → IsTrace q.first q.trace → entries_in q.trace ≡ q.history → HaveSeen q.trace q.back → WordsAgree size words (steps_in q.trace) q inner.Nothing → QueueHasRun size q
agreed_of size words q t e seen a = record { is_trace = t; entries_are = e; backs_seen = seen; history_is = a.history_is; callers = λ p s. (a.nobody p (nobody_in q.made size.passes p a.few s)).1; backs = are_back size words (steps_in q.trace) q inner.Nothing a; shown = a.shown }

observes_queue : (size : Size) (slots id : ℕ) (q : QueueRecord) (held : List (ℕ × Unit {0})) → Allows (RuleHolds size) slots id (view_of q None, held) 0 (λ n. n) (ObservesQueue size (step slots 0 0 0 none) (view_of q None, held))
observes_queue size slots id q held s h _ at _ =
    let (trace, seat, k) = at_queue size s id q None h at in
    let run = steps_in trace in
    let q' = with_trace trace q in
    let kept = alone_kept size s.words s.views trace id q seat k in
    let seen = k.each_seen id (view_of q None) at in
    let views = set s.views id (view_of q' None) in (
      view_of q' None,
      keeps,
      tt,
      (trace, id, q', None, seat, subst (λ ws. RuleHoldsBy size ws views trace id q' None seat) (sym (set-get_or s.words 0 0)) kept),
      (refl, agreed_of size s.words q' kept.traced.is_trace kept.traced.entries_are (seen.backs q refl) kept.agrees, (record { words = s.words; homes = s.homes; views = views }, (trace, id, q', None, seat, kept), (id, kept.queue_is)), seen.queue q refl, kept.traced.caller_is),
    )

observes_both : (size : Size) (slots id : ℕ) (q : QueueRecord) (r : PassRecord) (held : List (ℕ × Unit {0})) → has_lock (inside_of r.steps) ≡ false
    → Allows (RuleHolds size) slots id (view_of q (Some r), held) 0 (λ n. n) (ObservesBoth size (step slots 0 0 0 none) (view_of q (Some r), held))
observes_both size slots id q r held done s h _ at _ =
    let (trace, seat, k) = at_queue size s id q (Some r) h at in
    let run = steps_in trace in
    let q' = with_trace trace q in
    let kept = renewal_kept size s.words s.words s.views trace trace id q r seat q.reusing ([], refl) k refl k.agrees.words_are k.agrees.reuse_is (λ cs h. h) in
    let seen = k.each_seen id (view_of q (Some r)) at in
    let free = agrees_same size s.words run q' (in_flight (Some r)) inner.Nothing (λ i. free_flight (inside_of r.steps) i done) kept.0.agrees in (
      view_of q' (Some r),
      keeps,
      tt,
      (trace, id, q', Some r, seat, subst (λ ws. RuleHoldsBy size ws (set s.views id (view_of q' (Some r))) trace id q' (Some r) seat) (sym (set-get_or s.words 0 0)) kept.0),
      (refl, record { agreed = agreed_of size s.words q' k.traced.is_trace k.traced.entries_are (seen.backs q refl) free; pass_is = kept.1.pass_is; pass_seen = seen.pass r refl }, seen.queue q refl),
    )

-- the same at views that are known
pub observes_queue_as : (size : Size) (slots id : ℕ) (m : SeatView) (q : QueueRecord) → m.0 ≡ view_of q None → (other : Size) → other ≡ size → Allows (RuleHolds size) slots id m 0 (λ n. n) (ObservesQueue other (step slots 0 0 0 none) m)
observes_queue_as size slots id m q is other sized = subst (λ (z : View × Size). Allows (RuleHolds size) slots id (z.0, m.1) 0 (λ n. n) (ObservesQueue z.1 (step slots 0 0 0 none) (z.0, m.1))) (λ k. (sym is k, sym sized k)) (observes_queue size slots id q m.1)

pub observes_both_as : (size : Size) (slots id : ℕ) (m : SeatView) (q : QueueRecord) (r : PassRecord) → m.0 ≡ view_of q (Some r) → has_lock (inside_of r.steps) ≡ false → (other : Size) → other ≡ size → Allows (RuleHolds size) slots id m 0 (λ n. n) (ObservesBoth other (step slots 0 0 0 none) m)
observes_both_as size slots id m q r is done other sized = subst (λ (z : View × Size). Allows (RuleHolds size) slots id (z.0, m.1) 0 (λ n. n) (ObservesBoth z.1 (step slots 0 0 0 none) (z.0, m.1))) (λ k. (sym is k, sym sized k)) (observes_both size slots id q r m.1 done)
