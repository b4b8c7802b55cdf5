-- Receipts of passes that are back: cutting one off, and showing it, keeps the rule.
use Rattle.std.proofs.Common.{◌≡◌, ℕ, zero, suc, List, [], ◌∷◌, ◌++◌, set, Some, None, IsSome, refl, sym, ap, ◌∙◌, subst}
use Rattle.csq_words.proofs.Imports.{some, some-injective, get_elem?, Splits, Joins, set_here, set_else, set_again, at_longer, PassId, Made, Size, PassRecord, QueueRecord, View, view_of, receipt_view, spent_view, newest, without_pass, receipt_of, shown_receipt, with_shown, shown_by, in_flight, IsOut, HasBack, HasSeen, steps_in, WordsAgree, Fits, RuleHoldsBy, RuleHolds}
use Rattle.csq_words.proofs.Facts.{off}
use Rattle.csq_words.proofs.Indexes.{at_below}
use Rattle.csq_words.proofs.Keeping.{none_is, seen_receipt, seen_alone, seen_nothing, same_history, all_set, all_push, present_else, present_more, apart, at_queue}

-- the newest of the records is among them
newest_at : (rs : List PassRecord) (r : PassRecord) → newest rs ≡ Some r → get_elem? rs 0 ≡ some r
newest_at [] r e = none_is r e
newest_at (o ∷ rs) r e = let same : o ≡ r = cc in ap some same

-- where some pass is back, one came back last
pub some_newest : (rs : List PassRecord) → IsSome (newest rs) → (r : PassRecord) × (newest rs ≡ Some r)
some_newest [] h = off h
some_newest (r ∷ rs) h = (r, refl)

-- a receipt of a pass that is back is cut off
cuts_receipt : (size : Size) (id : ℕ) (q : QueueRecord) (r : PassRecord) → ((words : List ℕ) (run : List Made) → WordsAgree size words run q (in_flight None) → HasBack q r) → Splits (RuleHolds size) id (view_of q None) (view_of q None) (receipt_view r)
cuts_receipt size id q r back s h at =
    let (trace, seat, k) = at_queue size s id q None h at in
    let run = steps_in trace in
    let fits : ℕ → View → Type 0 = Fits s.words run q id seat in
    let b = back s.words run k.agrees in
    let seen = (k.each_seen id (view_of q None) at).backs q refl b.0 r b.1 in
    let longer : RuleHoldsBy size s.words (s.views ++ receipt_view r ∷ []) trace id q None seat = record {
      agrees = k.agrees;
      traced = k.traced;
      each_seen = all_push (λ i v. HasSeen trace v) s.views (receipt_view r) k.each_seen (seen_receipt r seen);
      queue_is = at_longer s.views (receipt_view r ∷ []) id (view_of q None) k.queue_is;
      lock = k.lock;
      idle = k.idle;
      each_view = all_push fits s.views (receipt_view r) k.each_view record {
        queue_here = λ e. off e;
        pass_here = λ o is. none_is o is;
        back_here = λ o is. let same : r ≡ o = cc is in subst (HasBack q) same b;
        prefix_here = λ u is. none_is u is;
      };
      present = λ p out. present_more s.views (receipt_view r) (seat p) p (k.present p out);
    } in
    (trace, id, q, None, seat, subst (λ (views : List View). RuleHoldsBy size s.words (views ++ receipt_view r ∷ []) trace id q None seat) (sym (set_again s.views id (view_of q None) at)) longer)

-- a receipt shows the record of a pass that is back
shows : (size : Size) (id other : ℕ) (q : QueueRecord) (r : PassRecord) → Joins (RuleHolds size) id (view_of q None) other (receipt_view r) (view_of (with_shown r q) None) spent_view
shows size id other q r s h at ne there' =
    let (trace, seat, k) = at_queue size s id q None h at in
    let run = steps_in trace in
    let q' = with_shown r q in
    let there : get_elem? s.views other ≡ some (receipt_view r) = sym (set_else s.views id other (view_of q' None) ne) ∙ there' in
    let back : HasBack q r = (k.each_view other (receipt_view r) there).back_here r refl in
    let both = set s.views id (view_of q' None) in
    let fits : ℕ → View → Type 0 = Fits s.words run q' id seat in
    let a = k.agrees in
    let agreed = a.history_is in
    let seen = k.each_seen id (view_of q None) at in (
      trace,
      id,
      q',
      None,
      seat,
      record {
        agrees = record {
          wide = a.wide;
          words_are = a.words_are;
          history_is = same_history agreed;
          reuse_is = a.reuse_is;
          backs = λ i o e. let b = a.backs i o e in record { is_record = b.is_record; rests = b.rests; made = b.made };
          back_once = a.back_once;
          shown = each_shown q.shown back a.shown;
          few = a.few;
          nobody = a.nobody;
        };
        traced = k.traced;
        each_seen = all_set (λ i v. HasSeen trace v) both other spent_view
            (λ i v _ e. all_set (λ j u. HasSeen trace u) s.views id (view_of q' None) (λ j u _ e'. k.each_seen j u e') (seen_alone q' (seen.queue q refl) (seen.backs q refl)) i v e)
            seen_nothing;
        queue_is = set_else both other id spent_view (λ e. ne (sym e)) ∙ set_here s.views id (view_of q' None) (at_below s.views id (view_of q None) at);
        lock = k.lock;
        idle = k.idle;
        each_view = all_set fits both other spent_view
            (λ i v away e. all_set fits s.views id (view_of q' None)
            (λ j u _ e'. let f = k.each_view j u e' in record { queue_here = f.queue_here; pass_here = λ o is. let g = f.pass_here o is in (g.0, outside g.1, g.2); back_here = f.back_here; prefix_here = f.prefix_here })
            record { queue_here = λ _. refl; pass_here = λ o is. none_is o is; back_here = λ o is. none_is o is; prefix_here = λ u is. none_is u is }
            i v e)
            record { queue_here = λ e. off e; pass_here = λ o is. none_is o is; back_here = λ o is. none_is o is; prefix_here = λ u is. none_is u is };
        present = λ p out. let was = k.present p (outside' out) in
            present_else both other spent_view (seat p) p (apart s.views other (receipt_view r) (seat p) p there refl was)
            (present_else s.views id (view_of q' None) (seat p) p (apart s.views id (view_of q None) (seat p) p at refl was) was);
      },
    )
  where
    outside : {p : PassId} → IsOut q p → IsOut (with_shown r q) p
    outside o = record { from = o.from; to = o.to; not_back = o.not_back }

    outside' : {p : PassId} → IsOut (with_shown r q) p → IsOut q p
    outside' o = record { from = o.from; to = o.to; not_back = o.not_back }

    -- what was shown, and what is shown now, is of passes that are back
    each_shown : (shown : List PassRecord) → HasBack q r → ((k : ℕ) (o : PassRecord) → get_elem? shown k ≡ some o → HasBack q o) → (k : ℕ) (o : PassRecord) → get_elem? (r ∷ shown) k ≡ some o → HasBack q o
    each_shown shown here others zero o e = subst (HasBack q) (some-injective r o e) here
    each_shown shown here others (suc k) o e = others k o e

-- the same at views that are known
receipt_as : (size : Size) (id : ℕ) (v : View) (q : QueueRecord) (r : PassRecord) (right : View → View) → v ≡ view_of q None → right (view_of q None) ≡ receipt_view r
    → ((words : List ℕ) (run : List Made) → WordsAgree size words run q (in_flight None) → HasBack q r) → Splits (RuleHolds size) id v (without_pass v) (right v)
receipt_as size id v q r right is cut back =
    let cuts : Splits (RuleHolds size) id (view_of q None) (view_of q None) (right (view_of q None)) = subst (λ (w : View). Splits (RuleHolds size) id (view_of q None) (view_of q None) w) (sym cut) (cuts_receipt size id q r back) in
    subst (λ (u : View). Splits (RuleHolds size) id u (without_pass u) (right u)) (sym is) cuts

-- the receipt of the pass that came back last
pub last_receipt_as : (size : Size) (id : ℕ) (v : View) (q : QueueRecord) (r : PassRecord) → v ≡ view_of q None → newest q.back ≡ Some r → Splits (RuleHolds size) id v (without_pass v) (receipt_of v)
last_receipt_as size id v q r is last = receipt_as size id v q r receipt_of is (λ i. record { queue = None; pass = None; back = last i; prefix = None }) (λ words run a. (0, newest_at q.back r last))

-- the receipt that has just shown its record
pub shown_receipt_as : (size : Size) (id : ℕ) (v : View) (q : QueueRecord) (r : PassRecord) → v ≡ view_of q None → newest q.shown ≡ Some r → Splits (RuleHolds size) id v (without_pass v) (shown_receipt v)
shown_receipt_as size id v q r is last = receipt_as size id v q r shown_receipt is (λ i. record { queue = None; pass = None; back = last i; prefix = None }) (λ words run a. a.shown 0 r (newest_at q.shown r last))

pub shows_as : (size : Size) (id other : ℕ) (v w : View) (q : QueueRecord) (r : PassRecord) → v ≡ view_of q None → w ≡ receipt_view r → Joins (RuleHolds size) id v other w (shown_by v w) spent_view
shows_as size id other v w q r is is' = subst (λ (u : View × View). Joins (RuleHolds size) id u.0 other u.1 (shown_by u.0 u.1) spent_view) (λ i. (sym is i, sym is' i)) (shows size id other q r)
