-- What a contract's value of a seat says of the seat.
use Rattle.std.proofs.Common.{◌≡◌, ℕ, [], Option, Some, None, refl, sym, ap, ◌∙◌, subst}
use Rattle.std.specs.Option.{option_map}
use Rattle.atomic_table.specs.Seated.{TableId}
use Rattle.csq_words.proofs.Imports.{Kind, Test, Call, View, PassRecord, QueueRecord, bit_in, view_of, pass_view, receipt_view, prefix_view, queue_in, pass_in, queue_of, with_trace, with_reusing, IrpId, Size, IrpLife, StatusRenewed, present_in, after_step, after_look, after_renewal, any_step, SeatView, MakesStep, IsFound, FindsUnmarked, Looks, RenewsStatus, RenewsCancel, HasObserved, WordSeat, QueueSeatState, PassSeatState, queue_seat_of, HasQueue, IsQueueSeat, pass_seat_of, IsPassSeat, receipt_seat_of, IsReceipt, SeenState, seen_seat_of, IsSeenSeat, pass_record, pass_at, IsHere, joined_record, IsJoined, with_view}

-- a pass's seat that is here
pub here : {o : Option WordSeat} {s : WordSeat} {p : Option PassSeatState} {t : TableId} → o ≡ Some s → option_map pass_seat_of o ≡ p → IsPassSeat o → IsHere t p
    → (s.table_id ≡ t) × (s.me.1 ≡ []) × (s.me.0 ≡ pass_view (pass_record p))
here {o} {s} {p} {t} is view inv at =
    let inv' = subst IsPassSeat is inv in
    let same : Some (pass_seat_of s) ≡ pass_at t (pass_record p) = ap (option_map pass_seat_of) (sym is) ∙ (view ∙ at) in
    let inner : pass_seat_of s ≡ record { table = t; pass = pass_record p } = cc in
    (ap (λ z. z.table) inner, inv'.0, inv'.1 ∙ ap (λ z. pass_view z.pass) inner)

-- a receipt that wasn't shown
pub receipt_here : {o : Option WordSeat} {s : WordSeat} {p : Option PassSeatState} {t : TableId} → o ≡ Some s → option_map receipt_seat_of o ≡ p → IsReceipt o → IsHere t p
    → (s.table_id ≡ t) × (s.me.1 ≡ []) × (s.me.0 ≡ receipt_view (pass_record p))
receipt_here {o} {s} {p} {t} is view inv at =
    let inv' = subst IsReceipt is inv in
    let same : Some (receipt_seat_of s) ≡ pass_at t (pass_record p) = ap (option_map receipt_seat_of) (sym is) ∙ (view ∙ at) in
    let inner : receipt_seat_of s ≡ record { table = t; pass = pass_record p } = cc in
    (ap (λ z. z.table) inner, inv'.0, inv'.1 ∙ ap (λ z. receipt_view z.pass) inner)

-- what a pass had seen
pub prefix_here : (s : WordSeat) {x : SeenState} → seen_seat_of s ≡ x → IsSeenSeat s → s.me.0 ≡ prefix_view x.prefix
prefix_here s {x} view inv = inv.1 ∙ ap (λ z. prefix_view z.prefix) view

-- the queue's seat, joined with no pass
pub alone : (s : WordSeat) {q : QueueSeatState} → queue_seat_of s ≡ q → IsQueueSeat s → q.joined ≡ None → s.me.0 ≡ view_of q.queue None
alone s {q} view inv is =
    let queue : s.me.0.queue ≡ Some q.queue = inv.1.0 ∙ ap (λ z. Some z.queue) view in
    let pass : s.me.0.pass ≡ None = ap (λ z. z.joined) view ∙ is in
    λ i. record { queue = queue i; pass = pass i; back = inv.1.1 i; prefix = inv.1.2 i }

-- the queue's seat, joined with a pass
pub joined : (s : WordSeat) {q : QueueSeatState} → queue_seat_of s ≡ q → IsQueueSeat s → IsJoined q → s.me.0 ≡ view_of q.queue (Some (joined_record q))
joined s {q} view inv is =
    let queue : s.me.0.queue ≡ Some q.queue = inv.1.0 ∙ ap (λ z. Some z.queue) view in
    let pass : s.me.0.pass ≡ Some (joined_record q) = ap (λ z. z.joined) view ∙ is in
    λ i. record { queue = queue i; pass = pass i; back = inv.1.1 i; prefix = inv.1.2 i }

-- the queue's seat after a step that leaves it the queue's record
pub stepped_queue : (s : WordSeat) (v : View) (t : TableId) → s.table_id ≡ t → HasQueue v → s.me ≡ (v, []) → IsQueueSeat s × (queue_seat_of s ≡ record { table = t; queue = queue_in v; joined = v.pass })
stepped_queue s v t table has me =
    let view : s.me.0 ≡ v = ap (λ m. m.0) me in
    let is : queue_in s.me.0 ≡ queue_in v = ap queue_in view in
    ((ap (λ m. m.1) me, (ap (λ u. u.queue) view ∙ (has.0 ∙ ap (λ (u : QueueRecord). Some u) (sym is)), ap (λ u. u.back) view ∙ has.1, ap (λ u. u.prefix) view ∙ has.2)), λ i. record { table = table i; queue = is i; joined = (view i).pass })

-- the queue's seat after a step of the pass that it is joined with
pub stepped : (s s' : WordSeat) {q : QueueSeatState} (f : QueueRecord → PassRecord → View) → queue_seat_of s ≡ q → IsQueueSeat s → IsJoined q → s'.table_id ≡ s.table_id
    → ((a : QueueRecord) (b : PassRecord) → HasQueue (f a b)) → s'.me ≡ (f (queue_in s.me.0) (pass_in s.me.0), s.me.1)
    → IsQueueSeat s' × (queue_seat_of s' ≡ with_view (f q.queue (joined_record q)) q)
stepped s s' {q} f view inv is table has me =
    let was = joined s view inv is in
    let me' : s'.me ≡ (f q.queue (joined_record q), []) = me ∙ (λ i. (f (queue_in (was i)) (pass_in (was i)), inv.0 i)) in
    stepped_queue s' (f q.queue (joined_record q)) q.table (table ∙ ap (λ z. z.table) view) (has q.queue (joined_record q)) me'

-- the test of an IRP in its present life, by the seat's record
pub test_is : (s : WordSeat) {q : QueueSeatState} → queue_seat_of s ≡ q → (n : IrpId) → Test (present_in (queue_of (queue_in s.me.0)) n) ≡ Test (present_in (queue_of q.queue) n)
test_is s view n = ap (λ (z : QueueSeatState). Test (present_in (queue_of z.queue) n)) view

-- the queue's seat after a step of a call, of a kind that goes by another name
module _ {size : Size} (call : Call) {named kind : Kind} (is : named ≡ kind) (s s' : WordSeat) {q : QueueSeatState} (n : ℕ) (view : queue_seat_of s ≡ q) (inv : IsQueueSeat s) (joins : IsJoined q)
    (table : s'.table_id ≡ s.table_id) (makes : MakesStep size call named any_step s.me n s'.me) where
  made : MakesStep size call kind any_step s.me n s'.me
  made = subst (λ (k : Kind). MakesStep size call k any_step s.me n s'.me) is makes

  pub made_found : IsFound kind n
  made_found = made.1

  pub made_seat : IsQueueSeat s' × (queue_seat_of s' ≡ with_view (after_step call kind (bit_in n) (with_trace (queue_in s'.me.0).trace q.queue) (joined_record q)) q)
  made_seat = stepped s s' (λ a b. after_step call kind (bit_in n) (with_trace (queue_in s'.me.0).trace a) b) view inv joins table (λ a b. (refl, refl, refl)) made.0

  pub made_agreed : (agreed : Size) → size ≡ agreed → HasObserved agreed q.queue (queue_in s'.me.0) (pass_in s'.me.0)
  made_agreed agreed same = subst (λ (z : Size × View × View). HasObserved z.0 (queue_in z.1) (queue_in z.2) (pass_in z.2)) (λ k. (same k, joined s view inv joins k, sym (ap (λ m. m.0) made.0) k)) made.2

  pub made_unmarked : FindsUnmarked kind (bit_in n) (queue_of q.queue)
  made_unmarked = subst (λ (v : View). FindsUnmarked kind (bit_in n) (queue_of (queue_in v))) (joined s view inv joins) made.3

-- the queue's seat after a step of a reuse
module _ (s s' : WordSeat) {q : QueueSeatState} (view : queue_seat_of s ≡ q) (inv : IsQueueSeat s) (joins : IsJoined q) (table : s'.table_id ≡ s.table_id) (w : ℕ) where
  was : s.me ≡ (view_of q.queue (Some (joined_record q)), [])
  was = λ k. (joined s view inv joins k, inv.0 k)

  abbrev pub joined_at : SeatView
  joined_at = (view_of q.queue (Some (joined_record q)), [])

  after : (v : QueueRecord) → s'.me ≡ (view_of v (Some (joined_record q)), []) → IsQueueSeat s' × (queue_seat_of s' ≡ record q { queue = v })
  after v me = let h = stepped_queue s' (view_of v (Some (joined_record q))) q.table (table ∙ ap (λ z. z.table) view) (refl, refl, refl) me in (h.0, h.1 ∙ (λ k. record { table = q.table; queue = v; joined = sym joins k }))

  pub looked : {size : Size} {n m : IrpId} → m ≡ n → Looks size m any_step s.me w s'.me → IsQueueSeat s' × (queue_seat_of s' ≡ record q { queue = after_look (present_in (queue_of q.queue) n) w (with_trace (queue_in s'.me.0).trace q.queue) }) × Looks size n any_step joined_at w s'.me
  looked {size} {n} {m} same looks = let x = subst (λ (z : IrpId × SeatView). Looks size z.0 any_step z.1 w s'.me) (λ k. (same k, was k)) looks in let h = after _ x.0 in (h.0, h.1, x)

  module _ {size : Size} {i j : IrpLife} (same : j ≡ i) where
    pub status_renewed : RenewsStatus size j any_step s.me w s'.me → IsQueueSeat s' × (queue_seat_of s' ≡ record q { queue = with_reusing (StatusRenewed i) q.queue }) × RenewsStatus size i any_step joined_at w s'.me
    status_renewed renews = let x = subst (λ (z : IrpLife × SeatView). RenewsStatus size z.0 any_step z.1 w s'.me) (λ k. (same k, was k)) renews in let h = after _ x.0 in (h.0, h.1, x)

    pub cancel_renewed : RenewsCancel size j any_step s.me w s'.me → IsQueueSeat s' × (queue_seat_of s' ≡ with_view (after_renewal i (with_trace (queue_in s'.me.0).trace q.queue) (joined_record q)) q) × RenewsCancel size i any_step joined_at w s'.me
    cancel_renewed renews =
        let x = subst (λ (z : IrpLife × SeatView). RenewsCancel size z.0 any_step z.1 w s'.me) (λ k. (same k, was k)) renews in
        let h = stepped_queue s' (after_renewal i (with_trace (queue_in s'.me.0).trace q.queue) (joined_record q)) q.table (table ∙ ap (λ z. z.table) view) (refl, refl, refl) x.0 in (h.0, h.1, x)
