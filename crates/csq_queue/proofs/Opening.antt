-- A queue and its passes, seen by their own words, and by those that a call is handed.
use Rattle.std.proofs.Common.{◌≡◌, ℕ, Bool, List, length, Option, Some, IfSome, sym, ap, ◌∙◌, subst}
use Rattle.csq_words.specs.Records.{entered as entering}
use Rattle.csq_queue.proofs.Imports.{QueueRecord, CallAgrees, TableId, Size, Listing, Limits, limits_of, PassRecord, with_trace, caught_up, WordsState, QueueSeatState, PassSeatState, joined_record, pass_record, IrpLife, inside_of, Nothing, IrpNumbers, queue_size, IsLockedOf, IsPassSeatOf, Event, SomeRunAgrees, AddsEvents, IsNew, Adds, OpenState, OpenPassState, seat_table, limits_on, IsQueueOn, IsPassOn}
use Rattle.csq_queue.proofs.Leaving.{left_adds}

-- what a contract sees of a queue's parts
abbrev pub seen_of : Listing → QueueSeatState → List Bool → OpenState
seen_of s seat flags = record { table = seat.table; limits = limits_of (length flags) seat.queue.first s; queue = seat.queue }

-- a queue's parts, seen by its own words
abbrev pub IsOpen : Listing → IrpNumbers → QueueSeatState → List Bool → Type 0
IsOpen s kept seat flags = IsLockedOf seat.table (limits_of (length flags) seat.queue.first s) s kept seat flags

-- the same, by the words that a call is handed
abbrev pub IsOpenOn : WordsState → Listing → Listing → IrpNumbers → QueueSeatState → List Bool → Type 0
IsOpenOn w first s kept seat flags = IsLockedOf w.table (limits_on w first) s kept seat flags

module _ (w : WordsState) (s : Listing) (seat : QueueSeatState) (flags : List Bool) (q : OpenState) (is : seen_of s seat flags ≡ q) (on : IsQueueOn w q) where
  size_is : queue_size (limits_of (length flags) seat.queue.first s) ≡ w.size
  size_is = ap (λ (z : OpenState). queue_size z.limits) is ∙ on.size

  limits_at : limits_of (length flags) seat.queue.first s ≡ limits_on w s
  limits_at = ap (λ (z : Size). limits_on (record { table = w.table; size = z }) s) size_is

  -- the limits of its own words are those of the words that a call is handed
  pub limits_are : limits_on w s ≡ q.limits
  limits_are = sym limits_at ∙ ap (λ (z : OpenState). z.limits) is

  pub table_is : seat.table ≡ w.table
  table_is = ap (λ (z : OpenState). z.table) is ∙ on.table

  pub on_words : (kept : IrpNumbers) → IsOpen s kept seat flags → IsOpenOn w s s kept seat flags
  on_words kept h = subst (λ (z : TableId × Limits). IsLockedOf z.0 z.1 s kept seat flags) (λ k. (table_is k, limits_at k)) h

  -- what a call gave out is new to the pass, by the limits of its own words
  pub own_new : (given : Option IrpLife) (r : PassRecord) (entered : QueueSeatState) → joined_record entered ≡ r → IfSome given (IsNew (limits_on w s) (joined_record entered)) → IfSome given (IsNew q.limits r)
  own_new given r entered r_is h = subst (λ (z : Limits × PassRecord). IfSome given (IsNew z.0 z.1)) (λ k. (limits_are k, r_is k)) h

  -- and the events of a call, as its pass sees them once it has left
  pub own_adds : (r new : PassRecord) (entered seat' : QueueSeatState) → entered ≡ record seat { queue = entering seat.queue; joined = Some r } → SomeRunAgrees w.size entered.queue r → new ≡ caught_up (with_trace new.trace seat'.queue) (joined_record seat')
      → CallAgrees w.size (with_trace new.trace seat'.queue) (joined_record seat')
      → inside_of (joined_record seat').steps ≡ Nothing → (events : List Event) (s' : Listing) (kept : IrpNumbers) → Adds (limits_on w s) entered events s' kept seat' → AddsEvents q.limits q.queue.history r new events
  own_adds r new entered seat' e agreed new_is look outside events s' kept a =
      subst (λ (l : Limits). AddsEvents l q.queue.history r new events) limits_are
      (left_adds (limits_on w s) (entering q.queue) r entered seat' (ap (λ (z : QueueSeatState). z.queue) e ∙ ap (λ (z : OpenState). entering z.queue) is) (ap joined_record e) events s' kept a
      (sym (ap (λ (z : OpenState). z.queue.first) is) ∙ ap (λ (l : Limits). l.first) limits_at) (subst (λ (z : QueueRecord). SomeRunAgrees w.size z r) (ap (λ (z : QueueSeatState). z.queue) e ∙ ap (λ (z : OpenState). entering z.queue) is) agreed) new new_is look (ap (λ (z : QueueSeatState). z.queue.found) e ∙ ap (λ (z : OpenState). z.queue.history) is) outside)

module _ (t : TableId) (l : Limits) (s : Listing) (kept : IrpNumbers) (seat : QueueSeatState) (flags : List Bool) (h : IsLockedOf t l s kept seat flags) where
  own_limits : limits_of (length flags) seat.queue.first s ≡ l
  own_limits = λ k. limits_of (h.flags_are.one_each k) (h.first_is k) (h.list_is.listing_is k)

  -- what a contract sees of the parts of a queue of this table and these limits
  pub seen_at : seen_of s seat flags ≡ record { table = t; limits = l; queue = seat.queue }
  seen_at = λ k. record { table = h.here k; limits = own_limits k; queue = seat.queue }

  -- its parts, seen by its own words
  pub own_words : IsOpen s kept seat flags
  own_words = subst (λ (z : TableId × Limits). IsLockedOf z.0 z.1 s kept seat flags) (λ k. (sym h.here k, sym own_limits k)) h

module _ (seat : Option PassSeatState) (irps passes number tokens claims : ℕ) where
  -- a pass, by the words that a call is handed
  pub pass_on : (w : WordsState) (p : OpenPassState) → record { table = seat_table seat; irps = irps; passes = passes; pass = pass_record seat } ≡ p → IsPassOn w p
      → IsPassSeatOf (seat_table seat) irps passes seat number tokens claims → IsPassSeatOf w.table w.size.irps w.size.passes seat number tokens claims
  pass_on w p is on h =
      subst (λ (z : TableId × ℕ × ℕ). IsPassSeatOf z.0 z.1 z.2 seat number tokens claims)
      (λ k. ((ap (λ (z : OpenPassState). z.table) is ∙ on.table) k, (ap (λ (z : OpenPassState). z.irps) is ∙ on.irps) k, (ap (λ (z : OpenPassState). z.passes) is ∙ on.passes) k)) h

  -- and by its own words
  pub own_pass : (w : WordsState) (p : OpenPassState) → (irps ≡ p.irps) × (passes ≡ p.passes) → IsPassOn w p
      → IsPassSeatOf w.table w.size.irps w.size.passes seat number tokens claims → IsPassSeatOf (seat_table seat) irps passes seat number tokens claims
  own_pass w p is on h =
      subst (λ (z : TableId × ℕ × ℕ). IsPassSeatOf z.0 z.1 z.2 seat number tokens claims)
      (λ k. (sym (ap seat_table h.here) k, sym (is.0 ∙ on.irps) k, sym (is.1 ∙ on.passes) k)) h
