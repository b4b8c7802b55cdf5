-- What is so of each IRP, from one record of the queue and of its pass to the next.
use Rattle.std.proofs.Common.{◌≡◌, ◌≢◌, ℕ, false, List, map, refl, sym, ap, ◌∙◌, subst}
use Rattle.csq_ledger.proofs.Imports.{AddsEvents, end_of, QueueState, has_entry, has_irp, present_in, HistoryEntry, Event, flagged, holds_in, removed_in, owes_in, number, same_irp, same_irp-eq, FileId, IrpId, IrpLife, Made, false_from_ne_true, IsSameIn, IsSingle, Leaves, Single, Spot, spot_of}
use Rattle.csq_words.specs.Queue.{has_file, plain}
use Rattle.csq_queue.specs.Opens.{IsQueueOn, after_call}
use Rattle.csq_words.specs.Seats.{WordsState}
use Rattle.csq_checked.specs.Calls.{IsAfter}
use Rattle.csq_checked.specs.Passes.{CheckedPassState, CheckedState, IsPassIn}
use Rattle.csq_ledger.specs.Singles.{limits_of, list_of, queue_in}
use Rattle.csq_ledger.proofs.Whole.{Sole, still_whole}

-- spots whose fields are the same
pub spot_eq : (a b : Spot) → a.is_listed ≡ b.is_listed → a.is_held ≡ b.is_held → a.is_removed ≡ b.is_removed → a.is_used ≡ b.is_used → a.is_flagged ≡ b.is_flagged → a.life ≡ b.life → a.file ≡ b.file → a ≡ b
spot_eq a b listed held removed used flag life file = λ k. record { is_listed = listed k; is_held = held k; is_removed = removed k; is_used = used k; is_flagged = flag k; life = life k; file = file k }

-- names of two IRPs differ
pub unlike : (i j : IrpLife) → number j ≢ number i → same_irp i j ≡ false
unlike i j ne = false_from_ne_true (same_irp i j) (λ s. ne (ap number (sym (same_irp-eq i j s))))

-- of the IRPs of these numbers all is as it was
pub record IsSameFor (Of : ℕ → Type 0) (u : QueueState) (E : List Made) (u' : QueueState) (E' : List Made) : Type 0 where
  pub entries : (j : IrpLife) → Of (number j) → has_entry u'.entries j ≡ has_entry u.entries j
  pub held : (j : IrpLife) → Of (number j) → holds_in E' j ≡ holds_in E j
  pub removed : (j : IrpLife) → Of (number j) → removed_in E' j ≡ removed_in E j
  pub used : (j : IrpLife) → Of (number j) → has_irp u'.used j ≡ has_irp u.used j
  pub flags : (j : IrpLife) → Of (number j) → flagged E' j ≡ flagged E j
  pub lives : (m : IrpId) → Of m.0 → u'.lives m ≡ u.lives m
  pub files : (m : IrpId) → Of m.0 → u'.file_of m ≡ u.file_of m

pub same_spot : {Of : ℕ → Type 0} {u : QueueState} {E : List Made} {u' : QueueState} {E' : List Made} → IsSameFor Of u E u' E' → (m : IrpId) → Of m.0 → spot_of u' E' m ≡ spot_of u E m
same_spot {Of} {u} {E} {u'} {E'} same m of_it =
    let now : present_in u' m ≡ present_in u m = λ k. record { irp = m; life = record { 0 = same.lives m of_it k } } in
    spot_eq (spot_of u' E' m) (spot_of u E m)
    (ap (has_entry u'.entries) now ∙ same.entries (present_in u m) of_it)
    (ap (holds_in E') now ∙ same.held (present_in u m) of_it)
    (ap (removed_in E') now ∙ same.removed (present_in u m) of_it)
    (ap (has_irp u'.used) now ∙ same.used (present_in u m) of_it)
    (ap (flagged E') now ∙ same.flags (present_in u m) of_it)
    (same.lives m of_it) (same.files m of_it)

-- after a call of the queue that added these events, by the one pass
module _ (q : CheckedState) (p : CheckedPassState) (q' : CheckedState) (p' : CheckedPassState) (after : IsAfter q p q' p') where
  pub queue_after : (u' : QueueState) → end_of q.queue.limits.first p'.pass.seen ≡ u' → queue_in (record { queue = q'; pass = p' }) ≡ u'
  queue_after u' e = ap (λ (x : CheckedState). queue_in (record { queue = x; pass = p' })) after.seen ∙ e

  pub limits_after : q'.queue.limits ≡ q.queue.limits
  limits_after = ap (λ (x : CheckedState). x.queue.limits) after.seen

  pub single_after : IsPassIn q.queue p → q.queue.limits.passes ≡ 1 → p.pass.pass ≡ Sole → (events : List Event) → AddsEvents q.queue.limits q.queue.queue.history p.pass p'.pass events → ((i : IrpLife) → owes_in p'.pass.steps i ≡ false) → IsSingle q' p'
  single_after on one number events adds owes_none = subst (λ (x : CheckedState). IsSingle x p') (sym after.seen) (record {
    on = subst (λ (words : WordsState). IsQueueOn words (after_call p'.pass q.queue)) (sym after.words) (record { table = on.table; size = on.size });
    one = one;
    number = adds.pass ∙ number;
    seen = refl;
    run = still_whole q.queue.limits one q.queue.queue.history p.pass p'.pass number events adds owes_none;
  })

module _ (q : CheckedState) (p : CheckedPassState) (q' : CheckedState) (p' : CheckedPassState) (single : IsSingle q p) where
  abbrev pub Old : Single
  Old = record { queue = q; pass = p }

  abbrev pub New : Single
  New = record { queue = q'; pass = p' }

  abbrev pub history : List HistoryEntry
  history = q.queue.queue.history

  module _ (after : IsAfter q p q' p') where
    pub queue_now : (u' : QueueState) → end_of q.queue.limits.first p'.pass.seen ≡ u' → queue_in New ≡ u'
    queue_now = queue_after q p q' p' after

    pub limits_now : limits_of New ≡ limits_of Old
    limits_now = limits_after q p q' p' after

    pub single_now : (events : List Event) → AddsEvents q.queue.limits history p.pass p'.pass events → ((i : IrpLife) → owes_in p'.pass.steps i ≡ false) → IsSingle q' p'
    single_now = single_after q p q' p' after single.on single.one single.number

  -- what is so of the others, and of all
  module _ (limits : limits_of New ≡ limits_of Old) (u' : QueueState) (now : queue_in New ≡ u') (closed : (f : FileId) → has_file u'.closed f ≡ has_file (queue_in Old).closed f) where
    pub leaves : (n : IrpId) → IsSameFor (λ m. m ≢ n.0) (queue_in Old) p.pass.steps u' p'.pass.steps → Leaves n Old New
    leaves n same = record {
      others = λ m ne. ap (λ (u : QueueState). spot_of u p'.pass.steps m) now ∙ same_spot same m ne;
      closed = λ f. ap (λ (u : QueueState). has_file u.closed f) now ∙ closed f;
      limits = limits;
    }

    pub all_same : IsSameFor (λ m. Unit {0}) (queue_in Old) p.pass.steps u' p'.pass.steps → map plain u'.entries ≡ list_of Old → IsSameIn Old New
    all_same same list = record {
      spots = λ m. ap (λ (u : QueueState). spot_of u p'.pass.steps m) now ∙ same_spot same m tt;
      closed = λ f. ap (λ (u : QueueState). has_file u.closed f) now ∙ closed f;
      limits = limits;
      list = list_now list;
    }
      where
        list_now : map plain u'.entries ≡ list_of Old → list_of New ≡ list_of Old
        list_now e = ap (λ (u : QueueState). map plain u.entries) now ∙ e
