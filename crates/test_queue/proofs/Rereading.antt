-- Two reads, one after the other.
use Rattle.std.proofs.Common.{◌≡◌, ℕ, Bool, true, false, Some, None, Ok, Err, Option, Result, subst, refl, sym, ap, ◌∙◌, arith, eqb-true, eq-eqb}
use Rattle.std.specs.Prelude.{is_some, IfOk, IfErr}
use Rattle.irp_core.specs.Steps.{life_of}
use Rattle.irp_core.specs.declared.ids.IrpLife.{IrpLife}
use Rattle.irp_core.specs.Completion.{removed}
use Rattle.irp_core.specs.Words.{bit, flagged}
use Rattle.irp_core.specs.Lives.{present}
use Rattle.irp_core.specs.Runs.{Size}
use Rattle.irp_core.specs.declared.ids.IrpId.{IrpId}
use Rattle.irp_core.specs.declared.ids.Life.{Life}
use Rattle.irp_core.specs.declared.status.NtStatus.{NtStatus}
use Rattle.csq_words.proofs.Traced.{steps_extended}
use Rattle.csq_words.specs.Traces.{steps_in}
use Rattle.csq_words.specs.declared.views.PassRecord.{PassRecord}
use Rattle.csq_words.specs.Plays.{IsFlagOf, IsStatusOf, flag_read, status_read}
use Rattle.csq_words.specs.Rule.{is_done, SaysStatus, stands_for}
use Rattle.csq_words.specs.Words.{life_in, bit_in, status_life_in, status_in}
use Rattle.csq_words.proofs.Decoding.{life_in-put, bit_in-put, status_life_in-unset}
use Rattle.csq_words.proofs.Facts.{off, bit_bound, bit_true, done_stays}
use Rattle.csq_words.proofs.Named.{irp_eq}
use Rattle.csq_words.specs.Queue.{Limits, present_in}
use Rattle.csq_words.specs.History.{IsExtendedBy, end_of}
use Rattle.csq_queue.specs.Effects.{SeesRun}
use Rattle.csq_queue.specs.Named.{named, queue_size}
use Rattle.csq_queue.specs.Refusals.{IsReuseRefusal}
use Rattle.csq_queue.specs.declared.refusals.UnknownIrp.{UnknownIrp}
use Rattle.csq_queue.specs.declared.refusals.ReuseRefused.{ReuseRefused}
use Rattle.test_queue.specs.Conclusions.{IsLater, StaysSet}
use Rattle.test_queue.proofs.Flagging.{flag_stays}
use Rattle.test_queue.proofs.Completing.{read_done, reuse_later}

-- a Cancel flag that is set stays set in its life
pub flags_stay : (size : Size) (n : IrpId) (old mid new : PassRecord) (v w : ℕ) → IsFlagOf size n old mid v → IsFlagOf size n mid new w → StaysSet (flag_read v) (flag_read w)
flags_stay size n old mid new v w h g same set =
    let i = present size.first (steps_in mid.trace) n in
    let j = present size.first (steps_in new.trace) n in
    let life : life_in v ≡ life_of i = ap life_in h.flag_is ∙ life_in-put (life_of i) _ (bit_bound (flagged (steps_in mid.trace) i)) in
    let life' : life_in w ≡ life_of j = ap life_in g.flag_is ∙ life_in-put (life_of j) _ (bit_bound (flagged (steps_in new.trace) j)) in
    let is : i ≡ j = irp_eq i j refl (sym life ∙ (ap (λ (l : Life). l.0) same ∙ life')) in
    let one : bit (flagged (steps_in mid.trace) i) ≡ 1 = sym (ap bit_in h.flag_is ∙ bit_in-put (life_of i) _ (bit_bound (flagged (steps_in mid.trace) i))) ∙ eqb-true (bit_in v) 1 set in
    let on : flagged (steps_in new.trace) j ≡ true = ap (flagged (steps_in new.trace)) (sym is) ∙ flag_stays i (steps_in mid.trace) (steps_in new.trace) (steps_extended g.sees.follows) (bit_true (flagged (steps_in mid.trace) i) 1 (sym one) (omega arith)) in
    eq-eqb (bit_in w) 1 (ap bit_in g.flag_is ∙ (bit_in-put (life_of j) _ (bit_bound (flagged (steps_in new.trace) j)) ∙ ap bit on))

-- a status that is set stays set in its life
pub statuses_stay : (size : Size) (n : IrpId) (old mid new : PassRecord) (v w : ℕ) → IsStatusOf size n old mid v → IsStatusOf size n mid new w
    → StaysSet ((status_read v).0, is_some (status_read v).1) ((status_read w).0, is_some (status_read w).1)
statuses_stay size n old mid new v w h g same set = some (status_in v) refl set
  where
    later : IrpLife
    later = stands_for g.renewed (present size.first (steps_in new.trace) n)

    named : (b : Bool) → (stands_for b (present size.first (steps_in new.trace) n)).irp ≡ n
    named true = refl
    named false = refl

    says : (life : ℕ) (d b : Bool) → SaysStatus w life d b → status_life_in w ≡ life
    says life false b e = ap status_life_in e ∙ status_life_in-unset life
    says life true b e = e.0

    told : (life : ℕ) (d b : Bool) → SaysStatus w life d b → d ≡ true → is_some (status_in w) ≡ true
    told life false b e t = off t
    told life true b e t = ap is_some e.1.1

    some : (o : Option NtStatus) → status_in v ≡ o → is_some (status_in v) ≡ true → is_some (status_in w) ≡ true
    some None e t = off (sym (ap is_some e) ∙ t)
    some (Some status) e t =
        let (i, irp, life, done) = read_done size n old mid v status h e in
        let now : is_done (steps_in new.trace) i ≡ true = done_stays i (steps_in mid.trace) (steps_in new.trace) (steps_extended g.sees.follows) done in
        let lives : life_of i ≡ life_of later = life ∙ (ap (λ (l : Life). l.0) same ∙ says (life_of later) (is_done (steps_in new.trace) later) (removed (steps_in new.trace) later) g.status_is) in
        let is : i ≡ later = irp_eq i later (irp ∙ sym (named g.renewed)) lives in
        told (life_of later) (is_done (steps_in new.trace) later) (removed (steps_in new.trace) later) g.status_is (ap (is_done (steps_in new.trace)) (sym is) ∙ now)

-- so of what two reads return
pub flags_read : (size : Size) (n : IrpId) (old mid new : PassRecord) (a b : Result (Life × Bool) UnknownIrp) → IfOk a (λ read. (w : ℕ) × (read ≡ flag_read w) × IsFlagOf size n old mid w)
    → IfOk b (λ read. (w : ℕ) × (read ≡ flag_read w) × IsFlagOf size n mid new w) → IfOk a (λ earlier. IfOk b (λ later. StaysSet earlier later))
flags_read size n old mid new (Ok x) (Ok y) h g = λ same set.
    ap (λ (r : Life × Bool). r.1) g.1
    ∙ flags_stay size n old mid new h.0 g.0 h.2 g.2 (sym (ap (λ (r : Life × Bool). r.0) h.1) ∙ (same ∙ ap (λ (r : Life × Bool). r.0) g.1)) (sym (ap (λ (r : Life × Bool). r.1) h.1) ∙ set)
flags_read size n old mid new (Ok x) (Err y) h g = tt
flags_read size n old mid new (Err x) b h g = tt

pub statuses_read : (size : Size) (n : IrpId) (old mid new : PassRecord) (a b : Result (Life × Option NtStatus) UnknownIrp) → IfOk a (λ read. (w : ℕ) × (read ≡ status_read w) × IsStatusOf size n old mid w)
    → IfOk b (λ read. (w : ℕ) × (read ≡ status_read w) × IsStatusOf size n mid new w) → IfOk a (λ earlier. IfOk b (λ later. StaysSet (earlier.0, is_some earlier.1) (later.0, is_some later.1)))
statuses_read size n old mid new (Ok x) (Ok y) h g = λ same set.
    ap (λ (r : Life × Option NtStatus). is_some r.1) g.1
    ∙ statuses_stay size n old mid new h.0 g.0 h.2 g.2 (sym (ap (λ (r : Life × Option NtStatus). r.0) h.1) ∙ (same ∙ ap (λ (r : Life × Option NtStatus). r.0) g.1)) (sym (ap (λ (r : Life × Option NtStatus). is_some r.1) h.1) ∙ set)
statuses_read size n old mid new (Ok x) (Err y) h g = tt
statuses_read size n old mid new (Err x) b h g = tt

-- a status that was read as set is of a life that a reuse finds completed, or is later than
pub read_later : (limits : Limits) (n : IrpId) (old mid new : PassRecord) (read : Result (Life × Option NtStatus) UnknownIrp) (reuse : Result Life ReuseRefused) (life : Life) (status : NtStatus)
    → read ≡ Ok (life, Some status) → IfOk read (λ found. (w : ℕ) × (found ≡ status_read w) × IsStatusOf (queue_size limits) n old mid w)
    → IsExtendedBy mid.trace new.trace → SeesRun (queue_size limits) new → IfErr reuse (IsReuseRefusal (present_in (end_of limits.first new.seen) n) mid new) → IsLater limits.first (named n life) new reuse
read_later limits n old mid new read reuse life status is found follows sees refused =
    let (w, told, h) = subst (λ (r : Result (Life × Option NtStatus) UnknownIrp). IfOk r (λ x. (w : ℕ) × (x ≡ status_read w) × IsStatusOf (queue_size limits) n old mid w)) is found in
    let (i, irp, lives, done) = read_done (queue_size limits) n old mid w status h (sym (ap (λ (r : Life × Option NtStatus). r.1) told)) in
    let same : i ≡ named n life = irp_eq i (named n life) irp (lives ∙ sym (ap (λ (r : Life × Option NtStatus). r.0.0) told)) in
    reuse_later (queue_size limits) (named n life) mid new reuse (ap (is_done (steps_in mid.trace)) (sym same) ∙ done) follows sees refused
