use Rattle.std.proofs.Common.{◌≡◌, ℕ, [], ◌∷◌, None, Some, Ok, inl, inr, refl, sym, ap, ◌∙◌, subst, rules}
use Rattle.csq_queue.proofs.Imports.{FileId, Size, Limits, after_step, with_trace, with_view, Listing, is_listed, listed-put, FlagSeen, Mark, PutBack, Pending, Cancelled, Refused, back_refusal, end_of, queue_of, SomeRunAgrees, QueueSeatState, joined_record, bit_in, queue_size, limits_on, Adds, MakesSteps, put_back_steps, Rearm, Test, Disarm}
use Rattle.csq_words.specs.declared.calls.Call.TheVariants.{PutBack as PutBackCall}
use Rattle.csq_queue.specs.declared.tokens.InsertAnswer.TheVariants as answer
use Rattle.csq_queue.proofs.Inserting.{was_clear}
use Rattle.csq_queue.proofs.PuttingBack.{was_used, was_unlisted, file_is, rearmed_is, tested_is, disarmed_is, may_test, may_disarm, back_refused, back_pending, back_missed, back_cancelled, first_left}
use Rattle.csq_queue.proofs.Searching.{with_made}
use Rattle.csq_queue.proofs.protocol.relist_irp.Given.{Over}
use Rattle.csq_queue.proofs.protocol.relist_irp.Goals as goal
use Rattle.csq_queue.proofs.protocol.relist_irp.Goals.{After-test, After-disarm}

-- what agrees with a seat agrees with one that is the same
agree : (size : Size) {z z' : QueueSeatState} → z ≡ z' → SomeRunAgrees size z.queue (joined_record z) → SomeRunAgrees size z'.queue (joined_record z')
agree size e agreed = subst (λ (w : QueueSeatState). SomeRunAgrees size w.queue (joined_record w)) e agreed

pub put_back_ex-requires-clause-used : goal.put_back_ex-requires-clause-used
put_back_ex-requires-clause-used g c = was_used c.requires.entered c.args.irp c.requires.held

pub put_back_ex-requires-clause-unlisted : goal.put_back_ex-requires-clause-unlisted
put_back_ex-requires-clause-unlisted g c = was_unlisted c.requires.entered c.args.irp c.requires.held

pub returns-in-Err-clause-cause : goal.returns-in-Err-clause-cause
returns-in-Err-clause-cause g c =
    let l = limits_on c.args.words.now (g.L.PendingList.listing c.args.list.now) in
    subst (λ (f : FileId). back_refusal l (queue_of c.args.seat.now.queue) c.args.irp f ≡ Some c.in-Err.cause) (file_is c.requires.entered c.args.irp c.requires.held c.file-file.result c.file-file.ensures) (search rules)

pub returns-in-Err-clause-refused : goal.returns-in-Err-clause-refused
returns-in-Err-clause-refused g c =
    let l = limits_on c.args.words.now (g.L.PendingList.listing c.args.list.now) in
    let f_is = file_is c.requires.entered c.args.irp c.requires.held c.file-file.result c.file-file.ensures in
    subst (λ (f : FileId). Adds l c.args.seat.now (PutBack c.args.irp f c.args.place (Refused c.in-Err.cause) ∷ []) (g.L.PendingList.listing c.put_back_ex.new.self) c.args.kept.now c.note.new.self) f_is
    (back_refused c.requires.entered c.args.irp c.requires.held c.file-file.result c.args.place c.in-Err.cause f_is (search rules) (g.L.PendingList.listing c.put_back_ex.new.self) (search rules) c.note.new.self c.note.ensures.noted (c.note.new.self.queue.trace, c.note.ensures.agreed.call.agreed))

-- the put-back has set the routine again, and tested the flag
module _ (g : Over) (c : After-test g) where
  abbrev old : QueueSeatState
  old = c.args.seat.now

  abbrev limits : Limits
  limits = limits_on c.args.words.now (g.L.PendingList.listing c.args.list.now)

  f_is : c.file-file.result ≡ (queue_of old.queue).file_of c.args.irp.irp
  f_is = file_is c.requires.entered c.args.irp c.requires.held c.file-file.result c.file-file.ensures

  accepted : back_refusal limits (queue_of old.queue) c.args.irp c.file-file.result ≡ None
  accepted = search rules

  abbrev set_again : QueueSeatState
  set_again = with_made (Rearm c.args.irp) 0 [] c.rearm.new.self.queue.trace old

  to_set : c.rearm.new.self ≡ set_again
  to_set = rearmed_is c.requires.entered c.args.irp c.requires.held c.file-file.result c.args.place (bit_in c.rearm.result) (was_clear c.args.irp.life.0 c.rearm.result c.rearm.ensures.found) c.rearm.new.self c.rearm.ensures.step

  agreed_set : SomeRunAgrees (queue_size limits) set_again.queue (joined_record set_again)
  agreed_set = agree (queue_size limits) to_set (c.rearm.new.self.queue.trace, c.rearm.ensures.agreed.call.agreed)

  abbrev tested : ℕ → QueueSeatState
  tested n = with_view (after_step (PutBackCall c.args.irp c.file-file.result c.args.place) (Test c.args.irp) n (with_trace c.test.new.self.queue.trace set_again.queue) (joined_record set_again)) set_again

  to_tested : (n : ℕ) → bit_in c.test.result ≡ n → c.test.new.self ≡ tested n
  to_tested n found = tested_is c.requires.entered c.args.irp c.requires.held c.file-file.result c.args.place (bit_in c.test.result) n found c.rearm.new.self.queue.trace c.rearm.new.self c.test.new.self to_set c.test.ensures.step

  agreed_tested : (n : ℕ) → bit_in c.test.result ≡ n → SomeRunAgrees (queue_size limits) (tested n).queue (joined_record (tested n))
  agreed_tested n found = agree (queue_size limits) (to_tested n found) (c.test.new.self.queue.trace, c.test.ensures.agreed.call.agreed)

  -- the flag was clear
  pending : bit_in c.test.result ≡ 0 → Adds limits old (PutBack c.args.irp c.file-file.result c.args.place Pending ∷ []) (g.L.PendingList.listing c.put_back_ex.new.self) c.args.kept.now c.test.new.self
      × MakesSteps (put_back_steps (Ok (answer.Pending c.args.irp)) (end_of limits.first c.test.new.self.queue.history)) (joined_record old) (joined_record c.test.new.self)
  pending clear =
      let back = back_pending c.requires.entered c.args.irp c.requires.held c.file-file.result f_is c.args.place accepted (g.L.PendingList.listing c.put_back_ex.new.self) (search rules) c.rearm.new.self.queue.trace agreed_set c.test.new.self.queue.trace (agreed_tested 0 clear) in
      subst (λ (w : QueueSeatState). Adds limits old (PutBack c.args.irp c.file-file.result c.args.place Pending ∷ []) (g.L.PendingList.listing c.put_back_ex.new.self) c.args.kept.now w × MakesSteps (put_back_steps (Ok (answer.Pending c.args.irp)) (end_of limits.first w.queue.history)) (joined_record old) (joined_record w))
      (sym (to_tested 0 clear)) (back.0, first_left c.requires.entered c.args.irp c.requires.held (answer.Pending c.args.irp) (tested 0) refl back.1)

pub is_set-requires-2 : goal.is_set-requires-2
is_set-requires-2 g c = search rules

-- the flag was set, and its exchange was made
module _ (g : Over) (c : After-disarm g) (seen : bit_in c.test.result ≡ 1) where
  abbrev test : After-test g
  test = (goal.at.is_set-requires-2 g c).After-test

  abbrev disarmed : ℕ → QueueSeatState
  disarmed n = with_view (after_step (PutBackCall c.args.irp c.file-file.result c.args.place) (Disarm c.args.irp) n (with_trace c.disarm.new.self.queue.trace (tested g test 1).queue) (joined_record (tested g test 1))) (tested g test 1)

  to_disarmed : (n : ℕ) → bit_in c.disarm.result ≡ n → c.disarm.new.self ≡ disarmed n
  to_disarmed n found = disarmed_is c.requires.entered c.args.irp c.requires.held c.file-file.result c.args.place (bit_in c.disarm.result) n found c.test.new.self (tested g test 1) c.disarm.new.self (to_tested g test 1 seen) c.disarm.ensures.step

  agreed_disarmed : (n : ℕ) → bit_in c.disarm.result ≡ n → SomeRunAgrees (queue_size (limits g test)) (disarmed n).queue (joined_record (disarmed n))
  agreed_disarmed n found = agree (queue_size (limits g test)) (to_disarmed n found) (c.disarm.new.self.queue.trace, c.disarm.ensures.agreed.call.agreed)

  -- its canceller has taken the routine
  missed : bit_in c.disarm.result ≡ 0 → Adds (limits g test) (old g test) (Mark c.args.irp ∷ PutBack c.args.irp c.file-file.result c.args.place Pending ∷ []) (g.L.PendingList.listing c.put_back_ex.new.self) c.args.kept.now c.disarm.new.self
      × MakesSteps (put_back_steps (Ok (answer.Pending c.args.irp)) (end_of (limits g test).first c.disarm.new.self.queue.history)) (joined_record (old g test)) (joined_record c.disarm.new.self)
  missed gone =
      let back = back_missed c.requires.entered c.args.irp c.requires.held c.file-file.result (f_is g test) c.args.place (accepted g test) (g.L.PendingList.listing c.put_back_ex.new.self) (search rules) c.rearm.new.self.queue.trace (agreed_set g test) c.test.new.self.queue.trace (agreed_tested g test 1 seen) c.disarm.new.self.queue.trace (agreed_disarmed 0 gone) in
      subst (λ (w : QueueSeatState). Adds (limits g test) (old g test) (Mark c.args.irp ∷ PutBack c.args.irp c.file-file.result c.args.place Pending ∷ []) (g.L.PendingList.listing c.put_back_ex.new.self) c.args.kept.now w
      × MakesSteps (put_back_steps (Ok (answer.Pending c.args.irp)) (end_of (limits g test).first w.queue.history)) (joined_record (old g test)) (joined_record w))
      (sym (to_disarmed 0 gone)) (back.0, first_left c.requires.entered c.args.irp c.requires.held (answer.Pending c.args.irp) (disarmed 0) refl back.1)

pub test-requires-clause-next : goal.test-requires-clause-next
test-requires-clause-next g c =
    let to_set = rearmed_is c.requires.entered c.args.irp c.requires.held c.file-file.result c.args.place (bit_in c.rearm.result) (was_clear c.args.irp.life.0 c.rearm.result c.rearm.ensures.found) c.rearm.new.self c.rearm.ensures.step in
    may_test c.requires.entered c.args.irp c.requires.held c.file-file.result c.args.place c.rearm.new.self.queue.trace c.rearm.new.self to_set

pub disarm-requires-clause-next : goal.disarm-requires-clause-next
disarm-requires-clause-next g c =
    let t = (goal.at.disarm-requires-clause-next g c).After-test in
    may_disarm c.requires.entered c.args.irp c.requires.held c.file-file.result c.args.place c.rearm.new.self.queue.trace c.test.new.self.queue.trace c.test.new.self (to_tested g t 1 (c.is_set.ensures.set c.if-not-is_set.false))

pub returns-then-not-is_set-clause-accepted : goal.returns-then-not-is_set-clause-accepted
returns-then-not-is_set-clause-accepted g c =
    let t = (goal.at.returns-then-not-is_set-clause-accepted g c).After-test in
    (PutBack c.args.irp c.file-file.result c.args.place Pending ∷ [], (refl, inl (ap (λ (n : FileId). PutBack c.args.irp n c.args.place Pending ∷ []) (f_is g t))), (pending g t (c.is_set.ensures.clear c.if-not-is_set.true)).0)

pub returns-then-not-is_set-clause-steps : goal.returns-then-not-is_set-clause-steps
returns-then-not-is_set-clause-steps g c = (pending g (goal.at.returns-then-not-is_set-clause-steps g c).After-test (c.is_set.ensures.clear c.if-not-is_set.true)).1

pub returns-then-not-is_set-2-clause-accepted : goal.returns-then-not-is_set-2-clause-accepted
returns-then-not-is_set-2-clause-accepted g c =
    let at = goal.at.returns-then-not-is_set-2-clause-accepted g c in
    let back = missed g at.After-disarm (c.is_set.ensures.set c.if-not-is_set.false) (c.is_set-2.ensures.clear c.if-not-is_set-2.true) in
    (Mark c.args.irp ∷ PutBack c.args.irp c.file-file.result c.args.place Pending ∷ [], (refl, inr (ap (λ (n : FileId). Mark c.args.irp ∷ PutBack c.args.irp n c.args.place Pending ∷ []) (f_is g at.After-test))), back.0)

pub returns-then-not-is_set-2-clause-steps : goal.returns-then-not-is_set-2-clause-steps
returns-then-not-is_set-2-clause-steps g c = (missed g (goal.at.returns-then-not-is_set-2-clause-steps g c).After-disarm (c.is_set.ensures.set c.if-not-is_set.false) (c.is_set-2.ensures.clear c.if-not-is_set-2.true)).1

pub returns-clause-accepted : goal.returns-clause-accepted
returns-clause-accepted g c =
    let t = (goal.at.returns-clause-accepted g c).After-test in
    let d = (goal.at.returns-clause-accepted g c).After-disarm in
    let seen = c.is_set.ensures.set c.if-not-is_set.false in
    let found = c.is_set-2.ensures.set c.if-not-is_set-2.false in
    let es = PutBack c.args.irp c.file-file.result c.args.place Cancelled ∷ FlagSeen c.args.irp ∷ [] in
    let back = back_cancelled c.requires.entered c.args.irp c.requires.held c.file-file.result (f_is g t) c.args.place (accepted g t) (g.L.PendingList.listing c.put_back_ex.new.self) (search rules) c.rearm.new.self.queue.trace (agreed_set g t) c.test.new.self.queue.trace (agreed_tested g t 1 seen) (g.L.PendingList.listing c.remove.new.self) c.remove.ensures c.disarm.new.self.queue.trace (agreed_disarmed g d seen 1 found) in
    (es, (refl, ap (λ (n : FileId). PutBack c.args.irp n c.args.place Cancelled ∷ FlagSeen c.args.irp ∷ []) (f_is g t)), subst (λ (w : QueueSeatState). Adds (limits g t) (old g t) es (g.L.PendingList.listing c.remove.new.self) c.args.kept.now w) (sym (to_disarmed g d seen 1 found)) back.0)

pub remove-requires : goal.remove-requires
remove-requires g c =
    ap (λ (s : Listing). is_listed s.entries c.args.irp.irp) c.in_default.ensures.ok
    ∙ listed-put c.args.place (record { irp = c.args.irp.irp; file = c.file-file.result }) (g.L.PendingList.listing c.args.list.now).entries
