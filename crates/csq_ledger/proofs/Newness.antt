-- A new queue with its one pass.
use Rattle.std.proofs.Common.{◌≡◌, ℕ, zero, suc, ◌<◌, ◌≤◌, ◌+◌, ◌-◌, map, ◌⊎◌, inl, inr, true, false, true≢false, List, [], ◌∷◌, replicate, None, refl, sym, ap, ◌∙◌, subst, arith, slice_index_or}
use Rattle.std.proofs.lemmas.List.{get_or-replicate, length-replicate}
use Rattle.csq_ledger.proofs.Imports.{PassRecord, IsSingle, IsWholeRun, Single, spot, run_none, queue_size, pass_numbered, Limits, HistoryEntry, Made}
use Rattle.request_table.specs.declared.stage.Stage.{Stage, TheVariants.{Free, Spent}}
use Rattle.request_table.specs.Requests.{IsTableSize, fresh}
use Rattle.csq_list.specs.Listing.{IsLargeListSize}
use Rattle.csq_list.specs.declared.size.TheConstants.{LARGE_MAX_FILES}
use Rattle.csq_words.specs.Records.{new_pass}
use Rattle.csq_queue.specs.Opens.{IsQueueOn, OpenPassState, OpenState}
use Rattle.csq_checked.specs.Passes.{CheckedPassState, CheckedState, HandsOutAgain, HandsOutNew, IsPassIn}
use Rattle.csq_checked.specs.Sizes.{limits_given, new_checked}
use Rattle.csq_checked.specs.declared.size.QueueSize.{QueueSize}
use Rattle.csq_ledger.specs.Fresh.{IsFreshSingle, IsNewOfOne, with_one_pass}
use Rattle.csq_ledger.specs.Ledgers.{IsLinked, IsSpotOf}
use Rattle.csq_ledger.specs.Singles.{queue_in, spot_of}
use Rattle.std.specs.Option.{is_some}
use Rattle.csq_checked.specs.Slots.{slot_at}
use Rattle.csq_queue.specs.Looks.{present_queue}
use Rattle.csq_words.specs.History.{end_of}
use Rattle.csq_words.specs.Queue.{QueueState, empty_queue, has_file, plain}

-- no step and no event make a whole run
nothing_whole : (l : Limits) → IsWholeRun l [] []
nothing_whole l = record {
  is_run = run_none (queue_size l);
  outside = refl;
  owes_none = λ i. refl;
  legal = tt;
  true_of = tt;
  listed_is = λ i. refl;
  used_is = λ i. refl;
  lives_are = λ n. omega arith;
}

-- an idle pass isn't there
none_there : (n : ℕ) → is_some {T = OpenPassState} (slot_at (None ∷ []) n) ≡ true → ⊥
none_there zero e = true≢false (sym e)
none_there (suc n) e = true≢false (sym e)

module _ (size : QueueSize) (q : CheckedState) (new : IsNewOfOne size q) (q' : CheckedState) (p : CheckedPassState) (on : IsPassIn q.queue p) (same : q'.queue ≡ q.queue) (out : HandsOutNew q q' p.pass ⊎ HandsOutAgain q q' p.pass) where
  history_none : q.queue.queue.history ≡ []
  history_none = ap (λ (x : CheckedState). x.queue.queue.history) new.new

  left_one : q.left ≡ 1
  left_one = ap (λ (x : CheckedState). x.left) new.new

  -- the pass has done nothing
  pass_is : p.pass ≡ new_pass (pass_numbered 1)
  pass_is = go out
    where
      one : (passes left : ℕ) → passes ≡ 1 → left ≡ 1 → passes + 1 - left ≡ 1
      one passes left e f = omega arith

      go : HandsOutNew q q' p.pass ⊎ HandsOutAgain q q' p.pass → p.pass ≡ new_pass (pass_numbered 1)
      go (inl hands) = hands.new ∙ ap (λ (n : ℕ). new_pass (pass_numbered n)) (one q.queue.limits.passes q.left new.passes left_one)
      go (inr hands) =
          let idle : q.idle ≡ None ∷ [] = ap (λ (x : CheckedState). x.idle) new.new in
          absurd (none_there hands.slot (subst (λ xs. is_some (slot_at xs hands.slot) ≡ true) idle hands.first.there))

  pub new_single : IsSingle q' p
  new_single = record {
    on = subst (λ (o : OpenState). IsQueueOn p.words o) (sym same) on;
    one = ap (λ (o : OpenState). o.limits.passes) same ∙ new.passes;
    number = ap (λ (r : PassRecord). r.pass) pass_is;
    seen = ap (λ (r : PassRecord). r.seen) pass_is ∙ sym (ap (λ (o : OpenState). o.queue.history) same ∙ history_none);
    run = subst (λ (h : List HistoryEntry). IsWholeRun q'.queue.limits h p.pass.steps) (sym (ap (λ (o : OpenState). o.queue.history) same ∙ history_none))
        (subst (λ (s : List Made). IsWholeRun q'.queue.limits [] s) (sym (ap (λ (r : PassRecord). r.steps) pass_is)) (nothing_whole q'.queue.limits));
  }

  pub new_fresh : IsFreshSingle q.queue.limits (record { queue = q'; pass = p })
  new_fresh =
      let limits : q'.queue.limits ≡ q.queue.limits = ap (λ (o : OpenState). o.limits) same in
      let empty : queue_in (record { queue = q'; pass = p }) ≡ empty_queue q.queue.limits.first = ap (λ (o : OpenState). present_queue o) same ∙ ap (λ (h : List HistoryEntry). end_of q.queue.limits.first h) history_none in record {
        limits_are = limits;
        home = λ n. ap (λ (u : QueueState). spot_of u p.pass.steps n) empty ∙ ap (λ (s : List Made). spot_of (empty_queue q.queue.limits.first) s n) (ap (λ (r : PassRecord). r.steps) pass_is);
        open_files = λ f. ap (λ (u : QueueState). has_file u.closed f) empty;
        empty = ap (λ (u : QueueState). map plain u.entries) empty;
      }

-- a default is read anywhere
always : (n i : ℕ) → slice_index_or (replicate n false) i false ≡ false
always zero i = refl
always (suc n) zero = refl
always (suc n) (suc i) = always n i

pub fresh_linked : (size : QueueSize) (q : CheckedState) → IsNewOfOne size q → (s : Single) → IsFreshSingle q.queue.limits s → IsLinked s (fresh size.irps size.files)
fresh_linked size q new s is = record {
  spots = λ n inside. subst (λ (x : Stage). IsSpotOf x (spot s n)) (sym (get_or-replicate size.irps n.0 Free Spent (subst (λ (k : ℕ). n.0 < k) (length-replicate size.irps Free) inside)))
      (subst (IsSpotOf Free) (sym (is.home n)) (record { listed = refl; held = refl; home = λ _. (refl, refl); file = λ f e. absurd cc; named = tt }));
  irps = length-replicate size.irps Free ∙ (sym new.irps ∙ ap (λ l. l.irps) (sym is.limits_are));
  files = length-replicate size.files false ∙ (sym new.files ∙ ap (λ l. l.files) (sym is.limits_are));
  closed = λ f. always size.files f.0 ∙ sym (is.open_files f);
}

-- what a queue of one pass is made as
pub new_of_one : (size : QueueSize) (file_limits : List ℕ) (q : CheckedState) → q ≡ new_checked (with_one_pass size) (limits_given (with_one_pass size) file_limits) q.queue.table → IsNewOfOne size q
new_of_one size file_limits q e =
    let limits : q.queue.limits ≡ limits_given (with_one_pass size) file_limits = ap (λ (x : CheckedState). x.queue.limits) e in record {
      new = e ∙ ap (λ (l : Limits). new_checked (with_one_pass size) l q.queue.table) (sym limits);
      irps = ap (λ (l : Limits). l.irps) limits;
      files = ap (λ (l : Limits). l.files) limits;
      passes = ap (λ (l : Limits). l.passes) limits;
      first = ap (λ (l : Limits). l.first) limits;
    }

-- a table may be as large as a list
pub table_size : (irps files limit : ℕ) → IsLargeListSize irps files limit → IsTableSize irps files
table_size irps files limit size =
    let few : files ≤ LARGE_MAX_FILES = size.files_in_range.1 in
    record { irps_in_range = size.irps_in_range; files_in_range = (size.files_in_range.0, omega arith) }
