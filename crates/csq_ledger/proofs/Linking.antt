-- The table says of each number what the queue has of it, after each call.
use Rattle.std.proofs.Common.{Ok, cond, ◌||◌, eq-eqb, ne_eqb, ◌≡◌, ℕ, ◌<◌, Bool, true, false, true≢false, List, length, Option, Some, None, refl, sym, ap, ◌∙◌, subst, slice_index_or, slice_set}
use Rattle.std.proofs.Math.ListN.{length-set}
use Rattle.std.proofs.lemmas.List.{get_or-set_same, get_or-set_other, set-get_or}
use Rattle.std.specs.Option.{is_some}
use Rattle.csq_ledger.proofs.Imports.{FileId, IrpId, IrpLife, Leaves, Single, Spot, spot, IsSameIn}
use Rattle.request_table.specs.declared.stage.{Why.{Why}, Stage.{Stage, TheVariants.{Free, Listed, Taken, Ending, Spent}}}
use Rattle.request_table.specs.Requests.{Requests, finished, stage_after, stage_of, with_due, with_stage}
use Rattle.request_table.specs.Stages.{as_named}
use Rattle.csq_queue.proofs.Counting.{by_number}
use Rattle.csq_ledger.specs.Ledgers.{file_in_list, IsLinked, IsSpotOf}
use Rattle.csq_ledger.specs.Singles.{is_closed}
use Rattle.csq_list.specs.declared.entry.Place.{Place}
use Rattle.csq_ledger.specs.Moves.{Closes, Ends, FindsCancelled, Flags, Relists, Takes, TakesOut}

-- of the stages of a table one was written
module _ (s : Single) (t : Requests) (linked : IsLinked s t) (s' : Single) (n : IrpId) (rest : Leaves n s s') (t' : Requests) (stage : Stage) where
  pub relinked : n.0 < length t.stages → t'.stages ≡ slice_set t.stages n.0 stage → t'.closed_files ≡ t.closed_files → IsSpotOf stage (spot s' n) → IsLinked s' t'
  relinked known stages closed here = record {
    spots = λ m inside. by_number (IsSpotOf (stage_of t' m) (spot s' m)) m.0 n.0
        (λ same. subst (λ (x : Stage). IsSpotOf x (spot s' m)) (sym (ap (λ (xs : List Stage). slice_index_or xs m.0 Spent) stages ∙ (ap (λ k. slice_index_or (slice_set t.stages n.0 stage) k Spent) same ∙ get_or-set_same t.stages n.0 stage Spent known)))
        (subst (λ (k : ℕ). IsSpotOf stage (spot s' (record { 0 = k }))) (sym same) here))
        (λ other. subst (λ (x : Stage). IsSpotOf x (spot s' m)) (sym (ap (λ (xs : List Stage). slice_index_or xs m.0 Spent) stages ∙ get_or-set_other t.stages n.0 m.0 stage Spent other))
        (subst (IsSpotOf (stage_of t m)) (sym (rest.others m other)) (linked.spots m (subst (λ (k : ℕ). m.0 < k) (ap length stages ∙ length-set t.stages n.0 stage) inside))));
    irps = ap length stages ∙ (length-set t.stages n.0 stage ∙ (linked.irps ∙ ap (λ l. l.irps) (sym rest.limits)));
    files = ap length closed ∙ (linked.files ∙ ap (λ l. l.files) (sym rest.limits));
    closed = λ f. ap (λ (xs : List Bool). slice_index_or xs f.0 false) closed ∙ (linked.closed f ∙ sym (rest.closed f));
  }

-- nothing is new of the queue, nor of the stages
pub still_linked : (s : Single) (t : Requests) → IsLinked s t → (s' : Single) → IsSameIn s s' → (t' : Requests) → t'.stages ≡ t.stages → t'.closed_files ≡ t.closed_files → IsLinked s' t'
still_linked s t linked s' same t' stages closed = record {
  spots = λ m inside. subst (λ (x : Stage). IsSpotOf x (spot s' m)) (sym (ap (λ (xs : List Stage). slice_index_or xs m.0 Spent) stages))
      (subst (IsSpotOf (stage_of t m)) (sym (same.spots m)) (linked.spots m (subst (λ (k : ℕ). m.0 < k) (ap length stages) inside)));
  irps = ap length stages ∙ (linked.irps ∙ ap (λ l. l.irps) (sym same.limits));
  files = ap length closed ∙ (linked.files ∙ ap (λ l. l.files) (sym same.limits));
  closed = λ f. ap (λ (xs : List Bool). slice_index_or xs f.0 false) closed ∙ (linked.closed f ∙ sym (same.closed f));
}

one_file : (f g : FileId) → Some f ≡ Some g → f ≡ g
one_file f g e = cc

no_file : {P : Type 0} → (g : FileId) → None ≡ Some g → P
no_file g e = absurd cc

-- how a number stands once it moved
module _ (x : Spot) (f : FileId) where
  pub free_listed : IsSpotOf Free x → IsSpotOf (Listed f) (record x { is_listed = true; is_used = true; file = f })
  free_listed was = record { listed = refl; held = was.held; home = λ e. absurd (true≢false (sym e)); file = one_file f; named = tt }

  module _ (was : IsSpotOf (Listed f) x) where
    pub listed_taken : x.is_flagged ≡ false → IsSpotOf (Taken f None) (record x { is_listed = false; is_held = true; is_removed = true })
    listed_taken unflagged = record { listed = refl; held = refl; home = λ e. absurd (true≢false (sym e)); file = was.file; named = (unflagged, λ e. refl) }

    pub listed_drained : (why : Why) → IsSpotOf (Ending f why) (record x { is_listed = false; is_held = true; is_removed = true })
    listed_drained why = record { listed = refl; held = refl; home = λ e. absurd (true≢false (sym e)); file = was.file; named = tt }

    pub listed_out : (why : Why) → IsSpotOf (Ending f why) (record x { is_listed = false; is_held = true; is_flagged = true })
    listed_out why = record { listed = refl; held = refl; home = λ e. absurd (true≢false (sym e)); file = was.file; named = tt }

  module _ (named : Option Why) (was : IsSpotOf (Taken f named) x) where
    pub taken_listed : IsSpotOf (Listed f) (record x { is_listed = true; is_held = false; is_removed = false })
    taken_listed = record { listed = refl; held = refl; home = λ e. absurd (true≢false (sym e)); file = was.file; named = tt }

    pub taken_found : x.is_flagged ≡ true → IsSpotOf (Taken f named) (record x { is_removed = false })
    taken_found flag = record { listed = was.listed; held = was.held; home = was.home; file = was.file; named = (was.named.0, λ e. absurd (true≢false (sym flag ∙ (was.named.0 ∙ ap is_some e)))) }

    pub taken_named : (why : Why) → IsSpotOf (as_named why (Taken f named)) (record x { is_flagged = true })
    taken_named why = go named was
      where
        go : (o : Option Why) → IsSpotOf (Taken f o) x → IsSpotOf (as_named why (Taken f o)) (record x { is_flagged = true })
        go None w = record { listed = w.listed; held = w.held; home = λ e. absurd (true≢false (sym e)); file = w.file; named = (refl, λ e. absurd cc) }
        go (Some first) w = record { listed = w.listed; held = w.held; home = λ e. absurd (true≢false (sym e)); file = w.file; named = (refl, λ e. absurd cc) }

-- what ended is free, or spent
pub finished_so : (n : IrpId) (is_last : Bool) (s s' : Single) → Ends n is_last s s' → IsSpotOf (stage_after is_last) (spot s' n)
finished_so n true s s' ends = record { listed = ends.unlisted; held = ends.unheld; home = λ e. absurd (true≢false (sym e)); file = λ g e. no_file g e; named = tt }
finished_so n false s s' ends = record { listed = ends.unlisted; held = ends.unheld; home = λ _. ((ends.home refl).0, (ends.home refl).1); file = λ g e. no_file g e; named = tt }

-- what the queue has listed is Listed, and what the table has Listed is listed
pub stage_listed : (s : Stage) (x : Spot) → IsSpotOf s x → x.is_listed ≡ true → (f : FileId) × (s ≡ Listed f)
stage_listed (Listed f) x is e = (f, refl)
stage_listed Free x is e = absurd (true≢false (sym e ∙ is.listed))
stage_listed (Taken f named) x is e = absurd (true≢false (sym e ∙ is.listed))
stage_listed (Ending f why) x is e = absurd (true≢false (sym e ∙ is.listed))
stage_listed Spent x is e = absurd (true≢false (sym e ∙ is.listed))

-- what a removal gives out is Listed
pub taken_stage : (s : Single) (t : Requests) → IsLinked s t → (i : IrpLife) (s' : Single) → Takes i s s' → (f : FileId) × (stage_of t i.irp ≡ Listed f)
taken_stage s t linked i s' takes = stage_listed (stage_of t i.irp) (spot s i.irp) (linked.spots i.irp (subst (λ (k : ℕ). i.irp.0 < k) (sym linked.irps) takes.known)) takes.was_listed

-- and goes on so
module _ (s : Single) (t : Requests) (linked : IsLinked s t) (i : IrpLife) (s' : Single) (takes : Takes i s s') (f : FileId) (stage : stage_of t i.irp ≡ Listed f) where
  inside : i.irp.0 < length t.stages
  inside = subst (λ (k : ℕ). i.irp.0 < k) (sym linked.irps) takes.known

  was : IsSpotOf (Listed f) (spot s i.irp)
  was = subst (λ (x : Stage). IsSpotOf x (spot s i.irp)) stage (linked.spots i.irp inside)

  pub take_linked : IsLinked s' (with_stage i.irp (Taken f None) t)
  take_linked = relinked s t linked s' i.irp takes.rest (with_stage i.irp (Taken f None) t) (Taken f None) inside refl refl (subst (IsSpotOf (Taken f None)) (sym takes.spot_is) (listed_taken (spot s i.irp) f was takes.was_unflagged))

  pub drain_linked : (why : Why) → IsLinked s' (with_due i.irp None (with_stage i.irp (Ending f why) t))
  drain_linked why = relinked s t linked s' i.irp takes.rest (with_due i.irp None (with_stage i.irp (Ending f why) t)) (Ending f why) inside refl refl (subst (IsSpotOf (Ending f why)) (sym takes.spot_is) (listed_drained (spot s i.irp) f was why))

-- the calls by name
module _ (s : Single) (t : Requests) (linked : IsLinked s t) (i : IrpLife) (known : i.irp.0 < length t.stages) (s' : Single) where
  at_stage : (stage : Stage) → stage_of t i.irp ≡ stage → IsSpotOf stage (spot s i.irp)
  at_stage stage e = subst (λ (x : Stage). IsSpotOf x (spot s i.irp)) e (linked.spots i.irp known)

  pub out_linked : (f : FileId) (why : Why) → stage_of t i.irp ≡ Listed f → TakesOut i s s' → IsLinked s' (with_due i.irp None (with_stage i.irp (Ending f why) t))
  out_linked f why e out = relinked s t linked s' i.irp out.rest (with_due i.irp None (with_stage i.irp (Ending f why) t)) (Ending f why) known refl refl
      (subst (IsSpotOf (Ending f why)) (sym out.spot_is) (listed_out (spot s i.irp) f (at_stage (Listed f) e) why))

  module _ (f : FileId) (named : Option Why) (e : stage_of t i.irp ≡ Taken f named) where
    pub flag_linked : (why : Why) → Flags i s s' → IsLinked s' (with_stage i.irp (as_named why (Taken f named)) t)
    flag_linked why flags = relinked s t linked s' i.irp flags.rest (with_stage i.irp (as_named why (Taken f named)) t) (as_named why (Taken f named)) known refl refl
        (subst (IsSpotOf (as_named why (Taken f named))) (sym flags.spot_is) (taken_named (spot s i.irp) f named (at_stage (Taken f named) e) why))

    pub back_linked : (place : Place) → Relists i place s s' → IsLinked s' (with_stage i.irp (Listed f) t)
    back_linked place back = relinked s t linked s' i.irp back.rest (with_stage i.irp (Listed f) t) (Listed f) known refl refl
        (subst (IsSpotOf (Listed f)) (sym back.spot_is) (taken_listed (spot s i.irp) f named (at_stage (Taken f named) e)))

    pub found_linked : FindsCancelled i s s' → IsLinked s' t
    found_linked found = relinked s t linked s' i.irp found.rest t (Taken f named) known (sym (ap (slice_set t.stages i.irp.0) (sym e) ∙ set-get_or t.stages i.irp.0 Spent)) refl
        (subst (IsSpotOf (Taken f named)) (sym found.spot_is) (taken_found (spot s i.irp) f named (at_stage (Taken f named) e) found.was_flagged))

  pub end_linked : (is_last : Bool) → Ends i.irp is_last s s' → IsLinked s' (with_due i.irp None (finished i.irp is_last t))
  end_linked is_last ends = relinked s t linked s' i.irp ends.rest (with_due i.irp None (finished i.irp is_last t)) (stage_after is_last) known refl refl (finished_so i.irp is_last s s' ends)

-- a file object is closed
pub close_linked : (s : Single) (t : Requests) → IsLinked s t → (f : FileId) (s' : Single) → Closes f (Ok tt) s s' → IsLinked s' (record t { closed_files = slice_set t.closed_files f.0 true })
close_linked s t linked f s' closes = record {
  spots = λ m inside. subst (IsSpotOf (stage_of t m)) (sym (closes.spots m)) (linked.spots m inside);
  irps = linked.irps ∙ ap (λ l. l.irps) (sym closes.limits);
  files = length-set t.closed_files f.0 true ∙ (linked.files ∙ ap (λ l. l.files) (sym closes.limits));
  closed = λ g. by_number (slice_index_or (slice_set t.closed_files f.0 true) g.0 false ≡ is_closed s' g) g.0 f.0
      (λ same. ap (λ k. slice_index_or (slice_set t.closed_files f.0 true) k false) same ∙ (get_or-set_same t.closed_files f.0 true false inside ∙ sym (closes.closed g ∙ ap (λ b. b || is_closed s g) (eq-eqb f.0 g.0 (sym same)))))
      (λ other. get_or-set_other t.closed_files f.0 g.0 true false other ∙ (linked.closed g ∙ sym (closes.closed g ∙ ap (λ b. b || is_closed s g) (ne_eqb f.0 g.0 (λ e. other (sym e))))));
}
  where
    inside : f.0 < length t.closed_files
    inside = subst (λ (k : ℕ). f.0 < k) (sym linked.files) (closes.known.0 refl)

-- so the list has what the table has Listed
pub stage_in_list : (s : Stage) (x : Spot) → IsSpotOf s x → cond x.is_listed (Some x.file) None ≡ file_in_list s
stage_in_list (Listed f) x is = rw (is.listed, is.file f refl) refl
stage_in_list Free x is = rw is.listed refl
stage_in_list (Taken f named) x is = rw is.listed refl
stage_in_list (Ending f why) x is = rw is.listed refl
stage_in_list Spent x is = rw is.listed refl
