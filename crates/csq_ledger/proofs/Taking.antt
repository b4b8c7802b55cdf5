-- A removal of the first match.
use Rattle.std.proofs.Common.{◌≡◌, ℕ, ◌&&◌, ◌||◌, not, cond, Bool, true, false, true≢false, List, [], ◌∷◌, ◌++◌, map, Option, Some, None, refl, sym, ap, ◌∙◌, subst}
use Rattle.csq_ledger.proofs.Imports.{flagged, IsLegal, end_of, Limits, QueueState, has_entry, has_marked, entries_of, AreTrueOf, HistoryEntry, taken, taken_flagged, queue_size, holds_in, removed_in, or_right, present_in, life_of, same_irp, same_irp-refl, IrpLife, PassId, Made, false_from_ne_true, IsSingle, IsWholeRun}
use Rattle.std.specs.Option.{option_map}
use Rattle.std.specs.List.{find}
use Rattle.csq_list.specs.declared.entry.Peek.{Peek}
use Rattle.csq_list.specs.Searches.{first_match, matches}
use Rattle.csq_words.specs.Queue.{Queued, after_event, first_unmarked, has_unmarked, plain}
use Rattle.csq_list.specs.declared.entry.Entry.{Entry}
use Rattle.csq_words.specs.declared.views.Event.TheVariants.{RemoveNext}
use Rattle.csq_words.proofs.Entries.{has_entry-marking, has_entry-without}
use Rattle.csq_words.proofs.Listings.{plain-without}
use Rattle.csq_words.proofs.Lives.{ArePresent, legal_lives}
use Rattle.csq_words.proofs.Named.{irp_eq}
use Rattle.irp_core.proofs.Facts.{listed_known}
use Rattle.csq_queue.specs.Calls.{RemovesNext}
use Rattle.csq_queue.specs.Looks.{next_listed}
use Rattle.csq_queue.specs.Searches.{marked}
use Rattle.csq_queue.proofs.Giving.{GivesOut, remove_next_gives}
use Rattle.csq_checked.specs.Calls.{MakesCall}
use Rattle.csq_checked.specs.Passes.{CheckedPassState, CheckedState}
use Rattle.csq_ledger.specs.Moves.{Takes, TakesFirst}
use Rattle.csq_ledger.specs.Singles.{IsSameIn, limits_of, queue_in, spot_of}
use Rattle.csq_ledger.proofs.Whole.{entry_present, entry_unflagged, still_whole, unmarked}
use Rattle.csq_ledger.proofs.Spots.{Old, New, queue_now, limits_now, single_now, leaves, all_same, spot_eq, unlike}

-- marks leave what is listed
marks_entries : (first : ℕ) (p : PassId) (is : List IrpLife) (h : List HistoryEntry) (i : IrpLife) → has_entry (end_of first (entries_of p (marked is) ++ h)).entries i ≡ has_entry (end_of first h).entries i
marks_entries first p [] h i = refl
marks_entries first p (j ∷ is) h i = has_entry-marking j (end_of first (entries_of p (marked is) ++ h)).entries i ∙ marks_entries first p is h i

unmarked_entry : (es : List Queued) (i : IrpLife) → has_unmarked es i ≡ true → has_entry es i ≡ true
unmarked_entry [] i e = e
unmarked_entry (x ∷ es) i e = go (same_irp x.irp i) (not x.marked) e (unmarked_entry es i)
  where
    go : (b c : Bool) → ((b && c) || has_unmarked es i) ≡ true → (has_unmarked es i ≡ true → has_entry es i ≡ true) → (b || has_entry es i) ≡ true
    go true c e rest = refl
    go false c e rest = rest e

-- where nothing that is listed was taken there are none
pub no_marks : (l : Limits) (p : PassId) (is : List IrpLife) (h : List HistoryEntry) (run : List Made) → ((i : IrpLife) → has_entry (end_of l.first h).entries i ≡ true → taken run i ≡ false)
    → IsLegal l (entries_of p (marked is) ++ h) → AreTrueOf l.first run (entries_of p (marked is) ++ h) → is ≡ []
no_marks l p [] h run none legal true_of = refl
no_marks l p (i ∷ is) h run none legal true_of =
    let here = unmarked_entry (end_of l.first (entries_of p (marked is) ++ h)).entries i legal.0 in
    absurd (true≢false (sym true_of.0 ∙ none i (sym (marks_entries l.first p is h i) ∙ here)))

-- the first that isn't marked, where none is marked, is the first
module _ (u : QueueState) (k : Peek) where
  first_is : (es : List Queued) → ArePresent u.lives es → ((i : IrpLife) → has_marked es i ≡ false) → first_unmarked k es ≡ option_map (present_in u) (first_match k (map plain es))
  first_is [] now none = refl
  first_is (e ∷ es) now none = go e.marked (bare e.marked (none e.irp)) (matches k e.file) (first_is es now.1 (λ i. later (same_irp e.irp i && e.marked) (has_marked es i) (none i)))
    where
      bare : (b : Bool) → ((same_irp e.irp e.irp && b) || has_marked es e.irp) ≡ false → b ≡ false
      bare false h = refl
      bare true h = absurd (true≢false (sym (ap (λ c. (c && true) || has_marked es e.irp) (same_irp-refl e.irp)) ∙ h))

      later : (a b : Bool) → (a || b) ≡ false → b ≡ false
      later false b h = h
      later true b h = absurd (true≢false h)

      go : (m : Bool) → m ≡ false → (b : Bool) → first_unmarked k es ≡ option_map (present_in u) (first_match k (map plain es))
          → option_map (λ (x : Queued). x.irp) (cond (not m && b) (Some e) (find (λ (x : Queued). not x.marked && matches k x.file) es)) ≡ option_map (present_in u) (option_map (λ (x : Entry). x.irp) (cond b (Some (plain e)) (find (λ x. matches k x.file) (map plain es))))
      go true h b rest = absurd (true≢false h)
      go false h true rest = ap (λ (x : IrpLife). Some x) (irp_eq e.irp (present_in u e.irp.irp) refl now.0)
      go false h false rest = rest

  first_listed : (es : List Queued) (i : IrpLife) → first_unmarked k es ≡ Some i → has_entry es i ≡ true
  first_listed [] i h = absurd cc
  first_listed (e ∷ es) i h = go (not e.marked && matches k e.file) h (first_listed es i)
    where
      go : (b : Bool) → option_map (λ (x : Queued). x.irp) (cond b (Some e) (find (λ (x : Queued). not x.marked && matches k x.file) es)) ≡ Some i → (first_unmarked k es ≡ Some i → has_entry es i ≡ true) → (same_irp e.irp i || has_entry es i) ≡ true
      go true s rest = let is : e.irp ≡ i = cc in ap (λ b. b || has_entry es i) (ap (λ (x : IrpLife). same_irp e.irp x) (sym is) ∙ same_irp-refl e.irp)
      go false s rest = or_right (same_irp e.irp i) (has_entry es i) (rest s)

module _ (q : CheckedState) (p : CheckedPassState) (q' : CheckedState) (p' : CheckedPassState) (single : IsSingle q p) (peek : Peek) (got : Option IrpLife) (call : MakesCall (RemovesNext peek got) q p q' p') where
  abbrev l : Limits
  l = q.queue.limits

  abbrev h : List HistoryEntry
  h = q.queue.queue.history

  abbrev u : QueueState
  u = end_of l.first h

  abbrev u' : QueueState
  u' = after_event u (RemoveNext peek got)

  gives : GivesOut l got true p.pass p'.pass
  gives = remove_next_gives l peek got u p.pass p'.pass call.call.steps call.call.new

  pub take_single : IsSingle q' p'
  take_single = single_now q p q' p' single call.after (RemoveNext peek got ∷ marked call.call.call.0) call.call.call.1 (λ i. gives.owed i ∙ single.run.owes_none i)

  run : IsWholeRun l p'.pass.seen p'.pass.steps
  run = still_whole l single.one h p.pass p'.pass single.number (RemoveNext peek got ∷ marked call.call.call.0) call.call.call.1 (λ i. gives.owed i ∙ single.run.owes_none i)

  -- nothing that is listed was taken by a canceller
  untaken : (i : IrpLife) → has_entry u.entries i ≡ true → taken p'.pass.steps i ≡ false
  untaken i e = false_from_ne_true (taken p'.pass.steps i) (λ t.
      true≢false (sym (taken_flagged (queue_size l) p'.pass.steps run.is_run i t) ∙ (gives.flags i ∙ entry_unflagged l single.one h p.pass.steps single.run i e)))

  -- so the removal is all that the history gained
  abbrev removal : HistoryEntry
  removal = record { pass = p.pass.pass; event = RemoveNext peek got }

  ends : p'.pass.seen ≡ removal ∷ h
  ends =
      let marks = call.call.call.0 in
      let adds = call.call.call.1 in
      let legal : IsLegal l (removal ∷ (entries_of p.pass.pass (marked marks) ++ h)) = subst (IsLegal l) adds.ends run.legal in
      let truth : AreTrueOf l.first p'.pass.steps (removal ∷ (entries_of p.pass.pass (marked marks) ++ h)) = subst (AreTrueOf l.first p'.pass.steps) adds.ends run.true_of in
      let none : marks ≡ [] = no_marks l p.pass.pass marks h p'.pass.steps untaken legal.1 truth.1 in
      adds.ends ∙ ap (λ is. removal ∷ (entries_of p.pass.pass (marked is) ++ h)) none

  got_is : got ≡ first_unmarked peek u.entries
  got_is = let legal : IsLegal l (removal ∷ h) = subst (IsLegal l) ends run.legal in legal.0

  now : queue_in (New q p q' p' single) ≡ u'
  now = queue_now q p q' p' single call.after u' (ap (end_of l.first) ends)

  lives : ArePresent u.lives u.entries
  lives = (legal_lives l h single.run.legal).entries

  pub take_first : got ≡ next_listed q.queue None peek
  take_first = got_is ∙ first_is u peek u.entries lives (unmarked l single.one h p.pass.steps single.run)

  limits : limits_of (New q p q' p' single) ≡ limits_of (Old q p q' p' single)
  limits = limits_now q p q' p' single call.after

-- what is so of each IRP then
module _ (q : CheckedState) (p : CheckedPassState) (q' : CheckedState) (p' : CheckedPassState) (single : IsSingle q p) (peek : Peek) where
  pub take_none : MakesCall (RemovesNext peek None) q p q' p' → IsSameIn (Old q p q' p' single) (New q p q' p' single)
  take_none call =
      let g = gives q p q' p' single peek None call in
      all_same q p q' p' single (limits q p q' p' single peek None call) (u' q p q' p' single peek None call) (now q p q' p' single peek None call) (λ f. refl) (record {
        entries = λ j _. refl;
        held = λ j _. g.held j;
        removed = λ j _. g.removed j;
        used = λ j _. refl;
        flags = λ j _. g.flags j;
        lives = λ m _. refl;
        files = λ m _. refl;
      }) refl

  module _ (i : IrpLife) (call : MakesCall (RemovesNext peek (Some i)) q p q' p') where
    abbrev before : QueueState
    before = queue_in (Old q p q' p' single)

    g : GivesOut q.queue.limits (Some i) true p.pass p'.pass
    g = gives q p q' p' single peek (Some i) call

    was_listed : has_entry before.entries i ≡ true
    was_listed = first_listed before peek before.entries i (sym (got_is q p q' p' single peek (Some i) call))

    is_present : i ≡ present_in before i.irp
    is_present = irp_eq i (present_in before i.irp) refl (entry_present q.queue.limits single.one q.queue.queue.history p.pass.steps single.run i was_listed)

    same_here : same_irp i (present_in before i.irp) ≡ true
    same_here = ap (same_irp i) (sym is_present) ∙ same_irp-refl i

    pub take_some : Takes i (Old q p q' p' single) (New q p q' p' single)
    take_some =
        let here = present_in before i.irp in record {
          is_present = is_present;
          spot_is = ap (λ (x : QueueState). spot_of x p'.pass.steps i.irp) (now q p q' p' single peek (Some i) call) ∙ spot_eq _ _
              (has_entry-without i before.entries here ∙ ap (λ b. not b && has_entry before.entries here) same_here)
              (g.held here ∙ ap (λ b. b || holds_in p.pass.steps here) same_here)
              (g.removed here ∙ ap (λ b. b || removed_in p.pass.steps here) same_here)
              refl (g.flags here) refl refl;
          known = listed_known (queue_size q.queue.limits) p.pass.steps single.run.is_run i (sym (single.run.listed_is i) ∙ was_listed);
          was_unflagged = ap (flagged p.pass.steps) (sym is_present) ∙ entry_unflagged q.queue.limits single.one q.queue.queue.history p.pass.steps single.run i was_listed;
          was_listed = ap (has_entry before.entries) (sym is_present) ∙ was_listed;
          list = ap (λ (x : QueueState). map plain x.entries) (now q p q' p' single peek (Some i) call) ∙ plain-without before.lives i (ap life_of is_present) before.entries (lives q p q' p' single peek (Some i) call);
          rest = leaves q p q' p' single (limits q p q' p' single peek (Some i) call) (u' q p q' p' single peek (Some i) call) (now q p q' p' single peek (Some i) call) (λ f. refl) i.irp (record {
            entries = λ j ne. has_entry-without i before.entries j ∙ ap (λ b. not b && has_entry before.entries j) (unlike i j ne);
            held = λ j ne. g.held j ∙ ap (λ b. b || holds_in p.pass.steps j) (unlike i j ne);
            removed = λ j ne. g.removed j ∙ ap (λ b. b || removed_in p.pass.steps j) (unlike i j ne);
            used = λ j _. refl;
            flags = λ j _. g.flags j;
            lives = λ m _. refl;
            files = λ m _. refl;
          });
        }

pub take_moves : (q : CheckedState) (p : CheckedPassState) (q' : CheckedState) (p' : CheckedPassState) (single : IsSingle q p) (peek : Peek) (got : Option IrpLife) → MakesCall (RemovesNext peek got) q p q' p' → TakesFirst peek got (Old q p q' p' single) (New q p q' p' single)
take_moves q p q' p' single peek None call = record { first = take_first q p q' p' single peek None call; taken = tt; none = λ _. take_none q p q' p' single peek call }
take_moves q p q' p' single peek (Some i) call = record { first = take_first q p q' p' single peek (Some i) call; taken = take_some q p q' p' single peek i call; none = λ e. absurd cc }
