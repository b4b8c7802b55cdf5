-- What passes have seen of one history and one execution.
use Rattle.std.proofs.Common.{◌≡◌, ℕ, zero, suc, List, [], ◌∷◌, ◌++◌, inl, inr, sym, ◌∙◌, subst}
use Rattle.csq_words.proofs.Imports.{some, some-injective, some-ne-none, get_elem?, Tick, HaveSeen, IsExtendedBy, steps_in, Size, PassRecord, QueueRecord, HistoryEntry, IsPassOf, HasBack, RecordsAgree, QueueHasRun, IsFinal}
use Rattle.csq_words.specs.Stories.{AreComparable, SeeOneHistory}

module _ {A : Type 0} where
  -- of two beginnings of one list, whose newest is first, one begins with the other
  pub one_begins : (a b h g : List A) → a ++ h ≡ b ++ g → AreComparable h g
  one_begins [] b h g e = inr (b, e)
  one_begins (x ∷ a) [] h g e = inl (x ∷ a, sym e)
  one_begins (x ∷ a) (y ∷ b) h g e = let rest : a ++ h ≡ b ++ g = cc in one_begins a b h g rest

see_one_history : (history : List HistoryEntry) (trace : List Tick) (passes : List PassRecord) → ((k : ℕ) (r : PassRecord) → get_elem? passes k ≡ some r → IsPassOf (steps_in trace) history r) → HaveSeen trace passes → SeeOneHistory history trace passes
see_one_history history trace passes each saw = record {
  seen = λ k r at. (each k r at).seen_is;
  calls = λ k r at. (each k r at).mine_is;
  traces = saw;
  steps = λ k r at. (each k r at).steps_is;
  one_history = λ j k r s at there. let h = (each j r at).seen_is in let g = (each k s there).seen_is in one_begins h.0 g.0 r.seen s.seen (sym h.1 ∙ g.1);
  one_execution = λ j k r s at there. let h = saw j r at in let g = saw k s there in one_begins h.0 g.0 r.trace s.trace (sym h.1 ∙ g.1);
}

pub joined_see : (size : Size) (trace : List Tick) (q : QueueRecord) (r s : PassRecord) → RecordsAgree size trace q r → RecordsAgree size trace q s → SeeOneHistory q.history trace (r ∷ s ∷ [])
joined_see size trace q r s h g = see_one_history q.history trace (r ∷ s ∷ []) each saw
  where
    each : (k : ℕ) (o : PassRecord) → get_elem? (r ∷ s ∷ []) k ≡ some o → IsPassOf (steps_in trace) q.history o
    each zero o at = subst (IsPassOf (steps_in trace) q.history) (some-injective r o at) h.pass_is
    each (suc zero) o at = subst (IsPassOf (steps_in trace) q.history) (some-injective s o at) g.pass_is
    each (suc (suc k)) o at = absurd (some-ne-none o (sym at))

    saw : HaveSeen trace (r ∷ s ∷ [])
    saw zero o at = subst (λ (u : PassRecord). IsExtendedBy u.trace trace) (some-injective r o at) h.pass_seen
    saw (suc zero) o at = subst (λ (u : PassRecord). IsExtendedBy u.trace trace) (some-injective s o at) g.pass_seen
    saw (suc (suc k)) o at = absurd (some-ne-none o (sym at))

pub back_see : (size : Size) (q : QueueRecord) → QueueHasRun size q → SeeOneHistory q.history q.trace q.back
back_see size q h = see_one_history q.history q.trace q.back (λ k r at. (h.backs k r at).0) h.backs_seen

-- passes with records among those that are back at the end
pub recorded_see : (size : Size) (words : List ℕ) (q : QueueRecord) → IsFinal size words q → (passes : List PassRecord) → ((k : ℕ) (r : PassRecord) → get_elem? passes k ≡ some r → HasBack q r) → SeeOneHistory q.history q.trace passes
recorded_see size words q h passes back = see_one_history q.history q.trace passes (λ k r at. let b = back k r at in (h.agrees.backs b.0 r b.1).is_record.of_pass) (λ k r at. let b = back k r at in h.backs_seen b.0 r b.1)

pub final_see : (size : Size) (words : List ℕ) (q : QueueRecord) → IsFinal size words q → SeeOneHistory q.history q.trace q.back
final_see size words q h = recorded_see size words q h q.back (λ k r at. (k, at))
