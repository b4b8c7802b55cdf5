-- A replay follows the steps that led to it.
use Rattle.std.proofs.Common.{◌≡◌, ◌⊎◌, inl, inr, ◌≤◌, ℕ, zero, suc, ◌+◌, ◌<◌, Bool, true, false, cond, List, [], ◌∷◌, Ok, length, replicate, slice_index_or, slice_set, refl, ap, sym, subst, ◌∙◌, arith}
use Rattle.std.proofs.lemmas.Bool.{cases_lt}
use Rattle.std.proofs.lemmas.List.{get_or-set_same, get_or-set_other, length-replicate, length-set}
use Rattle.irp_core.proofs.Names.{same_pass-refl, same_pass-eq}
use Rattle.irp_core.specs.declared.ids.PassId.{PassId}
use Rattle.irp_core.specs.declared.step.{Made.{Made}, Step.{Step}}
use Rattle.irp_core.specs.Inside.{inside, inside_after}
use Rattle.irp_core.specs.MachineState.{MachineState, Agrees, size_of}
use Rattle.irp_core.specs.Runs.{Size, IsRun}
use Rattle.irp_core.specs.Steps.{made, same_pass}
use Rattle.csq_c.specs.Replays.{Follows, MakesStep, Numbered, ReplayState, begun_at, call_after, call_at, call_of, no_call, run_of, since, size_in}
use Rattle.csq_c.specs.declared.replay.pass_call.PassCall.{PassCall}

-- none of the first passes, and not the next
pub none_more : (F : PassId → Bool) (n : ℕ) → ((p : PassId) → 1 ≤ p.0 → p.0 ≤ n → F p ≡ false) → F (record { 0 = n + 1 }) ≡ false → (p : PassId) → 1 ≤ p.0 → p.0 ≤ n + 1 → F p ≡ false
none_more F n none last p from to = go (cases_lt p.0 (n + 1))
  where
    go : (p.0 < n + 1) ⊎ (n + 1 ≤ p.0) → F p ≡ false
    go (inl less) = none p from (omega (arith, less))
    go (inr more) = let same : n + 1 ≡ p.0 = omega (arith, to, more) in subst (λ (k : ℕ). F (record { 0 = k }) ≡ false) same last

-- each is the default
all_default : {A : Type 0} (x : A) (n k : ℕ) → slice_index_or (replicate n x) k x ≡ x
all_default x zero k = refl
all_default x (suc n) zero = refl
all_default x (suc n) (suc k) = all_default x n k

-- before the first step
pub follows_none : (m : MachineState) (calls : List PassCall) → Agrees m [] → calls ≡ replicate ((size_of m).passes + 1) no_call
    → Follows (record { machine = m; calls = calls }) []
follows_none m calls agrees are = record {
  agrees = agrees;
  calls = λ p. ap (λ cs. slice_index_or cs p.0 no_call) are ∙ all_default no_call ((size_of m).passes + 1) p.0;
  many = ap length are ∙ length-replicate ((size_of m).passes + 1) no_call;
}

-- a step is by a pass that there is
pub is_known : (s : ReplayState) (W : List Numbered) (w : Numbered) (m : MachineState) → Follows s W → size_of m ≡ size_in s → Agrees m (run_of (w ∷ W)) → w.step.pass.0 < length s.calls
is_known s W w m follows same agrees = let to = agrees.run.known.0.to in omega (arith, to, ap (λ (n : Size). n.passes) same, follows.many)

module _ (s : ReplayState) (W : List Numbered) (w : Numbered) (follows : Follows s W) (known : w.step.pass.0 < length s.calls) where
  abbrev q : PassId
  q = w.step.pass

  abbrev new_call : PassCall
  new_call = call_after (call_at s q) w.number w.step

  abbrev later : Bool → PassId → PassCall
  later b p = record {
    inside = cond b (inside_after (inside (run_of W) p) w.step.kind w.step.found) (inside (run_of W) p);
    since = cond b (begun_at (inside (run_of W) p) w.number (since W p)) (since W p);
  }

  own : slice_index_or (slice_set s.calls q.0 new_call) q.0 no_call ≡ call_of (w ∷ W) q
  own = get_or-set_same s.calls q.0 new_call no_call known ∙ (ap (λ c. call_after c w.number w.step) (follows.calls q) ∙ sym (ap (λ b. later b q) (same_pass-refl q)))

  noted : (p : PassId) (b : Bool) → same_pass q p ≡ b → slice_index_or (slice_set s.calls q.0 new_call) p.0 no_call ≡ call_of (w ∷ W) p
  noted p true e = subst (λ (x : PassId). slice_index_or (slice_set s.calls q.0 new_call) x.0 no_call ≡ call_of (w ∷ W) x) (same_pass-eq q p e) own
  noted p false e = get_or-set_other s.calls q.0 p.0 new_call no_call (λ same. differ p e same) ∙ (follows.calls p ∙ sym (ap (λ b. later b p) e))
    where
      differ : (x : PassId) → same_pass q x ≡ false → x.0 ≡ q.0 → ⊥
      differ x ne same = let f : ℕ → PassId = λ n. record { 0 = n } in let t : same_pass q x ≡ true = ap (λ y. same_pass q y) (ap f same) ∙ same_pass-refl q in cc

  -- a step was made and noted
  pub follows_more : (m : MachineState) (calls : List PassCall) → size_of m ≡ size_in s → Agrees m (run_of (w ∷ W)) → calls ≡ slice_set s.calls q.0 new_call
      → Follows (record { machine = m; calls = calls }) (w ∷ W)
  follows_more m calls same agrees are = record {
    agrees = agrees;
    calls = λ p. ap (λ cs. slice_index_or cs p.0 no_call) are ∙ noted p (same_pass q p) refl;
    many = ap length are ∙ (length-set s.calls q.0 new_call ∙ (follows.many ∙ ap (λ (n : Size). n.passes + 1) (sym same)));
  }

-- a step that the machine made, and that was noted
module _ (number : ℕ) (step : Step) (found : ℕ) (s : ReplayState) (m : MachineState) (same : size_of m ≡ size_in s)
    (goes : (E : List Made) → Agrees s.machine E → Agrees m (made step found ∷ E)) where
  abbrev numbered : Numbered
  numbered = record { number = number; step = made step found }

  pub in_range : (W : List Numbered) → Follows s W → step.pass.0 < length s.calls
  in_range W f = is_known s W numbered m f same (goes (run_of W) f.agrees)

  module _ (calls : List PassCall) (are : calls ≡ slice_set s.calls step.pass.0 (call_after (call_at s step.pass) number (made step found))) where
    pub goes_on : (W : List Numbered) → Follows s W → Follows (record { machine = m; calls = calls }) (numbered ∷ W)
    goes_on W f = follows_more s W numbered f (in_range W f) m calls same (goes (run_of W) f.agrees) are

    pub makes : MakesStep number step (Ok found) s (record { machine = m; calls = calls })
    makes = record {
      longer = λ W f. (subst (λ (n : Size). IsRun n (made step found ∷ run_of W)) same (goes (run_of W) f.agrees).run, goes_on W f);
      accepted = λ W v f r. refl;
      cause = λ W f. tt;
      refused = tt;
      size = same;
    }
