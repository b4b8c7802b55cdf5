-- The passes of an execution are as its steps left them.
use Rattle.std.proofs.Common.{◌≡◌, ℕ, ◌+◌, ◌<◌, ◌≤◌, Bool, true, false, cond, List, [], ◌∷◌, length, get_or, set, replicate, Option, refl, ap, sym, ◌∙◌, arith}
use Rattle.irp_core.specs.declared.inside.Inside.{Inside}
use Rattle.irp_core.specs.declared.ids.PassId.{PassId}
use Rattle.csq_explain.proofs.Imports.{Made, Size, same_pass-refl, same_pass-eq, Numbered, run_of, StepInCall, new_pass_now, pass_after, pass_now, passes_now, all_passes, status_at, in_call}
use Rattle.irp_core.specs.declared.status.NtStatus.{NtStatus}
use Rattle.irp_core.specs.Inside.{inside, inside_after}
use Rattle.irp_core.specs.Steps.{same_pass, by}
use Rattle.csq_explain.specs.declared.passes.PassNow.{PassNow}
use Rattle.csq_explain.proofs.Tables.{length-table, table-replicate, get-table, set-table}

pub length-passes : (size : Size) (W : List Numbered) → length (all_passes size W) ≡ size.passes + 1
length-passes size W = length-table (λ p. pass_now W (record { 0 = p })) (size.passes + 1)

-- numbers that differ are of passes that differ
pub other_pass : (p q : PassId) → (q.0 ≡ p.0 → ⊥) → same_pass p q ≡ false
other_pass p q ne = go (same_pass p q) refl
  where
    go : (b : Bool) → same_pass p q ≡ b → b ≡ false
    go false e = refl
    go true e = absurd (ne (ap (λ (x : PassId). x.0) (sym (same_pass-eq p q e))))

-- what is kept of a pass is what that is inside of
pub inside_is : (p : PassId) (V : List Numbered) → (pass_now V p).inside ≡ inside (run_of V) p
inside_is p [] = refl
inside_is p (w ∷ V) = go (same_pass w.step.pass p) refl (inside_is p V)
  where
    go : (b : Bool) → same_pass w.step.pass p ≡ b → (pass_now V p).inside ≡ inside (run_of V) p → (pass_now (w ∷ V) p).inside ≡ inside (run_of (w ∷ V)) p
    go true e h =
        ap (λ x. (cond x (pass_after (pass_now V p) w) (pass_now V p)).inside) e
        ∙ ap (λ s. inside_after s w.step.kind w.step.found) h
        ∙ sym (ap (λ x. cond x (inside_after (inside (run_of V) p) w.step.kind w.step.found) (inside (run_of V) p)) e)
    go false e h =
        ap (λ x. (cond x (pass_after (pass_now V p) w) (pass_now V p)).inside) e
        ∙ h
        ∙ sym (ap (λ x. cond x (inside_after (inside (run_of V) p) w.step.kind w.step.found) (inside (run_of V) p)) e)

-- before the first step
pub passes_none : (size : Size) (passes : List PassNow) → passes ≡ replicate (size.passes + 1) new_pass_now → passes ≡ all_passes size []
passes_none size passes a = a ∙ sym (table-replicate (λ p. pass_now [] (record { 0 = p })) new_pass_now (size.passes + 1) (λ k. refl))

-- the passes after a step of p
passes_more : (w : Numbered) (W : List Numbered) (n : ℕ) → w.step.pass.0 < n
    → set (passes_now n W) w.step.pass.0 (pass_after (get_or (passes_now n W) w.step.pass.0 new_pass_now) w) ≡ passes_now n (w ∷ W)
passes_more w W n known =
    let before : ℕ → PassNow = λ p. pass_now W (record { 0 = p }) in
    let after : ℕ → PassNow = λ p. pass_now (w ∷ W) (record { 0 = p }) in
    let own : cond (by w.step.pass w.step) (pass_after (pass_now W w.step.pass) w) (pass_now W w.step.pass) ≡ pass_after (pass_now W w.step.pass) w =
    ap (λ b. cond b (pass_after (pass_now W w.step.pass) w) (pass_now W w.step.pass)) (same_pass-refl w.step.pass) in
    set-table before after n w.step.pass.0 (pass_after (get_or (passes_now n W) w.step.pass.0 new_pass_now) w) known
    (ap (λ x. pass_after x w) (get-table before n w.step.pass.0 new_pass_now known) ∙ sym own)
    (λ j ne. sym (ap (λ b. cond b (pass_after (before j) w) (before j)) (other_pass w.step.pass (record { 0 = j }) ne)))

-- a step that its line names was noted
module _ (size : Size) (W : List Numbered) (w : Numbered) (to : w.step.pass.0 ≤ size.passes) (passes : List PassNow) (kept : passes ≡ all_passes size W) where
  pub passes_noted : (new : List PassNow) → new ≡ set passes w.step.pass.0 (pass_after (get_or passes w.step.pass.0 new_pass_now) w) → new ≡ all_passes size (w ∷ W)
  passes_noted new noted =
      noted ∙ ap (λ ps. set ps w.step.pass.0 (pass_after (get_or ps w.step.pass.0 new_pass_now) w)) kept ∙ passes_more w W (size.passes + 1) (omega (arith, to))

  pub noted_inside : (x : Inside) → x ≡ (get_or passes w.step.pass.0 new_pass_now).inside → x ≡ inside (run_of W) w.step.pass
  noted_inside x is =
      is ∙ ap (λ ps. (get_or ps w.step.pass.0 new_pass_now).inside) kept
      ∙ ap (λ (now : PassNow). now.inside) (get-table (λ p. pass_now W (record { 0 = p })) (size.passes + 1) w.step.pass.0 new_pass_now (omega (arith, to)))
      ∙ inside_is w.step.pass W

-- a step is described within its call
pub reported_in_call : (E : List Made) (m : Made) (x : Inside) (status : Option NtStatus) → x ≡ inside E m.pass → status ≡ status_at E m.kind
    → record { made = m; inside = x; status = status } ≡ in_call E m
reported_in_call E m x status a b =
    let reported : Inside → Option NtStatus → StepInCall = λ y s. record { made = m; inside = y; status = s } in
    ap (λ y. reported y status) a ∙ ap (reported (inside E m.pass)) b
