-- An execution of the headline is a run.
use Rattle.std.proofs.Common.{◌≡◌, ◌⊎◌, inl, inr, ℕ, zero, suc, Bool, true, false, cond, true≢false, List, [], ◌∷◌, ◌++◌, Option, Some, None, refl, sym, ap, ◌∙◌, subst}
use Rattle.irp_core.proofs.Growing.{run_none, run_more}
use Rattle.irp_core.proofs.Names.{same_pass-eq, same_irp-refl}
use Rattle.irp_core.specs.Inside.{inside, inside_after, has_lock, follows}
use Rattle.irp_core.specs.Runs.{Size, IsRun}
use Rattle.irp_core.specs.Steps.{same_pass}
use Rattle.irp_core.specs.declared.ids.{IrpLife.{IrpLife}, PassId.{PassId}}
use Rattle.irp_core.specs.declared.inside.Inside.{Inside, TheVariants.{Nothing, Armed, Removing, Cancelling, Rearmed, FlagSeenAgain}}
use Rattle.irp_core.specs.declared.inside.Inside.TheVariants as inner
use Rattle.irp_core.specs.declared.step.Made.{Made}
use Rattle.irp_core.specs.declared.step.Kind.{Kind, TheVariants.{Arm, Test, Disarm, End, Flag, Take, Done, Renew, Rearm}}
use Rattle.irp_core.specs.declared.step.Kind.TheVariants as step
use Rattle.csq_words.specs.declared.views.{Event.{Event}, Tick.{Tick, TheVariants.{Enters, Leaves, Makes, Says}}}
use Rattle.csq_words.specs.Queue.{QueueState}
use Rattle.csq_words.specs.Records.{entries_of}
use Rattle.csq_words.specs.Traces.{steps_in, caller_in}
use Rattle.csq_words.proofs.Traced.{steps_says, caller_says}
use Rattle.csq_theorem.specs.Headline.{adding, Adds, IsFree, IsExecution}
use Rattle.csq_theorem.specs.Headline.Adds.{insert_arms, insert_ends, insert_sees_flag, insert_leaves_it, insert_takes_back, removal_misses, removal_takes, removal_ends, routine_takes_out, put_back_arms, put_back_ends, put_back_sees_flag, put_back_leaves_it, put_back_takes_back, reuse_renews}
use Rattle.csq_theorem.specs.Headline.IsExecution.{begins, enters, leaves, makes_free, makes_locked, notes}
use Rattle.csq_theorem.specs.Laws.{ExecutionsAreRuns}
use Rattle.csq_theorem.proofs.Executions.{adding_is}
use Rattle.csq_theorem.proofs.Traces.{lockless, needs_none}

steps_adding : (p : PassId) (es : List Event) (trace : List Tick) → steps_in (adding p es trace) ≡ steps_in trace
steps_adding p es trace = ap steps_in (adding_is p es trace) ∙ steps_says (entries_of p es) trace

caller_adding : (p : PassId) (es : List Event) (trace : List Tick) → caller_in (adding p es trace) ≡ caller_in trace
caller_adding p es trace = ap caller_in (adding_is p es trace) ∙ caller_says (entries_of p es) trace

-- the step is a next one
removing_next : (s : Inside) (k : Kind) → (s ≡ Nothing) ⊎ (s ≡ Removing) → follows Nothing k ≡ true → follows Removing k ≡ true → follows s k ≡ true
removing_next s k (inl is) a b = ap (λ x. follows x k) is ∙ a
removing_next s k (inr is) a b = ap (λ x. follows x k) is ∙ b

next_of : (u : QueueState) (s : Inside) (k : Kind) (v : ℕ) (es : List Event) → Adds u s k v es → follows s k ≡ true
next_of u s k v es (insert_arms i v' is) = refl
next_of u s k v es (insert_ends i f place is) = same_irp-refl i
next_of u s k v es (insert_sees_flag i v' is) = same_irp-refl i
next_of u s k v es (insert_leaves_it i f place is) = same_irp-refl i
next_of u s k v es (insert_takes_back i f place v' is) = same_irp-refl i
next_of u s k v es (removal_misses s' i in') = removing_next s' (Disarm i) in' refl refl
next_of u s k v es (removal_takes s' i v' e in' which) = removing_next s' (Disarm i) in' refl refl
next_of u s k v es (removal_ends s' v' e in' which) = removing_next s' End in' refl refl
next_of u s k v es (routine_takes_out i v' is) = refl
next_of u s k v es (put_back_arms i v') = refl
next_of u s k v es (put_back_ends i f place) = same_irp-refl i
next_of u s k v es (put_back_sees_flag i v') = same_irp-refl i
next_of u s k v es (put_back_leaves_it i f place) = same_irp-refl i
next_of u s k v es (put_back_takes_back i f place v') = same_irp-refl i
next_of u s k v es (reuse_renews i life v' later) = refl

free_next : (s : Inside) (k : Kind) → IsFree s k → follows s k ≡ true
free_next Nothing (Flag i) free = refl
free_next Nothing (Done i) free = refl
free_next (Cancelling j) (Take i) free = subst (λ (x : IrpLife). follows (Cancelling x) (Take i) ≡ true) free (same_irp-refl i)
free_next s k free = absurd free

-- without the lock before, a free step takes none
stays_free : (s : Inside) (k : Kind) (v : ℕ) → IsFree s k → has_lock (inside_after s k v) ≡ false
stays_free Nothing (Flag i) v free = refl
stays_free Nothing (Done i) v free = refl
stays_free (Cancelling j) (Take i) v free = refl
stays_free s k v free = absurd free

some_is : (p q : PassId) → Some p ≡ Some q → p ≡ q
some_is p q e = cc

-- the pass that has the lock is in a call
in_call : (size : Size) (trace : List Tick) → IsExecution size trace → (q : PassId) → has_lock (inside (steps_in trace) q) ≡ true → caller_in trace ≡ Some q
in_call size trace begins q has = absurd (true≢false (sym has))
in_call size trace (enters p t free rest) q has = let in' = in_call size t rest q has in absurd cc
in_call size trace (leaves p t in' done rest) q has =
    let same = some_is p q (sym in' ∙ in_call size t rest q has) in
    absurd (true≢false (sym has ∙ subst (λ (x : PassId). has_lock (inside (steps_in t) x) ≡ false) same (lockless (inside (steps_in t) p) done)))
in_call size trace (makes_free m t alone free known may found rest) q has = go (in_call size t rest q) (same_pass m.pass q) refl has
  where
    go : (has_lock (inside (steps_in t) q) ≡ true → caller_in t ≡ Some q) → (b : Bool) → same_pass m.pass q ≡ b → has_lock (cond b (inside_after (inside (steps_in t) q) m.kind m.found) (inside (steps_in t) q)) ≡ true → caller_in t ≡ Some q
    go rest' false e h = rest' h
    go rest' true e h =
        let same = same_pass-eq m.pass q e in
        absurd (true≢false (sym h ∙ subst (λ (x : PassId). has_lock (inside_after (inside (steps_in t) x) m.kind m.found) ≡ false) same (stays_free (inside (steps_in t) m.pass) m.kind m.found free)))
in_call size trace (makes_locked m es t in' adds known may found rest) q has =
    caller_adding m.pass es (Makes m ∷ t) ∙ go (in_call size t rest q) (same_pass m.pass q) refl (ap (λ E. has_lock (inside E q)) (sym (steps_adding m.pass es (Makes m ∷ t))) ∙ has)
  where
    go : (has_lock (inside (steps_in t) q) ≡ true → caller_in t ≡ Some q) → (b : Bool) → same_pass m.pass q ≡ b → has_lock (cond b (inside_after (inside (steps_in t) q) m.kind m.found) (inside (steps_in t) q)) ≡ true → caller_in t ≡ Some q
    go rest' false e h = rest' h
    go rest' true e h = in' ∙ ap Some (same_pass-eq m.pass q e)
in_call size trace (notes p e t in' outside noted rest) q has = in_call size t rest q has

-- the steps of an execution are a run
pub is_run : ExecutionsAreRuns
is_run size trace begins = run_none size
is_run size trace (enters p t free rest) = is_run size t rest
is_run size trace (leaves p t in' done rest) = is_run size t rest
is_run size trace (makes_free m t alone free known may found rest) =
    run_more size m (steps_in t) (is_run size t rest) (record {
      known = known;
      alone = λ needs q has. absurd (true≢false (sym needs ∙ needs_none (inside (steps_in t) m.pass) m.kind free));
      next = free_next (inside (steps_in t) m.pass) m.kind free;
      owned = may;
      found = found;
    })
is_run size trace (makes_locked m es t in' adds known may found rest) =
    subst (IsRun size) (sym (steps_adding m.pass es (Makes m ∷ t))) (run_more size m (steps_in t) (is_run size t rest) (record {
      known = known;
      alone = λ needs q has. some_is q m.pass (sym (in_call size t rest q has) ∙ in');
      next = next_of _ (inside (steps_in t) m.pass) m.kind m.found es adds;
      owned = may;
      found = found;
    }))
is_run size trace (notes p e t in' outside noted rest) = is_run size t rest
