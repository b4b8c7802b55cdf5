-- How many calls the threads of a plan make in all.
use Rattle.std.proofs.Common.{◌≡◌, ℕ, zero, suc, ◌+◌, ◌-◌, ◌*◌, ◌<◌, ◌≤◌, cond, Bool, true, false, List, [], ◌∷◌, ◌++◌, map, replicate, min, refl, sym, ap, ◌∙◌, ⊎_elim, arith, zero-add}
use Rattle.std.specs.Prelude.{nat_lt}
use Rattle.std.proofs.lemmas.Nat.{mul-le}
use Rattle.std.proofs.Math.Nat.{min-eq_left, min-eq_right, min-le_left, zero-min, min-zero, mul-suc, suc-mul, mul-le-mul_right, mul_comm}
use Rattle.std.proofs.Math.Numerals.{suc-eq-add-one}
use Rattle.csq_device.proofs.Imports.{range_with_len, cases_lt, lt-ltb, le-ltb, Size, PassRecord, tally, Plan, CallsByKind, Role, Submitter, Worker, Canceller, BusyWorker, turns_with_irp, inserts_by, removals_by, cancels_by, put_backs_by, total_by, AreFew, AreCallsOfAll, duties_from, AreNumbered, AreCallsOf, IsTurns, Submits, Cancels, PutsOneBack, PutsEachBack, roles_in}
use Rattle.csq_device.proofs.Handing.{sum_from, sum_same, sum_zero}

-- where just the first `count` numbers below n pass, so many do
tally_first : (f : ℕ → Bool) (count n : ℕ) → count ≤ n → ((k : ℕ) → k < count → f k ≡ true) → ((k : ℕ) → count ≤ k → k < n → f k ≡ false) → tally f n ≡ count
tally_first f count zero few pass fail = omega arith
tally_first f count (suc n) few pass fail = ⊎_elim
    (λ (l : n < count).
    let rest : tally f n ≡ n = tally_first f n n (omega arith) (λ k b. pass k (omega arith)) (λ k a b. absurd (none k n a b)) in
    let all : count ≡ suc n = omega arith in
    ap (λ b. cond b (suc (tally f n)) (tally f n)) (pass n l) ∙ (ap (λ (t : ℕ). suc t) rest ∙ sym all))
    (λ (h : count ≤ n).
    ap (λ b. cond b (suc (tally f n)) (tally f n)) (fail n h (omega arith)) ∙ tally_first f count n h pass (λ k a b. fail k a (omega arith)))
    (cases_lt n count)
  where
    none : (k n : ℕ) → n ≤ k → k < n → ⊥
    none k n a b = omega arith

-- a thread takes so many turns as it has IRPs for
turns_are : (irps turns first step count : ℕ) → IsTurns irps turns first step count → tally (λ turn. nat_lt (first + turn * step) irps) turns ≡ count
turns_are irps turns first step count h = tally_first (λ turn. nat_lt (first + turn * step) irps) count turns h.most
    (λ k l. lt-ltb (first + k * step) irps (has k l))
    (λ k a b. le-ltb (first + k * step) irps (has_none k a b))
  where
    grows : (k j : ℕ) → k ≤ j → k * step ≤ j * step
    grows k j l = mul-le-mul_right step l

    has : (k : ℕ) → k < count → first + k * step < irps
    has k l = ⊎_elim
        (λ (e : count ≡ 0). absurd (below e))
        (λ (inside : suc (first + count * step) ≤ irps + step).
        let next : suc k * step ≤ count * step = grows (suc k) count (omega (arith, l)) in
        let more : suc k * step ≡ k * step + step = suc-mul k step in
        omega (arith, inside, next, more))
        h.inside
      where
        below : count ≡ 0 → ⊥
        below e = omega (arith, l, e)

    has_none : (k : ℕ) → count ≤ k → k < turns → irps ≤ first + k * step
    has_none k a b = ⊎_elim
        (λ (e : count ≡ turns). absurd (past e))
        (λ (last : irps ≤ first + count * step). let more = grows count k a in omega (arith, last, more))
        h.last
      where
        past : count ≡ turns → ⊥
        past e = omega (arith, a, b, e)

-- what a submitter, a worker and a canceller count
pub submitter_calls : (plan : Plan) (first made : ℕ) (old new : PassRecord) → Submits plan first made old new → made ≡ turns_with_irp plan first plan.submitters
submitter_calls plan first made old new h = h.made_is ∙ sym (turns_are plan.irps plan.turns first plan.submitters _ h.turns)

pub canceller_calls : (size : Size) (plan : Plan) (first made : ℕ) (old new : PassRecord) → Cancels size plan first made old new → made ≡ turns_with_irp plan first plan.cancellers
canceller_calls size plan first made old new h = sym (turns_are plan.irps plan.turns first plan.cancellers made h.turns)

-- and a busy worker at most
one_back_count : (count : ℕ) (old new : PassRecord) → PutsOneBack count old new → count ≤ 1
one_back_count count old new h = ⊎_elim (λ none_got. let zero' = none_got.0 in omega arith) (λ got. let one = got.0 in omega arith) h

pub busy_worker_calls : (turns made : ℕ) (old new : PassRecord) → PutsEachBack turns made old new → made ≤ turns
busy_worker_calls zero made old new h = let zero' = h.0 in omega arith
busy_worker_calls (suc turn) made old new (mid, before, count, sum, earlier, last) =
    let less = busy_worker_calls turn before old mid earlier in
    let one = one_back_count count mid new last in
    omega (arith, sum, less, one)

sum_both : (f g : ℕ → ℕ) (from n : ℕ) → sum_from (λ k. f k + g k) from n ≡ sum_from f from n + sum_from g from n
sum_both f g from zero = omega arith
sum_both f g from (suc n) = let less = sum_both f g (suc from) n in omega arith

-- 1 for a number that passes
abbrev one_if : Bool → ℕ
one_if true = 1
one_if false = 0

tally_next : (f : ℕ → Bool) (n : ℕ) → tally f (suc n) ≡ tally f n + one_if (f n)
tally_next f n = at (f n)
  where
    at : (b : Bool) → cond b (suc (tally f n)) (tally f n) ≡ tally f n + one_if b
    at true = omega arith
    at false = omega arith

-- of n numbers, those below irps
below_irps : (irps m from n : ℕ) → sum_from (λ k. one_if (nat_lt (k + m) irps)) from n ≡ min n (irps - (from + m))
below_irps irps m from zero = sym (zero-min (irps - (from + m)))
below_irps irps m from (suc n) =
    let less = below_irps irps m (suc from) n in ⊎_elim
    (λ (l : from + m < irps).
    let here = ap one_if (lt-ltb (from + m) irps l) in ⊎_elim
    (λ (few : irps - (suc from + m) < n).
    let a = min-eq_right {n = irps - (suc from + m)} {m = n} (omega (arith, few)) in
    let b = min-eq_right {n = irps - (from + m)} {m = suc n} (omega (arith, few)) in
    omega (arith, less, here, a, b, l))
    (λ (all : n ≤ irps - (suc from + m)).
    let a = min-eq_left {n = n} {m = irps - (suc from + m)} all in
    let b = min-eq_left {n = suc n} {m = irps - (from + m)} (omega (arith, all, l)) in
    omega (arith, less, here, a, b))
    (cases_lt (irps - (suc from + m)) n))
    (λ (h : irps ≤ from + m).
    let here = ap one_if (le-ltb (from + m) irps h) in
    let a = min-eq_right {n = irps - (suc from + m)} {m = n} (omega (arith, h)) in
    let b = min-eq_right {n = irps - (from + m)} {m = suc n} (omega (arith, h)) in
    omega (arith, less, here, a, b, h))
    (cases_lt (from + m) irps)

-- one turn more of each
min_more : (irps step turns : ℕ) → min irps (step * turns) + min step (irps - turns * step) ≡ min irps (step * suc turns)
min_more irps step turns = ⊎_elim
    (λ (l : step * turns < irps). ⊎_elim
    (λ (few : irps - turns * step < step).
    let a = min-eq_right {n = step * turns} {m = irps} (omega (arith, l)) in
    let b = min-eq_right {n = irps - turns * step} {m = step} (omega (arith, few)) in
    let c = min-eq_left {n = irps} {m = step * suc turns} (omega (arith, few, next, turned)) in
    omega (arith, a, b, c, turned, l))
    (λ (all : step ≤ irps - turns * step).
    let a = min-eq_right {n = step * turns} {m = irps} (omega (arith, l)) in
    let b = min-eq_left {n = step} {m = irps - turns * step} all in
    let c = min-eq_right {n = step * suc turns} {m = irps} (omega (arith, all, next, turned, l)) in
    omega (arith, a, b, c, next))
    (cases_lt (irps - turns * step) step))
    (λ (h : irps ≤ step * turns).
    let a = min-eq_left {n = irps} {m = step * turns} h in
    let b = min-eq_right {n = irps - turns * step} {m = step} (omega (arith, h, turned)) in
    let c = min-eq_left {n = irps} {m = step * suc turns} (omega (arith, h, next)) in
    omega (arith, a, b, c, h, turned))
    (cases_lt (step * turns) irps)
  where
    turned : turns * step ≡ step * turns
    turned = mul_comm turns step

    next : step * suc turns ≡ step * turns + step
    next = mul-suc step turns

-- all threads of a kind that share the IRPs, as many as the step is long
shared_turns : (irps step turns : ℕ) → sum_from (λ first. tally (λ turn. nat_lt (first + turn * step) irps) turns) 0 step ≡ min irps (step * turns)
shared_turns irps step zero = sum_zero 0 step ∙ sym (ap (λ (n : ℕ). min irps n) (none step) ∙ min-zero irps)
  where
    none : (n : ℕ) → n * zero ≡ zero
    none n = omega arith
shared_turns irps step (suc turns) =
    let with_irp : ℕ → ℕ → Bool = λ first turn. nat_lt (first + turn * step) irps in
    sum_same (λ first. tally (with_irp first) (suc turns)) (λ first. tally (with_irp first) turns + one_if (with_irp first turns)) 0 step (λ first l. tally_next (with_irp first) turns)
    ∙ (sum_both (λ first. tally (with_irp first) turns) (λ first. one_if (with_irp first turns)) 0 step
    ∙ ((λ k. shared_turns irps step turns k + (below_irps irps (turns * step) 0 step ∙ ap (λ (n : ℕ). min step (irps - n)) (zero-add (turns * step))) k)
    ∙ min_more irps step turns))

-- f of each of these roles, summed
abbrev sum_roles : (Role → ℕ) → List Role → ℕ
sum_roles f [] = 0
sum_roles f (r ∷ rs) = f r + sum_roles f rs

sum_roles-append : (f : Role → ℕ) (xs ys : List Role) → sum_roles f (xs ++ ys) ≡ sum_roles f xs + sum_roles f ys
sum_roles-append f [] ys = omega arith
sum_roles-append f (x ∷ xs) ys = let less = sum_roles-append f xs ys in omega arith

sum_roles-range : (f : Role → ℕ) (role : ℕ → Role) (from n : ℕ) → sum_roles f (map role (range_with_len from n)) ≡ sum_from (λ k. f (role k)) from n
sum_roles-range f role from zero = refl
sum_roles-range f role from (suc n) =
    ap (λ (m : ℕ). f (role from) + sum_roles f (map role (range_with_len m n))) (sym (suc-eq-add-one from))
    ∙ ap (λ (m : ℕ). f (role from) + m) (sum_roles-range f role (suc from) n)

sum_roles-same : (f : Role → ℕ) (role : Role) (n : ℕ) → sum_roles f (replicate n role) ≡ n * f role
sum_roles-same f role zero = omega arith
sum_roles-same f role (suc n) = let less = sum_roles-same f role n in let more = suc-mul n (f role) in omega arith

-- the roles of a plan, kind by kind
sum_roles-in : (f : Role → ℕ) (plan : Plan) (inserts removals cancels put_backs : ℕ) → sum_from (λ k. f (Submitter k)) 0 plan.submitters ≡ inserts → plan.workers * f Worker ≡ removals → sum_from (λ k. f (Canceller k)) 0 plan.cancellers ≡ cancels → plan.busy_workers * f BusyWorker ≡ put_backs
    → sum_roles f (roles_in plan) ≡ inserts + removals + cancels + put_backs
sum_roles-in f plan inserts removals cancels put_backs a b c d =
    let submitters = map (λ n. Submitter n) (range_with_len 0 plan.submitters) in
    let workers = replicate plan.workers Worker in
    let cancellers = map (λ n. Canceller n) (range_with_len 0 plan.cancellers) in
    let busy_workers = replicate plan.busy_workers BusyWorker in
    sum_roles-append f (submitters ++ workers ++ cancellers) busy_workers
    ∙ ((λ k. sum_roles-append f (submitters ++ workers) cancellers k + sum_roles f busy_workers)
    ∙ ((λ k. sum_roles-append f submitters workers k + sum_roles f cancellers + sum_roles f busy_workers)
    ∙ (λ k. (sum_roles-range f (λ n. Submitter n) 0 plan.submitters ∙ a) k + (sum_roles-same f Worker plan.workers ∙ b) k + (sum_roles-range f (λ n. Canceller n) 0 plan.cancellers ∙ c) k + (sum_roles-same f BusyWorker plan.busy_workers ∙ d) k)))

-- the duties of these roles
duties-total : (kind : Plan → Role → ℕ) (plan : Plan) (from : ℕ) (roles : List Role) → total_by kind (duties_from plan from roles) ≡ sum_roles (kind plan) roles
duties-total kind plan from [] = refl
duties-total kind plan from (r ∷ rs) = ap (λ (n : ℕ). kind plan r + n) (duties-total kind plan (suc from) rs)

pub duties-numbered : (plan : Plan) (from : ℕ) (roles : List Role) → AreNumbered from (duties_from plan from roles)
duties-numbered plan from [] = tt
duties-numbered plan from (r ∷ rs) = (refl, duties-numbered plan (suc from) rs)

inserts_in : (plan : Plan) → total_by inserts_by (duties_from plan 1 (roles_in plan)) ≡ min plan.irps (plan.submitters * plan.turns)
inserts_in plan =
    duties-total inserts_by plan 1 (roles_in plan)
    ∙ (sum_roles-in (inserts_by plan) plan (min plan.irps (plan.submitters * plan.turns)) 0 0 0 (shared_turns plan.irps plan.submitters plan.turns) (omega arith) (sum_zero 0 plan.cancellers) (omega arith)
    ∙ alone (min plan.irps (plan.submitters * plan.turns)))
  where
    alone : (n : ℕ) → n + 0 + 0 + 0 ≡ n
    alone n = omega arith

removals_in : (plan : Plan) → total_by removals_by (duties_from plan 1 (roles_in plan)) ≡ plan.workers * plan.turns
removals_in plan =
    duties-total removals_by plan 1 (roles_in plan)
    ∙ (sum_roles-in (removals_by plan) plan 0 (plan.workers * plan.turns) 0 0 (sum_zero 0 plan.submitters) refl (sum_zero 0 plan.cancellers) (omega arith)
    ∙ alone (plan.workers * plan.turns))
  where
    alone : (n : ℕ) → 0 + n + 0 + 0 ≡ n
    alone n = omega arith

cancels_in : (plan : Plan) → total_by cancels_by (duties_from plan 1 (roles_in plan)) ≡ min plan.irps (plan.cancellers * plan.turns)
cancels_in plan =
    duties-total cancels_by plan 1 (roles_in plan)
    ∙ (sum_roles-in (cancels_by plan) plan 0 0 (min plan.irps (plan.cancellers * plan.turns)) 0 (sum_zero 0 plan.submitters) (omega arith) (shared_turns plan.irps plan.cancellers plan.turns) (omega arith)
    ∙ alone (min plan.irps (plan.cancellers * plan.turns)))
  where
    alone : (n : ℕ) → 0 + 0 + n + 0 ≡ n
    alone n = omega arith

put_backs_in : (plan : Plan) → total_by put_backs_by (duties_from plan 1 (roles_in plan)) ≡ plan.busy_workers * plan.turns
put_backs_in plan =
    duties-total put_backs_by plan 1 (roles_in plan)
    ∙ (sum_roles-in (put_backs_by plan) plan 0 0 0 (plan.busy_workers * plan.turns) (sum_zero 0 plan.submitters) (omega arith) (sum_zero 0 plan.cancellers) refl
    ∙ alone (plan.busy_workers * plan.turns))
  where
    alone : (n : ℕ) → 0 + 0 + 0 + n ≡ n
    alone n = omega arith

-- what the threads of a plan did in all
pub calls_in : (plan : Plan) (calls : CallsByKind) → AreCallsOfAll (duties_from plan 1 (roles_in plan)) calls → AreCallsOf plan calls
calls_in plan calls h = record {
  inserts = h.inserts ∙ inserts_in plan;
  removals = h.removals ∙ removals_in plan;
  cancels = h.cancels ∙ cancels_in plan;
  put_backs = let most = h.put_backs in let all = put_backs_in plan in omega arith;
  raced = h.raced;
}

pub calls_few : (plan : Plan) → AreFew (duties_from plan 1 (roles_in plan))
calls_few plan = record {
  inserts = let e = inserts_in plan in let l = min-le_left plan.irps (plan.submitters * plan.turns) in let r = plan.in_range.irps_in_range.1 in omega arith;
  removals = let e = removals_in plan in let l = mul-le plan.workers plan.turns 20 100000 plan.in_range.workers_in_range.1 plan.in_range.turns_in_range.1 in omega arith;
  cancels = let e = cancels_in plan in let l = min-le_left plan.irps (plan.cancellers * plan.turns) in let r = plan.in_range.irps_in_range.1 in omega arith;
  put_backs = let e = put_backs_in plan in let l = mul-le plan.busy_workers plan.turns 20 100000 plan.room.most plan.in_range.turns_in_range.1 in omega arith;
}
