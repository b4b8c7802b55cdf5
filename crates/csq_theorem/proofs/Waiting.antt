-- A pass that waits for a fair lock has fewer passes in front of it than there are.
use Rattle.std.proofs.Common.{◌≡◌, ℕ, suc, ◌+◌, ◌<◌, ◌≤◌, ◌||◌, Bool, true, false, true≢false, List, [], ◌∷◌, ◌++◌, drop, map, length, append_assoc, refl, sym, ap, ◌∙◌, subst, arith}
use Rattle.std.proofs.lemmas.Bool.{or_parts}
use Rattle.std.proofs.lemmas.List.{length-append, length-map}
use Rattle.irp_core.proofs.Names.{same_pass-refl, same_id-eq}
use Rattle.irp_core.specs.Steps.{same_id, same_pass}
use Rattle.irp_core.specs.declared.ids.{IrpId.{IrpId}, IrpLife.{IrpLife}, PassId.{PassId}}
use Rattle.csq_words.proofs.Imports.{false_from_ne_true}
use Rattle.csq_queue.specs.Counts.{AreApart, has_life}
use Rattle.csq_queue.proofs.Counting.{apart_most}
use Rattle.csq_theorem.specs.Waiting.{Turn, waiting, is_among, IsFair, got, ACallWaitsForFewOthers}
use Rattle.csq_theorem.specs.Waiting.Turn.{Asks, Gets}
use Rattle.csq_theorem.specs.Waiting.IsFair.{begins, asks, gets}

-- passes are counted as IRPs of the same numbers
abbrev id_of : ℕ → IrpId
id_of n = record { 0 = n }

abbrev as_irps : List PassId → List IrpLife
as_irps ps = map (λ (p : PassId). record { irp = id_of p.0; life = record { 0 = 0 } }) ps

neither : (a b : Bool) → a ≡ false → b ≡ false → (a || b) ≡ false
neither a b none none' = (λ k. none k || none' k)

numbered : (p q : PassId) → p.0 ≡ q.0 → p ≡ q
numbered p q same = let pass_of : ℕ → PassId = λ n. record { 0 = n } in ap pass_of same

other_id : (p q : PassId) → same_pass q p ≡ false → same_id (id_of p.0) (id_of q.0) ≡ false
other_id p q other = false_from_ne_true (same_id (id_of p.0) (id_of q.0)) (λ same.
    let is = numbered q p (sym (ap (λ (n : IrpId). n.0) (same_id-eq (id_of p.0) (id_of q.0) same))) in
    true≢false (sym (ap (λ x. same_pass x p) is ∙ same_pass-refl p) ∙ other))

-- one pass more at the end has no number that was not there, but its own
none_more : (ps : List PassId) (p : PassId) (n : IrpId) → has_life (as_irps ps) n ≡ false → same_id (id_of p.0) n ≡ false → has_life (as_irps (ps ++ p ∷ [])) n ≡ false
none_more [] p n none other = neither (same_id (id_of p.0) n) false other refl
none_more (q ∷ ps) p n none other =
    let parts = or_parts (same_id (id_of q.0) n) (has_life (as_irps ps) n) none in
    neither (same_id (id_of q.0) n) (has_life (as_irps (ps ++ p ∷ [])) n) parts.0 (none_more ps p n parts.1 other)

apart_more : (n : ℕ) (ps : List PassId) (p : PassId) → p.0 < n → is_among ps p ≡ false → AreApart n (as_irps ps) → AreApart n (as_irps (ps ++ p ∷ []))
apart_more n [] p known none apart = (known, refl, tt)
apart_more n (q ∷ ps) p known none apart =
    let parts = or_parts (same_pass q p) (is_among ps p) none in
    (apart.0, none_more ps p (id_of q.0) apart.1 (other_id p q parts.0), apart_more n ps p known parts.1 apart.2)

-- each pass that waits is one of these, and waits once
record IsLine (passes : ℕ) (ps : List PassId) : Type 0 where
  apart : AreApart (suc passes) (as_irps ps)
  positive : has_life (as_irps ps) (id_of 0) ≡ false

is_line : (passes : ℕ) (turns : List Turn) → IsFair passes turns → IsLine passes (waiting turns)
is_line passes turns begins = record { apart = tt; positive = refl }
is_line passes turns (asks p before from to none rest) =
    let line = is_line passes before rest in record {
      apart = apart_more (suc passes) (waiting before) p (omega (arith, to)) none line.apart;
      positive = none_more (waiting before) p (id_of 0) line.positive (false_from_ne_true (same_id (id_of p.0) (id_of 0)) (λ same.
          let zero_is : p.0 ≡ 0 = ap (λ (n : IrpId). n.0) (same_id-eq (id_of p.0) (id_of 0) same) in absurd (omega (arith, from, zero_is))));
    }
is_line passes turns (gets p others before first rest) = subst (IsLine passes) (sym (ap (drop 1) first)) (tail (subst (IsLine passes) first (is_line passes before rest)))
  where
    tail : IsLine passes (p ∷ others) → IsLine passes others
    tail line = record { apart = line.apart.2; positive = (or_parts (same_id (id_of p.0) (id_of 0)) (has_life (as_irps others) (id_of 0)) line.positive).1 }

-- no more wait than there are passes
few : (passes : ℕ) (ps : List PassId) → IsLine passes ps → length ps ≤ passes
few passes ps line =
    let zero_irp : IrpLife = record { irp = id_of 0; life = record { 0 = 0 } } in
    let most = apart_most (suc passes) (zero_irp ∷ as_irps ps) (omega arith, line.positive, line.apart) in
    let count : length (as_irps ps) ≡ length ps = length-map ps _ in
    omega (arith, most, count)

-- where p stands, after these turns since it asked
record StandsIn (p : PassId) (since : List Turn) (line : List PassId) (length_was : ℕ) : Type 0 where
  front : List PassId
  back : List PassId
  line_is : line ≡ front ++ (p ∷ back)
  moved : length front + length (got since) ≡ length_was

fair_before : (passes : ℕ) (since before : List Turn) → IsFair passes (since ++ before) → IsFair passes before
fair_before passes [] before fair = fair
fair_before passes (Asks q ∷ since) before (asks q' turns from to none rest) = fair_before passes since before rest
fair_before passes (Gets q ∷ since) before (gets q' others turns first rest) = fair_before passes since before rest

stands_in : (passes : ℕ) (p : PassId) (since before : List Turn) → IsFair passes (since ++ (Asks p ∷ before)) → is_among (got since) p ≡ false → StandsIn p since (waiting (since ++ (Asks p ∷ before))) (length (waiting before))
stands_in passes p [] before fair none = record { front = waiting before; back = []; line_is = refl; moved = omega arith }
stands_in passes p (Asks q ∷ since) before (asks q' turns from to new rest) none =
    let was = stands_in passes p since before rest none in
    record { front = was.front; back = was.back ++ q ∷ []; line_is = ap (λ l. l ++ q ∷ []) was.line_is ∙ append_assoc was.front (p ∷ was.back) (q ∷ []); moved = was.moved }
stands_in passes p (Gets q ∷ since) before (gets q' others turns first rest) none =
    let parts = or_parts (same_pass q p) (is_among (got since) p) none in
    let was = stands_in passes p since before rest parts.1 in
    subst (λ line. StandsIn p (Gets q ∷ since) line (length (waiting before))) (sym (ap (drop 1) first)) (go was.front was.back (sym first ∙ was.line_is) was.moved)
  where
    is_first : q ≡ p → ⊥
    is_first same = true≢false (sym (ap (λ x. same_pass x p) same ∙ same_pass-refl p) ∙ (or_parts (same_pass q p) (is_among (got since) p) none).0)

    go : (front back : List PassId) → q ∷ others ≡ front ++ (p ∷ back) → length front + length (got since) ≡ length (waiting before) → StandsIn p (Gets q ∷ since) others (length (waiting before))
    go [] back is moved = let same : q ≡ p = cc in absurd (is_first same)
    go (x ∷ front) back is moved = let tail : others ≡ front ++ (p ∷ back) = cc in record { front = front; back = back; line_is = tail; moved = omega (arith, moved) }

got_over : (since before : List Turn) → got (since ++ before) ≡ got since ++ got before
got_over [] before = refl
got_over (Asks q ∷ since) before = got_over since before
got_over (Gets q ∷ since) before = ap (λ l. q ∷ l) (got_over since before)

pub few_others : ACallWaitsForFewOthers
few_others passes trace turns fair entered p since before turns_are none =
    let fair' = subst (IsFair passes) turns_are fair in
    let was = stands_in passes p since before fair' none in
    let line = is_line passes (Asks p ∷ before) (fair_before passes since (Asks p ∷ before) fair') in
    let most = few passes (waiting before ++ p ∷ []) line in
    let long = length-append (waiting before) (p ∷ []) in
    let moved = was.moved in
    (entered ∙ (ap got turns_are ∙ got_over since (Asks p ∷ before)), omega (arith, most, long, moved))
