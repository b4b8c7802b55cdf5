-- A text that grows line by line.
use Rattle.std.proofs.Common.{◌≡◌, ℕ, List, ◌++◌, Result, Ok, Err, ap, ◌∙◌, append_assoc}
use Rattle.std.specs.Prelude.{OnOk}

-- some, and then some more
pub grown : (old mid new xs ys : List ℕ) → mid ≡ old ++ xs → new ≡ mid ++ ys → new ≡ old ++ (xs ++ ys)
grown old mid new xs ys some more = more ∙ (ap (λ (t : List ℕ). t ++ ys) some ∙ append_assoc old xs ys)

-- and then the last
pub grown_last : {T E : Type 0} (r : Result T E) (old mid new xs ys : List ℕ) → mid ≡ old ++ xs → OnOk r (new ≡ mid ++ ys) → OnOk r (new ≡ old ++ (xs ++ ys))
grown_last (Ok v) old mid new xs ys some more = grown old mid new xs ys some more
grown_last (Err e) old mid new xs ys some more = more
