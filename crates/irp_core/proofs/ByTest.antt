-- Proofs by the two values of a test.
use Rattle.std.proofs.Common.{◌≡◌, Bool, true, false, refl}

-- what follows from either value
pub by_test : {P : Type 0} (b : Bool) → (b ≡ true → P) → (b ≡ false → P) → P
by_test true h k = h refl
by_test false h k = k refl

-- the same where the value stands in what is to be proved, which then computes
pub by_value : (P : Bool → Type 0) (b : Bool) → (b ≡ true → P true) → (b ≡ false → P false) → P b
by_value P true h k = h refl
by_value P false h k = k refl
