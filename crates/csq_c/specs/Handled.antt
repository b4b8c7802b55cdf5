-- What a call through a handle that is an address alone returns to C.
use Rattle.std.specs.Prelude.{◌≡◌, ℕ, Option, Some, None}
use Rattle.csq_c.specs.Codes.{number_of}
use Rattle.csq_c.specs.declared.codes.Code.{Code, TheVariants.{BadSize, EmptyHandle}}

-- a call is as defined for what the handle holds. If it is empty the code says so, and nothing is changed
pub record OnHandle {S : Type 0} (held held' : Option S) (result : ℕ) (kept : Type 0) (stored : S → S → Code → Type 0) : Type 0 where
  pub empty : held ≡ None → (result ≡ number_of EmptyHandle) × (held' ≡ None) × kept
  pub called : (s : S) → held ≡ Some s → (s' : S) × (code : Code) × (held' ≡ Some s') × (result ≡ number_of code) × stored s s' code

-- so is a look, which changes nothing
pub record LooksAtHandle {S : Type 0} (held held' : Option S) (result : ℕ) (kept : Type 0) (stored : S → Code → Type 0) : Type 0 where
  pub same : held' ≡ held
  pub empty : held ≡ None → (result ≡ number_of EmptyHandle) × kept
  pub looked : (s : S) → held ≡ Some s → (code : Code) × (result ≡ number_of code) × stored s code

-- a call with a number is as defined for what the number stands for. If it stands for nothing the code says so, and nothing is changed
pub record OnNumber {A : Type 0} (numbered : Option A) (code : Code) (kept : Type 0) (called : A → Type 0) : Type 0 where
  pub unknown : numbered ≡ None → (code ≡ BadSize) × kept
  pub known : (a : A) → numbered ≡ Some a → called a
