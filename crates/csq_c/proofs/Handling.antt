-- A call through a handle that is an address alone is a call of what the handle holds.
use Rattle.std.proofs.Common.{◌≡◌, ℕ, Option, Some, None, refl, sym, subst, ◌∙◌}
use Rattle.csq_c.specs.Codes.{number_of}
use Rattle.csq_c.specs.Handled.{LooksAtHandle, OnHandle, OnNumber}
use Rattle.csq_c.specs.declared.codes.Code.{Code, TheVariants.{BadSize}}

pub on_handle : {S : Type 0} (held held' : Option S) (s s' : S) (result : ℕ) (code : Code) (kept : Type 0) (stored : S → S → Code → Type 0)
    → held ≡ Some s → held' ≡ Some s' → result ≡ number_of code → stored s s' code → OnHandle held held' result kept stored
on_handle {S} held held' s s' result code kept stored here there is call = record {
  empty = λ none. absurd (not_empty none);
  called = λ other found. (s', code, there, is, subst (λ (z : S). stored z s' code) (same other found) call);
}
  where
    not_empty : held ≡ None → ⊥
    not_empty none = cc

    same : (other : S) → held ≡ Some other → s ≡ other
    same other found = cc

-- so is a look
pub looks_at : {S : Type 0} (held held' : Option S) (s : S) (result : ℕ) (code : Code) (kept : Type 0) (stored : S → Code → Type 0)
    → held ≡ Some s → held' ≡ Some s → result ≡ number_of code → stored s code → LooksAtHandle held held' result kept stored
looks_at {S} held held' s result code kept stored here there is look = record {
  same = there ∙ sym here;
  empty = λ none. absurd (not_empty none);
  looked = λ other found. (code, is, subst (λ (z : S). stored z code) (same other found) look);
}
  where
    not_empty : held ≡ None → ⊥
    not_empty none = cc

    same : (other : S) → held ≡ Some other → s ≡ other
    same other found = cc

-- a number that stands for nothing is refused
pub no_number : {A : Type 0} (numbered : Option A) (kept : Type 0) (called : A → Type 0) → numbered ≡ None → kept → OnNumber numbered BadSize kept called
no_number {A} numbered kept called none is = record { unknown = λ _. (refl, is); known = λ a found. absurd (not_both a found) }
  where
    not_both : (a : A) → numbered ≡ Some a → ⊥
    not_both a found = cc

-- and a call is made with what it stands for
pub on_number : {A : Type 0} (numbered : Option A) (a : A) (code : Code) (kept : Type 0) (called : A → Type 0) → numbered ≡ Some a → called a → OnNumber numbered code kept called
on_number {A} numbered a code kept called some is = record { unknown = λ none. absurd (not_both none); known = λ other found. subst called (same other found) is }
  where
    not_both : numbered ≡ None → ⊥
    not_both none = cc

    same : (other : A) → numbered ≡ Some other → a ≡ other
    same other found = cc
