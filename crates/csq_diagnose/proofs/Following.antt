-- The words that may follow a beginning.
use Rattle.std.proofs.Common.{ℕ, zero, suc, ◌≤◌, List, [], ◌∷◌, ◌++◌, take, drop, length, sym, arith, codes, subst, append_assoc}
use Rattle.csq_diagnose.proofs.Imports.{◌↔◌, Option, Some, None, MatchOption, words_of, IsFirstMisfit, IsMisfit, Expected, Pass, Irp, Admits, Fit, expected_at, named, operands, places_of, AreLineWords, MayBegin}
use Rattle.csq_diagnose.specs.declared.misfit.Misfit.{Misfit}
use Rattle.csq_diagnose.specs.declared.grammar.Grammar.{Grammar}
use Rattle.csq_diagnose.specs.declared.grammar.Grammar.TheVariants.{Schedule, Script}
use Rattle.csq_diagnose.proofs.Fitting.{sample, pass_sample, step_sample, call_sample, irp_sample, samples, AreFillable, fillable_named, fillable_operands, fillable_drop, fit_samples, fit_append, fit_at, fit_from}
use Rattle.csq_diagnose.proofs.Beginning.{step_fits, fits_step, call_line_fits, fits_call}

-- the words that fit the first n of these places may be gone on with
module _ (places : List Expected) (fillable : AreFillable places) (n : ℕ) (xs : List (List ℕ)) (begun : Fit (take n places) xs) (bound : n ≤ length places) where
  -- to the end
  pub ends : Fit places (xs ++ samples (drop n places))
  ends = fit_append n places xs _ begun (fit_samples _ (fillable_drop n places fillable))

  -- with a word that is expected
  pub goes_on : (w : List ℕ) → Admits (expected_at places n) w → Fit places ((xs ++ w ∷ []) ++ samples (drop (suc n) places))
  goes_on w a = subst (λ ws. Fit places ws) (sym (append_assoc xs (w ∷ []) _)) (fit_append n places xs _ begun (fit_from n places w fillable a))

  -- and with no other
  pub expects : (w : List ℕ) (more : List (List ℕ)) → Fit places ((xs ++ w ∷ []) ++ more) → Admits (expected_at places n) w
  expects w more f = fit_at n places xs more w begun bound (subst (λ ws. Fit places ws) (append_assoc xs (w ∷ []) more) f)

-- what is said of a beginning: it is one, and these words may follow it
abbrev pub Begins : Grammar → List (List ℕ) → Expected → Type 0
Begins g xs e = MayBegin g xs × ((w : List ℕ) → MayBegin g (xs ++ w ∷ []) ↔ Admits e w)

-- of a step
pub step_begins : (ws : List (List ℕ)) (n : ℕ) → Fit (take n (places_of Schedule ws)) (take n ws) → n ≤ length (places_of Schedule ws) → Begins Schedule (take n ws) (expected_at (places_of Schedule ws) n)
step_begins ws zero f lt = (
  (sample Pass ∷ codes "end" ∷ [], fits_step _ (pass_sample, (step_sample, tt))),
  λ w. (
    λ may. (step_fits _ may.1).0,
    λ a. (codes "end" ∷ [], fits_step _ (a, (step_sample, tt))),
  ),
)
step_begins [] (suc n) f lt = absurd f
step_begins (p ∷ ws) (suc zero) f lt = (
  (codes "end" ∷ [], fits_step _ (f.0, (step_sample, tt))),
  λ w. (
    λ may. (step_fits _ may.1).1.0,
    λ a. (samples (named w), fits_step _ (f.0, (a, fit_samples (named w) (fillable_named w)))),
  ),
)
step_begins (p ∷ []) (suc (suc n)) f lt = absurd f.1
step_begins (p ∷ v ∷ ws) (suc (suc n)) f lt =
    let fillable = fillable_named v in
    let bound : n ≤ length (named v) = omega (arith, lt) in (
      (samples (drop n (named v)), fits_step _ (f.0, (f.1.0, ends (named v) fillable n (take n ws) f.1.1 bound))),
      λ w. (
        λ may. expects (named v) fillable n (take n ws) f.1.1 bound w may.0 (step_fits _ may.1).1.1,
        λ a. (samples (drop (suc n) (named v)), fits_step _ (f.0, (f.1.0, goes_on (named v) fillable n (take n ws) f.1.1 bound w a))),
      ),
    )

-- of a call
pub call_begins : (ws : List (List ℕ)) (n : ℕ) → Fit (take n (places_of Script ws)) (take n ws) → n ≤ length (places_of Script ws) → Begins Script (take n ws) (expected_at (places_of Script ws) n)
call_begins ws zero f lt = (
  (codes "flag" ∷ sample Irp ∷ [], fits_call _ (call_sample, (irp_sample, tt))),
  λ w. (
    λ may. (call_line_fits _ may.1).0,
    λ a. (samples (operands w), fits_call _ (a, fit_samples (operands w) (fillable_operands w))),
  ),
)
call_begins [] (suc n) f lt = absurd f
call_begins (v ∷ ws) (suc n) f lt =
    let fillable = fillable_operands v in
    let bound : n ≤ length (operands v) = omega (arith, lt) in (
      (samples (drop n (operands v)), fits_call _ (f.0, ends (operands v) fillable n (take n ws) f.1 bound)),
      λ w. (
        λ may. expects (operands v) fillable n (take n ws) f.1 bound w may.0 (call_line_fits _ may.1).1,
        λ a. (samples (drop (suc n) (operands v)), fits_call _ (f.0, goes_on (operands v) fillable n (take n ws) f.1 bound w a)),
      ),
    )

-- of the misfit of a line
of_begins : (g : Grammar) (line : List ℕ) (m : Misfit) → Begins g (take m.before (words_of line)) (expected_at (places_of g (words_of line)) m.before) → IsFirstMisfit (places_of g (words_of line)) line m → IsMisfit g line m
of_begins g line m b is = record {
  begins = b.0;
  next = λ w. subst (λ e. MayBegin g (take m.before (words_of line) ++ w ∷ []) ↔ Admits e w) (sym is.expected) (b.1 w);
  there = is.there;
}

-- by the places of a line its first misfit is one, and where it has none it is a step, or a call
pub is_found : (g : Grammar) (line : List ℕ) (r : Option Misfit) → MatchOption r (Fit (places_of g (words_of line)) (words_of line)) (IsFirstMisfit (places_of g (words_of line)) line) → MatchOption r (AreLineWords g (words_of line)) (IsMisfit g line)
is_found Schedule line None f = fits_step (words_of line) f
is_found Script line None f = fits_call (words_of line) f
is_found Schedule line (Some m) is = of_begins Schedule line m (step_begins (words_of line) m.before is.begun is.bound) is
is_found Script line (Some m) is = of_begins Script line m (call_begins (words_of line) m.before is.begun is.bound) is
