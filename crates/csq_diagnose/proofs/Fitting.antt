-- Words that fit the places of a line.
use Rattle.std.proofs.Common.{ℕ, zero, suc, ◌≤◌, Bool, true, false, List, [], ◌∷◌, ◌++◌, take, drop, length, map, refl, inl, inr, arith, rules, codes, decimal}
use Rattle.irp_core.specs.Texts.{irp_text, pass_text}
use Rattle.csq_diagnose.proofs.Imports.{◌||◌, if◌then◌else◌, bytes_eq, Expected, Pass, Step, ScriptCall, IrpInLife, Irp, File, Peek, Place, Status, Nothing, Admits, Fit, expected_at, named, operands}

-- a word that may stand there
abbrev pub sample : Expected → List ℕ
sample Pass = pass_text (record { 0 = 1 })
sample Step = codes "end"
sample ScriptCall = codes "flag"
sample IrpInLife = irp_text (record { 0 = 0 })
sample Irp = decimal 0
sample File = decimal 0
sample Peek = codes "*"
sample Place = codes "back"
sample Status = codes "00000000"
sample Nothing = []

abbrev pub samples : List Expected → List (List ℕ)
samples es = map sample es

-- each place has such a word
abbrev pub AreFillable : List Expected → Type 0
AreFillable [] = Unit {0}
AreFillable (e ∷ es) = Admits e (sample e) × AreFillable es

fillable_if : (b : Bool) (xs ys : List Expected) → AreFillable xs → AreFillable ys → AreFillable (if b then xs else ys)
fillable_if true xs ys f g = f
fillable_if false xs ys f g = g

pub fillable_drop : (n : ℕ) (es : List Expected) → AreFillable es → AreFillable (drop n es)
fillable_drop zero es f = f
fillable_drop (suc n) [] f = f
fillable_drop (suc n) (e ∷ es) f = fillable_drop n es f.1

pub fit_samples : (es : List Expected) → AreFillable es → Fit es (samples es)
fit_samples [] f = tt
fit_samples (e ∷ es) f = (f.0, fit_samples es f.1)

-- words that fit the first places, and words that fit the others
pub fit_append : (n : ℕ) (es : List Expected) (xs ys : List (List ℕ)) → Fit (take n es) xs → Fit (drop n es) ys → Fit es (xs ++ ys)
fit_append zero es [] ys f g = g
fit_append zero es (x ∷ xs) ys f g = absurd f
fit_append (suc n) [] [] ys f g = g
fit_append (suc n) [] (x ∷ xs) ys f g = absurd f
fit_append (suc n) (e ∷ es) [] ys f g = absurd f
fit_append (suc n) (e ∷ es) (x ∷ xs) ys f g = (f.0, fit_append n es xs ys f.1 g)

-- of words that fit, the one after words that fit the first n places
pub fit_at : (n : ℕ) (es : List Expected) (xs more : List (List ℕ)) (w : List ℕ) → Fit (take n es) xs → n ≤ length es → Fit es (xs ++ w ∷ more) → Admits (expected_at es n) w
fit_at zero [] [] more w f lt g = absurd g
fit_at zero (e ∷ es) [] more w f lt g = g.0
fit_at zero es (x ∷ xs) more w f lt g = absurd f
fit_at (suc n) [] xs more w f lt g = absurd (omega (arith, lt))
fit_at (suc n) (e ∷ es) [] more w f lt g = absurd f
fit_at (suc n) (e ∷ es) (x ∷ xs) more w f lt g = fit_at n es xs more w f.1 (omega (arith, lt)) g.1

-- a word that may stand there, and then words that may follow
pub fit_from : (n : ℕ) (es : List Expected) (w : List ℕ) → AreFillable es → Admits (expected_at es n) w → Fit (drop n es) (w ∷ samples (drop (suc n) es))
fit_from zero [] w f a = absurd a
fit_from zero (e ∷ es) w f a = (a, fit_samples es f.1)
fit_from (suc n) [] w f a = absurd a
fit_from (suc n) (e ∷ es) w f a = fit_from n es w f.1 a

pub pass_sample : Admits Pass (sample Pass)
pass_sample = (record { 0 = 1 }, (refl, omega arith))

pub step_sample : Admits Step (codes "end")
step_sample = inr (inr (inr (inl refl)))

pub call_sample : Admits ScriptCall (codes "flag")
call_sample = inr (inr (inr (inr (inr (inr (inr (inr (inr (inl refl)))))))))

pub irp_sample : Admits Irp (decimal 0)
irp_sample = (0, (refl, omega arith))

life_sample : Admits IrpInLife (sample IrpInLife)
life_sample = (record { irp = record { 0 = 0 }; life = record { 0 = 0 } }, inl (refl, omega arith, refl))

status_sample : Admits Status (codes "00000000")
status_sample = (record { 0 = 0 }, (refl, search rules, search rules))

-- each place after the first words of a line has a word that may stand there
pub fillable_named : (verb : List ℕ) → AreFillable (named verb)
fillable_named verb = fillable_if (bytes_eq verb (codes "end")) [] (IrpInLife ∷ []) tt (life_sample, tt)

pub fillable_operands : (name : List ℕ) → AreFillable (operands name)
fillable_operands name =
    let is = λ (word : List ℕ). bytes_eq name word in
    let numbers = if is (codes "close") || is (codes "cleanup") then File ∷ [] else Irp ∷ [] in
    let lives = if is (codes "remove") || is (codes "mark") || is (codes "cancel") then IrpInLife ∷ [] else numbers in
    let places = if is (codes "put_back") then Irp ∷ Place ∷ [] else lives in
    let statuses = if is (codes "complete") then Irp ∷ Status ∷ [] else places in
    let peeks = if is (codes "next") then Peek ∷ [] else statuses in
    fillable_if (is (codes "insert")) (Irp ∷ File ∷ Place ∷ []) peeks (irp_sample, (irp_sample, (inl refl, tt)))
    (fillable_if (is (codes "next")) (Peek ∷ []) statuses (inl refl, tt)
    (fillable_if (is (codes "complete")) (Irp ∷ Status ∷ []) places (irp_sample, (status_sample, tt))
    (fillable_if (is (codes "put_back")) (Irp ∷ Place ∷ []) lives (irp_sample, (inl refl, tt))
    (fillable_if (is (codes "remove") || is (codes "mark") || is (codes "cancel")) (IrpInLife ∷ []) numbers (life_sample, tt)
    (fillable_if (is (codes "close") || is (codes "cleanup")) (File ∷ []) (Irp ∷ []) (irp_sample, tt) (irp_sample, tt))))))
