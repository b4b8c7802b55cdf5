-- The beginnings that a line may have.
use Rattle.std.proofs.Common.{◌≡◌, ℕ, List, [], ◌∷◌, refl, ap, sym, ◌∙◌, inl, inr, codes, subst, rules}
use Rattle.irp_core.specs.declared.step.Kind.{Kind}
use Rattle.irp_core.specs.declared.step.Kind.TheVariants.{Arm, Test, Disarm, End, Flag, Take, Out, Done, Renew, Rearm}
use Rattle.csq_list.specs.declared.entry.Place.TheVariants.{Back, Front}
use Rattle.csq_list.specs.declared.entry.Peek.TheVariants.{Any, File as OfFile}
use Rattle.irp_core.specs.declared.ids.IrpLife.{IrpLife}
use Rattle.csq_diagnose.proofs.Imports.{IsNumber, Expected, IrpInLife, Irp, File, Peek, Place, Status, Admits, IsOneOf, Fit, named, operands, places_of, AreLineWords}
use Rattle.csq_replay.specs.StepLine.{verb_of, AreKindWords, IsNameWord}
use Rattle.csq_list.specs.declared.entry.Place.{Place as PlaceOf}
use Rattle.csq_replay.specs.CallLine.{call_name, AreOperands, IsNamed, place_word}
use Rattle.csq_replay.specs.declared.script.call.ScriptCall.{ScriptCall as CallOf}
use Rattle.csq_replay.specs.declared.script.call.ScriptCall.TheVariants as call
use Rattle.csq_explain.specs.Words.{step_words, call_words}
use Rattle.csq_diagnose.specs.declared.grammar.Grammar.TheVariants.{Schedule, Script}

-- what a step does is one of the words
is_step_word : (k : Kind) → IsOneOf step_words (verb_of k)
is_step_word End = inr (inr (inr (inl refl)))
is_step_word _ = search rules

-- the words after the one that says what a step does fit
kind_fits : (k : Kind) (rest : List (List ℕ)) → AreKindWords rest k → (verb : List ℕ) × (more : List (List ℕ)) × (rest ≡ verb ∷ more) × IsOneOf step_words verb × Fit (named verb) more
kind_fits End rest (names, is, none) = (codes "end", names, is, is_step_word End, subst (λ ws. Fit [] ws) (sym none) tt)
kind_fits k rest (names, is, (word, one, n)) = (verb_of k, names, is, is_step_word k, subst (λ ws. Fit (IrpInLife ∷ []) ws) (sym one) ((_, n), tt))

-- words that fit one IRP name it
one_irp : (more : List (List ℕ)) → Fit (IrpInLife ∷ []) more → (i : IrpLife) × (word : List ℕ) × (more ≡ word ∷ []) × IsNameWord word i
one_irp [] f = absurd f
one_irp (w ∷ []) f = (f.0.0, w, refl, f.0.1)
one_irp (w ∷ x ∷ more) f = absurd f.1

none : (more : List (List ℕ)) → Fit [] more → more ≡ []
none [] f = refl
none (w ∷ more) f = absurd f

-- words that fit name a kind of step
kind_named : (verb : List ℕ) (more : List (List ℕ)) → IsOneOf step_words verb → Fit (named verb) more → (k : Kind) × AreKindWords (verb ∷ more) k
kind_named verb more (inl e) f = let n = one_irp more (subst (λ v. Fit (named v) more) e f) in (Arm n.0, (more, ap (λ v. v ∷ more) e, (n.1, n.2, n.3)))
kind_named verb more (inr (inl e)) f = let n = one_irp more (subst (λ v. Fit (named v) more) e f) in (Test n.0, (more, ap (λ v. v ∷ more) e, (n.1, n.2, n.3)))
kind_named verb more (inr (inr (inl e))) f = let n = one_irp more (subst (λ v. Fit (named v) more) e f) in (Disarm n.0, (more, ap (λ v. v ∷ more) e, (n.1, n.2, n.3)))
kind_named verb more (inr (inr (inr (inl e)))) f = (End, (more, ap (λ v. v ∷ more) e, none more (subst (λ v. Fit (named v) more) e f)))
kind_named verb more (inr (inr (inr (inr (inl e))))) f = let n = one_irp more (subst (λ v. Fit (named v) more) e f) in (Flag n.0, (more, ap (λ v. v ∷ more) e, (n.1, n.2, n.3)))
kind_named verb more (inr (inr (inr (inr (inr (inl e)))))) f = let n = one_irp more (subst (λ v. Fit (named v) more) e f) in (Take n.0, (more, ap (λ v. v ∷ more) e, (n.1, n.2, n.3)))
kind_named verb more (inr (inr (inr (inr (inr (inr (inl e))))))) f = let n = one_irp more (subst (λ v. Fit (named v) more) e f) in (Out n.0, (more, ap (λ v. v ∷ more) e, (n.1, n.2, n.3)))
kind_named verb more (inr (inr (inr (inr (inr (inr (inr (inl e)))))))) f = let n = one_irp more (subst (λ v. Fit (named v) more) e f) in (Done n.0, (more, ap (λ v. v ∷ more) e, (n.1, n.2, n.3)))
kind_named verb more (inr (inr (inr (inr (inr (inr (inr (inr (inl e))))))))) f = let n = one_irp more (subst (λ v. Fit (named v) more) e f) in (Renew n.0, (more, ap (λ v. v ∷ more) e, (n.1, n.2, n.3)))
kind_named verb more (inr (inr (inr (inr (inr (inr (inr (inr (inr (inl e)))))))))) f = let n = one_irp more (subst (λ v. Fit (named v) more) e f) in (Rearm n.0, (more, ap (λ v. v ∷ more) e, (n.1, n.2, n.3)))
kind_named verb more (inr (inr (inr (inr (inr (inr (inr (inr (inr (inr x)))))))))) f = absurd x

-- the words of a step fit its places
pub step_fits : (ws : List (List ℕ)) → AreLineWords Schedule ws → Fit (places_of Schedule ws) ws
step_fits ws (s, first, rest, is, pass, kind) =
    let (verb, more, rest_is, one, fits) = kind_fits s.kind rest kind in
    let words : first ∷ verb ∷ more ≡ ws = sym (is ∙ ap (λ r. first ∷ r) rest_is) in
    subst (λ xs. Fit (places_of Schedule xs) xs) words ((s.pass, pass), (one, fits))

-- words that fit are those of a step
pub fits_step : (ws : List (List ℕ)) → Fit (places_of Schedule ws) ws → AreLineWords Schedule ws
fits_step [] f = absurd f
fits_step (p ∷ []) f = absurd f.1
fits_step (p ∷ v ∷ more) f = let k = kind_named v more f.1.0 f.1.1 in (record { pass = f.0.0; kind = k.0 }, p, v ∷ more, refl, f.0.1, k.1)

place_fits : (place : PlaceOf) → Admits Place (place_word place)
place_fits Back = inl refl
place_fits Front = inr (inl refl)

-- the name of a call is one of the words
is_call : (c : CallOf) → IsOneOf call_words (call_name c)
is_call (call.Next k) = inr (inl refl)
is_call _ = search rules

-- the operands of a call fit
operands_fit : (c : CallOf) (rest : List (List ℕ)) → AreOperands rest c → Fit (operands (call_name c)) rest
operands_fit (call.Insert i f place) rest (irp, file, is, n, k) = subst (λ ws. Fit (Irp ∷ File ∷ Place ∷ []) ws) (sym is) ((i.0, n), ((f.0, k), (place_fits place, tt)))
operands_fit (call.Next Any) rest is = subst (λ ws. Fit (Peek ∷ []) ws) (sym is) (inl refl, tt)
operands_fit (call.Next (OfFile f)) rest (word, is, n) = subst (λ ws. Fit (Peek ∷ []) ws) (sym is) (inr (f.0, n), tt)
operands_fit (call.Complete i status) rest (irp, digits, is, n, hex) = subst (λ ws. Fit (Irp ∷ Status ∷ []) ws) (sym is) ((i.0, n), ((status, hex), tt))
operands_fit (call.PutBack i place) rest (irp, is, n) = subst (λ ws. Fit (Irp ∷ Place ∷ []) ws) (sym is) ((i.0, n), (place_fits place, tt))
operands_fit c rest h = subst (λ ws. Fit (operands (call_name c)) ws) (sym h.1) ((_, h.2), tt)

call_fits : (c : CallOf) (name : List ℕ) (rest : List (List ℕ)) → IsNamed name rest c → IsOneOf call_words name × Fit (operands name) rest
call_fits c name rest (e, fits) = subst (λ v. IsOneOf call_words v × Fit (operands v) rest) (sym e) (is_call c, operands_fit c rest fits)

-- words that fit one number name it
one_number : (e : Expected) → ((w : List ℕ) → Admits e w → (n : ℕ) × IsNumber w n) → (rest : List (List ℕ)) → Fit (e ∷ []) rest → (n : ℕ) × (word : List ℕ) × (rest ≡ word ∷ []) × IsNumber word n
one_number e is [] f = absurd f
one_number e is (w ∷ []) f = let n = is w f.0 in (n.0, w, refl, n.1)
one_number e is (w ∷ x ∷ more) f = absurd f.1

insert_named : (rest : List (List ℕ)) → Fit (Irp ∷ File ∷ Place ∷ []) rest → (c : CallOf) × IsNamed (codes "insert") rest c
insert_named [] f = absurd f
insert_named (a ∷ []) f = absurd f.1
insert_named (a ∷ b ∷ []) f = absurd f.1.1
insert_named (a ∷ b ∷ d ∷ x ∷ more) f = absurd f.1.1.1
insert_named (a ∷ b ∷ d ∷ []) f = go f.1.1.0
  where
    go : Admits Place d → (c : CallOf) × IsNamed (codes "insert") (a ∷ b ∷ d ∷ []) c
    go (inl e) = (call.Insert (record { 0 = f.0.0 }) (record { 0 = f.1.0.0 }) Back, (refl, (a, b, ap (λ w. a ∷ b ∷ w ∷ []) e, f.0.1, f.1.0.1)))
    go (inr (inl e)) = (call.Insert (record { 0 = f.0.0 }) (record { 0 = f.1.0.0 }) Front, (refl, (a, b, ap (λ w. a ∷ b ∷ w ∷ []) e, f.0.1, f.1.0.1)))
    go (inr (inr none)) = absurd none

next_named : (rest : List (List ℕ)) → Fit (Peek ∷ []) rest → (c : CallOf) × IsNamed (codes "next") rest c
next_named [] f = absurd f
next_named (w ∷ x ∷ more) f = absurd f.1
next_named (w ∷ []) f = go f.0
  where
    go : Admits Peek w → (c : CallOf) × IsNamed (codes "next") (w ∷ []) c
    go (inl e) = (call.Next Any, (refl, ap (λ v. v ∷ []) e))
    go (inr n) = (call.Next (OfFile (record { 0 = n.0 })), (refl, (w, refl, n.1)))

complete_named : (rest : List (List ℕ)) → Fit (Irp ∷ Status ∷ []) rest → (c : CallOf) × IsNamed (codes "complete") rest c
complete_named [] f = absurd f
complete_named (a ∷ []) f = absurd f.1
complete_named (a ∷ b ∷ x ∷ more) f = absurd f.1.1
complete_named (a ∷ b ∷ []) f = (call.Complete (record { 0 = f.0.0 }) f.1.0.0, (refl, (a, b, refl, f.0.1, f.1.0.1)))

put_back_named : (rest : List (List ℕ)) → Fit (Irp ∷ Place ∷ []) rest → (c : CallOf) × IsNamed (codes "put_back") rest c
put_back_named [] f = absurd f
put_back_named (a ∷ []) f = absurd f.1
put_back_named (a ∷ b ∷ x ∷ more) f = absurd f.1.1
put_back_named (a ∷ b ∷ []) f = go f.1.0
  where
    go : Admits Place b → (c : CallOf) × IsNamed (codes "put_back") (a ∷ b ∷ []) c
    go (inl e) = (call.PutBack (record { 0 = f.0.0 }) Back, (refl, (a, ap (λ w. a ∷ w ∷ []) e, f.0.1)))
    go (inr (inl e)) = (call.PutBack (record { 0 = f.0.0 }) Front, (refl, (a, ap (λ w. a ∷ w ∷ []) e, f.0.1)))
    go (inr (inr none)) = absurd none

-- operands that fit name a call
call_named : (name : List ℕ) (rest : List (List ℕ)) → IsOneOf call_words name → Fit (operands name) rest → (c : CallOf) × IsNamed name rest c
call_named name rest (inl e) f = let c = insert_named rest (subst (λ v. Fit (operands v) rest) e f) in (c.0, subst (λ v. IsNamed v rest c.0) (sym e) c.1)
call_named name rest (inr (inl e)) f = let c = next_named rest (subst (λ v. Fit (operands v) rest) e f) in (c.0, subst (λ v. IsNamed v rest c.0) (sym e) c.1)
call_named name rest (inr (inr (inl e))) f = let n = one_irp rest (subst (λ v. Fit (operands v) rest) e f) in (call.Remove n.0, (e, (n.1, n.2, n.3)))
call_named name rest (inr (inr (inr (inl e)))) f = let n = one_irp rest (subst (λ v. Fit (operands v) rest) e f) in (call.Mark n.0, (e, (n.1, n.2, n.3)))
call_named name rest (inr (inr (inr (inr (inl e))))) f = let n = one_number Irp (λ w a. a) rest (subst (λ v. Fit (operands v) rest) e f) in (call.Routine (record { 0 = n.0 }), (e, (n.1, n.2, n.3)))
call_named name rest (inr (inr (inr (inr (inr (inl e)))))) f = let n = one_irp rest (subst (λ v. Fit (operands v) rest) e f) in (call.Cancel n.0, (e, (n.1, n.2, n.3)))
call_named name rest (inr (inr (inr (inr (inr (inr (inl e))))))) f = let c = complete_named rest (subst (λ v. Fit (operands v) rest) e f) in (c.0, subst (λ v. IsNamed v rest c.0) (sym e) c.1)
call_named name rest (inr (inr (inr (inr (inr (inr (inr (inl e)))))))) f = let n = one_number File (λ w a. a) rest (subst (λ v. Fit (operands v) rest) e f) in (call.Close (record { 0 = n.0 }), (e, (n.1, n.2, n.3)))
call_named name rest (inr (inr (inr (inr (inr (inr (inr (inr (inl e))))))))) f = let n = one_number File (λ w a. a) rest (subst (λ v. Fit (operands v) rest) e f) in (call.Cleanup (record { 0 = n.0 }), (e, (n.1, n.2, n.3)))
call_named name rest (inr (inr (inr (inr (inr (inr (inr (inr (inr (inl e)))))))))) f = let n = one_number Irp (λ w a. a) rest (subst (λ v. Fit (operands v) rest) e f) in (call.Flag (record { 0 = n.0 }), (e, (n.1, n.2, n.3)))
call_named name rest (inr (inr (inr (inr (inr (inr (inr (inr (inr (inr (inl e))))))))))) f = let n = one_number Irp (λ w a. a) rest (subst (λ v. Fit (operands v) rest) e f) in (call.Status (record { 0 = n.0 }), (e, (n.1, n.2, n.3)))
call_named name rest (inr (inr (inr (inr (inr (inr (inr (inr (inr (inr (inr (inl e)))))))))))) f = let n = one_number Irp (λ w a. a) rest (subst (λ v. Fit (operands v) rest) e f) in (call.Reuse (record { 0 = n.0 }), (e, (n.1, n.2, n.3)))
call_named name rest (inr (inr (inr (inr (inr (inr (inr (inr (inr (inr (inr (inr (inl e))))))))))))) f = let c = put_back_named rest (subst (λ v. Fit (operands v) rest) e f) in (c.0, subst (λ v. IsNamed v rest c.0) (sym e) c.1)
call_named name rest (inr (inr (inr (inr (inr (inr (inr (inr (inr (inr (inr (inr (inr x))))))))))))) f = absurd x

-- the words of a call fit its places
pub call_line_fits : (ws : List (List ℕ)) → AreLineWords Script ws → Fit (places_of Script ws) ws
call_line_fits ws (c, name, rest, is, names) = subst (λ xs. Fit (places_of Script xs) xs) (sym is) (call_fits c name rest names)

-- words that fit are those of a call
pub fits_call : (ws : List (List ℕ)) → Fit (places_of Script ws) ws → AreLineWords Script ws
fits_call [] f = absurd f
fits_call (name ∷ rest) f = let c = call_named name rest f.0 f.1 in (c.0, name, rest, refl, c.1)
