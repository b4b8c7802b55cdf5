-- How many each file has listed, after each change.
use Rattle.std.proofs.Common.{◌≡◌, ◌<◌, ◌≤◌, ◌+◌, ◌-◌, ℕ, Some, Bool, cond, true, false, true≢false, List, ◌∷◌, ◌++◌, length, get_or, set, refl, sym, ap, ◌∙◌, subst, arith, get_or-set_same, get_or-set_other, eqb-true, eq-eqb}
use Rattle.csq_list.proofs.Imports.{IrpId, FileId, Entry, Place, same_file, of_file, is_listed, is_distinct, entries_without, file_in, put_at, HasFileLens}
use Rattle.csq_list.proofs.Keeping.{length-filter, length-filter_among, length-filter_put}
use Rattle.csq_list.proofs.Filing.{IsAmong, among, file_in-among, without-middle}

file_by : (f g : FileId) → same_file f g ≡ true → f ≡ g
file_by f g m = let n : f.0 ≡ g.0 = eqb-true f.0 g.0 m in λ k. record { 0 = n k }

-- the count of one file changes with its entries, and the others stay
counted : (lens : List ℕ) (old new : List Entry) (f : FileId) (n : ℕ) → HasFileLens lens old → f.0 < length lens → n ≡ length (of_file f new) → ((g : FileId) → same_file f g ≡ false → length (of_file g new) ≡ length (of_file g old)) → HasFileLens (set lens f.0 n) new
counted lens old new f n filed below own others = λ g. by_case g (same_file f g) refl
  where
    by_case : (g : FileId) (b : Bool) → same_file f g ≡ b → get_or (set lens f.0 n) g.0 0 ≡ length (of_file g new)
    by_case g true m = subst (λ (h : FileId). get_or (set lens f.0 n) h.0 0 ≡ length (of_file h new)) (file_by f g m) (get_or-set_same lens f.0 n 0 below ∙ own)
    by_case g false m = get_or-set_other lens f.0 g.0 n 0 (λ e. true≢false (sym (eq-eqb f.0 g.0 (sym e)) ∙ m)) ∙ filed g ∙ sym (others g m)

itself : (f : FileId) → same_file f f ≡ true
itself f = eq-eqb f.0 f.0 refl

pub filed-put : (place : Place) (e : Entry) (es new : List Entry) (lens : List ℕ) → HasFileLens lens es → e.file.0 < length lens → new ≡ put_at place e es → HasFileLens (set lens e.file.0 (get_or lens e.file.0 0 + 1)) new
filed-put place e es new lens filed below is =
    subst (HasFileLens (set lens e.file.0 (get_or lens e.file.0 0 + 1))) (sym is)
    (counted lens es (put_at place e es) e.file _ filed below
    (let one : length (of_file e.file (put_at place e es)) ≡ length (of_file e.file es) + 1 = more e.file ∙ ap (λ b. length (of_file e.file es) + cond b 1 0) (itself e.file) in omega (arith, one, filed e.file))
    (λ g m. let none : length (of_file g (put_at place e es)) ≡ length (of_file g es) + 0 = more g ∙ ap (λ b. length (of_file g es) + cond b 1 0) m in omega (arith, none)))
  where
    more : (g : FileId) → length (of_file g (put_at place e es)) ≡ length (of_file g es) + cond (same_file e.file g) 1 0
    more g = length-filter_put (λ (x : Entry). same_file x.file g) place e es

module _ (before : List Entry) (e : Entry) (later es : List Entry) (splits : es ≡ before ++ e ∷ later) (lens : List ℕ) (filed : HasFileLens lens es) where
  more : (g : FileId) → length (of_file g es) ≡ length (of_file g (before ++ later)) + cond (same_file e.file g) 1 0
  more g = ap (λ xs. length (of_file g xs)) splits ∙ length-filter_among (λ (x : Entry). same_file x.file g) before e later

  own : length (of_file e.file es) ≡ length (of_file e.file (before ++ later)) + 1
  own = more e.file ∙ ap (λ b. length (of_file e.file (before ++ later)) + cond b 1 0) (itself e.file)

  -- a listed entry is counted
  pub filed-some : 1 ≤ get_or lens e.file.0 0
  filed-some = omega (arith, own, filed e.file)

  pub filed-taken : e.file.0 < length lens → HasFileLens (set lens e.file.0 (get_or lens e.file.0 0 - 1)) (before ++ later)
  filed-taken below =
      counted lens es (before ++ later) e.file _ filed below (omega (arith, own, filed e.file))
      (λ g m. let none : length (of_file g es) ≡ length (of_file g (before ++ later)) + 0 = more g ∙ ap (λ b. length (of_file g (before ++ later)) + cond b 1 0) m in omega (arith, none))

-- a file has no more listed than there are
pub filed-small : (lens : List ℕ) (es : List Entry) (f : FileId) → HasFileLens lens es → get_or lens f.0 0 ≤ length es
filed-small lens es f filed = let few = length-filter (λ (x : Entry). same_file x.file f) es in omega (arith, few, filed f)

-- the file of an IRP that is taken out
module _ (es : List Entry) (i : IrpId) (f : FileId) (lens : List ℕ) (distinct : is_distinct es ≡ true) (listed : is_listed es i ≡ true) (in_file : file_in es i ≡ Some f) (filed : HasFileLens lens es) where
  pub place : IsAmong i es
  place = among i es listed

  split : is_distinct (place.before ++ place.entry ∷ place.later) ≡ true
  split = ap is_distinct (sym place.splits) ∙ distinct

  file_is : place.entry.file ≡ f
  file_is = let same : Some place.entry.file ≡ Some f = sym (file_in-among place.before place.entry place.later split) ∙ (λ k. file_in (sym place.splits k) (place.is k)) ∙ in_file in cc

  left : place.before ++ place.later ≡ entries_without i es
  left = sym (without-middle place.before place.entry place.later split) ∙ (λ k. entries_without (place.is k) (sym place.splits k))

  pub taken-some : 1 ≤ get_or lens f.0 0
  taken-some = subst (λ (g : FileId). 1 ≤ get_or lens g.0 0) file_is (filed-some place.before place.entry place.later es place.splits lens filed)

  pub taken-filed : f.0 < length lens → HasFileLens (set lens f.0 (get_or lens f.0 0 - 1)) (entries_without i es)
  taken-filed below =
      subst (λ (g : FileId). HasFileLens (set lens g.0 (get_or lens g.0 0 - 1)) (entries_without i es)) file_is
      (subst (HasFileLens (set lens place.entry.file.0 (get_or lens place.entry.file.0 0 - 1))) left
      (filed-taken place.before place.entry place.later es place.splits lens filed (subst (λ (g : FileId). g.0 < length lens) (sym file_is) below)))
