-- The nearest of more and more words.
use Rattle.std.proofs.Common.{◌≡◌, ℕ, ◌+◌, ◌<◌, ◌≤◌, Bool, true, false, List, [], ◌∷◌, ◌++◌, take, get_or, length, refl, ap, sym, ◌∙◌, subst, arith, Option, Some, None}
use Rattle.csq_diagnose.proofs.Imports.{nat_le, MatchOption, if◌then◌else◌, Bor, All}
use Rattle.std.proofs.lemmas.List.{append_assoc, map-append, take_more}
use Rattle.std.proofs.lemmas.List.Elements.{All-nil, All-cons, All-push, All-append, All-weaker}
use Rattle.csq_diagnose.specs.declared.nearest.Near.{Near}
use Rattle.csq_diagnose.specs.Nearness.{edits, nearer, IsNearest}
use Rattle.csq_diagnose.proofs.OneOf.{shown}

module _ (w : List ℕ) (x : Near) (edits_are : x.edits ≡ edits w x.word.now) where
  none_else : (R : ℕ → ℕ → Type 0) → All (λ other. R x.edits (edits w other)) []
  none_else R = All-nil (λ other. R x.edits (edits w other))

  nearest_one : IsNearest (x.word.now ∷ []) w x
  nearest_one = record { before = []; later = []; one = refl; edits_are = edits_are; first = none_else ◌<◌; least = none_else ◌≤◌ }

  first_nearer : (xs : List (List ℕ)) (best : Near) → best.edits ≤ x.edits → IsNearest xs w best → IsNearest (xs ++ x.word.now ∷ []) w best
  first_nearer xs best le is = record {
    before = is.before;
    later = is.later ++ x.word.now ∷ [];
    one = ap (λ ys. ys ++ x.word.now ∷ []) is.one ∙ append_assoc is.before (best.word.now ∷ is.later) (x.word.now ∷ []);
    edits_are = is.edits_are;
    first = is.first;
    least = All-push (λ other. best.edits ≤ edits w other) is.later x.word.now is.least (omega (arith, le, edits_are));
  }

  last_nearer : (xs : List (List ℕ)) (best : Near) → x.edits < best.edits → IsNearest xs w best → IsNearest (xs ++ x.word.now ∷ []) w x
  last_nearer xs best lt is = record {
    before = xs;
    later = [];
    one = refl;
    edits_are = edits_are;
    first = subst (All (λ other. x.edits < edits w other)) (sym is.one) (All-append (λ other. x.edits < edits w other) is.before (best.word.now ∷ is.later) farther
        (All-cons (λ other. x.edits < edits w other) best.word.now is.later (omega (arith, lt, is.edits_are)) no_nearer));
    least = none_else ◌≤◌;
  }
    where
      farther : All (λ other. x.edits < edits w other) is.before
      farther = All-weaker (λ other. best.edits < edits w other) (λ other. x.edits < edits w other) (λ other more. omega (arith, lt, more)) is.before is.first

      no_nearer : All (λ other. x.edits < edits w other) is.later
      no_nearer = All-weaker (λ other. best.edits ≤ edits w other) (λ other. x.edits < edits w other) (λ other more. omega (arith, lt, more)) is.later is.least

  nearest_push : (xs : List (List ℕ)) (best : Option Near) → MatchOption best (xs ≡ []) (IsNearest xs w) → IsNearest (xs ++ x.word.now ∷ []) w (nearer best x)
  nearest_push xs None e = subst (λ ys. IsNearest (ys ++ x.word.now ∷ []) w x) (sym e) nearest_one
  nearest_push xs (Some best) is = go (nat_le best.edits x.edits) refl
    where
      go : (b : Bool) → nat_le best.edits x.edits ≡ b → IsNearest (xs ++ x.word.now ∷ []) w (if b then best else x)
      go true e = first_nearer xs best (grind (arith, e)) is
      go false e = last_nearer xs best (grind (arith, e)) is

  -- one word more was looked at
  pub nearest_more : (words : List (Bor (List ℕ))) (k : ℕ) (d : Bor (List ℕ)) (best : Option Near) → k < length words → x.word.now ≡ (get_or words k d).now
      → MatchOption best (k ≡ 0) (IsNearest (shown (take k words)) w) → IsNearest (shown (take (k + 1) words)) w (nearer best x)
  nearest_more words k d best lt is so_far =
      let more : shown (take (k + 1) words) ≡ shown (take k words) ++ x.word.now ∷ [] =
      ap shown (take_more words k d lt) ∙ map-append (λ (one : Bor (List ℕ)). one.now) (take k words) (get_or words k d ∷ []) ∙ ap (λ y. shown (take k words) ++ y ∷ []) (sym is) in
      subst (λ ys. IsNearest ys w (nearer best x)) (sym more) (nearest_push (shown (take k words)) best (none best so_far))
    where
      none : (o : Option Near) → MatchOption o (k ≡ 0) (IsNearest (shown (take k words)) w) → MatchOption o (shown (take k words) ≡ []) (IsNearest (shown (take k words)) w)
      none None e = ap (λ n. shown (take n words)) e
      none (Some best) is = is
