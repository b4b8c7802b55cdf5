-- What the proofs by hand share: a struct of one pointer, and what lies behind it. Assumes `Logic`.
use Rattle.std.proofs.Common.{◌≡◌, ℕ, T, true, ◌&&◌, List, [], ◌∷◌, ◌++◌, refl, subst, lit<}
use Rattle.std.proofs.GlobalToken.{dealloc_token-Testable}
use Rattle.csq_c.proofs.Imports.{Option, Some, None, box_owns, Fml, fsep, ftrue, full_share, SProp, sep, emp, ent, guard, guard_i, via, never, fst∗, snd∗, fact_use, lone, RattleType, Valss, Ptr, block_ptr, null_ptr, ptr_val, lies_at, in_a_block, Testable, nothing, Fn, Sym, ty_ptr, ty_struct, tcons, tnil, local, value_local, seq, assign, place, field, rv_opd, copy, aggregate, return, Calls, Loops, WpFn, Val, vstruct, vcons, vnil, of_list, has_ty, WT, Ura, Item, Goal, Seq, Step, step, ‵, raw, ◌⊛◌, given, prop, ◌$◌, ◌∵◌, !, qed, by, regoal, move, keep, drop, split, fsplit, fjoin, fpick, fpack, feq_i, feq_l, learn, use0, use1, alloc_all, pass_all, free_all, look_at, get, get_in, sets, agg, sub, whole, enter, of_opd, stop, fld, no_more, and_then, returns, Logic, sem, heap, frees, held}
use denote.Builtin.{RawPtr}
use denote.Struct.Struct.{Shape, Struct, within}
use mir.Raw.{raw as bare}

-- the machine value of a struct of one pointer
abbrev pub word : Ptr → Val
word p = vstruct (vcons (ptr_val p) vnil)

pub pointer_typed : (p : Ptr) → T (has_ty ty_ptr (ptr_val p)) × WT (ptr_val p)
pointer_typed (block_ptr b o) = (tt, tt)
pointer_typed null_ptr = (tt, record { fits = lit< tt })

pub word_typed : (p : Ptr) → T (has_ty ty_ptr (ptr_val p) && true) × WT (word p)
word_typed (block_ptr b o) = (tt, (tt, tt))
word_typed null_ptr = (tt, (record { fits = lit< tt }, tt))

abbrev pub one_pointer : Shape
one_pointer = record { name = []; args = []; types = []; fields = RawPtr ∷ [] }

-- such a struct that owns F
abbrev pub owns_beside : Ptr → Fml → List Val → Fml
owns_beside p F vs = fsep ((Struct one_pointer).own_val (p, tt) vs) F

module _ {M : Type 1} {𝓤 : Ura M} {𝓛 : Logic 𝓤} {K : Type 0} {Γ : List (Item 𝓤)} {G : Goal 𝓤 𝓛.H} where
  pub taken_apart : K → (p : Ptr) (F : Fml) (vs : List Val) → (vs ≡ word p ∷ [] → Seq K 𝓛 (‵ F ∷ Γ) G) → Seq K 𝓛 (‵ (owns_beside p F vs) ∷ Γ) G
  taken_apart t p F vs k =
      fsplit t $ fpick t (λ parts. fsplit t $ feq_l t (λ is_struct. fsplit t $ feq_l t (λ is_pointer. drop t $
      k (subst (λ (us : List Val). vs ≡ vstruct (of_list (us ++ [])) ∷ []) is_pointer is_struct))))

  pub made : K → (p : Ptr) (F : Fml) → Step K 𝓛 (‵ (owns_beside p F (word p ∷ [])) ∷ Γ) G (‵ F ∷ Γ) G
  made t p F = step (λ s.
      nothing t $ feq_i t (List Val) (ptr_val p ∷ []) (ptr_val p ∷ []) refl $ fjoin t $
      feq_i t (List Val) (word p ∷ []) (word p ∷ []) refl $ fjoin t $
      fpack t (Valss (RawPtr ∷ [])) (within one_pointer (p, tt) (word p ∷ [])) (ptr_val p ∷ [], tt) $ fjoin t $ s)

module _ {M : Type 1} {𝓤 : Ura M} (𝓛 : Logic 𝓤) (R : RattleType) (x : R.Denot) where
  -- what may be freed may be compared with null
  testable : (p : Ptr) → ent 𝓤 (sem 𝓛 (box_owns frees R p x)) (guard 𝓤 (Testable p) (sem 𝓛 (box_owns frees R p x)))
  testable p =
      let right = sem 𝓛 (frees (bare (lone R.mir)) p) in
      fact_use 𝓤 (Testable p) (via 𝓤 right (snd∗ 𝓤 (sem 𝓛 (lies_at R full_share p x)) right) (dealloc_token-Testable 𝓛 heap (bare (lone R.mir)) p))
      (guard_i 𝓤 (Testable p) (sem 𝓛 (box_owns frees R p x)))

module _ {M : Type 1} {𝓤 : Ura M} {𝓛 : Logic 𝓤} {K : Type 0} {Γ : List (Item 𝓤)} {G : Goal 𝓤 𝓛.H} (R : RattleType) where
  -- a box lies in a block, whose address may be compared with null
  pub a_box : K → (p : Ptr) (x : R.Denot)
      → ((b o : ℕ) → p ≡ block_ptr b o → Testable (block_ptr b o) → Seq K 𝓛 (‵ (box_owns frees R (block_ptr b o) x) ∷ Γ) G)
      → Seq K 𝓛 (‵ (held R p (Some x)) ∷ Γ) G
  a_box t p x filled =
      in_a_block t p (λ q. box_owns frees R q x) (fst∗ 𝓤 (never 𝓤) (sem 𝓛 (frees (bare (lone R.mir)) null_ptr))) (λ b o e.
      use1 𝓛 (given (Testable (block_ptr b o)) (‵ (box_owns frees R (block_ptr b o) x))) (testable 𝓛 R x (block_ptr b o)) $
      learn t (λ may. filled b o e may))

  -- nothing is held at null, or a box in a block
  pub by_cases : K → (p : Ptr) (body : Option R.Denot)
      → (p ≡ null_ptr → body ≡ None → Seq K 𝓛 Γ G)
      → ((b o : ℕ) (x : R.Denot) → p ≡ block_ptr b o → body ≡ Some x → Testable (block_ptr b o) → Seq K 𝓛 (‵ (box_owns frees R (block_ptr b o) x) ∷ Γ) G)
      → Seq K 𝓛 (‵ (held R p body) ∷ Γ) G
  by_cases t p None empty filled = feq_l t (λ e. empty e refl)
  by_cases t p (Some x) empty filled = a_box t p x (λ b o e may. filled b o x e refl may)

-- takes a struct of one pointer apart, and makes another of it
abbrev pub passing : Sym → Sym → Fn
passing from to = record {
  lifetimes = 0;
  outlives = [];
  ty_params = [];
  givens = 0;
  params = 1;
  locals = local (ty_struct to (tcons ty_ptr tnil)) value_local ∷ local (ty_struct from (tcons ty_ptr tnil)) value_local ∷ local ty_ptr value_local ∷ local ty_ptr value_local ∷ [];
  body = seq (assign (place 2 []) (rv_opd (copy (place 1 (field 0 ∷ []))))) (seq (assign (place 3 []) (rv_opd (copy (place 2 [])))) (seq (assign (place 0 []) (aggregate (copy (place 3 []) ∷ []))) return));
}

-- what lies behind the pointer goes over with it
module _ {M : Type 1} {𝓤 : Ura M} (𝓛 : Logic 𝓤) (C : Calls 𝓤 𝓛.H) (Λ : Loops 𝓤 𝓛.H) (from to : Sym) where
  pub passes : (p : Ptr) (F : Fml) (vs : List Val) (tokens asked stored : SProp 𝓤) (Post : Val → SProp 𝓤) → ent 𝓤 (emp 𝓤) stored
      → ent 𝓤 (sep 𝓤 tokens (sep 𝓤 (sem 𝓛 (fsep ftrue ftrue)) (sep 𝓤 (sem 𝓛 (owns_beside p F (word p ∷ []))) stored))) (Post (word p))
      → ent 𝓤 (sep 𝓤 (sep 𝓤 tokens (sem 𝓛 (fsep (owns_beside p F vs) ftrue))) asked) (WpFn 𝓤 𝓛.H C Λ (passing from to) (vs ++ []) Post)
  passes p F vs tokens asked stored Post tells ends =
      qed 𝓛 ((raw tokens ⊛ ‵ (fsep (owns_beside p F vs) ftrue)) ∷ raw asked ∷ []) ∵
      split ! $ move ! (1 ∷ []) $ fsplit ! $ taken_apart ! p F vs (λ is. keep ! (0 ∷ 2 ∷ []) $
      regoal ! (λ (us : List Val). prop (WpFn 𝓤 𝓛.H C Λ (passing from to) us Post)) (λ i. is i ++ []) refl $
      enter ! C Λ (passing from to) (word p ∷ []) Post $ alloc_all ! (λ l. pass_all ! refl (word_typed p, tt) $
      sets ! (of_opd ! (get_in ! (fld ! refl (stop !)) (sub ! 0 refl (whole !)))) refl (pointer_typed p) $
      sets ! (of_opd ! (get ! refl)) refl (pointer_typed p) $
      sets ! (agg ! (and_then ! (get ! refl) (no_more !))) refl (word_typed p) $
      returns ! (look_at ! 0 refl) $ free_all ! refl $
      made ! p F $ nothing ! $ nothing ! $ fjoin ! $ use0 𝓛 (raw stored) tells $ move ! (3 ∷ 1 ∷ 2 ∷ 0 ∷ []) $ by ! ends))
