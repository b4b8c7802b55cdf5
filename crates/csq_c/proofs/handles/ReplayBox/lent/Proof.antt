-- What lies behind the address is lent where there is something, and the handle follows it. Assumes `Logic`.
use Rattle.std.proofs.Common.{◌≡◌, ℕ, List, [], ◌∷◌, refl, sym, ap, ◌∙◌, lit<}
use Rattle.csq_c.proofs.Imports.{proved, Option, Some, None, MatchOption, Lft, Share, GName, Fml, ftrue, fsep, flft, fres, full_share, SProp, ent, sep, id⊢, Fun, tables, no, mem, cell_at, part_at, part_of, lone, RattleType, Ptr, block_ptr, null_ptr, tests_null, plain, mut_ref_to, nothing, opens, closes, says, Stays, stay_dropped, walk_of, ends_at, Goes-spent_ref, named, Val, vptr, of_list, WpFn, Calls, Loops, Ura, alloc_all, pass_all, free_all, look_at, get, through, sets, sets_last, env, Item, ⋆, ‵, ◌⊛◌, at_ret, some, later, ◌$◌, ◌∵◌, !, qed, by, move, keep, split, split3, join, group, fsplit, fsplit3, fjoin, fpack, feq_i, feq_l, rewrite, suffices, frame, await, pick, use0, use1, done, Logic, sem, live, agg, look_in, sub, whole, enter, of_opd, bin, lit, addr, load, stop, fld, no_more, and_then, first, blocks, branches, skips, exec, returns, returns_within, Some-of, none_of, box_owns, held, frees}
use denote.Follow.{follows, follows_by, lends_Part}
use denote.Ref.{MutBor, MutRef, mut_vals, mut_Tells}
use mir.Raw.{raw as bare}
use prog.Memory.{Memory}
use prog.Routine.{Routine}
use Rattle.core.specs.contracts.option.Option as option
use Rattle.std_alloc.proofs.VecSteps.Shapes.{after}
use Rattle.csq_c.specs.Lends.{LendsReplay}
use Rattle.csq_c.specs.contracts.replay.body.ReplayBody.{the_row as R}
use Rattle.csq_c.specs.contracts.handles.ReplayBox.{the_row as H}
use Rattle.csq_c.specs.contracts.handles.ReplayBox.lent as f
use Rattle.csq_c.proofs.Holding.{word, pointer_typed, taken_apart, made, a_box}
use Rattle.csq_c.proofs.handles.ReplayBox.lent.Code as code
use Rattle.csq_c.proofs.handles.ReplayBox.lent.Statement.{statement}

abbrev stayed : Stays f.ended.signature.params f.ended.kept
stayed = (stay_dropped (mut_ref_to (0 ∷ []) tt (plain (λ _. H))) no, tt)

abbrev Lent : Lft → RattleType
Lent κ = MutRef (named 0) κ R

module _ {M : Type 1} {𝓤 : Ura M} (𝓛 : Logic 𝓤) (at_mem : Memory → SProp 𝓤) (run : Routine → Fun 𝓤) (C : Calls 𝓤 𝓛.H) (Λ : Loops 𝓤 𝓛.H) (κ : Lft) (q : Share) (rb ro : ℕ) (γ : GName) where
  abbrev self : Ptr → Option R.Denot → MutBor H.Denot
  self p body = record { ref_ptr = (rb, ro); ghost_name = γ; now = record { at = p; body = body } }

  abbrev bound : Ptr → Option R.Denot → (walk_of 𝓛 f.ended stayed (f.clauses 𝓛 at_mem run)).Ghost
  bound p body = (((κ, tt), (q, tt), tt, (self p body, tt), (vptr rb ro ∷ [], tt)), tt)

  abbrev Post : Ptr → Option R.Denot → Val → SProp 𝓤
  Post p body = (walk_of 𝓛 f.ended stayed (f.clauses 𝓛 at_mem run)).post (bound p body)

  abbrev Had : Ptr → Option R.Denot → List (Item 𝓤)
  Had p body = ‵ ((MutRef (named 0) κ H).own_val (self p body) (vptr rb ro ∷ [])) ∷ ‵ (flft κ q) ∷ []

  abbrev Cell : List Val → Fml
  Cell us = cell_at full_share H.mir us rb ro

  -- the handle once w lies behind its address
  abbrev over : Ptr → R.Denot → H.Denot
  over p w = record { at = p; body = Some w }

  exits : (p : Ptr) (body : Option R.Denot) (v : Val) (r : Option (MutBor R.Denot)) (F : Fml) → MatchOption r (body ≡ None) (λ (x : MutBor R.Denot). body ≡ Some x.now)
      → ent 𝓤 (sem 𝓛 F) (sem 𝓛 (LendsReplay (self p body) r))
      → ent 𝓤 (⋆ 𝓛 (‵ (flft κ q) ∷ ‵ ((option.the_row (Lent κ)).own_val r (v ∷ [])) ∷ ‵ F ∷ [])) (Post p body v)
  exits p body v r F stored follow =
      qed 𝓛 (‵ (flft κ q) ∷ ‵ ((option.the_row (Lent κ)).own_val r (v ∷ [])) ∷ ‵ F ∷ []) ∵
      suffices ! _ (ends_at 𝓛 f.ended stayed (f.clauses 𝓛 at_mem run) (bound p body) v r (tt, tt) (tt, tt)) $
      nothing ! $ move ! (1 ∷ 0 ∷ []) $ join ! $ nothing ! $ nothing ! $ fjoin ! $ move ! (0 ∷ 2 ∷ []) $ join ! $ move ! (1 ∷ 0 ∷ []) $ join ! $ frame ! $
      by ! (qed 𝓛 (‵ F ∷ []) ∵ use1 𝓛 (‵ (LendsReplay (self p body) r)) follow $ says ! stored $ done !)

  -- what is left of a handle while the value at b and o is lent, and the handle with that back
  abbrev Rest : ℕ → ℕ → Fml
  Rest b o = fsep (frees (bare (lone R.mir)) (block_ptr b o)) (Cell (word (block_ptr b o) ∷ []))

  back : (p : Ptr) (b o : ℕ) → p ≡ block_ptr b o → (w : R.Denot) → ent 𝓤 (sep 𝓤 (sem 𝓛 ((mem R).own_at w b o)) (sem 𝓛 (Rest b o))) (sem 𝓛 ((mem H).own_at (over p w) rb ro))
  unfolding part_of
  back p b o e w =
      qed 𝓛 (‵ (part_at R full_share w b o) ∷ ‵ (Rest b o) ∷ []) ∵ move ! (1 ∷ []) $ fsplit ! $ move ! (2 ∷ 0 ∷ []) $ fjoin ! $
      -- [the box; the cell]
      rewrite ! 0 (λ (r : Ptr). ‵ (box_owns frees R r w)) (sym e) refl $ rewrite ! 1 (λ (r : Ptr). ‵ (Cell (word r ∷ []))) (sym e) refl $
      made ! p (held R p (Some w)) $ move ! (1 ∷ 0 ∷ []) $ fjoin ! $ fpack ! (List Val) (λ us. fsep (Cell us) (H.own_val (over p w) us)) (word p ∷ []) $ done !

  walks : (p : Ptr) (body : Option R.Denot) → ent 𝓤 (⋆ 𝓛 (Had p body)) (WpFn 𝓤 𝓛.H C Λ code.function (vptr rb ro ∷ []) (Post p body))
  unfolding follows_by
  walks p None = let me = (self p None).now in let now = H.coded.code me in
      qed 𝓛 (Had p None) ∵ enter ! C Λ code.function (vptr rb ro ∷ []) _ $ alloc_all ! (λ l. pass_all ! refl ((tt, tt), tt) $
      fsplit3 ! $ move ! (1 ∷ 2 ∷ 3 ∷ []) $ opens ! tt H {h = me} rb ro (λ vs. move ! (1 ∷ []) $ taken_apart ! p (held R p None) vs (λ is. feq_l ! (λ e.
      -- [the cell; the open borrow, in three entries]
      rewrite ! 0 (λ (us : List Val). ‵ (Cell us)) (is ∙ ap (λ (r : Ptr). word r ∷ []) e) refl $
      sets ! (of_opd ! (load ! (through ! refl (fld ! refl (stop !))) (look_in ! 0 (sub ! 0 refl (whole !))))) refl (pointer_typed null_ptr) $
      rewrite ! 0 (λ (r : Ptr). ‵ (Cell (word r ∷ []))) (sym e) refl $
      feq_i ! Ptr p null_ptr e $ made ! p (held R p None) $ move ! (1 ∷ []) $ closes ! tt H me (word p ∷ []) rb ro $
      use1 𝓛 (‵ (fres γ now)) (𝓛.names.obs-res γ now) $
      -- [what the handle ends as; the borrow; the token]
      sets ! (of_opd ! (get ! refl)) refl (pointer_typed null_ptr) $
      sets ! (of_opd ! (get ! refl)) refl (pointer_typed null_ptr) $
      sets ! (bin ! (get ! refl) (lit ! tt) (tests_null null_ptr (lit< tt))) refl (tt, tt) $
      first ! $ branches ! (get ! refl)
      (λ is_null. sets ! (agg ! (and_then ! (lit ! tt) (no_more !))) refl (tt, (record { fits = lit< tt }, tt)) $
      returns_within ! (Post p None) refl (look_at ! 0 refl) $ free_all ! refl $
      use0 𝓛 (‵ ((option.the_row (Lent κ)).own_val None (live 0 (of_list []) ∷ []))) (none_of 𝓛 (Lent κ)) $ keep ! (3 ∷ 0 ∷ 1 ∷ []) $
      by ! (exits p None (live 0 (of_list [])) None (fres γ now) refl (id⊢ 𝓤 _)))
      (λ no_null. absurd no_null)))))
  walks p (Some x) = let me = (self p (Some x)).now in let now = H.coded.code me in
      qed 𝓛 (Had p (Some x)) ∵ enter ! C Λ code.function (vptr rb ro ∷ []) _ $ alloc_all ! (λ l. pass_all ! refl ((tt, tt), tt) $
      fsplit3 ! $ move ! (1 ∷ 2 ∷ 3 ∷ []) $ opens ! tt H {h = me} rb ro (λ vs. move ! (1 ∷ []) $ taken_apart ! p (held R p (Some x)) vs (λ is. a_box R ! p x (λ b o e may.
      let En = env code.function.locals l in let End = at_ret En (Post p (Some x)) in let v = vptr b o in fsplit ! $
      -- [what is there; the right to free it; the cell; the open borrow, in three entries]
      rewrite ! 2 (λ (us : List Val). ‵ (Cell us)) (is ∙ ap (λ (r : Ptr). word r ∷ []) e) refl $
      sets ! (of_opd ! (load ! (through ! refl (fld ! refl (stop !))) (look_in ! 2 (sub ! 0 refl (whole !))))) refl (tt, tt) $
      sets ! (of_opd ! (get ! refl)) refl (tt, tt) $
      sets ! (of_opd ! (get ! refl)) refl (tt, tt) $
      sets ! (bin ! (get ! refl) (lit ! tt) (tests_null (block_ptr b o) may)) refl (tt, tt) $
      first ! $ branches ! (get ! refl) (λ is_null. absurd is_null)
      (λ no_null. skips ! $ exec ! C Λ En (after 5 code.function.body) End $
      first ! $ blocks ! $ sets_last ! (addr ! (through ! refl (stop !))) refl (tt, tt) $
      exec ! C Λ En (after 6 code.function.body) End $ sets ! (of_opd ! (get ! refl)) refl (tt, tt) $
      sets ! (agg ! (and_then ! (lit ! tt) (and_then ! (get ! refl) (no_more !)))) refl (tt, (record { fits = lit< tt }, (tt, tt))) $
      move ! (1 ∷ 2 ∷ []) $ fjoin ! $ move ! (2 ∷ 3 ∷ 4 ∷ 1 ∷ 0 ∷ []) $ group ! 5 $
      use1 𝓛 (later (some (λ (δ : GName). ‵ ((Lent κ).own_val (record { ref_ptr = (b, o); ghost_name = δ; now = x }) (v ∷ [])) ⊛ ‵ (flft κ q) ⊛ ‵ (follows H R γ δ (over p)))))
      (lends_Part 𝓛 H R (over p) (named 0) κ q rb ro b o γ (sem 𝓛 (Rest b o)) (back p b o e) now now x) $ await ! tt $ pick ! (λ δ. split3 ! $
      let r : MutBor R.Denot = record { ref_ptr = (b, o); ghost_name = δ; now = x } in
      returns ! (look_at ! 0 refl) $ free_all ! refl $
      use1 𝓛 (‵ ((option.the_row (Lent κ)).own_val (Some r) (live 1 (of_list (v ∷ [])) ∷ []))) (Some-of 𝓛 (Lent κ) r v) $ keep ! (1 ∷ 0 ∷ 2 ∷ []) $
      by ! (exits p (Some x) (live 1 (of_list (v ∷ []))) (Some r) (follows H R γ δ (over p)) refl (id⊢ 𝓤 _))))))))

pub lent_spec : {M : Type 1} → statement M
lent_spec 𝓤 𝓛 𝓜 𝓡 wired =
    let 𝓣 = tables 𝓤 𝓛.H 𝓜 𝓡 𝓡.env in
    proved 𝓛 f.ended stayed (f.clauses 𝓛 𝓜.mem 𝓡.returns) 𝓜 𝓡 (Goes-spent_ref 𝓛 1 (0 ∷ []) tt (plain (λ _. H)), tt)
    f.Key.name code.function (code.unfolded 𝓤 𝓛.H 𝓜 𝓡 wired)
    (λ κs. (mut_vals, tt)) (λ κs. (mut_Tells (named 0) κs.0 H, tt)) (λ κs qs bounds a g are.
    qed 𝓛 (((‵ (flft κs.0 qs.0) ⊛ ‵ ftrue) ⊛ ‵ ((MutRef (named 0) κs.0 H).own_val a.0 (mut_vals a.0)) ⊛ ‵ ftrue) ∷ ‵ ftrue ∷ []) ∵
    split ! $ split ! $ move ! (2 ∷ []) $ split ! $ keep ! (0 ∷ 2 ∷ []) $
    by ! (walks 𝓛 𝓜.mem 𝓡.returns 𝓣.C 𝓣.Λ κs.0 qs.0 a.0.ref_ptr.0 a.0.ref_ptr.1 a.0.ghost_name a.0.now.at a.0.now.body))
