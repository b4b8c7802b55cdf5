-- At null there is nothing, and elsewhere the pointer is turned into the box that it was.
use Rattle.std.proofs.Common.{◌≡◌, List, [], ◌∷◌, ◌++◌, refl, sym, ap, subst, ◌∙◌, lit<}
use Rattle.csq_c.proofs.Imports.{proved_at, leaves, Some, None, ftrue, fsep, flft, full_share, emp, id⊢, ◌⊑◌, fact, fact_i, tables, no, yes, layout, layouts, param, Ptr, block_ptr, null_ptr, ptr_val, tests_null, plain, nothing, only, heard, Stays, stay_dropped, walk_of, Goes-dropped, inst_fn, a_type, Val, of_list, WpFn, alloc_all, pass_all, free_all, look_at, get, get_in, sets, lands_last, env, ‵, raw, ◌⊛◌, some, later, prop, at_ret, ◌$◌, ◌∵◌, !, qed, by, regoal, move, keep, drop, split, split3, join, fsplit, fjoin, feq_i, pick, await, rewrite, use0, use1, live, agg, sub, whole, enter, of_opd, bin, lit, stop, fld, no_more, and_then, first, blocks, branches, skips, exec, returns, returns_within, Goes-blank, handle_tells, Some-of, none_of, ghosts, dict, held}
use denote.Triple.Call.{calls_at_last}
use denote.Triple.Clauses.{Lasts, lasts}
use denote.Triple.Spec.{triple_of}
use denote.Triple.Table.{framed}
use Rattle.core.proofs.cell.Inside.{Good}
use Rattle.std.proofs.Shapes.{after}
use Rattle.std_alloc.proofs.ResultValues.{and_tt}
use Rattle.std_alloc.proofs.BoxSteps.Form as box
use Rattle.std_alloc.proofs.BoxSteps.Steps.{box_out, box_in}
use Rattle.std_alloc.specs.contracts.boxed.Box.from_raw as g
use Rattle.std_alloc.proofs.boxed.Box.from_raw.Met.{met}
use Rattle.std_heap.proofs.GlobalAllocator.TheImpl.Met.{passed}
use Rattle.std_heap.specs.contracts.Global as heap
use Rattle.core.specs.contracts.option.Option as option
use Rattle.csq_c.specs.contracts.hold.Hold as hold
use Rattle.csq_c.specs.contracts.hold.Hold.into_body as f
use Rattle.csq_c.proofs.Destruct++none.drop.Symbol.{glues}
use Rattle.csq_c.proofs.Holding.{word, pointer_typed, word_typed, taken_apart, by_cases}
use Rattle.csq_c.proofs.OnTheHeap.{Heap, heap_laws, let_go, at_heap, HeapBox, heap_lives}
use Rattle.csq_c.proofs.hold.Hold.into_body.Code as code
use Rattle.csq_c.proofs.hold.Hold.into_body.Statement.{statement}

pub into_body_spec : {M : Type 1} → statement M
into_body_spec {M = M} 𝓤 𝓛 𝓜 𝓡 wired T laws =
    let H = 𝓛.H in let 𝓣 = tables 𝓤 H 𝓜 𝓡 𝓡.env in let inst = layouts (a_type ∷ []) (T, tt) in let fn = inst_fn inst code.function in
    let En = f.ended T in let c = f.clauses T 𝓛 𝓜.mem 𝓡.returns in let R = param 0 T in let E = at_heap T laws in let B = HeapBox T in
    let calls = triple_of 𝓛 (g.signature T Heap ghosts dict let_go) (g.spec T Heap ghosts dict let_go 𝓛 𝓜.mem 𝓡.returns) in
    let heap_met = passed 𝓡.env (code.calls-std_heap::GlobalAllocator::allocate 𝓡.env wired) (code.calls-std_heap::GlobalAllocator::deallocate 𝓡.env wired)
    (code.calls-std_heap::GlobalAllocator::grow 𝓡.env wired) (code.calls-std_heap::GlobalAllocator::shrink 𝓡.env wired) M 𝓤 𝓛 𝓜 𝓡 in
    let heap_glue = glues 𝓡.env (code.calls-csq_c::Destruct++none::drop 𝓡.env wired) Heap heap_laws M 𝓤 𝓛 𝓜 𝓡 in
    let Self = plain (λ _. hold.the_row R) in let Alloc = plain (λ _. heap.the_row) in
    let hs : Stays En.signature.params En.kept = (stay_dropped Self no, (stay_dropped Alloc yes, tt)) in
    proved_at 𝓛 En hs c 𝓜 𝓡 (Goes-blank 𝓛 1 Self no (λ κs x w. tt), (Goes-dropped 𝓛 1 Alloc yes (λ κs x w. refl), tt)) (f.Key.name inst) fn (code.unfolded 𝓤 H 𝓜 𝓡 wired (T, tt)) (λ z are.
    let κ = z.0.0.0 in let q = z.0.1.0 in let p = z.0.3.0.at in let body = z.0.3.0.body in let alloc = z.0.3.1.0 in
    let Post = (walk_of 𝓛 En hs c).post z in let inside = κ ⊑ T.lives in let within = [] ⊑ Heap.lives in
    qed 𝓛 (((‵ (flft κ q) ⊛ ‵ ftrue) ⊛ ‵ (fsep ((hold.the_row R).own_val z.0.3.0 z.0.4.0) (fsep ((heap.the_row).own_val alloc z.0.4.1.0) ftrue))) ∷ (raw (fact 𝓤 inside) ⊛ ‵ ftrue) ∷ []) ∵
    split ! $ move ! (1 ∷ []) $ fsplit ! $ taken_apart ! p (held R p body) z.0.4.0 (λ is. move ! (1 ∷ []) $ fsplit ! $
    handle_tells E.al ! alloc z.0.4.1.0 (λ h are_h fits. move ! (1 ∷ []) $ drop ! $ move ! (1 ∷ []) $
    -- [what is held; the allocator; the tokens; that T's lifetime is within T]
    by_cases R ! p body
    (λ at_null is_none. keep ! (1 ∷ []) $
    regoal ! (λ (us : List Val). prop (WpFn 𝓤 H 𝓣.C 𝓣.Λ fn us Post)) (λ i. (is ∙ ap (λ (s : Ptr). word s ∷ []) at_null) i ++ (are_h i ++ [])) refl $
    enter ! 𝓣.C 𝓣.Λ fn (word null_ptr ∷ h ∷ []) Post $ alloc_all ! (λ l. pass_all ! refl (word_typed null_ptr, (fits, tt)) $
    sets ! (of_opd ! (get_in ! (fld ! refl (stop !)) (sub ! 0 refl (whole !)))) refl (pointer_typed null_ptr) $
    sets ! (of_opd ! (get ! refl)) refl (pointer_typed null_ptr) $
    sets ! (bin ! (get ! refl) (lit ! tt) (tests_null null_ptr (lit< tt))) refl (tt, tt) $
    first ! $ branches ! (get ! refl)
    (λ yes_null. sets ! (agg ! (and_then ! (lit ! tt) (no_more !))) refl (tt, (record { fits = lit< tt }, tt)) $
    returns_within ! Post refl (look_at ! 0 refl) $ free_all ! refl $
    use0 𝓛 (raw (fact 𝓤 (body ≡ None))) (fact_i 𝓤 (body ≡ None) (emp 𝓤) is_none) $
    use0 𝓛 (‵ ((option.the_row B).own_val None (live 0 (of_list []) ∷ []))) (none_of 𝓛 B) $
    nothing ! $ nothing ! $ fjoin ! $ nothing ! $ fjoin ! $ move ! (3 ∷ 0 ∷ 1 ∷ 2 ∷ []) $
    by ! (leaves 𝓛 En hs c z (live 0 (of_list [])) None (tt, (tt, tt)) (tt, (tt, tt))))
    (λ no_null. absurd no_null)))
    (λ b o x in_block is_some may.
    regoal ! (λ (us : List Val). prop (WpFn 𝓤 H 𝓣.C 𝓣.Λ fn us Post)) (λ i. (is ∙ ap (λ (s : Ptr). word s ∷ []) in_block) i ++ (are_h i ++ [])) refl $
    let p' = block_ptr b o in let y : calls.Ghost = (((κ, ([], tt)), (q, (full_share, tt)), tt, (alloc, (p', tt)), (h ∷ [], (ptr_val p' ∷ [], tt))), x) in
    -- [the box's parts; the allocator; the tokens; that T's lifetime is within T]
    use0 𝓛 (raw (fact 𝓤 within)) (fact_i 𝓤 within (emp 𝓤) heap_lives) $ join ! $ move ! (3 ∷ []) $ split ! $ move ! (0 ∷ 2 ∷ []) $ join ! $
    move ! (1 ∷ []) $ feq_i ! (List Val) (ptr_val p' ∷ []) (ptr_val p' ∷ []) refl $ fjoin ! $ move ! (2 ∷ 0 ∷ []) $ fjoin ! $
    move ! (2 ∷ []) $ split ! $ move ! (1 ∷ []) $ use0 𝓛 (‵ (flft [] full_share)) (𝓛.lfts.lft-nil full_share) $ join ! $
    move ! (1 ∷ 0 ∷ []) $ join ! $ join ! $ join ! $ use1 𝓛 (raw (calls.pre y)) (id⊢ 𝓤 _) $
    enter ! 𝓣.C 𝓣.Λ fn (word p' ∷ h ∷ []) Post $ alloc_all ! (λ l. pass_all ! refl (word_typed p', (fits, tt)) $ let locals = env fn.locals l in
    sets ! (of_opd ! (get_in ! (fld ! refl (stop !)) (sub ! 0 refl (whole !)))) refl (pointer_typed p') $
    sets ! (of_opd ! (get ! refl)) refl (pointer_typed p') $
    sets ! (bin ! (get ! refl) (lit ! tt) (tests_null p' may)) refl (tt, tt) $
    first ! $ branches ! (get ! refl) (λ yes_null. absurd yes_null)
    (λ no_null. skips ! $ exec ! 𝓣.C 𝓣.Λ locals (after 4 fn.body) (at_ret locals Post) $
    first ! $ blocks ! $ sets ! (of_opd ! (get ! refl)) refl fits $ sets ! (of_opd ! (get ! refl)) refl (pointer_typed p') $
    calls_at_last ! (framed 𝓤 H 𝓜 𝓣) calls (met 𝓤 𝓛 𝓜 𝓡 (code.calls-std_alloc::boxed::Box::from_raw 𝓡.env wired) T Heap laws heap_laws ghosts dict let_go heap_met heap_glue) y
    (and_then ! (get ! refl) (and_then ! (get ! refl) (no_more !))) (λ u. let g-ended = g.ended T Heap ghosts dict let_go in
    use1 𝓛 (later (some (λ (r : (box.B E).Denot). ((‵ (flft κ q) ⊛ ‵ (flft [] full_share) ⊛ ‵ ftrue) ⊛ ‵ ((box.B E).own_val r (u ∷ []))) ⊛
    some (λ (ws : Lasts g-ended y.0.0 y.0.3). ‵ (lasts g-ended y.0.0 y.0.3 ws) ⊛ (raw (fact 𝓤 (r.value ≡ x)) ⊛ raw (fact 𝓤 (r.alloc ≡ alloc))))))) (id⊢ 𝓤 _) $
    await ! tt $ pick ! (λ r. split ! $ move ! (1 ∷ []) $ pick ! (λ ws. split3 ! $ drop ! $ heard ! (r.value ≡ x) (λ same. heard ! (r.alloc ≡ alloc) (λ same_heap.
    split ! $ split3 ! $ move ! (1 ∷ []) $ drop ! $ join ! $ move ! (1 ∷ []) $
    box_out E ! r (u ∷ []) (λ b' o' h' at is_box fits'. box_in E ! r b' o' r.value at refl $ rewrite ! 0 (λ (us : List Val). ‵ ((box.B E).own_val r us)) (sym is_box) refl $
    let good : Good (layout B) u = subst (Good (layout B)) (sym (ap only is_box)) (box.box_typed E h' b' o' fits') in
    -- [the box; the tokens]
    lands_last ! refl good $ exec ! 𝓣.C 𝓣.Λ locals (after 5 fn.body) (at_ret locals Post) $ sets ! (of_opd ! (get ! refl)) refl good $
    sets ! (agg ! (and_then ! (lit ! tt) (and_then ! (get ! refl) (no_more !)))) refl (and_tt _ good.0, (record { fits = lit< tt }, (good.1, tt))) $
    returns ! (look_at ! 0 refl) $ free_all ! refl $
    use1 𝓛 (‵ ((option.the_row B).own_val (Some r) (live 1 (of_list (u ∷ [])) ∷ []))) (Some-of 𝓛 B r u) $
    use0 𝓛 (raw (fact 𝓤 (body ≡ Some r.value))) (fact_i 𝓤 (body ≡ Some r.value) (emp 𝓤) (is_some ∙ ap (λ (v : T.Denot). Some v) (sym same))) $
    nothing ! $ nothing ! $ fjoin ! $ nothing ! $ fjoin ! $ move ! (3 ∷ 0 ∷ 2 ∷ 1 ∷ []) $
    by ! (leaves 𝓛 En hs c z (live 1 (of_list (u ∷ []))) (Some r) (tt, (tt, tt)) (tt, (tt, tt)))))))))))))))
