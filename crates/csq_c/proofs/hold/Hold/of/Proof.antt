-- The box is turned into its pointer, and what it owned lies behind that.
use Rattle.std.proofs.Common.{◌≡◌, List, [], ◌∷◌, ◌++◌, refl, ap, ◌∙◌}
use Rattle.csq_c.proofs.Imports.{proved_at, leaves, Option, Some, box_owns, ftrue, fsep, flft, full_share, emp, id⊢, never, fst∗, ◌⊑◌, fact, fact_i, tables, no, lone, bounded, param, Ptr, block_ptr, null_ptr, ptr_val, in_a_block, plain, nothing, only, Stays, stay_dropped, walk_of, inst_fn, a_type, dcons, dnil, Val, WpFn, alloc_all, pass_all, free_all, look_at, get, sets, lands_as, ‵, raw, ◌⊛◌, some, later, prop, ◌$◌, ◌∵◌, !, qed, by, regoal, move, drop, split, split3, join, fsplit, fjoin, feq_l, pick, await, use0, use1, sem, agg, enter, of_opd, no_more, and_then, returns, Goes-blank, ghosts, dict, frees, held}
use denote.Builtin.{RawPtr}
use denote.Triple.Call.{calls_at}
use denote.Triple.Clauses.{Lasts, lasts}
use denote.Triple.Spec.{triple_of}
use denote.Triple.Table.{framed}
use mir.Raw.{raw as bare}
use Rattle.std_alloc.proofs.BoxSteps.Form as box
use Rattle.std_alloc.proofs.BoxSteps.Steps.{box_out, box_in}
use Rattle.std_alloc.specs.contracts.boxed.Box.into_raw as g
use Rattle.std_alloc.proofs.boxed.Box.into_raw.Met.{met}
use Rattle.std_heap.proofs.GlobalAllocator.TheImpl.Met.{passed}
use Rattle.csq_c.specs.contracts.hold.Hold.of as f
use Rattle.csq_c.proofs.Destruct++none.drop.Symbol.{glues}
use Rattle.csq_c.proofs.Holding.{word, made}
use Rattle.csq_c.proofs.OnTheHeap.{Heap, heap_laws, let_go, at_heap, HeapBox, heap_lives}
use Rattle.csq_c.proofs.hold.Hold.of.Code as code
use Rattle.csq_c.proofs.hold.Hold.of.Statement.{statement}

pub of_spec : {M : Type 1} → statement M
of_spec {M = M} 𝓤 𝓛 𝓜 𝓡 wired T laws d glue =
    let H = 𝓛.H in let 𝓣 = tables 𝓤 H 𝓜 𝓡 𝓡.env in let inst = bounded (a_type ∷ []) (T, tt) (dcons d dnil) in let fn = inst_fn inst code.function in
    let En = f.ended T d in let c = f.clauses T d 𝓛 𝓜.mem 𝓡.returns in let R = param 0 T in let E = at_heap T laws in
    let calls = triple_of 𝓛 (g.signature T Heap ghosts dict let_go d) (g.spec T Heap ghosts dict let_go d 𝓛 𝓜.mem 𝓡.returns) in
    let heap_met = passed 𝓡.env (code.calls-std_heap::GlobalAllocator::allocate 𝓡.env wired) (code.calls-std_heap::GlobalAllocator::deallocate 𝓡.env wired)
    (code.calls-std_heap::GlobalAllocator::grow 𝓡.env wired) (code.calls-std_heap::GlobalAllocator::shrink 𝓡.env wired) M 𝓤 𝓛 𝓜 𝓡 in
    let heap_glue = glues 𝓡.env (code.calls-csq_c::Destruct++none::drop 𝓡.env wired) Heap heap_laws M 𝓤 𝓛 𝓜 𝓡 in
    let hs : Stays En.signature.params En.kept = (stay_dropped (plain (λ _. HeapBox T)) no, tt) in
    proved_at 𝓛 En hs c 𝓜 𝓡 (Goes-blank 𝓛 1 (plain (λ _. HeapBox T)) no (λ κs x w. tt), tt) (f.Key.name inst) fn (code.unfolded 𝓤 H 𝓜 𝓡 wired (T, tt) d) (λ z are.
    let κ = z.0.0.0 in let q = z.0.1.0 in let body = z.0.3.0 in let Post = (walk_of 𝓛 En hs c).post z in let inside = κ ⊑ T.lives in let within = [] ⊑ Heap.lives in
    qed 𝓛 (((‵ (flft κ q) ⊛ ‵ ftrue) ⊛ ‵ (fsep ((box.B E).own_val body z.0.4.0) ftrue)) ∷ (raw (fact 𝓤 inside) ⊛ ‵ ftrue) ∷ []) ∵
    split ! $ move ! (1 ∷ []) $ fsplit ! $ box_out E ! body z.0.4.0 (λ b o h at is fits. box_in E ! body b o body.value at refl $
    regoal ! (λ (us : List Val). prop (WpFn 𝓤 H 𝓣.C 𝓣.Λ fn us Post)) (λ i. is i ++ []) refl $
    let w = box.word E h b o in let typed = box.box_typed E h b o fits in
    let y : calls.Ghost = (((κ, ([], tt)), (q, (full_share, tt)), tt, (body, tt), (w ∷ [], tt)), tt) in
    -- [the box; nothing; the tokens; that T's lifetime is within T]
    fjoin ! $ move ! (1 ∷ []) $ split ! $ move ! (1 ∷ []) $ use0 𝓛 (‵ (flft [] full_share)) (𝓛.lfts.lft-nil full_share) $ join ! $
    move ! (1 ∷ 0 ∷ []) $ join ! $ move ! (0 ∷ 1 ∷ []) $ join ! $ move ! (1 ∷ []) $ split ! $ move ! (1 ∷ []) $
    use0 𝓛 (raw (fact 𝓤 within)) (fact_i 𝓤 within (emp 𝓤) heap_lives) $ join ! $ move ! (1 ∷ 0 ∷ []) $ join ! $ move ! (1 ∷ 0 ∷ []) $ join ! $
    use1 𝓛 (raw (calls.pre y)) (id⊢ 𝓤 _) $
    enter ! 𝓣.C 𝓣.Λ fn (w ∷ []) Post $ alloc_all ! (λ l. pass_all ! refl (typed, tt) $
    sets ! (of_opd ! (get ! refl)) refl typed $
    calls_at ! (framed 𝓤 H 𝓜 𝓣) calls (met 𝓤 𝓛 𝓜 𝓡 (code.calls-std_alloc::boxed::Box::into_raw 𝓡.env wired) T Heap laws heap_laws ghosts dict let_go d heap_met heap_glue glue) y
    (and_then ! (get ! refl) (no_more !)) (λ u.
    use1 𝓛 (later (some (λ (p : Ptr). ((‵ (flft κ q) ⊛ ‵ (flft [] full_share) ⊛ ‵ ftrue) ⊛ ‵ (RawPtr.own_val p (u ∷ []))) ⊛
    some (λ (ws : Lasts (g.ended T Heap ghosts dict let_go d) y.0.0 y.0.3). ‵ (lasts (g.ended T Heap ghosts dict let_go d) y.0.0 y.0.3 ws) ⊛ ‵ (box_owns frees R p body.value))))) (id⊢ 𝓤 _) $
    await ! tt $ pick ! (λ p. split ! $ move ! (1 ∷ []) $ pick ! (λ ws. split ! $ drop ! $
    in_a_block ! p (λ s. box_owns frees R s body.value) (fst∗ 𝓤 (never 𝓤) (sem 𝓛 (frees (bare (lone R.mir)) null_ptr))) (λ b' o' e.
    move ! (1 ∷ []) $ split ! $ move ! (1 ∷ []) $ feq_l ! (λ is_pointer. split3 ! $ move ! (1 ∷ []) $ drop ! $ join ! $
    -- [the tokens; what lies behind the pointer]
    lands_as ! (ap only (is_pointer ∙ ap (λ (s : Ptr). ptr_val s ∷ []) e)) refl (tt, tt) $
    sets ! (agg ! (and_then ! (get ! refl) (no_more !))) refl (tt, (tt, tt)) $
    returns ! (look_at ! 0 refl) $ free_all ! refl $
    let there : Option T.Denot = Some body.value in let p' = block_ptr b' o' in
    move ! (1 ∷ []) $ made ! p' (held R p' there) $ nothing ! $ nothing ! $ fjoin ! $
    use0 𝓛 (raw (fact 𝓤 (there ≡ there))) (fact_i 𝓤 (there ≡ there) (emp 𝓤) refl) $ move ! (3 ∷ 1 ∷ 2 ∷ 0 ∷ []) $
    by ! (leaves 𝓛 En hs c z (word p') (record { at = p'; body = there }) (tt, tt) (tt, tt))))))))))
