-- The one call is refused, and each other has the inner allocator's answer.
use Rattle.std.proofs.Common.{◌≡◌, ℕ, ◌+◌, Err, Ok, true, false, [], ◌∷◌, refl, ap, w64}
use Rattle.std.proofs.raw_atomic.Walks.{proved}
use Rattle.std.proofs.alloc.Calls.{Al, α, seen, Answer, answer_val, Answer-typed, Answer-Ok, Answer-err, Takes, at_takes, Answered, Takes-goes, Takes-gives, answers}
use base.Logic.{ent, sep, id⊢}
use types.Logic.{sem}
use base.Fml.{ftrue, flft}
use contract.BorrowLft.{◌⊑◌, ⊑_trans}
use contract.Monad.{fact}
use contract.Running.{tables}
use denote.Builtin.{bool, usize, RefOf}
use denote.Exit.{yes}
use denote.Memory.{hidden_shr}
use denote.Opens.{unhide}
use denote.Param.{bounded, param}
use denote.Plain.{uint_vals, uint_Tells}
use denote.RattleType.{owns}
use denote.RawPtr.{block_ptr}
use denote.Ref.{shr_vals}
use denote.Signature.{Slot, plain, types_at}
use denote.Steps.{heard, nothing, only}
use denote.Triple.Call.{calls_at}
use denote.Triple.Clauses.{Ended, lasts}
use denote.Triple.Spec.{triple_of}
use denote.Triple.Table.{framed}
use denote.Triple.Walked.{Stays, stay_dropped, walk_of, ends_at, Goes-dropped}
use mathlib.Core.Bool.{Bool}
use mir.MapTy.{inst_fn}
use mir.Syntax.{Args, a_type, dnil, dcons}
use mir.Val.{vptr}
use prog.Memory.{size, align, capped, up}
use types.ByLocal.{alloc_all, pass_all, free_all, look_at, get, through, sets, lands_as, env}
use types.Kit.{‵, raw, ◌⊛◌, some, later, prop, at_ret, Sq, ◌$◌, ◌∵◌, !, qed, move, keep, drop, use0, use1, split, join, pick, fsplit, fjoin, feq_i, feq_l, group, suffices, await, done}
use types.Part.{agg}
use types.Run.{enter, lit, stop, fld, addr, no_more, and_then, first, branches, skips, exec, returns, returns_within}
use Rattle.std.proofs.Shapes.{after}
use Rattle.test_heap.specs.contracts.heap.Ration as ration
use Rattle.test_heap.specs.contracts.heap.Ration.refuses as g
use Rattle.test_heap.proofs.heap.Ration.refuses.Met.{met}
use Rattle.test_heap.specs.contracts.heap.RefusingHeap as wrapper
use Rattle.test_heap.specs.contracts.heap.RefusingHeapAllocator.allocate as f
use Rattle.test_heap.proofs.heap.RefusingHeapAllocator.allocate.Code as code
use Rattle.test_heap.proofs.heap.RefusingHeapAllocator.allocate.Statement.{statement}

module _ (Z : Al) where
  abbrev args : Args
  args = bounded (a_type ∷ []) (Z.row, tt) (dcons Z.d (dcons Z.drops dnil))

  abbrev self : Slot 2
  self = RefOf (0 ∷ []) tt (plain (λ _. wrapper.the_row (param 0 Z.row))) (λ _. tt)

  abbrev ended : Ended
  ended = f.ended Z.row Z.g Z.d Z.drops

  abbrev stayed : Stays ended.signature.params ended.kept
  stayed = (stay_dropped self yes, (stay_dropped _ yes, (stay_dropped _ yes, tt)))

pub allocate_spec : {M : Type 1} → statement M
allocate_spec 𝓤 𝓛 𝓜 𝓡 wired B laws ghosts d dd bound_met _ =
    let Z : Al = record { row = B; laws = laws; g = ghosts; d = d; drops = dd } in
    let c = f.clauses B ghosts d dd 𝓛 𝓜.mem 𝓡.returns in
    let W = walk_of 𝓛 (ended Z) (stayed Z) c in
    let 𝓣 = tables 𝓤 𝓛.H 𝓜 𝓡 𝓡.env in
    let here = inst_fn (args Z) code.function in
    let number = Goes-dropped 𝓛 2 (plain (λ _. usize)) yes (λ κs x w. refl) in
    proved 𝓛 (ended Z) (stayed Z) c 𝓜 𝓡 (Goes-dropped 𝓛 2 (self Z) yes (λ κs x w. refl), (number, (number, tt)))
    (f.Key.name (args Z)) here (code.unfolded 𝓤 𝓛.H 𝓜 𝓡 wired (B, tt) d dd)
    (λ κs. (shr_vals, (uint_vals w64, (uint_vals w64, tt)))) (λ κs. ((λ r vs s. s.0), (uint_Tells w64, (uint_Tells w64, tt))))
    (λ κs qs bounds a τ are.
    let κ = κs.0 in let q = qs.0 in
    let at : ℕ × ℕ = (a.0.ref_ptr.0, a.0.ref_ptr.1 + up (align (α Z)) 0) in
    let counted : ℕ × ℕ = (a.0.ref_ptr.0, a.0.ref_ptr.1 + up 8 (up (align (α Z)) 0 + size (α Z))) in
    let y : W.Ghost = ((κs, qs, bounds, a, (shr_vals a.0, (uint_vals w64 a.1.0, (uint_vals w64 a.1.1.0, tt)))), τ) in
    let G = triple_of 𝓛 g.signature (g.spec 𝓛 𝓜.mem 𝓡.returns) in
    let z : G.Ghost = (((κ, tt), (q, tt), tt, (record { ref_ptr = counted; now = a.0.now.ration }, tt), (vptr counted.0 counted.1 ∷ [], tt)), tt) in
    let x : (Takes Z 𝓛 𝓜.mem 𝓡.returns).Ghost = at_takes Z 𝓛 𝓜.mem 𝓡.returns κ q at a.0.now.inner a.1.0 a.1.1.0 τ in
    let asks : ent 𝓤 (sep 𝓤 (sem 𝓛 (hidden_shr ration.the_row κ a.0.now.ration counted.0 counted.1)) (sem 𝓛 (flft κ q))) (G.pre z) =
    qed 𝓛 (‵ (hidden_shr ration.the_row κ a.0.now.ration counted.0 counted.1) ∷ ‵ (flft κ q) ∷ []) ∵
    feq_i ! _ (vptr counted.0 counted.1 ∷ []) _ refl $ fjoin ! $ nothing ! $ move ! (1 ∷ []) $ fjoin ! $
    nothing ! $ move ! (2 ∷ []) $ join ! $ join ! $ nothing ! $ move ! (1 ∷ []) $ done ! in
    let refused : Sq 𝓛 (‵ (flft κ q) ∷ (‵ (flft κs.1.0 qs.1.0) ⊛ ‵ ftrue) ∷ []) (prop (W.post y (answer_val false 0 0))) =
    suffices ! _ (ends_at 𝓛 (ended Z) (stayed Z) c y (answer_val false 0 0) (Err (record {})) (tt, (tt, (tt, tt))) (tt, (tt, (tt, tt)))) $
    nothing ! $ use0 𝓛 (‵ (Answer.own_val (Err (record {})) (answer_val false 0 0 ∷ []))) (Answer-err 𝓛) $
    nothing ! $ nothing ! $ fjoin ! $ nothing ! $ fjoin ! $ nothing ! $ fjoin ! $ join ! $ move ! (2 ∷ 3 ∷ []) $ join ! $ join ! $ done ! in
    qed 𝓛 (((‵ (flft κ q) ⊛ ‵ (flft κs.1.0 qs.1.0) ⊛ ‵ ftrue) ⊛ ‵ (owns (types_at (ended Z).signature.params κs) a y.0.4))
    ∷ (raw (fact 𝓤 (κs.1.0 ⊑ B.lives)) ⊛ raw (fact 𝓤 ((capped (size τ) ≡ a.1.0) × (capped (align τ) ≡ a.1.1.0)))) ∷ []) ∵
    move ! (1 ∷ []) $ split ! $ heard ! _ (λ lives. heard ! _ (λ sizes.
    split ! $ split ! $ move ! (2 ∷ []) $ fsplit ! $ fsplit ! $ move ! (1 ∷ []) $ unhide ! $ fsplit ! $ fsplit ! $
    use1 𝓛 (‵ (seen Z κ at a.0.now.inner)) (id⊢ 𝓤 _) $ move ! (1 ∷ []) $ fsplit ! $
    use1 𝓛 (‵ (hidden_shr ration.the_row κ a.0.now.ration counted.0 counted.1)) (id⊢ 𝓤 _) $ keep ! (0 ∷ 6 ∷ 2 ∷ 7 ∷ []) $
    enter ! _ _ _ _ _ $ alloc_all ! (λ l. pass_all ! refl ((tt, tt), ((tt, record { fits = are.1.0.1 }), ((tt, record { fits = are.1.1.0.1 }), tt))) $
    sets ! (addr ! (through ! refl (fld ! refl (stop !)))) refl (tt, tt) $ group ! 2 $ use1 𝓛 (raw (G.pre z)) asks $
    calls_at ! (framed 𝓤 𝓛.H 𝓜 𝓣) G (met 𝓤 𝓛 𝓜 𝓡 (code.calls-test_heap::heap::Ration::refuses 𝓡.env wired)) z (and_then ! (get ! refl) (no_more !)) (λ v.
    use1 𝓛 (later (some (λ (r : Bool). ((‵ (flft κ q) ⊛ ‵ ftrue) ⊛ ‵ (bool.own_val r (v ∷ []))) ⊛ some (λ (ws : Unit {0} × Unit {0}). ‵ (lasts g.ended (κ, tt) z.0.3 ws) ⊛ ‵ ftrue)))) (id⊢ 𝓤 _) $
    await ! tt $ pick ! (λ r. split ! $ split ! $ move ! (1 ∷ []) $ feq_l ! (λ is_told. split ! $ lands_as ! (ap only is_told) refl (tt, tt) $
    move ! (1 ∷ []) $ drop ! $ move ! (1 ∷ []) $ drop ! $
    -- [a lifetime's token; the inner allocator's `&`; the other token; the locals]
    first ! $ branches ! (get ! refl)
    (λ is_refused. move ! (1 ∷ []) $ drop ! $ sets ! (agg ! (no_more !)) refl (tt, tt) $
    sets ! (agg ! (and_then ! (lit ! tt) (and_then ! (get ! refl) (no_more !)))) refl (Answer-typed false 0 0) $
    returns_within ! (W.post y) refl (look_at ! 0 refl) $ free_all ! refl $ refused)
    (λ is_passed. skips ! $ exec ! 𝓣.C 𝓣.Λ (env here.locals l) (after 3 here.body) (at_ret _ (W.post y)) $
    sets ! (addr ! (through ! refl (fld ! refl (stop !)))) refl (tt, tt) $ move ! (1 ∷ 0 ∷ []) $ group ! 2 $
    use1 𝓛 (raw ((Takes Z 𝓛 𝓜.mem 𝓡.returns).pre x)) (Takes-goes Z 𝓛 𝓜.mem 𝓡.returns κ q at a.0.now.inner (⊑_trans κ κs.1.0 B.lives bounds.0 lives) a.1.0 a.1.1.0 τ sizes.0 sizes.1 are.1.0.1 are.1.1.0.1) $
    calls_at ! (framed 𝓤 𝓛.H 𝓜 𝓣) (Takes Z 𝓛 𝓜.mem 𝓡.returns) (bound_met.allocate dd) x (and_then ! (get ! refl) (and_then ! (get ! refl) (and_then ! (get ! refl) (no_more !)))) (λ w.
    use1 𝓛 (later (raw (Answered Z 𝓛 𝓜.mem 𝓡.returns a.0.now.inner τ w) ⊛ ‵ (flft κ q))) (Takes-gives Z 𝓛 𝓜.mem 𝓡.returns κ q at a.0.now.inner a.1.0 a.1.1.0 τ w) $ await ! tt $ split ! $
    answers Z ! 𝓜.mem 𝓡.returns a.0.now.inner τ w
    (λ b o is_block. fjoin ! $ lands_as ! is_block refl (Answer-typed true b o) $ returns ! (look_at ! 0 refl) $ free_all ! refl $
    suffices ! _ (ends_at 𝓛 (ended Z) (stayed Z) c y (answer_val true b o) (Ok (block_ptr b o)) (tt, (tt, (tt, tt))) (tt, (tt, (tt, tt)))) $
    use0 𝓛 (‵ (Answer.own_val (Ok (block_ptr b o)) (answer_val true b o ∷ []))) (Answer-Ok 𝓛 b o) $
    nothing ! $ nothing ! $ fjoin ! $ nothing ! $ fjoin ! $ nothing ! $ fjoin ! $ join ! $ move ! (2 ∷ 3 ∷ []) $ join ! $ join ! $ done !)
    (λ is_none. lands_as ! is_none refl (Answer-typed false 0 0) $ returns ! (look_at ! 0 refl) $ free_all ! refl $ refused))))))))))
