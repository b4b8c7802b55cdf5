-- The block goes back to the inner allocator, whose right to free it is the heap's own.
use Rattle.std.proofs.Common.{◌≡◌, ℕ, ◌+◌, [], ◌∷◌, ◌++◌, refl, w64}
use Rattle.std.proofs.raw_atomic.Walks.{proved}
use Rattle.std.proofs.alloc.Calls.{Al, α, seen, token, Gives, at_gives, Gives-goes, Gives-Gives}
use base.Logic.{id⊢}
use base.Fml.{ftrue, flft}
use contract.BorrowLft.{◌⊑◌, ⊑_trans}
use contract.Monad.{fact}
use contract.Running.{tables}
use denote.Builtin.{usize, RefOf}
use denote.Exit.{yes}
use denote.Opens.{unhide}
use denote.Param.{bounded}
use denote.Plain.{uint_vals, uint_Tells}
use denote.RattleType.{owns}
use denote.RawPtr.{Ptr, RawPtr, block_ptr, room_for, in_a_block, rawptr_vals, rawptr_Tells}
use denote.Ref.{shr_vals}
use denote.Signature.{Slot, plain, types_at}
use denote.Param.{param}
use denote.Steps.{heard, nothing}
use denote.Triple.Call.{calls_at}
use denote.Triple.Clauses.{Ended}
use denote.Triple.Table.{framed}
use denote.Triple.Walked.{Stays, stay_dropped, walk_of, ends_at, Goes-dropped}
use mir.MapTy.{inst_fn}
use mir.Syntax.{Args, a_type, dnil, dcons}
use mir.Val.{vunit}
use prog.Memory.{size, align, capped, up}
use prog.Wp.{WpFn}
use types.ByLocal.{alloc_all, pass_all, free_all, look_at, get, through, sets, lands_as}
use types.Kit.{‵, raw, ◌⊛◌, later, given, prop, ◌$◌, ◌∵◌, !, qed, regoal, rewrite, move, keep, use1, split, join, learn, fsplit, fjoin, feq_i, group, suffices, await, done}
use types.Run.{enter, of_opd, unit_lit, stop, fld, addr, no_more, and_then, returns}
use Rattle.test_heap.specs.contracts.heap.RefusingHeap as wrapper
use Rattle.test_heap.specs.contracts.heap.RefusingHeapAllocator.deallocate as f
use Rattle.test_heap.proofs.heap.RefusingHeapAllocator.deallocate.Code as code
use Rattle.test_heap.proofs.heap.RefusingHeapAllocator.deallocate.Statement.{statement}

module _ (Z : Al) where
  abbrev args : Args
  args = bounded (a_type ∷ []) (Z.row, tt) (dcons Z.d (dcons Z.drops dnil))

  abbrev self : Slot 2
  self = RefOf (0 ∷ []) tt (plain (λ _. wrapper.the_row (param 0 Z.row))) (λ _. tt)

  abbrev ended : Ended
  ended = f.ended Z.row Z.g Z.d Z.drops

  abbrev stayed : Stays ended.signature.params ended.kept
  stayed = (stay_dropped self yes, (stay_dropped _ yes, (stay_dropped _ yes, (stay_dropped _ yes, tt))))

pub deallocate_spec : {M : Type 1} → statement M
deallocate_spec 𝓤 𝓛 𝓜 𝓡 wired B laws g d dd met _ =
    let Z : Al = record { row = B; laws = laws; g = g; d = d; drops = dd } in
    let c = f.clauses B g d dd 𝓛 𝓜.mem 𝓡.returns in
    let W = walk_of 𝓛 (ended Z) (stayed Z) c in
    let 𝓣 = tables 𝓤 𝓛.H 𝓜 𝓡 𝓡.env in
    let number = Goes-dropped 𝓛 2 (plain (λ _. usize)) yes (λ κs x w. refl) in
    proved 𝓛 (ended Z) (stayed Z) c 𝓜 𝓡 (Goes-dropped 𝓛 2 (self Z) yes (λ κs x w. refl), (Goes-dropped 𝓛 2 (plain (λ _. RawPtr)) yes (λ κs x w. refl), (number, (number, tt))))
    (f.Key.name (args Z)) (inst_fn (args Z) code.function) (code.unfolded 𝓤 𝓛.H 𝓜 𝓡 wired (B, tt) d dd)
    (λ κs. (shr_vals, (rawptr_vals, (uint_vals w64, (uint_vals w64, tt))))) (λ κs. ((λ r vs s. s.0), (rawptr_Tells, (uint_Tells w64, (uint_Tells w64, tt)))))
    (λ κs qs bounds a τ are.
    let heap = a.0.now.inner in let numbers = a.1.1 in
    let at : ℕ × ℕ = (a.0.ref_ptr.0, a.0.ref_ptr.1 + up (align (α Z)) 0) in
    let y : Ptr → W.Ghost = λ p. ((κs, qs, bounds, (a.0, (p, numbers)), (shr_vals a.0, (rawptr_vals p, (uint_vals w64 numbers.0, (uint_vals w64 numbers.1.0, tt))))), τ) in
    let given_back : ℕ → ℕ → (Gives Z 𝓛 𝓜.mem 𝓡.returns).Ghost = λ b o. at_gives Z 𝓛 𝓜.mem 𝓡.returns κs.0 qs.0 at heap b o numbers.0 numbers.1.0 τ in
    qed 𝓛 (((‵ (flft κs.0 qs.0) ⊛ ‵ (flft κs.1.0 qs.1.0) ⊛ ‵ ftrue) ⊛ ‵ (owns (types_at (ended Z).signature.params κs) a (y a.1.0).0.4))
    ∷ (raw (fact 𝓤 (κs.1.0 ⊑ B.lives)) ⊛ raw (fact 𝓤 ((capped (size τ) ≡ numbers.0) × (capped (align τ) ≡ numbers.1.0))) ⊛ ‵ (room_for τ a.1.0) ⊛ ‵ (token Z heap τ a.1.0)) ∷ []) ∵
    move ! (1 ∷ []) $ split ! $ heard ! _ (λ lives. split ! $ heard ! _ (λ sizes. split ! $
    in_a_block ! a.1.0 (λ p. room_for τ p) (id⊢ 𝓤 _) (λ b o e.
    rewrite ! 1 (λ p. ‵ (token Z heap τ p)) e refl $
    regoal ! (λ p. prop (WpFn 𝓤 𝓛.H 𝓣.C 𝓣.Λ (inst_fn (args Z) code.function) (shr_vals a.0 ++ rawptr_vals p ++ uint_vals w64 numbers.0 ++ uint_vals w64 numbers.1.0) (W.post (y p)))) e refl $
    -- [the lifetimes' tokens; what the parameters own; the room; the right to free it]
    move ! (2 ∷ []) $ split ! $ split ! $ move ! (2 ∷ []) $ fsplit ! $ fsplit ! $ move ! (1 ∷ []) $ unhide ! $ fsplit ! $ fsplit ! $
    use1 𝓛 (‵ (seen Z κs.0 at heap)) (id⊢ 𝓤 _) $ keep ! (7 ∷ 8 ∷ 0 ∷ 5 ∷ 6 ∷ []) $
    enter ! _ _ _ _ _ $ alloc_all ! (λ l. pass_all ! refl ((tt, tt), ((tt, tt), ((tt, record { fits = are.1.1.0.1 }), ((tt, record { fits = are.1.1.1.0.1 }), tt)))) $
    sets ! (addr ! (through ! refl (fld ! refl (stop !)))) refl (tt, tt) $ group ! 4 $
    use1 𝓛 (raw ((Gives Z 𝓛 𝓜.mem 𝓡.returns).pre (given_back b o))) (Gives-goes Z 𝓛 𝓜.mem 𝓡.returns κs.0 qs.0 at heap (⊑_trans κs.0 κs.1.0 B.lives bounds.0 lives) b o numbers.0 numbers.1.0 τ sizes.0 sizes.1 are.1.1.0.1 are.1.1.1.0.1) $
    calls_at ! (framed 𝓤 𝓛.H 𝓜 𝓣) (Gives Z 𝓛 𝓜.mem 𝓡.returns) (met.deallocate dd) (given_back b o) (and_then ! (get ! refl) (and_then ! (get ! refl) (and_then ! (get ! refl) (and_then ! (get ! refl) (no_more !))))) (λ v.
    use1 𝓛 (later (given (v ≡ vunit) (‵ (flft κs.0 qs.0)))) (Gives-Gives Z 𝓛 𝓜.mem 𝓡.returns κs.0 qs.0 at heap b o numbers.0 numbers.1.0 τ v) $ await ! tt $ learn ! (λ is_unit.
    lands_as ! is_unit refl (tt, tt) $ sets ! (of_opd ! (unit_lit !)) refl (tt, tt) $ returns ! (look_at ! 0 refl) $ free_all ! refl $
    suffices ! _ (ends_at 𝓛 (ended Z) (stayed Z) c (y (block_ptr b o)) vunit tt (tt, (tt, (tt, (tt, tt)))) (tt, (tt, (tt, (tt, tt))))) $
    -- [the tokens]
    nothing ! $ feq_i ! _ (vunit ∷ []) _ refl $ nothing ! $ nothing ! $ fjoin ! $ nothing ! $ fjoin ! $ nothing ! $ fjoin ! $ nothing ! $ fjoin ! $ join ! $
    move ! (2 ∷ 3 ∷ []) $ join ! $ join ! $ done !)))))))
