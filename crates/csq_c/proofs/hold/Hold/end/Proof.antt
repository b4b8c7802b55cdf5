-- Nothing is owned, and nothing is done.
use Rattle.std.proofs.Common.{List, [], ◌∷◌, ◌++◌, refl}
use Rattle.csq_c.proofs.Imports.{proved_at, leaves, ftrue, fsep, tables, no, layouts, param, plain, nothing, alive, Stays, stay_dropped, walk_of, inst_fn, a_type, Val, vunit, WpFn, alloc_all, pass_all, free_all, look_at, sets, ‵, raw, ◌⊛◌, prop, ◌$◌, ◌∵◌, !, qed, by, move, keep, split, fsplit, fjoin, regoal, feq_i, enter, of_opd, unit_lit, returns, Goes-blank, held}
use Rattle.csq_c.specs.contracts.hold.Hold as hold
use Rattle.csq_c.specs.contracts.hold.Hold.end as f
use Rattle.csq_c.proofs.Holding.{word, word_typed, taken_apart}
use Rattle.csq_c.proofs.hold.Hold.end.Code as code
use Rattle.csq_c.proofs.hold.Hold.end.Statement.{statement}

pub end_spec : {M : Type 1} → statement M
end_spec 𝓤 𝓛 𝓜 𝓡 wired T laws =
    let H = 𝓛.H in let 𝓣 = tables 𝓤 H 𝓜 𝓡 𝓡.env in let inst = layouts (a_type ∷ []) (T, tt) in let fn = inst_fn inst code.function in
    let En = f.ended T in let c = f.clauses T 𝓛 𝓜.mem 𝓡.returns in let R = param 0 T in let Self = plain (λ _. hold.the_row R) in
    let hs : Stays En.signature.params En.kept = (stay_dropped Self no, tt) in
    proved_at 𝓛 En hs c 𝓜 𝓡 (Goes-blank 𝓛 1 Self no (λ κs x w. tt), tt) (f.Key.name inst) fn (code.unfolded 𝓤 H 𝓜 𝓡 wired (T, tt)) (λ z are.
    let p = z.0.3.0.at in let body = z.0.3.0.body in let Post = (walk_of 𝓛 En hs c).post z in
    qed 𝓛 ((raw (alive 𝓛 En.signature z.0.0 z.0.1) ⊛ ‵ (fsep ((hold.the_row R).own_val z.0.3.0 z.0.4.0) ftrue)) ∷ raw ((c z.0.0 z.0.3).requires z.1) ∷ []) ∵
    split ! $ move ! (1 ∷ []) $ fsplit ! $ taken_apart ! p (held R p body) z.0.4.0 (λ is. keep ! (2 ∷ []) $
    regoal ! (λ (us : List Val). prop (WpFn 𝓤 H 𝓣.C 𝓣.Λ fn us Post)) (λ i. is i ++ []) refl $
    enter ! 𝓣.C 𝓣.Λ fn (word p ∷ []) Post $ alloc_all ! (λ l. pass_all ! refl (word_typed p, tt) $
    sets ! (of_opd ! (unit_lit !)) refl (tt, tt) $ returns ! (look_at ! 0 refl) $ free_all ! refl $
    nothing ! $ feq_i ! (List Val) (vunit ∷ []) (vunit ∷ []) refl $ nothing ! $ nothing ! $ fjoin ! $ move ! (3 ∷ []) $
    by ! (leaves 𝓛 En hs c z vunit tt (tt, tt) (tt, tt)))))
