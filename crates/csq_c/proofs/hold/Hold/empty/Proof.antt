-- Null is stored, and nothing is owned.
use Rattle.std.proofs.Common.{◌≡◌, [], ◌∷◌, refl}
use Rattle.csq_c.proofs.Imports.{proved_at, leaves, Option, None, ftrue, emp, fact, fact_i, tables, layouts, param, Ptr, null_ptr, nothing, alive, walk_of, inst_fn, a_type, alloc_all, pass_all, free_all, look_at, sets, ‵, raw, ◌⊛◌, ◌$◌, ◌∵◌, !, qed, by, move, keep, split, use0, feq_i, agg, enter, lit, no_more, and_then, returns, held}
use Rattle.csq_c.specs.contracts.hold.Hold.empty as f
use Rattle.csq_c.proofs.Holding.{word, word_typed, made}
use Rattle.csq_c.proofs.hold.Hold.empty.Code as code
use Rattle.csq_c.proofs.hold.Hold.empty.Statement.{statement}

pub empty_spec : {M : Type 1} → statement M
empty_spec 𝓤 𝓛 𝓜 𝓡 wired T laws =
    let H = 𝓛.H in let 𝓣 = tables 𝓤 H 𝓜 𝓡 𝓡.env in let inst = layouts (a_type ∷ []) (T, tt) in let fn = inst_fn inst code.function in
    let En = f.ended T in let c = f.clauses T 𝓛 𝓜.mem 𝓡.returns in
    proved_at 𝓛 En tt c 𝓜 𝓡 tt (f.Key.name inst) fn (code.unfolded 𝓤 H 𝓜 𝓡 wired (T, tt)) (λ z are.
    let Post = (walk_of 𝓛 En tt c).post z in let R = param 0 T in let none : Option T.Denot = None in
    qed 𝓛 ((raw (alive 𝓛 En.signature z.0.0 z.0.1) ⊛ ‵ ftrue) ∷ raw ((c z.0.0 z.0.3).requires z.1) ∷ []) ∵ split ! $ keep ! (0 ∷ []) $
    enter ! 𝓣.C 𝓣.Λ fn [] Post $ alloc_all ! (λ l. pass_all ! refl tt $
    sets ! (agg ! (and_then ! (lit ! tt) (no_more !))) refl (word_typed null_ptr) $
    returns ! (look_at ! 0 refl) $ free_all ! refl $
    use0 𝓛 (raw (fact 𝓤 (none ≡ None))) (fact_i 𝓤 (none ≡ None) (emp 𝓤) refl) $
    feq_i ! Ptr null_ptr null_ptr refl $ made ! null_ptr (held R null_ptr None) $
    nothing ! $ move ! (3 ∷ 0 ∷ 1 ∷ 2 ∷ []) $
    by ! (leaves 𝓛 En tt c z (word null_ptr) (record { at = null_ptr; body = None }) tt tt)))
