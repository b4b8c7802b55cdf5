-- The address goes over.
use Rattle.std.proofs.Common.{◌≡◌, refl}
use Rattle.csq_c.proofs.Imports.{proved_at, leaves, emp, fact, fact_i, tables, yes, plain, alive, Stays, stay_dropped, walk_of, Goes-blank, held}
use Rattle.csq_c.specs.contracts.replay.body.ReplayBody.{the_row}
use Rattle.csq_c.specs.contracts.hold.Hold as hold
use Rattle.csq_c.specs.contracts.handles.ReplayBoxHandle.of as f
use Rattle.csq_c.proofs.Holding.{word, passes}
use Rattle.csq_c.proofs.handles.ReplayBoxHandle.of.Code as code
use Rattle.csq_c.proofs.handles.ReplayBoxHandle.of.Statement.{statement}

abbrev stayed : Stays f.ended.signature.params f.ended.kept
stayed = (stay_dropped (plain (λ _. hold.the_row the_row)) yes, tt)

pub of_spec : {M : Type 1} → statement M
of_spec 𝓤 𝓛 𝓜 𝓡 wired =
    let 𝓣 = tables 𝓤 𝓛.H 𝓜 𝓡 𝓡.env in let c = f.clauses 𝓛 𝓜.mem 𝓡.returns in
    proved_at 𝓛 f.ended stayed c 𝓜 𝓡 (Goes-blank 𝓛 0 (plain (λ _. hold.the_row the_row)) yes (λ κs x w. tt), tt)
    f.Key.name code.function (code.unfolded 𝓤 𝓛.H 𝓜 𝓡 wired) (λ z are.
    let p = z.0.3.0.at in let body = z.0.3.0.body in
    passes 𝓛 𝓣.C 𝓣.Λ _ _ p (held the_row p body) z.0.4.0 (alive 𝓛 f.ended.signature z.0.0 z.0.1) ((c z.0.0 z.0.3).requires z.1) (fact 𝓤 (body ≡ body))
    ((walk_of 𝓛 f.ended stayed c).post z) (fact_i 𝓤 (body ≡ body) (emp 𝓤) refl)
    (leaves 𝓛 f.ended stayed c z (word p) (record { at = p; body = body }) (tt, tt) (tt, tt)))
