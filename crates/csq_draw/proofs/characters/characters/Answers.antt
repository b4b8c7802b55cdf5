use Rattle.std.proofs.Common.{rules, ◌≡◌, List, ℕ, ◌-◌, ◌++◌, map, take, take_all, drop, length, length-drop, chars, ap, subst, ◌∙◌, arith}
use Rattle.std.specs.Str.Lossy.{utf8_valid_len}
use Rattle.csq_draw.specs.Characters.{shown, marked, after_mark, characters}
use Rattle.csq_draw.proofs.Reading.{read_more, read_all, characters_kept}
use Rattle.csq_draw.proofs.characters.characters.Goals as goal

pub fronts-preserved : goal.fronts-preserved
fronts-preserved g c =
    let rest = c.fronts.rest.now in
    let n = c.utf8_front-text.ensures.len in
    let left = length-drop (length c.utf8_front-text.result.now) rest in
    let behind : take (length rest - length c.utf8_front-text.result.now) (drop (length c.utf8_front-text.result.now) rest) ≡ drop (utf8_valid_len rest) rest =
    take_all _ _ (omega arith) ∙ ap (λ k. drop k rest) n in
    let Q : List ℕ → Type 0 = λ t. (c.push_mark.new.to.items ≡ c.push_shown.new.to.items ++ marked t) × (c.in_ok-rest.rest.now ≡ after_mark t) in
    let both = subst Q behind (c.in_ok-rest.ensures.marks, c.in_ok-rest.ensures.rest) in
    let front = ap (λ t. c.fronts.made.items ++ map shown (chars t)) c.utf8_front-text.ensures.value in
    ap (λ t. c.push_mark.new.to.items ++ characters t) both.1
    ∙ read_more _ rest c.fronts.made.items c.push_shown.new.to.items c.push_mark.new.to.items c.fronts.invariant (c.in_ok-push_shown.ensures ∙ front) both.0

pub returns-clause-value : goal.returns-clause-value
returns-clause-value g c = read_all _ c.fronts.rest.now c.fronts.made.items c.fronts.invariant (search rules)

pub returns-clause-kept : goal.returns-clause-kept
returns-clause-kept g c = λ utf8. read_all _ c.fronts.rest.now c.fronts.made.items c.fronts.invariant (search rules) ∙ characters_kept c.args.bytes.now utf8
