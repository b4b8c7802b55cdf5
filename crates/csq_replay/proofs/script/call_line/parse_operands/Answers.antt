use Rattle.csq_replay.proofs.CallWords.{no_call, no_life_call, call_of_life_word, call_of_number, apart}
use Rattle.csq_replay.proofs.script.call_line.parse_operands.Goals as goal

pub returns-in_err-parse_name : goal.returns-in_err-parse_name
returns-in_err-parse_name c = rw c.from_residual.ensures (no_life_call _ _ (c.names_life.ensures.0 c.if-names_life.true) c.in_err-parse_name.ensures)

pub returns-then-names_life : goal.returns-then-names_life
returns-then-names_life c = call_of_life_word _ _ (c.names_life.ensures.0 c.if-names_life.true) _ c.in_ok-parse_name.ensures _ c.call_of_life.ensures

pub returns-in_err-parse_number : goal.returns-in_err-parse_number
returns-in_err-parse_number c =
    rw c.from_residual-in_err-parse_number.ensures (no_call _ _ (apart _ _ _ _ c.eq.ensures c.if-eq.false c.as_slice.ensures) (apart _ _ _ _ c.eq-2.ensures c.if-eq-2.false c.as_slice-2.ensures) (apart _ _ _ _ c.eq-3.ensures c.if-eq-3.false c.as_slice-3.ensures)
    (apart _ _ _ _ c.eq-4.ensures c.if-eq-4.false c.as_slice-4.ensures) (λ life. let t = c.names_life.ensures.1 life in cc) c.in_err-parse_number.ensures)

pub returns : goal.returns
returns c = call_of_number _ _ _ c.in_ok-parse_number.ensures _ c.call_of_number.ensures
