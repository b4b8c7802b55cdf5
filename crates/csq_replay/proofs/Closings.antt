-- The closing lines.
use Rattle.std.proofs.Common.{◌≡◌, ℕ, ◌+◌, List, [], ◌∷◌, ◌++◌, ap, append_assoc, append-nil, ◌∙◌, sym, subst, add-one, refl, codes}
use Rattle.csq_replay.proofs.Imports.{Made, present, Size, IrpLine, ComesTo, irp_line_text, irp_lines_text, IsReportedOf, AreReportedOf, GrewBy}
use Rattle.csq_replay.specs.declared.schedule.outcome.Outcome.{Outcome}

-- a text that grew twice grew by both
pub grew_more : (old between new first second : List ℕ) → GrewBy old between first → GrewBy between new second → GrewBy old new (first ++ second)
grew_more old between new first second a b = b ∙ ap (λ t. t ++ second) a ∙ append_assoc old first second

pub grew_none : (text : List ℕ) → GrewBy text text []
grew_none text = sym (append-nil text)

pub lines-append : (xs ys : List IrpLine) → irp_lines_text (xs ++ ys) ≡ irp_lines_text xs ++ irp_lines_text ys
lines-append [] ys = refl
lines-append (x ∷ xs) ys = ap (λ t. (irp_line_text x ++ codes "\n") ++ t) (lines-append xs ys) ∙ sym (append_assoc (irp_line_text x ++ codes "\n") (irp_lines_text xs) (irp_lines_text ys))

-- one more IRP is reported
pub reported_more : (first : ℕ) (E : List Made) (n : ℕ) (before last : List IrpLine) → AreReportedOf first E n before → IsReportedOf E (present first E (record { 0 = n })) last → AreReportedOf first E (n + 1) (before ++ last)
reported_more first E n before last lines line =
    let P : ℕ → Type 0 = λ k. AreReportedOf first E k (before ++ last) in
    subst P (sym (add-one n)) (before, last, lines, line, refl)

-- the same, of a machine whose size is known by another name
pub comes_of_size : (now size : Size) (E : List Made) (line : List ℕ) (comes : Outcome) → now ≡ size → ComesTo now E line comes → ComesTo size E line comes
comes_of_size now size E line comes same is = let P : Size → Type 0 = λ n. ComesTo n E line comes in subst P same is
