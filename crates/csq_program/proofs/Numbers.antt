-- The numbers of options.
use Rattle.std.proofs.Common.{◌≡◌, ◌<◌, ◌^◌, ℕ, List, Option, Some, None, Result, Ok, Err, unwrap_or, refl, sym, ap, ◌∙◌, decimal, arith}
use Rattle.std.proofs.lemmas.Fmt.{parse-decimal}
use Rattle.std.specs.Str.Parse.{ParsesUnsigned, ExplainsUnsignedError, HasUnsignedDigitsIfOk}
use Rattle.clap.specs.declared.parser.matches.ArgMatches.{ArgMatches}
use Rattle.clap.specs.Matches.{ReadsOne, found_of, one_text}

-- what was read, if it was
abbrev was_read : {E : Type 0} → Result ℕ E → Option ℕ
was_read (Ok v) = Some v
was_read (Err e) = None

-- a text that writes a number is read as that number
number_read : (E : Type 0) (G : List ℕ → Result ℕ E → Type 0) (n : ℕ) (found : Option ℕ) → ((t : List ℕ) (r : Result ℕ E) → G t r → ParsesUnsigned 32 10 t r)
    → n < 2 ^ 32 → ReadsOne G (decimal n) found → found ≡ Some n
number_read E G n (Some v) parses few h = ap (λ (r : Result ℕ E). was_read r) (parse-decimal 32 n (decimal n) (Ok v) few (omega arith) refl (parses (decimal n) (Ok v) h))
number_read E G n None parses few h = ap (λ (r : Result ℕ E). was_read r) (parse-decimal 32 n (decimal n) (Err h.0) few (omega arith) refl (parses (decimal n) (Err h.0) h.1))

-- and so is the text of an option
pub option_read : (options : ArgMatches) (name : List ℕ) (found : Option ℕ)
    → ((t : List ℕ) → one_text (found_of options) name ≡ Some t → ReadsOne (λ t r. ParsesUnsigned 32 10 t r × ExplainsUnsignedError 10 t r × HasUnsignedDigitsIfOk t r) t found)
    → (n : ℕ) → n < 2 ^ 32 → one_text (found_of options) name ≡ Some (decimal n) → found ≡ Some n
option_read options name found reads n few text =
    number_read _ (λ t r. ParsesUnsigned 32 10 t r × ExplainsUnsignedError 10 t r × HasUnsignedDigitsIfOk t r) n found (λ t r h. h.0) few (reads (decimal n) text)

-- two numbers that were both read are the same
pub same_read : (found : Option ℕ) (number n : ℕ) → found ≡ Some number → found ≡ Some n → number ≡ n
same_read found number n e h = ap (λ (o : Option ℕ). unwrap_or o 0) (sym e ∙ h)
