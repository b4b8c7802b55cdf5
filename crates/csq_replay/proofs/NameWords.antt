-- The words that name an IRP in a life.
use Rattle.std.proofs.Common.{length, ◌≡◌, ℕ, ◌<◌, ◌≤◌, ◌^◌, ◌⊎◌, inl, inr, List, [], ◌∷◌, ◌++◌, get_or, refl, ap, sym, ◌∙◌, arith, decimal, false}
use Rattle.std.proofs.lemmas.Str.Parse.{digit_at, numerals_by_value, tells_digits}
use Rattle.std.proofs.lemmas.Str.Ascii.{IsAscii-from_all}
use Rattle.csq_replay.proofs.Imports.{◌==◌, All, join_with_byte, IsAscii, All-append, All-cons, All-nil, slice_split_none, slice_split_at, length-slice_split, join_with_byte-slice_split, IsAscii-append, digits_decimal, decimal_injective, IsAscii-decimal, length-decimal-le, get_or_default, ne_eqb, IrpId, number, life_of, IrpLife, irp_text, named, pieces, words_of, IsShort, IsNumber, IsNameWord}

-- a byte that is no digit doesn't stand in a number
no_digit : (byte n : ℕ) → n < 2 ^ 64 → (byte < 48) ⊎ (57 < byte) → All (λ x. (x == byte) ≡ false) (decimal n)
no_digit byte n lt out = λ k d in_range.
    let digits = digits_decimal (numerals_by_value _ tells_digits) n lt in
    let digit = digit_at (decimal n) k digits in_range in
    let same = get_or_default (decimal n) k d 0 in_range in
    ne_eqb (get_or (decimal n) k d) byte (λ e. differ (get_or (decimal n) k d) (get_or (decimal n) k 0) same digit.0 digit.1 e out)
  where
    differ : (a b : ℕ) → a ≡ b → 48 ≤ b → b ≤ 57 → a ≡ byte → (byte < 48) ⊎ (57 < byte) → ⊥
    differ a b same low high e (inl o) = omega (arith, same, low, high, e, o)
    differ a b same low high e (inr o) = omega (arith, same, low, high, e, o)

short_fits : (n : ℕ) → IsShort n → n < 2 ^ 64
short_fits n lt = omega (arith, lt)

-- a number is one piece
pub pieces_of-decimal : (byte n : ℕ) → n < 2 ^ 64 → (byte < 48) ⊎ (57 < byte) → pieces byte (decimal n) ≡ decimal n ∷ []
pieces_of-decimal byte n lt out = slice_split_none (λ b. b == byte) (decimal n) (no_digit byte n lt out)

-- what is one piece is that piece
pub one_piece : (byte : ℕ) (text piece : List ℕ) → pieces byte text ≡ piece ∷ [] → text ≡ piece
one_piece byte text piece e = sym (join_with_byte-slice_split byte text) ∙ ap (join_with_byte byte) e

-- the same of words
pub words_of-decimal : (n : ℕ) → n < 2 ^ 64 → words_of (decimal n) ≡ decimal n ∷ []
words_of-decimal n lt = pieces_of-decimal 32 n lt (inl (omega arith))

pub alone : (text word : List ℕ) → words_of text ≡ word ∷ [] → text ≡ word
alone = one_piece 32

-- a name is one word
pub word_alone : (word : List ℕ) (i : IrpLife) → IsNameWord word i → words_of word ≡ word ∷ []
word_alone word i (inl h) = rw h.0 (pieces_of-decimal 32 (number i) (short_fits _ h.1) (inl (omega arith)))
word_alone word i (inr h) =
    let P : ℕ → Type 0 = λ x. (x == 32) ≡ false in
    let all : All P (decimal (number i) ++ (64 ∷ decimal (life_of i))) =
    All-append P (decimal (number i)) (64 ∷ decimal (life_of i)) (no_digit 32 (number i) (short_fits _ h.1) (inl (omega arith)))
    (All-cons P 64 (decimal (life_of i)) refl (no_digit 32 (life_of i) (short_fits _ h.2) (inl (omega arith)))) in
    rw h.0 (slice_split_none (λ b. b == 32) (decimal (number i) ++ (64 ∷ decimal (life_of i))) all)

-- the pieces of a name: the number, and the life's if it is named
abbrev pub NamePieces : List ℕ → IrpLife → Type 0
NamePieces word i = ((pieces 64 word ≡ decimal (number i) ∷ []) × (life_of i ≡ 0)) ⊎ (pieces 64 word ≡ decimal (number i) ∷ decimal (life_of i) ∷ [])

pub name_pieces : (word : List ℕ) (i : IrpLife) → IsNameWord word i → NamePieces word i
name_pieces word i (inl h) = inl (rw h.0 (pieces_of-decimal 64 (number i) (short_fits _ h.1) (inr (omega arith))), h.2)
name_pieces word i (inr h) =
    let cut = slice_split_at (λ b. b == 64) (decimal (number i)) 64 (decimal (life_of i)) (no_digit 64 (number i) (short_fits _ h.1) (inr (omega arith))) refl in
    inr (rw h.0 (cut ∙ ap (λ ps. decimal (number i) ∷ ps) (pieces_of-decimal 64 (life_of i) (short_fits _ h.2) (inr (omega arith)))))

shorts : (word : List ℕ) (i : IrpLife) → IsNameWord word i → IsShort (number i) × IsShort (life_of i)
shorts word i (inl h) = (h.1, omega (arith, h.2))
shorts word i (inr h) = (h.1, h.2)

pub number_by_text : (m n : ℕ) → IsShort m → IsShort n → decimal m ≡ decimal n → m ≡ n
number_by_text m n a b e = decimal_injective m n (omega (arith, a)) (omega (arith, b)) e

pub irp_by_text : (i j : IrpId) → IsShort i.0 → IsShort j.0 → irp_text i ≡ irp_text j → i ≡ j
irp_by_text i j a b e = let id : ℕ → IrpId = λ n. record { 0 = n } in ap id (number_by_text i.0 j.0 a b e)

-- a word names at most one life of one IRP
pub same_name : (word : List ℕ) (i j : IrpLife) → IsNameWord word i → IsNameWord word j → i ≡ j
same_name word i j h k = go (name_pieces word i h) (name_pieces word j k)
  where
    irp : decimal (number i) ≡ decimal (number j) → number i ≡ number j
    irp e = number_by_text (number i) (number j) (shorts word i h).0 (shorts word j k).0 e

    go : NamePieces word i → NamePieces word j → i ≡ j
    go (inl a) (inl b) = named i j (irp (cc (a.0, b.0))) (a.1 ∙ sym b.1)
    go (inl a) (inr b) = absurd (cc (a.0, b))
    go (inr a) (inl b) = absurd (cc (a, b.0))
    go (inr a) (inr b) = named i j (irp (cc (a, b))) (number_by_text (life_of i) (life_of j) (shorts word i h).1 (shorts word j k).1 (cc (a, b)))

module _ (word head : List ℕ) where
  -- a word whose first piece is no number names nothing
  pub no_number : (rest : List (List ℕ)) → pieces 64 word ≡ head ∷ rest → ((n : ℕ) → ¬ IsNumber head n) → (i : IrpLife) → ¬ IsNameWord word i
  no_number rest cut none i h = go (name_pieces word i h)
    where
      go : NamePieces word i → ⊥
      go (inl a) = none (number i) (cc (cut, a.0), (shorts word i h).0)
      go (inr a) = none (number i) (cc (cut, a), (shorts word i h).0)

  -- nor does one whose second piece is none
  pub no_life : (rest : List ℕ) → pieces 64 word ≡ head ∷ pieces 64 rest → ((n : ℕ) → ¬ IsNumber rest n) → (i : IrpLife) → ¬ IsNameWord word i
  no_life rest cut none i h = go (name_pieces word i h)
    where
      go : NamePieces word i → ⊥
      go (inl a) =
          let nothing : pieces 64 rest ≡ [] = cc (cut, a.0) in
          omega (arith, ap length nothing, length-slice_split (λ b. b == 64) rest)
      go (inr a) = let one : pieces 64 rest ≡ decimal (life_of i) ∷ [] = cc (cut, a) in none (life_of i) (one_piece 64 rest (decimal (life_of i)) one, (shorts word i h).1)

  pub in_life : (rest : List ℕ) → pieces 64 word ≡ head ∷ pieces 64 rest → (n g : ℕ) → IsNumber head n → IsNumber rest g
      → IsNameWord word (record { irp = record { 0 = n }; life = record { 0 = g } })
  in_life rest cut n g a b =
      let whole : pieces 64 word ≡ decimal n ∷ decimal g ∷ [] =
      cut ∙ ap (λ x. x ∷ pieces 64 rest) a.0 ∙ ap (λ x. decimal n ∷ x) (ap (pieces 64) b.0 ∙ pieces_of-decimal 64 g (short_fits g b.1) (inr (omega arith))) in
      inr (sym (join_with_byte-slice_split 64 word) ∙ ap (join_with_byte 64) whole, a.1, b.1)

-- a name is ASCII, and at most 19 bytes long
pub name_ascii : (word : List ℕ) (i : IrpLife) → IsNameWord word i → IsAscii word
name_ascii word i (inl h) = rw h.0 (IsAscii-decimal (number i) (short_fits _ h.1))
name_ascii word i (inr h) =
    rw h.0 (IsAscii-append (decimal (number i)) (64 ∷ decimal (life_of i)) (IsAscii-decimal (number i) (short_fits _ h.1))
    (IsAscii-append (64 ∷ []) (decimal (life_of i)) (IsAscii-from_all (64 ∷ []) (All-cons (λ b. b < 128) 64 [] (omega arith) (All-nil (λ b. b < 128)))) (IsAscii-decimal (life_of i) (short_fits _ h.2))))

pub short_number : (n : ℕ) → IsShort n → length (decimal n) ≤ 9
short_number n lt = length-decimal-le 9 n (omega arith) lt (omega (arith, lt))
