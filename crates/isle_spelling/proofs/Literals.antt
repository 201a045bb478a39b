-- A literal is read as the type and the magnitude that it was spelled from.
use Rattle.std.proofs.Common.{◌≡◌, ℕ, zero, suc, ◌<◌, ◌≤◌, List, [], ◌∷◌, ◌++◌, map, length-append, Bool, true, false, cond, Some, refl, arith}
use Rattle.std.specs.Prelude.{codes, ℤ, pos, negsuc}
use Rattle.std.specs.List.{list_all}
use Rattle.std.specs.Int.Digits.{digits_of, AllBelowBase}
use Rattle.std.proofs.lemmas.Int.Digits.{all_below_base_digits_of}
use Rattle.std.proofs.lemmas.Bool.{ne_eqb, and_parts}
use Rattle.std.proofs.lemmas.Bool.Decides.{nat_tests}
use Rattle.isle_core.specs.declared.types.IntType.{IntType}
use Rattle.isle_core.specs.declared.types.IntType.TheVariants.{U8, U16, U32, U64, U128, USize, I8, I16, I32, I64, I128, ISize}
use Rattle.isle_printer.specs.Number.{numeral, glyph}
use Rattle.isle_core.specs.Int.{type_name, is_signed}
use Rattle.isle_printer.specs.Token.{Word, Mark, AfterMark, is_word_byte, is_word, goes_on, step, begun, tokens_of}
use Rattle.isle_printer.specs.declared.printer.Last.TheVariants as last
use Rattle.isle_printer.proofs.Scans.{tokens-word, ends_apart, ends-Between}
use Rattle.isle_printer.proofs.Numerals.{below_sixteen, list_all-numeral, list_all-join, word_from}
use Rattle.isle_printer.proofs.Readback.{numeral_again}
use Rattle.isle_spelling.specs.Literal.{literal_word, literal_text, literal_tokens, digits_word, parted, literal_of}

pub glyph_no_bar : (d : ℕ) → d < 16 → glyph d ≡ 95 → ⊥
glyph_no_bar d h = grind (arith, nat_tests)

parted-glyphs : (ds w : List ℕ) → AllBelowBase 16 ds → parted (map glyph ds ++ 95 ∷ w) ≡ (map glyph ds, w)
parted-glyphs [] w all = refl
parted-glyphs (d ∷ ds) w all = rw (ne_eqb (glyph d) 95 (glyph_no_bar d all.0), parted-glyphs ds w all.1) refl

parted-numeral : (b n : ℕ) (w : List ℕ) → 2 ≤ b → b ≤ 16 → parted (numeral b n ++ 95 ∷ w) ≡ (numeral b n, w)
unfolding numeral
parted-numeral b zero w low high = refl
parted-numeral b (suc n) w low high = parted-glyphs (digits_of b (suc n)) w (below_sixteen b _ high (all_below_base_digits_of b (suc n) low))

parted-hex : (n : ℕ) (w : List ℕ) → parted (numeral 16 n ++ 95 ∷ w) ≡ (numeral 16 n, w)
parted-hex n w = parted-numeral 16 n w (omega arith) (omega arith)

parted-decimal : (n : ℕ) (w : List ℕ) → parted (numeral 10 n ++ 95 ∷ w) ≡ (numeral 10 n, w)
parted-decimal n w = parted-numeral 10 n w (omega arith) (omega arith)

-- a literal determines its type and its magnitude
pub literal_again : (ty : IntType) (n : ℕ) → literal_of (literal_word ty n) ≡ Some (ty, n)
unfolding literal_of
literal_again U8 n = rw (parted-hex n (type_name U8), numeral_again 16 n (omega arith) (omega arith)) refl
literal_again U16 n = rw (parted-hex n (type_name U16), numeral_again 16 n (omega arith) (omega arith)) refl
literal_again U32 n = rw (parted-hex n (type_name U32), numeral_again 16 n (omega arith) (omega arith)) refl
literal_again U64 n = rw (parted-hex n (type_name U64), numeral_again 16 n (omega arith) (omega arith)) refl
literal_again U128 n = rw (parted-hex n (type_name U128), numeral_again 16 n (omega arith) (omega arith)) refl
literal_again USize n = rw (parted-hex n (type_name USize), numeral_again 16 n (omega arith) (omega arith)) refl
literal_again I8 n = rw (parted-decimal n (type_name I8), numeral_again 10 n (omega arith) (omega arith)) refl
literal_again I16 n = rw (parted-decimal n (type_name I16), numeral_again 10 n (omega arith) (omega arith)) refl
literal_again I32 n = rw (parted-decimal n (type_name I32), numeral_again 10 n (omega arith) (omega arith)) refl
literal_again I64 n = rw (parted-decimal n (type_name I64), numeral_again 10 n (omega arith) (omega arith)) refl
literal_again I128 n = rw (parted-decimal n (type_name I128), numeral_again 10 n (omega arith) (omega arith)) refl
literal_again ISize n = rw (parted-decimal n (type_name ISize), numeral_again 10 n (omega arith) (omega arith)) refl

-- ---- a literal is one word, after a mark where the number lies below 0

ending_in_word : (ty : IntType) → list_all is_word_byte (codes "_" ++ type_name ty) ≡ true
ending_in_word U8 = refl
ending_in_word U16 = refl
ending_in_word U32 = refl
ending_in_word U64 = refl
ending_in_word U128 = refl
ending_in_word USize = refl
ending_in_word I8 = refl
ending_in_word I16 = refl
ending_in_word I32 = refl
ending_in_word I64 = refl
ending_in_word I128 = refl
ending_in_word ISize = refl

digits_in_word : (b : Bool) (n : ℕ) → list_all is_word_byte (cond b (numeral 10 n) (codes "0x" ++ numeral 16 n)) ≡ true
digits_in_word true n = list_all-numeral 10 n (omega arith) (omega arith)
digits_in_word false n = list_all-join (codes "0x") (numeral 16 n) refl (list_all-numeral 16 n (omega arith) (omega arith))

pub literal_is_word : (ty : IntType) (n : ℕ) → is_word (literal_word ty n) ≡ true
literal_is_word ty n =
    word_from (literal_word ty n) (omega (arith, length-append (digits_word ty n) (codes "_" ++ type_name ty))) (list_all-join (digits_word ty n) (codes "_" ++ type_name ty) (digits_in_word (is_signed ty) n) (ending_in_word ty))

minus_apart : (b : ℕ) → is_word_byte b ≡ true → goes_on 45 b ≡ false
minus_apart b h = grind (arith, nat_tests)

minus_before : (w : List ℕ) → is_word w ≡ true → tokens_of (45 ∷ w) ≡ Mark (45 ∷ []) ∷ Word w ∷ []
unfolding step begun
minus_before [] h = absurd cc
minus_before (b ∷ bs) h =
    let parts = and_parts (is_word_byte b) _ h in
    tokens-word (45 ∷ []) (b ∷ bs) h (ends_apart (last.Mark 45) (AfterMark 45) b refl (minus_apart b parts.0))

-- the tokens of a literal's text
pub tokens-literal : (ty : IntType) (z : ℤ) → tokens_of (literal_text ty z) ≡ literal_tokens ty z
tokens-literal ty (pos n) = tokens-word [] (literal_word ty n) (literal_is_word ty n) (ends-Between _)
tokens-literal ty (negsuc n) = minus_before (literal_word ty (suc n)) (literal_is_word ty (suc n))
