-- A word is read as what it was spelled from.
use Rattle.std.proofs.Common.{◌≡◌, ℕ, zero, suc, ◌<◌, List, [], ◌∷◌, ◌++◌, length, map, get_or, Bool, true, false, Some, None, refl, sym, ap, ◌∙◌, arith}
use Rattle.std.specs.Prelude.{ℤ, pos, negsuc, nat_le, ◌==◌, ◌&&◌, ◌||◌, not, codes}
use Rattle.std.specs.List.{list_all, list_any}
use Rattle.std.specs.Str.{bytes_eq}
use Rattle.std.specs.Int.{w128}
use Rattle.std.specs.Int.RustNames.{FitsSigned}
use Rattle.std.specs.Int.Digits.{digits_of, AllBelowBase}
use Rattle.std.proofs.lemmas.Int.Digits.{all_below_base_digits_of, first_digits_of}
use Rattle.std.proofs.lemmas.Bool.{and_parts, and_from}
use Rattle.std.proofs.lemmas.Bool.Decides.{nat_tests, Decides-int_eq}
use borrow.Author.Differences.{same_in, same_out, sum_is_lem, product_is, neg_is}
use lib.IntN.{neg_ℤ}
use Rattle.isle_core.specs.declared.types.IntType.{IntType}
use Rattle.isle_core.specs.declared.types.IntType.TheVariants.{U8, U16, U32, U64, U128, USize, I8, I16, I32, I64, I128, ISize}
use Rattle.isle_core.specs.Int.{IsOf, wrapped}
use Rattle.isle_core.specs.HasType.{IsReduced}
use Rattle.isle_printer.specs.Token.{Token, Word, Mark}
use Rattle.isle_printer.specs.Bytes.{same_bytes}
use Rattle.isle_printer.proofs.Bytes.{same_bytes_sound}
use Rattle.isle_printer.proofs.Numerals.{numeral_not_empty}
use Rattle.isle_printer.specs.Number.{numeral, glyph}
use Rattle.isle_printer.proofs.Readback.{numeral_again}
use Rattle.isle_tree.specs.declared.tree.Operand.{Operand}
use Rattle.isle_tree.specs.declared.tree.Operand.TheVariants as operand
use Rattle.isle_spelling.specs.Identifier.{used_words, kept_words, is_begin, IsIdentifier}
use Rattle.isle_spelling.specs.Literal.{literal_word, literal_tokens, signed_bits}
use Rattle.isle_spelling.specs.Names.{is_digit, are_digits}
use Rattle.isle_spelling.specs.Raw.{raw_word}
use Rattle.isle_target.specs.StatementSpelling.{operand_tokens}
use Rattle.isle_tree.specs.WellFormed.{IsOperand}
use Rattle.isle_target.specs.Tokens.{at, rest}
use Rattle.isle_target.specs.OperandReading.{truth_of, is_number, number_at, read_operand}
use Rattle.isle_spelling.proofs.Literals.{literal_again}
use Rattle.isle_spelling.proofs.Raws.{raw_again, raw_no_literal}
use Rattle.isle_spelling.proofs.Wraps.{wraps, wraps_only}

-- ---- a word that is a literal begins with a digit

glyph_is_digit : (d : ℕ) → d < 10 → (nat_le 48 (glyph d) && nat_le (glyph d) 57) ≡ true
glyph_is_digit d h = grind (arith, nat_tests)

glyphs_number : (ds w : List ℕ) → AllBelowBase 10 ds → 0 < get_or ds 0 0 → is_number (map glyph ds ++ w) ≡ true
glyphs_number [] w h some = absurd (omega (arith, some))
glyphs_number (d ∷ ds) w h some = glyph_is_digit d h.0

decimal_number : (n : ℕ) (w : List ℕ) → is_number (numeral 10 n ++ w) ≡ true
unfolding numeral
decimal_number zero w = refl
decimal_number (suc n) w =
    glyphs_number (digits_of 10 (suc n)) w (all_below_base_digits_of 10 (suc n) (omega arith)) (first_digits_of 10 (suc n) (omega arith) (omega arith))

pub literal_number : (ty : IntType) (n : ℕ) → is_number (literal_word ty n) ≡ true
literal_number U8 n = refl
literal_number U16 n = refl
literal_number U32 n = refl
literal_number U64 n = refl
literal_number U128 n = refl
literal_number USize n = refl
literal_number I8 n = decimal_number n _
literal_number I16 n = decimal_number n _
literal_number I32 n = decimal_number n _
literal_number I64 n = decimal_number n _
literal_number I128 n = decimal_number n _
literal_number ISize n = decimal_number n _

-- ---- integers

within : (ty : IntType) (z : ℤ) → IsOf ty z → wrapped ty z ≡ z
within ty z h = sym (wraps_only ty z z (record { within = h; congruent = (pos 0, same_in _ _ (omega (arith, sum_is_lem, product_is))) }))

-- the signed bits of u128 are told by its number
back : (z : ℤ) → FitsSigned w128 z → wrapped I128 (wrapped U128 z) ≡ z
back z h =
    let w = wraps U128 z in
    let k = w.congruent.0 in
    let e = w.congruent.1 in
    sym (wraps_only I128 (wrapped U128 z) z (record { within = h; congruent = (neg_ℤ k, same_in _ _ (omega (arith, same_out, sum_is_lem, product_is, neg_is k, e))) }))

signed_bits_again : (ty : IntType) (z : ℤ) → IsReduced ty z → signed_bits ty (wrapped ty z) ≡ z
signed_bits_again U128 z h = back z h
signed_bits_again U8 z h = within U8 z h
signed_bits_again U16 z h = within U16 z h
signed_bits_again U32 z h = within U32 z h
signed_bits_again U64 z h = within U64 z h
signed_bits_again USize z h = within USize z h
signed_bits_again I8 z h = within I8 z h
signed_bits_again I16 z h = within I16 z h
signed_bits_again I32 z h = within I32 z h
signed_bits_again I64 z h = within I64 z h
signed_bits_again I128 z h = within I128 z h
signed_bits_again ISize z h = within ISize z h

number_again : (ty : IntType) (n z : ℤ) → signed_bits ty n ≡ z → wrapped ty z ≡ n → number_at ty n ≡ Some (operand.Int ty z)
number_again ty n z e f = rw (e, f, (Decides-int_eq n n).1 refl) refl

int_again : (ty : IntType) (n z : ℤ) (ts : List Token) → signed_bits ty n ≡ z → wrapped ty z ≡ n → read_operand (literal_tokens ty n ++ ts) ≡ Some (operand.Int ty z, ts)
unfolding read_operand
int_again ty (pos n) z ts e f = rw (literal_number ty n, literal_again ty n, number_again ty (pos n) z e f) refl
int_again ty (negsuc n) z ts e f = rw (literal_again ty (suc n), number_again ty (negsuc n) z e f) refl

-- ---- locals, and words that are none

glyphs_digits : (ds : List ℕ) → AllBelowBase 10 ds → list_all is_digit (map glyph ds) ≡ true
glyphs_digits [] h = refl
glyphs_digits (d ∷ ds) h = and_from _ _ (glyph_is_digit d h.0) (glyphs_digits ds h.1)

numeral_digits : (n : ℕ) → list_all is_digit (numeral 10 n) ≡ true
unfolding numeral
numeral_digits zero = refl
numeral_digits (suc n) = glyphs_digits (digits_of 10 (suc n)) (all_below_base_digits_of 10 (suc n) (omega arith))

some_digits : (w : List ℕ) → 0 < length w → list_all is_digit w ≡ true → are_digits w ≡ true
some_digits [] some h = absurd (omega arith)
some_digits (b ∷ bs) some h = h

-- a number's digits are digits, and there are some
numeral_is_digits : (n : ℕ) → are_digits (numeral 10 n) ≡ true
numeral_is_digits n = some_digits (numeral 10 n) (numeral_not_empty 10 n (omega arith)) (numeral_digits n)

digits_number : (w : List ℕ) → are_digits w ≡ true → is_number w ≡ true
digits_number [] h = h
digits_number (b ∷ bs) h = (and_parts (is_digit b) _ h).0

-- a number begins as one does
pub numeral_number : (n : ℕ) → is_number (numeral 10 n) ≡ true
numeral_number n = digits_number (numeral 10 n) (numeral_is_digits n)

-- two words are apart if one passes a test and the other doesn't
pub apart_by : (p : List ℕ → Bool) (v w : List ℕ) → p v ≡ false → p w ≡ true → same_bytes v w ≡ false
apart_by p v w e f = one (same_bytes v w) refl
  where
    one : (b : Bool) → same_bytes v w ≡ b → same_bytes v w ≡ false
    one true h = let other : p v ≡ true = ap p (same_bytes_sound v w h) ∙ f in cc
    one false h = h

-- whether Rust neither uses the word nor keeps it
abbrev is_free : List ℕ → Bool
is_free w = not (list_any (bytes_eq w) used_words) && not (list_any (bytes_eq w) kept_words)

-- a name is no word that Rust uses or keeps
pub used_apart : (v w : List ℕ) → is_free v ≡ false → IsIdentifier w → same_bytes v w ≡ false
used_apart v w e h = apart_by is_free v w e (and_from _ _ (ap not h.unused) (ap not h.free))

begin_no_digit : (b : ℕ) → is_begin b ≡ true → (nat_le 48 b && nat_le b 57) ≡ false
begin_no_digit b h = grind (arith, nat_tests)

identifier_no_number : (w : List ℕ) → IsIdentifier w → is_number w ≡ false
identifier_no_number [] h = refl
identifier_no_number (b ∷ bs) h = begin_no_digit b h.begins

no_truth : (w : List ℕ) → IsIdentifier w → truth_of w ≡ None
no_truth w h = rw (used_apart (codes "true") w refl h, used_apart (codes "false") w refl h) refl

-- ---- operands

-- an operand is read again
pub operand_again : (o : Operand) (ts : List Token) → IsOperand o → read_operand (operand_tokens o ++ ts) ≡ Some (o, ts)
unfolding read_operand
operand_again (operand.Local n) ts h = rw (numeral_is_digits n, numeral_again 10 n (omega arith) (omega arith)) refl
operand_again (operand.Arg n) ts h = rw (numeral_is_digits n, numeral_again 10 n (omega arith) (omega arith)) refl
operand_again (operand.Bool true) ts h = refl
operand_again (operand.Bool false) ts h = refl
operand_again (operand.Int ty z) ts h = int_again ty (wrapped ty z) z ts (signed_bits_again ty z h) refl
operand_again (operand.Raw z) ts h = rw (raw_no_literal z, raw_again z h) refl
operand_again (operand.Name w) ts h = rw (identifier_no_number w h.identifier, h.no_local, h.no_arg, no_truth w h.identifier) refl

-- ---- what an operand doesn't begin with

literal_no_mark : (m : List ℕ) (ty : IntType) (n : ℤ) (ts : List Token) → same_bytes m (codes "-") ≡ false → at (Mark m) (literal_tokens ty n ++ ts) ≡ false
literal_no_mark m ty (pos n) ts e = refl
literal_no_mark m ty (negsuc n) ts e = e

-- a mark that is no minus stands before no operand
pub operand_no_mark : (m : List ℕ) (o : Operand) (ts : List Token) → same_bytes m (codes "-") ≡ false → at (Mark m) (operand_tokens o ++ ts) ≡ false
operand_no_mark m (operand.Local n) ts e = refl
operand_no_mark m (operand.Arg n) ts e = refl
operand_no_mark m (operand.Bool true) ts e = refl
operand_no_mark m (operand.Bool false) ts e = refl
operand_no_mark m (operand.Int ty z) ts e = literal_no_mark m ty (wrapped ty z) ts e
operand_no_mark m (operand.Raw z) ts e = refl
operand_no_mark m (operand.Name w) ts e = refl

literal_second : (m : List ℕ) (ty : IntType) (n : ℤ) (ts : List Token) → at (Mark m) ts ≡ false → at (Mark m) (rest (literal_tokens ty n ++ ts)) ≡ false
literal_second m ty (pos n) ts e = e
literal_second m ty (negsuc n) ts e = refl

-- a mark that isn't after an operand isn't its second token either
pub operand_second : (m : List ℕ) (o : Operand) (ts : List Token) → at (Mark m) ts ≡ false → at (Mark m) (rest (operand_tokens o ++ ts)) ≡ false
operand_second m (operand.Local n) ts e = e
operand_second m (operand.Arg n) ts e = e
operand_second m (operand.Bool true) ts e = e
operand_second m (operand.Bool false) ts e = e
operand_second m (operand.Int ty z) ts e = literal_second m ty (wrapped ty z) ts e
operand_second m (operand.Raw z) ts e = e
operand_second m (operand.Name w) ts e = e

-- whether a word begins as locals, parameters and truths do
abbrev is_begun : List ℕ → Bool
is_begun [] = false
is_begun (b ∷ bs) = (b == 118) || (b == 97) || (b == 116) || (b == 102)

-- a word that Rust uses or keeps, which begins as no number, local, parameter or truth does
pub record StandsApart (w : List ℕ) : Type 0 where
  pub number : is_number w ≡ false
  pub begun : is_begun w ≡ false
  pub used : is_free w ≡ false

literal_no_word : (w : List ℕ) (ty : IntType) (n : ℤ) (ts : List Token) → is_number w ≡ false → at (Word w) (literal_tokens ty n ++ ts) ≡ false
literal_no_word w ty (pos n) ts e = apart_by is_number w (literal_word ty n) e (literal_number ty n)
literal_no_word w ty (negsuc n) ts e = refl

-- no operand begins with such a word
operand_no_word : (w : List ℕ) (o : Operand) (ts : List Token) → StandsApart w → IsOperand o → at (Word w) (operand_tokens o ++ ts) ≡ false
operand_no_word w (operand.Local n) ts k h = apart_by is_begun w (codes "v" ++ numeral 10 n) k.begun refl
operand_no_word w (operand.Arg n) ts k h = apart_by is_begun w (codes "arg" ++ numeral 10 n) k.begun refl
operand_no_word w (operand.Bool true) ts k h = apart_by is_begun w (codes "true") k.begun refl
operand_no_word w (operand.Bool false) ts k h = apart_by is_begun w (codes "false") k.begun refl
operand_no_word w (operand.Int ty z) ts k h = literal_no_word w ty (wrapped ty z) ts k.number
operand_no_word w (operand.Raw z) ts k h = apart_by is_number w (raw_word z) k.number refl
operand_no_word w (operand.Name name) ts k h = used_apart w name k.used h.identifier

-- no operand begins with let, with mut or with _
pub operand_no_let : (o : Operand) (ts : List Token) → IsOperand o → at (Word (codes "let")) (operand_tokens o ++ ts) ≡ false
operand_no_let o ts h = operand_no_word (codes "let") o ts (record { number = refl; begun = refl; used = refl }) h

pub operand_no_mut : (o : Operand) (ts : List Token) → IsOperand o → at (Word (codes "mut")) (operand_tokens o ++ ts) ≡ false
operand_no_mut o ts h = operand_no_word (codes "mut") o ts (record { number = refl; begun = refl; used = refl }) h

pub operand_no_rest : (o : Operand) (ts : List Token) → IsOperand o → at (Word (codes "_")) (operand_tokens o ++ ts) ≡ false
operand_no_rest o ts h = operand_no_word (codes "_") o ts (record { number = refl; begun = refl; used = refl }) h
