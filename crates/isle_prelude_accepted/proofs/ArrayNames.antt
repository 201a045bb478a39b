-- Names that end in a number: what they are, and that two numbers have two names.
use Rattle.std.proofs.Common.{◌≡◌, ℕ, zero, suc, ◌+◌, ◌-◌, ◌<◌, List, [], ◌∷◌, ◌++◌, length, take, drop, Bool, true, false, cond, refl, sym, ap, ◌∙◌, arith}
use Rattle.std.proofs.Common.{length-append}
use Rattle.std.specs.Prelude.{IsTrue, map, codes, ◌&&◌}
use Rattle.std.specs.List.{list_all, list_any}
use Rattle.std.specs.Str.{bytes_eq}
use Rattle.std.specs.Int.Digits.{digits_of, AllBelowBase}
use Rattle.std.proofs.lemmas.Int.Digits.{all_below_base_digits_of}
use Rattle.std.proofs.lemmas.Bool.{and_from}
use Rattle.std.proofs.lemmas.Bool.Decides.{nat_tests}
use Rattle.std.proofs.lemmas.Option.{same_Some}
use Rattle.isle_printer.specs.Number.{numeral, numeral_of, glyph}
use Rattle.isle_printer.specs.Token.{is_word_byte}
use Rattle.isle_printer.proofs.Numerals.{list_all-numeral, list_all-join, numeral_not_empty}
use Rattle.isle_printer.proofs.Readback.{numeral_again}
use Rattle.isle_lawful_names.specs.LawfulNames.{type_words, IsTypeName}
use Rattle.isle_meta.specs.TableNames.{is_builtin, is_among, prelude_types, prelude_terms, is_array_constructor}
use Rattle.isle_spelling.specs.Identifier.{IsIdentifier}
use Rattle.isle_spelling.specs.Names.{is_digit, are_digits, is_numbered}
use Rattle.isle_prelude.specs.NumberedNames.{value_array, value_array_type, value_array_ctor, block_array, block_array_type, pack, unpack}

-- ---- digits

digit_glyph : (d : ℕ) → d < 10 → is_digit (glyph d) ≡ true
digit_glyph d h = grind (arith, nat_tests)

digit_glyphs : (ds : List ℕ) → AllBelowBase 10 ds → list_all is_digit (map glyph ds) ≡ true
digit_glyphs [] h = refl
digit_glyphs (d ∷ ds) h = and_from _ _ (digit_glyph d h.0) (digit_glyphs ds h.1)

all_digits : (n : ℕ) → list_all is_digit (numeral 10 n) ≡ true
unfolding numeral
all_digits zero = refl
all_digits (suc n) = digit_glyphs (digits_of 10 (suc n)) (all_below_base_digits_of 10 (suc n) (omega arith))

some_digits : (ds : List ℕ) → 0 < length ds → list_all is_digit ds ≡ true → are_digits ds ≡ true
some_digits [] lt h = absurd (omega arith)
some_digits (d ∷ ds) lt h = h

pub digits_numeral : (n : ℕ) → are_digits (numeral 10 n) ≡ true
digits_numeral n = some_digits (numeral 10 n) (numeral_not_empty 10 n (omega arith)) (all_digits n)

-- numbers of one spelling are one
numbers_same : (i j : ℕ) → numeral 10 i ≡ numeral 10 j → i ≡ j
numbers_same i j e = same_Some i j (sym (numeral_again 10 i (omega arith) (omega arith)) ∙ ap (numeral_of 10) e ∙ numeral_again 10 j (omega arith) (omega arith))

-- the digits in front
abbrev leading : List ℕ → List ℕ
leading [] = []
leading (b ∷ bs) = cond (is_digit b) (b ∷ leading bs) []

leading_digits : (ds : List ℕ) (b : ℕ) (bs : List ℕ) → list_all is_digit ds ≡ true → is_digit b ≡ false → leading (ds ++ b ∷ bs) ≡ ds
leading_digits [] b bs h e = ap (λ c. cond c (b ∷ leading bs) []) e
leading_digits (d ∷ ds) b bs h e = by (is_digit d) h (λ k. leading_digits ds b bs k e)
  where
    by : (c : Bool) → (c && list_all is_digit ds) ≡ true → (list_all is_digit ds ≡ true → leading (ds ++ b ∷ bs) ≡ ds)
        → cond c (d ∷ leading (ds ++ b ∷ bs)) [] ≡ d ∷ ds
    by true k rest = ap (λ xs. d ∷ xs) (rest k)
    by false k rest = absurd cc

not_digits : (ds : List ℕ) (b : ℕ) (bs : List ℕ) → is_digit b ≡ false → are_digits (ds ++ b ∷ bs) ≡ false
not_digits [] b bs e = ap (λ c. c && list_all is_digit bs) e
not_digits (d ∷ ds) b bs e = by (is_digit d) (rest ds)
  where
    rest : (xs : List ℕ) → list_all is_digit (xs ++ b ∷ bs) ≡ false
    rest [] = ap (λ c. c && list_all is_digit bs) e
    rest (x ∷ xs) = with_first (is_digit x) (rest xs)
      where
        with_first : (c : Bool) → list_all is_digit (xs ++ b ∷ bs) ≡ false → (c && list_all is_digit (xs ++ b ∷ bs)) ≡ false
        with_first true k = k
        with_first false k = refl

    by : (c : Bool) → list_all is_digit (ds ++ b ∷ bs) ≡ false → (c && list_all is_digit (ds ++ b ∷ bs)) ≡ false
    by true k = k
    by false k = refl

word_numeral : (n : ℕ) → list_all is_word_byte (numeral 10 n) ≡ true
word_numeral n = list_all-numeral 10 n (omega arith) (omega arith)

-- ---- two numbers have two names

pub value_type_same : (i j : ℕ) → value_array_type i ≡ value_array_type j → i ≡ j
unfolding value_array_type
value_type_same i j e = numbers_same i j (ap (drop 10) e)

pub block_type_same : (i j : ℕ) → block_array_type i ≡ block_array_type j → i ≡ j
unfolding block_array_type
block_type_same i j e = numbers_same i j (ap (drop 10) e)

pub value_array_same : (i j : ℕ) → value_array i ≡ value_array j → i ≡ j
unfolding value_array
value_array_same i j e = numbers_same i j (ap (drop 12) e)

pub block_array_same : (i j : ℕ) → block_array i ≡ block_array j → i ≡ j
unfolding block_array
block_array_same i j e = numbers_same i j (ap (drop 12) e)

pub ctor_same : (i j : ℕ) → value_array_ctor i ≡ value_array_ctor j → i ≡ j
unfolding value_array value_array_ctor
ctor_same i j e =
    numbers_same i j (sym (leading_digits (numeral 10 i) 95 (codes "ctor") (all_digits i) refl) ∙ ap (λ name. leading (drop 12 name)) e ∙ leading_digits (numeral 10 j) 95 (codes "ctor") (all_digits j) refl)

pub packed_same : (a b : List ℕ) → pack a ≡ pack b → a ≡ b
packed_same a b e = ap (drop 5) e

pub unpacked_same : (a b : List ℕ) → unpack a ≡ unpack b → a ≡ b
unpacked_same a b e = ap (drop 7) e

-- ---- kinds of names

pub value_type_kind : (n : ℕ)
    → (is_builtin (value_array_type n) ≡ false) × (is_among (value_array_type n) prelude_types ≡ false) × (is_numbered (codes "ValueArray") (value_array_type n) ≡ true)
unfolding value_array_type
value_type_kind n = (refl, refl, digits_numeral n)

pub block_type_kind : (n : ℕ)
    → (is_builtin (block_array_type n) ≡ false) × (is_among (block_array_type n) prelude_types ≡ false) × (is_numbered (codes "ValueArray") (block_array_type n) ≡ false) × (is_numbered (codes "BlockArray") (block_array_type n) ≡ true)
unfolding block_array_type
block_type_kind n = (refl, refl, refl, digits_numeral n)

pub value_array_kind : (n : ℕ) → (is_among (value_array n) prelude_terms ≡ false) × (is_numbered (codes "value_array_") (value_array n) ≡ true)
unfolding value_array
value_array_kind n = (refl, digits_numeral n)

pub block_array_kind : (n : ℕ)
    → (is_among (block_array n) prelude_terms ≡ false) × (is_numbered (codes "value_array_") (block_array n) ≡ false) × (is_numbered (codes "block_array_") (block_array n) ≡ true)
unfolding block_array
block_array_kind n = (refl, refl, digits_numeral n)

-- ---- lists in two parts

drop_front : {A : Type 0} (xs ys : List A) → drop (length xs) (xs ++ ys) ≡ ys
drop_front [] ys = refl
drop_front (x ∷ xs) ys = drop_front xs ys

take_front : {A : Type 0} (xs ys : List A) → take (length xs) (xs ++ ys) ≡ xs
take_front [] ys = refl
take_front (x ∷ xs) ys = ap (λ zs. x ∷ zs) (take_front xs ys)

constructor_by : (xs : List ℕ) (k : ℕ) → k ≡ length xs → is_numbered (codes "value_array_") xs ≡ true
    → (bytes_eq (drop k (xs ++ codes "_ctor")) (codes "_ctor") && is_numbered (codes "value_array_") (take k (xs ++ codes "_ctor"))) ≡ true
constructor_by xs k e h =
    ap (λ n. bytes_eq (drop n (xs ++ codes "_ctor")) (codes "_ctor") && is_numbered (codes "value_array_") (take n (xs ++ codes "_ctor"))) e
    ∙ ap (λ ys. bytes_eq ys (codes "_ctor") && is_numbered (codes "value_array_") (take (length xs) (xs ++ codes "_ctor"))) (drop_front xs (codes "_ctor"))
    ∙ ap (is_numbered (codes "value_array_")) (take_front xs (codes "_ctor"))
    ∙ h

ctor_constructs : (n : ℕ) → is_array_constructor (value_array_ctor n) ≡ true
unfolding value_array_ctor
ctor_constructs n =
    let size : length (value_array n ++ codes "_ctor") ≡ length (value_array n) + 5 = length-append (value_array n) (codes "_ctor") in
    constructor_by (value_array n) (length (value_array n ++ codes "_ctor") - 5) (omega (arith, size)) (value_array_kind n).1

ctor_fixed : (n : ℕ) → is_among (value_array_ctor n) prelude_terms ≡ false
unfolding value_array value_array_ctor
ctor_fixed n = refl

ctor_array : (n : ℕ) → is_numbered (codes "value_array_") (value_array_ctor n) ≡ false
unfolding value_array value_array_ctor
ctor_array n = not_digits (numeral 10 n) 95 (codes "ctor") refl

ctor_blocks : (n : ℕ) → is_numbered (codes "block_array_") (value_array_ctor n) ≡ false
unfolding value_array value_array_ctor
ctor_blocks n = refl

pub ctor_kind : (n : ℕ)
    → (is_among (value_array_ctor n) prelude_terms ≡ false) × (is_numbered (codes "value_array_") (value_array_ctor n) ≡ false) × (is_numbered (codes "block_array_") (value_array_ctor n) ≡ false)
    × (is_array_constructor (value_array_ctor n) ≡ true)
ctor_kind n = (ctor_fixed n, ctor_array n, ctor_blocks n, ctor_constructs n)

-- ---- identifiers

-- a name that passes all tests, one by one
pub type_name : (text : List ℕ) → IsIdentifier text → is_numbered (codes "v") text ≡ false → is_numbered (codes "arg") text ≡ false
    → list_any (bytes_eq text) type_words ≡ false → bytes_eq text (codes "C") ≡ false → IsTypeName true text
type_name text i no_local no_arg free generic = record { name = record { identifier = i; no_local = no_local; no_arg = no_arg }; free = free; generic = generic }

pub value_type_name : (n : ℕ) → IsTypeName true (value_array_type n)
unfolding value_array_type
value_type_name n = type_name (codes "ValueArray" ++ numeral 10 n) (record { begins = refl; word = word_numeral n; unused = refl; free = refl }) refl refl refl refl

pub block_type_name : (n : ℕ) → IsTypeName true (block_array_type n)
unfolding block_array_type
block_type_name n = type_name (codes "BlockArray" ++ numeral 10 n) (record { begins = refl; word = word_numeral n; unused = refl; free = refl }) refl refl refl refl

pub value_array_word : (n : ℕ) → IsTrue (list_all is_word_byte (value_array n))
unfolding value_array
value_array_word n = word_numeral n

pub block_array_word : (n : ℕ) → IsTrue (list_all is_word_byte (block_array n))
unfolding block_array
block_array_word n = word_numeral n

pub ctor_word : (n : ℕ) → IsTrue (list_all is_word_byte (value_array_ctor n))
unfolding value_array value_array_ctor
ctor_word n = list_all-join (numeral 10 n) (codes "_ctor") (word_numeral n) refl

pub ctor_name : (n : ℕ) → IsIdentifier (value_array_ctor n)
unfolding value_array value_array_ctor
ctor_name n = record { begins = refl; word = list_all-join (numeral 10 n) (codes "_ctor") (word_numeral n) refl; unused = refl; free = refl }

pub pack_value_name : (n : ℕ) → IsIdentifier (pack (value_array n))
unfolding value_array
pack_value_name n = record { begins = refl; word = word_numeral n; unused = refl; free = refl }

pub unpack_value_name : (n : ℕ) → IsIdentifier (unpack (value_array n))
unfolding value_array
unpack_value_name n = record { begins = refl; word = word_numeral n; unused = refl; free = refl }

pub pack_block_name : (n : ℕ) → IsIdentifier (pack (block_array n))
unfolding block_array
pack_block_name n = record { begins = refl; word = word_numeral n; unused = refl; free = refl }

pub unpack_block_name : (n : ℕ) → IsIdentifier (unpack (block_array n))
unfolding block_array
unpack_block_name n = record { begins = refl; word = word_numeral n; unused = refl; free = refl }

-- ---- kinds of functions

-- whether a written function has the name
abbrev pub is_written : List ℕ → Bool
is_written name = is_among name (codes "make_inst" ∷ codes "make_skeleton_inst" ∷ codes "inst_data_value" ∷ codes "inst_data" ∷ [])

-- the kinds of functions: written ones, those that pack and take out, and others
abbrev pub func_class : List ℕ → ℕ
func_class x =
    cond (is_written x) 0 (cond (is_numbered (codes "pack_value_array_") x) 1 (cond (is_numbered (codes "pack_block_array_") x) 2
    (cond (is_numbered (codes "unpack_value_array_") x) 3 (cond (is_numbered (codes "unpack_block_array_") x) 4 5))))

pub pack_value_kind : (n : ℕ) → func_class (pack (value_array n)) ≡ 1
unfolding value_array
pack_value_kind n = ap (λ b. cond b 1 (cond false 2 (cond false 3 (cond false 4 5)))) (digits_numeral n)

pub pack_block_kind : (n : ℕ) → func_class (pack (block_array n)) ≡ 2
unfolding block_array
pack_block_kind n = ap (λ b. cond b 2 (cond false 3 (cond false 4 5))) (digits_numeral n)

pub unpack_value_kind : (n : ℕ) → func_class (unpack (value_array n)) ≡ 3
unfolding value_array
unpack_value_kind n = ap (λ b. cond b 3 (cond false 4 5)) (digits_numeral n)

pub unpack_block_kind : (n : ℕ) → func_class (unpack (block_array n)) ≡ 4
unfolding block_array
unpack_block_kind n = ap (λ b. cond b 4 5) (digits_numeral n)

pub ctor_func_kind : (n : ℕ) → func_class (value_array_ctor n) ≡ 5
unfolding value_array value_array_ctor
ctor_func_kind n = refl
