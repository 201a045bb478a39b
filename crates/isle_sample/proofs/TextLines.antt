-- Lines as pieces, and their bytes.
use Rattle.std.proofs.Common.{◌≡◌, ℕ, ◌+◌, ◌*◌, List, [], ◌∷◌, ◌++◌, flat_map, IsAscii, Bool, true, nat_lt, refl, codes, arith}
use Rattle.std.specs.List.{list_all}
use Rattle.std.proofs.lemmas.Str.{IsAscii-append}
use Rattle.std.proofs.lemmas.Str.Ascii.{IsAscii-nil, IsAscii-cons}
use Rattle.std.proofs.lemmas.Bool.{and_parts, ltb-true, lt-ltb}
use Rattle.isle_printer.specs.Number.{numeral, glyph}
use Rattle.isle_printer.proofs.Numerals.{list_all-numeral_by, glyph_below}
use Rattle.isle_sample.specs.Sample.{term_name, argument, given}
use Rattle.isle_sample.proofs.SampleLines.{Line, Declares, Gives, Otherwise, line_text, u8_name}
use Rattle.isle_sample.proofs.TextPieces.{Piece, Blank, Opens, Closes, Spelt, bytes_of, IsWord, are_apart, AreWords}
use Rattle.isle_sample.proofs.ReadWords.{numeral_word, name_word}

-- ---- pieces

-- the pieces of a line
abbrev pub line_pieces : Line → List Piece
line_pieces (Declares i) =
    Opens ∷ Spelt (codes "decl") ∷ Blank 32 ∷ Spelt (term_name i) ∷ Blank 32
    ∷ Opens ∷ Spelt u8_name ∷ Blank 32 ∷ Spelt u8_name ∷ Closes ∷ Blank 32 ∷ Spelt u8_name ∷ Closes ∷ Blank 10 ∷ []
line_pieces (Gives i a b) =
    Opens ∷ Spelt (codes "rule") ∷ Blank 32
    ∷ Opens ∷ Spelt (term_name i) ∷ Blank 32 ∷ Spelt (numeral 10 a) ∷ Blank 32 ∷ Spelt (numeral 10 b) ∷ Closes
    ∷ Blank 32 ∷ Spelt (numeral 10 (4 * a + b)) ∷ Closes ∷ Blank 10 ∷ []
line_pieces (Otherwise i) =
    Opens ∷ Spelt (codes "rule") ∷ Blank 32 ∷ Spelt (codes "-1") ∷ Blank 32
    ∷ Opens ∷ Spelt (term_name i) ∷ Blank 32 ∷ Spelt (codes "_") ∷ Blank 32 ∷ Spelt (codes "_") ∷ Closes ∷ Blank 32
    ∷ Spelt (codes "255") ∷ Closes ∷ Blank 10 ∷ []

-- their bytes are its text
pub line_bytes : (l : Line) → bytes_of (line_pieces l) ≡ line_text l
line_bytes (Declares i) = refl
line_bytes (Gives i a b) = refl
line_bytes (Otherwise i) = refl

decl_word : IsWord (codes "decl")
decl_word = (omega arith, refl)

rule_word : IsWord (codes "rule")
rule_word = (omega arith, refl)

type_word : IsWord u8_name
type_word = (omega arith, refl)

priority_word : IsWord (codes "-1")
priority_word = (omega arith, refl)

wildcard_word : IsWord (codes "_")
wildcard_word = (omega arith, refl)

last_word : IsWord (codes "255")
last_word = (omega arith, refl)

-- they stand apart
pub line_apart : (l : Line) → are_apart (line_pieces l) ≡ true
line_apart (Declares i) = refl
line_apart (Gives i a b) = refl
line_apart (Otherwise i) = refl

-- and their words are words
pub line_words : (l : Line) → AreWords (line_pieces l)
line_words (Declares i) = (decl_word, (name_word i, (type_word, (type_word, (type_word, tt)))))
line_words (Gives i a b) =
    let number : IsWord (numeral 10 (4 * a + b)) = numeral_word (4 * a + b) in
    (rule_word, (name_word i, (numeral_word a, (numeral_word b, (number, tt)))))
line_words (Otherwise i) =
    (rule_word, (priority_word, (name_word i, (wildcard_word, (wildcard_word, (last_word, tt))))))

-- ---- ASCII

-- a byte below 128
abbrev is_low : ℕ → Bool
is_low b = nat_lt b 128

ascii : (bs : List ℕ) → list_all is_low bs ≡ true → IsAscii bs
ascii [] h = IsAscii-nil
ascii (b ∷ bs) h = let parts = and_parts (is_low b) _ h in IsAscii-cons b bs (ltb-true b 128 parts.0) (ascii bs parts.1)

numeral_ascii : (n : ℕ) → IsAscii (numeral 10 n)
numeral_ascii n =
    ascii (numeral 10 n)
    (list_all-numeral_by is_low 10 n (omega arith) (omega arith) (λ d l. lt-ltb (glyph d) 128 (glyph_below d l)))

name_ascii : (i : ℕ) → IsAscii (term_name i)
unfolding term_name
name_ascii i = IsAscii-append (codes "t") (numeral 10 i) (ascii (codes "t") refl) (numeral_ascii i)

argument_ascii : (a : ℕ) → IsAscii (argument a)
argument_ascii a = IsAscii-append (codes " ") (numeral 10 a) (ascii (codes " ") refl) (numeral_ascii a)

given_ascii : (c : ℕ) → IsAscii (given c)
given_ascii c =
    IsAscii-append (codes ") ") (numeral 10 c ++ codes ")\n") (ascii (codes ") ") refl)
    (IsAscii-append (numeral 10 c) (codes ")\n") (numeral_ascii c) (ascii (codes ")\n") refl))

line_ascii : (l : Line) → IsAscii (line_text l)
line_ascii (Declares i) =
    IsAscii-append (codes "(decl ") (term_name i ++ codes " (u8 u8) u8)\n") (ascii (codes "(decl ") refl)
    (IsAscii-append (term_name i) (codes " (u8 u8) u8)\n") (name_ascii i) (ascii (codes " (u8 u8) u8)\n") refl))
line_ascii (Gives i a b) =
    IsAscii-append (codes "(rule (") (term_name i ++ (argument a ++ (argument b ++ given (4 * a + b))))
    (ascii (codes "(rule (") refl)
    (IsAscii-append (term_name i) (argument a ++ (argument b ++ given (4 * a + b))) (name_ascii i)
    (IsAscii-append (argument a) (argument b ++ given (4 * a + b)) (argument_ascii a)
    (IsAscii-append (argument b) (given (4 * a + b)) (argument_ascii b) (given_ascii (4 * a + b)))))
line_ascii (Otherwise i) =
    IsAscii-append (codes "(rule -1 (") (term_name i ++ codes " _ _) 255)\n") (ascii (codes "(rule -1 (") refl)
    (IsAscii-append (term_name i) (codes " _ _) 255)\n") (name_ascii i) (ascii (codes " _ _) 255)\n") refl))

-- each byte of lines is below 128
pub lines_ascii : (ls : List Line) → IsAscii (flat_map line_text ls)
lines_ascii [] = IsAscii-nil
lines_ascii (l ∷ ls) = IsAscii-append (line_text l) (flat_map line_text ls) (line_ascii l) (lines_ascii ls)
