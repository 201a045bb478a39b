-- The sample: the text of terms of two small numbers, each with a rule for each pair of its first numbers and one rule for all others.
use Rattle.std.specs.Prelude.{ℕ, ◌+◌, ◌*◌, ◌%◌, List, ◌++◌, codes}
use Rattle.std.specs.List.{flat_map, range_with_len}
use Rattle.isle_printer.specs.Number.{numeral}

-- the name of the term of this number: the letter t and its decimal digits
unfoldable pub term_name : ℕ → List ℕ
term_name i = codes "t" ++ numeral 10 i

-- its declaration, on a line
abbrev pub declaration : ℕ → List ℕ
declaration i = codes "(decl " ++ (term_name i ++ codes " (u8 u8) u8)\n")

-- a number as an argument of a pattern, after a blank
abbrev pub argument : ℕ → List ℕ
argument a = codes " " ++ numeral 10 a

-- what a rule gives, after its pattern
abbrev pub given : ℕ → List ℕ
given c = codes ") " ++ (numeral 10 c ++ codes ")\n")

-- the rule that gives 4a + b for a and b, on a line
abbrev pub rule : (i a b : ℕ) → List ℕ
rule i a b = codes "(rule (" ++ (term_name i ++ (argument a ++ (argument b ++ given (4 * a + b))))

-- the rule for all others, on a line
abbrev pub last_rule : ℕ → List ℕ
last_rule i = codes "(rule -1 (" ++ (term_name i ++ codes " _ _) 255)\n")

-- the rules for one a and each b below a number
abbrev pub row : (i a count : ℕ) → List ℕ
row i a count = flat_map (λ b. rule i a b) (range_with_len 0 count)

-- the rules for each a and b below it, in order, the b of one a before those of the next
abbrev pub rows : (i count : ℕ) → List ℕ
rows i count = flat_map (λ a. row i a count) (range_with_len 0 count)

-- a term with its rules: a and b go up to the rest of its number by 4
abbrev pub term_text : ℕ → List ℕ
term_text i = declaration i ++ (rows i (i % 4 + 1) ++ last_rule i)

-- the sample of so many terms, in order of their numbers
abbrev pub sample : ℕ → List ℕ
sample n = flat_map term_text (range_with_len 0 n)
