-- The types of binary operands: `BinaryOperands < A >`, `BinaryOperands < A, B >` or `BinaryOperands < A, B, C >`, byte by byte.
use Rattle.std.specs.Prelude.{ℕ, ◌-◌, List, [], ◌∷◌, length, take, drop, Option, Some, None, option_map, if◌then◌else◌, eqb, codes}
use Rattle.std.specs.List.{ends_with}
use Rattle.isle_core.specs.Printed.{after_prefix}
use Rattle.isle_pulley_rows.specs.declared.operand.Operand.{Operand}
use Rattle.isle_pulley_rows.specs.declared.operand.Operand.TheVariants.{Binop}
use Rattle.isle_pulley_rows.specs.Words.{begins_with}

-- ---- parts with `, ` between them

-- what stands in front of the first `, ` and behind it, if there is one
abbrev pub split : List ℕ → Option (List ℕ × List ℕ)
split [] = None
split (b ∷ bs) = if begins_with (codes ", ") (b ∷ bs) then Some ([], drop 2 (b ∷ bs)) else option_map (λ (p : List ℕ × List ℕ). (b ∷ p.0, p.1)) (split bs)

-- a third part is the last
abbrev pub with_third : (a b c : List ℕ) → Option (List ℕ × List ℕ) → Option Operand
with_third a b c None = Some (Binop a b c)
with_third a b c (Some more) = None

-- without a third part its type is the first
abbrev pub with_second : (a rest : List ℕ) → Option (List ℕ × List ℕ) → Option Operand
with_second a rest None = Some (Binop a rest a)
with_second a rest (Some p) = with_third a p.0 p.1 (split p.1)

-- one part alone is the type of all three
abbrev pub with_first : (inner : List ℕ) → Option (List ℕ × List ℕ) → Option Operand
with_first inner None = Some (Binop inner inner inner)
with_first inner (Some p) = with_second p.0 p.1 (split p.1)

-- the operands of one, two or three parts: what is written, and what is read
abbrev pub of_parts : List ℕ → Option Operand
of_parts inner = with_first inner (split inner)

-- ---- the type of a field

-- what stands before ` >`, with which a text ends
abbrev pub before_end : List ℕ → Option (List ℕ)
before_end text = if ends_with eqb text (codes " >") then Some (take (length text - 2) text) else None

-- the operands of what stands before ` >`, if it does
abbrev pub of_inner : Option (List ℕ) → Option Operand
of_inner None = None
of_inner (Some inner) = of_parts inner

-- the operands of what stands behind `BinaryOperands < `, if it does
abbrev pub of_rest : Option (List ℕ) → Option Operand
of_rest None = None
of_rest (Some rest) = of_inner (before_end rest)

-- binary operands, if a field's type is that of some
abbrev pub binary : List ℕ → Option Operand
binary ty = of_rest (after_prefix (codes "BinaryOperands < ") ty)
