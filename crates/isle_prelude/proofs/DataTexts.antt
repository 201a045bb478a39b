-- The piece of an instruction's data is its text, as a pattern and as an expression.
use Rattle.std.proofs.Common.{◌≡◌, ℕ, List, [], ◌∷◌, ◌++◌, length, Bool, true, false, refl, sym, ap, ap₂, ◌∙◌, append_assoc, append-nil, codes}
use Rattle.std.specs.Prelude.{filter}
use Rattle.std.proofs.lemmas.List.{length-map}
use Rattle.std.proofs.lemmas.List.Sums.{length-filter}
use Rattle.isle_ast.specs.Tree.{Expr, Pattern}
use Rattle.isle_ast.specs.Views.{exprs_of, patterns_of}
use Rattle.isle_meta.specs.declared.clif.ClifOperand.{ClifOperand}
use Rattle.isle_meta.specs.declared.clif.Instruction.{Instruction}
use Rattle.isle_meta.specs.declared.clif.InstructionFormat.{InstructionFormat}
use Rattle.isle_meta.specs.declared.clif.OperandClass.{OperandClass}
use Rattle.isle_meta.specs.InstructionRow.{count_of, is_block, is_raw_block, is_value, is_varargs}
use Rattle.isle_prelude.specs.ClifFiles.{block_patterns, counted_expr, counted_pattern, data_expr, data_pattern, list_pattern, value_patterns, variable_exprs, variables}
use Rattle.isle_prelude.specs.NumberedNames.{block_array, unwrap_head, value_array, value_array_ctor}
use Rattle.isle_prelude.specs.Operands.{is_imm, names_of}
use Rattle.isle_prelude.specs.TermPieces.{blocks_piece, counted_piece, data_begin, data_piece, kind_piece, list_term_piece, operands_piece, several_piece, slice_term, unwrap_begin, values_piece}
use Rattle.isle_prelude.specs.TypePieces.{numbered}
use Rattle.isle_writing.specs.Text.{expr_text, exprs_text, pattern_text, patterns_text, spaced}

-- ---- names

-- names, each after a blank
abbrev blanked : List (List ℕ) → List ℕ
blanked names = spaced (codes " ") names

pub names_taken : (names : List (List ℕ)) → patterns_text (patterns_of (variables names)) ≡ spaced (codes " ") names
names_taken [] = refl
names_taken (name ∷ names) = ap (λ z. codes " " ++ (name ++ z)) (names_taken names)

names_made : (names : List (List ℕ)) → exprs_text (exprs_of (variable_exprs names)) ≡ blanked names
names_made [] = refl
names_made (name ∷ names) = ap (λ z. codes " " ++ (name ++ z)) (names_made names)

names_joined : (xs ys : List (List ℕ)) → blanked (xs ++ ys) ≡ blanked xs ++ blanked ys
names_joined [] ys = refl
names_joined (x ∷ xs) ys = ap (λ z. codes " " ++ (x ++ z)) (names_joined xs ys) ∙ ap (λ z. codes " " ++ z) (sym (append_assoc x (blanked xs) (blanked ys)))

-- ---- lists of patterns and of expressions

-- the text of patterns, each after a blank
abbrev taken_text : List Pattern → List ℕ
taken_text ps = patterns_text (patterns_of ps)

-- the text of expressions, each after a blank
abbrev made_text : List Expr → List ℕ
made_text es = exprs_text (exprs_of es)

taken_joined : (ps qs : List Pattern) → taken_text (ps ++ qs) ≡ taken_text ps ++ taken_text qs
taken_joined [] qs = refl
taken_joined (p ∷ ps) qs =
    ap (λ z. codes " " ++ (pattern_text p ++ z)) (taken_joined ps qs) ∙ ap (λ z. codes " " ++ z) (sym (append_assoc (pattern_text p) (taken_text ps) (taken_text qs)))

made_joined : (es fs : List Expr) → made_text (es ++ fs) ≡ made_text es ++ made_text fs
made_joined [] fs = refl
made_joined (e ∷ es) fs =
    ap (λ z. codes " " ++ (expr_text e ++ z)) (made_joined es fs) ∙ ap (λ z. codes " " ++ z) (sym (append_assoc (expr_text e) (made_text es) (made_text fs)))

-- ---- arrays

-- an array's term over the text of its names
several_law : (n : ℕ) (array head tail inside names : List ℕ) → array ≡ numbered head n ++ tail → inside ≡ names
    → codes " (" ++ ((array ++ (inside ++ codes ")")) ++ []) ≡ several_piece n head tail names
several_law n array head tail inside names e same =
    ap (λ z. codes " (" ++ z)
    (append-nil (array ++ (inside ++ codes ")")) ∙ ap₂ (λ y z. y ++ (z ++ codes ")")) e same ∙ append_assoc (numbered head n) tail (names ++ codes ")"))

counted_taken : (array head tail : List ℕ) (names : List (List ℕ)) → array ≡ numbered head (length names) ++ tail
    → taken_text (counted_pattern array names) ≡ counted_piece (length names) head tail (blanked names)
counted_taken array head tail [] e = refl
counted_taken array head tail (x ∷ []) e = refl
counted_taken array head tail (x ∷ y ∷ names) e =
    several_law (length (x ∷ y ∷ names)) array head tail (taken_text (variables (x ∷ y ∷ names))) (blanked (x ∷ y ∷ names)) e (names_taken (x ∷ y ∷ names))

counted_made : (array head tail : List ℕ) (names : List (List ℕ)) → array ≡ numbered head (length names) ++ tail
    → made_text (counted_expr array names) ≡ counted_piece (length names) head tail (blanked names)
counted_made array head tail [] e = refl
counted_made array head tail (x ∷ []) e = refl
counted_made array head tail (x ∷ y ∷ names) e =
    several_law (length (x ∷ y ∷ names)) array head tail (made_text (variable_exprs (x ∷ y ∷ names))) (blanked (x ∷ y ∷ names)) e (names_made (x ∷ y ∷ names))

-- ---- operands

-- an instruction's operands of a kind are counted
kind_count : (is : OperandClass → Bool) (i : Instruction) → length (names_of is i) ≡ count_of is i
kind_count is i = length-map (filter (λ (o : ClifOperand). is o.class) i.operands_in) (λ (o : ClifOperand). o.name) ∙ length-filter (λ (o : ClifOperand). is o.class) i.operands_in

value_array_law : (n : ℕ) → value_array n ≡ numbered (codes "value_array_") n ++ []
unfolding value_array numbered
value_array_law n = sym (append-nil (numbered (codes "value_array_") n))

value_ctor_law : (n : ℕ) → value_array_ctor n ≡ numbered (codes "value_array_") n ++ codes "_ctor"
unfolding value_array value_array_ctor numbered
value_ctor_law n = refl

block_array_law : (n : ℕ) → block_array n ≡ numbered (codes "block_array_") n ++ []
unfolding block_array numbered
block_array_law n = sym (append-nil (numbered (codes "block_array_") n))

list_law : (values rest : List (List ℕ)) → pattern_text (list_pattern values rest) ≡ codes "(" ++ (list_term_piece (length values) ++ (blanked values ++ (blanked rest ++ codes ")")))
unfolding slice_term unwrap_begin unwrap_head numbered
list_law [] rest = ap (λ z. codes "(value_list_slice" ++ (z ++ codes ")")) (names_taken rest)
list_law (x ∷ xs) rest =
    ap (λ z. codes "(" ++ (unwrap_head (length (x ∷ xs)) ++ z))
    (ap (λ z. z ++ codes ")") (names_taken (x ∷ (xs ++ rest)) ∙ names_joined (x ∷ xs) rest) ∙ append_assoc (blanked (x ∷ xs)) (blanked rest) (codes ")"))

values_taken : (has_list : Bool) (i : Instruction) → taken_text (value_patterns has_list i) ≡ values_piece has_list [] i
values_taken true i =
    let rest : List ℕ = kind_piece is_value i ++ (kind_piece is_varargs i ++ codes ")") in
    ap (λ z. codes " " ++ z)
    (append-nil (pattern_text (list_pattern (names_of is_value i) (names_of is_varargs i)))
    ∙ list_law (names_of is_value i) (names_of is_varargs i) ∙ ap (λ n. codes "(" ++ (list_term_piece n ++ rest)) (kind_count is_value i))
values_taken false i =
    counted_taken (value_array (length (names_of is_value i))) (codes "value_array_") [] (names_of is_value i) (value_array_law (length (names_of is_value i)))
    ∙ ap (λ n. counted_piece n (codes "value_array_") [] (kind_piece is_value i)) (kind_count is_value i)

blocks_taken : (i : Instruction) → taken_text (block_patterns i) ≡ blocks_piece i
blocks_taken i =
    counted_taken (block_array (length (names_of is_block i))) (codes "block_array_") [] (names_of is_block i) (block_array_law (length (names_of is_block i)))
    ∙ ap (λ n. counted_piece n (codes "block_array_") [] (kind_piece is_block i)) (kind_count is_block i)

values_made : (i : Instruction) → made_text (counted_expr (value_array_ctor (length (names_of is_value i))) (names_of is_value i)) ≡ values_piece false (codes "_ctor") i
values_made i =
    counted_made (value_array_ctor (length (names_of is_value i))) (codes "value_array_") (codes "_ctor") (names_of is_value i) (value_ctor_law (length (names_of is_value i)))
    ∙ ap (λ n. counted_piece n (codes "value_array_") (codes "_ctor") (kind_piece is_value i)) (kind_count is_value i)

blocks_made : (i : Instruction) → made_text (counted_expr (block_array (length (names_of is_block i))) (names_of is_block i)) ≡ blocks_piece i
blocks_made i =
    counted_made (block_array (length (names_of is_block i))) (codes "block_array_") [] (names_of is_block i) (block_array_law (length (names_of is_block i)))
    ∙ ap (λ n. counted_piece n (codes "block_array_") [] (kind_piece is_block i)) (kind_count is_block i)

-- ---- the data

-- the opcode, and what stands behind it
opcode_law : (camel rest operands : List ℕ) → rest ≡ operands → ((camel ++ codes ")") ++ rest) ++ codes ")" ≡ camel ++ (codes ")" ++ (operands ++ codes ")"))
opcode_law camel rest operands e =
    append_assoc (camel ++ codes ")") rest (codes ")") ∙ append_assoc camel (codes ")") (rest ++ codes ")") ∙ ap (λ z. camel ++ (codes ")" ++ (z ++ codes ")"))) e

-- as a pattern
pub data_taken : (f : InstructionFormat) (i : Instruction) → pattern_text (data_pattern f i) ≡ data_piece f.has_value_list [] f i
unfolding data_piece data_begin
data_taken f i =
    let values : List Pattern = value_patterns f.has_value_list i in
    let blocks : List Pattern = block_patterns i in
    let raw : List Pattern = variables (names_of is_raw_block i) in
    let imms : List Pattern = variables (names_of is_imm i) in
    ap (λ z. codes "(InstructionData." ++ (f.name ++ (codes " (Opcode." ++ z)))
    (opcode_law i.camel_name (taken_text (values ++ (blocks ++ (raw ++ imms)))) (operands_piece f.has_value_list [] i)
    (taken_joined values (blocks ++ (raw ++ imms))
    ∙ ap₂ (λ y z. y ++ z) (values_taken f.has_value_list i)
    (taken_joined blocks (raw ++ imms)
    ∙ ap₂ (λ y z. y ++ z) (blocks_taken i)
    (taken_joined raw imms ∙ ap₂ (λ y z. y ++ z) (names_taken (names_of is_raw_block i)) (names_taken (names_of is_imm i))))))

-- as an expression
pub data_made : (f : InstructionFormat) (i : Instruction) → expr_text (data_expr f i) ≡ data_piece false (codes "_ctor") f i
unfolding data_piece data_begin
data_made f i =
    let values : List Expr = counted_expr (value_array_ctor (length (names_of is_value i))) (names_of is_value i) in
    let blocks : List Expr = counted_expr (block_array (length (names_of is_block i))) (names_of is_block i) in
    let raw : List Expr = variable_exprs (names_of is_raw_block i) in
    let imms : List Expr = variable_exprs (names_of is_imm i) in
    ap (λ z. codes "(InstructionData." ++ (f.name ++ (codes " (Opcode." ++ z)))
    (opcode_law i.camel_name (made_text (values ++ (blocks ++ (raw ++ imms)))) (operands_piece false (codes "_ctor") i)
    (made_joined values (blocks ++ (raw ++ imms))
    ∙ ap₂ (λ y z. y ++ z) (values_made i)
    (made_joined blocks (raw ++ imms)
    ∙ ap₂ (λ y z. y ++ z) (blocks_made i)
    (made_joined raw imms ∙ ap₂ (λ y z. y ++ z) (names_made (names_of is_raw_block i)) (names_made (names_of is_imm i))))))
