-- The pieces of instructions are the texts of their definitions, and so is a file.
use Rattle.std.proofs.Common.{◌≡◌, ℕ, zero, suc, List, [], ◌++◌, Bool, true, false, Option, Some, None, refl, sym, ap, ap₂, ◌∙◌, append_assoc, append-nil, codes}
use Rattle.std.specs.Prelude.{◌||◌, option_map, slice_get}
use Rattle.isle_ast.specs.Views.{patterns_of}
use Rattle.isle_meta.specs.declared.clif.Instruction.{Instruction}
use Rattle.isle_meta.specs.declared.clif.InstructionFormat.{InstructionFormat}
use Rattle.isle_meta.specs.declared.tables.Tables.{Tables}
use Rattle.isle_prelude.specs.ClifFiles.{data_expr, data_pattern, declaration, extractor, file_defs, instruction_defs, making, of_format, operand_names, typed_first, variables}
use Rattle.isle_prelude.specs.CommonDefs.{common_defs}
use Rattle.isle_prelude.specs.FileManners.{file_case, file_manner, lowered_case, making_begin, manner, optimized_case, plain_maker, plain_taker, typed_maker, typed_taker, untyped_taker}
use Rattle.isle_prelude.specs.InstructionParts.{names_in, taken_defs}
use Rattle.isle_prelude.specs.Manners.{by_results, optimized, type_variable}
use Rattle.isle_prelude.specs.TermPieces.{data_piece, declaration_piece, extractor_begin, extractor_piece, file_piece, head_piece, instruction_piece, making_piece, of_format_piece, row_piece, rule_begin, taken_piece, type_piece}
use Rattle.isle_prelude.specs.declared.manners.InstructionFile.{InstructionFile}
use Rattle.isle_prelude.specs.declared.manners.InstructionFile.TheVariants as file
use Rattle.isle_prelude.specs.declared.manners.Manner.{Manner}
use Rattle.isle_prelude.specs.declared.manners.Manner.TheVariants as case
use Rattle.isle_writing.specs.Text.{def_text, def_texts, expr_text, pattern_text, patterns_text, spaced}
use Rattle.isle_prelude.proofs.DataTexts.{data_made, data_taken, names_taken}
use Rattle.isle_prelude.proofs.TypeTexts.{common_law, each_text, texts_append}

-- ---- heads

flat_head : (before name ty names rest : List ℕ) → before ++ (name ++ ((ty ++ names) ++ (codes ") " ++ rest))) ≡ (before ++ (name ++ (ty ++ (names ++ codes ") ")))) ++ rest
flat_head before name ty names rest =
    ap (λ z. before ++ (name ++ z)) (append_assoc ty names (codes ") " ++ rest))
    ∙ sym (append_assoc before (name ++ (ty ++ (names ++ codes ") "))) rest
    ∙ ap (λ z. before ++ z) (append_assoc name (ty ++ (names ++ codes ") ")) rest
    ∙ ap (λ z. name ++ z) (append_assoc ty (names ++ codes ") ") rest ∙ ap (λ z. ty ++ z) (append_assoc names (codes ") ") rest))))

-- the parameters of an instruction's term
abbrev named : Bool → Instruction → List (List ℕ)
named typed i = typed_first typed type_variable (operand_names i)

parameters_law : (typed : Bool) (i : Instruction) → spaced (codes " ") (named typed i) ≡ type_piece typed ++ spaced (codes " ") (names_in i.operands_in)
parameters_law true i = refl
parameters_law false i = refl

-- a definition over the parameters, and what stands behind them
head_law : (before : List ℕ) (typed : Bool) (i : Instruction) (rest : List ℕ) → before ++ (i.name ++ (spaced (codes " ") (named typed i) ++ (codes ") " ++ rest))) ≡ head_piece before typed i ++ rest
head_law before typed i rest =
    ap (λ z. before ++ (i.name ++ (z ++ (codes ") " ++ rest)))) (parameters_law typed i) ∙ flat_head before i.name (type_piece typed) (spaced (codes " ") (names_in i.operands_in)) rest

-- ---- definitions

declaration_law : (m : Manner) (i : Instruction) → def_text (declaration (manner m) i) ≡ declaration_piece m i
unfolding def_text
declaration_law case.Valued i = refl
declaration_law case.Skeleton i = refl
declaration_law case.LoweredTyped i = refl
declaration_law case.Lowered i = refl

-- the data at the end of a definition
closed_law : (text piece : List ℕ) → text ≡ piece → ((text ++ []) ++ codes ")") ++ codes ")\n" ≡ piece ++ codes "))\n"
closed_law text piece e = ap (λ z. (z ++ codes ")") ++ codes ")\n") (append-nil text ∙ e) ∙ append_assoc piece (codes ")") (codes ")\n")

template_law : (begin : List ℕ) (typed : Bool) (f : InstructionFormat) (i : Instruction)
    → codes "(extractor (" ++ (i.name ++ (spaced (codes " ") (named typed i) ++ (codes ") " ++ (begin ++ (((pattern_text (data_pattern f i) ++ []) ++ codes ")") ++ codes ")\n")))))
    ≡ head_piece extractor_begin typed i ++ (begin ++ (data_piece f.has_value_list [] f i ++ codes "))\n"))
unfolding extractor_begin
template_law begin typed f i =
    ap (λ z. codes "(extractor (" ++ (i.name ++ (spaced (codes " ") (named typed i) ++ (codes ") " ++ (begin ++ z)))))
    (closed_law (pattern_text (data_pattern f i)) (data_piece f.has_value_list [] f i) (data_taken f i))
    ∙ head_law (codes "(extractor (") typed i (begin ++ (data_piece f.has_value_list [] f i ++ codes "))\n"))

extractor_law : (m : Manner) (f : InstructionFormat) (i : Instruction) → def_text (extractor (manner m) f i) ≡ extractor_piece m f i
unfolding def_text typed_taker untyped_taker plain_taker
extractor_law case.Valued f i = template_law typed_taker true f i
extractor_law case.Skeleton f i = template_law plain_taker false f i
extractor_law case.LoweredTyped f i = template_law typed_taker true f i
extractor_law case.Lowered f i = template_law untyped_taker false f i

rule_law : (begin : List ℕ) (typed : Bool) (f : InstructionFormat) (i : Instruction)
    → codes "(rule (" ++ ((i.name ++ (patterns_text (patterns_of (variables (named typed i))) ++ codes ") ")) ++ (begin ++ (((expr_text (data_expr f i) ++ []) ++ codes ")") ++ codes ")\n")))
    ≡ head_piece rule_begin typed i ++ (begin ++ (data_piece false (codes "_ctor") f i ++ codes "))\n"))
unfolding rule_begin
rule_law begin typed f i =
    let args : List ℕ = patterns_text (patterns_of (variables (named typed i))) in
    let made : List ℕ = begin ++ (((expr_text (data_expr f i) ++ []) ++ codes ")") ++ codes ")\n") in
    ap (λ z. codes "(rule (" ++ z) (append_assoc i.name (args ++ codes ") ") made ∙ ap (λ z. i.name ++ z) (append_assoc args (codes ") ") made))
    ∙ ap₂ (λ y z. codes "(rule (" ++ (i.name ++ (y ++ (codes ") " ++ (begin ++ z))))) (names_taken (named typed i))
    (closed_law (expr_text (data_expr f i)) (data_piece false (codes "_ctor") f i) (data_made f i))
    ∙ head_law (codes "(rule (") typed i (begin ++ (data_piece false (codes "_ctor") f i ++ codes "))\n"))

making_law : (m : Manner) (f : InstructionFormat) (i : Instruction) → def_texts (making (manner m).maker (manner m) f i) ≡ making_piece (making_begin m) m f i
unfolding def_text typed_maker plain_maker
making_law case.Valued f i = append-nil _ ∙ rule_law typed_maker true f i
making_law case.Skeleton f i = append-nil _ ∙ rule_law plain_maker false f i
making_law case.LoweredTyped f i = refl
making_law case.Lowered f i = refl

taken_law : (m : Manner) (f : InstructionFormat) (i : Instruction) → def_texts (taken_defs (manner m) f i) ≡ taken_piece m f i
taken_law m f i = ap₂ (λ y z. y ++ z) (declaration_law m i) (ap₂ (λ y z. y ++ z) (extractor_law m f i) (making_law m f i))

-- ---- files

instruction_law : (o : Option Manner) (f : InstructionFormat) (i : Instruction) → def_texts (instruction_defs (option_map manner o) f i) ≡ instruction_piece o f i
instruction_law None f i = refl
instruction_law (Some m) f i = taken_law m f i

optimized_law : (n : ℕ) (has_effects : Bool) → optimized n has_effects ≡ manner (optimized_case n has_effects)
optimized_law zero has_effects = refl
optimized_law (suc zero) false = refl
optimized_law (suc zero) true = refl
optimized_law (suc (suc n)) has_effects = refl

lowered_law : (n : ℕ) → by_results n ≡ manner (lowered_case n)
lowered_law zero = refl
lowered_law (suc n) = refl

-- a file takes an instruction as the code says
case_law : (f : InstructionFile) (has_list : Bool) (i : Instruction) → file_manner f has_list i ≡ option_map manner (file_case f has_list i)
case_law file.Opt true i = refl
case_law file.Opt false i = ap Some (optimized_law i.value_results (i.can_trap || i.other_side_effects))
case_law file.Lower true i = refl
case_law file.Lower false i = ap Some (lowered_law i.value_results)

format_law : (f : InstructionFile) (o : Option InstructionFormat) (i : Instruction) → def_texts (of_format (file_manner f) o i) ≡ of_format_piece f o i
format_law f None i = refl
format_law f (Some format) i =
    ap (λ m. def_texts (instruction_defs m format i)) (case_law f format.has_value_list i) ∙ instruction_law (file_case f format.has_value_list i) format i

row_law : (f : InstructionFile) (fs : List InstructionFormat) (i : Instruction) → def_texts (of_format (file_manner f) (slice_get fs i.format) i) ≡ row_piece f fs i
unfolding row_piece
row_law f fs i = format_law f (slice_get fs i.format) i

-- a file's text is that of its definitions
pub file_law : (f : InstructionFile) (t : Tables) → file_piece f t.formats t.instructions ≡ def_texts (file_defs (file_manner f) t)
file_law f t =
    sym (texts_append (common_defs t) _
    ∙ ap₂ (λ y z. y ++ z) (common_law t.formats t.instructions)
    (each_text (λ (i : Instruction). of_format (file_manner f) (slice_get t.formats i.format) i) (row_piece f t.formats) (row_law f t.formats) t.instructions))
