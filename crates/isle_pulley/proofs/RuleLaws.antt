-- The pieces that the code appends are the text of the rule file's definitions.
use Rattle.std.proofs.Common.{◌≡◌, ℕ, List, [], ◌∷◌, ◌++◌, map, refl, sym, ap, ap₂, ◌∙◌, append_assoc, append-nil, flat_map, codes}
use Rattle.isle_ast.specs.Tree.{Expr, Lets}
use Rattle.isle_ast.specs.Tree as tree
use Rattle.isle_ast.specs.Views.{patterns_of}
use Rattle.isle_writing.specs.Text.{def_text, def_texts, expr_text, field_text, lets_text, named_text, patterns_text, variant_text, variants_text}
use Rattle.isle_pulley_rows.specs.declared.operand.Operand.{Operand}
use Rattle.isle_pulley_rows.specs.declared.operand.Operand.TheVariants.{Normal, Writable, Binop, Trap}
use Rattle.isle_pulley_rows.specs.declared.operation.Operation.{Operation}
use Rattle.isle_pulley.specs.Places.{written}
use Rattle.isle_pulley_rows.specs.Operands.{Field}
use Rattle.isle_pulley.specs.Pieces.{arguments_piece, effect_head, emitted_head, pair_tail, places_piece, type_head, body_piece, declaration_piece, emitted_piece, fields_piece, file_piece, inst_piece, operation_piece, place_piece, rule_piece, type_piece, variant_line, variant_piece}
use Rattle.isle_pulley_rows.specs.Results.{results}
use Rattle.isle_pulley.specs.RuleFile.{argument_names, body_of, declaration, emitted, file_defs, inst_fields, named, operation_defs, placed, raw_inst, raw_inst_type, rule_of, variant_of}

-- ---- the type of instructions

named_joined : (xs ys : List Field) → named_text (xs ++ ys) ≡ named_text xs ++ named_text ys
named_joined [] ys = refl
named_joined (x ∷ xs) ys = ap (λ z. field_text x.0 x.1 ++ z) (named_joined xs ys) ∙ sym (append_assoc (field_text x.0 x.1) (named_text xs) (named_text ys))

named_law : (os : List Operand) → named_text (flat_map inst_fields os) ≡ flat_map fields_piece os
named_law [] = refl
named_law (o ∷ os) = named_joined (inst_fields o) (flat_map inst_fields os) ∙ ap (λ z. named_text (inst_fields o) ++ z) (named_law os)

some_fields : (name : List ℕ) (f : Field) (fs : List Field) (text : List ℕ) → named_text (f ∷ fs) ≡ text
    → variant_text name (named (f ∷ fs)) ≡ codes "(" ++ (name ++ (text ++ codes ")"))
some_fields name f fs text e = ap (λ z. codes "(" ++ (name ++ (z ++ codes ")"))) e

variant_law : (name : List ℕ) (os : List Operand) → variant_text name (named (flat_map inst_fields os)) ≡ variant_piece name os
variant_law name [] = refl
variant_law name (Normal x t ∷ os) = some_fields name (x, t) (flat_map inst_fields os) (flat_map fields_piece (Normal x t ∷ os)) (named_law (Normal x t ∷ os))
variant_law name (Writable x t ∷ os) = some_fields name (x, written t) (flat_map inst_fields os) (flat_map fields_piece (Writable x t ∷ os)) (named_law (Writable x t ∷ os))
variant_law name (Binop a b c ∷ os) = some_fields name (codes "dst", written a) ((codes "src1", b) ∷ (codes "src2", c) ∷ flat_map inst_fields os) (flat_map fields_piece (Binop a b c ∷ os)) (named_law (Binop a b c ∷ os))
variant_law name (Trap ∷ os) = some_fields name (codes "code", codes "TrapCode") (flat_map inst_fields os) (flat_map fields_piece (Trap ∷ os)) (named_law (Trap ∷ os))

variants_law : (ops : List Operation) → variants_text (map variant_of ops) ≡ flat_map variant_line ops
variants_law [] = refl
variants_law (op ∷ ops) = ap₂ (λ y z. codes "\n  " ++ (y ++ z)) (variant_law op.name op.operands) (variants_law ops)

type_law : (ops : List Operation) → def_text (raw_inst_type ops) ≡ type_piece ops
unfolding def_text type_head
type_law ops =
    ap (λ z. codes "(type RawInst (enum" ++ z) (append_assoc (variants_text (map variant_of ops)) (codes ")") (codes ")\n"))
    ∙ ap (λ z. codes "(type RawInst (enum" ++ (z ++ codes "))\n")) (variants_law ops)

-- ---- declarations

declaration_law : (op : Operation) → def_text (declaration op) ≡ declaration_piece op
unfolding def_text
declaration_law op = refl

-- ---- what rules give

effect_law : (term e : List ℕ) → codes "(" ++ (term ++ ((codes " " ++ (e ++ [])) ++ codes ")")) ≡ codes "(" ++ (term ++ (codes " " ++ (e ++ codes ")")))
effect_law term e = ap (λ z. codes "(" ++ (term ++ (codes " " ++ (z ++ codes ")")))) (append-nil e)

placed_law : (gap name ty : List ℕ) (more : Lets) → lets_text gap (placed name ty more) ≡ gap ++ (place_piece name ty ++ lets_text (codes " ") more)
unfolding place_piece
placed_law gap name ty more = simp append_assoc

emitted_law : (next last : List ℕ) (op : Operation) → lets_text (codes " ") (emitted (raw_inst next last op)) ≡ codes " " ++ emitted_piece next last op
unfolding emitted_piece emitted_head inst_piece
emitted_law next last op =
    let e : List ℕ = expr_text (raw_inst next last op) in
    ap (λ z. codes " (_ Unit (emit " ++ ((z ++ codes ")") ++ codes ")")) (append-nil e) ∙ ap (λ z. codes " (_ Unit (emit " ++ z) (append_assoc e (codes ")") (codes ")"))

one_place : (p e x : List ℕ) → (p ++ (codes " " ++ e)) ++ x ≡ p ++ (codes " " ++ (e ++ x))
one_place p e x = append_assoc p (codes " " ++ e) x

two_places : (p q e x : List ℕ) → (p ++ (codes " " ++ (q ++ (codes " " ++ e)))) ++ x ≡ (p ++ (codes " " ++ (q ++ codes " "))) ++ (e ++ x)
two_places p q e x =
    one_place p (q ++ (codes " " ++ e)) x
    ∙ ap (λ z. p ++ (codes " " ++ z)) (one_place q e x ∙ sym (append_assoc q (codes " ") (e ++ x)))
    ∙ sym (one_place p (q ++ codes " ") (e ++ x))

body_law : (rs : List (List ℕ)) (op : Operation) → expr_text (body_of rs op) ≡ body_piece rs op
unfolding effect_head inst_piece places_piece pair_tail
body_law [] op = effect_law (codes "SideEffectNoResult.Inst") (expr_text (raw_inst (codes "dst") (codes "dst") op))
body_law (r ∷ []) op =
    let raw : Expr = raw_inst (codes "dst") (codes "dst") op in
    ap (λ z. codes "(let (" ++ (z ++ codes ") dst)")) (placed_law [] (codes "dst") r (emitted raw) ∙ ap (λ z. place_piece (codes "dst") r ++ z) (emitted_law (codes "dst") (codes "dst") op))
    ∙ ap (λ z. codes "(let (" ++ z) (one_place (place_piece (codes "dst") r) (emitted_piece (codes "dst") (codes "dst") op) (codes ") dst)"))
body_law (a ∷ b ∷ more) op =
    let raw : Expr = raw_inst (codes "dst1") (codes "dst2") op in
    ap (λ z. codes "(let (" ++ (z ++ codes ") (value_regs dst1 dst2))"))
    (placed_law [] (codes "dst1") a (placed (codes "dst2") b (emitted raw))
    ∙ ap (λ z. place_piece (codes "dst1") a ++ z)
    (placed_law (codes " ") (codes "dst2") b (emitted raw) ∙ ap (λ z. codes " " ++ (place_piece (codes "dst2") b ++ z)) (emitted_law (codes "dst1") (codes "dst2") op)))
    ∙ ap (λ z. codes "(let (" ++ z) (two_places (place_piece (codes "dst1") a) (place_piece (codes "dst2") b) (emitted_piece (codes "dst1") (codes "dst2") op) (codes ") (value_regs dst1 dst2))"))

-- ---- rules

arguments_law : (os : List Operand) → patterns_text (patterns_of (map (λ (name : List ℕ). tree.Var name) (flat_map argument_names os))) ≡ flat_map arguments_piece os
arguments_law [] = refl
arguments_law (Normal x t ∷ os) = ap (λ z. codes " " ++ (x ++ z)) (arguments_law os)
arguments_law (Writable x t ∷ os) = arguments_law os
arguments_law (Binop a b c ∷ os) = ap (λ z. codes " src1 src2" ++ z) (arguments_law os)
arguments_law (Trap ∷ os) = ap (λ z. codes " code" ++ z) (arguments_law os)

rule_law : (op : Operation) → def_text (rule_of op) ≡ rule_piece op
unfolding def_text
rule_law op =
    ap₂ (λ y z. codes "(rule (pulley_" ++ ((op.snake ++ (y ++ codes ") ")) ++ (z ++ codes ")\n"))) (arguments_law op.operands) (body_law (results op.operands) op)

-- ---- the file

operations_law : (ops : List Operation) → def_texts (flat_map operation_defs ops) ≡ flat_map operation_piece ops
unfolding operation_piece
operations_law [] = refl
operations_law (op ∷ ops) =
    ap₂ (λ y z. y ++ (z ++ def_texts (flat_map operation_defs ops))) (declaration_law op) (rule_law op)
    ∙ sym (append_assoc (declaration_piece op) (rule_piece op) (def_texts (flat_map operation_defs ops)))
    ∙ ap (λ z. operation_piece op ++ z) (operations_law ops)

-- the file's text is that of its definitions
pub file_law : (ops : List Operation) → file_piece ops ≡ def_texts (file_defs ops)
file_law ops = sym (ap₂ (λ y z. y ++ z) (type_law ops) (operations_law ops))
