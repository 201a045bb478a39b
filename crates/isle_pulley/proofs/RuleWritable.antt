-- The definitions of supported rows can be written, so their text spells them.
use Rattle.std.proofs.Common.{◌≡◌, ℕ, suc, ◌≤◌, max, List, [], ◌∷◌, ◌++◌, map, Bool, true, false, Option, Some, None, refl, ap, arith, flat_map, codes, inl, inr, cond}
use Rattle.std.specs.Prelude.{not, if◌then◌else◌}
use Rattle.std.specs.List.{AllByRecursion}
use Rattle.std.specs.Option.{unwrap_or}
use Rattle.std.specs.Str.{bytes_eq}
use Rattle.isle_ast.specs.Tree.{Def, Expr, Exprs, AnExpr, NoExpr, Lets, ALet, NoLet}
use Rattle.isle_ast.specs.Tree as tree
use Rattle.isle_ast.specs.Views.{exprs_of, patterns_of}
use Rattle.isle_ast.specs.declared.tree.AstVariant.{AstVariant}
use Rattle.isle_core.specs.Printed.{after_prefix}
use Rattle.isle_meta.specs.declared.pulley.PulleyInst.{PulleyInst}
use Rattle.isle_meta.specs.declared.shapes.Shape.{Shape}
use Rattle.isle_meta.specs.FirstRow.{shapes, unsupported, IsFirstRow, IsFirstShape}
use Rattle.isle_meta.proofs.NameWords.{identifier_name, identifier_named, identifier_variable, stable_identifiers}
use Rattle.isle_spelling.specs.Identifier.{IsIdentifier}
use Rattle.isle_writing.specs.Height.{expr_height, exprs_height, patterns_height}
use Rattle.isle_writing.specs.Spelt.{SpellsOnly, declare_flag}
use Rattle.isle_writing.specs.Text.{def_texts}
use Rattle.isle_writing.specs.Writable.{AreExprs, AreFields, AreNames, ArePatterns, AreWritable, IsExpr, IsVariant, IsWritable, NamesOne}
use Rattle.isle_writing.proofs.Joined.{no_flag_each}
use Rattle.isle_writing.proofs.Names.{names_one}
use Rattle.isle_writing.proofs.WrittenLaw.{written_spelt}
use Rattle.isle_pulley_rows.specs.declared.operand.Operand.{Operand}
use Rattle.isle_pulley_rows.specs.declared.operand.Operand.TheVariants.{Normal, Writable, Binop, Trap}
use Rattle.isle_pulley_rows.specs.declared.operation.Operation.{Operation}
use Rattle.isle_pulley_rows.specs.BinaryParts.{before_end, binary, of_inner, of_rest, split, with_first, with_second, with_third}
use Rattle.isle_pulley_rows.specs.Names.{names_of, operand_names, operand_types, types_of}
use Rattle.isle_pulley.specs.Places.{temporary}
use Rattle.isle_pulley_rows.specs.Operands.{Field, field_operand, has_trap, operands, plain_operand, read_type, trap_operand}
use Rattle.isle_pulley_rows.specs.Operations.{operation_of, operations, operations_of}
use Rattle.isle_pulley_rows.specs.PulleyRow as row
use Rattle.isle_pulley_rows.specs.PulleyRows.{IsFirstOperation, PulleyBreaks}
use Rattle.isle_pulley_rows.specs.Results.{results}
use Rattle.isle_pulley.specs.RuleFile.{answer_type, bare_call, body_of, call_on, declaration, file_defs, inst_fields, inst_names, named, operation_defs, param_names, param_types, pulley_defs, raw_inst, raw_inst_type, rule_of, variables, variant_of}
use Rattle.isle_pulley_rows.specs.Skipped.{is_skipped, kept}
use Rattle.isle_pulley_rows.specs.Words.{begins_with}
use Rattle.isle_pulley.proofs.NameLaws.{IsCaller, caller_from, instruction_calls, temporary_calls, term_named, written_named}

-- ---- all of a list

all_joined : {X : Type 0} (P : X → Type 0) (xs ys : List X) → AllByRecursion P xs → AllByRecursion P ys → AllByRecursion P (xs ++ ys)
all_joined P [] ys h k = k
all_joined P (x ∷ xs) ys h k = (h.0, all_joined P xs ys h.1 k)

all_front : {X : Type 0} (P : X → Type 0) (xs ys : List X) → AllByRecursion P (xs ++ ys) → AllByRecursion P xs
all_front P [] ys h = tt
all_front P (x ∷ xs) ys h = (h.0, all_front P xs ys h.1)

all_behind : {X : Type 0} (P : X → Type 0) (xs ys : List X) → AllByRecursion P (xs ++ ys) → AllByRecursion P ys
all_behind P [] ys h = h
all_behind P (x ∷ xs) ys h = all_behind P xs ys h.1

-- ---- names that are written out

dst_named : IsIdentifier (codes "dst")
dst_named = record { begins = refl; word = refl; unused = refl; free = refl }

dst1_named : IsIdentifier (codes "dst1")
dst1_named = record { begins = refl; word = refl; unused = refl; free = refl }

dst2_named : IsIdentifier (codes "dst2")
dst2_named = record { begins = refl; word = refl; unused = refl; free = refl }

src1_named : IsIdentifier (codes "src1")
src1_named = record { begins = refl; word = refl; unused = refl; free = refl }

src2_named : IsIdentifier (codes "src2")
src2_named = record { begins = refl; word = refl; unused = refl; free = refl }

code_named : IsIdentifier (codes "code")
code_named = record { begins = refl; word = refl; unused = refl; free = refl }

trap_named : NamesOne (codes "TrapCode")
trap_named = names_one (codes "TrapCode") (omega arith, refl) refl

-- ---- operands

-- an operand's names and types are identifiers
pub record IsNamed (o : Operand) : Type 0 where
  pub names : AllByRecursion IsIdentifier (names_of o)
  pub types : AllByRecursion IsIdentifier (types_of o)

each_named : (os : List Operand) → AllByRecursion IsIdentifier (operand_names os) → AllByRecursion IsIdentifier (operand_types os) → AllByRecursion (λ (o : Operand). IsNamed o) os
each_named [] h k = tt
each_named (o ∷ os) h k = (
  record { names = all_front IsIdentifier (names_of o) (operand_names os) h; types = all_front IsIdentifier (types_of o) (operand_types os) k },
  each_named os (all_behind IsIdentifier (names_of o) (operand_names os) h) (all_behind IsIdentifier (types_of o) (operand_types os) k),
)

-- the names of binary operands
three_named : (a b c : List ℕ) → AllByRecursion IsIdentifier (names_of (Binop a b c))
three_named a b c = (dst_named, (src1_named, (src2_named, tt)))

-- what an option holds has names
abbrev HoldsNamed : Option Operand → Type 0
HoldsNamed None = Unit {0}
HoldsNamed (Some o) = AllByRecursion IsIdentifier (names_of o)

third_named : (a b c : List ℕ) (r : Option (List ℕ × List ℕ)) → HoldsNamed (with_third a b c r)
third_named a b c None = three_named a b c
third_named a b c (Some p) = tt

second_named : (a rest : List ℕ) (r : Option (List ℕ × List ℕ)) → HoldsNamed (with_second a rest r)
second_named a rest None = three_named a rest a
second_named a rest (Some p) = third_named a p.0 p.1 (split p.1)

first_named : (inner : List ℕ) (r : Option (List ℕ × List ℕ)) → HoldsNamed (with_first inner r)
first_named inner None = three_named inner inner inner
first_named inner (Some p) = second_named p.0 p.1 (split p.1)

inner_named : (r : Option (List ℕ)) → HoldsNamed (of_inner r)
inner_named None = tt
inner_named (Some inner) = first_named inner (split inner)

rest_named : (r : Option (List ℕ)) → HoldsNamed (of_rest r)
rest_named None = tt
rest_named (Some rest) = inner_named (before_end rest)

binary_named : (ty : List ℕ) → HoldsNamed (binary ty)
binary_named ty = rest_named (after_prefix (codes "BinaryOperands < ") ty)

plain_named : (name ty : List ℕ) → IsIdentifier name → AllByRecursion IsIdentifier (names_of (plain_operand name ty))
plain_named name ty i = one (begins_with (codes "dst") name)
  where
    one : (b : Bool) → AllByRecursion IsIdentifier (names_of (if b then Writable name ty else Normal name (read_type ty)))
    one true = (i, tt)
    one false = (i, tt)

or_named : (r : Option Operand) (o : Operand) → HoldsNamed r → AllByRecursion IsIdentifier (names_of o) → AllByRecursion IsIdentifier (names_of (unwrap_or r o))
or_named None o h k = k
or_named (Some p) o h k = h

field_named : (f : Field) → IsIdentifier f.0 → AllByRecursion IsIdentifier (names_of (field_operand f))
field_named f i = one (bytes_eq f.0 (codes "operands"))
  where
    one : (b : Bool) → AllByRecursion IsIdentifier (names_of (if b then unwrap_or (binary f.1) (plain_operand f.0 f.1) else plain_operand f.0 f.1))
    one true = or_named (binary f.1) (plain_operand f.0 f.1) (binary_named f.1) (plain_named f.0 f.1 i)
    one false = plain_named f.0 f.1 i

fields_named : (fs : List Field) (os : List Operand) → AllByRecursion IsIdentifier (row.field_names fs) → AllByRecursion IsIdentifier (operand_names os)
    → AllByRecursion IsIdentifier (operand_names (map field_operand fs ++ os))
fields_named [] os h k = k
fields_named (f ∷ fs) os h k =
    all_joined IsIdentifier (names_of (field_operand f)) (operand_names (map field_operand fs ++ os)) (field_named f h.0) (fields_named fs os h.1 k)

trap_operands_named : (b : Bool) → AllByRecursion IsIdentifier (operand_names (trap_operand b))
trap_operands_named true = (code_named, tt)
trap_operands_named false = tt

-- ---- operations

-- an operation's names, and those of its operands, are identifiers
pub record IsNamedOperation (op : Operation) : Type 0 where
  pub snake : IsIdentifier op.snake
  pub name : IsIdentifier op.name
  pub operands : AllByRecursion (λ (o : Operand). IsNamed o) op.operands

-- a row breaks none of the shapes
abbrev IsSupported : (earlier : List (List ℕ)) → (before : List PulleyInst) → PulleyInst → Type 0
IsSupported earlier before r = AllByRecursion (λ (shape : Shape). PulleyBreaks earlier before r shape → ⊥) shapes

none_broken : (Broken : Shape → Type 0) (ss : List Shape) → IsFirstShape Broken ss None → AllByRecursion (λ (shape : Shape). Broken shape → ⊥) ss
none_broken Broken [] h = tt
none_broken Broken (s ∷ ss) (inl h) = let e : None ≡ Some s = h.1 in absurd cc
none_broken Broken (s ∷ ss) (inr h) = (h.0, none_broken Broken ss h.1)

operation_named : (earlier : List (List ℕ)) (before : List PulleyInst) (r : PulleyInst) → IsSupported earlier before r → is_skipped r ≡ false → IsNamedOperation (operation_of r)
operation_named earlier before r h kept_so =
    let names : AllByRecursion IsIdentifier (row.row_names r) = stable_identifiers (row.row_names r) h.0 in
    let types : AllByRecursion IsIdentifier (operand_types (operands r)) =
    stable_identifiers (operand_types (operands r)) (λ no. h.1.1.1.1.1.1.1.1.1.1.1.1.1.1.1.1.1.1.1.1.0 (kept_so, no)) in
    record {
      snake = names.0;
      name = names.1.0;
      operands = each_named (operands r) (fields_named r.fields (trap_operand (has_trap r)) names.1.1 (trap_operands_named (has_trap r))) types;
    }

one_kept : (b : Bool) (r : PulleyInst) (rs : List PulleyInst) → (b ≡ false → IsNamedOperation (operation_of r)) → AllByRecursion (λ (op : Operation). IsNamedOperation op) (operations_of rs)
    → AllByRecursion (λ (op : Operation). IsNamedOperation op) (map operation_of (cond (not b) (r ∷ kept rs) (kept rs)))
one_kept true r rs h k = k
one_kept false r rs h k = (h refl, k)

rows_named : (earlier : List (List ℕ)) (before rs : List PulleyInst) → IsFirstRow (λ (r : PulleyInst). r.name) (PulleyBreaks earlier) before rs None
    → AllByRecursion (λ (op : Operation). IsNamedOperation op) (operations_of rs)
rows_named earlier before [] h = tt
rows_named earlier before (r ∷ rs) (inl h) = let e : None ≡ Some (unsupported r.name h.0) = h.2 in absurd cc
rows_named earlier before (r ∷ rs) (inr h) =
    one_kept (is_skipped r) r rs (λ e. operation_named earlier before r (none_broken (PulleyBreaks earlier before r) shapes h.0) e) (rows_named earlier (before ++ r ∷ []) rs h.1)

-- ---- the type of instructions

-- a field's name and its type
abbrev IsField : Field → Type 0
IsField f = NamesOne f.0 × NamesOne f.1

inst_fields_named : (o : Operand) → IsNamed o → AllByRecursion IsField (inst_fields o)
inst_fields_named (Normal x t) n = ((identifier_named x n.names.0, identifier_named t n.types.0), tt)
inst_fields_named (Writable x t) n = ((identifier_named x n.names.0, written_named t n.types.0), tt)
inst_fields_named (Binop a b c) n = (
  (identifier_named (codes "dst") dst_named, written_named a n.types.0),
  ((identifier_named (codes "src1") src1_named, identifier_named b n.types.1.0), ((identifier_named (codes "src2") src2_named, identifier_named c n.types.1.1.0), tt)),
)
inst_fields_named Trap n = ((identifier_named (codes "code") code_named, trap_named), tt)

all_fields_named : (os : List Operand) → AllByRecursion (λ (o : Operand). IsNamed o) os → AllByRecursion IsField (flat_map inst_fields os)
all_fields_named [] h = tt
all_fields_named (o ∷ os) h = all_joined IsField (inst_fields o) (flat_map inst_fields os) (inst_fields_named o h.0) (all_fields_named os h.1)

some_named : (fs : List Field) → AllByRecursion IsField fs → AreFields (named fs)
some_named [] h = tt
some_named (f ∷ fs) h = h

variants_named : (ops : List Operation) → AllByRecursion (λ (op : Operation). IsNamedOperation op) ops → AllByRecursion (λ (v : AstVariant). IsVariant v) (map variant_of ops)
variants_named [] h = tt
variants_named (op ∷ ops) h = ((identifier_named op.name h.0.name, some_named (flat_map inst_fields op.operands) (all_fields_named op.operands h.0.operands)), variants_named ops h.1)

type_writable : (ops : List Operation) → AllByRecursion (λ (op : Operation). IsNamedOperation op) ops → IsWritable (raw_inst_type ops)
type_writable ops h = ((names_one (codes "RawInst") (omega arith, refl) refl, variants_named ops h), omega arith)

-- ---- declarations

argument_types_named : (os : List Operand) → AllByRecursion (λ (o : Operand). IsNamed o) os → AreNames (param_types os)
argument_types_named [] h = tt
argument_types_named (Normal x t ∷ os) h = (identifier_named t h.0.types.0, argument_types_named os h.1)
argument_types_named (Writable x t ∷ os) h = argument_types_named os h.1
argument_types_named (Binop a b c ∷ os) h = (identifier_named b h.0.types.1.0, (identifier_named c h.0.types.1.1.0, argument_types_named os h.1))
argument_types_named (Trap ∷ os) h = (trap_named, argument_types_named os h.1)

results_named : (os : List Operand) → AllByRecursion (λ (o : Operand). IsNamed o) os → AllByRecursion IsIdentifier (results os)
results_named [] h = tt
results_named (Normal x t ∷ os) h = results_named os h.1
results_named (Writable x t ∷ os) h = (h.0.types.0, results_named os h.1)
results_named (Binop a b c ∷ os) h = (h.0.types.0, results_named os h.1)
results_named (Trap ∷ os) h = results_named os h.1

answer_named : (rs : List (List ℕ)) → AllByRecursion IsIdentifier rs → NamesOne (answer_type rs)
answer_named [] h = names_one (codes "SideEffectNoResult") (omega arith, refl) refl
answer_named (r ∷ []) h = identifier_named r h.0
answer_named (a ∷ b ∷ more) h = names_one (codes "ValueRegs") (omega arith, refl) refl

declaration_writable : (op : Operation) → IsNamedOperation op → IsWritable (declaration op)
declaration_writable op n =
    ((term_named op.snake n.snake, argument_types_named op.operands n.operands, answer_named (results op.operands) (results_named op.operands n.operands)), omega arith)

-- ---- what rules give

-- names of variables
abbrev AreVariables : List (List ℕ) → Type 0
AreVariables names = AllByRecursion IsIdentifier names

variables_are : (names : List (List ℕ)) → AreVariables names → AreExprs (exprs_of (variables names))
variables_are [] h = tt
variables_are (x ∷ xs) h = (identifier_name x h.0, variables_are xs h.1)

variables_low : (names : List (List ℕ)) → exprs_height (exprs_of (variables names)) ≡ 0
variables_low [] = refl
variables_low (x ∷ xs) = ap (λ n. max 0 n) (variables_low xs)

patterns_are : (names : List (List ℕ)) → AreVariables names → ArePatterns (patterns_of (map (λ (name : List ℕ). tree.Var name) names))
patterns_are [] h = tt
patterns_are (x ∷ xs) h = (identifier_variable x h.0, patterns_are xs h.1)

patterns_low : (names : List (List ℕ)) → patterns_height (patterns_of (map (λ (name : List ℕ). tree.Var name) names)) ≡ 0
patterns_low [] = refl
patterns_low (x ∷ xs) = ap (λ n. max 0 n) (patterns_low xs)

argument_names_are : (os : List Operand) → AllByRecursion (λ (o : Operand). IsNamed o) os → AreVariables (param_names os)
argument_names_are [] h = tt
argument_names_are (Normal x t ∷ os) h = (h.0.names.0, argument_names_are os h.1)
argument_names_are (Writable x t ∷ os) h = argument_names_are os h.1
argument_names_are (Binop a b c ∷ os) h = (src1_named, (src2_named, argument_names_are os h.1))
argument_names_are (Trap ∷ os) h = (code_named, argument_names_are os h.1)

inst_names_are : (next last : List ℕ) (os : List Operand) → IsIdentifier next → IsIdentifier last → AllByRecursion (λ (o : Operand). IsNamed o) os → AreVariables (inst_names next last os)
inst_names_are next last [] i j h = tt
inst_names_are next last (Normal x t ∷ os) i j h = (h.0.names.0, inst_names_are next last os i j h.1)
inst_names_are next last (Writable x t ∷ os) i j h = (i, inst_names_are last last os j j h.1)
inst_names_are next last (Binop a b c ∷ os) i j h = (i, (src1_named, (src2_named, inst_names_are last last os j j h.1)))
inst_names_are next last (Trap ∷ os) i j h = (code_named, inst_names_are next last os i j h.1)

-- an expression that can be written, and that nests so deep at most
record Makes (n : ℕ) (e : Expr) : Type 0 where
  here : IsExpr e
  shallow : expr_height e ≤ n

raw_makes : (next last : List ℕ) (op : Operation) → IsIdentifier next → IsIdentifier last → IsNamedOperation op → Makes 1 (raw_inst next last op)
raw_makes next last op i j n =
    let calls : IsCaller (codes "RawInst." ++ op.name) = instruction_calls op.name n.name in
    let low : exprs_height (exprs_of (variables (inst_names next last op.operands))) ≡ 0 = variables_low (inst_names next last op.operands) in
    record {
      here = (calls.word, calls.made, variables_are (inst_names next last op.operands) (inst_names_are next last op.operands i j n.operands));
      shallow = omega (arith, low);
    }

call_makes : (n : ℕ) (term : List ℕ) (e : Expr) → IsCaller term → Makes n e → Makes (suc n) (call_on term e)
call_makes n term e c m = record { here = (c.word, c.made, (m.here, tt)); shallow = omega (arith, m.shallow) }

temporary_makes : (ty : List ℕ) → IsIdentifier ty → Makes 1 (bare_call (temporary ty))
temporary_makes ty i = let calls : IsCaller (temporary ty) = temporary_calls ty i in record { here = (calls.word, calls.made, tt); shallow = omega arith }

emit_calls : IsCaller (codes "emit")
emit_calls = caller_from (codes "emit") (omega arith, refl) refl refl

unit_named : NamesOne (codes "Unit")
unit_named = names_one (codes "Unit") (omega arith, refl) refl

wild_named : NamesOne (codes "_")
wild_named = names_one (codes "_") (omega arith, refl) refl

body_makes : (rs : List (List ℕ)) (op : Operation) → AllByRecursion IsIdentifier rs → IsNamedOperation op → Makes 5 (body_of rs op)
body_makes [] op h n =
    let m : Makes 2 (body_of [] op) =
    call_makes 1 (codes "SideEffectNoResult.Inst") (raw_inst (codes "dst") (codes "dst") op) (caller_from (codes "SideEffectNoResult.Inst") (omega arith, refl) refl refl) (raw_makes (codes "dst") (codes "dst") op dst_named dst_named n) in
    record { here = m.here; shallow = omega (arith, m.shallow) }
body_makes (r ∷ []) op h n =
    let raw : Expr = raw_inst (codes "dst") (codes "dst") op in
    let m : Makes 2 (call_on (codes "emit") raw) = call_makes 1 (codes "emit") raw emit_calls (raw_makes (codes "dst") (codes "dst") op dst_named dst_named n) in
    let t : Makes 1 (bare_call (temporary r)) = temporary_makes r h.0 in
    record {
      here = ((identifier_named (codes "dst") dst_named, written_named r h.0, t.here, (wild_named, unit_named, m.here, tt)), identifier_name (codes "dst") dst_named);
      shallow = omega (arith, m.shallow, t.shallow);
    }
body_makes (a ∷ b ∷ more) op h n =
    let raw : Expr = raw_inst (codes "dst1") (codes "dst2") op in
    let m : Makes 2 (call_on (codes "emit") raw) = call_makes 1 (codes "emit") raw emit_calls (raw_makes (codes "dst1") (codes "dst2") op dst1_named dst2_named n) in
    let s : Makes 1 (bare_call (temporary a)) = temporary_makes a h.0 in
    let t : Makes 1 (bare_call (temporary b)) = temporary_makes b h.1.0 in
    let pair : IsCaller (codes "value_regs") = caller_from (codes "value_regs") (omega arith, refl) refl refl in
    record {
      here = (
        (
          identifier_named (codes "dst1") dst1_named,
          written_named a h.0,
          s.here,
          (identifier_named (codes "dst2") dst2_named, written_named b h.1.0, t.here, (wild_named, unit_named, m.here, tt)),
        ),
        (pair.word, pair.made, (identifier_name (codes "dst1") dst1_named, (identifier_name (codes "dst2") dst2_named, tt))),
      );
      shallow = omega (arith, m.shallow, s.shallow, t.shallow);
    }

rule_writable : (op : Operation) → IsNamedOperation op → IsWritable (rule_of op)
rule_writable op n =
    let m : Makes 5 (body_of (results op.operands) op) = body_makes (results op.operands) op (results_named op.operands n.operands) n in
    let low : patterns_height (patterns_of (map (λ (name : List ℕ). tree.Var name) (param_names op.operands))) ≡ 0 = patterns_low (param_names op.operands) in (
      (tt, omega arith, term_named op.snake n.snake, patterns_are (param_names op.operands) (argument_names_are op.operands n.operands), tt, m.here),
      omega (arith, m.shallow, low),
    )

-- ---- the file

operations_writable : (ops : List Operation) → AllByRecursion (λ (op : Operation). IsNamedOperation op) ops → AreWritable (flat_map operation_defs ops)
operations_writable [] h = tt
operations_writable (op ∷ ops) h = (declaration_writable op h.0, (rule_writable op h.0, operations_writable ops h.1))

-- no term has the name of a flag
no_flag : (ops : List Operation) → declare_flag (file_defs ops) ≡ false
no_flag ops = no_flag_each operation_defs (λ op. refl) ops

-- the text of supported rows spells their definitions, whatever terms come before theirs
pub rules_spell : (earlier : List (List ℕ)) (ops extended : List PulleyInst) (text : List ℕ) → IsFirstOperation earlier ops extended None → text ≡ def_texts (pulley_defs ops extended)
    → SpellsOnly text (pulley_defs ops extended)
rules_spell earlier ops extended text h e =
    let named_all : AllByRecursion (λ (op : Operation). IsNamedOperation op) (operations ops extended) = rows_named earlier [] (ops ++ extended) h in
    (written_spelt text (pulley_defs ops extended) (type_writable (operations ops extended) named_all, operations_writable (operations ops extended) named_all) e).named (no_flag (operations ops extended))
