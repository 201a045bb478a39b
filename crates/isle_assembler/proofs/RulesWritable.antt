-- The definitions of supported instructions can be written.
use Rattle.std.proofs.Common.{◌≡◌, ℕ, ◌≤◌, List, [], ◌∷◌, ◌++◌, map, Bool, true, false, Option, Some, None, refl, arith, cond, flat_map, codes}
use Rattle.std.specs.Prelude.{if◌then◌else◌, filter}
use Rattle.std.specs.List.{AllByRecursion}
use Rattle.isle_ast.specs.Tree.{Def, Expr}
use Rattle.isle_ast.specs.Tree as tree
use Rattle.isle_ast.specs.Views.{exprs_of, patterns_of}
use Rattle.isle_assembler_rows.specs.declared.constructor.Constructor.{Constructor}
use Rattle.isle_assembler.specs.declared.signature.Signature.{Signature}
use Rattle.isle_assembler.specs.declared.signature.Signature.TheVariants.{Raw, Made}
use Rattle.isle_meta.specs.declared.machine.Alternate.{Alternate}
use Rattle.isle_meta.specs.declared.machine.Inst.{Inst}
use Rattle.isle_meta.specs.declared.machine.Operand.{Operand}
use Rattle.isle_meta.proofs.FirstRows.{each_row}
use Rattle.isle_spelling.specs.Identifier.{IsIdentifier}
use Rattle.isle_writing.specs.Height.{exprs_height, expr_height, patterns_height}
use Rattle.isle_writing.specs.LaidDefs.{laid_defs, plain}
use Rattle.isle_writing.specs.Writable.{AreExprs, ArePatterns, AreWritable, IsExpr, IsPlain, IsWritable}
use Rattle.isle_writing.proofs.Joined.{laid_writable_each, laid_writable_joined}
use Rattle.isle_writing.proofs.Names.{plain_joined}
use Rattle.isle_assembler.specs.AssemblerDefs.{assembler_defs, choice_defs, choice_signature, constructor_defs, handed, made_decl, made_rule, raw_decl, raw_maker, row_defs}
use Rattle.isle_assembler_rows.specs.AssemblerRow.{alternate_names, row_names, BadName}
use Rattle.isle_assembler_rows.specs.AssemblerRows.{AssemblerBreaks, IsFirstInst}
use Rattle.isle_assembler_rows.specs.Constructors.{constructors, suffix, temporary}
use Rattle.isle_assembler.specs.Declaring.{call_on, named, variables}
use Rattle.isle_assembler.specs.HeadDefs.{head_defs}
use Rattle.isle_assembler_rows.specs.Operands.{locations, raw_operands, trap_names}
use Rattle.isle_assembler.specs.Signatures.{is_param, param_names, taken, takes}
use Rattle.isle_assembler_rows.specs.TermNames.{choice_term, is_left_out, made_term, raw_term}
use Rattle.isle_assembler.proofs.HeadWritable.{head_writable}
use Rattle.isle_assembler.proofs.TypeWords.{conversion_term, outputs_named, param_types_named, result_named, suffix_plain, temporary_term}
use Rattle.isle_assembler.proofs.WordLaws.{feature_term, x64_term}
use Rattle.isle_meta.proofs.NameWords.{IsTerm, identifier_name, identifier_plain, identifier_variable, stable_identifiers}

-- ---- names of instructions

-- the names of a row, which are identifiers
pub record IsNamedInst (i : Inst) : Type 0 where
  pub name : IsIdentifier i.name
  pub operands : AllByRecursion IsIdentifier (locations i.operands)
  pub alternate : AllByRecursion IsIdentifier (alternate_names i.alternate)

front : (xs ys : List (List ℕ)) → AllByRecursion IsIdentifier (xs ++ ys) → AllByRecursion IsIdentifier xs
front [] ys h = tt
front (x ∷ xs) ys h = (h.0, front xs ys h.1)

behind : (xs ys : List (List ℕ)) → AllByRecursion IsIdentifier (xs ++ ys) → AllByRecursion IsIdentifier ys
behind [] ys h = h
behind (x ∷ xs) ys h = behind xs ys h.1

joined : (xs ys : List (List ℕ)) → AllByRecursion IsIdentifier xs → AllByRecursion IsIdentifier ys → AllByRecursion IsIdentifier (xs ++ ys)
joined [] ys h k = k
joined (x ∷ xs) ys h k = (h.0, joined xs ys h.1 k)

-- an instruction that breaks no shape
named_inst : (i : Inst) → (BadName i → ⊥) → IsNamedInst i
named_inst i h =
    let all = stable_identifiers (row_names i) h in
    record {
      name = all.0;
      operands = front (locations i.operands) (alternate_names i.alternate) all.1;
      alternate = behind (locations i.operands)
          (alternate_names i.alternate) all.1;
    }

-- supported instructions
named_insts : (earlier : List (List ℕ)) (is : List Inst) → IsFirstInst earlier is None → AllByRecursion IsNamedInst is
named_insts earlier is h = each_row (λ (i : Inst). i.name) (AssemblerBreaks earlier) IsNamedInst (λ before i none. named_inst i none.0) [] is h

-- ---- parameters

kept : (s : Signature) (os : List Operand) → AllByRecursion IsIdentifier (locations os) → AllByRecursion IsIdentifier (locations (filter (takes s) os))
kept s [] h = tt
kept s (o ∷ os) h = one (takes s o) h.0 (kept s os h.1)
  where
    one : (b : Bool) → IsIdentifier o.location → AllByRecursion IsIdentifier (locations (filter (takes s) os))
        → AllByRecursion IsIdentifier (locations (cond b (o ∷ filter (takes s) os) (filter (takes s) os)))
    one true p ps = (p, ps)
    one false p ps = ps

trap_identifier : IsIdentifier (codes "trap")
trap_identifier = record { begins = refl; word = refl; unused = refl; free = refl }

trap_named : (b : Bool) → AllByRecursion IsIdentifier (trap_names b)
trap_named true = (trap_identifier, tt)
trap_named false = tt

params_named : (s : Signature) (i : Inst) → IsNamedInst i → AllByRecursion IsIdentifier (param_names s i)
params_named s i n = joined (locations (taken s i)) (trap_names i.has_trap) (kept s i.operands n.operands) (trap_named i.has_trap)

variables_taken : (ns : List (List ℕ)) → AllByRecursion IsIdentifier ns → ArePatterns (patterns_of (variables ns))
variables_taken [] h = tt
variables_taken (n ∷ ns) h = (identifier_variable n h.0, variables_taken ns h.1)

variables_flat : (ns : List (List ℕ)) → patterns_height (patterns_of (variables ns)) ≡ 0
variables_flat [] = refl
variables_flat (n ∷ ns) = omega (arith, variables_flat ns)

named_made : (ns : List (List ℕ)) → AllByRecursion IsIdentifier ns → AreExprs (exprs_of (named ns))
named_made [] h = tt
named_made (n ∷ ns) h = (identifier_name n h.0, named_made ns h.1)

named_flat : (ns : List (List ℕ)) → exprs_height (exprs_of (named ns)) ≡ 0
named_flat [] = refl
named_flat (n ∷ ns) = omega (arith, named_flat ns)

-- ---- what is handed to a raw term

handed_by : (b : Bool) (c : Constructor) (o : Operand) → IsIdentifier o.location → IsExpr (if b then tree.Name o.location else call_on (temporary c) [])
handed_by true c o h = identifier_name o.location h
handed_by false c o h = let t = temporary_term c in (t.named.0, t.called, tt)

low_by : (b : Bool) (c : Constructor) (o : Operand) → expr_height (if b then tree.Name o.location else call_on (temporary c) []) ≤ 1
low_by true c o = omega arith
low_by false c o = omega arith

handed_made : (c : Constructor) (os : List Operand) (ns : List (List ℕ)) → AllByRecursion IsIdentifier (locations os) → AllByRecursion IsIdentifier ns
    → AreExprs (exprs_of (map (handed c) os ++ named ns))
handed_made c [] ns h k = named_made ns k
handed_made c (o ∷ os) ns h k = (handed_by (is_param c o) c o h.0, handed_made c os ns h.1 k)

handed_low : (c : Constructor) (os : List Operand) (ns : List (List ℕ)) → exprs_height (exprs_of (map (handed c) os ++ named ns)) ≤ 1
handed_low c [] ns = omega (arith, named_flat ns)
handed_low c (o ∷ os) ns = omega (arith, low_by (is_param c o) c o, handed_low c os ns)

-- ---- definitions

made_plain : (c : Constructor) (name : List ℕ) → IsPlain name → IsPlain (name ++ suffix c)
made_plain c name h = plain_joined name (suffix c) h (suffix_plain c)

raw_is_term : (name : List ℕ) → IsPlain name → IsTerm (raw_term name)
raw_is_term name h = x64_term (name ++ codes "_raw") (plain_joined name (codes "_raw") h refl)

made_is_term : (c : Constructor) (name : List ℕ) → IsPlain name → IsTerm (made_term c name)
made_is_term c name h = x64_term (name ++ suffix c) (made_plain c name h)

choice_is_term : (c : Constructor) (name feature : List ℕ) → IsPlain name → IsPlain feature → IsTerm (choice_term c name feature)
choice_is_term c name feature h k =
    x64_term ((name ++ suffix c) ++ (codes "_or_" ++ feature))
    (plain_joined (name ++ suffix c) (codes "_or_" ++ feature) (made_plain c name h) (plain_joined (codes "_or_") feature refl k))

raw_decl_writable : (i : Inst) → IsNamedInst i → IsWritable (raw_decl i)
raw_decl_writable i n = (((raw_is_term i.name (identifier_plain i.name n.name)).named, param_types_named Raw i, outputs_named), omega arith)

raw_maker_writable : (i : Inst) → IsNamedInst i → IsWritable (raw_maker i)
raw_maker_writable i n = let t = raw_is_term i.name (identifier_plain i.name n.name) in ((t.named, t.named), omega arith)

made_decl_writable : (i : Inst) (c : Constructor) → IsNamedInst i → IsWritable (made_decl i c)
made_decl_writable i c n = (((made_is_term c i.name (identifier_plain i.name n.name)).named, param_types_named (Made c) i, result_named c), omega arith)

raw_kept : (i : Inst) → IsNamedInst i → AllByRecursion IsIdentifier (locations (raw_operands i))
raw_kept i n = kept Raw i.operands n.operands

made_rule_writable : (i : Inst) (c : Constructor) → IsNamedInst i → IsWritable (made_rule i c)
made_rule_writable i c n =
    let word = identifier_plain i.name n.name in
    let raw = raw_is_term i.name word in
    let turned = conversion_term c in
    let names = param_names (Made c) i in (
      (
        tt,
        omega arith,
        (made_is_term c i.name word).named,
        variables_taken names (params_named (Made c) i n),
        tt,
        (
          turned.named.0,
          turned.called,
          (
            (
              raw.named.0,
              raw.called,
              handed_made c (raw_operands i) (trap_names i.has_trap) (raw_kept i n)
                  (trap_named i.has_trap),
            ),
            tt,
          ),
        ),
      ),
      omega (arith, variables_flat names, handed_low c (raw_operands i) (trap_names i.has_trap)),
    )

-- a call on the parameters
call_made : (i : Inst) (c : Constructor) (name : List ℕ) → IsNamedInst i → IsPlain name → IsExpr (call_on (made_term c name) (param_names (Made c) i))
call_made i c name n h = let t = made_is_term c name h in (t.named.0, t.called, named_made (param_names (Made c) i) (params_named (Made c) i n))

choice_writable : (i : Inst) (c : Constructor) (o : Option Alternate) → IsNamedInst i → AllByRecursion IsIdentifier (alternate_names o)
    → AreWritable (laid_defs (choice_defs i c o))
choice_writable i c None n h = tt
choice_writable i c (Some a) n h =
    let word = identifier_plain i.name n.name in
    let feature = identifier_plain a.feature h.1.0 in
    let term = choice_is_term c i.name a.feature word feature in
    let names = param_names (Made c) i in
    let taken = variables_taken names (params_named (Made c) i n) in
    let asked = feature_term a.feature feature in (
      ((term.named, param_types_named (choice_signature c a.feature) i, result_named c), omega arith),
      (
        (
          (tt, omega arith, term.named, taken, ((tt, (asked.named.0, asked.called, tt)), tt), call_made i c a.name n (identifier_plain a.name h.0)),
          omega (arith, variables_flat names, named_flat names),
        ),
        (((tt, omega arith, term.named, taken, tt, call_made i c i.name n word), omega (arith, variables_flat names, named_flat names)), tt),
      ),
    )

constructor_writable : (i : Inst) → IsNamedInst i → (c : Constructor) → AreWritable (laid_defs (constructor_defs i c))
constructor_writable i n c = (made_decl_writable i c n, (made_rule_writable i c n, choice_writable i c i.alternate n n.alternate))

row_writable : (i : Inst) → IsNamedInst i → AreWritable (laid_defs (row_defs i))
row_writable i n = one (is_left_out i)
  where
    one : (b : Bool) → AreWritable (laid_defs (if b then [] else plain (raw_decl i) ∷ plain (raw_maker i) ∷ flat_map (constructor_defs i) (constructors i)))
    one true = tt
    one false = (raw_decl_writable i n, (raw_maker_writable i n, laid_writable_each (constructor_defs i) (constructor_writable i n) (constructors i)))

rows_writable : (is : List Inst) → AllByRecursion IsNamedInst is → AreWritable (laid_defs (flat_map row_defs is))
rows_writable [] h = tt
rows_writable (i ∷ is) h = laid_writable_joined (row_defs i) (flat_map row_defs is) (row_writable i h.0) (rows_writable is h.1)

pub assembler_writable : (earlier : List (List ℕ)) (is : List Inst) → IsFirstInst earlier is None → AreWritable (assembler_defs is)
assembler_writable earlier is h = laid_writable_joined (map plain head_defs) (flat_map row_defs is) head_writable (rows_writable is (named_insts earlier is h))
