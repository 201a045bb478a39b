-- The definitions of an assembler's rules: a term for each instruction, which Rust gives, and one for each of its constructors.
use Rattle.std.specs.Prelude.{ℕ, pos, List, [], ◌∷◌, ◌++◌, map, true, Option, Some, None, if◌then◌else◌, codes}
use Rattle.std.specs.List.{flat_map}
use Rattle.std.specs.Str.{bytes_eq}
use Rattle.isle_ast.specs.Tree.{Def, Expr, IfLet}
use Rattle.isle_ast.specs.Tree as tree
use Rattle.isle_ast.specs.Views.{exprs_of}
use Rattle.isle_writing.specs.Erased.{no_place}
use Rattle.isle_writing.specs.LaidDefs.{LaidDef, laid_defs, plain, whole}
use Rattle.isle_assembler_rows.specs.declared.constructor.Constructor.{Constructor}
use Rattle.isle_assembler.specs.declared.signature.Signature.{Signature}
use Rattle.isle_assembler.specs.declared.signature.Signature.TheVariants.{Raw, Made, Unaligned}
use Rattle.isle_meta.specs.declared.machine.Alternate.{Alternate}
use Rattle.isle_meta.specs.declared.machine.Inst.{Inst}
use Rattle.isle_meta.specs.declared.machine.Operand.{Operand}
use Rattle.isle_assembler_rows.specs.Constructors.{constructors, conversion, result_type, temporary}
use Rattle.isle_assembler.specs.Declaring.{call_on, made_by_itself, named, plain_decl, plain_rule, variables}
use Rattle.isle_assembler.specs.HeadDefs.{head_defs}
use Rattle.isle_assembler_rows.specs.Operands.{raw_operands, trap_names}
use Rattle.isle_assembler.specs.Signatures.{is_param, param_names, param_types}
use Rattle.isle_assembler_rows.specs.TermNames.{choice_term, is_left_out, made_term, raw_term}

-- ---- the raw term

-- its declaration
abbrev pub raw_decl : Inst → Def
raw_decl i = plain_decl (raw_term i.name) (param_types Raw i) (codes "AssemblerOutputs")

-- that Rust gives it, by a function of its name
abbrev pub raw_maker : Inst → Def
raw_maker i = made_by_itself (raw_term i.name)

-- ---- the term of a constructor

-- its declaration
abbrev pub made_decl : Inst → Constructor → Def
made_decl i c = plain_decl (made_term c i.name) (param_types (Made c) i) (result_type c)

-- what is handed to the raw term for an operand: the parameter, or a new register where there is none
abbrev pub handed : Constructor → Operand → Expr
handed c o = if is_param c o then tree.Name o.location else call_on (temporary c) []

-- all that is handed to it
abbrev pub all_handed : Constructor → Inst → List Expr
all_handed c i = map (handed c) (raw_operands i) ++ named (trap_names i.has_trap)

-- its rule
abbrev pub made_rule : Inst → Constructor → Def
made_rule i c =
    plain_rule (made_term c i.name) (variables (param_names (Made c) i))
    (tree.Call (conversion c) (exprs_of (tree.Call (raw_term i.name) (exprs_of (all_handed c i)) ∷ [])))

-- ---- the term that takes an alternate where its feature is there

-- the parameters of that term: with `avx` places needn't be aligned
abbrev pub choice_signature : Constructor → (feature : List ℕ) → Signature
choice_signature c feature = if bytes_eq feature (codes "avx") then Unaligned c else Made c

-- its declaration
abbrev pub choice_decl : Inst → Constructor → Alternate → Def
choice_decl i c a = plain_decl (choice_term c i.name a.feature) (param_types (choice_signature c a.feature) i) (result_type c)

-- the condition that the feature is there
abbrev pub has_feature : List ℕ → IfLet
has_feature feature = record { lhs = tree.Truth true; rhs = call_on (codes "has_" ++ feature) [] }

-- the rule that takes the alternate, which goes first
abbrev pub alternate_rule : Inst → Constructor → Alternate → Def
alternate_rule i c a =
    tree.Rule None (pos 1) (choice_term c i.name a.feature) (variables (param_names (Made c) i)) (has_feature a.feature ∷ [])
    (call_on (made_term c a.name) (param_names (Made c) i)) no_place

-- the rule that takes the instruction
abbrev pub usual_rule : Inst → Constructor → Alternate → Def
usual_rule i c a =
    plain_rule (choice_term c i.name a.feature) (variables (param_names (Made c) i)) (call_on (made_term c i.name) (param_names (Made c) i))

-- that term, if there is an alternate; its two rules show their priorities
abbrev pub choice_defs : Inst → Constructor → Option Alternate → List LaidDef
choice_defs i c None = []
choice_defs i c (Some a) = plain (choice_decl i c a) ∷ plain (alternate_rule i c a) ∷ whole (usual_rule i c a) ∷ []

-- ---- instructions

-- the definitions of a constructor, with those of the alternate behind them
abbrev pub constructor_defs : Inst → Constructor → List LaidDef
constructor_defs i c = plain (made_decl i c) ∷ plain (made_rule i c) ∷ choice_defs i c i.alternate

-- the definitions of an instruction; one that is left out has none
abbrev pub row_defs : Inst → List LaidDef
row_defs i = if is_left_out i then [] else plain (raw_decl i) ∷ plain (raw_maker i) ∷ flat_map (constructor_defs i) (constructors i)

-- the rules of an assembler of these instructions, by which of them show a priority 0
abbrev pub assembler_layout : List Inst → List LaidDef
assembler_layout is = map plain head_defs ++ flat_map row_defs is

-- the rules alone
abbrev pub assembler_defs : List Inst → List Def
assembler_defs is = laid_defs (assembler_layout is)
