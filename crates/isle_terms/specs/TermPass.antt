-- The terms that definitions give, if all of their types are declared.
use Rattle.std.specs.Prelude.{ℕ, List, [], ◌∷◌, Bool, true, false, Option, Some, None, option_map, option_and_then}
use Rattle.isle_core.specs.declared.TypeId.{TypeId}
use Rattle.isle_core.specs.declared.types.Term.{Term}
use Rattle.isle_core.specs.declared.types.TermKind.{TermKind}
use Rattle.isle_core.specs.declared.types.TermKind.TheVariants as kind
use Rattle.isle_core.specs.declared.types.ConstructorKind.{ConstructorKind}
use Rattle.isle_core.specs.declared.types.ConstructorKind.TheVariants as constructor
use Rattle.isle_core.specs.declared.types.ExtractorKind.{ExtractorKind}
use Rattle.isle_core.specs.declared.types.ExtractorKind.TheVariants as extractor
use Rattle.isle_ast.specs.Tree.{Def}
use Rattle.isle_declarations.specs.declared.terms.Origin.{Origin}
use Rattle.isle_declarations.specs.declared.terms.Origin.TheVariants as origin
use Rattle.isle_declarations.specs.Symbols.{sym_of}
use Rattle.isle_declarations.specs.Signatures.{Signature, Extracting, ByFunction, ByTemplate, ExtractorDef, externs, extractors, rule_defs, func_named, extractor_named, has_rule}
use Rattle.isle_terms.specs.TypeNames.{type_named}
use Rattle.isle_terms.specs.Whole.{Whole}

-- a thing before others, if all are there
abbrev pub tree_before : {X : Type 0} → Option X → Option (List X) → Option (List X)
tree_before None xs = None
tree_before (Some x) xs = option_map (λ (others : List _). x ∷ others) xs

-- the types of names, if all are declared
abbrev pub types_named : List Def → List (List ℕ) → Option (List TypeId)
types_named defs [] = Some []
types_named defs (name ∷ names) = tree_before (type_named defs name) (types_named defs names)

-- a term comes from its external constructor, or else from its rules, if it has some
abbrev pub constructor_of : List (List ℕ) → Option (List ℕ) → Bool → ConstructorKind
constructor_of syms (Some func) has_rule = constructor.External (sym_of syms func)
constructor_of syms None true = constructor.Internal
constructor_of syms None false = constructor.Absent

-- what a term of this name comes from
abbrev pub constructor_named : Whole → List ℕ → ConstructorKind
constructor_named w name = constructor_of w.types.syms (func_named (externs w.defs) name) (has_rule (rule_defs w.defs) name)

-- a term is taken apart by the function or by the template of its extractor
abbrev pub extractor_by : List (List ℕ) → Extracting → ExtractorKind
extractor_by syms (ByFunction func infallible) = extractor.External (sym_of syms func) infallible
extractor_by syms (ByTemplate template) = extractor.Internal

-- so if it has one
abbrev pub extractor_from : List (List ℕ) → Option ExtractorDef → ExtractorKind
extractor_from syms None = extractor.Absent
extractor_from syms (Some x) = extractor_by syms x.by

-- what a term of this name is taken apart by
abbrev pub extracting_named : Whole → List ℕ → ExtractorKind
extracting_named w name = extractor_from w.types.syms (extractor_named (extractors w.defs) name)

-- what a term is that gives this type
abbrev pub kind_from : Whole → Signature → TypeId → Origin → TermKind
kind_from w s ret origin.Declared = kind.Decl s.pure s.multi s.partial s.recursive (constructor_named w s.term) (extracting_named w s.term)
kind_from w s ret (origin.Variant number) = kind.Variant ret (record { 0 = number })
kind_from w s ret origin.Struct = kind.Struct ret

-- the term on arguments of these types
abbrev pub term_from : Whole → Signature → List TypeId → TypeId → Term
term_from w s args ret = record {
  name = sym_of w.types.syms s.term;
  decl_pos = s.pos;
  arg_tys = args;
  ret_ty = ret;
  kind = kind_from w s ret s.origin;
}

-- the term, if its types are declared
abbrev pub term_pass : Whole → Signature → Option Term
term_pass w s = option_and_then (λ (args : List TypeId). option_map (term_from w s args) (type_named w.defs s.ret)) (types_named w.defs s.args)

-- terms in order
abbrev pub terms_pass : Whole → List Signature → Option (List Term)
terms_pass w [] = Some []
terms_pass w (s ∷ sigs) = tree_before (term_pass w s) (terms_pass w sigs)
