-- Patterns of rules from left to right: the expected type and the variables so far go in; the tree with types in it, the
-- variables after it and the places that the typing table judges come out.
use Rattle.std.specs.Prelude.{ℕ, suc, ℤ, List, [], ◌∷◌, ◌++◌, true, Option, Some, None, if◌then◌else◌, option_map, option_and_then}
use Rattle.isle_core.specs.declared.TermId.{TermId}
use Rattle.isle_core.specs.declared.TypeId.{TypeId}
use Rattle.isle_core.specs.declared.VarId.{VarId}
use Rattle.isle_core.specs.declared.types.TypeEnv.{TypeEnv}
use Rattle.isle_core.specs.Pattern as core_pattern
use Rattle.isle_core.specs.Pattern.{Pattern as CorePattern}
use Rattle.isle_core.specs.RuleViews.{patterns_of as core_patterns}
use Rattle.isle_ast.specs.Tree as tree
use Rattle.isle_ast.specs.Tree.{Pattern, Patterns, NoPattern, APattern}
use Rattle.isle_declarations.specs.Signatures.{Signature, term_named}
use Rattle.isle_declarations.specs.Symbols.{sym_of}
use Rattle.isle_declarations.specs.Terms.{terms}
use Rattle.isle_terms.specs.Reduced.{typed_integer}
use Rattle.isle_terms.specs.Scope.{Scope, is_blank, bound_at, met, variable}
use Rattle.isle_sema.specs.Site.{Site, IntegerAt, TruthAt, PartAt, MetAt, TakenAt, ConstantAt}
use Rattle.isle_terms.specs.Converters.{conversion, within}
use Rattle.isle_terms.specs.TermPass.{tree_before}
use Rattle.isle_terms.specs.Whole.{Whole, termed, arg_types, ret_type, number_of, constant_type}

-- a pattern's tree, if its types are known; the variables after it; and its parts
pub record PatternPass : Type 0 where
  pub tree : Option CorePattern
  pub scope : Scope
  pub sites : List Site

-- an integer's tree, where this type is expected
abbrev pub integer_tree : TypeEnv → Option TypeId → ℤ → Option CorePattern
integer_tree types expected n = option_map (λ (v : TypeId × ℤ). core_pattern.ConstInt v.0 v.1) (typed_integer types expected n)

-- a variable's tree, if it is bound at a type that is known
abbrev pub variable_tree : Scope → List ℕ → Option CorePattern
variable_tree scope name = option_map (λ (v : TypeId × VarId). core_pattern.Var v.0 v.1) (variable scope name)

-- a constant's tree, if it is declared
abbrev pub constant_tree : TypeEnv → Option TypeId → List ℕ → Option CorePattern
constant_tree types ty name = option_map (λ (t : TypeId). core_pattern.ConstPrim t (sym_of types.syms name)) ty

-- a made term's tree, of this type, of this term, on these
abbrev pub term_tree : Option TypeId → Option TermId → Option (List CorePattern) → Option CorePattern
term_tree ty term ps = option_and_then (λ (t : TypeId). option_and_then (λ (n : TermId). option_map (λ (parts : List CorePattern). core_pattern.Term t n (core_patterns parts)) ps) term) ty

-- the tree of a pattern within a converter, if one is inserted
abbrev pub pattern_within : Whole → Option Signature → Option CorePattern → Option CorePattern
pattern_within w None p = p
pattern_within w (Some s) p = term_tree (ret_type w (Some s)) (number_of w (Some s)) (option_map (λ (q : CorePattern). q ∷ []) p)

-- what is judged of the converter
abbrev pub taken_by : Option Signature → Option TypeId → List Site
taken_by None expected = []
taken_by (Some s) expected = TakenAt expected (Some s) 1 ∷ []

-- the tree of `and`, of the type that is expected of each part
abbrev pub and_tree : Option TypeId → Option (List CorePattern) → Option CorePattern
and_tree expected ps = option_and_then (λ (t : TypeId). option_map (λ (parts : List CorePattern). core_pattern.And t (core_patterns parts)) ps) expected

-- the variables after the name of `@`
abbrev pub named : Scope → List ℕ → Option TypeId → Scope
named scope name expected = if is_blank name then scope else met scope name expected

-- what is judged of it
abbrev pub named_sites : Scope → List ℕ → Option TypeId → List Site
named_sites scope name expected = if is_blank name then [] else MetAt expected (bound_at scope name) ∷ []

-- the tree of a variable at a pattern, if both are there
abbrev pub bound_tree : Option (TypeId × VarId) → Option CorePattern → Option CorePattern
bound_tree v p = option_and_then (λ (b : TypeId × VarId). option_map (core_pattern.BindPattern b.0 b.1) p) v

-- the tree of `@`; after `_` it is that of the pattern
abbrev pub named_tree : Scope → List ℕ → Option CorePattern → Option CorePattern
named_tree scope name p = if is_blank name then p else bound_tree (variable scope name) p

-- patterns in order
pub record PatternsPass : Type 0 where
  pub trees : Option (List CorePattern)
  pub scope : Scope
  pub sites : List Site

-- the type that is expected of the first
abbrev pub first_expected : List (Option TypeId) → Option TypeId
first_expected [] = None
first_expected (ty ∷ tys) = ty

-- those that are expected of the others
abbrev pub later_expected : List (Option TypeId) → List (Option TypeId)
later_expected [] = []
later_expected (ty ∷ tys) = tys

-- how many patterns there are
abbrev pub count_of : Patterns → ℕ
count_of NoPattern = 0
count_of (APattern p ps) = suc (count_of ps)

-- what is expected of each of several patterns on one value
abbrev pub of_each : Option TypeId → Patterns → List (Option TypeId)
of_each expected NoPattern = []
of_each expected (APattern p ps) = expected ∷ of_each expected ps

-- a pattern where this is expected; a variable has the type that it was bound at, a term that which it makes, within a converter if
-- another one is expected and a converter fits, and `@` and `and` hand theirs on
abbrev mutual
  pub pattern_pass : Whole → Option TypeId → Scope → Pattern → PatternPass
  pattern_pass w expected scope (tree.Int n) = record { tree = integer_tree w.types expected n; scope = scope; sites = IntegerAt expected ∷ [] }
  pattern_pass w expected scope (tree.Truth b) = record { tree = Some (core_pattern.ConstBool b); scope = scope; sites = TruthAt expected ∷ [] }
  pattern_pass w expected scope tree.Wildcard = record { tree = option_map core_pattern.Wildcard expected; scope = scope; sites = PartAt ∷ [] }
  pattern_pass w expected scope (tree.Var name) = record { tree = variable_tree (met scope name expected) name; scope = met scope name expected; sites = MetAt expected (bound_at scope name) ∷ [] }
  pattern_pass w expected scope (tree.Const name) = record { tree = constant_tree w.types (constant_type w name) name; scope = scope; sites = ConstantAt true expected (constant_type w name) ∷ [] }
  pattern_pass w expected scope (tree.Term name ps) =
      let of = ret_type w (termed w name) in
      let by = conversion w of expected in
      let parts = patterns_pass w (arg_types w (termed w name)) scope ps in
      record {
        tree = pattern_within w by (term_tree of (term_named (terms w.defs) name) parts.trees);
        scope = parts.scope;
        sites = taken_by by expected ++ TakenAt (within by of expected) (termed w name) (count_of ps) ∷ parts.sites;
      }
  pattern_pass w expected scope (tree.Bind name p) =
      let inner = pattern_pass w expected (named scope name expected) p in
      record { tree = named_tree (named scope name expected) name inner.tree; scope = inner.scope; sites = named_sites scope name expected ++ inner.sites }
  pattern_pass w expected scope (tree.And ps) =
      let parts = patterns_pass w (of_each expected ps) scope ps in
      record { tree = and_tree expected parts.trees; scope = parts.scope; sites = PartAt ∷ parts.sites }

  -- patterns where these are expected, beyond them nothing
  pub patterns_pass : Whole → List (Option TypeId) → Scope → Patterns → PatternsPass
  patterns_pass w expected scope NoPattern = record { trees = Some []; scope = scope; sites = [] }
  patterns_pass w expected scope (APattern p ps) =
      let first = pattern_pass w (first_expected expected) scope p in
      let rest = patterns_pass w (later_expected expected) first.scope ps in
      record { trees = tree_before first.tree rest.trees; scope = rest.scope; sites = first.sites ++ rest.sites }
