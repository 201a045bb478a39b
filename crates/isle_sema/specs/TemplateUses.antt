-- Which templates a template uses, by its pattern as it is written.
use Rattle.std.specs.Prelude.{ℕ, List, [], ◌++◌, map, Option, Some, None, option_to_list, option_map}
use Rattle.isle_core.specs.declared.TermId.{TermId}
use Rattle.isle_core.specs.declared.TypeId.{TypeId}
use Rattle.isle_ast.specs.Tree as tree
use Rattle.isle_ast.specs.Tree.{Pattern, Patterns, NoPattern, APattern}
use Rattle.isle_declarations.specs.Signatures.{Signature, Extracting, ByFunction, ByTemplate, ExtractorDef, extractors, extractor_named, term_named}
use Rattle.isle_declarations.specs.Terms.{terms}
use Rattle.isle_terms.specs.Converters.{conversion}
use Rattle.isle_terms.specs.Whole.{Whole, termed, arg_types, ret_type}
use Rattle.isle_sema.specs.PatternPass.{first_expected, later_expected, of_each}

-- the number of a term that takes values apart so, if it does so by a template
abbrev pub templated_by : Whole → (term : List ℕ) → Extracting → List ℕ
templated_by w term (ByFunction func infallible) = []
templated_by w term (ByTemplate t) = option_to_list (option_map (λ (n : TermId). n.0) (term_named (terms w.defs) term))

-- so of a term with this extractor
abbrev pub templated_with : Whole → (term : List ℕ) → Option ExtractorDef → List ℕ
templated_with w term None = []
templated_with w term (Some x) = templated_by w term x.by

-- the number of a term that has a template
abbrev pub templated : Whole → Option Signature → List ℕ
templated w None = []
templated w (Some s) = templated_with w s.term (extractor_named (extractors w.defs) s.term)

-- the terms with templates that a pattern uses where this type is expected, from left to right: a converter stands before the term that it is
-- around, and a term before its parts
abbrev mutual
  pub uses_in : Whole → Option TypeId → Pattern → List ℕ
  uses_in w expected (tree.Int n) = []
  uses_in w expected (tree.Truth b) = []
  uses_in w expected tree.Wildcard = []
  uses_in w expected (tree.Var name) = []
  uses_in w expected (tree.Const name) = []
  uses_in w expected (tree.Term name ps) = templated w (conversion w (ret_type w (termed w name)) expected) ++ (templated w (termed w name) ++ all_uses_in w (arg_types w (termed w name)) ps)
  uses_in w expected (tree.Bind name p) = uses_in w expected p
  uses_in w expected (tree.And ps) = all_uses_in w (of_each expected ps) ps

  -- so of patterns where these are expected, beyond them nothing
  pub all_uses_in : Whole → List (Option TypeId) → Patterns → List ℕ
  all_uses_in w expected NoPattern = []
  all_uses_in w expected (APattern p ps) = uses_in w (first_expected expected) p ++ all_uses_in w (later_expected expected) ps

-- the terms with templates that a term's extractor uses
abbrev pub used_through : Whole → (term : List ℕ) → Extracting → List ℕ
used_through w term (ByFunction func infallible) = []
used_through w term (ByTemplate t) = uses_in w (ret_type w (termed w term)) t.pattern

-- so of the extractor of a term
abbrev pub used_of : Whole → Signature → Option ExtractorDef → List ℕ
used_of w s None = []
used_of w s (Some x) = used_through w s.term x.by

-- for each term those that its template uses
abbrev pub template_uses : Whole → List (List ℕ)
template_uses w = map (λ (s : Signature). used_of w s (extractor_named (extractors w.defs) s.term)) (terms w.defs)
