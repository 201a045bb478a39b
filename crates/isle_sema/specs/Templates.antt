-- The templates of internal extractors, with types in them.
use Rattle.std.specs.Prelude.{ℕ, List, [], ◌∷◌, map, Bool, true, Option, None, is_some, option_and_then}
use Rattle.std.specs.List.{list_all}
use Rattle.isle_core.specs.declared.TypeId.{TypeId}
use Rattle.isle_core.specs.Pattern.{Pattern as CorePattern}
use Rattle.isle_declarations.specs.Signatures.{Signature, Template, Extracting, ByFunction, ByTemplate, ExtractorDef, extractors, extractor_named}
use Rattle.isle_declarations.specs.Terms.{terms}
use Rattle.isle_sema.specs.PatternPass.{PatternPass, first_expected, later_expected, pattern_pass}
use Rattle.isle_terms.specs.Scope.{Scope, no_variables, met}
use Rattle.isle_terms.specs.Whole.{Whole, termed, arg_types, ret_type}

-- variables and these parameters, each met where the type of its argument is expected
abbrev pub params_met : Scope → List (List ℕ) → List (Option TypeId) → Scope
params_met scope [] types = scope
params_met scope (param ∷ params) types = params_met (met scope param (first_expected types)) params (later_expected types)

-- the variables of a term's template: its parameters, which are numbered by their places
abbrev pub parameters : Whole → (term : List ℕ) → List (List ℕ) → Scope
parameters w term params = params_met no_variables params (arg_types w (termed w term))

-- the pattern of a term's template, at the type that the term gives, over its parameters
abbrev pub template_pass : Whole → (term : List ℕ) → Template → PatternPass
template_pass w term t = pattern_pass w (ret_type w (termed w term)) (parameters w term t.params) t.pattern

-- the tree of a template, if the extractor has one and its types are known
abbrev pub template_tree : Whole → (term : List ℕ) → Extracting → Option CorePattern
template_tree w term (ByFunction func infallible) = None
template_tree w term (ByTemplate t) = (template_pass w term t).tree

-- a template has a tree
abbrev pub is_treed : Whole → (term : List ℕ) → Extracting → Bool
is_treed w term (ByFunction func infallible) = true
is_treed w term (ByTemplate t) = is_some (template_pass w term t).tree

-- so if the extractor has one
abbrev pub has_tree : Whole → ExtractorDef → Bool
has_tree w x = is_treed w x.term x.by

-- the template of a term
abbrev pub template_for : Whole → Signature → Option CorePattern
template_for w s = option_and_then (λ (x : ExtractorDef). template_tree w s.term x.by) (extractor_named (extractors w.defs) s.term)

-- for each term its template
abbrev pub templates : Whole → List (Option CorePattern)
templates w = map (template_for w) (terms w.defs)

-- each template has a tree
abbrev pub are_treed : Whole → Bool
are_treed w = list_all (has_tree w) (extractors w.defs)
