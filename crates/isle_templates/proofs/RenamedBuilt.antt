-- A built pattern with new numbers for its variables is built, and has the variables that it had, under their new numbers.
use Rattle.std.proofs.Common.{◌≡◌, ℕ, List, ◌∷◌, ◌++◌, suc, map, refl, ap, ◌∙◌, sym, subst, ◌≤◌}
use Rattle.std.proofs.lemmas.List.{map-append}
use Rattle.isle_base.specs.declared.ids.TypeId.{TypeId}
use Rattle.isle_core.specs.declared.types.Term.{Term}
use Rattle.isle_core.specs.BuiltRule.{IsBuiltPattern, AreBuiltPatterns, count}
use Rattle.isle_core.specs.Pattern as pattern
use Rattle.isle_core.specs.Pattern.{Pattern, Patterns, NoPattern, APattern}
use Rattle.isle_core.specs.TypedVariables.{typed_variables, typed_within}
use Rattle.isle_templates.specs.Renumbered.{place_of, number_or, renamed, all_renamed}

-- as many patterns as before
renamed_count : (order : List ℕ) (ps : Patterns) → count (all_renamed order ps) ≡ count ps
renamed_count order NoPattern = refl
renamed_count order (APattern p ps) = ap suc (renamed_count order ps)

module _ (terms : List Term) (order : List ℕ) where
  mutual
    pub renamed_built : (p : Pattern) → IsBuiltPattern terms p → IsBuiltPattern terms (renamed order p)
    renamed_built (pattern.Var of x) h = h
    renamed_built (pattern.ConstBool b) h = h
    renamed_built (pattern.ConstInt of n) h = h
    renamed_built (pattern.ConstPrim of name) h = h
    renamed_built (pattern.Wildcard of) h = h
    renamed_built (pattern.Term of term ps) h = (h.0, subst (λ n. n ≤ 256) (sym (renamed_count order ps)) h.1, parts_built ps h.2)
    renamed_built (pattern.And of ps) h = parts_built ps h
    renamed_built (pattern.BindPattern of x p) h = renamed_built p h

    parts_built : (ps : Patterns) → AreBuiltPatterns terms ps → AreBuiltPatterns terms (all_renamed order ps)
    parts_built NoPattern h = tt
    parts_built (APattern p ps) h = (renamed_built p h.0, parts_built ps h.1)

-- a variable with its type under its new number
abbrev pub new_variable : List ℕ → TypeId × ℕ → TypeId × ℕ
new_variable order v = (v.0, number_or v.1 (place_of order v.1))

module _ (order : List ℕ) where
  mutual
    pub renamed_variables : (p : Pattern) → typed_variables (renamed order p) ≡ map (new_variable order) (typed_variables p)
    renamed_variables (pattern.Var of x) = refl
    renamed_variables (pattern.ConstBool b) = refl
    renamed_variables (pattern.ConstInt of n) = refl
    renamed_variables (pattern.ConstPrim of name) = refl
    renamed_variables (pattern.Wildcard of) = refl
    renamed_variables (pattern.Term of term ps) = parts_variables ps
    renamed_variables (pattern.And of ps) = parts_variables ps
    renamed_variables (pattern.BindPattern of x p) = ap (λ vs. new_variable order (of, x.0) ∷ vs) (renamed_variables p)

    parts_variables : (ps : Patterns) → typed_within (all_renamed order ps) ≡ map (new_variable order) (typed_within ps)
    parts_variables NoPattern = refl
    parts_variables (APattern p ps) =
        ap (λ vs. vs ++ typed_within (all_renamed order ps)) (renamed_variables p)
        ∙ ap (λ vs. map (new_variable order) (typed_variables p) ++ vs) (parts_variables ps)
        ∙ sym (map-append (new_variable order) (typed_variables p) (typed_within ps))
