-- The first of the terms that are left and have a name.
use Rattle.std.proofs.Common.{◌≡◌, ℕ, ◌+◌, ◌<◌, List, ◌∷◌, length, drop, get_or, map, Bool, cond, Option, Some, sym, ap, ◌∙◌}
use Rattle.std.proofs.lemmas.List.{drop_more}
use Rattle.std.specs.List.{find}
use Rattle.std.specs.Str.{bytes_eq}
use Rattle.isle_core.specs.declared.TermId.{TermId}
use Rattle.isle_core.specs.declared.rule_sets.RuleSet.{RuleSet}
use Rattle.isle_core.specs.Terms.{term_name}
use Rattle.isle_core.specs.Rule.{Environment}

-- the first of those from the i-th on
abbrev pub first_named : Environment → List ℕ → ℕ → List (TermId × RuleSet) → Option TermId
first_named env name i terms = find (λ (id : TermId). bytes_eq name (term_name env id)) (map (λ (t : TermId × RuleSet). t.0) (drop i terms))

pub first_more : (env : Environment) (name : List ℕ) (terms : List (TermId × RuleSet)) (i : ℕ) (t : TermId × RuleSet) (b : Bool) → i < length terms → t ≡ get_or terms i t → b ≡ bytes_eq name (term_name env t.0)
    → cond b (Some t.0) (first_named env name (i + 1) terms) ≡ first_named env name i terms
first_more env name terms i t b lt is e =
    ap (λ x. cond x (Some t.0) (first_named env name (i + 1) terms)) e
    ∙ ap (λ xs. find (λ (id : TermId). bytes_eq name (term_name env id)) (map (λ (x : TermId × RuleSet). x.0) xs)) (sym (drop_more terms i t lt ∙ ap (λ x. x ∷ drop (i + 1) terms) (sym is)))
