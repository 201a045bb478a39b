-- Steps in which code gathers the order of a rule's variables.
use Rattle.std.proofs.Common.{◌≡◌, ℕ, List, [], ◌∷◌, ◌++◌, fold, flat_map, refl, sym, ap, ◌∙◌}
use Rattle.std.proofs.lemmas.List.Sums.{fold-append}
use Rattle.isle_core.specs.Pattern.{Pattern}
use Rattle.isle_core.specs.Rule.{Rule}
use Rattle.isle_core.specs.RuleViews.{patterns_of}
use Rattle.isle_templates.specs.Renumbered.{pattern_variables, patterns_variables, condition_variables, bound_in, joined, order_of}

-- the variables of patterns one by one
patterns_each : (ps : List Pattern) → patterns_variables (patterns_of ps) ≡ flat_map pattern_variables ps
patterns_each [] = refl
patterns_each (p ∷ ps) = ap (λ xs. pattern_variables p ++ xs) (patterns_each ps)

-- those of the arguments, of the conditions and of the right side
pub order_joined : (r : Rule) (first second third : List ℕ) → first ≡ fold joined [] (patterns_variables (patterns_of r.args)) → second ≡ fold joined first (flat_map condition_variables r.iflets) → third ≡ fold joined second (bound_in r.rhs) → third ≡ order_of r
order_joined r first second third e f g =
    let args = flat_map pattern_variables r.args in
    let conditions = flat_map condition_variables r.iflets in
    g
    ∙ ap (λ o. fold joined o (bound_in r.rhs)) (f ∙ ap (λ o. fold joined o conditions) (e ∙ ap (fold joined []) (patterns_each r.args)) ∙ sym (fold-append joined [] args conditions))
    ∙ sym (fold-append joined [] (args ++ conditions) (bound_in r.rhs))
