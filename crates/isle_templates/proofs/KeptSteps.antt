-- Steps in which code keeps templates.
use Rattle.std.proofs.Common.{◌≡◌, List, Option, None, refl, ap, ◌∙◌}
use Rattle.isle_base.specs.declared.ids.TermId.{TermId}
use Rattle.isle_core.specs.Pattern as pattern
use Rattle.isle_core.specs.Pattern.{Pattern, Patterns, NoPattern, APattern}
use Rattle.isle_core.specs.RuleViews.{patterns_of}
use Rattle.isle_templates.specs.Substituted.{expanded, all_expanded, opened, template_of}

-- where no term has a template, a pattern is as it was

module _ (none : List (Option Pattern)) (all : (term : TermId) → template_of none term ≡ None) where
  mutual
    pub not_replaced : (p : Pattern) → expanded none p ≡ p
    not_replaced (pattern.BindPattern ty x p) = ap (pattern.BindPattern ty x) (not_replaced p)
    not_replaced (pattern.Var ty x) = refl
    not_replaced (pattern.ConstBool b) = refl
    not_replaced (pattern.ConstInt ty n) = refl
    not_replaced (pattern.ConstPrim ty name) = refl
    not_replaced (pattern.Term ty term ps) = ap (λ o. opened o ty term (all_expanded none ps)) (all term) ∙ ap (pattern.Term ty term) (none_replaced ps)
    not_replaced (pattern.Wildcard ty) = refl
    not_replaced (pattern.And ty ps) = ap (pattern.And ty) (none_replaced ps)

    none_replaced : (ps : Patterns) → patterns_of (all_expanded none ps) ≡ ps
    none_replaced NoPattern = refl
    none_replaced (APattern p ps) = ap (λ q. APattern q (patterns_of (all_expanded none ps))) (not_replaced p) ∙ ap (APattern p) (none_replaced ps)
