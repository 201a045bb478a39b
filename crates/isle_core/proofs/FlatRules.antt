-- The rule for which a flat rule of a set stands.
use Rattle.std.proofs.Common.{◌≡◌, ⊎_elim, ℕ, ◌+◌, List, [], ◌∷◌, subst}
use Rattle.std.specs.Prelude.{Contains}
use Rattle.isle_core.specs.declared.rule_sets.FlatRule.{FlatRule}
use Rattle.isle_core.specs.Calling.{impure}
use Rattle.isle_core.specs.Path.{Path}
use Rattle.isle_core.specs.Rule.{Environment, Rule}
use Rattle.isle_core.specs.RuleSet.{flat_tests}
use Rattle.isle_core.specs.StandsFor.{AreFlat}
use Rattle.isle_core.specs.Tests.{Test, rule_tests}
use Rattle.isle_core.proofs.Contained.{head_contained, tail_contained, contained_cases, none_contained}

-- a rule that has its tests
pub record HasRule (env : Environment) (ps : List Path) (rs : List Rule) (f : FlatRule) : Type 0 where
  pub rule : Rule
  pub there : Contains rs rule
  pub tests : (t : Test) → Contains (flat_tests ps f) t → Contains (rule_tests env rule) t

pub flat_rule : (env : Environment) (ps : List Path) (rs : List Rule) (fs : List FlatRule) (n : ℕ) (f : FlatRule) → AreFlat env ps rs n fs → Contains fs f → HasRule env ps rs f
flat_rule env ps [] [] n f h c = absurd (none_contained f c)
flat_rule env ps (r ∷ rs) (g ∷ fs) n f h c =
    ⊎_elim
    (λ (e : g ≡ f). subst (HasRule env ps (r ∷ rs)) e (record { rule = r; there = head_contained r rs; tests = λ t k. (h.0.no_other t k).0 }))
    (λ d. let k = flat_rule env ps rs fs (n + impure env r.rhs) f h.1 d in record { rule = k.rule; there = tail_contained r rs k.rule k.there; tests = k.tests })
    (contained_cases g fs f c)
flat_rule env ps [] (g ∷ fs) n f h c = absurd h
flat_rule env ps (r ∷ rs) [] n f h c = absurd h
