-- The Returns of a block that stands for rules have the positions of rules.
use Rattle.std.proofs.Common.{◌≡◌, ℕ, ◌+◌, List, [], ◌∷◌, map, refl, ap, ◌∙◌, subst}
use Rattle.std.specs.Prelude.{Contains}
use Rattle.std.specs.List.{AllByRecursion}
use Rattle.isle_core.specs.declared.position.Pos.{Pos}
use Rattle.isle_core.specs.declared.rule_sets.FlatRule.{FlatRule}
use Rattle.isle_core.specs.Calling.{impure}
use Rattle.isle_core.specs.Path.{Path}
use Rattle.isle_core.specs.ReturnPositions.{ArePositionsOf}
use Rattle.isle_core.specs.Rule.{Environment, Rule}
use Rattle.isle_core.specs.StandsFor.{AreFlat}

same_positions : (env : Environment) (ps : List Path) (rs : List Rule) (fs : List FlatRule) (n : ℕ) → AreFlat env ps rs n fs → map (λ (f : FlatRule). f.pos) fs ≡ map (λ (r : Rule). r.pos) rs
same_positions env ps [] [] n h = refl
same_positions env ps (r ∷ rs) (f ∷ fs) n h = ap (λ pos. pos ∷ map (λ (g : FlatRule). g.pos) fs) h.0.pos ∙ ap (λ qs. r.pos ∷ qs) (same_positions env ps rs fs (n + impure env r.rhs) h.1)
same_positions env ps [] (f ∷ fs) n h = absurd h
same_positions env ps (r ∷ rs) [] n h = absurd h

-- positions of the rules of a set are those of the rules for which it stands
pub returns_of_rules : (env : Environment) (ps : List Path) (rs : List Rule) (fs : List FlatRule) (n : ℕ) (returns : List Pos) → AreFlat env ps rs n fs → ArePositionsOf fs returns → AllByRecursion (Contains (map (λ (r : Rule). r.pos) rs)) returns
returns_of_rules env ps rs fs n returns h k = subst (λ qs. AllByRecursion (Contains qs) returns) (same_positions env ps rs fs n h) k
