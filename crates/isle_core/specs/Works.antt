-- What flat rules of a `multi` term add, one after the other, each with the lists over whose items its choices go.
use Rattle.std.specs.Prelude.{List, [], ◌∷◌}
use Rattle.isle_core.specs.declared.rule_sets.FlatRule.{FlatRule}
use Rattle.isle_core.specs.Choices.{each_choice, flat_adds}
use Rattle.isle_core.specs.Meaning.{Meaning}
use Rattle.isle_core.specs.Pairs.{Placed}
use Rattle.isle_core.specs.Parts.{Given}
use Rattle.isle_core.specs.Path.{Path}
use Rattle.isle_core.specs.Rule.{Environment}
use Rattle.isle_core.specs.Value.{Value}
use Rattle.isle_core.specs.ValueAt.{nothing_known}

-- a flat rule, the rule for which it stands, and the lists in an order
pub record Work : Type 0 where
  pub of : Placed
  pub flat : FlatRule
  pub lists : List Path

-- what they add if the bindings have these paths
abbrev pub works_add : Environment → Meaning → List Value → List Path → List Work → Given → Given
works_add env m args ps [] g = g
works_add env m args ps (w ∷ ws) g = works_add env m args ps ws (each_choice env m args w.lists nothing_known g (flat_adds env m args ps w.flat))
