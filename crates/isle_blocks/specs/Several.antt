-- What the block of a term that answers several times gives.
use Rattle.std.specs.Prelude.{List, map}
use Rattle.std.specs.List.{AllByRecursion}
use Rattle.isle_core.specs.declared.BindingId.{BindingId}
use Rattle.isle_core.specs.declared.TypeId.{TypeId}
use Rattle.isle_core.specs.declared.rule_sets.Constraint.{Constraint}
use Rattle.isle_core.specs.declared.rule_sets.FlatRule.{FlatRule}
use Rattle.isle_core.specs.declared.rule_sets.RuleSet.{RuleSet}
use Rattle.isle_core.specs.Block.{Block}
use Rattle.isle_core.specs.ListOrder.{ListsWithin}
use Rattle.isle_core.specs.Meaning.{Meaning}
use Rattle.isle_core.specs.Pairs.{PrescribesSeveral}
use Rattle.isle_core.specs.Path.{Path, at, paths_of}
use Rattle.isle_core.specs.Rule.{Environment, Rule}
use Rattle.isle_core.specs.Served.{IsServedSet}
use Rattle.isle_core.specs.SeveralRun.{several_outcome}
use Rattle.isle_core.specs.Value.{Value}
use Rattle.isle_blocks.specs.CallsOnce.{HasCallsOnce}

-- the lists whose items are read in a rule, and those within them, are its lists; and its ordered calls are called once
pub record HasItsLists (env : Environment) (ps : List Path) (f : FlatRule) : Type 0 where
  pub tests : AllByRecursion (λ (c : BindingId × Constraint). ListsWithin (map (at ps) f.iterators) (at ps c.0)) f.constraints
  pub equals : AllByRecursion (λ (e : BindingId × BindingId). ListsWithin (map (at ps) f.iterators) (at ps e.0) × ListsWithin (map (at ps) f.iterators) (at ps e.1)) f.equals
  pub lists : AllByRecursion (λ (l : BindingId). ListsWithin (map (at ps) f.iterators) (at ps l)) f.iterators
  pub calls : AllByRecursion (λ (c : BindingId). ListsWithin (map (at ps) f.iterators) (at ps c)) f.ordered
  pub result : ListsWithin (map (at ps) f.iterators) (at ps f.result)
  pub ordered : HasCallsOnce env ps f

-- the block gives what checked rules prescribe for which the set stands: the parts of one list that holds each pair of rule and choice once
abbrev pub GivesSeveral : Environment → RuleSet → Block → Type 0
GivesSeveral env s b =
    (m : Meaning) (args : List Value) (tys : List TypeId) (rules : List Rule) → IsServedSet env m args tys s rules
    → PrescribesSeveral env m args rules (several_outcome env m args (paths_of s.bindings) b)
