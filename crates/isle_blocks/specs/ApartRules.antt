-- When no two rules of one priority hold.
use Rattle.std.specs.Prelude.{◌≡◌, List, true, Contains}
use Rattle.isle_core.specs.declared.rule_sets.FlatRule.{FlatRule}
use Rattle.isle_core.specs.declared.rule_sets.RuleSet.{RuleSet}
use Rattle.isle_core.specs.Meaning.{Meaning}
use Rattle.isle_core.specs.Path.{paths_of}
use Rattle.isle_core.specs.Rule.{Environment}
use Rattle.isle_core.specs.RuleSet.{flat_holds}
use Rattle.isle_core.specs.Value.{Value}

-- two rules of the set that hold and have one priority are one
abbrev pub AreRulesApart : Environment → Meaning → List Value → RuleSet → Type 0
AreRulesApart env m args s =
    (f g : FlatRule) → Contains s.rules f → Contains s.rules g → flat_holds env m args (paths_of s.bindings) f ≡ true
    → flat_holds env m args (paths_of s.bindings) g ≡ true → f.prio ≡ g.prio → f ≡ g
