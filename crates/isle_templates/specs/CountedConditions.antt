-- Conditions whose nodes are counted, up to as many as a rule may have.
use Rattle.std.specs.Prelude.{◌≡◌, ◌<◌, ◌+◌, ℕ, Bool, true, false, List, map, Option, Some, None}
use Rattle.isle_core.specs.Rule.{IfLet}
use Rattle.isle_core.specs.RuleViews.{iflet}
use Rattle.isle_templates.specs.declared.counted.Conditions.{Conditions}
use Rattle.isle_templates.specs.NodeCount.{condition_nodes, total}

-- these conditions, with so many nodes beside theirs
abbrev pub AreConditions : (base : ℕ) → List IfLet → Conditions → Type 0
AreConditions base cs conditions = (map iflet conditions.iflets.items ≡ cs) × (conditions.nodes ≡ base + total (map condition_nodes cs))

-- these conditions; or they are refused, since there would be more nodes than a rule may have
abbrev pub AreConditionsTaken : Bool → (base : ℕ) → List IfLet → Conditions → Type 0
AreConditionsTaken true base cs conditions = AreConditions base cs conditions
AreConditionsTaken false base cs conditions = 4096 < base + total (map condition_nodes cs)

-- these conditions; or there are none, since there are more nodes than a rule may have
abbrev pub AreConditionsCounted : (base : ℕ) → List IfLet → Option Conditions → Type 0
AreConditionsCounted base cs None = 4096 < base + total (map condition_nodes cs)
AreConditionsCounted base cs (Some conditions) = AreConditions base cs conditions
