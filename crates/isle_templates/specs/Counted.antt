-- Patterns whose nodes are counted, up to as many as a rule may have.
use Rattle.std.specs.Prelude.{◌≡◌, ◌<◌, ◌+◌, ℕ, Bool, true, false, List, map, Option, Some, None}
use Rattle.isle_core.specs.Pattern.{Pattern}
use Rattle.isle_core.specs.RuleViews.{pattern as elaborated, patterns_of}
use Rattle.isle_templates.specs.declared.counted.Counted.{Counted}
use Rattle.isle_templates.specs.declared.counted.Parts.{Parts}
use Rattle.isle_templates.specs.NodeCount.{pattern_nodes, patterns_nodes}

-- the pattern with its nodes; or there is none, since it has more than a rule may have
abbrev pub IsCounted : Pattern → Option Counted → Type 0
IsCounted p None = 4096 < pattern_nodes p
IsCounted p (Some c) = (elaborated c.pattern ≡ p) × (c.nodes ≡ pattern_nodes p)

-- these patterns, with so many nodes beside theirs
abbrev pub AreParts : (base : ℕ) → List Pattern → Parts → Type 0
AreParts base ps parts = (map elaborated parts.patterns.items ≡ ps) × (parts.nodes ≡ base + patterns_nodes (patterns_of ps))

-- these patterns; or they are refused, since there would be more nodes than a rule may have
abbrev pub AreTaken : Bool → (base : ℕ) → List Pattern → Parts → Type 0
AreTaken true base ps parts = AreParts base ps parts
AreTaken false base ps parts = 4096 < base + patterns_nodes (patterns_of ps)

-- these patterns; or there are none, since there are more nodes than a rule may have
abbrev pub AreCounted : (base : ℕ) → List Pattern → Option Parts → Type 0
AreCounted base ps None = 4096 < base + patterns_nodes (patterns_of ps)
AreCounted base ps (Some parts) = AreParts base ps parts
