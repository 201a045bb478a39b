-- What stands for a template's parameters, and how many nodes the template has with it.
use Rattle.std.specs.Prelude.{◌≡◌, ◌<◌, ◌+◌, ◌-◌, ◌*◌, ℕ, zero, suc, Bool, true, false, List, [], ◌∷◌, map}
use Rattle.isle_core.specs.Pattern as pattern
use Rattle.isle_core.specs.Pattern.{Pattern}
use Rattle.isle_core.specs.RuleViews.{pattern as elaborated}
use Rattle.isle_templates.specs.declared.counted.Parts.{Parts}
use Rattle.isle_templates.specs.NodeCount.{pattern_nodes}

-- patterns from this number on, each as often as its number says, and each with a node less, which the parameter has
abbrev pub weighed : (ℕ → ℕ) → ℕ → List Pattern → ℕ
weighed times i [] = 0
weighed times i (p ∷ ps) = times i * (pattern_nodes p - 1) + weighed times (suc i) ps

-- a pattern that stands so often; where it stands nowhere, `_` will do
abbrev pub needed_one : ℕ → Pattern → Pattern
needed_one zero p = pattern.Wildcard (record { 0 = 0 })
needed_one (suc n) p = p

-- patterns from this number on, each as often as its number says
abbrev pub needed : (ℕ → ℕ) → ℕ → List Pattern → List Pattern
needed times i [] = []
needed times i (p ∷ ps) = needed_one (times i) p ∷ needed times (suc i) ps

-- the patterns, with so many nodes of a template whose parameters stand in it so often
abbrev pub AreArguments : (base : ℕ) → (times : ℕ → ℕ) → List Pattern → Parts → Type 0
AreArguments base times ps parts = (map elaborated parts.patterns.items ≡ ps) × (parts.nodes ≡ base + weighed times 0 ps)

-- these patterns; or they are refused, since the template would have more nodes with them than a rule may have
abbrev pub AreAccepted : Bool → (base : ℕ) → (times : ℕ → ℕ) → List Pattern → Parts → Type 0
AreAccepted true base times ps parts = AreArguments base times ps parts
AreAccepted false base times ps parts = 4096 < base + weighed times 0 ps
