-- How rules are told apart, so that few are compared.
use Rattle.std.specs.Prelude.{◌≡◌}
use Rattle.isle_core.specs.declared.rule_sets.FlatRule.{FlatRule}
use Rattle.isle_checks.specs.declared.lists.Key.{Key}
use Rattle.isle_checks.specs.declared.lists.Key.TheVariants as key
use Rattle.isle_checks.specs.declared.splitter.Splitter.{Splitter}
use Rattle.isle_checks.specs.declared.splitter.Splitter.TheVariants as splitter
use Rattle.isle_checks.specs.Bears.{IsAmong}

-- a rule has this priority, or this constraint on the binding by which rules are told apart
abbrev pub HasKey : Splitter → FlatRule → Key → Type 0
HasKey splitter.Priority f (key.Priority prio) = f.prio ≡ prio
HasKey splitter.Priority f (key.Constraint b c) = ⊥
HasKey (splitter.Binding x) f (key.Priority prio) = ⊥
HasKey (splitter.Binding x) f (key.Constraint b c) = (b ≡ x) × IsAmong f.constraints (b, c)
