-- How many calls of extractors and pure terms the block of a rule set has at most.
use Rattle.std.specs.Prelude.{◌↔◌, ℕ, ◌+◌, ◌≤◌, List, [], ◌∷◌, Contains}
use Rattle.isle_core.specs.declared.rule_sets.RuleSet.{RuleSet}
use Rattle.isle_core.specs.Block.{Block}
use Rattle.isle_core.specs.Calling.{impure}
use Rattle.isle_core.specs.Path.{Path, paths_of}
use Rattle.isle_core.specs.Rule.{Environment, Rule}
use Rattle.isle_core.specs.RulePaths.{rule_paths}
use Rattle.isle_blocks.specs.AskedCalls.{asked_calls}
use Rattle.isle_blocks.specs.RuleReads.{HoldAllReads, lengths}

-- no more than there are paths in lists that hold what the rules read, a list for each rule: the shortest have each path once
abbrev pub AsksAtMost : Environment → RuleSet → Block → Type 0
AsksAtMost env s b = (ls : List (List Path)) → HoldAllReads (paths_of s.bindings) s.rules ls → asked_calls env s.bindings b ≤ lengths ls

-- each list has the paths that its rule speaks of and no other, after n impure calls of the rules before
abbrev pub HavePaths : Environment → List Rule → ℕ → List (List Path) → Type 0
HavePaths env [] n [] = Unit {0}
HavePaths env (r ∷ rules) n (l ∷ ls) = ((p : Path) → Contains l p ↔ Contains (rule_paths env r n) p) × HavePaths env rules (n + impure env r.rhs) ls
HavePaths env [] n (l ∷ ls) = ⊥
HavePaths env (r ∷ rules) n [] = ⊥
