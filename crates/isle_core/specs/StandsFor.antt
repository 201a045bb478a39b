-- When a rule set stands for rules.
use Rattle.std.specs.Prelude.{◌≡◌, ◌↔◌, ◌⊎◌, ℕ, ◌+◌, List, [], ◌∷◌, Contains, map, filter}
use Rattle.isle_core.specs.declared.rule_sets.FlatRule.{FlatRule}
use Rattle.isle_core.specs.declared.rule_sets.RuleSet.{RuleSet}
use Rattle.isle_core.specs.Path.{Path, at, paths_of}
use Rattle.isle_core.specs.Iterators.{rule_iterators}
use Rattle.isle_core.specs.OrderedCalls.{rule_calls}
use Rattle.isle_core.specs.Tests.{Test, Is, Equal, HasItem, is_constraint, rule_tests, rule_result}
use Rattle.isle_core.specs.Calling.{impure}
use Rattle.isle_core.specs.RulePaths.{rules_paths}
use Rattle.isle_core.specs.RuleSet.{is_test, flat_tests}
use Rattle.isle_core.specs.Rule.{Environment, Rule}

-- no item stands twice
abbrev pub EachOnce : {A : Type 0} → List A → Type 0
EachOnce [] = Unit {0}
EachOnce (x ∷ xs) = (Contains xs x → ⊥) × EachOnce xs

-- a path equated with itself, or that a list has an item, which loops see to
abbrev pub IsTrivial : Test → Type 0
IsTrivial (Is p c) = ⊥
IsTrivial (Equal p q) = p ≡ q
IsTrivial (HasItem p) = Unit {0}

-- the firsts of items after those seen: each where it stands first
pub data AreFirsts {A : Type 0} : List A → List A → List A → Type 0 where
  no_more : (seen : List A) → AreFirsts seen [] []
  again : (seen : List A) (x : A) (xs ys : List A) → Contains seen x → AreFirsts seen xs ys → AreFirsts seen (x ∷ xs) ys
  first : (seen : List A) (x : A) (xs ys : List A) → (Contains seen x → ⊥) → AreFirsts (x ∷ seen) xs ys → AreFirsts seen (x ∷ xs) (x ∷ ys)

-- a flat rule has the rule's tests but the trivial ones, each once, its constraints in the order in which they stand first, its priority, its position, its
-- calls of terms that answer several times, its calls in order, each once, and its result, after n impure calls of the rules
-- before
pub record IsFlat (env : Environment) (ps : List Path) (r : Rule) (n : ℕ) (f : FlatRule) : Type 0 where
  pub tested : (t : Test) → Contains (rule_tests env r) t → Contains (flat_tests ps f) t ⊎ IsTrivial t
  pub no_other : (t : Test) → Contains (flat_tests ps f) t → Contains (rule_tests env r) t × (IsTrivial t → ⊥)
  pub once : EachOnce (flat_tests ps f)
  pub constraints : AreFirsts [] (filter is_constraint (rule_tests env r)) (map (is_test ps) f.constraints)
  pub prio : f.prio ≡ r.prio
  pub pos : f.pos ≡ r.pos
  pub iterators : AreFirsts [] (rule_iterators env r n) (map (at ps) f.iterators)
  pub ordered : AreFirsts [] (rule_calls env r n) (map (at ps) f.ordered)
  pub result : at ps f.result ≡ rule_result env r n

-- rule by rule, in order; the impure calls are numbered through all rules
abbrev pub AreFlat : Environment → List Path → List Rule → ℕ → List FlatRule → Type 0
AreFlat env ps [] n [] = Unit {0}
AreFlat env ps (r ∷ rs) n (f ∷ fs) = IsFlat env ps r n f × AreFlat env ps rs (n + impure env r.rhs) fs
AreFlat env ps [] n (f ∷ fs) = ⊥
AreFlat env ps (r ∷ rs) n [] = ⊥

-- the bindings are the paths of the rules, each once, and the flat rules are the rules
pub record StandsFor (env : Environment) (s : RuleSet) (rules : List Rule) : Type 0 where
  pub once : EachOnce (paths_of s.bindings)
  pub paths : (p : Path) → Contains (paths_of s.bindings) p ↔ Contains (rules_paths env rules 0) p
  pub flat : AreFlat env (paths_of s.bindings) rules 0 s.rules
