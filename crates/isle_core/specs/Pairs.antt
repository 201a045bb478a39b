-- What the rules of a `multi` term give: the parts of its pairs, one after the other.
use Rattle.std.specs.Prelude.{◌≡◌, ◌<◌, ℕ, suc, ◌+◌, List, [], ◌∷◌, not, Some, Contains, filter, length}
use Rattle.std.specs.List.{AllByRecursion}
use Rattle.isle_core.specs.Answered.{Item, Listed}
use Rattle.isle_core.specs.Calling.{impure}
use Rattle.isle_core.specs.Choice.{Choice}
use Rattle.isle_core.specs.HoldsImpure.{holds_impure}
use Rattle.isle_core.specs.Iterators.{rule_iterators}
use Rattle.isle_core.specs.Match.{Names}
use Rattle.isle_core.specs.Meaning.{Meaning}
use Rattle.isle_core.specs.Outcome.{chosen_names}
use Rattle.isle_core.specs.Parts.{Given, nothing_given, part}
use Rattle.isle_core.specs.Path.{Path}
use Rattle.isle_core.specs.Rule.{Environment, Rule}
use Rattle.isle_core.specs.Value.{Value}
use Rattle.isle_core.specs.ValueAt.{none_made, value_at}

-- a rule, how many impure calls the rules before it make, and its place among them
pub record Placed : Type 0 where
  pub rule : Rule
  pub before : ℕ
  pub place : ℕ

-- rules so, after n impure calls and k rules
abbrev pub placed : Environment → List Rule → (n k : ℕ) → List Placed
placed env [] n k = []
placed env (r ∷ rs) n k = record { rule = r; before = n; place = k } ∷ placed env rs (n + impure env r.rhs) (suc k)

-- a rule with its items chosen, and its names
pub record Pair : Type 0 where
  pub of : Placed
  pub choice : Choice
  pub names : Names

-- the paths of a rule at which an item is chosen
abbrev pub choice_paths : Environment → Placed → List Path
choice_paths env p = filter (λ (q : Path). not (holds_impure env q)) (rule_iterators env p.rule p.before)

-- a list stands at the path, and has the chosen item
abbrev pub IsChosen : Environment → Meaning → List Value → Choice → Path → Type 0
IsChosen env m args choice p = (is : List Item) × (value_at env m args (none_made choice) p ≡ Listed is) × (choice p < length is)

-- the rule is one of these, has its items, and matches with them
pub record IsPair (env : Environment) (m : Meaning) (args : List Value) (rules : List Rule) (q : Pair) : Type 0 where
  pub among : Contains (placed env rules 0 0) q.of
  pub chosen : AllByRecursion (IsChosen env m args q.choice) (choice_paths env q.of)
  pub matched : chosen_names env m q.choice args q.of.rule ≡ Some q.names

-- two pairs are one: of one rule, with the same items chosen
pub record AreOnePair (env : Environment) (p q : Pair) : Type 0 where
  pub rule : p.of ≡ q.of
  pub items : (at : Path) → Contains (choice_paths env p.of) at → p.choice at ≡ q.choice at

-- no pair of the list is one with this
abbrev pub IsNewPair : Environment → Pair → List Pair → Type 0
IsNewPair env p [] = Unit {0}
IsNewPair env p (q ∷ qs) = (AreOnePair env p q → ⊥) × IsNewPair env p qs

-- no pair stands twice
abbrev pub EachPairOnce : Environment → List Pair → Type 0
EachPairOnce env [] = Unit {0}
EachPairOnce env (q ∷ qs) = IsNewPair env q qs × EachPairOnce env qs

-- each pair of the rules once, and nothing else
pub record ArePairs (env : Environment) (m : Meaning) (args : List Value) (rules : List Rule) (pairs : List Pair) : Type 0 where
  pub sound : AllByRecursion (IsPair env m args rules) pairs
  pub once : EachPairOnce env pairs
  pub all : (q : Pair) → IsPair env m args rules q → (p : Pair) × Contains pairs p × AreOnePair env p q

-- their parts, one after the other, the turns going on from part to part
abbrev pub parts_of : Environment → Meaning → List Pair → Given → Given
parts_of env m [] g = g
parts_of env m (q ∷ qs) g = parts_of env m qs (part env m q.choice q.of.rule q.names q.of.before g)

-- what the rules of a `multi` term prescribe
pub record PrescribesSeveral (env : Environment) (m : Meaning) (args : List Value) (rules : List Rule) (g : Given) : Type 0 where
  pub pairs : List Pair
  pub listed : ArePairs env m args rules pairs
  pub given : g ≡ parts_of env m pairs nothing_given
