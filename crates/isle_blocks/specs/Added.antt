-- What the block of a term that answers several times adds, rule by rule.
use Rattle.std.specs.Prelude.{◌≡◌, ◌↔◌, ℕ, List, [], ◌∷◌, ◌++◌, false, Some, Contains, map}
use Rattle.std.specs.List.{AllByRecursion}
use Rattle.isle_core.specs.declared.rule_sets.FlatRule.{FlatRule}
use Rattle.isle_core.specs.declared.rule_sets.RuleSet.{RuleSet}
use Rattle.isle_core.specs.ApartTests.{AreTestsApart}
use Rattle.isle_core.specs.Block.{Block}
use Rattle.isle_core.specs.Choice.{first_items}
use Rattle.isle_core.specs.Choices.{each_choice, flat_adds}
use Rattle.isle_core.specs.HoldsImpure.{holds_impure}
use Rattle.isle_core.specs.ListOrder.{AreListsInOrder}
use Rattle.isle_core.specs.Meaning.{Meaning}
use Rattle.isle_core.specs.Parts.{Given, nothing_given}
use Rattle.isle_core.specs.Path.{Path, at, paths_of}
use Rattle.isle_core.specs.Rule.{Environment}
use Rattle.isle_core.specs.Serializable.{occurrences_of}
use Rattle.isle_core.specs.SeveralRun.{several_outcome}
use Rattle.isle_core.specs.Value.{Value, Answer}
use Rattle.isle_core.specs.ValueAt.{Known, nothing_known}
use Rattle.isle_blocks.specs.Reordered.{IsReordered}

-- over these lists a rule's choices go: each stands once, after those within it, and they are the rule's lists that hold no impure call
pub record AreEarlyLists (env : Environment) (ps : List Path) (f : FlatRule) (lists : List Path) : Type 0 where
  pub order : AreListsInOrder [] lists
  pub early : (q : Path) → Contains lists q ↔ (Contains (map (at ps) f.iterators) q × (holds_impure env q ≡ false))

-- a rule over its lists
pub record Over : Type 0 where
  pub rule : FlatRule
  pub lists : List Path

-- the rules
abbrev pub rules_over : List Over → List FlatRule
rules_over xs = map (λ (x : Over). x.rule) xs

-- ---- what rules add

-- rules in order, each over its lists
abbrev pub flats_add : Environment → Meaning → List Value → List Path → List Over → Given → Given
flats_add env m args ps [] g = g
flats_add env m args ps (x ∷ xs) g = flats_add env m args ps xs (each_choice env m args x.lists nothing_known g (flat_adds env m args ps x.rule))

-- with no item chosen, and none but these impure calls known
pub record KnowsOnly (ks : List ℕ) (known : Known) : Type 0 where
  pub answers : (k : ℕ) (a : Answer) → known.answers k ≡ Some a → Contains ks k
  pub choice : known.choice ≡ first_items

-- each rule adds the same whatever the impure calls of the rules before it have answered
abbrev pub AddAnew : Environment → Meaning → List Value → List Path → List Over → Type 0
AddAnew env m args ps all =
    (xs : List Over) (x : Over) (ys : List Over) (known : Known) (g : Given) → all ≡ xs ++ x ∷ ys → KnowsOnly (occurrences_of env ps (rules_over xs)) known →
    each_choice env m args x.lists known g (flat_adds env m args ps x.rule) ≡ each_choice env m args x.lists nothing_known g (flat_adds env m args ps x.rule)

-- a block adds what the rules of a set add, in some order, where constraints on one path exclude each other
pub record AddsSeveral (env : Environment) (s : RuleSet) (b : Block) : Type 0 where
  pub order : List Over
  pub rules : IsReordered s.rules (rules_over order)
  pub early : AllByRecursion (λ (x : Over). AreEarlyLists env (paths_of s.bindings) x.rule x.lists) order
  pub adds : (m : Meaning) (args : List Value) → AreTestsApart env m args s → AddAnew env m args (paths_of s.bindings) order
      → several_outcome env m args (paths_of s.bindings) b ≡ flats_add env m args (paths_of s.bindings) order nothing_given
