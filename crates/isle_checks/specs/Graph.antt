-- The graph of the rule sets of terms: each leads to those of the terms that it uses.
use Rattle.std.specs.Prelude.{◌≡◌, ℕ, ◌<◌, List, [], ◌∷◌, ◌++◌, length, map, Option, Some, None, IsSomeAnd, option_to_list, slice_get, slice_index_or}
use Rattle.isle_core.specs.declared.TermId.{TermId}
use Rattle.isle_core.specs.declared.rule_sets.RuleSet.{RuleSet}
use Rattle.isle_core.specs.declared.types.Term.{Term}
use Rattle.isle_checks.specs.ClosedWalks.{uses_of}

-- the rule set at this place is that of the term of this number
abbrev pub IsAt : List (TermId × RuleSet) → (id place : ℕ) → Type 0
IsAt sets id place = IsSomeAnd (slice_get sets place) (λ (s : TermId × RuleSet). s.0.0 ≡ id)

-- what a table says of a term: where its rule set is, or that it has none
abbrev pub HasPlace : List (TermId × RuleSet) → (id : ℕ) → Option ℕ → Type 0
HasPlace sets id None = (place : ℕ) → IsAt sets id place → ⊥
HasPlace sets id (Some place) = IsAt sets id place

-- a table of so many terms says where the rule set of each is
pub record ArePlaces (count : ℕ) (sets : List (TermId × RuleSet)) (table : List (Option ℕ)) : Type 0 where
  pub many : length table ≡ count
  pub each : (id : ℕ) → id < count → HasPlace sets id (slice_index_or table id None)

-- the places of terms, of those that have one
abbrev pub places_of : List (Option ℕ) → List TermId → List ℕ
places_of table [] = []
places_of table (id ∷ ids) = option_to_list (slice_index_or table id.0 None) ++ places_of table ids

-- each rule set leads to those of the terms that it uses
abbrev pub graph_by : List Term → List (Option ℕ) → List (TermId × RuleSet) → List (List ℕ)
graph_by terms table sets = map (λ (s : TermId × RuleSet). places_of table (uses_of terms s.1.bindings)) sets

-- the graph of rule sets, by some table
pub record IsGraph (terms : List Term) (sets : List (TermId × RuleSet)) (graph : List (List ℕ)) : Type 0 where
  pub table : List (Option ℕ)
  pub places : ArePlaces (length terms) sets table
  pub is : graph ≡ graph_by terms table sets

-- the numbers of terms, in the order of their rule sets
abbrev pub ids_of : List (TermId × RuleSet) → List ℕ
ids_of sets = map (λ (s : TermId × RuleSet). s.0.0) sets
