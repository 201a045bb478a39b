-- Rules and their tests in the order in which a tree has them.
use Rattle.std.specs.Prelude.{◌≡◌, ℕ, List, [], ◌∷◌, Bool, map}
use Rattle.std.specs.List.{AllByRecursion}
use Rattle.std.specs.List.Sorted.{IsPermutation, IsNonDecreasingBy}
use Rattle.isle_core.specs.declared.BindingId.{BindingId}
use Rattle.isle_core.specs.declared.rule_sets.Binding.{Binding}
use Rattle.isle_core.specs.declared.rule_sets.Constraint.{Constraint}
use Rattle.isle_core.specs.declared.rule_sets.FlatRule.{FlatRule}
use Rattle.isle_core.specs.Block.{Block}
use Rattle.isle_core.specs.Path.{paths_of}
use Rattle.isle_blocks.specs.Order.{Falls}
use Rattle.isle_blocks.specs.Tree.{Way, Ground, IsTree}
use Rattle.isle_blocks.specs.Turns.{TurnsRise, rank}
use Rattle.isle_blocks.specs.Ways.{way_of}
use Rattle.isle_blocks.specs.declared.arrangement.Arranged.{Arranged}

-- the rules of ways
abbrev pub rules_of : List Way → List FlatRule
rules_of ws = map (λ (w : Way). w.rule) ws

-- a way with its early tests by their sources' ranks
pub record IsArranged (turns : List ℕ) (before w : Way) : Type 0 where
  pub rule : w.rule ≡ before.rule
  pub tests : IsPermutation before.early w.early
  pub sorted : IsNonDecreasingBy (λ (c : BindingId × Constraint). rank turns c.0) w.early
  pub late : w.late ≡ before.late

-- so each of ways
abbrev pub AreEachArranged : List ℕ → (before after : List Way) → Type 0
AreEachArranged turns [] [] = Unit {0}
AreEachArranged turns (v ∷ vs) (w ∷ ws) = IsArranged turns v w × AreEachArranged turns vs ws
AreEachArranged turns [] (w ∷ ws) = ⊥
AreEachArranged turns (v ∷ vs) [] = ⊥

-- the ways of the rules, highest priority first, those of one priority in any order, each with its tests by ranks
pub record AreArranged (several : Bool) (bs : List Binding) (fs : List FlatRule) (ws : List Way) : Type 0 where
  pub turns : List ℕ
  pub rise : TurnsRise bs turns
  pub order : IsPermutation fs (rules_of ws)
  pub falls : Falls (rules_of ws)
  pub each : AllByRecursion (λ (w : Way). IsArranged turns (way_of several (paths_of bs) w.rule) w) ws

-- the tree of rules that are arranged
pub record IsGrown (g : Ground) (fs : List FlatRule) (b : Block) : Type 0 where
  pub ways : List Way
  pub arranged : AreArranged g.several g.bindings fs ways
  pub tree : IsTree g ways [] b

-- the code's
abbrev pub arranged_way : Arranged → Way
arranged_way a = record { rule = a.rule.now; early = a.early.items; late = a.late.now }
