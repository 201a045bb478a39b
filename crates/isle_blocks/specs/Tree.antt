-- Trees of rules that share their tests.
use Rattle.std.specs.Prelude.{◌≡◌, ℕ, List, [], ◌∷◌, ◌++◌, Bool, true, false, Option}
use Rattle.isle_core.specs.declared.BindingId.{BindingId}
use Rattle.isle_core.specs.declared.rule_sets.Binding.{Binding}
use Rattle.isle_core.specs.declared.rule_sets.Constraint.{Constraint}
use Rattle.isle_core.specs.declared.rule_sets.FlatRule.{FlatRule}
use Rattle.isle_core.specs.ArmPlaces.{bound_within}
use Rattle.isle_core.specs.Bindable.{bound_by}
use Rattle.isle_core.specs.Block.{Block, Stop, Step, Match, Arms, NoArm, Arm}
use Rattle.isle_core.specs.BlockViews.{SeenStep}
use Rattle.isle_blocks.specs.Needed.{needs}
use Rattle.isle_blocks.specs.Nest.{Shows, alone, last_step, all_matched, all_equated}

-- a rule with the tests that are still to be made: those of paths without a chosen item, and then the others
pub record Way : Type 0 where
  pub rule : FlatRule
  pub early : List (BindingId × Constraint)
  pub late : List (BindingId × Constraint)

-- no constraint and no equality
abbrev pub no_tests : List (BindingId × Constraint) → List (BindingId × BindingId) → Bool
no_tests [] [] = true
no_tests [] (e ∷ es) = false
no_tests (c ∷ cs) es = false

-- what steps are made from: whether the rules are those of a term that answers several times, the bindings, what constraints show, and what stands
-- after a call and in a list
pub record Ground : Type 0 where
  pub several : Bool
  pub bindings : List Binding
  pub shows : Shows
  pub next : ℕ → Option BindingId
  pub items : ℕ → Option BindingId

-- the step of a rule whose early tests are made: the others, its equalities, its lists, its calls and its result
abbrev pub way_step : Ground → Way → List ℕ → SeenStep
way_step g w bound =
    all_matched g.several g.bindings g.shows w.late (all_equated g.several g.bindings w.rule.equals (last_step g.several g.bindings g.next g.items w.rule)) bound

-- what a test of a source is read with
abbrev pub source_needs : Ground → List ℕ → BindingId → List BindingId
source_needs g bound source = needs g.bindings bound (source ∷ [])

-- the way tests the source first, against a constraint, and this is left of it
pub record Tests (source : BindingId) (w : Way) (c : Constraint) (left : Way) : Type 0 where
  pub tests : w.early ≡ (source, c) ∷ left.early
  pub rule : left.rule ≡ w.rule
  pub late : left.late ≡ w.late

-- ways that each test the source first, with what is left of them
abbrev pub AllTest : (source : BindingId) → List Way → List (Constraint × Way) → Type 0
AllTest source [] [] = Unit {0}
AllTest source (w ∷ ws) (j ∷ js) = Tests source w j.0 j.1 × AllTest source ws js
AllTest source [] (j ∷ js) = ⊥
AllTest source (w ∷ ws) [] = ⊥

-- those of one constraint and the others, each in order
pub data Parts (c : Constraint) : List (Constraint × Way) → (same : List Way) → (others : List (Constraint × Way)) → Type 0 where
  none : Parts c [] [] []
  same : (j : Constraint × Way) (js others : List (Constraint × Way)) (ws : List Way) → j.0 ≡ c → Parts c js ws others → Parts c (j ∷ js) (j.1 ∷ ws) others
  other : (j : Constraint × Way) (js others : List (Constraint × Way)) (ws : List Way) → (j.0 ≡ c → ⊥) → Parts c js ws others → Parts c (j ∷ js) ws (j ∷ others)

-- the first test of a way is of the source
abbrev pub TestsFirst : BindingId → List (BindingId × Constraint) → Type 0
TestsFirst source [] = ⊥
TestsFirst source (c ∷ cs) = c.0 ≡ source

-- the first of the ways, if there is one, doesn't test the source first
abbrev pub StartApart : BindingId → List Way → Type 0
StartApart source [] = Unit {0}
StartApart source (w ∷ ws) = TestsFirst source w.early → ⊥

mutual
  -- the steps of ways in order where these are bound: neighbours that test one source first share a Match, and the others have a step each; of a term
  -- that answers once nothing follows a way without tests
  pub data IsTree (g : Ground) : List Way → (bound : List ℕ) → Block → Type 0 where
    none : (bound : List ℕ) → IsTree g [] bound Stop
    own : (w : Way) (ws : List Way) (bound : List ℕ) (more : Block) → w.early ≡ [] → (g.several ≡ false → no_tests w.late w.rule.equals ≡ false)
        → IsTree g ws bound more → IsTree g (w ∷ ws) bound (Step (way_step g w bound).0 (way_step g w bound).1 more)
    last : (w : Way) (ws : List Way) (bound : List ℕ) → g.several ≡ false → w.early ≡ [] → w.late ≡ [] → w.rule.equals ≡ []
        → IsTree g (w ∷ ws) bound (alone (way_step g w bound))
    shared : (source : BindingId) (w : Way) (ws rest : List Way) (j : Constraint × Way) (js : List (Constraint × Way)) (bound : List ℕ) (arms : Arms) (more : Block)
        → AllTest source (w ∷ ws) (j ∷ js) → StartApart source rest → AreTrees g source (j ∷ js) (bound_by bound (source_needs g bound source)) arms
        → IsTree g rest (bound_by bound (source_needs g bound source)) more
        → IsTree g (w ∷ ws ++ rest) bound (Step (source_needs g bound source) (Match source arms) more)

  -- an arm for each constraint
  pub data AreTrees (g : Ground) : (source : BindingId) → List (Constraint × Way) → (bound : List ℕ) → Arms → Type 0 where
    no_arm : (source : BindingId) (bound : List ℕ) → AreTrees g source [] bound NoArm
    arm : (source : BindingId) (c : Constraint) (js others : List (Constraint × Way)) (w : Way) (ws : List Way) (bound : List ℕ) (body : Block) (arms : Arms) → Parts c js (w ∷ ws) others
        → IsTree g (w ∷ ws) (bound_within bound (g.shows source c)) body → AreTrees g source others bound arms
        → AreTrees g source js bound (Arm c (g.shows source c) body arms)
