-- Steps of ways before those of others.
use Rattle.std.specs.Prelude.{◌≡◌, ℕ, suc, ◌<◌, ◌≤◌, ◌==◌, List, [], ◌∷◌, ◌++◌, length, drop, Bool, false, if◌then◌else◌}
use Rattle.std.specs.List.{AllByRecursion}
use Rattle.isle_core.specs.declared.BindingId.{BindingId}
use Rattle.isle_core.specs.declared.rule_sets.Constraint.{Constraint}
use Rattle.isle_core.specs.Bindable.{bound_by}
use Rattle.isle_core.specs.Block.{Block, Step, Arms, Arm}
use Rattle.isle_core.specs.BlockViews.{SeenStep, SeenArm}
use Rattle.isle_blocks.specs.Nest.{alone}
use Rattle.isle_blocks.specs.Tree.{Way, Ground, source_needs, AllTest, StartApart, IsTree, AreTrees}

-- the first of these tests is of the source
abbrev pub tests_first : BindingId → List (BindingId × Constraint) → Bool
tests_first source [] = false
tests_first source (c ∷ cs) = c.0.0 == source.0

-- how many of the ways test the source first, up to one that doesn't
abbrev pub run_length : BindingId → List Way → ℕ
run_length source [] = 0
run_length source (w ∷ ws) = if tests_first source w.early then suc (run_length source ws) else 0

-- steps before a block
abbrev pub steps_before : List SeenStep → Block → Block
steps_before [] more = more
steps_before (s ∷ ss) more = Step s.0 s.1 (steps_before ss more)

-- if a block is a tree of the ways after the first n, steps before it make it one of all
abbrev pub LeadsTo : Ground → List Way → (n : ℕ) → (old new : List ℕ) → List SeenStep → Type 0
LeadsTo g ws n old new steps = (more : Block) → IsTree g (drop n ws) new more → IsTree g ws old (steps_before steps more)

-- neither a test nor an equality is left
pub record IsUntested (w : Way) : Type 0 where
  pub early : w.early ≡ []
  pub late : w.late ≡ []
  pub equals : w.rule.equals ≡ []

-- nothing follows a way: the term answers once, and nothing of the way is left to be tested
abbrev pub Ends : Ground → Way → Type 0
Ends g w = (g.several ≡ false) × IsUntested w

-- so for a step that serves the first n, unless nothing follows the first
abbrev pub LeadsOn : Ground → List Way → (n : ℕ) → (old new : List ℕ) → SeenStep → Type 0
LeadsOn g ws n old new s = (w : Way) (rest : List Way) → ws ≡ w ∷ rest → (Ends g w → ⊥) → LeadsTo g ws n old new (s ∷ [])

-- if nothing follows the first way, the step is a tree of the ways
abbrev pub MayEnd : Ground → List Way → List ℕ → SeenStep → Type 0
MayEnd g ws bound s = (w : Way) (rest : List Way) → ws ≡ w ∷ rest → Ends g w → IsTree g ws bound (alone s)

-- arms before others
abbrev pub arms_before : List SeenArm → Arms → Arms
arms_before [] more = more
arms_before (a ∷ rest) more = Arm a.0 a.1 a.2 (arms_before rest more)

-- the ways test the source first, and these are arms of them
abbrev pub HaveArms : Ground → BindingId → List Way → List ℕ → Arms → Type 0
HaveArms g source ws bound arms = (js : List (Constraint × Way)) → AllTest source ws js → AreTrees g source js bound arms

-- they are short once a test of each is made
abbrev pub AreLeftShort : ℕ → List Way → Type 0
AreLeftShort depth ws = AllByRecursion (λ (w : Way). length w.early ≤ suc depth) ws

-- the step serves ways that test one source first
abbrev pub IsShared : Ground → BindingId → List Way → List ℕ → SeenStep → Type 0
IsShared g source ws bound s =
    (js : List (Constraint × Way)) → AllTest source ws js → 0 < length ws → (rest : List Way) (more : Block)
    → StartApart source rest → IsTree g rest (bound_by bound (source_needs g bound source)) more → IsTree g (ws ++ rest) bound (Step s.0 s.1 more)
