-- When functions are emitted for rule sets.
use Rattle.std.specs.Prelude.{◌≡◌, List, [], ◌∷◌, true, false, Some, slice_get}
use Rattle.std.specs.List.{AllByRecursion}
use Rattle.isle_core.specs.declared.options.CodegenOptions.{CodegenOptions}
use Rattle.isle_core.specs.declared.types.ReturnKind.{ReturnKind}
use Rattle.isle_core.specs.declared.TermId.{TermId}
use Rattle.isle_core.specs.declared.files.Files.{Files}
use Rattle.isle_core.specs.declared.rule_sets.RuleSet.{RuleSet}
use Rattle.isle_core.specs.declared.types.Term.{Term}
use Rattle.isle_core.specs.ApartTests.{AreTestsApart}
use Rattle.isle_core.specs.Value.{Value}
use Rattle.isle_core.specs.Meaning.{Meaning}
use Rattle.isle_core.specs.Calling.{is_several, kind_of}
use Rattle.isle_core.specs.Path.{paths_of}
use Rattle.isle_core.specs.RuleSet.{set_outcome}
use Rattle.isle_core.specs.Block.{Block}
use Rattle.isle_core.specs.BlockRun.{block_outcome}
use Rattle.isle_core.specs.BlockLawful.{IsLawfulBlock}
use Rattle.isle_core.specs.Places.{LiesIn}
use Rattle.isle_core.specs.Rule.{Environment}
use Rattle.isle_core.specs.Serializable.{IsSerializable}
use Rattle.isle_core.specs.Setting.{setting}
use Rattle.isle_blocks.specs.AllReturns.{MakesReturns}
use Rattle.isle_blocks.specs.AllTests.{MakesTests}
use Rattle.isle_blocks.specs.ApartRules.{AreRulesApart}
use Rattle.isle_blocks.specs.AskedBound.{AsksAtMost}
use Rattle.isle_blocks.specs.LoopFree.{HasNoLoop}
use Rattle.isle_blocks.specs.LoopsApart.{HasLoopsApart}
use Rattle.isle_blocks.specs.Merged.{IsMerged}
use Rattle.isle_blocks.specs.RuleReads.{OrdersCallsOnce}
use Rattle.isle_blocks.specs.RuleTests.{TestsRules}
use Rattle.isle_blocks.specs.Several.{HasItsLists, GivesSeveral}
use Rattle.isle_tree.specs.Program.{Function}
use Rattle.isle_simulation.specs.TermFunction.{term_function}
use Rattle.isle_simulation.specs.Emitted.{IsEmittable}
use Rattle.isle_simulation.specs.RustNames.{HasRustNames}
use Rattle.isle_simulation.specs.TermFns.{HasTermFns}
use Rattle.isle_simulation.specs.TraitFns.{HasFnNames}

-- the term is there and may be emitted, its declaration lies in the files, its rule set is ready for a block and reads the items of its
-- rules' own lists alone, functions of the trait and of terms may be called by their names, and types and constants have names of Rust
pub record CanEmit (files : Files) (env : Environment) (s : TermId × RuleSet) : Type 0 where
  pub term : Term
  pub found : slice_get env.terms s.0.0 ≡ Some term
  pub placed : LiesIn files term.decl_pos
  pub emittable : IsEmittable env term
  pub ready : IsSerializable env term s.1
  pub lists : AllByRecursion (HasItsLists env (paths_of s.1.bindings)) s.1.rules
  pub fns : HasFnNames env
  pub term_fns : HasTermFns env
  pub names : HasRustNames env

-- the block gives what the rule set does, if the constraints that its rules put on one path exclude each other and no two rules of one priority
-- hold
abbrev pub GivesSet : Environment → RuleSet → Block → Type 0
GivesSet env s b = (m : Meaning) (args : List Value) (kind : ReturnKind) → AreTestsApart env m args s → AreRulesApart env m args s → block_outcome env m args (paths_of s.bindings) b kind ≡ set_outcome env m args (paths_of s.bindings) s.rules kind

-- the block means the rule set of the term: it gives what the set does, or what rules prescribe for which the set stands where the term answers
-- several times
pub record MeansSet (env : Environment) (t : Term) (s : RuleSet) (b : Block) : Type 0 where
  pub once : is_several (kind_of t.kind) ≡ false → GivesSet env s b
  pub several : is_several (kind_of t.kind) ≡ true → GivesSeveral env s b

-- the function of the term, from a block that is lawful for its rule set, shares its tests, keeps loops apart, tests and returns what its rules do, all tests
-- that are tried and what each rule gives that is reached, asks no more than its rules read if it has no Loop, and means the set
pub record IsEmitted (options : CodegenOptions) (files : Files) (env : Environment) (id : TermId) (s : RuleSet) (f : Function) : Type 0 where
  pub term : Term
  pub found : slice_get env.terms id.0 ≡ Some term
  pub block : Block
  pub lawful : IsLawfulBlock (setting env term s.bindings) block
  pub merged : IsMerged block
  pub loops : HasLoopsApart s block
  pub means : MeansSet env term s block
  pub tests : TestsRules s block
  pub makes : MakesTests (is_several (kind_of term.kind)) s block
  pub gives : MakesReturns (is_several (kind_of term.kind)) s block
  pub asks : AllByRecursion (OrdersCallsOnce env (paths_of s.bindings)) s.rules → HasNoLoop block → AsksAtMost env s block
  pub given : term_function options files (setting env term s.bindings) block ≡ Some f

-- so of each term with its rule set, in order
abbrev pub AreEmitted : (options : CodegenOptions) → Files → Environment → List (TermId × RuleSet) → List Function → Type 0
AreEmitted options files env [] [] = Unit {0}
AreEmitted options files env (s ∷ sets) (f ∷ fs) = IsEmitted options files env s.0 s.1 f × AreEmitted options files env sets fs
AreEmitted options files env [] (f ∷ fs) = ⊥
AreEmitted options files env (s ∷ sets) [] = ⊥
