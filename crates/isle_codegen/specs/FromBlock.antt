-- The functions of a program, each made from a block of its term's rules.
use Rattle.std.specs.Prelude.{◌≡◌, List, [], ◌∷◌, map, Some, Contains, slice_get}
use Rattle.std.specs.List.{AllByRecursion}
use Rattle.isle_core.specs.declared.options.CodegenOptions.{CodegenOptions}
use Rattle.isle_core.specs.declared.TermId.{TermId}
use Rattle.isle_core.specs.declared.files.Files.{Files}
use Rattle.isle_core.specs.declared.rule_sets.RuleSet.{RuleSet}
use Rattle.isle_core.specs.declared.types.Term.{Term}
use Rattle.isle_core.specs.declared.values.Callee.{Callee}
use Rattle.isle_core.specs.Block.{Block}
use Rattle.isle_core.specs.BlockLawful.{IsLawfulBlock}
use Rattle.isle_core.specs.Calling.{is_several, kind_of}
use Rattle.isle_core.specs.ReturnPositions.{return_positions}
use Rattle.isle_core.specs.Rule.{Environment, Rule, rules_of}
use Rattle.isle_core.specs.Setting.{setting}
use Rattle.isle_core.specs.StandsFor.{StandsFor}
use Rattle.isle_blocks.specs.AllReturns.{MakesReturns}
use Rattle.isle_blocks.specs.AllTests.{MakesTests}
use Rattle.isle_blocks.specs.LoopsApart.{HasLoopsApart}
use Rattle.isle_blocks.specs.Merged.{IsMerged}
use Rattle.isle_blocks.specs.RuleTests.{TestsRules}
use Rattle.isle_simulation.specs.Shape.{HasShape}
use Rattle.isle_simulation.specs.LogLines.{lines_of}
use Rattle.isle_simulation.specs.StatementsOf.{IsFunctionOf}
use Rattle.isle_simulation.specs.TermFunction.{log_lines}
use Rattle.isle_tree.specs.Calls.{body_calls}
use Rattle.isle_tree.specs.Program.{Function}
use Rattle.isle_codegen.specs.CalledBy.{IsCalledBy}
use Rattle.isle_codegen.specs.Emits.{MeansSet}

-- the function is that of a block which is lawful for a rule set that stands for the term's rules, shares its tests, keeps loops apart, and means it: it has
-- the block's shape, its head, its statements and its tail are those of the block; its log lines are, if they are asked for, the term's
-- name with the place of each Return of the block, in order; the block tests nothing that no rule of the set tests, and each test that
-- is tried, and returns what each rule gives that is reached; each Return has the position and the result of one rule, so that its position is that of one of the term's rules; its calls are
-- those of the rules
pub record IsFromBlock (options : CodegenOptions) (files : Files) (env : Environment) (id : TermId) (f : Function) : Type 0 where
  pub term : Term
  pub found : slice_get env.terms id.0 ≡ Some term
  pub set : RuleSet
  pub stands : StandsFor env set (rules_of env id)
  pub block : Block
  pub lawful : IsLawfulBlock (setting env term set.bindings) block
  pub merged : IsMerged block
  pub loops : HasLoopsApart set block
  pub means : MeansSet env term set block
  pub shape : HasShape (setting env term set.bindings) f.body block
  pub statements : IsFunctionOf options files (setting env term set.bindings) block f
  pub lines : lines_of f.body ≡ log_lines options files (setting env term set.bindings) block
  pub tests : TestsRules set block
  pub makes : MakesTests (is_several (kind_of term.kind)) set block
  pub gives : MakesReturns (is_several (kind_of term.kind)) set block
  pub returns : AllByRecursion (Contains (map (λ (r : Rule). r.pos) (rules_of env id))) (return_positions block)
  pub calls : (callee : Callee) → Contains (body_calls f.body) callee → IsCalledBy env id callee

-- so of each term, in order
abbrev pub AreFromBlocks : (options : CodegenOptions) → Files → Environment → List TermId → List Function → Type 0
AreFromBlocks options files env [] [] = Unit {0}
AreFromBlocks options files env (id ∷ ids) (f ∷ fs) = IsFromBlock options files env id f × AreFromBlocks options files env ids fs
AreFromBlocks options files env [] (f ∷ fs) = ⊥
AreFromBlocks options files env (id ∷ ids) [] = ⊥
