-- A run of a function without loops that is that of a block asks no more than the rules have paths for which the block's set stands.
use Rattle.std.proofs.Common.{◌≡◌, List, Some, sym, ap, ◌∙◌, subst, arith}
use Rattle.std.specs.List.{AllByRecursion}
use Rattle.isle_core.specs.declared.TermId.{TermId}
use Rattle.isle_core.specs.declared.TypeId.{TypeId}
use Rattle.isle_core.specs.declared.files.Files.{Files}
use Rattle.isle_core.specs.declared.options.CodegenOptions.{CodegenOptions}
use Rattle.isle_core.specs.declared.rule_sets.RuleSet.{RuleSet}
use Rattle.isle_core.specs.declared.types.Term.{Term}
use Rattle.isle_core.specs.Block.{Block}
use Rattle.isle_core.specs.Rule.{Environment, rules_of}
use Rattle.isle_core.specs.Serializable.{IsSerializable}
use Rattle.isle_core.specs.Served.{IsTested}
use Rattle.isle_core.specs.Setting.{setting}
use Rattle.isle_core.specs.StandsFor.{StandsFor}
use Rattle.isle_core.specs.Terms.{term_name}
use Rattle.isle_core.proofs.OptionLaws.{some_same}
use Rattle.isle_blocks.specs.AskedBound.{AsksAtMost}
use Rattle.isle_blocks.specs.LoopFree.{HasNoLoop}
use Rattle.isle_blocks.proofs.RulesRead.{paths_bound}
use Rattle.isle_tree.specs.Program.{Function, Program}
use Rattle.isle_tree.specs.Run.{function_of, function_run}
use Rattle.isle_simulation.specs.TermFunction.{term_function}
use Rattle.isle_codegen.specs.Asking.{IsLoopFree, AsksPaths}
use Rattle.isle_codegen.proofs.AskedBodies.{function_asks}
use Rattle.isle_codegen.proofs.AskedFlow.{run_asks}

pub asks_paths : (options : CodegenOptions) (files : Files) (env : Environment) (p : Program) (id : TermId) (t : Term) (tys : List TypeId) (s : RuleSet) (b : Block) (f : Function) → function_of (term_name env id) p.fns ≡ Some f
    → term_function options files (setting env t s.bindings) b ≡ Some f → StandsFor env s (rules_of env id) → IsSerializable env t s → AllByRecursion (IsTested env tys) (rules_of env id) → (HasNoLoop b → AsksAtMost env s b) → AsksPaths env p id
asks_paths options files env p id t tys s b f found made stands ready typed most g args m held ran ls there free runs paths =
    let same = some_same f g (sym found ∙ there) in
    let own = function_asks (setting env t s.bindings) options files b f made in
    let no_loop = subst (λ (h : Function). IsLoopFree h.body) (sym same) free in
    let run = run_asks env p m args (Some held) f ran no_loop (sym (ap (function_run p m held args) found) ∙ runs) in
    let bound = paths_bound env t tys s (rules_of env id) b ls stands ready typed (most (own.1 no_loop)) paths in
    let count = own.0 in
    omega (arith, run, count, bound)
