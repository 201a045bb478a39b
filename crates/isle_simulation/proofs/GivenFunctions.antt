-- What holds of the function that a lawful block of a term gives.
use Rattle.std.proofs.Common.{◌≡◌, List, [], true, false, Some, refl, sym, ap, subst, ◌∙◌}
use Rattle.std.specs.Prelude.{Contains}
use Rattle.isle_core.specs.declared.options.CodegenOptions.{CodegenOptions}
use Rattle.isle_core.specs.declared.files.Files.{Files}
use Rattle.isle_core.specs.declared.rule_sets.Binding.{Binding}
use Rattle.isle_core.specs.declared.types.Term.{Term}
use Rattle.isle_core.specs.declared.values.Callee.{Callee}
use Rattle.isle_core.specs.Block.{Block}
use Rattle.isle_core.specs.BlockLawful.{IsLawfulBlock}
use Rattle.isle_core.specs.Calling.{kind_of, is_several, AnswersOnce}
use Rattle.isle_core.specs.Rule.{Environment}
use Rattle.isle_core.specs.Setting.{setting}
use Rattle.isle_tree.specs.Calls.{body_calls}
use Rattle.isle_tree.specs.Program.{Body, Function, Program}
use Rattle.isle_tree.specs.Run.{Around, ended, nothing_done, run_body}
use Rattle.isle_tree.specs.WellFormed.{callables, IsFunction}
use Rattle.isle_simulation.specs.Emitted.{IsEmittable, RunAlike, RunsAsBlock, RunsAsSeveral, body_run}
use Rattle.isle_simulation.specs.OfTerm.{IsOfTerm}
use Rattle.isle_simulation.specs.RustNames.{HasRustNames}
use Rattle.isle_core.specs.NewItems.{HasNewItems}
use Rattle.isle_simulation.specs.Shape.{AreSteps, HasShape}
use Rattle.isle_simulation.specs.LogLines.{own_lines, lines_of}
use Rattle.isle_simulation.specs.TermFunction.{tail_in, term_function, log_lines}
use Rattle.isle_simulation.specs.Completed.{completed}
use Rattle.isle_simulation.specs.TermFns.{callables_of, HasTermFns}
use Rattle.isle_simulation.specs.TraitFns.{HasFnNames}
use Rattle.isle_simulation.proofs.BlockCalls.{IsBoundCall, written_calls}
use Rattle.isle_simulation.proofs.FunctionsApart.{pure_extractors, pure_constructors}
use Rattle.isle_simulation.proofs.LoggedLaws.{logged_runs}
use Rattle.isle_simulation.proofs.LoggedLines.{told_is, written_lines}
use Rattle.isle_simulation.proofs.Made.{function_made}
use Rattle.isle_simulation.proofs.Shapes.{written_shape}
use Rattle.isle_simulation.proofs.SeveralSimulation.{written_several}
use Rattle.isle_simulation.proofs.Simulation.{written_runs}
use Rattle.isle_simulation.proofs.Tails.{written_of_term}
use Rattle.isle_simulation.proofs.WellFormedFunctions.{written_well_formed}
use Rattle.isle_simulation.proofs.Written.{block_body, written_body, logged_function, function_of}
use Rattle.isle_core.proofs.OptionLaws.{some_same}
use Rattle.isle_simulation.proofs.Closed.{Closes}
use Rattle.isle_simulation.proofs.ClosedLaws.{IsOpen, closed_runs, closed_bare, closed_of}
use Rattle.isle_simulation.proofs.ClosedBlocks.{function_closes}

module _ (options : CodegenOptions) (files : Files) (env : Environment) (t : Term) (bs : List Binding) (b : Block) (f : Function) (lawful : IsLawfulBlock (setting env t bs) b) (given : term_function options files (setting env t bs) b ≡ Some f) where
  -- the function that is written
  abbrev the_function : Function
  the_function = function_of options files env t bs b

  -- it is the written one
  given_is : the_function ≡ f
  given_is = some_same the_function f (sym (function_made options files env t bs b lawful) ∙ given)

  -- its statements are those without closures, with them
  closes : Closes (kind_of t.kind) false (logged_function options files env t bs b).body the_function.body
  closes = subst (λ (g : Function). Closes (kind_of t.kind) false g.body the_function.body) (told_is options files env t bs b lawful) (function_closes options files env t bs b)

  -- they run as those without log lines and closures
  pub runs_bare : (w : Around) → run_body w the_function.body [] nothing_done ≡ run_body w (written_body options files env t bs b) [] nothing_done
  runs_bare w =
      closed_runs (kind_of t.kind) w (logged_function options files env t bs b).body the_function.body closes [] nothing_done
      ∙ logged_runs (written_body options files env t bs b) (log_lines options files (setting env t bs) b) w [] nothing_done

  pub emitted_well_formed : IsEmittable env t → HasRustNames env → HasFnNames env → HasTermFns env → (p : Program) → callables p ≡ callables_of env → IsFunction p f
  emitted_well_formed h names fns terms p same = subst (IsFunction p) given_is (written_well_formed options files env t bs b h names lawful (record { fns = fns; terms = terms }) p same the_function.body closes)

  pub has_shape : HasShape (setting env t bs) f.body b
  has_shape =
      subst (λ (g : Function). HasShape (setting env t bs) g.body b) given_is
      (subst (λ (x : Body). AreSteps (setting env t bs) [] x b) (sym (closed_bare (kind_of t.kind) closes)) (written_shape options files env t bs b lawful))

  pub runs_as_block : AnswersOnce (kind_of t.kind) → HasRustNames env → HasFnNames env → HasTermFns env → RunsAsBlock env t bs b f
  runs_as_block once names fns terms = subst (RunsAsBlock env t bs b) given_is (written_runs options files env t bs b once names (pure_extractors env bs fns) (pure_constructors env fns terms) lawful the_function refl runs_bare)

  pub runs_as_several : is_several (kind_of t.kind) ≡ true → HasNewItems (setting env t bs) b → HasRustNames env → HasFnNames env → HasTermFns env → RunsAsSeveral options env t bs b f
  runs_as_several several new names fns terms = subst (RunsAsSeveral options env t bs b) given_is (written_several options files env t bs b several names (pure_extractors env bs fns) (pure_constructors env fns terms) lawful new the_function refl runs_bare)

  pub of_its_term : IsOfTerm files env t f
  of_its_term = subst (IsOfTerm files env t) given_is (written_of_term options files env t bs b lawful the_function.body closes)

  pub function_calls : (callee : Callee) → Contains (body_calls f.body) callee → IsBoundCall env bs callee
  function_calls callee c = written_calls options files env t bs b callee lawful the_function.body closes (subst (λ (g : Function). Contains (body_calls g.body) callee) (sym given_is) c)

  lines_open : IsOpen own_lines
  lines_open = record { if_eq = λ a b x y. refl; if_let = λ pat r x y. refl; arms = λ r x y. refl; loop = λ list item x y. refl; split = λ b inside. refl; stop = λ inside limit. refl }

  pub its_lines : lines_of f.body ≡ log_lines options files (setting env t bs) b
  its_lines = subst (λ (g : Function). lines_of g.body ≡ log_lines options files (setting env t bs) b) given_is (closed_of (kind_of t.kind) own_lines lines_open closes ∙ written_lines options files env t bs b lawful)

-- the functions that a block gives under two sets of options with one limit run alike
pub run_alike : (options other : CodegenOptions) (files : Files) (env : Environment) (t : Term) (bs : List Binding) (b : Block) (f g : Function) → options.max_returns ≡ other.max_returns → IsLawfulBlock (setting env t bs) b
    → term_function options files (setting env t bs) b ≡ Some f → term_function other files (setting env t bs) b ≡ Some g → RunAlike f g
run_alike options other files env t bs b f g limit lawful given others w =
    sym (ap (body_run w) (given_is options files env t bs b f lawful given)) ∙ bare options f given
    ∙ ap (λ n. ended (kind_of t.kind) (run_body w (block_body n (setting env t bs) [] (completed (setting env t bs) [] b) (tail_in files env t b)) [] nothing_done)) limit
    ∙ sym (bare other g others) ∙ ap (body_run w) (given_is other files env t bs b g lawful others)
  where
    bare : (o : CodegenOptions) (h : Function) → term_function o files (setting env t bs) b ≡ Some h → body_run w (function_of o files env t bs b) ≡ ended (kind_of t.kind) (run_body w (written_body o files env t bs b) [] nothing_done)
    bare o h e = ap (ended (kind_of t.kind)) (runs_bare o files env t bs b h lawful e w)
