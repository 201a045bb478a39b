-- A run of a term of a source, apart from what is shown of it.
use Rattle.std.specs.Prelude.{◌≡◌, ℕ, List, Some, slice_get}
use Rattle.isle_core.specs.declared.TermId.{TermId}
use Rattle.isle_core.specs.declared.files.Files.{Files}
use Rattle.isle_core.specs.declared.options.CodegenOptions.{CodegenOptions}
use Rattle.isle_core.specs.declared.types.Term.{Term}
use Rattle.isle_core.specs.HasType.{HaveTypes}
use Rattle.isle_core.specs.Meaning.{Meaning}
use Rattle.isle_core.specs.Rule.{Environment}
use Rattle.isle_core.specs.Value.{Value, Ran}
use Rattle.isle_run_inputs.specs.Requested.{requested_term}
use Rattle.isle_tree.specs.Program.{Program}
use Rattle.isle_tree.specs.Run.{run}
use Rattle.isle_interpreter.specs.Judged.{Runs}
use Rattle.isle_run.specs.Conforming.{Conforms}

-- the term's function of a program that conforms to the source runs so, at arguments of its types, under answers that fit it, if the list of
-- results has this length at entry
pub record IsRunOf (options : CodegenOptions) (files : Files) (env : Environment) (term : List ℕ) (args : List Value) (answers : Meaning) (held : ℕ) (p : Program) (r : Ran) : Type 0 where
  pub id : TermId
  pub requested : requested_term env term ≡ Some id
  pub declared : Term
  pub found : slice_get env.terms id.0 ≡ Some declared
  pub typed : HaveTypes env args declared.arg_tys
  pub conforms : Conforms options files env p
  pub fits : Runs p term args answers
  pub runs : run p term args answers held ≡ Some r
