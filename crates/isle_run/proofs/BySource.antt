-- A run that is valid by its source alone is one that each program wants which conforms to the source.
use Rattle.std.proofs.Common.{List, ℕ}
use Rattle.isle_core.specs.declared.files.Files.{Files}
use Rattle.isle_core.specs.declared.options.CodegenOptions.{CodegenOptions}
use Rattle.isle_values.specs.Written.{Writtens}
use Rattle.isle_run_inputs.specs.AnswersAt.{constants_at, answers_at}
use Rattle.isle_run.specs.Trial.{args_given}
use Rattle.isle_run.specs.Valid.{CanRun}
use Rattle.isle_run.specs.ValidBySource.{IsValidBySource}
use Rattle.isle_run.proofs.ConformingTypes.{right_fit}
use Rattle.isle_run.proofs.StandingConstants.{used_stand}
use Rattle.isle_run.proofs.Wanted.{wanted}

pub valid_by_source : (options : CodegenOptions) (files : Files) (term : List ℕ) (ws : Writtens) (text : List ℕ) → IsValidBySource files term ws text → CanRun options files term ws text
valid_by_source options files term ws text h = record {
  env = h.env;
  checked = h.checked;
  id = h.id;
  requested = h.requested;
  declared = h.declared;
  found = h.found;
  typed = h.typed;
  forms = h.forms;
  spelt = h.spelt;
  constants = h.constants;
  wanted = λ p conforms.
      wanted options files h.env h.checked p conforms term h.id h.requested (args_given h.env term ws) (answers_at h.env h.forms) h.constants h.wanted
      (used_stand options files h.env h.checked p conforms (constants_at h.env h.forms) h.constants h.used)
      (right_fit options files h.env h.checked p conforms (constants_at h.env h.forms) h.constants);
  extracted = h.extracted;
  right = h.right;
}
