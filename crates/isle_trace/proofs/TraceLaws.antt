-- What a run gives is the trace of a trial.
use Rattle.std.proofs.Common.{◌≡◌, ℕ, List, false, Some, sym, subst, ◌∙◌}
use Rattle.isle_answers.specs.Form.{Form}
use Rattle.isle_codegen.specs.Checked.{IsChecked}
use Rattle.isle_core.specs.declared.files.Files.{Files}
use Rattle.isle_core.specs.declared.options.CodegenOptions.{CodegenOptions}
use Rattle.isle_core.specs.Meaning.{Meaning}
use Rattle.isle_core.specs.Rule.{Environment}
use Rattle.isle_core.specs.Terms.{with_rules}
use Rattle.isle_core.specs.Value.{Ran, Value}
use Rattle.isle_interpreter.specs.Refusals.{MayRun}
use Rattle.isle_run.specs.Conforming.{Conforms}
use Rattle.isle_run.specs.LeftOut.{leave_out}
use Rattle.isle_run.specs.Ran.{IsOutcome, IsUnder}
use Rattle.isle_run.specs.Trial.{args_given}
use Rattle.isle_run.proofs.FoundTerms.{both_found, declared_name}
use Rattle.isle_run.proofs.GivesLines.{types_fit}
use Rattle.isle_run.proofs.Means.{means}
use Rattle.isle_run_inputs.specs.AnswersAt.{answers_at}
use Rattle.isle_run_inputs.specs.Held.{held_at}
use Rattle.isle_tree.specs.Program.{Function, Program}
use Rattle.isle_tree.specs.Run.{run}
use Rattle.isle_values.specs.Written.{Writtens}
use Rattle.isle_trace.specs.Trace.{IsTrace, IsTraceOf, IsTracedTrial}

-- the trace of a run
is_trace : (options : CodegenOptions) (files : Files) (env : Environment) (p : Program) (term : List ℕ) (ws : Writtens) (f : Function) (r : Ran) (answers : Meaning) (held : ℕ) (text : List ℕ)
    → leave_out (record { program = p; env = env; term = term; args = args_given env term ws }) answers ≡ false → Conforms options files env p → MayRun p term (args_given env term ws) answers f
    → run p term (args_given env term ws) answers held ≡ Some r → IsTraceOf files.file_names p r text → IsTrace options files env term (args_given env term ws) answers held text
is_trace options files env p term ws f r answers held text kept conforms may runs traced =
    let h = both_found files env term (with_rules env) p.fns f conforms.functions.declared may.found in
    let types = types_fit files env p.types term ws f h may.typed in
    record {
      program = p;
      ran = r;
      is_run = record {
        id = h.id;
        requested = h.requested;
        declared = h.declared.term;
        found = h.declared.found;
        typed = types;
        conforms = conforms;
        fits = record { function = f; may = may };
        runs = runs;
      };
      traced = traced;
      means = means options files env p term (args_given env term ws) answers held f r h.id h.declared.term kept conforms may runs h.among (declared_name files env h.id f h.declared ∙ sym h.named) h.declared.found
          h.declared.of_term.kind types;
    }

-- that of a run under the answers of a text
pub is_traced : (options : CodegenOptions) (files : Files) (env : Environment) (p : Program) (term : List ℕ) (ws : Writtens) (args : List Value) (answers : List ℕ) (r : Ran) (text : List ℕ)
    → IsChecked files env → Conforms options files env p → args ≡ args_given env term ws → IsOutcome (record { program = p; env = env; term = term; args = args }) answers r → IsTraceOf files.file_names p r text
    → IsTracedTrial options files term ws answers text
is_traced options files env p term ws args answers r text checked conforms given h traced =
    let under = subst (λ vs. IsUnder (record { program = p; env = env; term = term; args = vs }) h.forms r) given h.under in
    record {
      env = env;
      checked = checked;
      forms = h.forms;
      spelt = h.spelt;
      once = h.once;
      is_trace = is_trace options files env p term ws under.fits.function r (answers_at env h.forms) (held_at h.forms) text under.given conforms under.fits.may under.runs traced;
    }
