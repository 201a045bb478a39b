-- What a run gives are the lines of a trial.
use Rattle.std.proofs.Common.{◌≡◌, ℕ, List, [], ◌∷◌, map, length, false, Option, Some, refl, sym, ap, subst, ◌∙◌}
use Rattle.std.specs.Prelude.{slice_get}
use Rattle.std.specs.Option.{option_map_or}
use Rattle.std.proofs.lemmas.List.{length-map}
use Rattle.isle_core.specs.declared.TermId.{TermId}
use Rattle.isle_core.specs.declared.TypeId.{TypeId}
use Rattle.isle_core.specs.declared.files.Files.{Files}
use Rattle.isle_core.specs.declared.options.CodegenOptions.{CodegenOptions}
use Rattle.isle_core.specs.declared.types.Term.{Term}
use Rattle.isle_core.specs.HasType.{HaveTypes}
use Rattle.isle_core.specs.Rule.{Environment}
use Rattle.isle_core.specs.Terms.{with_rules}
use Rattle.isle_core.specs.Meaning.{Meaning}
use Rattle.isle_core.specs.Value.{Value, Ran}
use Rattle.isle_values.specs.Written.{Writtens}
use Rattle.isle_tree.specs.declared.tree.Ty.{Ty}
use Rattle.isle_tree.specs.declared.tree.TypeItem.{TypeItem}
use Rattle.isle_tree.specs.Program.{Program, Function}
use Rattle.isle_tree.specs.Run.{run}
use Rattle.isle_simulation.specs.TypeTexts.{parameter}
use Rattle.isle_run_inputs.specs.Requested.{requested_term, requested_types, arg_types}
use Rattle.isle_run_inputs.specs.AnswersAt.{answers_at}
use Rattle.isle_run_inputs.specs.Held.{held_at}
use Rattle.isle_run_inputs.specs.ValuesAt.{values_at}
use Rattle.isle_run_inputs.proofs.HaveTypes.{Matched, have_types}
use Rattle.isle_outcomes.specs.Lines.{run_lines}
use Rattle.isle_interpreter.specs.Refusals.{MayRun}
use Rattle.isle_places.specs.Signatures.{type_names}
use Rattle.isle_interpreter.specs.Named.{IsNamed, AreNamed}
use Rattle.isle_codegen.specs.Checked.{IsChecked}
use Rattle.isle_run.specs.Conforming.{Conforms}
use Rattle.isle_run.specs.LeftOut.{leave_out}
use Rattle.isle_run.specs.Ran.{IsUnder, IsOutcome}
use Rattle.isle_run.specs.Trial.{args_given, shown_run, AreLines, IsTrial}
use Rattle.isle_run.proofs.FoundTerms.{Found, both_found, declared_name}
use Rattle.isle_run.proofs.Means.{means}
use Rattle.isle_run.proofs.Unfit.{misfit_unnamed}

-- each value is of the type of its name
matched : (types : List TypeItem) (names : List (List ℕ)) (vs : List Value) → AreNamed types names vs → Matched (IsNamed types) names vs
matched types [] [] h = h
matched types [] (v ∷ vs) h = absurd h
matched types (name ∷ names) [] h = absurd h
matched types (name ∷ names) (v ∷ vs) h = (h.0, matched types names vs h.1)

-- as many names of types as types
as_many : (env : Environment) (tys : List TypeId) → length (type_names (map (parameter env) tys)) ≡ length tys
as_many env tys = length-map (map (parameter env) tys) (λ (ty : Ty). ty.name) ∙ length-map tys (parameter env)

-- the types that are asked for are those of the term that is found
types_found : (env : Environment) (term : List ℕ) (id : TermId) (t : Term) → requested_term env term ≡ Some id → slice_get env.terms id.0 ≡ Some t → requested_types env term ≡ t.arg_tys
types_found env term id t requested there =
    ap (λ (o : Option TermId). option_map_or (arg_types env) o []) requested ∙ ap (λ (o : Option Term). option_map_or (λ (t : Term). t.arg_tys) o []) there

-- the arguments of a run have the types of the term
pub types_fit : (files : Files) (env : Environment) (types : List TypeItem) (term : List ℕ) (ws : Writtens) (f : Function) (h : Found files env term (with_rules env) f) → AreNamed types (type_names f.params) (args_given env term ws) → HaveTypes env (args_given env term ws) h.declared.term.arg_tys
types_fit files env types term ws f h named =
    let tys = types_found env term h.id h.declared.term h.requested h.declared.found in
    let names = subst (λ ps. AreNamed types (type_names ps) (args_given env term ws)) h.declared.of_term.params named in
    let at_types = subst (λ (ts : List TypeId). AreNamed types (type_names (map (parameter env) h.declared.term.arg_tys)) (values_at env ts ws)) tys names in
    subst (λ (ts : List TypeId). HaveTypes env (values_at env ts ws) h.declared.term.arg_tys) (sym tys)
    (have_types (IsNamed types) (misfit_unnamed types) env (type_names (map (parameter env) h.declared.term.arg_tys)) h.declared.term.arg_tys ws (as_many env h.declared.term.arg_tys)
    (matched types (type_names (map (parameter env) h.declared.term.arg_tys)) (values_at env h.declared.term.arg_tys ws) at_types))

-- the lines of a run
pub are_lines : (options : CodegenOptions) (files : Files) (env : Environment) (p : Program) (term : List ℕ) (ws : Writtens) (f : Function) (r : Ran) (answers : Meaning) (held : ℕ)
    → leave_out (record { program = p; env = env; term = term; args = args_given env term ws }) answers ≡ false → Conforms options files env p → MayRun p term (args_given env term ws) answers f → run p term (args_given env term ws) answers held ≡ Some r
    → AreLines options files env term (args_given env term ws) answers held (run_lines (shown_run env r))
are_lines options files env p term ws f r answers held kept conforms may runs =
    let h = both_found files env term (with_rules env) p.fns f conforms.functions.declared may.found in
    let types = types_fit files env p.types term ws f h may.typed in
    record {
      program = p;
      ran = r;
      is_run = record {
        id = h.id;
        requested = h.requested;
        declared = h.declared.term;
        found = h.declared.found;
        typed = types;
        conforms = conforms;
        fits = record { function = f; may = may };
        runs = runs;
      };
      shown = refl;
      means = means options files env p term (args_given env term ws) answers held f r h.id h.declared.term kept conforms may runs h.among (declared_name files env h.id f h.declared ∙ sym h.named) h.declared.found h.declared.of_term.kind types;
    }

-- what a run under the answers of a text gives is a trial
pub is_trial : (options : CodegenOptions) (files : Files) (env : Environment) (p : Program) (term : List ℕ) (ws : Writtens) (args : List Value) (text : List ℕ) (r : Ran) (lines : List ℕ)
    → IsChecked files env → Conforms options files env p → args ≡ args_given env term ws → IsOutcome (record { program = p; env = env; term = term; args = args }) text r → lines ≡ run_lines (shown_run env r) → IsTrial options files term ws text lines
is_trial options files env p term ws args text r lines checked conforms given h shown =
    let under = subst (λ vs. IsUnder (record { program = p; env = env; term = term; args = vs }) h.forms r) given h.under in
    record {
      env = env;
      checked = checked;
      forms = h.forms;
      spelt = h.spelt;
      once = h.once;
      are_lines = subst (AreLines options files env term (args_given env term ws) (answers_at env h.forms) (held_at h.forms)) (sym shown) (are_lines options files env p term ws under.fits.function r (answers_at env h.forms) (held_at h.forms) under.given conforms under.fits.may under.runs);
    }
