-- The lines of a run are those of what the rules prescribe.
use Rattle.std.proofs.Common.{◌≡◌, ℕ, List, map, false, Option, Some, None, refl, sym, ap, subst, ◌∙◌}
use Rattle.std.specs.Prelude.{Contains, IsSomeAnd, option_map, slice_get}
use Rattle.std.proofs.lemmas.Option.{same_Some}
use Rattle.isle_core.specs.declared.TermId.{TermId}
use Rattle.isle_core.specs.declared.files.Files.{Files}
use Rattle.isle_core.specs.declared.options.CodegenOptions.{CodegenOptions}
use Rattle.isle_core.specs.declared.types.Term.{Term}
use Rattle.isle_core.specs.Value.{Value, Ran, End, Made}
use Rattle.isle_core.specs.Meaning.{Meaning}
use Rattle.isle_core.specs.Space.{space_of}
use Rattle.isle_core.specs.Having.{const_of, HasAnswers}
use Rattle.isle_core.specs.HasType.{HaveTypes}
use Rattle.isle_core.specs.Lawful.{IsLawful}
use Rattle.isle_core.specs.Cut.{cut_run}
use Rattle.isle_core.specs.Nameless.{nameless_end, nameless_made, nameless_ran}
use Rattle.isle_core.specs.NamesApart.{ValuesConstants}
use Rattle.isle_core.specs.Calling.{kind_of}
use Rattle.isle_core.specs.declared.types.ReturnKind.{ReturnKind}
use Rattle.isle_core.specs.declared.types.ReturnKind.TheVariants as return_kind
use Rattle.isle_core.specs.Rule.{Environment}
use Rattle.isle_core.specs.Terms.{impure_calls, term_name, with_rules}
use Rattle.isle_tree.specs.Program.{Program, Function}
use Rattle.isle_tree.specs.Run.{run, function_of, function_run}
use Rattle.isle_outcomes.specs.Lines.{run_lines}
use Rattle.isle_operand_names.specs.Names.{body_names}
use Rattle.isle_interpreter.specs.Refusals.{MayRun}
use Rattle.isle_interpreter.proofs.Agree.{same_run}
use Rattle.isle_interpreter.proofs.Runs.{found_function}
use Rattle.isle_simulation.specs.Emitted.{ran_with, impure_ran}
use Rattle.isle_simulation.specs.Ends.{end_of}
use Rattle.isle_codegen.specs.Headline.{GivesOutcome, GivesFirst, GivesRules, GivesAs}
use Rattle.isle_run.specs.Attempt.{Attempt}
use Rattle.isle_run.specs.Conforming.{Conforms}
use Rattle.isle_run.specs.LeftOut.{leave_out}
use Rattle.isle_run.specs.Trial.{AreOutcome, AreFirst, ArePrescribed, shown_run}
use Rattle.isle_run.proofs.LeftOut.{none_left_out}
use Rattle.isle_run.proofs.NamelessLines.{lines_same}

-- what holds of the thing that is there
some_and : {A : Type 0} (P : A → Type 0) (o : Option A) (x : A) → o ≡ Some x → IsSomeAnd o P → P x
some_and P None x e h = absurd h
some_and P (Some y) x e h = let same : y ≡ x = cc in subst P same h

-- an end that is prescribed has its lines, type names of opaque numbers aside
shown_by : (calls others : List Made) (end : End) (o : Option End) → option_map nameless_end o ≡ Some (nameless_end end) → map nameless_made calls ≡ map nameless_made others
    → IsSomeAnd (option_map (ran_with others) o) (λ (x : Ran). run_lines (record { end = end; calls = calls }) ≡ run_lines x)
shown_by calls others end None same alike = absurd cc
shown_by calls others end (Some e) same alike = let ends : nameless_end end ≡ nameless_end e = cc in lines_same end e calls others ends alike

-- a run that gives what is prescribed shows it
same_lines : (env : Environment) (id : TermId) (t : Term) (args : List Value) (m : Meaning) (held : ℕ) (p : Program) (r : Ran) → run p (term_name env id) args m held ≡ Some r → GivesOutcome env p id t args m held → AreOutcome env id t args m (run_lines (shown_run env r))
same_lines env id t args m held p r e h =
    let given = some_and (GivesAs env (kind_of t.kind) h.outcome) (run p (term_name env id) args m held) r e h.given in
    record {
      outcome = h.outcome;
      prescribed = h.prescribed;
      only = h.only;
      shown = shown_by (impure_calls env r.calls) h.outcome.calls r.end (end_of (kind_of t.kind) h.outcome.result) given.end given.calls;
    }

-- a run that gives the first results that are prescribed shows them
first_lines : (options : CodegenOptions) (env : Environment) (id : TermId) (args : List Value) (m : Meaning) (held : ℕ) (p : Program) (r : Ran) → run p (term_name env id) args m held ≡ Some r → GivesFirst options env p id args m held → AreFirst options env id args m held (run_lines (shown_run env r))
first_lines options env id args m held p r e h =
    let cut : Ran = cut_run (space_of options held) h.given in
    let alike : nameless_ran (impure_ran env r) ≡ nameless_ran cut = same_Some _ _ (ap (option_map (λ (x : Ran). nameless_ran (impure_ran env x))) (sym e) ∙ h.runs) in
    record {
      given = h.given;
      prescribed = h.prescribed;
      shown = lines_same r.end cut.end (impure_calls env r.calls) cut.calls (ap (λ (x : Ran). x.end) alike) (ap (λ (x : Ran). x.calls) alike);
    }

-- a run that gives what the rules prescribe of a term which answers so often
prescribed_lines : (options : CodegenOptions) (kind : ReturnKind) (env : Environment) (id : TermId) (t : Term) (args : List Value) (m : Meaning) (held : ℕ) (p : Program) (r : Ran) → run p (term_name env id) args m held ≡ Some r → GivesRules options kind env p id t args m held
    → ArePrescribed options kind env id t args m held (run_lines (shown_run env r))
prescribed_lines options return_kind.Plain env id t args m held p r e h = same_lines env id t args m held p r e h
prescribed_lines options return_kind.Option env id t args m held p r e h = same_lines env id t args m held p r e h
prescribed_lines options return_kind.Iterator env id t args m held p r e h = first_lines options env id args m held p r e h

-- a name in the function that the answers leave out has no value under a meaning that values constants alone
no_value : (a : Attempt) (answers m : Meaning) (f : Function) → leave_out a answers ≡ false → function_of a.term a.program.fns ≡ Some f → ValuesConstants a.env m → (name : List ℕ) → Contains (body_names f.body) name → const_of answers name ≡ None → const_of m name ≡ None
no_value a answers m f kept found values name there none = by (const_of m name) refl
  where
    by : (o : Option Value) → const_of m name ≡ o → const_of m name ≡ None
    by None e = e
    by (Some v) e = let c = values name v e in absurd (none_left_out a answers f c.0 name kept found c.1 there none)

-- so it is under every lawful meaning that has the answers
pub means : (options : CodegenOptions) (files : Files) (env : Environment) (p : Program) (term : List ℕ) (args : List Value) (answers : Meaning) (held : ℕ) (f : Function) (r : Ran) (id : TermId) (t : Term)
    → leave_out (record { program = p; env = env; term = term; args = args }) answers ≡ false → Conforms options files env p → MayRun p term args answers f → run p term args answers held ≡ Some r
    → Contains (with_rules env) id → term_name env id ≡ term → slice_get env.terms id.0 ≡ Some t → f.kind ≡ kind_of t.kind → HaveTypes env args t.arg_tys
    → (m : Meaning) → IsLawful env id m → HasAnswers m answers → ArePrescribed options (kind_of t.kind) env id t args m held (run_lines (shown_run env r))
means options files env p term args answers held f r id t kept conforms may runs among named there kind types m lawful has =
    let rules = some_and (λ (t : Term). (args : List Value) (m : Meaning) (held : ℕ) → HaveTypes env args t.arg_tys → IsLawful env id m → GivesRules options (kind_of t.kind) env p id t args m held) (slice_get env.terms id.0) t there (conforms.functions.mean id among) in
    let same : run p (term_name env id) args m held ≡ Some r =
    ap (λ n. run p n args m held) named
    ∙ ap (function_run p m held args) may.found
    ∙ same_run m answers has p f args held (found_function p term p.fns f conforms.well_formed.fns may.found).fits
    may.answered (no_value (record { program = p; env = env; term = term; args = args }) answers m f kept may.found lawful.declared)
    ∙ sym (ap (function_run p answers held args) may.found)
    ∙ runs in
    prescribed_lines options (kind_of t.kind) env id t args m held p r same (rules args m held types lawful)
