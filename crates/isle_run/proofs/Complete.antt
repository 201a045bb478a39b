-- Where a term can be run there are lines, or memory ran out.
use Rattle.std.proofs.Common.{◌≡◌, ℕ, List, ◌++◌, map, true, false, Some, refl, sym, ap, ◌∙◌, subst}
use Rattle.isle_core.specs.declared.files.Files.{Files}
use Rattle.isle_core.specs.declared.options.CodegenOptions.{CodegenOptions}
use Rattle.isle_core.specs.declared.types.Term.{Term}
use Rattle.isle_core.specs.Meaning.{Meaning}
use Rattle.isle_core.specs.Rule.{Environment}
use Rattle.isle_core.specs.Terms.{with_rules, goes_to}
use Rattle.isle_core.specs.Value.{Value}
use Rattle.isle_answers.specs.Form.{Form}
use Rattle.isle_answers.specs.Spelling.{SpellsForms}
use Rattle.isle_answers.proofs.FaultOnce.{fault_unspelt}
use Rattle.isle_answers.proofs.Files.{forms_once}
use Rattle.isle_ast.specs.Tree.{Def}
use Rattle.isle_sema.specs.Typing.{Typed}
use Rattle.isle_values.specs.Written.{Writtens}
use Rattle.isle_tree.specs.declared.tree.Ty.{Ty}
use Rattle.isle_tree.specs.declared.tree.TypeItem.{TypeItem}
use Rattle.isle_tree.specs.Program.{Program}
use Rattle.isle_interpreter.specs.Entries.{Cases, Turns, answers_for, gives}
use Rattle.isle_interpreter.specs.Refusals as refusal
use Rattle.isle_interpreter.specs.Refusals.{MayRun, IsRefused}
use Rattle.isle_places.specs.Signatures.{type_names}
use Rattle.isle_interpreter.specs.Named.{AreNamed}
use Rattle.isle_interpreter.specs.declared.run_error.RunError.TheVariants as error
use Rattle.isle_interpreter.proofs.OneRefusal.{not_refused}
use Rattle.isle_simulation.specs.TypeTexts.{parameter, type_text}
use Rattle.isle_run_inputs.specs.AnswersAt.{answers_at, constants_at, cases_at, turns_at}
use Rattle.isle_codegen.specs.Checked.{IsChecked}
use Rattle.isle_codegen.proofs.Accepted.{accepted_none, accepted_named, checked_accepted}
use Rattle.isle_run.specs.declared.run_fail.RunFail.{RunFail}
use Rattle.isle_run.specs.declared.trials.TrialFail.{TrialFail}
use Rattle.isle_run.specs.declared.trials.TrialFail.TheVariants as fail
use Rattle.isle_codegen.specs.declared.compile_error.CompileError.TheVariants as compiling
use Rattle.isle_run.specs.Conforming.{Conforms}
use Rattle.isle_run.specs.LeftOut.{leave_out}
use Rattle.isle_run.specs.NoLines as no_lines
use Rattle.isle_run.specs.NoLines.{IsRunRefused, IsSourceRefused, HasNoLines, IsWant}
use Rattle.isle_run.specs.Trial.{args_given}
use Rattle.isle_run.specs.Valid.{AreWanted, CanRun}
use Rattle.isle_run.proofs.LawfulNames.{HasLawfulNames}
use Rattle.isle_run.proofs.SourceNames.{lawful_names}
use Rattle.isle_run.proofs.RequestedTerms.{HasFunction, requested_function}
use Rattle.isle_run.proofs.NamedTypes.{are_named}
use Rattle.isle_core.proofs.AllLaws.{all_front, all_back}
use Rattle.isle_core.proofs.OptionLaws.{some_same}
use Rattle.isle_run.proofs.RightEntries.{names_of, as_entries, all_right, cased_back, answered_back, given_back}

-- ---- the source

-- files that are checked have one environment
same_env : (files : Files) (a b : Environment) → IsChecked files a → IsChecked files b → b ≡ a
same_env files a b c d = c.lawful.typed.only b (subst (λ (ds : List Def). Typed ds b) (c.once d.defs d.source) d.lawful.typed.typed)

-- ---- the answers

forms_same : (text : List ℕ) (fs gs : List Form) → SpellsForms text fs → SpellsForms text gs → fs ≡ gs
forms_same text fs gs s t = forms_once _ fs gs s.tokens t.tokens

-- ---- the function

-- refusals before any answer is looked at are the same under all answers
no_term_of : (p : Program) (term : List ℕ) (args : List Value) (m n : Meaning) → IsRefused p term args m error.NoTerm → IsRefused p term args n error.NoTerm
no_term_of p term args m n (refusal.no_term e) = refusal.no_term e

count_of : (p : Program) (term : List ℕ) (args : List Value) (m n : Meaning) → IsRefused p term args m error.ArgCount → IsRefused p term args n error.ArgCount
count_of p term args m n (refusal.arg_count f e k) = refusal.arg_count f e k

type_of : (p : Program) (term : List ℕ) (args : List Value) (m n : Meaning) (i : ℕ) → IsRefused p term args m (error.ArgType i) → IsRefused p term args n (error.ArgType i)
type_of p term args m n _ (refusal.arg_type f i e k w) = refusal.arg_type f i e k w

module _ (options : CodegenOptions) (files : Files) (term : List ℕ) (ws : Writtens) (text : List ℕ) (c : CanRun options files term ws text) (p : Program) (conforms : Conforms options files c.env p) where
  abbrev names : HasLawfulNames c.env
  names = lawful_names files c.env c.checked

  abbrev wanted : AreWanted (record { program = p; env = c.env; term = term; args = args_given c.env term ws }) (answers_at c.env c.forms)
  wanted = c.wanted p conforms

  abbrev answers : Meaning
  answers = answers_at c.env c.forms

  abbrev args : List Value
  args = args_given c.env term ws

  abbrev the_function : HasFunction options files c.env term p.fns c.id
  the_function = requested_function options files c.env term (with_rules c.env) p.fns c.id conforms.functions.declared conforms.functions.blocks c.requested

  named : AreNamed p.types (type_names the_function.function.params) args
  named =
      let tys = c.declared.arg_tys in
      let is : the_function.declared.term ≡ c.declared = some_same the_function.declared.term c.declared (sym the_function.declared.found ∙ c.found) in
      let params : the_function.function.params ≡ map (parameter c.env) tys = the_function.declared.of_term.params ∙ ap (λ (t : Term). map (parameter c.env) t.arg_tys) is in
      subst (λ (ps : List Ty). AreNamed p.types (type_names ps) args) (sym params)
      (subst (λ ns. AreNamed p.types ns args) (names_of c.env tys) (subst (λ (types : List TypeItem). AreNamed types (map (type_text c.env) tys) args) (sym conforms.frame.types) (are_named c.env names.has_rules names.lawful names.builtins tys args c.typed)))

  may : MayRun p term args answers the_function.function
  may = record {
    found = the_function.found;
    typed = named;
    right = all_right options files c.env names p conforms the_function.function answers (constants_at c.env c.forms) (cases_at c.env c.forms) (turns_at c.env c.forms) c.constants wanted.stand wanted.fit (wanted.apart the_function.function the_function.found) c.extracted c.right;
    answered = λ callee k none.
        let cases = cases_at c.env c.forms in
        let turns = turns_at c.env c.forms in
        let behind = all_back (λ f. goes_to callee (answers_for f) ≡ false) (as_entries (constants_at c.env c.forms)) (map Cases cases ++ map Turns turns) none in
        wanted.answered the_function.function the_function.found callee k
        (cased_back callee cases (all_front (λ f. goes_to callee (answers_for f) ≡ false) (map Cases cases) (map Turns turns) behind))
        (answered_back callee turns (all_back (λ f. goes_to callee (answers_for f) ≡ false) (map Cases cases) (map Turns turns) behind));
    given = λ name ty k free none.
        wanted.given the_function.function the_function.found name ty k free
        (given_back name (constants_at c.env c.forms) (all_front (λ f. gives name f ≡ false) (as_entries (constants_at c.env c.forms)) (map Cases (cases_at c.env c.forms) ++ map Turns (turns_at c.env c.forms)) none));
  }

  -- such a run isn't refused
  pub run_not_refused : (e : RunFail) → IsRunRefused (record { program = p; env = c.env; term = term; args = args }) text e → ⊥
  run_not_refused _ (no_lines.no_term m h) = not_refused p term args answers the_function.function _ may (no_term_of p term args m answers h)
  run_not_refused _ (no_lines.arg_count m h) = not_refused p term args answers the_function.function _ may (count_of p term args m answers h)
  run_not_refused _ (no_lines.arg_type m i h) = not_refused p term args answers the_function.function _ may (type_of p term args m answers i h)
  run_not_refused _ (no_lines.fault at takes h) = fault_unspelt text at c.forms h c.spelt
  run_not_refused _ (no_lines.wrong forms i spelt h) =
      not_refused p term args answers the_function.function _ may (subst (λ fs. IsRefused p term args (answers_at c.env fs) (error.BadAnswers i)) (forms_same text forms c.forms spelt c.spelt) h)
  run_not_refused _ (no_lines.left_out forms spelt runs h) =
      let left : leave_out (record { program = p; env = c.env; term = term; args = args }) answers ≡ true = subst (λ fs. leave_out (record { program = p; env = c.env; term = term; args = args }) (answers_at c.env fs) ≡ true) (forms_same text forms c.forms spelt c.spelt) h in
      let same : true ≡ false = sym left ∙ wanted.kept in
      absurd cc

source_not_refused : (options : CodegenOptions) (files : Files) (term : List ℕ) (ws : Writtens) (text : List ℕ) (e : RunFail) (c : CanRun options files term ws text) → IsSourceRefused options files term ws text e → ⊥
source_not_refused options files term ws text e c s =
    let same : s.env ≡ c.env = same_env files c.env s.env c.checked s.checked in
    run_not_refused options files term ws text c s.program (subst (λ env. Conforms options files env s.program) same s.conforms) e
    (subst (λ env. IsRunRefused (record { program = s.program; env = env; term = term; args = args_given env term ws }) text e) same s.refused)

-- if it can be run, only memory is wanting
pub only_memory : (options : CodegenOptions) (files : Files) (term : List ℕ) (ws : Writtens) (text : List ℕ) (e : TrialFail) → CanRun options files term ws text → HasNoLines options files term ws text e → IsWant e
only_memory options files term ws text (fail.Source (compiling.Errors errors)) c h = absurd (accepted_none files errors (checked_accepted files c.env c.checked) h)
only_memory options files term ws text (fail.Source (compiling.Name e)) c h = absurd (accepted_named files.file_names files.file_texts e (checked_accepted files c.env c.checked) h)
only_memory options files term ws text (fail.Source compiling.Memory) c h = tt
only_memory options files term ws text (fail.Run _) c (no_lines.refused e s) = absurd (source_not_refused options files term ws text e c s)
only_memory options files term ws text (fail.Run _) c no_lines.memory = refl
