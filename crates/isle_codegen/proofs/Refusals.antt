-- Refusals of the texts of files.
use Rattle.std.proofs.Common.{◌≡◌, ◌⊎◌, ⊎_elim, ℕ, zero, suc, List, [], ◌∷◌, length, map, Bool, true, false, Option, Some, None, refl, sym, ap, ◌∙◌, subst}
use Rattle.std.specs.Prelude.{All, IfSome, slice_get}
use Rattle.std.proofs.lemmas.List.Elements.{All-from_recursion}
use Rattle.isle_outside.specs.Directory.{Contents, Counts}
use Rattle.isle_core.specs.declared.options.CodegenOptions.{CodegenOptions}
use Rattle.isle_core.specs.declared.errors.Error.{Error}
use Rattle.isle_core.specs.declared.errors.Error.TheVariants as told_error
use Rattle.isle_core.specs.declared.position.Pos.{Pos}
use Rattle.isle_core.specs.ErrorLines.{IsPlaced}
use Rattle.isle_core.specs.Places.{LiesIn}
use Rattle.isle_core.specs.declared.files.Files.{Files}
use Rattle.isle_core.specs.Inputs.{AreRead}
use Rattle.isle_core.specs.Rule.{Environment}
use Rattle.isle_ast.specs.Tree.{Def}
use Rattle.isle_sema.specs.Typing.{Typed, fault}
use Rattle.isle_types.specs.Gathered.{TellsTyping}
use Rattle.isle_checks.specs.CheckList.{IsCheckList, IsClean}
use Rattle.isle_checks.proofs.PlacedErrors.{errors_placed}
use Rattle.isle_checks.specs.declared.overlap.CheckError.{CheckError}
use Rattle.isle_checks.specs.declared.overlap.CheckError.TheVariants as check
use Rattle.isle_codegen.specs.declared.compile_error.CompileError.{CompileError}
use Rattle.isle_codegen.specs.declared.compile_error.CompileError.TheVariants as compile_error
use Rattle.isle_codegen.specs.declared.file_error.FileError.{FileError}
use Rattle.isle_codegen.specs.declared.file_error.FileError.TheVariants as error
use Rattle.isle_codegen.specs.Causes.{printed, of_check, of_texts, IsUncompiled, IsTextRefusal, IsRefusal, AllTried, HasCause}
use Rattle.isle_codegen.specs.Emission.{DefsArePlaced}
use Rattle.isle_codegen.specs.Errors.{IsErrors, IsNameError, TellsParseError, of_parsing, of_defs as of_source, of_types, of_rules, of_recursion}
use Rattle.isle_codegen.specs.Source.{Source, GoesWrong}
use Rattle.isle_codegen.proofs.Placed.{terms_placed, rules_placed, wrong_placed, typing_placed}
use Rattle.isle_checks.specs.Recursions.{told_before, recursion_error}
use Rattle.isle_checks.specs.RuleErrors.{AreUnmarkedTerms, IsRecursionOf}
use Rattle.isle_core.specs.declared.TermId.{TermId}
use Rattle.isle_core.specs.declared.types.Term.{Term}
use Rattle.isle_core.specs.Terms.{with_rules}
use Rattle.isle_types.specs.Single.{single}
use Rattle.std.specs.List.{AllByRecursion}
use Rattle.std.proofs.lemmas.Option.{same_Some}

-- why texts give no text, if the definitions that they spell give none
pub of_defs : (e : CompileError) (files : Files) (defs : List Def) → Source 0 files.file_texts defs → ((others : List Def) → Source 0 files.file_texts others → others ≡ defs) → IsUncompiled e files defs → IsTextRefusal e files
of_defs (compile_error.Errors errors) files defs source once h = record { placed = h.placed; cause = of_source defs source once h.cause }
of_defs (compile_error.Name name) files defs source once h = record { defs = defs; source = source; once = once; error = h }
of_defs compile_error.Memory files defs source once h = tt

-- and so of the files
pub of_read : (e : CompileError) (files : Files) → IsTextRefusal e files → IsRefusal (of_texts files e) files.file_names files.file_texts
of_read (compile_error.Errors errors) files h = record { given = refl; errors = h }
of_read (compile_error.Name name) files h = h
of_read compile_error.Memory files h = tt

-- the error of a text that goes wrong
pub parse_refusal : (e : CompileError) (files : Files) (pos : Pos) → length files.file_texts ≡ length files.file_names → TellsParseError e pos → GoesWrong 0 files.file_texts pos → IsTextRefusal e files
parse_refusal compile_error.Memory files pos same h wrong = tt
parse_refusal (compile_error.Errors errors) files pos same h wrong =
    record {
      placed = subst (λ es. All (IsPlaced files) es) (sym h.one) (All-from_recursion (IsPlaced files) (told_error.ParseError h.words (single pos) ∷ []) (wrong_placed files pos same wrong, tt));
      cause = of_parsing pos wrong h;
    }
parse_refusal (compile_error.Name name) files pos same h wrong = absurd h

-- the errors of terms that use themselves, which are declared in the files
recursion_placed : (files : Files) (ts : List Term) (ids : List TermId) (ps : List Pos) (env : Environment) → env.terms ≡ ts → AllByRecursion (λ (t : Term). LiesIn files t.decl_pos) ts → AreUnmarkedTerms env ids ps → AllByRecursion (LiesIn files) ps
recursion_placed files ts [] ps env is placed h = subst (AllByRecursion (LiesIn files)) (sym h) tt
recursion_placed files ts (id ∷ ids) ps env is placed h =
    subst (AllByRecursion (LiesIn files)) (sym h.4) (by h.0 (slice_get env.terms id.0) (λ t e. placed_at ts id.0 t placed (ap (λ us. slice_get us id.0) (sym is) ∙ e)) (recursion_placed files ts ids h.1 env is placed h.3))
  where
    placed_at : (us : List Term) (i : ℕ) (t : Term) → AllByRecursion (λ (u : Term). LiesIn files u.decl_pos) us → slice_get us i ≡ Some t → LiesIn files t.decl_pos
    placed_at [] i t k e = cc
    placed_at (u ∷ us) zero t k e = subst (λ (x : Term). LiesIn files x.decl_pos) (same_Some u t e) k.0
    placed_at (u ∷ us) (suc i) t k e = placed_at us i t k.1 e

    by : (b : Bool) (o : Option Term) → ((t : Term) → o ≡ Some t → LiesIn files t.decl_pos) → AllByRecursion (LiesIn files) h.1 → AllByRecursion (LiesIn files) (told_before b o h.1)
    by false o k rest = rest
    by true None k rest = rest
    by true (Some t) k rest = (k t refl, rest)

errors_lie : (files : Files) (ps : List Pos) → AllByRecursion (LiesIn files) ps → AllByRecursion (IsPlaced files) (map recursion_error ps)
errors_lie files [] h = tt
errors_lie files (p ∷ ps) h = (h.0, errors_lie files ps h.1)

-- what the check of rules found, over files in which the definitions stand
pub rules_found : (files : Files) (defs : List Def) (env : Environment) (fail : CheckError) → Typed defs env → DefsArePlaced files defs
    → ((errors : List Error) → fail ≡ check.Rules errors → IsCheckList env errors) → ((errors : List Error) → fail ≡ check.Rules errors → errors ≡ [] → ⊥) → IsUncompiled (of_check fail) files defs
rules_found files defs env (check.Rules errors) typed placed list some = record {
  placed = errors_placed files env errors (rules_placed files defs env typed placed) (list errors refl);
  cause = of_rules (record { env = env; typed = typed; list = list errors refl; some = some errors refl });
}
rules_found files defs env check.Memory typed placed list some = tt

-- what the check of terms that use themselves found
pub recursion_found : (files : Files) (defs : List Def) (env : Environment) (fail : CheckError) → Typed defs env → DefsArePlaced files defs → IsClean env
    → ((errors : List Error) → fail ≡ check.Rules errors → IsRecursionOf env errors) → ((errors : List Error) → fail ≡ check.Rules errors → errors ≡ [] → ⊥) → IsUncompiled (of_check fail) files defs
recursion_found files defs env (check.Rules errors) typed placed clean list some =
    let told = list errors refl in
    record {
      placed = subst (All (IsPlaced files)) (sym told.2) (All-from_recursion (IsPlaced files) (map recursion_error told.0) (errors_lie files told.0 (recursion_placed files env.terms (with_rules env) told.0 env refl (terms_placed files defs env typed placed) told.1)));
      cause = of_recursion (record { env = env; typed = typed; clean = clean; list = told; some = some errors refl });
    }
recursion_found files defs env check.Memory typed placed clean list some = tt

-- the one error of a fault, in which the definitions stand
pub typing_told : (e : CompileError) (files : Files) (defs : List Def) (error : Error) → (e ≡ compile_error.Memory) ⊎ (e ≡ compile_error.Errors (error ∷ [])) → DefsArePlaced files defs → TellsTyping (fault defs) (Some error)
    → IsUncompiled e files defs
typing_told e files defs error is placed told = ⊎_elim
    (λ s. subst (λ x. IsUncompiled x files defs) (sym s) tt)
    (λ s. subst (λ x. IsUncompiled x files defs) (sym s) (record {
      placed = All-from_recursion (IsPlaced files) (error ∷ []) (typing_placed files defs error placed told, tt);
      cause = of_types (record { error = error; told = told; one = refl });
    }))
    is

-- after inputs that were read, a refusal of their texts is one of the files
pub read_cause : (e : FileError) (options : CodegenOptions) (files : Option Contents) (inputs names texts : List (List ℕ)) (before after : Counts) → names ≡ printed options inputs
    → AllTried inputs before after → IfSome files (λ fs. AreRead fs inputs texts) → IsRefusal e names texts → HasCause e options files inputs before after
read_cause error.Memory options files inputs names texts before after is tried read h = tried.1
read_cause (error.Io index why) options files inputs names texts before after is tried read h = absurd h
read_cause (error.Errors errors) options files inputs names texts before after is tried read h = (tried, record { texts = texts; read = read; errors = subst (λ (ns : List (List ℕ)). IsErrors errors ns texts) is h })
read_cause (error.Name name) options files inputs names texts before after is tried read h = (tried, record { texts = texts; read = read; error = subst (λ (ns : List (List ℕ)). IsNameError ns texts name) is h })
