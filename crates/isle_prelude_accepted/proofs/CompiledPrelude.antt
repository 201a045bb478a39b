-- Compiling the prelude of supported and plain tables is refused only for want of memory.
use Rattle.std.proofs.Common.{◌≡◌, ℕ, List, [], Some, refl, sym, ◌∙◌, subst}
use Rattle.isle_core.specs.Rule.{Environment}
use Rattle.isle_core.specs.declared.errors.Error.{Error}
use Rattle.isle_core.specs.declared.options.CodegenOptions.{CodegenOptions}
use Rattle.isle_core.specs.Inputs.{AreRead}
use Rattle.isle_outside.specs.Directory.{Contents}
use Rattle.isle_ast.specs.Tree.{Def}
use Rattle.isle_checks.specs.CheckList.{IsCheckList}
use Rattle.isle_checks.specs.RuleErrors.{IsRecursionOf}
use Rattle.isle_checks.proofs.ListOnce.{none_wrong}
use Rattle.isle_checks.proofs.RuleErrors.{recursion_once}
use Rattle.isle_codegen.specs.declared.compile_error.CompileError.TheVariants as compile_error
use Rattle.isle_codegen.specs.declared.file_error.FileError.{FileError}
use Rattle.isle_codegen.specs.declared.file_error.FileError.TheVariants as error
use Rattle.isle_codegen.specs.Causes.{HasCause, printed}
use Rattle.isle_codegen.specs.Errors.{HaveDefErrors, of_types, of_rules, of_recursion}
use Rattle.isle_codegen.specs.LawfulEnvironment.{AreAccepted, IsLawfulEnvironment}
use Rattle.isle_codegen.proofs.Accepted.{accepted_named, accepted_none}
use Rattle.isle_codegen.proofs.LawfulNames.{none_unlawful}
use Rattle.isle_lawful_names.specs.NameFault.{IsNameFault}
use Rattle.isle_meta.specs.declared.tables.Tables.{Tables}
use Rattle.isle_sema.proofs.ToldFaults.{untold}
use Rattle.isle_sema.proofs.TypedOnce.{typed_once}
use Rattle.isle_table_check.specs.SupportedTables.{AreSupported}
use Rattle.isle_prelude_accepted.specs.Compiled.{AreDefsCompiled, AreFilesCompiled, ArePreludeFiles, AreTextsCompiled}
use Rattle.isle_prelude_accepted.specs.Plain.{ArePlain}
use Rattle.isle_prelude_accepted.proofs.AcceptedTexts.{prelude_accepted}
use Rattle.isle_prelude_accepted.proofs.PreludeAccepted.{prelude_lawful}
use Rattle.isle_prelude_accepted.proofs.ReadFiles.{all_read, read_once}

-- definitions with a lawful environment have no errors
none_wrong_with : (names : List (List ℕ)) (defs : List Def) (env : Environment) (errors : List Error) → IsLawfulEnvironment names defs env
    → HaveDefErrors defs errors → ⊥
none_wrong_with names defs env errors l (of_types h) = untold defs h.error l.typed.typed.sound h.told
none_wrong_with names defs env errors l (of_rules h) =
    h.some (none_wrong env errors l.clean (subst (λ (e : Environment). IsCheckList e errors) (typed_once l.typed.typed h.typed) h.list))
none_wrong_with names defs env errors l (of_recursion h) =
    h.some (recursion_once env errors [] (subst (λ (e : Environment). IsRecursionOf e errors) (typed_once l.typed.typed h.typed) h.list) l.marked)

-- ---- definitions

pub defs_compiled : (t : Tables) → AreSupported t → ArePlain t → AreDefsCompiled t
defs_compiled t supported plain files defs (compile_error.Errors errors) names same h =
    let l = prelude_lawful t supported plain files.file_names defs names same in
    absurd (none_wrong_with files.file_names defs l.0 errors l.1 h.cause)
defs_compiled t supported plain files defs (compile_error.Name e) names same h =
    let l = prelude_lawful t supported plain files.file_names defs names same in
    absurd (none_unlawful files.file_names l.0 e l.1.names (subst (λ (env : Environment). IsNameFault files.file_names env e) (typed_once l.1.typed.typed h.typed) h.first))
defs_compiled t supported plain files defs compile_error.Memory names same h = refl

-- ---- texts

files_accepted : (t : Tables) (names texts : List (List ℕ)) → AreSupported t → ArePlain t → ArePreludeFiles t names texts → AreAccepted names texts
files_accepted t names texts supported plain p = prelude_accepted t supported plain names texts p.parts p.lawful p.spelt p.together

pub texts_compiled : (t : Tables) → AreSupported t → ArePlain t → AreTextsCompiled t
texts_compiled t supported plain files (compile_error.Errors errors) p h =
    absurd (accepted_none files errors (files_accepted t files.file_names files.file_texts supported plain p) h)
texts_compiled t supported plain files (compile_error.Name e) p h =
    absurd (accepted_named files.file_names files.file_texts e (files_accepted t files.file_names files.file_texts supported plain p) h)
texts_compiled t supported plain files compile_error.Memory p h = refl

-- ---- files

pub files_compiled : (t : Tables) → AreSupported t → ArePlain t → AreFilesCompiled t
files_compiled t supported plain options names texts fs before after e p r calm h = by e h
  where
    accepted : (found : List (List ℕ)) → AreRead fs names found → AreAccepted (printed options names) found
    accepted found k = subst (AreAccepted (printed options names)) (read_once fs names texts found r k) (files_accepted t (printed options names) texts supported plain p)

    by : (f : FileError) → HasCause f options (Some fs) names before after → f ≡ error.Memory
    by (error.Io index why) k = absurd (all_read fs names texts index why before after r calm k)
    by (error.Errors errors) k =
        absurd (accepted_none (record { file_names = printed options names; file_texts = k.1.texts }) errors.errors (accepted k.1.texts k.1.read) k.1.errors.errors)
    by (error.Name name) k = absurd (accepted_named (printed options names) k.1.texts name (accepted k.1.texts k.1.read) k.1.error)
    by error.Memory k = refl
