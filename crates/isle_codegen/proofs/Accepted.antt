-- Texts that are accepted have no errors.
use Rattle.std.proofs.Common.{◌≡◌, ℕ, List, [], ◌∷◌, sym, ◌∙◌, subst}
use Rattle.isle_core.specs.declared.errors.Error.{Error}
use Rattle.isle_core.specs.declared.errors.Error.TheVariants as error
use Rattle.isle_core.specs.declared.files.Files.{Files}
use Rattle.isle_core.specs.Rule.{Environment}
use Rattle.isle_ast.specs.Tree.{Def}
use Rattle.isle_sema.specs.Typing.{Typed}
use Rattle.isle_sema.proofs.TypedOnce.{typed_once}
use Rattle.isle_sema.proofs.ToldFaults.{untold}
use Rattle.isle_types.specs.Single.{single}
use Rattle.isle_checks.specs.CheckList.{IsCheckList, IsClean}
use Rattle.isle_checks.proofs.ListOnce.{none_wrong}
use Rattle.isle_checks.specs.RuleErrors.{IsRecursionOf}
use Rattle.isle_checks.proofs.RuleErrors.{recursion_once}
use Rattle.isle_codegen.specs.Checked.{IsChecked}
use Rattle.isle_codegen.specs.Errors.{HaveErrors, HaveDefErrors, of_parsing, of_defs, of_types, of_rules, of_recursion, AreErrorsOfTexts, IsNameError}
use Rattle.isle_codegen.proofs.Sources.{wrong_unspelt}
use Rattle.isle_codegen.proofs.LawfulNames.{none_unlawful}
use Rattle.isle_lawful_names.specs.declared.name_error.NameError.{NameError}
use Rattle.isle_lawful_names.specs.NameFault.{IsNameFault}
use Rattle.isle_codegen.specs.LawfulEnvironment.{AreAccepted}

none_of_defs : (defs : List Def) (env : Environment) (errors : List Error) → Typed defs env → IsClean env → IsRecursionOf env [] → HaveDefErrors defs errors → ⊥
none_of_defs defs env errors typed clean marked (of_types h) = untold defs h.error typed.sound h.told
none_of_defs defs env errors typed clean marked (of_rules h) =
    h.some (none_wrong env errors clean (subst (λ (e : Environment). IsCheckList e errors) (typed_once typed h.typed) h.list))
none_of_defs defs env errors typed clean marked (of_recursion h) =
    h.some (recursion_once env errors [] (subst (λ (e : Environment). IsRecursionOf e errors) (typed_once typed h.typed) h.list) marked)

none_have : (names texts : List (List ℕ)) (errors : List Error) → AreAccepted names texts → HaveErrors texts errors → ⊥
none_have names texts errors a (of_parsing pos wrong one) = wrong_unspelt 0 texts pos a.defs wrong a.source
none_have names texts errors a (of_defs defs source once h) =
    none_of_defs defs a.env errors (subst (λ (ds : List Def). Typed ds a.env) (once a.defs a.source) a.lawful.typed.typed) a.lawful.clean a.lawful.marked h

-- texts that are accepted have no errors
pub accepted_none : (files : Files) (errors : List Error) → AreAccepted files.file_names files.file_texts → AreErrorsOfTexts errors files → ⊥
accepted_none files errors a h = none_have files.file_names files.file_texts errors a h.cause

-- if texts are accepted, no name is one that may not be emitted
pub accepted_named : (names texts : List (List ℕ)) (e : NameError) → AreAccepted names texts → IsNameError names texts e → ⊥
accepted_named names texts e a h =
    let same = typed_once (subst (λ (ds : List Def). Typed ds a.env) (h.once a.defs a.source) a.lawful.typed.typed) h.error.typed in
    none_unlawful names a.env e a.lawful.names (subst (λ (env : Environment). IsNameFault names env e) same h.error.first)

-- files that pass the check have texts that are accepted
pub checked_accepted : (files : Files) (env : Environment) → IsChecked files env → AreAccepted files.file_names files.file_texts
checked_accepted files env h = record { defs = h.defs; env = env; source = h.source; lawful = h.lawful }

-- errors of texts are some
pub some_errors : (files : Files) (errors : List Error) → AreErrorsOfTexts errors files → errors ≡ [] → ⊥
some_errors files errors h = of_texts h.cause
  where
    of_definitions : {defs : List Def} → HaveDefErrors defs errors → errors ≡ [] → ⊥
    of_definitions (of_types k) none = let bad : k.error ∷ [] ≡ [] = sym k.one ∙ none in cc
    of_definitions (of_rules k) none = k.some none
    of_definitions (of_recursion k) none = k.some none

    of_texts : HaveErrors files.file_texts errors → errors ≡ [] → ⊥
    of_texts (of_parsing pos wrong k) none = let bad : error.ParseError k.words (single pos) ∷ [] ≡ [] = sym k.one ∙ none in cc
    of_texts (of_defs defs source once k) none = of_definitions k none
