use Rattle.std.proofs.Common.{rules, ◌≡◌, [], Err, sym, ap, subst}
use Rattle.isle_core.specs.RuleViews.{environment}
use Rattle.isle_ast.specs.Views.{defs as seen}
use Rattle.isle_sema.proofs.BuiltRules.{typed_built, typed_scoped, typed_terms}
use Rattle.isle_lawful_names.specs.declared.name_error.NameFail.TheVariants.{Name}
use Rattle.isle_lawful_names.specs.NameFault.{IsNameFail}
use Rattle.isle_rulesets.specs.Grouping.{AreRuleSets}
use Rattle.isle_codegen.specs.Causes.{IsUncompiled}
use Rattle.isle_codegen.proofs.Placed.{terms_placed}
use Rattle.isle_codegen.proofs.Refusals.{rules_found, recursion_found}
use Rattle.isle_codegen.proofs.RulesApart.{typed_roots}
use Rattle.isle_checks.proofs.ListedTerms.{sets_there, sets_once}
use Rattle.isle_checks.proofs.RuleErrors.{list_of_rules}
use Rattle.isle_codegen.proofs.checked.check_defs.Goals as goal

pub check_named-requires-clause-built : goal.check_named-requires-clause-built
check_named-requires-clause-built c =
    typed_built (seen c.args.defs.now) (environment c.in-Ok.envs.0 c.in-Ok.envs.1) c.in-Ok.ensures.ok.typed

pub check_named-requires-clause-bound : goal.check_named-requires-clause-bound
check_named-requires-clause-bound c =
    typed_scoped (seen c.args.defs.now) (environment c.in-Ok.envs.0 c.in-Ok.envs.1) c.in-Ok.ensures.ok.typed

pub check_named-requires-clause-terms : goal.check_named-requires-clause-terms
check_named-requires-clause-terms c =
    typed_terms (seen c.args.defs.now) (environment c.in-Ok.envs.0 c.in-Ok.envs.1) c.in-Ok.ensures.ok.typed

pub check-requires-clause-there : goal.check-requires-clause-there
check-requires-clause-there c =
    let env = environment c.in-Ok.envs.0 c.in-Ok.envs.1 in
    let same : c.as_slice.result.now ≡ c.in-Ok-check_named.terms.items = search rules in
    let stand : AreRuleSets env c.as_slice.result.now = subst (AreRuleSets env) (sym same) (c.in-Ok-check_named.ensures.ok c.in-Ok.envs.0) in
    sets_there env c.as_slice.result.now stand (typed_roots (seen c.args.defs.now) env c.in-Ok.ensures.ok.typed)

pub check-requires-clause-once : goal.check-requires-clause-once
check-requires-clause-once c =
    let env = environment c.in-Ok.envs.0 c.in-Ok.envs.1 in
    let same : c.as_slice.result.now ≡ c.in-Ok-check_named.terms.items = search rules in
    sets_once env c.as_slice.result.now (subst (AreRuleSets env) (sym same) (c.in-Ok-check_named.ensures.ok c.in-Ok.envs.0))

pub returns-in-Err-check_named-clause-err : goal.returns-in-Err-check_named-clause-err
returns-in-Err-check_named-clause-err c =
    let env = environment c.in-Ok.envs.0 c.in-Ok.envs.1 in
    subst (λ e. IsUncompiled e c.args.files.now (seen c.args.defs.now)) (sym c.wrong.ensures)
    (rules_found c.args.files.now (seen c.args.defs.now) env c.in-Err-check_named.fail c.in-Ok.ensures.ok.typed c.requires
    (λ errors same. c.in-Err-check_named.ensures.err errors (ap Err same) c.in-Ok.envs.0) (λ errors same. c.in-Err-check_named.ensures.some errors (ap Err same)))

pub returns-in-Err-check-clause-err : goal.returns-in-Err-check-clause-err
returns-in-Err-check-clause-err c =
    let env = environment c.in-Ok.envs.0 c.in-Ok.envs.1 in
    let same : c.as_slice.result.now ≡ c.in-Ok-check_named.terms.items = search rules in
    let stand : AreRuleSets env c.as_slice.result.now = subst (AreRuleSets env) (sym same) (c.in-Ok-check_named.ensures.ok c.in-Ok.envs.0) in
    subst (λ e. IsUncompiled e c.args.files.now (seen c.args.defs.now)) (sym c.wrong-in-Err-check.ensures)
    (recursion_found c.args.files.now (seen c.args.defs.now) env c.in-Err-check.fail c.in-Ok.ensures.ok.typed c.requires (c.in-Ok-check_named.ensures.clean c.in-Ok.envs.0)
    (λ errors is. list_of_rules env c.as_slice.result.now stand (typed_roots (seen c.args.defs.now) env c.in-Ok.ensures.ok.typed) errors (c.in-Err-check.ensures.err errors (ap Err is)))
    (λ errors is. c.in-Err-check.ensures.some errors (ap Err is)))

pub returns-in-Ok-lawful_names-clause-lawful : goal.returns-in-Ok-lawful_names-clause-lawful
returns-in-Ok-lawful_names-clause-lawful c =
    let env = environment c.in-Ok.envs.0 c.in-Ok.envs.1 in
    let same : c.as_slice.result.now ≡ c.in-Ok-check_named.terms.items = search rules in
    let stand : AreRuleSets env c.as_slice.result.now = subst (AreRuleSets env) (sym same) (c.in-Ok-check_named.ensures.ok c.in-Ok.envs.0) in
    record {
      typed = c.in-Ok.ensures.ok;
      clean = c.in-Ok-check_named.ensures.clean c.in-Ok.envs.0;
      marked = list_of_rules env c.as_slice.result.now stand (typed_roots (seen c.args.defs.now) env c.in-Ok.ensures.ok.typed) [] c.in-Ok-check.ensures.ok;
      names = c.in-Ok-lawful_names.ensures.ok;
    }

pub returns-in-Ok-lawful_names-clause-places : goal.returns-in-Ok-lawful_names-clause-places
returns-in-Ok-lawful_names-clause-places c = terms_placed c.args.files.now (seen c.args.defs.now) (environment c.in-Ok.envs.0 c.in-Ok.envs.1) c.in-Ok.ensures.ok.typed c.requires

pub returns-in-Ok-lawful_names-clause-terms : goal.returns-in-Ok-lawful_names-clause-terms
returns-in-Ok-lawful_names-clause-terms c =
    let env = environment c.in-Ok.envs.0 c.in-Ok.envs.1 in
    subst (AreRuleSets env) (sym c.new.ensures) (c.in-Ok-check_named.ensures.ok c.in-Ok.envs.0)

pub returns-in-Err-Name-clause-err : goal.returns-in-Err-Name-clause-err
returns-in-Err-Name-clause-err c =
    let env = environment c.in-Ok.envs.0 c.in-Ok.envs.1 in
    let same : c.as_slice.result.now ≡ c.in-Ok-check_named.terms.items = search rules in
    let stand : AreRuleSets env c.as_slice.result.now = subst (AreRuleSets env) (sym same) (c.in-Ok-check_named.ensures.ok c.in-Ok.envs.0) in
    let named : c.in-Err-Name.field-0 ≡ Name c.in-Err-Name.name = search rules in
    record {
      env = env;
      typed = c.in-Ok.ensures.ok.typed;
      clean = c.in-Ok-check_named.ensures.clean c.in-Ok.envs.0;
      marked = list_of_rules env c.as_slice.result.now stand (typed_roots (seen c.args.defs.now) env c.in-Ok.ensures.ok.typed) [] c.in-Ok-check.ensures.ok;
      first = subst (IsNameFail c.args.files.now.file_names env) named c.in-Err-Name.ensures.err;
    }
