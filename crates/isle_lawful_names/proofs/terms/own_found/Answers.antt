use Rattle.std.proofs.Common.{◌≡◌, ◌∙◌, refl, sym, ap}
use Rattle.isle_core.specs.declared.types.TypeEnv.{TypeEnv}
use Rattle.isle_core.specs.Terms.{symbol_text, sym_text, has_rules}
use Rattle.isle_lawful_names.specs.Claims.{OfTerm}
use Rattle.isle_lawful_names.specs.Words.{is_term_name}
use Rattle.isle_lawful_names.proofs.FoundLaws.{as_test}
use Rattle.isle_lawful_names.proofs.TermSteps.{own_none, own_some}
use Rattle.isle_lawful_names.proofs.terms.own_found.Goals as goal

pub returns-then-not-ruled : goal.returns-then-not-ruled
returns-then-not-ruled c = λ env same id is. own_none env (has_rules env (record { 0 = id })) (sym_text env c.args.term.now.name) (sym is ∙ c.if-not-ruled.true)

pub returns : goal.returns
returns c = λ env same id is.
    let text = sym_text env c.args.term.now.name in
    let named : c.symbol-name.result.now ≡ text = c.symbol-name.ensures ∙ ap (λ (types : TypeEnv). symbol_text types c.args.term.now.name) (sym same) in
    own_some env (has_rules env (record { 0 = id })) text c.unless_lawful.result (sym is ∙ c.if-not-ruled.false)
    (c.unless_lawful.ensures env (OfTerm text) (as_test c.is_term_name.result (is_term_name text) (c.is_term_name.ensures ∙ ap is_term_name named)) named refl)
