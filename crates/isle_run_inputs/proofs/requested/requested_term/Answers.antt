use Rattle.std.proofs.Common.{rules, ◌≡◌, refl, sym, ◌∙◌, true, false}
use Rattle.isle_core.specs.RuleViews.{environment}
use Rattle.isle_run_inputs.proofs.FirstNamed.{first_more}
use Rattle.isle_run_inputs.proofs.requested.requested_term.Goals as goal

pub returns-then-is_named : goal.returns-then-is_named
returns-then-is_named c =
    let env = environment c.args.typeenv.now c.args.termenv.now in
    let named : c.is_named.result ≡ true = search rules in
    let terms : env.terms ≡ c.as_slice.result.now = search rules in
    first_more env c.args.name.now c.args.terms.now c.loop-listed.listed-index c.listed-item.result true c.loop-listed-test.true c.listed-item.is (sym named ∙ c.is_named.ensures env refl terms) ∙ c.loop-listed.invariant

pub loop-listed-preserved : goal.loop-listed-preserved
loop-listed-preserved c =
    let env = environment c.args.typeenv.now c.args.termenv.now in
    let other : c.is_named.result ≡ false = search rules in
    let terms : env.terms ≡ c.as_slice.result.now = search rules in
    first_more env c.args.name.now c.args.terms.now c.loop-listed.listed-index c.listed-item.result false c.loop-listed-test.true c.listed-item.is (sym other ∙ c.is_named.ensures env refl terms) ∙ c.loop-listed.invariant
