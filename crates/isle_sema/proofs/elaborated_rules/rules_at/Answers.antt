use Rattle.std.proofs.Common.{subst}
use Rattle.std.specs.Prelude.{Contains}
use Rattle.isle_ast.specs.Views.{defs as seen_defs}
use Rattle.isle_declarations.specs.declared.collected.RuleDef.{RuleDef}
use Rattle.isle_declarations.specs.Collected.{rule as seen}
use Rattle.isle_declarations.specs.Symbols.{symbols}
use Rattle.isle_declarations.proofs.NumberLaws.{item_number}
use Rattle.isle_declarations.specs.Signatures.{rule_defs}
use Rattle.isle_terms.specs.Whole.{whole}
use Rattle.isle_sema.specs.RulesFound.{IsRuleFound}
use Rattle.isle_sema.proofs.RuleSteps.{rule_contained, rule_more, rule_broken}
use Rattle.isle_sema.proofs.elaborated_rules.rules_at.Goals as goal

pub rule_at-requires-clause-number : goal.rule_at-requires-clause-number
rule_at-requires-clause-number c =
    item_number (λ (r : RuleDef). r.term.now) (λ (r : RuleDef). r.number) (symbols (seen_defs c.args.known.now)) c.args.given.now c.loop-number.number c.index-given-number.result _ c.requires.rules.numbered c.loop-number-test.true c.index-given-number.is

pub rule_at-requires-clause-declared : goal.rule_at-requires-clause-declared
rule_at-requires-clause-declared c =
    let r = c.index-given-number.result in
    c.requires.declared (seen r) (subst (λ rs. Contains rs (seen r)) c.requires.rules.seen (rule_contained c.args.given.now c.loop-number.number r _ c.loop-number-test.true c.index-given-number.is))

pub returns-in-Err : goal.returns-in-Err
returns-in-Err c =
    let w = whole c.args.known.now in
    let r = c.index-given-number.result in
    rule_broken w (rule_defs (seen_defs c.args.known.now)) c.args.given.now c.loop-number.number c.loop-number.rules.items r _ c.in-Err.breach.row c.loop-number-test.true c.index-given-number.is
    (subst (λ f. IsRuleFound w c.loop-number.number (seen r) f) c.in-Err.is c.in_ok-found.ensures) c.loop-number.invariant

pub loop-number-preserved : goal.loop-number-preserved
loop-number-preserved c =
    let w = whole c.args.known.now in
    let r = c.index-given-number.result in
    rule_more w (rule_defs (seen_defs c.args.known.now)) c.args.given.now c.loop-number.number c.loop-number.rules.items c.push.new.self.items r _ c.in-Ok.found c.loop-number-test.true c.index-given-number.is c.in_ok-push-in-Ok.ensures.items
    (subst (λ f. IsRuleFound w c.loop-number.number (seen r) f) c.in-Ok.is c.in_ok-found.ensures) c.loop-number.invariant
