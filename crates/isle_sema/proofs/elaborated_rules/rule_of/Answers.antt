use Rattle.std.proofs.Common.{◌≡◌, rules, cond, None, Some, length, map, ap, sym, subst, ◌∙◌}
use Rattle.std.specs.Prelude.{option_map}
use Rattle.std.proofs.lemmas.List.{length-map}
use Rattle.isle_core.specs.RuleViews.{rule as elaborated_rule}
use Rattle.isle_ast.specs.Views.{pattern, defs as seen_defs}
use Rattle.isle_declarations.specs.Collected.{rule as seen}
use Rattle.isle_types.specs.declared.row.Row.TheVariants as row
use Rattle.isle_types.specs.Fault.{or_later}
use Rattle.isle_terms.specs.Whole.{whole}
use Rattle.isle_sema.specs.RulePass.{written_pass}
use Rattle.isle_sema.specs.RuleRows.{is_large}
use Rattle.isle_sema.specs.RulesFound.{found_rule, IsRuleFound}
use Rattle.isle_sema.specs.Templates.{templates}
use Rattle.isle_sema.proofs.Judgements.{AreMultis}
use Rattle.isle_sema.proofs.RuleLaws.{lowest_found, written_is, found_made}
use Rattle.isle_sema.proofs.TreedRules.{never_untreed}
use Rattle.isle_sema.proofs.elaborated_rules.rule_of.Goals as goal

pub returns-in-Some : goal.returns-in-Some
returns-in-Some c =
    let w = whole c.args.known.now in
    let r = seen c.args.given.now in
    let sides = c.in_ok-sides.sides in
    let listed : c.args.extractors.now.multis.items ≡ c.as_slice.result.now = search rules in
    let marks = subst (AreMultis w) listed c.requires.multis in
    let found = lowest_found w r c.args.own.now c.as_slice.result sides c.lowest_row.result (length c.args.given.now.args.now) marks c.requires.own c.in_ok-sides.ensures (sym (length-map c.args.given.now.args.now pattern)) c.lowest_row.ensures in
    sym found ∙ ap (λ o. or_later o (cond (is_large w r) (Some row.ManyNodes) None)) c.in-Some.is

pub unreachable-requires : goal.unreachable-requires
unreachable-requires c =
    let w = whole c.args.known.now in
    let r = seen c.args.given.now in
    let sides = c.in_ok-sides.sides in
    let listed : c.args.extractors.now.multis.items ≡ c.as_slice.result.now = search rules in
    let marks = subst (AreMultis w) listed c.requires.multis in
    let none : c.lowest_row.result ≡ None = search rules in
    let lowest = lowest_found w r c.args.own.now c.as_slice.result sides c.lowest_row.result (length c.args.given.now.args.now) marks c.requires.own c.in_ok-sides.ensures (sym (length-map c.args.given.now.args.now pattern)) c.lowest_row.ensures in
    let kept = ap (λ o. or_later o (cond (is_large w r) (Some row.ManyNodes) None)) (sym none) ∙ lowest in
    let missing : written_pass w c.args.number r ≡ None = sym (written_is w c.args.number r c.args.own.now c.as_slice.result sides c.requires.own c.in_ok-sides.ensures) ∙ sym c.written_from.ensures ∙ ap (option_map elaborated_rule) c.in_default-written_from.is in
    never_untreed (seen_defs c.args.known.now) c.args.number r c.requires.own.signature (record { types = c.requires.types; terms = c.requires.terms }) c.requires.own.there kept missing

pub returns : goal.returns
returns c =
    let w = whole c.args.known.now in
    let r = seen c.args.given.now in
    let sides = c.in_ok-sides.sides in
    let listed : c.args.extractors.now.multis.items ≡ c.as_slice.result.now = search rules in
    let marks = subst (AreMultis w) listed c.requires.multis in
    let none : c.lowest_row.result ≡ None = search rules in
    let lowest = lowest_found w r c.args.own.now c.as_slice.result sides c.lowest_row.result (length c.args.given.now.args.now) marks c.requires.own c.in_ok-sides.ensures (sym (length-map c.args.given.now.args.now pattern)) c.lowest_row.ensures in
    let kept = ap (λ o. or_later o (cond (is_large w r) (Some row.ManyNodes) None)) (sym none) ∙ lowest in
    let written : written_pass w c.args.number r ≡ Some (elaborated_rule c.in-Some-written_from.written) = sym (written_is w c.args.number r c.args.own.now c.as_slice.result sides c.requires.own c.in_ok-sides.ensures) ∙ sym c.written_from.ensures ∙ ap (option_map elaborated_rule) c.in-Some-written_from.is in
    let is : c.found_rule.result ≡ found_rule c.in_ok-found.found = c.found_rule.ensures in
    subst (λ f. IsRuleFound w c.args.number r f) (sym is) (found_made w c.args.number r (elaborated_rule c.in-Some-written_from.written) c.in_ok-found.found kept written (c.in_ok-found.ensures (templates w) c.requires.templates))
