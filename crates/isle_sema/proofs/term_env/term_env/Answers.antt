use Rattle.std.proofs.Common.{◌≡◌, rules, None, Some, [], map, ap, sym, ◌∙◌}
use Rattle.isle_core.specs.RuleViews.{rule as elaborated_rule}
use Rattle.isle_ast.specs.Views.{defs as seen}
use Rattle.isle_declarations.specs.Terms.{terms}
use Rattle.isle_terms.specs.Converters.{converters}
use Rattle.isle_terms.specs.ConverterViews.{AreFound, taken_converters}
use Rattle.isle_terms.specs.TermFault.{term_fault}
use Rattle.isle_terms.specs.TermPass.{terms_pass}
use Rattle.isle_terms.specs.Whole.{whole_of}
use Rattle.isle_types.specs.Gathered.{TellsTyping}
use Rattle.isle_sema.specs.Fault.{later_fault}
use Rattle.isle_sema.specs.TakenAt.{HaveRules}
use Rattle.isle_sema.proofs.Givings.{told_behind, told_last, unmade, given_typed, over_types}
use Rattle.isle_sema.proofs.term_env.term_env.Goals as goal

pub returns-in-Err-clause-err : goal.returns-in-Err-clause-err
returns-in-Err-clause-err c =
    let defs = seen c.args.declarations.now in
    let told : TellsTyping (term_fault (whole_of defs)) (Some c.in-Err.error) = search rules in
    told_behind defs c.in-Err.error c.requires.sound told

pub unreachable-requires : goal.unreachable-requires
unreachable-requires c =
    let defs = seen c.args.declarations.now in
    let declared : term_fault (whole_of defs) ≡ None = search rules in
    let none : None ≡ terms_pass (whole_of defs) (terms defs) = search rules in
    unmade defs c.requires.sound declared none

pub returns-in-Err-found-clause-err : goal.returns-in-Err-found-clause-err
returns-in-Err-found-clause-err c =
    let defs = seen c.args.declarations.now in
    let declared : term_fault (whole_of defs) ≡ None = search rules in
    let later : later_fault (whole_of defs) ≡ Some (c.in-Err-found.fault.row, c.in-Err-found.fault.pos) = search rules in
    told_last defs c.in_ok-error-in-Err-found.field-0 (c.in-Err-found.fault.row, c.in-Err-found.fault.pos) c.requires.sound declared later c.in_ok-error-in-Err-found.ensures

pub returns-clause-ok : goal.returns-clause-ok
returns-clause-ok c =
    let defs = seen c.args.declarations.now in
    let declared : term_fault (whole_of defs) ≡ None = search rules in
    let made : Some c.new.result ≡ terms_pass (whole_of defs) (terms defs) = search rules in
    let given : HaveRules (whole_of defs) (map elaborated_rule c.in-Ok-found.rules.items) = search rules in
    let items : c.new-2.result ≡ c.in-Ok-found.rules.items = search rules in
    let converting : taken_converters (whole_of defs) [] (converters defs) ≡ Some c.in-Ok.found.listed.items = search rules in
    let listed : c.new-3.result ≡ c.in-Ok.found.listed.items = search rules in
    over_types _ c.requires.types
    (given_typed defs _ c.requires.sound declared (sym made) given.sound given.treed (given.made ∙ sym (ap (λ rs. Some (map elaborated_rule rs)) items)) (converting ∙ ap Some (sym listed)))

pub rules_of-requires : goal.rules_of-requires
rules_of-requires c =
    let defs = seen c.args.declarations.now in
    let declared : term_fault (whole_of defs) ≡ None = search rules in
    let made : terms_pass (whole_of defs) (terms defs) ≡ Some c.as_slice.result.now = search rules in
    let found : AreFound defs (converters defs) c.in-Ok.found = search rules in
    record { before = c.requires.before; types = c.requires.types; termed = c.in_ok-terms.ensures; typed = made; converted = found; sound = c.requires.sound; declared = declared }
