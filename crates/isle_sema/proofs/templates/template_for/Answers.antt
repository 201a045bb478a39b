use Rattle.std.proofs.Common.{◌≡◌, rules, None, Some, map, sym, subst}
use Rattle.std.specs.Prelude.{IfOk, option_map}
use Rattle.isle_ast.specs.Views.{defs as seen_defs}
use Rattle.isle_core.specs.RuleViews.{pattern as elaborated}
use Rattle.isle_declarations.specs.Heads.{extractor_terms}
use Rattle.isle_declarations.specs.Signatures.{extractors}
use Rattle.isle_declarations.specs.Symbols.{index_of, symbols}
use Rattle.isle_terms.specs.Whole.{whole}
use Rattle.isle_sema.proofs.TemplateSteps.{template_found, template_missing}
use Rattle.isle_sema.proofs.templates.template_for.Goals as goal

pub returns-in_default-extracting : goal.returns-in_default-extracting
returns-in_default-extracting c =
    let defs = seen_defs c.args.known.now in
    let name = c.args.term.now.term.now in
    let number : index_of (symbols defs) name ≡ Some c.in-Some.number = search rules in
    let none : index_of (extractor_terms (extractors defs)) name ≡ None = search rules in
    sym (template_missing (whole c.args.known.now) (extractors defs) name none)

pub returns : goal.returns
returns c =
    let w = whole c.args.known.now in
    let defs = seen_defs c.args.known.now in
    let name = c.args.term.now.term.now in
    let number : index_of (symbols defs) name ≡ Some c.in-Some.number = search rules in
    let placed : index_of (extractor_terms (extractors defs)) name ≡ Some c.in-Some-extracting.place = search rules in
    subst (λ t. IfOk c.copied_at.result (λ found. option_map elaborated found ≡ t)) (sym (template_found w (extractors defs) (map (option_map elaborated) c.args.trees.now) name c.in-Some-extracting.place c.requires.trees placed)) c.copied_at.ensures
