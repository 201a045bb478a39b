use Rattle.std.proofs.Common.{◌≡◌, rules, [], Some, ◌∙◌, subst}
use Rattle.isle_ast.specs.Views.{defs as seen_defs}
use Rattle.isle_declarations.specs.Signatures.{extractors}
use Rattle.isle_terms.specs.Whole.{whole}
use Rattle.isle_walks.specs.Walks.{AreNodes}
use Rattle.isle_sema.specs.TemplateUses.{template_uses}
use Rattle.isle_sema.specs.TemplatesChecked.{extractors_fault}
use Rattle.isle_sema.proofs.ExtractorFaults.{extractors_fault_is}
use Rattle.isle_sema.proofs.UsedTerms.{uses_there}
use Rattle.isle_sema.proofs.templates.check_templates.Goals as goal

pub closed_walks-requires : goal.closed_walks-requires
closed_walks-requires c =
    let w = whole c.args.known.now in
    let graph : template_uses w ≡ c.as_slice.result.now = search rules in
    subst AreNodes graph (uses_there w)

pub returns : goal.returns
returns c =
    let w = whole c.args.known.now in
    let defs = seen_defs c.args.known.now in
    let fault : extractors_fault w (extractors defs) ≡ Some (c.in-Err.fault.row, c.in-Err.fault.pos) = search rules in
    extractors_fault_is w [] defs ∙ fault
