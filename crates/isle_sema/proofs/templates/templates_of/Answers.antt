use Rattle.isle_ast.specs.Views.{defs as seen_defs}
use Rattle.isle_declarations.specs.declared.collected.ExtractorDef.{ExtractorDef}
use Rattle.isle_declarations.specs.Symbols.{symbols}
use Rattle.isle_declarations.proofs.NumberLaws.{item_number}
use Rattle.isle_sema.proofs.templates.templates_of.Goals as goal

pub template_of-requires-clause-number : goal.template_of-requires-clause-number
template_of-requires-clause-number c =
    item_number (λ (x : ExtractorDef). x.term.now) (λ (x : ExtractorDef). x.number) (symbols (seen_defs c.args.known.now)) c.args.given.now c.loop-extractor.extractor-index c.extractor-item.result _ c.requires.extractors.numbered c.loop-extractor-test.true c.extractor-item.is
