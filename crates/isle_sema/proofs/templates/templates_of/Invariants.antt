use Rattle.std.proofs.Common.{map}
use Rattle.std.specs.Prelude.{drop}
use Rattle.isle_ast.specs.Views.{defs as seen_defs}
use Rattle.isle_declarations.specs.Collected.{extractor as seen}
use Rattle.isle_declarations.specs.Signatures.{extractors}
use Rattle.isle_terms.specs.Whole.{whole}
use Rattle.isle_sema.proofs.TemplateSteps.{AreLeft}
use Rattle.isle_sema.proofs.templates.templates_of.Given as goal

abbrev pub invariant-loop-extractor : goal.invariant-loop-extractor
invariant-loop-extractor l = AreLeft (whole l.known) (extractors (seen_defs l.known)) (map seen (drop l.extractor-index l.given)) l.trees.items
