use Rattle.std.proofs.Common.{subst, sym}
use Rattle.isle_templates.specs.Written.{written_of}
use Rattle.isle_templates.proofs.TemplateOrder.{uses_there}
use Rattle.isle_walks.specs.Walks.{AreNodes}
use Rattle.isle_templates.proofs.multi.multi_extractors.Goals as goal

pub order-requires : goal.order-requires
order-requires c = subst AreNodes (sym c.requires.graph) (uses_there (written_of c.args.written.now))
