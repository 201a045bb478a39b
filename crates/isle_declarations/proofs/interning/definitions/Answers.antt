use Rattle.isle_ast.specs.Views.{defs}
use Rattle.isle_declarations.proofs.Gathered.{collected}
use Rattle.isle_declarations.proofs.interning.definitions.Goals as goal

pub returns : goal.returns
returns c = collected (defs c.args.defs.now) c.args.made.now c.in_ok-given.given c.intern_lists.new.names c.requires c.in_ok-intern_lists.ensures c.in_ok-given.ensures
