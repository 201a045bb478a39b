use Rattle.std.proofs.Common.{rules, ◌∙◌}
use Rattle.isle_declarations.proofs.TermNames.{made_here}
use Rattle.isle_declarations.proofs.terms.gathered.Goals as goal

pub push_terms-requires : goal.push_terms-requires
push_terms-requires c = made_here c.args.made.now c.args.defs.now c.loop-index.index c.index-defs-index.result _ c.as_slice.result.now _ c.requires (search rules) c.index-defs-index.is (c.as_slice.ensures ∙ c.index-made-index.is)
