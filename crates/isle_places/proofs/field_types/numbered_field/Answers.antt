use Rattle.std.proofs.Common.{rules}
use Rattle.isle_places.proofs.NumberedFields.{unnumbered}
use Rattle.isle_places.proofs.field_types.numbered_field.Goals as goal

pub returns-in-None : goal.returns-in-None
returns-in-None c = unnumbered c.args.tys.now c.args.name.now (λ i lt e. search rules)
