use Rattle.isle_places.specs.Signatures.{type_names}
use Rattle.isle_interpreter.proofs.values.gives.Goals as goal

pub returns : goal.returns
returns c = c.answer_fits.ensures (type_names c.args.of.now.params.now)
