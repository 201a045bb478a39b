use Rattle.isle_command_line.proofs.ReadValues.{read_spelt}
use Rattle.isle_command_line.proofs.run.values_in.Goals as goal

pub returns : goal.returns
returns c = read_spelt c.args.word.now c.values.result c.values.ensures.some c.values.ensures.none
