use Rattle.std.proofs.Common.{rules}
use Rattle.isle_reading.proofs.Steps.{passed, then_got, done_got, then_refuses, bind_refuses}
use Rattle.isle_tables.specs.Reading.{read_inst_names}
use Rattle.isle_tables.proofs.instructions.inst_names.Goals as goal

pub returns-in_err-camel_name : goal.returns-in_err-camel_name
unfolding read_inst_names
returns-in_err-camel_name c = passed _ _ _ _ _ c.from_residual-in_err-camel_name.ensures.1 (then_refuses _ _ _ _ _ _ c.in_ok-name.ensures (bind_refuses _ _ _ _ c.in_err-camel_name.ensures))

pub returns-in_err-format : goal.returns-in_err-format
unfolding read_inst_names
returns-in_err-format c = passed _ _ _ _ _ c.from_residual-in_err-format.ensures.1 (then_refuses _ _ _ _ _ _ c.in_ok-name.ensures (then_refuses _ _ _ _ _ _ c.in_ok-camel_name.ensures (bind_refuses _ _ _ _ c.in_err-format.ensures)))

pub returns : goal.returns
unfolding read_inst_names
returns c = then_got _ _ _ _ _ _ c.in_ok-name.ensures (then_got _ _ _ _ _ _ c.in_ok-camel_name.ensures (then_got _ _ _ _ _ _ c.in_ok-format.ensures (search (rules, done_got))))
