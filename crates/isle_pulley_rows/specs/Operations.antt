-- The operations that texts are generated of: the rows that aren't skipped, with their operands.
use Rattle.std.specs.Prelude.{List, ◌++◌, map}
use Rattle.isle_meta.specs.declared.pulley.PulleyInst.{PulleyInst}
use Rattle.isle_pulley_rows.specs.declared.operation.Operation.{Operation}
use Rattle.isle_pulley_rows.specs.Operands.{operands}
use Rattle.isle_pulley_rows.specs.Skipped.{kept}

-- the operation of a row
abbrev pub operation_of : PulleyInst → Operation
operation_of row = record { snake = row.snake_name; name = row.name; operands = operands row }

-- the operations of rows, in order
abbrev pub operations_of : List PulleyInst → List Operation
operations_of rows = map operation_of (kept rows)

-- those of both lists
abbrev pub operations : (ops extended : List PulleyInst) → List Operation
operations ops extended = operations_of (ops ++ extended)
