-- The Rust text: its three items, each with an arm for each operation.
use Rattle.std.specs.Prelude.{ℕ, List, ◌++◌}
use Rattle.isle_meta.specs.declared.pulley.PulleyInst.{PulleyInst}
use Rattle.isle_pulley_rows.specs.declared.operation.Operation.{Operation}
use Rattle.isle_pulley.specs.Display.{display_item}
use Rattle.isle_pulley.specs.Emission.{emit_item}
use Rattle.isle_pulley_rows.specs.Operations.{operations}
use Rattle.isle_pulley.specs.Visits.{visit_item}

-- the three items over these operations
abbrev pub items : List Operation → List ℕ
items ops = display_item ops ++ (visit_item ops ++ emit_item ops)

-- the Rust text of two lists of rows
abbrev pub pulley_rust : (ops extended : List PulleyInst) → List ℕ
pulley_rust ops extended = items (operations ops extended)
