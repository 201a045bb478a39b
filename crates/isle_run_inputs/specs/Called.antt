-- What contracts see of what a call goes to.
use Rattle.std.specs.Prelude.{Option, Some, None}
use Rattle.isle_core.specs.declared.values.Callee.{Callee}
use Rattle.isle_core.specs.declared.values.Callee.TheVariants as callee
use Rattle.isle_run_inputs.specs.declared.callees.Called.{Called}
use Rattle.isle_run_inputs.specs.declared.callees.Called.TheVariants as code

-- the callee, if there is one
abbrev pub called : Called → Option Callee
called (code.External name) = Some (callee.External name.now)
called (code.Internal name) = Some (callee.Internal name.now)
called code.Nothing = None
