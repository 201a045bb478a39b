use Rattle.std.proofs.Common.{◌≡◌, take}
use Rattle.isle_ast.specs.Views.{defs}
use Rattle.isle_types.specs.Fault.{type_fault}
use Rattle.isle_types.specs.Gathered.{IsBefore}
use Rattle.isle_types.proofs.FaultLaws.{fault_from}
use Rattle.isle_types.proofs.fault.first_misfit.Given as goal

abbrev pub invariant-loop-index : goal.invariant-loop-index
invariant-loop-index l = (type_fault (defs l.fn.defs) ≡ fault_from l.index l.fn.defs) × IsBefore (defs (take l.index l.fn.defs)) l.before
