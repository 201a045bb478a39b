use Rattle.std.proofs.Common.{drop}
use Rattle.isle_operands.specs.ConstTypes.{FindsTypes}
use Rattle.isle_operands.proofs.constants.by_symbol.Given as goal

abbrev pub invariant-loop-index : goal.invariant-loop-index
invariant-loop-index l = FindsTypes (drop l.index l.fn.consts) l.found
