use Rattle.std.proofs.Common.{take}
use Rattle.isle_ast.specs.Views.{defs}
use Rattle.isle_types.specs.Gathered.{AreKnown}
use Rattle.isle_types.proofs.known_types.KnownTypes.gather.Given as goal

abbrev pub invariant-loop-given : goal.invariant-loop-given
invariant-loop-given l = AreKnown (defs (take l.given-index l.fn.defs)) l.known
