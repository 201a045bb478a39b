use Rattle.std.proofs.Common.{◌≡◌, map, take}
use Rattle.isle_ast.specs.Views.{defs}
use Rattle.isle_declarations.specs.DeclaredTypes.{made_of}
use Rattle.isle_declarations.proofs.made.made_each.Given as goal

abbrev pub invariant-loop-given : goal.invariant-loop-given
invariant-loop-given l = l.made.items ≡ map made_of (defs (take l.given-index l.defs))
