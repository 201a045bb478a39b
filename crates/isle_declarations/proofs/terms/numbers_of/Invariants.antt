use Rattle.std.proofs.Common.{◌≡◌, map, take}
use Rattle.isle_ast.specs.Views.{defs}
use Rattle.isle_declarations.specs.Symbols.{index_of, number_or, symbols}
use Rattle.isle_declarations.proofs.terms.numbers_of.Given as goal

abbrev pub invariant-loop-term : goal.invariant-loop-term
invariant-loop-term l = l.numbers.items ≡ map (λ t. number_or (index_of (symbols (defs l.declarations)) t.term.now)) (take l.term-index l.terms)
