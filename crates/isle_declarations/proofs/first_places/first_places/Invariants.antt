use Rattle.isle_declarations.proofs.NumberLaws.{ArePut}
use Rattle.isle_declarations.proofs.first_places.first_places.Given as goal

abbrev pub invariant-loop-place : goal.invariant-loop-place
invariant-loop-place l = ArePut l.numbers l.count l.place l.table.items
