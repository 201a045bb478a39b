use Rattle.std.proofs.Common.{◌≡◌, ℕ, List, map, drop}
use Rattle.std.specs.Prelude.{◌||◌}
use Rattle.isle_operand_names.specs.Names.{is_among}
use Rattle.isle_operand_names.specs.Sets.{has_name}
use Rattle.isle_operand_names.proofs.sets.set_of.Given as goal

abbrev pub invariant-loop-name : goal.invariant-loop-name
invariant-loop-name l = (name : List ℕ) → (has_name l.found name || is_among name (map (λ x. x.now) (drop l.name-index l.names))) ≡ is_among name (map (λ x. x.now) l.names)
