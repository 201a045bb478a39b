use Rattle.std.proofs.Common.{◌≡◌}
use Rattle.isle_tables.specs.Resolved.{resolved, first_lost}
use Rattle.isle_tables.proofs.ResolvedSteps.{in_front_of}
use Rattle.isle_tables.proofs.resolved.instructions.Given as goal

-- with those that are there in front, the rows that are left give all; and the first name without a format is among these
abbrev pub invariant-loop-row : goal.invariant-loop-row
invariant-loop-row l = record {
  resolves : in_front_of l.instructions.items (resolved l.formats l.row-iterator.rest.items) ≡ resolved l.fn.formats l.fn.rows.items;
  loses : first_lost l.formats l.row-iterator.rest.items ≡ first_lost l.fn.formats l.fn.rows.items;
}
