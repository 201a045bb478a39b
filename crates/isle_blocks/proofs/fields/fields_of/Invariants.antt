use Rattle.std.proofs.Common.{take}
use Rattle.std.specs.BTreeMap.{get}
use Rattle.isle_blocks.specs.Fields.{shown_cmp, key_cmp, FindsFields}
use Rattle.isle_blocks.proofs.fields.fields_of.Given as goal

abbrev pub invariant-loop-place : goal.invariant-loop-place
invariant-loop-place l = FindsFields (take l.place l.bindings) (get key_cmp l.found) (get shown_cmp l.counts)
