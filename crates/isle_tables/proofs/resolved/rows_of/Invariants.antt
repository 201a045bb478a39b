use Rattle.std.proofs.Common.{◌≡◌, ◌++◌}
use Rattle.isle_tables.specs.Resolved.{gathered, format_in, row_in, x64_in, op_in, ext_op_in}
use Rattle.isle_tables.proofs.resolved.rows_of.Given as goal

-- of each kind, those that are there and those that are left are all
abbrev pub invariant-loop-item : goal.invariant-loop-item
invariant-loop-item l = record {
  formats : l.rows.formats.items ++ gathered format_in l.item-iterator.rest.items ≡ gathered format_in l.fn.items.items;
  instructions : l.rows.instructions.items ++ gathered row_in l.item-iterator.rest.items ≡ gathered row_in l.fn.items.items;
  x64 : l.rows.x64.items ++ gathered x64_in l.item-iterator.rest.items ≡ gathered x64_in l.fn.items.items;
  ops : l.rows.ops.items ++ gathered op_in l.item-iterator.rest.items ≡ gathered op_in l.fn.items.items;
  extended_ops : l.rows.extended_ops.items ++ gathered ext_op_in l.item-iterator.rest.items ≡ gathered ext_op_in l.fn.items.items;
}
