use Rattle.std.proofs.Common.{drop}
use Rattle.std.specs.Prelude.{◌↔◌, map}
use Rattle.std.specs.List.{AllByRecursion}
use Rattle.isle_meta.specs.Immediates.{type_of}
use Rattle.isle_meta.specs.TableNames.{IsImmediateType}
use Rattle.isle_meta.proofs.formats.are_immediate_types.Given as goal

abbrev pub invariant-loop-field : goal.invariant-loop-field
invariant-loop-field l = AllByRecursion IsImmediateType (map type_of (drop l.field-index l.fields)) ↔ AllByRecursion IsImmediateType (map type_of l.fields)
