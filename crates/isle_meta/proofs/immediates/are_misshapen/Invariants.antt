use Rattle.std.proofs.Common.{List}
use Rattle.isle_meta.specs.declared.clif.ImmField.{ImmField}
use Rattle.isle_meta.specs.KnownTypes.{KnowsTypes}
use Rattle.isle_meta.proofs.ImmediateLaws.{ShapedFrom}
use Rattle.isle_meta.proofs.immediates.are_misshapen.Given as goal

abbrev pub invariant-loop-field : goal.invariant-loop-field
invariant-loop-field l = (earlier : List ImmField) → KnowsTypes earlier l.initial.types → ShapedFrom earlier l.field-index l.fields l.types
