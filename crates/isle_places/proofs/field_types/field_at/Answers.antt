use Rattle.std.proofs.Common.{rules, refl, ap, ◌∙◌}
use Rattle.std.proofs.lemmas.Option.{slice_get_read}
use Rattle.isle_places.specs.Told.{AValue}
use Rattle.isle_places.proofs.NumberedFields.{numbered, not_numbered, beyond}
use Rattle.isle_places.proofs.field_types.field_at.Goals as goal

pub returns-then-branch : goal.returns-then-branch
returns-then-branch c = ap AValue c.as_str.ensures ∙ numbered c.args.tys.now c.args.name.now c.in-Some.ty.now c.args.index c.in_ok-is_numbered-in-Some.field-0 (slice_get_read c.args.tys.now _ c.args.index c.in-Some.ty.now refl (search rules) c.in-Some.ensures.lookup.1) c.in_ok-is_numbered-in-Some.ensures c.if-branch.true c.requires

pub returns-else-branch : goal.returns-else-branch
returns-else-branch c = not_numbered c.args.tys.now c.args.name.now c.args.index c.in_ok-is_numbered-in-Some.field-0 c.in_ok-is_numbered-in-Some.ensures c.if-branch.false c.requires

pub returns-in-None : goal.returns-in-None
returns-in-None c = beyond c.args.tys.now c.args.name.now c.args.index (search rules) c.requires
