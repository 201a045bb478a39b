use Rattle.std.proofs.Common.{rules, ◌≡◌}
use Rattle.isle_tree.specs.Views.{program}
use Rattle.isle_places.specs.AskedViews.{asked as asked_of}
use Rattle.isle_places.specs.DeclaredTypes.{variant_asked, struct_asked}
use Rattle.isle_places.specs.ToldViews.{told, tells}
use Rattle.isle_places.proofs.ToldLaws.{bound_variant, bound_struct}
use Rattle.isle_places.proofs.binding.bind_pattern.Goals as goal

pub returns-in-Variant : goal.returns-in-Variant
returns-in-Variant c =
    let asks : asked_of c.variant_asked-asked.result ≡ variant_asked c.args.signatures.now.types c.in-Variant.ty c.in-Variant.ty c.in-Variant.variant = search rules in
    bound_variant c.bind_fields.result (program c.args.signatures.now) c.args.pat.now c.in-Variant.ty c.in-Variant.variant c.in-Variant.binds c.as_slice.result.now c.in-Variant.more (asked_of c.variant_asked-asked.result) (told c.args.held) (tells c.args.bound.now) (tells c.bind_fields.new.bound) c.in-Variant.is asks c.as_slice.ensures c.bind_fields.ensures

pub returns-in-Struct : goal.returns-in-Struct
returns-in-Struct c =
    let asks : asked_of c.struct_asked-asked.result ≡ struct_asked c.args.signatures.now.types c.in-Struct.ty c.in-Struct.ty = search rules in
    bound_struct c.bind_fields-in-Struct.result (program c.args.signatures.now) c.args.pat.now c.in-Struct.ty c.in-Struct.binds c.as_slice-in-Struct.result.now c.in-Struct.more (asked_of c.struct_asked-asked.result) (told c.args.held) (tells c.args.bound.now) (tells c.bind_fields-in-Struct.new.bound) c.in-Struct.is asks c.as_slice-in-Struct.ensures
    c.bind_fields-in-Struct.ensures
