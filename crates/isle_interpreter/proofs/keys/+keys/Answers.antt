use Rattle.isle_interpreter.proofs.HeldSteps.{variant_pushed, struct_pushed}
use Rattle.isle_interpreter.specs.Clashes.{name_key}
use Rattle.std.proofs.Common.{◌++◌, ap, ◌∙◌}
use Rattle.isle_interpreter.proofs.keys.+keys.Goals as goal

pub push_value-returns-in_ok-push_name-in-Variant-2 : goal.push_value-returns-in_ok-push_name-in-Variant-2
push_value-returns-in_ok-push_name-in-Variant-2 t c =
    variant_pushed c.push_fields.result c.args.given.now c.in-Variant.ty c.in-Variant.variant c.in-Variant.parts c.as_slice.result.now c.args.key.now.items c.push-in-Variant.new.self.items c.push_name-in-Variant.new.key.items c.push_name-in-Variant-2.new.key.items c.push_fields.new.key.items c.in-Variant.is c.as_slice.ensures
    c.in_ok-push-in-Variant.ensures.items (c.in_ok-push_name-in-Variant.ensures ∙ ap (λ n. c.push-in-Variant.new.self.items ++ name_key n) c.as_str.ensures) (c.in_ok-push_name-in-Variant-2.ensures ∙ ap (λ n. c.push_name-in-Variant.new.key.items ++ name_key n) c.as_str-in-Variant.ensures) c.push_fields.ensures

pub push_value-returns-in_ok-push_name-in-Struct : goal.push_value-returns-in_ok-push_name-in-Struct
push_value-returns-in_ok-push_name-in-Struct t c =
    struct_pushed c.push_fields-in-Struct.result c.args.given.now c.in-Struct.ty c.in-Struct.parts c.as_slice-in-Struct.result.now c.args.key.now.items c.push-in-Struct.new.self.items c.push_name-in-Struct.new.key.items c.push_fields-in-Struct.new.key.items c.in-Struct.is c.as_slice-in-Struct.ensures
    c.in_ok-push-in-Struct.ensures.items (c.in_ok-push_name-in-Struct.ensures ∙ ap (λ n. c.push-in-Struct.new.self.items ++ name_key n) c.as_str-in-Struct.ensures) c.push_fields-in-Struct.ensures
