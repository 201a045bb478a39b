use Rattle.std.proofs.Common.{rules, arith, ◌≡◌, ◌<◌, length}
use Rattle.std.specs.Fmt.{decimal}
use Rattle.isle_outcomes.specs.Fields.{fields}
use Rattle.isle_printer.specs.Bytes.{same_bytes}
use Rattle.isle_places.specs.AskedViews.{asked as asked_of}
use Rattle.isle_places.specs.DeclaredTypes.{These, tuple_fields, variant_asked, struct_asked}
use Rattle.isle_interpreter.specs.Named.{AreAsked}
use Rattle.isle_interpreter.proofs.Asks.{variant_as_asked, struct_as_asked, misnumbered}
use Rattle.isle_interpreter.proofs.typed.+naming.Goals as goal

pub are_parts-returns-then-not-branch : goal.are_parts-returns-then-not-branch
are_parts-returns-then-not-branch t c =
    let i = c.loop-index.index in
    let part = c.index-given-index.result in
    let low : i < length c.args.tys.now = search rules in
    let lower : i < length c.args.given.now = omega (arith, low, c.loop-index.invariant.1) in
    let test : c.in_ok-is_numbered.field-0 ≡ same_bytes part.0 (decimal i) = search rules in
    misnumbered c.args.types.now c.args.tys.now i c.args.given.now part _ (AreAsked c.args.types.now (These (tuple_fields 0 c.args.tys.now)) (fields c.args.given.now)) c.in_ok-is_numbered.field-0 low lower c.index-given-index.is test c.if-not-branch.true c.loop-index.invariant.0

pub is_named-returns-in-Variant : goal.is_named-returns-in-Variant
is_named-returns-in-Variant t c =
    let asks : asked_of c.variant_asked-asked.result ≡ variant_asked c.args.types.now c.args.name.now c.in-Variant.ty c.in-Variant.variant = search rules in
    variant_as_asked c.args.types.now c.args.name.now c.in-Variant.ty c.in-Variant.variant c.in-Variant.parts c.as_slice.result.now c.args.given.now (asked_of c.variant_asked-asked.result) c.are_asked.result c.in-Variant.is asks c.as_slice.ensures c.are_asked.ensures

pub is_named-returns-in-Struct : goal.is_named-returns-in-Struct
is_named-returns-in-Struct t c =
    let asks : asked_of c.struct_asked-asked.result ≡ struct_asked c.args.types.now c.args.name.now c.in-Struct.ty = search rules in
    struct_as_asked c.args.types.now c.args.name.now c.in-Struct.ty c.in-Struct.parts c.as_slice-in-Struct.result.now c.args.given.now (asked_of c.struct_asked-asked.result) c.are_asked-in-Struct.result c.in-Struct.is asks c.as_slice-in-Struct.ensures c.are_asked-in-Struct.ensures
