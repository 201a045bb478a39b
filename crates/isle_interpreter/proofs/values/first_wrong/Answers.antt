use Rattle.std.proofs.Common.{rules, arith, ◌≡◌, ◌<◌, Some, length, refl}
use Rattle.std.specs.Prelude.{slice_get}
use Rattle.std.proofs.lemmas.Option.{slice_get_read, slice_get-map}
use Rattle.isle_core.specs.ValueViews.{value, values}
use Rattle.isle_places.specs.Signatures.{type_names}
use Rattle.isle_interpreter.specs.Named.{IsNamed}
use Rattle.isle_interpreter.proofs.NamedMore.{named_next}
use Rattle.isle_interpreter.proofs.values.first_wrong.Goals as goal

pub loop-index-preserved : goal.loop-index-preserved
loop-index-preserved c =
    let i = c.loop-index.index in
    let params = c.args.params.now in
    let args = c.args.args.now in
    let ty = c.index-params-index.result in
    let arg = c.index-args-index.result in
    let low : i < length params = search rules in
    let low_arg : i < length args = omega (arith, low, c.loop-index.invariant.1) in
    let named : slice_get (type_names params) i ≡ Some ty.name = rw (slice_get-map, slice_get_read params (length params) i ty refl low c.index-params-index.is) refl in
    let given : slice_get (values args) i ≡ Some (value arg) = rw (slice_get-map, slice_get_read args (length args) i arg refl low_arg c.index-args-index.is) refl in
    let is : IsNamed c.args.types.now ty.name (value arg) = search rules in
    (named_next c.args.types.now i (type_names params) (values args) ty.name (value arg) named given c.loop-index.invariant.0 is, c.loop-index.invariant.1)
