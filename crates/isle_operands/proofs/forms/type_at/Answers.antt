use Rattle.std.proofs.Common.{◌∙◌, ap, sym}
use Rattle.std.specs.Prelude.{slice_get, option_map}
use Rattle.std.specs.Option.{option_copied}
use Rattle.isle_core.specs.declared.types.Field.{Field}
use Rattle.isle_operands.proofs.FieldPlaces.{type_in_tuple, type_in_named}
use Rattle.isle_core.proofs.Got.{got}
use Rattle.isle_operands.proofs.forms.type_at.Goals as goal

pub returns-in-Some : goal.returns-in-Some
returns-in-Some c = λ env.
    let h = c.get.ensures.lookup in
    let there = got c.as_slice.result.now c.args.index c.get.result h.1 h.3 in
    type_in_named env c.args.fields.now c.in-Struct.named c.args.index _ c.in-Struct.is
    (ap (option_map (λ (f : Field). f.ty)) (sym (ap option_copied c.in-Some.is) ∙ there ∙ ap (λ xs. slice_get xs c.args.index) c.as_slice.ensures))

pub returns-in-None : goal.returns-in-None
returns-in-None c = λ env.
    let h = c.get.ensures.lookup in
    let there = got c.as_slice.result.now c.args.index c.get.result h.1 h.3 in
    type_in_named env c.args.fields.now c.in-Struct.named c.args.index _ c.in-Struct.is
    (ap (option_map (λ (f : Field). f.ty)) (sym (ap option_copied c.in-None.is) ∙ there ∙ ap (λ xs. slice_get xs c.args.index) c.as_slice.ensures))

pub returns-in-Tuple : goal.returns-in-Tuple
returns-in-Tuple c = λ env.
    let h = c.get-in-Tuple.ensures.lookup in
    let there = got c.as_slice-in-Tuple.result.now c.args.index c.get-in-Tuple.result h.1 h.3 in
    type_in_tuple env c.args.fields.now c.in-Tuple.tys c.args.index _ c.in-Tuple.is
    (c.copied.ensures ∙ there ∙ ap (λ xs. slice_get xs c.args.index) c.as_slice-in-Tuple.ensures)
