use Rattle.std.proofs.Common.{◌∙◌, ap, sym}
use Rattle.std.specs.Prelude.{slice_get}
use Rattle.std.specs.Option.{option_copied}
use Rattle.isle_core.proofs.TupleFields.{tuple_found, tuple_absent}
use Rattle.isle_core.proofs.Got.{got}
use Rattle.isle_core.proofs.types.TypeEnv.field_at.Goals as goal

pub returns-in_ok-numbered-in-Some-get : goal.returns-in_ok-numbered-in-Some-get
returns-in_ok-numbered-in-Some-get c = λ env e.
    let h = c.get-in-Tuple.ensures.lookup in
    let there = got c.as_slice-in-Tuple.result.now c.args.index c.get-in-Tuple.result h.1 h.3 in
    tuple_found env c.args.fields.now c.in-Tuple.tys c.args.index c.in_ok-numbered-in-Some-get.field-0 c.in-Some-get.ty.now c.in-Tuple.is
    (sym (ap option_copied c.in-Some-get.is) ∙ there ∙ ap (λ xs. slice_get xs c.args.index) c.as_slice-in-Tuple.ensures) c.in_ok-numbered-in-Some-get.ensures

pub returns-in-None-get : goal.returns-in-None-get
returns-in-None-get c = λ env e.
    let h = c.get-in-Tuple.ensures.lookup in
    let there = got c.as_slice-in-Tuple.result.now c.args.index c.get-in-Tuple.result h.1 h.3 in
    tuple_absent env c.args.fields.now c.in-Tuple.tys c.args.index c.in-Tuple.is
    (sym (ap option_copied c.in-None-get.is) ∙ there ∙ ap (λ xs. slice_get xs c.args.index) c.as_slice-in-Tuple.ensures)
