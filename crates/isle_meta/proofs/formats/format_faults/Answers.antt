use Rattle.isle_lawful_names.proofs.FoundLaws.{as_test}
use Rattle.isle_meta.specs.FormatRow as format
use Rattle.isle_meta.proofs.FormatLaws.{format_told}
use Rattle.std.proofs.Common.{◌∙◌, ap}
use Rattle.isle_meta.specs.Immediates.{are_misshapen}
use Rattle.isle_meta.proofs.formats.format_faults.Goals as goal

pub returns-clause-told : goal.returns-clause-told
returns-clause-told c = λ before has knows.
    let shape = c.in_ok-imm_shape.ensures.told (format.all_fields before) knows ∙ ap (are_misshapen (format.all_fields before)) c.as_slice.ensures in
    format_told before c.args.format.now c.in_ok-bad_name.bad_name c.in_ok-repeated_name.repeated_name c.has_reserved_name.result c.has_many_blocks.result c.has_raw_blocks.result c.in_ok-imm_shape.imm_shape c.lacks_typevar.result
    c.in_ok-bad_name.ensures (as_test _ _ (c.in_ok-repeated_name.ensures.told _ has)) c.has_reserved_name.ensures c.has_many_blocks.ensures c.has_raw_blocks.ensures (as_test _ _ shape) c.lacks_typevar.ensures
