use Rattle.std.proofs.Common.{◌∙◌, ap, refl}
use Rattle.std.specs.Prelude.{filter, not}
use Rattle.std.specs.List.{list_any}
use Rattle.isle_meta.specs.declared.machine.Operand.{Operand}
use Rattle.isle_assembler_rows.specs.AssemblerRow as row
use Rattle.isle_assembler_rows.specs.Operands.{is_of_xmm}
use Rattle.isle_assembler_rows.proofs.RowLaws.{both, inst_told, both_not}
use Rattle.isle_assembler_rows.proofs.faults.row_faults.Goals as goal

pub returns : goal.returns
returns c = λ earlier before term.
    let taken = c.is_left_out-taken.ensures in
    let ops = c.as_slice-operands.ensures in
    let chosen = c.in_ok-chosen.ensures in
    inst_told _ earlier before c.args.inst.now c.in_ok-repeated_operand.repeated_operand c.args.repeated_term c.in_ok-bad_name.ensures refl c.in_ok-repeated_operand.ensures term
    (both_not taken (c.has_written_imm.ensures ∙ ap (list_any row.is_written_imm) ops))
    (both_not taken (c.has_aligned_mem.ensures ∙ ap (list_any row.is_aligned_mem) ops))
    (both_not taken (c.is_none.ensures ∙ ap row.is_none_of chosen))
    (both_not taken (both (c.has_value.ensures ∙ ap row.has_value chosen) (c.in_ok-hide.ensures ∙ ap (λ os. row.hides_too_much (filter row.is_hidden os)) ops)))
    (both_not taken (both c.is_some.ensures (ap not (c.has_xmm.ensures ∙ ap (list_any (λ (o : Operand). is_of_xmm o.kind)) ops))))
