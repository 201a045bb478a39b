use Rattle.std.proofs.Common.{◌≡◌, ◌∙◌, ap, sym, subst}
use Rattle.std.proofs.lemmas.Result.{IfOk-weaker}
use Rattle.isle_assembler_rows.specs.AssemblerRows.{IsFirstInst}
use Rattle.isle_meta.specs.InstructionRow.{own_names}
use Rattle.isle_meta.specs.TableNames.{texts}
use Rattle.isle_meta.specs.Told.{found_row}
use Rattle.isle_pulley_rows.specs.PulleyRows.{IsFirstOperation}
use Rattle.isle_table_check.proofs.TableLaws.{found_first, found_second}
use Rattle.isle_table_check.proofs.check.unsupported_machine_row.Goals as goal

pub returns-then-is_some : goal.returns-then-is_some
returns-then-is_some c =
    let t = c.args.tables.now in
    let names : texts c.as_slice-2.result.now ≡ own_names t.instructions = ap texts c.as_slice-2.ensures.value ∙ c.in_ok-names.ensures ∙ ap own_names c.as_slice.ensures in
    found_first (IsFirstInst (own_names t.instructions) t.x64) (IsFirstOperation (own_names t.instructions) t.ops t.extended_ops) c.in_ok-found.found (sym c.is_some.ensures ∙ c.if-is_some.true)
    (subst (λ ns. IsFirstInst ns t.x64 (found_row c.in_ok-found.found)) names
    (subst (λ is. IsFirstInst (texts c.as_slice-2.result.now) is (found_row c.in_ok-found.found)) c.as_slice-3.ensures c.in_ok-found.ensures))

pub returns : goal.returns
returns c =
    let t = c.args.tables.now in
    let names : texts c.as_slice-2.result.now ≡ own_names t.instructions = ap texts c.as_slice-2.ensures.value ∙ c.in_ok-names.ensures ∙ ap own_names c.as_slice.ensures in
    let again : texts c.as_slice-4.result.now ≡ own_names t.instructions = ap texts c.as_slice-4.ensures.value ∙ c.in_ok-names.ensures ∙ ap own_names c.as_slice.ensures in
    let none = subst (λ ns. IsFirstInst ns t.x64 (found_row c.in_ok-found.found)) names
    (subst (λ is. IsFirstInst (texts c.as_slice-2.result.now) is (found_row c.in_ok-found.found)) c.as_slice-3.ensures c.in_ok-found.ensures) in
    IfOk-weaker c.unsupported_operation.result _ _
    (λ found k. found_second (IsFirstInst (own_names t.instructions) t.x64) (IsFirstOperation (own_names t.instructions) t.ops t.extended_ops) c.in_ok-found.found found
    (sym c.is_some.ensures ∙ c.if-is_some.false) none
    (subst (λ ns. IsFirstOperation ns t.ops t.extended_ops (found_row found)) again
    (subst (λ os. IsFirstOperation (texts c.as_slice-4.result.now) os t.extended_ops (found_row found)) c.as_slice-ops.ensures
    (subst (λ es. IsFirstOperation (texts c.as_slice-4.result.now) c.as_slice-ops.result.now es (found_row found)) c.as_slice-extended.ensures k))))
    c.unsupported_operation.ensures
