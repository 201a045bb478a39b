use Rattle.std.proofs.Common.{◌≡◌, ◌++◌, drop, map, true, string_bytes, codes}
use Rattle.std.specs.Prelude.{filter}
use Rattle.isle_assembler.specs.Methods.{param, separated, trap_params}
use Rattle.isle_assembler_rows.specs.Operands.{is_raw}
use Rattle.isle_assembler.proofs.methods.push_params.Given as goal

abbrev pub invariant-loop-operand : goal.invariant-loop-operand
invariant-loop-operand l =
    string_bytes l.text ++ separated l.is_first (codes ", ") (map param (filter is_raw (drop l.operand-index l.inst.operands)) ++ trap_params l.inst.has_trap)
    ≡ string_bytes l.fn.text ++ separated true (codes ", ") (map param (filter is_raw l.inst.operands) ++ trap_params l.inst.has_trap)
