use Rattle.std.proofs.Common.{◌≡◌, ◌++◌, drop, map, true, string_bytes, codes}
use Rattle.isle_assembler.specs.Methods.{argument, separated, trap_arguments}
use Rattle.isle_assembler.proofs.methods.push_arguments.Given as goal

abbrev pub invariant-loop-operand : goal.invariant-loop-operand
invariant-loop-operand l =
    string_bytes l.text ++ separated l.is_first (codes ", ") (map argument (drop l.operand-index l.inst.operands) ++ trap_arguments l.inst.has_trap)
    ≡ string_bytes l.fn.text ++ separated true (codes ", ") (map argument l.inst.operands ++ trap_arguments l.inst.has_trap)
