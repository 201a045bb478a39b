use Rattle.std.proofs.Common.{◌≡◌, ◌++◌, drop, map, true, string_bytes, codes}
use Rattle.std.specs.Prelude.{filter}
use Rattle.isle_assembler.specs.Methods.{separated}
use Rattle.isle_assembler.specs.Signatures.{takes, trap_types, type_in}
use Rattle.isle_assembler.proofs.signature.push_types.Given as goal

abbrev pub invariant-loop-operand : goal.invariant-loop-operand
invariant-loop-operand l =
    string_bytes l.text ++ separated l.is_first (codes " ") (map (type_in l.signature)
    (filter (takes l.signature) (drop l.operand-index l.inst.operands)) ++ trap_types l.inst.has_trap)
    ≡ string_bytes l.fn.text ++ separated true (codes " ") (map (type_in l.signature) (filter (takes l.signature) l.inst.operands) ++ trap_types l.inst.has_trap)
