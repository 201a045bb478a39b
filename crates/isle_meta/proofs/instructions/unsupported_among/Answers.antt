use Rattle.std.proofs.Common.{ℕ, List, take, subst, sym, Some}
use Rattle.isle_meta.specs.ClifRows.{IsFirstInstruction}
use Rattle.isle_meta.proofs.InstructionLaws.{instructions_on, instructions_out}
use Rattle.isle_meta.proofs.instructions.unsupported_among.Goals as goal

pub returns-in-Some : goal.returns-in-Some
returns-in-Some c =
    let s = c.loop-instruction.invariant in
    let before = take c.loop-instruction.instruction-index c.args.instructions.now in
    let h = instructions_out c.args.formats.now c.args.instructions.now c.loop-instruction.instruction-index c.instruction-item.result c.in_ok-faults.faults c.in-Some.shape c.loop-instruction.names c.loop-instruction.camels
    c.loop-instruction-test.true c.instruction-item.is (c.in_ok-faults.ensures before (c.in_ok-named.ensures.told before s.known s.cased)) c.in-Some.ensures s in
    subst (λ (name : List ℕ). IsFirstInstruction c.args.formats.now c.args.instructions.now (Some (record { row = name; shape = c.in-Some.shape }))) (sym c.as_str.ensures) h

pub loop-instruction-preserved : goal.loop-instruction-preserved
loop-instruction-preserved c =
    let s = c.loop-instruction.invariant in
    let before = take c.loop-instruction.instruction-index c.args.instructions.now in
    instructions_on c.args.formats.now c.args.instructions.now c.loop-instruction.instruction-index c.instruction-item.result c.in_ok-faults.faults c.loop-instruction.names c.name_faults.new.names c.loop-instruction.camels
    c.name_faults.new.camels c.loop-instruction-test.true c.instruction-item.is (c.in_ok-faults.ensures before (c.in_ok-named.ensures.told before s.known s.cased)) c.in_default.ensures (c.in_ok-named.ensures.names _ s.known)
    (c.in_ok-named.ensures.camels _ s.cased) s
