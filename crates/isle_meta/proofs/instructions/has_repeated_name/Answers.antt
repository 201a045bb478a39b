use Rattle.isle_meta.specs.InstructionRow as row
use Rattle.isle_meta.specs.TableNames.{repeats}
use Rattle.isle_meta.proofs.RepeatLaws.{among_two}
use Rattle.std.proofs.Common.{subst}
use Rattle.std.specs.Prelude.{◌↔◌, IsTrue, Contains}
use Rattle.isle_meta.proofs.instructions.has_repeated_name.Goals as goal

pub returns-clause-told : goal.returns-clause-told
returns-clause-told c = λ earlier cased has hasc.
    let i = c.args.instruction.now in
    let fresh = subst (λ t. IsTrue c.in_ok-fresh.fresh ↔ (Contains earlier t → ⊥)) c.as_str.ensures (c.in_ok-fresh.ensures.fresh earlier has) in
    let camel = subst (λ t. IsTrue c.in_ok-cased.cased ↔ (Contains cased t → ⊥)) c.as_str-2.ensures (c.in_ok-cased.ensures.fresh cased hasc) in
    among_two earlier cased i.name i.camel_name c.in_ok-fresh.fresh c.in_ok-cased.cased c.in_ok-repeated.repeated (repeats (row.operand_names i)) fresh camel c.in_ok-repeated.ensures
