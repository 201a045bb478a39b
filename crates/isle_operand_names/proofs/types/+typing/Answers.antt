use Rattle.std.proofs.Common.{refl}
use Rattle.isle_operand_names.proofs.NamesJoin.{both, both_ok, pattern_and_types, match_types}
use Rattle.isle_operand_names.proofs.types.+typing.Goals as goal

pub push_statement-loop-arm-init : goal.push_statement-loop-arm-init
push_statement-loop-arm-init t c =
    both _ _ _ _ _ _ c.in_ok-push_patterns-in-Match.ensures refl (match_types c.in-Match.field-0 c.in-Match.given c.as_slice-in-Match.result.now c.as_slice-arm-items.result.now c.args.statement.now c.in-Match.is c.as_slice-in-Match.ensures c.as_slice-arm-items.ensures)

pub push_statement-returns-in_ok-push_pattern-in-IfLet : goal.push_statement-returns-in_ok-push_pattern-in-IfLet
push_statement-returns-in_ok-push_pattern-in-IfLet t c =
    both_ok c.push_types.result _ _ _ _ _ _ c.in_ok-push_pattern-in-IfLet.ensures c.push_types.ensures (pattern_and_types c.in-IfLet.pat c.in-IfLet.field-1 c.in-IfLet.inside c.as_slice.result.now c.args.statement.now c.in-IfLet.is c.as_slice.ensures)
