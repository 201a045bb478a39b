use Rattle.std.proofs.Common.{refl}
use Rattle.isle_operand_names.proofs.NamesJoin.{parts, parts_ok, test_names, pattern_and_names, match_names}
use Rattle.isle_operand_names.proofs.names.+naming.Goals as goal

pub push_statement-loop-arm-init : goal.push_statement-loop-arm-init
push_statement-loop-arm-init t c =
    parts _ _ _ _ _ _ _ _ c.in_ok-push_read-in-Match.ensures c.in_ok-push_patterns-in-Match.ensures refl (match_names c.in-Match.read c.in-Match.given c.as_slice-in-Match.result.now c.as_slice-arm-items.result.now c.args.statement.now c.in-Match.is c.as_slice-in-Match.ensures c.as_slice-arm-items.ensures)

pub push_statement-returns-in_ok-push_operand-in-IfEq-2 : goal.push_statement-returns-in_ok-push_operand-in-IfEq-2
push_statement-returns-in_ok-push_operand-in-IfEq-2 t c =
    parts_ok c.push_names.result _ _ _ _ _ _ _ _ c.in_ok-push_operand-in-IfEq.ensures c.in_ok-push_operand-in-IfEq-2.ensures c.push_names.ensures (test_names c.in-IfEq.a c.in-IfEq.b c.in-IfEq.inside c.as_slice-in-IfEq.result.now c.args.statement.now c.in-IfEq.is c.as_slice-in-IfEq.ensures)

pub push_statement-returns-in_ok-push_read-in-IfLet : goal.push_statement-returns-in_ok-push_read-in-IfLet
push_statement-returns-in_ok-push_read-in-IfLet t c =
    parts_ok c.push_names-in-IfLet.result _ _ _ _ _ _ _ _ c.in_ok-push_pattern-in-IfLet.ensures c.in_ok-push_read-in-IfLet.ensures c.push_names-in-IfLet.ensures (pattern_and_names c.in-IfLet.pat c.in-IfLet.read c.in-IfLet.inside c.as_slice-in-IfLet.result.now c.args.statement.now c.in-IfLet.is c.as_slice-in-IfLet.ensures)
