use Rattle.std.proofs.Common.{◌≡◌, ◌++◌, map, drop}
use Rattle.isle_tree.specs.Views.{stmt, body, arms}
use Rattle.isle_operand_names.specs.Names.{stmt_names, arms_names, body_names}
use Rattle.isle_operand_names.proofs.names.+naming.Given as goal

abbrev pub invariant-push_statement-loop-arm : goal.invariant-push_statement-loop-arm
invariant-push_statement-loop-arm l = map (λ x. x.now) l.names.items ++ arms_names (arms (drop l.arm-index l.arm-items)) ≡ map (λ x. x.now) l.fn.names.items ++ stmt_names (stmt l.fn.statement)

abbrev pub invariant-push_names-loop-statement : goal.invariant-push_names-loop-statement
invariant-push_names-loop-statement l = map (λ x. x.now) l.names.items ++ body_names (body (drop l.statement-index l.statements)) ≡ map (λ x. x.now) l.fn.names.items ++ body_names (body l.statements)
