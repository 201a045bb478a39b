use Rattle.std.proofs.Common.{◌≡◌, ◌++◌, map, drop}
use Rattle.isle_tree.specs.Views.{stmt, body, arms}
use Rattle.isle_operand_names.specs.Occurring.{stmt_types, inner_types, all_types}
use Rattle.isle_operand_names.proofs.types.+typing.Given as goal

abbrev pub invariant-push_statement-loop-arm : goal.invariant-push_statement-loop-arm
invariant-push_statement-loop-arm l = map (λ x. x.now) l.names.items ++ inner_types (arms (drop l.arm-index l.arm-items)) ≡ map (λ x. x.now) l.fn.names.items ++ stmt_types (stmt l.fn.statement)

abbrev pub invariant-push_types-loop-statement : goal.invariant-push_types-loop-statement
invariant-push_types-loop-statement l = map (λ x. x.now) l.names.items ++ all_types (body (drop l.statement-index l.statements)) ≡ map (λ x. x.now) l.fn.names.items ++ all_types (body l.statements)
