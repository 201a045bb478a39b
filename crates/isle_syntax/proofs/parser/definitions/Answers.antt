use Rattle.std.proofs.Common.{sym, arith}
use Rattle.std.proofs.lemmas.Result.{IfOk-weaker}
use Rattle.isle_reading.specs.Views.{left}
use Rattle.isle_reading.proofs.Steps.{comes_got, comes_stops}
use Rattle.isle_ast.specs.Views.{defs}
use Rattle.isle_grammar.proofs.Files.{file_got, file_stops}
use Rattle.isle_syntax.proofs.parser.definitions.Goals as goal

pub returns-clause-spelt : goal.returns-clause-spelt
returns-clause-spelt c = IfOk-weaker c.file_of.result _ _ (λ read e. file_got c.len-most.result c.args.file (left c.args.tokens.now) (left c.file_of.new.tokens) (defs read.items) e) (comes_got _ _ _ _ c.file_of.ensures)

pub returns-clause-fault : goal.returns-clause-fault
returns-clause-fault c = λ k e. file_stops c.len-most.result c.args.file k (left c.args.tokens.now) (omega (arith, c.len-most.ensures)) (comes_stops _ _ _ _ k c.file_of.ensures e)
