use Rattle.std.proofs.Common.{◌≡◌, ◌++◌, sym, subst}
use Rattle.std.specs.Prelude.{OnOk}
use Rattle.isle_printer.specs.Token.{step, begun}
use Rattle.isle_target.specs.StatementSpelling.{stop_tokens}
use Rattle.isle_target.proofs.several.print_stop.Goals as goal

pub returns-then-inside : goal.returns-then-inside
unfolding step begun
returns-then-inside c = subst (λ b. OnOk c.piece.result (c.piece.new.self ≡ c.args.out.now ++ stop_tokens b)) (sym c.if-inside.true) c.piece.ensures

pub returns-else-inside : goal.returns-else-inside
unfolding step begun
returns-else-inside c =
    subst (λ b. OnOk c.piece-else-inside.result (c.piece-else-inside.new.self ≡ c.args.out.now ++ stop_tokens b)) (sym c.if-inside.false) c.piece-else-inside.ensures
