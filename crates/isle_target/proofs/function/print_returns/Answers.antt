use Rattle.std.proofs.Common.{[], ◌∷◌}
use Rattle.isle_printer.specs.Token.{Word, step, begun}
use Rattle.isle_target.specs.Spelling.{returns_head, returns_end}
use Rattle.isle_target.proofs.Prints.{piece_then}
use Rattle.isle_target.proofs.function.print_returns.Goals as goal

pub returns : goal.returns
unfolding step begun
returns c =
    let ty = Word c.args.ty.now in
    piece_then c.piece-2.result c.args.out.now returns_head (ty ∷ returns_end) _ _ c.in_ok-piece.ensures
    (piece_then c.piece-2.result c.piece.new.self (ty ∷ []) returns_end _ _ c.in_ok-word.ensures c.piece-2.ensures)
