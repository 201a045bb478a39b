use Rattle.std.proofs.Common.{[], ◌∷◌, ◌++◌}
use Rattle.std.specs.Prelude.{codes}
use Rattle.isle_printer.specs.Token.{Word, Mark, step, begun}
use Rattle.isle_target.specs.StatementSpelling.{returns_word}
use Rattle.isle_target.specs.Spelling.{list_bound, item_tokens}
use Rattle.isle_target.proofs.Prints.{piece_then}
use Rattle.isle_target.proofs.context.print_list.Goals as goal

pub returns : goal.returns
unfolding step begun
returns c =
    let list = Word (returns_word c.args.name.now) in
    let item = item_tokens c.args.tys.now in
    let ended = Mark (codes ">") ∷ Mark (codes ";") ∷ [] in
    let r = c.mark-2.result in
    let new = c.mark-2.new.self in
    piece_then r c.args.out.now (Word (codes "type") ∷ []) (list ∷ (list_bound ++ (item ++ ended))) _ new c.in_ok-piece.ensures
    (piece_then r c.piece.new.self (list ∷ []) (list_bound ++ (item ++ ended)) _ new c.in_ok-prefixed.ensures
    (piece_then r c.prefixed.new.self list_bound (item ++ ended) _ new c.in_ok-piece-2.ensures
    (piece_then r c.piece-2.new.self item ended _ new c.in_ok-print_item.ensures
    (piece_then r c.print_item.new.out (Mark (codes ">") ∷ []) (Mark (codes ";") ∷ []) _ new c.in_ok-mark.ensures c.mark-2.ensures))))
