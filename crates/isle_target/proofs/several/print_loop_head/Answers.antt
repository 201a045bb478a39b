use Rattle.std.proofs.Common.{[], ◌∷◌, ◌++◌, ap, ◌∙◌}
use Rattle.std.specs.Prelude.{codes}
use Rattle.isle_printer.specs.Token.{Mark, step, begun}
use Rattle.isle_target.specs.StatementSpelling.{local_token, let_mut_head, into_part, while_part, next_part, loop_head}
use Rattle.isle_target.specs.Tokens.{rest}
use Rattle.isle_target.proofs.Prints.{piece_then}
use Rattle.isle_target.proofs.several.print_loop_head.Goals as goal

pub returns : goal.returns
unfolding loop_head step begun
returns c =
    let list = local_token c.args.list in
    let item = local_token c.args.item in
    let equals = Mark (codes ")") ∷ Mark (codes "=") ∷ [] in
    let next = rest (rest (rest (next_part c.args.list))) in
    let third = while_part ++ item ∷ next_part c.args.list in
    let fourth = item ∷ next_part c.args.list in
    let r = c.piece-4.result in
    let new = c.piece-4.new.self in
    piece_then r c.args.out.now (let_mut_head c.args.list) (list ∷ (into_part ++ third)) _ new c.in_ok-print_let_mut.ensures
    (piece_then r c.print_let_mut.new.out (list ∷ []) (into_part ++ third) _ new c.in_ok-numbered.ensures
    (piece_then r c.numbered.new.self into_part third _ new c.in_ok-piece.ensures
    (piece_then r c.piece.new.self while_part fourth _ new (c.in_ok-piece-2.ensures ∙ ap (λ l. l ++ while_part) c.in_ok-line.ensures)
    (piece_then r c.piece-2.new.self (item ∷ []) (next_part c.args.list) _ new c.in_ok-numbered-2.ensures
    (piece_then r c.numbered-2.new.self equals (list ∷ next) _ new c.in_ok-piece-3.ensures
    (piece_then r c.piece-3.new.self (list ∷ []) next _ new c.in_ok-numbered-3.ensures c.piece-4.ensures))))))
