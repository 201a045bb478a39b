use Rattle.std.proofs.Common.{rules, ◌∙◌, ◌∷◌, ◌++◌, [], ap}
use Rattle.isle_tree.specs.declared.tree.Stmt.TheVariants as code
use Rattle.isle_emission.proofs.Onto.{onto_closed}
use Rattle.isle_emission.proofs.closures.closed_if.Goals as goal

pub returns : goal.returns
returns c =
    onto_closed c.args.own c.args.inside c.args.stmts.items c.new-closed.result.items c.push.new.self.items (search rules) c.new-closed.ensures.items
    (c.in_ok-push.ensures.items ∙ ap (λ ys. c.new-closed.result.items ++ code.Split ys c.args.inside ∷ []) c.new.ensures)
