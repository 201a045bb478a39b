use Rattle.std.proofs.Common.{List, [], ◌∷◌, length, arith}
use Rattle.std.specs.Prelude.{◌↔◌, IsTrue, nat_lt}
use Rattle.std.proofs.lemmas.Bool.Decides.{nat_tests}
use Rattle.isle_tree.specs.declared.tree.TPat.{TPat}
use Rattle.isle_tree.specs.declared.tree.Stmt.{Stmt as CodeStmt}
use Rattle.isle_tree.specs.Views.{arms}
use Rattle.isle_tree.specs.WellFormed.{HasSeveral}
use Rattle.isle_judging.proofs.shapes.are_several.Goals as goal

-- several arms are more than one
several : (xs : List (TPat × List CodeStmt)) → IsTrue (nat_lt 1 (length xs)) ↔ HasSeveral (arms xs)
several [] = (λ t. absurd cc, λ h. absurd h)
several (a ∷ []) = (λ t. absurd cc, λ h. absurd h)
several (a ∷ b ∷ more) = (λ t. tt, λ h. grind (arith, nat_tests))

pub returns : goal.returns
returns c = several c.args.given.now
