-- Statements that are printed piece by piece.
use Rattle.std.proofs.Common.{◌≡◌, ℕ, List, ◌++◌, Bool, Result, Ok, Err, sym, ap, ◌∙◌, subst, append_assoc}
use Rattle.std.specs.Prelude.{OnOk}
use Rattle.isle_printer.specs.Token.{Token}
use Rattle.isle_tree.specs.declared.tree.Operand.{Operand}
use Rattle.isle_tree.specs.declared.tree.Read.{Read}
use Rattle.isle_tree.specs.declared.tree.TPat.{TPat}
use Rattle.isle_tree.specs.declared.tree.Stmt.{Stmt as CodeStmt}
use Rattle.isle_tree.specs.declared.tree.Stmt.TheVariants as code
use Rattle.isle_tree.specs.Program.{Match}
use Rattle.isle_tree.specs.Views.{stmt, body, arms}
use Rattle.isle_tree.specs.WellFormed.{IsRead, HasSeveral, IsStmt, AreArms}
use Rattle.isle_tree.proofs.Sees.{stmt-if_eq, stmt-if_let, stmt-match, stmt-loop, stmt-split}
use Rattle.isle_target.specs.StatementSpelling.{close, loop_head, split_head, split_end, if_eq_head, if_let_head, match_head, stmt_tokens, body_tokens, arms_tokens}

-- a head, what stands inside, and what closes it
pub closed : {A E T : Type 0} (r : Result T E) (old head inside end n0 n1 new whole : List A) → n0 ≡ old ++ head → n1 ≡ n0 ++ inside → OnOk r (new ≡ n1 ++ end) → whole ≡ head ++ (inside ++ end) → OnOk r (new ≡ old ++ whole)
closed (Ok u) old head inside end n0 n1 new whole e f h is =
    h
    ∙ ap (λ l. l ++ end) (f ∙ ap (λ l. l ++ inside) e)
    ∙ append_assoc (old ++ head) inside end
    ∙ append_assoc old head (inside ++ end)
    ∙ ap (λ l. old ++ l) (sym is)
closed (Err x) old head inside end n0 n1 new whole e f h is = tt

-- the tokens of a test
pub test_tokens : (a b : Operand) (inside slice : List CodeStmt) (s : CodeStmt) → s ≡ code.IfEq a b inside → slice ≡ inside → stmt_tokens (stmt s) ≡ if_eq_head a b ++ (body_tokens (body slice) ++ close)
test_tokens a b inside slice s is same = ap stmt_tokens (ap stmt is ∙ stmt-if_eq a b inside) ∙ ap (λ ss. if_eq_head a b ++ (body_tokens (body ss) ++ close)) (sym same)

-- those of a pattern's test
pub if_let_tokens : (pat : TPat) (r : Read) (inside slice : List CodeStmt) (s : CodeStmt) → s ≡ code.IfLet pat r inside → slice ≡ inside → stmt_tokens (stmt s) ≡ if_let_head pat r ++ (body_tokens (body slice) ++ close)
if_let_tokens pat r inside slice s is same = ap stmt_tokens (ap stmt is ∙ stmt-if_let pat r inside) ∙ ap (λ ss. if_let_head pat r ++ (body_tokens (body ss) ++ close)) (sym same)

-- those of a loop
pub loop_tokens : (list item : ℕ) (inside slice : List CodeStmt) (s : CodeStmt) → s ≡ code.Loop list item inside → slice ≡ inside → stmt_tokens (stmt s) ≡ loop_head list item ++ (body_tokens (body slice) ++ close)
loop_tokens list item inside slice s is same = ap stmt_tokens (ap stmt is ∙ stmt-loop list item inside) ∙ ap (λ ss. loop_head list item ++ (body_tokens (body ss) ++ close)) (sym same)

-- those of a closure
pub split_tokens : (inside slice : List CodeStmt) (within : Bool) (s : CodeStmt) → s ≡ code.Split inside within → slice ≡ inside → stmt_tokens (stmt s) ≡ split_head ++ (body_tokens (body slice) ++ split_end within)
split_tokens inside slice within s is same = ap stmt_tokens (ap stmt is ∙ stmt-split inside within) ∙ ap (λ ss. split_head ++ (body_tokens (body ss) ++ split_end within)) (sym same)

-- what is left of a match after its head are its arms
pub match_begun : (r : Read) (xs items : List (TPat × List CodeStmt)) (s : CodeStmt) (old head new : List Token) → s ≡ code.Match r xs → items ≡ xs → IsStmt (stmt s) → head ≡ old ++ match_head r → new ≡ head
    → AreArms (arms items) × (new ++ arms_tokens (arms items) ≡ old ++ stmt_tokens (stmt s))
match_begun r xs items s old head new is same h e f =
    let seen : stmt s ≡ Match r (arms xs) = ap stmt is ∙ stmt-match r xs in
    let formed : IsRead r × HasSeveral (arms xs) × AreArms (arms xs) = subst IsStmt seen h in (
      subst (λ ys. AreArms (arms ys)) (sym same) formed.2,
      ap (λ l. l ++ arms_tokens (arms items)) (f ∙ e)
          ∙ append_assoc old (match_head r) (arms_tokens (arms items))
          ∙ ap (λ l. old ++ l) (ap (λ ys. match_head r ++ arms_tokens (arms ys)) same ∙ sym (ap stmt_tokens seen)),
    )
