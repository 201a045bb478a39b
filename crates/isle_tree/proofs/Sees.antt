-- What a contract sees of each statement.
use Rattle.std.proofs.Common.{◌≡◌, ℕ, List, [], ◌∷◌, map, Bool, Option, refl, sym, ap, ◌∙◌}
use Rattle.isle_tree.specs.declared.tree.Operand.{Operand}
use Rattle.isle_tree.specs.declared.tree.Read.{Read}
use Rattle.isle_tree.specs.declared.tree.TCall.{TCall}
use Rattle.isle_tree.specs.declared.tree.TExpr.{TExpr}
use Rattle.isle_tree.specs.declared.tree.TPat.{TPat}
use Rattle.isle_tree.specs.declared.tree.Stmt.{Stmt as CodeStmt}
use Rattle.isle_tree.specs.declared.tree.Stmt.TheVariants as code
use Rattle.isle_tree.specs.declared.tree.Stmt.TheFolds.{fold-roll-Stmt}
use Rattle.isle_tree.specs.declared.tree.Stmt.TheShapes.{former-Stmt-Match-1-at-3}
use Rattle.isle_tree.specs.Program.{Stmt, Let, LetList, IfEq, IfLet, Match, Loop, Return, Extend, Overflow, Log, Split, Tail, Arm}
use Rattle.isle_tree.specs.Views.{stmt, stmt_step, body, arms_of, arms}

pub stmt-let : (n : ℕ) (e : TExpr) → stmt (code.Let n e) ≡ Let n e
stmt-let n e = ap stmt (sym (code.rolls-Let n e)) ∙ fold-roll-Stmt Stmt stmt_step _

pub stmt-let_list : (n : ℕ) (call : TCall) → stmt (code.LetList n call) ≡ LetList n call
stmt-let_list n call = ap stmt (sym (code.rolls-LetList n call)) ∙ fold-roll-Stmt Stmt stmt_step _

pub stmt-if_eq : (a b : Operand) (inside : List CodeStmt) → stmt (code.IfEq a b inside) ≡ IfEq a b (body inside)
stmt-if_eq a b inside = ap stmt (sym (code.rolls-IfEq a b inside)) ∙ fold-roll-Stmt Stmt stmt_step _

pub stmt-if_let : (p : TPat) (r : Read) (inside : List CodeStmt) → stmt (code.IfLet p r inside) ≡ IfLet p r (body inside)
stmt-if_let p r inside = ap stmt (sym (code.rolls-IfLet p r inside)) ∙ fold-roll-Stmt Stmt stmt_step _

arms_map : (xs : List (TPat × List CodeStmt)) → arms_of (map ((former-Stmt-Match-1-at-3).map CodeStmt Stmt stmt) xs) ≡ arms xs
arms_map [] = refl
arms_map (a ∷ more) = ap (λ m. Arm a.0 (body a.1) m) (arms_map more)

pub stmt-match : (r : Read) (xs : List (TPat × List CodeStmt)) → stmt (code.Match r xs) ≡ Match r (arms xs)
stmt-match r xs = ap stmt (sym (code.rolls-Match r xs)) ∙ fold-roll-Stmt Stmt stmt_step _ ∙ ap (Match r) (arms_map xs)

pub stmt-loop : (l i : ℕ) (inside : List CodeStmt) → stmt (code.Loop l i inside) ≡ Loop l i (body inside)
stmt-loop l i inside = ap stmt (sym (code.rolls-Loop l i inside)) ∙ fold-roll-Stmt Stmt stmt_step _

pub stmt-return : (e : TExpr) → stmt (code.Return e) ≡ Return e
stmt-return e = ap stmt (sym (code.rolls-Return e)) ∙ fold-roll-Stmt Stmt stmt_step _

pub stmt-extend : (r : Read) → stmt (code.Extend r) ≡ Extend r
stmt-extend r = ap stmt (sym (code.rolls-Extend r)) ∙ fold-roll-Stmt Stmt stmt_step _

pub stmt-overflow : (b : Bool) (n : ℕ) → stmt (code.Overflow b n) ≡ Overflow b n
stmt-overflow b n = ap stmt (sym (code.rolls-Overflow b n)) ∙ fold-roll-Stmt Stmt stmt_step _

pub stmt-log : (t p : List ℕ) → stmt (code.Log t p) ≡ Log t p
stmt-log t p = ap stmt (sym (code.rolls-Log t p)) ∙ fold-roll-Stmt Stmt stmt_step _

pub stmt-split : (inside : List CodeStmt) (b : Bool) → stmt (code.Split inside b) ≡ Split (body inside) b
stmt-split inside b = ap stmt (sym (code.rolls-Split inside b)) ∙ fold-roll-Stmt Stmt stmt_step _

pub stmt-tail : (t : Option (List ℕ × List ℕ)) → stmt (code.Tail t) ≡ Tail t
stmt-tail t = ap stmt (sym (code.rolls-Tail t)) ∙ fold-roll-Stmt Stmt stmt_step _

pub ruleset sees = (stmt-let, stmt-let_list, stmt-if_eq, stmt-if_let, stmt-match, stmt-loop, stmt-return, stmt-extend, stmt-overflow, stmt-log, stmt-split, stmt-tail)
