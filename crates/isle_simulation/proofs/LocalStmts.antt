-- The statement that binds a local is a let, or a list's if a call answers several times.
use Rattle.std.proofs.Common.{◌≡◌, ℕ, Bool, true, false, refl}
use Rattle.isle_tree.specs.declared.tree.TCall.{TCall}
use Rattle.isle_tree.specs.declared.tree.TExpr.{TExpr}
use Rattle.isle_tree.specs.declared.tree.TExpr.TheVariants as expr
use Rattle.isle_tree.specs.Program.{Stmt, Let, LetList}
use Rattle.isle_simulation.specs.Statements.{local_stmt}

-- what holds of both holds of it
pub local_by : (P : Stmt → Type 0) (often : Bool) (n : ℕ) (e : TExpr) → P (Let n e) → ((borrow : Bool) (call : TCall) → e ≡ expr.Call borrow call → P (LetList n call)) → P (local_stmt often n e)
local_by P false n e h k = h
local_by P true n (expr.Call borrow call) h k = k borrow call refl
local_by P true n (expr.Read r) h k = h
local_by P true n (expr.Variant ty variant fields) h k = h
local_by P true n (expr.Struct ty fields) h k = h
local_by P true n (expr.Some r) h k = h
local_by P true n (expr.Try source as_ref) h k = h
local_by P true n (expr.Tuple source part) h k = h
