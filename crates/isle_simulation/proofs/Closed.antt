-- A body with some of its arms' statements in closures, as it is made of one without closures.
use Rattle.std.specs.Prelude.{ℕ, Bool, true, false, Option, List}
use Rattle.isle_core.specs.declared.types.ReturnKind.{ReturnKind}
use Rattle.isle_tree.specs.declared.tree.Operand.{Operand}
use Rattle.isle_tree.specs.declared.tree.Read.{Read}
use Rattle.isle_tree.specs.declared.tree.TCall.{TCall}
use Rattle.isle_tree.specs.declared.tree.TExpr.{TExpr}
use Rattle.isle_tree.specs.declared.tree.TPat.{TPat}
use Rattle.isle_tree.specs.Program.{Stmt, Let, LetList, IfEq, IfLet, Match, Loop, Return, Extend, Overflow, Log, Split, Tail, Body, Done, Then, Arms, NoArm, Arm}
use Rattle.isle_tree.specs.WellFormed.{GivesSeveral}

mutual
  -- the second body is the first one with closures, in a function of the kind, and inside a closure or not
  pub data Closes (kind : ReturnKind) : (inside : Bool) → (without with : Body) → Type 0 where
    done : (inside : Bool) → Closes kind inside Done Done
    then : (inside : Bool) (s t : Stmt) (ss ts : Body) → ClosesStmt kind inside s t → Closes kind inside ss ts → Closes kind inside (Then s ss) (Then t ts)

  -- so of a statement: a stop leaves the closure that it stands in
  pub data ClosesStmt (kind : ReturnKind) : (inside : Bool) → (without with : Stmt) → Type 0 where
    lets : (inside : Bool) (n : ℕ) (e : TExpr) → ClosesStmt kind inside (Let n e) (Let n e)
    lists : (inside : Bool) (n : ℕ) (call : TCall) → ClosesStmt kind inside (LetList n call) (LetList n call)
    if_eq : (inside : Bool) (a b : Operand) (x y : Body) → ClosesArm kind inside x y → ClosesStmt kind inside (IfEq a b x) (IfEq a b y)
    if_let : (inside : Bool) (pat : TPat) (r : Read) (x y : Body) → ClosesArm kind inside x y → ClosesStmt kind inside (IfLet pat r x) (IfLet pat r y)
    match : (inside : Bool) (r : Read) (xs ys : Arms) → ClosesArms kind inside xs ys → ClosesStmt kind inside (Match r xs) (Match r ys)
    loop : (inside : Bool) (list item : ℕ) (x y : Body) → Closes kind inside x y → ClosesStmt kind inside (Loop list item x) (Loop list item y)
    returns : (inside : Bool) (e : TExpr) → ClosesStmt kind inside (Return e) (Return e)
    extends : (inside : Bool) (r : Read) → ClosesStmt kind inside (Extend r) (Extend r)
    stops : (inside : Bool) (limit : ℕ) → ClosesStmt kind inside (Overflow false limit) (Overflow inside limit)
    logs : (inside : Bool) (term place : List ℕ) → ClosesStmt kind inside (Log term place) (Log term place)
    tails : (inside : Bool) (mark : Option (List ℕ × List ℕ)) → ClosesStmt kind inside (Tail mark) (Tail mark)

  -- so of the body of an arm: it has a closure of its own, or none
  pub data ClosesArm (kind : ReturnKind) : (inside : Bool) → (without with : Body) → Type 0 where
    plain : (inside : Bool) (x y : Body) → Closes kind inside x y → ClosesArm kind inside x y
    closed : (inside : Bool) (x y : Body) → GivesSeveral kind → Closes kind true x y → ClosesArm kind inside x (Then (Split y inside) Done)

  -- and of arms, in order
  pub data ClosesArms (kind : ReturnKind) : (inside : Bool) → (without with : Arms) → Type 0 where
    no_arm : (inside : Bool) → ClosesArms kind inside NoArm NoArm
    one_arm : (inside : Bool) (pat : TPat) (x y : Body) (xs ys : Arms) → ClosesArm kind inside x y → ClosesArms kind inside xs ys → ClosesArms kind inside (Arm pat x xs) (Arm pat y ys)
