-- All statements of a body, those inside others too, in order: the walk of every question that hangs on single statements.
use Rattle.std.specs.Prelude.{List, [], ◌++◌}
use Rattle.isle_tree.specs.Program.{Stmt, Let, LetList, IfEq, IfLet, Match, Loop, Return, Extend, Overflow, Log, Split, Tail, Body, Done, Then, Arms, NoArm, Arm}

-- what each single statement gives, of a statement and those inside it, of a body, and of the arms of a match
abbrev mutual
  pub of_stmt : {A : Type 0} → (Stmt → List A) → Stmt → List A
  of_stmt each (Let n e) = each (Let n e)
  of_stmt each (LetList n call) = each (LetList n call)
  of_stmt each (IfEq a b inside) = each (IfEq a b inside) ++ of_body each inside
  of_stmt each (IfLet pat read inside) = each (IfLet pat read inside) ++ of_body each inside
  of_stmt each (Match read arms) = each (Match read arms) ++ of_arms each arms
  of_stmt each (Loop list item inside) = each (Loop list item inside) ++ of_body each inside
  of_stmt each (Return e) = each (Return e)
  of_stmt each (Extend read) = each (Extend read)
  of_stmt each (Overflow within limit) = each (Overflow within limit)
  of_stmt each (Log term place) = each (Log term place)
  of_stmt each (Split inside within) = each (Split inside within) ++ of_body each inside
  of_stmt each (Tail texts) = each (Tail texts)

  pub of_body : {A : Type 0} → (Stmt → List A) → Body → List A
  of_body each Done = []
  of_body each (Then s ss) = of_stmt each s ++ of_body each ss

  pub of_arms : {A : Type 0} → (Stmt → List A) → Arms → List A
  of_arms each NoArm = []
  of_arms each (Arm pat inside arms) = of_body each inside ++ of_arms each arms
