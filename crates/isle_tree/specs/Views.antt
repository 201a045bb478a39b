-- What contracts see of the code's trees with statements in them.
use Rattle.std.specs.Prelude.{List, [], ◌∷◌, map}
use Rattle.isle_tree.specs.declared.tree.TPat.{TPat}
use Rattle.isle_tree.specs.declared.tree.Stmt.{Stmt as CodeStmt}
use Rattle.isle_tree.specs.declared.tree.Stmt.TheOpen.{Stmt-F}
use Rattle.isle_tree.specs.declared.tree.Stmt.TheOpen as code
use Rattle.isle_tree.specs.declared.tree.Stmt.TheFolds.{fold-Stmt}
use Rattle.isle_tree.specs.declared.tree.Function.{Function as CodeFunction}
use Rattle.isle_tree.specs.declared.tree.Program.{Program as CodeProgram}
use Rattle.isle_tree.specs.Program.{Stmt, Let, LetList, IfEq, IfLet, Match, Loop, Return, Extend, Overflow, Log, Split, Tail, Body, Done, Then, Arms, NoArm, Arm, Function, Program}

-- the statements of a list as a body
abbrev pub body_of : List Stmt → Body
body_of [] = Done
body_of (s ∷ ss) = Then s (body_of ss)

-- the arms of a list, their statements seen already
abbrev pub arms_of : List (TPat × List Stmt) → Arms
arms_of [] = NoArm
arms_of (arm ∷ arms) = Arm arm.0 (body_of arm.1) (arms_of arms)

-- one statement, if those inside it are seen already
abbrev pub stmt_step : Stmt-F Stmt → Stmt
stmt_step (code.Let local e) = Let local e
stmt_step (code.LetList local call) = LetList local call
stmt_step (code.IfEq a b inside) = IfEq a b (body_of inside)
stmt_step (code.IfLet pat read inside) = IfLet pat read (body_of inside)
stmt_step (code.Match read arms) = Match read (arms_of arms)
stmt_step (code.Loop list item inside) = Loop list item (body_of inside)
stmt_step (code.Return e) = Return e
stmt_step (code.Extend read) = Extend read
stmt_step (code.Overflow inside limit) = Overflow inside limit
stmt_step (code.Log term place) = Log term place
stmt_step (code.Split body inside) = Split (body_of body) inside
stmt_step (code.Tail place) = Tail place

-- a statement
abbrev pub stmt : CodeStmt → Stmt
stmt = fold-Stmt Stmt stmt_step

-- a list of statements as a body
abbrev pub body : List CodeStmt → Body
body ss = body_of (map stmt ss)

-- the arms of a match
abbrev pub arms : List (TPat × List CodeStmt) → Arms
arms [] = NoArm
arms (arm ∷ more) = Arm arm.0 (body arm.1) (arms more)

-- a function
abbrev pub function : CodeFunction → Function
function f = record { term = f.term; params = f.params; result = f.result; kind = f.kind; body = body f.body }

-- a program
abbrev pub program : CodeProgram → Program
program p = record { allow = p.allow; trait_fns = p.trait_fns; types = p.types; fns = map function p.fns }
