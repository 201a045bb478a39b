-- Statements before a body, as they are made for whatever body follows.
use Rattle.std.specs.Prelude.{◌≡◌, List, [], ◌∷◌, Option, Some, map}
use Rattle.isle_tree.specs.declared.tree.Stmt.{Stmt as CodeStmt}
use Rattle.isle_tree.specs.Program.{Stmt, Body}
use Rattle.isle_tree.specs.Views.{stmt}
use Rattle.isle_simulation.specs.Statements.{stmt_before}

-- the statements of a list, and then those of a body
abbrev pub body_onto : List Stmt → Option Body → Option Body
body_onto [] end = end
body_onto (s ∷ ss) end = stmt_before (Some s) (body_onto ss end)

-- before each end the statements are the body that is made of the end
abbrev pub AreMadeAs : List CodeStmt → (Option Body → Option Body) → Type 0
AreMadeAs stmts body = (end : Option Body) → body_onto (map stmt stmts) end ≡ body end

-- what was pushed is before each end the body that is made of the end
abbrev pub ArePushedAs : (old new : List CodeStmt) → (Option Body → Option Body) → Type 0
ArePushedAs old new body = (end : Option Body) → body_onto (map stmt new) end ≡ body_onto (map stmt old) (body end)

-- so of one statement
abbrev pub PushesStmt : (old new : List CodeStmt) → Option Stmt → Type 0
PushesStmt old new made = ArePushedAs old new (stmt_before made)
