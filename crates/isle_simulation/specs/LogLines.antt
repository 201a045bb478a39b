-- The log lines of a body.
use Rattle.std.specs.Prelude.{ℕ, List, [], ◌∷◌}
use Rattle.isle_tree.specs.Program.{Stmt, Let, LetList, IfEq, IfLet, Match, Loop, Return, Extend, Overflow, Log, Split, Tail, Body}
use Rattle.isle_tree.specs.Walk.{of_body}

-- what a log line says: the name of a term, and a place
abbrev pub LogLine : Type 0
LogLine = List ℕ × List ℕ

-- the log line that a statement is
abbrev pub own_lines : Stmt → List LogLine
own_lines (Let local e) = []
own_lines (LetList local call) = []
own_lines (IfEq a b inside) = []
own_lines (IfLet pat read inside) = []
own_lines (Match read arms) = []
own_lines (Loop list item inside) = []
own_lines (Return e) = []
own_lines (Extend read) = []
own_lines (Overflow within limit) = []
own_lines (Log term place) = (term, place) ∷ []
own_lines (Split inside within) = []
own_lines (Tail mark) = []

-- the log lines of a body, in order
abbrev pub lines_of : Body → List LogLine
lines_of b = of_body own_lines b
