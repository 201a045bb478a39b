-- How many tests stand in statements: each `if`, each `if let` and each `match` is one, whatever stands inside it. A stop and a closure are none.
use Rattle.std.specs.Prelude.{ℕ, ◌+◌, ◌-◌, ◌^◌, List, [], ◌∷◌, length, min}
use Rattle.isle_tree.specs.Program.{Stmt, Let, LetList, IfEq, IfLet, Match, Loop, Return, Extend, Overflow, Log, Split, Tail, Body, Arms, Function, Program}
use Rattle.isle_tree.specs.Walk.{of_stmt, of_body, of_arms}
use Rattle.isle_target.specs.declared.counting.TreeCounts.{TreeCounts}

-- the statement, if it is a test
abbrev pub own_tests : Stmt → List Stmt
own_tests (Let n e) = []
own_tests (LetList n call) = []
own_tests (IfEq a b inside) = IfEq a b inside ∷ []
own_tests (IfLet pat read inside) = IfLet pat read inside ∷ []
own_tests (Match read arms) = Match read arms ∷ []
own_tests (Loop list item inside) = []
own_tests (Return e) = []
own_tests (Extend read) = []
own_tests (Overflow within limit) = []
own_tests (Log term place) = []
own_tests (Split inside within) = []
own_tests (Tail texts) = []

-- how many tests a statement is or holds
abbrev pub stmt_tests : Stmt → ℕ
stmt_tests s = length (of_stmt own_tests s)

-- how many stand in a body
abbrev pub body_tests : Body → ℕ
body_tests b = length (of_body own_tests b)

-- how many stand in the arms of a match
abbrev pub arms_tests : Arms → ℕ
arms_tests arms = length (of_arms own_tests arms)

-- how many stand in functions
abbrev pub functions_tests : List Function → ℕ
functions_tests [] = 0
functions_tests (f ∷ fs) = body_tests f.body + functions_tests fs

-- a number as a count of 64 bits holds it: past its limit it stays there
abbrev pub saturated : ℕ → ℕ
saturated n = min n (2 ^ 64 - 1)

-- what is counted of a program
abbrev pub counts_of : Program → TreeCounts
counts_of p = record { functions = length p.fns; tests = saturated (functions_tests p.fns) }
