-- A body with log lines before its results, as it is made of one without them.
use Rattle.std.specs.Prelude.{ℕ, List, [], ◌∷◌, length, drop}
use Rattle.isle_tree.specs.Program.{Stmt, Let, LetList, IfEq, IfLet, Match, Loop, Return, Extend, Overflow, Log, Split, Tail, Body, Done, Then, Arms, NoArm, Arm}
use Rattle.isle_tree.specs.Walk.{of_stmt, of_body}
use Rattle.isle_simulation.specs.LogLines.{LogLine}
use Rattle.isle_simulation.specs.Telling.{line_before}

-- a statement gives a result: its function's, or one more of several
abbrev pub own_results : Stmt → List Stmt
own_results (Let local e) = []
own_results (LetList local call) = []
own_results (IfEq a b inside) = []
own_results (IfLet pat read inside) = []
own_results (Match read arms) = []
own_results (Loop list item inside) = []
own_results (Return e) = Return e ∷ []
own_results (Extend read) = Extend read ∷ []
own_results (Overflow within limit) = []
own_results (Log term place) = []
own_results (Split inside within) = []
own_results (Tail mark) = []

-- how many results a statement gives, those inside it too
abbrev pub results_in : Stmt → ℕ
results_in s = length (of_stmt own_results s)

-- so of a body
abbrev pub results_of : Body → ℕ
results_of b = length (of_body own_results b)

-- the first of these lines before a body
abbrev pub first_before : List LogLine → Body → Body
first_before [] after = after
first_before (l ∷ lines) after = line_before l after

-- a body with these lines, in order, one before each result
abbrev mutual
  pub logged : List LogLine → Body → Body
  logged lines Done = Done
  logged lines (Then s ss) = logged_before lines s (logged (drop (results_in s) lines) ss)

  -- a statement with these lines, before a body
  pub logged_before : List LogLine → Stmt → Body → Body
  logged_before lines (Let local e) after = Then (Let local e) after
  logged_before lines (LetList local call) after = Then (LetList local call) after
  logged_before lines (IfEq a b inside) after = Then (IfEq a b (logged lines inside)) after
  logged_before lines (IfLet pat read inside) after = Then (IfLet pat read (logged lines inside)) after
  logged_before lines (Match read arms) after = Then (Match read (logged_arms lines arms)) after
  logged_before lines (Loop list item inside) after = Then (Loop list item (logged lines inside)) after
  logged_before lines (Return e) after = first_before lines (Then (Return e) after)
  logged_before lines (Extend read) after = first_before lines (Then (Extend read) after)
  logged_before lines (Overflow within limit) after = Then (Overflow within limit) after
  logged_before lines (Log term place) after = Then (Log term place) after
  logged_before lines (Split inside within) after = Then (Split (logged lines inside) within) after
  logged_before lines (Tail mark) after = Then (Tail mark) after

  -- arms with these lines
  pub logged_arms : List LogLine → Arms → Arms
  logged_arms lines NoArm = NoArm
  logged_arms lines (Arm pat inside arms) = Arm pat (logged lines inside) (logged_arms (drop (results_of inside) lines) arms)
