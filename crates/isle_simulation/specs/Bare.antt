-- The statements of a body that stand for steps of a block.
use Rattle.isle_tree.specs.Program.{Stmt, Let, LetList, IfEq, IfLet, Match, Loop, Return, Extend, Overflow, Log, Split, Tail, Body, Done, Then, Arms, NoArm, Arm}

-- the statements of a body before those of another
abbrev pub body_before : Body → Body → Body
body_before Done after = after
body_before (Then s ss) after = Then s (body_before ss after)

-- a body without its lets, its lists, its tests of overflow, its logs and its tails; a split gives its body
abbrev mutual
  pub bare : Body → Body
  bare Done = Done
  bare (Then s ss) = bare_before s (bare ss)

  -- what is left of a statement, before a bare body
  pub bare_before : Stmt → Body → Body
  bare_before (Let local e) after = after
  bare_before (LetList local call) after = after
  bare_before (Overflow inside limit) after = after
  bare_before (Log term place) after = after
  bare_before (Tail mark) after = after
  bare_before (Split body inside) after = body_before (bare body) after
  bare_before (IfEq o q body) after = Then (IfEq o q (bare body)) after
  bare_before (IfLet pat read body) after = Then (IfLet pat read (bare body)) after
  bare_before (Match read arms) after = Then (Match read (bare_arms arms)) after
  bare_before (Loop list item body) after = Then (Loop list item (bare body)) after
  bare_before (Return e) after = Then (Return e) after
  bare_before (Extend read) after = Then (Extend read) after

  -- so of the bodies of arms
  pub bare_arms : Arms → Arms
  bare_arms NoArm = NoArm
  bare_arms (Arm pat body arms) = Arm pat (bare body) (bare_arms arms)
