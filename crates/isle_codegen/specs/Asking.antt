-- How often the functions of a program ask extractors and pure terms.
use Rattle.std.specs.Prelude.{◌≡◌, ℕ, ◌+◌, ◌≤◌, List, [], ◌∷◌, map, Some}
use Rattle.isle_core.specs.declared.TermId.{TermId}
use Rattle.isle_core.specs.declared.values.Callee.{Callee}
use Rattle.isle_core.specs.Meaning.{Meaning}
use Rattle.isle_core.specs.Path.{Path}
use Rattle.isle_core.specs.Rule.{Environment, rules_of}
use Rattle.isle_core.specs.Terms.{is_impure, term_name}
use Rattle.isle_core.specs.Value.{Value, Made, Ran}
use Rattle.isle_blocks.specs.AskedBound.{HavePaths}
use Rattle.isle_blocks.specs.AskedCalls.{if_pure}
use Rattle.isle_blocks.specs.RuleReads.{lengths}
use Rattle.isle_tree.specs.Program.{Stmt, Let, LetList, IfEq, IfLet, Match, Loop, Return, Extend, Overflow, Log, Split, Tail, Body, Done, Then, Arms, NoArm, Arm, Function, Program}
use Rattle.isle_tree.specs.Run.{function_of, run}

-- ---- calls

-- how many of some calls go to no impure term: those of extractors and pure terms
abbrev pub asked_callees : Environment → List Callee → ℕ
asked_callees env [] = 0
asked_callees env (c ∷ cs) = if_pure (is_impure env c) + asked_callees env cs

-- so of the calls that a run makes
abbrev pub asked_made : Environment → List Made → ℕ
asked_made env calls = asked_callees env (map (λ (c : Made). c.callee) calls)

-- ---- loops

-- neither a body nor a body within it has a loop
abbrev mutual
  pub IsLoopFree : Body → Type 0
  IsLoopFree Done = Unit {0}
  IsLoopFree (Then s ss) = IsFreeStmt s × IsLoopFree ss

  pub IsFreeStmt : Stmt → Type 0
  IsFreeStmt (Let local e) = Unit {0}
  IsFreeStmt (LetList local call) = Unit {0}
  IsFreeStmt (IfEq a b inside) = IsLoopFree inside
  IsFreeStmt (IfLet pat read inside) = IsLoopFree inside
  IsFreeStmt (Match read arms) = AreFreeArms arms
  IsFreeStmt (Loop list item inside) = ⊥
  IsFreeStmt (Return e) = Unit {0}
  IsFreeStmt (Extend read) = Unit {0}
  IsFreeStmt (Overflow within limit) = Unit {0}
  IsFreeStmt (Log term place) = Unit {0}
  IsFreeStmt (Split inside within) = IsLoopFree inside
  IsFreeStmt (Tail mark) = Unit {0}

  pub AreFreeArms : Arms → Type 0
  AreFreeArms NoArm = Unit {0}
  AreFreeArms (Arm pat inside arms) = IsLoopFree inside × AreFreeArms arms

-- ---- functions

-- a run of the term's function makes, if that has no loop, no more calls of extractors and pure terms than the term's rules have paths: no more
-- than there are in lists with the paths of each rule, and the shortest have each path once
abbrev pub AsksPaths : Environment → Program → TermId → Type 0
AsksPaths env p id =
    (f : Function) (args : List Value) (m : Meaning) (held : ℕ) (ran : Ran) (ls : List (List Path)) → function_of (term_name env id) p.fns ≡ Some f → IsLoopFree f.body
    → run p (term_name env id) args m held ≡ Some ran → HavePaths env (rules_of env id) 0 ls → asked_made env ran.calls ≤ lengths ls
