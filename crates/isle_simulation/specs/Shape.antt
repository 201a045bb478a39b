-- When statements have the shape of a block.
use Rattle.std.specs.Prelude.{◌≡◌, ℕ, List, [], ◌∷◌, ◌++◌, true, false, Some}
use Rattle.isle_core.specs.declared.BindingId.{BindingId}
use Rattle.isle_core.specs.ArmPlaces.{bound_within}
use Rattle.isle_core.specs.Bindable.{bound_by}
use Rattle.isle_core.specs.Block as block
use Rattle.isle_core.specs.Block.{Block, Control, Arms}
use Rattle.isle_core.specs.Calling.{kind_of}
use Rattle.isle_core.specs.declared.types.ReturnKind.{ReturnKind}
use Rattle.isle_core.specs.declared.types.ReturnKind.TheVariants as return_kind
use Rattle.isle_core.specs.Setting.{Setting}
use Rattle.isle_tree.specs.declared.tree.Operand.{Operand}
use Rattle.isle_tree.specs.declared.tree.Read.{Read}
use Rattle.isle_tree.specs.declared.tree.TPat.{TPat}
use Rattle.isle_tree.specs.declared.tree.TPat.TheVariants as pattern
use Rattle.isle_tree.specs.declared.tree.TExpr.{TExpr}
use Rattle.isle_tree.specs.declared.tree.TExpr.TheVariants as expr
use Rattle.isle_tree.specs.Program.{Stmt, Let, LetList, IfEq, IfLet, Match, Loop, Return, Extend, Overflow, Log, Split, Tail, Body, Done, Then}
use Rattle.isle_tree.specs.Program as tree
use Rattle.isle_simulation.specs.Bare.{bare}
use Rattle.isle_simulation.specs.OperandOf.{IsOperandOf}
use Rattle.isle_simulation.specs.Operands.{tested}
use Rattle.isle_simulation.specs.Patterns.{pattern_of, arm_pattern}
use Rattle.isle_simulation.specs.ReadOf.{IsReadOf, IsPlainOf, IsReadBy}
use Rattle.isle_simulation.specs.Statements.{looped_local}

-- the value of a binding is returned
abbrev pub IsValueOf : Setting → List ℕ → BindingId → TExpr → Type 0
IsValueOf s bound b (expr.Read r) = IsReadOf s bound false b r
IsValueOf s bound b (expr.Call borrow call) = ⊥
IsValueOf s bound b (expr.Variant ty variant fields) = ⊥
IsValueOf s bound b (expr.Struct ty fields) = ⊥
IsValueOf s bound b (expr.Some r) = ⊥
IsValueOf s bound b (expr.Try source as_ref) = ⊥
IsValueOf s bound b (expr.Tuple source part) = ⊥

-- an option of the value of a binding is returned
abbrev pub IsSomeOf : Setting → List ℕ → BindingId → TExpr → Type 0
IsSomeOf s bound b (expr.Read r) = ⊥
IsSomeOf s bound b (expr.Call borrow call) = ⊥
IsSomeOf s bound b (expr.Variant ty variant fields) = ⊥
IsSomeOf s bound b (expr.Struct ty fields) = ⊥
IsSomeOf s bound b (expr.Some r) = IsReadOf s bound false b r
IsSomeOf s bound b (expr.Try source as_ref) = ⊥
IsSomeOf s bound b (expr.Tuple source part) = ⊥

-- what is returned: the value of a binding, or in a function that may answer nothing an option of it; one of several results is returned by
-- no such statement
abbrev pub IsResultOf : Setting → List ℕ → ReturnKind → BindingId → TExpr → Type 0
IsResultOf s bound return_kind.Plain b e = IsValueOf s bound b e
IsResultOf s bound return_kind.Option b e = IsSomeOf s bound b e
IsResultOf s bound return_kind.Iterator b e = ⊥

-- what is appended: the value of a binding, in a function that answers several times
abbrev pub IsGivenOf : Setting → List ℕ → ReturnKind → BindingId → Read → Type 0
IsGivenOf s bound return_kind.Plain b r = ⊥
IsGivenOf s bound return_kind.Option b r = ⊥
IsGivenOf s bound return_kind.Iterator b r = IsReadOf s bound false b r

-- what is tested for is the one arm's constraint, and the statements inside do its body; several arms have no such test
abbrev pub IsArmOf : Setting → List ℕ → Operand → (does : List ℕ → Block → Type 0) → Arms → Type 0
IsArmOf s bound q does block.NoArm = ⊥
IsArmOf s bound q does (block.Arm c places body block.NoArm) = (tested s.env c ≡ Some q) × does (bound_within bound places) body
IsArmOf s bound q does (block.Arm c places body (block.Arm d others more arms)) = ⊥

-- the test of two operands is the step's, of a constraint or of two bindings
abbrev pub IsTestOf : Setting → List ℕ → (a b : Operand) → (does : List ℕ → Block → Type 0) → Control → Type 0
IsTestOf s bound o q does (block.Match source arms) = IsOperandOf s bound source o × IsArmOf s bound q does arms
IsTestOf s bound o q does (block.Equal a b body) = IsOperandOf s bound a o × IsOperandOf s bound b q × does bound body
IsTestOf s bound o q does (block.Loop result body) = ⊥
IsTestOf s bound o q does (block.Return pos result) = ⊥

-- the pattern is the one arm's, and the statements inside do its body; several arms stand in a match
abbrev pub IsPatternArm : Setting → List ℕ → TPat → (does : List ℕ → Block → Type 0) → Arms → Type 0
IsPatternArm s bound pat does block.NoArm = ⊥
IsPatternArm s bound pat does (block.Arm c places body block.NoArm) = (pattern_of s.env c places ≡ Some pat) × does (bound_within bound places) body
IsPatternArm s bound pat does (block.Arm c places body (block.Arm d others more arms)) = ⊥

-- what is read is what a test of this pattern reads: a reference if a variant or a struct is taken apart, and else the operand itself
abbrev pub IsTestedBy : Setting → List ℕ → BindingId → TPat → Read → Type 0
IsTestedBy s bound b (pattern.Variant ty variant binds more) r = IsReadOf s bound true b r
IsTestedBy s bound b (pattern.Struct ty binds more) r = IsReadOf s bound true b r
IsTestedBy s bound b (pattern.Some local) r = IsPlainOf s bound b r
IsTestedBy s bound b (pattern.Const o) r = IsPlainOf s bound b r

-- the test by a pattern is the step's, over its source
abbrev pub IsPatternTest : Setting → List ℕ → TPat → Read → (does : List ℕ → Block → Type 0) → Control → Type 0
IsPatternTest s bound pat r does (block.Match source arms) = IsTestedBy s bound source pat r × IsPatternArm s bound pat does arms
IsPatternTest s bound pat r does (block.Equal a b body) = ⊥
IsPatternTest s bound pat r does (block.Loop result body) = ⊥
IsPatternTest s bound pat r does (block.Return pos result) = ⊥

-- what a match of several arms reads is what a test of its first constraint reads; one arm has no match
abbrev pub IsMatchRead : Setting → List ℕ → BindingId → Arms → Read → Type 0
IsMatchRead s bound source block.NoArm r = ⊥
IsMatchRead s bound source (block.Arm c places body block.NoArm) r = ⊥
IsMatchRead s bound source (block.Arm c places body (block.Arm d others more arms)) r = IsReadBy s bound source c r

-- the match is the step's, over its source, and its arms are these
abbrev pub IsMatchOf : Setting → List ℕ → Read → (do_arms : Arms → Type 0) → Control → Type 0
IsMatchOf s bound r do_arms (block.Match source arms) = IsMatchRead s bound source arms r × do_arms arms
IsMatchOf s bound r do_arms (block.Equal a b body) = ⊥
IsMatchOf s bound r do_arms (block.Loop result body) = ⊥
IsMatchOf s bound r do_arms (block.Return pos result) = ⊥

-- the return is the step's
abbrev pub IsReturnOf : Setting → List ℕ → TExpr → Control → Type 0
IsReturnOf s bound e (block.Match source arms) = ⊥
IsReturnOf s bound e (block.Equal a b body) = ⊥
IsReturnOf s bound e (block.Loop result body) = ⊥
IsReturnOf s bound e (block.Return pos result) = IsResultOf s bound (kind_of s.term.kind) result e

-- the result is the step's
abbrev pub IsExtendOf : Setting → List ℕ → Read → Control → Type 0
IsExtendOf s bound r (block.Match source arms) = ⊥
IsExtendOf s bound r (block.Equal a b body) = ⊥
IsExtendOf s bound r (block.Loop result body) = ⊥
IsExtendOf s bound r (block.Return pos result) = IsGivenOf s bound (kind_of s.term.kind) result r

-- the loop is the step's: over the list of its item, which has the local of its binding inside it
abbrev pub IsLoopOf : Setting → List ℕ → (list item : ℕ) → (does : List ℕ → Block → Type 0) → Control → Type 0
IsLoopOf s bound list item does (block.Match source arms) = ⊥
IsLoopOf s bound list item does (block.Equal a b body) = ⊥
IsLoopOf s bound list item does (block.Loop result body) = (looped_local s result ≡ Some list) × (item ≡ result.0) × does (bound ++ result.0 ∷ []) body
IsLoopOf s bound list item does (block.Return pos result) = ⊥

-- the bare statements are the block's steps in order, and each tests, loops over or gives the operand of its binding
abbrev mutual
  pub AreSteps : Setting → List ℕ → Body → Block → Type 0
  AreSteps s bound Done block.Stop = Unit {0}
  AreSteps s bound (Then st ss) (block.Step binds c more) = DoesControl s (bound_by bound binds) st c × AreSteps s (bound_by bound binds) ss more
  AreSteps s bound Done (block.Step binds c more) = ⊥
  AreSteps s bound (Then st ss) block.Stop = ⊥

  -- the statement does what the step does; the others are not bare
  pub DoesControl : Setting → List ℕ → Stmt → Control → Type 0
  DoesControl s bound (IfEq o q inside) c = IsTestOf s bound o q (λ within body. AreSteps s within inside body) c
  DoesControl s bound (Return e) c = IsReturnOf s bound e c
  DoesControl s bound (IfLet pat r inside) c = IsPatternTest s bound pat r (λ within body. AreSteps s within inside body) c
  DoesControl s bound (Match read arms) c = IsMatchOf s bound read (DoArms s bound arms) c
  DoesControl s bound (Loop list item inside) c = IsLoopOf s bound list item (λ within body. AreSteps s within inside body) c
  DoesControl s bound (Extend read) c = IsExtendOf s bound read c
  DoesControl s bound (Let local e) c = ⊥
  DoesControl s bound (LetList local call) c = ⊥
  DoesControl s bound (Overflow inside limit) c = ⊥
  DoesControl s bound (Log term place) c = ⊥
  DoesControl s bound (Split inside within) c = ⊥
  DoesControl s bound (Tail mark) c = ⊥

  -- each arm in order has the pattern of the block's, and the statements inside do its body
  pub DoArms : Setting → List ℕ → tree.Arms → Arms → Type 0
  DoArms s bound tree.NoArm block.NoArm = Unit {0}
  DoArms s bound (tree.Arm pat inside arms) (block.Arm c places body more) =
      (arm_pattern s.env c places ≡ Some pat) × AreSteps s (bound_within bound places) inside body × DoArms s bound arms more
  DoArms s bound tree.NoArm (block.Arm c places body more) = ⊥
  DoArms s bound (tree.Arm pat inside arms) block.NoArm = ⊥

-- the body of a function, if nothing is bound yet
abbrev pub HasShape : Setting → Body → Block → Type 0
HasShape s body b = AreSteps s [] (bare body) b
