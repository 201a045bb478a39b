-- The statements of a block with closures are those without, in closures.
use Rattle.std.proofs.Common.{◌≡◌, ℕ, List, [], ◌∷◌, ◌++◌, Bool, true, false, cond, ◌&&◌, ◌||◌, Option, Some, None, refl}
use Rattle.isle_core.specs.declared.BindingId.{BindingId}
use Rattle.isle_core.specs.declared.options.CodegenOptions.{CodegenOptions}
use Rattle.isle_core.specs.declared.files.Files.{Files}
use Rattle.isle_core.specs.declared.rule_sets.Binding.{Binding}
use Rattle.isle_core.specs.declared.rule_sets.Constraint.{Constraint}
use Rattle.isle_core.specs.declared.rule_sets.Constraint.TheVariants as constraint
use Rattle.isle_core.specs.declared.types.ReturnKind.{ReturnKind}
use Rattle.isle_core.specs.declared.types.ReturnKind.TheVariants as return_kind
use Rattle.isle_core.specs.declared.types.Term.{Term}
use Rattle.isle_core.specs.ArmPlaces.{bound_within}
use Rattle.isle_core.specs.Bindable.{bound_by}
use Rattle.isle_core.specs.Block as block
use Rattle.isle_core.specs.Block.{Block, Control}
use Rattle.isle_core.specs.Calling.{kind_of, is_several}
use Rattle.isle_core.specs.Rule.{Environment}
use Rattle.isle_core.specs.Setting.{Setting, setting, gives_several}
use Rattle.isle_tree.specs.Program.{Body, Done}
use Rattle.isle_tree.specs.WellFormed.{GivesSeveral}
use Rattle.isle_tree.specs.declared.tree.Read.{Read}
use Rattle.isle_tree.specs.declared.tree.TExpr.{TExpr}
use Rattle.isle_tree.specs.declared.tree.TExpr.TheVariants as expr
use Rattle.isle_simulation.specs.Completed.{completed}
use Rattle.isle_simulation.specs.Manner.{Manner, manner_of, given_or, is_above, has_closure, closed_if, arm_manner}
use Rattle.isle_simulation.specs.Statements.{binds_list, local_stmt}
use Rattle.isle_simulation.specs.Telling.{Telling}
use Rattle.isle_simulation.specs.TermFunction.{ends_in_return, tail_body}
use Rattle.isle_simulation.proofs.Closed.{Closes, done, then, ClosesStmt, lets as let_closes, lists, if_eq, if_let, match, loop, returns, extends, stops, logs, tails, ClosesArm, plain, closed, ClosesArms, no_arm, one_arm}
use Rattle.isle_simulation.proofs.Written.{arm_stmt, lets, told_before, told_body, told_control, told_arms, told_each, stop_before, result_stmt, open_manner, open_function, function_of}

-- closures stand only in functions that give several results
abbrev pub MayClose : Option ℕ → ReturnKind → Type 0
MayClose None kind = Unit {0}
MayClose (Some n) kind = GivesSeveral kind

above_several : (above : Option ℕ) (weight : ℕ) (kind : ReturnKind) → MayClose above kind → is_above above weight ≡ true → GivesSeveral kind
above_several None weight kind h e = cc
above_several (Some n) weight kind h e = h

-- ---- single statements

module _ (kind : ReturnKind) (inside : Bool) where
  list_closes : (n : ℕ) (e : TExpr) → ClosesStmt kind inside (local_stmt true n e) (local_stmt true n e)
  list_closes n (expr.Call borrow call) = lists inside n call
  list_closes n (expr.Read r) = let_closes inside n (expr.Read r)
  list_closes n (expr.Variant ty variant fields) = let_closes inside n (expr.Variant ty variant fields)
  list_closes n (expr.Struct ty fields) = let_closes inside n (expr.Struct ty fields)
  list_closes n (expr.Some r) = let_closes inside n (expr.Some r)
  list_closes n (expr.Try source as_ref) = let_closes inside n (expr.Try source as_ref)
  list_closes n (expr.Tuple source part) = let_closes inside n (expr.Tuple source part)

  local_closes : (often : Bool) (n : ℕ) (e : TExpr) → ClosesStmt kind inside (local_stmt often n e) (local_stmt often n e)
  local_closes true n e = list_closes n e
  local_closes false n e = let_closes inside n e

  lets_close : (s : Setting) (bound : List ℕ) (binds : List BindingId) (x y : Body) → Closes kind inside x y → Closes kind inside (lets s bound binds x) (lets s bound binds y)
  lets_close s bound [] x y c = c
  lets_close s bound (b ∷ binds) x y c = then inside _ _ _ _ (local_closes (binds_list s b) b.0 _) (lets_close s (bound ++ b.0 ∷ []) binds x y c)

  line_closes : (telling : Telling) (c : Control) (x y : Body) → Closes kind inside x y → Closes kind inside (told_before telling c x) (told_before telling c y)
  line_closes None c x y h = h
  line_closes (Some line) (block.Match source arms) x y h = h
  line_closes (Some line) (block.Equal a b body) x y h = h
  line_closes (Some line) (block.Loop result body) x y h = h
  line_closes (Some line) (block.Return pos result) x y h = then inside _ _ _ _ (logs inside (line pos).0 (line pos).1) h

  result_closes : (of : ReturnKind) (r : Read) → ClosesStmt kind inside (result_stmt of r) (result_stmt of r)
  result_closes return_kind.Plain r = returns inside (expr.Read r)
  result_closes return_kind.Option r = returns inside (expr.Some r)
  result_closes return_kind.Iterator r = extends inside r

  test_closes : (s : Setting) (bound : List ℕ) (source : BindingId) (c : Constraint) (places : List (Option BindingId)) (x y : Body) → ClosesArm kind inside x y → ClosesStmt kind inside (arm_stmt s bound source c places x) (arm_stmt s bound source c places y)
  test_closes s bound source (constraint.ConstBool val) places x y h = if_eq inside _ _ x y h
  test_closes s bound source (constraint.ConstInt val ty) places x y h = if_eq inside _ _ x y h
  test_closes s bound source (constraint.ConstPrim val) places x y h = if_eq inside _ _ x y h
  test_closes s bound source (constraint.Variant ty variant) places x y h = if_let inside _ _ x y h
  test_closes s bound source (constraint.Struct ty) places x y h = if_let inside _ _ x y h
  test_closes s bound source constraint.Some places x y h = if_let inside _ _ x y h

stop_closes : (kind : ReturnKind) (manner : Manner) (several : Bool) (c : Control) (x y : Body) → Closes kind manner.inside x y → Closes kind manner.inside (stop_before (open_manner manner) several c x) (stop_before manner several c y)
stop_closes kind manner true (block.Return pos result) x y h = then manner.inside _ _ _ _ (stops manner.inside manner.limit) h
stop_closes kind manner true (block.Match source arms) x y h = h
stop_closes kind manner true (block.Equal a b body) x y h = h
stop_closes kind manner true (block.Loop result body) x y h = h
stop_closes kind manner false c x y h = h

-- statements in an arm: in a closure of their own, or not
in_arm : (kind : ReturnKind) (own inside : Bool) (x y : Body) → (own ≡ true → GivesSeveral kind) → Closes kind (inside || own) x y → ClosesArm kind inside x (closed_if own inside y)
in_arm kind true true x y several h = closed true x y (several refl) h
in_arm kind true false x y several h = closed false x y (several refl) h
in_arm kind false true x y several h = plain true x y h
in_arm kind false false x y several h = plain false x y h

-- ---- blocks

mutual
  -- the statements of a block
  pub told_closes : (b : Block) (manner : Manner) (s : Setting) (bound : List ℕ) (kind : ReturnKind) (x y : Body) → MayClose manner.above kind → Closes kind manner.inside x y
      → Closes kind manner.inside (told_body (open_manner manner) s bound b x) (told_body manner s bound b y)
  told_closes block.Stop manner s bound kind x y may h = h
  told_closes (block.Step binds c more) manner s bound kind x y may h =
      lets_close kind manner.inside s bound binds _ _
      (line_closes kind manner.inside manner.telling c _ _
      (then manner.inside _ _ _ _ (control_closes c manner s (bound_by bound binds) kind may)
      (stop_closes kind manner (gives_several s) c _ _ (told_closes more manner s (bound_by bound binds) kind x y may h))))

  control_closes : (c : Control) (manner : Manner) (s : Setting) (bound : List ℕ) (kind : ReturnKind) → MayClose manner.above kind → ClosesStmt kind manner.inside (told_control (open_manner manner) s bound c) (told_control manner s bound c)
  control_closes (block.Match source arms) manner s bound kind may = match_closes arms manner s bound source kind may
  control_closes (block.Equal a b body) manner s bound kind may = if_eq manner.inside _ _ _ _ (plain manner.inside _ _ (told_closes body manner s bound kind Done Done may (done manner.inside)))
  control_closes (block.Loop result body) manner s bound kind may = loop manner.inside _ _ _ _ (told_closes body manner s (bound ++ result.0 ∷ []) kind Done Done may (done manner.inside))
  control_closes (block.Return pos result) manner s bound kind may = result_closes kind manner.inside (kind_of s.term.kind) _

  match_closes : (arms : block.Arms) (manner : Manner) (s : Setting) (bound : List ℕ) (source : BindingId) (kind : ReturnKind) → MayClose manner.above kind → ClosesStmt kind manner.inside (told_arms (open_manner manner) s bound source arms) (told_arms manner s bound source arms)
  match_closes block.NoArm manner s bound source kind may = tails manner.inside None
  match_closes (block.Arm c places body block.NoArm) manner s bound source kind may = test_closes kind manner.inside s bound source c places _ _ (in_arm kind (has_closure manner body) manner.inside _ _ (above_several manner.above _ kind may) (told_closes body (arm_manner manner body) s (bound_within bound places) kind Done Done may (done (arm_manner manner body).inside)))
  match_closes (block.Arm c places body (block.Arm d others inside arms)) manner s bound source kind may = match manner.inside _ _ _ (one_arm manner.inside _ _ _ _ _ (in_arm kind (has_closure manner body) manner.inside _ _ (above_several manner.above _ kind may) (told_closes body (arm_manner manner body) s (bound_within bound places) kind Done Done may (done (arm_manner manner body).inside))) (each_closes (block.Arm d others inside arms) manner s bound kind may))

  each_closes : (arms : block.Arms) (manner : Manner) (s : Setting) (bound : List ℕ) (kind : ReturnKind) → MayClose manner.above kind → ClosesArms kind manner.inside (told_each (open_manner manner) s bound arms) (told_each manner s bound arms)
  each_closes block.NoArm manner s bound kind may = no_arm manner.inside
  each_closes (block.Arm c places body arms) manner s bound kind may = one_arm manner.inside _ _ _ _ _ (in_arm kind (has_closure manner body) manner.inside _ _ (above_several manner.above _ kind may) (told_closes body (arm_manner manner body) s (bound_within bound places) kind Done Done may (done (arm_manner manner body).inside))) (each_closes arms manner s bound kind may)

-- ---- functions

tail_closes : (kind : ReturnKind) (mark : Option (Option (List ℕ × List ℕ))) (x : Bool) → Closes kind false (cond x Done (tail_body mark)) (cond x Done (tail_body mark))
tail_closes kind mark true = done false
tail_closes kind None false = done false
tail_closes kind (Some mark) false = then false _ _ _ _ (tails false mark) (done false)

may_of : (kind : ReturnKind) (asked : Bool) (n : ℕ) → MayClose (cond (asked && is_several kind) (Some n) None) kind
may_of return_kind.Plain true n = tt
may_of return_kind.Option true n = tt
may_of return_kind.Iterator true n = tt
may_of kind false n = tt

-- the function of a term is that without closures, with them
pub function_closes : (options : CodegenOptions) (files : Files) (env : Environment) (t : Term) (bs : List Binding) (b : Block) → Closes (kind_of t.kind) false (open_function options files env t bs b).body (function_of options files env t bs b).body
function_closes options files env t bs b =
    let s = setting env t bs in
    told_closes (completed s [] b) (manner_of options files s) s [] (kind_of t.kind) _ _ (may_of (kind_of t.kind) options.split_match_arms (given_or 256 options.match_arm_split_threshold)) (tail_closes (kind_of t.kind) _ (ends_in_return b))
