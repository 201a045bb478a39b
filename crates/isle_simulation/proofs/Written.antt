-- The statements of a lawful block by functions that always give something, for the laws. What they give in place of forms
-- that are not built is never reached: `Made` says so.
use Rattle.std.specs.Option.{option_map_or}
use Rattle.std.specs.Prelude.{ℕ, pos, List, [], ◌∷◌, ◌++◌, Bool, true, false, Option, Some, None, slice_get}
use Rattle.isle_core.specs.declared.options.CodegenOptions.{CodegenOptions}
use Rattle.isle_core.specs.declared.BindingId.{BindingId}
use Rattle.isle_core.specs.declared.TypeId.{TypeId}
use Rattle.isle_core.specs.declared.files.Files.{Files}
use Rattle.isle_core.specs.declared.rule_sets.Binding.{Binding}
use Rattle.isle_core.specs.declared.rule_sets.Binding.TheVariants as binding
use Rattle.isle_core.specs.declared.rule_sets.Constraint.{Constraint}
use Rattle.isle_core.specs.declared.rule_sets.Constraint.TheVariants as constraint
use Rattle.isle_core.specs.declared.types.ReturnKind.{ReturnKind}
use Rattle.isle_core.specs.declared.types.ReturnKind.TheVariants as return_kind
use Rattle.isle_core.specs.declared.types.Term.{Term}
use Rattle.isle_core.specs.declared.values.Callee.{Callee}
use Rattle.isle_core.specs.declared.values.Callee.TheVariants.{External}
use Rattle.isle_core.specs.ArmPlaces.{bound_within}
use Rattle.isle_core.specs.Bindable.{bound_by}
use Rattle.isle_core.specs.Block as block
use Rattle.isle_core.specs.Block.{Block, Control, Arms}
use Rattle.isle_core.specs.Calling.{Calling, ByTurns, ByCases, NoCall, calling, extracting, kind_of}
use Rattle.isle_core.specs.Form.{Form, form}
use Rattle.isle_core.specs.HasType.{typed_fields}
use Rattle.isle_core.specs.Making.{MakesVariant, MakesStruct}
use Rattle.isle_core.specs.Outcome.{Result, Value', Failure, Unmatched}
use Rattle.isle_core.specs.Path.{at}
use Rattle.isle_core.specs.Rule.{Environment}
use Rattle.isle_core.specs.Setting.{Setting, setting, gives_several, paths_in}
use Rattle.isle_core.specs.Value.{End, Gives, GivesSome, GivesNone, IsUnreachable}
use Rattle.isle_tree.specs.declared.tree.Operand.{Operand}
use Rattle.isle_tree.specs.declared.tree.Operand.TheVariants as operand
use Rattle.isle_tree.specs.declared.tree.Read.{Read}
use Rattle.isle_tree.specs.declared.tree.Read.TheVariants as read
use Rattle.isle_tree.specs.declared.tree.TExpr.{TExpr}
use Rattle.isle_tree.specs.declared.tree.TExpr.TheVariants as expr
use Rattle.isle_tree.specs.declared.tree.TPat.{TPat}
use Rattle.isle_tree.specs.declared.tree.TPat.TheVariants as pattern
use Rattle.isle_tree.specs.Program as tree
use Rattle.isle_tree.specs.Program.{Stmt, IfEq, IfLet, Match, Loop, Return, Extend, Overflow, Tail, Body, Done, Then, Function}
use Rattle.isle_simulation.specs.Completed.{completed}
use Rattle.isle_simulation.specs.Operands.{in_place, tested, operand_of}
use Rattle.isle_simulation.specs.Patterns.{pattern_of}
use Rattle.isle_simulation.specs.References.{is_declared, result_type, is_reference_in, read_as}
use Rattle.isle_simulation.specs.Statements.{made_of, local_stmt, binds_list, looped_local}
use Rattle.isle_simulation.specs.Manner.{Manner, bare_manner, manner_of, has_closure, closed_if, arm_manner}
use Rattle.isle_simulation.specs.Telling.{Telling, line_before}
use Rattle.isle_simulation.specs.TermFunction.{tail_in, function_with, log_lines}
use Rattle.isle_simulation.proofs.Logged.{logged}

-- ---- operands

abbrev pub written : Option Operand → Operand
written (Some o) = o
written None = operand.Raw (pos 0)

abbrev pub written_place : Setting → BindingId → Operand
written_place s b = written (in_place s.env b.0 (at (paths_in s) b))

abbrev pub written_test : Environment → Constraint → Operand
written_test env c = written (tested env c)

abbrev pub written_operand : Setting → List ℕ → BindingId → Operand
written_operand s bound b = written (operand_of s.env s.bindings bound b)

abbrev pub written_read : Setting → List ℕ → (wanted : Bool) → BindingId → Read
written_read s bound wanted b = read_as wanted (is_reference_in s b) (written_operand s bound b)

abbrev pub written_pattern : Option TPat → TPat
written_pattern (Some pat) = pat
written_pattern None = pattern.Const (written None)

-- ---- what bound locals compute

abbrev pub callee_of : Calling → Callee
callee_of (ByTurns callee kind) = callee
callee_of (ByCases callee kind) = callee
callee_of NoCall = External []

abbrev pub reads : Setting → List ℕ → List TypeId → List BindingId → List Read
reads s bound (ty ∷ tys) (b ∷ more) = written_read s bound (is_declared s.env ty) b ∷ reads s bound tys more
reads s bound [] bs = []
reads s bound (ty ∷ tys) [] = []

abbrev pub call_expr : Setting → List ℕ → Option Term → Callee → List BindingId → TExpr
call_expr s bound (Some t) callee parameters = expr.Call (is_declared s.env t.ret_ty) (record { callee = callee; args = reads s bound t.arg_tys parameters })
call_expr s bound None callee parameters = expr.Call false (record { callee = callee; args = [] })

abbrev pub extraction_expr : Setting → List ℕ → Option Term → Callee → BindingId → TExpr
extraction_expr s bound (Some t) callee parameter = expr.Call (option_map_or (is_declared s.env) (result_type (Some t)) false) (record { callee = callee; args = reads s bound (t.ret_ty ∷ []) (parameter ∷ []) })
extraction_expr s bound None callee parameter = expr.Call false (record { callee = callee; args = [] })

abbrev pub field_reads : Setting → List ℕ → List (List ℕ × TypeId) → List BindingId → List (List ℕ × Read)
field_reads s bound (f ∷ fields) (b ∷ more) = (f.0, written_read s bound false b) ∷ field_reads s bound fields more
field_reads s bound [] bs = []
field_reads s bound (f ∷ fields) [] = []

abbrev pub made_expr : Setting → List ℕ → Option Form → List BindingId → TExpr
made_expr s bound (Some f) parts = made_of s.env f (field_reads s bound (typed_fields s.env f.fields) parts)
made_expr s bound None parts = expr.Read (read.Plain (written None))

abbrev pub bound_expr : Setting → List ℕ → BindingId → Option Binding → TExpr
bound_expr s bound b (Some (binding.Constructor term parameters instance)) = call_expr s bound (slice_get s.env.terms term.0) (callee_of (calling s.env term)) parameters
bound_expr s bound b (Some (binding.Extractor term parameter)) = extraction_expr s bound (slice_get s.env.terms term.0) (callee_of (extracting s.env term)) parameter
bound_expr s bound b (Some (binding.MatchSome source)) = expr.Try (written_operand s bound source) (is_reference_in s source)
bound_expr s bound b (Some (binding.MatchTuple source field)) = expr.Tuple (written_operand s bound source) field.0
bound_expr s bound b (Some (binding.MakeVariant ty variant fields)) = made_expr s bound (form s.env (MakesVariant ty variant)) fields
bound_expr s bound b (Some (binding.MakeStruct ty fields)) = made_expr s bound (form s.env (MakesStruct ty)) fields
bound_expr s bound b other = expr.Read (read.Plain (written_place s b))

-- ---- statements

abbrev pub bound_stmt : Setting → List ℕ → BindingId → Stmt
bound_stmt s bound b = local_stmt (binds_list s b) b.0 (bound_expr s bound b (slice_get s.bindings b.0))

abbrev pub lets : Setting → List ℕ → List BindingId → Body → Body
lets s bound [] more = more
lets s bound (b ∷ binds) more = Then (bound_stmt s bound b) (lets s (bound ++ b.0 ∷ []) binds more)

abbrev pub result_stmt : ReturnKind → Read → Stmt
result_stmt return_kind.Plain r = Return (expr.Read r)
result_stmt return_kind.Option r = Return (expr.Some r)
result_stmt return_kind.Iterator r = Extend r

abbrev pub stop_before : Manner → (several : Bool) → Control → Body → Body
stop_before manner true (block.Return place result) after = Then (Overflow manner.inside manner.limit) after
stop_before manner true (block.Match source arms) after = after
stop_before manner true (block.Equal a b body) after = after
stop_before manner true (block.Loop result body) after = after
stop_before manner false c after = after

abbrev pub written_list : Option ℕ → ℕ
written_list (Some list) = list
written_list None = 0

abbrev pub arm_stmt : Setting → List ℕ → BindingId → Constraint → List (Option BindingId) → Body → Stmt
arm_stmt s bound source (constraint.Variant ty variant) places inside = IfLet (written_pattern (pattern_of s.env (constraint.Variant ty variant) places)) (written_read s bound true source) inside
arm_stmt s bound source (constraint.Struct ty) places inside = IfLet (written_pattern (pattern_of s.env (constraint.Struct ty) places)) (written_read s bound true source) inside
arm_stmt s bound source constraint.Some places inside = IfLet (written_pattern (pattern_of s.env constraint.Some places)) (read.Plain (written_operand s bound source)) inside
arm_stmt s bound source c places inside = IfEq (written_operand s bound source) (written_test s.env c) inside

abbrev pub written_arm : Environment → Constraint → List (Option BindingId) → TPat
written_arm env (constraint.ConstBool val) places = pattern.Const (written_test env (constraint.ConstBool val))
written_arm env (constraint.ConstInt val ty) places = pattern.Const (written_test env (constraint.ConstInt val ty))
written_arm env (constraint.ConstPrim val) places = pattern.Const (written_test env (constraint.ConstPrim val))
written_arm env (constraint.Variant ty variant) places = written_pattern (pattern_of env (constraint.Variant ty variant) places)
written_arm env (constraint.Struct ty) places = written_pattern (pattern_of env (constraint.Struct ty) places)
written_arm env constraint.Some places = written_pattern (pattern_of env constraint.Some places)

abbrev pub match_read : Setting → List ℕ → BindingId → Constraint → Read
match_read s bound source (constraint.Variant ty variant) = written_read s bound true source
match_read s bound source (constraint.Struct ty) = written_read s bound true source
match_read s bound source (constraint.ConstBool val) = read.Plain (written_operand s bound source)
match_read s bound source (constraint.ConstInt val ty) = read.Plain (written_operand s bound source)
match_read s bound source (constraint.ConstPrim val) = read.Plain (written_operand s bound source)
match_read s bound source constraint.Some = read.Plain (written_operand s bound source)

abbrev pub told_before : Telling → Control → Body → Body
told_before None c after = after
told_before (Some line) (block.Match source arms) after = after
told_before (Some line) (block.Equal a b body) after = after
told_before (Some line) (block.Loop result body) after = after
told_before (Some line) (block.Return place result) after = line_before (line place) after

abbrev pub arm_body : Manner → Block → Body → Body
arm_body manner b made = closed_if (has_closure manner b) manner.inside made

abbrev mutual
  pub told_body : Manner → Setting → List ℕ → Block → Body → Body
  told_body manner s bound block.Stop end = end
  told_body manner s bound (block.Step binds c more) end =
      lets s bound binds (told_before manner.telling c (Then (told_control manner s (bound_by bound binds) c) (stop_before manner (gives_several s) c (told_body manner s (bound_by bound binds) more end))))

  pub told_control : Manner → Setting → List ℕ → Control → Stmt
  told_control manner s bound (block.Match source arms) = told_arms manner s bound source arms
  told_control manner s bound (block.Equal a b body) = IfEq (written_operand s bound a) (written_operand s bound b) (told_body manner s bound body Done)
  told_control manner s bound (block.Loop result body) = Loop (written_list (looped_local s result)) result.0 (told_body manner s (bound ++ result.0 ∷ []) body Done)
  told_control manner s bound (block.Return place result) = result_stmt (kind_of s.term.kind) (written_read s bound false result)

  pub told_arms : Manner → Setting → List ℕ → BindingId → Arms → Stmt
  told_arms manner s bound source block.NoArm = Tail None
  told_arms manner s bound source (block.Arm c places body block.NoArm) = arm_stmt s bound source c places (arm_body manner body (told_body (arm_manner manner body) s (bound_within bound places) body Done))
  told_arms manner s bound source (block.Arm c places body (block.Arm d others inside arms)) =
      Match (match_read s bound source c)
      (tree.Arm (written_arm s.env c places) (arm_body manner body (told_body (arm_manner manner body) s (bound_within bound places) body Done)) (told_each manner s bound (block.Arm d others inside arms)))

  pub told_each : Manner → Setting → List ℕ → Arms → tree.Arms
  told_each manner s bound block.NoArm = tree.NoArm
  told_each manner s bound (block.Arm c places body arms) =
      tree.Arm (written_arm s.env c places) (arm_body manner body (told_body (arm_manner manner body) s (bound_within bound places) body Done)) (told_each manner s bound arms)

abbrev pub block_body : (limit : ℕ) → Setting → List ℕ → Block → Body → Body
block_body limit = told_body (bare_manner limit)

abbrev pub control_stmt : (limit : ℕ) → Setting → List ℕ → Control → Stmt
control_stmt limit = told_control (bare_manner limit)

-- ---- functions

abbrev pub written_body : CodegenOptions → Files → Environment → Term → List Binding → Block → Body
written_body options files env t bs b = block_body options.max_returns (setting env t bs) [] (completed (setting env t bs) [] b) (tail_in files env t b)

-- as statements are written without closures
abbrev pub open_manner : Manner → Manner
open_manner manner = record manner { above = None; inside = false }

-- the function without closures
abbrev pub open_function : (options : CodegenOptions) → Files → Environment → Term → List Binding → Block → Function
open_function options files env t bs b =
    function_with env t (told_body (open_manner (manner_of options files (setting env t bs))) (setting env t bs) [] (completed (setting env t bs) [] b) (tail_in files env t b))

-- its statements with its log lines before its results
abbrev pub logged_function : (options : CodegenOptions) → Files → Environment → Term → List Binding → Block → Function
logged_function options files env t bs b = function_with env t (logged (log_lines options files (setting env t bs) b) (written_body options files env t bs b))

abbrev pub function_of : (options : CodegenOptions) → Files → Environment → Term → List Binding → Block → Function
function_of options files env t bs b =
    function_with env t (told_body (manner_of options files (setting env t bs)) (setting env t bs) [] (completed (setting env t bs) [] b) (tail_in files env t b))

abbrev pub end_of : ReturnKind → Result → End
end_of return_kind.Plain (Value' v) = Gives v
end_of return_kind.Option (Value' v) = GivesSome v
end_of return_kind.Iterator (Value' v) = Gives v
end_of kind Failure = GivesNone
end_of kind Unmatched = IsUnreachable
