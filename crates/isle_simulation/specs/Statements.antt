-- The statements of a block in its setting, if all of its forms are built.
use Rattle.std.specs.Prelude.{ℕ, List, [], ◌∷◌, ◌++◌, Bool, true, false, Option, Some, None, option_map, slice_get}
use Rattle.std.specs.Option.{option_map_or}
use Rattle.isle_core.specs.declared.BindingId.{BindingId}
use Rattle.isle_core.specs.declared.rule_sets.Binding.{Binding}
use Rattle.isle_core.specs.declared.rule_sets.Binding.TheVariants as binding
use Rattle.isle_core.specs.declared.types.ReturnKind.{ReturnKind}
use Rattle.isle_core.specs.declared.types.ReturnKind.TheVariants as return_kind
use Rattle.isle_core.specs.declared.values.Callee.{Callee}
use Rattle.isle_core.specs.Calling.{Calling, ByTurns, ByCases, NoCall, calling, extracting, kind_of, answers_often}
use Rattle.isle_core.specs.declared.Sym.{Sym}
use Rattle.isle_core.specs.declared.TypeId.{TypeId}
use Rattle.isle_core.specs.declared.rule_sets.Constraint.{Constraint}
use Rattle.isle_core.specs.declared.rule_sets.Constraint.TheVariants as constraint
use Rattle.isle_core.specs.declared.types.Term.{Term}
use Rattle.isle_core.specs.ArmPlaces.{bound_within}
use Rattle.isle_core.specs.Form.{Form, form}
use Rattle.isle_core.specs.HasType.{typed_fields}
use Rattle.isle_core.specs.Making.{MakesVariant, MakesStruct}
use Rattle.isle_core.specs.Path.{at}
use Rattle.isle_core.specs.Rule.{Environment}
use Rattle.isle_core.specs.Terms.{sym_text}
use Rattle.isle_core.specs.Bindable.{bound_by}
use Rattle.isle_core.specs.Block as block
use Rattle.isle_core.specs.Block.{Block, Control, Arms}
use Rattle.isle_core.specs.Setting.{Setting, gives_several, paths_in}
use Rattle.isle_tree.specs.declared.tree.Operand.{Operand}
use Rattle.isle_tree.specs.declared.tree.Operand.TheVariants as operand
use Rattle.isle_tree.specs.declared.tree.TPat.{TPat}
use Rattle.isle_tree.specs.declared.tree.Read.{Read}
use Rattle.isle_tree.specs.declared.tree.Read.TheVariants as read
use Rattle.isle_tree.specs.declared.tree.TExpr.{TExpr}
use Rattle.isle_tree.specs.declared.tree.TExpr.TheVariants as expr
use Rattle.isle_tree.specs.Program as tree
use Rattle.isle_tree.specs.Program.{Stmt, Let, LetList, IfEq, IfLet, Match, Loop, Return, Extend, Overflow, Body, Done, Then}
use Rattle.isle_simulation.specs.Patterns.{pattern_of, arm_pattern}
use Rattle.isle_simulation.specs.References.{is_declared, result_type, is_reference_in, read_as}
use Rattle.isle_simulation.specs.Operands.{in_place, tested, operand_of}
use Rattle.isle_simulation.specs.Manner.{Manner, bare_manner, arm_manner, arm_body}
use Rattle.isle_simulation.specs.Telling.{told_before}

-- ---- what bound locals compute

-- what an impure or pure call goes to
abbrev pub callee_of : Calling → Option Callee
callee_of (ByTurns callee kind) = Some callee
callee_of (ByCases callee kind) = Some callee
callee_of NoCall = None

-- an operand as it is read, before other reads
abbrev pub read_before : Option Read → Option (List Read) → Option (List Read)
read_before (Some r) (Some rs) = Some (r ∷ rs)
read_before (Some r) None = None
read_before None rs = None

-- the operand of a binding, read where a reference is wanted or not
abbrev pub read_in : Setting → List ℕ → (wanted : Bool) → BindingId → Option Read
read_in s bound wanted b = option_map (read_as wanted (is_reference_in s b)) (operand_of s.env s.bindings bound b)

-- the operands of bindings as they are handed to parameters of these types, in order: by reference if they are enums or structs
abbrev pub reads : Setting → List ℕ → List TypeId → List BindingId → Option (List Read)
reads s bound [] [] = Some []
reads s bound (ty ∷ tys) (b ∷ more) = read_before (read_in s bound (is_declared s.env ty) b) (reads s bound tys more)
reads s bound [] (b ∷ more) = None
reads s bound (ty ∷ tys) [] = None

-- a call of what is called on what is read, behind a & if it gives an enum or a struct
abbrev pub call_on : (borrow : Bool) → Option Callee → Option (List Read) → Option TExpr
call_on borrow (Some callee) (Some args) = Some (expr.Call borrow (record { callee = callee; args = args }))
call_on borrow (Some callee) None = None
call_on borrow None args = None

-- a call of a term that is there
abbrev pub call_of : Setting → List ℕ → Option Term → Option Callee → List BindingId → Option TExpr
call_of s bound None callee parameters = None
call_of s bound (Some t) callee parameters = call_on (is_declared s.env t.ret_ty) callee (reads s bound t.arg_tys parameters)

-- a call of the extractor of a term that is there, on what it takes apart, behind a & if its one result is an enum or a struct
abbrev pub extraction_of : Setting → List ℕ → Option Term → Option Callee → BindingId → Option TExpr
extraction_of s bound None callee parameter = None
extraction_of s bound (Some t) callee parameter = call_on (option_map_or (is_declared s.env) (result_type (Some t)) false) callee (reads s bound (t.ret_ty ∷ []) (parameter ∷ []))

-- the inner value of an option
abbrev pub inner_of : (as_ref : Bool) → Option Operand → Option TExpr
inner_of as_ref (Some o) = Some (expr.Try o as_ref)
inner_of as_ref None = None

-- a part of a tuple
abbrev pub part_of : ℕ → Option Operand → Option TExpr
part_of part (Some o) = Some (expr.Tuple o part)
part_of part None = None

-- what is read
abbrev pub read_of : Option Operand → Option TExpr
read_of (Some o) = Some (expr.Read (read.Plain o))
read_of None = None

-- a field's read before others
abbrev pub field_before : List ℕ → Option Read → Option (List (List ℕ × Read)) → Option (List (List ℕ × Read))
field_before name (Some r) (Some fs) = Some ((name, r) ∷ fs)
field_before name (Some r) None = None
field_before name None fs = None

-- the operands of bindings as they are put into these fields: never by reference
abbrev pub field_reads : Setting → List ℕ → List (List ℕ × TypeId) → List BindingId → Option (List (List ℕ × Read))
field_reads s bound [] [] = Some []
field_reads s bound (f ∷ fields) (b ∷ more) = field_before f.0 (read_in s bound false b) (field_reads s bound fields more)
field_reads s bound [] (b ∷ more) = None
field_reads s bound (f ∷ fields) [] = None

-- a value of these names with these fields; a struct without fields is a name
abbrev pub made_named : Environment → Sym → Option Sym → List (List ℕ × Read) → TExpr
made_named env ty (Some variant) fields = expr.Variant (sym_text env ty) (sym_text env variant) fields
made_named env ty None [] = expr.Read (read.Plain (operand.Name (sym_text env ty)))
made_named env ty None (f ∷ fields) = expr.Struct (sym_text env ty) (f ∷ fields)

-- a made value of a form with these fields
abbrev pub made_of : Environment → Form → List (List ℕ × Read) → TExpr
made_of env f fields = made_named env f.ty f.variant fields

-- what is made of the parts, if there is such a form
abbrev pub made_in : Setting → List ℕ → Option Form → List BindingId → Option TExpr
made_in s bound None parts = None
made_in s bound (Some f) parts = option_map (made_of s.env f) (field_reads s bound (typed_fields s.env f.fields) parts)

-- what is computed for a binding: a call, also of an extractor, the inner value of an option, a part of a tuple, a made value, or what is read
-- in place; items of lists, fields and options that are made are computed by no binding
abbrev pub computed : Setting → List ℕ → BindingId → Option Binding → Option TExpr
computed s bound b (Some (binding.Constructor term parameters instance)) = call_of s bound (slice_get s.env.terms term.0) (callee_of (calling s.env term)) parameters
computed s bound b (Some (binding.MatchSome source)) = inner_of (is_reference_in s source) (operand_of s.env s.bindings bound source)
computed s bound b (Some (binding.MakeVariant ty variant fields)) = made_in s bound (form s.env (MakesVariant ty variant)) fields
computed s bound b (Some (binding.MakeStruct ty fields)) = made_in s bound (form s.env (MakesStruct ty)) fields
computed s bound b (Some (binding.Argument index)) = read_of (in_place s.env b.0 (at (paths_in s) b))
computed s bound b (Some (binding.ConstBool val ty)) = read_of (in_place s.env b.0 (at (paths_in s) b))
computed s bound b (Some (binding.ConstInt val ty)) = read_of (in_place s.env b.0 (at (paths_in s) b))
computed s bound b (Some (binding.ConstPrim val)) = read_of (in_place s.env b.0 (at (paths_in s) b))
computed s bound b (Some (binding.Extractor term parameter)) = extraction_of s bound (slice_get s.env.terms term.0) (callee_of (extracting s.env term)) parameter
computed s bound b (Some (binding.Iterator source)) = None
computed s bound b (Some (binding.MatchVariant source variant field)) = None
computed s bound b (Some (binding.ExtractStruct source field)) = None
computed s bound b (Some (binding.MakeSome inner)) = None
computed s bound b (Some (binding.MatchTuple source field)) = part_of field.0 (operand_of s.env s.bindings bound source)
computed s bound b None = None

-- what a bound local computes
abbrev pub bound_expr : Setting → List ℕ → BindingId → Option TExpr
bound_expr s bound b = computed s bound b (slice_get s.bindings b.0)

-- ---- statements

-- a statement before others
abbrev pub stmt_before : Option Stmt → Option Body → Option Body
stmt_before (Some s) (Some ss) = Some (Then s ss)
stmt_before (Some s) None = None
stmt_before None ss = None

-- whether a binding is a list: a call that answers several times, also of an extractor
abbrev pub is_list : Environment → Option Binding → Bool
is_list env (Some (binding.Constructor term parameters instance)) = answers_often (calling env term)
is_list env (Some (binding.Extractor term parameter)) = answers_often (extracting env term)
is_list env (Some (binding.ConstBool val ty)) = false
is_list env (Some (binding.ConstInt val ty)) = false
is_list env (Some (binding.ConstPrim val)) = false
is_list env (Some (binding.Argument index)) = false
is_list env (Some (binding.Iterator source)) = false
is_list env (Some (binding.MakeVariant ty variant fields)) = false
is_list env (Some (binding.MakeStruct ty fields)) = false
is_list env (Some (binding.MatchVariant source variant field)) = false
is_list env (Some (binding.ExtractStruct source field)) = false
is_list env (Some (binding.MakeSome inner)) = false
is_list env (Some (binding.MatchSome source)) = false
is_list env (Some (binding.MatchTuple source field)) = false
is_list env None = false

-- so of a binding of a rule set
abbrev pub binds_list : Setting → BindingId → Bool
binds_list s b = is_list s.env (slice_get s.bindings b.0)

-- the local of a list, which a call fills; nothing but a call is a list
abbrev pub list_stmt : ℕ → TExpr → Stmt
list_stmt n (expr.Call borrow call) = LetList n call
list_stmt n (expr.Read r) = Let n (expr.Read r)
list_stmt n (expr.Variant ty variant fields) = Let n (expr.Variant ty variant fields)
list_stmt n (expr.Struct ty fields) = Let n (expr.Struct ty fields)
list_stmt n (expr.Some r) = Let n (expr.Some r)
list_stmt n (expr.Try source as_ref) = Let n (expr.Try source as_ref)
list_stmt n (expr.Tuple source part) = Let n (expr.Tuple source part)

-- a local that is bound to what is computed, a list or anything else
abbrev pub local_stmt : (often : Bool) → ℕ → TExpr → Stmt
local_stmt true n e = list_stmt n e
local_stmt false n e = Let n e

-- so if something is computed
abbrev pub let_of : (often : Bool) → ℕ → Option TExpr → Option Stmt
let_of often n e = option_map (local_stmt often n) e

-- each binding in its local, and what follows
abbrev pub lets : Setting → List ℕ → List BindingId → Option Body → Option Body
lets s bound [] more = more
lets s bound (b ∷ binds) more = stmt_before (let_of (binds_list s b) b.0 (bound_expr s bound b)) (lets s (bound ++ b.0 ∷ []) binds more)

-- a test of two operands
abbrev pub if_eq : Option Operand → Option Operand → Option Body → Option Stmt
if_eq (Some a) (Some b) (Some inside) = Some (IfEq a b inside)
if_eq (Some a) (Some b) None = None
if_eq (Some a) None inside = None
if_eq None b inside = None

-- a test by a pattern
abbrev pub if_let : Option TPat → Option Read → Option Body → Option Stmt
if_let (Some pat) (Some r) (Some inside) = Some (IfLet pat r inside)
if_let (Some pat) (Some r) None = None
if_let (Some pat) None inside = None
if_let None r inside = None

-- what is returned: of a term that may answer nothing an option; one of several results is appended to the others
abbrev pub return_of : ReturnKind → Option Read → Option Stmt
return_of return_kind.Plain (Some r) = Some (Return (expr.Read r))
return_of return_kind.Option (Some r) = Some (Return (expr.Some r))
return_of return_kind.Iterator (Some r) = Some (Extend r)
return_of kind None = None

-- after one of several results the closure around, or else the function, stops where its list is full
abbrev pub stop_before : Manner → (several : Bool) → Control → Option Body → Option Body
stop_before manner true (block.Return pos result) after = stmt_before (Some (Overflow manner.inside manner.limit)) after
stop_before manner true (block.Match source arms) after = after
stop_before manner true (block.Equal a b body) after = after
stop_before manner true (block.Loop result body) after = after
stop_before manner false c after = after

-- the local of the list whose item a binding is
abbrev pub list_local : Option Binding → Option ℕ
list_local (Some (binding.Iterator source)) = Some source.0
list_local (Some (binding.ConstBool val ty)) = None
list_local (Some (binding.ConstInt val ty)) = None
list_local (Some (binding.ConstPrim val)) = None
list_local (Some (binding.Argument index)) = None
list_local (Some (binding.Extractor term parameter)) = None
list_local (Some (binding.Constructor term parameters instance)) = None
list_local (Some (binding.MakeVariant ty variant fields)) = None
list_local (Some (binding.MakeStruct ty fields)) = None
list_local (Some (binding.MatchVariant source variant field)) = None
list_local (Some (binding.ExtractStruct source field)) = None
list_local (Some (binding.MakeSome inner)) = None
list_local (Some (binding.MatchSome source)) = None
list_local (Some (binding.MatchTuple source field)) = None
list_local None = None

-- so of a binding of a rule set
abbrev pub looped_local : Setting → BindingId → Option ℕ
looped_local s result = list_local (slice_get s.bindings result.0)

-- a loop over a list
abbrev pub loop_of : Option ℕ → (item : ℕ) → Option Body → Option Stmt
loop_of (Some list) item (Some inside) = Some (Loop list item inside)
loop_of (Some list) item None = None
loop_of None item inside = None

-- an operand as it is
abbrev pub plain_read : Option Operand → Option Read
plain_read o = option_map read.Plain o

-- the one arm of a match: a test for a constant, or by the pattern of a variant or a struct, over a reference, or of an option
abbrev pub arm_stmt : Setting → List ℕ → BindingId → Constraint → List (Option BindingId) → Option Body → Option Stmt
arm_stmt s bound source (constraint.ConstBool val) places inside = if_eq (operand_of s.env s.bindings bound source) (tested s.env (constraint.ConstBool val)) inside
arm_stmt s bound source (constraint.ConstInt val ty) places inside = if_eq (operand_of s.env s.bindings bound source) (tested s.env (constraint.ConstInt val ty)) inside
arm_stmt s bound source (constraint.ConstPrim val) places inside = if_eq (operand_of s.env s.bindings bound source) (tested s.env (constraint.ConstPrim val)) inside
arm_stmt s bound source (constraint.Variant ty variant) places inside = if_let (pattern_of s.env (constraint.Variant ty variant) places) (read_in s bound true source) inside
arm_stmt s bound source (constraint.Struct ty) places inside = if_let (pattern_of s.env (constraint.Struct ty) places) (read_in s bound true source) inside
arm_stmt s bound source constraint.Some places inside = if_let (pattern_of s.env constraint.Some places) (plain_read (operand_of s.env s.bindings bound source)) inside

-- what a match of several arms reads: by the form of the first constraint a reference, or the operand as it is
abbrev pub match_read : Setting → List ℕ → BindingId → Constraint → Option Read
match_read s bound source (constraint.Variant ty variant) = read_in s bound true source
match_read s bound source (constraint.Struct ty) = read_in s bound true source
match_read s bound source (constraint.ConstBool val) = plain_read (operand_of s.env s.bindings bound source)
match_read s bound source (constraint.ConstInt val ty) = plain_read (operand_of s.env s.bindings bound source)
match_read s bound source (constraint.ConstPrim val) = plain_read (operand_of s.env s.bindings bound source)
match_read s bound source constraint.Some = plain_read (operand_of s.env s.bindings bound source)

-- a match of these arms over what is read
abbrev pub match_of : Option Read → Option tree.Arms → Option Stmt
match_of (Some r) (Some arms) = Some (Match r arms)
match_of (Some r) None = None
match_of None arms = None

-- an arm before others
abbrev pub arm_before : Option TPat → Option Body → Option tree.Arms → Option tree.Arms
arm_before (Some pat) (Some inside) (Some arms) = Some (tree.Arm pat inside arms)
arm_before (Some pat) (Some inside) None = None
arm_before (Some pat) None arms = None
arm_before None inside arms = None

-- a block's steps in order, each Return after its log line if it is told and before its stop, and what follows
abbrev mutual
  pub told_body : Manner → Setting → List ℕ → Block → Option Body → Option Body
  told_body manner s bound block.Stop end = end
  told_body manner s bound (block.Step binds c more) end =
      lets s bound binds (told_before manner.telling c (stmt_before (told_control manner s (bound_by bound binds) c) (stop_before manner (gives_several s) c (told_body manner s (bound_by bound binds) more end))))

  pub told_control : Manner → Setting → List ℕ → Control → Option Stmt
  told_control manner s bound (block.Match source arms) = told_arms manner s bound source arms
  told_control manner s bound (block.Equal a b body) =
      if_eq (operand_of s.env s.bindings bound a) (operand_of s.env s.bindings bound b) (told_body manner s bound body (Some Done))
  told_control manner s bound (block.Loop result body) = loop_of (looped_local s result) result.0 (told_body manner s (bound ++ result.0 ∷ []) body (Some Done))
  told_control manner s bound (block.Return pos result) = return_of (kind_of s.term.kind) (read_in s bound false result)

  pub told_arms : Manner → Setting → List ℕ → BindingId → Arms → Option Stmt
  told_arms manner s bound source block.NoArm = None
  told_arms manner s bound source (block.Arm c places body block.NoArm) =
      arm_stmt s bound source c places (arm_body manner body (told_body (arm_manner manner body) s (bound_within bound places) body (Some Done)))
  told_arms manner s bound source (block.Arm c places body (block.Arm d others inside arms)) =
      match_of (match_read s bound source c)
      (arm_before (arm_pattern s.env c places) (arm_body manner body (told_body (arm_manner manner body) s (bound_within bound places) body (Some Done)))
      (told_each manner s bound (block.Arm d others inside arms)))

  -- each of several arms
  pub told_each : Manner → Setting → List ℕ → Arms → Option tree.Arms
  told_each manner s bound block.NoArm = Some tree.NoArm
  told_each manner s bound (block.Arm c places body arms) =
      arm_before (arm_pattern s.env c places) (arm_body manner body (told_body (arm_manner manner body) s (bound_within bound places) body (Some Done)))
      (told_each manner s bound arms)

-- the statements without log lines and closures
abbrev pub block_body : (limit : ℕ) → Setting → List ℕ → Block → Option Body → Option Body
block_body limit = told_body (bare_manner limit)

abbrev pub control_stmt : (limit : ℕ) → Setting → List ℕ → Control → Option Stmt
control_stmt limit = told_control (bare_manner limit)

abbrev pub arms_stmt : (limit : ℕ) → Setting → List ℕ → BindingId → Arms → Option Stmt
arms_stmt limit = told_arms (bare_manner limit)
