-- The forms of a lawful block are built, and its statements are the written ones.
use Rattle.std.proofs.Common.{◌≡◌, ◌≤◌, ⊎_elim, ℕ, ℤ, List, [], ◌∷◌, ◌++◌, length, map, Bool, true, false, Option, Some, None, refl, sym, ap, ◌∙◌, arith}
use Rattle.std.specs.Option.{option_map_or}
use Rattle.std.specs.Prelude.{IsSomeAnd, option_map, slice_get}
use Rattle.isle_core.specs.declared.options.CodegenOptions.{CodegenOptions}
use Rattle.isle_core.specs.declared.BindingId.{BindingId}
use Rattle.isle_core.specs.declared.TypeId.{TypeId}
use Rattle.isle_core.specs.declared.files.Files.{Files}
use Rattle.isle_core.specs.declared.rule_sets.Binding.{Binding}
use Rattle.isle_core.specs.declared.rule_sets.Binding.TheVariants as binding
use Rattle.isle_core.specs.declared.rule_sets.Constraint.{Constraint}
use Rattle.isle_core.specs.declared.rule_sets.Constraint.TheVariants as constraint
use Rattle.isle_core.specs.declared.types.BuiltinType.TheVariants as builtin
use Rattle.isle_core.specs.declared.types.ReturnKind.{ReturnKind}
use Rattle.isle_core.specs.declared.types.ReturnKind.TheVariants as return_kind
use Rattle.isle_core.specs.declared.types.Term.{Term}
use Rattle.isle_core.specs.declared.types.TypeDef.{TypeDef}
use Rattle.isle_core.specs.declared.types.TypeDef.TheVariants as def
use Rattle.isle_core.specs.declared.values.Callee.{Callee}
use Rattle.isle_core.specs.ArmPlaces.{ArePlacesOf, bound_within}
use Rattle.isle_core.specs.Bindable.{IsPlain, bound_by}
use Rattle.isle_core.specs.Block as block
use Rattle.isle_core.specs.Block.{Block, Stop, Step, Control, Arms, Arm, NoArm}
use Rattle.isle_core.specs.BlockLawful.{Source, AValue, AnOption, IsConstraintOver, IsLawfulBlock}
use Rattle.isle_core.specs.Calling.{Calling, ByTurns, ByCases, NoCall, calling, extracting, kind_of}
use Rattle.isle_core.specs.Constants.{int_of_def}
use Rattle.isle_core.specs.ConstraintType.{IsConstraintOf}
use Rattle.isle_core.specs.ExternalCall.{IsCall, IsExtraction}
use Rattle.isle_core.specs.Form.{Form, form, form_types}
use Rattle.isle_core.specs.HasType.{typed_fields}
use Rattle.isle_core.specs.Making.{Making, MakesStruct}
use Rattle.isle_core.specs.Path.{Path, Paths, Arg, ConstBool, ConstInt, ConstPrim, MadeStruct, NoPath, APath, at}
use Rattle.isle_core.specs.PathType.{IsPathOf, ArePathsOf}
use Rattle.isle_core.specs.Rule.{Environment}
use Rattle.isle_core.specs.Setting.{Setting, setting, gives_several, paths_in}
use Rattle.isle_core.specs.Terms.{sym_text}
use Rattle.isle_tree.specs.declared.tree.Operand.{Operand}
use Rattle.isle_tree.specs.declared.tree.Operand.TheVariants as operand
use Rattle.isle_tree.specs.declared.tree.Read.{Read}
use Rattle.isle_tree.specs.declared.tree.TPat.{TPat}
use Rattle.isle_tree.specs.declared.tree.TPat.TheVariants as pattern
use Rattle.isle_tree.specs.Program as tree
use Rattle.isle_tree.specs.Program.{Stmt, IfEq, IfLet, Match, Loop, Overflow, Body, Done, Then}
use Rattle.isle_simulation.specs.Completed.{completed}
use Rattle.isle_simulation.specs.Operands.{constant, in_place, tested, is_bound, operand_of}
use Rattle.isle_simulation.specs.Patterns.{some_pattern, arm_pattern as pattern_in_arm}
use Rattle.isle_simulation.specs.References.{is_declared, result_type, is_reference_in, read_as}
use Rattle.isle_simulation.specs.Statements.{callee_of, read_before, read_in, reads, call_on, call_of, extraction_of, read_of, field_before, field_reads, made_of, made_in, computed, stmt_before, binds_list, let_of, lets, if_eq, if_let, return_of, stop_before, list_local, loop_of, plain_read, match_read, match_of, arm_before, told_body, told_control, told_each}
use Rattle.isle_simulation.specs.Manner.{Manner, manner_of, has_closure, closed_if, arm_manner, arm_body}
use Rattle.isle_simulation.specs.Telling.{Telling, line_before, told_before}
use Rattle.isle_simulation.specs.TermFunction.{tail_in, function_with, term_function}
use Rattle.isle_simulation.proofs.ArmsRun.{arm_pattern}
use Rattle.isle_simulation.proofs.OneBind.{spelled}
use Rattle.isle_simulation.proofs.BoundTests.{found}
use Rattle.isle_simulation.proofs.CompletedReady.{completed_ready}
use Rattle.isle_simulation.proofs.PathValues.{IsConstant}
use Rattle.isle_simulation.proofs.Ready.{IsSpelled, IsReady, IsOptionReady, IsReadyIn, AreReady, IsMadeReady, IsReadyBind, AreReadyBinds, IsReadyFrom, IsReadyControl, AreReadyArms}
use Rattle.isle_simulation.proofs.Written as written
use Rattle.isle_simulation.proofs.Written.{written_test, written_operand, written_read, written_place, written_pattern, written_arm, call_expr, extraction_expr, made_expr, function_of}

-- ---- what a match is over

-- a value, which this constraint is on
pub record IsOverValue (s : Setting) (bound : List ℕ) (source : BindingId) (c : Constraint) : Type 0 where
  pub ty : TypeId
  pub ready : IsReady s bound source ty
  pub is : IsConstraintOf s.env c ty

-- another constraint than Some is on a value
pub over_value : (s : Setting) (bound : List ℕ) (source : BindingId) (c : Constraint) (over : Source) → (c ≡ constraint.Some → ⊥) → IsReadyIn s bound source over → IsConstraintOver s.env c over → IsOverValue s bound source c
over_value s bound source c (AValue ty) apart ready is = record { ty = ty; ready = ready; is = is }
over_value s bound source c (AnOption tys) apart ready is = absurd (apart is)

-- Some is on an option
pub over_option : (s : Setting) (bound : List ℕ) (source : BindingId) (over : Source) → IsReadyIn s bound source over → IsConstraintOver s.env constraint.Some over → (tys : List TypeId) × IsOptionReady s bound source tys
over_option s bound source (AValue ty) ready is = absurd is
over_option s bound source (AnOption tys) ready is = (tys, ready)

-- ---- operands that are there

number_there : (env : Environment) (o : Option TypeDef) (n : ℤ) → constant (int_of_def env o n) ≡ Some (written.written (constant (int_of_def env o n)))
number_there env (Some (def.Builtin (builtin.Int ty))) n = refl
number_there env (Some (def.Builtin builtin.Bool)) n = refl
number_there env (Some (def.Primitive name rust pos)) n = refl
number_there env (Some (def.Enum name is_extern is_nodebug variants pos)) n = refl
number_there env (Some (def.Struct name is_extern is_nodebug fields pos)) n = refl
number_there env None n = refl

name_there : (env : Environment) (t : Term) (o : Option Form) → IsSomeAnd o (λ f. ArePathsOf env t NoPath (form_types env f)) → option_map (λ (f : Form). operand.Name (sym_text env f.ty)) o ≡ Some (written.written (option_map (λ (f : Form). operand.Name (sym_text env f.ty)) o))
name_there env t None h = absurd h
name_there env t (Some f) h = refl

-- of a path of a type that is spelled
place_there : (env : Environment) (t : Term) (local : ℕ) (p : Path) (ty : TypeId) → IsPathOf env t p ty → IsSpelled p → in_place env local p ≡ Some (written.written (in_place env local p))
place_there env t local (Arg i) ty h k = refl
place_there env t local (ConstBool of b) ty h k = refl
place_there env t local (ConstInt of n) ty h k = number_there env (slice_get env.types.types of.0) n
place_there env t local (ConstPrim name) ty h k = refl
place_there env t local (MadeStruct of NoPath) ty h k = name_there env t (form env (MakesStruct of)) h.1
place_there env t local (MadeStruct of (APath p ps)) ty h k = absurd k
place_there env t local p ty h k = absurd k

-- of a constraint that tests for a constant
pub test_there : (env : Environment) (c : Constraint) → IsConstant c → tested env c ≡ Some (written_test env c)
test_there env (constraint.ConstBool val) h = refl
test_there env (constraint.ConstInt val of) h = number_there env (slice_get env.types.types of.0) val
test_there env (constraint.ConstPrim val) h = refl
test_there env c h = absurd h

-- of a binding that is ready
pub operand_there : (s : Setting) (bound : List ℕ) (b : BindingId) (ty : TypeId) → IsReady s bound b ty → operand_of s.env s.bindings bound b ≡ Some (written_operand s bound b)
operand_there s bound b ty h = one (is_bound bound b) refl
  where
    one : (x : Bool) → is_bound bound b ≡ x → operand_of s.env s.bindings bound b ≡ Some (written_operand s bound b)
    one true is = rw is refl
    one false is = rw is (⊎_elim (λ k. absurd (let bad : false ≡ true = sym is ∙ k in cc)) (λ k. place_there s.env s.term b.0 (at (paths_in s) b) ty h.path k) h.place)

-- of an option
pub option_there : (s : Setting) (bound : List ℕ) (b : BindingId) (tys : List TypeId) → IsOptionReady s bound b tys → operand_of s.env s.bindings bound b ≡ Some (written_operand s bound b)
option_there s bound b tys h = rw h.bound' refl

pub read_there : (s : Setting) (bound : List ℕ) (wanted : Bool) (b : BindingId) (ty : TypeId) → IsReady s bound b ty → read_in s bound wanted b ≡ Some (written_read s bound wanted b)
read_there s bound wanted b ty h = ap (option_map (read_as wanted (is_reference_in s b))) (operand_there s bound b ty h)

-- ---- what bound locals compute

reads_there : (s : Setting) (bound : List ℕ) (tys : List TypeId) (parameters : List BindingId) → AreReady s bound parameters tys → reads s bound tys parameters ≡ Some (written.reads s bound tys parameters)
reads_there s bound [] [] h = refl
reads_there s bound (ty ∷ tys) (b ∷ more) h =
    ap (λ o. read_before o (reads s bound tys more)) (read_there s bound (is_declared s.env ty) b ty h.0) ∙ ap (read_before (Some (written_read s bound (is_declared s.env ty) b))) (reads_there s bound tys more h.1)
reads_there s bound (ty ∷ tys) [] h = absurd h
reads_there s bound [] (b ∷ more) h = absurd h

fields_there : (s : Setting) (bound : List ℕ) (fields : List (List ℕ × TypeId)) (parts : List BindingId) → AreReady s bound parts (map (λ (f : List ℕ × TypeId). f.1) fields) → field_reads s bound fields parts ≡ Some (written.field_reads s bound fields parts)
fields_there s bound [] [] h = refl
fields_there s bound (f ∷ fields) (b ∷ more) h =
    ap (λ o. field_before f.0 o (field_reads s bound fields more)) (read_there s bound false b f.1 h.0) ∙ ap (field_before f.0 (Some (written_read s bound false b))) (fields_there s bound fields more h.1)
fields_there s bound (f ∷ fields) [] h = absurd h
fields_there s bound [] (b ∷ more) h = absurd h

pub callee_made : (of : ReturnKind) (c : Calling) → IsCall of c → callee_of c ≡ Some (written.callee_of c)
callee_made of (ByTurns callee kind) h = refl
callee_made of (ByCases callee kind) h = refl
callee_made of NoCall h = absurd h

pub extractor_made : (of : ReturnKind) (c : Calling) → IsExtraction of c → callee_of c ≡ Some (written.callee_of c)
extractor_made of (ByTurns callee kind) h = absurd h
extractor_made of (ByCases callee kind) h = refl
extractor_made of NoCall h = absurd h

call_made : (s : Setting) (bound : List ℕ) (o : Option Term) (called : Term) (given : Option Callee) (callee : Callee) (parameters : List BindingId) → o ≡ Some called → given ≡ Some callee → AreReady s bound parameters called.arg_tys
    → call_of s bound o given parameters ≡ Some (call_expr s bound o callee parameters)
call_made s bound o called given callee parameters e f r = rw (e, f) (ap (call_on (is_declared s.env called.ret_ty) (Some callee)) (reads_there s bound called.arg_tys parameters r))

extraction_made : (s : Setting) (bound : List ℕ) (o : Option Term) (called : Term) (given : Option Callee) (callee : Callee) (parameter : BindingId) → o ≡ Some called → given ≡ Some callee → IsReady s bound parameter called.ret_ty
    → extraction_of s bound o given parameter ≡ Some (extraction_expr s bound o callee parameter)
extraction_made s bound o called given callee parameter e f r =
    rw (e, f) (ap (call_on (option_map_or (is_declared s.env) (result_type (Some called)) false) (Some callee)) (reads_there s bound (called.ret_ty ∷ []) (parameter ∷ []) (r, tt)))

plain_made : (s : Setting) (b : BindingId) → IsPlain s.env s.term (at (paths_in s) b) → read_of (in_place s.env b.0 (at (paths_in s) b)) ≡ read_of (Some (written_place s b))
plain_made s b k = ap read_of (place_there s.env s.term b.0 (at (paths_in s) b) k.1.0 k.1.1 (spelled (at (paths_in s) b) k.0))

value_made : (s : Setting) (bound : List ℕ) (p : Path) (over : Paths → Path) (mk : Making) (fields : List BindingId) → IsMadeReady s bound p over mk fields → made_in s bound (form s.env mk) fields ≡ Some (made_expr s bound (form s.env mk) fields)
value_made s bound p over mk fields is = rw is.found (ap (option_map (made_of s.env is.f)) (fields_there s bound (typed_fields s.env is.f.fields) fields is.parts))

-- what is computed for a binding that may be bound
bound_made : (s : Setting) (bound : List ℕ) (b : BindingId) (o : Option Binding) → IsReadyBind s bound (at (paths_in s) b) o → computed s bound b o ≡ Some (written.bound_expr s bound b o)
bound_made s bound b (Some (binding.Constructor term parameters k)) is =
    call_made s bound (slice_get s.env.terms term.0) is.called (callee_of (calling s.env term)) (written.callee_of (calling s.env term)) parameters is.found (callee_made is.kind (calling s.env term) is.external) is.args
bound_made s bound b (Some (binding.Extractor term parameter)) is =
    extraction_made s bound (slice_get s.env.terms term.0) is.called (callee_of (extracting s.env term)) (written.callee_of (extracting s.env term)) parameter is.found (extractor_made is.kind (extracting s.env term) is.external) is.arg
bound_made s bound b (Some (binding.MatchSome source)) is = rw (found bound source.0 is.bound') refl
bound_made s bound b (Some (binding.MatchTuple source field)) is = rw (found bound source.0 is.bound') refl
bound_made s bound b (Some (binding.Argument index)) is = plain_made s b is
bound_made s bound b (Some (binding.ConstBool val ty)) is = plain_made s b is
bound_made s bound b (Some (binding.ConstInt val ty)) is = plain_made s b is
bound_made s bound b (Some (binding.ConstPrim val)) is = plain_made s b is
bound_made s bound b (Some (binding.MakeVariant of variant fields)) is = value_made s bound (at (paths_in s) b) _ _ fields is
bound_made s bound b (Some (binding.MakeStruct of fields)) is = value_made s bound (at (paths_in s) b) _ _ fields is
bound_made s bound b o is = absurd is

-- ---- statements

before_made : (o : Option Stmt) (st : Stmt) (r : Option Body) (ss : Body) → o ≡ Some st → r ≡ Some ss → stmt_before o r ≡ Some (Then st ss)
before_made o st r ss e f = rw (e, f) refl

lets_made : (s : Setting) (bound : List ℕ) (binds : List BindingId) (r : Option Body) (more : Body) → AreReadyBinds s bound binds → r ≡ Some more → lets s bound binds r ≡ Some (written.lets s bound binds more)
lets_made s bound [] r more k e = e
lets_made s bound (b ∷ binds) r more k e =
    before_made _ _ _ _ (ap (let_of (binds_list s b) b.0) (bound_made s bound b (slice_get s.bindings b.0) k.0)) (lets_made s (bound ++ b.0 ∷ []) binds r more k.1 e)

test_made : (a b : Option Operand) (x y : Operand) (i : Option Body) (inside : Body) → a ≡ Some x → b ≡ Some y → i ≡ Some inside → if_eq a b i ≡ Some (IfEq x y inside)
test_made a b x y i inside e f g = rw (e, f, g) refl

pattern_made : (p : Option TPat) (r : Option Read) (pat : TPat) (q : Read) (i : Option Body) (inside : Body) → p ≡ Some pat → r ≡ Some q → i ≡ Some inside → if_let p r i ≡ Some (IfLet (written_pattern p) q inside)
pattern_made p r pat q i inside e f g = rw (e, f, g) refl

-- of at most one place the pattern of an option is there
pub some_made : (places : List (Option BindingId)) → length places ≤ 1 → (local : Option ℕ) × (some_pattern places ≡ Some (pattern.Some local))
some_made [] le = (None, refl)
some_made (p ∷ []) le = (option_map (λ (b : BindingId). b.0) p, refl)
some_made (p ∷ q ∷ places) le = absurd (omega (arith, le))

return_made : (kind : ReturnKind) (o : Option Read) (x : Read) → o ≡ Some x → return_of kind o ≡ Some (written.result_stmt kind x)
return_made return_kind.Plain o x e = rw e refl
return_made return_kind.Option o x e = rw e refl
return_made return_kind.Iterator o x e = rw e refl

stop_made : (manner : Manner) (several : Bool) (c : Control) (o : Option Body) (after : Body) → o ≡ Some after → stop_before manner several c o ≡ Some (written.stop_before manner several c after)
stop_made manner true (block.Return place result) o after e = ap (stmt_before (Some (Overflow manner.inside manner.limit))) e
stop_made manner true (block.Match source arms) o after e = e
stop_made manner true (block.Equal a b body) o after e = e
stop_made manner true (block.Loop result body) o after e = e
stop_made manner false c o after e = e

loop_made : (o : Option ℕ) (list item : ℕ) (i : Option Body) (inside : Body) → o ≡ Some list → i ≡ Some inside → loop_of o item i ≡ Some (Loop (written.written_list o) item inside)
loop_made o list item i inside e f = rw (e, f) refl

told_made : (telling : Telling) (c : Control) (o : Option Body) (after : Body) → o ≡ Some after → told_before telling c o ≡ Some (written.told_before telling c after)
told_made None c o after e = e
told_made (Some line) (block.Match source arms) o after e = e
told_made (Some line) (block.Equal a b body) o after e = e
told_made (Some line) (block.Loop result body) o after e = e
told_made (Some line) (block.Return place result) o after e = ap (option_map (line_before (line place))) e

-- what a match reads is there
match_there : (s : Setting) (bound : List ℕ) (source : BindingId) (over : Source) (c : Constraint) → IsReadyIn s bound source over → IsConstraintOver s.env c over → match_read s bound source c ≡ Some (written.match_read s bound source c)
match_there s bound source (AValue ty) (constraint.ConstBool val) ready is = ap plain_read (operand_there s bound source ty ready)
match_there s bound source (AValue ty) (constraint.ConstInt val of) ready is = ap plain_read (operand_there s bound source ty ready)
match_there s bound source (AValue ty) (constraint.ConstPrim val) ready is = ap plain_read (operand_there s bound source ty ready)
match_there s bound source (AValue ty) (constraint.Variant of variant) ready is = read_there s bound true source ty ready
match_there s bound source (AValue ty) (constraint.Struct of) ready is = read_there s bound true source ty ready
match_there s bound source (AValue ty) constraint.Some ready is = absurd is
match_there s bound source (AnOption tys) constraint.Some ready is = ap plain_read (option_there s bound source tys ready)
match_there s bound source (AnOption tys) (constraint.ConstBool val) ready is = cc
match_there s bound source (AnOption tys) (constraint.ConstInt val of) ready is = cc
match_there s bound source (AnOption tys) (constraint.ConstPrim val) ready is = cc
match_there s bound source (AnOption tys) (constraint.Variant of variant) ready is = cc
match_there s bound source (AnOption tys) (constraint.Struct of) ready is = cc

pub pattern_there : (o : Option TPat) (pat : TPat) → o ≡ Some pat → o ≡ Some (written_pattern o)
pattern_there o pat e = rw e refl

-- so the pattern of one of several arms
pub arm_there : (s : Setting) (source : BindingId) (over : Source) (c : Constraint) (places : List (Option BindingId)) → IsConstraintOver s.env c over → ArePlacesOf s source c places → pattern_in_arm s.env c places ≡ Some (written_arm s.env c places)
arm_there s source over (constraint.ConstBool val) places is parts = ap (option_map pattern.Const) (test_there s.env (constraint.ConstBool val) tt)
arm_there s source over (constraint.ConstInt val of) places is parts = ap (option_map pattern.Const) (test_there s.env (constraint.ConstInt val of) tt)
arm_there s source over (constraint.ConstPrim val) places is parts = ap (option_map pattern.Const) (test_there s.env (constraint.ConstPrim val) tt)
arm_there s source (AValue ty) (constraint.Variant of variant) places is parts = pattern_there _ _ (arm_pattern s source ty (constraint.Variant of variant) places is parts tt).is
arm_there s source (AnOption tys) (constraint.Variant of variant) places is parts = cc
arm_there s source (AValue ty) (constraint.Struct of) places is parts = pattern_there _ _ (arm_pattern s source ty (constraint.Struct of) places is parts tt).is
arm_there s source (AnOption tys) (constraint.Struct of) places is parts = cc
arm_there s source over constraint.Some places is parts = pattern_there _ _ (some_made places parts.0).1

match_made : (r : Option Read) (q : Read) (o : Option tree.Arms) (arms : tree.Arms) → r ≡ Some q → o ≡ Some arms → match_of r o ≡ Some (Match q arms)
match_made r q o arms e f = rw (e, f) refl

before_arms : (p : Option TPat) (pat : TPat) (i : Option Body) (inside : Body) (o : Option tree.Arms) (arms : tree.Arms) → p ≡ Some pat → i ≡ Some inside → o ≡ Some arms → arm_before p i o ≡ Some (tree.Arm pat inside arms)
before_arms p pat i inside o arms e f g = rw (e, f, g) refl

-- statements in an arm, in a closure of their own or not
arm_made : (manner : Manner) (b : Block) (o : Option Body) (made : Body) → o ≡ Some made → arm_body manner b o ≡ Some (written.arm_body manner b made)
arm_made manner b o made e = ap (option_map (closed_if (has_closure manner b) manner.inside)) e

mutual
  -- the statements of a lawful block
  block_made : (manner : Manner) (b : Block) (s : Setting) (bound made : List ℕ) (end : Body) → IsReadyFrom s bound made b → told_body manner s bound b (Some end) ≡ Some (written.told_body manner s bound b end)
  block_made manner Stop s bound made end k = refl
  block_made manner (Step binds c more) s bound made end k =
      lets_made s bound binds _ _ k.0
      (told_made manner.telling c _ _ (before_made _ _ _ _ (control_made manner c s (bound_by bound binds) _ k.2) (stop_made manner (gives_several s) c _ _ (block_made manner more s (bound_by bound binds) _ end k.3))))

  control_made : (manner : Manner) (c : Control) (s : Setting) (bound made : List ℕ) → IsReadyControl s bound made c → told_control manner s bound c ≡ Some (written.told_control manner s bound c)
  control_made manner (block.Match source (Arm (constraint.ConstBool val) places body NoArm)) s bound made k =
      let v = over_value s bound source (constraint.ConstBool val) k.1.0 (λ e. cc) k.1.1 k.1.2.0 in
      test_made _ _ _ _ _ _ (operand_there s bound source v.ty v.ready) (test_there s.env (constraint.ConstBool val) tt) (arm_made manner body _ _ (block_made (arm_manner manner body) body s (bound_within bound places) made Done k.1.2.2))
  control_made manner (block.Match source (Arm (constraint.ConstInt val of) places body NoArm)) s bound made k =
      let v = over_value s bound source (constraint.ConstInt val of) k.1.0 (λ e. cc) k.1.1 k.1.2.0 in
      test_made _ _ _ _ _ _ (operand_there s bound source v.ty v.ready) (test_there s.env (constraint.ConstInt val of) tt) (arm_made manner body _ _ (block_made (arm_manner manner body) body s (bound_within bound places) made Done k.1.2.2))
  control_made manner (block.Match source (Arm (constraint.ConstPrim val) places body NoArm)) s bound made k =
      let v = over_value s bound source (constraint.ConstPrim val) k.1.0 (λ e. cc) k.1.1 k.1.2.0 in
      test_made _ _ _ _ _ _ (operand_there s bound source v.ty v.ready) (test_there s.env (constraint.ConstPrim val) tt) (arm_made manner body _ _ (block_made (arm_manner manner body) body s (bound_within bound places) made Done k.1.2.2))
  control_made manner (block.Match source (Arm (constraint.Variant of variant) places body NoArm)) s bound made k =
      let v = over_value s bound source (constraint.Variant of variant) k.1.0 (λ e. cc) k.1.1 k.1.2.0 in
      pattern_made _ _ _ _ _ _ (arm_pattern s source v.ty (constraint.Variant of variant) places v.is k.1.2.1 tt).is (read_there s bound true source v.ty v.ready) (arm_made manner body _ _ (block_made (arm_manner manner body) body s (bound_within bound places) made Done k.1.2.2))
  control_made manner (block.Match source (Arm (constraint.Struct of) places body NoArm)) s bound made k =
      let v = over_value s bound source (constraint.Struct of) k.1.0 (λ e. cc) k.1.1 k.1.2.0 in
      pattern_made _ _ _ _ _ _ (arm_pattern s source v.ty (constraint.Struct of) places v.is k.1.2.1 tt).is (read_there s bound true source v.ty v.ready) (arm_made manner body _ _ (block_made (arm_manner manner body) body s (bound_within bound places) made Done k.1.2.2))
  control_made manner (block.Match source (Arm constraint.Some places body NoArm)) s bound made k =
      let v = over_option s bound source k.1.0 k.1.1 k.1.2.0 in
      pattern_made _ _ _ _ _ _ (some_made places k.1.2.1.0).1 (ap plain_read (option_there s bound source v.0 v.1)) (arm_made manner body _ _ (block_made (arm_manner manner body) body s (bound_within bound places) made Done k.1.2.2))
  control_made manner (block.Match source (Arm c places body (Arm d others inside arms))) s bound made k =
      match_made _ _ _ _ (match_there s bound source k.1.0 c k.1.1 k.1.2.0) (each_made manner (Arm c places body (Arm d others inside arms)) s bound made source k.1.0 k.1.2)
  control_made manner (block.Match source NoArm) s bound made k = absurd k.0
  control_made manner (block.Equal x y body) s bound made k =
      test_made _ _ _ _ _ _ (operand_there s bound x k.0.0 k.0.1) (operand_there s bound y k.0.0 k.0.2) (block_made manner body s bound made Done k.1)
  control_made manner (block.Loop result body) s bound made k = loop_made _ k.0.source.0 result.0 _ _ (ap list_local k.0.is) (block_made manner body s (bound ++ result.0 ∷ []) made Done k.1)
  control_made manner (block.Return pos result) s bound made k = return_made (kind_of s.term.kind) _ _ (read_there s bound false result s.term.ret_ty k)

  -- each of several arms
  each_made : (manner : Manner) (arms : Arms) (s : Setting) (bound made : List ℕ) (source : BindingId) (over : Source) → AreReadyArms s bound made source over arms → told_each manner s bound arms ≡ Some (written.told_each manner s bound arms)
  each_made manner NoArm s bound made source over k = refl
  each_made manner (Arm c places body arms) s bound made source over k =
      before_arms _ _ _ _ _ _ (arm_there s source over c places k.0 k.1) (arm_made manner body _ _ (block_made (arm_manner manner body) body s (bound_within bound places) made Done k.2)) (each_made manner arms s bound made source over k.3)

-- ---- functions

pub function_made : (options : CodegenOptions) (files : Files) (env : Environment) (t : Term) (bs : List Binding) (b : Block) → IsLawfulBlock (setting env t bs) b → term_function options files (setting env t bs) b ≡ Some (function_of options files env t bs b)
function_made options files env t bs b h =
    let s = setting env t bs in
    ap (option_map (function_with env t)) (block_made (manner_of options files s) (completed s [] b) s [] [] (tail_in files env t b) (completed_ready s b h))
