-- The statements of a block are of the forms that are built.
use Rattle.std.proofs.Common.{◌≡◌, ◌≤◌, ⊎_elim, ℕ, ℤ, List, [], ◌∷◌, ◌++◌, length, map, Bool, true, false, Option, Some, None, refl, sym, ◌∙◌, subst, arith}
use Rattle.std.specs.Prelude.{IsSomeAnd, option_map, slice_get}
use Rattle.std.specs.List.{AllByRecursion}
use Rattle.isle_core.specs.declared.BindingId.{BindingId}
use Rattle.isle_core.specs.declared.Sym.{Sym}
use Rattle.isle_core.specs.declared.TypeId.{TypeId}
use Rattle.isle_core.specs.declared.rule_sets.Constraint.{Constraint}
use Rattle.isle_core.specs.declared.rule_sets.Constraint.TheVariants as constraint
use Rattle.isle_core.specs.declared.types.BuiltinType.TheVariants as builtin
use Rattle.isle_core.specs.declared.types.TypeDef.{TypeDef}
use Rattle.isle_core.specs.declared.types.TypeDef.TheVariants as def
use Rattle.isle_core.specs.declared.types.ReturnKind.{ReturnKind}
use Rattle.isle_core.specs.declared.types.ReturnKind.TheVariants as return_kind
use Rattle.isle_core.specs.declared.types.Term.{Term}
use Rattle.isle_core.specs.declared.rule_sets.Binding.{Binding}
use Rattle.isle_core.specs.declared.rule_sets.Binding.TheVariants as binding
use Rattle.isle_core.specs.ArmPlaces.{ArePlacesOf, bound_within}
use Rattle.isle_core.specs.HasType.{typed_fields, IsOfDef, HasType}
use Rattle.isle_core.specs.Calling.{calling, extracting, kind_of}
use Rattle.isle_core.specs.Constants.{int_of_def, int_value}
use Rattle.isle_core.specs.Form.{Form, form, form_types}
use Rattle.isle_core.specs.Making.{Making, MakesVariant, MakesStruct}
use Rattle.isle_core.specs.Path.{Path, Paths, Arg, ConstBool, ConstInt, ConstPrim, MadeStruct, NoPath, APath, at}
use Rattle.isle_core.specs.Block as block
use Rattle.isle_core.specs.Block.{Block, Stop, Step, Control, Arms, Arm, NoArm}
use Rattle.isle_core.specs.BlockLawful.{Source, AValue, AnOption, IsConstraintOver}
use Rattle.isle_core.specs.Bindable.{IsPlain, bound_by}
use Rattle.isle_core.specs.ConstraintType.{IsConstraintOf}
use Rattle.isle_core.specs.PathType.{IsPathOf, ArePathsOf}
use Rattle.isle_core.specs.PatternType.{IsNumericDef}
use Rattle.isle_core.specs.Rule.{Environment}
use Rattle.isle_core.specs.Setting.{Setting, paths_in, gives_several}
use Rattle.isle_core.specs.Terms.{sym_text}
use Rattle.isle_core.specs.Value.{Value, Truth, Int, Opaque, Variant, Struct}
use Rattle.isle_spelling.specs.Names.{IsName, IsFieldName}
use Rattle.isle_tree.specs.declared.tree.Operand.{Operand}
use Rattle.isle_tree.specs.declared.tree.Operand.TheVariants as operand
use Rattle.isle_tree.specs.declared.tree.Read.{Read}
use Rattle.isle_tree.specs.declared.tree.TBind.{TBind}
use Rattle.isle_tree.specs.Program.{Body, Done, Then}
use Rattle.isle_tree.specs.WellFormed.{IsOperand, IsRead, IsFieldRead, IsExpr, IsConstant as IsPatternConstant, IsBind, IsPattern, IsStmt, IsBody, AreArms}
use Rattle.isle_simulation.specs.Operands.{constant, in_place, is_bound}
use Rattle.isle_simulation.specs.Patterns.{bind_before, field_binds, pattern_named, some_pattern, pattern_of}
use Rattle.isle_simulation.specs.Manner.{bare_manner}
use Rattle.isle_simulation.specs.References.{is_declared, is_reference_in, read_as}
use Rattle.isle_simulation.specs.RustNames.{IsVariantName, HasRustNames}
use Rattle.isle_simulation.specs.Statements.{made_named, binds_list, local_stmt}
use Rattle.isle_simulation.proofs.ArmsRun.{ArmPattern, arm_pattern}
use Rattle.isle_simulation.proofs.OneBind.{spelled}
use Rattle.isle_simulation.proofs.BoundTests.{found}
use Rattle.isle_simulation.proofs.CalledTerms.{HasCallees, callee_is}
use Rattle.isle_simulation.proofs.ExternalTerms.{extracted_is}
use Rattle.isle_simulation.proofs.Made.{over_value, over_option, some_made}
use Rattle.isle_simulation.proofs.PathValues.{IsConstant}
use Rattle.isle_simulation.proofs.Ready.{IsSpelled, IsReady, IsReadyIn, AreReady, IsMadeReady, IsReadyBind, AreReadyBinds, IsReadyFrom, IsReadyControl, AreReadyArms}
use Rattle.isle_simulation.proofs.Written.{written, written_operand, written_read, written_place, written_test, written_pattern, written_arm, match_read, told_each, callee_of, reads, call_expr, extraction_expr, field_reads, made_expr, bound_expr, block_body, control_stmt, lets, result_stmt, stop_before}
use Rattle.isle_tree.specs.declared.tree.TExpr.{TExpr}
use Rattle.isle_simulation.proofs.LocalStmts.{local_by}

-- ---- operands

number_is : (env : Environment) (o : Option TypeDef) (n : ℤ) → IsSomeAnd o (λ d. IsOfDef env d (int_of_def env o n)) → IsSomeAnd o IsNumericDef → IsOperand (written (constant (int_of_def env o n)))
number_is env (Some (def.Builtin (builtin.Int ty))) n h k = h.1
number_is env (Some (def.Primitive name rust pos)) n h k = h.1
number_is env None n h k = absurd h
number_is env (Some (def.Builtin builtin.Bool)) n h k = absurd k
number_is env (Some (def.Enum name is_extern is_nodebug variants pos)) n h k = absurd k
number_is env (Some (def.Struct name is_extern is_nodebug fields pos)) n h k = absurd k

typed_number_is : (env : Environment) (of ty : TypeId) (n : ℤ) → of ≡ ty → HasType env (int_value env ty n) ty → IsSomeAnd (slice_get env.types.types ty.0) IsNumericDef → IsOperand (written (constant (int_value env of n)))
typed_number_is env of ty n e h k = rw e (number_is env (slice_get env.types.types ty.0) n h k)

struct_name_is : (env : Environment) (t : Term) (of : TypeId) (o : Option Form) → HasRustNames env → form env (MakesStruct of) ≡ o → IsSomeAnd o (λ f. ArePathsOf env t NoPath (form_types env f)) → IsOperand (written (option_map (λ (f : Form). operand.Name (sym_text env f.ty)) o))
struct_name_is env t of None names e h = absurd h
struct_name_is env t of (Some f) names e h = (names.forms (MakesStruct of) f e).ty

-- a path of a type that is spelled
place_is : (env : Environment) (t : Term) (local : ℕ) (p : Path) (ty : TypeId) → HasRustNames env → IsPathOf env t p ty → IsSpelled p → IsOperand (written (in_place env local p))
place_is env t local (Arg i) ty names h k = tt
place_is env t local (ConstBool of b) ty names h k = tt
place_is env t local (ConstInt of n) ty names h k = typed_number_is env of ty n h.0 h.1 h.2
place_is env t local (ConstPrim name) ty names h k = names.constants name ty h
place_is env t local (MadeStruct of NoPath) ty names h k = struct_name_is env t of (form env (MakesStruct of)) names refl h.1
place_is env t local (MadeStruct of (APath p ps)) ty names h k = absurd k
place_is env t local p ty names h k = absurd k

-- a constant of a type that is tested for
tested_is : (env : Environment) (c : Constraint) (ty : TypeId) → HasRustNames env → IsConstraintOf env c ty → IsConstant c → IsOperand (written_test env c)
tested_is env (constraint.ConstBool val) ty names h k = tt
tested_is env (constraint.ConstInt val of) ty names h k = typed_number_is env of ty val h.0 h.1 h.2
tested_is env (constraint.ConstPrim val) ty names h k = names.constants val ty h
tested_is env c ty names h k = absurd k

operand_is : (s : Setting) (bound : List ℕ) (b : BindingId) (ty : TypeId) → HasRustNames s.env → IsReady s bound b ty → IsOperand (written_operand s bound b)
operand_is s bound b ty names h = one (is_bound bound b) refl
  where
    one : (x : Bool) → is_bound bound b ≡ x → IsOperand (written_operand s bound b)
    one true is = rw is tt
    one false is = rw is (⊎_elim (λ k. absurd (let bad : false ≡ true = sym is ∙ k in cc)) (λ k. place_is s.env s.term b.0 (at (paths_in s) b) ty names h.path k) h.place)

read_is : (wanted is : Bool) (o : Operand) → IsOperand o → IsRead (read_as wanted is o)
read_is true true o h = h
read_is true false o h = h
read_is false true o h = h
read_is false false o h = h

written_is : (s : Setting) (bound : List ℕ) (wanted : Bool) (b : BindingId) (ty : TypeId) → HasRustNames s.env → IsReady s bound b ty → IsRead (written_read s bound wanted b)
written_is s bound wanted b ty names h = read_is wanted (is_reference_in s b) (written_operand s bound b) (operand_is s bound b ty names h)

reads_are : (s : Setting) (bound : List ℕ) (tys : List TypeId) (parameters : List BindingId) → HasRustNames s.env → AreReady s bound parameters tys → AllByRecursion IsRead (reads s bound tys parameters)
reads_are s bound [] [] names h = tt
reads_are s bound (ty ∷ tys) (b ∷ more) names h = (written_is s bound (is_declared s.env ty) b ty names h.0, reads_are s bound tys more names h.1)
reads_are s bound (ty ∷ tys) [] names h = absurd h
reads_are s bound [] (b ∷ more) names h = absurd h

-- the local of a bound source is read
source_is : (s : Setting) (bound : List ℕ) (b : BindingId) → is_bound bound b ≡ true → IsOperand (written_operand s bound b)
source_is s bound b is = rw is tt

-- ---- made values

fields_are : (s : Setting) (bound : List ℕ) (fields : List (List ℕ × TypeId)) (parts : List BindingId) → HasRustNames s.env → AllByRecursion (λ (f : List ℕ × TypeId). IsFieldName f.0) fields → AreReady s bound parts (map (λ (f : List ℕ × TypeId). f.1) fields)
    → AllByRecursion IsFieldRead (field_reads s bound fields parts)
fields_are s bound [] [] names all h = tt
fields_are s bound (f ∷ fields) (b ∷ more) names all h = ((all.0, written_is s bound false b f.1 names h.0), fields_are s bound fields more names all.1 h.1)
fields_are s bound (f ∷ fields) [] names all h = absurd h
fields_are s bound [] (b ∷ more) names all h = absurd h

named_is : (env : Environment) (ty : Sym) (variant : Option Sym) (fs : List (List ℕ × Read)) → IsName (sym_text env ty) → IsVariantName env variant → AllByRecursion IsFieldRead fs → IsExpr (made_named env ty variant fs)
named_is env ty (Some variant) fs n v h = (n.identifier, v, h)
named_is env ty None [] n v h = n
named_is env ty None (f ∷ fs) n v h = (n.identifier, omega arith, h)

made_is : (s : Setting) (bound : List ℕ) (p : Path) (over : Paths → Path) (mk : Making) (fields : List BindingId) → HasRustNames s.env → IsMadeReady s bound p over mk fields → IsExpr (made_expr s bound (form s.env mk) fields)
made_is s bound p over mk fields names is =
    let n = names.forms mk is.f is.found in
    subst (λ o. IsExpr (made_expr s bound o fields)) (sym is.found) (named_is s.env is.f.ty is.f.variant (field_reads s bound (typed_fields s.env is.f.fields) fields) n.ty n.variant (fields_are s bound (typed_fields s.env is.f.fields) fields names n.fields is.parts))

-- ---- what is computed

result_is : (kind : ReturnKind) (r : Read) → IsRead r → IsStmt (result_stmt kind r)
result_is return_kind.Plain r h = h
result_is return_kind.Option r h = h
result_is return_kind.Iterator r h = h

stop_is : (limit : ℕ) (several : Bool) (c : Control) (after : Body) → IsBody after → IsBody (stop_before (bare_manner limit) several c after)
stop_is limit true (block.Return place result) after h = (tt, h)
stop_is limit true (block.Match source arms) after h = h
stop_is limit true (block.Equal a b body) after h = h
stop_is limit true (block.Loop result body) after h = h
stop_is limit false c after h = h

local_is : (often : Bool) (n : ℕ) (e : TExpr) → IsExpr e → IsStmt (local_stmt often n e)
local_is often n e h = local_by IsStmt often n e h (λ borrow call is. subst IsExpr is h)

plain_is : (s : Setting) (b : BindingId) → HasRustNames s.env → IsPlain s.env s.term (at (paths_in s) b) → IsOperand (written_place s b)
plain_is s b names k = place_is s.env s.term b.0 (at (paths_in s) b) k.1.0 names k.1.1 (spelled (at (paths_in s) b) k.0)

call_is : (s : Setting) (bound : List ℕ) (o : Option Term) (called : Term) (callee : _) (parameters : List BindingId) → o ≡ Some called → IsExpr (call_expr s bound (Some called) callee parameters) → IsExpr (call_expr s bound o callee parameters)
call_is s bound o called callee parameters e h = subst (λ x. IsExpr (call_expr s bound x callee parameters)) (sym e) h

extraction_is : (s : Setting) (bound : List ℕ) (o : Option Term) (called : Term) (callee : _) (parameter : BindingId) → o ≡ Some called → IsExpr (extraction_expr s bound (Some called) callee parameter) → IsExpr (extraction_expr s bound o callee parameter)
extraction_is s bound o called callee parameter e h = subst (λ x. IsExpr (extraction_expr s bound x callee parameter)) (sym e) h

bound_is : (s : Setting) (bound : List ℕ) (b : BindingId) (o : Option Binding) → HasRustNames s.env → HasCallees s.env → IsReadyBind s bound (at (paths_in s) b) o → IsExpr (bound_expr s bound b o)
bound_is s bound b (Some (binding.Constructor term parameters k)) names fns is =
    call_is s bound (slice_get s.env.terms term.0) is.called (callee_of (calling s.env term)) parameters is.found (record { callee = callee_is s.env term is.called is.kind fns is.found is.external; args = reads_are s bound is.called.arg_tys parameters names is.args })
bound_is s bound b (Some (binding.Extractor term parameter)) names fns is =
    extraction_is s bound (slice_get s.env.terms term.0) is.called (callee_of (extracting s.env term)) parameter is.found
    (record { callee = extracted_is s.env term is.called is.kind fns.fns is.found is.external; args = reads_are s bound (is.called.ret_ty ∷ []) (parameter ∷ []) names (is.arg, tt) })
bound_is s bound b (Some (binding.MatchSome source)) names fns is = source_is s bound source (found bound source.0 is.bound')
bound_is s bound b (Some (binding.MatchTuple source field)) names fns is = source_is s bound source (found bound source.0 is.bound')
bound_is s bound b (Some (binding.Argument index)) names fns is = plain_is s b names is
bound_is s bound b (Some (binding.ConstBool val ty)) names fns is = plain_is s b names is
bound_is s bound b (Some (binding.ConstInt val ty)) names fns is = plain_is s b names is
bound_is s bound b (Some (binding.ConstPrim val)) names fns is = plain_is s b names is
bound_is s bound b (Some (binding.MakeVariant ty variant fields)) names fns is = made_is s bound (at (paths_in s) b) _ (MakesVariant ty variant) fields names is
bound_is s bound b (Some (binding.MakeStruct ty fields)) names fns is = made_is s bound (at (paths_in s) b) _ (MakesStruct ty) fields names is
bound_is s bound b o names fns is = absurd is

lets_are : (s : Setting) (bound : List ℕ) (binds : List BindingId) (more : Body) → HasRustNames s.env → HasCallees s.env → AreReadyBinds s bound binds → IsBody more → IsBody (lets s bound binds more)
lets_are s bound [] more names fns k h = h
lets_are s bound (b ∷ binds) more names fns k h = (local_is (binds_list s b) b.0 _ (bound_is s bound b (slice_get s.bindings b.0) names fns k.0), lets_are s (bound ++ b.0 ∷ []) binds more names fns k.1 h)

-- ---- patterns

binds_tail : (b : TBind) (o : Option (List TBind)) (binds : List TBind) → bind_before b o ≡ Some binds → ((rest : List TBind) → o ≡ Some rest → AllByRecursion IsBind rest) → IsBind b → AllByRecursion IsBind binds
binds_tail b None binds e h k = cc
binds_tail b (Some rest) binds e h k = subst (AllByRecursion IsBind) (same (b ∷ rest) binds e) (k, h rest refl)
  where
    same : (x y : List TBind) → Some x ≡ Some y → x ≡ y
    same x y c = cc

none_tail : (binds : List TBind) → Some [] ≡ Some binds → AllByRecursion IsBind binds
none_tail [] e = tt
none_tail (b ∷ binds) e = cc

binds_are : (env : Environment) (fields : List (List ℕ × TypeId)) (places : List (Option BindingId)) (binds : List TBind) → AllByRecursion (λ (f : List ℕ × TypeId). IsFieldName f.0) fields → field_binds env fields places ≡ Some binds → AllByRecursion IsBind binds
binds_are env fields [] binds all e = none_tail binds e
binds_are env [] (p ∷ places) binds all e = cc
binds_are env (f ∷ fields) (None ∷ places) binds all e = binds_are env fields places binds all.1 e
binds_are env (f ∷ fields) (Some b ∷ places) binds all e =
    binds_tail (record { field = f.0; by_ref = is_declared env f.1; local = b.0 }) (field_binds env fields places) binds e (λ rest k. binds_are env fields places rest all.1 k) all.0

pattern_is : (env : Environment) (ty : Sym) (variant : Option Sym) (more : Bool) (binds : List TBind) → IsName (sym_text env ty) → IsVariantName env variant → AllByRecursion IsBind binds → IsPattern (pattern_named env ty variant more binds)
pattern_is env ty (Some variant) more binds n v h = (n.identifier, v, h)
pattern_is env ty None more binds n v h = (n.identifier, h)

arm_is : (s : Setting) (c : Constraint) (places : List (Option BindingId)) → HasRustNames s.env → ArmPattern s.env c places → IsPattern (written_pattern (pattern_of s.env c places))
arm_is s c places names p =
    let n = names.forms p.mk p.f p.found in
    subst (λ o. IsPattern (written_pattern o)) (sym p.is) (pattern_is s.env p.f.ty p.f.variant _ p.binds n.ty n.variant (binds_are s.env (typed_fields s.env p.f.fields) places p.binds n.fields p.spelled))

some_is : (places : List (Option BindingId)) → length places ≤ 1 → IsPattern (written_pattern (some_pattern places))
some_is places le = subst (λ o. IsPattern (written_pattern o)) (sym (some_made places le).1) tt

-- a number of a pattern is a constant
number_pattern : (v : Value) → IsOperand (written (constant v)) → IsPatternConstant (written (constant v))
number_pattern (Truth b) h = tt
number_pattern (Int ty n) h = h
number_pattern (Opaque ty n) h = h
number_pattern (Variant ty name fields) h = h
number_pattern (Struct ty fields) h = h

-- so the pattern of one of several arms
pattern_of_arm : (s : Setting) (source : BindingId) (over : Source) (c : Constraint) (places : List (Option BindingId)) → HasRustNames s.env → IsConstraintOver s.env c over → ArePlacesOf s source c places → IsPattern (written_arm s.env c places)
pattern_of_arm s source over (constraint.ConstBool val) places names is parts = tt
pattern_of_arm s source (AValue ty) (constraint.ConstInt val of) places names is parts = number_pattern (int_value s.env of val) (tested_is s.env (constraint.ConstInt val of) ty names is tt)
pattern_of_arm s source (AnOption tys) (constraint.ConstInt val of) places names is parts = cc
pattern_of_arm s source (AValue ty) (constraint.ConstPrim val) places names is parts = tested_is s.env (constraint.ConstPrim val) ty names is tt
pattern_of_arm s source (AnOption tys) (constraint.ConstPrim val) places names is parts = cc
pattern_of_arm s source (AValue ty) (constraint.Variant of variant) places names is parts = arm_is s (constraint.Variant of variant) places names (arm_pattern s source ty (constraint.Variant of variant) places is parts tt)
pattern_of_arm s source (AnOption tys) (constraint.Variant of variant) places names is parts = cc
pattern_of_arm s source (AValue ty) (constraint.Struct of) places names is parts = arm_is s (constraint.Struct of) places names (arm_pattern s source ty (constraint.Struct of) places is parts tt)
pattern_of_arm s source (AnOption tys) (constraint.Struct of) places names is parts = cc
pattern_of_arm s source over constraint.Some places names is parts = some_is places parts.0

-- and what a match reads
match_is : (s : Setting) (bound : List ℕ) (source : BindingId) (over : Source) (c : Constraint) → HasRustNames s.env → IsReadyIn s bound source over → IsConstraintOver s.env c over → IsRead (match_read s bound source c)
match_is s bound source (AValue ty) (constraint.ConstBool val) names ready is = operand_is s bound source ty names ready
match_is s bound source (AValue ty) (constraint.ConstInt val of) names ready is = operand_is s bound source ty names ready
match_is s bound source (AValue ty) (constraint.ConstPrim val) names ready is = operand_is s bound source ty names ready
match_is s bound source (AValue ty) (constraint.Variant of variant) names ready is = written_is s bound true source ty names ready
match_is s bound source (AValue ty) (constraint.Struct of) names ready is = written_is s bound true source ty names ready
match_is s bound source (AValue ty) constraint.Some names ready is = absurd is
match_is s bound source (AnOption tys) constraint.Some names ready is = source_is s bound source ready.bound'
match_is s bound source (AnOption tys) (constraint.ConstBool val) names ready is = cc
match_is s bound source (AnOption tys) (constraint.ConstInt val of) names ready is = cc
match_is s bound source (AnOption tys) (constraint.ConstPrim val) names ready is = cc
match_is s bound source (AnOption tys) (constraint.Variant of variant) names ready is = cc
match_is s bound source (AnOption tys) (constraint.Struct of) names ready is = cc

module _ (limit : ℕ) where
  -- ---- blocks

  mutual
    -- the statements of a block
    pub block_is : (b : Block) (s : Setting) (bound made : List ℕ) (end : Body) → HasRustNames s.env → HasCallees s.env → IsReadyFrom s bound made b → IsBody end → IsBody (block_body limit s bound b end)
    block_is Stop s bound made end names fns k h = h
    block_is (Step binds c more) s bound made end names fns k h =
        lets_are s bound binds (Then (control_stmt limit s (bound_by bound binds) c) (stop_before (bare_manner limit) (gives_several s) c (block_body limit s (bound_by bound binds) more end))) names fns k.0
        (control_is c s (bound_by bound binds) _ names fns k.2, stop_is limit (gives_several s) c _ (block_is more s (bound_by bound binds) _ end names fns k.3 h))

    control_is : (c : Control) (s : Setting) (bound made : List ℕ) → HasRustNames s.env → HasCallees s.env → IsReadyControl s bound made c → IsStmt (control_stmt limit s bound c)
    control_is (block.Match source (Arm (constraint.ConstBool val) places body NoArm)) s bound made names fns k =
        let v = over_value s bound source (constraint.ConstBool val) k.1.0 (λ e. cc) k.1.1 k.1.2.0 in
        (operand_is s bound source v.ty names v.ready, tested_is s.env (constraint.ConstBool val) v.ty names v.is tt, block_is body s (bound_within bound places) made Done names fns k.1.2.2 tt)
    control_is (block.Match source (Arm (constraint.ConstInt val of) places body NoArm)) s bound made names fns k =
        let v = over_value s bound source (constraint.ConstInt val of) k.1.0 (λ e. cc) k.1.1 k.1.2.0 in
        (operand_is s bound source v.ty names v.ready, tested_is s.env (constraint.ConstInt val of) v.ty names v.is tt, block_is body s (bound_within bound places) made Done names fns k.1.2.2 tt)
    control_is (block.Match source (Arm (constraint.ConstPrim val) places body NoArm)) s bound made names fns k =
        let v = over_value s bound source (constraint.ConstPrim val) k.1.0 (λ e. cc) k.1.1 k.1.2.0 in
        (operand_is s bound source v.ty names v.ready, tested_is s.env (constraint.ConstPrim val) v.ty names v.is tt, block_is body s (bound_within bound places) made Done names fns k.1.2.2 tt)
    control_is (block.Match source (Arm (constraint.Variant of variant) places body NoArm)) s bound made names fns k =
        let v = over_value s bound source (constraint.Variant of variant) k.1.0 (λ e. cc) k.1.1 k.1.2.0 in (
          arm_is s (constraint.Variant of variant) places names (arm_pattern s source v.ty (constraint.Variant of variant) places v.is k.1.2.1 tt),
          written_is s bound true source v.ty names v.ready,
          block_is body s (bound_within bound places) made Done names fns k.1.2.2 tt,
        )
    control_is (block.Match source (Arm (constraint.Struct of) places body NoArm)) s bound made names fns k =
        let v = over_value s bound source (constraint.Struct of) k.1.0 (λ e. cc) k.1.1 k.1.2.0 in (
          arm_is s (constraint.Struct of) places names (arm_pattern s source v.ty (constraint.Struct of) places v.is k.1.2.1 tt),
          written_is s bound true source v.ty names v.ready,
          block_is body s (bound_within bound places) made Done names fns k.1.2.2 tt,
        )
    control_is (block.Match source (Arm constraint.Some places body NoArm)) s bound made names fns k =
        let v = over_option s bound source k.1.0 k.1.1 k.1.2.0 in
        (some_is places k.1.2.1.0, source_is s bound source v.1.bound', block_is body s (bound_within bound places) made Done names fns k.1.2.2 tt)
    control_is (block.Match source (Arm c places body (Arm d others inside arms))) s bound made names fns k =
        (match_is s bound source k.1.0 c names k.1.1 k.1.2.0, tt, each_is (Arm c places body (Arm d others inside arms)) s bound made source k.1.0 names fns k.1.2)
    control_is (block.Match source NoArm) s bound made names fns k = absurd k.0
    control_is (block.Equal x y body) s bound made names fns k = (operand_is s bound x k.0.0 names k.0.1, operand_is s bound y k.0.0 names k.0.2, block_is body s bound made Done names fns k.1 tt)
    control_is (block.Loop result body) s bound made names fns k = block_is body s (bound ++ result.0 ∷ []) made Done names fns k.1 tt
    control_is (block.Return pos result) s bound made names fns k = result_is (kind_of s.term.kind) (written_read s bound false result) (written_is s bound false result s.term.ret_ty names k)

    -- each of several arms
    each_is : (arms : Arms) (s : Setting) (bound made : List ℕ) (source : BindingId) (over : Source) → HasRustNames s.env → HasCallees s.env → AreReadyArms s bound made source over arms → AreArms (told_each (bare_manner limit) s bound arms)
    each_is NoArm s bound made source over names fns k = tt
    each_is (Arm c places body arms) s bound made source over names fns k =
        (pattern_of_arm s source over c places names k.0 k.1, block_is body s (bound_within bound places) made Done names fns k.2 tt, each_is arms s bound made source over names fns k.3)
