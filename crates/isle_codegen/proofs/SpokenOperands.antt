-- The operands of a conforming function: locals, arguments, structs without fields, and constants that the term's rules speak of.
use Rattle.std.proofs.Common.{◌≡◌, ⊎_elim, ℕ, ℤ, ◌+◌, List, [], ◌∷◌, ◌++◌, Bool, true, false, Option, Some, None, map, option_map, refl, sym, ap, ◌∙◌, subst}
use Rattle.std.specs.Prelude.{IsSomeAnd, option_and_then, slice_get}
use Rattle.std.specs.List.{AllByRecursion}
use Rattle.std.proofs.lemmas.List.Elements.{Contains-append_left}
use Rattle.isle_core.specs.declared.options.CodegenOptions.{CodegenOptions}
use Rattle.isle_core.specs.declared.BindingId.{BindingId}
use Rattle.isle_core.specs.declared.Sym.{Sym}
use Rattle.isle_core.specs.declared.TypeId.{TypeId}
use Rattle.isle_core.specs.declared.VariantId.{VariantId}
use Rattle.isle_core.specs.declared.files.Files.{Files}
use Rattle.isle_core.specs.declared.rule_sets.Binding.{Binding}
use Rattle.isle_core.specs.declared.rule_sets.Binding.TheVariants as binding
use Rattle.isle_core.specs.declared.rule_sets.Constraint.{Constraint}
use Rattle.isle_core.specs.declared.rule_sets.Constraint.TheVariants as constraint
use Rattle.isle_core.specs.declared.rule_sets.RuleSet.{RuleSet}
use Rattle.isle_core.specs.declared.types.ReturnKind.{ReturnKind}
use Rattle.isle_core.specs.declared.types.ReturnKind.TheVariants as return_kind
use Rattle.isle_core.specs.declared.types.Term.{Term}
use Rattle.isle_core.specs.declared.types.TypeDef.{TypeDef}
use Rattle.isle_core.specs.declared.types.TypeDef.TheVariants as def
use Rattle.isle_core.specs.declared.types.Variant.{Variant as VariantDef}
use Rattle.isle_core.specs.declared.values.Callee.{Callee}
use Rattle.isle_core.specs.ArmPlaces.{ArePlacesOf, bound_within}
use Rattle.isle_core.specs.Bindable.{IsPlain, bound_by}
use Rattle.isle_core.specs.Block as block
use Rattle.isle_core.specs.Block.{Block, Stop, Step, Control}
use Rattle.isle_core.specs.BlockLawful.{Source, AValue, AnOption, IsConstraintOver, IsLawfulBlock}
use Rattle.isle_core.specs.Calling.{calling, extracting, kind_of}
use Rattle.isle_core.specs.Constants.{int_value}
use Rattle.isle_core.specs.Form.{Form, form, form_of_variant, variant_form}
use Rattle.isle_core.specs.HasType.{typed_fields}
use Rattle.isle_core.specs.Making.{MakesVariant, MakesStruct}
use Rattle.isle_core.specs.Path.{Path, Arg, ConstBool, ConstInt, ConstPrim, MadeStruct, NoPath, APath, at, at_all, paths_of}
use Rattle.isle_core.specs.PathType.{IsPathOf}
use Rattle.isle_core.specs.Rule.{Environment, Rule}
use Rattle.isle_core.specs.RuleSet.{is_test, equal_test}
use Rattle.isle_core.specs.Setting.{Setting, setting, paths_in}
use Rattle.isle_core.specs.StandsFor.{StandsFor}
use Rattle.isle_core.specs.Terms.{sym_text}
use Rattle.isle_core.specs.Tests.{Is}
use Rattle.isle_core.proofs.AllLaws.{all_append}
use Rattle.isle_core.proofs.BindingPaths.{IsThere, contains_at}
use Rattle.isle_blocks.specs.RuleTests.{IsRuleTest, TestsRules, DoesRules, ArmsTestRules}
use Rattle.isle_core.proofs.FlatRules.{flat_rule}
use Rattle.isle_rulesets.proofs.FirstLaws.{map_contains}
use Rattle.isle_tree.specs.declared.tree.Operand.{Operand}
use Rattle.isle_tree.specs.declared.tree.Operand.TheVariants as operand
use Rattle.isle_tree.specs.declared.tree.Read.{Read}
use Rattle.isle_tree.specs.declared.tree.TBind.{TBind}
use Rattle.isle_tree.specs.declared.tree.TPat.{TPat}
use Rattle.isle_tree.specs.Program as tree
use Rattle.isle_tree.specs.Program.{Body, Function}
use Rattle.isle_tree.specs.Walk.{of_stmt}
use Rattle.isle_simulation.specs.Completed.{completed, completed_control, completed_arms, step_binds}
use Rattle.isle_simulation.specs.Manner.{manner_of}
use Rattle.isle_simulation.specs.Operands.{constant, in_place, is_bound}
use Rattle.isle_simulation.specs.Patterns.{pattern_of, pattern_named, leaves_out}
use Rattle.isle_simulation.specs.References.{is_declared, is_reference_in, read_as}
use Rattle.isle_simulation.specs.Statements.{made_named, binds_list}
use Rattle.isle_simulation.specs.TermFunction.{mark_of, tail_body, tail_of, tail_in, ends_in_return, term_function}
use Rattle.isle_simulation.proofs.ArmsRun.{ArmPattern, arm_pattern}
use Rattle.isle_simulation.proofs.BoundTests.{found}
use Rattle.isle_simulation.proofs.CompletedReady.{completed_ready}
use Rattle.isle_simulation.proofs.LocalStmts.{local_by}
use Rattle.isle_simulation.proofs.Made.{over_value, over_option, some_made, test_there, function_made}
use Rattle.isle_simulation.proofs.MadeStatements.{AllTested, AllTestedBy, AllTestedIn, AreArmsOf, EachMade, block_holds}
use Rattle.isle_simulation.proofs.OneBind.{spelled}
use Rattle.isle_simulation.proofs.PathValues.{IsConstant}
use Rattle.isle_simulation.proofs.Ready.{IsSpelled, IsReady, IsReadyIn, AreReady, IsReadyBind}
use Rattle.isle_simulation.proofs.Written.{written, written_test, written_operand, written_place, written_read, written_pattern, callee_of, reads, call_expr, extraction_expr, field_reads, made_expr, bound_expr, bound_stmt, result_stmt, arm_stmt, written_arm, match_read, function_of}
use Rattle.isle_codegen.specs.Spoken.{constant_path, IsSpoken, on_path, tested}
use Rattle.isle_codegen.proofs.Operands.{read_operand, reads_operands, fields_operands, expr_operands, pattern_operands, patterns_operands, own_operands, body_operands}

-- a local, an argument, a struct without fields, or a constant that the rules speak of
pub data IsSpokenOperand (env : Environment) (rules : List Rule) : Operand → Type 0 where
  local : (n : ℕ) → IsSpokenOperand env rules (operand.Local n)
  argument : (n : ℕ) → IsSpokenOperand env rules (operand.Arg n)
  unit_struct : (ty : TypeId) (f : Form) → form env (MakesStruct ty) ≡ Some f → IsSpoken env rules (MadeStruct ty NoPath) → IsSpokenOperand env rules (operand.Name (sym_text env f.ty))
  truth : (ty : TypeId) (b : Bool) → IsSpoken env rules (ConstBool ty b) → IsSpokenOperand env rules (operand.Bool b)
  number : (ty : TypeId) (n : ℤ) (o : Operand) → IsSpoken env rules (ConstInt ty n) → constant (int_value env ty n) ≡ Some o → IsSpokenOperand env rules o
  named : (name : Sym) → IsSpoken env rules (ConstPrim name) → IsSpokenOperand env rules (operand.Name (sym_text env name))

-- ---- tests

mutual
  -- the arms of a block that tests what rules test
  tests_all : (set : RuleSet) (b : Block) → TestsRules set b → AllTested (IsRuleTest set) b
  tests_all set Stop h = tt
  tests_all set (Step binds c more) h = (tests_by set c h.0, tests_all set more h.1)

  tests_by : (set : RuleSet) (c : Control) → DoesRules set c → AllTestedBy (IsRuleTest set) c
  tests_by set (block.Match source arms) h = tests_in set source arms h
  tests_by set (block.Equal a b body) h = tests_all set body h.1
  tests_by set (block.Loop result body) h = tests_all set body h
  tests_by set (block.Return pos result) h = tt

  tests_in : (set : RuleSet) (source : BindingId) (arms : block.Arms) → ArmsTestRules set source arms → AllTestedIn (IsRuleTest set) source arms
  tests_in set source block.NoArm h = tt
  tests_in set source (block.Arm c places body arms) h = (h.0, tests_all set body h.1, tests_in set source arms h.2)

-- ---- the rules of a set

-- what a set tests for, the rules speak of
test_spoken : (env : Environment) (set : RuleSet) (rules : List Rule) (source : BindingId) (c : Constraint) → StandsFor env set rules → IsConstant c → IsRuleTest set source c → IsSpoken env rules (constant_path c)
test_spoken env set rules source c stand is h =
    let ps = paths_of set.bindings in
    let f = h.rule in
    let k = flat_rule env ps rules set.rules 0 f stand.flat h.there in
    tested k.rule (at ps source) c k.there
    (k.tests (Is (at ps source) c) (Contains-append_left (map (is_test ps) f.constraints) (map (equal_test ps) f.equals) (Is (at ps source) c) (map_contains (is_test ps) f.constraints (source, c) h.tests)))

-- ---- blocks whose bind orders are completed

mutual
  completed_tests : (set : RuleSet) (s : Setting) (bound : List ℕ) (b : Block) → TestsRules set b → TestsRules set (completed s bound b)
  completed_tests set s bound Stop h = tt
  completed_tests set s bound (Step bs c more) h = (does_tests set s (bound_by bound (step_binds s bound bs c)) c h.0, completed_tests set s (bound_by bound (step_binds s bound bs c)) more h.1)

  does_tests : (set : RuleSet) (s : Setting) (bound : List ℕ) (c : Control) → DoesRules set c → DoesRules set (completed_control s bound c)
  does_tests set s bound (block.Match source arms) h = arms_tests set s bound source arms h
  does_tests set s bound (block.Equal a b body) h = (h.0, completed_tests set s bound body h.1)
  does_tests set s bound (block.Loop result body) h = completed_tests set s (bound ++ result.0 ∷ []) body h
  does_tests set s bound (block.Return place result) h = h

  arms_tests : (set : RuleSet) (s : Setting) (bound : List ℕ) (source : BindingId) (arms : block.Arms) → ArmsTestRules set source arms → ArmsTestRules set source (completed_arms s bound arms)
  arms_tests set s bound source block.NoArm h = tt
  arms_tests set s bound source (block.Arm c places body arms) h = (h.0, completed_tests set s (bound_within bound places) body h.1, arms_tests set s bound source arms h.2)

-- ---- forms

-- the form of a variant has one
variant_named : (o : Option VariantDef) (name : Sym) (f : Form) → option_map (form_of_variant name) o ≡ Some f → (v : Sym) × (f.variant ≡ Some v)
variant_named None name f e = absurd cc
variant_named (Some v) name f e = (v.name, cc)

variant_of : (o : Option TypeDef) (env : Environment) (ty : TypeId) (variant : VariantId) (f : Form) → slice_get env.types.types ty.0 ≡ o → form env (MakesVariant ty variant) ≡ Some f → (v : Sym) × (f.variant ≡ Some v)
variant_of None env ty variant f is e = let k : None ≡ Some f = sym (ap (option_and_then (variant_form variant)) is) ∙ e in absurd cc
variant_of (Some (def.Enum name is_extern is_nodebug variants place)) env ty variant f is e = variant_named (slice_get variants variant.0) name f (sym (ap (option_and_then (variant_form variant)) is) ∙ e)
variant_of (Some (def.Builtin b)) env ty variant f is e = let k : None ≡ Some f = sym (ap (option_and_then (variant_form variant)) is) ∙ e in absurd cc
variant_of (Some (def.Primitive name rust place)) env ty variant f is e = let k : None ≡ Some f = sym (ap (option_and_then (variant_form variant)) is) ∙ e in absurd cc
variant_of (Some (def.Struct name is_extern is_nodebug fields place)) env ty variant f is e = let k : None ≡ Some f = sym (ap (option_and_then (variant_form variant)) is) ∙ e in absurd cc

module _ (env : Environment) (t : Term) (set : RuleSet) (rules : List Rule) (stand : StandsFor env set rules) where
  abbrev s : Setting
  s = setting env t set.bindings

  abbrev So : Operand → Type 0
  So = IsSpokenOperand env rules

  abbrev AllSo : List Operand → Type 0
  AllSo = AllByRecursion So

  -- ---- operands

  -- a path that stands at a binding
  spoken_at : (b : BindingId) → IsThere (at (paths_in s) b) → IsSpoken env rules (at (paths_in s) b)
  spoken_at b there = on_path (at (paths_in s) b) ((stand.paths (at (paths_in s) b)).0 (contains_at (paths_in s) b.0 (at (paths_in s) b) there refl))

  name_so : (ty : TypeId) (o : Option Form) (P : Form → Type 0) → form env (MakesStruct ty) ≡ o → IsSomeAnd o P → IsSpoken env rules (MadeStruct ty NoPath) → So (written (option_map (λ (f : Form). operand.Name (sym_text env f.ty)) o))
  name_so ty None P e h k = absurd h
  name_so ty (Some f) P e h k = unit_struct ty f e k

  place_so : (n : ℕ) (p : Path) (ty : TypeId) → IsPathOf env t p ty → IsSpelled p → (IsThere p → IsSpoken env rules p) → So (written (in_place env n p))
  place_so n (Arg i) ty h k spoken = argument i
  place_so n (ConstBool of b) ty h k spoken = truth of b (spoken tt)
  place_so n (ConstInt of v) ty h k spoken = number of v (written (constant (int_value env of v))) (spoken tt) (test_there env (constraint.ConstInt v of) tt)
  place_so n (ConstPrim name) ty h k spoken = named name (spoken tt)
  place_so n (MadeStruct of NoPath) ty h k spoken = name_so of (form env (MakesStruct of)) _ refl h.1 (spoken tt)
  place_so n (MadeStruct of (APath p ps)) ty h k spoken = absurd k
  place_so n p ty h k spoken = absurd k

  ready_so : (bound : List ℕ) (b : BindingId) (ty : TypeId) → IsReady s bound b ty → So (written_operand s bound b)
  ready_so bound b ty h = one (is_bound bound b) refl
    where
      one : (x : Bool) → is_bound bound b ≡ x → So (written_operand s bound b)
      one true is = rw is (local b.0)
      one false is = rw is (⊎_elim (λ k. absurd (let bad : false ≡ true = sym is ∙ k in cc)) (λ k. place_so b.0 (at (paths_in s) b) ty h.path k (spoken_at b)) h.place)

  bound_so : (bound : List ℕ) (b : BindingId) → is_bound bound b ≡ true → So (written_operand s bound b)
  bound_so bound b is = rw is (local b.0)

  read_so : (wanted is : Bool) (o : Operand) → So o → So (read_operand (read_as wanted is o))
  read_so true true o h = h
  read_so true false o h = h
  read_so false true o h = h
  read_so false false o h = h

  -- ---- what is computed

  reads_so : (bound : List ℕ) (tys : List TypeId) (bs : List BindingId) → AreReady s bound bs tys → AllSo (reads_operands (reads s bound tys bs))
  reads_so bound [] [] h = tt
  reads_so bound (ty ∷ tys) (b ∷ bs) h = (read_so (is_declared env ty) (is_reference_in s b) (written_operand s bound b) (ready_so bound b ty h.0), reads_so bound tys bs h.1)
  reads_so bound [] (b ∷ bs) h = absurd h
  reads_so bound (ty ∷ tys) [] h = absurd h

  fields_so : (bound : List ℕ) (fields : List (List ℕ × TypeId)) (bs : List BindingId) → AreReady s bound bs (map (λ (f : List ℕ × TypeId). f.1) fields) → AllSo (fields_operands (field_reads s bound fields bs))
  fields_so bound [] [] h = tt
  fields_so bound (f ∷ fields) (b ∷ bs) h = (read_so false (is_reference_in s b) (written_operand s bound b) (ready_so bound b f.1 h.0), fields_so bound fields bs h.1)
  fields_so bound [] (b ∷ bs) h = absurd h
  fields_so bound (f ∷ fields) [] h = absurd h

  call_so : (bound : List ℕ) (o : Option Term) (called : Term) (callee : Callee) (bs : List BindingId) → o ≡ Some called → AreReady s bound bs called.arg_tys → AllSo (expr_operands (call_expr s bound o callee bs))
  call_so bound o called callee bs e h = rw e (reads_so bound called.arg_tys bs h)

  extraction_so : (bound : List ℕ) (o : Option Term) (called : Term) (callee : Callee) (b : BindingId) → o ≡ Some called → IsReady s bound b called.ret_ty → AllSo (expr_operands (extraction_expr s bound o callee b))
  extraction_so bound o called callee b e h = rw e (reads_so bound (called.ret_ty ∷ []) (b ∷ []) (h, tt))

  -- a made value, or the name of a struct without fields
  made_so : (ty : Sym) (variant : Option Sym) (fields : List (List ℕ × Read)) → (variant ≡ None → fields ≡ [] → So (operand.Name (sym_text env ty))) → AllSo (fields_operands fields) → AllSo (expr_operands (made_named env ty variant fields))
  made_so ty (Some variant) fields alone h = h
  made_so ty None [] alone h = (alone refl refl, tt)
  made_so ty None (f ∷ fields) alone h = h

  value_so : (bound : List ℕ) (o : Option Form) (f : Form) (bs : List BindingId) → o ≡ Some f → (f.variant ≡ None → field_reads s bound (typed_fields env f.fields) bs ≡ [] → So (operand.Name (sym_text env f.ty))) → AreReady s bound bs (map (λ (x : List ℕ × TypeId). x.1) (typed_fields env f.fields)) → AllSo (expr_operands (made_expr s bound o bs))
  value_so bound o f bs e alone h = rw e (made_so f.ty f.variant (field_reads s bound (typed_fields env f.fields) bs) alone (fields_so bound (typed_fields env f.fields) bs h))

  -- no fields are read if there are no parts
  no_parts : (bound : List ℕ) (fields : List (List ℕ × TypeId)) (bs : List BindingId) → AreReady s bound bs (map (λ (f : List ℕ × TypeId). f.1) fields) → field_reads s bound fields bs ≡ [] → bs ≡ []
  no_parts bound [] [] h e = refl
  no_parts bound (f ∷ fields) (b ∷ bs) h e = absurd cc
  no_parts bound [] (b ∷ bs) h e = absurd h
  no_parts bound (f ∷ fields) [] h e = absurd h

  plain_so : (b : BindingId) → IsPlain env t (at (paths_in s) b) → So (written_place s b)
  plain_so b k = place_so b.0 (at (paths_in s) b) k.1.0 k.1.1 (spelled (at (paths_in s) b) k.0) (spoken_at b)

  bound_expr_so : (bound : List ℕ) (b : BindingId) (o : Option Binding) → IsReadyBind s bound (at (paths_in s) b) o → AllSo (expr_operands (bound_expr s bound b o))
  bound_expr_so bound b (Some (binding.Constructor term parameters k)) is = call_so bound (slice_get env.terms term.0) is.called (callee_of (calling env term)) parameters is.found is.args
  bound_expr_so bound b (Some (binding.Extractor term parameter)) is = extraction_so bound (slice_get env.terms term.0) is.called (callee_of (extracting env term)) parameter is.found is.arg
  bound_expr_so bound b (Some (binding.MatchSome source)) is = (bound_so bound source (found bound source.0 is.bound'), tt)
  bound_expr_so bound b (Some (binding.MatchTuple source field)) is = (bound_so bound source (found bound source.0 is.bound'), tt)
  bound_expr_so bound b (Some (binding.Argument index)) is = (plain_so b is, tt)
  bound_expr_so bound b (Some (binding.ConstBool val ty)) is = (plain_so b is, tt)
  bound_expr_so bound b (Some (binding.ConstInt val ty)) is = (plain_so b is, tt)
  bound_expr_so bound b (Some (binding.ConstPrim val)) is = (plain_so b is, tt)
  bound_expr_so bound b (Some (binding.MakeVariant of variant fields)) is =
      value_so bound (form env (MakesVariant of variant)) is.f fields is.found
      (λ none empty. let v = variant_of (slice_get env.types.types of.0) env of variant is.f refl is.found in let bad : None ≡ Some v.0 = sym none ∙ v.1 in absurd cc) is.parts
  bound_expr_so bound b (Some (binding.MakeStruct of fields)) is =
      value_so bound (form env (MakesStruct of)) is.f fields is.found
      (λ none empty.
      let bare : fields ≡ [] = no_parts bound (typed_fields env is.f.fields) fields is.parts empty in
      let path : at (paths_in s) b ≡ MadeStruct of NoPath = is.path ∙ ap (λ (bs : List BindingId). MadeStruct of (at_all (paths_in s) bs)) bare in
      unit_struct of is.f is.found (subst (IsSpoken env rules) path (spoken_at b (subst IsThere (sym path) tt)))) is.parts
  bound_expr_so bound b o is = absurd is

  -- ---- statements

  bound_stmt_so : (bound : List ℕ) (b : BindingId) → IsReadyBind s bound (at (paths_in s) b) (slice_get s.bindings b.0) → AllSo (of_stmt own_operands (bound_stmt s bound b))
  bound_stmt_so bound b is =
      let e = bound_expr s bound b (slice_get s.bindings b.0) in
      let h = bound_expr_so bound b (slice_get s.bindings b.0) is in
      local_by (λ st. AllSo (of_stmt own_operands st)) (binds_list s b) b.0 e h (λ borrow call same. subst (λ x. AllSo (expr_operands x)) same h)

  result_so : (kind : ReturnKind) (r : Read) → So (read_operand r) → AllSo (of_stmt own_operands (result_stmt kind r))
  result_so return_kind.Plain r h = (h, tt)
  result_so return_kind.Option r h = (h, tt)
  result_so return_kind.Iterator r h = (h, tt)

  -- a test for a constant
  test_so : (source : BindingId) (c : Constraint) → IsConstant c → IsRuleTest set source c → So (written_test env c)
  test_so source (constraint.ConstBool val) is h = truth _ val (test_spoken env set rules source (constraint.ConstBool val) stand is h)
  test_so source (constraint.ConstInt val ty) is h = number ty val (written_test env (constraint.ConstInt val ty)) (test_spoken env set rules source (constraint.ConstInt val ty) stand is h) (test_there env (constraint.ConstInt val ty) is)
  test_so source (constraint.ConstPrim val) is h = named val (test_spoken env set rules source (constraint.ConstPrim val) stand is h)
  test_so source c is h = absurd is

  -- the pattern of a form has no constant
  named_so : (ty : Sym) (variant : Option Sym) (more : Bool) (binds : List TBind) → AllSo (pattern_operands (pattern_named env ty variant more binds))
  named_so ty (Some variant) more binds = tt
  named_so ty None more binds = tt

  pattern_so : (o : Option TPat) (pat : TPat) → o ≡ Some pat → AllSo (pattern_operands pat) → AllSo (pattern_operands (written_pattern o))
  pattern_so o pat e h = rw e h

  -- a value held against the pattern of a form
  form_so : (bound : List ℕ) (source : BindingId) (ty : TypeId) (c : Constraint) (places : List (Option BindingId)) → IsReady s bound source ty → ArmPattern env c places
      → AllSo (read_operand (written_read s bound true source) ∷ pattern_operands (written_pattern (pattern_of env c places)))
  form_so bound source ty c places ready a = (
    read_so true (is_reference_in s source) (written_operand s bound source) (ready_so bound source ty ready),
    pattern_so (pattern_of env c places) _ a.is (named_so a.f.ty a.f.variant (leaves_out (typed_fields env a.f.fields) places) a.binds),
  )

  -- what an arm tests, and what it tests it for
  arm_so : (bound : List ℕ) (source : BindingId) (over : Source) (c : Constraint) (places : List (Option BindingId)) (inside : Body) → IsReadyIn s bound source over → IsConstraintOver env c over → ArePlacesOf s source c places
      → IsRuleTest set source c → AllSo (own_operands (arm_stmt s bound source c places inside))
  arm_so bound source over (constraint.ConstBool val) places inside ready is at w =
      let v = over_value s bound source (constraint.ConstBool val) over (λ e. cc) ready is in
      (ready_so bound source v.ty v.ready, (test_so source (constraint.ConstBool val) tt w, tt))
  arm_so bound source over (constraint.ConstInt val ty) places inside ready is at w =
      let v = over_value s bound source (constraint.ConstInt val ty) over (λ e. cc) ready is in
      (ready_so bound source v.ty v.ready, (test_so source (constraint.ConstInt val ty) tt w, tt))
  arm_so bound source over (constraint.ConstPrim val) places inside ready is at w =
      let v = over_value s bound source (constraint.ConstPrim val) over (λ e. cc) ready is in
      (ready_so bound source v.ty v.ready, (test_so source (constraint.ConstPrim val) tt w, tt))
  arm_so bound source over (constraint.Variant of variant) places inside ready is at w =
      let v = over_value s bound source (constraint.Variant of variant) over (λ e. cc) ready is in
      form_so bound source v.ty (constraint.Variant of variant) places v.ready (arm_pattern s source v.ty (constraint.Variant of variant) places v.is at tt)
  arm_so bound source over (constraint.Struct of) places inside ready is at w =
      let v = over_value s bound source (constraint.Struct of) over (λ e. cc) ready is in
      form_so bound source v.ty (constraint.Struct of) places v.ready (arm_pattern s source v.ty (constraint.Struct of) places v.is at tt)
  arm_so bound source over constraint.Some places inside ready is at w =
      let v = over_option s bound source over ready is in
      (bound_so bound source v.1.bound', pattern_so (pattern_of env constraint.Some places) _ (some_made places at.0).1 tt)

  -- what a match of several arms reads
  match_so : (bound : List ℕ) (source : BindingId) (over : Source) (c : Constraint) → IsReadyIn s bound source over → IsConstraintOver env c over → So (read_operand (match_read s bound source c))
  match_so bound source over (constraint.ConstBool val) ready is = let v = over_value s bound source (constraint.ConstBool val) over (λ e. cc) ready is in ready_so bound source v.ty v.ready
  match_so bound source over (constraint.ConstInt val ty) ready is = let v = over_value s bound source (constraint.ConstInt val ty) over (λ e. cc) ready is in ready_so bound source v.ty v.ready
  match_so bound source over (constraint.ConstPrim val) ready is = let v = over_value s bound source (constraint.ConstPrim val) over (λ e. cc) ready is in ready_so bound source v.ty v.ready
  match_so bound source over (constraint.Variant of variant) ready is =
      let v = over_value s bound source (constraint.Variant of variant) over (λ e. cc) ready is in
      read_so true (is_reference_in s source) (written_operand s bound source) (ready_so bound source v.ty v.ready)
  match_so bound source over (constraint.Struct of) ready is =
      let v = over_value s bound source (constraint.Struct of) over (λ e. cc) ready is in
      read_so true (is_reference_in s source) (written_operand s bound source) (ready_so bound source v.ty v.ready)
  match_so bound source over constraint.Some ready is = let v = over_option s bound source over ready is in bound_so bound source v.1.bound'

  -- the pattern of one of them
  case_so : (source : BindingId) (over : Source) (c : Constraint) (places : List (Option BindingId)) → IsConstraintOver env c over → ArePlacesOf s source c places → IsRuleTest set source c → AllSo (pattern_operands (written_arm env c places))
  case_so source over (constraint.ConstBool val) places is at w = (test_so source (constraint.ConstBool val) tt w, tt)
  case_so source over (constraint.ConstInt val ty) places is at w = (test_so source (constraint.ConstInt val ty) tt w, tt)
  case_so source over (constraint.ConstPrim val) places is at w = (test_so source (constraint.ConstPrim val) tt w, tt)
  case_so source (AValue ty) (constraint.Variant of variant) places is at w =
      let a = arm_pattern s source ty (constraint.Variant of variant) places is at tt in
      pattern_so (pattern_of env (constraint.Variant of variant) places) _ a.is (named_so a.f.ty a.f.variant (leaves_out (typed_fields env a.f.fields) places) a.binds)
  case_so source (AnOption tys) (constraint.Variant of variant) places is at w = cc
  case_so source (AValue ty) (constraint.Struct of) places is at w =
      let a = arm_pattern s source ty (constraint.Struct of) places is at tt in
      pattern_so (pattern_of env (constraint.Struct of) places) _ a.is (named_so a.f.ty a.f.variant (leaves_out (typed_fields env a.f.fields) places) a.binds)
  case_so source (AnOption tys) (constraint.Struct of) places is at w = cc
  case_so source over constraint.Some places is at w = pattern_so (pattern_of env constraint.Some places) _ (some_made places at.0).1 tt

  -- so each of them
  cases_so : (source : BindingId) (over : Source) (arms : tree.Arms) → AreArmsOf s (IsRuleTest set) source over arms → AllSo (patterns_operands arms)
  cases_so source over tree.NoArm k = tt
  cases_so source over (tree.Arm pat inside arms) k =
      all_append So (pattern_operands pat) (patterns_operands arms) (subst (λ x. AllSo (pattern_operands x)) (sym k.0.is) (case_so source over k.0.c k.0.places k.0.over' k.0.parts k.0.tested)) (cases_so source over arms k.1)

  -- each operand that emission makes
  operands_made : EachMade own_operands So s (IsRuleTest set)
  operands_made = record {
    bound = bound_stmt_so;
    result = λ bound result h. result_so (kind_of t.kind) (written_read s bound false result) (read_so false (is_reference_in s result) (written_operand s bound result) (ready_so bound result t.ret_ty h));
    stop = λ inside limit. tt;
    split = λ inside within. tt;
    log = λ line. tt;
    equal = λ bound a b ty inside h k. (ready_so bound a ty h, (ready_so bound b ty k, tt));
    arm = arm_so;
    several = λ bound source over c arms ready is k. (match_so bound source over c ready is, cases_so source over arms k);
    loop = λ list item inside. tt;
  }

  -- ---- functions

  mark_so : (mark : Option (Option (List ℕ × List ℕ))) → AllSo (body_operands (tail_body mark))
  mark_so None = tt
  mark_so (Some mark) = tt

  tail_so : (kind : ReturnKind) (name place : List ℕ) (b : Block) → AllSo (body_operands (tail_of kind name place b))
  tail_so kind name place b = one (ends_in_return b) refl
    where
      one : (x : Bool) → ends_in_return b ≡ x → AllSo (body_operands (tail_of kind name place b))
      one true e = rw e tt
      one false e = rw e (mark_so (mark_of kind name place))

  one_function : (f g : Function) → Some f ≡ Some g → f ≡ g
  one_function f g e = cc

  -- each operand of the function of a block that tests what the rules test
  pub function_so : (options : CodegenOptions) (files : Files) (b : Block) (f : Function) → IsLawfulBlock s b → TestsRules set b → term_function options files s b ≡ Some f → AllSo (body_operands f.body)
  function_so options files b f lawful tests given =
      let d = completed s [] b in
      subst (λ (g : Function). AllSo (body_operands g.body)) (one_function (function_of options files env t set.bindings b) f (sym (function_made options files env t set.bindings b lawful) ∙ given))
      (block_holds own_operands So s (IsRuleTest set) operands_made (manner_of options files s) d [] [] (tail_in files env t b) (completed_ready s b lawful)
      (tests_all set d (completed_tests set s [] b tests)) (tail_so _ _ _ b))
