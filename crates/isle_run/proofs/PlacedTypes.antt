-- Constants stand at places of their own types in the function of a lawful block.
use Rattle.std.proofs.Common.{◌≡◌, ℕ, zero, suc, ◌+◌, ◌≤◌, length, arith, List, [], ◌∷◌, ◌++◌, map, Bool, true, false, Option, Some, None, option_map, refl, sym, ap, ◌∙◌, subst}
use Rattle.std.specs.Prelude.{IsSomeAnd, slice_get}
use Rattle.std.proofs.lemmas.Option.{slice_get-map}
use Rattle.isle_core.specs.declared.options.CodegenOptions.{CodegenOptions}
use Rattle.isle_core.specs.declared.BindingId.{BindingId}
use Rattle.isle_core.specs.declared.Sym.{Sym}
use Rattle.isle_core.specs.declared.TypeId.{TypeId}
use Rattle.isle_core.specs.declared.VariantId.{VariantId}
use Rattle.isle_core.specs.declared.files.Files.{Files}
use Rattle.isle_core.specs.declared.rule_sets.Binding.{Binding}
use Rattle.isle_core.specs.declared.rule_sets.Binding.TheVariants as binding
use Rattle.isle_core.specs.declared.rule_sets.Constraint.{Constraint}
use Rattle.isle_core.specs.declared.rule_sets.Constraint.TheVariants as constraint
use Rattle.isle_core.specs.declared.types.ReturnKind.{ReturnKind}
use Rattle.isle_core.specs.declared.types.ReturnKind.TheVariants as kind
use Rattle.isle_core.specs.declared.types.Term.{Term}
use Rattle.isle_core.specs.ArmPlaces.{AreParts, ArePlacesOf, bound_within}
use Rattle.isle_core.specs.Bindable.{bound_by}
use Rattle.isle_core.specs.Block as block
use Rattle.isle_core.specs.Block.{Block, Stop, Step, Control}
use Rattle.isle_core.specs.BlockLawful.{Source, IsConstraintOver, IsLawfulBlock}
use Rattle.isle_core.specs.Calling.{kind_of}
use Rattle.isle_core.specs.ConstraintType.{IsConstraintOf}
use Rattle.isle_core.specs.Form.{Form, form, form_types}
use Rattle.isle_core.specs.HasType.{typed_fields}
use Rattle.isle_core.specs.Making.{MakesVariant, MakesStruct}
use Rattle.isle_core.specs.Path.{Path, ConstBool, ConstInt, ConstPrim, VariantField, StructField, Chosen, Inner, at}
use Rattle.isle_core.specs.PathType.{IsPathOf}
use Rattle.isle_core.specs.Rule.{Environment}
use Rattle.isle_core.specs.Setting.{Setting, setting, gives_several, paths_in}
use Rattle.isle_core.specs.Terms.{sym_text}
use Rattle.isle_core.specs.Value.{Value}
use Rattle.isle_core.proofs.BindingPaths.{path_at}
use Rattle.isle_tree.specs.declared.tree.Operand.{Operand}
use Rattle.isle_tree.specs.declared.tree.Read.{Read}
use Rattle.isle_tree.specs.declared.tree.Read.TheVariants as read
use Rattle.isle_tree.specs.declared.tree.TBind.{TBind}
use Rattle.isle_tree.specs.declared.tree.TCall.{TCall}
use Rattle.isle_tree.specs.declared.tree.TExpr.TheVariants as expr
use Rattle.isle_tree.specs.declared.tree.TPat.{TPat}
use Rattle.isle_tree.specs.declared.tree.TPat.TheVariants as pattern
use Rattle.isle_tree.specs.Program.{Stmt, IfEq, IfLet, Loop, Return, Split, Body, Done, Then, Function, Program}
use Rattle.isle_simulation.specs.Completed.{completed}
use Rattle.isle_simulation.specs.Operands.{in_place, is_bound}
use Rattle.isle_simulation.specs.Patterns.{bind_before, field_binds, form_pattern, leaves_out, pattern_named, pattern_of, some_pattern}
use Rattle.isle_simulation.specs.References.{is_reference_in, read_as}
use Rattle.isle_simulation.specs.RustNames.{HasRustNames}
use Rattle.isle_simulation.specs.Statements.{binds_list, list_local, looped_local}
use Rattle.isle_simulation.specs.Manner.{Manner, manner_of, has_closure, closed_if, arm_manner}
use Rattle.isle_simulation.specs.Telling.{Telling}
use Rattle.isle_simulation.specs.TermFunction.{ends_in_return, mark_of, tail_body, tail_of, tail_in, term_function}
use Rattle.isle_simulation.specs.TypeTexts.{type_text, parameter}
use Rattle.isle_simulation.proofs.ArmsRun.{arm_pattern}
use Rattle.isle_simulation.proofs.CompletedReady.{completed_ready}
use Rattle.isle_simulation.proofs.LocalStmts.{local_by}
use Rattle.isle_simulation.proofs.Made.{over_value, over_option, function_made}
use Rattle.isle_simulation.proofs.PathTypes.{one_type}
use Rattle.isle_simulation.proofs.Ready.{IsSpelled, IsReady, IsReadyIn, IsReadyBind, AreReadyBinds, IsReadyFrom, IsReadyControl, AreReadyArms}
use Rattle.isle_core.proofs.OptionLaws.{some_same}
use Rattle.isle_simulation.proofs.Written.{arm_body, written, written_test, written_operand, written_read, written_pattern, written_arm, match_read, told_each, written_list, bound_expr, bound_stmt, lets, result_stmt, stop_before, told_before, told_body, told_control, function_of}
use Rattle.isle_places.specs.DeclaredTypes.{Asked, These, Anything, Nowhere as NoFields, variant_asked, struct_asked}
use Rattle.isle_places.specs.Places as placing
use Rattle.isle_places.specs.Places.{Place, expr_places, plain_told, option_told, both_places, told_after, stmt_places, body_places, places}
use Rattle.isle_places.specs.Signatures.{signature_of}
use Rattle.isle_places.specs.Told.{Told, AValue, AnOption, ATuple, AnOptionalTuple, AList, AListOfTuples, Untold, Tells, typed_told, within, look_told, list_told, operand_of, operand_told, expr_told, field_told, binds_told}
use Rattle.isle_run.proofs.ToldTypes.{IsRight, right_over, within_right, item_right, place_right, look_right}
use Rattle.isle_run.proofs.PlacedExprs as exprs
use Rattle.isle_core.proofs.AllLaws.{all_append}
use Rattle.isle_run.proofs.PlacedExprs.{TellsTypes, AreFieldsTold, named_enum, named_struct, variant_named, struct_unnamed}

module _ (env : Environment) (t : Term) (bs : List Binding) (p : Program) (Named : List ℕ → Value → Type 0) (names : HasRustNames env) (tells_types : TellsTypes env p Named) (f : Function) (params : f.params ≡ map (parameter env) t.arg_tys) (result : f.result ≡ type_text env t.ret_ty) where
  abbrev s : Setting
  s = setting env t bs

  abbrev path : ℕ → Path
  path = exprs.path env t bs p Named names tells_types f params result

  abbrev Right : Tells → Type 0
  Right = exprs.Right env t bs p Named names tells_types f params result

  abbrev Fits : Operand → List ℕ → Type 0
  Fits = exprs.Fits env t bs p Named names tells_types f params result

  abbrev PlacesFit : List Place → Type 0
  PlacesFit = exprs.PlacesFit env t bs p Named names tells_types f params result

  -- ---- of what is computed

  both : (xs ys : List Place) → PlacesFit xs → PlacesFit ys → PlacesFit (xs ++ ys)
  both = exprs.both env t bs p Named names tells_types f params result

  place_fits : (n : ℕ) (q : Path) (ty : TypeId) → IsPathOf env t q ty → IsSpelled q → Fits (written (in_place env n q)) (type_text env ty)
  place_fits = exprs.place_fits env t bs p Named names tells_types f params result

  ready_fits : (bound : List ℕ) (b : BindingId) (ty : TypeId) → IsReady s bound b ty → Fits (written_operand s bound b) (type_text env ty)
  ready_fits = exprs.ready_fits env t bs p Named names tells_types f params result

  read_fits : (bound : List ℕ) (wanted : Bool) (b : BindingId) (ty : TypeId) → IsReady s bound b ty → Fits (operand_of (written_read s bound wanted b)) (type_text env ty)
  read_fits = exprs.read_fits env t bs p Named names tells_types f params result

  bound_right : (bound : List ℕ) (tells : Tells) (b : BindingId) → Right tells → is_bound bound b ≡ true → IsRight env t (at (paths_in s) b) (operand_told f tells (written_operand s bound b))
  bound_right = exprs.bound_right env t bs p Named names tells_types f params result

  ready_right : (bound : List ℕ) (tells : Tells) (b : BindingId) (ty : TypeId) → Right tells → IsReady s bound b ty → IsRight env t (at (paths_in s) b) (operand_told f tells (written_operand s bound b))
  ready_right = exprs.ready_right env t bs p Named names tells_types f params result

  untold_fits : (o : Operand) → PlacesFit (placing.at o Untold)
  untold_fits = exprs.untold_fits env t bs p Named names tells_types f params result

  value_fits : (o : Operand) (ty : List ℕ) → Fits o ty → PlacesFit (placing.at o (AValue ty))
  value_fits = exprs.value_fits env t bs p Named names tells_types f params result

  told_fits : (o : Operand) (q : Path) (x : Told) (ty : TypeId) → IsRight env t q x → IsPathOf env t q ty → Fits o (type_text env ty) → PlacesFit (placing.at o x)
  told_fits = exprs.told_fits env t bs p Named names tells_types f params result

  bound_fits : (bound : List ℕ) (b : BindingId) (o : Option Binding) → IsReadyBind s bound (at (paths_in s) b) o → PlacesFit (expr_places p (bound_expr s bound b o))
  bound_fits = exprs.bound_fits env t bs p Named names tells_types f params result

  bound_told_right : (bound : List ℕ) (tells : Tells) (b : BindingId) (o : Option Binding) → Right tells → IsReadyBind s bound (at (paths_in s) b) o → IsRight env t (at (paths_in s) b) (expr_told p f tells (bound_expr s bound b o))
  bound_told_right = exprs.bound_told_right env t bs p Named names tells_types f params result

  bound_list_right : (bound : List ℕ) (b : BindingId) (o : Option Binding) (borrow : Bool) (call : TCall) → IsReadyBind s bound (at (paths_in s) b) o → bound_expr s bound b o ≡ expr.Call borrow call → IsRight env t (at (paths_in s) b) (list_told (signature_of p call.callee))
  bound_list_right = exprs.bound_list_right env t bs p Named names tells_types f params result

  -- ---- statements

  -- wherever what is told before is right
  abbrev BodyFits : Body → Type 0
  BodyFits b = (tells : Tells) → Right tells → PlacesFit (body_places p f tells b)

  -- and what is told after it is, too
  abbrev StmtFits : Tells → Stmt → Type 0
  StmtFits tells st = PlacesFit (stmt_places p f tells st) × Right (told_after p f tells st)

  told_more : (tells : Tells) (n : ℕ) (x : Told) → Right tells → IsRight env t (path n) x → Right (tells ++ (n, x) ∷ [])
  told_more tells n x r h = all_append (λ (y : ℕ × Told). IsRight env t (path y.0) y.1) tells ((n, x) ∷ []) r (h, tt)

  then_fits : (st : Stmt) (more : Body) → ((tells : Tells) → Right tells → StmtFits tells st) → BodyFits more → BodyFits (Then st more)
  then_fits st more h k = λ tells r. both (stmt_places p f tells st) (body_places p f (told_after p f tells st) more) (h tells r).0 (k (told_after p f tells st) (h tells r).1)

  bound_stmt_fits : (bound : List ℕ) (b : BindingId) (tells : Tells) → Right tells → IsReadyBind s bound (at (paths_in s) b) (slice_get s.bindings b.0) → StmtFits tells (bound_stmt s bound b)
  bound_stmt_fits bound b tells r is =
      let e = bound_expr s bound b (slice_get s.bindings b.0) in
      let h = bound_fits bound b (slice_get s.bindings b.0) is in
      local_by (StmtFits tells) (binds_list s b) b.0 e (h, told_more tells b.0 (expr_told p f tells e) r (bound_told_right bound tells b (slice_get s.bindings b.0) r is))
      (λ borrow call same. (subst (λ x. PlacesFit (expr_places p x)) same h, told_more tells b.0 (list_told (signature_of p call.callee)) r (bound_list_right bound b (slice_get s.bindings b.0) borrow call is same)))

  lets_fit : (bound : List ℕ) (binds : List BindingId) (more : Body) → AreReadyBinds s bound binds → BodyFits more → BodyFits (lets s bound binds more)
  lets_fit bound [] more h k = k
  lets_fit bound (b ∷ binds) more h k = then_fits (bound_stmt s bound b) (lets s (bound ++ b.0 ∷ []) binds more) (λ tells r. bound_stmt_fits bound b tells r h.0) (lets_fit (bound ++ b.0 ∷ []) binds more h.1 k)

  -- a result of the function's type, or of an option of it
  result_fits : (k : ReturnKind) (r : Read) (tells : Tells) → Right tells → Fits (operand_of r) f.result → StmtFits tells (result_stmt k r)
  result_fits kind.Plain r tells right h = (one f.kind, right)
    where
      one : (of : ReturnKind) → PlacesFit (placing.at (operand_of r) (plain_told of f.result))
      one kind.Plain = value_fits (operand_of r) f.result h
      one kind.Option = untold_fits (operand_of r)
      one kind.Iterator = untold_fits (operand_of r)
  result_fits kind.Option r tells right h = (one f.kind, right)
    where
      one : (of : ReturnKind) → PlacesFit (placing.at (operand_of r) (option_told of f.result))
      one kind.Plain = untold_fits (operand_of r)
      one kind.Option = value_fits (operand_of r) f.result h
      one kind.Iterator = untold_fits (operand_of r)
  result_fits kind.Iterator r tells right h = (value_fits (operand_of r) f.result h, right)

  -- a test of two operands of one type
  equal_fits : (a b : Operand) (q q' : Path) (ty : TypeId) (tells : Tells) (inside : Body) → Right tells → IsRight env t q (operand_told f tells a) → IsRight env t q' (operand_told f tells b) → IsPathOf env t q ty → IsPathOf env t q' ty
      → Fits a (type_text env ty) → Fits b (type_text env ty) → BodyFits inside → StmtFits tells (IfEq a b inside)
  equal_fits a b q q' ty tells inside r h k path_a path_b fits_a fits_b i = (
    both (both_places f tells a b) (body_places p f tells inside)
        (both (placing.at a (operand_told f tells b)) (placing.at b (operand_told f tells a)) (told_fits a q' (operand_told f tells b) ty k path_b fits_a) (told_fits b q (operand_told f tells a) ty h path_a fits_b)) (i tells r),
    r,
  )

  -- ---- tests for constants

  test_fits : (bound : List ℕ) (tells : Tells) (source : BindingId) (ty : TypeId) (o : Operand) (q : Path) (inside : Body) → Right tells → IsReady s bound source ty → IsPathOf env t q ty → IsSpelled q → o ≡ written (in_place env 0 q)
      → BodyFits inside → StmtFits tells (IfEq (written_operand s bound source) o inside)
  test_fits bound tells source ty o q inside r ready is spells e i =
      equal_fits (written_operand s bound source) o (at (paths_in s) source) q ty tells inside r (ready_right bound tells source ty r ready) (subst (λ (x : Operand). IsRight env t q (operand_told f tells x)) (sym e) (place_right env t f params tells 0 q spells)) ready.path is
      (ready_fits bound source ty ready) (subst (λ (x : Operand). Fits x (type_text env ty)) (sym e) (place_fits 0 q ty is spells)) i

  -- ---- patterns

  -- of the fields that places bind, from the i-th on
  field_types_at : (g : Form) (i : ℕ) (x : List ℕ × TypeId) (of : TypeId) → slice_get (typed_fields env g.fields) i ≡ Some x → slice_get (form_types env g) i ≡ Some of → x.1 ≡ of
  field_types_at g i x of e k = one (sym (ap (option_map (λ (y : List ℕ × TypeId). y.1)) e) ∙ sym (slice_get-map (λ (y : List ℕ × TypeId). y.1) (typed_fields env g.fields) i) ∙ k)
    where
      one : Some x.1 ≡ Some of → x.1 ≡ of
      one l = cc

  field_right : (q : Path) (asked : Asked) (name : List ℕ) → ((ty : List ℕ) → field_told asked name ≡ AValue ty → (of : TypeId) → IsPathOf env t q of → ty ≡ type_text env of) → IsRight env t q (field_told asked name)
  field_right q asked name h = one (field_told asked name) (λ ty e of k. h ty e of k) (untold asked)
    where
      -- a field's type or nothing is told
      IsField : Told → Type 0
      IsField (AValue ty) = Unit {0}
      IsField Untold = Unit {0}
      IsField x = ⊥

      typed : (o : Option (List ℕ)) → IsField (typed_told o)
      typed None = tt
      typed (Some ty) = tt

      untold : (a : Asked) → IsField (field_told a name)
      untold (These fs) = typed _
      untold Anything = tt
      untold NoFields = tt

      one : (x : Told) → ((ty : List ℕ) → x ≡ AValue ty → (of : TypeId) → IsPathOf env t q of → ty ≡ type_text env of) → IsField x → IsRight env t q x
      one (AValue ty) k i = k ty refl
      one Untold k i = tt
      one (AnOption ty) k i = absurd i
      one (ATuple tys) k i = absurd i
      one (AnOptionalTuple tys) k i = absurd i
      one (AList ty) k i = absurd i
      one (AListOfTuples tys) k i = absurd i

  -- the form of what a constraint tests for
  some_form : (o : Option Form) → IsSomeAnd o (λ (g : Form). Unit {0}) → (g : Form) × (o ≡ Some g)
  some_form None h = absurd h
  some_form (Some g) h = (g, refl)

  -- the pattern of a form, if there is one
  form_binds : (g : Form) (places : List (Option BindingId)) (o : Option TPat) (pat : TPat) → o ≡ form_pattern env (Some g) places → o ≡ Some pat
      → (binds : List TBind) × (field_binds env (typed_fields env g.fields) places ≡ Some binds) × (o ≡ Some (pattern_named env g.ty g.variant (leaves_out (typed_fields env g.fields) places) binds))
  form_binds g places o pat e k = one (field_binds env (typed_fields env g.fields) places) refl
    where
      one : (b : Option (List TBind)) → field_binds env (typed_fields env g.fields) places ≡ b
          → (binds : List TBind) × (field_binds env (typed_fields env g.fields) places ≡ Some binds) × (o ≡ Some (pattern_named env g.ty g.variant (leaves_out (typed_fields env g.fields) places) binds))
      one None is =
          let none : o ≡ None = e ∙ ap (option_map (pattern_named env g.ty g.variant (leaves_out (typed_fields env g.fields) places))) is in
          let bad : None ≡ Some pat = sym none ∙ k in
          absurd cc
      one (Some binds) is = (binds, is, e ∙ ap (option_map (pattern_named env g.ty g.variant (leaves_out (typed_fields env g.fields) places))) is)

  one_bind : (b : TBind) (o : Option (List TBind)) (binds : List TBind) → bind_before b o ≡ Some binds → (more : List TBind) × (o ≡ Some more) × (b ∷ more ≡ binds)
  one_bind b None binds e = absurd cc
  one_bind b (Some more) binds e = (more, refl, cc)

  module _ (asked : Asked) (part : ℕ → Binding) (over : ℕ → Path) (g : Form) (paths : (i : ℕ) (b : BindingId) → slice_get s.bindings b.0 ≡ Some (part i) → IsRight env t (over i) Untold → (x : Told) → IsRight env t (over i) x → IsRight env t (at (paths_in s) b) x)
      (typed : (i : ℕ) (of : TypeId) → IsPathOf env t (over i) of → slice_get (form_types env g) i ≡ Some of) where
    abbrev all : List (List ℕ × TypeId)
    all = typed_fields env g.fields

    next_there : (i : ℕ) (x : List ℕ × TypeId) (fields : List (List ℕ × TypeId)) → ((j : ℕ) → slice_get (x ∷ fields) j ≡ slice_get all (i + j)) → (j : ℕ) → slice_get fields j ≡ slice_get all (suc i + j)
    next_there i x fields h j = h (suc j) ∙ ap (slice_get all) moved
      where
        moved : i + suc j ≡ suc i + j
        moved = omega arith

    first_there : (i : ℕ) (x : List ℕ × TypeId) (fields : List (List ℕ × TypeId)) → ((j : ℕ) → slice_get (x ∷ fields) j ≡ slice_get all (i + j)) → slice_get all i ≡ Some x
    first_there i x fields h = sym (h zero ∙ ap (slice_get all) none)
      where
        none : i + zero ≡ i
        none = omega arith

    binds_right : (i : ℕ) (fields : List (List ℕ × TypeId)) (places : List (Option BindingId)) (binds : List TBind) → AreFieldsTold env asked fields → ((j : ℕ) → slice_get fields j ≡ slice_get all (i + j)) → AreParts s part i places
        → field_binds env fields places ≡ Some binds → Right (binds_told asked binds)
    binds_right i fields [] binds told there parts e = let none : [] ≡ binds = cc in subst (λ (bs : List TBind). Right (binds_told asked bs)) none tt
    binds_right i (x ∷ fields) (None ∷ places) binds told there parts e = binds_right (suc i) fields places binds told.1 (next_there i x fields there) parts.1 e
    binds_right i (x ∷ fields) (Some b ∷ places) binds told there parts e =
        let m = one_bind _ (field_binds env fields places) binds e in
        subst (λ (bs : List TBind). Right (binds_told asked bs)) m.2 (
          paths i b parts.0 tt (field_told asked x.0)
              (field_right (over i) asked x.0 (λ ty k of h. told.0 ty k ∙ ap (type_text env) (field_types_at g i x of (first_there i x fields there) (typed i of h)))),
          binds_right (suc i) fields places m.0 told.1 (next_there i x fields there) parts.1 m.1,
        )
    binds_right i [] (b ∷ places) binds told there parts e = absurd cc

  -- all of a list are those from the first on
  from_the_first : (fields : List (List ℕ × TypeId)) (j : ℕ) → slice_get fields j ≡ slice_get fields (zero + j)
  from_the_first fields j = ap (slice_get fields) same
    where
      same : j ≡ zero + j
      same = omega arith

  -- a match of a form, which binds fields
  form_arm : (bound : List ℕ) (tells : Tells) (source : BindingId) (ty : TypeId) (g : Form) (binds : List TBind) (more : Bool) (o : Option TPat) (inside : Body) → Right tells → IsReady s bound source ty → o ≡ Some (pattern_named env g.ty g.variant more binds)
      → sym_text env g.ty ≡ type_text env ty → ((name : Sym) → g.variant ≡ Some name → Right (binds_told (variant_asked p.types (sym_text env g.ty) (sym_text env g.ty) (sym_text env name)) binds))
      → (g.variant ≡ None → Right (binds_told (struct_asked p.types (sym_text env g.ty) (sym_text env g.ty)) binds)) → BodyFits inside → StmtFits tells (IfLet (written_pattern o) (written_read s bound true source) inside)
  form_arm bound tells source ty g binds more o inside r ready e name in_variant in_struct i =
      rw e (one g.variant in_variant in_struct)
    where
      here : PlacesFit (placing.at (operand_of (written_read s bound true source)) (AValue (sym_text env g.ty)))
      here = value_fits (operand_of (written_read s bound true source)) (sym_text env g.ty) (subst (Fits (operand_of (written_read s bound true source))) (sym name) (read_fits bound true source ty ready))

      inner : (bound_now : Tells) → Right bound_now → PlacesFit (body_places p f (tells ++ bound_now) inside)
      inner bound_now h = i (tells ++ bound_now) (all_append (λ (y : ℕ × Told). IsRight env t (path y.0) y.1) tells bound_now r h)

      one : (v : Option Sym) → ((n : Sym) → v ≡ Some n → Right (binds_told (variant_asked p.types (sym_text env g.ty) (sym_text env g.ty) (sym_text env n)) binds))
          → (v ≡ None → Right (binds_told (struct_asked p.types (sym_text env g.ty) (sym_text env g.ty)) binds)) → StmtFits tells (IfLet (pattern_named env g.ty v more binds) (written_read s bound true source) inside)
      one (Some n) h k = (both _ _ here (inner (binds_told (variant_asked p.types (sym_text env g.ty) (sym_text env g.ty) (sym_text env n)) binds) (h n refl)), r)
      one None h k = (both _ _ here (inner (binds_told (struct_asked p.types (sym_text env g.ty) (sym_text env g.ty)) binds) (k refl)), r)

  same_form : (a b : Form) → Some a ≡ Some b → a ≡ b
  same_form a b e = cc

  types_at : (o : Option Form) (g : Form) (i : ℕ) (of : TypeId) → o ≡ Some g → IsSomeAnd o (λ (x : Form). slice_get (form_types env x) i ≡ Some of) → slice_get (form_types env g) i ≡ Some of
  types_at None g i of e h = absurd h
  types_at (Some x) g i of e h = subst (λ (y : Form). slice_get (form_types env y) i ≡ Some of) (same_form x g e) h

  variant_arm : (bound : List ℕ) (tells : Tells) (source : BindingId) (ty of : TypeId) (variant : VariantId) (places : List (Option BindingId)) (pat : TPat) (inside : Body) → Right tells → IsReady s bound source ty
      → IsConstraintOf env (constraint.Variant of variant) ty → AreParts s (λ i. binding.MatchVariant source variant (record { 0 = i })) 0 places → pattern_of env (constraint.Variant of variant) places ≡ Some pat → BodyFits inside
      → StmtFits tells (IfLet (written_pattern (pattern_of env (constraint.Variant of variant) places)) (written_read s bound true source) inside)
  variant_arm bound tells source ty of variant places pat inside r ready is parts e i =
      let g = some_form (form env (MakesVariant of variant)) is.1 in
      let b = form_binds g.0 places (pattern_of env (constraint.Variant of variant) places) pat (ap (λ y. form_pattern env y places) g.1) e in
      let q = at (paths_in s) source in
      form_arm bound tells source ty g.0 b.0 _ (pattern_of env (constraint.Variant of variant) places) inside r ready b.2 (named_enum env (slice_get env.types.types of.0) variant g.0 g.1 ∙ ap (type_text env) is.0)
      (λ name k. binds_right (variant_asked p.types (sym_text env g.0.ty) (sym_text env g.0.ty) (sym_text env name)) (λ j. binding.MatchVariant source variant (record { 0 = j })) (λ j. VariantField variant j q) g.0
      (λ j x at_x u y h. right_over env t (at (paths_in s) x) (VariantField variant j q) y (λ has. path_at s.bindings x (binding.MatchVariant source variant (record { 0 = j })) at_x has) h)
      (λ j x h. types_at (form env (MakesVariant h.0 variant)) g.0 j x (ap (λ y. form env (MakesVariant y variant)) (one_type env t q h.0 ty h.1 ready.path ∙ sym is.0) ∙ g.1) h.2)
      0 (typed_fields env g.0.fields) places b.0 (tells_types.variants of variant g.0 name g.1 k) (from_the_first (typed_fields env g.0.fields)) parts b.1)
      (λ none. absurd (variant_named (slice_get env.types.types of.0) variant g.0 g.1 none)) i

  struct_arm : (bound : List ℕ) (tells : Tells) (source : BindingId) (ty of : TypeId) (places : List (Option BindingId)) (pat : TPat) (inside : Body) → Right tells → IsReady s bound source ty
      → IsConstraintOf env (constraint.Struct of) ty → AreParts s (λ i. binding.ExtractStruct source (record { 0 = i })) 0 places → pattern_of env (constraint.Struct of) places ≡ Some pat → BodyFits inside
      → StmtFits tells (IfLet (written_pattern (pattern_of env (constraint.Struct of) places)) (written_read s bound true source) inside)
  struct_arm bound tells source ty of places pat inside r ready is parts e i =
      let g = some_form (form env (MakesStruct of)) is.1 in
      let b = form_binds g.0 places (pattern_of env (constraint.Struct of) places) pat (ap (λ y. form_pattern env y places) g.1) e in
      let q = at (paths_in s) source in
      form_arm bound tells source ty g.0 b.0 _ (pattern_of env (constraint.Struct of) places) inside r ready b.2 (named_struct env (slice_get env.types.types of.0) g.0 g.1 ∙ ap (type_text env) is.0)
      (λ name k. absurd (struct_unnamed (slice_get env.types.types of.0) g.0 name g.1 k))
      (λ none. binds_right (struct_asked p.types (sym_text env g.0.ty) (sym_text env g.0.ty)) (λ j. binding.ExtractStruct source (record { 0 = j })) (λ j. StructField j q) g.0
      (λ j x at_x u y h. right_over env t (at (paths_in s) x) (StructField j q) y (λ has. path_at s.bindings x (binding.ExtractStruct source (record { 0 = j })) at_x has) h)
      (λ j x h. types_at (form env (MakesStruct h.0)) g.0 j x (ap (λ y. form env (MakesStruct y)) (one_type env t q h.0 ty h.1 ready.path ∙ sym is.0) ∙ g.1) h.2)
      0 (typed_fields env g.0.fields) places b.0 (tells_types.structs of g.0 g.1) (from_the_first (typed_fields env g.0.fields)) parts b.1) i

  -- a match of an option, which binds what is within
  some_arm : (bound : List ℕ) (tells : Tells) (source : BindingId) (places : List (Option BindingId)) (inside : Body) → Right tells → is_bound bound source ≡ true → length places ≤ 1 → AreParts s (λ i. binding.MatchSome source) 0 places → BodyFits inside
      → StmtFits tells (IfLet (written_pattern (some_pattern places)) (read.Plain (written_operand s bound source)) inside)
  some_arm bound tells source [] inside r is le parts i = (both _ _ (untold_fits (written_operand s bound source)) (i (tells ++ []) (all_append (λ (y : ℕ × Told). IsRight env t (path y.0) y.1) tells [] r tt)), r)
  some_arm bound tells source (None ∷ []) inside r is le parts i = (both _ _ (untold_fits (written_operand s bound source)) (i (tells ++ []) (all_append (λ (y : ℕ × Told). IsRight env t (path y.0) y.1) tells [] r tt)), r)
  some_arm bound tells source (Some b ∷ []) inside r is le parts i =
      let x = operand_told f tells (written_operand s bound source) in
      let h = right_over env t (at (paths_in s) b) (Inner (at (paths_in s) source)) (within x) (λ has. path_at s.bindings b (binding.MatchSome source) parts.0 has) (within_right env t (at (paths_in s) source) x (bound_right bound tells source r is)) in
      (both _ _ (untold_fits (written_operand s bound source)) (i (tells ++ (b.0, within x) ∷ []) (told_more tells b.0 (within x) r h)), r)
  some_arm bound tells source (b ∷ c ∷ places) inside r is le parts i = absurd (omega (arith, le))

  -- ---- several arms

  read_over : (wanted is : Bool) (o : Operand) → operand_of (read_as wanted is o) ≡ o
  read_over true true o = refl
  read_over true false o = refl
  read_over false true o = refl
  read_over false false o = refl

  -- what a match reads is what its source stands for
  match_operand : (bound : List ℕ) (source : BindingId) (c : Constraint) → operand_of (match_read s bound source c) ≡ written_operand s bound source
  match_operand bound source (constraint.Variant of variant) = read_over true (is_reference_in s source) (written_operand s bound source)
  match_operand bound source (constraint.Struct of) = read_over true (is_reference_in s source) (written_operand s bound source)
  match_operand bound source (constraint.ConstBool val) = refl
  match_operand bound source (constraint.ConstInt val of) = refl
  match_operand bound source (constraint.ConstPrim val) = refl
  match_operand bound source constraint.Some = refl

  -- how it is read is the same for the places of an arm
  plain_places : (tells : Tells) (pat : TPat) (q : Read) (inside : Body) → placing.arm_places p f tells pat q inside ≡ placing.arm_places p f tells pat (read.Plain (operand_of q)) inside
  plain_places tells (pattern.Const o) q inside = refl
  plain_places tells (pattern.Variant ty variant binds more) q inside = refl
  plain_places tells (pattern.Struct ty binds more) q inside = refl
  plain_places tells (pattern.Some local) q inside = refl

  read_another : (tells : Tells) (pat : TPat) (q r : Read) (inside : Body) → operand_of q ≡ operand_of r → PlacesFit (placing.arm_places p f tells pat q inside) → PlacesFit (placing.arm_places p f tells pat r inside)
  read_another tells pat q r inside e h =
      subst PlacesFit (plain_places tells pat q inside ∙ ap (λ (o : Operand). placing.arm_places p f tells pat (read.Plain o) inside) e ∙ sym (plain_places tells pat r inside)) h

  constant_case : (bound : List ℕ) (tells : Tells) (source : BindingId) (ty : TypeId) (o : Operand) (q : Path) (inside : Body) → Right tells → IsReady s bound source ty → IsPathOf env t q ty → IsSpelled q → o ≡ written (in_place env 0 q)
      → BodyFits inside → PlacesFit (placing.arm_places p f tells (pattern.Const o) (read.Plain (written_operand s bound source)) inside)
  constant_case bound tells source ty o q inside r ready is spells e i =
      let other = written_operand s bound source in
      let right = subst (λ (x : Operand). IsRight env t q (operand_told f tells x)) (sym e) (place_right env t f params tells 0 q spells) in
      let fits = subst (λ (x : Operand). Fits x (type_text env ty)) (sym e) (place_fits 0 q ty is spells) in
      both (both_places f tells o other) (body_places p f (tells ++ []) inside)
      (both (placing.at o (operand_told f tells other)) (placing.at other (operand_told f tells o)) (told_fits o (at (paths_in s) source) (operand_told f tells other) ty (ready_right bound tells source ty r ready) ready.path fits)
      (told_fits other q (operand_told f tells o) ty right is (ready_fits bound source ty ready)))
      (i (tells ++ []) (all_append (λ (y : ℕ × Told). IsRight env t (path y.0) y.1) tells [] r tt))

  -- one of several arms
  case_fits : (bound : List ℕ) (tells : Tells) (source : BindingId) (over : Source) (c : Constraint) (places : List (Option BindingId)) (q : Read) (inside : Body) → operand_of q ≡ written_operand s bound source → Right tells → IsReadyIn s bound source over
      → IsConstraintOver env c over → ArePlacesOf s source c places → BodyFits inside → PlacesFit (placing.arm_places p f tells (written_arm env c places) q inside)
  case_fits bound tells source over (constraint.ConstBool val) places q inside e r ready is parts i =
      let c = constraint.ConstBool val in
      let v = over_value s bound source c over (λ e. cc) ready is in
      read_another tells (pattern.Const (written_test env c)) (read.Plain (written_operand s bound source)) q inside (sym e) (constant_case bound tells source v.ty (written_test env c) (ConstBool v.ty val) inside r v.ready (refl, v.is) tt refl i)
  case_fits bound tells source over (constraint.ConstInt val of) places q inside e r ready is parts i =
      let c = constraint.ConstInt val of in
      let v = over_value s bound source c over (λ e. cc) ready is in
      read_another tells (pattern.Const (written_test env c)) (read.Plain (written_operand s bound source)) q inside (sym e) (constant_case bound tells source v.ty (written_test env c) (ConstInt of val) inside r v.ready v.is tt refl i)
  case_fits bound tells source over (constraint.ConstPrim val) places q inside e r ready is parts i =
      let c = constraint.ConstPrim val in
      let v = over_value s bound source c over (λ e. cc) ready is in
      read_another tells (pattern.Const (written_test env c)) (read.Plain (written_operand s bound source)) q inside (sym e) (constant_case bound tells source v.ty (written_test env c) (ConstPrim val) inside r v.ready v.is tt refl i)
  case_fits bound tells source over (constraint.Variant of variant) places q inside e r ready is parts i =
      let c = constraint.Variant of variant in
      let v = over_value s bound source c over (λ e. cc) ready is in
      let a = arm_pattern s source v.ty c places v.is parts tt in
      read_another tells (written_arm env c places) (written_read s bound true source) q inside (read_over true (is_reference_in s source) (written_operand s bound source) ∙ sym e) (variant_arm bound tells source v.ty of variant places _ inside r v.ready v.is parts.1 a.is i).0
  case_fits bound tells source over (constraint.Struct of) places q inside e r ready is parts i =
      let c = constraint.Struct of in
      let v = over_value s bound source c over (λ e. cc) ready is in
      let a = arm_pattern s source v.ty c places v.is parts tt in
      read_another tells (written_arm env c places) (written_read s bound true source) q inside (read_over true (is_reference_in s source) (written_operand s bound source) ∙ sym e) (struct_arm bound tells source v.ty of places _ inside r v.ready v.is parts.1 a.is i).0
  case_fits bound tells source over constraint.Some places q inside e r ready is parts i =
      let v = over_option s bound source over ready is in
      read_another tells (written_arm env constraint.Some places) (read.Plain (written_operand s bound source)) q inside (sym e) (some_arm bound tells source places inside r v.1.bound' parts.0 parts.1 i).0

  -- ---- blocks

  stop_fits : (manner : Manner) (several : Bool) (c : Control) (after : Body) → BodyFits after → BodyFits (stop_before manner several c after)
  stop_fits manner true (block.Return place given) after h = λ tells r. h tells r
  stop_fits manner true (block.Match source arms) after h = h
  stop_fits manner true (block.Equal a b body) after h = h
  stop_fits manner true (block.Loop given body) after h = h
  stop_fits manner false c after h = h

  told_before_fits : (telling : Telling) (c : Control) (after : Body) → BodyFits after → BodyFits (told_before telling c after)
  told_before_fits None c after h = h
  told_before_fits (Some line) (block.Match source arms) after h = h
  told_before_fits (Some line) (block.Equal a b body) after h = h
  told_before_fits (Some line) (block.Loop given body) after h = h
  told_before_fits (Some line) (block.Return place given) after h = λ tells r. h tells r

  done_fits : BodyFits Done
  done_fits tells r = tt

  -- the list of a loop
  loop_list : (k : Option Binding) (source : BindingId) → k ≡ Some (binding.Iterator source) → written_list (list_local k) ≡ source.0
  loop_list k source e = rw e refl

  -- statements in a closure of their own, or as they are
  closure_fits : (own within : Bool) (inside : Body) → BodyFits inside → BodyFits (closed_if own within inside)
  closure_fits true within inside h = then_fits (Split inside within) Done (λ tells r. (h tells r, r)) done_fits
  closure_fits false within inside h = h

  mutual
    block_fits : (manner : Manner) (b : Block) (bound made : List ℕ) (end : Body) → IsReadyFrom s bound made b → BodyFits end → BodyFits (told_body manner s bound b end)
    block_fits manner Stop bound made end h k = k
    block_fits manner (Step binds c more) bound made end h k =
        let now = bound_by bound binds in
        let rest = stop_before manner (gives_several s) c (told_body manner s now more end) in
        lets_fit bound binds (told_before manner.telling c (Then (told_control manner s now c) rest)) h.0
        (told_before_fits manner.telling c (Then (told_control manner s now c) rest)
        (then_fits (told_control manner s now c) rest (control_fits manner c now _ h.2) (stop_fits manner (gives_several s) c (told_body manner s now more end) (block_fits manner more now _ end h.3 k))))

    control_fits : (manner : Manner) (c : Control) (bound made : List ℕ) → IsReadyControl s bound made c → (tells : Tells) → Right tells → StmtFits tells (told_control manner s bound c)
    control_fits manner (block.Match source (block.Arm (constraint.ConstBool val) places body block.NoArm)) bound made k tells r =
        let v = over_value s bound source (constraint.ConstBool val) k.1.0 (λ e. cc) k.1.1 k.1.2.0 in
        test_fits bound tells source v.ty (written_test env (constraint.ConstBool val)) (ConstBool v.ty val) (arm_body manner body (told_body (arm_manner manner body) s (bound_within bound places) body Done)) r v.ready (refl, v.is) tt refl (closure_fits (has_closure manner body) manner.inside _ (block_fits (arm_manner manner body) body (bound_within bound places) made Done k.1.2.2 done_fits))
    control_fits manner (block.Match source (block.Arm (constraint.ConstInt val of) places body block.NoArm)) bound made k tells r =
        let v = over_value s bound source (constraint.ConstInt val of) k.1.0 (λ e. cc) k.1.1 k.1.2.0 in
        test_fits bound tells source v.ty (written_test env (constraint.ConstInt val of)) (ConstInt of val) (arm_body manner body (told_body (arm_manner manner body) s (bound_within bound places) body Done)) r v.ready v.is tt refl (closure_fits (has_closure manner body) manner.inside _ (block_fits (arm_manner manner body) body (bound_within bound places) made Done k.1.2.2 done_fits))
    control_fits manner (block.Match source (block.Arm (constraint.ConstPrim val) places body block.NoArm)) bound made k tells r =
        let v = over_value s bound source (constraint.ConstPrim val) k.1.0 (λ e. cc) k.1.1 k.1.2.0 in
        test_fits bound tells source v.ty (written_test env (constraint.ConstPrim val)) (ConstPrim val) (arm_body manner body (told_body (arm_manner manner body) s (bound_within bound places) body Done)) r v.ready v.is tt refl (closure_fits (has_closure manner body) manner.inside _ (block_fits (arm_manner manner body) body (bound_within bound places) made Done k.1.2.2 done_fits))
    control_fits manner (block.Match source (block.Arm (constraint.Variant of variant) places body block.NoArm)) bound made k tells r =
        let c = constraint.Variant of variant in
        let v = over_value s bound source c k.1.0 (λ e. cc) k.1.1 k.1.2.0 in
        let a = arm_pattern s source v.ty c places v.is k.1.2.1 tt in
        variant_arm bound tells source v.ty of variant places _ (arm_body manner body (told_body (arm_manner manner body) s (bound_within bound places) body Done)) r v.ready v.is k.1.2.1.1 a.is (closure_fits (has_closure manner body) manner.inside _ (block_fits (arm_manner manner body) body (bound_within bound places) made Done k.1.2.2 done_fits))
    control_fits manner (block.Match source (block.Arm (constraint.Struct of) places body block.NoArm)) bound made k tells r =
        let c = constraint.Struct of in
        let v = over_value s bound source c k.1.0 (λ e. cc) k.1.1 k.1.2.0 in
        let a = arm_pattern s source v.ty c places v.is k.1.2.1 tt in
        struct_arm bound tells source v.ty of places _ (arm_body manner body (told_body (arm_manner manner body) s (bound_within bound places) body Done)) r v.ready v.is k.1.2.1.1 a.is (closure_fits (has_closure manner body) manner.inside _ (block_fits (arm_manner manner body) body (bound_within bound places) made Done k.1.2.2 done_fits))
    control_fits manner (block.Match source (block.Arm constraint.Some places body block.NoArm)) bound made k tells r =
        let v = over_option s bound source k.1.0 k.1.1 k.1.2.0 in
        some_arm bound tells source places (arm_body manner body (told_body (arm_manner manner body) s (bound_within bound places) body Done)) r v.1.bound' k.1.2.1.0 k.1.2.1.1 (closure_fits (has_closure manner body) manner.inside _ (block_fits (arm_manner manner body) body (bound_within bound places) made Done k.1.2.2 done_fits))
    control_fits manner (block.Match source (block.Arm c places body (block.Arm d others inside arms))) bound made k tells r =
        (cases_fit manner (block.Arm c places body (block.Arm d others inside arms)) bound made source k.1.0 (match_read s bound source c) (match_operand bound source c) k.1.1 k.1.2 tells r, r)
    control_fits manner (block.Match source block.NoArm) bound made k tells r = (tt, r)
    control_fits manner (block.Equal a b body) bound made k tells r =
        let ty = k.0.0 in
        equal_fits (written_operand s bound a) (written_operand s bound b) (at (paths_in s) a) (at (paths_in s) b) ty tells (told_body manner s bound body Done) r (ready_right bound tells a ty r k.0.1) (ready_right bound tells b ty r k.0.2) k.0.1.path k.0.2.path
        (ready_fits bound a ty k.0.1) (ready_fits bound b ty k.0.2) (block_fits manner body bound made Done k.1 done_fits)
    control_fits manner (block.Loop given body) bound made k tells r =
        let h = k.0 in
        let list : written_list (looped_local s given) ≡ h.source.0 = loop_list (slice_get s.bindings given.0) h.source h.is in
        let x = look_told tells (written_list (looped_local s given)) in
        let right : IsRight env t (at (paths_in s) h.source) x = subst (λ (n : ℕ). IsRight env t (at (paths_in s) h.source) (look_told tells n)) (sym list) (look_right env t path h.source.0 tells r) in
        let item = right_over env t (at (paths_in s) given) (Chosen (at (paths_in s) h.source)) _ (λ has. path_at s.bindings given (binding.Iterator h.source) h.is has) (item_right env t (at (paths_in s) h.source) x right) in
        (block_fits manner body (bound ++ given.0 ∷ []) made Done k.1 done_fits (placing.told_inside (written_list (looped_local s given)) given.0 tells) (told_more tells given.0 _ r item), r)
    control_fits manner (block.Return place given) bound made k tells r =
        result_fits (kind_of t.kind) (written_read s bound false given) tells r (subst (Fits (operand_of (written_read s bound false given))) (sym result) (read_fits bound false given t.ret_ty k))

    -- each of several arms over what is read
    cases_fit : (manner : Manner) (arms : block.Arms) (bound made : List ℕ) (source : BindingId) (over : Source) (q : Read) → operand_of q ≡ written_operand s bound source → IsReadyIn s bound source over → AreReadyArms s bound made source over arms
        → (tells : Tells) → Right tells → PlacesFit (placing.arms_places p f tells q (told_each manner s bound arms))
    cases_fit manner block.NoArm bound made source over q e ready k tells r = tt
    cases_fit manner (block.Arm c places body arms) bound made source over q e ready k tells r =
        let inside = arm_body manner body (told_body (arm_manner manner body) s (bound_within bound places) body Done) in
        both (placing.arm_places p f tells (written_arm env c places) q inside) (placing.arms_places p f tells q (told_each manner s bound arms))
        (case_fits bound tells source over c places q inside e r ready k.0 k.1 (closure_fits (has_closure manner body) manner.inside _ (block_fits (arm_manner manner body) body (bound_within bound places) made Done k.2 done_fits))) (cases_fit manner arms bound made source over q e ready k.3 tells r)

  -- ---- functions

  tail_fits : (k : ReturnKind) (name place : List ℕ) (b : Block) → BodyFits (tail_of k name place b)
  tail_fits k name place b = one (ends_in_return b) refl
    where
      mark_fits : (mark : Option (Option (List ℕ × List ℕ))) → BodyFits (tail_body mark)
      mark_fits None = λ tells r. tt
      mark_fits (Some mark) = λ tells r. tt

      one : (x : Bool) → ends_in_return b ≡ x → BodyFits (tail_of k name place b)
      one true e = rw e done_fits
      one false e = rw e (mark_fits (mark_of k name place))

  -- the function of a lawful block
  pub function_fits : (options : CodegenOptions) (files : Files) (b : Block) → IsLawfulBlock s b → term_function options files s b ≡ Some f → PlacesFit (places p f)
  function_fits options files b lawful given =
      let same : function_of options files env t bs b ≡ f = some_same (function_of options files env t bs b) f (sym (function_made options files env t bs b lawful) ∙ given) in
      subst (λ (body : Body). PlacesFit (body_places p f [] body)) (ap (λ (g : Function). g.body) same)
      (block_fits (manner_of options files s) (completed s [] b) [] [] (tail_in files env t b) (completed_ready s b lawful) (tail_fits _ _ _ b) [] tt)
