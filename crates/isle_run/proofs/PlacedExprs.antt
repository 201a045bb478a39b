-- Constants that are read in what a function computes stand at places of their own types.
use Rattle.std.proofs.Common.{◌≡◌, ⊎_elim, ℕ, ℤ, ◌+◌, List, [], ◌∷◌, ◌++◌, map, Bool, true, false, Option, Some, None, option_map, refl, sym, ap, ◌∙◌, subst}
use Rattle.std.specs.Prelude.{option_and_then, slice_get}
use Rattle.std.specs.List.{AllByRecursion}
use Rattle.isle_core.specs.declared.BindingId.{BindingId}
use Rattle.isle_core.specs.declared.Sym.{Sym}
use Rattle.isle_core.specs.declared.TermId.{TermId}
use Rattle.isle_core.specs.declared.TypeId.{TypeId}
use Rattle.isle_core.specs.declared.VariantId.{VariantId}
use Rattle.isle_core.specs.declared.rule_sets.Binding.{Binding}
use Rattle.isle_core.specs.declared.rule_sets.Binding.TheVariants as binding
use Rattle.isle_core.specs.declared.types.BuiltinType.TheVariants as builtin
use Rattle.isle_core.specs.declared.types.ReturnKind.{ReturnKind}
use Rattle.isle_core.specs.declared.types.Term.{Term}
use Rattle.isle_core.specs.declared.types.TypeDef.{TypeDef}
use Rattle.isle_core.specs.declared.types.TypeDef.TheVariants as def
use Rattle.isle_core.specs.declared.types.Variant.{Variant as VariantDef}
use Rattle.isle_core.specs.Calling.{calling, extracting}
use Rattle.isle_core.specs.Constants.{int_of_def}
use Rattle.isle_core.specs.ExternalCall.{IsCall, IsExtraction}
use Rattle.isle_core.specs.Form.{Form, form, form_of_variant, form_types, variant_form, struct_form}
use Rattle.isle_core.specs.HasType.{HasType, typed_fields}
use Rattle.isle_core.specs.Making.{MakesVariant, MakesStruct}
use Rattle.isle_core.specs.NamesApart.{IsNameOf}
use Rattle.isle_core.specs.Path.{Path, Arg, ConstBool, ConstInt, ConstPrim, Extracted, Called, MadeVariant, MadeStruct, NoPath, APath, at, at_all}
use Rattle.isle_core.specs.PathType.{IsPathOf}
use Rattle.isle_core.specs.Rule.{Environment}
use Rattle.isle_core.specs.Setting.{Setting, setting, paths_in}
use Rattle.isle_core.specs.Terms.{sym_text}
use Rattle.isle_core.specs.Value.{Value}
use Rattle.isle_core.proofs.AllLaws.{all_append}
use Rattle.isle_tree.specs.declared.tree.Operand.{Operand}
use Rattle.isle_tree.specs.declared.tree.Operand.TheVariants as operand
use Rattle.isle_tree.specs.declared.tree.Read.{Read}
use Rattle.isle_tree.specs.declared.tree.TCall.{TCall}
use Rattle.isle_tree.specs.declared.tree.TExpr.TheVariants as expr
use Rattle.isle_tree.specs.Program.{Function, Program}
use Rattle.isle_simulation.specs.Operands.{constant, in_place, is_bound}
use Rattle.isle_simulation.specs.References.{is_declared, is_reference_in, read_as}
use Rattle.isle_simulation.specs.RustNames.{HasRustNames}
use Rattle.isle_simulation.specs.Statements.{made_named}
use Rattle.isle_simulation.specs.TypeTexts.{def_text, type_text, parameter}
use Rattle.isle_simulation.proofs.BoundTests.{found}
use Rattle.isle_simulation.proofs.OneBind.{spelled}
use Rattle.isle_simulation.proofs.Ready.{IsSpelled, IsReady, AreReady, IsReadyBind}
use Rattle.isle_simulation.proofs.Written.{written, written_operand, written_place, written_read, callee_of, reads, call_expr, extraction_expr, field_reads, made_expr, bound_expr}
use Rattle.isle_places.specs.DeclaredTypes.{Asked, variant_asked, struct_asked}
use Rattle.isle_places.specs.Places as placing
use Rattle.isle_places.specs.Places.{Place, own_or, where_told, reads_places, params_of, fields_places, expr_places, places}
use Rattle.isle_places.specs.Signatures.{Signature, signature_of}
use Rattle.isle_places.specs.Told.{Told, AValue, AnOption, ATuple, AnOptionalTuple, AList, AListOfTuples, Untold, Tells, list_told, operand_of, operand_told, expr_told, field_told}
use Rattle.isle_run.proofs.ToldTypes.{IsSignature, IsRight, told_type, right_over, called_right, called_list, extracted_right, extracted_list, within_right, part_right, place_right, AreRight, look_right}

-- the value is of the constant of this name, and of its type
abbrev pub IsConstantValue : Environment → List ℕ → Value → Type 0
IsConstantValue env name v = (ty : TypeId) × IsNameOf env ty name × HasType env v ty

-- what is known of each of these fields is its type
abbrev pub AreFieldsTold : Environment → Asked → List (List ℕ × TypeId) → Type 0
AreFieldsTold env asked = AllByRecursion (λ (f : List ℕ × TypeId). (ty : List ℕ) → field_told asked f.0 ≡ AValue ty → ty ≡ type_text env f.1)

-- what a program's signatures and types tell is of the types of the environment, and this holds of values of types with the types' names
pub record TellsTypes (env : Environment) (p : Program) (Named : List ℕ → Value → Type 0) : Type 0 where
  pub values : (ty : TypeId) (v : Value) → HasType env v ty → Named (type_text env ty) v
  pub calls : (id : TermId) (c : Term) (often : ReturnKind) (s : Signature) → slice_get env.terms id.0 ≡ Some c → IsCall often (calling env id)
      → signature_of p (callee_of (calling env id)) ≡ Some s → IsSignature env c.arg_tys (c.ret_ty ∷ []) s
  pub extractions : (id : TermId) (c : Term) (often : ReturnKind) (s : Signature) → slice_get env.terms id.0 ≡ Some c → IsExtraction often (extracting env id)
      → signature_of p (callee_of (extracting env id)) ≡ Some s → IsSignature env (c.ret_ty ∷ []) c.arg_tys s
  pub variants : (ty : TypeId) (variant : VariantId) (f : Form) (name : Sym) → form env (MakesVariant ty variant) ≡ Some f → f.variant ≡ Some name
      → AreFieldsTold env (variant_asked p.types (sym_text env f.ty) (sym_text env f.ty) (sym_text env name)) (typed_fields env f.fields)
  pub structs : (ty : TypeId) (f : Form) → form env (MakesStruct ty) ≡ Some f → AreFieldsTold env (struct_asked p.types (sym_text env f.ty) (sym_text env f.ty)) (typed_fields env f.fields)

-- ---- small facts

pub value_eq : (a b : List ℕ) → AValue a ≡ AValue b → b ≡ a
value_eq a b e = cc

-- the name of a form's type is the type's
pub named_enum : (env : Environment) (o : Option TypeDef) (variant : VariantId) (f : Form) → option_and_then (variant_form variant) o ≡ Some f → sym_text env f.ty ≡ def_text env.types o
named_enum env None variant f e = absurd cc
named_enum env (Some (def.Enum name is_extern is_nodebug variants place)) variant f e = one (slice_get variants variant.0) e
  where
    one : (v : Option VariantDef) → option_map (form_of_variant name) v ≡ Some f → sym_text env f.ty ≡ sym_text env name
    one None k = absurd cc
    one (Some v) k = let same : form_of_variant name v ≡ f = cc in sym (ap (λ (g : Form). sym_text env g.ty) same)
named_enum env (Some (def.Builtin b)) variant f e = absurd cc
named_enum env (Some (def.Primitive name rust place)) variant f e = absurd cc
named_enum env (Some (def.Struct name is_extern is_nodebug fields place)) variant f e = absurd cc

pub named_struct : (env : Environment) (o : Option TypeDef) (f : Form) → option_and_then struct_form o ≡ Some f → sym_text env f.ty ≡ def_text env.types o
named_struct env None f e = absurd cc
named_struct env (Some (def.Struct name is_extern is_nodebug fields place)) f e = one e
  where
    one : Some (record { ty = name; variant = None; fields = fields }) ≡ Some f → sym_text env f.ty ≡ sym_text env name
    one k = let same : record { ty = name; variant = None; fields = fields } ≡ f = cc in sym (ap (λ (g : Form). sym_text env g.ty) same)
named_struct env (Some (def.Builtin b)) f e = absurd cc
named_struct env (Some (def.Primitive name rust place)) f e = absurd cc
named_struct env (Some (def.Enum name is_extern is_nodebug variants place)) f e = absurd cc

-- the form of a variant has one, and that of a struct has none
pub variant_named : (o : Option TypeDef) (variant : VariantId) (g : Form) → option_and_then (variant_form variant) o ≡ Some g → g.variant ≡ None → ⊥
variant_named None variant g e k = cc
variant_named (Some (def.Enum name is_extern is_nodebug variants place)) variant g e k = one (slice_get variants variant.0) e
  where
    one : (v : Option VariantDef) → option_map (form_of_variant name) v ≡ Some g → ⊥
    one None l = cc
    one (Some v) l = let same : form_of_variant name v ≡ g = cc in let is : Some v.name ≡ g.variant = ap (λ (x : Form). x.variant) same in cc
variant_named (Some (def.Builtin b)) variant g e k = cc
variant_named (Some (def.Primitive name rust place)) variant g e k = cc
variant_named (Some (def.Struct name is_extern is_nodebug fields place)) variant g e k = cc

pub struct_unnamed : (o : Option TypeDef) (g : Form) (name : Sym) → option_and_then struct_form o ≡ Some g → g.variant ≡ Some name → ⊥
struct_unnamed None g name e k = cc
struct_unnamed (Some (def.Struct ty is_extern is_nodebug fields place)) g name e k = one e
  where
    one : Some (record { ty = ty; variant = None; fields = fields }) ≡ Some g → ⊥
    one l = let same : record { ty = ty; variant = None; fields = fields } ≡ g = cc in let is : None ≡ g.variant = ap (λ (x : Form). x.variant) same in cc
struct_unnamed (Some (def.Builtin b)) g name e k = cc
struct_unnamed (Some (def.Primitive ty rust place)) g name e k = cc
struct_unnamed (Some (def.Enum ty is_extern is_nodebug variants place)) g name e k = cc

module _ (env : Environment) (t : Term) (bs : List Binding) (p : Program) (Named : List ℕ → Value → Type 0) (names : HasRustNames env) (tells_types : TellsTypes env p Named) (f : Function) (params : f.params ≡ map (parameter env) t.arg_tys) (result : f.result ≡ type_text env t.ret_ty) where
  abbrev pub s : Setting
  s = setting env t bs

  abbrev pub path : ℕ → Path
  path n = at (paths_in s) (record { 0 = n })

  abbrev pub Right : Tells → Type 0
  Right = AreRight env t path

  -- if the operand is a constant, its values have the type of this name
  abbrev pub Fits : Operand → List ℕ → Type 0
  Fits o ty = (name : List ℕ) (v : Value) → o ≡ operand.Name name → IsConstantValue env name v → Named ty v

  abbrev pub PlacesFit : List Place → Type 0
  PlacesFit = AllByRecursion (λ (x : Place). Fits x.0 x.1)

  pub both : (xs ys : List Place) → PlacesFit xs → PlacesFit ys → PlacesFit (xs ++ ys)
  both xs ys h k = all_append (λ (x : Place). Fits x.0 x.1) xs ys h k

  -- ---- operands

  number_fits : (o : Option TypeDef) (n : ℤ) (ty : List ℕ) → Fits (written (constant (int_of_def env o n))) ty
  number_fits (Some (def.Builtin (builtin.Int i))) n ty = λ name v e k. absurd cc
  number_fits (Some (def.Builtin builtin.Bool)) n ty = λ name v e k. absurd cc
  number_fits (Some (def.Primitive name rust place)) n ty = λ other v e k. absurd cc
  number_fits (Some (def.Enum name is_extern is_nodebug variants place)) n ty = λ other v e k. absurd cc
  number_fits (Some (def.Struct name is_extern is_nodebug fields place)) n ty = λ other v e k. absurd cc
  number_fits None n ty = λ name v e k. absurd cc

  one_name : (a b : List ℕ) → operand.Name a ≡ operand.Name b → a ≡ b
  one_name a b e = cc

  struct_fits : (of : TypeId) (o : Option Form) (ty : List ℕ) → form env (MakesStruct of) ≡ o → Fits (written (option_map (λ (g : Form). operand.Name (sym_text env g.ty)) o)) ty
  struct_fits of None ty is = λ name v e k. absurd cc
  struct_fits of (Some g) ty is = λ name v e k. absurd (names.apart.structs k.1.0 k.0 of g k.1.1 is (k.1.2 ∙ sym (one_name (sym_text env g.ty) name e)))

  pub place_fits : (n : ℕ) (q : Path) (ty : TypeId) → IsPathOf env t q ty → IsSpelled q → Fits (written (in_place env n q)) (type_text env ty)
  place_fits n (Arg i) ty h k = λ name v e l. absurd cc
  place_fits n (ConstBool of b) ty h k = λ name v e l. absurd cc
  place_fits n (ConstInt of i) ty h k = number_fits (slice_get env.types.types of.0) i (type_text env ty)
  place_fits n (ConstPrim c) ty h k = λ name v e l.
      let same : l.0 ≡ ty = names.texts l.1.0 c l.0 ty l.1.1 h (l.1.2 ∙ sym (one_name (sym_text env c) name e)) in
      tells_types.values ty v (subst (HasType env v) same l.2)
  place_fits n (MadeStruct of NoPath) ty h k = struct_fits of (form env (MakesStruct of)) (type_text env ty) refl
  place_fits n (MadeStruct of (APath q qs)) ty h k = absurd k
  place_fits n q ty h k = absurd k

  pub ready_fits : (bound : List ℕ) (b : BindingId) (ty : TypeId) → IsReady s bound b ty → Fits (written_operand s bound b) (type_text env ty)
  ready_fits bound b ty h = one (is_bound bound b) refl
    where
      local : Fits (operand.Local b.0) (type_text env ty)
      local name v e l = absurd cc

      one : (x : Bool) → is_bound bound b ≡ x → Fits (written_operand s bound b) (type_text env ty)
      one true is = rw is local
      one false is = rw is (⊎_elim (λ k. absurd (let bad : false ≡ true = sym is ∙ k in cc)) (λ k. place_fits b.0 (at (paths_in s) b) ty h.path k) h.place)

  pub bound_right : (bound : List ℕ) (tells : Tells) (b : BindingId) → Right tells → is_bound bound b ≡ true → IsRight env t (at (paths_in s) b) (operand_told f tells (written_operand s bound b))
  bound_right bound tells b r is = rw is (look_right env t path b.0 tells r)

  pub ready_right : (bound : List ℕ) (tells : Tells) (b : BindingId) (ty : TypeId) → Right tells → IsReady s bound b ty → IsRight env t (at (paths_in s) b) (operand_told f tells (written_operand s bound b))
  ready_right bound tells b ty r h = one (is_bound bound b) refl
    where
      one : (x : Bool) → is_bound bound b ≡ x → IsRight env t (at (paths_in s) b) (operand_told f tells (written_operand s bound b))
      one true is = rw is (look_right env t path b.0 tells r)
      one false is = rw is (⊎_elim (λ k. absurd (let bad : false ≡ true = sym is ∙ k in cc)) (λ k. place_right env t f params tells b.0 (at (paths_in s) b) k) h.place)

  read_is : (wanted is : Bool) (o : Operand) → operand_of (read_as wanted is o) ≡ o
  read_is true true o = refl
  read_is true false o = refl
  read_is false true o = refl
  read_is false false o = refl

  pub read_fits : (bound : List ℕ) (wanted : Bool) (b : BindingId) (ty : TypeId) → IsReady s bound b ty → Fits (operand_of (written_read s bound wanted b)) (type_text env ty)
  read_fits bound wanted b ty h = subst (λ (o : Operand). Fits o (type_text env ty)) (sym (read_is wanted (is_reference_in s b) (written_operand s bound b))) (ready_fits bound b ty h)

  -- ---- places

  where_fits : (o : Operand) (x : Told) → ((ty : List ℕ) → x ≡ AValue ty → Fits o ty) → PlacesFit (where_told o x)
  where_fits o (AValue ty) h = (h ty refl, tt)
  where_fits o (AnOption ty) h = tt
  where_fits o (ATuple tys) h = tt
  where_fits o (AnOptionalTuple tys) h = tt
  where_fits o (AList ty) h = tt
  where_fits o (AListOfTuples tys) h = tt
  where_fits o Untold h = tt

  at_fits : (o : Operand) (x : Told) → ((ty : List ℕ) → x ≡ AValue ty → Fits o ty) → PlacesFit (placing.at o x)
  at_fits (operand.Name name) x h = where_fits (operand.Name name) x h
  at_fits (operand.Local n) x h = where_fits (operand.Local n) x h
  at_fits (operand.Arg n) x h = where_fits (operand.Arg n) x h
  at_fits (operand.Bool b) x h = where_fits (operand.Bool b) (own_or (operand.Bool b) x) (λ ty e name v k l. absurd cc)
  at_fits (operand.Int i n) x h = where_fits (operand.Int i n) (own_or (operand.Int i n) x) (λ ty e name v k l. absurd cc)
  at_fits (operand.Raw n) x h = where_fits (operand.Raw n) x h

  pub untold_fits : (o : Operand) → PlacesFit (placing.at o Untold)
  untold_fits o = at_fits o Untold (λ ty e. absurd cc)

  -- of a value of this type
  pub value_fits : (o : Operand) (ty : List ℕ) → Fits o ty → PlacesFit (placing.at o (AValue ty))
  value_fits o ty h = at_fits o (AValue ty) (λ x e. subst (Fits o) (sym (value_eq ty x e)) h)

  -- of what is known of a path of this type
  pub told_fits : (o : Operand) (q : Path) (x : Told) (ty : TypeId) → IsRight env t q x → IsPathOf env t q ty → Fits o (type_text env ty) → PlacesFit (placing.at o x)
  told_fits o q x ty r k h = at_fits o x (λ y e. subst (Fits o) (sym (told_type env t q x y ty r e k)) h)

  reads_untold : (rs : List Read) → PlacesFit (reads_places rs [])
  reads_untold [] = tt
  reads_untold (r ∷ rs) = both (placing.at (operand_of r) Untold) (reads_places rs []) (untold_fits (operand_of r)) (reads_untold rs)

  reads_fit : (bound : List ℕ) (tys : List TypeId) (given : List BindingId) → AreReady s bound given tys → PlacesFit (reads_places (reads s bound tys given) (map (type_text env) tys))
  reads_fit bound [] [] h = tt
  reads_fit bound (ty ∷ tys) (b ∷ given) h =
      let o = operand_of (written_read s bound (is_declared env ty) b) in
      both (placing.at o (AValue (type_text env ty))) (reads_places (reads s bound tys given) (map (type_text env) tys)) (value_fits o (type_text env ty) (read_fits bound (is_declared env ty) b ty h.0)) (reads_fit bound tys given h.1)
  reads_fit bound [] (b ∷ given) h = absurd h
  reads_fit bound (ty ∷ tys) [] h = absurd h

  args_fit : (bound : List ℕ) (tys : List TypeId) (given : List BindingId) (o : Option Signature) → AreReady s bound given tys → ((g : Signature) → o ≡ Some g → g.params ≡ map (type_text env) tys)
      → PlacesFit (reads_places (reads s bound tys given) (params_of o))
  args_fit bound tys given None h is = reads_untold (reads s bound tys given)
  args_fit bound tys given (Some g) h is = subst (λ (ps : List (List ℕ)). PlacesFit (reads_places (reads s bound tys given) ps)) (sym (is g refl)) (reads_fit bound tys given h)

  fields_fit : (bound : List ℕ) (asked : Asked) (fields : List (List ℕ × TypeId)) (given : List BindingId) → AreReady s bound given (map (λ (x : List ℕ × TypeId). x.1) fields) → AreFieldsTold env asked fields → PlacesFit (fields_places asked (field_reads s bound fields given))
  fields_fit bound asked [] [] h k = tt
  fields_fit bound asked (x ∷ fields) (b ∷ given) h k =
      let o = operand_of (written_read s bound false b) in
      both (placing.at o (field_told asked x.0)) (fields_places asked (field_reads s bound fields given))
      (at_fits o (field_told asked x.0) (λ ty e. subst (Fits o) (sym (k.0 ty e)) (read_fits bound false b x.1 h.0))) (fields_fit bound asked fields given h.1 k.1)
  fields_fit bound asked [] (b ∷ given) h k = absurd h
  fields_fit bound asked (x ∷ fields) [] h k = absurd h

  -- ---- what is computed

  call_fits : (bound : List ℕ) (o : Option Term) (c : Term) (id : TermId) (given : List BindingId) (often : ReturnKind) → o ≡ Some c → slice_get env.terms id.0 ≡ Some c → IsCall often (calling env id) → AreReady s bound given c.arg_tys
      → PlacesFit (expr_places p (call_expr s bound o (callee_of (calling env id)) given))
  call_fits bound o c id given often e there is h = rw e (args_fit bound c.arg_tys given (signature_of p (callee_of (calling env id))) h (λ g k. (tells_types.calls id c often g there is k).takes))

  extraction_fits : (bound : List ℕ) (o : Option Term) (c : Term) (id : TermId) (b : BindingId) (often : ReturnKind) → o ≡ Some c → slice_get env.terms id.0 ≡ Some c → IsExtraction often (extracting env id) → IsReady s bound b c.ret_ty
      → PlacesFit (expr_places p (extraction_expr s bound o (callee_of (extracting env id)) b))
  extraction_fits bound o c id b often e there is h = rw e (args_fit bound (c.ret_ty ∷ []) (b ∷ []) (signature_of p (callee_of (extracting env id))) (h, tt) (λ g k. (tells_types.extractions id c often g there is k).takes))

  -- a made value of this form, of what a type asks of its fields
  made_fits : (ty : Sym) (variant : Option Sym) (bound : List ℕ) (fields : List (List ℕ × TypeId)) (given : List BindingId) → AreReady s bound given (map (λ (x : List ℕ × TypeId). x.1) fields)
      → ((name : Sym) → variant ≡ Some name → AreFieldsTold env (variant_asked p.types (sym_text env ty) (sym_text env ty) (sym_text env name)) fields)
      → (variant ≡ None → AreFieldsTold env (struct_asked p.types (sym_text env ty) (sym_text env ty)) fields) → PlacesFit (expr_places p (made_named env ty variant (field_reads s bound fields given)))
  made_fits ty (Some variant) bound fields given h k l = fields_fit bound (variant_asked p.types (sym_text env ty) (sym_text env ty) (sym_text env variant)) fields given h (k variant refl)
  made_fits ty None bound fields given h k l = one (field_reads s bound fields given) (fields_fit bound (struct_asked p.types (sym_text env ty) (sym_text env ty)) fields given h (l refl))
    where
      one : (rs : List (List ℕ × Read)) → PlacesFit (fields_places (struct_asked p.types (sym_text env ty) (sym_text env ty)) rs) → PlacesFit (expr_places p (made_named env ty None rs))
      one [] j = untold_fits (operand.Name (sym_text env ty))
      one (r ∷ rs) j = j

  form_fits : (bound : List ℕ) (o : Option Form) (g : Form) (given : List BindingId) → o ≡ Some g → AreReady s bound given (form_types env g)
      → ((name : Sym) → g.variant ≡ Some name → AreFieldsTold env (variant_asked p.types (sym_text env g.ty) (sym_text env g.ty) (sym_text env name)) (typed_fields env g.fields))
      → (g.variant ≡ None → AreFieldsTold env (struct_asked p.types (sym_text env g.ty) (sym_text env g.ty)) (typed_fields env g.fields)) → PlacesFit (expr_places p (made_expr s bound o given))
  form_fits bound o g given e h k l = rw e (made_fits g.ty g.variant bound (typed_fields env g.fields) given h k l)

  pub bound_fits : (bound : List ℕ) (b : BindingId) (o : Option Binding) → IsReadyBind s bound (at (paths_in s) b) o → PlacesFit (expr_places p (bound_expr s bound b o))
  bound_fits bound b (Some (binding.Constructor term parameters k)) is = call_fits bound (slice_get env.terms term.0) is.called term parameters is.kind is.found is.found is.external is.args
  bound_fits bound b (Some (binding.Extractor term parameter)) is = extraction_fits bound (slice_get env.terms term.0) is.called term parameter is.kind is.found is.found is.external is.arg
  bound_fits bound b (Some (binding.MatchSome source)) is = untold_fits (written_operand s bound source)
  bound_fits bound b (Some (binding.MatchTuple source field)) is = untold_fits (written_operand s bound source)
  bound_fits bound b (Some (binding.Argument index)) is = untold_fits (written_place s b)
  bound_fits bound b (Some (binding.ConstBool val ty)) is = untold_fits (written_place s b)
  bound_fits bound b (Some (binding.ConstInt val ty)) is = untold_fits (written_place s b)
  bound_fits bound b (Some (binding.ConstPrim val)) is = untold_fits (written_place s b)
  bound_fits bound b (Some (binding.MakeVariant of variant fields)) is =
      form_fits bound (form env (MakesVariant of variant)) is.f fields is.found is.parts (λ name k. tells_types.variants of variant is.f name is.found k)
      (λ none. absurd (variant_named (slice_get env.types.types of.0) variant is.f is.found none))
  bound_fits bound b (Some (binding.MakeStruct of fields)) is =
      form_fits bound (form env (MakesStruct of)) is.f fields is.found is.parts (λ name k. absurd (struct_unnamed (slice_get env.types.types of.0) is.f name is.found k)) (λ none. tells_types.structs of is.f is.found)
  bound_fits bound b o is = absurd is

  -- ---- what is known of it

  call_told_right : (bound : List ℕ) (tells : Tells) (o : Option Term) (c : Term) (id : TermId) (given : List BindingId) (instance : ℕ) (often : ReturnKind) → o ≡ Some c → slice_get env.terms id.0 ≡ Some c → IsCall often (calling env id)
      → IsRight env t (Called id (at_all (paths_in s) given) instance) (expr_told p f tells (call_expr s bound o (callee_of (calling env id)) given))
  call_told_right bound tells o c id given instance often e there is =
      rw e (called_right env t id (at_all (paths_in s) given) instance c (signature_of p (callee_of (calling env id))) there (λ g k. tells_types.calls id c often g there is k))

  extraction_told_right : (bound : List ℕ) (tells : Tells) (o : Option Term) (c : Term) (id : TermId) (b : BindingId) (often : ReturnKind) → o ≡ Some c → slice_get env.terms id.0 ≡ Some c → IsExtraction often (extracting env id)
      → IsRight env t (Extracted id (at (paths_in s) b)) (expr_told p f tells (extraction_expr s bound o (callee_of (extracting env id)) b))
  extraction_told_right bound tells o c id b often e there is =
      rw e (extracted_right env t id (at (paths_in s) b) c (signature_of p (callee_of (extracting env id))) there (λ g k. tells_types.extractions id c often g there is k))

  made_right : (q : Path) (of : TypeId) (tells : Tells) (bound : List ℕ) (o : Option Form) (g : Form) (given : List BindingId) → o ≡ Some g → sym_text env g.ty ≡ type_text env of → ((ty : TypeId) → IsPathOf env t q ty → of ≡ ty)
      → IsRight env t q (expr_told p f tells (made_expr s bound o given))
  made_right q of tells bound o g given e name one_of = rw e (one g.variant (field_reads s bound (typed_fields env g.fields) given))
    where
      one : (variant : Option Sym) (rs : List (List ℕ × Read)) → IsRight env t q (expr_told p f tells (made_named env g.ty variant rs))
      one (Some variant) rs = λ ty h. name ∙ ap (type_text env) (one_of ty h)
      one None [] = tt
      one None (r ∷ rs) = λ ty h. name ∙ ap (type_text env) (one_of ty h)

  pub bound_told_right : (bound : List ℕ) (tells : Tells) (b : BindingId) (o : Option Binding) → Right tells → IsReadyBind s bound (at (paths_in s) b) o → IsRight env t (at (paths_in s) b) (expr_told p f tells (bound_expr s bound b o))
  bound_told_right bound tells b (Some (binding.Constructor term parameters k)) r is =
      right_over env t _ _ _ (λ h. is.path) (call_told_right bound tells (slice_get env.terms term.0) is.called term parameters k is.kind is.found is.found is.external)
  bound_told_right bound tells b (Some (binding.Extractor term parameter)) r is =
      right_over env t _ _ _ (λ h. is.path) (extraction_told_right bound tells (slice_get env.terms term.0) is.called term parameter is.kind is.found is.found is.external)
  bound_told_right bound tells b (Some (binding.MatchSome source)) r is =
      right_over env t _ _ _ (λ h. is.path) (within_right env t (at (paths_in s) source) _ (bound_right bound tells source r (found bound source.0 is.bound')))
  bound_told_right bound tells b (Some (binding.MatchTuple source field)) r is =
      right_over env t _ _ _ (λ h. is.path) (part_right env t (at (paths_in s) source) field.0 _ (bound_right bound tells source r (found bound source.0 is.bound')))
  bound_told_right bound tells b (Some (binding.Argument index)) r is = place_right env t f params tells b.0 (at (paths_in s) b) (spelled (at (paths_in s) b) is.0)
  bound_told_right bound tells b (Some (binding.ConstBool val ty)) r is = place_right env t f params tells b.0 (at (paths_in s) b) (spelled (at (paths_in s) b) is.0)
  bound_told_right bound tells b (Some (binding.ConstInt val ty)) r is = place_right env t f params tells b.0 (at (paths_in s) b) (spelled (at (paths_in s) b) is.0)
  bound_told_right bound tells b (Some (binding.ConstPrim val)) r is = place_right env t f params tells b.0 (at (paths_in s) b) (spelled (at (paths_in s) b) is.0)
  bound_told_right bound tells b (Some (binding.MakeVariant of variant fields)) r is =
      right_over env t _ _ _ (λ h. is.path) (made_right (MadeVariant of variant (at_all (paths_in s) fields)) of tells bound (form env (MakesVariant of variant)) is.f fields is.found (named_enum env (slice_get env.types.types of.0) variant is.f is.found) (λ ty h. h.0))
  bound_told_right bound tells b (Some (binding.MakeStruct of fields)) r is =
      right_over env t _ _ _ (λ h. is.path) (made_right (MadeStruct of (at_all (paths_in s) fields)) of tells bound (form env (MakesStruct of)) is.f fields is.found (named_struct env (slice_get env.types.types of.0) is.f is.found) (λ ty h. h.0))
  bound_told_right bound tells b o r is = absurd is

  same_callee : (borrow other : Bool) (a : TCall) (b : TCall) → expr.Call borrow a ≡ expr.Call other b → a ≡ b
  same_callee borrow other a b e = cc

  -- of the list that a call fills
  call_list_right : (bound : List ℕ) (o : Option Term) (c : Term) (id : TermId) (given : List BindingId) (instance : ℕ) (often : ReturnKind) (borrow : Bool) (call : TCall) → o ≡ Some c → slice_get env.terms id.0 ≡ Some c → IsCall often (calling env id)
      → call_expr s bound o (callee_of (calling env id)) given ≡ expr.Call borrow call → IsRight env t (Called id (at_all (paths_in s) given) instance) (list_told (signature_of p call.callee))
  call_list_right bound None c id given instance often borrow call e there is k = absurd cc
  call_list_right bound (Some d) c id given instance often borrow call e there is k =
      subst (λ (x : TCall). IsRight env t (Called id (at_all (paths_in s) given) instance) (list_told (signature_of p x.callee))) (same_callee _ borrow _ call k)
      (called_list env t id (at_all (paths_in s) given) instance c (signature_of p (callee_of (calling env id))) there (λ g l. tells_types.calls id c often g there is l))

  extraction_list_right : (bound : List ℕ) (o : Option Term) (c : Term) (id : TermId) (b : BindingId) (often : ReturnKind) (borrow : Bool) (call : TCall) → o ≡ Some c → slice_get env.terms id.0 ≡ Some c → IsExtraction often (extracting env id)
      → extraction_expr s bound o (callee_of (extracting env id)) b ≡ expr.Call borrow call → IsRight env t (Extracted id (at (paths_in s) b)) (list_told (signature_of p call.callee))
  extraction_list_right bound None c id b often borrow call e there is k = absurd cc
  extraction_list_right bound (Some d) c id b often borrow call e there is k =
      subst (λ (x : TCall). IsRight env t (Extracted id (at (paths_in s) b)) (list_told (signature_of p x.callee))) (same_callee _ borrow _ call k)
      (extracted_list env t id (at (paths_in s) b) c (signature_of p (callee_of (extracting env id))) there (λ g l. tells_types.extractions id c often g there is l))

  no_call : (env' : Environment) (ty : Sym) (variant : Option Sym) (rs : List (List ℕ × Read)) (borrow : Bool) (call : TCall) → made_named env' ty variant rs ≡ expr.Call borrow call → ⊥
  no_call env' ty (Some variant) rs borrow call e = cc
  no_call env' ty None [] borrow call e = cc
  no_call env' ty None (r ∷ rs) borrow call e = cc

  no_made_call : (bound : List ℕ) (o : Option Form) (given : List BindingId) (borrow : Bool) (call : TCall) → made_expr s bound o given ≡ expr.Call borrow call → ⊥
  no_made_call bound None given borrow call e = cc
  no_made_call bound (Some g) given borrow call e = no_call env g.ty g.variant (field_reads s bound (typed_fields env g.fields) given) borrow call e

  pub bound_list_right : (bound : List ℕ) (b : BindingId) (o : Option Binding) (borrow : Bool) (call : TCall) → IsReadyBind s bound (at (paths_in s) b) o → bound_expr s bound b o ≡ expr.Call borrow call → IsRight env t (at (paths_in s) b) (list_told (signature_of p call.callee))
  bound_list_right bound b (Some (binding.Constructor term parameters k)) borrow call is e =
      right_over env t _ _ _ (λ h. is.path) (call_list_right bound (slice_get env.terms term.0) is.called term parameters k is.kind borrow call is.found is.found is.external e)
  bound_list_right bound b (Some (binding.Extractor term parameter)) borrow call is e =
      right_over env t _ _ _ (λ h. is.path) (extraction_list_right bound (slice_get env.terms term.0) is.called term parameter is.kind borrow call is.found is.found is.external e)
  bound_list_right bound b (Some (binding.MatchSome source)) borrow call is e = absurd cc
  bound_list_right bound b (Some (binding.MatchTuple source field)) borrow call is e = absurd cc
  bound_list_right bound b (Some (binding.Argument index)) borrow call is e = absurd cc
  bound_list_right bound b (Some (binding.ConstBool val ty)) borrow call is e = absurd cc
  bound_list_right bound b (Some (binding.ConstInt val ty)) borrow call is e = absurd cc
  bound_list_right bound b (Some (binding.ConstPrim val)) borrow call is e = absurd cc
  bound_list_right bound b (Some (binding.MakeVariant of variant fields)) borrow call is e = absurd (no_made_call bound (form env (MakesVariant of variant)) fields borrow call e)
  bound_list_right bound b (Some (binding.MakeStruct of fields)) borrow call is e = absurd (no_made_call bound (form env (MakesStruct of)) fields borrow call e)
  bound_list_right bound b o borrow call is e = absurd is
