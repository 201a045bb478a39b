-- What names a type in a program is the name of a type of the source.
use Rattle.std.proofs.Common.{◌≡◌, ℕ, zero, suc, List, [], ◌∷◌, ◌++◌, map, Bool, true, false, Option, Some, None, option_map, refl, sym, subst}
use Rattle.std.specs.Prelude.{filter_map, flat_map, slice_get}
use Rattle.std.specs.List.{AllByRecursion, cons_option}
use Rattle.isle_core.specs.declared.BindingId.{BindingId}
use Rattle.isle_core.specs.declared.Sym.{Sym}
use Rattle.isle_core.specs.declared.TypeId.{TypeId}
use Rattle.isle_core.specs.declared.rule_sets.Binding.{Binding}
use Rattle.isle_core.specs.declared.rule_sets.Binding.TheVariants as binding
use Rattle.isle_core.specs.declared.rule_sets.Constraint.{Constraint}
use Rattle.isle_core.specs.declared.rule_sets.Constraint.TheVariants as constraint
use Rattle.isle_core.specs.declared.types.Field.{Field}
use Rattle.isle_core.specs.declared.types.Fields.{Fields}
use Rattle.isle_core.specs.declared.types.Fields.TheVariants as fields
use Rattle.isle_core.specs.declared.types.ReturnKind.{ReturnKind}
use Rattle.isle_core.specs.declared.types.ReturnKind.TheVariants as kind
use Rattle.isle_core.specs.declared.types.Term.{Term}
use Rattle.isle_core.specs.declared.types.TypeDef.{TypeDef}
use Rattle.isle_core.specs.declared.types.TypeDef.TheVariants as def
use Rattle.isle_core.specs.declared.types.Variant.{Variant}
use Rattle.isle_core.specs.declared.values.Callee.{Callee}
use Rattle.isle_core.specs.Block.{Block}
use Rattle.isle_core.specs.BlockLawful.{Source}
use Rattle.isle_core.specs.Calling.{calling, extracting, kind_of}
use Rattle.isle_core.specs.Form.{Form, form}
use Rattle.isle_core.specs.HasType.{typed_fields}
use Rattle.isle_core.specs.Making.{MakesVariant, MakesStruct}
use Rattle.isle_core.specs.Rule.{Environment}
use Rattle.isle_core.specs.Setting.{Setting}
use Rattle.isle_core.specs.Terms.{sym_text}
use Rattle.isle_core.proofs.AllLaws.{all_append}
use Rattle.isle_tree.specs.declared.tree.Read.{Read}
use Rattle.isle_tree.specs.declared.tree.TBind.{TBind}
use Rattle.isle_tree.specs.declared.tree.TraitFn.{TraitFn}
use Rattle.isle_tree.specs.Program as tree
use Rattle.isle_tree.specs.Program.{Body}
use Rattle.isle_tree.specs.Walk.{of_stmt}
use Rattle.isle_lawful_names.specs.TypeItems.{fields_shape, items_in, type_item, variant_item}
use Rattle.isle_simulation.specs.Patterns.{field_binds, form_pattern, leaves_out, pattern_named, some_pattern}
use Rattle.isle_simulation.specs.Statements.{binds_list, made_named}
use Rattle.isle_simulation.specs.TermFunction.{ends_in_return, mark_of, tail_body, tail_of}
use Rattle.isle_simulation.specs.TraitFns.{constructor_fn, constructor_fn_of, extractor_fn, extracted_of, func_of, trait_fns_in}
use Rattle.isle_simulation.specs.TypeTexts.{def_text, type_text, parameter}
use Rattle.isle_simulation.proofs.LocalStmts.{local_by}
use Rattle.isle_simulation.proofs.MadeStatements.{AreArmsOf, EachMade, Anything}
use Rattle.isle_simulation.proofs.Written.{written_pattern, callee_of, call_expr, extraction_expr, field_reads, made_expr, bound_expr, bound_stmt, result_stmt, arm_stmt, written_arm, written_read}
use Rattle.isle_operand_names.specs.Occurring.{second_names, shape_types, variants_types, item_types, param_types, trait_types, expr_types, pattern_types, arms_types, own_types, all_types}
use Rattle.isle_run.proofs.PlacedExprs.{named_enum, named_struct}

module _ (env : Environment) (Free : List ℕ → Type 0) (free : (ty : TypeId) → Free (type_text env ty)) where
  abbrev AllFree : List (List ℕ) → Type 0
  AllFree = AllByRecursion Free

  both : (xs ys : List (List ℕ)) → AllFree xs → AllFree ys → AllFree (xs ++ ys)
  both = all_append Free

  -- ---- declared types

  named_fields : (fs : List Field) → AllFree (second_names (map (λ (f : Field). (sym_text env f.name, type_text env f.ty)) fs))
  named_fields [] = tt
  named_fields (f ∷ fs) = (free f.ty, named_fields fs)

  tuple_fields : (tys : List TypeId) → AllFree (map (type_text env) tys)
  tuple_fields [] = tt
  tuple_fields (ty ∷ tys) = (free ty, tuple_fields tys)

  shape_free : (fs : Fields) → AllFree (shape_types (fields_shape env.types fs))
  shape_free fields.Unit = tt
  shape_free (fields.Struct []) = tt
  shape_free (fields.Struct (f ∷ fs)) = named_fields (f ∷ fs)
  shape_free (fields.Tuple []) = tt
  shape_free (fields.Tuple (ty ∷ tys)) = tuple_fields (ty ∷ tys)

  variants_free : (vs : List Variant) → AllFree (variants_types (map (variant_item env.types) vs))
  variants_free [] = tt
  variants_free (v ∷ vs) = both (shape_types (fields_shape env.types v.fields)) (variants_types (map (variant_item env.types) vs)) (shape_free v.fields) (variants_free vs)

  def_free : (d : TypeDef) → Free (def_text env.types (Some d)) → AllFree (flat_map item_types (cons_option (type_item env.types d) []))
  def_free (def.Enum name true is_nodebug variants place) h = tt
  def_free (def.Enum name false is_nodebug variants place) h = both (sym_text env name ∷ variants_types (map (variant_item env.types) variants)) [] (h, variants_free variants) tt
  def_free (def.Struct name true is_nodebug fs place) h = tt
  def_free (def.Struct name false is_nodebug fs place) h = both (sym_text env name ∷ shape_types (fields_shape env.types fs)) [] (h, shape_free fs) tt
  def_free (def.Builtin b) h = tt
  def_free (def.Primitive name rust place) h = tt

  items_free : (ds : List TypeDef) → ((i : ℕ) (d : TypeDef) → slice_get ds i ≡ Some d → Free (def_text env.types (Some d))) → AllFree (flat_map item_types (filter_map (type_item env.types) ds))
  items_free [] h = tt
  items_free (d ∷ ds) h = one (type_item env.types d) (def_free d (h zero d refl)) (items_free ds (λ i e k. h (suc i) e k))
    where
      one : (o : Option _) → AllFree (flat_map item_types (cons_option o [])) → AllFree (flat_map item_types (filter_map (type_item env.types) ds)) → AllFree (flat_map item_types (cons_option o (filter_map (type_item env.types) ds)))
      one None k l = l
      one (Some t) k l = both (item_types t) (flat_map item_types (filter_map (type_item env.types) ds)) (front (item_types t) k) l
        where
          front : (xs : List (List ℕ)) → AllFree (xs ++ []) → AllFree xs
          front [] m = tt
          front (x ∷ xs) m = (m.0, front xs m.1)

  pub types_free : AllFree (flat_map item_types (items_in env.types))
  types_free = items_free env.types.types (λ i d e. subst (λ (o : Option TypeDef). Free (def_text env.types o)) e (free (record { 0 = i })))

  -- ---- functions of the trait

  pub params_free : (tys : List TypeId) → AllFree (param_types (map (parameter env) tys))
  params_free [] = tt
  params_free (ty ∷ tys) = (free ty, params_free tys)

  constructor_free : (t : Term) (o : Option Sym) (fs : List TraitFn) → AllFree (flat_map trait_types fs) → AllFree (flat_map trait_types (cons_option (option_map (constructor_fn env t) o) fs))
  constructor_free t None fs h = h
  constructor_free t (Some func) fs h = both (param_types (map (parameter env) t.arg_tys) ++ type_text env t.ret_ty ∷ []) (flat_map trait_types fs) (both (param_types (map (parameter env) t.arg_tys)) (type_text env t.ret_ty ∷ []) (params_free t.arg_tys) (free t.ret_ty, tt)) h

  extractor_free : (t : Term) (o : Option (Sym × ReturnKind)) (fs : List TraitFn) → AllFree (flat_map trait_types fs) → AllFree (flat_map trait_types (cons_option (option_map (extractor_fn env t) o) fs))
  extractor_free t None fs h = h
  extractor_free t (Some x) fs h = both (type_text env t.ret_ty ∷ map (type_text env) t.arg_tys) (flat_map trait_types fs) (free t.ret_ty, tuple_fields t.arg_tys) h

  pub traits_free : (ts : List Term) → AllFree (flat_map trait_types (trait_fns_in env ts))
  traits_free [] = tt
  traits_free (t ∷ ts) = extractor_free t (extracted_of t.kind) (cons_option (constructor_fn_of env t) (trait_fns_in env ts)) (constructor_free t (func_of t.kind) (trait_fns_in env ts) (traits_free ts))

  -- ---- bodies

  module _ (s : Setting) (same : s.env ≡ env) where
    abbrev BodyFree : Body → Type 0
    BodyFree b = AllFree (all_types b)

    made_free : (ty : Sym) (variant : Option Sym) (fs : List (List ℕ × Read)) → Free (sym_text s.env ty) → AllFree (expr_types (made_named s.env ty variant fs))
    made_free ty (Some variant) fs h = (h, tt)
    made_free ty None [] h = tt
    made_free ty None (f ∷ fs) h = (h, tt)

    form_free : (bound : List ℕ) (o : Option Form) (parts : List BindingId) → ((g : Form) → o ≡ Some g → Free (sym_text s.env g.ty)) → AllFree (expr_types (made_expr s bound o parts))
    form_free bound None parts h = tt
    form_free bound (Some g) parts h = made_free g.ty g.variant (field_reads s bound (typed_fields s.env g.fields) parts) (h g refl)

    free_in : (ty : TypeId) → Free (type_text s.env ty)
    free_in ty = subst (λ (e : Environment). Free (type_text e ty)) (sym same) (free ty)

    variant_free : (ty : TypeId) (variant : _) (g : Form) → form s.env (MakesVariant ty variant) ≡ Some g → Free (sym_text s.env g.ty)
    variant_free ty variant g e = subst Free (sym (named_enum s.env (slice_get s.env.types.types ty.0) variant g e)) (free_in ty)

    struct_free : (ty : TypeId) (g : Form) → form s.env (MakesStruct ty) ≡ Some g → Free (sym_text s.env g.ty)
    struct_free ty g e = subst Free (sym (named_struct s.env (slice_get s.env.types.types ty.0) g e)) (free_in ty)

    call_free : (bound : List ℕ) (o : Option Term) (c : Callee) (given : List BindingId) → AllFree (expr_types (call_expr s bound o c given))
    call_free bound None c given = tt
    call_free bound (Some t) c given = tt

    extraction_free : (bound : List ℕ) (o : Option Term) (c : Callee) (given : BindingId) → AllFree (expr_types (extraction_expr s bound o c given))
    extraction_free bound None c given = tt
    extraction_free bound (Some t) c given = tt

    bound_free : (bound : List ℕ) (b : BindingId) (o : Option Binding) → AllFree (expr_types (bound_expr s bound b o))
    bound_free bound b (Some (binding.Constructor term parameters k)) = call_free bound (slice_get s.env.terms term.0) (callee_of (calling s.env term)) parameters
    bound_free bound b (Some (binding.Extractor term parameter)) = extraction_free bound (slice_get s.env.terms term.0) (callee_of (extracting s.env term)) parameter
    bound_free bound b (Some (binding.MakeVariant of variant parts)) = form_free bound (form s.env (MakesVariant of variant)) parts (variant_free of variant)
    bound_free bound b (Some (binding.MakeStruct of parts)) = form_free bound (form s.env (MakesStruct of)) parts (struct_free of)
    bound_free bound b (Some (binding.MatchSome source)) = tt
    bound_free bound b (Some (binding.MatchTuple source field)) = tt
    bound_free bound b (Some (binding.Argument index)) = tt
    bound_free bound b (Some (binding.ConstBool val ty)) = tt
    bound_free bound b (Some (binding.ConstInt val ty)) = tt
    bound_free bound b (Some (binding.ConstPrim val)) = tt
    bound_free bound b (Some (binding.Iterator source)) = tt
    bound_free bound b (Some (binding.MatchVariant source variant field)) = tt
    bound_free bound b (Some (binding.ExtractStruct source field)) = tt
    bound_free bound b (Some (binding.MakeSome inner)) = tt
    bound_free bound b None = tt

    stmt_free : (bound : List ℕ) (b : BindingId) → AllFree (of_stmt own_types (bound_stmt s bound b))
    stmt_free bound b = local_by (λ st. AllFree (of_stmt own_types st)) (binds_list s b) b.0 (bound_expr s bound b (slice_get s.bindings b.0)) (bound_free bound b (slice_get s.bindings b.0)) (λ borrow call e. tt)

    result_free : (k : ReturnKind) (r : Read) → AllFree (of_stmt own_types (result_stmt k r))
    result_free kind.Plain r = tt
    result_free kind.Option r = tt
    result_free kind.Iterator r = tt

    named_free : (ty : Sym) (variant : Option Sym) (more : Bool) (binds : List TBind) → Free (sym_text s.env ty) → AllFree (pattern_types (pattern_named s.env ty variant more binds))
    named_free ty (Some variant) more binds h = (h, tt)
    named_free ty None more binds h = (h, tt)

    pattern_free : (o : Option Form) (places : List (Option BindingId)) → ((g : Form) → o ≡ Some g → Free (sym_text s.env g.ty)) → AllFree (pattern_types (written_pattern (form_pattern s.env o places)))
    pattern_free None places h = tt
    pattern_free (Some g) places h = one (field_binds s.env (typed_fields s.env g.fields) places)
      where
        one : (b : Option (List TBind)) → AllFree (pattern_types (written_pattern (option_map (pattern_named s.env g.ty g.variant (leaves_out (typed_fields s.env g.fields) places)) b)))
        one None = tt
        one (Some binds) = named_free g.ty g.variant (leaves_out (typed_fields s.env g.fields) places) binds (h g refl)

    some_free : (places : List (Option BindingId)) → AllFree (pattern_types (written_pattern (some_pattern places)))
    some_free [] = tt
    some_free (b ∷ []) = tt
    some_free (b ∷ c ∷ places) = tt

    arm_free : (bound : List ℕ) (over : BindingId) (c : Constraint) (places : List (Option BindingId)) (inside : Body) → AllFree (own_types (arm_stmt s bound over c places inside))
    arm_free bound over (constraint.ConstBool val) places inside = tt
    arm_free bound over (constraint.ConstInt val of) places inside = tt
    arm_free bound over (constraint.ConstPrim val) places inside = tt
    arm_free bound over (constraint.Variant of variant) places inside = pattern_free (form s.env (MakesVariant of variant)) places (variant_free of variant)
    arm_free bound over (constraint.Struct of) places inside = pattern_free (form s.env (MakesStruct of)) places (struct_free of)
    arm_free bound over constraint.Some places inside = some_free places

    -- so the pattern of one of several arms
    case_free : (c : Constraint) (places : List (Option BindingId)) → AllFree (pattern_types (written_arm s.env c places))
    case_free (constraint.ConstBool val) places = tt
    case_free (constraint.ConstInt val of) places = tt
    case_free (constraint.ConstPrim val) places = tt
    case_free (constraint.Variant of variant) places = pattern_free (form s.env (MakesVariant of variant)) places (variant_free of variant)
    case_free (constraint.Struct of) places = pattern_free (form s.env (MakesStruct of)) places (struct_free of)
    case_free constraint.Some places = some_free places

    cases_free : (source : BindingId) (over : Source) (arms : tree.Arms) → AreArmsOf s Anything source over arms → AllFree (arms_types arms)
    cases_free source over tree.NoArm k = tt
    cases_free source over (tree.Arm pat inside arms) k = both (pattern_types pat) (arms_types arms) (subst (λ x. AllFree (pattern_types x)) (sym k.0.is) (case_free k.0.c k.0.places)) (cases_free source over arms k.1)

    -- each type in a statement that emission makes
    pub types_made : EachMade own_types Free s Anything
    types_made = record {
      bound = λ bound b h. stmt_free bound b;
      result = λ bound result h. result_free (kind_of s.term.kind) (written_read s bound false result);
      stop = λ inside limit. tt;
      split = λ inside within. tt;
      log = λ line. tt;
      equal = λ bound a b ty inside h k. tt;
      arm = λ bound source over c places inside h is k w. arm_free bound source c places inside;
      several = λ bound source over c arms h is k. cases_free source over arms k;
      loop = λ list item inside. tt;
    }

  pub tail_free : (k : ReturnKind) (name place : List ℕ) (b : Block) → AllFree (all_types (tail_of k name place b))
  tail_free k name place b = one (ends_in_return b) refl
    where
      mark_free : (mark : Option (Option (List ℕ × List ℕ))) → AllFree (all_types (tail_body mark))
      mark_free None = tt
      mark_free (Some mark) = tt

      one : (x : Bool) → ends_in_return b ≡ x → AllFree (all_types (tail_of k name place b))
      one true e = rw e tt
      one false e = rw e (mark_free (mark_of k name place))
