-- Values of types are of the types of these names.
use Rattle.std.proofs.Common.{◌≡◌, ℕ, suc, ◌+◌, List, [], ◌∷◌, map, Bool, true, false, cond, Option, Some, None, refl, sym, ap, ◌∙◌, subst, arith}
use Rattle.std.specs.Prelude.{ℤ, ◌&&◌, not, find, IsSomeAnd, is_some, option_map, slice_get, codes, if◌then◌else◌}
use Rattle.std.specs.Fmt.{decimal}
use Rattle.std.specs.List.{AllByRecursion}
use Rattle.std.specs.Str.{bytes_eq}
use Rattle.std.proofs.lemmas.Slice.Eq.{bytes_eq-Decides}
use Rattle.isle_core.specs.declared.Sym.{Sym}
use Rattle.isle_core.specs.declared.TypeId.{TypeId}
use Rattle.isle_core.specs.declared.types.Field.{Field as FieldDef}
use Rattle.isle_core.specs.declared.types.Fields.{Fields}
use Rattle.isle_core.specs.declared.types.Fields.TheVariants as fields
use Rattle.isle_core.specs.declared.types.IntType.{IntType}
use Rattle.isle_core.specs.declared.types.BuiltinType.{BuiltinType}
use Rattle.isle_core.specs.declared.types.BuiltinType.TheVariants as builtin
use Rattle.isle_core.specs.declared.types.ReturnKind.{ReturnKind}
use Rattle.isle_core.specs.declared.types.ReturnKind.TheVariants as kind
use Rattle.isle_core.specs.declared.types.TypeDef.{TypeDef}
use Rattle.isle_core.specs.declared.types.TypeDef.TheVariants as def
use Rattle.isle_core.specs.declared.types.TypeEnv.{TypeEnv}
use Rattle.isle_core.specs.declared.types.Variant.{Variant as VariantDef}
use Rattle.isle_core.specs.HasType.{tuple_fields, typed_fields, variant_fields, struct_fields, TakesTruths, TakesInteger, TakesOpaque, IsReduced, IsOfDef, AreFieldsOf, HasType, HaveTypes}
use Rattle.isle_core.specs.Lawful.{Fits}
use Rattle.isle_core.specs.Rule.{Environment}
use Rattle.isle_core.specs.Terms.{sym_text}
use Rattle.isle_core.specs.Value.{Value, Truth, Int, Opaque, Variant, Struct, FieldValues, NoField, Field, Answer, Plain, Found, Nothing, Several}
use Rattle.isle_core.specs.Int.{type_name, int_types}
use Rattle.isle_printer.specs.Bytes.{same_bytes}
use Rattle.isle_printer.proofs.Bytes.{same_bytes_refl, same_bytes_sound}
use Rattle.isle_spelling.specs.Identifier.{begins}
use Rattle.isle_spelling.specs.Literal.{type_named}
use Rattle.isle_tree.specs.declared.tree.TFields.{TFields}
use Rattle.isle_tree.specs.declared.tree.TypeItem.{TypeItem}
use Rattle.isle_simulation.specs.TypeTexts.{def_text, type_text}
use Rattle.isle_lawful_names.specs.TypeItems.{text_at, fields_shape, variant_item, type_item, items_in}
use Rattle.isle_lawful_names.specs.LawfulNames.{IsLawfulType, emitted_name, AreLawful}
use Rattle.isle_lawful_names.proofs.ListLaws.{all_at}
use Rattle.isle_places.specs.DeclaredTypes as asked
use Rattle.isle_places.specs.DeclaredTypes.{Asked, These, Anything, Nowhere, is_foreign, is_declared, field_types, of_fields, variant_by, variant_asked, struct_by, struct_asked, foreign_asked, takes_opaque}
use Rattle.isle_interpreter.proofs.ValueKeys.{named_again}
use Rattle.isle_interpreter.specs.Entries.{is_typed}
use Rattle.isle_interpreter.specs.Named.{IsNamed, AreAsked, AreNamed, AnswerFits}
use Rattle.isle_run.proofs.DeclaredItems.{same_def, found_item}

-- each builtin type is among the types
abbrev pub HasBuiltins : TypeEnv → Type 0
HasBuiltins types = (of : BuiltinType) → (i : ℕ) × (slice_get types.types i ≡ Some (def.Builtin of))

-- a type that is not builtin
abbrev IsForeignDef : TypeDef → Type 0
IsForeignDef (def.Builtin of) = ⊥
IsForeignDef (def.Primitive name rust pos) = Unit {0}
IsForeignDef (def.Enum name is_extern is_nodebug variants pos) = Unit {0}
IsForeignDef (def.Struct name is_extern is_nodebug fields pos) = Unit {0}

-- what is found passes the test
found_passes : {A : Type 0} (test : A → Bool) (xs : List A) (x : A) → find test xs ≡ Some x → test x ≡ true
found_passes test [] x e = absurd cc
found_passes test (y ∷ xs) x e = by (test y) refl e (found_passes test xs x)
  where
    by : (b : Bool) → test y ≡ b → cond b (Some y) (find test xs) ≡ Some x → (find test xs ≡ Some x → test x ≡ true) → test x ≡ true
    by true is h later = let same : y ≡ x = cc in ap test (sym same) ∙ is
    by false is h later = later h

-- finding among what is made of items
pub found_made : {A B : Type 0} (test : B → Bool) (f : A → B) (xs : List A) → find test (map f xs) ≡ option_map f (find (λ x. test (f x)) xs)
found_made test f [] = refl
found_made test f (x ∷ xs) = by (test (f x)) (found_made test f xs)
  where
    by : (b : Bool) → find test (map f xs) ≡ option_map f (find (λ y. test (f y)) xs) → cond b (Some (f x)) (find test (map f xs)) ≡ option_map f (cond b (Some x) (find (λ y. test (f y)) xs))
    by true h = refl
    by false h = h

made_twice : {A B C : Type 0} (f : B → C) (g : A → B) (xs : List A) → map (λ x. f (g x)) xs ≡ map f (map g xs)
made_twice f g [] = refl
made_twice f g (x ∷ xs) = ap (λ ys. f (g x) ∷ ys) (made_twice f g xs)

both_true : (a b c : Bool) → a ≡ true → b ≡ true → c ≡ true → (a && (b && c)) ≡ true
both_true a b c e f g = rw (e, f, g) refl

nonempty : (w : List ℕ) → begins w ≡ true → same_bytes [] w ≡ false
nonempty [] h = absurd cc
nonempty (b ∷ bs) h = refl

module _ (env : Environment) (has_rules : Bool) (lawful : AreLawful has_rules env.types) (builtins : HasBuiltins env.types) where
  abbrev items : List TypeItem
  items = items_in env.types

  abbrev name_of : TypeDef → List ℕ
  name_of d = emitted_name env.types d

  -- a field's name with that of its type
  abbrev pub field_text : List ℕ × TypeId → List ℕ × List ℕ
  field_text f = (f.0, text_at env.types f.1)

  -- ---- names

  there : (i : ℕ) (d : TypeDef) → slice_get env.types.types i ≡ Some d → IsLawfulType has_rules env.types d
  there i d at = all_at (IsLawfulType has_rules env.types) env.types.types i d lawful.types at

  -- a type that has the name of a builtin one is that
  builtin_is : (i : ℕ) (d : TypeDef) (of : BuiltinType) → slice_get env.types.types i ≡ Some d → name_of (def.Builtin of) ≡ name_of d → def.Builtin of ≡ d
  builtin_is i d of at same = same_def env.types env.types.types (builtins of).0 i (def.Builtin of) d lawful.apart.types (builtins of).1 at same

  not_builtin : (d : TypeDef) (of : BuiltinType) → IsForeignDef d → def.Builtin of ≡ d → ⊥
  not_builtin d of foreign same = subst IsForeignDef (sym same) foreign

  no_bool : (i : ℕ) (d : TypeDef) → slice_get env.types.types i ≡ Some d → IsForeignDef d → not (same_bytes (codes "bool") (name_of d)) ≡ true
  no_bool i d at foreign = by (same_bytes (codes "bool") (name_of d)) refl
    where
      by : (b : Bool) → same_bytes (codes "bool") (name_of d) ≡ b → not b ≡ true
      by true is = absurd (not_builtin d builtin.Bool foreign (builtin_is i d builtin.Bool at (same_bytes_sound (codes "bool") (name_of d) is)))
      by false is = refl

  no_integer : (i : ℕ) (d : TypeDef) → slice_get env.types.types i ≡ Some d → IsForeignDef d → not (is_some (type_named (name_of d))) ≡ true
  no_integer i d at foreign = by (type_named (name_of d)) refl
    where
      by : (o : Option IntType) → type_named (name_of d) ≡ o → not (is_some o) ≡ true
      by (Some ty) is = absurd (not_builtin d (builtin.Int ty) foreign (builtin_is i d (builtin.Int ty) at (same_bytes_sound (type_name ty) (name_of d) (found_passes (λ (of : IntType). same_bytes (type_name of) (name_of d)) int_types ty is))))
      by None is = refl

  foreign_name : (i : ℕ) (d : TypeDef) → slice_get env.types.types i ≡ Some d → IsForeignDef d → is_foreign (name_of d) ≡ true
  foreign_name i d at foreign = both_true (not (same_bytes [] (name_of d))) (not (same_bytes (codes "bool") (name_of d))) (not (is_some (type_named (name_of d)))) (ap not (nonempty (name_of d) (there i d at).name.name.identifier.begins)) (no_bool i d at foreign) (no_integer i d at foreign)

  pub item_is : (i : ℕ) (d : TypeDef) → slice_get env.types.types i ≡ Some d → asked.type_item items (name_of d) ≡ type_item env.types d
  item_is i d at = found_item env.types env.types.types i d lawful.apart.types at

  -- ---- opaque numbers

  takes_own : (i : ℕ) (d : TypeDef) (ty : List ℕ) → slice_get env.types.types i ≡ Some d → IsForeignDef d → type_item env.types d ≡ None → ty ≡ name_of d → takes_opaque items (name_of d) ty ≡ true
  takes_own i d ty at foreign none same =
      both_true (same_bytes (name_of d) ty) (is_foreign (name_of d)) (not (is_declared items (name_of d))) (ap (same_bytes (name_of d)) same ∙ same_bytes_refl (name_of d)) (foreign_name i d at foreign)
      (ap (λ o. not (is_some o)) (item_is i d at ∙ none))

  typed_name : (i : ℕ) (d : TypeDef) (ty : List ℕ) → slice_get env.types.types i ≡ Some d → ty ≡ name_of d → not (same_bytes [] ty) ≡ true
  typed_name i d ty at same = ap (λ w. not (same_bytes [] w)) same ∙ ap not (nonempty (name_of d) (there i d at).name.name.identifier.begins)

  opaque_named : (i : ℕ) (d : TypeDef) (ty : List ℕ) (n : ℤ) → slice_get env.types.types i ≡ Some d → TakesOpaque env d ty n → IsNamed items (name_of d) (Opaque ty n)
  opaque_named i (def.Primitive name rust pos) ty n at h = (takes_own i (def.Primitive name rust pos) ty at tt refl h.0, h.1)
  opaque_named i (def.Enum name true is_nodebug variants pos) ty n at h = (takes_own i (def.Enum name true is_nodebug variants pos) ty at tt refl h.0, h.1)
  opaque_named i (def.Struct name true is_nodebug fields pos) ty n at h = (takes_own i (def.Struct name true is_nodebug fields pos) ty at tt refl h.0, h.1)
  opaque_named i (def.Enum name false is_nodebug variants pos) ty n at h = absurd h
  opaque_named i (def.Struct name false is_nodebug fields pos) ty n at h = absurd h
  opaque_named i (def.Builtin of) ty n at h = absurd h

  -- a value of a type is of some type
  opaque_typed : (i : ℕ) (d : TypeDef) (ty : List ℕ) (n : ℤ) → slice_get env.types.types i ≡ Some d → TakesOpaque env d ty n → is_typed (Opaque ty n) ≡ true
  opaque_typed i (def.Primitive name rust pos) ty n at h = typed_name i (def.Primitive name rust pos) ty at h.0
  opaque_typed i (def.Enum name true is_nodebug variants pos) ty n at h = typed_name i (def.Enum name true is_nodebug variants pos) ty at h.0
  opaque_typed i (def.Struct name true is_nodebug fields pos) ty n at h = typed_name i (def.Struct name true is_nodebug fields pos) ty at h.0
  opaque_typed i (def.Enum name false is_nodebug variants pos) ty n at h = absurd h
  opaque_typed i (def.Struct name false is_nodebug fields pos) ty n at h = absurd h
  opaque_typed i (def.Builtin of) ty n at h = absurd h

  typed_by : (v : Value) (i : ℕ) (o : Option TypeDef) → slice_get env.types.types i ≡ o → IsSomeAnd o (λ d. IsOfDef env d v) → is_typed v ≡ true
  typed_by (Truth b) i o at h = refl
  typed_by (Int of n) i o at h = refl
  typed_by (Opaque ty n) i None at h = absurd h
  typed_by (Opaque ty n) i (Some d) at h = opaque_typed i d ty n at h
  typed_by (Variant ty variant fs) i o at h = refl
  typed_by (Struct ty fs) i o at h = refl

  pub value_typed : (v : Value) (ty : TypeId) → HasType env v ty → is_typed v ≡ true
  value_typed v ty h = typed_by v ty.0 (slice_get env.types.types ty.0) refl h

  -- ---- truths and integers

  truth_named : (d : TypeDef) (b : Bool) → TakesTruths d → IsNamed items (name_of d) (Truth b)
  truth_named (def.Builtin builtin.Bool) b h = refl
  truth_named (def.Builtin (builtin.Int ty)) b h = absurd h
  truth_named (def.Primitive name rust pos) b h = absurd h
  truth_named (def.Enum name is_extern is_nodebug variants pos) b h = absurd h
  truth_named (def.Struct name is_extern is_nodebug fields pos) b h = absurd h

  integer_named : (d : TypeDef) (of : IntType) (n : ℤ) → TakesInteger d of n → IsNamed items (name_of d) (Int of n)
  integer_named (def.Builtin (builtin.Int ty)) of n h = (named_again ty ∙ ap Some (sym h.0), subst (λ t. IsReduced t n) (sym h.0) h.1)
  integer_named (def.Builtin builtin.Bool) of n h = absurd h
  integer_named (def.Primitive name rust pos) of n h = absurd h
  integer_named (def.Enum name is_extern is_nodebug variants pos) of n h = absurd h
  integer_named (def.Struct name is_extern is_nodebug fields pos) of n h = absurd h

  -- ---- fields

  tuple_asked : (i : ℕ) (tys : List TypeId) → asked.tuple_fields i (map (text_at env.types) tys) ≡ map field_text (tuple_fields i tys)
  tuple_asked i [] = refl
  tuple_asked i (ty ∷ tys) = ap (λ k. (decimal i, text_at env.types ty) ∷ asked.tuple_fields k (map (text_at env.types) tys)) next ∙ ap (λ r. (decimal i, text_at env.types ty) ∷ r) (tuple_asked (suc i) tys)
    where
      next : i + 1 ≡ suc i
      next = omega arith

  pub shape_asked : (fs : Fields) → field_types (fields_shape env.types fs) ≡ map field_text (typed_fields env fs)
  shape_asked fields.Unit = refl
  shape_asked (fields.Struct []) = refl
  shape_asked (fields.Struct (f ∷ fs)) = made_twice field_text (λ (x : FieldDef). (sym_text env x.name, x.ty)) (f ∷ fs)
  shape_asked (fields.Tuple []) = refl
  shape_asked (fields.Tuple (ty ∷ tys)) = tuple_asked 0 (ty ∷ tys)

  -- what is asked of fields of these names and types
  abbrev AskedSo : FieldValues → Type 0
  AskedSo fs = (known : List (List ℕ × TypeId)) → AreFieldsOf env (Some known) fs → AreAsked items (These (map field_text known)) fs

  -- what a type asks that is extern
  foreign_asks : (i : ℕ) (d : TypeDef) (fs : FieldValues) → slice_get env.types.types i ≡ Some d → IsForeignDef d → AreAsked items (foreign_asked (name_of d)) fs
  foreign_asks i d fs at foreign = subst (λ b. AreAsked items (if b then Anything else Nowhere) fs) (sym (foreign_name i d at foreign)) tt

  -- ---- variants

  shape_of : List VariantDef → List ℕ → Option (List (List ℕ × TypeId))
  shape_of variants variant = option_map (λ (v : VariantDef). typed_fields env v.fields) (find (λ (v : VariantDef). bytes_eq variant (sym_text env v.name)) variants)

  variant_there : (variants : List VariantDef) (variant : List ℕ) (fs : FieldValues) (o : Option VariantDef) → AskedSo fs → AreFieldsOf env (option_map (λ (v : VariantDef). typed_fields env v.fields) o) fs
      → AreAsked items (of_fields (option_map (λ (x : List ℕ × TFields). x.1) (option_map (variant_item env.types) o))) fs
  variant_there variants variant fs None all h = absurd h
  variant_there variants variant fs (Some v) all h = subst (λ known. AreAsked items (These known) fs) (sym (shape_asked v.fields)) (all (typed_fields env v.fields) h)

  enum_asks : (i : ℕ) (name : Sym) (is_extern is_nodebug : Bool) (variants : List VariantDef) (pos : _) (variant : List ℕ) (fs : FieldValues) → slice_get env.types.types i ≡ Some (def.Enum name is_extern is_nodebug variants pos) → AskedSo fs
      → AreFieldsOf env (option_map (λ (v : VariantDef). typed_fields env v.fields) (find (λ (v : VariantDef). bytes_eq variant (sym_text env v.name)) variants)) fs
      → AreAsked items (variant_by (asked.type_item items (sym_text env name)) (sym_text env name) variant) fs
  enum_asks i name true is_nodebug variants pos variant fs at all h =
      let d = def.Enum name true is_nodebug variants pos in
      subst (λ o. AreAsked items (variant_by o (sym_text env name) variant) fs) (sym (item_is i d at)) (foreign_asks i d fs at tt)
  enum_asks i name false is_nodebug variants pos variant fs at all h =
      let d = def.Enum name false is_nodebug variants pos in
      subst (λ o. AreAsked items (variant_by o (sym_text env name) variant) fs) (sym (item_is i d at))
      (subst (λ (o : Option (List ℕ × TFields)). AreAsked items (of_fields (option_map (λ (x : List ℕ × TFields). x.1) o)) fs) (sym (found_made (λ (v : List ℕ × TFields). bytes_eq variant v.0) (variant_item env.types) variants))
      (variant_there variants variant fs (find (λ (v : VariantDef). bytes_eq variant (sym_text env v.name)) variants) all h))

  -- a name that is the type's, or a name to which nothing belongs
  own_name : (name ty : List ℕ) (b : Bool) (of : Option (List (List ℕ × TypeId))) (by : Asked) (fs : FieldValues) → bytes_eq ty name ≡ b → (AreFieldsOf env of fs → AreAsked items by fs) → AreFieldsOf env (if b then of else None) fs
      → AreAsked items (if same_bytes name ty then by else Nowhere) fs
  own_name name ty false of by fs is asks h = absurd h
  own_name name ty true of by fs is asks h =
      let same : ty ≡ name = (bytes_eq-Decides ty name).0 is in
      subst (λ b. AreAsked items (if b then by else Nowhere) fs) (sym (ap (same_bytes name) same ∙ same_bytes_refl name)) (asks h)

  variant_named : (i : ℕ) (d : TypeDef) (ty variant : List ℕ) (fs : FieldValues) → slice_get env.types.types i ≡ Some d → AskedSo fs → AreFieldsOf env (variant_fields env d ty variant) fs → AreAsked items (variant_asked items (name_of d) ty variant) fs
  variant_named i (def.Enum name is_extern is_nodebug variants pos) ty variant fs at all h =
      own_name (sym_text env name) ty (bytes_eq ty (sym_text env name)) (option_map (λ (v : VariantDef). typed_fields env v.fields) (find (λ (v : VariantDef). bytes_eq variant (sym_text env v.name)) variants))
      (variant_by (asked.type_item items (sym_text env name)) (sym_text env name) variant) fs refl (enum_asks i name is_extern is_nodebug variants pos variant fs at all) h
  variant_named i (def.Builtin of) ty variant fs at all h = absurd h
  variant_named i (def.Primitive name rust pos) ty variant fs at all h = absurd h
  variant_named i (def.Struct name is_extern is_nodebug fields pos) ty variant fs at all h = absurd h

  -- ---- structs

  struct_asks : (i : ℕ) (name : Sym) (is_extern is_nodebug : Bool) (given : Fields) (pos : _) (fs : FieldValues) → slice_get env.types.types i ≡ Some (def.Struct name is_extern is_nodebug given pos) → AskedSo fs
      → AreFieldsOf env (Some (typed_fields env given)) fs → AreAsked items (struct_by (asked.type_item items (sym_text env name)) (sym_text env name)) fs
  struct_asks i name true is_nodebug given pos fs at all h =
      let d = def.Struct name true is_nodebug given pos in
      subst (λ o. AreAsked items (struct_by o (sym_text env name)) fs) (sym (item_is i d at)) (foreign_asks i d fs at tt)
  struct_asks i name false is_nodebug given pos fs at all h =
      let d = def.Struct name false is_nodebug given pos in
      subst (λ o. AreAsked items (struct_by o (sym_text env name)) fs) (sym (item_is i d at))
      (subst (λ known. AreAsked items (These known) fs) (sym (shape_asked given)) (all (typed_fields env given) h))

  struct_named : (i : ℕ) (d : TypeDef) (ty : List ℕ) (fs : FieldValues) → slice_get env.types.types i ≡ Some d → AskedSo fs → AreFieldsOf env (struct_fields env d ty) fs → AreAsked items (struct_asked items (name_of d) ty) fs
  struct_named i (def.Struct name is_extern is_nodebug given pos) ty fs at all h =
      own_name (sym_text env name) ty (bytes_eq ty (sym_text env name)) (Some (typed_fields env given)) (struct_by (asked.type_item items (sym_text env name)) (sym_text env name)) fs refl (struct_asks i name is_extern is_nodebug given pos fs at all) h
  struct_named i (def.Builtin of) ty fs at all h = absurd h
  struct_named i (def.Primitive name rust pos) ty fs at all h = absurd h
  struct_named i (def.Enum name is_extern is_nodebug variants pos) ty fs at all h = absurd h

  -- ---- values

  -- a value of a type that is there
  at_type : (v : Value) (i : ℕ) (o : Option TypeDef) → slice_get env.types.types i ≡ o → ((d : TypeDef) → slice_get env.types.types i ≡ Some d → IsOfDef env d v → IsNamed items (name_of d) v) → IsSomeAnd o (λ d. IsOfDef env d v) → IsNamed items (def_text env.types o) v
  at_type v i None at each h = absurd h
  at_type v i (Some d) at each h = each d at h

  mutual
    value_named : (i : ℕ) (d : TypeDef) (v : Value) → slice_get env.types.types i ≡ Some d → IsOfDef env d v → IsNamed items (name_of d) v
    value_named i d (Truth b) at h = truth_named d b h
    value_named i d (Int of n) at h = integer_named d of n h
    value_named i d (Opaque ty n) at h = opaque_named i d ty n at h
    value_named i d (Variant ty variant fs) at h = variant_named i d ty variant fs at (λ known k. fields_named known fs k) h
    value_named i d (Struct ty fs) at h = struct_named i d ty fs at (λ known k. fields_named known fs k) h

    fields_named : (known : List (List ℕ × TypeId)) (fs : FieldValues) → AreFieldsOf env (Some known) fs → AreAsked items (These (map field_text known)) fs
    fields_named [] NoField h = tt
    fields_named [] (Field name v fs) h = absurd h
    fields_named (f ∷ known) NoField h = absurd h
    fields_named (f ∷ known) (Field name v fs) h = (
      ap (same_bytes name) (sym h.0) ∙ same_bytes_refl name,
      at_type v f.1.0 (slice_get env.types.types f.1.0) refl (λ d at k. value_named f.1.0 d v at k) h.1,
      fields_named known fs h.2,
    )

  -- values of types
  pub are_named : (tys : List TypeId) (vs : List Value) → HaveTypes env vs tys → AreNamed items (map (type_text env) tys) vs
  are_named [] [] h = tt
  are_named (ty ∷ tys) (v ∷ vs) h = (at_type v ty.0 (slice_get env.types.types ty.0) refl (λ d at k. value_named ty.0 d v at k) h.0, are_named tys vs h.1)
  are_named [] (v ∷ vs) h = absurd h
  are_named (ty ∷ tys) [] h = absurd h

  -- so in each item
  each_named : (tys : List TypeId) (given : List (List Value)) → AllByRecursion (λ (vs : List Value). HaveTypes env vs tys) given → AllByRecursion (AreNamed items (map (type_text env) tys)) given
  each_named tys [] h = tt
  each_named tys (vs ∷ given) h = (are_named tys vs h.0, each_named tys given h.1)

  -- an answer of this kind with values of types
  pub answer_named : (tys : List TypeId) (of : ReturnKind) (params : List (List ℕ)) (a : Answer) → Fits env of tys a → AnswerFits items (record { params = params; results = map (type_text env) tys; kind = of }) a
  answer_named tys kind.Plain params (Plain vs) h = (refl, are_named tys vs h)
  answer_named tys kind.Plain params (Found vs) h = absurd h
  answer_named tys kind.Plain params Nothing h = absurd h
  answer_named tys kind.Plain params (Several given) h = absurd h
  answer_named tys kind.Option params (Plain vs) h = absurd h
  answer_named tys kind.Option params (Found vs) h = (refl, are_named tys vs h)
  answer_named tys kind.Option params Nothing h = refl
  answer_named tys kind.Option params (Several given) h = absurd h
  answer_named tys kind.Iterator params (Plain vs) h = absurd h
  answer_named tys kind.Iterator params (Found vs) h = absurd h
  answer_named tys kind.Iterator params Nothing h = absurd h
  answer_named tys kind.Iterator params (Several given) h = (refl, each_named tys given h)
