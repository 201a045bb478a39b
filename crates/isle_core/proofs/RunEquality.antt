-- Where the run's equality is the source's.
use Rattle.std.proofs.Common.{◌≡◌, ℤ, [], ◌∷◌, Bool, true, false, ◌&&◌, refl, sym, ap, ◌∙◌, subst}
use Rattle.std.specs.Ordering.{int_eq}
use Rattle.std.proofs.lemmas.Bool.Decides.{Decides-int_eq}
use Rattle.std.proofs.lemmas.Slice.Eq.{bytes_eq-Decides}
use Rattle.std.specs.Prelude.{ℕ, List, Option, Some, None, IsSomeAnd, slice_get}
use Rattle.std.specs.Str.{bytes_eq}
use Rattle.isle_base.specs.declared.ids.TypeId.{TypeId}
use Rattle.isle_core.specs.declared.types.BuiltinType.TheVariants as builtin
use Rattle.isle_core.specs.declared.types.TypeDef.{TypeDef}
use Rattle.isle_core.specs.declared.types.TypeDef.TheVariants as def
use Rattle.isle_core.specs.BuiltinType.{IsBuiltinDef, IsBuiltinType}
use Rattle.isle_core.specs.HasType.{TakesOpaque, variant_fields, struct_fields, IsOfDef, AreFieldsOf, HasType}
use Rattle.isle_core.specs.Rule.{Environment}
use Rattle.isle_core.specs.SameInRun.{same_in_run, same_fields_in_run}
use Rattle.isle_core.specs.SameValue.{same_value, same_fields}
use Rattle.isle_core.specs.Value.{Value, Truth, Int, Opaque, Variant, Struct, FieldValues, NoField, Field}
use Rattle.isle_core.proofs.SameValueLaws.{same_value-self}

-- a value that holds no opaque number
abbrev mutual
  pub IsClear : Value → Type 0
  IsClear (Truth b) = Unit {0}
  IsClear (Int ty n) = Unit {0}
  IsClear (Opaque ty n) = ⊥
  IsClear (Variant ty name fs) = AreClear fs
  IsClear (Struct ty fs) = AreClear fs

  pub AreClear : FieldValues → Type 0
  AreClear NoField = Unit {0}
  AreClear (Field name v fs) = IsClear v × AreClear fs

mutual
  unfolding same_value same_in_run

  -- a run compares such a value as the source does
  pub clear_same : (v w : Value) → IsClear v → same_in_run v w ≡ same_value v w
  clear_same (Truth a) (Truth b) c = refl
  clear_same (Int s a) (Int t b) c = refl
  clear_same (Opaque s a) w c = absurd c
  clear_same (Variant s a fs) (Variant t b gs) c = ap (λ x. bytes_eq s t && bytes_eq a b && x) (clear_fields fs gs c)
  clear_same (Struct s fs) (Struct t gs) c = ap (λ x. bytes_eq s t && x) (clear_fields fs gs c)
  clear_same v w c = refl

  pub clear_fields : (fs gs : FieldValues) → AreClear fs → same_fields_in_run fs gs ≡ same_fields fs gs
  clear_fields NoField NoField c = refl
  clear_fields (Field a v fs) (Field b w gs) c = ap (λ x. bytes_eq a b && x && same_fields_in_run fs gs) (clear_same v w c.0) ∙ ap (λ x. bytes_eq a b && same_value v w && x) (clear_fields fs gs c.1)
  clear_fields fs gs c = refl

mutual
  unfolding same_value same_in_run

  -- so if it is the other one
  pub same_clear : (v w : Value) → IsClear w → same_in_run v w ≡ same_value v w
  same_clear (Truth a) (Truth b) c = refl
  same_clear (Int s a) (Int t b) c = refl
  same_clear v (Opaque t b) c = absurd c
  same_clear (Variant s a fs) (Variant t b gs) c = ap (λ x. bytes_eq s t && bytes_eq a b && x) (fields_clear fs gs c)
  same_clear (Struct s fs) (Struct t gs) c = ap (λ x. bytes_eq s t && x) (fields_clear fs gs c)
  same_clear v w c = refl

  pub fields_clear : (fs gs : FieldValues) → AreClear gs → same_fields_in_run fs gs ≡ same_fields fs gs
  fields_clear NoField NoField c = refl
  fields_clear (Field a v fs) (Field b w gs) c = ap (λ x. bytes_eq a b && x && same_fields_in_run fs gs) (same_clear v w c.0) ∙ ap (λ x. bytes_eq a b && same_value v w && x) (fields_clear fs gs c.1)
  fields_clear fs gs c = refl

-- ---- itself

both_true : (x y : Bool) → x ≡ true → y ≡ true → (x && y) ≡ true
both_true true y h k = k
both_true false y h k = h

bytes_self : (s : List ℕ) → bytes_eq s s ≡ true
bytes_self s = (bytes_eq-Decides s s).1 refl

mutual
  unfolding same_value same_in_run

  -- each value equals itself in a run
  pub same_in_run-self : (v : Value) → same_in_run v v ≡ true
  same_in_run-self (Truth b) = same_value-self (Truth b)
  same_in_run-self (Int ty n) = same_value-self (Int ty n)
  same_in_run-self (Opaque ty n) = (Decides-int_eq n n).1 refl
  same_in_run-self (Variant ty name fs) = both_true (bytes_eq ty ty && bytes_eq name name) (same_fields_in_run fs fs) (both_true (bytes_eq ty ty) (bytes_eq name name) (bytes_self ty) (bytes_self name)) (same_fields_in_run-self fs)
  same_in_run-self (Struct ty fs) = both_true (bytes_eq ty ty) (same_fields_in_run fs fs) (bytes_self ty) (same_fields_in_run-self fs)

  pub same_fields_in_run-self : (fs : FieldValues) → same_fields_in_run fs fs ≡ true
  same_fields_in_run-self NoField = refl
  same_fields_in_run-self (Field name v fs) = both_true (bytes_eq name name && same_in_run v v) (same_fields_in_run fs fs) (both_true (bytes_eq name name) (same_in_run v v) (bytes_self name) (same_in_run-self v)) (same_fields_in_run-self fs)

-- ---- values of types

-- opaque numbers of one type have one name
one_name : (env : Environment) (d : TypeDef) (s t : List ℕ) (a b : ℤ) → TakesOpaque env d s a → TakesOpaque env d t b → s ≡ t
one_name env (def.Primitive name rust pos) s t a b h k = h.0 ∙ sym k.0
one_name env (def.Enum name true is_nodebug variants pos) s t a b h k = h.0 ∙ sym k.0
one_name env (def.Struct name true is_nodebug fields pos) s t a b h k = h.0 ∙ sym k.0
one_name env (def.Enum name false is_nodebug variants pos) s t a b h k = absurd h
one_name env (def.Struct name false is_nodebug fields pos) s t a b h k = absurd h
one_name env (def.Builtin of) s t a b h k = absurd h

-- the fields of a type are compared alike
abbrev AreAlike : Environment → FieldValues → FieldValues → Type 0
AreAlike env fs gs = (o : Option (List (List ℕ × TypeId))) → AreFieldsOf env o fs → AreFieldsOf env o gs → same_fields_in_run fs gs ≡ same_fields fs gs

and_parts : (x y : Bool) → (x && y) ≡ true → (x ≡ true) × (y ≡ true)
and_parts true y e = (refl, e)
and_parts false y e = absurd cc

variants_alike : (env : Environment) (d : TypeDef) (s a t b : List ℕ) (fs gs : FieldValues) → AreFieldsOf env (variant_fields env d s a) fs → AreFieldsOf env (variant_fields env d t b) gs → AreAlike env fs gs
    → (bytes_eq s t && bytes_eq a b && same_fields_in_run fs gs) ≡ (bytes_eq s t && bytes_eq a b && same_fields fs gs)
variants_alike env d s a t b fs gs h k alike = by (bytes_eq s t && bytes_eq a b) refl
  where
    by : (x : Bool) → (bytes_eq s t && bytes_eq a b) ≡ x → (x && same_fields_in_run fs gs) ≡ (x && same_fields fs gs)
    by true e =
        let parts = and_parts (bytes_eq s t) (bytes_eq a b) e in
        let one : t ≡ s = sym ((bytes_eq-Decides s t).0 parts.0) in
        let two : b ≡ a = sym ((bytes_eq-Decides a b).0 parts.1) in
        alike (variant_fields env d s a) h (subst (λ y. AreFieldsOf env (variant_fields env d s y) gs) two (subst (λ x. AreFieldsOf env (variant_fields env d x b) gs) one k))
    by false e = refl

structs_alike : (env : Environment) (d : TypeDef) (s t : List ℕ) (fs gs : FieldValues) → AreFieldsOf env (struct_fields env d s) fs → AreFieldsOf env (struct_fields env d t) gs → AreAlike env fs gs
    → (bytes_eq s t && same_fields_in_run fs gs) ≡ (bytes_eq s t && same_fields fs gs)
structs_alike env d s t fs gs h k alike = by (bytes_eq s t) refl
  where
    by : (x : Bool) → bytes_eq s t ≡ x → (x && same_fields_in_run fs gs) ≡ (x && same_fields fs gs)
    by true e = alike (struct_fields env d s) h (subst (λ x. AreFieldsOf env (struct_fields env d x) gs) (sym ((bytes_eq-Decides s t).0 e)) k)
    by false e = refl

values_alike : (env : Environment) (o : Option TypeDef) (v w : Value) → IsSomeAnd o (λ d. IsOfDef env d v) → IsSomeAnd o (λ d. IsOfDef env d w)
    → ((d : TypeDef) → IsOfDef env d v → IsOfDef env d w → same_in_run v w ≡ same_value v w) → same_in_run v w ≡ same_value v w
values_alike env None v w h k alike = absurd h
values_alike env (Some d) v w h k alike = alike d h k

mutual
  unfolding same_value same_in_run

  def_same : (v w : Value) (env : Environment) (d : TypeDef) → IsOfDef env d v → IsOfDef env d w → same_in_run v w ≡ same_value v w
  def_same (Truth a) (Truth b) env d h k = refl
  def_same (Int s a) (Int t b) env d h k = refl
  def_same (Opaque s a) (Opaque t b) env d h k = ap (λ x. x && int_eq a b) (sym ((bytes_eq-Decides s t).1 (one_name env d s t a b h k)))
  def_same (Variant s a fs) (Variant t b gs) env d h k = variants_alike env d s a t b fs gs h k (λ o. fields_same fs gs env o)
  def_same (Struct s fs) (Struct t gs) env d h k = structs_alike env d s t fs gs h k (λ o. fields_same fs gs env o)
  def_same v w env d h k = refl

  fields_same : (fs gs : FieldValues) (env : Environment) → AreAlike env fs gs
  fields_same NoField gs env o h k = none gs
    where
      none : (gs : FieldValues) → same_fields_in_run NoField gs ≡ same_fields NoField gs
      none NoField = refl
      none (Field b w gs) = refl
  fields_same (Field a v fs) NoField env o h k = refl
  fields_same (Field a v fs) (Field b w gs) env None h k = absurd h
  fields_same (Field a v fs) (Field b w gs) env (Some []) h k = absurd h
  fields_same (Field a v fs) (Field b w gs) env (Some (f ∷ more)) h k =
      ap (λ x. bytes_eq a b && x && same_fields_in_run fs gs) (values_alike env (slice_get env.types.types f.1.0) v w h.1 k.1 (λ d. def_same v w env d))
      ∙ ap (λ x. bytes_eq a b && same_value v w && x) (fields_same fs gs env (Some more) h.2 k.2)

-- a run compares values of one type as the source does
pub typed_same : (env : Environment) (v w : Value) (ty : TypeId) → HasType env v ty → HasType env w ty → same_in_run v w ≡ same_value v w
typed_same env v w ty h k = values_alike env (slice_get env.types.types ty.0) v w h k (λ d. def_same v w env d)

clear_of : (env : Environment) (o : Option TypeDef) (v : Value) → IsSomeAnd o IsBuiltinDef → IsSomeAnd o (λ d. IsOfDef env d v) → IsClear v
clear_of env None v b h = absurd b
clear_of env (Some (def.Builtin builtin.Bool)) (Truth c) b h = tt
clear_of env (Some (def.Builtin (builtin.Int ty))) (Int of n) b h = tt
clear_of env (Some (def.Builtin of)) (Opaque ty n) b h = absurd h
clear_of env (Some (def.Builtin of)) (Variant ty variant fs) b h = absurd h
clear_of env (Some (def.Builtin of)) (Struct ty fs) b h = absurd h
clear_of env (Some (def.Builtin builtin.Bool)) (Int of n) b h = absurd h
clear_of env (Some (def.Builtin (builtin.Int ty))) (Truth c) b h = absurd h
clear_of env (Some (def.Primitive name rust pos)) v b h = absurd b
clear_of env (Some (def.Enum name is_extern is_nodebug variants pos)) v b h = absurd b
clear_of env (Some (def.Struct name is_extern is_nodebug fields pos)) v b h = absurd b

-- so of any value and one of a builtin type
pub same_builtin : (env : Environment) (v w : Value) (ty : TypeId) → IsBuiltinType env ty → HasType env w ty → same_in_run v w ≡ same_value v w
same_builtin env v w ty b h = same_clear v w (clear_of env (slice_get env.types.types ty.0) w b h)
