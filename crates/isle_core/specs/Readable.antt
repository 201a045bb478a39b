-- Bindings that may be read.
use Rattle.std.specs.Prelude.{◌≡◌, ℕ, ℤ, List, [], ◌∷◌, Bool, Some, Contains, slice_get}
use Rattle.isle_base.specs.declared.ids.BindingId.{BindingId}
use Rattle.isle_base.specs.declared.ids.Sym.{Sym}
use Rattle.isle_base.specs.declared.ids.TypeId.{TypeId}
use Rattle.isle_base.specs.declared.ids.VariantId.{VariantId}
use Rattle.isle_core.specs.declared.rule_sets.Binding.TheVariants as binding
use Rattle.isle_core.specs.Path.{Path, Nowhere, Arg, ConstBool, ConstInt, ConstPrim, Extracted, Called, Chosen, MadeVariant, MadeStruct, VariantField, StructField, Wrapped, Inner, Part, at}
use Rattle.isle_core.specs.PathType.{IsPathOf, IsOptionOf}
use Rattle.isle_core.specs.Setting.{Setting, paths_in}

-- the path of an argument, or of a constant
abbrev pub IsInPlace : Path → Type 0
IsInPlace (Arg i) = Unit {0}
IsInPlace (ConstBool ty b) = Unit {0}
IsInPlace (ConstInt ty n) = Unit {0}
IsInPlace (ConstPrim name) = Unit {0}
IsInPlace (Extracted term p) = ⊥
IsInPlace (Called term ps instance) = ⊥
IsInPlace (Chosen p) = ⊥
IsInPlace (MadeVariant ty variant ps) = ⊥
IsInPlace (MadeStruct ty ps) = ⊥
IsInPlace (VariantField variant field p) = ⊥
IsInPlace (StructField field p) = ⊥
IsInPlace (Wrapped p) = ⊥
IsInPlace (Inner p) = ⊥
IsInPlace (Part part p) = ⊥
IsInPlace Nowhere = ⊥

-- a binding that may be read if these are bound: one of them, an argument, a constant, or a made value of parts that may be
-- read
mutual
  pub data IsReadable (s : Setting) (bound : List ℕ) : BindingId → Type 0 where
    is_bound : (b : BindingId) → Contains bound b.0 → IsReadable s bound b
    argument : (b : BindingId) (index : ℕ) → slice_get s.bindings b.0 ≡ Some (binding.Argument index) → IsReadable s bound b
    truth : (b : BindingId) (val : Bool) (ty : TypeId) → slice_get s.bindings b.0 ≡ Some (binding.ConstBool val ty) → IsReadable s bound b
    number : (b : BindingId) (val : ℤ) (ty : TypeId) → slice_get s.bindings b.0 ≡ Some (binding.ConstInt val ty) → IsReadable s bound b
    named : (b : BindingId) (val : Sym) → slice_get s.bindings b.0 ≡ Some (binding.ConstPrim val) → IsReadable s bound b
    made_variant : (b : BindingId) (ty : TypeId) (variant : VariantId) (fields : List BindingId) → slice_get s.bindings b.0 ≡ Some (binding.MakeVariant ty variant fields) → AreReadable s bound fields → IsReadable s bound b
    made_struct : (b : BindingId) (ty : TypeId) (fields : List BindingId) → slice_get s.bindings b.0 ≡ Some (binding.MakeStruct ty fields) → AreReadable s bound fields → IsReadable s bound b

  -- so of each
  pub data AreReadable (s : Setting) (bound : List ℕ) : List BindingId → Type 0 where
    none_read : AreReadable s bound []
    one_read : (b : BindingId) (more : List BindingId) → IsReadable s bound b → AreReadable s bound more → AreReadable s bound (b ∷ more)

-- a binding of the type that may be read
pub record IsReadAs (s : Setting) (bound : List ℕ) (b : BindingId) (ty : TypeId) : Type 0 where
  pub path : IsPathOf s.env s.term (at (paths_in s) b) ty
  pub read : IsReadable s bound b

-- a bound option of a value, or of a tuple
pub record IsOptionRead (s : Setting) (bound : List ℕ) (b : BindingId) (tys : List TypeId) : Type 0 where
  pub path : IsOptionOf s.env s.term (at (paths_in s) b) tys
  pub bound' : Contains bound b.0

-- as many bindings as types
abbrev pub AreReadAs : Setting → List ℕ → List BindingId → List TypeId → Type 0
AreReadAs s bound [] [] = Unit {0}
AreReadAs s bound (b ∷ more) (ty ∷ tys) = IsReadAs s bound b ty × AreReadAs s bound more tys
AreReadAs s bound [] (ty ∷ tys) = ⊥
AreReadAs s bound (b ∷ more) [] = ⊥
