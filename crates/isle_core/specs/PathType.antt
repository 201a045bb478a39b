-- The types of what stands at paths.
use Rattle.std.specs.Prelude.{◌≡◌, List, [], ◌∷◌, Some, IsSomeAnd, slice_get}
use Rattle.isle_base.specs.declared.ids.TypeId.{TypeId}
use Rattle.isle_core.specs.declared.types.ReturnKind.TheVariants as return_kind
use Rattle.isle_core.specs.declared.types.Term.{Term}
use Rattle.isle_core.specs.Form.{form, form_types}
use Rattle.isle_core.specs.Making.{MakesVariant, MakesStruct}
use Rattle.isle_core.specs.PatternType.{IsNumeric}
use Rattle.isle_core.specs.HasType.{HasType}
use Rattle.isle_core.specs.Value.{Truth}
use Rattle.isle_core.specs.Constants.{int_value, const_type}
use Rattle.isle_core.specs.Calling.{calling, extracting}
use Rattle.isle_core.specs.ExternalCall.{IsCall, IsExtraction}
use Rattle.isle_core.specs.Path.{Path, Nowhere, Arg, ConstBool, ConstInt, ConstPrim, Extracted, Called, Chosen, MadeVariant, MadeStruct, VariantField, StructField, Wrapped, Inner, Part, Paths, NoPath, APath}
use Rattle.isle_core.specs.Rule.{Environment}

-- none or several, which an answer has as a tuple
abbrev pub AreTuple : List TypeId → Type 0
AreTuple [] = Unit {0}
AreTuple (ty ∷ []) = ⊥
AreTuple (ty ∷ more ∷ tys) = Unit {0}

-- a path of which a value of the type stands where the binding of the path is bound or may be read. Options that are made are not built
abbrev mutual
  pub IsPathOf : Environment → Term → Path → TypeId → Type 0
  IsPathOf env t (Arg i) ty = slice_get t.arg_tys i ≡ Some ty
  IsPathOf env t (ConstBool of b) ty = (of ≡ ty) × HasType env (Truth b) ty
  IsPathOf env t (ConstInt of n) ty = (of ≡ ty) × HasType env (int_value env ty n) ty × IsNumeric env ty
  IsPathOf env t (ConstPrim name) ty = const_type env name ≡ Some ty
  IsPathOf env t (Called term ps instance) ty = IsCall return_kind.Plain (calling env term) × IsSomeAnd (slice_get env.terms term.0) (λ (c : Term). (c.ret_ty ≡ ty) × ArePathsOf env t ps c.arg_tys)
  IsPathOf env t (Inner p) ty = IsOptionOf env t p (ty ∷ [])
  IsPathOf env t Nowhere ty = ⊥
  IsPathOf env t (Extracted term q) ty = IsExtraction return_kind.Plain (extracting env term) × IsSomeAnd (slice_get env.terms term.0) (λ (c : Term). (c.arg_tys ≡ ty ∷ []) × IsPathOf env t q c.ret_ty)
  IsPathOf env t (Chosen q) ty = IsListOf env t q (ty ∷ [])
  IsPathOf env t (MadeVariant of variant ps) ty = (of ≡ ty) × IsSomeAnd (form env (MakesVariant of variant)) (λ f. ArePathsOf env t ps (form_types env f))
  IsPathOf env t (MadeStruct of ps) ty = (of ≡ ty) × IsSomeAnd (form env (MakesStruct of)) (λ f. ArePathsOf env t ps (form_types env f))
  IsPathOf env t (VariantField variant field q) ty = (of : TypeId) × IsPathOf env t q of × IsSomeAnd (form env (MakesVariant of variant)) (λ f. slice_get (form_types env f) field ≡ Some ty)
  IsPathOf env t (StructField field q) ty = (of : TypeId) × IsPathOf env t q of × IsSomeAnd (form env (MakesStruct of)) (λ f. slice_get (form_types env f) field ≡ Some ty)
  IsPathOf env t (Wrapped q) ty = ⊥
  IsPathOf env t (Part part q) ty = (tys : List TypeId) × IsTupleOf env t q tys × (slice_get tys part ≡ Some ty)

  -- a path that holds a tuple of values of these types
  pub IsTupleOf : Environment → Term → Path → List TypeId → Type 0
  IsTupleOf env t (Extracted term q) tys = AreTuple tys × IsExtraction return_kind.Plain (extracting env term) × IsSomeAnd (slice_get env.terms term.0) (λ (c : Term). (c.arg_tys ≡ tys) × IsPathOf env t q c.ret_ty)
  IsTupleOf env t (Inner p) tys = AreTuple tys × IsOptionOf env t p tys
  IsTupleOf env t Nowhere tys = ⊥
  IsTupleOf env t (Arg i) tys = ⊥
  IsTupleOf env t (ConstBool of b) tys = ⊥
  IsTupleOf env t (ConstInt of n) tys = ⊥
  IsTupleOf env t (ConstPrim name) tys = ⊥
  IsTupleOf env t (Called term ps instance) tys = ⊥
  IsTupleOf env t (Chosen q) tys = AreTuple tys × IsListOf env t q tys
  IsTupleOf env t (MadeVariant of variant ps) tys = ⊥
  IsTupleOf env t (MadeStruct of ps) tys = ⊥
  IsTupleOf env t (VariantField variant field q) tys = ⊥
  IsTupleOf env t (StructField field q) tys = ⊥
  IsTupleOf env t (Wrapped q) tys = ⊥
  IsTupleOf env t (Part part q) tys = ⊥

  -- a path that holds an option: of a value if there is one type, else of a tuple
  pub IsOptionOf : Environment → Term → Path → List TypeId → Type 0
  IsOptionOf env t (Called term ps instance) tys = IsCall return_kind.Option (calling env term) × IsSomeAnd (slice_get env.terms term.0) (λ (c : Term). (c.ret_ty ∷ [] ≡ tys) × ArePathsOf env t ps c.arg_tys)
  IsOptionOf env t (Extracted term q) tys = IsExtraction return_kind.Option (extracting env term) × IsSomeAnd (slice_get env.terms term.0) (λ (c : Term). (c.arg_tys ≡ tys) × IsPathOf env t q c.ret_ty)
  IsOptionOf env t Nowhere tys = ⊥
  IsOptionOf env t (Arg i) tys = ⊥
  IsOptionOf env t (ConstBool of b) tys = ⊥
  IsOptionOf env t (ConstInt of n) tys = ⊥
  IsOptionOf env t (ConstPrim name) tys = ⊥
  IsOptionOf env t (Chosen q) tys = ⊥
  IsOptionOf env t (MadeVariant of variant ps) tys = ⊥
  IsOptionOf env t (MadeStruct of ps) tys = ⊥
  IsOptionOf env t (VariantField variant field q) tys = ⊥
  IsOptionOf env t (StructField field q) tys = ⊥
  IsOptionOf env t (Wrapped q) tys = ⊥
  IsOptionOf env t (Inner q) tys = ⊥
  IsOptionOf env t (Part part q) tys = ⊥

  -- a path that holds a list: of values if there is one type, else of tuples
  pub IsListOf : Environment → Term → Path → List TypeId → Type 0
  IsListOf env t (Called term ps instance) tys = IsCall return_kind.Iterator (calling env term) × IsSomeAnd (slice_get env.terms term.0) (λ (c : Term). (c.ret_ty ∷ [] ≡ tys) × ArePathsOf env t ps c.arg_tys)
  IsListOf env t (Extracted term q) tys = IsExtraction return_kind.Iterator (extracting env term) × IsSomeAnd (slice_get env.terms term.0) (λ (c : Term). (c.arg_tys ≡ tys) × IsPathOf env t q c.ret_ty)
  IsListOf env t Nowhere tys = ⊥
  IsListOf env t (Arg i) tys = ⊥
  IsListOf env t (ConstBool of b) tys = ⊥
  IsListOf env t (ConstInt of n) tys = ⊥
  IsListOf env t (ConstPrim name) tys = ⊥
  IsListOf env t (Chosen q) tys = ⊥
  IsListOf env t (MadeVariant of variant ps) tys = ⊥
  IsListOf env t (MadeStruct of ps) tys = ⊥
  IsListOf env t (VariantField variant field q) tys = ⊥
  IsListOf env t (StructField field q) tys = ⊥
  IsListOf env t (Wrapped q) tys = ⊥
  IsListOf env t (Inner q) tys = ⊥
  IsListOf env t (Part part q) tys = ⊥

  -- as many paths as types, each of its type
  pub ArePathsOf : Environment → Term → Paths → List TypeId → Type 0
  ArePathsOf env t NoPath [] = Unit {0}
  ArePathsOf env t (APath p ps) (ty ∷ tys) = IsPathOf env t p ty × ArePathsOf env t ps tys
  ArePathsOf env t NoPath (ty ∷ tys) = ⊥
  ArePathsOf env t (APath p ps) [] = ⊥
