-- What stands at a path has one type.
use Rattle.std.proofs.Common.{◌≡◌, List, [], ◌∷◌, Option, Some, None, sym, ap, ◌∙◌, subst}
use Rattle.std.specs.Prelude.{IsSomeAnd, option_map, option_and_then, slice_get, ℕ}
use Rattle.isle_core.specs.declared.TypeId.{TypeId}
use Rattle.isle_core.specs.declared.types.Term.{Term}
use Rattle.isle_core.specs.Form.{Form, form, form_types}
use Rattle.isle_core.specs.Making.{MakesVariant, MakesStruct}
use Rattle.isle_core.specs.Path.{Path, Arg, ConstBool, ConstInt, ConstPrim, Extracted, Called, Chosen, MadeVariant, MadeStruct, VariantField, StructField, Inner, Part}
use Rattle.isle_core.specs.PathType.{AreTuple, IsPathOf, IsTupleOf, IsOptionOf, IsListOf, ArePathsOf}
use Rattle.isle_core.specs.Rule.{Environment}
use Rattle.isle_simulation.specs.References.{one_result, result_type, extractor_at, results_of, field_type, type_at}

answer_type : (o : Option Term) (ty : TypeId) (P : Term → Type 0) → IsSomeAnd o (λ (c : Term). (c.ret_ty ≡ ty) × P c) → option_map (λ (c : Term). c.ret_ty) o ≡ Some ty
answer_type None ty P h = absurd h
answer_type (Some c) ty P h = ap Some h.0

only_same : (a b : TypeId) → a ∷ [] ≡ b ∷ [] → a ≡ b
only_same a b e = cc

within_type : (o : Option Term) (ty : TypeId) (P : Term → Type 0) → IsSomeAnd o (λ (c : Term). (c.ret_ty ∷ [] ≡ ty ∷ []) × P c) → option_map (λ (c : Term). c.ret_ty) o ≡ Some ty
within_type None ty P h = absurd h
within_type (Some c) ty P h = ap Some (only_same c.ret_ty ty h.0)

extracted_type : (o : Option Term) (ty : TypeId) (P : Term → Type 0) → IsSomeAnd o (λ (c : Term). (c.arg_tys ≡ ty ∷ []) × P c) → result_type o ≡ Some ty
extracted_type None ty P h = absurd h
extracted_type (Some c) ty P h = ap one_result h.0

results_type : (o : Option Term) (tys : List TypeId) (P : Term → Type 0) → IsSomeAnd o (λ (c : Term). (c.arg_tys ≡ tys) × P c) → option_map (λ (c : Term). c.arg_tys) o ≡ Some tys
results_type None tys P h = absurd h
results_type (Some c) tys P h = ap Some h.0

part_type : (env : Environment) (o : Option Form) (field : ℕ) (ty : TypeId) → IsSomeAnd o (λ f. slice_get (form_types env f) field ≡ Some ty) → option_and_then (λ f. slice_get (form_types env f) field) o ≡ Some ty
part_type env None field ty h = absurd h
part_type env (Some f) field ty h = h

option_type : (env : Environment) (t : Term) (p : Path) (ty : TypeId) → IsOptionOf env t p (ty ∷ []) → type_at env t p ≡ Some ty
option_type env t (Called term ps instance) ty h = within_type (slice_get env.terms term.0) ty (λ (c : Term). ArePathsOf env t ps c.arg_tys) h.1
option_type env t (Extracted term q) ty h = extracted_type (slice_get env.terms term.0) ty (λ (c : Term). IsPathOf env t q c.ret_ty) h.1
option_type env t p ty h = absurd h

list_type : (env : Environment) (t : Term) (p : Path) (ty : TypeId) → IsListOf env t p (ty ∷ []) → type_at env t p ≡ Some ty
list_type env t (Called term ps instance) ty h = within_type (slice_get env.terms term.0) ty (λ (c : Term). ArePathsOf env t ps c.arg_tys) h.1
list_type env t (Extracted term q) ty h = extracted_type (slice_get env.terms term.0) ty (λ (c : Term). IsPathOf env t q c.ret_ty) h.1
list_type env t p ty h = absurd h

-- a value is no tuple
no_value : (o : Option Term) (tys : List TypeId) (P : Term → Type 0) → AreTuple tys → IsSomeAnd o (λ (c : Term). (c.ret_ty ∷ [] ≡ tys) × P c) → ⊥
no_value None tys P several h = absurd h
no_value (Some c) tys P several h = subst AreTuple (sym h.0) several

-- the types of a tuple
tuple_types : (env : Environment) (t : Term) (p : Path) (tys : List TypeId) → IsTupleOf env t p tys → results_of env (extractor_at p) ≡ Some tys
tuple_types env t (Extracted term q) tys h = results_type (slice_get env.terms term.0) tys (λ (c : Term). IsPathOf env t q c.ret_ty) h.2
tuple_types env t (Inner p) tys h = within p h.0 h.1
  where
    within : (q : Path) → AreTuple tys → IsOptionOf env t q tys → results_of env (extractor_at q) ≡ Some tys
    within (Called term ps instance) several k = absurd (no_value (slice_get env.terms term.0) tys (λ (c : Term). ArePathsOf env t ps c.arg_tys) several k.1)
    within (Extracted term q) several k = results_type (slice_get env.terms term.0) tys (λ (c : Term). IsPathOf env t q c.ret_ty) k.1
    within q several k = absurd k
tuple_types env t (Chosen p) tys h = within p h.0 h.1
  where
    within : (q : Path) → AreTuple tys → IsListOf env t q tys → results_of env (extractor_at q) ≡ Some tys
    within (Called term ps instance) several k = absurd (no_value (slice_get env.terms term.0) tys (λ (c : Term). ArePathsOf env t ps c.arg_tys) several k.1)
    within (Extracted term q) several k = results_type (slice_get env.terms term.0) tys (λ (c : Term). IsPathOf env t q c.ret_ty) k.1
    within q several k = absurd k
tuple_types env t p tys h = absurd h

pub path_type : (env : Environment) (t : Term) (p : Path) (ty : TypeId) → IsPathOf env t p ty → type_at env t p ≡ Some ty
path_type env t (Arg i) ty h = h
path_type env t (ConstBool of b) ty h = ap Some h.0
path_type env t (ConstInt of n) ty h = ap Some h.0
path_type env t (ConstPrim name) ty h = h
path_type env t (Called term ps instance) ty h = answer_type (slice_get env.terms term.0) ty (λ (c : Term). ArePathsOf env t ps c.arg_tys) h.1
path_type env t (Extracted term q) ty h = extracted_type (slice_get env.terms term.0) ty (λ (c : Term). IsPathOf env t q c.ret_ty) h.1
path_type env t (Inner p) ty h = option_type env t p ty h
path_type env t (Chosen p) ty h = list_type env t p ty h
path_type env t (Part part q) ty h = ap (option_and_then (λ (tys : List TypeId). slice_get tys part)) (tuple_types env t q h.0 h.1) ∙ h.2
path_type env t (MadeVariant of variant ps) ty h = ap Some h.0
path_type env t (MadeStruct of ps) ty h = ap Some h.0
path_type env t (VariantField variant field q) ty h =
    ap (option_and_then (λ of. field_type env (MakesVariant of variant) field)) (path_type env t q h.0 h.1) ∙ part_type env (form env (MakesVariant h.0 variant)) field ty h.2
path_type env t (StructField field q) ty h =
    ap (option_and_then (λ of. field_type env (MakesStruct of) field)) (path_type env t q h.0 h.1) ∙ part_type env (form env (MakesStruct h.0)) field ty h.2
path_type env t p ty h = absurd h

within_once : (o : Option Term) (tys of : List TypeId) (types : Term → List TypeId) (P : Term → Type 0) → IsSomeAnd o (λ (c : Term). (types c ≡ tys) × P c) → IsSomeAnd o (λ (c : Term). (types c ≡ of) × P c) → tys ≡ of
within_once None tys of types P h k = absurd h
within_once (Some c) tys of types P h k = sym h.0 ∙ k.0

same : (a b : TypeId) → Some a ≡ Some b → a ≡ b
same a b e = cc

pub one_type : (env : Environment) (t : Term) (p : Path) (ty of : TypeId) → IsPathOf env t p ty → IsPathOf env t p of → ty ≡ of
one_type env t p ty of h k = same ty of (sym (path_type env t p ty h) ∙ path_type env t p of k)

-- so has what is within an option
pub one_within : (env : Environment) (t : Term) (p : Path) (tys of : List TypeId) → IsOptionOf env t p tys → IsOptionOf env t p of → tys ≡ of
one_within env t (Called term ps instance) tys of h k = within_once (slice_get env.terms term.0) tys of (λ (c : Term). c.ret_ty ∷ []) (λ (c : Term). ArePathsOf env t ps c.arg_tys) h.1 k.1
one_within env t (Extracted term q) tys of h k = within_once (slice_get env.terms term.0) tys of (λ (c : Term). c.arg_tys) (λ (c : Term). IsPathOf env t q c.ret_ty) h.1 k.1
one_within env t p tys of h k = absurd h

-- and what is in a list
pub one_listed : (env : Environment) (t : Term) (p : Path) (tys of : List TypeId) → IsListOf env t p tys → IsListOf env t p of → tys ≡ of
one_listed env t (Called term ps instance) tys of h k = within_once (slice_get env.terms term.0) tys of (λ (c : Term). c.ret_ty ∷ []) (λ (c : Term). ArePathsOf env t ps c.arg_tys) h.1 k.1
one_listed env t (Extracted term q) tys of h k = within_once (slice_get env.terms term.0) tys of (λ (c : Term). c.arg_tys) (λ (c : Term). IsPathOf env t q c.ret_ty) h.1 k.1
one_listed env t p tys of h k = absurd h

-- what is a tuple has none or several types
pub tuple_many : (env : Environment) (t : Term) (p : Path) (tys : List TypeId) → IsTupleOf env t p tys → AreTuple tys
tuple_many env t (Extracted term q) tys h = h.0
tuple_many env t (Inner q) tys h = h.0
tuple_many env t (Chosen q) tys h = h.0
tuple_many env t p tys h = absurd h
