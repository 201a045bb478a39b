-- A path has one type.
use Rattle.std.proofs.Common.{◌≡◌, ℕ, List, [], ◌∷◌, Option, Some, None, sym, ap, ◌∙◌, subst}
use Rattle.std.specs.Prelude.{slice_get, IsSomeAnd}
use Rattle.isle_core.specs.declared.TypeId.{TypeId}
use Rattle.isle_core.specs.declared.types.Term.{Term}
use Rattle.isle_core.specs.Form.{Form, form, form_types}
use Rattle.isle_core.specs.Making.{MakesVariant, MakesStruct}
use Rattle.isle_core.specs.Path.{Path, Arg, ConstBool, ConstInt, ConstPrim, Extracted, Called, Chosen, MadeVariant, MadeStruct, VariantField, StructField, Inner, Part, Paths}
use Rattle.isle_core.specs.PathType.{IsPathOf, IsTupleOf, IsOptionOf, IsListOf, ArePathsOf}
use Rattle.isle_core.specs.Rule.{Environment}
use Rattle.isle_core.proofs.OptionLaws.{some_same}

-- a term answers one type, also in an option
answer_once : (env : Environment) (t : Term) (ps : Paths) (o : Option Term) (a b : TypeId) → IsSomeAnd o (λ (c : Term). (c.ret_ty ≡ a) × ArePathsOf env t ps c.arg_tys) → IsSomeAnd o (λ (c : Term). (c.ret_ty ≡ b) × ArePathsOf env t ps c.arg_tys) → a ≡ b
answer_once env t ps None a b h k = absurd h
answer_once env t ps (Some c) a b h k = sym h.0 ∙ k.0

option_answer_once : (env : Environment) (t : Term) (ps : Paths) (o : Option Term) (a b : List TypeId) → IsSomeAnd o (λ (c : Term). (c.ret_ty ∷ [] ≡ a) × ArePathsOf env t ps c.arg_tys) → IsSomeAnd o (λ (c : Term). (c.ret_ty ∷ [] ≡ b) × ArePathsOf env t ps c.arg_tys) → a ≡ b
option_answer_once env t ps None a b h k = absurd h
option_answer_once env t ps (Some c) a b h k = sym h.0 ∙ k.0

-- an extractor gives the same types
extracted_once : (env : Environment) (t : Term) (q : Path) (o : Option Term) (a b : List TypeId) → IsSomeAnd o (λ (c : Term). (c.arg_tys ≡ a) × IsPathOf env t q c.ret_ty) → IsSomeAnd o (λ (c : Term). (c.arg_tys ≡ b) × IsPathOf env t q c.ret_ty) → a ≡ b
extracted_once env t q None a b h k = absurd h
extracted_once env t q (Some c) a b h k = sym h.0 ∙ k.0

-- of one type each
only_same : (a b : TypeId) → a ∷ [] ≡ b ∷ [] → a ≡ b
only_same a b h = cc

option_once : (env : Environment) (t : Term) (p : Path) (a b : List TypeId) → IsOptionOf env t p a → IsOptionOf env t p b → a ≡ b
option_once env t (Called term ps instance) a b h k = option_answer_once env t ps (slice_get env.terms term.0) a b h.1 k.1
option_once env t (Extracted term q) a b h k = extracted_once env t q (slice_get env.terms term.0) a b h.1 k.1
option_once env t p a b h k = absurd h

list_once : (env : Environment) (t : Term) (p : Path) (a b : List TypeId) → IsListOf env t p a → IsListOf env t p b → a ≡ b
list_once env t (Called term ps instance) a b h k = option_answer_once env t ps (slice_get env.terms term.0) a b h.1 k.1
list_once env t (Extracted term q) a b h k = extracted_once env t q (slice_get env.terms term.0) a b h.1 k.1
list_once env t p a b h k = absurd h

tuple_once : (env : Environment) (t : Term) (p : Path) (a b : List TypeId) → IsTupleOf env t p a → IsTupleOf env t p b → a ≡ b
tuple_once env t (Extracted term q) a b h k = extracted_once env t q (slice_get env.terms term.0) a b h.2 k.2
tuple_once env t (Inner q) a b h k = option_once env t q a b h.1 k.1
tuple_once env t (Chosen q) a b h k = list_once env t q a b h.1 k.1
tuple_once env t p a b h k = absurd h

-- a field of a form is of one type
field_once : (env : Environment) (o : Option Form) (field : ℕ) (a b : TypeId) → IsSomeAnd o (λ f. slice_get (form_types env f) field ≡ Some a) → IsSomeAnd o (λ f. slice_get (form_types env f) field ≡ Some b) → a ≡ b
field_once env None field a b h k = absurd h
field_once env (Some f) field a b h k = some_same a b (sym h ∙ k)

pub path_type_once : (env : Environment) (t : Term) (p : Path) (a b : TypeId) → IsPathOf env t p a → IsPathOf env t p b → a ≡ b
path_type_once env t (Arg i) a b h k = some_same a b (sym h ∙ k)
path_type_once env t (ConstBool of v) a b h k = sym h.0 ∙ k.0
path_type_once env t (ConstInt of n) a b h k = sym h.0 ∙ k.0
path_type_once env t (ConstPrim name) a b h k = some_same a b (sym h ∙ k)
path_type_once env t (Called term ps instance) a b h k = answer_once env t ps (slice_get env.terms term.0) a b h.1 k.1
path_type_once env t (Extracted term q) a b h k = only_same a b (extracted_once env t q (slice_get env.terms term.0) (a ∷ []) (b ∷ []) h.1 k.1)
path_type_once env t (Inner q) a b h k = only_same a b (option_once env t q (a ∷ []) (b ∷ []) h k)
path_type_once env t (Chosen q) a b h k = only_same a b (list_once env t q (a ∷ []) (b ∷ []) h k)
path_type_once env t (Part part q) a b h k = some_same a b (sym h.2 ∙ ap (λ tys. slice_get tys part) (tuple_once env t q h.0 k.0 h.1 k.1) ∙ k.2)
path_type_once env t (MadeVariant of variant ps) a b h k = sym h.0 ∙ k.0
path_type_once env t (MadeStruct of ps) a b h k = sym h.0 ∙ k.0
path_type_once env t (VariantField variant field q) a b h k =
    let same = path_type_once env t q h.0 k.0 h.1 k.1 in
    field_once env (form env (MakesVariant k.0 variant)) field a b (subst (λ of. IsSomeAnd (form env (MakesVariant of variant)) (λ f. slice_get (form_types env f) field ≡ Some a)) same h.2) k.2
path_type_once env t (StructField field q) a b h k =
    let same = path_type_once env t q h.0 k.0 h.1 k.1 in
    field_once env (form env (MakesStruct k.0)) field a b (subst (λ of. IsSomeAnd (form env (MakesStruct of)) (λ f. slice_get (form_types env f) field ≡ Some a)) same h.2) k.2
path_type_once env t p a b h k = absurd h
