-- Which operands are references, and how they are read where one is wanted or not.
use Rattle.std.specs.Prelude.{ℕ, List, [], ◌∷◌, Bool, true, false, Option, Some, None, option_and_then, option_map, slice_get}
use Rattle.std.specs.Option.{option_map_or}
use Rattle.isle_core.specs.declared.BindingId.{BindingId}
use Rattle.isle_core.specs.declared.TermId.{TermId}
use Rattle.isle_core.specs.declared.TypeId.{TypeId}
use Rattle.isle_core.specs.declared.types.Term.{Term}
use Rattle.isle_core.specs.Constants.{const_type}
use Rattle.isle_core.specs.Form.{form, form_types}
use Rattle.isle_core.specs.Making.{Making, MakesVariant, MakesStruct}
use Rattle.isle_core.specs.Path.{Path, Nowhere, Arg, ConstBool, ConstInt, ConstPrim, Extracted, Called, Chosen, MadeVariant, MadeStruct, VariantField, StructField, Wrapped, Inner, Part, at}
use Rattle.isle_core.specs.Setting.{Setting, paths_in}
use Rattle.isle_core.specs.Rule.{Environment}
use Rattle.isle_tree.specs.declared.tree.Operand.{Operand}
use Rattle.isle_tree.specs.declared.tree.Read.{Read}
use Rattle.isle_tree.specs.declared.tree.Read.TheVariants as read
use Rattle.isle_simulation.specs.TypeTexts.{is_by_ref}

-- the type of a field of what is made
abbrev pub field_type : Environment → Making → ℕ → Option TypeId
field_type env mk field = option_and_then (λ f. slice_get (form_types env f) field) (form env mk)

-- the one result of an extractor
abbrev pub one_result : List TypeId → Option TypeId
one_result [] = None
one_result (ty ∷ []) = Some ty
one_result (ty ∷ of ∷ tys) = None

-- the type of the one result of a term's extractor, which gives what the term takes
abbrev pub result_type : Option Term → Option TypeId
result_type t = option_and_then (λ (x : Term). one_result x.arg_tys) t

-- the extractor whose answer stands at a path, also within an option or as an item
abbrev pub extractor_at : Path → Option TermId
extractor_at (Extracted term p) = Some term
extractor_at (Inner p) = extractor_at p
extractor_at (Arg i) = None
extractor_at (ConstBool ty b) = None
extractor_at (ConstInt ty n) = None
extractor_at (ConstPrim name) = None
extractor_at (Called term ps instance) = None
extractor_at (MadeVariant ty variant ps) = None
extractor_at (MadeStruct ty ps) = None
extractor_at (VariantField variant field p) = None
extractor_at (StructField field p) = None
extractor_at Nowhere = None
extractor_at (Chosen p) = extractor_at p
extractor_at (Wrapped p) = None
extractor_at (Part part p) = None

-- the types of the results of a term's extractor, which gives what the term takes
abbrev pub results_of : Environment → Option TermId → Option (List TypeId)
results_of env o = option_and_then (λ (term : TermId). option_map (λ (x : Term). x.arg_tys) (slice_get env.terms term.0)) o

-- the type of what stands at a path, if it has one; of an option it is the type of what is within, of a list that of its items, and a tuple has
-- none
abbrev pub type_at : Environment → Term → Path → Option TypeId
type_at env t (Arg i) = slice_get t.arg_tys i
type_at env t (ConstBool ty b) = Some ty
type_at env t (ConstInt ty n) = Some ty
type_at env t (ConstPrim name) = const_type env name
type_at env t (Called term ps instance) = option_map (λ (c : Term). c.ret_ty) (slice_get env.terms term.0)
type_at env t (Inner p) = type_at env t p
type_at env t (MadeVariant ty variant ps) = Some ty
type_at env t (MadeStruct ty ps) = Some ty
type_at env t (VariantField variant field p) = option_and_then (λ ty. field_type env (MakesVariant ty variant) field) (type_at env t p)
type_at env t (StructField field p) = option_and_then (λ ty. field_type env (MakesStruct ty) field) (type_at env t p)
type_at env t Nowhere = None
type_at env t (Extracted term p) = result_type (slice_get env.terms term.0)
type_at env t (Chosen p) = type_at env t p
type_at env t (Wrapped p) = None
type_at env t (Part part p) = option_and_then (λ (tys : List TypeId). slice_get tys part) (results_of env (extractor_at p))

-- whether a type is an enum or a struct
abbrev pub is_declared : Environment → TypeId → Bool
is_declared env ty = is_by_ref (slice_get env.types.types ty.0)

-- whether what stands for a path is a reference: of the enums and structs all but those that are made here, parts of tuples and items of lists
abbrev pub is_reference : Environment → Term → Path → Bool
is_reference env t (MadeVariant ty variant ps) = false
is_reference env t (MadeStruct ty ps) = false
is_reference env t (Part part p) = false
is_reference env t (Chosen p) = false
is_reference env t p = option_map_or (is_declared env) (type_at env t p) false

-- so of a binding
abbrev pub is_reference_in : Setting → BindingId → Bool
is_reference_in s b = is_reference s.env s.term (at (paths_in s) b)

-- an operand that is a reference or not, read where one is wanted or not
abbrev pub read_as : (wanted is : Bool) → Operand → Read
read_as true true o = read.Plain o
read_as true false o = read.Borrow o
read_as false true o = read.Clone o
read_as false false o = read.Plain o
