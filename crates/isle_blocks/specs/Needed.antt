-- What is bound before bindings are read: calls that aren't bound yet, also of extractors, parts of their answers, items of lists, and the made
-- values on the way to them.
use Rattle.std.specs.Prelude.{ℕ, zero, suc, List, [], ◌∷◌, ◌++◌, length, Bool, ◌==◌, Option, Some, None, if◌then◌else◌, slice_get}
use Rattle.std.specs.List.{list_any}
use Rattle.isle_core.specs.declared.BindingId.{BindingId}
use Rattle.isle_core.specs.declared.rule_sets.Binding.{Binding}
use Rattle.isle_core.specs.declared.rule_sets.Binding.TheVariants as binding
use Rattle.isle_core.specs.Bindable.{bound_by}
use Rattle.isle_core.specs.BindingParts.{call_parts, made_parts, list_of}

-- what a list is made over: a call's arguments, or what an extractor takes apart
abbrev pub list_parts : Option Binding → Option (List BindingId)
list_parts None = None
list_parts (Some b) = call_parts b

-- what a binding is made over that is bound where it is first read: a call, also of an extractor, a part of a tuple, an item of a list, or a made
-- value; a struct without fields is read by its name. An impure call is bound before all that reads it, so only pure ones are bound here
abbrev pub parts_of : List Binding → Option Binding → Option (List BindingId)
parts_of bs None = None
parts_of bs (Some (binding.Constructor term parameters instance)) = Some parameters
parts_of bs (Some (binding.Extractor term parameter)) = Some (parameter ∷ [])
parts_of bs (Some (binding.Iterator source)) = list_parts (slice_get bs source.0)
parts_of bs (Some (binding.MatchTuple source field)) = Some (source ∷ [])
parts_of bs (Some b) = made_parts b

-- the list of an item
abbrev pub list_before : Option Binding → Option BindingId
list_before None = None
list_before (Some b) = list_of b

-- a binding as it is bound: an item directly after its list
abbrev pub with_list : Option BindingId → BindingId → List BindingId
with_list None b = b ∷ []
with_list (Some source) b = source ∷ b ∷ []

-- the binding is among those that are bound
abbrev pub is_bound : List ℕ → BindingId → Bool
is_bound bound b = list_any (λ (n : ℕ). n == b.0) bound

-- what is needed for each of some bindings in order, those before being bound
abbrev pub each_needed : (List ℕ → BindingId → List BindingId) → List ℕ → List BindingId → List BindingId
each_needed one bound [] = []
each_needed one bound (b ∷ bs) = one bound b ++ each_needed one (bound_by bound (one bound b)) bs

-- the needed parts, and then the binding itself
abbrev pub with_parts : (List ℕ → BindingId → List BindingId) → List ℕ → (itself : List BindingId) → Option (List BindingId) → List BindingId
with_parts one bound itself None = []
with_parts one bound itself (Some parts) = each_needed one bound parts ++ itself

-- so of the binding of this form
abbrev pub unbound : List Binding → (List ℕ → BindingId → List BindingId) → List ℕ → BindingId → Option Binding → List BindingId
unbound bs one bound b o = with_parts one bound (with_list (list_before o) b) (parts_of bs o)

-- what is not bound yet that a binding is read with, parts first, to this depth
abbrev pub needed : List Binding → ℕ → List ℕ → BindingId → List BindingId
needed bs zero bound b = []
needed bs (suc depth) bound b = if is_bound bound b then [] else unbound bs (needed bs depth) bound b (slice_get bs b.0)

-- so of bindings in order; parts stand before what is made over them, so no more than all bindings are nested
abbrev pub needs : List Binding → List ℕ → List BindingId → List BindingId
needs bs bound reads = each_needed (needed bs (length bs)) bound reads

-- what a call is made on
abbrev pub parameters_of : Option Binding → List BindingId
parameters_of (Some (binding.Constructor term parameters instance)) = parameters
parameters_of (Some (binding.Extractor term parameter)) = []
parameters_of (Some (binding.MakeVariant ty variant fields)) = []
parameters_of (Some (binding.MakeStruct ty fields)) = []
parameters_of (Some (binding.ConstBool val ty)) = []
parameters_of (Some (binding.ConstInt val ty)) = []
parameters_of (Some (binding.ConstPrim val)) = []
parameters_of (Some (binding.Argument index)) = []
parameters_of (Some (binding.Iterator source)) = []
parameters_of (Some (binding.MatchVariant source variant field)) = []
parameters_of (Some (binding.ExtractStruct source field)) = []
parameters_of (Some (binding.MakeSome inner)) = []
parameters_of (Some (binding.MatchSome source)) = []
parameters_of (Some (binding.MatchTuple source field)) = []
parameters_of None = []
