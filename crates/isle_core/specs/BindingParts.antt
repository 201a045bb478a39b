-- What a binding is made over.
use Rattle.std.specs.Prelude.{List, [], ◌∷◌, Option, Some, None}
use Rattle.isle_base.specs.declared.ids.BindingId.{BindingId}
use Rattle.isle_core.specs.declared.rule_sets.Binding.{Binding}
use Rattle.isle_core.specs.declared.rule_sets.Binding.TheVariants as binding

-- what a binding is made over
abbrev pub over : Binding → List BindingId
over (binding.Extractor term parameter) = parameter ∷ []
over (binding.Constructor term parameters instance) = parameters
over (binding.Iterator source) = source ∷ []
over (binding.MakeVariant ty variant fields) = fields
over (binding.MakeStruct ty fields) = fields
over (binding.MatchVariant source variant field) = source ∷ []
over (binding.ExtractStruct source field) = source ∷ []
over (binding.MakeSome inner) = inner ∷ []
over (binding.MatchSome source) = source ∷ []
over (binding.MatchTuple source field) = source ∷ []
over (binding.ConstBool val ty) = []
over (binding.ConstInt val ty) = []
over (binding.ConstPrim val) = []
over (binding.Argument index) = []

-- what a call is made over: a call's arguments, or what an extractor takes apart
abbrev pub call_parts : Binding → Option (List BindingId)
call_parts (binding.Constructor term parameters instance) = Some parameters
call_parts (binding.Extractor term parameter) = Some (parameter ∷ [])
call_parts (binding.ConstBool val ty) = None
call_parts (binding.ConstInt val ty) = None
call_parts (binding.ConstPrim val) = None
call_parts (binding.Argument index) = None
call_parts (binding.Iterator source) = None
call_parts (binding.MakeVariant ty variant fields) = None
call_parts (binding.MakeStruct ty fields) = None
call_parts (binding.MatchVariant source variant field) = None
call_parts (binding.ExtractStruct source field) = None
call_parts (binding.MakeSome inner) = None
call_parts (binding.MatchSome source) = None
call_parts (binding.MatchTuple source field) = None

-- parts, if there are any
abbrev pub some_parts : List BindingId → Option (List BindingId)
some_parts [] = None
some_parts (b ∷ bs) = Some (b ∷ bs)

-- the parts of a made value; a struct without fields is a name, and has none
abbrev pub made_parts : Binding → Option (List BindingId)
made_parts (binding.MakeVariant ty variant fields) = Some fields
made_parts (binding.MakeStruct ty fields) = some_parts fields
made_parts (binding.ConstBool val ty) = None
made_parts (binding.ConstInt val ty) = None
made_parts (binding.ConstPrim val) = None
made_parts (binding.Argument index) = None
made_parts (binding.Extractor term parameter) = None
made_parts (binding.Constructor term parameters instance) = None
made_parts (binding.Iterator source) = None
made_parts (binding.MatchVariant source variant field) = None
made_parts (binding.ExtractStruct source field) = None
made_parts (binding.MakeSome inner) = None
made_parts (binding.MatchSome source) = None
made_parts (binding.MatchTuple source field) = None

-- the list of an item
abbrev pub list_of : Binding → Option BindingId
list_of (binding.Iterator source) = Some source
list_of (binding.ConstBool val ty) = None
list_of (binding.ConstInt val ty) = None
list_of (binding.ConstPrim val) = None
list_of (binding.Argument index) = None
list_of (binding.Extractor term parameter) = None
list_of (binding.Constructor term parameters instance) = None
list_of (binding.MakeVariant ty variant fields) = None
list_of (binding.MakeStruct ty fields) = None
list_of (binding.MatchVariant source variant field) = None
list_of (binding.ExtractStruct source field) = None
list_of (binding.MakeSome inner) = None
list_of (binding.MatchSome source) = None
list_of (binding.MatchTuple source field) = None

-- the option of an inner value
abbrev pub option_of : Binding → Option BindingId
option_of (binding.MatchSome source) = Some source
option_of (binding.ConstBool val ty) = None
option_of (binding.ConstInt val ty) = None
option_of (binding.ConstPrim val) = None
option_of (binding.Argument index) = None
option_of (binding.Extractor term parameter) = None
option_of (binding.Constructor term parameters instance) = None
option_of (binding.Iterator source) = None
option_of (binding.MakeVariant ty variant fields) = None
option_of (binding.MakeStruct ty fields) = None
option_of (binding.MatchVariant source variant field) = None
option_of (binding.ExtractStruct source field) = None
option_of (binding.MakeSome inner) = None
option_of (binding.MatchTuple source field) = None
