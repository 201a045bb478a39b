-- What tells bindings apart, and the bindings that it tells.
use Rattle.std.specs.Prelude.{◌≡◌, List, Some, slice_get}
use Rattle.std.specs.List.{AllByRecursion}
use Rattle.std.specs.declared.cmp.Ordering.{Ordering}
use Rattle.isle_core.specs.declared.BindingId.{BindingId}
use Rattle.isle_core.specs.declared.rule_sets.Binding.{Binding}
use Rattle.isle_core.specs.declared.rule_sets.Binding.TheVariants as binding
use Rattle.isle_core.specs.Path.{Path, path_over}
use Rattle.isle_core.specs.RightSide.{bool_type}
use Rattle.isle_rulesets.specs.declared.keys.Key.{Key}
use Rattle.isle_rulesets.specs.declared.keys.Key.TheVariants as key
use Rattle.isle_rulesets.specs.contracts.keys.KeyOrd.TheImpl as key_ord

-- the order of keys
abbrev pub key_cmp : Key → Key → Ordering
key_cmp = (key_ord.ghosts).cmp

-- the binding of a key
abbrev pub key_binding : Key → Binding
key_binding (key.Argument index) = binding.Argument index
key_binding (key.ConstBool val) = binding.ConstBool val bool_type
key_binding (key.ConstInt ty val) = binding.ConstInt val ty
key_binding (key.ConstPrim val) = binding.ConstPrim val
key_binding (key.Extractor term parameter) = binding.Extractor term parameter
key_binding (key.Constructor term parameters) = binding.Constructor term parameters 0
key_binding (key.MatchVariant source variant field) = binding.MatchVariant source variant field
key_binding (key.ExtractStruct source field) = binding.ExtractStruct source field
key_binding (key.MakeVariant ty variant fields) = binding.MakeVariant ty variant fields
key_binding (key.MakeStruct ty fields) = binding.MakeStruct ty fields
key_binding (key.Iterator source) = binding.Iterator source
key_binding (key.MatchSome source) = binding.MatchSome source
key_binding (key.MatchTuple source field) = binding.MatchTuple source field

-- the path of that binding over those of the bindings before it
abbrev pub key_path : List Path → Key → Path
key_path ps k = path_over ps (key_binding k)

-- a path stands at this number
abbrev pub IsThere : List Path → BindingId → Type 0
IsThere ps b = (p : Path) × (slice_get ps b.0 ≡ Some p)

-- a path stands at the number of each part of a key
abbrev pub HasParts : List Path → Key → Type 0
HasParts ps (key.Argument index) = Unit {0}
HasParts ps (key.ConstBool val) = Unit {0}
HasParts ps (key.ConstInt ty val) = Unit {0}
HasParts ps (key.ConstPrim val) = Unit {0}
HasParts ps (key.Extractor term parameter) = IsThere ps parameter
HasParts ps (key.Constructor term parameters) = AllByRecursion (IsThere ps) parameters
HasParts ps (key.MatchVariant source variant field) = IsThere ps source
HasParts ps (key.ExtractStruct source field) = IsThere ps source
HasParts ps (key.MakeVariant ty variant fields) = AllByRecursion (IsThere ps) fields
HasParts ps (key.MakeStruct ty fields) = AllByRecursion (IsThere ps) fields
HasParts ps (key.Iterator source) = IsThere ps source
HasParts ps (key.MatchSome source) = IsThere ps source
HasParts ps (key.MatchTuple source field) = IsThere ps source
