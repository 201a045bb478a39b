-- The types of the bindings of a setting.
use Rattle.std.specs.Prelude.{List, Bool, true, false, Option, Some, None, map}
use Rattle.isle_core.specs.declared.rule_sets.Binding.{Binding}
use Rattle.isle_core.specs.declared.rule_sets.Binding.TheVariants as binding
use Rattle.isle_core.specs.declared.TypeId.{TypeId}
use Rattle.isle_core.specs.Setting.{Setting, paths_in}
use Rattle.isle_simulation.specs.References.{type_at}

-- the type of each binding, if it has one
abbrev pub types_in : Setting → List (Option TypeId)
types_in s = map (type_at s.env s.term) (paths_in s)

-- whether a binding is of a value that is made here, is a part of a tuple or an item of a list: none is a reference
abbrev pub is_owned : Option Binding → Bool
is_owned (Some (binding.MakeVariant ty variant fields)) = true
is_owned (Some (binding.MakeStruct ty fields)) = true
is_owned (Some (binding.Iterator source)) = true
is_owned (Some (binding.MatchTuple source field)) = true
is_owned (Some (binding.ConstBool val ty)) = false
is_owned (Some (binding.ConstInt val ty)) = false
is_owned (Some (binding.ConstPrim val)) = false
is_owned (Some (binding.Argument index)) = false
is_owned (Some (binding.Extractor term parameter)) = false
is_owned (Some (binding.Constructor term parameters instance)) = false
is_owned (Some (binding.MatchVariant source variant field)) = false
is_owned (Some (binding.ExtractStruct source field)) = false
is_owned (Some (binding.MakeSome inner)) = false
is_owned (Some (binding.MatchSome source)) = false
is_owned None = false
