-- Builtin and primitive types.
use Rattle.std.specs.Prelude.{IsSomeAnd, slice_get}
use Rattle.isle_core.specs.declared.TypeId.{TypeId}
use Rattle.isle_core.specs.NamesApart.{IsPlainDef}
use Rattle.isle_core.specs.Rule.{Environment}

-- a builtin or a primitive type
abbrev pub IsPlainType : Environment → TypeId → Type 0
IsPlainType env ty = IsSomeAnd (slice_get env.types.types ty.0) IsPlainDef
