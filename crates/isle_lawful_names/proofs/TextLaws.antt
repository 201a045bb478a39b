-- The emitted names of types are identifiers.
use Rattle.std.proofs.Common.{◌≡◌, List, Bool, Option, Some, None, refl}
use Rattle.std.specs.Prelude.{IsSome, slice_get}
use Rattle.std.specs.List.{AllByRecursion}
use Rattle.isle_core.specs.declared.TypeId.{TypeId}
use Rattle.isle_core.specs.declared.types.TypeDef.{TypeDef}
use Rattle.isle_core.specs.declared.types.TypeEnv.{TypeEnv}
use Rattle.isle_core.specs.Rule.{Environment}
use Rattle.isle_spelling.specs.Identifier.{IsIdentifier}
use Rattle.isle_simulation.specs.TypeTexts.{def_text, type_text}
use Rattle.isle_lawful_names.specs.TypeItems.{text_at}
use Rattle.isle_lawful_names.specs.LawfulNames.{IsLawfulType, AreLawful}
use Rattle.isle_core.specs.TypedParts.{IsThere}
use Rattle.isle_lawful_names.proofs.ListLaws.{all_at, all_to}

-- the name of a type that is there
pub text_is : (has_rules : Bool) (types : TypeEnv) (ty : TypeId) → AreLawful has_rules types → IsThere types ty → IsIdentifier (text_at types ty)
text_is has_rules types ty h there = one (slice_get types.types ty.0) refl there
  where
    one : (o : Option TypeDef) → slice_get types.types ty.0 ≡ o → IsSome o → IsIdentifier (def_text types o)
    one None e some = absurd cc
    one (Some d) e some = (all_at (IsLawfulType has_rules types) types.types ty.0 d h.types e).name.name.identifier

-- those of types that are there
pub texts_are : (has_rules : Bool) (env : Environment) (tys : List TypeId) → AreLawful has_rules env.types → AllByRecursion (IsThere env.types) tys → AllByRecursion (λ ty. IsIdentifier (type_text env ty)) tys
texts_are has_rules env tys h there = all_to (IsThere env.types) (λ ty. IsIdentifier (type_text env ty)) tys (λ ty k. text_is has_rules env.types ty h k) there
