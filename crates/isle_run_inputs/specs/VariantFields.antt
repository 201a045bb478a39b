-- How the code finds the fields of variants.
use Rattle.std.specs.Prelude.{◌≡◌, ℕ, List, [], Option, option_map, find}
use Rattle.std.specs.Option.{option_copied}
use Rattle.std.specs.BTreeMap.{BTreeMap, get_by}
use Rattle.std.specs.Cmp.Lexicographic.{slice_cmp}
use Rattle.std.specs.Ordering.{nat_cmp}
use Rattle.std.specs.Str.{bytes_eq}
use denote.Ref.{Bor}
use Rattle.isle_core.specs.declared.types.Fields.{Fields}
use Rattle.isle_core.specs.declared.types.TypeDef.{TypeDef}
use Rattle.isle_core.specs.declared.types.TypeDef.TheVariants as def
use Rattle.isle_core.specs.declared.types.TypeEnv.{TypeEnv}
use Rattle.isle_core.specs.declared.types.Variant.{Variant}
use Rattle.isle_core.specs.Rule.{Environment}
use Rattle.isle_core.specs.Terms.{sym_text}

-- the variants of a type; one that is no enum has none
abbrev pub variants_of : TypeDef → List Variant
variants_of (def.Enum name is_extern is_nodebug variants at) = variants
variants_of (def.Struct name is_extern is_nodebug fields at) = []
variants_of (def.Primitive name rust at) = []
variants_of (def.Builtin of) = []

-- what the map has at a name
abbrev pub fields_at : BTreeMap (Bor (List ℕ)) (Bor Fields) → List ℕ → Option Fields
fields_at found name = option_copied (get_by (λ (k : Bor (List ℕ)). slice_cmp nat_cmp name k.now) found)

-- the fields of the first of these variants that has the name
abbrev pub first_fields : Environment → List Variant → List ℕ → Option Fields
first_fields env variants name = option_map (λ (v : Variant). v.fields) (find (λ (v : Variant). bytes_eq name (sym_text env v.name)) variants)

-- the map has the fields of the first of these variants for each name
pub record FindsFields (types : TypeEnv) (variants : List Variant) (found : BTreeMap (Bor (List ℕ)) (Bor Fields)) : Type 0 where
  pub finds : (env : Environment) → env.types ≡ types → (name : List ℕ) → fields_at found name ≡ first_fields env variants name
