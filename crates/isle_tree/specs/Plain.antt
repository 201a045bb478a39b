-- Which declared types have no fields anywhere, so that their values can be copied and compared.
use Rattle.std.specs.Prelude.{ℕ, List, Bool, true, false}
use Rattle.std.specs.List.{list_all}
use Rattle.isle_tree.specs.declared.tree.TFields.{TFields}
use Rattle.isle_tree.specs.declared.tree.TFields.TheVariants as shape
use Rattle.isle_tree.specs.declared.tree.TypeBody.{TypeBody}
use Rattle.isle_tree.specs.declared.tree.TypeBody.TheVariants as type_body

-- whether a variant or a struct has no fields
abbrev pub is_unit : TFields → Bool
is_unit shape.Unit = true
is_unit (shape.Named fs) = false
is_unit (shape.Tuple tys) = false

-- whether no variant has fields
abbrev pub are_unit : List (List ℕ × TFields) → Bool
are_unit vs = list_all (λ (v : List ℕ × TFields). is_unit v.1) vs

-- whether a type has none: an enum of such variants alone, or such a struct
abbrev pub is_plain : TypeBody → Bool
is_plain (type_body.Enum vs) = are_unit vs
is_plain (type_body.Struct fs) = is_unit fs
