-- The type that all places of a name have, as the code keeps it.
use Rattle.std.specs.Prelude.{ℕ, List, Option, Some, None, fold, option_map, if◌then◌else◌}
use Rattle.std.specs.Str.{bytes_eq}
use Rattle.std.specs.BTreeMap.{BTreeMap, get_by}
use Rattle.std.specs.Cmp.Lexicographic.{slice_cmp}
use Rattle.std.specs.Ordering.{nat_cmp}
use denote.Ref.{Bor}
use Rattle.isle_core.specs.Value.{Value}
use Rattle.isle_tree.specs.declared.tree.Operand.TheVariants as operand
use Rattle.isle_tree.specs.declared.tree.TypeItem.{TypeItem}
use Rattle.isle_places.specs.Places.{Place}
use Rattle.isle_interpreter.specs.Named.{IsNamed}

-- what is known of the places of a name: there is none, all have this type, or they don't agree
abbrev pub Known : Type 0
Known = Option (Option (List ℕ))

-- the type if a place more has this one, if they agree
abbrev pub joined : Known → List ℕ → Option (List ℕ)
joined None ty = Some ty
joined (Some None) ty = None
joined (Some (Some other)) ty = if bytes_eq other ty then Some other else None

-- what is known with a place more
abbrev pub noted : List ℕ → Known → List ℕ × List ℕ → Known
noted name known place = if bytes_eq name place.0 then Some (joined known place.1) else known

-- what is known of a name, of all places
abbrev pub agreed : List ℕ → List (List ℕ × List ℕ) → Known
agreed name places = fold (noted name) None places

-- what is known with a place more, where a name may stand
abbrev pub noted_place : List ℕ → Known → Place → Known
noted_place name known (operand.Name other, ty) = noted name known (other, ty)
noted_place name known (operand.Local n, ty) = known
noted_place name known (operand.Arg n, ty) = known
noted_place name known (operand.Bool b, ty) = known
noted_place name known (operand.Int of z, ty) = known
noted_place name known (operand.Raw z, ty) = known

-- what is known of a name, of all that stands at places
abbrev pub agreed_at : List ℕ → List Place → Known
agreed_at name places = fold (noted_place name) None places

-- what the map has at a name
abbrev pub at_name : BTreeMap (Bor (List ℕ)) (Option (Bor (List ℕ))) → List ℕ → Known
at_name found name = option_map (option_map (λ (t : Bor (List ℕ)). t.now)) (get_by (λ (k : Bor (List ℕ)). slice_cmp nat_cmp name k.now) found)

-- a value of the type, if there is a place and they agree
abbrev pub FitsKnown : List TypeItem → Known → Value → Type 0
FitsKnown types None v = Unit {0}
FitsKnown types (Some None) v = ⊥
FitsKnown types (Some (Some ty)) v = IsNamed types ty v
