-- How the code finds constants of one type that have one value: by keys that are equal exactly for these.
use Rattle.std.specs.Prelude.{◌↔◌, ℕ, ℤ, pos, List, [], ◌∷◌, ◌++◌, length, map, find, fold, filter_map, Bool, true, false, not, IsTrue, Option, Some, None, option_map, if◌then◌else◌}
use Rattle.std.specs.BTreeMap.{BTreeMap, get_by}
use Rattle.std.specs.Cmp.Lexicographic.{slice_cmp}
use Rattle.std.specs.Ordering.{int_cmp, nat_cmp, is_eq}
use Rattle.std.specs.Str.{bytes_eq}
use denote.Ref.{Bor}
use Rattle.isle_core.specs.Int.{type_name}
use Rattle.isle_core.specs.Meaning.{Meaning}
use Rattle.isle_core.specs.Value.{Value, Truth, Int, Opaque, Variant, Struct, FieldValues, NoField, Field}
use Rattle.isle_core.specs.declared.values.Value.{Value as CodeValue}
use Rattle.isle_core.specs.ValueViews.{value}
use Rattle.isle_operand_names.specs.Sets.{has_name}
use Rattle.isle_places.specs.Places.{Place}
use Rattle.isle_tree.specs.declared.tree.Operand.{Operand}
use Rattle.isle_tree.specs.declared.tree.Operand.TheVariants as operand
use Rattle.isle_tree.specs.Program.{Function, Program}
use Rattle.isle_interpreter.specs.Apart.{constant_value, IsApart}
use Rattle.isle_interpreter.specs.declared.holders.Holder.{Holder as CodeHolder}
use Rattle.std.specs.BTreeSet.{BTreeSet}

-- ---- keys

-- a name: how many bytes it has, and these
abbrev pub name_key : List ℕ → List ℤ
name_key name = pos (length name) ∷ map pos name

-- a truth
abbrev pub truth_key : Bool → ℤ
truth_key true = pos 1
truth_key false = pos 0

-- a value as a run takes it: opaque numbers without their types' names
abbrev mutual
  pub value_key : Value → List ℤ
  value_key (Truth b) = pos 0 ∷ truth_key b ∷ []
  value_key (Int ty n) = pos 1 ∷ n ∷ name_key (type_name ty)
  value_key (Opaque ty n) = pos 2 ∷ n ∷ []
  value_key (Variant ty variant fs) = pos 3 ∷ name_key ty ++ name_key variant ++ fields_key fs
  value_key (Struct ty fs) = pos 4 ∷ name_key ty ++ fields_key fs

  pub fields_key : FieldValues → List ℤ
  fields_key NoField = pos 5 ∷ []
  fields_key (Field name v fs) = pos 6 ∷ name_key name ++ value_key v ++ fields_key fs

-- a value at a place of a type
abbrev pub place_key : List ℕ → Value → List ℤ
place_key ty v = name_key ty ++ value_key v

-- whether two keys are one
abbrev pub same_key : List ℤ → List ℤ → Bool
same_key k q = is_eq (slice_cmp int_cmp k q)

-- ---- constants at places

-- the name of a constant, if it has one
abbrev pub owner_of : Operand → Option (List ℕ)
owner_of (operand.Name name) = Some name
owner_of (operand.Local n) = None
owner_of (operand.Arg n) = None
owner_of (operand.Bool b) = None
owner_of (operand.Int ty z) = None
owner_of (operand.Raw z) = None

-- the key of a constant's value, and its name if it has one
abbrev pub Held : Type 0
Held = List ℤ × Option (List ℕ)

-- so of what stands at a place, where that is a constant with a value
abbrev pub held_at : Program → Meaning → Place → Option Held
held_at p m x = option_map (λ (v : Value). (place_key x.1 v, owner_of x.0)) (constant_value p m x.0)

-- those of a function
abbrev pub all_held : Program → Meaning → List Place → List Held
all_held p m ps = filter_map (held_at p m) ps

-- as contracts see it
abbrev pub held : CodeHolder → Held
held h = (h.key.items, option_map (λ (name : Bor (List ℕ)). name.now) h.owner)

-- ---- who holds a key

-- what is known of a key: nothing, one name alone has it, or several have or a written constant
abbrev pub Owner : Type 0
Owner = Option (Option (List ℕ))

-- what is known with one more
abbrev pub joined_owner : Owner → Option (List ℕ) → Option (List ℕ)
joined_owner None name = name
joined_owner (Some None) name = None
joined_owner (Some (Some first)) None = None
joined_owner (Some (Some first)) (Some name) = if bytes_eq first name then Some first else None

abbrev pub noted_owner : List ℤ → Owner → Held → Owner
noted_owner key known h = if same_key key h.0 then Some (joined_owner known h.1) else known

-- what is known of all
abbrev pub owner_at : List ℤ → List Held → Owner
owner_at key hs = fold (noted_owner key) None hs

-- what the map has at a key
abbrev pub at_key : BTreeMap (Bor (List ℤ)) (Option (Bor (List ℕ))) → List ℤ → Owner
at_key found key = option_map (option_map (λ (name : Bor (List ℕ)). name.now)) (get_by (λ (k : Bor (List ℤ)). slice_cmp int_cmp key k.now) found)

-- whether one name alone has it
abbrev pub is_only : List ℕ → Owner → Bool
is_only name None = false
is_only name (Some None) = false
is_only name (Some (Some first)) = bytes_eq name first

-- the name, if it isn't alone
abbrev pub unless_only : List ℕ → Owner → Option (List ℕ)
unless_only name known = if is_only name known then None else Some name

abbrev pub clash_of : (List ℤ → Owner) → Held → Option (List ℕ)
clash_of known (key, None) = None
clash_of known (key, Some name) = unless_only name (known key)

-- the names that aren't alone
abbrev pub clashes : List Held → List (List ℕ)
clashes hs = filter_map (clash_of (λ key. owner_at key hs)) hs

-- the set has all names but those that are apart
abbrev pub FindsClashes : Program → Function → Meaning → BTreeSet (Bor (List ℕ)) → Type 0
FindsClashes p f m found = (name : List ℕ) → IsTrue (not (has_name found name)) ↔ IsApart p f m name

-- the first value that these give to a name
abbrev pub const_in : List (List ℕ × Value) → List ℕ → Option Value
const_in cs name = option_map (λ (c : List ℕ × Value). c.1) (find (λ (c : List ℕ × Value). bytes_eq name c.0) cs)

-- what the map of constants has at a name
abbrev pub at_constant : BTreeMap (Bor (List ℕ)) (Bor CodeValue) → List ℕ → Option Value
at_constant found name = option_map (λ (v : Bor CodeValue). value v.now) (get_by (λ (k : Bor (List ℕ)). slice_cmp nat_cmp name k.now) found)
