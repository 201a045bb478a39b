-- The fields that tests show, and the bindings of them.
use Rattle.std.specs.Prelude.{◌≡◌, ℕ, zero, suc, ◌<◌, ltb, List, [], ◌∷◌, ◌++◌, Option, Some, None, if◌then◌else◌, unwrap_or, slice_get}
use Rattle.std.specs.declared.cmp.Ordering.{Ordering}
use Rattle.std.specs.Ordering.{ordering_then, nat_cmp}
use Rattle.std.specs.BTreeMap.{get}
use Rattle.isle_core.specs.declared.BindingId.{BindingId}
use Rattle.isle_core.specs.declared.TupleIndex.{TupleIndex}
use Rattle.isle_core.specs.declared.rule_sets.Binding.{Binding}
use Rattle.isle_core.specs.declared.rule_sets.Binding.TheVariants as binding
use Rattle.isle_core.specs.declared.rule_sets.Constraint.{Constraint}
use Rattle.isle_core.specs.declared.rule_sets.Constraint.TheVariants as constraint
use Rattle.isle_blocks.specs.declared.fields.Fields.{Fields}
use Rattle.isle_blocks.specs.declared.fields.Shown.{Shown}
use Rattle.isle_blocks.specs.declared.fields.Shown.TheVariants as shown
use Rattle.isle_blocks.specs.contracts.fields.ShownOrd.TheImpl as shown_ord

-- ---- fields

-- the order of what shows fields
abbrev pub shown_cmp : Shown → Shown → Ordering
shown_cmp = (shown_ord.ghosts).cmp

-- a field of what is shown, by its number
abbrev pub FieldKey : Type 0
FieldKey = Shown × ℕ

-- the order of fields
abbrev pub key_cmp : FieldKey → FieldKey → Ordering
key_cmp k q = ordering_then (shown_cmp k.0 q.0) (nat_cmp k.1 q.1)

-- the value that is taken apart
abbrev pub source_of : Shown → BindingId
source_of (shown.Variant source variant) = source
source_of (shown.Struct source) = source

-- the binding of a field of what is shown
abbrev pub part_of : Shown → ℕ → Binding
part_of (shown.Variant source variant) field = binding.MatchVariant source variant (record { 0 = field })
part_of (shown.Struct source) field = binding.ExtractStruct source (record { 0 = field })

-- a field, where its source stands before this place
abbrev pub before : ℕ → Shown → TupleIndex → Option (Shown × TupleIndex)
before place s field = if ltb (source_of s).0 place then Some (s, field) else None

-- the field that a binding at a place is, where its source stands before it
abbrev pub field_at : ℕ → Binding → Option (Shown × TupleIndex)
field_at place (binding.MatchVariant source variant field) = before place (shown.Variant source variant) field
field_at place (binding.ExtractStruct source field) = before place (shown.Struct source) field
field_at place (binding.ConstBool val ty) = None
field_at place (binding.ConstInt val ty) = None
field_at place (binding.ConstPrim val) = None
field_at place (binding.Argument index) = None
field_at place (binding.Extractor term parameter) = None
field_at place (binding.Constructor term parameters instance) = None
field_at place (binding.Iterator source) = None
field_at place (binding.MakeVariant ty variant fields) = None
field_at place (binding.MakeStruct ty fields) = None
field_at place (binding.MakeSome inner) = None
field_at place (binding.MatchSome source) = None
field_at place (binding.MatchTuple source field) = None

-- ---- the fields of bindings

-- a count that is above the number of a field
abbrev pub longer : Option ℕ → ℕ → ℕ
longer None field = suc field
longer (Some count) field = if ltb count (suc field) then suc field else count

-- by a field the number of its binding, if there is one after its source; by what is shown a count, one more than the highest
-- of its fields
pub record FindsFields (bs : List Binding) (found : FieldKey → Option BindingId) (counts : Shown → Option ℕ) : Type 0 where
  pub is_field : (s : Shown) (field : ℕ) (b : BindingId) → found (s, field) ≡ Some b → (slice_get bs b.0 ≡ Some (part_of s field)) × ((source_of s).0 < b.0)
  pub all : (s : Shown) (field : ℕ) (b : BindingId) → slice_get bs b.0 ≡ Some (part_of s field) → (source_of s).0 < b.0 → (e : BindingId) × (found (s, field) ≡ Some e)
  pub counted : (s : Shown) (field : ℕ) (b : BindingId) → found (s, field) ≡ Some b → (n : ℕ) × (counts s ≡ Some n) × (field < n)
  pub last : (s : Shown) (n : ℕ) → counts s ≡ Some n → (field : ℕ) × (b : BindingId) × (n ≡ suc field) × (found (s, field) ≡ Some b)

-- ---- the places of a constraint

-- what a constraint on a source shows; one on a constant or an option shows no field
abbrev pub shown_by : BindingId → Constraint → Option Shown
shown_by source (constraint.Variant ty variant) = Some (shown.Variant source variant)
shown_by source (constraint.Struct ty) = Some (shown.Struct source)
shown_by source (constraint.ConstBool val) = None
shown_by source (constraint.ConstInt val ty) = None
shown_by source (constraint.ConstPrim val) = None
shown_by source constraint.Some = None

-- the one place of an option: its inner value, if that is a binding
abbrev pub inner_place : Option BindingId → List (Option BindingId)
inner_place None = []
inner_place (Some b) = Some b ∷ []

-- the bindings of the first fields of what is shown
abbrev pub first_places : (ℕ → Option BindingId) → ℕ → List (Option BindingId)
first_places found zero = []
first_places found (suc n) = first_places found n ++ found n ∷ []

-- those of the fields up to the last one that is there
abbrev pub places_of : (FieldKey → Option BindingId) → (Shown → Option ℕ) → Option Shown → List (Option BindingId)
places_of found counts None = []
places_of found counts (Some s) = first_places (λ field. found (s, field)) (unwrap_or (counts s) 0)

-- the places of a constraint on a source
abbrev pub shows : (FieldKey → Option BindingId) → (Shown → Option ℕ) → (inners : ℕ → Option BindingId) → BindingId → Constraint → List (Option BindingId)
shows found counts inners source constraint.Some = inner_place (inners source.0)
shows found counts inners source (constraint.Variant ty variant) = places_of found counts (shown_by source (constraint.Variant ty variant))
shows found counts inners source (constraint.Struct ty) = places_of found counts (shown_by source (constraint.Struct ty))
shows found counts inners source (constraint.ConstBool val) = []
shows found counts inners source (constraint.ConstInt val ty) = []
shows found counts inners source (constraint.ConstPrim val) = []

-- the same of the code's maps
abbrev pub places : Fields → (inners : ℕ → Option BindingId) → BindingId → Constraint → List (Option BindingId)
places fields inners = shows (get key_cmp fields.found) (get shown_cmp fields.counts) inners
