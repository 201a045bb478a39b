-- Reading declared types: a derive, and the type that it stands before.
use Rattle.std.specs.Prelude.{ℕ, zero, suc, ◌+◌, List, [], ◌∷◌, length, Bool, true, false, not, Option, Some, None, codes, if◌then◌else◌}
use Rattle.isle_printer.specs.Token.{Token, Word, Mark}
use Rattle.isle_tree.specs.declared.tree.TFields.{TFields}
use Rattle.isle_tree.specs.declared.tree.TFields.TheVariants as shape
use Rattle.isle_tree.specs.declared.tree.TypeBody.{TypeBody}
use Rattle.isle_tree.specs.declared.tree.TypeBody.TheVariants as type_body
use Rattle.isle_tree.specs.declared.tree.TypeItem.{TypeItem}
use Rattle.isle_tree.specs.Plain.{is_plain}
use Rattle.isle_target.specs.Tokens.{◌>>=◌, Reads, phrase, at, rest, after, any_word}
use Rattle.isle_target.specs.Spelling.{comma, visible, struct_end, derives, derive_head, derive_end}

-- ---- derives

-- whether it is the derive of a type without fields; such a one begins with Copy
abbrev pub read_derives : List Token → Reads Bool
read_derives ts = do
  ts1 ← phrase (derives (at (Word (codes "Copy")) ts)) ts
  Some (at (Word (codes "Copy")) ts, ts1)

-- whether Debug is among them; it is the last then
abbrev pub read_debug : List Token → Reads Bool
read_debug ts = if at (Mark (codes ",")) ts then phrase (Word (codes "Debug") ∷ []) (rest ts) >>= (λ ts1. Some (true, ts1)) else Some (false, ts)

-- #[derive(..)]: whether it is that of a type without fields, and whether Debug is among them
unfoldable pub read_derive : List Token → Reads (Bool × Bool)
read_derive ts = do
  ts1 ← phrase derive_head ts
  plain ← read_derives ts1
  debug ← read_debug plain.1
  ts2 ← phrase derive_end debug.1
  Some ((plain.0, debug.0), ts2)

-- ---- fields

-- one field with a name more, given how to read those after it
abbrev pub read_field : Bool → (List Token → Reads (List (List ℕ × List ℕ))) → List Token → Reads (List (List ℕ × List ℕ))
read_field public fields ts = do
  ts1 ← phrase (visible public) ts
  name ← any_word ts1
  ts2 ← after (Mark (codes ":")) name.1
  ty ← any_word ts2
  ts3 ← after (Mark (codes ",")) ty.1
  more ← fields ts3
  Some ((name.0, ty.0) ∷ more.0, more.1)

-- fields with names, and the } after them, at most so many
unfoldable pub read_named : Bool → ℕ → List Token → Reads (List (List ℕ × List ℕ))
read_named public zero ts = None
read_named public (suc k) ts = if at (Mark (codes "}")) ts then Some ([], rest ts) else read_field public (read_named public k) ts

-- one field without a name more, the n-th
abbrev pub read_place : Bool → ℕ → (List Token → Reads (List (List ℕ))) → List Token → Reads (List (List ℕ))
read_place public n places ts = do
  ts1 ← phrase (comma n) ts
  ts2 ← phrase (visible public) ts1
  ty ← any_word ts2
  more ← places ty.1
  Some (ty.0 ∷ more.0, more.1)

-- fields without names from number n on, and the ) after them, at most so many
unfoldable pub read_places : Bool → ℕ → ℕ → List Token → Reads (List (List ℕ))
read_places public zero n ts = None
read_places public (suc k) n ts = if at (Mark (codes ")")) ts then Some ([], rest ts) else read_place public n (read_places public k (n + 1)) ts

-- fields from after their { on
abbrev pub read_braced : Bool → List Token → Reads TFields
read_braced public ts = do
  fields ← read_named public (length ts) ts
  Some (shape.Named fields.0, fields.1)

-- fields from after their ( on
abbrev pub read_tuple : Bool → List Token → Reads TFields
read_tuple public ts = do
  tys ← read_places public (length ts) 0 ts
  Some (shape.Tuple tys.0, tys.1)

-- the fields of a variant or a struct: none if neither { nor ( stands
unfoldable pub read_fields : Bool → List Token → Reads TFields
read_fields public ts =
    if at (Mark (codes "{")) ts then read_braced public (rest ts)
    else (if at (Mark (codes "(")) ts then read_tuple public (rest ts)
    else Some (shape.Unit, ts))

-- ---- enums and structs

-- one variant more
abbrev pub read_variant : (List Token → Reads (List (List ℕ × TFields))) → List Token → Reads (List (List ℕ × TFields))
read_variant variants ts = do
  name ← any_word ts
  fields ← read_fields false name.1
  ts1 ← after (Mark (codes ",")) fields.1
  more ← variants ts1
  Some ((name.0, fields.0) ∷ more.0, more.1)

-- variants, and the } after them, at most so many
unfoldable pub read_variants : ℕ → List Token → Reads (List (List ℕ × TFields))
read_variants zero ts = None
read_variants (suc k) ts = if at (Mark (codes "}")) ts then Some ([], rest ts) else read_variant (read_variants k) ts

-- an enum, from its name on
abbrev pub read_enum : List Token → Reads (List ℕ × TypeBody)
read_enum ts = do
  name ← any_word ts
  ts1 ← after (Mark (codes "{")) name.1
  variants ← read_variants (length ts1) ts1
  Some ((name.0, type_body.Enum variants.0), variants.1)

-- a struct, from its name on
abbrev pub read_struct : List Token → Reads (List ℕ × TypeBody)
read_struct ts = do
  name ← any_word ts
  fields ← read_fields true name.1
  ts1 ← phrase (struct_end fields.0) fields.1
  Some ((name.0, type_body.Struct fields.0), ts1)

-- an enum or a struct, told by its second word
unfoldable pub read_type_body : List Token → Reads (List ℕ × TypeBody)
read_type_body ts = do
  ts1 ← after (Word (codes "pub")) ts
  if at (Word (codes "enum")) ts1 then read_enum (rest ts1) else (if at (Word (codes "struct")) ts1 then read_struct (rest ts1) else None)

-- whether the derive is the one that a body asks for
abbrev pub fits_derive : Bool → Bool → Bool
fits_derive true plain = plain
fits_derive false plain = not plain

-- the type, if the derive is that of its body
abbrev pub derived : Bool × Bool → List ℕ × TypeBody → Option TypeItem
derived derive item = if fits_derive (is_plain item.1) derive.0 then Some (record { name = item.0; debug = derive.1; body = item.1 }) else None

-- a declared type
unfoldable pub read_type : List Token → Reads TypeItem
read_type ts = do
  derive ← read_derive ts
  item ← read_type_body derive.1
  t ← derived derive.0 item.0
  Some (t, item.1)

-- one type more
abbrev pub read_type_more : (List Token → Reads (List TypeItem)) → List Token → Reads (List TypeItem)
read_type_more types ts = do
  t ← read_type ts
  more ← types t.1
  Some (t.0 ∷ more.0, more.1)

-- types up to what begins none, at most so many
unfoldable pub read_types : ℕ → List Token → Reads (List TypeItem)
read_types zero ts = Some ([], ts)
read_types (suc n) ts = if at (Mark (codes "#")) ts then read_type_more (read_types n) ts else Some ([], ts)
