-- Reading patterns: a constant, Some(..), or what stands behind a &.
use Rattle.std.specs.Prelude.{ℕ, zero, suc, List, [], ◌∷◌, length, Bool, true, false, Option, Some, None, codes, if◌then◌else◌}
use Rattle.isle_printer.specs.Token.{Token, Word, Mark}
use Rattle.isle_printer.specs.Bytes.{same_bytes}
use Rattle.isle_tree.specs.declared.tree.TBind.{TBind}
use Rattle.isle_tree.specs.declared.tree.TPat.{TPat}
use Rattle.isle_tree.specs.declared.tree.TPat.TheVariants as pattern
use Rattle.isle_target.specs.Tokens.{◌>>=◌, Reads, phrase, at, rest, after, any_word}
use Rattle.isle_target.specs.OperandReading.{numbered, read_operand}

-- ---- fields

-- a local, bound by ref or not
abbrev pub read_local : Bool → List Token → Reads (Bool × ℕ)
read_local by_ref ts = do
  w ← any_word ts
  n ← numbered (codes "v") w.0
  Some ((by_ref, n), w.1)

-- ref, where it stands, and a local
unfoldable pub read_bound : List Token → Reads (Bool × ℕ)
read_bound ts = if at (Word (codes "ref")) ts then read_local true (rest ts) else read_local false ts

-- one field more, given how to read those after it
abbrev pub read_bind : (List Token → Reads (List TBind × Bool)) → List Token → Reads (List TBind × Bool)
read_bind binds ts = do
  field ← any_word ts
  ts1 ← after (Mark (codes ":")) field.1
  local ← read_bound ts1
  ts2 ← after (Mark (codes ",")) local.1
  more ← binds ts2
  Some ((record { field = field.0; by_ref = local.0.0; local = local.0.1 } ∷ more.0.0, more.0.1), more.1)

-- what stands after ..
abbrev pub read_more : List Token → Reads (List TBind × Bool)
read_more ts = do
  ts1 ← after (Mark (codes "}")) ts
  Some (([], true), ts1)

-- the fields, whether more are left out, and the } after them, at most so many
unfoldable pub read_binds : ℕ → List Token → Reads (List TBind × Bool)
read_binds zero ts = None
read_binds (suc k) ts =
    if at (Mark (codes "}")) ts then Some (([], false), rest ts)
    else (if at (Mark (codes "..")) ts then read_more (rest ts) else read_bind (read_binds k) ts)

-- what stands between braces, which is something
abbrev pub read_some_binds : List Token → Reads (List TBind × Bool)
read_some_binds ts = if at (Mark (codes "}")) ts then None else read_binds (length ts) ts

-- what stands between braces, if these are there
unfoldable pub read_braced : List Token → Reads (List TBind × Bool)
read_braced ts = if at (Mark (codes "{")) ts then read_some_binds (rest ts) else Some (([], false), ts)

-- ---- patterns

-- a variant from after its :: on
abbrev pub read_variant_pattern : List ℕ → List Token → Reads TPat
read_variant_pattern ty ts = do
  variant ← any_word ts
  inside ← read_braced variant.1
  Some (pattern.Variant ty variant.0 inside.0.0 inside.0.1, inside.1)

-- a struct from after its name on
abbrev pub read_struct_pattern : List ℕ → List Token → Reads TPat
read_struct_pattern ty ts = do
  inside ← read_braced ts
  Some (pattern.Struct ty inside.0.0 inside.0.1, inside.1)

-- a variant or a struct, from behind its & on
abbrev pub read_made_pattern : List Token → Reads TPat
read_made_pattern ts = do
  ty ← any_word ts
  if at (Mark (codes "::")) ty.1 then read_variant_pattern ty.0 (rest ty.1) else read_struct_pattern ty.0 ty.1

-- a local, or _
abbrev pub inner_local : List ℕ → Option (Option ℕ)
inner_local w = if same_bytes (codes "_") w then Some None else numbered (codes "v") w >>= (λ n. Some (Some n))

-- Some(..) from after its ( on
abbrev pub read_inner : List Token → Reads TPat
read_inner ts = do
  w ← any_word ts
  local ← inner_local w.0
  ts1 ← after (Mark (codes ")")) w.1
  Some (pattern.Some local, ts1)

-- a constant
abbrev pub read_constant : List Token → Reads TPat
read_constant ts = do
  o ← read_operand ts
  Some (pattern.Const o.0, o.1)

-- Some(..) where it begins, and else a constant
abbrev pub read_inner_or : Option (List Token) → List Token → Reads TPat
read_inner_or None ts = read_constant ts
read_inner_or (Some inner) ts = read_inner inner

-- a pattern
unfoldable pub read_pattern : List Token → Reads TPat
read_pattern ts = if at (Mark (codes "&")) ts then read_made_pattern (rest ts) else read_inner_or (phrase (Word (codes "Some") ∷ Mark (codes "(") ∷ []) ts) ts
