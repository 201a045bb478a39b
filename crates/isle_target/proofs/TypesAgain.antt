-- Declared types are read as what they were spelled from.
use Rattle.std.proofs.Common.{◌≡◌, ℕ, zero, suc, ◌+◌, ◌<◌, ◌≤◌, List, [], ◌∷◌, ◌++◌, length, length-append, Bool, true, false, Some, refl, append_assoc, arith}
use Rattle.std.specs.Prelude.{codes}
use Rattle.isle_printer.specs.Token.{Token, Mark}
use Rattle.isle_tree.specs.declared.tree.TFields.{TFields}
use Rattle.isle_tree.specs.declared.tree.TFields.TheVariants as shape
use Rattle.isle_tree.specs.declared.tree.TypeBody.{TypeBody}
use Rattle.isle_tree.specs.declared.tree.TypeBody.TheVariants as type_body
use Rattle.isle_tree.specs.declared.tree.TypeItem.{TypeItem}
use Rattle.isle_tree.specs.Plain.{is_plain}
use Rattle.isle_target.specs.Tokens.{at}
use Rattle.isle_target.specs.Spelling.{named_tokens, places_tokens, fields_tokens, variant_tokens, variants_tokens, type_body_tokens, derive_tokens, type_tokens, types_tokens}
use Rattle.isle_target.specs.TypeReading.{read_derive, read_named, read_places, read_fields, read_variants, read_type_body, fits_derive, read_type, read_types}

-- a derive is read again
derive_again : (plain debug : Bool) (ts : List Token) → read_derive (derive_tokens plain debug ++ ts) ≡ Some ((plain, debug), ts)
unfolding read_derive
derive_again true true ts = refl
derive_again true false ts = refl
derive_again false true ts = refl
derive_again false false ts = refl

-- ---- fields

-- fields with names are read again
named_again : (public : Bool) (k : ℕ) (fs : List (List ℕ × List ℕ)) (ts : List Token) → length fs < k → read_named public k (named_tokens public fs ++ ts) ≡ Some (fs, ts)
unfolding read_named
named_again public zero fs ts lt = absurd (omega arith)
named_again public (suc k) [] ts lt = refl
named_again true (suc k) (f ∷ fs) ts lt = rw (named_again true k fs ts (omega arith)) refl
named_again false (suc k) (f ∷ fs) ts lt = rw (named_again false k fs ts (omega arith)) refl

length-named : (public : Bool) (fs : List (List ℕ × List ℕ)) → length fs < length (named_tokens public fs)
length-named public [] = omega arith
length-named true (f ∷ fs) = omega (arith, length-named true fs)
length-named false (f ∷ fs) = omega (arith, length-named false fs)

-- and those without names
places_again : (public : Bool) (k n : ℕ) (tys : List (List ℕ)) (ts : List Token) → length tys < k → read_places public k n (places_tokens public n tys ++ ts) ≡ Some (tys, ts)
unfolding read_places
places_again public zero n tys ts lt = absurd (omega arith)
places_again public (suc k) n [] ts lt = refl
places_again true (suc k) zero (ty ∷ tys) ts lt = rw (places_again true k 1 tys ts (omega arith)) refl
places_again true (suc k) (suc n) (ty ∷ tys) ts lt = rw (places_again true k (suc n + 1) tys ts (omega arith)) refl
places_again false (suc k) zero (ty ∷ tys) ts lt = rw (places_again false k 1 tys ts (omega arith)) refl
places_again false (suc k) (suc n) (ty ∷ tys) ts lt = rw (places_again false k (suc n + 1) tys ts (omega arith)) refl

length-places : (public : Bool) (n : ℕ) (tys : List (List ℕ)) → length tys < length (places_tokens public n tys)
length-places public n [] = omega arith
length-places true zero (ty ∷ tys) = omega (arith, length-places true 1 tys)
length-places true (suc n) (ty ∷ tys) = omega (arith, length-places true (suc n + 1) tys)
length-places false zero (ty ∷ tys) = omega (arith, length-places false 1 tys)
length-places false (suc n) (ty ∷ tys) = omega (arith, length-places false (suc n + 1) tys)

-- fields with names are read again, between their { and }
braced_again : (public : Bool) (fs : List (List ℕ × List ℕ)) (ts : List Token) → read_fields public (Mark (codes "{") ∷ (named_tokens public fs ++ ts)) ≡ Some (shape.Named fs, ts)
unfolding read_fields
braced_again public fs ts =
    let inside = named_tokens public fs ++ ts in
    let fuel : length fs < length inside = omega (arith, length-append (named_tokens public fs) ts, length-named public fs) in
    rw (named_again public (length inside) fs ts fuel) refl

-- and those without, between their ( and )
tuple_again : (public : Bool) (tys : List (List ℕ)) (ts : List Token) → read_fields public (Mark (codes "(") ∷ (places_tokens public 0 tys ++ ts)) ≡ Some (shape.Tuple tys, ts)
unfolding read_fields
tuple_again public tys ts =
    let inside = places_tokens public 0 tys ++ ts in
    let fuel : length tys < length inside = omega (arith, length-append (places_tokens public 0 tys) ts, length-places public 0 tys) in
    rw (places_again public (length inside) 0 tys ts fuel) refl

-- if none are, neither { nor ( stands
none_again : (public : Bool) (ts : List Token) → at (Mark (codes "{")) ts ≡ false → at (Mark (codes "(")) ts ≡ false → read_fields public ts ≡ Some (shape.Unit, ts)
unfolding read_fields
none_again public ts e f = rw (e, f) refl

-- fields are read again, up to the comma after them
fields_again : (public : Bool) (fs : TFields) (ts : List Token) → read_fields public (fields_tokens public fs ++ Mark (codes ",") ∷ ts) ≡ Some (fs, Mark (codes ",") ∷ ts)
fields_again public shape.Unit ts = none_again public (Mark (codes ",") ∷ ts) refl refl
fields_again public (shape.Named fs) ts = braced_again public fs (Mark (codes ",") ∷ ts)
fields_again public (shape.Tuple tys) ts = tuple_again public tys (Mark (codes ",") ∷ ts)

-- ---- enums and structs

-- variants are read again
variants_again : (k : ℕ) (vs : List (List ℕ × TFields)) (ts : List Token) → length vs < k → read_variants k (variants_tokens vs ++ ts) ≡ Some (vs, ts)
unfolding read_variants
variants_again zero vs ts lt = absurd (omega arith)
variants_again (suc k) [] ts lt = refl
variants_again (suc k) (v ∷ vs) ts lt =
    let more = variants_tokens vs ++ ts in
    let flat : ((fields_tokens false v.1 ++ Mark (codes ",") ∷ []) ++ variants_tokens vs) ++ ts ≡ fields_tokens false v.1 ++ Mark (codes ",") ∷ more = simp append_assoc in
    rw (flat, fields_again false v.1 more, variants_again k vs ts (omega arith)) refl

length-variants : (vs : List (List ℕ × TFields)) → length vs < length (variants_tokens vs)
length-variants [] = omega arith
length-variants (v ∷ vs) = omega (arith, length-append (variant_tokens v) (variants_tokens vs), length-variants vs)

-- a struct is read again
struct_again : (name : List ℕ) (fs : TFields) (ts : List Token) → read_type_body (type_body_tokens name (type_body.Struct fs) ++ ts) ≡ Some ((name, type_body.Struct fs), ts)
unfolding read_type_body
struct_again name shape.Unit ts = rw (none_again true (Mark (codes ";") ∷ ts) refl refl) refl
struct_again name (shape.Named fs) ts = rw (append_assoc (named_tokens true fs) [] ts, braced_again true fs ts) refl
struct_again name (shape.Tuple tys) ts = rw (append_assoc (places_tokens true 0 tys) (Mark (codes ";") ∷ []) ts, tuple_again true tys (Mark (codes ";") ∷ ts)) refl

-- what a type is made of is read again
type_body_again : (name : List ℕ) (body : TypeBody) (ts : List Token) → read_type_body (type_body_tokens name body ++ ts) ≡ Some ((name, body), ts)
unfolding read_type_body
type_body_again name (type_body.Enum vs) ts =
    let inside = variants_tokens vs ++ ts in
    let fuel : length vs < length inside = omega (arith, length-append (variants_tokens vs) ts, length-variants vs) in
    rw (variants_again (length inside) vs ts fuel) refl
type_body_again name (type_body.Struct fs) ts = struct_again name fs ts

-- ---- types

fits_itself : (plain : Bool) → fits_derive plain plain ≡ true
fits_itself true = refl
fits_itself false = refl

-- a type is read again
type_again : (t : TypeItem) (ts : List Token) → read_type (type_tokens t ++ ts) ≡ Some (t, ts)
unfolding read_type type_tokens
type_again t ts =
    rw (append_assoc (derive_tokens (is_plain t.body) t.debug) (type_body_tokens t.name t.body) ts, derive_again (is_plain t.body) t.debug (type_body_tokens t.name t.body ++ ts), type_body_again t.name t.body ts, fits_itself (is_plain t.body)) refl

type_begins : (t : TypeItem) (ts : List Token) → at (Mark (codes "#")) (type_tokens t ++ ts) ≡ true
unfolding type_tokens
type_begins t ts = refl

-- types are read again, up to what begins none
pub types_again : (n : ℕ) (types : List TypeItem) (ts : List Token) → at (Mark (codes "#")) ts ≡ false → length types ≤ n → read_types n (types_tokens types ++ ts) ≡ Some (types, ts)
unfolding read_types
types_again zero [] ts e le = refl
types_again zero (t ∷ types) ts e le = absurd (omega (arith, le))
types_again (suc n) [] ts e le = rw e refl
types_again (suc n) (t ∷ types) ts e le =
    rw (append_assoc (type_tokens t) (types_tokens types) ts, type_begins t (types_tokens types ++ ts), type_again t (types_tokens types ++ ts), types_again n types ts e (omega (arith, le))) refl

type_some : (t : TypeItem) → 0 < length (type_tokens t)
unfolding type_tokens
type_some t = omega arith

pub length-types : (types : List TypeItem) → length types ≤ length (types_tokens types)
length-types [] = omega arith
length-types (t ∷ types) = omega (arith, length-append (type_tokens t) (types_tokens types), type_some t, length-types types)
