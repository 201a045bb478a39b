-- Fields of tuples, whose numbers are their names.
use Rattle.std.proofs.Common.{◌≡◌, ℕ, zero, suc, ◌+◌, ◌<◌, ◌≤◌, List, [], ◌∷◌, length, Bool, true, false, cond, Some, None, refl, sym, ap, ◌∙◌, arith}
use Rattle.std.specs.Prelude.{option_map, slice_get, find}
use Rattle.std.specs.Str.{bytes_eq}
use Rattle.std.specs.Fmt.{decimal}
use Rattle.std.proofs.lemmas.Slice.Eq.{bytes_eq-Decides}
use Rattle.isle_printer.specs.Bytes.{same_bytes}
use Rattle.isle_printer.proofs.Bytes.{same_is}
use Rattle.isle_places.specs.DeclaredTypes.{These, tuple_fields, second_named}
use Rattle.isle_places.specs.Told.{AValue, Untold, field_told, typed_told}

-- the name is the number of none of these fields
abbrev IsNone : ℕ → List (List ℕ) → List ℕ → Type 0
IsNone k tys name = (i : ℕ) → i < length tys → name ≡ decimal (k + i) → ⊥

-- of none but the i-th of them
abbrev IsOnly : ℕ → List (List ℕ) → List ℕ → ℕ → Type 0
IsOnly k tys name i = (j : ℕ) → j < length tys → name ≡ decimal (k + j) → j ≡ i

none_later : (k : ℕ) (ty : List ℕ) (tys : List (List ℕ)) (name : List ℕ) → IsNone k (ty ∷ tys) name → IsNone (k + 1) tys name
none_later k ty tys name none i lt e =
    let same : k + 1 + i ≡ k + suc i = omega arith in
    none (suc i) (omega (arith, lt)) (e ∙ ap decimal same)

only_later : (k : ℕ) (ty : List ℕ) (tys : List (List ℕ)) (name : List ℕ) (i : ℕ) → IsOnly k (ty ∷ tys) name (suc i) → IsOnly (k + 1) tys name i
only_later k ty tys name i only j lt e =
    let same : k + 1 + j ≡ k + suc j = omega arith in
    let is : suc j ≡ suc i = only (suc j) (omega (arith, lt)) (e ∙ ap decimal same) in
    cc

differs : (k : ℕ) (ty : List ℕ) (tys : List (List ℕ)) (name : List ℕ) → (name ≡ decimal k → ⊥) → second_named (tuple_fields k (ty ∷ tys)) name ≡ second_named (tuple_fields (k + 1) tys) name
differs k ty tys name not = by (bytes_eq name (decimal k)) refl
  where
    by : (b : Bool) → bytes_eq name (decimal k) ≡ b
        → option_map (λ (x : List ℕ × List ℕ). x.1) (cond b (Some (decimal k, ty)) (find (λ (x : List ℕ × List ℕ). bytes_eq name x.0) (tuple_fields (k + 1) tys))) ≡ second_named (tuple_fields (k + 1) tys) name
    by true e = absurd (not ((bytes_eq-Decides name (decimal k)).0 e))
    by false e = refl

no_field : (k : ℕ) (tys : List (List ℕ)) (name : List ℕ) → IsNone k tys name → second_named (tuple_fields k tys) name ≡ None
no_field k [] name none = refl
no_field k (ty ∷ tys) name none =
    let here : k + 0 ≡ k = omega arith in
    differs k ty tys name (λ e. none 0 (omega arith) (e ∙ ap decimal (sym here))) ∙ no_field (k + 1) tys name (none_later k ty tys name none)

that_field : (k : ℕ) (tys : List (List ℕ)) (name ty : List ℕ) (i : ℕ) → slice_get tys i ≡ Some ty → name ≡ decimal (k + i) → IsOnly k tys name i → second_named (tuple_fields k tys) name ≡ Some ty
that_field k [] name ty i at e only = absurd cc
that_field k (t ∷ tys) name ty zero at e only =
    let here : k + 0 ≡ k = omega arith in
    let same : t ≡ ty = cc in
    ap (λ b. option_map (λ (x : List ℕ × List ℕ). x.1) (cond b (Some (decimal k, t)) (find (λ (x : List ℕ × List ℕ). bytes_eq name x.0) (tuple_fields (k + 1) tys)))) ((bytes_eq-Decides name (decimal k)).1 (e ∙ ap decimal here))
    ∙ ap Some same
that_field k (t ∷ tys) name ty (suc i) at e only =
    let more : k + suc i ≡ k + 1 + i = omega arith in
    let here : k + 0 ≡ k = omega arith in
    differs k t tys name (λ f. let bad : 0 ≡ suc i = only 0 (omega arith) (f ∙ ap decimal (sym here)) in cc)
    ∙ that_field (k + 1) tys name ty i at (e ∙ ap decimal more) (only_later k t tys name i only)

-- the name is no number but this one
abbrev pub MayBe : List (List ℕ) → List ℕ → ℕ → Type 0
MayBe tys name index = (i : ℕ) → i < length tys → name ≡ decimal i → i ≡ index

same_plus : (i : ℕ) → 0 + i ≡ i
same_plus i = omega arith

from_zero : (tys : List (List ℕ)) (name : List ℕ) (index : ℕ) → MayBe tys name index → IsOnly 0 tys name index
from_zero tys name index may j lt e =
    may j lt (e ∙ ap decimal (same_plus j))

-- it is that, and the field is there
pub numbered : (tys : List (List ℕ)) (name ty : List ℕ) (index : ℕ) (b : Bool) → slice_get tys index ≡ Some ty → b ≡ same_bytes name (decimal index) → b ≡ true → MayBe tys name index → AValue ty ≡ field_told (These (tuple_fields 0 tys)) name
numbered tys name ty index b at is is_yes may =
    let same : name ≡ decimal index = (bytes_eq-Decides name (decimal index)).0 (same_is name (decimal index) ∙ sym is ∙ is_yes) in
    ap typed_told (sym (that_field 0 tys name ty index at (same ∙ ap decimal (sym (same_plus index))) (from_zero tys name index may)))

-- it isn't
pub not_numbered : (tys : List (List ℕ)) (name : List ℕ) (index : ℕ) (b : Bool) → b ≡ same_bytes name (decimal index) → b ≡ false → MayBe tys name index → Untold ≡ field_told (These (tuple_fields 0 tys)) name
not_numbered tys name index b is is_no may =
    ap typed_told (sym (no_field 0 tys name (λ i lt e.
    let here : i ≡ index = from_zero tys name index may i lt e in
    let there : bytes_eq name (decimal index) ≡ true = (bytes_eq-Decides name (decimal index)).1 (e ∙ ap decimal (same_plus i ∙ here)) in
    let away : bytes_eq name (decimal index) ≡ false = same_is name (decimal index) ∙ sym is ∙ is_no in
    cc)))

-- the field isn't there
pub beyond : (tys : List (List ℕ)) (name : List ℕ) (index : ℕ) → length tys ≤ index → MayBe tys name index → Untold ≡ field_told (These (tuple_fields 0 tys)) name
beyond tys name index le may =
    ap typed_told (sym (no_field 0 tys name (λ i lt e.
    let here : i ≡ index = from_zero tys name index may i lt e in
    absurd (omega (arith, lt, le, here)))))

-- the name is no number
pub unnumbered : (tys : List (List ℕ)) (name : List ℕ) → ((i : ℕ) → i < length tys → name ≡ decimal i → ⊥) → Untold ≡ field_told (These (tuple_fields 0 tys)) name
unnumbered tys name none = ap typed_told (sym (no_field 0 tys name (λ i lt e. none i lt (e ∙ ap decimal (same_plus i)))))
