-- The first immediate of each type.
use Rattle.std.proofs.Common.{◌≡◌, ℕ, ◌+◌, ◌<◌, List, [], ◌∷◌, ◌++◌, length, get_or, take, Bool, true, false, Option, Some, None, refl, sym, ap, ◌∙◌, subst, cond}
use Rattle.std.specs.Prelude.{option_map}
use Rattle.std.specs.BTreeMap.{BTreeMap, Updates}
use Rattle.std.specs.Ordering.{nat_cmp}
use Rattle.std.specs.Str.{bytes_eq}
use Rattle.std.specs.Cmp.Lexicographic.{slice_cmp, nat_list_eq_equiv}
use Rattle.std.proofs.lemmas.List.{take_more}
use Rattle.std.proofs.lemmas.Map.Text.{btree_map_updates_str}
use Rattle.std.proofs.lemmas.Slice.Eq.{bytes_eq-Decides}
use denote.Ref.{Bor}
use Rattle.isle_meta.specs.declared.clif.ImmField.{ImmField}
use Rattle.isle_meta.specs.Immediates.{type_of, values_of}
use Rattle.isle_meta.specs.KnownTypes.{field_at}
use Rattle.isle_prelude.specs.Ascending.{ascending}
use Rattle.isle_prelude.specs.FirstFields.{first_of, HasFirsts}
use Rattle.isle_prelude.specs.Immediates.{enum_values}
use Rattle.isle_prelude.specs.Lent.{lent}

-- what a field that is lent is
abbrev seen : Option (Bor ImmField) → Option ImmField
seen o = option_map (λ (field : Bor ImmField). field.now) o

lent_append : (xs ys : List (Bor ImmField)) → lent (xs ++ ys) ≡ lent xs ++ lent ys
lent_append [] ys = refl
lent_append (x ∷ xs) ys = ap (λ fs. x.now ∷ fs) (lent_append xs ys)

-- the first of two
abbrev or_else : Option ImmField → Option ImmField → Option ImmField
or_else None y = y
or_else (Some x) y = Some x

or_none : (x : Option ImmField) → or_else x None ≡ x
or_none None = refl
or_none (Some x) = refl

-- the first of a type among fields and one more
first_end : (xs : List ImmField) (x : ImmField) (q : List ℕ) → first_of (xs ++ x ∷ []) q ≡ or_else (first_of xs q) (cond (bytes_eq q (type_of x)) (Some x) None)
first_end [] x q = refl
first_end (y ∷ ys) x q = one (bytes_eq q (type_of y)) (first_end ys x q)
  where
    one : (b : Bool) → first_of (ys ++ x ∷ []) q ≡ or_else (first_of ys q) (cond (bytes_eq q (type_of x)) (Some x) None) → cond b (Some y) (first_of (ys ++ x ∷ []) q) ≡ or_else (cond b (Some y) (first_of ys q)) (cond (bytes_eq q (type_of x)) (Some x) None)
    one true e = refl
    one false e = e

-- the values of a first field
abbrev values_at : Option ImmField → List (List ℕ)
values_at None = []
values_at (Some i) = ascending (values_of i)

values_first : (is : List ImmField) (name : List ℕ) → enum_values is name ≡ values_at (first_of is name)
values_first [] name = refl
values_first (i ∷ is) name = one (bytes_eq name (type_of i)) (values_first is name)
  where
    one : (b : Bool) → enum_values is name ≡ values_at (first_of is name) → cond b (ascending (values_of i)) (enum_values is name) ≡ values_at (cond b (Some i) (first_of is name))
    one true e = refl
    one false e = e

-- the values of a type that the map has
pub values_there : (fields : List ImmField) (types : BTreeMap (Bor (List ℕ)) (Bor ImmField)) (name : List ℕ) (field : Bor ImmField) → HasFirsts fields types → Some field ≡ field_at types name → ascending (values_of field.now) ≡ enum_values fields name
values_there fields types name field has at = ap (λ o. values_at (seen o)) at ∙ ap values_at (has name) ∙ sym (values_first fields name)

-- and of one that it doesn't have
pub values_missing : (fields : List ImmField) (types : BTreeMap (Bor (List ℕ)) (Bor ImmField)) (name : List ℕ) → HasFirsts fields types → None ≡ field_at types name → [] ≡ enum_values fields name
values_missing fields types name has at = ap (λ o. values_at (seen o)) at ∙ ap values_at (has name) ∙ sym (values_first fields name)

-- a field more, of a type that is there
pub first_again : (earlier : List ImmField) (types : BTreeMap (Bor (List ℕ)) (Bor ImmField)) (field : ImmField) (name : List ℕ) (first : Bor ImmField) → HasFirsts earlier types → name ≡ type_of field → Some first ≡ field_at types name
    → HasFirsts (earlier ++ field ∷ []) types
first_again earlier types field name first has n at = λ q. one q (bytes_eq q (type_of field)) refl
  where
    one : (q : List ℕ) (b : Bool) → bytes_eq q (type_of field) ≡ b → seen (field_at types q) ≡ first_of (earlier ++ field ∷ []) q
    one q false k = has q ∙ sym (or_none (first_of earlier q)) ∙ ap (λ b. or_else (first_of earlier q) (cond b (Some field) None)) (sym k) ∙ sym (first_end earlier field q)
    one q true k =
        let there : seen (field_at types q) ≡ Some first.now = ap (λ m. seen (field_at types m)) ((bytes_eq-Decides q (type_of field)).0 k ∙ sym n) ∙ sym (ap seen at) in
        there
        ∙ ap (λ o. or_else o (cond (bytes_eq q (type_of field)) (Some field) None)) (sym there ∙ has q)
        ∙ sym (first_end earlier field q)

-- a field more, of a type that is not there
pub first_more : (earlier : List ImmField) (old new : BTreeMap (Bor (List ℕ)) (Bor ImmField)) (field : Bor ImmField) (name : Bor (List ℕ)) → HasFirsts earlier old → name.now ≡ type_of field.now → None ≡ field_at old name.now
    → Updates (λ (x y : Bor (List ℕ)). slice_cmp nat_cmp x.now y.now) old new name (Some field) → HasFirsts (earlier ++ field.now ∷ []) new
first_more earlier old new field name has n at up = λ q. ap seen (found q) ∙ one q (bytes_eq q (type_of field.now)) refl
  where
    found : (q : List ℕ) → field_at new q ≡ cond (bytes_eq q (type_of field.now)) (Some field) (field_at old q)
    found q = btree_map_updates_str name.now old new (Some field) up q ∙ ap (λ b. cond b (Some field) (field_at old q)) (nat_list_eq_equiv.symm name.now q ∙ ap (bytes_eq q) n)

    one : (q : List ℕ) (b : Bool) → bytes_eq q (type_of field.now) ≡ b → seen (cond (bytes_eq q (type_of field.now)) (Some field) (field_at old q)) ≡ first_of (earlier ++ field.now ∷ []) q
    one q false k =
        ap (λ b. seen (cond b (Some field) (field_at old q))) k
        ∙ has q
        ∙ sym (or_none (first_of earlier q)) ∙ ap (λ b. or_else (first_of earlier q) (cond b (Some field.now) None)) (sym k)
        ∙ sym (first_end earlier field.now q)
    one q true k =
        let before : first_of earlier q ≡ None = sym (has q) ∙ ap (λ m. seen (field_at old m)) ((bytes_eq-Decides q (type_of field.now)).0 k ∙ sym n) ∙ sym (ap seen at) in
        ap (λ b. seen (cond b (Some field) (field_at old q))) k
        ∙ ap (λ b. or_else None (cond b (Some field.now) None)) (sym k)
        ∙ ap (λ o. or_else o (cond (bytes_eq q (type_of field.now)) (Some field.now) None)) (sym before)
        ∙ sym (first_end earlier field.now q)

-- the fields before this place, and one more
pub first_next : (fields : List (Bor ImmField)) (i : ℕ) (x : Bor ImmField) (types : BTreeMap (Bor (List ℕ)) (Bor ImmField)) → i < length fields → x ≡ get_or fields i x → HasFirsts (lent (take i fields) ++ x.now ∷ []) types
    → HasFirsts (lent (take (i + 1) fields)) types
first_next fields i x types lt is h =
    subst (λ fs. HasFirsts fs types)
    (ap (λ (y : Bor ImmField). lent (take i fields) ++ y.now ∷ []) is
    ∙ sym (ap lent (take_more fields i x lt) ∙ lent_append (take i fields) (get_or fields i x ∷ [])))
    h
