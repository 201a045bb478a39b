-- Values of the types of a name's places.
use Rattle.std.proofs.Common.{◌≡◌, ℕ, List, [], ◌∷◌, fold, Bool, true, false, cond, Some, None, refl, sym, ap, ◌∙◌, subst, ⊎_elim}
use Rattle.std.specs.Prelude.{◌&&◌, ◌↔◌, IsTrue, IfOk, codes, find, Contains, not, if◌then◌else◌}
use Rattle.std.specs.declared.result.Result.{Result}
use Rattle.std.specs.declared.result.Result.TheVariants as result
use Rattle.std.specs.List.{AllByRecursion}
use Rattle.std.specs.Str.{bytes_eq}
use Rattle.std.proofs.lemmas.Bool.{and_parts}
use Rattle.isle_core.specs.Int.{int_types, type_name}
use Rattle.isle_core.specs.declared.types.IntType.{IntType}
use Rattle.isle_core.specs.Value.{Value, Truth, Int, Opaque, Variant, Struct, FieldValues}
use Rattle.isle_printer.specs.Bytes.{same_bytes}
use Rattle.isle_printer.proofs.Bytes.{same_is, same_bytes_refl, same_bytes_sound}
use Rattle.isle_tree.specs.declared.tree.TypeItem.{TypeItem}
use Rattle.isle_tree.specs.Program.{Program}
use Rattle.isle_interpreter.specs.Agreed.{Known, joined, noted, agreed, FitsKnown}
use Rattle.isle_places.specs.DeclaredTypes.{Asked, Nowhere, is_foreign, is_declared, variant_by, struct_by, type_item}
use Rattle.isle_interpreter.specs.Entries.{FitsPlaces}
use Rattle.isle_places.specs.Places.{all_named}
use Rattle.isle_interpreter.specs.Named.{IsNamed, AreAsked}
use Rattle.isle_places.proofs.NamesAt.{contains_cases, first, later, nothing_there, stands_named, named_stands}

-- ---- a value is of one type

eq_sound : (a b : List ℕ) → bytes_eq a b ≡ true → a ≡ b
eq_sound a b e = same_bytes_sound a b (sym (same_is a b) ∙ e)

found_named : (name : List ℕ) (tys : List IntType) (ty : IntType) → find (λ (t : IntType). same_bytes (type_name t) name) tys ≡ Some ty → type_name ty ≡ name
found_named name [] ty e = absurd cc
found_named name (t ∷ tys) ty e = by (same_bytes (type_name t) name) refl e (found_named name tys ty)
  where
    by : (b : Bool) → same_bytes (type_name t) name ≡ b → cond b (Some t) (find (λ (t : IntType). same_bytes (type_name t) name) tys) ≡ Some ty → (find (λ (t : IntType). same_bytes (type_name t) name) tys ≡ Some ty → type_name ty ≡ name)
        → type_name ty ≡ name
    by true is f others = let same : t ≡ ty = cc in ap type_name (sym same) ∙ same_bytes_sound (type_name t) name is
    by false is f others = others f

asked_of_it : (types : List TypeItem) (b : Bool) (a : Asked) (fs : FieldValues) → AreAsked types (if b then a else Nowhere) fs → b ≡ true
asked_of_it types true a fs h = refl
asked_of_it types false a fs h = absurd h

-- the name of the type
abbrev name_of : Value → List ℕ
name_of (Truth b) = codes "bool"
name_of (Int ty n) = type_name ty
name_of (Opaque ty n) = ty
name_of (Variant ty variant fs) = ty
name_of (Struct ty fs) = ty

named_so : (types : List TypeItem) (name : List ℕ) (v : Value) → IsNamed types name v → name_of v ≡ name
named_so types name (Truth b) h = same_bytes_sound (codes "bool") name h
named_so types name (Int ty n) h = found_named name int_types ty h.0
named_so types name (Opaque ty n) h = sym (same_bytes_sound name ty (and_parts (same_bytes name ty) (is_foreign name && not (is_declared types name)) h.0).0)
named_so types name (Variant ty variant fs) h = sym (same_bytes_sound name ty (asked_of_it types (same_bytes name ty) (variant_by (type_item types name) name variant) fs h))
named_so types name (Struct ty fs) h = sym (same_bytes_sound name ty (asked_of_it types (same_bytes name ty) (struct_by (type_item types name) name) fs h))

-- ---- a place more

joined_fits : (types : List TypeItem) (k : Known) (ty : List ℕ) (v : Value) → FitsKnown types (Some (joined k ty)) v → FitsKnown types k v × IsNamed types ty v
joined_fits types None ty v h = (tt, h)
joined_fits types (Some None) ty v h = absurd h
joined_fits types (Some (Some o)) ty v h = by (bytes_eq o ty) refl h
  where
    by : (b : Bool) → bytes_eq o ty ≡ b → FitsKnown types (Some (if b then Some o else None)) v → IsNamed types o v × IsNamed types ty v
    by true e k = (k, subst (λ n. IsNamed types n v) (eq_sound o ty e) k)
    by false e k = absurd k

fits_joined : (types : List TypeItem) (k : Known) (ty : List ℕ) (v : Value) → FitsKnown types k v → IsNamed types ty v → FitsKnown types (Some (joined k ty)) v
fits_joined types None ty v h n = n
fits_joined types (Some None) ty v h n = absurd h
fits_joined types (Some (Some o)) ty v h n = by (bytes_eq o ty) refl
  where
    same : bytes_eq o ty ≡ true
    same = same_is o ty ∙ ap (same_bytes o) (sym (named_so types ty v n) ∙ named_so types o v h) ∙ same_bytes_refl o

    by : (b : Bool) → bytes_eq o ty ≡ b → FitsKnown types (Some (if b then Some o else None)) v
    by true e = h
    by false e = absurd (let yes = same in cc)

module _ (types : List TypeItem) (name : List ℕ) (v : Value) where
  noted_fits : (k : Known) (x : List ℕ × List ℕ) → FitsKnown types (noted name k x) v → FitsKnown types k v × (bytes_eq name x.0 ≡ true → IsNamed types x.1 v)
  noted_fits k x h = by (bytes_eq name x.0) h
    where
      by : (b : Bool) → FitsKnown types (if b then Some (joined k x.1) else k) v → FitsKnown types k v × (b ≡ true → IsNamed types x.1 v)
      by true g = let parts = joined_fits types k x.1 v g in (parts.0, λ e. parts.1)
      by false g = (g, λ e. absurd cc)

  fits_noted : (k : Known) (x : List ℕ × List ℕ) → FitsKnown types k v → (bytes_eq name x.0 ≡ true → IsNamed types x.1 v) → FitsKnown types (noted name k x) v
  fits_noted k x h n = by (bytes_eq name x.0) n
    where
      by : (b : Bool) → (b ≡ true → IsNamed types x.1 v) → FitsKnown types (if b then Some (joined k x.1) else k) v
      by true g = fits_joined types k x.1 v h (g refl)
      by false g = h

  -- the value is of the type of each of the name's places
  abbrev FitsEach : List (List ℕ × List ℕ) → Type 0
  FitsEach xs = AllByRecursion (λ (x : List ℕ × List ℕ). bytes_eq name x.0 ≡ true → IsNamed types x.1 v) xs

  agreed_fits : (k : Known) (xs : List (List ℕ × List ℕ)) → FitsKnown types (fold (noted name) k xs) v → FitsKnown types k v × FitsEach xs
  agreed_fits k [] h = (h, tt)
  agreed_fits k (x ∷ xs) h =
      let more = agreed_fits (noted name k x) xs h in
      let parts = noted_fits k x more.0 in
      (parts.0, (parts.1, more.1))

  fits_agreed : (k : Known) (xs : List (List ℕ × List ℕ)) → FitsKnown types k v → FitsEach xs → FitsKnown types (fold (noted name) k xs) v
  fits_agreed k [] h each = h
  fits_agreed k (x ∷ xs) h each = fits_agreed (noted name k x) xs (fits_noted k x h each.0) each.1

-- ---- places

module _ (p : Program) (name : List ℕ) (v : Value) where
  each_fits : (xs : List (List ℕ × List ℕ)) → ((ty : List ℕ) → Contains xs (name, ty) → IsNamed p.types ty v) → FitsEach p.types name v xs
  each_fits [] h = tt
  each_fits (x ∷ xs) h = (λ e. h x.1 (subst (λ n. Contains (x ∷ xs) (n, x.1)) (sym (eq_sound name x.0 e)) (first x xs)), each_fits xs (λ ty there. h ty (later x (name, ty) xs there)))

  fits_each : (xs : List (List ℕ × List ℕ)) → FitsEach p.types name v xs → (ty : List ℕ) → Contains xs (name, ty) → IsNamed p.types ty v
  fits_each [] each ty h = absurd (nothing_there (name, ty) h)
  fits_each (x ∷ xs) each ty h = ⊎_elim
      (λ here. subst (λ (y : List ℕ × List ℕ). bytes_eq name y.0 ≡ true → IsNamed p.types y.1 v) here each.0 (same_is name name ∙ same_bytes_refl name))
      (λ there. fits_each xs each.1 ty there)
      (contains_cases x (name, ty) xs h)

  -- a value fits what is known of a name exactly if it fits the places
  pub known_fits : (k : Known) → k ≡ agreed name (all_named p) → FitsKnown p.types k v ↔ FitsPlaces p name v
  known_fits k is = (
    λ h g ty there stands. fits_each (all_named p) (agreed_fits p.types name v None (all_named p) (subst (λ l. FitsKnown p.types l v) is h)).1 ty (stands_named p g name ty there stands),
    λ h. subst (λ l. FitsKnown p.types l v) (sym is) (fits_agreed p.types name v None (all_named p) tt (each_fits (all_named p) (λ ty there. let s = named_stands p name ty there in h s.function ty s.there s.stands))),
  )

  -- a name at no place
  pub none_fits : (k : Known) → k ≡ agreed name (all_named p) → k ≡ None → IsTrue true ↔ FitsPlaces p name v
  none_fits k is none = let fits = known_fits None (sym none ∙ is) in (λ t. fits.0 tt, λ h. refl)

  -- one whose places don't agree
  pub several_fit : (k : Known) → k ≡ agreed name (all_named p) → k ≡ Some None → IsTrue false ↔ FitsPlaces p name v
  several_fit k is some = let fits = known_fits (Some None) (sym some ∙ is) in (λ t. absurd cc, λ h. absurd (fits.1 h))

  -- one whose places do
  pub one_fits : {E : Type 0} (k : Known) (ty : List ℕ) (types : List TypeItem) (r : Result Bool E) → k ≡ agreed name (all_named p) → k ≡ Some (Some ty) → types ≡ p.types → IfOk r (λ b. IsTrue b ↔ IsNamed types ty v)
      → IfOk r (λ b. IsTrue b ↔ FitsPlaces p name v)
  one_fits k ty types (result.Ok b) is some same h =
      let fits = known_fits (Some (Some ty)) (sym some ∙ is) in
      let typed : IsTrue b ↔ IsNamed p.types ty v = subst (λ ts. IsTrue b ↔ IsNamed ts ty v) same h in
      (λ t. fits.0 (typed.0 t), λ f. typed.1 (fits.1 f))
  one_fits k ty types (result.Err e) is some same h = tt
