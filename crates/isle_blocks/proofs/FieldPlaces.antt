-- A constraint's places bind fields that it shows, and all that there are.
use Rattle.std.proofs.Common.{◌≡◌, ⊎_elim, ℕ, zero, suc, ◌+◌, ◌<◌, ◌≤◌, ltb, List, [], ◌∷◌, ◌++◌, length, map, Bool, true, false, Option, Some, None, refl, sym, ap, ◌∙◌, subst, arith, length-append}
use Rattle.std.specs.Prelude.{slice_get, IsSomeAnd, Contains, unwrap_or, option_and_then, option_map}
use Rattle.std.proofs.lemmas.Bool.{ltb-true, ltb-false}
use Rattle.std.proofs.lemmas.List.{get_or-take, length-map}
use Rattle.std.proofs.lemmas.List.Elements.{Contains-push, Contains-append_left}
use Rattle.isle_core.specs.declared.BindingId.{BindingId}
use Rattle.isle_core.specs.declared.TypeId.{TypeId}
use Rattle.isle_core.specs.declared.VariantId.{VariantId}
use Rattle.isle_core.specs.declared.rule_sets.Binding.{Binding}
use Rattle.isle_core.specs.declared.rule_sets.Binding.TheVariants as binding
use Rattle.isle_core.specs.declared.rule_sets.Constraint.{Constraint}
use Rattle.isle_core.specs.declared.rule_sets.Constraint.TheVariants as constraint
use Rattle.isle_core.specs.declared.types.Fields.{Fields}
use Rattle.isle_core.specs.declared.types.Fields.TheVariants as fields
use Rattle.isle_core.specs.declared.types.Term.{Term}
use Rattle.isle_core.specs.declared.types.TypeDef.{TypeDef}
use Rattle.isle_core.specs.declared.types.TypeDef.TheVariants as def
use Rattle.isle_core.specs.declared.types.Variant.{Variant}
use Rattle.isle_core.specs.ArmPlaces.{field_count, HasFields, IsStructOf, IsPart, AreParts, ArePlacesOf, bound_within}
use Rattle.isle_core.specs.ConstraintType.{IsConstraintOf}
use Rattle.isle_core.specs.Form.{Form, form, form_types, form_of_variant, variant_form, struct_form}
use Rattle.isle_core.specs.HasType.{tuple_fields, typed_fields}
use Rattle.isle_core.specs.Making.{MakesVariant, MakesStruct}
use Rattle.isle_core.specs.Path.{Path, Nowhere, VariantField, StructField, at, paths_of}
use Rattle.isle_core.specs.PathType.{IsPathOf}
use Rattle.isle_core.specs.Rule.{Environment}
use Rattle.isle_core.specs.Serializable.{IsFieldPath}
use Rattle.isle_core.specs.Setting.{Setting, setting}
use Rattle.isle_core.specs.StandsFor.{EachOnce}
use Rattle.isle_core.proofs.BindingPaths.{IsThere, contains_at, place_once, at_before}
use Rattle.isle_core.proofs.Contained.{contained_cases, none_contained}
use Rattle.isle_core.proofs.OptionLaws.{some_same}
use Rattle.isle_blocks.specs.declared.fields.Shown.{Shown}
use Rattle.isle_blocks.specs.declared.fields.Shown.TheVariants as shown
use Rattle.isle_blocks.specs.Fields.{FieldKey, source_of, part_of, FindsFields, first_places, inner_place, places_of, shows}
use Rattle.isle_blocks.specs.Followers.{FindsInners}
use Rattle.isle_blocks.proofs.PathTypes.{path_type_once}

-- ---- lists of places

places_long : (f : ℕ → Option BindingId) (n : ℕ) → length (first_places f n) ≡ n
places_long f zero = refl
places_long f (suc n) = let r = places_long f n in simp length-append (omega (arith, r))

places_contain : (f : ℕ → Option BindingId) (n i : ℕ) → i < n → Contains (first_places f n) (f i)
places_contain f zero i lt = absurd (omega (arith, lt))
places_contain f (suc n) i lt = pick (ltb i n) refl (places_contain f n i)
  where
    pick : (t : Bool) → ltb i n ≡ t → (i < n → Contains (first_places f n) (f i)) → Contains (first_places f (suc n)) (f i)
    pick true e r = Contains-append_left (first_places f n) (f n ∷ []) (f i) (r (ltb-true i n e))
    pick false e r =
        let above = ltb-false i n e in
        let same : n ≡ i = omega (arith, lt, above) in
        subst (λ k. Contains (first_places f n ++ f n ∷ []) (f k)) same (Contains-push (first_places f n) (f n))

parts_push : (s : Setting) (part : ℕ → Binding) (i : ℕ) (xs : List (Option BindingId)) (p : Option BindingId) → AreParts s part i xs → IsPart s p (part (i + length xs)) → AreParts s part i (xs ++ p ∷ [])
parts_push s part i [] p h k = let here : i + 0 ≡ i = omega arith in (subst (λ n. IsPart s p (part n)) here k, tt)
parts_push s part i (x ∷ xs) p h k =
    let next : i + suc (length xs) ≡ suc i + length xs = omega arith in
    (h.0, parts_push s part (suc i) xs p h.1 (subst (λ n. IsPart s p (part n)) next k))

are_parts : (s : Setting) (part : ℕ → Binding) (f : ℕ → Option BindingId) → ((i : ℕ) (b : BindingId) → f i ≡ Some b → slice_get s.bindings b.0 ≡ Some (part i)) → (n : ℕ) → AreParts s part 0 (first_places f n)
are_parts s part f h zero = tt
are_parts s part f h (suc n) =
    let long = places_long f n in
    let last : n ≡ 0 + length (first_places f n) = omega (arith, long) in
    parts_push s part 0 (first_places f n) (f n) (are_parts s part f h n) (subst (λ k. IsPart s (f n) (part k)) last (is_part (f n) refl))
  where
    is_part : (o : Option BindingId) → f n ≡ o → IsPart s o (part n)
    is_part None e = tt
    is_part (Some b) e = h n b e

-- ---- what is bound within

pub within_kept : (bound : List ℕ) (places : List (Option BindingId)) (n : ℕ) → Contains bound n → Contains (bound_within bound places) n
within_kept bound [] n k = k
within_kept bound (None ∷ places) n k = within_kept bound places n k
within_kept bound (Some b ∷ places) n k = within_kept (bound ++ b.0 ∷ []) places n (Contains-append_left bound (b.0 ∷ []) n k)

within_bound : (bound : List ℕ) (places : List (Option BindingId)) (b : BindingId) → Contains places (Some b) → Contains (bound_within bound places) b.0
within_bound bound [] b k = absurd (none_contained (Some b) k)
within_bound bound (None ∷ places) b k = ⊎_elim (λ e. absurd (other e)) (λ j. within_bound bound places b j) (contained_cases None places (Some b) k)
  where
    other : None ≡ Some b → ⊥
    other e = cc
within_bound bound (Some a ∷ places) b k = ⊎_elim
    (λ e. within_kept (bound ++ a.0 ∷ []) places b.0 (subst (λ (x : BindingId). Contains (bound ++ a.0 ∷ []) x.0) (some_same a b e) (Contains-push bound a.0)))
    (λ j. within_bound (bound ++ a.0 ∷ []) places b j)
    (contained_cases (Some a) places (Some b) k)

-- ---- the path of a field

-- a field of what is shown, over the path of the source
abbrev part_path : Shown → ℕ → Path → Path
part_path (shown.Variant source variant) field p = VariantField variant field p
part_path (shown.Struct source) field p = StructField field p

part_there : (s : Shown) (field : ℕ) (p : Path) → IsThere (part_path s field p)
part_there (shown.Variant source variant) field p = tt
part_there (shown.Struct source) field p = tt

field_path : (bs : List Binding) (b : BindingId) (s : Shown) (field : ℕ) → slice_get bs b.0 ≡ Some (part_of s field) → (source_of s).0 < b.0 → at (paths_of bs) b ≡ part_path s field (at (paths_of bs) (source_of s))
field_path bs b (shown.Variant source variant) field e lt = at_before bs b (binding.MatchVariant source variant (record { 0 = field })) e ∙ ap (VariantField variant field) (get_or-take b.0 (paths_of bs) source.0 Nowhere lt)
field_path bs b (shown.Struct source) field e lt = at_before bs b (binding.ExtractStruct source (record { 0 = field })) e ∙ ap (StructField field) (get_or-take b.0 (paths_of bs) source.0 Nowhere lt)

-- a field of what is shown is bound within
pub field_bound : (bs : List Binding) (found : FieldKey → Option BindingId) (counts : Shown → Option ℕ) → FindsFields bs found counts → EachOnce (paths_of bs) → (bound : List ℕ) (s : Shown) (field : ℕ) (q : BindingId)
    → slice_get bs q.0 ≡ Some (part_of s field) → (source_of s).0 < q.0 → Contains (bound_within bound (places_of found counts (Some s))) q.0
field_bound bs found counts f once bound s field q e lt =
    let ps = paths_of bs in
    let one = f.all s field q e lt in
    let is = f.is_field s field one.0 one.1 in
    let path = field_path bs q s field e lt in
    let same : q.0 ≡ one.0.0 = place_once ps q.0 one.0.0 once (subst IsThere (sym path) (part_there s field (at ps (source_of s)))) (path ∙ sym (field_path bs one.0 s field is.0 is.1)) in
    let n = f.counted s field one.0 one.1 in
    let count : n.0 ≡ unwrap_or (counts s) 0 = sym (ap (λ o. unwrap_or o 0) n.1) in
    let below : field < unwrap_or (counts s) 0 = subst (λ k. field < k) count n.2 in
    let there : Contains (places_of found counts (Some s)) (Some one.0) = subst (Contains (places_of found counts (Some s))) one.1 (places_contain (λ i. found (s, i)) (unwrap_or (counts s) 0) field below) in
    subst (Contains (bound_within bound (places_of found counts (Some s)))) (sym same) (within_bound bound (places_of found counts (Some s)) one.0 there)

-- ---- at most one place for each field

get_below : {A : Type 0} (xs : List A) (i : ℕ) (x : A) → slice_get xs i ≡ Some x → i < length xs
get_below [] i x e = cc
get_below (y ∷ xs) zero x e = omega arith
get_below (y ∷ xs) (suc i) x e = let r = get_below xs i x e in omega (arith, r)

tuple_long : (i : ℕ) (tys : List TypeId) → length (tuple_fields i tys) ≡ length tys
tuple_long i [] = refl
tuple_long i (ty ∷ tys) = ap suc (tuple_long (suc i) tys)

types_count : (env : Environment) (fs : Fields) → length (map (λ (field : List ℕ × TypeId). field.1) (typed_fields env fs)) ≡ field_count fs
types_count env fields.Unit = refl
types_count env (fields.Struct named) = length-map (typed_fields env (fields.Struct named)) _ ∙ length-map named _
types_count env (fields.Tuple tys) = length-map (tuple_fields 0 tys) _ ∙ tuple_long 0 tys

-- so many fields of a form
abbrev HasPlaces : Environment → Option Form → ℕ → Type 0
HasPlaces env o n = IsSomeAnd o (λ f. n ≤ length (form_types env f))

-- a field of a form of some type
abbrev HasField : Environment → Option Form → ℕ → Type 0
HasField env o field = (ty : TypeId) × IsSomeAnd o (λ f. slice_get (form_types env f) field ≡ Some ty)

variant_fits : (env : Environment) (variant : VariantId) (n : ℕ) (o : Option TypeDef) → HasPlaces env (option_and_then (variant_form variant) o) n → IsSomeAnd o (λ d. HasFields d variant n)
variant_fits env variant n None h = absurd h
variant_fits env variant n (Some (def.Enum name is_extern is_nodebug variants pos)) h = pick (slice_get variants variant.0) h
  where
    pick : (o : Option Variant) → HasPlaces env (option_map (form_of_variant name) o) n → IsSomeAnd o (λ (v : Variant). n ≤ field_count v.fields)
    pick None k = absurd k
    pick (Some v) k = subst (λ c. n ≤ c) (types_count env v.fields) k
variant_fits env variant n (Some d) h = absurd h

struct_fits : (env : Environment) (n : ℕ) (o : Option TypeDef) → HasPlaces env (option_and_then struct_form o) n → IsSomeAnd o (λ d. IsStructOf d n)
struct_fits env n None h = absurd h
struct_fits env n (Some (def.Struct name is_extern is_nodebug fs pos)) h = subst (λ c. n ≤ c) (types_count env fs) h
struct_fits env n (Some d) h = absurd h

count_fits : (env : Environment) (bs : List Binding) (found : FieldKey → Option BindingId) (counts : Shown → Option ℕ) → FindsFields bs found counts → (s : Shown) (o : Option Form) → IsSomeAnd o (λ f. Unit {0})
    → ((field : ℕ) (b : BindingId) → found (s, field) ≡ Some b → HasField env o field) → HasPlaces env o (unwrap_or (counts s) 0)
count_fits env bs found counts f s None h typed = absurd h
count_fits env bs found counts f s (Some fm) h typed = pick (counts s) refl
  where
    pick : (o : Option ℕ) → counts s ≡ o → unwrap_or o 0 ≤ length (form_types env fm)
    pick None e = omega arith
    pick (Some n) e =
        let l = f.last s n e in
        let ty = typed l.0 l.1 l.3 in
        let below = get_below (form_types env fm) l.0 ty.0 ty.1 in
        omega (arith, l.2, below)

-- each field path among the bindings has a type
abbrev pub AreFieldsTyped : Environment → Term → List Binding → Type 0
AreFieldsTyped env t bs = (p : Path) → Contains (paths_of bs) p → IsFieldPath p → (ty : TypeId) × IsPathOf env t p ty

variant_field : (env : Environment) (t : Term) (bs : List Binding) (found : FieldKey → Option BindingId) (counts : Shown → Option ℕ) → FindsFields bs found counts → AreFieldsTyped env t bs → (source : BindingId) (variant : VariantId) (ty : TypeId)
    → IsPathOf env t (at (paths_of bs) source) ty → (field : ℕ) (b : BindingId) → found (shown.Variant source variant, field) ≡ Some b → HasField env (form env (MakesVariant ty variant)) field
variant_field env t bs found counts f typed source variant ty h field b e =
    let ps = paths_of bs in
    let is = f.is_field (shown.Variant source variant) field b e in
    let path : at ps b ≡ VariantField variant field (at ps source) = field_path bs b (shown.Variant source variant) field is.0 is.1 in
    let k = typed (VariantField variant field (at ps source)) (contains_at ps b.0 (VariantField variant field (at ps source)) tt path) tt in
    let same = path_type_once env t (at ps source) k.1.0 ty k.1.1 h in
    (k.0, subst (λ of. IsSomeAnd (form env (MakesVariant of variant)) (λ f. slice_get (form_types env f) field ≡ Some k.0)) same k.1.2)

struct_field : (env : Environment) (t : Term) (bs : List Binding) (found : FieldKey → Option BindingId) (counts : Shown → Option ℕ) → FindsFields bs found counts → AreFieldsTyped env t bs → (source : BindingId) (ty : TypeId)
    → IsPathOf env t (at (paths_of bs) source) ty → (field : ℕ) (b : BindingId) → found (shown.Struct source, field) ≡ Some b → HasField env (form env (MakesStruct ty)) field
struct_field env t bs found counts f typed source ty h field b e =
    let ps = paths_of bs in
    let is = f.is_field (shown.Struct source) field b e in
    let path : at ps b ≡ StructField field (at ps source) = field_path bs b (shown.Struct source) field is.0 is.1 in
    let k = typed (StructField field (at ps source)) (contains_at ps b.0 (StructField field (at ps source)) tt path) tt in
    let same = path_type_once env t (at ps source) k.1.0 ty k.1.1 h in
    (k.0, subst (λ of. IsSomeAnd (form env (MakesStruct of)) (λ f. slice_get (form_types env f) field ≡ Some k.0)) same k.1.2)

-- ---- the places of a constraint

-- on a value of a type, the fields that it shows
pub fields_lawful : (env : Environment) (t : Term) (bs : List Binding) (found : FieldKey → Option BindingId) (counts : Shown → Option ℕ) (inners : ℕ → Option BindingId) → FindsFields bs found counts → AreFieldsTyped env t bs → (source : BindingId) (c : Constraint) (ty : TypeId)
    → IsPathOf env t (at (paths_of bs) source) ty → IsConstraintOf env c ty → ArePlacesOf (setting env t bs) source c (shows found counts inners source c)
fields_lawful env t bs found counts inners f typed source (constraint.Variant of variant) ty h k =
    let s = shown.Variant source variant in
    let n = unwrap_or (counts s) 0 in
    let path : IsPathOf env t (at (paths_of bs) source) of = subst (IsPathOf env t (at (paths_of bs) source)) (sym k.0) h in
    let fits = count_fits env bs found counts f s (form env (MakesVariant of variant)) k.1 (variant_field env t bs found counts f typed source variant of path) in (
      subst (λ m. IsSomeAnd (slice_get env.types.types of.0) (λ d. HasFields d variant m)) (sym (places_long (λ i. found (s, i)) n)) (variant_fits env variant n (slice_get env.types.types of.0) fits),
      are_parts (setting env t bs) (part_of s) (λ i. found (s, i)) (λ i b e. (f.is_field s i b e).0) n,
    )
fields_lawful env t bs found counts inners f typed source (constraint.Struct of) ty h k =
    let s = shown.Struct source in
    let n = unwrap_or (counts s) 0 in
    let path : IsPathOf env t (at (paths_of bs) source) of = subst (IsPathOf env t (at (paths_of bs) source)) (sym k.0) h in
    let fits = count_fits env bs found counts f s (form env (MakesStruct of)) k.1 (struct_field env t bs found counts f typed source of path) in (
      subst (λ m. IsSomeAnd (slice_get env.types.types of.0) (λ d. IsStructOf d m)) (sym (places_long (λ i. found (s, i)) n)) (struct_fits env n (slice_get env.types.types of.0) fits),
      are_parts (setting env t bs) (part_of s) (λ i. found (s, i)) (λ i b e. (f.is_field s i b e).0) n,
    )
fields_lawful env t bs found counts inners f typed source (constraint.ConstBool val) ty h k = refl
fields_lawful env t bs found counts inners f typed source (constraint.ConstInt val of) ty h k = refl
fields_lawful env t bs found counts inners f typed source (constraint.ConstPrim val) ty h k = refl
fields_lawful env t bs found counts inners f typed source constraint.Some ty h k = absurd k

-- of an option its inner value
pub inner_lawful : (env : Environment) (t : Term) (bs : List Binding) (inners : ℕ → Option BindingId) → FindsInners bs inners → (source : BindingId) → ArePlacesOf (setting env t bs) source constraint.Some (inner_place (inners source.0))
inner_lawful env t bs inners f source = pick (inners source.0) refl
  where
    pick : (o : Option BindingId) → inners source.0 ≡ o → ArePlacesOf (setting env t bs) source constraint.Some (inner_place o)
    pick None e = (omega arith, tt)
    pick (Some b) e = (omega arith, ((f.found source.0 b e).0, tt))
