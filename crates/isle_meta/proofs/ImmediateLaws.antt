-- Values of immediates, and the map of their types.
use Rattle.std.proofs.Common.{◌≡◌, ℕ, ◌+◌, ◌<◌, ◌≤◌, List, [], ◌∷◌, ◌++◌, length, get_or, take, drop, Bool, true, false, Option, Some, None, refl, sym, ap, ◌∙◌, subst, append_assoc, cond}
use Rattle.std.specs.Prelude.{◌||◌, ◌&&◌, not}
use Rattle.std.specs.BTreeMap.{BTreeMap, Updates}
use Rattle.std.specs.Cmp.Lexicographic.{slice_cmp, nat_list_eq_equiv}
use Rattle.std.specs.Ordering.{nat_cmp}
use Rattle.std.specs.Str.{bytes_eq}
use Rattle.std.proofs.lemmas.List.{drop_more, take_more, take_all}
use Rattle.std.proofs.lemmas.List.Folds.{list_any-append}
use Rattle.std.proofs.lemmas.Map.Text.{btree_map_updates_str}
use Rattle.std.proofs.lemmas.Slice.Eq.{bytes_eq-Decides}
use denote.Ref.{Bor}
use Rattle.isle_meta.specs.declared.clif.ImmField.{ImmField}
use Rattle.isle_meta.specs.Immediates.{are_among, are_misshapen, has_others, is_misshapen, same_values, type_of}
use Rattle.isle_meta.specs.KnownTypes.{KnowsTypes, differs, field_at}
use Rattle.isle_meta.specs.TableNames.{is_among}

-- the map has the types of fields before this place, and whether one is misshapen is whether one is from here on
pub record ShapedFrom (earlier : List ImmField) (i : ℕ) (fields : List ImmField) (types : BTreeMap (Bor (List ℕ)) (Bor ImmField)) : Type 0 where
  pub known : KnowsTypes (earlier ++ take i fields) types
  pub same : are_misshapen (earlier ++ take i fields) (drop i fields) ≡ are_misshapen earlier fields

-- ---- tests

and_first : (a b : Bool) → (a && b) ≡ true → a ≡ true
and_first true b e = refl
and_first false b e = absurd cc

and_second : (a b : Bool) → (a && b) ≡ true → b ≡ true
and_second true b e = e
and_second false b e = absurd cc

and_both : (a b : Bool) → a ≡ true → b ≡ true → (a && b) ≡ true
and_both true true e k = refl
and_both true false e k = absurd cc
and_both false b e k = absurd cc

-- two tests that hold of the same are one
same_tests : (a b : Bool) → (a ≡ true → b ≡ true) → (b ≡ true → a ≡ true) → a ≡ b
same_tests true true h k = refl
same_tests true false h k = sym (h refl)
same_tests false true h k = k refl
same_tests false false h k = refl

-- ---- values

-- one value of some that are among others
among_one : (x : List ℕ) (ys zs : List (List ℕ)) → is_among x ys ≡ true → are_among ys zs ≡ true → is_among x zs ≡ true
among_one x [] zs e h = absurd cc
among_one x (y ∷ ys) zs e h = one (bytes_eq x y) refl (and_first (is_among y zs) (are_among ys zs) h) (λ k. among_one x ys zs k (and_second (is_among y zs) (are_among ys zs) h)) e
  where
    one : (b : Bool) → bytes_eq x y ≡ b → is_among y zs ≡ true → (is_among x ys ≡ true → is_among x zs ≡ true) → (b || is_among x ys) ≡ true → is_among x zs ≡ true
    one true k first rest t = subst (λ v. is_among v zs ≡ true) (sym ((bytes_eq-Decides x y).0 k)) first
    one false k first rest t = rest t

-- values that are among those that are among others
among_trans : (xs ys zs : List (List ℕ)) → are_among xs ys ≡ true → are_among ys zs ≡ true → are_among xs zs ≡ true
among_trans [] ys zs e h = refl
among_trans (x ∷ xs) ys zs e h =
    and_both (is_among x zs) (are_among xs zs) (among_one x ys zs (and_first (is_among x ys) (are_among xs ys) e) h)
    (among_trans xs ys zs (and_second (is_among x ys) (are_among xs ys) e) h)

-- of two lists of the same values each is like a third one if the other is
lists_alike : (xs ys zs : List (List ℕ)) → (are_among xs ys && are_among ys xs) ≡ true → (are_among xs zs && are_among zs xs) ≡ true → (are_among ys zs && are_among zs ys) ≡ true
lists_alike xs ys zs e h =
    and_both (are_among ys zs) (are_among zs ys)
    (among_trans ys xs zs (and_second (are_among xs ys) (are_among ys xs) e) (and_first (are_among xs zs) (are_among zs xs) h))
    (among_trans zs xs ys (and_second (are_among xs zs) (are_among zs xs) h) (and_first (are_among xs ys) (are_among ys xs) e))

turned : (xs ys : List (List ℕ)) → (are_among xs ys && are_among ys xs) ≡ true → (are_among ys xs && are_among xs ys) ≡ true
turned xs ys e = and_both (are_among ys xs) (are_among xs ys) (and_second (are_among xs ys) (are_among ys xs) e) (and_first (are_among xs ys) (are_among ys xs) e)

-- what has the values of another differs from the same
pub same_alike : (a b w : Option (List (List ℕ))) → same_values a b ≡ true → same_values a w ≡ same_values b w
same_alike None None w e = refl
same_alike None (Some ys) w e = absurd cc
same_alike (Some xs) None w e = absurd cc
same_alike (Some xs) (Some ys) None e = refl
same_alike (Some xs) (Some ys) (Some zs) e =
    same_tests (are_among xs zs && are_among zs xs) (are_among ys zs && are_among zs ys) (lists_alike xs ys zs e) (lists_alike ys xs zs (turned xs ys e))

-- a value that is not among names
pub in_out : (values names : List (List ℕ)) (i : ℕ) (x : List ℕ) → i < length values → x ≡ get_or values i x → is_among x names ≡ false → are_among (drop i values) names ≡ are_among values names → false ≡ are_among values names
in_out values names i x lt is e r =
    ap (λ b. b && are_among (drop (i + 1) values) names) (sym e)
    ∙ ap (λ y. is_among y names && are_among (drop (i + 1) values) names) is
    ∙ sym (ap (λ vs. are_among vs names) (drop_more values i x lt)) ∙ r

-- and one that is
pub in_on : (values names : List (List ℕ)) (i : ℕ) (x : List ℕ) → i < length values → x ≡ get_or values i x → is_among x names ≡ true → are_among (drop i values) names ≡ are_among values names → are_among (drop (i + 1) values) names ≡ are_among values names
in_on values names i x lt is e r =
    ap (λ b. b && are_among (drop (i + 1) values) names) (sym e)
    ∙ ap (λ y. is_among y names && are_among (drop (i + 1) values) names) is
    ∙ sym (ap (λ vs. are_among vs names) (drop_more values i x lt)) ∙ r

-- ---- the map of types

-- the first field of a name tells for all
pub others_told : (earlier : List ImmField) (types : BTreeMap (Bor (List ℕ)) (Bor ImmField)) (field : ImmField) (name : List ℕ) (first : Bor ImmField) (same : Bool) → KnowsTypes earlier types → name ≡ type_of field
    → Some first ≡ field_at types name → same ≡ same_values first.now.values field.values → not same ≡ has_others earlier (type_of field) field.values
others_told earlier types field name first same knows n at is =
    ap not is
    ∙ ap (λ o. differs o field.values) at
    ∙ ap (λ m. differs (field_at types m) field.values) n
    ∙ sym (knows (type_of field) field.values)

pub others_none : (earlier : List ImmField) (types : BTreeMap (Bor (List ℕ)) (Bor ImmField)) (field : ImmField) (name : List ℕ) → KnowsTypes earlier types → name ≡ type_of field → None ≡ field_at types name
    → false ≡ has_others earlier (type_of field) field.values
others_none earlier types field name knows n at =
    ap (λ o. differs o field.values) at
    ∙ ap (λ m. differs (field_at types m) field.values) n
    ∙ sym (knows (type_of field) field.values)

-- one field more
others_more : (earlier : List ImmField) (field : ImmField) (q : List ℕ) (w : Option (List (List ℕ))) → has_others (earlier ++ field ∷ []) q w ≡ (has_others earlier q w || ((bytes_eq q (type_of field) && not (same_values field.values w)) || false))
others_more earlier field q w = list_any-append (λ (f : ImmField). bytes_eq q (type_of f) && not (same_values f.values w)) earlier (field ∷ [])

or_false : (a : Bool) → (a || (false || false)) ≡ a
or_false true = refl
or_false false = refl

or_end : (a : Bool) → (false || (a || false)) ≡ a
or_end true = refl
or_end false = refl

or_again : (a : Bool) → (a || (a || false)) ≡ a
or_again true = refl
or_again false = refl

-- a field of a type that is there, with its values
pub known_again : (earlier : List ImmField) (types : BTreeMap (Bor (List ℕ)) (Bor ImmField)) (field : ImmField) (name : List ℕ) (first : Bor ImmField) (same : Bool) → KnowsTypes earlier types → name ≡ type_of field
    → Some first ≡ field_at types name → same ≡ same_values first.now.values field.values → not same ≡ false → KnowsTypes (earlier ++ field ∷ []) types
known_again earlier types field name first same knows n at is e = λ q w. others_more earlier field q w ∙ one q w (bytes_eq q (type_of field)) refl
  where
    true_of : (b : Bool) → not b ≡ false → b ≡ true
    true_of true k = refl
    true_of false k = absurd cc

    one : (q : List ℕ) (w : Option (List (List ℕ))) (b : Bool) → bytes_eq q (type_of field) ≡ b → (has_others earlier q w || ((bytes_eq q (type_of field) && not (same_values field.values w)) || false)) ≡ differs (field_at types q) w
    one q w false k = ap (λ b. has_others earlier q w || ((b && not (same_values field.values w)) || false)) k ∙ or_false (has_others earlier q w) ∙ knows q w
    one q w true k =
        let there : differs (field_at types q) w ≡ not (same_values field.values w) =
        ap (λ m. differs (field_at types m) w) ((bytes_eq-Decides q (type_of field)).0 k ∙ sym n)
        ∙ sym (ap (λ o. differs o w) at)
        ∙ ap not (same_alike first.now.values field.values w (sym is ∙ true_of same e)) in
        ap (λ b. has_others earlier q w || ((b && not (same_values field.values w)) || false)) k
        ∙ ap (λ b. b || (not (same_values field.values w) || false)) (knows q w ∙ there)
        ∙ or_again (not (same_values field.values w))
        ∙ sym there

-- a field of a type that is not there
pub known_more : (earlier : List ImmField) (old new : BTreeMap (Bor (List ℕ)) (Bor ImmField)) (field : Bor ImmField) (name : Bor (List ℕ)) → KnowsTypes earlier old → name.now ≡ type_of field.now → None ≡ field_at old name.now
    → Updates (λ (x y : Bor (List ℕ)). slice_cmp nat_cmp x.now y.now) old new name (Some field) → KnowsTypes (earlier ++ field.now ∷ []) new
known_more earlier old new field name knows n at up = λ q w. others_more earlier field.now q w ∙ one q w (bytes_eq q (type_of field.now)) refl
  where
    found : (q : List ℕ) → field_at new q ≡ cond (bytes_eq q (type_of field.now)) (Some field) (field_at old q)
    found q = btree_map_updates_str name.now old new (Some field) up q ∙ ap (λ b. cond b (Some field) (field_at old q)) (nat_list_eq_equiv.symm name.now q ∙ ap (bytes_eq q) n)

    one : (q : List ℕ) (w : Option (List (List ℕ))) (b : Bool) → bytes_eq q (type_of field.now) ≡ b → (has_others earlier q w || ((bytes_eq q (type_of field.now) && not (same_values field.now.values w)) || false)) ≡ differs (field_at new q) w
    one q w false k =
        ap (λ b. has_others earlier q w || ((b && not (same_values field.now.values w)) || false)) k
        ∙ or_false (has_others earlier q w) ∙ knows q w
        ∙ sym (ap (λ o. differs o w) (found q ∙ ap (λ b. cond b (Some field) (field_at old q)) k))
    one q w true k =
        let before : has_others earlier q w ≡ false =
        knows q w ∙ ap (λ m. differs (field_at old m) w) ((bytes_eq-Decides q (type_of field.now)).0 k ∙ sym n) ∙ sym (ap (λ o. differs o w) at) in
        ap (λ b. has_others earlier q w || ((b && not (same_values field.now.values w)) || false)) k
        ∙ ap (λ b. b || (not (same_values field.now.values w) || false)) before
        ∙ or_end (not (same_values field.now.values w))
        ∙ sym (ap (λ o. differs o w) (found q ∙ ap (λ b. cond b (Some field) (field_at old q)) k))

-- ---- fields of a format

-- those before this place and one more
fields_more : (earlier fields : List ImmField) (i : ℕ) (x : ImmField) → i < length fields → x ≡ get_or fields i x → (earlier ++ take i fields) ++ x ∷ [] ≡ earlier ++ take (i + 1) fields
fields_more earlier fields i x lt is =
    append_assoc earlier (take i fields) (x ∷ [])
    ∙ ap (λ fs. earlier ++ fs) (ap (λ y. take i fields ++ y ∷ []) is ∙ sym (take_more fields i x lt))

pub shaped_on : (earlier fields : List ImmField) (i : ℕ) (x : ImmField) (old new : BTreeMap (Bor (List ℕ)) (Bor ImmField)) (found : Bool) → i < length fields → x ≡ get_or fields i x → found ≡ false
    → found ≡ is_misshapen (earlier ++ take i fields) x → KnowsTypes ((earlier ++ take i fields) ++ x ∷ []) new → ShapedFrom earlier i fields old → ShapedFrom earlier (i + 1) fields new
shaped_on earlier fields i x old new found lt is e told more s =
    record {
      known = subst (λ fs. KnowsTypes fs new) (fields_more earlier fields i x lt is) more;
      same =
          ap (λ fs. are_misshapen fs (drop (i + 1) fields)) (sym (fields_more earlier fields i x lt is))
          ∙ ap (λ b. b || are_misshapen ((earlier ++ take i fields) ++ x ∷ []) (drop (i + 1) fields)) (sym e ∙ told)
          ∙ ap (λ y. is_misshapen (earlier ++ take i fields) y || are_misshapen ((earlier ++ take i fields) ++ y ∷ []) (drop (i + 1) fields)) is
          ∙ sym (ap (are_misshapen (earlier ++ take i fields)) (drop_more fields i x lt))
          ∙ s.same;
    }

pub shaped_all : (earlier fields : List ImmField) (i : ℕ) (types : BTreeMap (Bor (List ℕ)) (Bor ImmField)) → length fields ≤ i → ShapedFrom earlier i fields types → KnowsTypes (earlier ++ fields) types
shaped_all earlier fields i types past s = subst (λ fs. KnowsTypes (earlier ++ fs) types) (take_all i fields past) s.known
