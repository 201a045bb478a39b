-- Constants and what holds their values, one after another.
use Rattle.std.proofs.Common.{◌≡◌, ℕ, ℤ, ◌+◌, ◌<◌, List, [], ◌∷◌, ◌++◌, length, drop, map, get_or, Bool, true, false, cond, Option, Some, None, refl, sym, ap, ◌∙◌, append_assoc}
use Rattle.std.specs.Prelude.{pos, OnOk, option_map, option_to_list, filter_map, find}
use Rattle.std.specs.declared.result.Result.{Result}
use Rattle.std.specs.declared.result.Result.TheVariants as result
use Rattle.std.specs.Str.{bytes_eq}
use Rattle.std.specs.Ordering.{nat_cmp}
use Rattle.std.specs.Cmp.Lexicographic.{slice_cmp, nat_list_eq_equiv}
use Rattle.std.specs.BTreeMap.{BTreeMap, get_by, UpdatesBy}
use Rattle.std.proofs.lemmas.List.{drop_more}
use Rattle.std.proofs.lemmas.Map.Text.{btree_map_updates_str}
use denote.Ref.{Bor}
use Rattle.isle_core.specs.declared.values.Value.{Value as CodeValue}
use Rattle.isle_core.specs.ValueViews.{value, const}
use Rattle.isle_core.specs.declared.values.Value.TheVariants as code
use Rattle.isle_core.specs.Value.{Value, Variant, Struct}
use Rattle.isle_outcomes.specs.Fields.{fields}
use Rattle.isle_outcomes.proofs.SeesValues.{value-variant, value-struct}
use Rattle.isle_interpreter.specs.Clashes.{Held, Owner, name_key, value_key, fields_key, unless_only, clash_of, const_in, at_constant}

-- one constant more, before those that are there
pub constants_more : (consts : List (List ℕ × CodeValue)) (i : ℕ) (x d : List ℕ × CodeValue) (item : Bor CodeValue) (key : Bor (List ℕ)) (old new : BTreeMap (Bor (List ℕ)) (Bor CodeValue)) → i < length consts → x ≡ get_or consts i d → item.now ≡ x.1 → key.now ≡ x.0
    → ((name : List ℕ) → at_constant old name ≡ const_in (map const (drop (i + 1) consts)) name) → UpdatesBy (λ (x y : Bor (List ℕ)). slice_cmp nat_cmp x.now y.now) (λ (k : Bor (List ℕ)). slice_cmp nat_cmp key.now k.now) old new (Some item)
    → (name : List ℕ) → at_constant new name ≡ const_in (map const (drop i consts)) name
constants_more consts i x d item key old new lt is shown named were updates name =
    ap (option_map (λ (v : Bor CodeValue). value v.now)) (btree_map_updates_str key.now old new (Some item) updates name)
    ∙ by (bytes_eq key.now name) refl
    ∙ ap (λ xs. const_in (map const xs) name) (sym (drop_more consts i d lt ∙ ap (λ y. y ∷ drop (i + 1) consts) (sym is)))
  where
    rest : List (List ℕ × Value)
    rest = map const (drop (i + 1) consts)

    asked : bytes_eq name x.0 ≡ bytes_eq key.now name
    asked = nat_list_eq_equiv.symm name x.0 ∙ ap (λ k. bytes_eq k name) (sym named)

    by : (here : Bool) → bytes_eq key.now name ≡ here → option_map (λ (v : Bor CodeValue). value v.now) (cond here (Some item) (get_by (λ (k : Bor (List ℕ)). slice_cmp nat_cmp name k.now) old)) ≡ const_in (const x ∷ rest) name
    by true e = ap (λ v. Some (value v)) shown ∙ ap (λ b. option_map (λ (c : List ℕ × Value). c.1) (cond b (Some (const x)) (find (λ (c : List ℕ × Value). bytes_eq name c.0) rest))) (sym (asked ∙ e))
    by false e = were name ∙ ap (λ b. option_map (λ (c : List ℕ × Value). c.1) (cond b (Some (const x)) (find (λ (c : List ℕ × Value). bytes_eq name c.0) rest))) (sym (asked ∙ e))

-- what stays of a list whose first item may give something
front : {B C : Type 0} (f : B → Option C) (y : B) (ys : List B) → filter_map f (y ∷ ys) ≡ option_to_list (f y) ++ filter_map f ys
front {C = C} f y ys = by (f y) refl
  where
    by : (o : Option C) → f y ≡ o → filter_map f (y ∷ ys) ≡ option_to_list o ++ filter_map f ys
    by None e = rw (e) refl
    by (Some z) e = rw (e) refl

-- what one of those that are left gives
pub given_step : {A B C : Type 0} (f : B → Option C) (seen : A → B) (xs : List A) (i : ℕ) (x d : A) (one : Option C) (old new whole : List C) → i < length xs → x ≡ get_or xs i d → one ≡ f (seen x) → new ≡ old ++ option_to_list one → old ++ filter_map f (map seen (drop i xs)) ≡ whole
    → new ++ filter_map f (map seen (drop (i + 1) xs)) ≡ whole
given_step f seen xs i x d one old new whole lt is gives more left =
    ap (λ ys. ys ++ filter_map f (map seen (drop (i + 1) xs))) (more ∙ ap (λ o. old ++ option_to_list o) gives)
    ∙ append_assoc old (option_to_list (f (seen x))) (filter_map f (map seen (drop (i + 1) xs)))
    ∙ ap (λ ys. old ++ ys) (sym (front f (seen x) (map seen (drop (i + 1) xs))))
    ∙ ap (λ ys. old ++ filter_map f (map seen ys)) (sym (drop_more xs i d lt ∙ ap (λ y. y ∷ drop (i + 1) xs) (sym is)))
    ∙ left

-- the same is known of each key
pub clash_alike : (known other : List ℤ → Owner) (h : Held) → ((key : List ℤ) → other key ≡ known key) → clash_of other h ≡ clash_of known h
clash_alike known other (key, None) same = refl
clash_alike known other (key, Some name) same = ap (unless_only name) (same key)

-- ---- keys of made values

three : (x : ℤ) (old a b c : List ℤ) → (((old ++ x ∷ []) ++ a) ++ b) ++ c ≡ old ++ (x ∷ ((a ++ b) ++ c))
three x old a b c =
    ap (λ zs. zs ++ c) (append_assoc (old ++ x ∷ []) a b)
    ∙ append_assoc (old ++ x ∷ []) (a ++ b) c
    ∙ append_assoc old (x ∷ []) ((a ++ b) ++ c)

two : (x : ℤ) (old a b : List ℤ) → ((old ++ x ∷ []) ++ a) ++ b ≡ old ++ (x ∷ (a ++ b))
two x old a b = append_assoc (old ++ x ∷ []) a b ∙ append_assoc old (x ∷ []) (a ++ b)

pub variant_pushed : {B E : Type 0} (r : Result B E) (g : CodeValue) (ty variant : List ℕ) (xs ys : List (List ℕ × CodeValue)) (old one two_keys three_keys new : List ℤ) → g ≡ code.Variant ty variant xs → ys ≡ xs → one ≡ old ++ pos 3 ∷ [] → two_keys ≡ one ++ name_key ty → three_keys ≡ two_keys ++ name_key variant
    → OnOk r (new ≡ three_keys ++ fields_key (fields ys)) → OnOk r (new ≡ old ++ value_key (value g))
variant_pushed (result.Ok v) g ty variant xs ys old one two_keys three_keys new is same e f h more =
    more
    ∙ ap (λ zs. zs ++ fields_key (fields ys)) (h ∙ ap (λ zs. zs ++ name_key variant) (f ∙ ap (λ zs. zs ++ name_key ty) e))
    ∙ three (pos 3) old (name_key ty) (name_key variant) (fields_key (fields ys))
    ∙ ap (λ zs. old ++ value_key (Variant ty variant (fields zs))) same
    ∙ ap (λ v. old ++ value_key v) (sym (ap value is ∙ value-variant ty variant xs))
variant_pushed (result.Err x) g ty variant xs ys old one two_keys three_keys new is same e f h more = tt

pub struct_pushed : {B E : Type 0} (r : Result B E) (g : CodeValue) (ty : List ℕ) (xs ys : List (List ℕ × CodeValue)) (old one two_keys new : List ℤ) → g ≡ code.Struct ty xs → ys ≡ xs → one ≡ old ++ pos 4 ∷ [] → two_keys ≡ one ++ name_key ty → OnOk r (new ≡ two_keys ++ fields_key (fields ys))
    → OnOk r (new ≡ old ++ value_key (value g))
struct_pushed (result.Ok v) g ty xs ys old one two_keys new is same e f more =
    more
    ∙ ap (λ zs. zs ++ fields_key (fields ys)) (f ∙ ap (λ zs. zs ++ name_key ty) e)
    ∙ two (pos 4) old (name_key ty) (fields_key (fields ys))
    ∙ ap (λ zs. old ++ value_key (Struct ty (fields zs))) same
    ∙ ap (λ v. old ++ value_key v) (sym (ap value is ∙ value-struct ty xs))
struct_pushed (result.Err x) g ty xs ys old one two_keys new is same e f more = tt
