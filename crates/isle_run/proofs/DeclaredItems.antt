-- The declared type of a name is that of the one type that is emitted under it.
use Rattle.std.proofs.Common.{◌≡◌, ℕ, zero, suc, List, [], ◌∷◌, Bool, true, false, cond, Option, Some, None, refl, sym, ap, ◌∙◌, subst}
use Rattle.std.specs.Prelude.{filter_map, slice_get}
use Rattle.std.specs.List.{AllByRecursion, IsDistinct, cons_option}
use Rattle.std.specs.Str.{bytes_eq}
use Rattle.std.proofs.lemmas.Option.{same_Some}
use Rattle.std.proofs.lemmas.Slice.Eq.{bytes_eq-Decides}
use Rattle.isle_core.specs.declared.types.TypeDef.{TypeDef}
use Rattle.isle_core.specs.declared.types.TypeDef.TheVariants as def
use Rattle.isle_core.specs.declared.types.TypeEnv.{TypeEnv}
use Rattle.isle_tree.specs.declared.tree.TypeItem.{TypeItem}
use Rattle.isle_lawful_names.specs.TypeItems.{type_item}
use Rattle.isle_lawful_names.specs.LawfulNames.{emitted_name, emitted_names}
use Rattle.isle_places.specs.DeclaredTypes as asked

-- ---- two names

pub apart : (a b : List ℕ) → bytes_eq a b ≡ false → bytes_eq b a ≡ false
apart a b e = by (bytes_eq b a) refl
  where
    by : (x : Bool) → bytes_eq b a ≡ x → bytes_eq b a ≡ false
    by false is = is
    by true is =
        let same : a ≡ b = sym ((bytes_eq-Decides b a).0 is) in
        let t : bytes_eq a b ≡ true = (bytes_eq-Decides a b).1 same in
        absurd cc

never_same : (a b : List ℕ) → bytes_eq a b ≡ false → a ≡ b → ⊥
never_same a b e same = let t : bytes_eq a b ≡ true = (bytes_eq-Decides a b).1 same in cc

-- ---- types by their emitted names

name_at : (P : List ℕ → Type 0) (types : TypeEnv) (ds : List TypeDef) (i : ℕ) (d : TypeDef) → AllByRecursion P (emitted_names types ds) → slice_get ds i ≡ Some d → P (emitted_name types d)
name_at P types [] zero d all at = absurd cc
name_at P types [] (suc i) d all at = absurd cc
name_at P types (x ∷ ds) zero d all at = subst (λ y. P (emitted_name types y)) (same_Some x d at) all.0
name_at P types (x ∷ ds) (suc i) d all at = name_at P types ds i d all.1 at

-- types that are emitted under one name are one
pub same_def : (types : TypeEnv) (ds : List TypeDef) (i j : ℕ) (c d : TypeDef) → IsDistinct bytes_eq (emitted_names types ds) → slice_get ds i ≡ Some c → slice_get ds j ≡ Some d → emitted_name types c ≡ emitted_name types d → c ≡ d
unfolding IsDistinct
same_def types [] zero j c d distinct at also same = absurd cc
same_def types [] (suc i) j c d distinct at also same = absurd cc
same_def types (x ∷ ds) zero zero c d distinct at also same = sym (same_Some x c at) ∙ same_Some x d also
same_def types (x ∷ ds) zero (suc j) c d distinct at also same =
    absurd (never_same (emitted_name types x) (emitted_name types d) (name_at (λ y. bytes_eq (emitted_name types x) y ≡ false) types ds j d distinct.0 also) (ap (emitted_name types) (same_Some x c at) ∙ same))
same_def types (x ∷ ds) (suc i) zero c d distinct at also same =
    absurd (never_same (emitted_name types x) (emitted_name types c) (name_at (λ y. bytes_eq (emitted_name types x) y ≡ false) types ds i c distinct.0 at) (ap (emitted_name types) (same_Some x d also) ∙ sym same))
same_def types (x ∷ ds) (suc i) (suc j) c d distinct at also same = same_def types ds i j c d distinct.1 at also same

-- ---- declared types by their names

-- a declared type has the name that its type is emitted under
pub item_name : (types : TypeEnv) (d : TypeDef) (t : TypeItem) → type_item types d ≡ Some t → t.name ≡ emitted_name types d
item_name types (def.Enum name true is_nodebug variants pos) t e = absurd cc
item_name types (def.Enum name false is_nodebug variants pos) t e = ap (λ (x : TypeItem). x.name) (sym (same_Some _ t e))
item_name types (def.Struct name true is_nodebug fields pos) t e = absurd cc
item_name types (def.Struct name false is_nodebug fields pos) t e = ap (λ (x : TypeItem). x.name) (sym (same_Some _ t e))
item_name types (def.Builtin ty) t e = absurd cc
item_name types (def.Primitive name rust pos) t e = absurd cc

-- one of another name in front, or none
past : (name : List ℕ) (o : Option TypeItem) (rest : List TypeItem) → ((t : TypeItem) → o ≡ Some t → bytes_eq name t.name ≡ false) → asked.type_item (cons_option o rest) name ≡ asked.type_item rest name
past name None rest other = refl
past name (Some t) rest other = ap (λ b. cond b (Some t) (asked.type_item rest name)) (other t refl)

-- one of the name in front, or none
first : (name : List ℕ) (o : Option TypeItem) (rest : List TypeItem) → ((t : TypeItem) → o ≡ Some t → t.name ≡ name) → asked.type_item rest name ≡ None → asked.type_item (cons_option o rest) name ≡ o
first name None rest named none = none
first name (Some t) rest named none = ap (λ b. cond b (Some t) (asked.type_item rest name)) ((bytes_eq-Decides name t.name).1 (sym (named t refl)))

-- so among the types of these definitions, if the name of one of them is another
other_item : (types : TypeEnv) (name : List ℕ) (d : TypeDef) (rest : List TypeItem) → bytes_eq name (emitted_name types d) ≡ false → asked.type_item (cons_option (type_item types d) rest) name ≡ asked.type_item rest name
other_item types name d rest e = past name (type_item types d) rest (λ t is. ap (bytes_eq name) (item_name types d t is) ∙ e)

none_found : (types : TypeEnv) (name : List ℕ) (ds : List TypeDef) → AllByRecursion (λ y. bytes_eq name y ≡ false) (emitted_names types ds) → asked.type_item (filter_map (type_item types) ds) name ≡ None
none_found types name [] all = refl
none_found types name (d ∷ ds) all = other_item types name d (filter_map (type_item types) ds) all.0 ∙ none_found types name ds all.1

-- the declared type of a type's name is its own
pub found_item : (types : TypeEnv) (ds : List TypeDef) (i : ℕ) (d : TypeDef) → IsDistinct bytes_eq (emitted_names types ds) → slice_get ds i ≡ Some d → asked.type_item (filter_map (type_item types) ds) (emitted_name types d) ≡ type_item types d
unfolding IsDistinct
found_item types [] zero d distinct at = absurd cc
found_item types [] (suc i) d distinct at = absurd cc
found_item types (x ∷ ds) zero d distinct at =
    subst (λ y. asked.type_item (filter_map (type_item types) (x ∷ ds)) (emitted_name types y) ≡ type_item types y) (same_Some x d at)
    (first (emitted_name types x) (type_item types x) (filter_map (type_item types) ds) (item_name types x) (none_found types (emitted_name types x) ds distinct.0))
found_item types (x ∷ ds) (suc i) d distinct at =
    other_item types (emitted_name types d) x (filter_map (type_item types) ds) (apart (emitted_name types x) (emitted_name types d) (name_at (λ y. bytes_eq (emitted_name types x) y ≡ false) types ds i d distinct.0 at))
    ∙ found_item types ds i d distinct.1 at
