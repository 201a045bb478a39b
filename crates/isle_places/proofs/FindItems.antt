-- Maps from names, filled from the last item to the first.
use Rattle.std.proofs.Common.{◌≡◌, ℕ, ◌+◌, ◌<◌, List, ◌∷◌, length, drop, get_or, Bool, true, false, cond, Option, Some, None, refl, sym, ap, ◌∙◌}
use Rattle.std.specs.Prelude.{option_map, find}
use Rattle.std.specs.Str.{bytes_eq}
use Rattle.std.specs.Ordering.{nat_cmp}
use Rattle.std.specs.Cmp.Lexicographic.{slice_cmp, nat_list_eq_equiv}
use Rattle.std.specs.BTreeMap.{BTreeMap, get_by, UpdatesBy}
use Rattle.std.proofs.lemmas.List.{drop_more}
use Rattle.std.proofs.lemmas.Map.Text.{btree_map_updates_str}
use denote.Ref.{Bor}
use Rattle.isle_tree.specs.declared.tree.TFields.{TFields}
use Rattle.isle_tree.specs.declared.tree.TypeItem.{TypeItem}
use Rattle.isle_places.specs.Types.{FindsItems, FindsVariants, FindsFields}

module _ {A W V : Type 0} (key_of : A → List ℕ) (value_of : A → V) (seen : W → V) where
  -- what the map has at a name
  abbrev at : BTreeMap (Bor (List ℕ)) W → List ℕ → Option V
  at found name = option_map seen (get_by (λ (k : Bor (List ℕ)). slice_cmp nat_cmp name k.now) found)

  -- the first of these items that has the name
  abbrev first : List A → List ℕ → Option V
  first xs name = option_map value_of (find (λ (x : A). bytes_eq name (key_of x)) xs)

  -- one item more, before those that are there
  more : (xs : List A) (i : ℕ) (x d : A) (item : W) (key : Bor (List ℕ)) (old new : BTreeMap (Bor (List ℕ)) W) → i < length xs → x ≡ get_or xs i d → seen item ≡ value_of x → key.now ≡ key_of x → ((name : List ℕ) → at old name ≡ first (drop (i + 1) xs) name)
      → UpdatesBy (λ (x y : Bor (List ℕ)). slice_cmp nat_cmp x.now y.now) (λ (k : Bor (List ℕ)). slice_cmp nat_cmp key.now k.now) old new (Some item) → (name : List ℕ) → at new name ≡ first (drop i xs) name
  more xs i x d item key old new lt is shown named were updates name =
      ap (option_map seen) (btree_map_updates_str key.now old new (Some item) updates name)
      ∙ placed (bytes_eq key.now name) refl
      ∙ ap (λ ys. first ys name) (sym (drop_more xs i d lt ∙ ap (λ y. y ∷ drop (i + 1) xs) (sym is)))
    where
      asked : bytes_eq name (key_of x) ≡ bytes_eq key.now name
      asked = nat_list_eq_equiv.symm name (key_of x) ∙ ap (λ k. bytes_eq k name) (sym named)

      placed : (here : Bool) → bytes_eq key.now name ≡ here
          → option_map seen (cond here (Some item) (get_by (λ (k : Bor (List ℕ)). slice_cmp nat_cmp name k.now) old)) ≡ first (x ∷ drop (i + 1) xs) name
      placed true e = ap Some shown ∙ ap (λ b. option_map value_of (cond b (Some x) (find (λ (y : A). bytes_eq name (key_of y)) (drop (i + 1) xs)))) (sym (asked ∙ e))
      placed false e = were name ∙ ap (λ b. option_map value_of (cond b (Some x) (find (λ (y : A). bytes_eq name (key_of y)) (drop (i + 1) xs)))) (sym (asked ∙ e))

same_mapped : {A : Type 0} (o : Option A) → option_map (λ (x : A). x) o ≡ o
same_mapped None = refl
same_mapped (Some x) = refl

-- one type more
pub items_more : (types : List TypeItem) (i : ℕ) (t d item : TypeItem) (key : Bor (List ℕ)) (old new : BTreeMap (Bor (List ℕ)) TypeItem) → i < length types → t ≡ get_or types i d → item ≡ t → key.now ≡ t.name
    → FindsItems (drop (i + 1) types) old → UpdatesBy (λ (x y : Bor (List ℕ)). slice_cmp nat_cmp x.now y.now) (λ (k : Bor (List ℕ)). slice_cmp nat_cmp key.now k.now) old new (Some item)
    → FindsItems (drop i types) new
items_more types i t d item key old new lt is shown named were updates = record {
  finds = λ name.
      sym (same_mapped _)
      ∙ more (λ (t : TypeItem). t.name) (λ (t : TypeItem). t) (λ (t : TypeItem). t) types i t d item key old new lt is shown named (λ other. same_mapped _ ∙ were.finds other ∙ sym (same_mapped _)) updates name
      ∙ same_mapped _;
}

-- one variant more
pub variants_more : (variants : List (List ℕ × TFields)) (i : ℕ) (v d : List ℕ × TFields) (item : TFields) (key : Bor (List ℕ)) (old new : BTreeMap (Bor (List ℕ)) TFields) → i < length variants → v ≡ get_or variants i d → item ≡ v.1 → key.now ≡ v.0
    → FindsVariants (drop (i + 1) variants) old → UpdatesBy (λ (x y : Bor (List ℕ)). slice_cmp nat_cmp x.now y.now) (λ (k : Bor (List ℕ)). slice_cmp nat_cmp key.now k.now) old new (Some item)
    → FindsVariants (drop i variants) new
variants_more variants i v d item key old new lt is shown named were updates = record {
  finds = λ name.
      sym (same_mapped _)
      ∙ more (λ (x : List ℕ × TFields). x.0) (λ (x : List ℕ × TFields). x.1) (λ (fs : TFields). fs) variants i v d item key old new lt is shown named (λ other. same_mapped _ ∙ were.finds other) updates name;
}

-- one field more
pub fields_more : (fields : List (List ℕ × List ℕ)) (i : ℕ) (f d : List ℕ × List ℕ) (item key : Bor (List ℕ)) (old new : BTreeMap (Bor (List ℕ)) (Bor (List ℕ))) → i < length fields → f ≡ get_or fields i d → item.now ≡ f.1 → key.now ≡ f.0
    → FindsFields (drop (i + 1) fields) old → UpdatesBy (λ (x y : Bor (List ℕ)). slice_cmp nat_cmp x.now y.now) (λ (k : Bor (List ℕ)). slice_cmp nat_cmp key.now k.now) old new (Some item)
    → FindsFields (drop i fields) new
fields_more fields i f d item key old new lt is shown named were updates = record {
  finds = more (λ (x : List ℕ × List ℕ). x.0) (λ (x : List ℕ × List ℕ). x.1) (λ (t : Bor (List ℕ)). t.now) fields i f d item key old new lt is shown named were.finds updates;
}
