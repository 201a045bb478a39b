-- The map of values by their names, filled from the last to the first.
use Rattle.std.proofs.Common.{◌≡◌, ℕ, ◌+◌, ◌<◌, List, ◌∷◌, length, drop, get_or, Bool, true, false, cond, Option, Some, refl, sym, ap, ◌∙◌}
use Rattle.std.specs.Prelude.{option_map, find}
use Rattle.std.specs.Str.{bytes_eq}
use Rattle.std.specs.Ordering.{nat_cmp}
use Rattle.std.specs.Cmp.Lexicographic.{slice_cmp, nat_list_eq_equiv}
use Rattle.std.specs.BTreeMap.{BTreeMap, get_by, UpdatesBy}
use Rattle.std.proofs.lemmas.List.{drop_more}
use Rattle.std.proofs.lemmas.Map.Text.{btree_map_updates_str}
use denote.Ref.{Bor}
use Rattle.isle_core.specs.declared.values.Value.{Value as CodeValue}
use Rattle.isle_running.specs.Named.{value_named, FindsValues}

abbrev Item : Type 0
Item = List ℕ × CodeValue

-- one value more, before those that are there
pub values_more : (vs : List Item) (i : ℕ) (v d : Item) (item : Bor CodeValue) (key : Bor (List ℕ)) (old new : BTreeMap (Bor (List ℕ)) (Bor CodeValue)) → i < length vs → v ≡ get_or vs i d → item.now ≡ v.1 → key.now ≡ v.0
    → FindsValues (drop (i + 1) vs) old → UpdatesBy (λ (x y : Bor (List ℕ)). slice_cmp nat_cmp x.now y.now) (λ (k : Bor (List ℕ)). slice_cmp nat_cmp key.now k.now) old new (Some item)
    → FindsValues (drop i vs) new
values_more vs i v d item key old new lt is shown named were updates = record {
  finds = λ name.
      ap (option_map (λ (x : Bor CodeValue). x.now)) (btree_map_updates_str key.now old new (Some item) updates name)
      ∙ placed name (bytes_eq key.now name) refl
      ∙ ap (λ xs. value_named xs name) (sym (drop_more vs i d lt ∙ ap (λ x. x ∷ drop (i + 1) vs) (sym is)));
}
  where
    asked : (name : List ℕ) → bytes_eq name v.0 ≡ bytes_eq key.now name
    asked name = nat_list_eq_equiv.symm name v.0 ∙ ap (λ x. bytes_eq x name) (sym named)

    next : (name : List ℕ) → Bool → Option CodeValue
    next name b = option_map (λ (x : Item). x.1) (cond b (Some v) (find (λ (x : Item). bytes_eq name x.0) (drop (i + 1) vs)))

    placed : (name : List ℕ) (here : Bool) → bytes_eq key.now name ≡ here
        → option_map (λ (x : Bor CodeValue). x.now) (cond here (Some item) (get_by (λ (k : Bor (List ℕ)). slice_cmp nat_cmp name k.now) old)) ≡ value_named (v ∷ drop (i + 1) vs) name
    placed name true e = ap Some shown ∙ ap (next name) (sym (asked name ∙ e))
    placed name false e = were.finds name ∙ ap (next name) (sym (asked name ∙ e))
