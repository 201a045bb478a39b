-- The map of the functions that may be called, filled from the last to the first.
use Rattle.std.proofs.Common.{◌≡◌, ℕ, ◌+◌, ◌<◌, List, ◌∷◌, length, drop, get_or, Bool, true, false, cond, Some, refl, sym, ap, ◌∙◌}
use Rattle.std.specs.Prelude.{option_map}
use Rattle.std.specs.Str.{bytes_eq}
use Rattle.std.specs.Ordering.{nat_cmp}
use Rattle.std.specs.Cmp.Lexicographic.{slice_cmp, nat_list_eq_equiv}
use Rattle.std.specs.BTreeMap.{BTreeMap, get_by, UpdatesBy}
use Rattle.std.proofs.lemmas.List.{drop_more}
use Rattle.std.proofs.lemmas.Map.Text.{btree_map_updates_str}
use denote.Ref.{Bor}
use Rattle.isle_tree.specs.declared.tree.TraitFn.{TraitFn}
use Rattle.isle_tree.specs.WellFormed.{trait_fn}
use Rattle.isle_tree.specs.Callees.{FindsCallees}

-- one function more, before those that are there
pub callees_more : (fns : List TraitFn) (i : ℕ) (f d : TraitFn) (item : Bor TraitFn) (key : Bor (List ℕ)) (old new : BTreeMap (Bor (List ℕ)) (Bor TraitFn)) → i < length fns → f ≡ get_or fns i d → item.now ≡ f → key.now ≡ f.name
    → FindsCallees (drop (i + 1) fns) old → UpdatesBy (λ (x y : Bor (List ℕ)). slice_cmp nat_cmp x.now y.now) (λ (k : Bor (List ℕ)). slice_cmp nat_cmp key.now k.now) old new (Some item)
    → FindsCallees (drop i fns) new
callees_more fns i f d item key old new lt is shown named were updates = record {
  finds = λ name.
      ap (option_map (λ (x : Bor TraitFn). x.now)) (btree_map_updates_str key.now old new (Some item) updates name)
      ∙ placed name (bytes_eq key.now name) refl
      ∙ ap (λ xs. trait_fn xs name) (sym (drop_more fns i d lt ∙ ap (λ x. x ∷ drop (i + 1) fns) (sym is)));
}
  where
    asked : (name : List ℕ) → bytes_eq name f.name ≡ bytes_eq key.now name
    asked name = nat_list_eq_equiv.symm name f.name ∙ ap (λ x. bytes_eq x name) (sym named)

    placed : (name : List ℕ) (here : Bool) → bytes_eq key.now name ≡ here
        → option_map (λ (x : Bor TraitFn). x.now) (cond here (Some item) (get_by (λ (k : Bor (List ℕ)). slice_cmp nat_cmp name k.now) old)) ≡ trait_fn (f ∷ drop (i + 1) fns) name
    placed name true e = ap Some shown ∙ ap (λ b. cond b (Some f) (trait_fn (drop (i + 1) fns) name)) (sym (asked name ∙ e))
    placed name false e = were.finds name ∙ ap (λ b. cond b (Some f) (trait_fn (drop (i + 1) fns) name)) (sym (asked name ∙ e))
