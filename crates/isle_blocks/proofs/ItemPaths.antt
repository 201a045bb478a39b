-- The paths of items, and of the lists that they stand after.
use Rattle.std.proofs.Common.{◌≡◌, ◌<◌, List, take, Some, sym, ap, ◌∙◌, subst}
use Rattle.std.specs.Prelude.{slice_get}
use Rattle.std.proofs.lemmas.List.{get_or-take}
use Rattle.isle_core.specs.declared.BindingId.{BindingId}
use Rattle.isle_core.specs.declared.rule_sets.Binding.{Binding}
use Rattle.isle_core.specs.declared.rule_sets.Binding.TheVariants as binding
use Rattle.isle_core.specs.Path.{Path, Nowhere, Chosen, at, path_over, paths_of}
use Rattle.isle_core.proofs.BindingPaths.{IsThere, at_before, binding_at, taken}

-- an item after its list
pub item_path : (bs : List Binding) (source b : BindingId) → slice_get bs b.0 ≡ Some (binding.Iterator source) → source.0 < b.0 → at (paths_of bs) b ≡ Chosen (at (paths_of bs) source)
item_path bs source b e lt = at_before bs b (binding.Iterator source) e ∙ ap Chosen (get_or-take b.0 (paths_of bs) source.0 Nowhere lt)

-- where an item stands, its list stands before it
pub item_at : (bs : List Binding) (b : BindingId) (p : Path) → IsThere p → at (paths_of bs) b ≡ Chosen p
    → (source : BindingId) × (slice_get bs b.0 ≡ Some (binding.Iterator source)) × (source.0 < b.0) × (at (paths_of bs) source ≡ p)
item_at bs b p h e =
    let x = binding_at bs b (subst IsThere (sym e) tt) in
    pick x.0 x.1 (sym (at_before bs b x.0 x.1) ∙ e)
  where
    item_same : (q r : Path) → Chosen q ≡ Chosen r → q ≡ r
    item_same q r k = cc

    pick : (x : Binding) → slice_get bs b.0 ≡ Some x → path_over (take b.0 (paths_of bs)) x ≡ Chosen p
        → (source : BindingId) × (slice_get bs b.0 ≡ Some (binding.Iterator source)) × (source.0 < b.0) × (at (paths_of bs) source ≡ p)
    pick (binding.Iterator source) s k =
        let same = item_same (at (take b.0 (paths_of bs)) source) p k in
        let t = taken (paths_of bs) b.0 source.0 (subst IsThere (sym same) h) in
        (source, s, t.0, sym t.1 ∙ same)
    pick x s k = cc
