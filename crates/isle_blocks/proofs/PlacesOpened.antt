-- What stands in the places of an arm is within the lists that were opened before it.
use Rattle.std.proofs.Common.{◌≡◌, ◌⊎◌, inl, inr, ⊎_elim, ℕ, zero, suc, List, [], ◌∷◌, ◌++◌, Option, Some, None, take, get_or, refl, sym, subst}
use Rattle.std.specs.Prelude.{slice_get}
use Rattle.isle_core.specs.declared.BindingId.{BindingId}
use Rattle.isle_core.specs.declared.rule_sets.Binding.{Binding}
use Rattle.isle_core.specs.declared.rule_sets.Binding.TheVariants as binding
use Rattle.isle_core.specs.declared.rule_sets.Constraint.{Constraint}
use Rattle.isle_core.specs.declared.rule_sets.Constraint.TheVariants as constraint
use Rattle.isle_core.specs.declared.types.Term.{Term}
use Rattle.isle_core.specs.ArmPlaces.{AreParts, ArePlacesOf, bound_within}
use Rattle.isle_core.specs.ListOrder.{ListsWithin}
use Rattle.isle_core.specs.Path.{Path, Nowhere, at, paths_of}
use Rattle.isle_core.specs.Rule.{Environment}
use Rattle.isle_core.specs.Setting.{setting}
use Rattle.isle_core.proofs.BindingPaths.{at_before}
use Rattle.isle_blocks.proofs.ListsRead.{HasOpened, opened_push}

module _ (env : Environment) (t : Term) (bs : List Binding) where
  abbrev ps : List Path
  ps = paths_of bs

  -- one among the first n paths, or none
  taken_or : (qs : List Path) (n i : ℕ) → (get_or (take n qs) i Nowhere ≡ get_or qs i Nowhere) ⊎ (get_or (take n qs) i Nowhere ≡ Nowhere)
  taken_or qs zero i = inr refl
  taken_or [] (suc n) i = inl refl
  taken_or (q ∷ qs) (suc n) zero = inl refl
  taken_or (q ∷ qs) (suc n) (suc i) = taken_or qs n i

  source_within : (opened' : List Path) (source b : BindingId) → ListsWithin opened' (at ps source) → ListsWithin opened' (get_or (take b.0 ps) source.0 Nowhere)
  source_within opened' source b within = ⊎_elim (λ e. subst (ListsWithin opened') (sym e) within) (λ e. subst (ListsWithin opened') (sym e) tt) (taken_or ps b.0 source.0)

  -- what stands in the places of an arm
  parts_opened : (opened' : List Path) (part : ℕ → Binding) → ((i : ℕ) (b : BindingId) → slice_get bs b.0 ≡ Some (part i) → ListsWithin opened' (at ps b)) → (places : List (Option BindingId)) (i : ℕ) (bound : List ℕ) → AreParts (setting env t bs) part i places
      → HasOpened bs bound opened' → HasOpened bs (bound_within bound places) opened'
  parts_opened opened' part ok [] i bound are k = k
  parts_opened opened' part ok (None ∷ places) i bound are k = parts_opened opened' part ok places (suc i) bound are.1 k
  parts_opened opened' part ok (Some b ∷ places) i bound are k = parts_opened opened' part ok places (suc i) (bound ++ b.0 ∷ []) are.1 (opened_push bs bound opened' b k (ok i b are.0))

  pub places_opened : (opened' : List Path) (source : BindingId) (c : Constraint) (places : List (Option BindingId)) (bound : List ℕ) → ListsWithin opened' (at ps source) → ArePlacesOf (setting env t bs) source c places → HasOpened bs bound opened' → HasOpened bs (bound_within bound places) opened'
  places_opened opened' source (constraint.Variant ty variant) places bound within are k =
      parts_opened opened' (λ i. binding.MatchVariant source variant (record { 0 = i }))
      (λ i b e. subst (ListsWithin opened') (sym (at_before bs b (binding.MatchVariant source variant (record { 0 = i })) e)) (source_within opened' source b within)) places 0 bound are.1 k
  places_opened opened' source (constraint.Struct ty) places bound within are k =
      parts_opened opened' (λ i. binding.ExtractStruct source (record { 0 = i }))
      (λ i b e. subst (ListsWithin opened') (sym (at_before bs b (binding.ExtractStruct source (record { 0 = i })) e)) (source_within opened' source b within)) places 0 bound are.1 k
  places_opened opened' source constraint.Some places bound within are k =
      parts_opened opened' (λ i. binding.MatchSome source) (λ i b e. subst (ListsWithin opened') (sym (at_before bs b (binding.MatchSome source) e)) (source_within opened' source b within)) places 0 bound are.1 k
  places_opened opened' source (constraint.ConstBool val) places bound within are k = subst (λ xs. HasOpened bs (bound_within bound xs) opened') (sym are) k
  places_opened opened' source (constraint.ConstInt val ty) places bound within are k = subst (λ xs. HasOpened bs (bound_within bound xs) opened') (sym are) k
  places_opened opened' source (constraint.ConstPrim val) places bound within are k = subst (λ xs. HasOpened bs (bound_within bound xs) opened') (sym are) k
