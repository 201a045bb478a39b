-- What is so of all that is needed for bindings.
use Rattle.std.proofs.Common.{◌≡◌, ℕ, zero, suc, List, [], ◌∷◌, ◌++◌, length, Bool, true, false, cond, Option, Some, None, refl}
use Rattle.std.specs.Prelude.{slice_get}
use Rattle.isle_core.specs.declared.BindingId.{BindingId}
use Rattle.isle_core.specs.declared.rule_sets.Binding.{Binding}
use Rattle.isle_core.specs.declared.rule_sets.Binding.TheVariants as binding
use Rattle.isle_core.specs.Bindable.{bound_by}
use Rattle.isle_core.specs.BindingParts.{option_of}
use Rattle.isle_blocks.specs.Needed.{list_parts, parts_of, list_before, is_bound, each_needed, with_parts, unbound, needed, needs}

-- the option whose inner value a binding is
abbrev pub option_before : Option Binding → Option BindingId
option_before None = None
option_before (Some b) = option_of b

-- what is bound where it is first read is no inner value
pub no_inner : (bs : List Binding) (o : Option Binding) (parts : List BindingId) → parts_of bs o ≡ Some parts → option_before o ≡ None
no_inner bs (Some (binding.MatchSome source)) parts e = cc
no_inner bs (Some y) parts e = refl
no_inner bs None parts e = refl

-- what a list is made over is that of a call, also of an extractor
pub list_plain : (o : Option Binding) (parts : List BindingId) → list_parts o ≡ Some parts → list_before o ≡ None
list_plain (Some (binding.Constructor term parameters instance)) parts e = refl
list_plain (Some (binding.Extractor term parameter)) parts e = refl
list_plain o parts e = cc

-- so of nothing, of what stands after one another, of an item after its list, and of each other binding
module _ (bs : List Binding) (P : List BindingId → Type 0) (none : P []) (both : (xs ys : List BindingId) → P xs → P ys → P (xs ++ ys))
    (item : (b source : BindingId) (parts : List BindingId) → slice_get bs b.0 ≡ Some (binding.Iterator source) → list_parts (slice_get bs source.0) ≡ Some parts → P (source ∷ b ∷ []))
    (other : (b : BindingId) (o : Option Binding) (parts : List BindingId) → slice_get bs b.0 ≡ o → list_before o ≡ None → parts_of bs o ≡ Some parts → P (b ∷ [])) where
  -- whatever is bound before, what one needs is so
  abbrev OneSo : (List ℕ → BindingId → List BindingId) → Type 0
  OneSo one = (bound : List ℕ) (b : BindingId) → P (one bound b)

  each_so : (one : List ℕ → BindingId → List BindingId) → OneSo one → (bound : List ℕ) (reads : List BindingId) → P (each_needed one bound reads)
  each_so one h bound [] = none
  each_so one h bound (b ∷ reads) = both (one bound b) (each_needed one (bound_by bound (one bound b)) reads) (h bound b) (each_so one h (bound_by bound (one bound b)) reads)

  parts_so : (one : List ℕ → BindingId → List BindingId) → OneSo one → (bound : List ℕ) (itself : List BindingId) (o : Option (List BindingId)) → ((parts : List BindingId) → o ≡ Some parts → P itself) → P (with_parts one bound itself o)
  parts_so one h bound itself None k = none
  parts_so one h bound itself (Some parts) k = both (each_needed one bound parts) itself (each_so one h bound parts) (k parts refl)

  unbound_so : (one : List ℕ → BindingId → List BindingId) → OneSo one → (bound : List ℕ) (b : BindingId) (o : Option Binding) → slice_get bs b.0 ≡ o → P (unbound bs one bound b o)
  unbound_so one h bound b (Some (binding.Iterator source)) e = parts_so one h bound (source ∷ b ∷ []) (list_parts (slice_get bs source.0)) (λ parts is. item b source parts e is)
  unbound_so one h bound b o e = parts_so one h bound (b ∷ []) (parts_of bs o) (λ parts is. other b o parts e refl is)

  needed_so : (depth : ℕ) → OneSo (needed bs depth)
  needed_so zero bound b = none
  needed_so (suc depth) bound b = pick (is_bound bound b) (unbound_so (needed bs depth) (needed_so depth) bound b (slice_get bs b.0) refl)
    where
      pick : (x : Bool) → P (unbound bs (needed bs depth) bound b (slice_get bs b.0)) → P (cond x [] (unbound bs (needed bs depth) bound b (slice_get bs b.0)))
      pick true k = none
      pick false k = k

  -- so is all that is needed for bindings
  pub needs_so : (bound : List ℕ) (reads : List BindingId) → P (needs bs bound reads)
  needs_so bound reads = each_so (needed bs (length bs)) (needed_so (length bs)) bound reads
