-- A step of a bind order with new items goes through new items.
use Rattle.std.proofs.Common.{◌≡◌, ◌⊎◌, inl, inr, ⊎_elim, ℕ, List, [], ◌∷◌, ◌++◌, Bool, true, false, Option, Some, None, refl, sym, ◌∙◌, subst}
use Rattle.std.specs.Prelude.{slice_get, Contains}
use Rattle.std.specs.List.{AllByRecursion}
use Rattle.std.proofs.lemmas.List.Elements.{Contains-push, Contains-push_cases, Contains-append_left}
use Rattle.isle_core.specs.declared.BindingId.{BindingId}
use Rattle.isle_core.specs.declared.rule_sets.Binding.{Binding}
use Rattle.isle_core.specs.declared.rule_sets.Binding.TheVariants as binding
use Rattle.isle_core.specs.ArmPlaces.{bound_within}
use Rattle.isle_core.specs.Bindable.{bound_by}
use Rattle.isle_core.specs.Block.{Control}
use Rattle.isle_core.specs.BlockViews.{SeenStep}
use Rattle.isle_core.specs.NewItems.{IsNewItem, HasNewItemsFrom, ControlNewItems}
use Rattle.isle_core.specs.Path.{Path, Chosen, at}
use Rattle.isle_core.specs.Setting.{Setting, gives_several, paths_in}
use Rattle.isle_core.specs.StandsFor.{EachOnce}
use Rattle.isle_core.proofs.BindingPaths.{IsThere, contains_at, place_once}
use Rattle.isle_blocks.specs.Nest.{alone, open_one, opening, opened}
use Rattle.isle_blocks.proofs.NeededItems.{IsAnew, AreAnew}

-- ---- what is bound besides

-- the binding is no item
abbrev pub IsNoItem : List Binding → ℕ → Type 0
IsNoItem bs n = (source : BindingId) → slice_get bs n ≡ Some (binding.Iterator source) → ⊥

-- so of each of an order
abbrev pub AreNoItems : List Binding → List BindingId → Type 0
AreNoItems bs order = AllByRecursion (λ (b : BindingId). IsNoItem bs b.0) order

-- all items of more are among these
abbrev pub Covers : List Binding → (bound more : List ℕ) → Type 0
Covers bs bound more = (n : ℕ) → Contains more n → Contains bound n ⊎ IsNoItem bs n

covers_push : (bs : List Binding) (bound more : List ℕ) (k : ℕ) → Covers bs bound more → Covers bs (bound ++ k ∷ []) (more ++ k ∷ [])
covers_push bs bound more k h n c = ⊎_elim
    (λ j. ⊎_elim (λ i. inl (Contains-append_left bound (k ∷ []) n i)) (λ i. inr i) (h n j))
    (λ e. inl (subst (Contains (bound ++ k ∷ [])) e (Contains-push bound k)))
    (Contains-push_cases more k n c)

pub covers_by : (bs : List Binding) (order : List BindingId) (bound more : List ℕ) → Covers bs bound more → Covers bs (bound_by bound order) (bound_by more order)
covers_by bs [] bound more h = h
covers_by bs (b ∷ order) bound more h = covers_by bs order (bound ++ b.0 ∷ []) (more ++ b.0 ∷ []) (covers_push bs bound more b.0 h)

pub covers_within : (bs : List Binding) (places : List (Option BindingId)) (bound more : List ℕ) → Covers bs bound more → Covers bs (bound_within bound places) (bound_within more places)
covers_within bs [] bound more h = h
covers_within bs (None ∷ places) bound more h = covers_within bs places bound more h
covers_within bs (Some b ∷ places) bound more h = covers_within bs places (bound ++ b.0 ∷ []) (more ++ b.0 ∷ []) (covers_push bs bound more b.0 h)

-- with what is no item
pub covers_plain : (bs : List Binding) (order : List BindingId) (bound more : List ℕ) → AreNoItems bs order → Covers bs bound more → Covers bs bound (bound_by more order)
covers_plain bs [] bound more plain h = h
covers_plain bs (b ∷ order) bound more plain h =
    covers_plain bs order bound (more ++ b.0 ∷ []) plain.1 (λ n c. ⊎_elim (λ j. h n j) (λ e. inr (subst (IsNoItem bs) e plain.0)) (Contains-push_cases more b.0 n c))

-- ---- steps

-- it goes through new items wherever the items that are bound are among these, and its own bind order holds none
pub record IsNewStep (s : Setting) (bound : List ℕ) (step : SeenStep) : Type 0 where
  pub items : (more : List ℕ) → Covers s.bindings bound more → HasNewItemsFrom s more (alone step)
  pub plain : AreNoItems s.bindings step.0

-- so of what is done after an order
abbrev pub DoesAnew : Setting → (bound : List ℕ) → Control → Type 0
DoesAnew s bound c = (more : List ℕ) → Covers s.bindings bound more → ControlNewItems s more c

module _ (s : Setting) (once : EachOnce (paths_in s)) (fits : (p : Path) → Contains (paths_in s) (Chosen p) → gives_several s ≡ true) (P : Path → Type 0) where
  new_item : (bound more : List ℕ) (b source : BindingId) → slice_get s.bindings b.0 ≡ Some (binding.Iterator source) → IsAnew P s.bindings bound b → Covers s.bindings bound more → IsNewItem s more b
  new_item bound more b source e h c =
      let k = h source e in
      record {
        source = source;
        is = e;
        path = k.1;
        new = λ q j same. (
            let here = place_once (paths_in s) b.0 q.0 once (subst IsThere (sym k.1) tt) (sym same) in
            ⊎_elim (λ i. k.2 i) (λ none. none source e) (c b.0 (subst (Contains more) (sym here) j))
            );
      }

  open_new : (o : Option Binding) (bound : List ℕ) (b : BindingId) (step : SeenStep) → slice_get s.bindings b.0 ≡ o → IsAnew P s.bindings bound b → IsNewStep s (bound ++ b.0 ∷ []) step → IsNewStep s bound (open_one o b step)
  open_new (Some (binding.Iterator source)) bound b step e one h = record { items = λ more c. ((new_item bound more b source e one c, h.items (more ++ b.0 ∷ []) (covers_push s.bindings bound more b.0 c)), tt); plain = tt }
  open_new o bound b step e one h = record { items = λ more c. h.items (more ++ b.0 ∷ []) (covers_push s.bindings bound more b.0 c); plain = (λ source is. (let bad = sym e ∙ is in cc), h.plain) }

  opening_new : (order : List BindingId) (c : Control) (bound : List ℕ) → AreAnew P s.bindings bound order → DoesAnew s (bound_by bound order) c → IsNewStep s bound (opening s.bindings order c)
  opening_new [] c bound h k = record { items = λ more cover. (k more cover, tt); plain = tt }
  opening_new (b ∷ order) c bound h k = open_new (slice_get s.bindings b.0) bound b (opening s.bindings order c) refl h.0 (opening_new order c (bound ++ b.0 ∷ []) h.1 k)

  -- in a term that answers once there are no items
  none_new : (order : List BindingId) (bound : List ℕ) → gives_several s ≡ false → AreAnew P s.bindings bound order → AreNoItems s.bindings order
  none_new [] bound is h = tt
  none_new (b ∷ order) bound is h = (
    λ source e. (
        let k = h.0 source e in
        let bad = sym (fits (at (paths_in s) source) (contains_at (paths_in s) b.0 (Chosen (at (paths_in s) source)) tt k.1)) ∙ is in
        absurd cc
        ),
    none_new order (bound ++ b.0 ∷ []) is h.1,
  )

  pub opened_new : (several : Bool) → gives_several s ≡ several → (order : List BindingId) (c : Control) (bound : List ℕ) → AreAnew P s.bindings bound order → DoesAnew s (bound_by bound order) c → IsNewStep s bound (opened several s.bindings order c)
  opened_new true is order c bound h k = opening_new order c bound h k
  opened_new false is order c bound h k = record { items = λ more cover. (k (bound_by more order) (covers_by s.bindings order bound more cover), tt); plain = none_new order bound is h }
