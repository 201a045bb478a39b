-- What may be bound, or opened as an item by a Loop.
use Rattle.std.proofs.Common.{◌≡◌, ℕ, List, [], ◌∷◌, ◌++◌, true, false, Option, Some, sym, ◌∙◌}
use Rattle.std.specs.Prelude.{slice_get, Contains}
use Rattle.isle_core.specs.declared.BindingId.{BindingId}
use Rattle.isle_core.specs.declared.TypeId.{TypeId}
use Rattle.isle_core.specs.declared.rule_sets.Binding.{Binding}
use Rattle.isle_core.specs.declared.rule_sets.Binding.TheVariants as binding
use Rattle.isle_core.specs.Bindable.{IsBindable, AreBindable, bound_by}
use Rattle.isle_core.specs.Path.{Path, Chosen, at}
use Rattle.isle_core.specs.PathType.{IsListOf}
use Rattle.isle_core.specs.Setting.{Setting, gives_several, paths_in}

-- an item of a bound list, in a term that answers several times
pub record IsItemBound (s : Setting) (bound : List ℕ) (p : Path) (source : BindingId) : Type 0 where
  pub path : p ≡ Chosen (at (paths_in s) source)
  pub tys : List TypeId
  pub list : IsListOf s.env s.term (at (paths_in s) source) tys
  pub bound' : Contains bound source.0
  pub fits : gives_several s ≡ true

-- this, or what may stand in a bind order
abbrev pub IsOpenable : Setting → List ℕ → Path → Option Binding → Type 0
IsOpenable s bound p (Some (binding.Iterator source)) = IsItemBound s bound p source
IsOpenable s bound p o = IsBindable s bound p o

-- so of each binding in order
abbrev pub AreOpenable : Setting → List ℕ → List BindingId → Type 0
AreOpenable s bound [] = Unit {0}
AreOpenable s bound (b ∷ more) = IsOpenable s bound (at (paths_in s) b) (slice_get s.bindings b.0) × AreOpenable s (bound ++ b.0 ∷ []) more

-- orders after one another
pub openable_append : (s : Setting) (xs ys : List BindingId) (bound : List ℕ) → AreOpenable s bound xs → AreOpenable s (bound_by bound xs) ys → AreOpenable s bound (xs ++ ys)
openable_append s [] ys bound h k = k
openable_append s (x ∷ xs) ys bound h k = (h.0, openable_append s xs ys (bound ++ x.0 ∷ []) h.1 k)

-- in a term that answers once all of them may stand in a bind order
once_bindable : (s : Setting) (bound : List ℕ) (p : Path) (o : Option Binding) → gives_several s ≡ false → IsOpenable s bound p o → IsBindable s bound p o
once_bindable s bound p (Some (binding.Iterator source)) e h = let bad = sym h.fits ∙ e in cc
once_bindable s bound p o e h = h

pub all_once_bindable : (s : Setting) (order : List BindingId) (bound : List ℕ) → gives_several s ≡ false → AreOpenable s bound order → AreBindable s bound order
all_once_bindable s [] bound e h = tt
all_once_bindable s (b ∷ order) bound e h = (once_bindable s bound (at (paths_in s) b) (slice_get s.bindings b.0) e h.0, all_once_bindable s order (bound ++ b.0 ∷ []) e h.1)
