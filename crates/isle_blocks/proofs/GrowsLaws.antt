-- What is bound stays bound, in its place.
use Rattle.std.proofs.Common.{◌≡◌, ℕ, List, [], ◌∷◌, ◌++◌, Option, Some, None, Result, Ok, Err, OnOk, refl, sym, ap, ◌∙◌, append_assoc, append-nil}
use Rattle.isle_core.specs.declared.BindingId.{BindingId}
use Rattle.isle_core.specs.ArmPlaces.{bound_within}
use Rattle.isle_core.specs.Bindable.{bound_by}
use Rattle.isle_blocks.specs.Pushed.{Pushes, Grows}

pub grows_none : (bound now : List ℕ) → now ≡ bound → Grows bound now
grows_none bound now is = record { more = []; all = is ∙ sym (append-nil bound) }

pub grows_then : {a b c : List ℕ} → Grows a b → Grows b c → Grows a c
grows_then {a = a} h k = record { more = h.more ++ k.more; all = k.all ∙ ap (λ x. x ++ k.more) h.all ∙ append_assoc a h.more k.more }

-- by a bind order
pub order_grows : (bound : List ℕ) (bs : List BindingId) → Grows bound (bound_by bound bs)
order_grows bound [] = grows_none bound bound refl
order_grows bound (b ∷ bs) = grows_then (record { more = b.0 ∷ []; all = refl }) (order_grows (bound ++ b.0 ∷ []) bs)

pub by_grows : (old new : List ℕ) (bs : List BindingId) → new ≡ bound_by old bs → Grows old new
by_grows old new bs is = let k = order_grows old bs in record { more = k.more; all = is ∙ k.all }

pub push_grows : {binds : List BindingId} {old new : List ℕ} {before after : List BindingId} → Pushes binds old new before after → Grows old new
push_grows {binds = binds} {old = old} {new = new} p = by_grows old new binds p.bound

-- by the places of an arm
pub places_grow : (bound : List ℕ) (places : List (Option BindingId)) → Grows bound (bound_within bound places)
places_grow bound [] = grows_none bound bound refl
places_grow bound (None ∷ places) = places_grow bound places
places_grow bound (Some b ∷ places) = grows_then (record { more = b.0 ∷ []; all = refl }) (places_grow (bound ++ b.0 ∷ []) places)

pub bound_grows : (bound now : List ℕ) (places : List (Option BindingId)) → now ≡ bound_within bound places → Grows bound now
bound_grows bound now places is = let k = places_grow bound places in record { more = k.more; all = is ∙ k.all }

-- what is bound hangs on no step that comes after
pub where_ok : {T E X : Type 0} (r : Result T E) → X → OnOk r X
where_ok (Ok v) x = x
where_ok (Err e) x = tt
