-- Results that a place holds in the run and another one where a block runs: one is a value, none or several are a tuple.
use Rattle.std.proofs.Common.{◌≡◌, ℕ, zero, suc, List, [], ◌∷◌, map, Option, Some, refl, subst}
use Rattle.std.specs.Prelude.{option_map, slice_get}
use Rattle.std.specs.List.{AllByRecursion}
use Rattle.std.proofs.lemmas.Option.{same_Some}
use Rattle.isle_core.specs.declared.TypeId.{TypeId}
use Rattle.isle_core.specs.Answered.{ATuple, item_of}
use Rattle.isle_core.specs.HasType.{HasType, HaveTypes}
use Rattle.isle_core.specs.Nameless.{nameless}
use Rattle.isle_core.specs.PathType.{AreTuple}
use Rattle.isle_core.specs.Rule.{Environment}
use Rattle.isle_core.specs.Value.{Value}
use Rattle.isle_core.specs.ValueAt.{Held, One, Optional, Listed}
use Rattle.isle_simulation.proofs.PathValues.{IsValueAt}

-- a place holds in the run results that another one holds where a block runs, of these types and but for names
pub record AreResultsAt (env : Environment) (h g : Held) (tys : List TypeId) : Type 0 where
  pub vs : List Value
  pub rs : List Value
  pub run : h ≡ One (item_of rs)
  pub block : g ≡ One (item_of vs)
  pub same : map nameless rs ≡ map nameless vs
  pub typed : HaveTypes env vs tys

-- so of an option of results
pub record IsOptionAt (env : Environment) (h g : Held) (tys : List TypeId) : Type 0 where
  pub o : Option (List Value)
  pub q : Option (List Value)
  pub run : h ≡ Optional (option_map item_of q)
  pub block : g ≡ Optional (option_map item_of o)
  pub same : option_map (map nameless) q ≡ option_map (map nameless) o
  pub typed : (vs : List Value) → o ≡ Some vs → HaveTypes env vs tys

-- and of lists of results
pub record IsListAt (env : Environment) (h g : Held) (tys : List TypeId) : Type 0 where
  pub vss : List (List Value)
  pub rss : List (List Value)
  pub run : h ≡ Listed (map item_of rss)
  pub block : g ≡ Listed (map item_of vss)
  pub same : map (map nameless) rss ≡ map (map nameless) vss
  pub typed : AllByRecursion (λ vs. HaveTypes env vs tys) vss

-- one result is a value
one_of : (env : Environment) (h g : Held) (ty : TypeId) (vs rs : List Value) → h ≡ One (item_of rs) → g ≡ One (item_of vs) → map nameless rs ≡ map nameless vs → HaveTypes env vs (ty ∷ []) → IsValueAt env h g ty
one_of env h g ty (v ∷ []) (r ∷ []) run block same typed = record { v = v; r = r; run = run; block = block; same = let first : nameless r ≡ nameless v = cc in first; typed = typed.0 }
one_of env h g ty (v ∷ []) [] run block same typed = cc
one_of env h g ty (v ∷ []) (r ∷ q ∷ rs) run block same typed = cc
one_of env h g ty [] rs run block same typed = absurd typed
one_of env h g ty (v ∷ w ∷ vs) rs run block same typed = absurd typed.1

pub value_of_one : (env : Environment) (h g : Held) (ty : TypeId) → AreResultsAt env h g (ty ∷ []) → IsValueAt env h g ty
value_of_one env h g ty x = one_of env h g ty x.vs x.rs x.run x.block x.same x.typed

-- none and several are tuples
pub are_tuples : (env : Environment) (tys : List TypeId) (vs rs : List Value) → AreTuple tys → map nameless rs ≡ map nameless vs → HaveTypes env vs tys → (item_of rs ≡ ATuple rs) × (item_of vs ≡ ATuple vs)
are_tuples env [] [] [] several same typed = (refl, refl)
are_tuples env [] [] (r ∷ rs) several same typed = cc
are_tuples env (ty ∷ more ∷ tys) (v ∷ w ∷ vs) (r ∷ q ∷ rs) several same typed = (refl, refl)
are_tuples env (ty ∷ more ∷ tys) (v ∷ w ∷ vs) [] several same typed = cc
are_tuples env (ty ∷ more ∷ tys) (v ∷ w ∷ vs) (r ∷ []) several same typed = cc
are_tuples env [] (v ∷ vs) rs several same typed = absurd typed
are_tuples env (ty ∷ []) vs rs several same typed = absurd several
are_tuples env (ty ∷ more ∷ tys) [] rs several same typed = absurd typed
are_tuples env (ty ∷ more ∷ tys) (v ∷ []) rs several same typed = absurd typed.1

-- one of several values of these types, at a number
pub record IsPartAt (env : Environment) (vs rs : List Value) (part : ℕ) (ty : TypeId) : Type 0 where
  pub v : Value
  pub r : Value
  pub block : slice_get vs part ≡ Some v
  pub run : slice_get rs part ≡ Some r
  pub same : nameless r ≡ nameless v
  pub typed : HasType env v ty

of_type : (env : Environment) (v : Value) (a b : TypeId) → Some a ≡ Some b → HasType env v a → HasType env v b
of_type env v a b e h = subst (HasType env v) (same_Some a b e) h

pub part_is : (env : Environment) (tys : List TypeId) (vs rs : List Value) (part : ℕ) (ty : TypeId) → map nameless rs ≡ map nameless vs → HaveTypes env vs tys → slice_get tys part ≡ Some ty → IsPartAt env vs rs part ty
part_is env (of ∷ tys) (v ∷ vs) (r ∷ rs) zero ty same typed at = record { v = v; r = r; block = refl; run = refl; same = let first : nameless r ≡ nameless v = cc in first; typed = of_type env v of ty at typed.0 }
part_is env (of ∷ tys) (v ∷ vs) (r ∷ rs) (suc part) ty same typed at =
    let rest : map nameless rs ≡ map nameless vs = cc in
    let x = part_is env tys vs rs part ty rest typed.1 at in
    record { v = x.v; r = x.r; block = x.block; run = x.run; same = x.same; typed = x.typed }
part_is env (of ∷ tys) (v ∷ vs) [] part ty same typed at = cc
part_is env (of ∷ tys) [] rs part ty same typed at = absurd typed
part_is env [] vs rs part ty same typed at = cc
