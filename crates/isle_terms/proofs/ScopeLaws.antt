-- The variables that are bound, after one more is met.
use Rattle.std.proofs.Common.{◌≡◌, ⊎_elim, ℕ, suc, ◌<◌, Bool, true, false, cond, List, [], ◌∷◌, ◌++◌, Option, Some, None, refl, sym, ap, ◌∙◌, subst, arith}
use Rattle.std.specs.Prelude.{Contains, option_map}
use Rattle.std.specs.Str.{bytes_eq}
use Rattle.std.proofs.lemmas.List.Elements.{Contains-append_cases}
use Rattle.std.proofs.lemmas.Option.{same_Some}
use Rattle.std.proofs.lemmas.Slice.Eq.{bytes_eq-Decides}
use Rattle.isle_core.specs.declared.TypeId.{TypeId}
use Rattle.isle_core.specs.declared.VarId.{VarId}
use Rattle.isle_core.proofs.Contained.{head_contained, tail_contained, contained_cases, none_contained}
use Rattle.isle_terms.specs.Scope.{behind}
use Rattle.isle_terms.specs.Scope.{Local, Scope, no_variables, found_in, local_type, bound_at, met_by, met, typed_local, variable}

-- ---- a variable that is known

-- what its type and its number come of
pub record IsLocal (o : Option Local) (v : TypeId × VarId) : Type 0 where
  pub local : Local
  pub found : o ≡ Some local
  pub typed : local.ty ≡ Some v.0
  pub numbered : local.number ≡ v.1.0

local_typed : (l : Local) (o : Option TypeId) (v : TypeId × VarId) → l.ty ≡ o → option_map (λ (ty : TypeId). (ty, record { 0 = l.number })) o ≡ Some v → IsLocal (Some l) v
local_typed l None v e h = absurd cc
local_typed l (Some ty) v e h =
    let same = same_Some {A = TypeId × VarId} (ty, record { 0 = l.number }) v h in
    record { local = l; found = refl; typed = e ∙ ap (λ (x : TypeId × VarId). Some x.0) same; numbered = ap (λ (x : TypeId × VarId). x.1.0) same }

pub local_is : (found : Option Local) (v : TypeId × VarId) → typed_local found ≡ Some v → IsLocal found v
local_is None v h = absurd cc
local_is (Some l) v h = local_typed l l.ty v refl h

-- it is bound at its type
pub local_bound : (found : Option Local) (v : TypeId × VarId) → typed_local found ≡ Some v → local_type found ≡ Some (Some v.0)
local_bound found v h = let l = local_is found v h in ap local_type l.found ∙ ap Some l.typed

-- a local of a type is a variable with it
pub known_local : (o : Option Local) (l : Local) (ty : TypeId) → o ≡ Some l → l.ty ≡ Some ty → typed_local o ≡ Some (ty, record { 0 = l.number })
known_local o l ty h is = ap typed_local h ∙ ap (option_map (λ (x : TypeId). (x, record { 0 = l.number }))) is

-- ---- one variable more

none_found : (o : Option Local) → local_type o ≡ None → o ≡ None
none_found None h = refl
none_found (Some l) h = absurd cc

-- the scope stays if it is bound
pub met_again : (scope : Scope) (name : List ℕ) (ty of : Option TypeId) → bound_at scope name ≡ Some of → met scope name ty ≡ scope
met_again scope name ty of h = by (found_in scope.variables name) h
  where
    by : (o : Option Local) → local_type o ≡ Some of → met_by o scope name ty ≡ scope
    by None e = absurd cc
    by (Some l) e = refl

pub found_end : (ls : List Local) (l : Local) (name : List ℕ) → found_in ls name ≡ None → found_in (ls ++ l ∷ []) name ≡ cond (bytes_eq l.name name) (Some l) None
found_end [] l name h = refl
found_end (x ∷ ls) l name h = first (bytes_eq x.name name) h (found_end ls l name)
  where
    first : (b : Bool) → cond b (Some x) (found_in ls name) ≡ None → (found_in ls name ≡ None → found_in (ls ++ l ∷ []) name ≡ cond (bytes_eq l.name name) (Some l) None) → cond b (Some x) (found_in (ls ++ l ∷ []) name) ≡ cond (bytes_eq l.name name) (Some l) None
    first true k rest = absurd cc
    first false k rest = rest k

-- it is bound at what is expected then
pub bound_new : (scope : Scope) (name : List ℕ) (ty : Option TypeId) → bound_at scope name ≡ None → bound_at (met scope name ty) name ≡ Some ty
bound_new scope name ty h =
    let none = none_found (found_in scope.variables name) h in
    let new : Local = record { name = name; ty = ty; number = scope.next } in
    ap (λ o. bound_at (met_by o scope name ty) name) none ∙ ap local_type (found_end scope.variables new name none) ∙ ap (λ b. local_type (cond b (Some new) None)) ((bytes_eq-Decides name name).1 refl)

-- ---- other variables

found_other : (ls : List Local) (l : Local) (name : List ℕ) → bytes_eq l.name name ≡ false → found_in (ls ++ l ∷ []) name ≡ found_in ls name
found_other [] l name other = ap (λ b. cond b (Some l) None) other
found_other (x ∷ ls) l name other = ap (λ o. cond (bytes_eq x.name name) (Some x) o) (found_other ls l name other)

-- another variable is what it was
pub variable_other : (scope : Scope) (new name : List ℕ) (ty : Option TypeId) → bytes_eq new name ≡ false → variable (met scope new ty) name ≡ variable scope name
variable_other scope new name ty other = by (found_in scope.variables new)
  where
    by : (o : Option Local) → variable (met_by o scope new ty) name ≡ variable scope name
    by (Some l) = refl
    by None = ap typed_local (found_other scope.variables (record { name = new; ty = ty; number = scope.next }) name other)

-- ---- numbers

-- what is found is there
pub found_there : (ls : List Local) (name : List ℕ) (l : Local) → found_in ls name ≡ Some l → Contains ls l
found_there [] name l h = absurd cc
found_there (x ∷ ls) name l h = first (bytes_eq x.name name) h (found_there ls name l)
  where
    first : (b : Bool) → cond b (Some x) (found_in ls name) ≡ Some l → (found_in ls name ≡ Some l → Contains ls l) → Contains (x ∷ ls) l
    first true k rest = subst (Contains (x ∷ ls)) (same_Some x l k) (head_contained x ls)
    first false k rest = tail_contained x ls l (rest k)

-- the numbers of variables are below the next one, and each is of one variable
pub record IsNumbered (scope : Scope) : Type 0 where
  pub below : (l : Local) → Contains scope.variables l → l.number < scope.next
  pub once : (l m : Local) → Contains scope.variables l → Contains scope.variables m → l.number ≡ m.number → l ≡ m

pub none_numbered : IsNumbered no_variables
none_numbered = record { below = λ l c. absurd (none_contained l c); once = λ l m c d e. absurd (none_contained l c) }

pub met_numbered : (scope : Scope) (name : List ℕ) (ty : Option TypeId) → IsNumbered scope → IsNumbered (met scope name ty)
met_numbered scope name ty h = by (found_in scope.variables name)
  where
    new : Local
    new = record { name = name; ty = ty; number = scope.next }

    one_is : (l : Local) → Contains (new ∷ []) l → new ≡ l
    one_is l c = ⊎_elim (λ (e : new ≡ l). e) (λ d. absurd (none_contained l d)) (contained_cases new [] l c)

    more : Scope
    more = record { variables = scope.variables ++ new ∷ []; next = suc scope.next }

    below : (l : Local) → Contains (scope.variables ++ new ∷ []) l → l.number < suc scope.next
    below l c = ⊎_elim (λ d. let lt = h.below l d in omega (arith, lt)) (λ d. let same : scope.next ≡ l.number = ap (λ (x : Local). x.number) (one_is l d) in omega (arith, same)) (Contains-append_cases scope.variables (new ∷ []) l c)

    once : (l m : Local) → Contains (scope.variables ++ new ∷ []) l → Contains (scope.variables ++ new ∷ []) m → l.number ≡ m.number → l ≡ m
    once l m c d e =
        ⊎_elim
        (λ j. ⊎_elim (λ k. h.once l m j k e) (λ k. let lt = h.below l j in let same : scope.next ≡ m.number = ap (λ (x : Local). x.number) (one_is m k) in absurd (omega (arith, lt, same, e))) (Contains-append_cases scope.variables (new ∷ []) m d))
        (λ j. ⊎_elim (λ k. let lt = h.below m k in let same : scope.next ≡ l.number = ap (λ (x : Local). x.number) (one_is l j) in absurd (omega (arith, lt, same, e))) (λ k. sym (one_is l j) ∙ one_is m k) (Contains-append_cases scope.variables (new ∷ []) m d))
        (Contains-append_cases scope.variables (new ∷ []) l c)

    by : (o : Option Local) → IsNumbered (met_by o scope name ty)
    by (Some l) = h
    by None = record { below = below; once = once }

-- so if numbers are left out
pub behind_numbered : (scope : Scope) (next : ℕ) → IsNumbered scope → IsNumbered (behind scope next)
behind_numbered scope next h = record { below = λ l c. let lt = h.below l c in omega (arith, lt); once = h.once }
