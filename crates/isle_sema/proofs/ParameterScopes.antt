-- The parameters of a template are numbered by their places, each at the type of its argument.
use Rattle.std.proofs.Common.{◌≡◌, ⊎_elim, ℕ, zero, suc, ◌+◌, false, cond, List, [], ◌∷◌, ◌++◌, length, map, Option, Some, None, refl, sym, ap, ◌∙◌, subst, arith}
use Rattle.std.specs.Prelude.{Contains, slice_get}
use Rattle.std.specs.List.{AllByRecursion, IsDistinct}
use Rattle.std.specs.Str.{bytes_eq}
use Rattle.std.proofs.lemmas.List.{append_assoc, append-nil}
use Rattle.std.proofs.lemmas.Option.{same_Some}
use Rattle.std.proofs.lemmas.Slice.Eq.{bytes_eq-Decides}
use Rattle.isle_core.specs.declared.TypeId.{TypeId}
use Rattle.isle_core.proofs.Contained.{contained_cases, none_contained}
use Rattle.isle_sema.specs.PatternPass.{first_expected, later_expected}
use Rattle.isle_terms.specs.Scope.{Local, Scope, no_variables, found_in, met_by, met}
use Rattle.isle_sema.specs.Templates.{params_met}
use Rattle.isle_terms.proofs.ScopeLaws.{found_end}

-- parameters from this number on, each at the type at its place
abbrev pub listed : ℕ → List (List ℕ) → List (Option TypeId) → List Local
listed i [] types = []
listed i (param ∷ params) types = record { name = param; ty = first_expected types; number = i } ∷ listed (suc i) params (later_expected types)

-- these names are not bound
abbrev AreNew : List Local → List (List ℕ) → Type 0
AreNew ls names = AllByRecursion (λ (name : List ℕ). found_in ls name ≡ None) names

-- nor after one of another name
new_more : (ls : List Local) (l : Local) (names : List (List ℕ)) → AreNew ls names → AllByRecursion (λ (name : List ℕ). bytes_eq l.name name ≡ false) names → AreNew (ls ++ l ∷ []) names
new_more ls l [] h k = tt
new_more ls l (name ∷ names) h k = (found_end ls l name h.0 ∙ ap (λ b. cond b (Some l) None) k.0, new_more ls l names h.1 k.1)

met_more : (params : List (List ℕ)) (scope : Scope) (types : List (Option TypeId)) → IsDistinct bytes_eq params → AreNew scope.variables params → (params_met scope params types).variables ≡ scope.variables ++ listed scope.next params types
unfolding IsDistinct
met_more [] scope types apart new = sym (append-nil scope.variables)
met_more (param ∷ params) scope types apart new =
    let l : Local = record { name = param; ty = first_expected types; number = scope.next } in
    let mid : Scope = record { variables = scope.variables ++ l ∷ []; next = suc scope.next } in
    let one : met scope param (first_expected types) ≡ mid = ap (λ o. met_by o scope param (first_expected types)) new.0 in
    ap (λ (s : Scope). (params_met s params (later_expected types)).variables) one
    ∙ met_more params mid (later_expected types) apart.1 (new_more scope.variables l params new.1 apart.0)
    ∙ append_assoc scope.variables (l ∷ []) (listed (suc scope.next) params (later_expected types))

none_bound : (names : List (List ℕ)) → AreNew [] names
none_bound [] = tt
none_bound (name ∷ names) = (refl, none_bound names)

-- the variables of a template are its parameters
pub params_listed : (params : List (List ℕ)) (types : List (Option TypeId)) → IsDistinct bytes_eq params → (params_met no_variables params types).variables ≡ listed 0 params types
params_listed params types apart = met_more params no_variables types apart (none_bound params)

-- ---- types at places

-- the number of a parameter is a place with its type
pub listed_at : (params : List (List ℕ)) (tys : List TypeId) (k : ℕ) (l : Local) (ty : TypeId) → Contains (listed k params (map Some tys)) l → l.ty ≡ Some ty → (j : ℕ) × (l.number ≡ k + j) × (slice_get tys j ≡ Some ty)
listed_at [] tys k l ty c e = absurd (none_contained l c)
listed_at (param ∷ params) [] k l ty c e =
    let first : Local = record { name = param; ty = None; number = k } in
    ⊎_elim
    (λ (s : first ≡ l). let bad : None ≡ Some ty = ap (λ (x : Local). x.ty) s ∙ e in absurd cc)
    (λ d. let h = listed_at params [] (suc k) l ty d e in absurd (no_place ty h.0 h.2))
    (contained_cases first (listed (suc k) params []) l c)
  where
    no_place : (of : TypeId) (j : ℕ) → slice_get {X = TypeId} [] j ≡ Some of → ⊥
    no_place of j h = cc
listed_at (param ∷ params) (t ∷ tys) k l ty c e =
    let first : Local = record { name = param; ty = Some t; number = k } in
    ⊎_elim
    (λ (s : first ≡ l). (0, (let same : k ≡ l.number = ap (λ (x : Local). x.number) s in omega (arith, same)), ap (λ (x : Local). x.ty) s ∙ e))
    (λ d. let h = listed_at params tys (suc k) l ty d e in (suc h.0, (let same = h.1 in omega (arith, same)), h.2))
    (contained_cases first (listed (suc k) params (map Some tys)) l c)

-- ---- names at places

-- a name that differs from all is found after none of them
other_all : (names : List (List ℕ)) (name : List ℕ) (i : ℕ) (other : List ℕ) → AllByRecursion (λ (n : List ℕ). bytes_eq name n ≡ false) names → slice_get names i ≡ Some other → bytes_eq name other ≡ false
other_all [] name i other h e = cc
other_all (n ∷ names) name zero other h e = subst (λ (m : List ℕ). bytes_eq name m ≡ false) (same_Some n other e) h.0
other_all (n ∷ names) name (suc i) other h e = other_all names name i other h.1 e

-- the parameter at a place has its number and its type
pub listed_found : (params : List (List ℕ)) (tys : List TypeId) (k i : ℕ) (name : List ℕ) (ty : TypeId) → IsDistinct bytes_eq params → slice_get params i ≡ Some name → slice_get tys i ≡ Some ty
    → found_in (listed k params (map Some tys)) name ≡ Some (record { name = name; ty = Some ty; number = k + i })
unfolding IsDistinct
listed_found [] tys k i name ty apart p t = cc
listed_found (param ∷ params) [] k i name ty apart p t = cc
listed_found (param ∷ params) (of ∷ tys) k zero name ty apart p t =
    let same : param ≡ name = same_Some param name p in
    let first : List ℕ → TypeId → Local = λ n u. record { name = n; ty = Some u; number = k } in
    let at : k ≡ k + 0 = omega arith in
    let put : ℕ → Option Local = λ n. Some (record { name = name; ty = Some ty; number = n }) in
    ap (λ b. cond b (Some (first param of)) (found_in (listed (suc k) params (map Some tys)) name)) ((bytes_eq-Decides param name).1 same)
    ∙ ap (λ n. Some (first n of)) same ∙ ap (λ u. Some (first name u)) (same_Some of ty t) ∙ ap put at
listed_found (param ∷ params) (of ∷ tys) k (suc i) name ty apart p t =
    let first : Local = record { name = param; ty = Some of; number = k } in
    let at : suc k + i ≡ k + suc i = omega arith in
    let put : ℕ → Option Local = λ n. Some (record { name = name; ty = Some ty; number = n }) in
    ap (λ b. cond b (Some first) (found_in (listed (suc k) params (map Some tys)) name)) (other_all params param i name apart.0 p)
    ∙ listed_found params tys (suc k) i name ty apart.1 p t ∙ ap put at

-- if there are as many names as types, each type has one
pub name_at : (params : List (List ℕ)) (tys : List TypeId) (i : ℕ) (ty : TypeId) → length params ≡ length tys → slice_get tys i ≡ Some ty → (name : List ℕ) × (slice_get params i ≡ Some name)
name_at [] [] i ty long e = cc
name_at [] (t ∷ tys) i ty long e = absurd (omega (arith, long))
name_at (param ∷ params) [] i ty long e = cc
name_at (param ∷ params) (t ∷ tys) zero ty long e = (param, refl)
name_at (param ∷ params) (t ∷ tys) (suc i) ty long e = name_at params tys i ty (omega (arith, long)) e
