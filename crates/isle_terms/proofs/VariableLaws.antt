-- Variables with the types that they are bound at and their numbers, by the places of their names.
use Rattle.std.proofs.Common.{◌≡◌, ℕ, suc, ◌+◌, Bool, true, false, cond, List, [], ◌∷◌, ◌++◌, length, Option, Some, None, refl, sym, ap, ◌∙◌, arith}
use Rattle.std.specs.Prelude.{option_map, is_some}
use Rattle.std.specs.Str.{bytes_eq}
use Rattle.isle_core.specs.declared.TypeId.{TypeId}
use Rattle.isle_declarations.specs.Symbols.{index_of, added}
use Rattle.isle_terms.specs.LocalViews.{entries}
use Rattle.isle_terms.specs.Scope.{Local, Scope, found_in, met, met_by}
use Rattle.isle_declarations.proofs.LookUps.{at_place, at_later}

-- what the code keeps of a variable
abbrev pub kept : Local → Option TypeId × ℕ
kept l = (l.ty, l.number)

found_first : (b : Bool) (l : Local) (vs : List (Option TypeId × ℕ)) (rest : Option Local) (o : Option ℕ) → option_map kept rest ≡ at_place vs o → option_map kept (cond b (Some l) rest) ≡ at_place (kept l ∷ vs) (cond b (Some 0) (option_map (λ (n : ℕ). n + 1) o))
found_first true l vs rest o h = refl
found_first false l vs rest o h = h ∙ at_later (kept l) vs o

-- a variable is what stands at the place of its name
pub found_place : (names : List (List ℕ)) (vs : List (Option TypeId × ℕ)) (name : List ℕ) → length names ≡ length vs → option_map kept (found_in (entries names vs) name) ≡ at_place vs (index_of names name)
found_place [] vs name same = refl
found_place (x ∷ names) [] name same = absurd (omega arith)
found_place (x ∷ names) (v ∷ vs) name same = found_first (bytes_eq x name) (record { name = x; ty = v.0; number = v.1 }) vs (found_in (entries names vs) name) (index_of names name) (found_place names vs name (omega arith))

-- ---- one variable more

entries_end : (names : List (List ℕ)) (vs : List (Option TypeId × ℕ)) (name : List ℕ) (v : Option TypeId × ℕ) → length names ≡ length vs → entries (names ++ name ∷ []) (vs ++ v ∷ []) ≡ entries names vs ++ record { name = name; ty = v.0; number = v.1 } ∷ []
entries_end [] [] name v same = refl
entries_end [] (x ∷ vs) name v same = absurd (omega arith)
entries_end (x ∷ names) [] name v same = absurd (omega arith)
entries_end (x ∷ names) (y ∷ vs) name v same = ap (λ (ls : List Local). record { name = x; ty = y.0; number = y.1 } ∷ ls) (entries_end names vs name v (omega arith))

pub added_new : (names new : List (List ℕ)) (name : List ℕ) → new ≡ added names name → index_of names name ≡ None → new ≡ names ++ name ∷ []
added_new names new name is none = is ∙ ap (λ o. cond (is_some o) names (names ++ name ∷ [])) none

none_kept : (o : Option Local) → option_map kept o ≡ None → o ≡ None
none_kept None h = refl
none_kept (Some l) h = absurd cc

-- a variable that is not bound has no place
pub unplaced : (names : List (List ℕ)) (vs : List (Option TypeId × ℕ)) (name : List ℕ) → length names ≡ length vs → option_map kept (found_in (entries names vs) name) ≡ None → index_of names name ≡ None
unplaced [] vs name same h = refl
unplaced (x ∷ names) [] name same h = absurd (omega arith)
unplaced (x ∷ names) (v ∷ vs) name same h = by (bytes_eq x name) h (λ k. unplaced names vs name (omega arith) k)
  where
    by : (b : Bool) → option_map kept (cond b (Some (record { name = x; ty = v.0; number = v.1 })) (found_in (entries names vs) name)) ≡ None → (option_map kept (found_in (entries names vs) name) ≡ None → index_of names name ≡ None) → cond b (Some 0) (option_map (λ (n : ℕ). n + 1) (index_of names name)) ≡ None
    by true k rest = absurd cc
    by false k rest = ap (option_map (λ (n : ℕ). n + 1)) (rest k)

-- a variable that is met first is bound at the type that is expected, and has the next number
pub met_first : (names new : List (List ℕ)) (vs more : List (Option TypeId × ℕ)) (name : List ℕ) (ty : Option TypeId) (next later : ℕ) → length names ≡ length vs → new ≡ names ++ name ∷ [] → more ≡ vs ++ (ty, next) ∷ [] → option_map kept (found_in (entries names vs) name) ≡ None → later ≡ suc next
    → record { variables = entries new more; next = later } ≡ met (record { variables = entries names vs; next = next }) name ty
met_first names new vs more name ty next later same named bound none step =
    let scope : Scope = record { variables = entries names vs; next = next } in
    let all : List Local → ℕ → Scope = λ ls n. record { variables = ls; next = n } in
    ap (λ ns. all (entries ns more) later) named ∙ ap (λ (xs : List (Option TypeId × ℕ)). all (entries (names ++ name ∷ []) xs) later) bound ∙ ap (λ (ls : List Local). all ls later) (entries_end names vs name (ty, next) same) ∙ ap (all (entries names vs ++ record { name = name; ty = ty; number = next } ∷ [])) step
    ∙ sym (ap (λ o. met_by o scope name ty) (none_kept (found_in (entries names vs) name) none))
