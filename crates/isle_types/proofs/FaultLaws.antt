-- The fault of definitions, one after the other.
use Rattle.std.proofs.Common.{◌≡◌, ℕ, ◌+◌, ◌<◌, List, [], ◌∷◌, ◌++◌, map, length, get_or, take, Option, Some, None, refl, sym, ap, ◌∙◌, subst, arith, zero, suc}
use Rattle.std.specs.Prelude.{drop, option_map, slice_get}
use Rattle.std.proofs.lemmas.List.{drop_more, take_more, map-append}
use Rattle.std.specs.List.{AllByRecursion}
use Rattle.isle_core.specs.declared.errors.Error.{Error}
use Rattle.isle_ast.specs.Tree.{Def}
use Rattle.isle_core.specs.declared.position.Pos.{Pos}
use Rattle.isle_ast.specs.declared.tree.Def.{Def as CodeDef}
use Rattle.isle_ast.specs.Positions.{place_of}
use Rattle.isle_ast.specs.Views.{def, defs}
use Rattle.isle_types.specs.declared.row.Row.{Row}
use Rattle.isle_types.specs.declared.before.Before.{Before}
use Rattle.isle_declarations.specs.DeclaredTypes.{made_of}
use Rattle.isle_types.specs.Gathered.{IsBefore, TellsFault, TellsTyping}
use Rattle.isle_types.specs.Fault.{or_later, fault_after, type_row, type_fault}

-- the fault of the definitions from the i-th on
abbrev pub fault_from : ℕ → List CodeDef → Option (Row × Pos)
fault_from i ds = fault_after (type_row (defs ds)) (defs (take i ds)) (defs (drop i ds))

-- that of one, or else of those after it
pub fault_step : (ds : List CodeDef) (i : ℕ) (x d : CodeDef) → i < length ds → x ≡ get_or ds i d
    → fault_from i ds ≡ or_later (option_map (λ (r : Row). (r, place_of (def x))) (type_row (defs ds) (defs (take i ds)) (def x))) (fault_from (i + 1) ds)
fault_step ds i x d lt is =
    let taken : defs (take (i + 1) ds) ≡ defs (take i ds) ++ def x ∷ [] = ap defs (take_more ds i d lt) ∙ map-append def (take i ds) (get_or ds i d ∷ []) ∙ ap (λ y. defs (take i ds) ++ def y ∷ []) (sym is) in
    ap (λ xs. fault_after (type_row (defs ds)) (defs (take i ds)) (defs xs)) (drop_more ds i d lt ∙ ap (λ y. y ∷ drop (i + 1) ds) (sym is))
    ∙ ap (λ bs. or_later (option_map (λ (r : Row). (r, place_of (def x))) (type_row (defs ds) (defs (take i ds)) (def x))) (fault_after (type_row (defs ds)) bs (defs (drop (i + 1) ds)))) (sym taken)

-- one without a fault more is before the rest
pub before_step : (ds : List CodeDef) (i : ℕ) (x d : CodeDef) (b : Before) → i < length ds → x ≡ get_or ds i d → IsBefore (defs (take i ds) ++ def x ∷ []) b → IsBefore (defs (take (i + 1) ds)) b
before_step ds i x d b lt is h =
    subst (λ bs. IsBefore bs b) (sym (ap defs (take_more ds i d lt) ∙ map-append def (take i ds) (get_or ds i d ∷ []) ∙ ap (λ y. defs (take i ds) ++ def y ∷ []) (sym is))) h

-- the terms at a place are those of the definition there
pub terms_at : (ds : List CodeDef) (i : ℕ) (x d : CodeDef) (terms : List (List ℕ)) → i < length ds → x ≡ get_or ds i d → slice_get (map made_of (defs ds)) i ≡ Some terms → terms ≡ made_of (def x)
terms_at [] i x d terms lt is at = absurd cc
terms_at (y ∷ ds) zero x d terms lt is at = let same : made_of (def y) ≡ terms = cc in sym same ∙ ap (λ z. made_of (def z)) (sym is)
terms_at (y ∷ ds) (suc i) x d terms lt is at = terms_at ds i x d terms (omega (arith, lt)) is at

-- if no error is reported, there is no fault
pub none_told : (fault : Option (Row × Pos)) → TellsTyping fault None → fault ≡ None
none_told None h = refl
none_told (Some f) h = absurd h

-- if there is none, no error reports one
pub untold : (ds : List Def) (error : Error) → type_fault ds ≡ None → TellsTyping (type_fault ds) (Some error) → ⊥
untold ds error none h = subst (λ o. TellsTyping o (Some error)) none h

later_lies : (P : Pos → Type 0) (found : Option Row) (pos : Pos) (rest : Option (Row × Pos)) (f : Row × Pos) → P pos → (rest ≡ Some f → P f.1) → or_later (option_map (λ (r : Row). (r, pos)) found) rest ≡ Some f → P f.1
later_lies P None pos rest f h later e = later e
later_lies P (Some r) pos rest f h later e = let same : (r, pos) ≡ f = cc in subst (λ (x : Row × Pos). P x.1) same h

-- a fault of a stage stands where a definition does
pub after_lies : (P : Pos → Type 0) (broken : List Def → Def → Option Row) (before ds : List Def) (f : Row × Pos) → AllByRecursion (λ (d : Def). P (place_of d)) ds → fault_after broken before ds ≡ Some f → P f.1
after_lies P broken before [] f h e = absurd cc
after_lies P broken before (d ∷ ds) f h e = later_lies P (broken before d) (place_of d) (fault_after broken (before ++ d ∷ []) ds) f h.0 (λ k. after_lies P broken (before ++ d ∷ []) ds f h.1 k) e

-- a fault stands where a definition does
pub fault_lies : (P : Pos → Type 0) (ds : List Def) (f : Row × Pos) → AllByRecursion (λ (d : Def). P (place_of d)) ds → type_fault ds ≡ Some f → P f.1
fault_lies P ds f h e = after_lies P (type_row ds) [] ds f h e

-- so does the error that reports one
pub told_by : (P : Pos → Type 0) (fault : Option (Row × Pos)) (error : Error) → ((f : Row × Pos) → fault ≡ Some f → P f.1) → TellsTyping fault (Some error) → (f : Row × Pos) × P f.1 × TellsFault f error
told_by P None error h t = absurd t
told_by P (Some f) error h t = (f, h f refl, t)
