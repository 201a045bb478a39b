-- Whether the functions of a program are well formed, one after another.
use Rattle.std.proofs.Common.{◌≡◌, ℕ, ◌+◌, ◌<◌, ◌≤◌, List, ◌∷◌, length, drop, map, get_or, Bool, true, false, refl, sym, ap, ◌∙◌, subst}
use Rattle.std.specs.Prelude.{◌↔◌, IsTrue}
use Rattle.std.specs.List.{AllByRecursion, IsDistinct}
use Rattle.std.specs.Str.{bytes_eq}
use Rattle.std.proofs.lemmas.List.{drop_more, at_drop_all}
use Rattle.isle_tree.specs.declared.tree.Function.{Function as CodeFunction}
use Rattle.isle_tree.specs.declared.tree.Program.{Program as CodeProgram}
use Rattle.isle_tree.specs.Program.{Program}
use Rattle.isle_tree.specs.Views.{program, function}
use Rattle.isle_tree.specs.WellFormed.{Callables, callables, IsTraitFn, IsTypeItem, IsFunction, IsWellFormed, terms, fn_names, declared_names}

-- all are if those that are left are, in a program whose functions may call these
abbrev pub Left : Callables → List CodeFunction → ℕ → Type 0
Left may fns i = (p : Program) → callables p ≡ may → AllByRecursion (IsFunction p) (map function (drop i fns)) ↔ AllByRecursion (IsFunction p) (map function fns)

-- a function is well formed in such a program, or not
abbrev pub Decides : Callables → Bool → CodeFunction → Type 0
Decides may b f = (p : Program) → callables p ≡ may → IsTrue b ↔ IsFunction p (function f)

-- all are, or not
abbrev pub DecideAll : Callables → Bool → List CodeFunction → Type 0
DecideAll may b fns = (p : Program) → callables p ≡ may → IsTrue b ↔ AllByRecursion (IsFunction p) (map function fns)

-- the next, and those after it
opened : (may : Callables) (fns : List CodeFunction) (i : ℕ) (f : CodeFunction) → i < length fns → f ≡ get_or fns i f → Left may fns i → (p : Program) → callables p ≡ may
    → (IsFunction p (function f) × AllByRecursion (IsFunction p) (map function (drop (i + 1) fns))) ↔ AllByRecursion (IsFunction p) (map function fns)
opened may fns i f lt is h p e =
    subst (λ xs. AllByRecursion (IsFunction p) (map function xs) ↔ AllByRecursion (IsFunction p) (map function fns)) (drop_more fns i f lt ∙ ap (λ x. x ∷ drop (i + 1) fns) (sym is)) (h p e)

pub left_more : (may : Callables) (fns : List CodeFunction) (i : ℕ) (f : CodeFunction) → i < length fns → f ≡ get_or fns i f → Decides may true f → Left may fns i → Left may fns (i + 1)
left_more may fns i f lt is good h = λ p e.
    let k = opened may fns i f lt is h p e in
    (λ t. k.0 ((good p e).0 refl, t), λ q. (k.1 q).1)

pub left_stop : (may : Callables) (fns : List CodeFunction) (i : ℕ) (f : CodeFunction) → i < length fns → f ≡ get_or fns i f → Decides may false f → Left may fns i → DecideAll may false fns
left_stop may fns i f lt is bad h = λ p e.
    let k = opened may fns i f lt is h p e in
    (λ t. absurd cc, λ q. (bad p e).1 (k.1 q).0)

pub left_none : (may : Callables) (fns : List CodeFunction) (i : ℕ) → length fns ≤ i → Left may fns i → DecideAll may true fns
left_none may fns i le h = λ p e.
    let ends = at_drop_all (λ (xs : List CodeFunction). xs) fns i le in
    (λ t. (h p e).0 (subst (λ xs. AllByRecursion (IsFunction p) (map function xs)) (sym ends) tt), λ q. refl)

-- ---- the program

-- a program with a function that the trait may not have
pub refused_trait_fns : (p : CodeProgram) → (IsTrue false ↔ AllByRecursion IsTraitFn p.trait_fns) → IsTrue false ↔ IsWellFormed (program p)
refused_trait_fns p h = (λ t. absurd cc, λ w. h.1 w.trait_fns)

-- with two of one name
pub refused_names : (p : CodeProgram) → (IsTrue false ↔ IsDistinct bytes_eq (fn_names p.trait_fns)) → IsTrue false ↔ IsWellFormed (program p)
refused_names p h = (λ t. absurd cc, λ w. h.1 w.trait_names)

-- with a type that no program has
pub refused_types : (p : CodeProgram) → (IsTrue false ↔ AllByRecursion IsTypeItem p.types) → IsTrue false ↔ IsWellFormed (program p)
refused_types p h = (λ t. absurd cc, λ w. h.1 w.types)

-- with two types of one name
pub refused_type_names : (p : CodeProgram) → (IsTrue false ↔ IsDistinct bytes_eq (declared_names p.types)) → IsTrue false ↔ IsWellFormed (program p)
refused_type_names p h = (λ t. absurd cc, λ w. h.1 w.type_names)

-- with a function that is not well formed
pub refused_fns : (p : CodeProgram) → DecideAll (callables (program p)) false p.fns → IsTrue false ↔ IsWellFormed (program p)
refused_fns p h = (λ t. absurd cc, λ w. (h (program p) refl).1 w.fns)

-- with none of these: by the names of its functions
pub by_names : (p : CodeProgram) (b : Bool) → (IsTrue true ↔ AllByRecursion IsTraitFn p.trait_fns) → (IsTrue true ↔ IsDistinct bytes_eq (fn_names p.trait_fns))
    → (IsTrue true ↔ AllByRecursion IsTypeItem p.types) → (IsTrue true ↔ IsDistinct bytes_eq (declared_names p.types))
    → DecideAll (callables (program p)) true p.fns → (IsTrue b ↔ IsDistinct bytes_eq (terms (map function p.fns))) → IsTrue b ↔ IsWellFormed (program p)
by_names p b k n f m h d = (
  λ t. record { trait_fns = k.0 refl; trait_names = n.0 refl; types = f.0 refl; type_names = m.0 refl; fns = (h (program p) refl).0 refl; distinct = d.0 t },
  λ w. d.1 w.distinct,
)
