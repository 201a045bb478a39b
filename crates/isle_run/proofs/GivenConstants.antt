-- Constants that are given values: they are declared, and what has no value is given none.
use Rattle.std.proofs.Common.{◌≡◌, ⊎_elim, ℕ, List, [], ◌∷◌, ◌++◌, Bool, true, false, cond, Option, Some, None, option_map, refl, sym, ap, ◌∙◌, subst}
use Rattle.std.specs.Prelude.{◌==◌, ◌||◌, Contains, find}
use Rattle.std.specs.List.{AllByRecursion, list_any}
use Rattle.std.specs.Str.{bytes_eq}
use Rattle.std.proofs.lemmas.Bool.Decides.{Decides-eqb}
use Rattle.std.proofs.lemmas.Slice.Eq.{bytes_eq-Decides}
use Rattle.isle_core.specs.declared.Sym.{Sym}
use Rattle.isle_core.specs.declared.TypeId.{TypeId}
use Rattle.isle_core.specs.HasType.{HasType}
use Rattle.isle_core.specs.Meaning.{Meaning}
use Rattle.isle_core.specs.NamesApart.{IsNameOf, ValuesConstants}
use Rattle.isle_core.specs.Rule.{Environment}
use Rattle.isle_core.specs.Terms.{sym_text}
use Rattle.isle_core.specs.Value.{Value}
use Rattle.isle_core.proofs.Contained.{head_contained, tail_contained, contained_cases, none_contained}
use Rattle.isle_operand_names.specs.Names.{is_among}
use Rattle.isle_run_inputs.specs.Requested.{first_constant}
use Rattle.isle_run.specs.Valid.{HasNoValue, AreRightConstants}

-- ---- declared constants

-- the type of the first constant of this number
abbrev type_in : List (Sym × TypeId) → Sym → Option TypeId
type_in consts s = option_map (λ (c : Sym × TypeId). c.1) (find (λ (c : Sym × TypeId). c.0.0 == s.0) consts)

-- the type of this one, or of one after it
abbrev first_or : Sym × TypeId → List (Sym × TypeId) → Sym → Bool → Option TypeId
first_or c consts s b = option_map (λ (d : Sym × TypeId). d.1) (cond b (Some c) (find (λ (d : Sym × TypeId). d.0.0 == s.0) consts))

-- a constant of a name has a number
named_in : (env : Environment) (consts : List (Sym × TypeId)) (name : List ℕ) (ty : TypeId) → first_constant env consts name ≡ Some ty → (s : Sym) × (type_in consts s ≡ Some ty) × (sym_text env s ≡ name)
named_in env [] name ty e = absurd cc
named_in env (c ∷ consts) name ty e = one (bytes_eq name (sym_text env c.0)) refl e (named_in env consts name ty)
  where
    other : (s : Sym) → sym_text env s ≡ name → bytes_eq name (sym_text env c.0) ≡ false → (x : Bool) → (c.0.0 == s.0) ≡ x → x ≡ false
    other s text is false here = refl
    other s text is true here =
        let same : c.0.0 ≡ s.0 = (Decides-eqb c.0.0 s.0).0 here in
        let texts : sym_text env c.0 ≡ sym_text env s = ap (λ (n : ℕ). sym_text env (record { 0 = n })) same in
        let t : bytes_eq name (sym_text env c.0) ≡ true = (bytes_eq-Decides name (sym_text env c.0)).1 (sym (texts ∙ text)) in
        cc

    one : (x : Bool) → bytes_eq name (sym_text env c.0) ≡ x → option_map (λ (d : Sym × TypeId). d.1) (cond x (Some c) (find (λ (d : Sym × TypeId). bytes_eq name (sym_text env d.0)) consts)) ≡ Some ty
        → (first_constant env consts name ≡ Some ty → (s : Sym) × (type_in consts s ≡ Some ty) × (sym_text env s ≡ name)) → (s : Sym) × (type_in (c ∷ consts) s ≡ Some ty) × (sym_text env s ≡ name)
    one true is here later = (c.0, ap (first_or c consts c.0) ((Decides-eqb c.0.0 c.0.0).1 refl) ∙ here, sym ((bytes_eq-Decides name (sym_text env c.0)).0 is))
    one false is here later =
        let h = later here in
        (h.0, ap (first_or c consts h.0) (other h.0 h.2 is (c.0.0 == h.0.0) refl) ∙ h.1, h.2)

-- a declared constant has a type
pub typed_in : (consts : List (Sym × TypeId)) (c : Sym × TypeId) → Contains consts c → (ty : TypeId) × (type_in consts c.0 ≡ Some ty)
typed_in [] c k = absurd (none_contained c k)
typed_in (d ∷ consts) c k = one (d.0.0 == c.0.0) refl (λ j. typed_in consts c j)
  where
    later : (x : Bool) → (d.0.0 == c.0.0) ≡ x → (d ≡ c) → x ≡ true
    later true is e = refl
    later false is e = let t : (d.0.0 == c.0.0) ≡ true = (Decides-eqb d.0.0 c.0.0).1 (ap (λ (y : Sym × TypeId). y.0.0) e) in cc

    one : (x : Bool) → (d.0.0 == c.0.0) ≡ x → (Contains consts c → (ty : TypeId) × (type_in consts c.0 ≡ Some ty)) → (ty : TypeId) × (type_in (d ∷ consts) c.0 ≡ Some ty)
    one true is rest = (d.1, ap (first_or d consts c.0) is)
    one false is rest =
        let h = rest (⊎_elim (λ e. absurd (let bad : false ≡ true = later false is e in cc)) (λ j. j) (contained_cases d consts c k)) in
        (h.0, ap (first_or d consts c.0) is ∙ h.1)

-- ---- values

-- a value that is found is one of these
value_in : (P : List ℕ × Value → Type 0) (consts : List (List ℕ × Value)) (name : List ℕ) (v : Value) → AllByRecursion P consts → option_map (λ (c : List ℕ × Value). c.1) (find (λ (c : List ℕ × Value). bytes_eq name c.0) consts) ≡ Some v → P (name, v)
value_in P [] name v h e = absurd cc
value_in P (c ∷ consts) name v h e = one (bytes_eq name c.0) refl (λ k. value_in P consts name v h.1 k) e
  where
    one : (x : Bool) → bytes_eq name c.0 ≡ x → (option_map (λ (d : List ℕ × Value). d.1) (find (λ (d : List ℕ × Value). bytes_eq name d.0) consts) ≡ Some v → P (name, v))
        → option_map (λ (d : List ℕ × Value). d.1) (cond x (Some c) (find (λ (d : List ℕ × Value). bytes_eq name d.0) consts)) ≡ Some v → P (name, v)
    one true is rest here =
        let text : c.0 ≡ name = sym ((bytes_eq-Decides name c.0).0 is) in
        let value : c.1 ≡ v = cc in
        subst (λ (n : List ℕ). P (n, v)) text (subst (λ (w : Value). P (c.0, w)) value h.0)
    one false is rest here = rest here

-- of a declared constant, and of its type
abbrev pub IsDeclaredValue : Environment → List ℕ × Value → Type 0
IsDeclaredValue env c = (ty : TypeId) × IsNameOf env ty c.0 × HasType env c.1 ty

pub each_declared : (env : Environment) (earlier later : List (List ℕ × Value)) → AreRightConstants env earlier later → AllByRecursion (IsDeclaredValue env) later
each_declared env earlier [] h = tt
each_declared env earlier (c ∷ later) h = ((h.0.ty, named_in env env.types.consts c.0 h.0.ty h.0.named, h.0.typed), each_declared env (earlier ++ c ∷ []) later h.1)

-- right constants are values of declared ones
pub values_declared : (env : Environment) (m : Meaning) → AreRightConstants env [] m.consts → ValuesConstants env m
values_declared env m h name v e = value_in (IsDeclaredValue env) m.consts name v (each_declared env [] m.consts h) e

-- what has no value is given none
pub none_given : (consts : List (List ℕ × Value)) (name : List ℕ) → option_map (λ (c : List ℕ × Value). c.1) (find (λ (c : List ℕ × Value). bytes_eq name c.0) consts) ≡ None → HasNoValue name consts
none_given [] name e = tt
none_given (c ∷ consts) name e = one (bytes_eq name c.0) refl (λ k. none_given consts name k) e
  where
    one : (x : Bool) → bytes_eq name c.0 ≡ x → (option_map (λ (d : List ℕ × Value). d.1) (find (λ (d : List ℕ × Value). bytes_eq name d.0) consts) ≡ None → HasNoValue name consts)
        → option_map (λ (d : List ℕ × Value). d.1) (cond x (Some c) (find (λ (d : List ℕ × Value). bytes_eq name d.0) consts)) ≡ None → HasNoValue name (c ∷ consts)
    one true is rest here = absurd cc
    one false is rest here = (is, rest here)

-- ---- names

-- what is among names is one of them
pub among_of : (P : List ℕ → Type 0) (names : List (List ℕ)) (name : List ℕ) → AllByRecursion P names → is_among name names ≡ true → P name
among_of P [] name h e = absurd cc
among_of P (x ∷ names) name h e = one (bytes_eq name x) refl (λ k. among_of P names name h.1 k) e
  where
    one : (b : Bool) → bytes_eq name x ≡ b → (is_among name names ≡ true → P name) → (b || is_among name names) ≡ true → P name
    one true is rest here = subst P (sym ((bytes_eq-Decides name x).0 is)) h.0
    one false is rest here = rest here

-- a test that each fails holds of none
pub none_holds : {X : Type 0} (test : X → Bool) (xs : List X) → ((x : X) → Contains xs x → test x ≡ false) → list_any test xs ≡ false
none_holds test [] h = refl
none_holds test (x ∷ xs) h = ap (λ (b : Bool). b || list_any test xs) (h x (head_contained x xs)) ∙ none_holds test xs (λ y c. h y (tail_contained x xs y c))
