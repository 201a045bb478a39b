-- Turns that rise, with one more.
use Rattle.std.proofs.Common.{◌≡◌, ◌⊎◌, ⊎_elim, ℕ, zero, suc, ◌+◌, ◌<◌, ◌≤◌, List, [], ◌∷◌, ◌++◌, length, length-append, get_or, Some, refl, sym, ap, ◌∙◌, subst, arith}
use Rattle.std.specs.Prelude.{Contains, slice_get}
use Rattle.std.proofs.lemmas.Option.{slice_get-get_or}
use Rattle.isle_core.specs.declared.BindingId.{BindingId}
use Rattle.isle_core.specs.declared.rule_sets.Binding.{Binding}
use Rattle.isle_core.specs.BindingParts.{over}
use Rattle.isle_blocks.specs.Turns.{turn_at, TurnsRise}

-- ---- the latest turn

-- no part has a later turn
abbrev pub NoneLater : List ℕ → List BindingId → ℕ → Type 0
NoneLater turns parts turn = (part : BindingId) → Contains parts part → turn_at turns part.0 ≤ turn

-- ---- one binding more

-- so far as the first n bindings go
abbrev pub RiseTo : ℕ → List Binding → List ℕ → Type 0
RiseTo n bs turns = (i : ℕ) (b : Binding) (part : BindingId) → i < n → slice_get bs i ≡ Some b → Contains (over b) part → part.0 < i → turn_at turns part.0 ≤ turn_at turns i

before_last : (xs : List ℕ) (y i : ℕ) → i < length xs → get_or (xs ++ y ∷ []) i 0 ≡ get_or xs i 0
before_last [] y i lt = absurd (omega (arith, lt))
before_last (x ∷ xs) y zero lt = refl
before_last (x ∷ xs) y (suc i) lt = before_last xs y i (omega (arith, lt))

at_last : (xs : List ℕ) (y : ℕ) → get_or (xs ++ y ∷ []) (length xs) 0 ≡ y
at_last [] y = refl
at_last (x ∷ xs) y = at_last xs y

less_or_last : (i n : ℕ) → i < n + 1 → (i < n) ⊎ (i ≡ n)
less_or_last i n lt = grind (arith)

one_binding : (x y : Binding) → Some x ≡ Some y → x ≡ y
one_binding x y e = cc

pub rise_more : (bs : List Binding) (n : ℕ) (x d : Binding) (turns : List ℕ) (turn : ℕ) → n < length bs → x ≡ get_or bs n d → length turns ≡ n → RiseTo n bs turns → NoneLater turns (over x) turn → RiseTo (n + 1) bs (turns ++ turn ∷ [])
rise_more bs n x d turns turn lt is long h later i b part below at among less = ⊎_elim before last (less_or_last i n below)
  where
    grown : List ℕ
    grown = turns ++ turn ∷ []

    before : i < n → turn_at grown part.0 ≤ turn_at grown i
    before k =
        let a = before_last turns turn part.0 (omega (arith, less, k, long)) in
        let c = before_last turns turn i (omega (arith, k, long)) in
        let r = h i b part k at among less in
        omega (arith, a, c, r)

    last : i ≡ n → turn_at grown part.0 ≤ turn_at grown i
    last e =
        let a = before_last turns turn part.0 (omega (arith, less, e, long)) in
        let c : turn_at grown i ≡ turn = ap (turn_at grown) (e ∙ sym long) ∙ at_last turns turn in
        let same : b ≡ x = one_binding b x (sym at ∙ ap (slice_get bs) e ∙ slice_get-get_or bs n d lt ∙ ap Some (sym is)) in
        let r = later part (subst (λ y. Contains (over y) part) same among) in
        omega (arith, a, c, r)

pub long_more : (xs ys : List ℕ) (y n : ℕ) → ys ≡ xs ++ y ∷ [] → length xs ≡ n → length ys ≡ n + 1
long_more xs ys y n e h = let a = length-append xs (y ∷ []) in let b = ap length e in omega (arith, a, b, h)

-- and so of all
pub rise_all : (bs : List Binding) (turns : List ℕ) (n : ℕ) → n ≡ length bs → RiseTo n bs turns → TurnsRise bs turns
rise_all bs turns n is h i b part at among less = h i b part (omega (arith, is, within bs i b at)) at among less
  where
    within : (xs : List Binding) (j : ℕ) (y : Binding) → slice_get xs j ≡ Some y → j < length xs
    within [] j y e = cc
    within (z ∷ xs) zero y e = omega arith
    within (z ∷ xs) (suc j) y e = let k = within xs j y e in omega (arith, k)
