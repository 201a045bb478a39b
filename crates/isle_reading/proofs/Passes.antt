-- Tokens that nest no deeper than may be, and the states that they lead through.
use native.Mathlib.Nat.{le_trans, le-max_left, le-max_right, max-le}
use Rattle.std.proofs.Common.{◌≡◌, ℕ, ◌≤◌, ◌<◌, List, [], ◌∷◌, ◌++◌, length, refl, ap, subst, arith}
use Rattle.std.specs.Prelude.{fold}
use Rattle.isle_lexer.specs.Lexeme.{Lexeme}
use Rattle.isle_reading.specs.Reader.{Reading, Got, Stuck, Deep}
use Rattle.isle_reading.specs.Nesting.{Nest, nest, deepest, most_open}

-- no more are open after the token than may be
abbrev pub Within : Nest → Lexeme → Type 0
Within q t = length (nest q t).marks ≤ most_open

-- from one state to another by tokens after none of which more are open than may be
pub data Passes : Nest → List Lexeme → Nest → List Lexeme → Type 0 where
  none : (q : Nest) (ts : List Lexeme) → Passes q ts q ts
  one : (q p : Nest) (t : Lexeme) (ts rest : List Lexeme) → Within q t → Passes (nest q t) ts p rest → Passes q (t ∷ ts) p rest

pub passes_more : {q p o : Nest} {ts mid rest : List Lexeme} → Passes q ts p mid → Passes p mid o rest → Passes q ts o rest
passes_more (none q ts) y = y
passes_more {o = o} {rest = rest} (one q p t ts mid w x) y = one q o t ts rest w (passes_more x y)

-- with the next token more are open than may be
abbrev pub Over : Nest → List Lexeme → Type 0
Over q ts = (t : Lexeme) × (behind : List Lexeme) × (ts ≡ t ∷ behind) × (most_open < length (nest q t).marks)

-- where a reader leads to that takes no token too deep: what was got leads to a state of this kind, and with at most n tokens it is too deep only where the next token is
abbrev pub Nests : {A : Type 0} → (A → Nest → Type 0) → ℕ → Nest → List Lexeme → Reading A → Type 0
Nests E n q ts (Got a rest) = (p : Nest) × Passes q ts p rest × E a p
Nests E n q ts (Stuck rest) = (p : Nest) × Passes q ts p rest
Nests E n q ts (Deep rest) = (p : Nest) × Passes q ts p rest × (length ts ≤ n → Over p rest)

-- the states of one kind lead to those of another by this token
abbrev pub Steps : (Nest → Type 0) → (Nest → Type 0) → Lexeme → Type 0
Steps P E t = (q : Nest) → P q → Within q t × E (nest q t)

-- ---- the tokens in front

pub passed_front : {q p : Nest} {ts rest : List Lexeme} → Passes q ts p rest → (front : List Lexeme) × (ts ≡ front ++ rest) × (deepest q front ≤ most_open) × (fold nest q front ≡ p)
passed_front (none q ts) = ([], refl, omega arith, refl)
passed_front (one q p t ts rest w x) = let y = passed_front x in (t ∷ y.0, ap (λ z. t ∷ z) y.1, max-le w y.2, y.3)

-- fewer tokens are left
pub passes_shrinks : {q p : Nest} {ts rest : List Lexeme} → Passes q ts p rest → length rest ≤ length ts
passes_shrinks (none q ts) = omega arith
passes_shrinks (one q p t ts rest w x) = let y : length rest ≤ length ts = passes_shrinks x in omega (arith, y)

-- ---- how deep tokens nest, in parts

pub front_shallow : (q : Nest) (front behind : List Lexeme) (n : ℕ) → deepest q (front ++ behind) ≤ n → deepest q front ≤ n
front_shallow q [] behind n h = omega arith
front_shallow q (t ∷ front) behind n h =
    max-le (le_trans (le-max_left (length (nest q t).marks) (deepest (nest q t) (front ++ behind))) h)
    (front_shallow (nest q t) front behind n (le_trans (le-max_right (length (nest q t).marks) (deepest (nest q t) (front ++ behind))) h))

-- the last token is no deeper than all
pub last_shallow : (q : Nest) (front : List Lexeme) (t : Lexeme) → length (nest (fold nest q front) t).marks ≤ deepest q (front ++ t ∷ [])
last_shallow q [] t = le-max_left (length (nest q t).marks) 0
last_shallow q (u ∷ front) t = le_trans (last_shallow (nest q u) front t) (le-max_right (length (nest q u).marks) (deepest (nest q u) (front ++ t ∷ [])))

-- tokens that nest no deeper than may be are never over
pub shallow_not_over : (q p : Nest) (ts rest : List Lexeme) → deepest q ts ≤ most_open → Passes q ts p rest → Over p rest → ⊥
shallow_not_over q _ ts _ h (none _ _) (t, behind, e, l) =
    let x : deepest q (t ∷ behind) ≤ most_open = subst (λ z. deepest q z ≤ most_open) e h in
    let y : length (nest q t).marks ≤ most_open = le_trans (le-max_left (length (nest q t).marks) (deepest (nest q t) behind)) x in
    omega (arith, y, l)
shallow_not_over q p _ rest h (one _ _ t ts _ w x) o =
    shallow_not_over (nest q t) p ts rest (le_trans (le-max_right (length (nest q t).marks) (deepest (nest q t) ts)) h) x o
