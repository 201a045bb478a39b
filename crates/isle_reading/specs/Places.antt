-- Where tokens go wrong that spell nothing.
use Rattle.std.specs.Prelude.{◌≡◌, ℕ, ◌-◌, ◌≤◌, ◌<◌, List, [], ◌∷◌, ◌++◌, length, drop}
use Rattle.isle_lexer.specs.Lexeme.{Lexeme}
use Rattle.isle_reading.specs.Combinators.{place}
use Rattle.isle_reading.specs.Nesting.{depth, most_open}

-- these tokens spell something, up to the end
abbrev pub Accepted : {A : Type 0} → (A → List Lexeme → List Lexeme → Type 0) → List Lexeme → Type 0
Accepted {A = A} S ts = (a : A) × S a ts []

-- these tokens and some more are accepted
abbrev pub Starts : (List Lexeme → Type 0) → List Lexeme → Type 0
Starts accepted ts = (others : List Lexeme) × accepted (ts ++ others)

-- why tokens go wrong after those in front
pub data GoesWrong (accepted : List Lexeme → Type 0) (front rest : List Lexeme) : Type 0 where
  -- nothing accepted begins with them and the next token
  wrong : (t : Lexeme) (behind : List Lexeme) → rest ≡ t ∷ behind → (Starts accepted (front ++ t ∷ []) → ⊥) → GoesWrong accepted front rest
  -- with the next token more would be open than may be
  too_deep : (t : Lexeme) (behind : List Lexeme) → rest ≡ t ∷ behind → most_open < depth (front ++ t ∷ []) → GoesWrong accepted front rest
  -- a token is missing
  missing : rest ≡ [] → (accepted front → ⊥) → GoesWrong accepted front rest

-- tokens go wrong if so many of them are left; what is accepted says nothing of how deep it nests
pub record IsFault (accepted : List Lexeme → Type 0) (ts : List Lexeme) (left : ℕ) : Type 0 where
  pub front : List Lexeme
  pub rest : List Lexeme
  pub split : ts ≡ front ++ rest
  pub counted : left ≡ length rest
  pub starts : Starts accepted front
  pub shallow : depth front ≤ most_open
  pub goes_wrong : GoesWrong accepted front rest

-- where the first of these tokens begins, or else the end
abbrev pub first_place : List Lexeme → ℕ → ℕ
first_place [] end = end
first_place (t ∷ ts) end = place t

-- the place in a text of that length if so many tokens are left
abbrev pub place_left : List Lexeme → ℕ → ℕ → ℕ
place_left ts left end = first_place (drop (length ts - left) ts) end

-- tokens of a text of that length go wrong at that place
pub record IsFaultAt (accepted : List Lexeme → Type 0) (ts : List Lexeme) (end at : ℕ) : Type 0 where
  pub left : ℕ
  pub fault : IsFault accepted ts left
  pub stands : at ≡ place_left ts left end
