-- What lines of the grammar are made of: which tokens some tokens begin with, and which are after these.
use Rattle.std.specs.Prelude.{◌≡◌, ℕ, List, ◌∷◌, Bool, true, false, Option, Some}
use Rattle.isle_lexer.specs.Lexeme.{Lexeme, Open, Close, Word}
use Rattle.isle_tables.specs.Words.{symbol_of, count_of}

-- an opening parenthesis
abbrev pub Opens : List Lexeme → List Lexeme → Type 0
Opens ts rest = (at : ℕ) × (ts ≡ Open at ∷ rest)

-- a closing parenthesis
abbrev pub Closes : List Lexeme → List Lexeme → Type 0
Closes ts rest = (at : ℕ) × (ts ≡ Close at ∷ rest)

-- this very word
abbrev pub Key : List ℕ → List Lexeme → List Lexeme → Type 0
Key word ts rest = (at : ℕ) × (ts ≡ Word at word ∷ rest)

-- a word that says this
abbrev pub Says : {A : Type 0} → (List ℕ → Option A) → A → List Lexeme → List Lexeme → Type 0
Says f a ts rest = (at : ℕ) × (w : List ℕ) × (ts ≡ Word at w ∷ rest) × (f w ≡ Some a)

-- a symbol
abbrev pub Symbol : List ℕ → List Lexeme → List Lexeme → Type 0
Symbol = Says symbol_of

-- a symbol and the place where it begins
pub data PlacedS : List ℕ × ℕ → List Lexeme → List Lexeme → Type 0 where
  placed : (at : ℕ) (w name : List ℕ) (ts : List Lexeme) → symbol_of w ≡ Some name → PlacedS (name, at) (Word at w ∷ ts) ts

-- this word, or nothing
pub data FlagS (word : List ℕ) : Bool → List Lexeme → List Lexeme → Type 0 where
  there : (ts rest : List Lexeme) → Key word ts rest → FlagS word true ts rest
  missing : (ts : List Lexeme) → FlagS word false ts ts

-- ( WORD NUM )
pub data CountS (word : List ℕ) : ℕ → List Lexeme → List Lexeme → Type 0 where
  count : (n : ℕ) (ts t1 t2 t3 rest : List Lexeme) → Opens ts t1 → Key word t1 t2 → Says count_of n t2 t3 → Closes t3 rest → CountS word n ts rest
