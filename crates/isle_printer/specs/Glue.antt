-- What a printer knows of the end of its text.
use Rattle.std.specs.Prelude.{◌≡◌, ℕ, List, ◌++◌, Bool, true, false, [], ◌∷◌}
use Rattle.isle_printer.specs.declared.printer.Last.{Last}
use Rattle.isle_printer.specs.declared.printer.Last.TheVariants as last
use Rattle.isle_printer.specs.Token.{Token, State, Between, InWord, AfterMark, step, begun, last_of, is_word_byte, goes_on}

-- the state is the one that the printer has noted
abbrev pub Settles : Last → State → Type 0
Settles last.Nothing s = s ≡ Between
Settles last.Word s = (w : List ℕ) × (s ≡ InWord w)
Settles (last.Mark a) s = s ≡ AfterMark a

-- the byte ends what was begun, and begins something itself
pub record Ends (state : State) (b : ℕ) : Type 0 where
  pub by : (ts : List Token) → step (record { tokens = ts; state = state }) b ≡ begun (ts ++ last_of state) b

-- each byte of a word ends what was begun
abbrev pub EndsAtWord : State → Type 0
EndsAtWord state = (b : ℕ) → is_word_byte b ≡ true → Ends state b

-- the byte would go on what was begun
abbrev pub meets : Last → ℕ → Bool
meets last.Nothing b = false
meets last.Word b = is_word_byte b
meets (last.Mark a) b = goes_on a b

-- a word would go on what was begun
abbrev pub is_open : Last → Bool
is_open last.Nothing = false
is_open last.Word = true
is_open (last.Mark a) = false

-- what a printer has noted after a mark
abbrev pub noted : List ℕ → Last
noted [] = last.Nothing
noted (a ∷ []) = last.Mark a
noted (a ∷ b ∷ bs) = last.Nothing
