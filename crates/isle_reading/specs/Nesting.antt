-- How deep a token nests: the parentheses and `@` that are open after it.
use Rattle.std.specs.Prelude.{ℕ, max, List, [], ◌∷◌, Bool, ◌||◌, if◌then◌else◌, length, bytes_eq, codes}
use Rattle.isle_lexer.specs.Lexeme.{Lexeme, Open, Close, At, Less, Greater, Word}

-- what is open
pub data Mark : Type 0 where
  -- a parenthesis
  Round : Mark
  -- a parenthesis of a list that is passed over, or of one inside it
  Passed : Mark
  -- an `@` whose pattern goes on
  Sign : Mark

-- what the last token leaves open to the next
pub data Last : Type 0 where
  -- a parenthesis of a list at the top, whose first word says whether it is passed over
  Headless : Last
  -- an `@` whose pattern is still to come
  Awaiting : Last
  Other : Last

-- the marks, the innermost first, and what the last token was
pub record Nest : Type 0 where
  pub marks : List Mark
  pub last : Last

-- in front of the first token
abbrev pub nothing_open : Nest
nothing_open = record { marks = []; last = Other }

-- a list at the top is passed over whose first word is one of these
abbrev pub is_passed : List ℕ → Bool
is_passed w =
    bytes_eq w (codes "spec") || bytes_eq w (codes "model") || bytes_eq w (codes "form")
    || bytes_eq w (codes "instantiate") || bytes_eq w (codes "attr") || bytes_eq w (codes "state")

-- the `@` after whose patterns a token stands are closed
abbrev pub settled : List Mark → List Mark
settled [] = []
settled (Round ∷ ms) = Round ∷ ms
settled (Passed ∷ ms) = Passed ∷ ms
settled (Sign ∷ ms) = settled ms

-- the marks where a token stands that is no `@`, by what the last token was
abbrev pub here_by : Last → List Mark → List Mark
here_by Headless ms = ms
here_by Awaiting ms = ms
here_by Other ms = settled ms

-- the marks where a token stands that is no `@`
abbrev pub here : Nest → List Mark
here s = here_by s.last s.marks

-- a parenthesis more
abbrev pub opened : List Mark → Nest
opened [] = record { marks = Round ∷ []; last = Headless }
opened (Round ∷ ms) = record { marks = Round ∷ Round ∷ ms; last = Other }
opened (Passed ∷ ms) = record { marks = Passed ∷ Passed ∷ ms; last = Other }
opened (Sign ∷ ms) = record { marks = Round ∷ Sign ∷ ms; last = Other }

-- a parenthesis less
abbrev pub closed : List Mark → List Mark
closed [] = []
closed (m ∷ ms) = ms

-- an `@` more; in a list that is passed over it does not count
abbrev pub signed : List Mark → Nest
signed [] = record { marks = Sign ∷ []; last = Awaiting }
signed (Round ∷ ms) = record { marks = Sign ∷ Round ∷ ms; last = Awaiting }
signed (Passed ∷ ms) = record { marks = Passed ∷ ms; last = Other }
signed (Sign ∷ ms) = record { marks = Sign ∷ Sign ∷ ms; last = Awaiting }

-- the list whose parenthesis is the innermost is passed over
abbrev pub passed_over : List Mark → List Mark
passed_over [] = []
passed_over (m ∷ ms) = Passed ∷ ms

-- the marks after a word
abbrev pub worded : Last → List ℕ → List Mark → List Mark
worded Headless w ms = if is_passed w then passed_over ms else ms
worded Awaiting w ms = ms
worded Other w ms = settled ms

-- one token more
abbrev pub nest : Nest → Lexeme → Nest
nest s (Open at) = opened (here s)
nest s (Close at) = record { marks = closed (here s); last = Other }
nest s (At at) = signed s.marks
nest s (Less at) = record { marks = here s; last = Other }
nest s (Greater at) = record { marks = here s; last = Other }
nest s (Word at w) = record { marks = worded s.last w s.marks; last = Other }

-- how many marks are open at most after one of these tokens
abbrev pub deepest : Nest → List Lexeme → ℕ
deepest s [] = 0
deepest s (t ∷ ts) = max (length (nest s t).marks) (deepest (nest s t) ts)

-- how deep tokens nest
abbrev pub depth : List Lexeme → ℕ
depth = deepest nothing_open

-- how many marks may be open at once
unfoldable pub most_open : ℕ
most_open = 256
