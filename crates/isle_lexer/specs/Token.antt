-- A rule text as tokens, by a fold over its bytes.
use Rattle.std.specs.Prelude.{◌≡◌, ℕ, zero, suc, ◌+◌, List, [], ◌∷◌, ◌++◌, Bool, true, false, ◌==◌, ◌||◌, not, if◌then◌else◌, Option, Some, None, drop, fold}
pub use Rattle.isle_lexer.specs.declared.token.Tok.{Tok}

-- what the byte before was, in a comment that may nest
pub data Seen : Type 0 where
  Other : Seen
  OpenSeen : Seen
  SemicolonSeen : Seen

-- what was begun and may go on, with the place where it began
pub data State : Type 0 where
  Between : State
  InWord : (from : ℕ) → State
  -- a ( , which a ; makes a comment
  AfterOpen : (from : ℕ) → State
  -- another token of one byte
  AfterSingle : (from : ℕ) → State
  -- a comment up to the end of its line
  InLine : State
  -- a comment from (; to ;) : where the outermost began, and how many are open round the innermost
  InComment : (from outer : ℕ) → Seen → State

-- space, tab, CR and LF
abbrev pub is_blank : ℕ → Bool
is_blank b = (b == 32) || (b == 9) || (b == 13) || (b == 10)

-- ) @ < >
abbrev pub is_single : ℕ → Bool
is_single b = (b == 41) || (b == 64) || (b == 60) || (b == 62)

-- every other byte but ( and ;
abbrev pub is_word_byte : ℕ → Bool
is_word_byte b = not (is_blank b || is_single b || (b == 40) || (b == 59))

-- what a byte begins if nothing was begun
abbrev pub begun : ℕ → ℕ → State
begun at b =
    if is_blank b then Between
    else (if b == 40 then AfterOpen at
    else (if b == 59 then InLine
    else (if is_single b then AfterSingle at
    else InWord at)))

-- what a byte leaves seen in a comment
abbrev pub seen_after : ℕ → Seen
seen_after b = if b == 40 then OpenSeen else (if b == 59 then SemicolonSeen else Other)

-- a comment is closed: the innermost of those that are open
abbrev pub closed : ℕ → ℕ → State
closed from zero = Between
closed from (suc outer) = InComment from outer Other

-- a byte in a comment; what opens one and what closes one share no ;
abbrev pub in_comment : ℕ → ℕ → Seen → ℕ → State
in_comment from outer Other b = InComment from outer (seen_after b)
in_comment from outer OpenSeen b = if b == 59 then InComment from (outer + 1) Other else InComment from outer (seen_after b)
in_comment from outer SemicolonSeen b = if b == 41 then closed from outer else InComment from outer (seen_after b)

-- whether a byte ends the token that was begun
abbrev pub ends : State → ℕ → Bool
ends Between b = false
ends (InWord from) b = not (is_word_byte b)
ends (AfterOpen from) b = not (b == 59)
ends (AfterSingle from) b = true
ends InLine b = false
ends (InComment from outer seen) b = false

-- what was begun, after the byte at this place
abbrev pub next : State → ℕ → ℕ → State
next Between at b = begun at b
next (InWord from) at b = if is_word_byte b then InWord from else begun at b
next (AfterOpen from) at b = if b == 59 then InComment from 0 Other else begun at b
next (AfterSingle from) at b = begun at b
next InLine at b = if b == 10 then Between else InLine
next (InComment from outer seen) at b = in_comment from outer seen b

-- the token that was begun, where it ends before this place
abbrev pub pending : State → ℕ → List Tok
pending Between at = []
pending (InWord from) at = record { from = from; to = at } ∷ []
pending (AfterOpen from) at = record { from = from; to = from + 1 } ∷ []
pending (AfterSingle from) at = record { from = from; to = from + 1 } ∷ []
pending InLine at = []
pending (InComment from outer seen) at = []

-- a token was begun
abbrev pub IsToken : State → Type 0
IsToken Between = ⊥
IsToken (InWord from) = Unit {0}
IsToken (AfterOpen from) = Unit {0}
IsToken (AfterSingle from) = Unit {0}
IsToken InLine = ⊥
IsToken (InComment from outer seen) = ⊥

-- the token that a byte ends
abbrev pub ended : State → ℕ → ℕ → List Tok
ended state at b = if ends state b then pending state at else []

-- the tokens that have ended, what was begun, and how many bytes there were
pub record Scan : Type 0 where
  pub tokens : List Tok
  pub state : State
  pub at : ℕ

-- one byte more
unfoldable pub step : Scan → ℕ → Scan
step s b = record { tokens = s.tokens ++ ended s.state s.at b; state = next s.state s.at b; at = s.at + 1 }

-- a text, byte by byte
abbrev pub scan : List ℕ → Scan
scan = fold step (record { tokens = []; state = Between; at = 0 })

-- the tokens of a text
abbrev pub tokens_of : List ℕ → List Tok
tokens_of text = (scan text).tokens ++ pending (scan text).state (scan text).at

-- where the comment began that is open
abbrev pub open_at : State → Option ℕ
open_at Between = None
open_at (InWord from) = None
open_at (AfterOpen from) = None
open_at (AfterSingle from) = None
open_at InLine = None
open_at (InComment from outer seen) = Some from

-- where the outermost comment of a text began that never ends
abbrev pub unclosed : List ℕ → Option ℕ
unclosed text = open_at (scan text).state

-- every comment of the text ends
abbrev pub IsClosed : List ℕ → Type 0
IsClosed text = unclosed text ≡ None

-- what comes of a text, or of a part: its tokens, and where the comment begins that never ends
pub record Coming : Type 0 where
  pub tokens : List Tok
  pub unclosed : Option ℕ

-- where a text ends
abbrev pub finished : Scan → Coming
finished s = record { tokens = s.tokens ++ pending s.state s.at; unclosed = open_at s.state }

-- what comes of a text from a place on, if this was begun in front of it
unfoldable pub coming : List ℕ → State → ℕ → Coming
coming text begun at = finished (fold step (record { tokens = []; state = begun; at = at }) (drop at text))

-- a token, and what comes after it
abbrev pub in_front : Tok → Coming → Coming
in_front tok c = record { tokens = tok ∷ c.tokens; unclosed = c.unclosed }

-- the tokens of a text after a place at which no token was begun
abbrev pub tokens_from : List ℕ → ℕ → List Tok
tokens_from text at = (coming text Between at).tokens
