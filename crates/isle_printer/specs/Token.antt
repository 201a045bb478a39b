-- A target text as a list of tokens, each the longest run that it can be, comments among them.
use Rattle.std.specs.Prelude.{ℕ, List, [], ◌∷◌, ◌++◌, Bool, true, false, ◌==◌, ◌&&◌, ◌||◌, nat_le, if◌then◌else◌, fold, filter, IsTrue}
use Rattle.std.specs.List.{list_all}

pub data Token : Type 0 where
  -- a name, a keyword or a number
  Word : List ℕ → Token
  -- punctuation, of one byte or of two that belong together, as ::
  Mark : List ℕ → Token
  -- what stands between two quotes, with no escapes
  Quoted : List ℕ → Token
  -- a quote that is not closed, or an escape that is none; no program has it
  Stray : Token
  -- what stands from // to the end of its line; a reader leaves it out
  Comment : Token

-- what was begun and may go on
pub data State : Type 0 where
  Between : State
  InWord : List ℕ → State
  AfterMark : ℕ → State
  InComment : State
  InQuotes : List ℕ → State
  Escaped : List ℕ → State

-- the tokens that are whole, and what was begun
pub record Scan : Type 0 where
  pub tokens : List Token
  pub state : State

-- a letter, a digit or _
abbrev pub is_word_byte : ℕ → Bool
is_word_byte b = (nat_le 48 b && nat_le b 57) || (nat_le 65 b && nat_le b 90) || (nat_le 97 b && nat_le b 122) || (b == 95)

-- a space, a tab, CR or LF
abbrev pub is_blank : ℕ → Bool
is_blank b = (b == 32) || (b == 9) || (b == 10) || (b == 13)

-- two marks that are one token: :: -> => == >= .. ||
abbrev pub joins : ℕ → ℕ → Bool
joins a b =
    ((a == 58) && (b == 58)) || ((a == 45) && (b == 62)) || ((a == 61) && (b == 62)) || ((a == 61) && (b == 61))
    || ((a == 62) && (b == 61)) || ((a == 46) && (b == 46)) || ((a == 124) && (b == 124))

-- a byte if nothing was begun
unfoldable pub begun : List Token → ℕ → Scan
begun ts b =
    if is_word_byte b then record { tokens = ts; state = InWord (b ∷ []) }
    else (if is_blank b then record { tokens = ts; state = Between }
    else (if b == 34 then record { tokens = ts; state = InQuotes [] }
    else record { tokens = ts; state = AfterMark b }))

-- one byte more
unfoldable pub step : Scan → ℕ → Scan
step s b = next s.state s.tokens b
  where
    next : State → List Token → ℕ → Scan
    next Between ts b = begun ts b
    next (InWord w) ts b = if is_word_byte b then record { tokens = ts; state = InWord (w ++ b ∷ []) } else begun (ts ++ Word w ∷ []) b
    next (AfterMark a) ts b =
        if joins a b then record { tokens = ts ++ Mark (a ∷ b ∷ []) ∷ []; state = Between }
        else (if (a == 47) && (b == 47) then record { tokens = ts ++ Comment ∷ []; state = InComment } else begun (ts ++ Mark (a ∷ []) ∷ []) b)
    next InComment ts b = if b == 10 then record { tokens = ts; state = Between } else record { tokens = ts; state = InComment }
    next (InQuotes w) ts b =
        if b == 34 then record { tokens = ts ++ Quoted w ∷ []; state = Between }
        else (if b == 92 then record { tokens = ts; state = Escaped w } else record { tokens = ts; state = InQuotes (w ++ b ∷ []) })
    next (Escaped w) ts b =
        if (b == 34) || (b == 92) then record { tokens = ts; state = InQuotes (w ++ b ∷ []) }
        else record { tokens = ts ++ Stray ∷ []; state = InQuotes w }

-- the tokens of what was begun, where the text ends
abbrev pub last_of : State → List Token
last_of Between = []
last_of (InWord w) = Word w ∷ []
last_of (AfterMark a) = Mark (a ∷ []) ∷ []
last_of InComment = []
last_of (InQuotes w) = Stray ∷ []
last_of (Escaped w) = Stray ∷ []

-- a text, byte by byte
abbrev pub scan : List ℕ → Scan
scan = fold step (record { tokens = []; state = Between })

-- all tokens of a text that ends here
abbrev pub finished : Scan → List Token
finished s = s.tokens ++ last_of s.state

-- the tokens of a text
abbrev pub tokens_of : List ℕ → List Token
tokens_of text = finished (scan text)

-- a token that a reader takes
abbrev pub is_read : Token → Bool
is_read (Word w) = true
is_read (Mark m) = true
is_read (Quoted text) = true
is_read Stray = true
is_read Comment = false

-- the tokens, the comments left out
abbrev pub without_comments : List Token → List Token
without_comments ts = filter is_read ts

-- no comment stands in the text
abbrev pub HasNoComment : List ℕ → Type 0
HasNoComment text = IsTrue (list_all is_read (tokens_of text))

-- bytes that are one word
abbrev pub is_word : List ℕ → Bool
is_word [] = false
is_word (b ∷ bs) = list_all is_word_byte (b ∷ bs)

-- a byte that begins a mark
abbrev pub is_mark_byte : ℕ → Bool
is_mark_byte b = if is_word_byte b then false else (if is_blank b then false else (if b == 34 then false else true))

-- bytes that are one mark
abbrev pub is_mark : List ℕ → Bool
is_mark [] = false
is_mark (a ∷ []) = is_mark_byte a
is_mark (a ∷ b ∷ []) = is_mark_byte a && joins a b
is_mark (a ∷ b ∷ c ∷ bs) = false

-- whether b goes on what was begun with a mark a
abbrev pub goes_on : ℕ → ℕ → Bool
goes_on a b = joins a b || ((a == 47) && (b == 47))

-- what is begun after a blank, or after a mark of one byte
abbrev pub left_open : ℕ → State
left_open b = if is_blank b then Between else AfterMark b
