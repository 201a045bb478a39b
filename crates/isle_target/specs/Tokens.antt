-- Reading tokens from left to right.
use Rattle.std.specs.Prelude.{ℕ, List, [], ◌∷◌, Bool, false, Option, Some, None, if◌then◌else◌}
use Rattle.isle_printer.specs.Token.{Token, Word, Mark, Quoted, Stray, Comment}
use Rattle.isle_printer.specs.Bytes.{same_bytes}

-- what follows if something is there
infixl 10 ◌>>=◌
abbrev pub ◌>>=◌ : {A B : Type 0} → Option A → (A → Option B) → Option B
None >>= f = None
(Some x) >>= f = f x

-- what is read, and the tokens after it
abbrev pub Reads : Type 0 → Type 0
Reads A = Option (A × List Token)

-- whether two tokens are one that a program may have; strays and comments are none
abbrev pub same_token : Token → Token → Bool
same_token (Word a) (Word b) = same_bytes a b
same_token (Word a) (Mark b) = false
same_token (Word a) (Quoted b) = false
same_token (Word a) Stray = false
same_token (Word a) Comment = false
same_token (Mark a) (Word b) = false
same_token (Mark a) (Mark b) = same_bytes a b
same_token (Mark a) (Quoted b) = false
same_token (Mark a) Stray = false
same_token (Mark a) Comment = false
same_token (Quoted a) (Word b) = false
same_token (Quoted a) (Mark b) = false
same_token (Quoted a) (Quoted b) = same_bytes a b
same_token (Quoted a) Stray = false
same_token (Quoted a) Comment = false
same_token Stray (Word b) = false
same_token Stray (Mark b) = false
same_token Stray (Quoted b) = false
same_token Stray Stray = false
same_token Stray Comment = false
same_token Comment (Word b) = false
same_token Comment (Mark b) = false
same_token Comment (Quoted b) = false
same_token Comment Stray = false
same_token Comment Comment = false

-- the tokens after these
abbrev pub phrase : List Token → List Token → Option (List Token)
phrase [] ts = Some ts
phrase (p ∷ ps) [] = None
phrase (p ∷ ps) (t ∷ ts) = if same_token p t then phrase ps ts else None

-- whether the next token is this one
abbrev pub at : Token → List Token → Bool
at t [] = false
at t (u ∷ us) = same_token t u

-- the tokens after the next
abbrev pub rest : List Token → List Token
rest [] = []
rest (t ∷ ts) = ts

-- the tokens after this one
abbrev pub after : Token → List Token → Option (List Token)
after t ts = if at t ts then Some (rest ts) else None

-- the next token, a word
abbrev pub any_word : List Token → Reads (List ℕ)
any_word [] = None
any_word (Word w ∷ ts) = Some (w, ts)
any_word (Mark a ∷ ts) = None
any_word (Quoted a ∷ ts) = None
any_word (Stray ∷ ts) = None
any_word (Comment ∷ ts) = None

-- the next token, a text between quotes
abbrev pub any_quoted : List Token → Reads (List ℕ)
any_quoted [] = None
any_quoted (Word a ∷ ts) = None
any_quoted (Mark a ∷ ts) = None
any_quoted (Quoted s ∷ ts) = Some (s, ts)
any_quoted (Stray ∷ ts) = None
any_quoted (Comment ∷ ts) = None
