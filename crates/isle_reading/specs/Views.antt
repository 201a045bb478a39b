-- What contracts say of the code's readers.
use Rattle.std.specs.Prelude.{◌≡◌, ℕ, List, [], ◌∷◌, length, Option, Some, None, Result, Ok, Err}
use Rattle.isle_reading.specs.declared.cursor.Fail.{Fail}
use Rattle.isle_reading.specs.declared.cursor.Fail.TheVariants as code
use Rattle.isle_reading.specs.declared.cursor.Tokens.{Tokens}
use Rattle.isle_lexer.specs.Lexeme.{Lexeme, Open, Close, At, Less, Greater, Word}
use Rattle.isle_lexer.specs.Ahead.{ahead}
use Rattle.isle_reading.specs.Reader.{Reading, Got, Stuck, Deep, Reader, run}

-- the tokens that are still to be read
abbrev pub left : Tokens → List Lexeme
left tokens = ahead tokens.text.now tokens.next

-- the place of an opening parenthesis that is next
abbrev pub opens : List Lexeme → Option ℕ
opens [] = None
opens (Open at ∷ ts) = Some at
opens (Close at ∷ ts) = None
opens (At at ∷ ts) = None
opens (Less at ∷ ts) = None
opens (Greater at ∷ ts) = None
opens (Word at w ∷ ts) = None

-- the place of a closing parenthesis that is next
abbrev pub closes : List Lexeme → Option ℕ
closes [] = None
closes (Open at ∷ ts) = None
closes (Close at ∷ ts) = Some at
closes (At at ∷ ts) = None
closes (Less at ∷ ts) = None
closes (Greater at ∷ ts) = None
closes (Word at w ∷ ts) = None

-- the place of an `@` that is next
abbrev pub signs : List Lexeme → Option ℕ
signs [] = None
signs (Open at ∷ ts) = None
signs (Close at ∷ ts) = None
signs (At at ∷ ts) = Some at
signs (Less at ∷ ts) = None
signs (Greater at ∷ ts) = None
signs (Word at w ∷ ts) = None

-- how many tokens are left where reading stops short
abbrev pub stops : {A : Type 0} → Reading A → Option ℕ
stops (Got a ts) = None
stops (Stuck ts) = Some (length ts)
stops (Deep ts) = Some (length ts)

-- reading stops where the failure says; want of memory says nothing of it
abbrev pub Refuses : {A : Type 0} → Fail → Reading A → Type 0
Refuses (code.At tokens) o = stops o ≡ Some tokens
Refuses code.Memory o = Unit {0}

-- a result says what came of reading, seen so, and which tokens are left
abbrev pub Comes : {T A : Type 0} → (T → A) → Result T Fail → Reading A → List Lexeme → Type 0
Comes view (Ok value) o rest = o ≡ Got (view value) rest
Comes view (Err fail) o rest = Refuses fail o

-- a result says what comes of a reader at these tokens
abbrev pub Reads : {T A : Type 0} → (T → A) → Result T Fail → Reader A → List Lexeme → List Lexeme → Type 0
Reads view result reader ts rest = Comes view result (run reader ts) rest
