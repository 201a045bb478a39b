-- What contracts say of code that reads something and keeps nothing of it.
use Rattle.std.specs.Prelude.{◌≡◌, List, Result, Ok, Err}
use Rattle.isle_lexer.specs.Lexeme.{Lexeme}
use Rattle.isle_reading.specs.declared.cursor.Fail.{Fail}
use Rattle.isle_reading.specs.Reader.{Reading, Got, Reader, run}
use Rattle.isle_reading.specs.Views.{Refuses}

-- reading got something, and these tokens are left
abbrev pub IsGot : {A : Type 0} → Reading A → List Lexeme → Type 0
IsGot {A = A} o rest = (a : A) × (o ≡ Got a rest)

-- a result says what comes of reading, and which tokens are left, but not what was got
abbrev pub Passes : {A : Type 0} → Result (Unit {0}) Fail → Reading A → List Lexeme → Type 0
Passes (Ok done) o rest = IsGot o rest
Passes (Err fail) o rest = Refuses fail o

-- a result says that what a reader reads at these tokens was passed over
abbrev pub Skips : {A : Type 0} → Result (Unit {0}) Fail → Reader A → (old new : List Lexeme) → Type 0
Skips result r old new = Passes result (run r old) new
