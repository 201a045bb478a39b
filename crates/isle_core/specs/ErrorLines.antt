-- The lines in which errors are reported.
use Rattle.std.specs.Prelude.{ℕ, ◌+◌, ◌==◌, List, [], ◌∷◌, ◌++◌, take, map, nat_lt, codes, Option, Some, None, IsSomeAnd, slice_get, if◌then◌else◌}
use Rattle.std.specs.Fmt.{decimal}
use Rattle.isle_core.specs.declared.errors.Error.{Error}
use Rattle.isle_core.specs.declared.errors.Error.TheVariants as error
use Rattle.isle_core.specs.declared.files.Files.{Files}
use Rattle.isle_core.specs.declared.position.Pos.{Pos}
use Rattle.isle_core.specs.declared.position.Span.{Span}
use Rattle.isle_core.specs.Printed.{line_of}
use Rattle.isle_core.specs.Places.{LiesIn, name_in, text_in}

-- how many bytes stand after the last line feed, n of them before these
abbrev pub since_feed : ℕ → List ℕ → ℕ
since_feed n [] = n
since_feed n (b ∷ bs) = if b == 10 then since_feed 0 bs else since_feed (n + 1) bs

-- the number of the column of a place in a text, in bytes from 1
abbrev pub column_of : List ℕ → ℕ → ℕ
column_of text offset = 1 + since_feed 0 (take offset text)

-- what kind of error it is
abbrev pub kind_of : Error → List ℕ
kind_of (error.ParseError msg span) = codes "parse error"
kind_of (error.TypeError row msg span) = codes "type error"
kind_of (error.UnreachableError msg span) = codes "unreachable rule"
kind_of (error.OverlapError msg rules) = codes "overlap error"
kind_of (error.ShadowedError shadowed mask) = codes "shadowed rule"
kind_of (error.RecursionError msg span) = codes "recursion error"

-- the words that report it; those of a shadowed rule are fixed
abbrev pub words_of : Error → List ℕ
words_of (error.ParseError msg span) = msg
words_of (error.TypeError row msg span) = msg
words_of (error.UnreachableError msg span) = msg
words_of (error.OverlapError msg rules) = msg
words_of (error.ShadowedError shadowed mask) = codes "a rule of higher priority matches whatever this rule matches"
words_of (error.RecursionError msg span) = msg

-- the span whose start is told: of an overlap the later rule's, which is the second, and of a shadowed rule its own
abbrev pub span_of : Error → Option Span
span_of (error.ParseError msg span) = Some span
span_of (error.TypeError row msg span) = Some span
span_of (error.UnreachableError msg span) = Some span
span_of (error.OverlapError msg rules) = slice_get rules 1
span_of (error.ShadowedError shadowed mask) = Some shadowed
span_of (error.RecursionError msg span) = Some span

-- the error has such a span, which begins in the files
abbrev pub IsPlaced : Files → Error → Type 0
IsPlaced files e = IsSomeAnd (span_of e) (λ (s : Span). LiesIn files s.from)

-- a place in front of what is said of it
abbrev pub told_at : List ℕ → ℕ → ℕ → List ℕ → List ℕ
told_at name line column said = name ++ (codes ":" ++ (decimal line ++ (codes ":" ++ (decimal column ++ (codes ": " ++ said)))))

-- what is said of a place, as `NAME:LINE:COLUMN: ..`
abbrev pub told_of : Files → Pos → List ℕ → List ℕ
told_of files pos said = told_at (name_in files pos.file) (line_of (text_in files pos.file) pos.offset) (column_of (text_in files pos.file) pos.offset) said

-- what reports an error whose span is this
abbrev pub text_at : Files → Error → Option Span → List ℕ
text_at files e (Some s) = told_of files s.from (kind_of e ++ (codes ": " ++ words_of e))
text_at files e None = kind_of e ++ (codes ": " ++ words_of e)

-- what reports an error, without a line's end
abbrev pub error_text : Files → Error → List ℕ
error_text files e = text_at files e (span_of e)

-- the line of an error
abbrev pub error_line : Files → Error → List ℕ
error_line files e = error_text files e ++ codes "\n"

-- the lines of errors, in order
abbrev pub error_lines : Files → List Error → List ℕ
error_lines files [] = []
error_lines files (e ∷ es) = error_line files e ++ error_lines files es

-- a byte as a line shows it: one that may steer a terminal as `?`
abbrev pub masked : ℕ → ℕ
masked b = if nat_lt b 32 then 63 else b

-- the line of an error as it is shown
abbrev pub shown_line : Files → Error → List ℕ
shown_line files e = map masked (error_text files e) ++ codes "\n"

-- the lines of errors as they are shown, in order
abbrev pub shown_lines : Files → List Error → List ℕ
shown_lines files [] = []
shown_lines files (e ∷ es) = shown_line files e ++ shown_lines files es
