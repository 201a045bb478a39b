-- What comes of reading an external extractor after two names.
use Rattle.std.proofs.Common.{◌≡◌, ℕ, List, length, Bool, true, false, refl, ap, sym, ◌∙◌, ◌<◌, Some, None}
use Rattle.isle_lexer.specs.Lexeme.{Lexeme}
use Rattle.isle_reading.specs.Reader.{run}
use Rattle.isle_reading.specs.Views.{closes, stops}
use Rattle.isle_reading.proofs.Steps.{close_peek, no_close_peek, peek_stops}
use Rattle.isle_grammar.specs.Reading.{read_fallible, read_infallible, extractor_behind}

-- the first is a term's
pub two_plain : (file at : ℕ) (b : Bool) (term func : List ℕ) (ts : List Lexeme) → b ≡ false → run (extractor_behind file at b term func) ts ≡ run (read_fallible file at term func) ts
two_plain file at true term func ts e = cc
two_plain file at false term func ts e = refl

-- the first is the word `infallible`, and a parenthesis closes
pub two_closed : (file at c : ℕ) (b : Bool) (term func : List ℕ) (ts : List Lexeme) → b ≡ true → Some c ≡ closes ts → run (extractor_behind file at b term func) ts ≡ run (read_fallible file at term func) ts
two_closed file at c true term func ts e f = close_peek _ _ c ts f
two_closed file at c false term func ts e f = cc

-- or a third name follows
pub two_more : (file at : ℕ) (b : Bool) (term func : List ℕ) (ts : List Lexeme) → b ≡ true → 0 < length ts → None ≡ closes ts → run (extractor_behind file at b term func) ts ≡ run (read_infallible file at func) ts
two_more file at true term func ts e l f = no_close_peek _ _ ts l f
two_more file at false term func ts e l f = cc

pub two_stop : (file at : ℕ) (b : Bool) (term func : List ℕ) (ts : List Lexeme) → b ≡ true → length ts ≡ 0 → stops (run (extractor_behind file at b term func) ts) ≡ Some (length ts)
two_stop file at true term func ts e l = peek_stops _ _ _ ts l
two_stop file at false term func ts e l = cc

pub ruleset two_names = (two_plain, two_closed, two_more, two_stop)
