-- What contracts see of the code's kinds of words.
use Rattle.std.specs.Prelude.{ℕ, List, drop}
use Rattle.isle_lexer.specs.declared.word.Kind.{Kind}
use Rattle.isle_lexer.specs.declared.word.Kind.TheVariants as code
use Rattle.isle_lexer.specs.Word.{WordKind, Number, Malformed, Truth, Dollar, Underscore, Plain}

-- the kind of this word; the code leaves a $'s name in the word
abbrev pub kind_seen : List ℕ → Kind → WordKind
kind_seen word (code.Number n) = Number n
kind_seen word code.Malformed = Malformed
kind_seen word (code.Truth b) = Truth b
kind_seen word code.Dollar = Dollar (drop 1 word)
kind_seen word code.Underscore = Underscore
kind_seen word code.Plain = Plain
