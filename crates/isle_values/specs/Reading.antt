-- Readers of values.
use Rattle.std.specs.Prelude.{ℕ, zero, suc, ◌-◌, ◌&&◌, length, List, true, false, if◌then◌else◌, Option, Some, None, is_none, option_map, bytes_eq, codes}
use Rattle.std.specs.Str.{is_utf8}
use Rattle.isle_lexer.specs.Integer.{signed_of}
use Rattle.isle_lexer.specs.Lexeme.{Lexeme, lexemes}
use Rattle.isle_lexer.specs.Token.{unclosed}
use Rattle.isle_reading.specs.Combinators.{is_open, read_open, read_word, many, at_end}
use Rattle.isle_reading.specs.Names.{read_name}
use Rattle.isle_reading.specs.Nesting.{most_open}
use Rattle.isle_reading.specs.Reader.{Reading, Got, Stuck, Deep, Reader, Ret, Peek, Halt, run, bind}
use Rattle.isle_values.specs.Views.{in_order}
use Rattle.isle_values.specs.Written.{Written, Writtens, Truth, Number, Made}

-- the value that a word is
abbrev pub word_value : List ℕ → Option Written
word_value w =
    if bytes_eq w (codes "true") then Some (Truth true)
    else (if bytes_eq w (codes "false") then Some (Truth false)
    else option_map (λ n. Number n) (signed_of w))

-- a value of one word
unfoldable pub read_simple : Reader Written
read_simple = read_word word_value

-- ( N V* ), of at most n tokens, each part of which is read so
unfoldable pub read_made : ℕ → Reader Written → Reader Written
read_made n r = bind read_open (λ o. bind read_name (λ w. bind (many n r) (λ parts. Ret (Made w (in_order parts)))))

-- a value whose parentheses nest at most d deep, its lists of at most n tokens
unfoldable pub read_value : ℕ → ℕ → Reader Written
read_value n zero = Peek is_open Halt read_simple
read_value n (suc d) = Peek is_open (read_made n (read_value n d)) read_simple

-- ( V* )
unfoldable pub read_list : ℕ → ℕ → Reader (List Written)
read_list n d = bind read_open (λ o. many n (read_value n d))

-- ( V* ) and nothing after it
unfoldable pub read_whole : ℕ → Reader (List Written)
read_whole n = bind (read_list n (most_open - 1)) at_end

-- what comes of tokens as a list of values
abbrev pub values_of : List Lexeme → Reading (List Written)
values_of ts = run (read_whole (length ts)) ts

-- the values that are got
abbrev pub got : Reading (List Written) → Option Writtens
got (Got vs rest) = Some (in_order vs)
got (Stuck rest) = None
got (Deep rest) = None

-- the values that a text spells
unfoldable pub spelt : List ℕ → Option Writtens
spelt text = if is_utf8 text && is_none (unclosed text) then got (values_of (lexemes text)) else None
