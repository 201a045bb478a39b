-- What comes of reading a value, by what comes next.
use Rattle.std.proofs.Common.{◌≡◌, ◌≢◌, ℕ, zero, suc, ◌-◌, ◌<◌, List, [], ◌∷◌, length, refl, ap, ◌∙◌, arith, Some, None}
use Rattle.isle_lexer.specs.Lexeme.{Lexeme}
use Rattle.isle_reading.specs.Reader.{Got, Stuck, Reader, Ret, Halt, run, bind}
use Rattle.isle_reading.specs.Combinators.{read_open, many, at_end}
use Rattle.isle_reading.specs.Names.{read_name}
use Rattle.isle_reading.specs.Views.{opens, stops}
use Rattle.isle_reading.proofs.Steps.{passed, bind_refuses, open_peek, other_peek, barred_stops, word_none}
use Rattle.isle_reading.proofs.ListSteps.{in_front-nil, list-full}
use Rattle.isle_values.specs.Reading.{read_simple, read_made, read_value}
use Rattle.isle_values.specs.Views.{in_order}
use Rattle.isle_values.specs.Written.{Written, Made}

pub simple_none : run read_simple [] ≡ Stuck []
unfolding read_simple
simple_none = word_none _

-- if no parenthesis opens, it is one word
pub value_simple : (n d : ℕ) (ts : List Lexeme) → None ≡ opens ts → run (read_value n d) ts ≡ run read_simple ts
unfolding read_value
value_simple n zero ts e = other_peek Halt read_simple ts simple_none e
value_simple n (suc d) ts e = other_peek (read_made n (read_value n d)) read_simple ts simple_none e

-- no parenthesis may open
pub value_deep : (n d at : ℕ) (ts : List Lexeme) → Some at ≡ opens ts → d ≡ 0 → stops (run (read_value n d) ts) ≡ Some (length ts)
unfolding read_value
value_deep n zero at ts e z = barred_stops read_simple at ts e
value_deep n (suc d) at ts e z = absurd (omega (arith, z))

-- a made value, part by part
abbrev pub made_of : ℕ → Reader Written → Reader Written
made_of n r = bind read_open (λ o. bind read_name (λ w. bind (many n r) (λ parts. Ret (Made w (in_order parts)))))

-- where a parenthesis opens, it is a made one
pub value_made : (n d at : ℕ) (ts : List Lexeme) → 0 < d → Some at ≡ opens ts → run (read_value n d) ts ≡ run (made_of n (read_value n (d - 1))) ts
unfolding read_value read_made
value_made n zero at ts l e = absurd (omega (arith, l))
value_made n (suc d) at ts l e = let k : d ≡ suc d - 1 = omega arith in open_peek (read_made n (read_value n d)) read_simple at ts e ∙ ap (λ k. run (made_of n (read_value n k)) ts) k

-- at the end of the text
pub value_none : (n d : ℕ) → run (read_value n d) [] ≡ Stuck []
value_none n d = value_simple n d [] refl ∙ simple_none

pub ruleset value_steps = (passed, bind_refuses, value_simple, value_deep, value_made)

pub ruleset lists = (in_front-nil, list-full, passed, value_none)

-- ---- the end of the text

pub end_got : {A : Type 0} (a : A) (ts : List Lexeme) → length ts ≡ 0 → run (at_end a) ts ≡ Got a ts
unfolding run
end_got a [] e = refl
end_got a (t ∷ ts) e = absurd (omega (arith, e))

pub end_stops : {A : Type 0} (a : A) (ts : List Lexeme) → length ts ≢ 0 → stops (run (at_end a) ts) ≡ Some (length ts)
unfolding run
end_stops a [] e = absurd (e refl)
end_stops a (t ∷ ts) e = refl
