-- What comes of reading by what opens next, part by part.
use Rattle.std.proofs.Common.{◌≡◌, ℕ, zero, suc, ◌-◌, ◌<◌, List, [], ◌∷◌, length, refl, ap, ◌∙◌, arith, Some, None, sym, subst}
use Rattle.isle_lexer.specs.Lexeme.{Lexeme, Open, Close, At, Less, Greater, Word}
use Rattle.isle_reading.specs.Combinators.{read_word}
use Rattle.isle_reading.specs.Reader.{Got, Stuck, Halt, run, bind}
use Rattle.isle_reading.specs.Views.{opens, closes, stops, Refuses}
use Rattle.isle_reading.proofs.Steps.{passed, bind_refuses, then_got, done_got, open_peek, other_peek, barred_stops}
use Rattle.isle_values.specs.Reading.{read_simple}
use Rattle.isle_reading.specs.declared.cursor.Fail.{Fail}
use Rattle.isle_answers.specs.Form.{ResultForm, Plain}
use Rattle.isle_answers.specs.Reading.{read_simple_result, read_result_list, read_result, read_simple_answer, read_answer_list, read_answer}

-- ---- a result

result_word_none : run read_simple_result [] ≡ Stuck []
unfolding read_simple_result read_simple run bind read_word
result_word_none = refl

pub result_simple : (n d : ℕ) (ts : List Lexeme) → None ≡ opens ts → run (read_result n d) ts ≡ run read_simple_result ts
unfolding read_result
result_simple n zero ts e = other_peek Halt read_simple_result ts result_word_none e
result_simple n (suc d) ts e = other_peek (read_result_list n d) read_simple_result ts result_word_none e

pub result_deep : (n d at : ℕ) (ts : List Lexeme) → Some at ≡ opens ts → d ≡ 0 → stops (run (read_result n d) ts) ≡ Some (length ts)
unfolding read_result
result_deep n zero at ts e z = barred_stops read_simple_result at ts e
result_deep n (suc d) at ts e z = absurd (omega (arith, z))

pub result_opened : (n d at : ℕ) (ts : List Lexeme) → 0 < d → Some at ≡ opens ts → run (read_result n d) ts ≡ run (read_result_list n (d - 1)) ts
unfolding read_result
result_opened n zero at ts l e = absurd (omega (arith, l))
result_opened n (suc d) at ts l e = let k : d ≡ suc d - 1 = omega arith in open_peek (read_result_list n d) read_simple_result at ts e ∙ ap (λ k. run (read_result_list n k) ts) k

-- at the end of the text
pub result_none : (n d : ℕ) → run (read_result n d) [] ≡ Stuck []
result_none n d = result_simple n d [] refl ∙ result_word_none

pub ruleset result_choice = (passed, result_simple, result_deep, result_opened)

-- ---- an answer

answer_word_none : run read_simple_answer [] ≡ Stuck []
unfolding read_simple_answer read_simple_result read_simple run bind read_word
answer_word_none = refl

answer_simple : (n d : ℕ) (ts : List Lexeme) → None ≡ opens ts → run (read_answer n d) ts ≡ run read_simple_answer ts
unfolding read_answer
answer_simple n zero ts e = other_peek Halt read_simple_answer ts answer_word_none e
answer_simple n (suc d) ts e = other_peek (read_answer_list n d) read_simple_answer ts answer_word_none e

pub answer_simple_got : (n d : ℕ) (ts us : List Lexeme) (r : ResultForm) → None ≡ opens ts → run read_simple_result ts ≡ Got r us → run (read_answer n d) ts ≡ Got (Plain r) us
unfolding read_simple_answer
answer_simple_got n d ts us r e f = answer_simple n d ts e ∙ then_got _ _ _ _ _ _ f (done_got _ _)

pub answer_simple_refuses : (n d : ℕ) (ts : List Lexeme) (fail : Fail) → None ≡ opens ts → Refuses fail (run read_simple_result ts) → Refuses fail (run (read_answer n d) ts)
unfolding read_simple_answer
answer_simple_refuses n d ts fail e h = subst (Refuses fail) (sym (answer_simple n d ts e)) (bind_refuses _ _ _ _ h)

pub answer_deep : (n d at : ℕ) (ts : List Lexeme) → Some at ≡ opens ts → d ≡ 0 → stops (run (read_answer n d) ts) ≡ Some (length ts)
unfolding read_answer
answer_deep n zero at ts e z = barred_stops read_simple_answer at ts e
answer_deep n (suc d) at ts e z = absurd (omega (arith, z))

pub answer_opened : (n d at : ℕ) (ts : List Lexeme) → 0 < d → Some at ≡ opens ts → run (read_answer n d) ts ≡ run (read_answer_list n (d - 1)) ts
unfolding read_answer
answer_opened n zero at ts l e = absurd (omega (arith, l))
answer_opened n (suc d) at ts l e = let k : d ≡ suc d - 1 = omega arith in open_peek (read_answer_list n d) read_simple_answer at ts e ∙ ap (λ k. run (read_answer_list n k) ts) k

-- at the end of the text
pub answer_none : (n d : ℕ) → run (read_answer n d) [] ≡ Stuck []
answer_none n d = answer_simple n d [] refl ∙ answer_word_none

closed_word : (at : ℕ) (ts : List Lexeme) → run read_simple_answer (Close at ∷ ts) ≡ Stuck (Close at ∷ ts)
unfolding read_simple_answer read_simple_result read_simple run bind read_word
closed_word at ts = refl

-- no answer begins with a closing parenthesis
pub answer_closed : (n d at : ℕ) (ts : List Lexeme) → Some at ≡ closes ts → run (read_answer n d) ts ≡ Stuck ts
answer_closed n d at [] e = cc
answer_closed n d at (Open m ∷ ts) e = cc
answer_closed n d at (Close m ∷ ts) e = answer_simple n d (Close m ∷ ts) refl ∙ closed_word m ts
answer_closed n d at (At m ∷ ts) e = cc
answer_closed n d at (Less m ∷ ts) e = cc
answer_closed n d at (Greater m ∷ ts) e = cc
answer_closed n d at (Word m w ∷ ts) e = cc

pub ruleset answer_choice = (passed, answer_simple_got, answer_simple_refuses, answer_deep, answer_opened)
