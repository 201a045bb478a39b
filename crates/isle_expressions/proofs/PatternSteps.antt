-- What comes of reading a pattern, by what comes next.
use Rattle.std.proofs.Common.{◌≡◌, ℕ, zero, suc, ◌-◌, ◌<◌, List, [], ◌∷◌, length, drop, refl, ap, sym, ◌∙◌, subst, arith, Some, None}
use Rattle.isle_lexer.specs.Lexeme.{Lexeme}
use Rattle.isle_lexer.specs.Word.{kind}
use Rattle.isle_reading.specs.declared.cursor.Fail.{Fail}
use Rattle.isle_reading.specs.Reader.{Got, Stuck, Reader, Ret, Halt, after, run, bind}
use Rattle.isle_reading.specs.Combinators.{read_at}
use Rattle.isle_reading.specs.Views.{opens, signs, stops, Refuses}
use Rattle.isle_reading.proofs.Running.{run-bind}
use Rattle.isle_reading.proofs.Steps.{passed, bind_refuses, then_got, then_refuses, done_got, open_peek, other_peek, barred_stops, word_none, at_peek, no_at_peek, at_got, peek_stops}
use Rattle.isle_reading.proofs.ListSteps.{in_front-nil, list-full}
use Rattle.isle_grammar.specs.Reading.{read_first, suffix, read_pattern, read_binds, read_symbol, read_worded, read_listed, symbol_of}
use Rattle.isle_ast.specs.Tree.{Pattern}
use Rattle.isle_ast.specs.Tree as tree

worded_none : (n d : ℕ) → run (read_worded n d) [] ≡ Stuck []
unfolding read_worded read_first
worded_none n d = run-bind read_first (suffix (read_binds n d)) [] ∙ ap (λ o. after o (λ f us. run (suffix (read_binds n d) f) us)) (word_none _)

-- if no parenthesis opens, it begins with a word
pub pattern_word : (n d : ℕ) (ts : List Lexeme) → None ≡ opens ts → run (read_pattern n d) ts ≡ run (read_worded n d) ts
unfolding read_pattern read_worded read_binds read_listed
pattern_word n zero ts e = other_peek Halt (read_worded n zero) ts (worded_none n zero) e
pattern_word n (suc d) ts e = other_peek (read_listed n (read_pattern n d)) (read_worded n (suc d)) ts (worded_none n (suc d)) e

-- no parenthesis may open
pub pattern_deep : (n d at : ℕ) (ts : List Lexeme) → Some at ≡ opens ts → d ≡ 0 → stops (run (read_pattern n d) ts) ≡ Some (length ts)
unfolding read_pattern
pattern_deep n zero at ts e z = barred_stops _ at ts e
pattern_deep n (suc d) at ts e z = absurd (omega (arith, z))

-- where a parenthesis opens, it is a list
pub pattern_list : (n d at : ℕ) (ts : List Lexeme) → 0 < d → Some at ≡ opens ts → run (read_pattern n d) ts ≡ run (read_listed n (read_pattern n (d - 1))) ts
unfolding read_pattern read_listed
pattern_list n zero at ts l e = absurd (omega (arith, l))
pattern_list n (suc d) at ts l e = let k : d ≡ suc d - 1 = omega arith in open_peek _ _ at ts e ∙ ap (λ k. run (read_listed n (read_pattern n k)) ts) k

-- at the end of the text
pub pattern_none : (n d : ℕ) → run (read_pattern n d) [] ≡ Stuck []
pattern_none n d = pattern_word n d [] refl ∙ worded_none n d

-- if no `@` stands after a symbol, it is a pattern by itself
pub symbol_alone : (n d : ℕ) (x : List ℕ) (ts : List Lexeme) → 0 < length ts → None ≡ signs ts → run (read_symbol n d x) ts ≡ Got (symbol_of x (kind x)) ts
unfolding read_symbol
symbol_alone n d x ts l e = no_at_peek (read_binds n d x) (Ret (symbol_of x (kind x))) ts l e ∙ done_got (symbol_of x (kind x)) ts

pub symbol_stops : (n d : ℕ) (x : List ℕ) (ts : List Lexeme) → length ts ≡ 0 → stops (run (read_symbol n d x) ts) ≡ Some (length ts)
unfolding read_symbol
symbol_stops n d x ts e = peek_stops _ (read_binds n d x) (Ret (symbol_of x (kind x))) ts e

-- no `@` may stand there
pub symbol_deep : (n d at : ℕ) (x : List ℕ) (ts : List Lexeme) → Some at ≡ signs ts → d ≡ 0 → stops (run (read_symbol n d x) ts) ≡ Some (length ts)
unfolding read_symbol read_binds run
symbol_deep n zero at x ts e z = ap stops (at_peek Halt (Ret (symbol_of x (kind x))) at ts e)
symbol_deep n (suc d) at x ts e z = absurd (omega (arith, z))

binds : (n d at : ℕ) (x : List ℕ) (ts us : List Lexeme) → 0 < d → Some at ≡ signs ts → us ≡ drop 1 ts → run (read_symbol n d x) ts ≡ run (bind (read_pattern n (d - 1)) (λ p. Ret (tree.Bind x p))) us
unfolding read_symbol read_binds
binds n zero at x ts us l e f = absurd (omega (arith, l))
binds n (suc d) at x ts us l e f =
    let k : d ≡ suc d - 1 = omega arith in
    at_peek (bind read_at (λ a. bind (read_pattern n d) (λ p. Ret (tree.Bind x p)))) (Ret (symbol_of x (kind x))) at ts e
    ∙ then_got read_at (λ a. bind (read_pattern n d) (λ p. Ret (tree.Bind x p))) ts us at _ (at_got ts us at e f) (ap (λ k. run (bind (read_pattern n k) (λ p. Ret (tree.Bind x p))) us) k)

-- an `@` and a pattern
pub symbol_bind : (n d at : ℕ) (x : List ℕ) (ts us rest : List Lexeme) (p : Pattern) → 0 < d → Some at ≡ signs ts → us ≡ drop 1 ts → run (read_pattern n (d - 1)) us ≡ Got p rest → run (read_symbol n d x) ts ≡ Got (tree.Bind x p) rest
symbol_bind n d at x ts us rest p l e f h = binds n d at x ts us l e f ∙ then_got (read_pattern n (d - 1)) (λ p. Ret (tree.Bind x p)) us rest p _ h (done_got (tree.Bind x p) rest)

pub symbol_refuses : (n d at : ℕ) (x : List ℕ) (ts us : List Lexeme) (fail : Fail) → 0 < d → Some at ≡ signs ts → us ≡ drop 1 ts → Refuses fail (run (read_pattern n (d - 1)) us) → Refuses fail (run (read_symbol n d x) ts)
symbol_refuses n d at x ts us fail l e f h = subst (Refuses fail) (sym (binds n d at x ts us l e f)) (bind_refuses fail (read_pattern n (d - 1)) (λ p. Ret (tree.Bind x p)) us h)

pub ruleset pattern_steps = (passed, pattern_word, pattern_deep, pattern_list)

pub ruleset symbol_steps = (passed, symbol_alone, symbol_stops, symbol_deep)

pub ruleset lists = (in_front-nil, list-full, passed, pattern_none)
