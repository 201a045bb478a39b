-- What comes of reading an expression, by what comes next.
use Rattle.std.proofs.Common.{◌≡◌, ℕ, zero, suc, ◌-◌, ◌<◌, List, [], ◌∷◌, length, refl, ap, ◌∙◌, arith, Some, None}
use Rattle.isle_lexer.specs.Lexeme.{Lexeme, Open, Close, At, Less, Greater, Word}
use Rattle.isle_reading.specs.Reader.{Stuck, Reader, Ret, Peek, Halt, after, run, bind}
use Rattle.isle_reading.specs.Combinators.{is_open, refuse, read_open, read_close, many}
use Rattle.isle_reading.specs.Names.{read_name}
use Rattle.isle_reading.specs.Views.{opens, stops}
use Rattle.isle_reading.proofs.Running.{run-bind}
use Rattle.isle_reading.proofs.Steps.{passed, bind_refuses, open_peek, other_peek, barred_stops, word_none}
use Rattle.isle_reading.proofs.ListSteps.{in_front-nil, list-full}
use Rattle.isle_grammar.specs.Reading.{read_leaf, read_expr, read_form_list, read_bindings, read_binding}
use Rattle.isle_ast.specs.Views.{SeenBinding}

leaf_none : run read_leaf [] ≡ Stuck []
unfolding read_leaf
leaf_none = word_none _

-- if no parenthesis opens, it is one word
pub expr_leaf : (n d : ℕ) (ts : List Lexeme) → None ≡ opens ts → run (read_expr n d) ts ≡ run read_leaf ts
unfolding read_expr
expr_leaf n zero ts e = other_peek _ read_leaf ts leaf_none e
expr_leaf n (suc d) ts e = other_peek _ read_leaf ts leaf_none e

-- no parenthesis may open
pub expr_deep : (n d at : ℕ) (ts : List Lexeme) → Some at ≡ opens ts → d ≡ 0 → stops (run (read_expr n d) ts) ≡ Some (length ts)
unfolding read_expr
expr_deep n zero at ts e z = barred_stops read_leaf at ts e
expr_deep n (suc d) at ts e z = absurd (omega (arith, z))

-- where a parenthesis opens, it is a list
pub expr_list : (n d at : ℕ) (ts : List Lexeme) → 0 < d → Some at ≡ opens ts → run (read_expr n d) ts ≡ run (read_form_list n (d - 1)) ts
unfolding read_expr read_form_list
expr_list n zero at ts l e = absurd (omega (arith, l))
expr_list n (suc d) at ts l e = let k : d ≡ suc d - 1 = omega arith in open_peek _ read_leaf at ts e ∙ ap (λ k. run (read_form_list n k) ts) k

-- at the end of the text
pub expr_none : (n d : ℕ) → run (read_expr n d) [] ≡ Stuck []
expr_none n d = expr_leaf n d [] refl ∙ leaf_none

walled_stops : (A : Type 0) (ts : List Lexeme) → stops (run {A = A} (Peek is_open Halt refuse) ts) ≡ Some (length ts)
unfolding run
walled_stops A [] = refl
walled_stops A (Open n ∷ ts) = refl
walled_stops A (Close n ∷ ts) = refl
walled_stops A (At n ∷ ts) = refl
walled_stops A (Less n ∷ ts) = refl
walled_stops A (Greater n ∷ ts) = refl
walled_stops A (Word n w ∷ ts) = refl

-- no parenthesis may open round the variables of a `let`
pub bindings_deep : (n d : ℕ) (ts : List Lexeme) → d ≡ 0 → stops (run (read_bindings n d) ts) ≡ Some (length ts)
unfolding read_expr
bindings_deep n zero ts z = walled_stops _ ts
bindings_deep n (suc d) ts z = absurd (omega (arith, z))

abbrev pub bindings_of : ℕ → ℕ → Reader (List SeenBinding)
bindings_of n d = bind read_open (λ o. many n (read_binding n d))

pub bindings_more : (n d : ℕ) (ts : List Lexeme) → 0 < d → run (read_bindings n d) ts ≡ run (bindings_of n (d - 1)) ts
unfolding read_expr
bindings_more n zero ts l = absurd (omega (arith, l))
bindings_more n (suc d) ts l = let k : d ≡ suc d - 1 = omega arith in ap (λ k. run (bindings_of n k) ts) k

pub binding_deep : (n d : ℕ) (ts : List Lexeme) → d ≡ 0 → stops (run (read_binding n d) ts) ≡ Some (length ts)
unfolding read_expr
binding_deep n zero ts z = walled_stops _ ts
binding_deep n (suc d) ts z = absurd (omega (arith, z))

abbrev pub binding_of : ℕ → ℕ → Reader SeenBinding
binding_of n d = bind read_open (λ o. bind read_name (λ x. bind read_name (λ t. bind (read_expr n d) (λ e. bind read_close (λ c. Ret (x, t, e))))))

pub binding_more : (n d : ℕ) (ts : List Lexeme) → 0 < d → run (read_binding n d) ts ≡ run (binding_of n (d - 1)) ts
unfolding read_expr
binding_more n zero ts l = absurd (omega (arith, l))
binding_more n (suc d) ts l = let k : d ≡ suc d - 1 = omega arith in ap (λ k. run (binding_of n k) ts) k

pub binding_none : (n d : ℕ) → run (read_binding n d) [] ≡ Stuck []
unfolding read_expr read_open run bind
binding_none n zero = refl
binding_none n (suc d) = refl

pub ruleset expr_steps = (passed, expr_leaf, expr_deep, expr_list)

pub ruleset lists = (in_front-nil, list-full, passed, expr_none)

pub ruleset binding_steps = (passed, bindings_deep, binding_deep)

pub ruleset binding_lists = (in_front-nil, list-full, passed, binding_none)
