-- What comes of reading a form that is a rule's right side, a condition, or may be either.
use Rattle.std.proofs.Common.{◌≡◌, ℕ, ◌≤◌, ◌<◌, List, [], ◌∷◌, length, refl, sym, ap, ◌∙◌, subst, arith, Some}
use Rattle.std.specs.Prelude.{◌-◌, min}
use Rattle.isle_lexer.specs.Lexeme.{Lexeme, Open, Close, At, Less, Greater, Word}
use Rattle.isle_reading.specs.Reader.{Got, run}
use Rattle.isle_reading.specs.Combinators.{OnlyFirst, OnlySecond, BothGot}
use Rattle.isle_reading.specs.Nesting.{Nest, Mark, Round, Other, nest, most_open}
use Rattle.isle_reading.specs.Views.{stops}
use Rattle.isle_reading.proofs.Passes.{Over}
use Rattle.isle_reading.proofs.States.{Inside, Behind}
use Rattle.isle_reading.proofs.BothSteps.{only_first, only_second, neither, given_both}
use Rattle.isle_ast.specs.Tree.{Expr, IfLet}
use Rattle.isle_grammar.specs.Reading.{read_expr, read_iflet, read_form}
use Rattle.isle_grammar.proofs.Conditions.{law_right, law_if, same_end}

abbrev start : Nest
start = record { marks = Round ∷ []; last = Other }

starts : Inside (Round ∷ []) start
starts = record { stands = refl; headed = tt }

two_open : 2 ≤ most_open
unfolding most_open
two_open = omega arith

-- after a form of a rule no token is too deep
never : (u : Nest) (us : List Lexeme) → Behind (Round ∷ []) u → Over u us → ⊥
never u us b (t, behind, e, l) = by t (subst (λ z. most_open < length (nest z t).marks) b l)
  where
    by : (t : Lexeme) → most_open < length (nest (record { marks = Round ∷ []; last = Other }) t).marks → ⊥
    by (Open at) h = omega (arith, two_open, h)
    by (Close at) h = omega (arith, two_open, h)
    by (At at) h = omega (arith, two_open, h)
    by (Less at) h = omega (arith, two_open, h)
    by (Greater at) h = omega (arith, two_open, h)
    by (Word at w) h = omega (arith, two_open, h)

pub form_first : (n k : ℕ) (ts mid : List Lexeme) (e : Expr) → length ts ≤ n → run (read_expr n (most_open - 1)) ts ≡ Got e mid → stops (run (read_iflet n (most_open - 2)) ts) ≡ Some k → run (read_form n) ts ≡ Got (OnlyFirst e) mid
unfolding read_form
form_first n k ts mid e l f g = only_first (read_expr n (most_open - 1)) (read_iflet n (most_open - 2)) (law_right n) (law_if n) start starts never ts l e mid k f g

pub form_second : (n k : ℕ) (ts mid : List Lexeme) (i : IfLet) → length ts ≤ n → stops (run (read_expr n (most_open - 1)) ts) ≡ Some k → run (read_iflet n (most_open - 2)) ts ≡ Got i mid → run (read_form n) ts ≡ Got (OnlySecond i) mid
unfolding read_form
form_second n k ts mid i l f g = only_second (read_expr n (most_open - 1)) (read_iflet n (most_open - 2)) (law_right n) (law_if n) start starts never ts l i mid k f g

pub form_both : (n : ℕ) (ts mid us : List Lexeme) (e : Expr) (i : IfLet) → length ts ≤ n → run (read_expr n (most_open - 1)) ts ≡ Got e mid → run (read_iflet n (most_open - 2)) ts ≡ Got i us → run (read_form n) ts ≡ Got (BothGot e i) mid
unfolding read_form
form_both n ts mid us e i l f g = given_both (read_expr n (most_open - 1)) (read_iflet n (most_open - 2)) (law_right n) (law_if n) start starts never ts l same_end e i mid us f g

pub form_neither : (n j k : ℕ) (ts : List Lexeme) → length ts ≤ n → stops (run (read_expr n (most_open - 1)) ts) ≡ Some j → stops (run (read_iflet n (most_open - 2)) ts) ≡ Some k → stops (run (read_form n) ts) ≡ Some (min j k)
unfolding read_form
form_neither n j k ts l f g = neither (read_expr n (most_open - 1)) (read_iflet n (most_open - 2)) (law_right n) (law_if n) start starts never ts l j k f g

pub form_second_further : (n j k : ℕ) (ts : List Lexeme) → length ts ≤ n → stops (run (read_expr n (most_open - 1)) ts) ≡ Some j → stops (run (read_iflet n (most_open - 2)) ts) ≡ Some k → k < j → stops (run (read_form n) ts) ≡ Some k
form_second_further n j k ts l f g h = form_neither n j k ts l f g ∙ ap Some (omega (arith, h))

pub form_first_further : (n j k : ℕ) (ts : List Lexeme) → length ts ≤ n → stops (run (read_expr n (most_open - 1)) ts) ≡ Some j → stops (run (read_iflet n (most_open - 2)) ts) ≡ Some k → j ≤ k → stops (run (read_form n) ts) ≡ Some j
form_first_further n j k ts l f g h = form_neither n j k ts l f g ∙ ap Some (omega (arith, h))

pub ruleset forms = (form_first, form_second, form_both, form_second_further, form_first_further)
