-- What comes of reading cases, case by case.
use Rattle.std.proofs.Common.{◌≡◌, ℕ, zero, suc, ◌+◌, ◌-◌, ◌<◌, ◌≤◌, List, [], ◌∷◌, length, refl, ap, sym, ◌∙◌, arith, Some}
use Rattle.isle_lexer.specs.Lexeme.{Lexeme}
use Rattle.isle_reading.specs.Combinators.{read_open}
use Rattle.isle_reading.specs.Reader.{Reading, run, bind}
use Rattle.isle_reading.specs.Views.{stops}
use Rattle.isle_reading.proofs.Steps.{passed}
use Rattle.isle_answers.specs.Form.{CaseForm}
use Rattle.isle_answers.specs.Reading.{Cases, read_part_head, read_part, read_cases}

-- one case more, or the rest
pub cases_is : (n d m i : ℕ) (done : List CaseForm) (ts : List Lexeme) (whole : Reading Cases) → i < m → run (read_cases n d (m - i) done) ts ≡ whole
    → run (bind read_open (λ o. bind read_part_head (λ h. read_part n d (read_cases n d (m - (i + 1))) done h))) ts ≡ whole
unfolding read_cases
cases_is n d m i done ts whole l h = let k : suc (m - (i + 1)) ≡ m - i = omega arith in ap (λ j. run (read_cases n d j done) ts) k ∙ h

none_left : (n d : ℕ) (done : List CaseForm) (ts : List Lexeme) → stops (run (read_cases n d zero done) ts) ≡ Some (length ts)
unfolding read_cases run
none_left n d done [] = refl
none_left n d done (t ∷ ts) = refl

-- too many of them
pub cases_full : (n d m i : ℕ) (done : List CaseForm) (ts : List Lexeme) (whole : Reading Cases) → m ≤ i → run (read_cases n d (m - i) done) ts ≡ whole → stops whole ≡ Some (length ts)
cases_full n d m i done ts whole l h = let k : m - i ≡ zero = omega arith in ap stops (sym h ∙ ap (λ j. run (read_cases n d j done) ts) k) ∙ none_left n d done ts

pub ruleset cases_steps = (passed, cases_full)
