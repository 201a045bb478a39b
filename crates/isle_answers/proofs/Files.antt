-- A whole answers file is read exactly, and where it goes wrong is told exactly.
use Rattle.std.proofs.Common.{◌≡◌, ℕ, ◌+◌, ◌-◌, ◌≤◌, List, [], length, Bool, true, false, refl, sym, subst, arith, Some}
use Rattle.isle_lexer.specs.Lexeme.{Lexeme}
use Rattle.isle_reading.specs.Nesting.{most_open}
use Rattle.isle_reading.specs.Places.{IsFault}
use Rattle.isle_reading.specs.Reader.{Got, run}
use Rattle.isle_reading.specs.Relations.{Ended, AllFrom, no_item, an_item}
use Rattle.isle_reading.specs.Views.{stops}
use Rattle.isle_reading.proofs.Faults.{got_spelt, spelt_once, stop_fault, fault_map}
use Rattle.isle_reading.proofs.Law.{Law, law_map}
use Rattle.isle_reading.proofs.ListLaws.{law_all_from}
use Rattle.isle_reading.proofs.States.{Opened, opened_start}
use Rattle.isle_answers.specs.Form.{Form}
use Rattle.isle_answers.specs.Places.{AreForms}
use Rattle.isle_answers.specs.Reading.{held_after, read_form, read_forms}
use Rattle.isle_answers.specs.Spelling.{FormsS, no_form, a_form, held_form, SpellsTokens}
use Rattle.isle_answers.proofs.FormLaws.{OneS, one_forms, form_one, held_one, one_some, law_form}

-- forms up to the end, and nothing after them
abbrev WholeS : List Form → List Lexeme → List Lexeme → Type 0
WholeS fs ts rest = FormsS true fs ts × (rest ≡ [])

all_forms : (held : Bool) (fs : List Form) (ts rest : List Lexeme) → AllFrom OneS held_after held fs ts rest → FormsS held fs ts
all_forms _ _ _ _ (no_item held) = no_form held
all_forms _ _ _ _ (an_item held f others ts rest x m) = one_forms held f others ts rest x (all_forms (held_after held f) others rest [] m)

forms_all : (held : Bool) (fs : List Form) (ts : List Lexeme) → FormsS held fs ts → AllFrom OneS held_after held fs ts []
forms_all _ _ _ (no_form held) = no_item held
forms_all _ _ _ (a_form held f others ts rest s k) =
    let x = form_one held f ts rest s in
    an_item held f others ts rest x.0 (subst (λ z. AllFrom OneS held_after z others rest []) (sym x.1) (forms_all held others rest k))
forms_all _ _ _ (held_form at h n c count w digits others rest e ec k) = an_item true _ others _ rest (held_one at h n c count w digits rest e ec) (forms_all false others rest k)

most_is : 1 + (most_open - 1) ≡ most_open
unfolding most_open
most_is = refl

two_inside : 2 ≤ most_open - 1
unfolding most_open
two_inside = omega arith

law_forms : (n : ℕ) → Law (Opened 0) (λ fs. Opened 0) Ended n WholeS (read_forms n)
unfolding read_forms
law_forms n = law_map (λ fs ts rest s. (all_forms true fs ts rest s, ended true fs ts rest s)) (λ fs ts rest s. subst (AllFrom OneS held_after true fs ts) (sym s.1) (forms_all true fs ts s.0))
    (law_all_from (Opened 0) n OneS (read_form n (most_open - 1)) held_after (law_form n (most_open - 1) most_is two_inside) (λ s f ts rest x. tt) tt one_some n (omega arith) true)
  where
    ended : (held : Bool) (fs : List Form) (ts rest : List Lexeme) → AllFrom OneS held_after held fs ts rest → rest ≡ []
    ended _ _ _ _ (no_item held) = refl
    ended _ _ _ _ (an_item held f others ts rest x m) = refl

-- what is got is spelt
pub forms_got : (n : ℕ) (ts rest : List Lexeme) (fs : List Form) → run (read_forms n) ts ≡ Got fs rest → SpellsTokens ts fs
forms_got n ts rest fs e = let x = got_spelt WholeS (read_forms n) (law_forms n) opened_start (λ fs ts rest s. s.1) ts rest fs e in record { shallow = x.1; spelt = x.0.0 }

-- where reading stops is the place of a fault
pub forms_stop : (n left : ℕ) (ts : List Lexeme) → length ts ≤ n → stops (run (read_forms n) ts) ≡ Some left → IsFault AreForms ts left
forms_stop n left ts l e = fault_map _ AreForms ts left (λ us s. (s.0, s.1.0)) (λ us s. (s.0, (s.1, refl))) (stop_fault WholeS (read_forms n) (law_forms n) opened_start ts left l e)

-- tokens spell at most one list of forms
pub forms_once : (ts : List Lexeme) (fs gs : List Form) → SpellsTokens ts fs → SpellsTokens ts gs → fs ≡ gs
forms_once ts fs gs s t = spelt_once WholeS (read_forms (length ts)) (law_forms (length ts)) opened_start ts fs gs (omega arith) s.shallow (s.spelt, refl) (t.spelt, refl)
