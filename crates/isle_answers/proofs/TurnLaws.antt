-- The reader of turns keeps the law.
use Rattle.std.proofs.Common.{◌≡◌, ℕ, zero, suc, ◌+◌, ◌≤◌, List, [], ◌∷◌, ◌++◌, true, false, inl, inr, refl, ap, sym, ◌∙◌, subst, arith, Option, Some, None}
use Rattle.std.specs.Prelude.{codes, reverse}
use Rattle.isle_lexer.specs.Lexeme.{Lexeme, Open, Close, Word}
use Rattle.isle_reading.specs.Combinators.{is_close, read_close}
use Rattle.isle_reading.specs.Nesting.{most_open}
use Rattle.isle_reading.specs.Reader.{Reader, Ret, bind}
use Rattle.isle_reading.specs.Relations.{Begins, Anything, Many, none, more}
use Rattle.isle_reading.proofs.Law.{Law, Heads, Some_token, Nothing, Then, Either, law_map, law_less, law_less_then, law_next}
use Rattle.isle_reading.proofs.TokenLaws.{CloseS, law_ret, law_close, law_peek}
use Rattle.isle_reading.proofs.States.{Opened, opened_close}
use Rattle.isle_values.specs.Written.{Truth}
use Rattle.isle_answers.specs.Form.{One, AnswerForm, Plain}
use Rattle.isle_answers.specs.Spelling.{AnswerS, TurnsS, no_turn}
use Rattle.isle_answers.specs.Reading.{Turned, read_answer, ended, read_ended, read_turns}
use Rattle.isle_answers.proofs.AnswerLaws.{answer_starts, answer_some, law_answer}
use Rattle.isle_answers.proofs.CaseLaws.{true_rest}
use Rattle.isle_answers.proofs.Fuel.{law_out, takes}
use Rattle.isle_answers.proofs.TurnValues.{onto, EndedS, turns_onto, turns_to, turns_from}

-- the parenthesis, if the turns are these
abbrev HereS : Option Turned → Turned → List Lexeme → List Lexeme → Type 0
HereS o x ts rest = (at : ℕ) × (ts ≡ Close at ∷ rest) × (o ≡ Some x)

abbrev ClosedS : Turned → Turned → List Lexeme → List Lexeme → Type 0
ClosedS y = Then CloseS (λ c. Nothing y)

closed_heads : (y x : Turned) (ts rest : List Lexeme) → ClosedS y x ts rest → Anything rest → Heads is_close true ts
closed_heads y x ts rest s c = (Close s.0, s.1, s.2, refl)

ended_to : (T : Turned → List Lexeme → List Lexeme → Type 0) (y x : Turned) (ts rest : List Lexeme) → Either (ClosedS y) T x ts rest → Either (HereS (Some y)) T x ts rest
ended_to T y x ts rest (inl (at, us, e, (p, q))) = inl (at, e ∙ ap (λ z. Close at ∷ z) q, ap Some (sym p))
ended_to T y x ts rest (inr s) = inr s

ended_from : (T : Turned → List Lexeme → List Lexeme → Type 0) (y x : Turned) (ts rest : List Lexeme) → Either (HereS (Some y)) T x ts rest → Either (ClosedS y) T x ts rest
ended_from T y x ts rest (inl (at, e, f)) = inl (at, rest, e, (let z : x ≡ y = cc (f) in z, refl))
ended_from T y x ts rest (inr s) = inr s

none_from : (T : Turned → List Lexeme → List Lexeme → Type 0) (x : Turned) (ts rest : List Lexeme) → Either (HereS None) T x ts rest → T x ts rest
none_from T x ts rest (inl (at, e, f)) = absurd (let z : None ≡ Some x = f in cc)
none_from T x ts rest (inr s) = s

law_ended : {T : Turned → List Lexeme → List Lexeme → Type 0} (m : ℕ) (o : Option Turned) (next : Reader Turned) → 1 ≤ most_open → ((x : Turned) (ts rest : List Lexeme) → T x ts rest → Heads is_close false ts)
    → Law (Opened 1) (λ x. Opened 0) Anything m T next → Law (Opened 1) (λ x. Opened 0) Anything m (Either (HereS o) T) (read_ended o next)
law_ended {T = T} m None next l starts h = law_map (λ x ts rest s. inr s) (none_from T) h
law_ended {T = T} m (Some y) next l starts h =
    law_map (ended_to T y) (ended_from T y) (law_peek is_close (bind read_close (λ c. Ret y)) next (closed_heads y) (λ x ts rest s c. starts x ts rest s) (law_next _ _ (law_close (opened_close 0 l)) (λ c. law_ret _ (λ q p. p))) h)

-- ---- turns

abbrev Shape : List AnswerForm → Turned → List Lexeme → List Lexeme → Type 0
Shape done = Either (HereS (ended done)) (Then AnswerS (λ a. EndedS (a ∷ done)))

shape_to : (done : List AnswerForm) (x : Turned) (ts rest : List Lexeme) → Shape done x ts rest → EndedS done x ts rest
shape_to done x ts rest (inl (at, e, f)) = subst (λ z. EndedS done x z rest) (sym e) ([], none at rest, f)
shape_to done x ts rest (inr (a, mid, s, (others, m, e))) = (a ∷ others, more a others ts mid rest s m, e)

shape_by : (done : List AnswerForm) (x : Turned) (ts rest : List Lexeme) (xs : List AnswerForm) → Many AnswerS xs ts rest → ended (onto xs done) ≡ Some x → Shape done x ts rest
shape_by done x _ _ _ (none at rest) e = inl (at, refl, e)
shape_by done x _ _ _ (more a others ts mid rest s m) e = inr (a, mid, s, (others, m, e))

shape_from : (done : List AnswerForm) (x : Turned) (ts rest : List Lexeme) → EndedS done x ts rest → Shape done x ts rest
shape_from done x ts rest s = shape_by done x ts rest s.0 s.1 s.2

next_starts : (done : List AnswerForm) (x : Turned) (ts rest : List Lexeme) → Then AnswerS (λ a. EndedS (a ∷ done)) x ts rest → Heads is_close false ts
next_starts done x ts rest s = answer_starts s.0 ts s.1 s.2

ended_some : (done : List AnswerForm) (x : Turned) (ts rest : List Lexeme) → EndedS done x ts rest → Some_token ts
ended_some done x ts rest s = by s.0 ts rest s.1
  where
    by : (xs : List AnswerForm) (ts rest : List Lexeme) → Many AnswerS xs ts rest → Some_token ts
    by _ _ _ (none at us) = (Close at, us, refl)
    by _ _ _ (more a others us mid rest s m) = answer_some a us mid s

begins : (done : List AnswerForm) → Begins Anything (EndedS done) []
begins done = (
  Open 0 ∷ Word 0 (codes "rest") ∷ Word 0 (codes "true") ∷ Close 0 ∷ Close 0 ∷ [],
  (reverse done ++ [], Plain (One (Truth true))),
  λ tail c. turns_onto [] (Plain (One (Truth true))) done _ tail (no_turn _ _ tail (true_rest tail)),
)

abbrev pub TurnsPS : Turned → List Lexeme → List Lexeme → Type 0
TurnsPS x ts rest = TurnsS x.0 x.1 ts rest

module _ (n d : ℕ) (fits : 1 + d ≡ most_open) where
  law_onto : (m : ℕ) → m ≤ n → (done : List AnswerForm) → Law (Opened 1) (λ x. Opened 0) Anything m (EndedS done) (read_turns n d m done)
  unfolding read_turns
  law_onto zero le done = law_out (EndedS done) (begins done) (ended_some done)
  law_onto (suc m) le done = law_map (shape_to done) (shape_from done)
      (law_ended (suc m) (ended done) (bind (read_answer n d) (λ a. read_turns n d m (a ∷ done))) (omega (arith, fits)) (next_starts done)
      (law_less_then m (read_answer n d) (λ a. read_turns n d m (a ∷ done)) (takes (read_answer n d) (law_answer n 0 d fits) answer_some m) (λ a b ts rest s c. tt) (law_less (suc m) le (law_answer n 0 d fits)) (λ a.
      law_onto m (omega (arith, le)) (a ∷ done))))

  pub law_turns : Law (Opened 1) (λ x. Opened 0) Anything n TurnsPS (read_turns n d n [])
  law_turns = law_map turns_to turns_from (law_onto n (omega arith) [])
