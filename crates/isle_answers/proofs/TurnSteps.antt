-- What comes of reading turns, turn by turn.
use Rattle.std.proofs.Common.{◌≡◌, ℕ, zero, suc, ◌+◌, ◌-◌, ◌<◌, ◌≤◌, List, [], ◌∷◌, ◌++◌, length, drop, map, true, false, refl, ap, sym, ◌∙◌, subst, arith, Option, Some, None}
use Rattle.std.specs.Prelude.{is_some, option_map, reverse}
use Rattle.std.proofs.lemmas.List.{map-append, reverse-append, reverse-reverse}
use Rattle.isle_lexer.specs.Lexeme.{Lexeme, Open, Close, At, Less, Greater, Word}
use Rattle.isle_reading.specs.declared.cursor.Fail.{Fail}
use Rattle.isle_reading.specs.Reader.{Reading, Got, Stuck, Reader, after, run, bind}
use Rattle.isle_reading.specs.Combinators.{read_close}
use Rattle.isle_reading.specs.Views.{closes, stops, Refuses}
use Rattle.isle_reading.proofs.Running.{run-bind}
use Rattle.isle_reading.proofs.Steps.{passed, then_got, bind_refuses}
use Rattle.isle_answers.specs.Form.{AnswerForm}
use Rattle.isle_answers.specs.Reading.{Turned, rest_is, ended, read_ended, read_answer, read_turns}
use Rattle.isle_answers.proofs.Choices.{answer_none, answer_closed}

-- ---- the last turn

-- one turn more, seen
pub last_seen : {B : Type 0} (f : B → AnswerForm) (xs : List B) (x : B) → reverse (map f (xs ++ x ∷ [])) ≡ f x ∷ reverse (map f xs)
last_seen f xs x = ap reverse (map-append f xs (x ∷ [])) ∙ reverse-append (map f xs) (f x ∷ [])

-- ---- the parenthesis, or one turn more

-- no parenthesis closes
next_turn : (o : Option Turned) (next : Reader Turned) (ts : List Lexeme) → run next [] ≡ Stuck [] → None ≡ closes ts → run (read_ended o next) ts ≡ run next ts
unfolding run
next_turn None next ts none e = refl
next_turn (Some x) next [] none e = sym none
next_turn (Some x) next (Open k ∷ ts) none e = refl
next_turn (Some x) next (Close k ∷ ts) none e = cc
next_turn (Some x) next (At k ∷ ts) none e = refl
next_turn (Some x) next (Less k ∷ ts) none e = refl
next_turn (Some x) next (Greater k ∷ ts) none e = refl
next_turn (Some x) next (Word k w ∷ ts) none e = refl

-- one closes after the rest
closed_turn : (o : Option Turned) (x : Turned) (next : Reader Turned) (at : ℕ) (ts us : List Lexeme) → o ≡ Some x → Some at ≡ closes ts → us ≡ drop 1 ts → run (read_ended o next) ts ≡ Got x us
unfolding run bind read_close
closed_turn None x next at ts us o e f = cc
closed_turn (Some y) x next at [] us o e f = cc
closed_turn (Some y) x next at (Open k ∷ ts) us o e f = cc
closed_turn (Some y) x next at (Close k ∷ ts) us o e f = let z : y ≡ x = cc (o) in ap (λ w. Got w ts) z ∙ ap (Got x) (sym f)
closed_turn (Some y) x next at (At k ∷ ts) us o e f = cc
closed_turn (Some y) x next at (Less k ∷ ts) us o e f = cc
closed_turn (Some y) x next at (Greater k ∷ ts) us o e f = cc
closed_turn (Some y) x next at (Word k w ∷ ts) us o e f = cc

-- one closes if there is no rest
stuck_turn : (o : Option Turned) (next : Reader Turned) (ts : List Lexeme) → o ≡ None → stops (run next ts) ≡ Some (length ts) → stops (run (read_ended o next) ts) ≡ Some (length ts)
stuck_turn None next ts o h = h
stuck_turn (Some x) next ts o h = cc

module _ (n d : ℕ) where
  abbrev more_turns : ℕ → List AnswerForm → Reader Turned
  more_turns m done = bind (read_answer n d) (λ a. read_turns n d m (a ∷ done))

  turns_is : (m i : ℕ) (done : List AnswerForm) (ts : List Lexeme) (whole : Reading Turned) → i < m → run (read_turns n d (m - i) done) ts ≡ whole → run (read_ended (ended done) (more_turns (m - (i + 1)) done)) ts ≡ whole
  unfolding read_turns
  turns_is m i done ts whole l h = let k : suc (m - (i + 1)) ≡ m - i = omega arith in ap (λ j. run (read_turns n d j done) ts) k ∙ h

  none_more : (m : ℕ) (done : List AnswerForm) → run (more_turns m done) [] ≡ Stuck []
  none_more m done = run-bind (read_answer n d) (λ a. read_turns n d m (a ∷ done)) [] ∙ ap (λ o. after o (λ a us. run (read_turns n d m (a ∷ done)) us)) (answer_none n d)

  turns_next : (m i : ℕ) (done : List AnswerForm) (ts : List Lexeme) (whole : Reading Turned) → i < m → None ≡ closes ts → run (read_turns n d (m - i) done) ts ≡ whole → run (more_turns (m - (i + 1)) done) ts ≡ whole
  turns_next m i done ts whole l e h =
      sym (next_turn (ended done) (more_turns (m - (i + 1)) done) ts (none_more (m - (i + 1)) done) e) ∙ turns_is m i done ts whole l h

  pub turns_end : (m i at : ℕ) (done : List AnswerForm) (ts us : List Lexeme) (x : Turned) (whole : Reading Turned) → i < m → Some at ≡ closes ts → us ≡ drop 1 ts → ended done ≡ Some x
      → run (read_turns n d (m - i) done) ts ≡ whole → whole ≡ Got x us
  turns_end m i at done ts us x whole l e f g h = sym (turns_is m i done ts whole l h) ∙ closed_turn (ended done) x (more_turns (m - (i + 1)) done) at ts us g e f

  pub turns_stop : (m i at : ℕ) (done : List AnswerForm) (ts : List Lexeme) (whole : Reading Turned) → i < m → Some at ≡ closes ts → ended done ≡ None → run (read_turns n d (m - i) done) ts ≡ whole → stops whole ≡ Some (length ts)
  turns_stop m i at done ts whole l e g h =
      let k = m - (i + 1) in
      let stuck : run (more_turns k done) ts ≡ Stuck ts = run-bind (read_answer n d) (λ a. read_turns n d k (a ∷ done)) ts ∙ ap (λ o. after o (λ a us. run (read_turns n d k (a ∷ done)) us)) (answer_closed n d at ts e) in
      ap stops (sym (turns_is m i done ts whole l h)) ∙ stuck_turn (ended done) (more_turns k done) ts g (ap stops stuck)

  pub turns_refuse : (m i : ℕ) (done : List AnswerForm) (ts : List Lexeme) (whole : Reading Turned) (fail : Fail) → i < m → None ≡ closes ts → Refuses fail (run (read_answer n d) ts)
      → run (read_turns n d (m - i) done) ts ≡ whole → Refuses fail whole
  turns_refuse m i done ts whole fail l e r h = subst (Refuses fail) (turns_next m i done ts whole l e h) (bind_refuses fail (read_answer n d) (λ a. read_turns n d (m - (i + 1)) (a ∷ done)) ts r)

  -- a turn more
  pub turns_more : (m i : ℕ) (done : List AnswerForm) (ts us : List Lexeme) (a : AnswerForm) (whole : Reading Turned) → i < m → None ≡ closes ts → run (read_answer n d) ts ≡ Got a us
      → run (read_turns n d (m - i) done) ts ≡ whole → run (read_turns n d (m - (i + 1)) (a ∷ done)) us ≡ whole
  turns_more m i done ts us a whole l e f h =
      sym (then_got (read_answer n d) (λ a. read_turns n d (m - (i + 1)) (a ∷ done)) ts us a _ f refl) ∙ turns_next m i done ts whole l e h

  none_left : (done : List AnswerForm) (ts : List Lexeme) → stops (run (read_turns n d zero done) ts) ≡ Some (length ts)
  unfolding read_turns run
  none_left done [] = refl
  none_left done (t ∷ ts) = refl

  -- too many of them
  pub turns_full : (m i : ℕ) (done : List AnswerForm) (ts : List Lexeme) (whole : Reading Turned) → m ≤ i → run (read_turns n d (m - i) done) ts ≡ whole → stops whole ≡ Some (length ts)
  turns_full m i done ts whole l h = let k : m - i ≡ zero = omega arith in ap stops (sym h ∙ ap (λ j. run (read_turns n d j done) ts) k) ∙ none_left done ts

-- whether a parenthesis closes
pub some_at : (o : Option ℕ) → is_some o ≡ true → (at : ℕ) × (Some at ≡ o)
some_at (Some at) e = (at, refl)
some_at None e = cc

pub none_at : (o : Option ℕ) → is_some o ≡ false → None ≡ o
none_at (Some at) e = cc
none_at None e = refl

pub ruleset turns_steps = (passed, turns_full)
