-- The steps of the loop that reads a rule's conditions and its right side.
use Rattle.std.proofs.Common.{◌≡◌, ℕ, zero, suc, ◌+◌, ◌-◌, ◌<◌, ◌≤◌, List, [], ◌∷◌, ◌++◌, length, drop, map, append-nil, append_assoc, Bool, true, false, cond, refl, ap, sym, ◌∙◌, subst, arith, Some, None}
use Rattle.std.proofs.lemmas.List.{map-append}
use Rattle.isle_lexer.specs.Lexeme.{Lexeme, Open, Close, At, Less, Greater, Word}
use Rattle.isle_reading.specs.declared.cursor.Fail.{Fail}
use Rattle.isle_reading.specs.Reader.{Reading, Got, Stuck, Deep, Reader, Ret, Peek, after, run, bind}
use Rattle.isle_reading.specs.Combinators.{is_close, read_close, Both, OnlyFirst, OnlySecond, BothGot}
use Rattle.isle_reading.specs.Views.{closes, stops, Refuses}
use Rattle.isle_reading.proofs.Running.{run-bind}
use Rattle.isle_reading.proofs.Steps.{passed, bind_refuses, then_got, done_got, refuses_after, close_peek, no_close_peek, close_got, peek_stops}
use Rattle.isle_ast.specs.Tree.{Expr, IfLet}
use Rattle.isle_grammar.specs.Reading.{read_form, Step, Last, More, last_of, settled, read_step, behind_form, read_tail}

-- ---- what follows a form

pub either_last : (e : Expr) (i : IfLet) (at : ℕ) (ts us : List Lexeme) → Some at ≡ closes ts → us ≡ drop 1 ts → run (settled (BothGot e i)) ts ≡ Got (Last e) us
either_last e i at ts us h k = close_peek (last_of e) (Ret (More i)) at ts h ∙ then_got read_close (λ c. Ret (Last e)) ts us at _ (close_got ts us at h k) (done_got (Last e) us)

pub either_more : (e : Expr) (i : IfLet) (ts : List Lexeme) → 0 < length ts → None ≡ closes ts → run (settled (BothGot e i)) ts ≡ Got (More i) ts
either_more e i ts l h = no_close_peek (last_of e) (Ret (More i)) ts l h ∙ done_got (More i) ts

pub either_stops : (e : Expr) (i : IfLet) (ts : List Lexeme) → length ts ≡ 0 → stops (run (settled (BothGot e i)) ts) ≡ Some (length ts)
either_stops e i ts l = peek_stops is_close (last_of e) (Ret (More i)) ts l

pub only_more : (i : IfLet) (ts : List Lexeme) → run (settled (OnlySecond i)) ts ≡ Got (More i) ts
only_more i ts = done_got (More i) ts

pub ruleset step_steps = (passed, bind_refuses, either_last, either_more, either_stops, only_more)

-- ---- the loop

-- conditions in front of what is still to be read
unfoldable pub in_rule : List IfLet → Reading (List IfLet × Expr) → Reading (List IfLet × Expr)
in_rule xs o = after o (λ x us. Got (xs ++ x.0, x.1) us)

pub in_rule-nil : (o : Reading (List IfLet × Expr)) → in_rule [] o ≡ o
unfolding in_rule
in_rule-nil (Got x us) = refl
in_rule-nil (Stuck us) = refl
in_rule-nil (Deep us) = refl

in_rule-more : (xs : List IfLet) (i : IfLet) (o : Reading (List IfLet × Expr)) → in_rule xs (after o (λ x us. Got (i ∷ x.0, x.1) us)) ≡ in_rule (xs ++ i ∷ []) o
unfolding in_rule
in_rule-more xs i (Got x us) = ap (λ z. Got (z, x.1) us) (sym (append_assoc xs (i ∷ []) x.0))
in_rule-more xs i (Stuck us) = refl
in_rule-more xs i (Deep us) = refl

in_rule-refuses : (fail : Fail) (xs : List IfLet) (o : Reading (List IfLet × Expr)) → Refuses fail o → Refuses fail (in_rule xs o)
unfolding in_rule
in_rule-refuses fail xs o h = refuses_after fail o (λ x us. Got (xs ++ x.0, x.1) us) h

in_rule-stops : (xs : List IfLet) (o : Reading (List IfLet × Expr)) → stops (in_rule xs o) ≡ stops o
unfolding in_rule
in_rule-stops xs (Got x us) = refl
in_rule-stops xs (Stuck us) = refl
in_rule-stops xs (Deep us) = refl

abbrev put_more : IfLet → List IfLet × Expr → Reader (List IfLet × Expr)
put_more i x = Ret (i ∷ x.0, x.1)

abbrev ends_with : Expr → ℕ → Reader (List IfLet × Expr)
ends_with e c = Ret ([], e)

-- what comes after a step
abbrev goes : ℕ → ℕ → Step → List Lexeme → Reading (List IfLet × Expr)
goes n k (Last e) us = Got ([], e) us
goes n k (More i) us = after (run (read_tail n k) us) (λ x vs. Got (i ∷ x.0, x.1) vs)

more_by : (n k : ℕ) (i : IfLet) (us : List Lexeme) → run (bind (read_tail n k) (put_more i)) us ≡ after (run (read_tail n k) us) (λ x vs. Got (i ∷ x.0, x.1) vs)
unfolding run
more_by n k i us = run-bind (read_tail n k) (put_more i) us

last_by : (n k : ℕ) (e : Expr) (us : List Lexeme) → run (bind read_close (ends_with e)) us ≡ after (run (last_of e) us) (goes n k)
unfolding run
last_by n k e us = run-bind read_close (ends_with e) us ∙ inner (run read_close us) ∙ ap (λ o. after o (goes n k)) (sym (run-bind read_close (λ c. Ret (Last e)) us))
  where
    inner : (o : Reading ℕ) → after o (λ c vs. Got ([], e) vs) ≡ after (after o (λ c vs. Got (Last e) vs)) (goes n k)
    inner (Got c vs) = refl
    inner (Stuck vs) = refl
    inner (Deep vs) = refl

either_by : (n k : ℕ) (e : Expr) (i : IfLet) (us : List Lexeme)
    → run (Peek is_close (bind read_close (ends_with e)) (bind (read_tail n k) (put_more i))) us ≡ after (run (Peek is_close (last_of e) (Ret (More i))) us) (goes n k)
unfolding run
either_by n k e i [] = refl
either_by n k e i (Open at ∷ us) = more_by n k i (Open at ∷ us)
either_by n k e i (Close at ∷ us) = last_by n k e (Close at ∷ us)
either_by n k e i (At at ∷ us) = more_by n k i (At at ∷ us)
either_by n k e i (Less at ∷ us) = more_by n k i (Less at ∷ us)
either_by n k e i (Greater at ∷ us) = more_by n k i (Greater at ∷ us)
either_by n k e i (Word at w ∷ us) = more_by n k i (Word at w ∷ us)

form_by : (n k : ℕ) (f : Both Expr IfLet) (us : List Lexeme) → run (behind_form (read_tail n k) f) us ≡ after (run (settled f) us) (goes n k)
unfolding run
form_by n k (OnlyFirst e) us = last_by n k e us
form_by n k (OnlySecond i) us = more_by n k i us
form_by n k (BothGot e i) us = either_by n k e i us

step_by : (n k : ℕ) (ts : List Lexeme) → run (read_tail n (suc k)) ts ≡ after (run (read_step n) ts) (goes n k)
unfolding read_tail read_step
step_by n k ts = run-bind (read_form n) (behind_form (read_tail n k)) ts ∙ inner (run (read_form n) ts) ∙ ap (λ o. after o (goes n k)) (sym (run-bind (read_form n) settled ts))
  where
    inner : (o : Reading (Both Expr IfLet)) → after o (λ f us. run (behind_form (read_tail n k) f) us) ≡ after (after o (λ f us. run (settled f) us)) (goes n k)
    inner (Got f us) = form_by n k f us
    inner (Stuck us) = refl
    inner (Deep us) = refl

-- a condition more
pub tail-more : {T : Type 0} (view : T → IfLet) (n m i : ℕ) (ts us : List Lexeme) (xs ys : List T) (x : T) (whole : Reading (List IfLet × Expr)) → i < m → run (read_step n) ts ≡ Got (More (view x)) us → ys ≡ xs ++ x ∷ []
    → in_rule (map view xs) (run (read_tail n (m - i)) ts) ≡ whole → in_rule (map view ys) (run (read_tail n (m - (i + 1))) us) ≡ whole
tail-more view n m i ts us xs ys x whole l e p h =
    let k : m - i ≡ suc (m - (i + 1)) = omega arith in
    ap (λ zs. in_rule (map view zs) (run (read_tail n (m - (i + 1))) us)) p ∙ ap (λ zs. in_rule zs (run (read_tail n (m - (i + 1))) us)) (map-append view xs (x ∷ []))
    ∙ sym (in_rule-more (map view xs) (view x) (run (read_tail n (m - (i + 1))) us)) ∙ ap (λ o. in_rule (map view xs) (after o (goes n (m - (i + 1))))) (sym e)
    ∙ ap (in_rule (map view xs)) (sym (step_by n (m - (i + 1)) ts)) ∙ ap (λ j. in_rule (map view xs) (run (read_tail n j) ts)) (sym k) ∙ h

-- the right side
pub tail-last : (n m i : ℕ) (ts us : List Lexeme) (xs : List IfLet) (e : Expr) (whole : Reading (List IfLet × Expr)) → i < m → run (read_step n) ts ≡ Got (Last e) us → in_rule xs (run (read_tail n (m - i)) ts) ≡ whole → whole ≡ Got (xs, e) us
unfolding in_rule
tail-last n m i ts us xs e whole l f h =
    let k : m - i ≡ suc (m - (i + 1)) = omega arith in
    sym h ∙ ap (λ j. in_rule xs (run (read_tail n j) ts)) k ∙ ap (in_rule xs) (step_by n (m - (i + 1)) ts ∙ ap (λ o. after o (goes n (m - (i + 1)))) f) ∙ ap (λ z. Got (z, e) us) (append-nil xs)

-- a step that is refused
pub tail-refuses : (n m i : ℕ) (fail : Fail) (ts : List Lexeme) (xs : List IfLet) (whole : Reading (List IfLet × Expr)) → i < m → Refuses fail (run (read_step n) ts) → in_rule xs (run (read_tail n (m - i)) ts) ≡ whole → Refuses fail whole
tail-refuses n m i fail ts xs whole l f h =
    let k : m - i ≡ suc (m - (i + 1)) = omega arith in
    subst (Refuses fail) (ap (in_rule xs) (sym (step_by n (m - (i + 1)) ts)) ∙ ap (λ j. in_rule xs (run (read_tail n j) ts)) (sym k) ∙ h)
    (in_rule-refuses fail xs _ (refuses_after fail (run (read_step n) ts) (goes n (m - (i + 1))) f))

full_by : (n : ℕ) (ts : List Lexeme) → stops (run (read_tail n zero) ts) ≡ Some (length ts)
unfolding read_tail run
full_by n [] = refl
full_by n (t ∷ ts) = refl

-- too many of them
pub tail-full : (n m i : ℕ) (ts : List Lexeme) (xs : List IfLet) (whole : Reading (List IfLet × Expr)) → m ≤ i → in_rule xs (run (read_tail n (m - i)) ts) ≡ whole → stops whole ≡ Some (length ts)
tail-full n m i ts xs whole l h =
    let k : m - i ≡ zero = omega arith in
    ap stops (sym h ∙ ap (λ j. in_rule xs (run (read_tail n j) ts)) k) ∙ in_rule-stops xs (run (read_tail n zero) ts) ∙ full_by n ts

pub ruleset tails = (in_rule-nil, tail-full, passed)
