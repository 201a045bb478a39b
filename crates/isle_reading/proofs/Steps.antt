-- One step of a reader, by what comes next.
use Rattle.std.proofs.Common.{◌≡◌, Bool, ℕ, zero, suc, ◌+◌, ◌-◌, ◌≤◌, ◌<◌, List, [], ◌∷◌, length, drop, cond, refl, ap, sym, ◌∙◌, subst, arith, Option, Some, None}
use Rattle.std.specs.Prelude.{is_some, Result, Ok, Err, IfOk, IsErrAnd}
use Rattle.isle_lexer.specs.Lexeme.{Lexeme, Open, Close, At, Less, Greater, Word}
use Rattle.isle_reading.specs.declared.cursor.Fail.{Fail}
use Rattle.isle_reading.specs.declared.cursor.Fail.TheVariants as code
use Rattle.isle_reading.specs.Reader.{Reading, Got, Stuck, Deep, Reader, Ret, Peek, Halt, after, run, bind}
use Rattle.isle_reading.specs.Combinators.{is_open, is_close, is_at, read_open, read_close, read_at, given, read_word, next_word, read_optional, words_from}
use Rattle.isle_reading.specs.Views.{opens, closes, signs, stops, Refuses, Comes}
use Rattle.isle_reading.proofs.Running.{run-bind}

-- ---- one after another

-- a failure that is passed on
pub passed : {T A : Type 0} (view : T → A) (result : Result T Fail) (fail : Fail) (o : Reading A) (rest : List Lexeme) → IsErrAnd result (λ y. y ≡ fail) → Refuses fail o → Comes view result o rest
passed view (Ok x) fail o rest p h = absurd p
passed view (Err y) fail o rest p h = subst (λ z. Refuses z o) (sym p) h

-- after what was got, all is as there
pub bind_got : {A B : Type 0} (r : Reader A) (k : A → Reader B) (ts us : List Lexeme) (a : A) → run r ts ≡ Got a us → run (bind r k) ts ≡ run (k a) us
bind_got r k ts us a e = run-bind r k ts ∙ ap (λ z. after z (λ a us. run (k a) us)) e

stops_after : {A B : Type 0} (o : Reading A) (f : A → List Lexeme → Reading B) (k : ℕ) → stops o ≡ Some k → stops (after o f) ≡ Some k
stops_after (Got a ts) f k e = cc
stops_after (Stuck ts) f k e = e
stops_after (Deep ts) f k e = e

pub refuses_after : {A B : Type 0} (fail : Fail) (o : Reading A) (f : A → List Lexeme → Reading B) → Refuses fail o → Refuses fail (after o f)
refuses_after (code.At k) o f h = stops_after o f k h
refuses_after code.Memory o f h = tt

-- if the first is refused, both are
pub bind_refuses : {A B : Type 0} (fail : Fail) (r : Reader A) (k : A → Reader B) (ts : List Lexeme) → Refuses fail (run r ts) → Refuses fail (run (bind r k) ts)
bind_refuses fail r k ts h = subst (Refuses fail) (sym (run-bind r k ts)) (refuses_after fail (run r ts) (λ a us. run (k a) us) h)

-- after what was got, the rest as there
pub then_got : {A B : Type 0} (r : Reader A) (k : A → Reader B) (ts us : List Lexeme) (a : A) (o : Reading B) → run r ts ≡ Got a us → run (k a) us ≡ o → run (bind r k) ts ≡ o
then_got r k ts us a o e h = bind_got r k ts us a e ∙ h

pub then_refuses : {A B : Type 0} (fail : Fail) (r : Reader A) (k : A → Reader B) (ts us : List Lexeme) (a : A) → run r ts ≡ Got a us → Refuses fail (run (k a) us) → Refuses fail (run (bind r k) ts)
then_refuses fail r k ts us a e h = subst (Refuses fail) (sym (bind_got r k ts us a e)) h

-- after what was got, the last result says what comes of both
pub then_comes : {T A B : Type 0} (view : T → B) (result : Result T Fail) (rest : List Lexeme) (r : Reader A) (k : A → Reader B) (ts us : List Lexeme) (a : A) → run r ts ≡ Got a us → Comes view result (run (k a) us) rest
    → Comes view result (run (bind r k) ts) rest
then_comes view result rest r k ts us a e h = subst (λ o. Comes view result o rest) (sym (bind_got r k ts us a e)) h

-- a value that came was got
pub comes_got : {T A : Type 0} (view : T → A) (result : Result T Fail) (o : Reading A) (rest : List Lexeme) → Comes view result o rest → IfOk result (λ value. o ≡ Got (view value) rest)
comes_got view (Ok value) o rest h = h
comes_got view (Err fail) o rest h = tt

-- a place that came is where reading stops
pub comes_stops : {T A : Type 0} (view : T → A) (result : Result T Fail) (o : Reading A) (rest : List Lexeme) (k : ℕ) → Comes view result o rest → result ≡ Err (code.At k) → stops o ≡ Some k
comes_stops view result o rest k h e = subst (λ r. Comes view r o rest) e h

pub done_got : {A : Type 0} (a : A) (ts : List Lexeme) → run (Ret a) ts ≡ Got a ts
unfolding run
done_got a ts = refl

-- what closes a chain of `?` over readers that are bound
pub ruleset chain = (passed, bind_got, bind_refuses)

-- ---- parentheses

pub open_got : (ts us : List Lexeme) (at : ℕ) → Some at ≡ opens ts → us ≡ drop 1 ts → run read_open ts ≡ Got at us
unfolding read_open run
open_got [] us at e f = cc
open_got (Open n ∷ ts) us at e f = let x : n ≡ at = cc in let y : us ≡ ts = f in ap (λ m. Got m ts) x ∙ ap (Got at) (sym y)
open_got (Close n ∷ ts) us at e f = cc
open_got (At n ∷ ts) us at e f = cc
open_got (Less n ∷ ts) us at e f = cc
open_got (Greater n ∷ ts) us at e f = cc
open_got (Word n w ∷ ts) us at e f = cc

pub open_stops : (ts : List Lexeme) → None ≡ opens ts → stops (run read_open ts) ≡ Some (length ts)
unfolding read_open run
open_stops [] e = refl
open_stops (Open n ∷ ts) e = cc
open_stops (Close n ∷ ts) e = refl
open_stops (At n ∷ ts) e = refl
open_stops (Less n ∷ ts) e = refl
open_stops (Greater n ∷ ts) e = refl
open_stops (Word n w ∷ ts) e = refl

pub close_got : (ts us : List Lexeme) (at : ℕ) → Some at ≡ closes ts → us ≡ drop 1 ts → run read_close ts ≡ Got at us
unfolding read_close run
close_got [] us at e f = cc
close_got (Open n ∷ ts) us at e f = cc
close_got (Close n ∷ ts) us at e f = let x : n ≡ at = cc in let y : us ≡ ts = f in ap (λ m. Got m ts) x ∙ ap (Got at) (sym y)
close_got (At n ∷ ts) us at e f = cc
close_got (Less n ∷ ts) us at e f = cc
close_got (Greater n ∷ ts) us at e f = cc
close_got (Word n w ∷ ts) us at e f = cc

pub close_stops : (ts : List Lexeme) → None ≡ closes ts → stops (run read_close ts) ≡ Some (length ts)
unfolding read_close run
close_stops [] e = refl
close_stops (Open n ∷ ts) e = refl
close_stops (Close n ∷ ts) e = cc
close_stops (At n ∷ ts) e = refl
close_stops (Less n ∷ ts) e = refl
close_stops (Greater n ∷ ts) e = refl
close_stops (Word n w ∷ ts) e = refl

-- a list where a parenthesis opens
pub open_peek : {A : Type 0} (y n : Reader A) (at : ℕ) (ts : List Lexeme) → Some at ≡ opens ts → run (Peek is_open y n) ts ≡ run y ts
unfolding run
open_peek y n at [] e = cc
open_peek y n at (Open m ∷ ts) e = refl
open_peek y n at (Close m ∷ ts) e = cc
open_peek y n at (At m ∷ ts) e = cc
open_peek y n at (Less m ∷ ts) e = cc
open_peek y n at (Greater m ∷ ts) e = cc
open_peek y n at (Word m w ∷ ts) e = cc

-- something else if none opens
pub other_peek : {A : Type 0} (y n : Reader A) (ts : List Lexeme) → run n [] ≡ Stuck [] → None ≡ opens ts → run (Peek is_open y n) ts ≡ run n ts
unfolding run
other_peek y n [] none e = sym none
other_peek y n (Open m ∷ ts) none e = cc
other_peek y n (Close m ∷ ts) none e = refl
other_peek y n (At m ∷ ts) none e = refl
other_peek y n (Less m ∷ ts) none e = refl
other_peek y n (Greater m ∷ ts) none e = refl
other_peek y n (Word m w ∷ ts) none e = refl

-- too deep where one opens
pub barred_stops : {A : Type 0} (n : Reader A) (at : ℕ) (ts : List Lexeme) → Some at ≡ opens ts → stops (run (Peek is_open Halt n) ts) ≡ Some (length ts)
unfolding run
barred_stops n at ts e = ap stops (open_peek Halt n at ts e)

pub ruleset round = (open_got, open_stops, close_got, close_stops)

-- ---- an `@`

-- a list if an `@` is next
pub at_peek : {A : Type 0} (y n : Reader A) (at : ℕ) (ts : List Lexeme) → Some at ≡ signs ts → run (Peek is_at y n) ts ≡ run y ts
unfolding run
at_peek y n at [] e = cc
at_peek y n at (Open m ∷ ts) e = cc
at_peek y n at (Close m ∷ ts) e = cc
at_peek y n at (At m ∷ ts) e = refl
at_peek y n at (Less m ∷ ts) e = cc
at_peek y n at (Greater m ∷ ts) e = cc
at_peek y n at (Word m w ∷ ts) e = cc

-- something else if none is
pub no_at_peek : {A : Type 0} (y n : Reader A) (ts : List Lexeme) → 0 < length ts → None ≡ signs ts → run (Peek is_at y n) ts ≡ run n ts
unfolding run
no_at_peek y n [] l e = absurd (omega (arith, l))
no_at_peek y n (Open m ∷ ts) l e = refl
no_at_peek y n (Close m ∷ ts) l e = refl
no_at_peek y n (At m ∷ ts) l e = cc
no_at_peek y n (Less m ∷ ts) l e = refl
no_at_peek y n (Greater m ∷ ts) l e = refl
no_at_peek y n (Word m w ∷ ts) l e = refl

pub at_got : (ts us : List Lexeme) (at : ℕ) → Some at ≡ signs ts → us ≡ drop 1 ts → run read_at ts ≡ Got at us
unfolding read_at run
at_got [] us at e f = cc
at_got (Open n ∷ ts) us at e f = cc
at_got (Close n ∷ ts) us at e f = cc
at_got (At n ∷ ts) us at e f = let x : n ≡ at = cc in let y : us ≡ ts = f in ap (λ m. Got m ts) x ∙ ap (Got at) (sym y)
at_got (Less n ∷ ts) us at e f = cc
at_got (Greater n ∷ ts) us at e f = cc
at_got (Word n w ∷ ts) us at e f = cc

-- at the end of the text no look is taken
pub peek_stops : {A : Type 0} (test : Lexeme → Bool) (y n : Reader A) (ts : List Lexeme) → length ts ≡ 0 → stops (run (Peek test y n) ts) ≡ Some (length ts)
unfolding run
peek_stops test y n [] e = refl
peek_stops test y n (t ∷ ts) e = absurd (omega (arith, e))

-- where a parenthesis closes, and if none does
pub close_peek : {A : Type 0} (y n : Reader A) (at : ℕ) (ts : List Lexeme) → Some at ≡ closes ts → run (Peek is_close y n) ts ≡ run y ts
unfolding run
close_peek y n at [] e = cc
close_peek y n at (Open m ∷ ts) e = cc
close_peek y n at (Close m ∷ ts) e = refl
close_peek y n at (At m ∷ ts) e = cc
close_peek y n at (Less m ∷ ts) e = cc
close_peek y n at (Greater m ∷ ts) e = cc
close_peek y n at (Word m w ∷ ts) e = cc

pub no_close_peek : {A : Type 0} (y n : Reader A) (ts : List Lexeme) → 0 < length ts → None ≡ closes ts → run (Peek is_close y n) ts ≡ run n ts
unfolding run
no_close_peek y n [] l e = absurd (omega (arith, l))
no_close_peek y n (Open m ∷ ts) l e = refl
no_close_peek y n (Close m ∷ ts) l e = cc
no_close_peek y n (At m ∷ ts) l e = refl
no_close_peek y n (Less m ∷ ts) l e = refl
no_close_peek y n (Greater m ∷ ts) l e = refl
no_close_peek y n (Word m w ∷ ts) l e = refl

pub no_open_peek : {A : Type 0} (y n : Reader A) (ts : List Lexeme) → 0 < length ts → None ≡ opens ts → run (Peek is_open y n) ts ≡ run n ts
unfolding run
no_open_peek y n [] l e = absurd (omega (arith, l))
no_open_peek y n (Open m ∷ ts) l e = cc
no_open_peek y n (Close m ∷ ts) l e = refl
no_open_peek y n (At m ∷ ts) l e = refl
no_open_peek y n (Less m ∷ ts) l e = refl
no_open_peek y n (Greater m ∷ ts) l e = refl
no_open_peek y n (Word m w ∷ ts) l e = refl

-- ---- words

-- what the next word gives, by that word
pub next_some : {A : Type 0} (f : List ℕ → Option A) (ts : List Lexeme) (w : List ℕ) → Some w ≡ next_word (λ v. Some v) ts → next_word f ts ≡ f w
next_some f [] w e = cc
next_some f (Open n ∷ ts) w e = cc
next_some f (Close n ∷ ts) w e = cc
next_some f (At n ∷ ts) w e = cc
next_some f (Less n ∷ ts) w e = cc
next_some f (Greater n ∷ ts) w e = cc
next_some f (Word n v ∷ ts) w e = let x : v ≡ w = cc in ap f x

pub next_none : {A : Type 0} (f : List ℕ → Option A) (ts : List Lexeme) → None ≡ next_word (λ v. Some v) ts → next_word f ts ≡ None
next_none f [] e = refl
next_none f (Open n ∷ ts) e = refl
next_none f (Close n ∷ ts) e = refl
next_none f (At n ∷ ts) e = refl
next_none f (Less n ∷ ts) e = refl
next_none f (Greater n ∷ ts) e = refl
next_none f (Word n v ∷ ts) e = cc

given_got : {A : Type 0} (o : Option A) (ts : List Lexeme) (t : Lexeme) (a : A) → o ≡ Some a → cond (is_some o) (run (given o) ts) (Stuck (t ∷ ts)) ≡ Got a ts
unfolding run
given_got None ts t a e = cc
given_got (Some b) ts t a e = let x : b ≡ a = cc in ap (λ c. Got c ts) x

given_stops : {A : Type 0} (o : Option A) (ts : List Lexeme) (t : Lexeme) → o ≡ None → cond (is_some o) (run (given o) ts) (Stuck (t ∷ ts)) ≡ Stuck (t ∷ ts)
unfolding run
given_stops None ts t e = refl
given_stops (Some b) ts t e = cc

pub word_got : {A : Type 0} (f : List ℕ → Option A) (ts us : List Lexeme) (a : A) → next_word f ts ≡ Some a → us ≡ drop 1 ts → run (read_word f) ts ≡ Got a us
unfolding run read_word
word_got f [] us a e h = cc
word_got f (Open n ∷ ts) us a e h = cc
word_got f (Close n ∷ ts) us a e h = cc
word_got f (At n ∷ ts) us a e h = cc
word_got f (Less n ∷ ts) us a e h = cc
word_got f (Greater n ∷ ts) us a e h = cc
word_got f (Word n w ∷ ts) us a e h = given_got (f w) ts (Word n w) a e ∙ ap (Got a) (sym h)

pub word_stops : {A : Type 0} (f : List ℕ → Option A) (ts : List Lexeme) → next_word f ts ≡ None → stops (run (read_word f) ts) ≡ Some (length ts)
unfolding run read_word
word_stops f [] e = refl
word_stops f (Open n ∷ ts) e = refl
word_stops f (Close n ∷ ts) e = refl
word_stops f (At n ∷ ts) e = refl
word_stops f (Less n ∷ ts) e = refl
word_stops f (Greater n ∷ ts) e = refl
word_stops f (Word n w ∷ ts) e = ap stops (given_stops (f w) ts (Word n w) e)

-- at the end of the text
pub word_none : {A : Type 0} (f : List ℕ → Option A) → run (read_word f) [] ≡ Stuck []
unfolding run read_word
word_none f = refl

-- ---- a word, or none

some_word : {A : Type 0} (f : List ℕ → Option A) (other a : A) (n : ℕ) (w : List ℕ) (ts : List Lexeme) → f w ≡ Some a → run (read_optional f other) (Word n w ∷ ts) ≡ Got a ts
unfolding run read_optional read_word
some_word f other a n w ts e = ap (λ b. cond b (run (read_word f) (Word n w ∷ ts)) (Got other (Word n w ∷ ts))) (ap is_some e) ∙ given_got (f w) ts (Word n w) a e

no_word : {A : Type 0} (f : List ℕ → Option A) (other : A) (n : ℕ) (w : List ℕ) (ts : List Lexeme) → f w ≡ None → run (read_optional f other) (Word n w ∷ ts) ≡ Got other (Word n w ∷ ts)
unfolding run read_optional read_word
no_word f other n w ts e = ap (λ b. cond b (run (read_word f) (Word n w ∷ ts)) (Got other (Word n w ∷ ts))) (ap is_some e)

pub optional_got : {A : Type 0} (f : List ℕ → Option A) (other a : A) (ts us : List Lexeme) → next_word f ts ≡ Some a → us ≡ drop 1 ts → run (read_optional f other) ts ≡ Got a us
unfolding run read_optional read_word
optional_got f other a [] us e h = cc
optional_got f other a (Open n ∷ ts) us e h = cc
optional_got f other a (Close n ∷ ts) us e h = cc
optional_got f other a (At n ∷ ts) us e h = cc
optional_got f other a (Less n ∷ ts) us e h = cc
optional_got f other a (Greater n ∷ ts) us e h = cc
optional_got f other a (Word n w ∷ ts) us e h = some_word f other a n w ts e ∙ ap (Got a) (sym h)

pub optional_other : {A : Type 0} (f : List ℕ → Option A) (other : A) (ts : List Lexeme) → next_word f ts ≡ None → 0 < length ts → run (read_optional f other) ts ≡ Got other ts
unfolding run read_optional read_word
optional_other f other [] e l = absurd (omega (arith, l))
optional_other f other (Open n ∷ ts) e l = refl
optional_other f other (Close n ∷ ts) e l = refl
optional_other f other (At n ∷ ts) e l = refl
optional_other f other (Less n ∷ ts) e l = refl
optional_other f other (Greater n ∷ ts) e l = refl
optional_other f other (Word n w ∷ ts) e l = no_word f other n w ts e

pub optional_stops : {A : Type 0} (f : List ℕ → Option A) (other : A) (ts : List Lexeme) → length ts ≡ 0 → stops (run (read_optional f other) ts) ≡ Some (length ts)
unfolding run read_optional read_word
optional_stops f other [] e = refl
optional_stops f other (t ∷ ts) e = absurd (omega (arith, e))

-- ---- words that lead from state to state

words_peek : {St : Type 0} (next : St → List ℕ → Option St) (k : ℕ) (s u : St) (ts : List Lexeme) → next_word (next s) ts ≡ Some u → run (words_from (suc k) next s) ts ≡ run (bind (read_word (next s)) (λ u. words_from k next u)) ts
unfolding run words_from
words_peek next k s u [] e = cc
words_peek next k s u (Open n ∷ ts) e = cc
words_peek next k s u (Close n ∷ ts) e = cc
words_peek next k s u (At n ∷ ts) e = cc
words_peek next k s u (Less n ∷ ts) e = cc
words_peek next k s u (Greater n ∷ ts) e = cc
words_peek next k s u (Word n w ∷ ts) e = ap (λ b. cond b (run (bind (read_word (next s)) (λ u. words_from k next u)) (Word n w ∷ ts)) (Got s (Word n w ∷ ts))) (ap is_some e)

words_one : {St : Type 0} (next : St → List ℕ → Option St) (k : ℕ) (s u : St) (ts us : List Lexeme) → next_word (next s) ts ≡ Some u → us ≡ drop 1 ts → run (words_from (suc k) next s) ts ≡ run (words_from k next u) us
words_one next k s u ts us e f = words_peek next k s u ts e ∙ then_got (read_word (next s)) (λ u. words_from k next u) ts us u _ (word_got (next s) ts us u e f) refl

words_none : {St : Type 0} (next : St → List ℕ → Option St) (k : ℕ) (s : St) (ts : List Lexeme) → next_word (next s) ts ≡ None → 0 < length ts → run (words_from (suc k) next s) ts ≡ Got s ts
unfolding run words_from
words_none next k s [] e l = absurd (omega (arith, l))
words_none next k s (Open n ∷ ts) e l = refl
words_none next k s (Close n ∷ ts) e l = refl
words_none next k s (At n ∷ ts) e l = refl
words_none next k s (Less n ∷ ts) e l = refl
words_none next k s (Greater n ∷ ts) e l = refl
words_none next k s (Word n w ∷ ts) e l = ap (λ b. cond b (run (bind (read_word (next s)) (λ u. words_from k next u)) (Word n w ∷ ts)) (Got s (Word n w ∷ ts))) (ap is_some e)

words_stops : {St : Type 0} (next : St → List ℕ → Option St) (k : ℕ) (s : St) (ts : List Lexeme) → length ts ≡ 0 → stops (run (words_from (suc k) next s) ts) ≡ Some (length ts)
unfolding run words_from
words_stops next k s [] e = refl
words_stops next k s (t ∷ ts) e = absurd (omega (arith, e))

-- a word more
pub words-more : {St : Type 0} (next : St → List ℕ → Option St) (m i : ℕ) (s u : St) (ts us : List Lexeme) (whole : Reading St) → i < m → next_word (next s) ts ≡ Some u → us ≡ drop 1 ts
    → run (words_from (m - i) next s) ts ≡ whole → run (words_from (m - (i + 1)) next u) us ≡ whole
words-more next m i s u ts us whole l e f h =
    let k : m - i ≡ suc (m - (i + 1)) = omega arith in
    sym (words_one next (m - (i + 1)) s u ts us e f) ∙ ap (λ n. run (words_from n next s) ts) (sym k) ∙ h

-- no word more
pub words-end : {St : Type 0} (next : St → List ℕ → Option St) (m i : ℕ) (s : St) (ts : List Lexeme) (whole : Reading St) → i < m → next_word (next s) ts ≡ None → 0 < length ts → run (words_from (m - i) next s) ts ≡ whole → whole ≡ Got s ts
words-end next m i s ts whole l e some h =
    let k : m - i ≡ suc (m - (i + 1)) = omega arith in
    sym h ∙ ap (λ n. run (words_from n next s) ts) k ∙ words_none next (m - (i + 1)) s ts e some

-- the end of the text
pub words-stop : {St : Type 0} (next : St → List ℕ → Option St) (m i : ℕ) (s : St) (ts : List Lexeme) (whole : Reading St) → i < m → length ts ≡ 0 → run (words_from (m - i) next s) ts ≡ whole → stops whole ≡ Some (length ts)
words-stop next m i s ts whole l e h =
    let k : m - i ≡ suc (m - (i + 1)) = omega arith in
    ap stops (sym h ∙ ap (λ n. run (words_from n next s) ts) k) ∙ words_stops next (m - (i + 1)) s ts e

-- no more words may stand there
pub words-full : {St : Type 0} (next : St → List ℕ → Option St) (m i : ℕ) (s : St) (ts : List Lexeme) (whole : Reading St) → m ≤ i → run (words_from (m - i) next s) ts ≡ whole → whole ≡ Got s ts
unfolding run words_from
words-full next m i s ts whole l h =
    let k : m - i ≡ zero = omega arith in
    sym h ∙ ap (λ n. run (words_from n next s) ts) k

-- what closes the function that tells what the next word gives
pub ruleset next = (next_some, next_none)

-- what closes the function that takes a word, or none
pub ruleset words = (word_got, word_stops)

pub ruleset optionals = (optional_got, optional_other, optional_stops)

-- what closes a loop that reads words which lead from state to state
pub ruleset states = (words-more, words-end, words-stop, words-full)
