-- What comes of reading what is passed over, by what comes next.
use Rattle.std.proofs.Common.{◌≡◌, ℕ, zero, suc, ◌+◌, ◌-◌, ◌<◌, ◌≤◌, List, [], ◌∷◌, ◌++◌, length, drop, true, false, cond, refl, ap, sym, ◌∙◌, subst, arith, Option, Some, None}
use Rattle.std.specs.Prelude.{is_some, slice_get, Result, Ok, Err, IsErrAnd}
use Rattle.isle_lexer.specs.Lexeme.{Lexeme}
use Rattle.isle_reading.specs.Reader.{Reading, Got, Stuck, Reader, Ret, Halt, run, bind}
use Rattle.isle_reading.specs.Combinators.{given, read_open, many}
use Rattle.isle_reading.specs.declared.cursor.Fail.{Fail}
use Rattle.isle_reading.specs.Views.{opens, closes, stops, Refuses}
use Rattle.isle_reading.proofs.Steps.{passed, open_peek, other_peek, barred_stops, then_got, then_refuses, bind_refuses, done_got}
use Rattle.isle_reading.proofs.ListSteps.{in_front, in_front-nil, list-next, list-end, list-refuses, list-full}
use Rattle.isle_syntax.specs.Skipping.{IsGot, Passes}
use Rattle.isle_grammar.specs.Grammar.{any_of}
use Rattle.isle_grammar.specs.Reading.{next_any, read_token, read_any}
use Rattle.isle_grammar.specs.PassedOver.{Any, anys_of}
use Rattle.isle_grammar.specs.PassedOver as passed_over

pub next_there : (ts : List Lexeme) (t : Lexeme) → Some t ≡ slice_get ts 0 → next_any ts ≡ any_of t
next_there [] t e = cc
next_there (u ∷ ts) t e = let x : t ≡ u = cc in ap any_of (sym x)

pub next_missing : (ts : List Lexeme) → None ≡ slice_get ts 0 → next_any ts ≡ None
next_missing [] e = refl
next_missing (u ∷ ts) e = cc

given_got : (o : Option Any) (ts : List Lexeme) (t : Lexeme) (a : Any) → o ≡ Some a → cond (is_some o) (run (given o) ts) (Stuck (t ∷ ts)) ≡ Got a ts
unfolding run
given_got None ts t a e = cc
given_got (Some b) ts t a e = let x : b ≡ a = cc in ap (λ c. Got c ts) x

given_stops : (o : Option Any) (ts : List Lexeme) (t : Lexeme) → o ≡ None → stops (cond (is_some o) (run (given o) ts) (Stuck (t ∷ ts))) ≡ Some (length (t ∷ ts))
given_stops None ts t e = refl
given_stops (Some b) ts t e = cc

pub thing_got : (ts us : List Lexeme) (a : Any) → next_any ts ≡ Some a → us ≡ drop 1 ts → run read_token ts ≡ Got a us
unfolding run read_token
thing_got [] us a e h = cc
thing_got (t ∷ ts) us a e h = given_got (any_of t) ts t a e ∙ ap (Got a) (sym h)

pub thing_stops : (ts : List Lexeme) → next_any ts ≡ None → stops (run read_token ts) ≡ Some (length ts)
unfolding run read_token
thing_stops [] e = refl
thing_stops (t ∷ ts) e = given_stops (any_of t) ts t e

thing_none : run read_token [] ≡ Stuck []
unfolding run read_token
thing_none = refl

-- if no parenthesis opens, it is one token
pub any_thing : (n d : ℕ) (ts : List Lexeme) → None ≡ opens ts → run (read_any n d) ts ≡ run read_token ts
unfolding read_any
any_thing n zero ts e = other_peek _ read_token ts thing_none e
any_thing n (suc d) ts e = other_peek _ read_token ts thing_none e

-- no parenthesis may open
pub any_deep : (n d at : ℕ) (ts : List Lexeme) → Some at ≡ opens ts → d ≡ 0 → stops (run (read_any n d) ts) ≡ Some (length ts)
unfolding read_any
any_deep n zero at ts e z = barred_stops read_token at ts e
any_deep n (suc d) at ts e z = absurd (omega (arith, z))

abbrev pub list_of : ℕ → Reader Any → Reader Any
list_of n r = bind read_open (λ o. bind (many n r) (λ items. Ret (passed_over.Nested (anys_of items))))

-- where a parenthesis opens, it is a list
pub any_list : (n d at : ℕ) (ts : List Lexeme) → 0 < d → Some at ≡ opens ts → run (read_any n d) ts ≡ run (list_of n (read_any n (d - 1))) ts
unfolding read_any
any_list n zero at ts l e = absurd (omega (arith, l))
any_list n (suc d) at ts l e = let k : d ≡ suc d - 1 = omega arith in open_peek _ read_token at ts e ∙ ap (λ k. run (list_of n (read_any n k)) ts) k

-- at the end of the text
pub any_none : (n d : ℕ) → run (read_any n d) [] ≡ Stuck []
any_none n d = any_thing n d [] refl ∙ thing_none

-- what is next is a thing by itself
pub next_is : (ts : List Lexeme) (t : Lexeme) → Some t ≡ slice_get ts 0 → is_some (next_any ts) ≡ is_some (any_of t)
next_is ts t e = ap is_some (next_there ts t e)

pub next_none : (ts : List Lexeme) → None ≡ slice_get ts 0 → false ≡ is_some (next_any ts)
next_none ts e = ap is_some (sym (next_missing ts e))

there_is : (o : Option Any) → true ≡ is_some o → (a : Any) × (o ≡ Some a)
there_is None e = cc
there_is (Some a) e = (a, refl)

is_none : (o : Option Any) → false ≡ is_some o → o ≡ None
is_none None e = refl
is_none (Some a) e = cc

-- a thing of one token was passed over
pub thing_skipped : (ts us : List Lexeme) → true ≡ is_some (next_any ts) → us ≡ drop 1 ts → IsGot (run read_token ts) us
thing_skipped ts us e h = let x = there_is (next_any ts) e in (x.0, thing_got ts us x.0 x.1 h)

-- what is next is no such thing
pub thing_missing : (ts : List Lexeme) → false ≡ is_some (next_any ts) → stops (run read_token ts) ≡ Some (length ts)
thing_missing ts e = thing_stops ts (is_none (next_any ts) e)

-- if no parenthesis opens, what comes of one token comes of the thing
pub thing_passes : (n d : ℕ) (ts rest : List Lexeme) (result : Result (Unit {0}) Fail) → None ≡ opens ts → Passes result (run read_token ts) rest → Passes result (run (read_any n d) ts) rest
thing_passes n d ts rest result e h = subst (λ o. Passes result o rest) (sym (any_thing n d ts e)) h

list_by : (n d at : ℕ) (ts us rest : List Lexeme) (result : Result (Unit {0}) Fail) → run read_open ts ≡ Got at us → Passes result (run (many n (read_any n (d - 1))) us) rest → Passes result (run (list_of n (read_any n (d - 1))) ts) rest
list_by n d at ts us rest (Ok done) o h = (passed_over.Nested (anys_of h.0), then_got _ _ _ _ _ _ o (then_got _ _ _ _ _ _ h.1 (done_got _ _)))
list_by n d at ts us rest (Err fail) o h = then_refuses _ _ _ _ _ _ o (bind_refuses _ _ _ _ h)

-- where a parenthesis opens, what comes of the things inside comes of the list
pub list_passes : (n d at from : ℕ) (ts us rest : List Lexeme) (result : Result (Unit {0}) Fail) → 0 < d → Some at ≡ opens ts → run read_open ts ≡ Got from us
    → Passes result (run (many n (read_any n (d - 1))) us) rest → Passes result (run (read_any n d) ts) rest
list_passes n d at from ts us rest result l e o h = subst (λ z. Passes result z rest) (sym (any_list n d at ts l e)) (list_by n d from ts us rest result o h)

-- a failure that is handed on
pub failed : {A : Type 0} (result : Result (Unit {0}) Fail) (fail : Fail) (o : Reading A) (rest : List Lexeme) → IsErrAnd result (λ y. y ≡ fail) → Refuses fail o → Passes result o rest
failed (Ok done) fail o rest p h = absurd p
failed (Err y) fail o rest p h = subst (λ z. Refuses z o) (sym p) h

-- where a parenthesis opens, a list is refused where that is
pub list_refused : (n d at : ℕ) (ts : List Lexeme) (fail : Fail) → 0 < d → Some at ≡ opens ts → Refuses fail (run read_open ts) → Refuses fail (run (read_any n d) ts)
list_refused n d at ts fail l e h = subst (Refuses fail) (sym (any_list n d at ts l e)) (bind_refuses _ _ _ _ h)

-- with what was passed over in front, the rest reads as all
abbrev pub AreSkipped : ℕ → ℕ → ℕ → (ts whole : List Lexeme) → Type 0
AreSkipped n d i ts whole = (items : List Any) × (in_front items (run (many (n - i) (read_any n d)) ts) ≡ run (many n (read_any n d)) whole)

pub none_skipped : (n d : ℕ) (ts : List Lexeme) → AreSkipped n d 0 ts ts
none_skipped n d ts = let k : n - 0 ≡ n = omega arith in ([], in_front-nil _ ∙ ap (λ m. run (many m (read_any n d)) ts) k)

pub more_skipped : (n d i : ℕ) (ts us whole : List Lexeme) → i < n → None ≡ closes ts → IsGot (run (read_any n d) ts) us → AreSkipped n d i ts whole → AreSkipped n d (i + 1) us whole
more_skipped n d i ts us whole l e g h = (h.0 ++ g.0 ∷ [], list-next (read_any n d) n i ts us h.0 (h.0 ++ g.0 ∷ []) g.0 _ l (any_none n d) e g.1 refl h.1)

pub all_skipped : (n d i at : ℕ) (ts us whole : List Lexeme) → i < n → Some at ≡ closes ts → us ≡ drop 1 ts → AreSkipped n d i ts whole → IsGot (run (many n (read_any n d)) whole) us
all_skipped n d i at ts us whole l e f h = (h.0, list-end (read_any n d) n i at ts us h.0 _ l e f h.1)

pub skip_refused : (n d i : ℕ) (ts whole : List Lexeme) (fail : Fail) → i < n → None ≡ closes ts → Refuses fail (run (read_any n d) ts) → AreSkipped n d i ts whole → Refuses fail (run (many n (read_any n d)) whole)
skip_refused n d i ts whole fail l e f h = list-refuses (read_any n d) fail n i ts h.0 _ l (any_none n d) e f h.1

pub skip_full : (n d i : ℕ) (ts whole : List Lexeme) → n ≤ i → AreSkipped n d i ts whole → stops (run (many n (read_any n d)) whole) ≡ Some (length ts)
skip_full n d i ts whole l h = list-full (read_any n d) n i ts h.0 _ l h.1

pub ruleset nexts = (next_is, next_none)

pub ruleset things = (thing_skipped, thing_missing)

pub ruleset any_steps = (passed, thing_passes, any_deep, list_passes)

pub ruleset lists = (none_skipped, more_skipped, all_skipped, skip_refused, skip_full, passed)
