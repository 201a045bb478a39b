-- The steps of a loop that reads a list.
use Rattle.std.proofs.Common.{◌≡◌, ℕ, zero, suc, ◌+◌, ◌-◌, ◌<◌, ◌≤◌, List, [], ◌∷◌, ◌++◌, length, drop, map, append-nil, append_assoc, refl, ap, sym, ◌∙◌, subst, arith, Some, None}
use Rattle.std.proofs.lemmas.List.{map-append}
use Rattle.isle_lexer.specs.Lexeme.{Lexeme, Open, Close, At, Less, Greater, Word}
use Rattle.isle_reading.specs.declared.cursor.Fail.{Fail}
use Rattle.isle_reading.specs.Reader.{Reading, Got, Stuck, Deep, Reader, Ret, after, run, bind}
use Rattle.isle_reading.specs.Combinators.{read_close, many, some, all_from}
use Rattle.isle_reading.specs.Views.{closes, stops, Refuses}
use Rattle.isle_reading.proofs.Running.{run-bind}
use Rattle.isle_reading.proofs.Steps.{passed, refuses_after, no_close_peek}

-- values in front of those that are still to be read
unfoldable pub in_front : {A : Type 0} → List A → Reading (List A) → Reading (List A)
in_front xs o = after o (λ ys us. Got (xs ++ ys) us)

-- a value in front of the others
abbrev with_others : {A : Type 0} → A → Reading (List A) → Reading (List A)
with_others a o = after o (λ others us. Got (a ∷ others) us)

-- nothing in front
pub in_front-nil : {A : Type 0} (o : Reading (List A)) → in_front [] o ≡ o
unfolding in_front
in_front-nil (Got ys us) = refl
in_front-nil (Stuck us) = refl
in_front-nil (Deep us) = refl

in_front-more : {A : Type 0} (xs : List A) (a : A) (o : Reading (List A)) → in_front xs (with_others a o) ≡ in_front (xs ++ a ∷ []) o
unfolding in_front
in_front-more xs a (Got ys us) = ap (λ z. Got z us) (sym (append_assoc xs (a ∷ []) ys))
in_front-more xs a (Stuck us) = refl
in_front-more xs a (Deep us) = refl

in_front-got : {A : Type 0} (xs : List A) (us : List Lexeme) → in_front xs (Got [] us) ≡ Got xs us
unfolding in_front
in_front-got xs us = ap (λ z. Got z us) (append-nil xs)

in_front-refuses : {A : Type 0} (fail : Fail) (xs : List A) (o : Reading (List A)) → Refuses fail o → Refuses fail (in_front xs o)
unfolding in_front
in_front-refuses fail xs o h = refuses_after fail o (λ ys us. Got (xs ++ ys) us) h

in_front-stops : {A : Type 0} (xs : List A) (o : Reading (List A)) → stops (in_front xs o) ≡ stops o
unfolding in_front
in_front-stops xs (Got ys us) = refl
in_front-stops xs (Stuck us) = refl
in_front-stops xs (Deep us) = refl

more-by : {A : Type 0} (r : Reader A) (k : A → Reader (List A)) (ts : List Lexeme) → run (bind r (λ a. bind (k a) (λ others. Ret (a ∷ others)))) ts ≡ after (run r ts) (λ a us. with_others a (run (k a) us))
unfolding run
more-by {A = A} r k ts = run-bind r (λ a. bind (k a) (λ others. Ret (a ∷ others))) ts ∙ inner (run r ts)
  where
    inner : (o : Reading A) → after o (λ a us. run (bind (k a) (λ others. Ret (a ∷ others))) us) ≡ after o (λ a us. with_others a (run (k a) us))
    inner (Got a us) = run-bind (k a) (λ others. Ret (a ∷ others)) us
    inner (Stuck us) = refl
    inner (Deep us) = refl

-- ---- up to a closing parenthesis

-- no parenthesis is next
next-by : {A : Type 0} (r : Reader A) (m : ℕ) (ts : List Lexeme) → run r [] ≡ Stuck [] → None ≡ closes ts → run (many (suc m) r) ts ≡ after (run r ts) (λ a us. with_others a (run (many m r) us))
unfolding many run bind
next-by r m [] none e = sym (ap (λ o. after o (λ a us. with_others a (run (many m r) us))) none)
next-by r m (Open n ∷ ts) none e = more-by r (λ a. many m r) (Open n ∷ ts)
next-by r m (Close n ∷ ts) none e = cc
next-by r m (At n ∷ ts) none e = more-by r (λ a. many m r) (At n ∷ ts)
next-by r m (Less n ∷ ts) none e = more-by r (λ a. many m r) (Less n ∷ ts)
next-by r m (Greater n ∷ ts) none e = more-by r (λ a. many m r) (Greater n ∷ ts)
next-by r m (Word n w ∷ ts) none e = more-by r (λ a. many m r) (Word n w ∷ ts)

closed-by : {A : Type 0} (r : Reader A) (m at : ℕ) (ts : List Lexeme) → Some at ≡ closes ts → run (many (suc m) r) ts ≡ Got [] (drop 1 ts)
unfolding many read_close run bind
closed-by r m at [] e = cc
closed-by r m at (Open n ∷ ts) e = cc
closed-by r m at (Close n ∷ ts) e = refl
closed-by r m at (At n ∷ ts) e = cc
closed-by r m at (Less n ∷ ts) e = cc
closed-by r m at (Greater n ∷ ts) e = cc
closed-by r m at (Word n w ∷ ts) e = cc

full-by : {A : Type 0} (r : Reader A) (ts : List Lexeme) → stops (run (many zero r) ts) ≡ Some (length ts)
unfolding many run
full-by r [] = refl
full-by r (t ∷ ts) = refl

-- a list of values if no parenthesis is next has at least one
pub some-by : {A : Type 0} (r : Reader A) (m : ℕ) (ts : List Lexeme) → 0 < length ts → None ≡ closes ts → run (many (suc m) r) ts ≡ run (some m r) ts
unfolding many
some-by r m ts l e = no_close_peek (bind read_close (λ c. Ret [])) (some m r) ts l e

-- a value more
pub list-more : {T A : Type 0} (view : T → A) (r : Reader A) (m i : ℕ) (ts us : List Lexeme) (xs ys : List T) (x : T) (whole : Reading (List A)) → i < m → run r [] ≡ Stuck [] → None ≡ closes ts
    → run r ts ≡ Got (view x) us → ys ≡ xs ++ x ∷ [] → in_front (map view xs) (run (many (m - i) r) ts) ≡ whole → in_front (map view ys) (run (many (m - (i + 1)) r) us) ≡ whole
list-more view r m i ts us xs ys x whole l none e f p h =
    let k : m - i ≡ suc (m - (i + 1)) = omega arith in
    ap (λ zs. in_front (map view zs) (run (many (m - (i + 1)) r) us)) p ∙ ap (λ zs. in_front zs (run (many (m - (i + 1)) r) us)) (map-append view xs (x ∷ []))
    ∙ sym (in_front-more (map view xs) (view x) (run (many (m - (i + 1)) r) us)) ∙ ap (λ o. in_front (map view xs) (after o (λ a us. with_others a (run (many (m - (i + 1)) r) us)))) (sym f)
    ∙ ap (in_front (map view xs)) (sym (next-by r (m - (i + 1)) ts none e)) ∙ ap (λ n. in_front (map view xs) (run (many n r) ts)) (sym k) ∙ h

map_same : {A : Type 0} (xs : List A) → map (λ x. x) xs ≡ xs
map_same [] = refl
map_same (x ∷ xs) = ap (λ zs. x ∷ zs) (map_same xs)

-- a value more, which is seen as it is
pub list-next : {A : Type 0} (r : Reader A) (m i : ℕ) (ts us : List Lexeme) (xs ys : List A) (x : A) (whole : Reading (List A)) → i < m → run r [] ≡ Stuck [] → None ≡ closes ts
    → run r ts ≡ Got x us → ys ≡ xs ++ x ∷ [] → in_front xs (run (many (m - i) r) ts) ≡ whole → in_front ys (run (many (m - (i + 1)) r) us) ≡ whole
list-next r m i ts us xs ys x whole l none e f p h =
    ap (λ zs. in_front zs (run (many (m - (i + 1)) r) us)) (sym (map_same ys)) ∙ list-more (λ z. z) r m i ts us xs ys x whole l none e f p (ap (λ zs. in_front zs (run (many (m - i) r) ts)) (map_same xs) ∙ h)

-- the end of the list
pub list-end : {A : Type 0} (r : Reader A) (m i at : ℕ) (ts us : List Lexeme) (xs : List A) (whole : Reading (List A)) → i < m → Some at ≡ closes ts → us ≡ drop 1 ts
    → in_front xs (run (many (m - i) r) ts) ≡ whole → whole ≡ Got xs us
list-end r m i at ts us xs whole l e f h =
    let k : m - i ≡ suc (m - (i + 1)) = omega arith in
    sym h ∙ ap (λ n. in_front xs (run (many n r) ts)) k ∙ ap (in_front xs) (closed-by r (m - (i + 1)) at ts e) ∙ in_front-got xs (drop 1 ts) ∙ ap (Got xs) (sym f)

-- a value that is refused
pub list-refuses : {A : Type 0} (r : Reader A) (fail : Fail) (m i : ℕ) (ts : List Lexeme) (xs : List A) (whole : Reading (List A)) → i < m → run r [] ≡ Stuck [] → None ≡ closes ts
    → Refuses fail (run r ts) → in_front xs (run (many (m - i) r) ts) ≡ whole → Refuses fail whole
list-refuses r fail m i ts xs whole l none e f h =
    let k : m - i ≡ suc (m - (i + 1)) = omega arith in
    subst (Refuses fail) (ap (in_front xs) (sym (next-by r (m - (i + 1)) ts none e)) ∙ ap (λ n. in_front xs (run (many n r) ts)) (sym k) ∙ h)
    (in_front-refuses fail xs _ (refuses_after fail (run r ts) (λ a us. with_others a (run (many (m - (i + 1)) r) us)) f))

-- too many of them
pub list-full : {A : Type 0} (r : Reader A) (m i : ℕ) (ts : List Lexeme) (xs : List A) (whole : Reading (List A)) → m ≤ i → in_front xs (run (many (m - i) r) ts) ≡ whole → stops whole ≡ Some (length ts)
list-full r m i ts xs whole l h =
    let k : m - i ≡ zero = omega arith in
    ap stops (sym h ∙ ap (λ j. in_front xs (run (many j r) ts)) k) ∙ in_front-stops xs (run (many zero r) ts) ∙ full-by r ts

pub ruleset lists = (in_front-nil, list-more, list-end, list-refuses, list-full, passed)

-- ---- up to the end of the text

all-by : {St A : Type 0} (r : St → Reader A) (next : St → A → St) (s : St) (m : ℕ) (ts : List Lexeme) → 0 < length ts
    → run (all_from (suc m) r next s) ts ≡ after (run (r s) ts) (λ a us. with_others a (run (all_from m r next (next s a)) us))
unfolding all_from run
all-by r next s m [] l = absurd (omega (arith, l))
all-by r next s m (t ∷ ts) l = more-by (r s) (λ a. all_from m r next (next s a)) (t ∷ ts)

ended-by : {St A : Type 0} (r : St → Reader A) (next : St → A → St) (s : St) (m : ℕ) (ts : List Lexeme) → length ts ≡ 0 → run (all_from m r next s) ts ≡ Got [] ts
unfolding all_from run
ended-by r next s zero [] e = refl
ended-by r next s (suc m) [] e = refl
ended-by r next s m (t ∷ ts) e = absurd (omega (arith, e))

all-full-by : {St A : Type 0} (r : St → Reader A) (next : St → A → St) (s : St) (ts : List Lexeme) → 0 < length ts → stops (run (all_from zero r next s) ts) ≡ Some (length ts)
unfolding all_from run
all-full-by r next s [] l = absurd (omega (arith, l))
all-full-by r next s (t ∷ ts) l = refl

-- a value more
pub all-more : {St T A : Type 0} (view : T → A) (r : St → Reader A) (next : St → A → St) (s u : St) (m i : ℕ) (ts us : List Lexeme) (xs ys : List T) (x : T) (whole : Reading (List A)) → i < m → 0 < length ts
    → run (r s) ts ≡ Got (view x) us → ys ≡ xs ++ x ∷ [] → u ≡ next s (view x) → in_front (map view xs) (run (all_from (m - i) r next s) ts) ≡ whole → in_front (map view ys) (run (all_from (m - (i + 1)) r next u) us) ≡ whole
all-more view r next s u m i ts us xs ys x whole l some f p q h =
    let k : m - i ≡ suc (m - (i + 1)) = omega arith in
    ap (λ v. in_front (map view ys) (run (all_from (m - (i + 1)) r next v) us)) q
    ∙ ap (λ zs. in_front (map view zs) (run (all_from (m - (i + 1)) r next (next s (view x))) us)) p ∙ ap (λ zs. in_front zs (run (all_from (m - (i + 1)) r next (next s (view x))) us)) (map-append view xs (x ∷ []))
    ∙ sym (in_front-more (map view xs) (view x) (run (all_from (m - (i + 1)) r next (next s (view x))) us)) ∙ ap (λ o. in_front (map view xs) (after o (λ a us. with_others a (run (all_from (m - (i + 1)) r next (next s a)) us)))) (sym f)
    ∙ ap (in_front (map view xs)) (sym (all-by r next s (m - (i + 1)) ts some)) ∙ ap (λ n. in_front (map view xs) (run (all_from n r next s) ts)) (sym k) ∙ h

-- the end of the text
pub all-end : {St A : Type 0} (r : St → Reader A) (next : St → A → St) (s : St) (m : ℕ) (ts : List Lexeme) (xs : List A) (whole : Reading (List A)) → length ts ≡ 0 → in_front xs (run (all_from m r next s) ts) ≡ whole → whole ≡ Got xs ts
all-end r next s m ts xs whole e h = sym h ∙ ap (in_front xs) (ended-by r next s m ts e) ∙ in_front-got xs ts

-- a value that is refused
pub all-refuses : {St A : Type 0} (r : St → Reader A) (next : St → A → St) (s : St) (fail : Fail) (m i : ℕ) (ts : List Lexeme) (xs : List A) (whole : Reading (List A)) → i < m → 0 < length ts
    → Refuses fail (run (r s) ts) → in_front xs (run (all_from (m - i) r next s) ts) ≡ whole → Refuses fail whole
all-refuses r next s fail m i ts xs whole l some f h =
    let k : m - i ≡ suc (m - (i + 1)) = omega arith in
    subst (Refuses fail) (ap (in_front xs) (sym (all-by r next s (m - (i + 1)) ts some)) ∙ ap (λ n. in_front xs (run (all_from n r next s) ts)) (sym k) ∙ h)
    (in_front-refuses fail xs _ (refuses_after fail (run (r s) ts) (λ a us. with_others a (run (all_from (m - (i + 1)) r next (next s a)) us)) f))

-- too many of them
pub all-full : {St A : Type 0} (r : St → Reader A) (next : St → A → St) (s : St) (m i : ℕ) (ts : List Lexeme) (xs : List A) (whole : Reading (List A)) → m ≤ i → 0 < length ts
    → in_front xs (run (all_from (m - i) r next s) ts) ≡ whole → stops whole ≡ Some (length ts)
all-full r next s m i ts xs whole l some h =
    let k : m - i ≡ zero = omega arith in
    ap stops (sym h ∙ ap (λ j. in_front xs (run (all_from j r next s) ts)) k) ∙ in_front-stops xs (run (all_from zero r next s) ts) ∙ all-full-by r next s ts some

pub ruleset alls = (in_front-nil, all-more, all-end, all-refuses, all-full, passed)
