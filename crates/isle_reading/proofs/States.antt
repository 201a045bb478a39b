-- How tokens lead from state to state.
use Rattle.std.proofs.Common.{◌≡◌, ℕ, zero, suc, ◌≤◌, ◌<◌, List, [], ◌∷◌, length, Bool, true, false, IsTrue, refl, ap, sym, ◌∙◌, subst, arith, Option, Some}
use Rattle.std.specs.Prelude.{if◌then◌else◌}
use Rattle.isle_lexer.specs.Lexeme.{Lexeme, Open, Close, At, Less, Greater, Word}
use Rattle.isle_reading.specs.Combinators.{is_open, is_close, is_at, place}
use Rattle.isle_reading.specs.Nesting.{Mark, Round, Passed, Sign, Last, Headless, Awaiting, Other, Nest, nothing_open, is_passed, settled, here_by, here, opened, closed, signed, passed_over, worded, nest, most_open}
use Rattle.isle_reading.proofs.Passes.{Steps}
use Rattle.isle_reading.proofs.TokenLaws.{WordSteps, open_is, at_is}

-- ---- so many are open, and none of them is an `@`

abbrev pub NoSign : List Mark → Type 0
NoSign [] = Unit {0}
NoSign (Round ∷ ms) = NoSign ms
NoSign (Passed ∷ ms) = NoSign ms
NoSign (Sign ∷ ms) = ⊥

-- the state of a grammar without `@`
pub record Opened (n : ℕ) (q : Nest) : Type 0 where
  pub plain : NoSign q.marks
  pub counted : length q.marks ≡ n

no_sign_settled : (ms : List Mark) → NoSign ms → settled ms ≡ ms
no_sign_settled [] h = refl
no_sign_settled (Round ∷ ms) h = refl
no_sign_settled (Passed ∷ ms) h = refl
no_sign_settled (Sign ∷ ms) h = absurd h

no_sign_here : (l : Last) (ms : List Mark) → NoSign ms → here_by l ms ≡ ms
no_sign_here Headless ms h = refl
no_sign_here Awaiting ms h = refl
no_sign_here Other ms h = no_sign_settled ms h

more_open : (n : ℕ) (ms : List Mark) → NoSign ms → length ms ≡ n → Opened (suc n) (opened ms) × (length (opened ms).marks ≡ suc n)
more_open n [] h e = (record { plain = tt; counted = ap suc e }, ap suc e)
more_open n (Round ∷ ms) h e = (record { plain = h; counted = ap suc e }, ap suc e)
more_open n (Passed ∷ ms) h e = (record { plain = h; counted = ap suc e }, ap suc e)
more_open n (Sign ∷ ms) h e = absurd h

pub opened_start : Opened 0 nothing_open
opened_start = record { plain = tt; counted = refl }

pub opened_open : (n : ℕ) → suc n ≤ most_open → (at : ℕ) → Steps (Opened n) (Opened (suc n)) (Open at)
opened_open n l at q p =
    let x = more_open n (here q) (subst NoSign (sym (no_sign_here q.last q.marks p.plain)) p.plain) (ap length (no_sign_here q.last q.marks p.plain) ∙ p.counted) in
    (omega (arith, l, x.1), x.0)

less_open : (n : ℕ) (ms : List Mark) → NoSign ms → length ms ≡ suc n → NoSign (closed ms) × (length (closed ms) ≡ n)
less_open n [] h e = absurd (omega (arith, e))
less_open n (Round ∷ ms) h e = (h, omega (arith, e))
less_open n (Passed ∷ ms) h e = (h, omega (arith, e))
less_open n (Sign ∷ ms) h e = absurd h

pub opened_close : (n : ℕ) → suc n ≤ most_open → (at : ℕ) → Steps (Opened (suc n)) (Opened n) (Close at)
opened_close n l at q p =
    let x = less_open n (here q) (subst NoSign (sym (no_sign_here q.last q.marks p.plain)) p.plain) (ap length (no_sign_here q.last q.marks p.plain) ∙ p.counted) in
    (omega (arith, l, x.1), record { plain = x.0; counted = x.1 })

over_passed : (b : Bool) (n : ℕ) (ms : List Mark) → NoSign ms → length ms ≡ n → NoSign (if b then passed_over ms else ms) × (length (if b then passed_over ms else ms) ≡ n)
over_passed false n ms h e = (h, e)
over_passed true n [] h e = (h, e)
over_passed true n (Round ∷ ms) h e = (h, e)
over_passed true n (Passed ∷ ms) h e = (h, e)
over_passed true n (Sign ∷ ms) h e = absurd h

same_open : (n : ℕ) (l : Last) (w : List ℕ) (ms : List Mark) → NoSign ms → length ms ≡ n → NoSign (worded l w ms) × (length (worded l w ms) ≡ n)
same_open n Headless w ms h e = over_passed (is_passed w) n ms h e
same_open n Awaiting w ms h e = (h, e)
same_open n Other w ms h e = (subst NoSign (sym (no_sign_settled ms h)) h, ap length (no_sign_settled ms h) ∙ e)

pub opened_word : {A : Type 0} (n : ℕ) (f : List ℕ → Option A) → n ≤ most_open → WordSteps (Opened n) (λ a. Opened n) f
opened_word n f l at w a e q p = let x = same_open n q.last w q.marks p.plain p.counted in (omega (arith, l, x.1), record { plain = x.0; counted = x.1 })

-- if as many are open as may be, one more is too deep
pub opened_over : (n : ℕ) → most_open ≡ n → (q : Nest) (t : Lexeme) → Opened n q → IsTrue (is_open t) → most_open < length (nest q t).marks
opened_over n e q t p is =
    let x = more_open n (here q) (subst NoSign (sym (no_sign_here q.last q.marks p.plain)) p.plain) (ap length (no_sign_here q.last q.marks p.plain) ∙ p.counted) in
    subst (λ z. most_open < length (nest q z).marks) (sym (open_is t is)) (omega (arith, e, x.1))

-- ---- these marks are open

-- no parenthesis whose first word is still to come
abbrev pub IsHeaded : Last → Type 0
IsHeaded Headless = ⊥
IsHeaded Awaiting = Unit {0}
IsHeaded Other = Unit {0}

-- the state of a grammar with `@`: where a token stands that is none
pub record Inside (ms : List Mark) (q : Nest) : Type 0 where
  pub stands : here q ≡ ms
  pub headed : IsHeaded q.last

-- directly after a parenthesis at the top
abbrev pub AtHead : Nest → Type 0
AtHead q = q ≡ record { marks = Round ∷ []; last = Headless }

-- directly after a word, where an `@` may stand
abbrev pub Behind : List Mark → Nest → Type 0
Behind ms q = q ≡ record { marks = ms; last = Other }

-- in a list that is not passed over
abbrev pub InList : List Mark → Type 0
InList [] = ⊥
InList (Round ∷ ms) = Unit {0}
InList (Passed ∷ ms) = ⊥
InList (Sign ∷ ms) = Unit {0}

pub inside_start : Inside [] nothing_open
inside_start = record { stands = refl; headed = tt }

pub top_open : 1 ≤ most_open → (at : ℕ) → Steps (Inside []) AtHead (Open at)
top_open l at q p = let e : nest q (Open at) ≡ record { marks = Round ∷ []; last = Headless } = ap opened p.stands in (subst (λ z. length z.marks ≤ most_open) (sym e) l, e)

more_inside : (ms : List Mark) → InList ms → opened ms ≡ record { marks = Round ∷ ms; last = Other }
more_inside [] h = absurd h
more_inside (Round ∷ ms) h = refl
more_inside (Passed ∷ ms) h = absurd h
more_inside (Sign ∷ ms) h = refl

settled_inside : (ms : List Mark) (q : Nest) → q ≡ record { marks = ms; last = Other } → Inside (settled ms) q
settled_inside ms q e = subst (Inside (settled ms)) (sym e) (record { stands = refl; headed = tt })

pub inside_open : (ms : List Mark) → InList ms → suc (length ms) ≤ most_open → (at : ℕ) → Steps (Inside ms) (Inside (Round ∷ ms)) (Open at)
inside_open ms h l at q p =
    let e : nest q (Open at) ≡ record { marks = Round ∷ ms; last = Other } = ap opened p.stands ∙ more_inside ms h in
    (subst (λ z. length z.marks ≤ most_open) (sym e) l, settled_inside (Round ∷ ms) (nest q (Open at)) e)

pub inside_close : (m : Mark) (ms : List Mark) → length ms ≤ most_open → (at : ℕ) → Steps (Inside (m ∷ ms)) (Inside (settled ms)) (Close at)
inside_close m ms l at q p =
    let e : nest q (Close at) ≡ record { marks = ms; last = Other } = ap (λ z. record { marks = closed z; last = Other }) p.stands in
    (subst (λ z. length z.marks ≤ most_open) (sym e) l, settled_inside ms (nest q (Close at)) e)

pub close_behind : (m : Mark) (ms : List Mark) → length ms ≤ most_open → (at : ℕ) → Steps (Inside (m ∷ ms)) (Behind ms) (Close at)
close_behind m ms l at q p =
    let e : nest q (Close at) ≡ record { marks = ms; last = Other } = ap (λ z. record { marks = closed z; last = Other }) p.stands in
    (subst (λ z. length z.marks ≤ most_open) (sym e) l, e)

worded_here : (l : Last) (w : List ℕ) (ms : List Mark) → IsHeaded l → worded l w ms ≡ here_by l ms
worded_here Headless w ms h = absurd h
worded_here Awaiting w ms h = refl
worded_here Other w ms h = refl

word_behind : (ms : List Mark) (at : ℕ) (w : List ℕ) (q : Nest) → Inside ms q → nest q (Word at w) ≡ record { marks = ms; last = Other }
word_behind ms at w q p = ap (λ z. record { marks = z; last = Other }) (worded_here q.last w q.marks p.headed ∙ p.stands)

pub inside_word : {A : Type 0} (ms : List Mark) (f : List ℕ → Option A) → length ms ≤ most_open → WordSteps (Inside ms) (λ a. Inside (settled ms)) f
inside_word ms f l at w a e q p = let x = word_behind ms at w q p in (subst (λ z. length z.marks ≤ most_open) (sym x) l, settled_inside ms (nest q (Word at w)) x)

pub behind_word : {A : Type 0} (ms : List Mark) (f : List ℕ → Option A) → length ms ≤ most_open → WordSteps (Inside ms) (λ a. Behind ms) f
behind_word ms f l at w a e q p = let x = word_behind ms at w q p in (subst (λ z. length z.marks ≤ most_open) (sym x) l, x)

pub behind_inside : (ms : List Mark) (q : Nest) → Behind ms q → Inside (settled ms) q
behind_inside ms q e = settled_inside ms q e

more_signed : (ms : List Mark) → InList ms → signed ms ≡ record { marks = Sign ∷ ms; last = Awaiting }
more_signed [] h = absurd h
more_signed (Round ∷ ms) h = refl
more_signed (Passed ∷ ms) h = absurd h
more_signed (Sign ∷ ms) h = refl

pub behind_at : (ms : List Mark) → InList ms → suc (length ms) ≤ most_open → (at : ℕ) → Steps (Behind ms) (Inside (Sign ∷ ms)) (At at)
behind_at ms h l at q p =
    let e : nest q (At at) ≡ record { marks = Sign ∷ ms; last = Awaiting } = ap (λ (z : Nest). signed z.marks) p ∙ more_signed ms h in
    (subst (λ z. length z.marks ≤ most_open) (sym e) l, subst (Inside (Sign ∷ ms)) (sym e) (record { stands = refl; headed = tt }))

-- the first word of a list at the top that is not passed over
pub head_word : {A : Type 0} (f : List ℕ → Option A) → 1 ≤ most_open → ((w : List ℕ) (a : A) → f w ≡ Some a → is_passed w ≡ false) → WordSteps AtHead (λ a. Inside (Round ∷ [])) f
head_word f l not at w a e q p =
    let x : nest q (Word at w) ≡ record { marks = Round ∷ []; last = Other } = ap (λ z. nest z (Word at w)) p ∙ ap (λ b. record { marks = if b then Passed ∷ [] else Round ∷ []; last = Other }) (not w a e) in
    (subst (λ z. length z.marks ≤ most_open) (sym x) l, settled_inside (Round ∷ []) (nest q (Word at w)) x)

-- if as many are open as may be, one more is too deep
pub inside_over : (ms : List Mark) → InList ms → most_open ≡ length ms → (q : Nest) (t : Lexeme) → Inside ms q → IsTrue (is_open t) → most_open < length (nest q t).marks
inside_over ms h e q t p is =
    let x : length (nest q (Open (place t))).marks ≡ suc (length ms) = ap (λ (z : Nest). length z.marks) (ap opened p.stands ∙ more_inside ms h) in
    subst (λ z. most_open < length (nest q z).marks) (sym (open_is t is)) (omega (arith, e, x))

pub behind_over : (ms : List Mark) → InList ms → most_open ≡ length ms → (q : Nest) (t : Lexeme) → Behind ms q → IsTrue (is_at t) → most_open < length (nest q t).marks
behind_over ms h e q t p is =
    let x : length (nest q (At (place t))).marks ≡ suc (length ms) = ap (λ (z : Nest). length z.marks) (ap (λ (z : Nest). signed z.marks) p ∙ more_signed ms h) in
    subst (λ z. most_open < length (nest q z).marks) (sym (at_is t is)) (omega (arith, e, x))

-- ---- in a list that is passed over, where an `@` is a token like another

-- so many parentheses
abbrev pub passed : ℕ → List Mark
passed zero = []
passed (suc k) = Passed ∷ passed k

abbrev pub InPassed : ℕ → Nest → Type 0
InPassed k q = q ≡ record { marks = passed k; last = Other }

passed_length : (k : ℕ) → length (passed k) ≡ k
passed_length zero = refl
passed_length (suc k) = ap suc (passed_length k)

-- a token that leads there, if so many may be open
led : (j k : ℕ) (t : Lexeme) → k ≤ most_open → nest (record { marks = passed j; last = Other }) t ≡ record { marks = passed k; last = Other } → Steps (InPassed j) (InPassed k) t
led j k t l e q p =
    let x : nest q t ≡ record { marks = passed k; last = Other } = ap (λ (z : Nest). nest z t) p ∙ e in
    let y : length (passed k) ≡ k = passed_length k in
    (subst (λ (z : Nest). length z.marks ≤ most_open) (sym x) (omega (arith, l, y)), x)

pub passed_open : (k : ℕ) → suc (suc k) ≤ most_open → (at : ℕ) → Steps (InPassed (suc k)) (InPassed (suc (suc k))) (Open at)
passed_open k l at = led (suc k) (suc (suc k)) (Open at) l refl

pub passed_close : (k : ℕ) → k ≤ most_open → (at : ℕ) → Steps (InPassed (suc k)) (InPassed k) (Close at)
passed_close k l at = led (suc k) k (Close at) l refl

pub passed_token : (k : ℕ) → suc k ≤ most_open → (t : Lexeme) → is_open t ≡ false → is_close t ≡ false → Steps (InPassed (suc k)) (InPassed (suc k)) t
passed_token k l (Open at) e f = cc
passed_token k l (Close at) e f = cc
passed_token k l (At at) e f = led (suc k) (suc k) (At at) l refl
passed_token k l (Less at) e f = led (suc k) (suc k) (Less at) l refl
passed_token k l (Greater at) e f = led (suc k) (suc k) (Greater at) l refl
passed_token k l (Word at w) e f = led (suc k) (suc k) (Word at w) l refl

pub passed_over_more : (k : ℕ) → most_open ≡ suc k → (q : Nest) (t : Lexeme) → InPassed (suc k) q → IsTrue (is_open t) → most_open < length (nest q t).marks
passed_over_more k e q t p is =
    let x : length (nest q (Open (place t))).marks ≡ suc (suc (length (passed k))) = ap (λ (z : Nest). length (nest z (Open (place t))).marks) p in
    let y : length (passed k) ≡ k = passed_length k in
    subst (λ z. most_open < length (nest q z).marks) (sym (open_is t is)) (omega (arith, e, x, y))

-- after its last parenthesis
pub passed_behind : (q : Nest) → InPassed 0 q → Inside [] q
passed_behind q p = settled_inside [] q p

-- the first word of a list at the top, by what it gives: whether the list is passed over
pub head_word_by : {A : Type 0} (f : List ℕ → Option A) (over : A → Bool) → 1 ≤ most_open → ((w : List ℕ) (a : A) → f w ≡ Some a → is_passed w ≡ over a)
    → WordSteps AtHead (λ a q. q ≡ record { marks = if over a then Passed ∷ [] else Round ∷ []; last = Other }) f
head_word_by f over l is at w a e q p =
    let x : nest q (Word at w) ≡ record { marks = if over a then Passed ∷ [] else Round ∷ []; last = Other } = ap (λ z. nest z (Word at w)) p ∙ ap (λ b. record { marks = if b then Passed ∷ [] else Round ∷ []; last = Other }) (is w a e) in
    (subst (λ z. length z.marks ≤ most_open) (sym x) (one_mark (over a)), x)
  where
    one_mark : (b : Bool) → length (if b then Passed ∷ [] else Round ∷ []) ≤ most_open
    one_mark true = l
    one_mark false = l
