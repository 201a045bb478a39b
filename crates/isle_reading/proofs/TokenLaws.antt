-- The laws of readers of one token, of a word, and of a look at the next token.
use Rattle.std.proofs.Common.{◌≡◌, ℕ, zero, suc, ◌<◌, List, [], ◌∷◌, ◌++◌, length, Bool, true, false, IsTrue, ◌⊎◌, inl, inr, cond, refl, ap, sym, ◌∙◌, subst, arith, Option, Some, None}
use Rattle.std.specs.Prelude.{is_some}
use Rattle.isle_lexer.specs.Lexeme.{Lexeme, Open, Close, At, Less, Greater, Word}
use Rattle.isle_reading.specs.Reader.{Reading, Got, Stuck, Deep, Reader, Ret, Ask, Peek, End, Halt, run, bind}
use Rattle.isle_reading.specs.Combinators.{is_open, is_close, is_at, on_word, bytes, place, refuse, read_open, read_close, read_at, given, read_word, read_optional, words_from, at_end}
use Rattle.isle_reading.specs.Nesting.{Nest, nest, most_open}
use Rattle.isle_reading.specs.Relations.{Begins, Taken, Begun, Ended, WordsFrom, no_word, a_word}
use Rattle.isle_reading.proofs.Running.{stuck_not_got, stuck_not_deep, got_not_deep, got_is, stuck_is, deep_is}
use Rattle.isle_reading.proofs.Passes.{none, one, Nests, Within, Steps}
use Rattle.isle_reading.proofs.Law.{Hits, hit, too_deep, Law, Heads, Some_token, Nothing, NothingLeft, Then, Either, law_map, law_next, leads_behind}

-- ---- nothing

pub law_ret : {A : Type 0} {P : Nest → Type 0} {E : A → Nest → Type 0} {C : List Lexeme → Type 0} {n : ℕ} (a : A) → ((q : Nest) → P q → E a q) → Law P E C n (Nothing a) (Ret a)
unfolding run
law_ret a h = record {
  sound = λ ts rest b e. let x = got_is ts rest a b _ refl e in ((sym x.1, x.0), ([], x.0, λ tail c. (sym x.1, refl)));
  complete = λ ts rest b s c. hit (ap (Got a) s.1 ∙ ap (λ z. Got z rest) (sym s.0));
  closes = λ ts rest e. absurd (stuck_not_got _ rest ts a e refl);
  deepens = λ ts rest e. absurd (got_not_deep _ ts rest a refl e);
  leads = λ q ts p. (q, none q ts, h q p);
  ends = ([], a, λ tail c. (refl, refl));
}

-- ---- a token, and what hangs on it

-- a token that passes the test, and what hangs on it
abbrev pub Token_then : {A : Type 0} → (Lexeme → Bool) → (Lexeme → A → List Lexeme → List Lexeme → Type 0) → A → List Lexeme → List Lexeme → Type 0
Token_then test S a ts rest = (t : Lexeme) × (us : List Lexeme) × (ts ≡ t ∷ us) × IsTrue (test t) × S t a us rest

cond_got : {A : Type 0} (b : Bool) (o : Reading A) (us rest : List Lexeme) (a : A) → cond b o (Stuck us) ≡ Got a rest → IsTrue b × (o ≡ Got a rest)
cond_got true o us rest a e = (refl, e)
cond_got false o us rest a e = absurd (stuck_not_got _ us rest a refl e)

cond_deep : {A : Type 0} (b : Bool) (o : Reading A) (us rest : List Lexeme) → cond b o (Stuck us) ≡ Deep rest → IsTrue b × (o ≡ Deep rest)
cond_deep true o us rest e = (refl, e)
cond_deep false o us rest e = absurd (stuck_not_deep _ us rest refl e)

cond_stuck : {A : Type 0} (b : Bool) (o : Reading A) (us rest : List Lexeme) → cond b o (Stuck us) ≡ Stuck rest → (IsTrue b × (o ≡ Stuck rest)) ⊎ (us ≡ rest)
cond_stuck true o us rest e = inl (refl, e)
cond_stuck false o us rest e = inr (stuck_is us rest _ refl e)

cond_true : {A : Type 0} (b : Bool) (x y : A) → IsTrue b → cond b x y ≡ x
cond_true true x y h = refl
cond_true false x y h = cc

begun_here : {A : Type 0} {C : List Lexeme → Type 0} (S : A → List Lexeme → List Lexeme → Type 0) (ts rest : List Lexeme) → Begins C S [] → ts ≡ rest → Begun C S ts rest
begun_here S ts rest b e = ([], e, b)

begun_more : {A : Type 0} {C : List Lexeme → Type 0} (test : Lexeme → Bool) (S : Lexeme → A → List Lexeme → List Lexeme → Type 0) (t : Lexeme) (us rest : List Lexeme)
    → IsTrue (test t) → Begun C (S t) us rest → Begun C (Token_then test S) (t ∷ us) rest
begun_more test S t us rest is x = (t ∷ x.0, ap (λ z. t ∷ z) x.1, (x.2.0, x.2.1, λ tail c. (t, (x.0 ++ x.2.0) ++ tail, refl, is, x.2.2 tail c)))

ask_leads : {A : Type 0} (E : A → Nest → Type 0) (n : ℕ) (b : Bool) (q : Nest) (t : Lexeme) (us : List Lexeme) (o : Reading A)
    → (IsTrue b → Within q t × Nests E n (nest q t) us o) → Nests E n q (t ∷ us) (cond b o (Stuck (t ∷ us)))
ask_leads E n true q t us o h = let x = h refl in leads_behind E n n q (nest q t) (t ∷ us) us o (one q (nest q t) t us us x.0 (none (nest q t) us)) (λ l. omega (arith, l)) x.1
ask_leads E n false q t us o h = (q, none q (t ∷ us))

pub law_ask : {A : Type 0} {P : Nest → Type 0} {E : A → Nest → Type 0} {C : List Lexeme → Type 0} {n : ℕ} (Q : Lexeme → Nest → Type 0) (S : Lexeme → A → List Lexeme → List Lexeme → Type 0)
    (test : Lexeme → Bool) (f : Lexeme → Reader A) → ((t : Lexeme) → IsTrue (test t) → Steps P (Q t) t) → ((t : Lexeme) → IsTrue (test t) → Law (Q t) E C n (S t) (f t)) → Begins C (Token_then test S) []
    → Law P E C n (Token_then test S) (Ask test f)
unfolding run
law_ask {A = A} {P = P} {E = E} {C = C} {n = n} Q S test f steps h b = record { sound = sound; complete = complete; closes = closes; deepens = deepens; leads = leads; ends = b }
  where
    sound : (ts rest : List Lexeme) (a : A) → run (Ask test f) ts ≡ Got a rest → Token_then test S a ts rest × Taken C (Token_then test S) a ts rest
    sound [] rest a e = absurd (stuck_not_got _ [] rest a refl e)
    sound (t ∷ us) rest a e =
        let x = cond_got (test t) _ (t ∷ us) rest a e in
        let s = (h t x.0).sound us rest a x.1 in
        ((t, us, refl, x.0, s.0), (t ∷ s.1.0, ap (λ z. t ∷ z) s.1.1, λ tail c. (t, s.1.0 ++ tail, refl, x.0, s.1.2 tail c)))

    complete : (ts rest : List Lexeme) (a : A) → Token_then test S a ts rest → C rest → Hits (run (Ask test f) ts) a rest
    complete ts rest a (t, us, e, is, s) c =
        subst (λ z. Hits (run (Ask test f) z) a rest) (sym e) (subst (λ o. Hits o a rest) (sym (cond_true (test t) _ _ is)) ((h t is).complete us rest a s c))

    closes : (ts rest : List Lexeme) → run (Ask test f) ts ≡ Stuck rest → Begun C (Token_then test S) ts rest
    closes [] rest e = begun_here (Token_then test S) [] rest b (stuck_is [] rest _ refl e)
    closes (t ∷ us) rest e = elim (cond_stuck (test t) _ (t ∷ us) rest e) [ inl x ↦ begun_more test S t us rest x.0 ((h t x.0).closes us rest x.1) | inr x ↦ begun_here (Token_then test S) (t ∷ us) rest b x ]

    deepens : (ts rest : List Lexeme) → run (Ask test f) ts ≡ Deep rest → Begun C (Token_then test S) ts rest
    deepens [] rest e = absurd (stuck_not_deep _ [] rest refl e)
    deepens (t ∷ us) rest e = let x = cond_deep (test t) _ (t ∷ us) rest e in begun_more test S t us rest x.0 ((h t x.0).deepens us rest x.1)

    leads : (q : Nest) (ts : List Lexeme) → P q → Nests E n q ts (run (Ask test f) ts)
    leads q [] p = (q, none q [])
    leads q (t ∷ us) p = ask_leads E n (test t) q t us (run (f t) us) (λ is. let x = steps t is q p in (x.0, (h t is).leads (nest q t) us x.1))

-- ---- a parenthesis, by its place

abbrev pub OpenS : ℕ → List Lexeme → List Lexeme → Type 0
OpenS at ts rest = ts ≡ Open at ∷ rest

abbrev pub CloseS : ℕ → List Lexeme → List Lexeme → Type 0
CloseS at ts rest = ts ≡ Close at ∷ rest

pub open_is : (t : Lexeme) → IsTrue (is_open t) → t ≡ Open (place t)
open_is (Open at) h = refl
open_is (Close at) h = cc
open_is (At at) h = cc
open_is (Less at) h = cc
open_is (Greater at) h = cc
open_is (Word at w) h = cc

pub close_is : (t : Lexeme) → IsTrue (is_close t) → t ≡ Close (place t)
close_is (Open at) h = cc
close_is (Close at) h = refl
close_is (At at) h = cc
close_is (Less at) h = cc
close_is (Greater at) h = cc
close_is (Word at w) h = cc

pub law_open : {P : Nest → Type 0} {E : ℕ → Nest → Type 0} {C : List Lexeme → Type 0} {n : ℕ} → ((at : ℕ) → Steps P (E at) (Open at)) → Law P E C n OpenS read_open
unfolding read_open
law_open {P = P} {E = E} steps = law_map to from (law_ask (λ t. E (place t)) (λ t. Nothing (place t)) is_open (λ t. Ret (place t))
    (λ t is. subst (Steps P (E (place t))) (sym (open_is t is)) (steps (place t))) (λ t is. law_ret (place t) (λ q p. p)) (Open 0 ∷ [], 0, λ tail c. (Open 0, tail, refl, refl, (refl, refl))))
  where
    to : (at : ℕ) (ts rest : List Lexeme) → Token_then is_open (λ t. Nothing (place t)) at ts rest → OpenS at ts rest
    to at ts rest (t, us, e, is, (p, r)) = e ∙ ap (λ z. z ∷ us) (open_is t is) ∙ ap (λ z. Open z ∷ us) (sym p) ∙ ap (λ z. Open at ∷ z) r

    from : (at : ℕ) (ts rest : List Lexeme) → OpenS at ts rest → Token_then is_open (λ t. Nothing (place t)) at ts rest
    from at ts rest e = (Open at, rest, e, refl, (refl, refl))

pub law_close : {P : Nest → Type 0} {E : ℕ → Nest → Type 0} {C : List Lexeme → Type 0} {n : ℕ} → ((at : ℕ) → Steps P (E at) (Close at)) → Law P E C n CloseS read_close
unfolding read_close
law_close {P = P} {E = E} steps = law_map to from (law_ask (λ t. E (place t)) (λ t. Nothing (place t)) is_close (λ t. Ret (place t))
    (λ t is. subst (Steps P (E (place t))) (sym (close_is t is)) (steps (place t))) (λ t is. law_ret (place t) (λ q p. p)) (Close 0 ∷ [], 0, λ tail c. (Close 0, tail, refl, refl, (refl, refl))))
  where
    to : (at : ℕ) (ts rest : List Lexeme) → Token_then is_close (λ t. Nothing (place t)) at ts rest → CloseS at ts rest
    to at ts rest (t, us, e, is, (p, r)) = e ∙ ap (λ z. z ∷ us) (close_is t is) ∙ ap (λ z. Close z ∷ us) (sym p) ∙ ap (λ z. Close at ∷ z) r

    from : (at : ℕ) (ts rest : List Lexeme) → CloseS at ts rest → Token_then is_close (λ t. Nothing (place t)) at ts rest
    from at ts rest e = (Close at, rest, e, refl, (refl, refl))

-- ---- an `@`, by its place

abbrev pub AtS : ℕ → List Lexeme → List Lexeme → Type 0
AtS at ts rest = ts ≡ At at ∷ rest

pub at_is : (t : Lexeme) → IsTrue (is_at t) → t ≡ At (place t)
at_is (Open at) h = cc
at_is (Close at) h = cc
at_is (At at) h = refl
at_is (Less at) h = cc
at_is (Greater at) h = cc
at_is (Word at w) h = cc

pub law_at : {P : Nest → Type 0} {E : ℕ → Nest → Type 0} {C : List Lexeme → Type 0} {n : ℕ} → ((at : ℕ) → Steps P (E at) (At at)) → Law P E C n AtS read_at
unfolding read_at
law_at {P = P} {E = E} steps = law_map to from (law_ask (λ t. E (place t)) (λ t. Nothing (place t)) is_at (λ t. Ret (place t)) (λ t is. subst (Steps P (E (place t))) (sym (at_is t is)) (steps (place t))) (λ t is. law_ret (place t) (λ q p. p))
    (At 0 ∷ [], 0, λ tail c. (At 0, tail, refl, refl, (refl, refl))))
  where
    to : (at : ℕ) (ts rest : List Lexeme) → Token_then is_at (λ t. Nothing (place t)) at ts rest → AtS at ts rest
    to at ts rest (t, us, e, is, (p, r)) = e ∙ ap (λ z. z ∷ us) (at_is t is) ∙ ap (λ z. At z ∷ us) (sym p) ∙ ap (λ z. At at ∷ z) r

    from : (at : ℕ) (ts rest : List Lexeme) → AtS at ts rest → Token_then is_at (λ t. Nothing (place t)) at ts rest
    from at ts rest e = (At at, rest, e, refl, (refl, refl))

-- ---- a word that gives something

-- the word, and what it gives
abbrev pub WordS : {A : Type 0} → (List ℕ → Option A) → A → List Lexeme → List Lexeme → Type 0
WordS f a ts rest = (at : ℕ) × (w : List ℕ) × (ts ≡ Word at w ∷ rest) × (f w ≡ Some a)

-- some word gives something
abbrev pub Gives : {A : Type 0} → (List ℕ → Option A) → Type 0
Gives {A = A} f = (w : List ℕ) × (a : A) × (f w ≡ Some a)

-- the words that give something lead from states to others
abbrev pub WordSteps : {A : Type 0} → (Nest → Type 0) → (A → Nest → Type 0) → (List ℕ → Option A) → Type 0
WordSteps {A = A} P E f = (at : ℕ) (w : List ℕ) (a : A) → f w ≡ Some a → Steps P (E a) (Word at w)

word_is : (test : List ℕ → Bool) (t : Lexeme) → IsTrue (on_word test t) → (t ≡ Word (place t) (bytes t)) × IsTrue (test (bytes t))
word_is test (Open at) h = cc
word_is test (Close at) h = cc
word_is test (At at) h = cc
word_is test (Less at) h = cc
word_is test (Greater at) h = cc
word_is test (Word at w) h = (refl, h)

abbrev pub Given : {A : Type 0} → Option A → A → List Lexeme → List Lexeme → Type 0
Given o a ts rest = (o ≡ Some a) × (ts ≡ rest)

-- the state that each value that a word gives leads to
abbrev pub Given_state : {A : Type 0} → (A → Nest → Type 0) → Option A → Nest → Type 0
Given_state {A = A} E o q = (a : A) → o ≡ Some a → E a q

pub law_given : {A : Type 0} {E : A → Nest → Type 0} {C : List Lexeme → Type 0} {n : ℕ} (o : Option A) → IsTrue (is_some o) → Law (Given_state E o) E C n (Given o) (given o)
law_given None is = absurd (let x : false ≡ true = is in cc)
law_given {A = A} (Some a) is = law_map (λ b ts rest s. (ap Some (sym s.0), s.1)) (λ b ts rest s. (let x : b ≡ a = cc (s.0) in x, s.1)) (law_ret a (λ q p. p a refl))

law_words : {A : Type 0} {P : Nest → Type 0} {E : A → Nest → Type 0} {C : List Lexeme → Type 0} {n : ℕ} (f : List ℕ → Option A) → Gives f
    → ((at : ℕ) (w : List ℕ) → IsTrue (is_some (f w)) → Steps P (Given_state E (f w)) (Word at w)) → Law P E C n (WordS f) (read_word f)
unfolding read_word
law_words {A = A} {P = P} {E = E} f x steps = law_map to from (law_ask (λ t. Given_state E (f (bytes t))) (λ t. Given (f (bytes t))) (on_word (λ w. is_some (f w))) (λ t. given (f (bytes t)))
    (λ t is. let y = word_is (λ w. is_some (f w)) t is in subst (Steps P (Given_state E (f (bytes t)))) (sym y.0) (steps (place t) (bytes t) y.1))
    (λ t is. law_given (f (bytes t)) (word_is (λ w. is_some (f w)) t is).1)
    (Word 0 x.0 ∷ [], x.1, λ tail c. (Word 0 x.0, tail, refl, ap is_some x.2, (x.2, refl))))
  where
    Shape : A → List Lexeme → List Lexeme → Type 0
    Shape = Token_then (on_word (λ w. is_some (f w))) (λ t. Given (f (bytes t)))

    to : (a : A) (ts rest : List Lexeme) → Shape a ts rest → WordS f a ts rest
    to a ts rest (t, us, e, is, (p, q)) = (place t, bytes t, e ∙ ap (λ u. u ∷ us) (word_is (λ w. is_some (f w)) t is).0 ∙ ap (λ u. Word (place t) (bytes t) ∷ u) q, p)

    from : (a : A) (ts rest : List Lexeme) → WordS f a ts rest → Shape a ts rest
    from a ts rest (at, w, e, h) = (Word at w, rest, e, ap is_some h, (h, refl))

word_steps : {A : Type 0} (P : Nest → Type 0) (E : A → Nest → Type 0) (at : ℕ) (w : List ℕ) (o : Option A) → IsTrue (is_some o) → ((a : A) → o ≡ Some a → Steps P (E a) (Word at w)) → Steps P (Given_state E o) (Word at w)
word_steps P E at w None is h q p = absurd (let x : false ≡ true = is in cc)
word_steps {A = A} P E at w (Some a) is h q p = let x = h a refl q p in (x.0, λ b e. subst (λ c. E c (nest q (Word at w))) (let y : a ≡ b = cc in y) x.1)

pub law_word : {A : Type 0} {P : Nest → Type 0} {E : A → Nest → Type 0} {C : List Lexeme → Type 0} {n : ℕ} (f : List ℕ → Option A) → Gives f → WordSteps P E f → Law P E C n (WordS f) (read_word f)
law_word {P = P} {E = E} f x steps = law_words f x (λ at w is. word_steps P E at w (f w) is (λ a e. steps at w a e))

-- what a word spells begins with one
pub word_heads : {A : Type 0} (f : List ℕ → Option A) (a : A) (ts rest : List Lexeme) → WordS f a ts rest → Heads (on_word (λ w. is_some (f w))) true ts
word_heads f a ts rest (at, w, e, h) = (Word at w, rest, e, ap is_some h)

-- ---- one or the other, by the next token

cond_case : {A : Type 0} (b : Bool) (o p q : Reading A) → cond b o p ≡ q → ((b ≡ true) × (o ≡ q)) ⊎ ((b ≡ false) × (p ≡ q))
cond_case true o p q e = inl (refl, e)
cond_case false o p q e = inr (refl, e)

left_begun : {A : Type 0} {C : List Lexeme → Type 0} (S T : A → List Lexeme → List Lexeme → Type 0) (ts rest : List Lexeme) → Begun C S ts rest → Begun C (Either S T) ts rest
left_begun S T ts rest x = (x.0, x.1, (x.2.0, x.2.1, λ tail c. inl (x.2.2 tail c)))

right_begun : {A : Type 0} {C : List Lexeme → Type 0} (S T : A → List Lexeme → List Lexeme → Type 0) (ts rest : List Lexeme) → Begun C T ts rest → Begun C (Either S T) ts rest
right_begun S T ts rest x = (x.0, x.1, (x.2.0, x.2.1, λ tail c. inr (x.2.2 tail c)))

right_ends : {A : Type 0} {C : List Lexeme → Type 0} (S T : A → List Lexeme → List Lexeme → Type 0) → Begins C T [] → Begins C (Either S T) []
right_ends S T x = (x.0, x.1, λ tail c. inr (x.2 tail c))

left_sound : {A : Type 0} {C : List Lexeme → Type 0} (S T : A → List Lexeme → List Lexeme → Type 0) (a : A) (ts rest : List Lexeme) → S a ts rest × Taken C S a ts rest → Either S T a ts rest × Taken C (Either S T) a ts rest
left_sound S T a ts rest (s, x) = (inl s, (x.0, x.1, λ tail c. inl (x.2 tail c)))

right_sound : {A : Type 0} {C : List Lexeme → Type 0} (S T : A → List Lexeme → List Lexeme → Type 0) (a : A) (ts rest : List Lexeme) → T a ts rest × Taken C T a ts rest → Either S T a ts rest × Taken C (Either S T) a ts rest
right_sound S T a ts rest (s, x) = (inr s, (x.0, x.1, λ tail c. inr (x.2 tail c)))

cond_leads : {A : Type 0} (E : A → Nest → Type 0) (n : ℕ) (q : Nest) (ts : List Lexeme) (b : Bool) (o p : Reading A) → (IsTrue b → Nests E n q ts o) → Nests E n q ts p → Nests E n q ts (cond b o p)
cond_leads E n q ts true o p h k = h refl
cond_leads E n q ts false o p h k = k

-- the law of what is read if the test is passed is needed only there
pub law_peek_when : {A : Type 0} {P : Nest → Type 0} {E : A → Nest → Type 0} {C : List Lexeme → Type 0} {n : ℕ} {S T : A → List Lexeme → List Lexeme → Type 0} (test : Lexeme → Bool) (y r : Reader A)
    → ((a : A) (ts rest : List Lexeme) → S a ts rest → C rest → Heads test true ts) → ((a : A) (ts rest : List Lexeme) → T a ts rest → C rest → Heads test false ts)
    → ((t : Lexeme) → IsTrue (test t) → Law P E C n S y) → Law P E C n T r → Law P E C n (Either S T) (Peek test y r)
unfolding run
law_peek_when {A = A} {P = P} {E = E} {C = C} {n = n} {S = S} {T = T} test y r sy sr hy hr = record { sound = sound; complete = complete; closes = closes; deepens = deepens; leads = leads; ends = right_ends S T hr.ends }
  where
    sound : (ts rest : List Lexeme) (a : A) → run (Peek test y r) ts ≡ Got a rest → Either S T a ts rest × Taken C (Either S T) a ts rest
    sound [] rest a e = absurd (stuck_not_got _ [] rest a refl e)
    sound (t ∷ us) rest a e = elim (cond_case (test t) _ _ _ e) [ inl x ↦ left_sound S T a (t ∷ us) rest ((hy t x.0).sound (t ∷ us) rest a x.1) | inr x ↦ right_sound S T a (t ∷ us) rest (hr.sound (t ∷ us) rest a x.1) ]

    complete : (ts rest : List Lexeme) (a : A) → Either S T a ts rest → C rest → Hits (run (Peek test y r) ts) a rest
    complete ts rest a (inl s) c =
        let x = sy a ts rest s c in
        subst (λ z. Hits (run (Peek test y r) z) a rest) (sym x.2) (subst (λ b. Hits (cond b (run y (x.0 ∷ x.1)) (run r (x.0 ∷ x.1))) a rest) (sym x.3) (subst (λ z. Hits (run y z) a rest) x.2 ((hy x.0 x.3).complete ts rest a s c)))
    complete ts rest a (inr s) c =
        let x = sr a ts rest s c in
        subst (λ z. Hits (run (Peek test y r) z) a rest) (sym x.2) (subst (λ b. Hits (cond b (run y (x.0 ∷ x.1)) (run r (x.0 ∷ x.1))) a rest) (sym x.3) (subst (λ z. Hits (run r z) a rest) x.2 (hr.complete ts rest a s c)))

    closes : (ts rest : List Lexeme) → run (Peek test y r) ts ≡ Stuck rest → Begun C (Either S T) ts rest
    closes [] rest e = right_begun S T [] rest ([], stuck_is [] rest _ refl e, hr.ends)
    closes (t ∷ us) rest e = elim (cond_case (test t) _ _ _ e) [ inl x ↦ left_begun S T _ _ ((hy t x.0).closes (t ∷ us) rest x.1) | inr x ↦ right_begun S T _ _ (hr.closes (t ∷ us) rest x.1) ]

    deepens : (ts rest : List Lexeme) → run (Peek test y r) ts ≡ Deep rest → Begun C (Either S T) ts rest
    deepens [] rest e = absurd (stuck_not_deep _ [] rest refl e)
    deepens (t ∷ us) rest e = elim (cond_case (test t) _ _ _ e) [ inl x ↦ left_begun S T _ _ ((hy t x.0).deepens (t ∷ us) rest x.1) | inr x ↦ right_begun S T _ _ (hr.deepens (t ∷ us) rest x.1) ]

    leads : (q : Nest) (ts : List Lexeme) → P q → Nests E n q ts (run (Peek test y r) ts)
    leads q [] p = (q, none q [])
    leads q (t ∷ us) p = cond_leads E n q (t ∷ us) (test t) (run y (t ∷ us)) (run r (t ∷ us)) (λ is. (hy t is).leads q (t ∷ us) p) (hr.leads q (t ∷ us) p)

pub law_peek : {A : Type 0} {P : Nest → Type 0} {E : A → Nest → Type 0} {C : List Lexeme → Type 0} {n : ℕ} {S T : A → List Lexeme → List Lexeme → Type 0} (test : Lexeme → Bool) (y r : Reader A)
    → ((a : A) (ts rest : List Lexeme) → S a ts rest → C rest → Heads test true ts) → ((a : A) (ts rest : List Lexeme) → T a ts rest → C rest → Heads test false ts)
    → Law P E C n S y → Law P E C n T r → Law P E C n (Either S T) (Peek test y r)
law_peek test y r sy sr hy hr = law_peek_when test y r sy sr (λ t is. hy) hr

-- ---- where no more may be open

-- the tokens that pass the test would be too deep; S is what would stand there
pub law_barred : {A : Type 0} {P : Nest → Type 0} {E : A → Nest → Type 0} {C : List Lexeme → Type 0} {n : ℕ} {S T : A → List Lexeme → List Lexeme → Type 0} (test : Lexeme → Bool) (r : Reader A)
    → ((a : A) (ts rest : List Lexeme) → S a ts rest → C rest → Heads test true ts) → ((a : A) (ts rest : List Lexeme) → T a ts rest → C rest → Heads test false ts)
    → ((q : Nest) (t : Lexeme) → P q → IsTrue (test t) → most_open < length (nest q t).marks) → Law P E C n T r → Law P E C n (Either S T) (Peek test Halt r)
unfolding run
law_barred {A = A} {P = P} {E = E} {C = C} {n = n} {S = S} {T = T} test r sy sr over hr = record { sound = sound; complete = complete; closes = closes; deepens = deepens; leads = leads; ends = some }
  where
    some : Begins C (Either S T) []
    some = right_ends S T hr.ends

    sound : (ts rest : List Lexeme) (a : A) → run (Peek test Halt r) ts ≡ Got a rest → Either S T a ts rest × Taken C (Either S T) a ts rest
    sound [] rest a e = absurd (stuck_not_got _ [] rest a refl e)
    sound (t ∷ us) rest a e = elim (cond_case (test t) (Deep (t ∷ us)) _ _ e) [ inl x ↦ absurd (got_not_deep _ rest (t ∷ us) a refl (sym x.1)) | inr x ↦ right_sound S T a (t ∷ us) rest (hr.sound (t ∷ us) rest a x.1) ]

    complete : (ts rest : List Lexeme) (a : A) → Either S T a ts rest → C rest → Hits (run (Peek test Halt r) ts) a rest
    complete ts rest a (inl s) c =
        let x = sy a ts rest s c in
        subst (λ z. Hits (run (Peek test Halt r) z) a rest) (sym x.2) (too_deep (x.0 ∷ x.1) (ap (λ b. cond b (Deep (x.0 ∷ x.1)) (run r (x.0 ∷ x.1))) x.3))
    complete ts rest a (inr s) c =
        let x = sr a ts rest s c in
        subst (λ z. Hits (run (Peek test Halt r) z) a rest) (sym x.2) (subst (λ b. Hits (cond b (Deep (x.0 ∷ x.1)) (run r (x.0 ∷ x.1))) a rest) (sym x.3) (subst (λ z. Hits (run r z) a rest) x.2 (hr.complete ts rest a s c)))

    closes : (ts rest : List Lexeme) → run (Peek test Halt r) ts ≡ Stuck rest → Begun C (Either S T) ts rest
    closes [] rest e = ([], stuck_is [] rest _ refl e, some)
    closes (t ∷ us) rest e = elim (cond_case (test t) (Deep (t ∷ us)) _ _ e) [ inl x ↦ absurd (stuck_not_deep _ rest (t ∷ us) refl (sym x.1)) | inr x ↦ right_begun S T _ _ (hr.closes (t ∷ us) rest x.1) ]

    deepens : (ts rest : List Lexeme) → run (Peek test Halt r) ts ≡ Deep rest → Begun C (Either S T) ts rest
    deepens [] rest e = absurd (stuck_not_deep _ [] rest refl e)
    deepens (t ∷ us) rest e = elim (cond_case (test t) (Deep (t ∷ us)) _ _ e) [ inl x ↦ ([], deep_is (t ∷ us) rest _ refl x.1, some) | inr x ↦ right_begun S T _ _ (hr.deepens (t ∷ us) rest x.1) ]

    barred : (b : Bool) (q : Nest) (t : Lexeme) (us : List Lexeme) (o : Reading A) → (IsTrue b → most_open < length (nest q t).marks) → Nests E n q (t ∷ us) o → Nests E n q (t ∷ us) (cond b (Deep (t ∷ us)) o)
    barred true q t us o h k = (q, none q (t ∷ us), λ l. (t, us, refl, h refl))
    barred false q t us o h k = k

    leads : (q : Nest) (ts : List Lexeme) → P q → Nests E n q ts (run (Peek test Halt r) ts)
    leads q [] p = (q, none q [])
    leads q (t ∷ us) p = barred (test t) q t us (run r (t ∷ us)) (λ is. over q t p is) (hr.leads q (t ∷ us) p)

-- the same if nothing else may stand
pub law_walled : {A : Type 0} {P : Nest → Type 0} {E : A → Nest → Type 0} {C : List Lexeme → Type 0} {n : ℕ} {S : A → List Lexeme → List Lexeme → Type 0} (test : Lexeme → Bool)
    → ((a : A) (ts rest : List Lexeme) → S a ts rest → C rest → Heads test true ts) → ((q : Nest) (t : Lexeme) → P q → IsTrue (test t) → most_open < length (nest q t).marks) → Begins C S []
    → Law P E C n S (Peek test Halt refuse)
unfolding run
law_walled {A = A} {P = P} {E = E} {C = C} {n = n} {S = S} test heads over some = record { sound = sound; complete = complete; closes = closes; deepens = deepens; leads = leads; ends = some }
  where
    not_got : (b : Bool) (ts rest : List Lexeme) (a : A) → cond b (Deep ts) (Stuck ts) ≡ Got a rest → ⊥
    not_got true ts rest a e = got_not_deep _ rest ts a e refl
    not_got false ts rest a e = stuck_not_got _ ts rest a refl e

    is_stuck : (b : Bool) (ts rest : List Lexeme) → cond {A = Reading A} b (Deep ts) (Stuck ts) ≡ Stuck rest → ts ≡ rest
    is_stuck true ts rest e = absurd (stuck_not_deep _ rest ts e refl)
    is_stuck false ts rest e = stuck_is ts rest _ refl e

    is_deep : (b : Bool) (ts rest : List Lexeme) → cond {A = Reading A} b (Deep ts) (Stuck ts) ≡ Deep rest → ts ≡ rest
    is_deep true ts rest e = deep_is ts rest _ refl e
    is_deep false ts rest e = absurd (stuck_not_deep _ ts rest refl e)

    sound : (ts rest : List Lexeme) (a : A) → run (Peek test Halt refuse) ts ≡ Got a rest → S a ts rest × Taken C S a ts rest
    sound [] rest a e = absurd (stuck_not_got _ [] rest a refl e)
    sound (t ∷ us) rest a e = absurd (not_got (test t) (t ∷ us) rest a e)

    complete : (ts rest : List Lexeme) (a : A) → S a ts rest → C rest → Hits (run (Peek test Halt refuse) ts) a rest
    complete ts rest a s c = let x = heads a ts rest s c in subst (λ z. Hits (run (Peek test Halt refuse) z) a rest) (sym x.2) (too_deep (x.0 ∷ x.1) (ap (λ b. cond b (Deep (x.0 ∷ x.1)) (Stuck (x.0 ∷ x.1))) x.3))

    closes : (ts rest : List Lexeme) → run {A = A} (Peek test Halt refuse) ts ≡ Stuck rest → Begun C S ts rest
    closes [] rest e = ([], stuck_is [] rest _ refl e, some)
    closes (t ∷ us) rest e = ([], is_stuck (test t) (t ∷ us) rest e, some)

    deepens : (ts rest : List Lexeme) → run {A = A} (Peek test Halt refuse) ts ≡ Deep rest → Begun C S ts rest
    deepens [] rest e = absurd (stuck_not_deep _ [] rest refl e)
    deepens (t ∷ us) rest e = ([], is_deep (test t) (t ∷ us) rest e, some)

    walled : (b : Bool) (q : Nest) (t : Lexeme) (us : List Lexeme) → (IsTrue b → most_open < length (nest q t).marks) → Nests E n q (t ∷ us) (cond b (Deep (t ∷ us)) (Stuck (t ∷ us)))
    walled true q t us h = (q, none q (t ∷ us), λ l. (t, us, refl, h refl))
    walled false q t us h = (q, none q (t ∷ us))

    leads : (q : Nest) (ts : List Lexeme) → P q → Nests E n q ts (run (Peek test Halt refuse) ts)
    leads q [] p = (q, none q [])
    leads q (t ∷ us) p = walled (test t) q t us (λ is. over q t p is)

-- no tokens may be left to read
pub law_spent : {A : Type 0} {P : Nest → Type 0} {E : A → Nest → Type 0} {C : List Lexeme → Type 0} {S : A → List Lexeme → List Lexeme → Type 0} → ((a : A) (ts rest : List Lexeme) → S a ts rest → Some_token ts) → Begins C S []
    → Law P E C 0 S (End refuse Halt)
unfolding run
law_spent {A = A} {P = P} {E = E} {C = C} {S = S} heads some = record { sound = λ ts rest a e. absurd (not_got ts rest a e); complete = complete; closes = closes; deepens = deepens; leads = leads; ends = some }
  where
    not_got : (ts rest : List Lexeme) (a : A) → run (End refuse Halt) ts ≡ Got a rest → ⊥
    not_got [] rest a e = stuck_not_got _ [] rest a refl e
    not_got (t ∷ ts) rest a e = got_not_deep _ rest (t ∷ ts) a e refl

    complete : (ts rest : List Lexeme) (a : A) → S a ts rest → C rest → Hits (run (End refuse Halt) ts) a rest
    complete [] rest a s c = let x = heads a [] rest s in absurd (let y : [] ≡ x.0 ∷ x.1 = x.2 in cc)
    complete (t ∷ ts) rest a s c = too_deep (t ∷ ts) refl

    closes : (ts rest : List Lexeme) → run {A = A} (End refuse Halt) ts ≡ Stuck rest → Begun C S ts rest
    closes [] rest e = ([], stuck_is [] rest _ refl e, some)
    closes (t ∷ ts) rest e = absurd (stuck_not_deep _ rest (t ∷ ts) e refl)

    deepens : (ts rest : List Lexeme) → run {A = A} (End refuse Halt) ts ≡ Deep rest → Begun C S ts rest
    deepens [] rest e = absurd (stuck_not_deep _ [] rest refl e)
    deepens (t ∷ ts) rest e = ([], deep_is (t ∷ ts) rest _ refl e, some)

    leads : (q : Nest) (ts : List Lexeme) → P q → Nests E 0 q ts (run (End refuse Halt) ts)
    leads q [] p = (q, none q [])
    leads q (t ∷ ts) p = (q, none q (t ∷ ts), λ l. absurd (omega (arith, l)))

-- ---- a word that gives something, or else nothing

-- no such word may follow
abbrev pub NoWord : {A : Type 0} → (List ℕ → Option A) → List Lexeme → Type 0
NoWord f = Heads (on_word (λ w. is_some (f w))) false

pub law_optional : {A : Type 0} {P : Nest → Type 0} {E : A → Nest → Type 0} {n : ℕ} (f : List ℕ → Option A) (other : A) → Gives f → WordSteps P E f → ((q : Nest) → P q → E other q)
    → Law P E (NoWord f) n (Either (WordS f) (Nothing other)) (read_optional f other)
unfolding read_optional
law_optional f other x steps same = law_peek (on_word (λ w. is_some (f w))) (read_word f) (Ret other)
    (λ a ts rest s c. word_heads f a ts rest s) (λ a ts rest s c. subst (NoWord f) (sym s.1) c) (law_word f x steps) (law_ret other same)

-- ---- words that lead from state to state

some_given : {A : Type 0} (o : Option A) → IsTrue (is_some o) → (a : A) × (o ≡ Some a)
some_given None h = cc
some_given (Some a) h = (a, refl)

none_given : {A : Type 0} (o : Option A) (b : Bool) → ((a : A) → o ≡ Some a → b ≡ true) → b ≡ false → is_some o ≡ false
none_given None b h e = refl
none_given (Some a) b h e = let x : b ≡ true = h a refl in cc

-- no word that passes the test is next
abbrev pub NoSuch : (List ℕ → Bool) → List Lexeme → Type 0
NoSuch test = Heads (on_word test) false

module _ {St : Type 0} {P : Nest → Type 0} (next : St → List ℕ → Option St) (test : List ℕ → Bool) (tested : (s u : St) (w : List ℕ) → next s w ≡ Some u → test w ≡ true) (steps : (s : St) → WordSteps P (λ u. P) (next s)) where
  silent : (s : St) (t : Lexeme) → on_word test t ≡ false → on_word (λ w. is_some (next s w)) t ≡ false
  silent s (Open at) e = refl
  silent s (Close at) e = refl
  silent s (At at) e = refl
  silent s (Less at) e = refl
  silent s (Greater at) e = refl
  silent s (Word at w) e = none_given (next s w) (test w) (λ u. tested s u w) e

  words_to : (k : ℕ) (s v : St) (ts rest : List Lexeme) → Either (Then (WordS (next s)) (WordsFrom next k)) (Nothing s) v ts rest → WordsFrom next (suc k) s v ts rest
  words_to k s v ts rest (inl (u, mid, (at, w, e, h), m)) = subst (λ z. WordsFrom next (suc k) s v z rest) (sym e) (a_word k at w s u v mid rest h m)
  words_to k s v ts rest (inr (p, q)) = subst (λ z. WordsFrom next (suc k) s z ts rest) (sym p) (subst (λ z. WordsFrom next (suc k) s s z rest) (sym q) (no_word (suc k) s rest))

  words_from_is : (k : ℕ) (s v : St) (ts rest : List Lexeme) → WordsFrom next (suc k) s v ts rest → Either (Then (WordS (next s)) (WordsFrom next k)) (Nothing s) v ts rest
  words_from_is _ _ _ _ _ (no_word k s ts) = inr (refl, refl)
  words_from_is _ _ _ _ _ (a_word k at w s u v ts rest h m) = inl (u, ts, (at, w, refl, h), m)

  none_to : (s v : St) (ts rest : List Lexeme) → Nothing s v ts rest → WordsFrom next 0 s v ts rest
  none_to s v ts rest (p, q) = subst (λ z. WordsFrom next 0 s z ts rest) (sym p) (subst (λ z. WordsFrom next 0 s s z rest) (sym q) (no_word 0 s rest))

  none_from : (s v : St) (ts rest : List Lexeme) → WordsFrom next 0 s v ts rest → Nothing s v ts rest
  none_from _ _ _ _ (no_word k s ts) = (refl, refl)

  pub law_words_from : {n : ℕ} (k : ℕ) (s : St) → Law P (λ v. P) (NoSuch test) n (WordsFrom next k s) (words_from k next s)
  unfolding words_from
  law_words_from zero s = law_map (none_to s) (none_from s) (law_ret s (λ q p. p))
  law_words_from (suc k) s = law_map (words_to k s) (words_from_is k s) (law_peek_when (on_word (λ w. is_some (next s w))) (bind (read_word (next s)) (λ u. words_from k next u)) (Ret s)
      (λ v ts rest x c. word_heads (next s) x.0 ts x.1 x.2)
      (λ v ts rest x c. let y = subst (NoSuch test) (sym x.1) c in (y.0, y.1, y.2, silent s y.0 y.3))
      (λ t is. let y = word_is (λ w. is_some (next s w)) t is in let z = some_given (next s (bytes t)) y.1 in
      law_next (read_word (next s)) (λ u. words_from k next u) (law_word (next s) (bytes t, z.0, z.1) (steps s)) (law_words_from k))
      (law_ret s (λ q p. p)))

-- ---- at the end of the text, or before it

done_ends : {A : Type 0} (a : A) (T : A → List Lexeme → List Lexeme → Type 0) → Begins Ended (Either (NothingLeft a) T) []
done_ends a T = ([], a, λ tail c. inl (refl, c, c))

pub law_done : {A : Type 0} {P : Nest → Type 0} {E : A → Nest → Type 0} {n : ℕ} {T : A → List Lexeme → List Lexeme → Type 0} (a : A) (r : Reader A) → ((q : Nest) → P q → E a q)
    → ((b : A) (ts rest : List Lexeme) → T b ts rest → Some_token ts) → Law P E Ended n T r → Law P E Ended n (Either (NothingLeft a) T) (End (Ret a) r)
unfolding run
law_done {A = A} {P = P} {E = E} {n = n} {T = T} a r same some h = record { sound = sound; complete = complete; closes = closes; deepens = deepens; leads = leads; ends = done_ends a T }
  where
    sound : (ts rest : List Lexeme) (b : A) → run (End (Ret a) r) ts ≡ Got b rest → Either (NothingLeft a) T b ts rest × Taken Ended (Either (NothingLeft a) T) b ts rest
    sound [] rest b e = let x = got_is [] rest a b _ refl e in (inl (sym x.1, refl, sym x.0), ([], x.0, λ tail c. inl (sym x.1, c, c)))
    sound (t ∷ us) rest b e = right_sound (NothingLeft a) T b (t ∷ us) rest (h.sound (t ∷ us) rest b e)

    complete : (ts rest : List Lexeme) (b : A) → Either (NothingLeft a) T b ts rest → Ended rest → Hits (run (End (Ret a) r) ts) b rest
    complete ts rest b (inl (e, f, g)) c = subst (λ z. Hits (run (End (Ret a) r) z) b rest) (sym f) (hit (ap (λ z. Got z []) (sym e) ∙ ap (Got b) (sym g)))
    complete ts rest b (inr s) c = let x = some b ts rest s in subst (λ z. Hits (run (End (Ret a) r) z) b rest) (sym x.2) (subst (λ z. Hits (run r z) b rest) x.2 (h.complete ts rest b s c))

    closes : (ts rest : List Lexeme) → run (End (Ret a) r) ts ≡ Stuck rest → Begun Ended (Either (NothingLeft a) T) ts rest
    closes [] rest e = absurd (stuck_not_got _ rest [] a e refl)
    closes (t ∷ us) rest e = right_begun (NothingLeft a) T (t ∷ us) rest (h.closes (t ∷ us) rest e)

    deepens : (ts rest : List Lexeme) → run (End (Ret a) r) ts ≡ Deep rest → Begun Ended (Either (NothingLeft a) T) ts rest
    deepens [] rest e = absurd (got_not_deep _ [] rest a refl e)
    deepens (t ∷ us) rest e = right_begun (NothingLeft a) T (t ∷ us) rest (h.deepens (t ∷ us) rest e)

    leads : (q : Nest) (ts : List Lexeme) → P q → Nests E n q ts (run (End (Ret a) r) ts)
    leads q [] p = (q, none q [], same q p)
    leads q (t ∷ us) p = h.leads q (t ∷ us) p

-- a value, and the end of the text
pub law_at_end : {A : Type 0} {P : Nest → Type 0} {E : A → Nest → Type 0} {n : ℕ} (a : A) → ((q : Nest) → P q → E a q) → Law P E Ended n (NothingLeft a) (at_end a)
unfolding run
law_at_end {A = A} {P = P} {E = E} {n = n} a h = record { sound = sound; complete = complete; closes = closes; deepens = deepens; leads = leads; ends = ([], a, λ tail c. (refl, c, c)) }
  where
    sound : (ts rest : List Lexeme) (b : A) → run (at_end a) ts ≡ Got b rest → NothingLeft a b ts rest × Taken Ended (NothingLeft a) b ts rest
    sound [] rest b e = let x = got_is [] rest a b _ refl e in ((sym x.1, refl, sym x.0), ([], x.0, λ tail c. (sym x.1, c, c)))
    sound (t ∷ us) rest b e = absurd (stuck_not_got _ (t ∷ us) rest b refl e)

    complete : (ts rest : List Lexeme) (b : A) → NothingLeft a b ts rest → Ended rest → Hits (run (at_end a) ts) b rest
    complete ts rest b (e, f, g) c = subst (λ z. Hits (run (at_end a) z) b rest) (sym f) (hit (ap (λ z. Got z []) (sym e) ∙ ap (Got b) (sym g)))

    closes : (ts rest : List Lexeme) → run (at_end a) ts ≡ Stuck rest → Begun Ended (NothingLeft a) ts rest
    closes [] rest e = absurd (stuck_not_got _ rest [] a e refl)
    closes (t ∷ us) rest e = ([], stuck_is (t ∷ us) rest _ refl e, ([], a, λ tail c. (refl, c, c)))

    deepens : (ts rest : List Lexeme) → run (at_end a) ts ≡ Deep rest → Begun Ended (NothingLeft a) ts rest
    deepens [] rest e = absurd (got_not_deep _ [] rest a refl e)
    deepens (t ∷ us) rest e = absurd (stuck_not_deep _ (t ∷ us) rest refl e)

    leads : (q : Nest) (ts : List Lexeme) → P q → Nests E n q ts (run (at_end a) ts)
    leads q [] p = (q, none q [], h q p)
    leads q (t ∷ us) p = (q, none q (t ∷ us))
