-- Readers that are never too deep: this grammar nests at most three deep.
use Rattle.std.proofs.Common.{◌≡◌, ℕ, zero, suc, ◌≤◌, ◌<◌, List, [], ◌∷◌, length, Bool, true, false, cond, inl, inr, refl, sym, ◌∙◌, arith, Option, Some, None}
use Rattle.std.specs.Prelude.{is_some}
use Rattle.isle_lexer.specs.Lexeme.{Lexeme}
use Rattle.isle_reading.specs.Reader.{Reading, Got, Stuck, Deep, Reader, Ret, Ask, Peek, run, bind}
use Rattle.isle_reading.specs.Combinators.{is_open, is_close, on_word, bytes, place, read_open, read_close, given, read_word, read_optional, words_from, many, all, all_from}
use Rattle.isle_reading.proofs.Running.{run-bind, after_got, after_deep, got_shrinks, stuck_not_got, stuck_not_deep, got_not_deep}

-- with at most n tokens it is never too deep
pub record Never {A : Type 0} (n : ℕ) (r : Reader A) : Type 0 where
  pub never : (ts rest : List Lexeme) → length ts ≤ n → run r ts ≡ Deep rest → ⊥

-- it takes a token
pub record Takes {A : Type 0} (r : Reader A) : Type 0 where
  pub takes : (ts rest : List Lexeme) (a : A) → run r ts ≡ Got a rest → length rest < length ts

-- ---- one token

pub never_ret : {A : Type 0} {n : ℕ} (a : A) → Never n (Ret a)
unfolding run
never_ret a = record { never = λ ts rest l e. got_not_deep _ ts rest a refl e }

cond_never : {A : Type 0} (b : Bool) (o : Reading A) (us rest : List Lexeme) → (o ≡ Deep rest → ⊥) → cond b o (Stuck us) ≡ Deep rest → ⊥
cond_never true o us rest h e = h e
cond_never false o us rest h e = stuck_not_deep _ us rest refl e

pub never_ask : {A : Type 0} {n : ℕ} (test : Lexeme → Bool) (f : Lexeme → Reader A) → ((t : Lexeme) (m : ℕ) → Never m (f t)) → Never n (Ask test f)
unfolding run
never_ask {n = n} test f h = record { never = by }
  where
    by : (ts rest : List Lexeme) → length ts ≤ n → run (Ask test f) ts ≡ Deep rest → ⊥
    by [] rest l e = stuck_not_deep _ [] rest refl e
    by (t ∷ us) rest l e = cond_never (test t) _ (t ∷ us) rest ((h t (length us)).never us rest (omega arith)) e

pub never_open : {n : ℕ} → Never n read_open
unfolding read_open
never_open = never_ask is_open (λ t. Ret (place t)) (λ t m. never_ret (place t))

pub never_close : {n : ℕ} → Never n read_close
unfolding read_close
never_close = never_ask is_close (λ t. Ret (place t)) (λ t m. never_ret (place t))

never_given : {A : Type 0} {n : ℕ} (o : Option A) → Never n (given o)
unfolding run
never_given {A = A} {n = n} None = record { never = by }
  where
    by : (ts rest : List Lexeme) → length ts ≤ n → run {A = A} (given None) ts ≡ Deep rest → ⊥
    by [] rest l e = stuck_not_deep _ [] rest refl e
    by (t ∷ us) rest l e = stuck_not_deep _ (t ∷ us) rest refl e
never_given (Some a) = never_ret a

pub never_word : {A : Type 0} {n : ℕ} (f : List ℕ → Option A) → Never n (read_word f)
unfolding read_word
never_word f = never_ask (on_word (λ w. is_some (f w))) (λ t. given (f (bytes t))) (λ t m. never_given (f (bytes t)))

cond_both : {A : Type 0} (b : Bool) (o p : Reading A) (rest : List Lexeme) → (o ≡ Deep rest → ⊥) → (p ≡ Deep rest → ⊥) → cond b o p ≡ Deep rest → ⊥
cond_both true o p rest h k e = h e
cond_both false o p rest h k e = k e

pub never_peek : {A : Type 0} {n : ℕ} (test : Lexeme → Bool) (y r : Reader A) → Never n y → Never n r → Never n (Peek test y r)
unfolding run
never_peek {n = n} test y r h k = record { never = by }
  where
    by : (ts rest : List Lexeme) → length ts ≤ n → run (Peek test y r) ts ≡ Deep rest → ⊥
    by [] rest l e = stuck_not_deep _ [] rest refl e
    by (t ∷ us) rest l e = cond_both (test t) _ _ rest (h.never (t ∷ us) rest l) (k.never (t ∷ us) rest l) e

pub never_optional : {A : Type 0} {n : ℕ} (f : List ℕ → Option A) (other : A) → Never n (read_optional f other)
unfolding read_optional
never_optional f other = never_peek (on_word (λ w. is_some (f w))) (read_word f) (Ret other) (never_word f) (never_ret other)

-- ---- one after another

pub never_less_then : {A B : Type 0} {n : ℕ} (m : ℕ) (r : Reader A) (k : A → Reader B) → Never n r → ((ts mid : List Lexeme) (a : A) → length ts ≤ n → run r ts ≡ Got a mid → length mid ≤ m) → ((a : A) → Never m (k a)) → Never n (bind r k)
never_less_then {A = A} {n = n} m r k h short hk = record { never = by }
  where
    by : (ts rest : List Lexeme) → length ts ≤ n → run (bind r k) ts ≡ Deep rest → ⊥
    by ts rest l e = elim (after_deep (run r ts) (λ a us. run (k a) us) rest (sym (run-bind r k ts) ∙ e)) [
      | inl x ↦ h.never ts rest l x
      | inr x ↦ (hk x.0).never x.1 rest (short ts x.1 x.0 l x.2) x.3
    ]

pub never_then : {A B : Type 0} {n : ℕ} (r : Reader A) (k : A → Reader B) → Never n r → ((a : A) → Never n (k a)) → Never n (bind r k)
never_then {n = n} r k h hk = never_less_then n r k h (λ ts mid a l e. let x : length mid ≤ length ts = got_shrinks r ts mid a e in omega (arith, l, x)) hk

pub never_words_from : {St : Type 0} {n : ℕ} (next : St → List ℕ → Option St) (k : ℕ) (s : St) → Never n (words_from k next s)
unfolding words_from
never_words_from next zero s = never_ret s
never_words_from next (suc k) s = never_peek (on_word (λ w. is_some (next s w))) (bind (read_word (next s)) (λ u. words_from k next u)) (Ret s) (never_then (read_word (next s)) (λ u. words_from k next u) (never_word (next s)) (λ u. never_words_from next k u)) (never_ret s)

pub never_fewer : {A : Type 0} {n : ℕ} {r : Reader A} (m : ℕ) → m ≤ n → Never n r → Never m r
never_fewer m l h = record { never = λ ts rest k e. h.never ts rest (omega (arith, l, k)) e }

-- ---- what takes a token

cond_takes : {A : Type 0} (b : Bool) (o : Reading A) (us rest : List Lexeme) (a : A) (n : ℕ) → (o ≡ Got a rest → length rest < n) → cond b o (Stuck us) ≡ Got a rest → length rest < n
cond_takes true o us rest a n h e = h e
cond_takes false o us rest a n h e = absurd (stuck_not_got _ us rest a refl e)

takes_ask : {A : Type 0} (test : Lexeme → Bool) (f : Lexeme → Reader A) → Takes (Ask test f)
unfolding run
takes_ask {A = A} test f = record { takes = by }
  where
    by : (ts rest : List Lexeme) (a : A) → run (Ask test f) ts ≡ Got a rest → length rest < length ts
    by [] rest a e = absurd (stuck_not_got _ [] rest a refl e)
    by (t ∷ us) rest a e = cond_takes (test t) _ (t ∷ us) rest a (length (t ∷ us)) (λ g. let x : length rest ≤ length us = got_shrinks (f t) us rest a g in omega (arith, x)) e

pub takes_word : {A : Type 0} (f : List ℕ → Option A) → Takes (read_word f)
unfolding read_word
takes_word f = takes_ask (on_word (λ w. is_some (f w))) (λ t. given (f (bytes t)))

pub takes_open : Takes read_open
unfolding read_open
takes_open = takes_ask is_open (λ t. Ret (place t))

pub takes_then : {A B : Type 0} (r : Reader A) (k : A → Reader B) → Takes r → Takes (bind r k)
takes_then {B = B} r k h = record { takes = by }
  where
    by : (ts rest : List Lexeme) (b : B) → run (bind r k) ts ≡ Got b rest → length rest < length ts
    by ts rest b e =
        let x = after_got (run r ts) (λ a us. run (k a) us) b rest (sym (run-bind r k ts) ∙ e) in
        let y : length x.1 < length ts = h.takes ts x.1 x.0 x.2 in
        let z : length rest ≤ length x.1 = got_shrinks (k x.0) x.1 rest b x.3 in
        omega (arith, y, z)

-- ---- lists

pub never_many : {A : Type 0} {n : ℕ} (r : Reader A) → Never n r → Takes r → (k : ℕ) → k ≤ n → Never k (many k r)
unfolding many run
never_many r h t zero l = record { never = by }
  where
    by : (ts rest : List Lexeme) → length ts ≤ 0 → run (many zero r) ts ≡ Deep rest → ⊥
    by [] rest l e = stuck_not_deep _ [] rest refl e
    by (t ∷ us) rest l e = absurd (omega (arith, l))
never_many r h t (suc k) l = never_peek is_close (bind read_close (λ c. Ret [])) (bind r (λ a. bind (many k r) (λ others. Ret (a ∷ others))))
    (never_then read_close (λ c. Ret []) never_close (λ c. never_ret []))
    (never_less_then k r (λ a. bind (many k r) (λ others. Ret (a ∷ others))) (never_fewer (suc k) l h) (λ ts mid a m e. let x : length mid < length ts = t.takes ts mid a e in omega (arith, m, x))
    (λ a. never_then (many k r) (λ others. Ret (a ∷ others)) (never_many r h t k (omega (arith, l))) (λ others. never_ret (a ∷ others))))

all_one : {A : Type 0} (r : Reader A) (k : ℕ) → Never (suc k) (bind r (λ a. bind (all k r) (λ others. Ret (a ∷ others)))) → Never (suc k) (all (suc k) r)
unfolding all_from run
all_one r k one = record { never = by }
  where
    by : (ts rest : List Lexeme) → length ts ≤ suc k → run (all (suc k) r) ts ≡ Deep rest → ⊥
    by [] rest m e = got_not_deep _ [] rest [] refl e
    by (t ∷ us) rest m e = one.never (t ∷ us) rest m e

pub never_all : {A : Type 0} {n : ℕ} (r : Reader A) → Never n r → Takes r → (k : ℕ) → k ≤ n → Never k (all k r)
unfolding all_from run
never_all r h t zero l = record { never = by }
  where
    by : (ts rest : List Lexeme) → length ts ≤ 0 → run (all zero r) ts ≡ Deep rest → ⊥
    by [] rest l e = got_not_deep _ [] rest [] refl e
    by (t ∷ us) rest l e = absurd (omega (arith, l))
never_all r h t (suc k) l = all_one r k (never_less_then k r (λ a. bind (all k r) (λ others. Ret (a ∷ others))) (never_fewer (suc k) l h) (λ ts mid a m e. let x : length mid < length ts = t.takes ts mid a e in omega (arith, m, x))
    (λ a. never_then (all k r) (λ others. Ret (a ∷ others)) (never_all r h t k (omega (arith, l))) (λ others. never_ret (a ∷ others))))
