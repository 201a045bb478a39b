-- The readers of words, and of what lines are made of, keep the law.
use Rattle.std.proofs.Common.{◌≡◌, ℕ, suc, ◌≤◌, List, [], ◌∷◌, Bool, true, false, IsTrue, inl, inr, refl, ap, sym, ◌∙◌, subst, arith, Option, Some, None}
use Rattle.std.specs.Prelude.{if◌then◌else◌, is_some, bytes_eq, codes}
use Rattle.std.proofs.lemmas.Slice.Eq.{bytes_eq-Decides}
use Rattle.isle_lexer.specs.Lexeme.{Lexeme, Open, Close, At, Less, Greater, Word}
use Rattle.isle_reading.specs.Combinators.{is_close, on_word, bytes, place, read_open, read_close, read_word, many}
use Rattle.isle_reading.specs.Nesting.{most_open}
use Rattle.isle_reading.specs.Reader.{Reader, Ret}
use Rattle.isle_reading.specs.Relations.{Anything, Many}
use Rattle.isle_reading.proofs.Law.{Law, Heads, Nothing, Then, Either, law_map, law_next}
use Rattle.isle_reading.proofs.TokenLaws.{OpenS, CloseS, Gives, NoWord, Token_then, law_ret, law_ask, law_open, law_close, law_word, law_optional}
use Rattle.isle_reading.proofs.Passes.{Steps}
use Rattle.isle_reading.proofs.ListLaws.{law_many}
use Rattle.isle_reading.proofs.NameLaws.{if_some}
use Rattle.isle_reading.proofs.States.{Opened, opened_open, opened_close, opened_word}
use Rattle.isle_tables.specs.Words.{is_symbol, symbol_of, count_of}
use Rattle.isle_tables.specs.Pieces.{Opens, Closes, Key, Says, Symbol, PlacedS, placed, FlagS, there, missing, CountS, count}
use Rattle.isle_tables.specs.Reading.{flag_of, read_symbol, read_placed, read_count, read_key, read_flag, read_counted}

pub few : 3 ≤ most_open
unfolding most_open
few = omega arith

-- a reader keeps the law where so many parentheses are open in front of it and behind it
abbrev pub Keeps : {A : Type 0} → (k m n : ℕ) → (A → List Lexeme → List Lexeme → Type 0) → Reader A → Type 0
Keeps k m n S r = Law (Opened k) (λ a. Opened m) Anything n S r

-- a shape ends with what is given, and no token
pub ended : {A : Type 0} (S : A → List Lexeme → List Lexeme → Type 0) (a b : A) (ts mid rest : List Lexeme) → b ≡ a → mid ≡ rest → S a ts mid → S b ts rest
ended S a b ts mid rest p q s = subst (λ z. S z ts rest) (sym p) (subst (λ z. S a ts z) q s)

-- ---- tokens

pub opens : (k n : ℕ) → k ≤ 2 → Keeps k (suc k) n OpenS read_open
opens k n l = law_open (opened_open k (omega (arith, l, few)))

pub closes : (k n : ℕ) → k ≤ 2 → Keeps (suc k) k n CloseS read_close
closes k n l = law_close (opened_close k (omega (arith, l, few)))

pub says : {A : Type 0} (k n : ℕ) (f : List ℕ → Option A) → Gives f → k ≤ 3 → Keeps k k n (Says f) (read_word f)
says k n f x l = law_word f x (opened_word k f (omega (arith, l, few)))

-- a word is no closing parenthesis
pub says_heads : {A : Type 0} (f : List ℕ → Option A) (a : A) (ts rest : List Lexeme) → Says f a ts rest → Heads is_close false ts
says_heads f a ts rest (at, w, e, h) = (Word at w, rest, e, refl)

-- ---- symbols

pub a_symbol : Gives symbol_of
unfolding symbol_of
a_symbol = (codes "a", codes "a", refl)

pub symbol_is : (w name : List ℕ) → symbol_of w ≡ Some name → name ≡ w
unfolding symbol_of
symbol_is w name e = (if_some (is_symbol w) w name e).1

pub symbol_some : (w : List ℕ) → IsTrue (is_some (symbol_of w)) → symbol_of w ≡ Some w
unfolding symbol_of
symbol_some w h = by (is_symbol w) h
  where
    by : (b : Bool) → IsTrue (is_some (if b then Some w else None)) → (if b then Some w else None) ≡ Some w
    by true h = refl
    by false h = cc

pub law_symbol : (k n : ℕ) → k ≤ 3 → Keeps k k n Symbol read_symbol
unfolding read_symbol
law_symbol k n l = says k n symbol_of a_symbol l

pub law_symbols : (k n : ℕ) → k ≤ 2 → Keeps (suc k) k n (Many Symbol) (many n read_symbol)
law_symbols k n l = law_many (Opened k) n Symbol read_symbol (law_symbol (suc k) n (omega (arith, l))) (λ a ts rest s. tt) (λ at ts. tt) (says_heads symbol_of) (opened_close k (omega (arith, l, few))) n (omega arith)

-- ---- a symbol and its place

abbrev symbol_test : Lexeme → Bool
symbol_test = on_word (λ w. is_some (symbol_of w))

abbrev PlacedShape : List ℕ × ℕ → List Lexeme → List Lexeme → Type 0
PlacedShape = Token_then symbol_test (λ t. Nothing (bytes t, place t))

placed_steps : (k : ℕ) → k ≤ 3 → (t : Lexeme) → IsTrue (symbol_test t) → Steps (Opened k) (Opened k) t
placed_steps k l (Open at) is = absurd (let x : false ≡ true = is in cc)
placed_steps k l (Close at) is = absurd (let x : false ≡ true = is in cc)
placed_steps k l (At at) is = absurd (let x : false ≡ true = is in cc)
placed_steps k l (Less at) is = absurd (let x : false ≡ true = is in cc)
placed_steps k l (Greater at) is = absurd (let x : false ≡ true = is in cc)
placed_steps k l (Word at w) is = opened_word k symbol_of (omega (arith, l, few)) at w w (symbol_some w is)

placed_token : (t : Lexeme) (us : List Lexeme) → IsTrue (symbol_test t) → PlacedS (bytes t, place t) (t ∷ us) us
placed_token (Open at) us is = absurd (let x : false ≡ true = is in cc)
placed_token (Close at) us is = absurd (let x : false ≡ true = is in cc)
placed_token (At at) us is = absurd (let x : false ≡ true = is in cc)
placed_token (Less at) us is = absurd (let x : false ≡ true = is in cc)
placed_token (Greater at) us is = absurd (let x : false ≡ true = is in cc)
placed_token (Word at w) us is = placed at w w us (symbol_some w is)

placed_to : (a : List ℕ × ℕ) (ts rest : List Lexeme) → PlacedShape a ts rest → PlacedS a ts rest
placed_to a ts rest (t, us, e, is, (p, q)) = ended PlacedS (bytes t, place t) a ts us rest p q (subst (λ z. PlacedS (bytes t, place t) z us) (sym e) (placed_token t us is))

placed_from : (a : List ℕ × ℕ) (ts rest : List Lexeme) → PlacedS a ts rest → PlacedShape a ts rest
placed_from _ _ _ (placed at w name ts h) = (Word at w, ts, refl, ap is_some h, (ap (λ z. (z, at)) (symbol_is w name h), refl))

pub law_placed : (k n : ℕ) → k ≤ 3 → Keeps k k n PlacedS read_placed
unfolding read_placed
law_placed k n l = law_map placed_to placed_from (law_ask (λ t. Opened k) (λ t. Nothing (bytes t, place t)) symbol_test (λ t. Ret (bytes t, place t)) (placed_steps k l) (λ t is. law_ret (bytes t, place t) (λ q p. p))
    (Word 0 a_symbol.0 ∷ [], (a_symbol.0, 0), λ tail c. (Word 0 a_symbol.0, tail, refl, ap is_some a_symbol.2, (refl, refl))))

-- ---- this very word

-- the word, and that it is there
abbrev pub KeyS : List ℕ → Bool → List Lexeme → List Lexeme → Type 0
KeyS key v ts rest = (v ≡ true) × Key key ts rest

flag_same : (key : List ℕ) → flag_of key key ≡ Some true
flag_same key = ap (λ b. if b then Some true else None) ((bytes_eq-Decides key key).1 refl)

key_to : (key : List ℕ) (v : Bool) (ts rest : List Lexeme) → Says (flag_of key) v ts rest → KeyS key v ts rest
key_to key v ts rest (at, w, e, h) = let x = if_some (bytes_eq w key) true v h in (x.1, (at, e ∙ ap (λ z. Word at z ∷ rest) ((bytes_eq-Decides w key).0 x.0)))

key_from : (key : List ℕ) (v : Bool) (ts rest : List Lexeme) → KeyS key v ts rest → Says (flag_of key) v ts rest
key_from key v ts rest (p, (at, e)) = (at, key, e, flag_same key ∙ ap (λ z. Some z) (sym p))

pub law_key : (k n : ℕ) (key : List ℕ) → k ≤ 3 → Keeps k k n (KeyS key) (read_key key)
unfolding read_key
law_key k n key l = law_map (key_to key) (key_from key) (says k n (flag_of key) (key, true, flag_same key) l)

-- ---- this word, or nothing

flag_to : (key : List ℕ) (b : Bool) (ts rest : List Lexeme) → Either (Says (flag_of key)) (Nothing false) b ts rest → FlagS key b ts rest
flag_to key b ts rest (inl (at, w, e, h)) =
    let x = if_some (bytes_eq w key) true b h in
    subst (λ z. FlagS key z ts rest) (sym x.1) (there ts rest (at, e ∙ ap (λ z. Word at z ∷ rest) ((bytes_eq-Decides w key).0 x.0)))
flag_to key b ts rest (inr (p, q)) = ended (FlagS key) false b ts ts rest p q (missing ts)

flag_from : (key : List ℕ) (b : Bool) (ts rest : List Lexeme) → FlagS key b ts rest → Either (Says (flag_of key)) (Nothing false) b ts rest
flag_from key _ _ _ (there ts rest (at, e)) = inl (at, key, e, flag_same key)
flag_from key _ _ _ (missing ts) = inr (refl, refl)

pub law_flag : (k n : ℕ) (key : List ℕ) → k ≤ 3 → Law (Opened k) (λ b. Opened k) (NoWord (flag_of key)) n (FlagS key) (read_flag key)
unfolding read_flag
law_flag k n key l = law_map (flag_to key) (flag_from key) (law_optional (flag_of key) false (key, true, flag_same key) (opened_word k (flag_of key) (omega (arith, l, few))) (λ q p. p))

-- what may follow a word that is not there

pub opens_no : (key : List ℕ) (ts us : List Lexeme) → Opens ts us → NoWord (flag_of key) ts
opens_no key ts us (at, e) = (Open at, us, e, refl)

pub closes_no : (key : List ℕ) (ts us : List Lexeme) → Closes ts us → NoWord (flag_of key) ts
closes_no key ts us (at, e) = (Close at, us, e, refl)

pub flag_no : (key other : List ℕ) (b : Bool) (ts us : List Lexeme) → bytes_eq other key ≡ false → FlagS other b ts us → NoWord (flag_of key) us → NoWord (flag_of key) ts
flag_no key other _ _ _ differs (there ts rest (at, e)) h = (Word at other, rest, e, ap (λ b. is_some (if b then Some true else None)) differs)
flag_no key other _ _ _ differs (missing ts) h = h

-- ---- ( WORD NUM )

pub a_count : Gives count_of
unfolding count_of
a_count = (codes "0", 0, refl)

pub law_count : (k n : ℕ) → k ≤ 3 → Keeps k k n (Says count_of) read_count
unfolding read_count
law_count k n l = says k n count_of a_count l

abbrev CountShape : List ℕ → ℕ → List Lexeme → List Lexeme → Type 0
CountShape key = Then OpenS (λ o. Then (KeyS key) (λ h. Then (Says count_of) (λ m. Then CloseS (λ c. Nothing m))))

count_to : (key : List ℕ) (n : ℕ) (ts rest : List Lexeme) → CountShape key n ts rest → CountS key n ts rest
count_to key n ts rest (o, t1, eo, (h, t2, ek, (m, t3, es, (c, t4, ec, (p, q))))) = ended (CountS key) m n ts t4 rest p q (count m ts t1 t2 t3 t4 (o, eo) ek.1 es (c, ec))

count_from : (key : List ℕ) (n : ℕ) (ts rest : List Lexeme) → CountS key n ts rest → CountShape key n ts rest
count_from key _ _ _ (count n ts t1 t2 t3 rest eo ek es ec) = (eo.0, t1, eo.1, (true, t2, (refl, ek), (n, t3, es, (ec.0, rest, ec.1, (refl, refl)))))

pub law_counted : (k n : ℕ) (key : List ℕ) → k ≤ 2 → Keeps k k n (CountS key) (read_counted key)
unfolding read_counted
law_counted k n key l = law_map (count_to key) (count_from key)
    (law_next _ _ (opens k n l) (λ o.
    law_next _ _ (law_key (suc k) n key (omega (arith, l))) (λ h.
    law_next _ _ (law_count (suc k) n (omega (arith, l))) (λ m.
    law_next _ _ (closes k n l) (λ c.
    law_ret m (λ q p. p))))))

-- it begins with a parenthesis
pub count_opens : (key : List ℕ) (n : ℕ) (ts rest : List Lexeme) → CountS key n ts rest → (us : List Lexeme) × Opens ts us
count_opens key _ _ _ (count n ts t1 t2 t3 rest eo ek es ec) = (t1, eo)
