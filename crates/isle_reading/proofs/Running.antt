-- What holds of every reader.
use Rattle.std.proofs.Common.{◌≡◌, ℕ, suc, ◌+◌, ◌≤◌, List, [], ◌∷◌, ◌++◌, length, length-append, Bool, true, false, cond, ◌⊎◌, inl, inr, refl, ap, sym, ◌∙◌, arith}
use Rattle.isle_lexer.specs.Lexeme.{Lexeme}
use Rattle.isle_reading.specs.Reader.{Reading, Got, Stuck, Deep, Reader, Ret, Ask, Peek, End, Halt, after, run, bind}

-- ---- what came is one of three

pub stuck_not_got : {A : Type 0} (o : Reading A) (us vs : List Lexeme) (a : A) → o ≡ Stuck us → o ≡ Got a vs → ⊥
stuck_not_got o us vs a e h = cc

pub stuck_not_deep : {A : Type 0} (o : Reading A) (us vs : List Lexeme) → o ≡ Stuck us → o ≡ Deep vs → ⊥
stuck_not_deep o us vs e h = cc

pub got_not_deep : {A : Type 0} (o : Reading A) (us vs : List Lexeme) (a : A) → o ≡ Got a us → o ≡ Deep vs → ⊥
got_not_deep o us vs a e h = cc

pub got_is : {A : Type 0} (us rest : List Lexeme) (a b : A) (o : Reading A) → o ≡ Got a us → o ≡ Got b rest → (us ≡ rest) × (a ≡ b)
got_is us rest a b o e h = (cc, cc)

pub stuck_is : {A : Type 0} (us rest : List Lexeme) (o : Reading A) → o ≡ Stuck us → o ≡ Stuck rest → us ≡ rest
stuck_is us rest o e h = cc

pub deep_is : {A : Type 0} (us rest : List Lexeme) (o : Reading A) → o ≡ Deep us → o ≡ Deep rest → us ≡ rest
deep_is us rest o e h = cc

-- ---- one reader, and after it the next

ask-after : {A B : Type 0} (b : Bool) (x : Reading B) (y : Reading A) (ts : List Lexeme) (k : A → List Lexeme → Reading B) → x ≡ after y k → cond b x (Stuck ts) ≡ after (cond b y (Stuck ts)) k
ask-after true x y ts k e = e
ask-after false x y ts k e = refl

peek-after : {A B : Type 0} (b : Bool) (x x' : Reading B) (y y' : Reading A) (k : A → List Lexeme → Reading B) → x ≡ after y k → x' ≡ after y' k → cond b x x' ≡ after (cond b y y') k
peek-after true x x' y y' k e e' = e
peek-after false x x' y y' k e e' = e'

pub run-bind : {A B : Type 0} (r : Reader A) (k : A → Reader B) (ts : List Lexeme) → run (bind r k) ts ≡ after (run r ts) (λ a rest. run (k a) rest)
unfolding run bind
run-bind (Ret a) k ts = refl
run-bind (Ask fits f) k [] = refl
run-bind (Ask fits f) k (t ∷ ts) = ask-after (fits t) _ _ (t ∷ ts) _ (run-bind (f t) k ts)
run-bind (Peek fits y n) k [] = refl
run-bind (Peek fits y n) k (t ∷ ts) = peek-after (fits t) _ _ _ _ _ (run-bind y k (t ∷ ts)) (run-bind n k (t ∷ ts))
run-bind (End e r) k [] = run-bind e k []
run-bind (End e r) k (t ∷ ts) = run-bind r k (t ∷ ts)
run-bind Halt k ts = refl

pub after_got : {A B : Type 0} (o : Reading A) (k : A → List Lexeme → Reading B) (b : B) (rest : List Lexeme) → after o k ≡ Got b rest → (a : A) × (mid : List Lexeme) × (o ≡ Got a mid) × (k a mid ≡ Got b rest)
after_got (Got a mid) k b rest e = (a, mid, refl, e)
after_got (Stuck us) k b rest e = absurd (stuck_not_got _ us rest b refl e)
after_got (Deep us) k b rest e = absurd (got_not_deep _ rest us b e refl)

pub after_stuck : {A B : Type 0} (o : Reading A) (k : A → List Lexeme → Reading B) (rest : List Lexeme) → after o k ≡ Stuck rest → (o ≡ Stuck rest) ⊎ ((a : A) × (mid : List Lexeme) × (o ≡ Got a mid) × (k a mid ≡ Stuck rest))
after_stuck (Got a mid) k rest e = inr (a, mid, refl, e)
after_stuck (Stuck us) k rest e = inl (ap Stuck (stuck_is us rest _ refl e))
after_stuck (Deep us) k rest e = absurd (stuck_not_deep _ rest us e refl)

pub after_deep : {A B : Type 0} (o : Reading A) (k : A → List Lexeme → Reading B) (rest : List Lexeme) → after o k ≡ Deep rest → (o ≡ Deep rest) ⊎ ((a : A) × (mid : List Lexeme) × (o ≡ Got a mid) × (k a mid ≡ Deep rest))
after_deep (Got a mid) k rest e = inr (a, mid, refl, e)
after_deep (Stuck us) k rest e = absurd (stuck_not_deep _ us rest refl e)
after_deep (Deep us) k rest e = inl (ap Deep (deep_is us rest _ refl e))

-- ---- readers take tokens from the front only

-- the tokens that are left
abbrev pub remains : {A : Type 0} → Reading A → List Lexeme
remains (Got a ts) = ts
remains (Stuck ts) = ts
remains (Deep ts) = ts

ask-shrinks : {A : Type 0} (b : Bool) (o : Reading A) (t : Lexeme) (ts : List Lexeme) → length (remains o) ≤ length ts → length (remains (cond b o (Stuck (t ∷ ts)))) ≤ length (t ∷ ts)
ask-shrinks true o t ts h = omega arith
ask-shrinks false o t ts h = omega arith

peek-shrinks : {A : Type 0} (b : Bool) (o p : Reading A) (n : ℕ) → length (remains o) ≤ n → length (remains p) ≤ n → length (remains (cond b o p)) ≤ n
peek-shrinks true o p n h k = h
peek-shrinks false o p n h k = k

pub shrinks : {A : Type 0} (r : Reader A) (ts : List Lexeme) → length (remains (run r ts)) ≤ length ts
unfolding run
shrinks (Ret a) ts = omega arith
shrinks (Ask fits f) [] = omega arith
shrinks (Ask fits f) (t ∷ ts) = ask-shrinks (fits t) _ t ts (shrinks (f t) ts)
shrinks (Peek fits y n) [] = omega arith
shrinks (Peek fits y n) (t ∷ ts) = peek-shrinks (fits t) _ _ _ (shrinks y (t ∷ ts)) (shrinks n (t ∷ ts))
shrinks (End e r) [] = shrinks e []
shrinks (End e r) (t ∷ ts) = shrinks r (t ∷ ts)
shrinks Halt ts = omega arith

-- what is got leaves no more tokens
pub got_shrinks : {A : Type 0} (r : Reader A) (ts rest : List Lexeme) (a : A) → run r ts ≡ Got a rest → length rest ≤ length ts
got_shrinks r ts rest a e =
    let x : length (remains (run r ts)) ≤ length ts = shrinks r ts in
    let y : length (remains (run r ts)) ≡ length rest = ap (λ o. length (remains o)) e in
    omega (arith, x, y)

-- ---- a reader that is stuck at a token is stuck there whatever stands after that token

pub not_more : (t : Lexeme) (front us : List Lexeme) → t ∷ (front ++ us) ≡ us → ⊥
not_more t front us e =
    let a : length (t ∷ (front ++ us)) ≡ length us = ap length e in
    let b : length (front ++ us) ≡ length front + length us = length-append front us in
    omega (arith, a, b)

-- the same tokens stand in front of the same
pub same_front : (front other rest : List Lexeme) → front ++ rest ≡ other ++ rest → front ≡ other
same_front [] [] rest e = refl
same_front [] (u ∷ other) rest e = absurd (not_more u other rest (sym e))
same_front (t ∷ front) [] rest e = absurd (not_more t front rest e)
same_front (t ∷ front) (u ∷ other) rest e =
    let same : t ≡ u = cc in
    let behind : front ++ rest ≡ other ++ rest = cc in
    ap (λ z. z ∷ front) same ∙ ap (λ z. u ∷ z) (same_front front other rest behind)

-- a reader leaves no token more than there were
pub not_back : {A : Type 0} (r : Reader A) (t : Lexeme) (behind : List Lexeme) → remains (run r behind) ≡ t ∷ behind → ⊥
not_back r t behind e =
    let a : length (remains (run r behind)) ≤ length behind = shrinks r behind in
    let b : length (remains (run r behind)) ≡ suc (length behind) = ap length e in
    omega (arith, a, b)

ask_front : {A : Type 0} (b : Bool) (x t : Lexeme) (front behind others : List Lexeme) (o p : Reading A) → (o ≡ Stuck (t ∷ behind) → p ≡ Stuck (t ∷ others))
    → cond b o (Stuck (x ∷ (front ++ t ∷ behind))) ≡ Stuck (t ∷ behind) → cond b p (Stuck (x ∷ (front ++ t ∷ others))) ≡ Stuck (t ∷ others)
ask_front true x t front behind others o p h e = h e
ask_front false x t front behind others o p h e = absurd (not_more x front (t ∷ behind) (stuck_is _ _ _ refl e))

ask_here : {A : Type 0} (b : Bool) (t : Lexeme) (behind others : List Lexeme) (o p : Reading A) → (o ≡ Stuck (t ∷ behind) → ⊥)
    → cond b o (Stuck (t ∷ behind)) ≡ Stuck (t ∷ behind) → cond b p (Stuck (t ∷ others)) ≡ Stuck (t ∷ others)
ask_here true t behind others o p h e = absurd (h e)
ask_here false t behind others o p h e = refl

peek_here : {A : Type 0} (b : Bool) (us vs : List Lexeme) (o p o' p' : Reading A) → (o ≡ Stuck us → o' ≡ Stuck vs) → (p ≡ Stuck us → p' ≡ Stuck vs) → cond b o p ≡ Stuck us → cond b o' p' ≡ Stuck vs
peek_here true us vs o p o' p' h k e = h e
peek_here false us vs o p o' p' h k e = k e

pub stuck_here : {A : Type 0} (r : Reader A) (front behind others : List Lexeme) (t : Lexeme) → run r (front ++ t ∷ behind) ≡ Stuck (t ∷ behind) → run r (front ++ t ∷ others) ≡ Stuck (t ∷ others)
unfolding run
stuck_here (Ret a) front behind others t e = absurd (stuck_not_got _ (t ∷ behind) (front ++ t ∷ behind) a e refl)
stuck_here (Ask fits f) [] behind others t e = ask_here (fits t) t behind others _ _ (λ h. not_back (f t) t behind (ap remains h)) e
stuck_here (Ask fits f) (x ∷ front) behind others t e = ask_front (fits x) x t front behind others _ _ (λ h. stuck_here (f x) front behind others t h) e
stuck_here (Peek fits y n) [] behind others t e = peek_here (fits t) _ _ _ _ _ _ (λ h. stuck_here y [] behind others t h) (λ h. stuck_here n [] behind others t h) e
stuck_here (Peek fits y n) (x ∷ front) behind others t e = peek_here (fits x) _ _ _ _ _ _ (λ h. stuck_here y (x ∷ front) behind others t h) (λ h. stuck_here n (x ∷ front) behind others t h) e
stuck_here (End y n) [] behind others t e = stuck_here n [] behind others t e
stuck_here (End y n) (x ∷ front) behind others t e = stuck_here n (x ∷ front) behind others t e
stuck_here Halt front behind others t e = absurd (stuck_not_deep _ (t ∷ behind) (front ++ t ∷ behind) e refl)
