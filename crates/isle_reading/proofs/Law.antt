-- What a reader is to have: it reads what a relation says, what it took begins something, and it is too deep only where more would be open than may be.
use Rattle.std.proofs.Common.{◌≡◌, ℕ, ◌≤◌, List, [], ◌∷◌, ◌++◌, length, append_assoc, Bool, ◌⊎◌, inl, inr, refl, ap, sym, ◌∙◌, subst, arith}
use Rattle.isle_lexer.specs.Lexeme.{Lexeme}
use Rattle.isle_reading.specs.Reader.{Reading, Got, Stuck, Deep, Reader, after, run, bind}
use Rattle.isle_reading.specs.Nesting.{Nest}
use Rattle.isle_reading.specs.Relations.{Whole, Begins, Taken, Begun, Anything}
use Rattle.isle_reading.proofs.Running.{run-bind, got_shrinks, after_got, after_stuck, after_deep}
use Rattle.isle_reading.proofs.Passes.{Passes, passes_more, Nests}

-- the value was got, or something nests too deep
pub data Hits {A : Type 0} (o : Reading A) (a : A) (rest : List Lexeme) : Type 0 where
  hit : o ≡ Got a rest → Hits o a rest
  too_deep : (r : List Lexeme) → o ≡ Deep r → Hits o a rest

-- a reader of what S says, where C says which tokens may follow: it leads from states P to states E, and at most n tokens are read
pub record Law {A : Type 0} (P : Nest → Type 0) (E : A → Nest → Type 0) (C : List Lexeme → Type 0) (n : ℕ) (S : A → List Lexeme → List Lexeme → Type 0) (r : Reader A) : Type 0 where
  -- what is got is spelt
  pub sound : (ts rest : List Lexeme) (a : A) → run r ts ≡ Got a rest → S a ts rest × Taken C S a ts rest
  -- what is spelt is got, or is too deep
  pub complete : (ts rest : List Lexeme) (a : A) → S a ts rest → C rest → Hits (run r ts) a rest
  -- what was taken where it is stuck begins something
  pub closes : (ts rest : List Lexeme) → run r ts ≡ Stuck rest → Begun C S ts rest
  -- what was taken where it is too deep begins something
  pub deepens : (ts rest : List Lexeme) → run r ts ≡ Deep rest → Begun C S ts rest
  -- what is taken nests no deeper than may be, leads to E if it is got, and is too deep only where the next token is
  pub leads : (q : Nest) (ts : List Lexeme) → P q → Nests E n q ts (run r ts)
  -- something is spelt
  pub ends : Begins C S []

-- ---- relations that are made of relations

-- the next token passes the test, or does not
abbrev pub Heads : (Lexeme → Bool) → Bool → List Lexeme → Type 0
Heads test b ts = (t : Lexeme) × (us : List Lexeme) × (ts ≡ t ∷ us) × (test t ≡ b)

-- there is a token
abbrev pub Some_token : List Lexeme → Type 0
Some_token ts = (t : Lexeme) × (us : List Lexeme) × (ts ≡ t ∷ us)

-- the value, and no token
abbrev pub Nothing : {A : Type 0} → A → A → List Lexeme → List Lexeme → Type 0
Nothing a b ts rest = (b ≡ a) × (ts ≡ rest)

-- the value, at the end of the text
abbrev pub NothingLeft : {A : Type 0} → A → A → List Lexeme → List Lexeme → Type 0
NothingLeft a b ts rest = (b ≡ a) × (ts ≡ []) × (rest ≡ [])

-- one value, and another that hangs on it
abbrev pub Then : {A B : Type 0} → (A → List Lexeme → List Lexeme → Type 0) → (A → B → List Lexeme → List Lexeme → Type 0) → B → List Lexeme → List Lexeme → Type 0
Then {A = A} S T b ts rest = (a : A) × (mid : List Lexeme) × S a ts mid × T a b mid rest

-- one or the other
abbrev pub Either : {A : Type 0} → (A → List Lexeme → List Lexeme → Type 0) → (A → List Lexeme → List Lexeme → Type 0) → A → List Lexeme → List Lexeme → Type 0
Either S T a ts rest = S a ts rest ⊎ T a ts rest

-- ---- the same said otherwise

pub law_map : {A : Type 0} {P : Nest → Type 0} {E : A → Nest → Type 0} {C : List Lexeme → Type 0} {n : ℕ} {S T : A → List Lexeme → List Lexeme → Type 0} {r : Reader A}
    → ((a : A) (ts rest : List Lexeme) → S a ts rest → T a ts rest) → ((a : A) (ts rest : List Lexeme) → T a ts rest → S a ts rest) → Law P E C n S r → Law P E C n T r
law_map to from h = record {
  sound = λ ts rest a e. let x = h.sound ts rest a e in (to a ts rest x.0, (x.1.0, x.1.1, λ tail c. to a _ _ (x.1.2 tail c)));
  complete = λ ts rest a s c. h.complete ts rest a (from a ts rest s) c;
  closes = λ ts rest e. let x = h.closes ts rest e in (x.0, x.1, (x.2.0, x.2.1, λ tail c. to _ _ _ (x.2.2 tail c)));
  deepens = λ ts rest e. let x = h.deepens ts rest e in (x.0, x.1, (x.2.0, x.2.1, λ tail c. to _ _ _ (x.2.2 tail c)));
  leads = h.leads;
  ends = (h.ends.0, h.ends.1, λ tail c. to _ _ _ (h.ends.2 tail c));
}

-- fewer may follow
pub law_follow : {A : Type 0} {P : Nest → Type 0} {E : A → Nest → Type 0} {C D : List Lexeme → Type 0} {n : ℕ} {S : A → List Lexeme → List Lexeme → Type 0} {r : Reader A}
    → ((ts : List Lexeme) → D ts → C ts) → Law P E C n S r → Law P E D n S r
law_follow less h = record {
  sound = λ ts rest a e. let x = h.sound ts rest a e in (x.0, (x.1.0, x.1.1, λ tail d. x.1.2 tail (less tail d)));
  complete = λ ts rest a s d. h.complete ts rest a s (less rest d);
  closes = λ ts rest e. let x = h.closes ts rest e in (x.0, x.1, (x.2.0, x.2.1, λ tail d. x.2.2 tail (less tail d)));
  deepens = λ ts rest e. let x = h.deepens ts rest e in (x.0, x.1, (x.2.0, x.2.1, λ tail d. x.2.2 tail (less tail d)));
  leads = h.leads;
  ends = (h.ends.0, h.ends.1, λ tail d. h.ends.2 tail (less tail d));
}

leads_to : {A : Type 0} (E D : A → Nest → Type 0) (n m : ℕ) (q : Nest) (ts : List Lexeme) (o : Reading A) → m ≤ n → ((a : A) (q : Nest) → E a q → D a q) → Nests E n q ts o → Nests D m q ts o
leads_to E D n m q ts (Got a rest) le k (p, x, e) = (p, x, k a p e)
leads_to E D n m q ts (Stuck rest) le k x = x
leads_to E D n m q ts (Deep rest) le k (p, x, o) = (p, x, λ l. o (omega (arith, l, le)))

-- other states, and at fewer tokens
pub law_states : {A : Type 0} {P Q : Nest → Type 0} {E D : A → Nest → Type 0} {C : List Lexeme → Type 0} {n : ℕ} {S : A → List Lexeme → List Lexeme → Type 0} {r : Reader A}
    (m : ℕ) → m ≤ n → ((q : Nest) → Q q → P q) → ((a : A) (q : Nest) → E a q → D a q) → Law P E C n S r → Law Q D C m S r
law_states {E = E} {D = D} {n = n} {r = r} m le before behind h = record {
  sound = h.sound;
  complete = h.complete;
  closes = h.closes;
  deepens = h.deepens;
  leads = λ q ts p. leads_to E D n m q ts (run r ts) le behind (h.leads q ts (before q p));
  ends = h.ends;
}

-- at fewer tokens
pub law_less : {A : Type 0} {P : Nest → Type 0} {E : A → Nest → Type 0} {C : List Lexeme → Type 0} {n : ℕ} {S : A → List Lexeme → List Lexeme → Type 0} {r : Reader A}
    (m : ℕ) → m ≤ n → Law P E C n S r → Law P E C m S r
law_less m le h = law_states m le (λ q p. p) (λ a q e. e) h

-- ---- one after another

pub then_whole : {A B : Type 0} {C D : List Lexeme → Type 0} (S : A → List Lexeme → List Lexeme → Type 0) (T : A → B → List Lexeme → List Lexeme → Type 0) (a : A) (b : B) (f1 f2 : List Lexeme)
    → ((ts rest : List Lexeme) → T a b ts rest → D rest → C ts) → Whole C S a f1 → Whole D (T a) b f2 → Whole D (Then S T) b (f1 ++ f2)
then_whole S T a b f1 f2 follows v w tail d = (a, f2 ++ tail, subst (λ z. S a z (f2 ++ tail)) (sym (append_assoc f1 f2 tail)) (v (f2 ++ tail) (follows (f2 ++ tail) tail (w tail d) d)), w tail d)

module _ {A B : Type 0} {C D : List Lexeme → Type 0} (S : A → List Lexeme → List Lexeme → Type 0) (T : A → B → List Lexeme → List Lexeme → Type 0)
    (follows : (a : A) (b : B) (ts rest : List Lexeme) → T a b ts rest → D rest → C ts) where
  then_taken : (a : A) (b : B) (ts mid rest : List Lexeme) → Taken C S a ts mid → Taken D (T a) b mid rest → Taken D (Then S T) b ts rest
  then_taken a b ts mid rest x y = (x.0 ++ y.0, x.1 ∙ ap (λ z. x.0 ++ z) y.1 ∙ sym (append_assoc x.0 y.0 rest), then_whole S T a b x.0 y.0 (follows a b) x.2 y.2)

  pub then_begun : (a : A) (ts mid rest : List Lexeme) → Taken C S a ts mid → Begun D (T a) mid rest → Begun D (Then S T) ts rest
  then_begun a ts mid rest x y = (
    x.0 ++ y.0,
    x.1 ∙ ap (λ z. x.0 ++ z) y.1 ∙ sym (append_assoc x.0 y.0 rest),
    (y.2.0, y.2.1, subst (λ z. Whole D (Then S T) y.2.1 z) (sym (append_assoc x.0 y.0 y.2.0)) (then_whole S T a y.2.1 x.0 (y.0 ++ y.2.0) (follows a y.2.1) x.2 y.2.2)),
  )

  -- the first is begun, and the shortest second follows
  pub first_begun : (ts rest : List Lexeme) → ((a : A) → Begins D (T a) []) → Begun C S ts rest → Begun D (Then S T) ts rest
  first_begun ts rest h y =
      let z = h y.2.1 in
      (y.0, y.1, (y.2.0 ++ z.0, z.1, subst (λ u. Whole D (Then S T) z.1 u) (append_assoc y.0 y.2.0 z.0) (then_whole S T y.2.1 z.1 (y.0 ++ y.2.0) z.0 (follows y.2.1 z.1) y.2.2 z.2)))

  pub then_ends : Begins C S [] → ((a : A) → Begins D (T a) []) → Begins D (Then S T) []
  then_ends s h = let z = h s.1 in (s.0 ++ z.0, z.1, then_whole S T s.1 z.1 s.0 z.0 (follows s.1 z.1) s.2 z.2)

pub then_hits : {A B : Type 0} (o : Reading A) (k : A → List Lexeme → Reading B) (w : Reading B) (a : A) (b : B) (mid rest : List Lexeme)
    → w ≡ after o k → Hits o a mid → Hits (k a mid) b rest → Hits w b rest
then_hits o k w a b mid rest is (hit e) (hit u) = hit (is ∙ ap (λ z. after z k) e ∙ u)
then_hits o k w a b mid rest is (hit e) (too_deep q u) = too_deep q (is ∙ ap (λ z. after z k) e ∙ u)
then_hits o k w a b mid rest is (too_deep q e) y = too_deep q (is ∙ ap (λ z. after z k) e)

-- after tokens that were taken, so that at most m of n are left
pub leads_behind : {A : Type 0} (E : A → Nest → Type 0) (n m : ℕ) (q p : Nest) (ts mid : List Lexeme) (o : Reading A) → Passes q ts p mid → (length ts ≤ n → length mid ≤ m) → Nests E m p mid o → Nests E n q ts o
leads_behind E n m q p ts mid (Got a rest) x short (p2, y, e) = (p2, passes_more x y, e)
leads_behind E n m q p ts mid (Stuck rest) x short (p2, y) = (p2, passes_more x y)
leads_behind E n m q p ts mid (Deep rest) x short (p2, y, o) = (p2, passes_more x y, λ l. o (short l))

pub then_leads : {A B : Type 0} (M : A → Nest → Type 0) (E : B → Nest → Type 0) (n m : ℕ) (q : Nest) (ts : List Lexeme) (o : Reading A) (k : A → List Lexeme → Reading B) → ((a : A) (mid : List Lexeme) → o ≡ Got a mid → length ts ≤ n → length mid ≤ m)
    → Nests M n q ts o → ((a : A) (p : Nest) (mid : List Lexeme) → M a p → Nests E m p mid (k a mid)) → Nests E n q ts (after o k)
then_leads M E n m q ts (Got a mid) k short (p, x, e) h = leads_behind E n m q p ts mid (k a mid) x (short a mid refl) (h a p mid e)
then_leads M E n m q ts (Stuck rest) k short x h = x
then_leads M E n m q ts (Deep rest) k short x h = x

-- if the first leaves at most m of n tokens
pub law_less_then : {A B : Type 0} {P : Nest → Type 0} {M : A → Nest → Type 0} {E : B → Nest → Type 0} {C D : List Lexeme → Type 0} {n : ℕ}
    {S : A → List Lexeme → List Lexeme → Type 0} {T : A → B → List Lexeme → List Lexeme → Type 0} (m : ℕ) (r : Reader A) (k : A → Reader B)
    → ((a : A) (ts mid : List Lexeme) → run r ts ≡ Got a mid → length ts ≤ n → length mid ≤ m)
    → ((a : A) (b : B) (ts rest : List Lexeme) → T a b ts rest → D rest → C ts) → Law P M C n S r → ((a : A) → Law (M a) E D m (T a) (k a)) → Law P E D n (Then S T) (bind r k)
law_less_then {A = A} {B = B} {M = M} {E = E} {D = D} {n = n} {S = S} {T = T} m r k short follows h hk = record {
  sound = λ ts rest b e. let x = after_got (run r ts) (λ a us. run (k a) us) b rest (sym (run-bind r k ts) ∙ e) in
      let s = h.sound ts x.1 x.0 x.2 in let t = (hk x.0).sound x.1 rest b x.3 in ((x.0, x.1, s.0, t.0), then_taken S T follows x.0 b ts x.1 rest s.1 t.1);
  complete = λ ts rest b s d. then_hits (run r ts) (λ a us. run (k a) us) (run (bind r k) ts) s.0 b s.1 rest (run-bind r k ts) (h.complete ts s.1 s.0 s.2 (follows s.0 b s.1 rest s.3 d)) ((hk s.0).complete s.1 rest b s.3 d);
  closes = λ ts rest e. elim (after_stuck (run r ts) (λ a us. run (k a) us) rest (sym (run-bind r k ts) ∙ e)) [
    | inl x ↦ first_begun S T follows ts rest (λ a. (hk a).ends) (h.closes ts rest x)
    | inr x ↦ then_begun S T follows x.0 ts x.1 rest (h.sound ts x.1 x.0 x.2).1 ((hk x.0).closes x.1 rest x.3)
  ];
  deepens = λ ts rest e. elim (after_deep (run r ts) (λ a us. run (k a) us) rest (sym (run-bind r k ts) ∙ e)) [
    | inl x ↦ first_begun S T follows ts rest (λ a. (hk a).ends) (h.deepens ts rest x)
    | inr x ↦ then_begun S T follows x.0 ts x.1 rest (h.sound ts x.1 x.0 x.2).1 ((hk x.0).deepens x.1 rest x.3)
  ];
  leads = λ q ts p. subst (Nests E n q ts) (sym (run-bind r k ts)) (then_leads M E n m q ts (run r ts) (λ a us. run (k a) us) (λ a mid. short a ts mid) (h.leads q ts p) (λ a p2 mid. (hk a).leads p2 mid));
  ends = then_ends S T follows h.ends (λ a. (hk a).ends);
}

pub law_then : {A B : Type 0} {P : Nest → Type 0} {M : A → Nest → Type 0} {E : B → Nest → Type 0} {C D : List Lexeme → Type 0} {n : ℕ}
    {S : A → List Lexeme → List Lexeme → Type 0} {T : A → B → List Lexeme → List Lexeme → Type 0} (r : Reader A) (k : A → Reader B)
    → ((a : A) (b : B) (ts rest : List Lexeme) → T a b ts rest → D rest → C ts) → Law P M C n S r → ((a : A) → Law (M a) E D n (T a) (k a)) → Law P E D n (Then S T) (bind r k)
law_then {n = n} r k follows h hk = law_less_then n r k (λ a ts mid e l. let x : length mid ≤ length ts = got_shrinks r ts mid a e in omega (arith, l, x)) follows h hk

-- whatever may follow the first
pub law_next : {A B : Type 0} {P : Nest → Type 0} {M : A → Nest → Type 0} {E : B → Nest → Type 0} {D : List Lexeme → Type 0} {n : ℕ}
    {S : A → List Lexeme → List Lexeme → Type 0} {T : A → B → List Lexeme → List Lexeme → Type 0} (r : Reader A) (k : A → Reader B)
    → Law P M Anything n S r → ((a : A) → Law (M a) E D n (T a) (k a)) → Law P E D n (Then S T) (bind r k)
law_next r k h hk = law_then r k (λ a b ts rest t d. tt) h hk
