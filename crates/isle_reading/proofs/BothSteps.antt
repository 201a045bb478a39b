-- What comes of two readers over the same tokens, if code runs one after the other.
use Rattle.std.proofs.Common.{◌≡◌, ℕ, zero, suc, ◌≤◌, ◌<◌, List, length, ◌⊎◌, inl, inr, refl, ap, sym, ◌∙◌, subst, arith, Some}
use Rattle.std.specs.Prelude.{min}
use Rattle.isle_lexer.specs.Lexeme.{Lexeme}
use Rattle.isle_reading.specs.Reader.{Reading, Got, Stuck, Deep, Reader, run}
use Rattle.isle_reading.specs.Combinators.{Both, OnlyFirst, OnlySecond, BothGot, both}
use Rattle.isle_reading.specs.Nesting.{Nest, nest, most_open}
use Rattle.isle_reading.specs.Relations.{Anything}
use Rattle.isle_reading.specs.Views.{stops}
use Rattle.isle_reading.proofs.Running.{stuck_not_got, got_not_deep, got_is}
use Rattle.isle_reading.proofs.Passes.{Passes, none, one, passes_shrinks, Over, Nests}
use Rattle.isle_reading.proofs.Law.{Law}
use Rattle.isle_reading.proofs.Merging.{Below, Merged, both_got, first_got, second_got, first_stuck, second_stuck, first_deep, second_deep, both_merged}

le_cases : (a b : ℕ) → a ≤ b → (a < b) ⊎ (a ≡ b)
le_cases zero zero h = inr refl
le_cases zero (suc b) h = inl (omega arith)
le_cases (suc a) zero h = absurd (omega (arith, h))
le_cases (suc a) (suc b) h = elim (le_cases a b (omega (arith, h))) [ inl x ↦ inl (omega (arith, x)) | inr x ↦ inr (ap suc x) ]

-- ---- two ways over the same tokens

-- no way leads past a token that is too deep
not_past : {s p o : Nest} {ts mid us : List Lexeme} → Passes s ts p mid → Passes s ts o us → Over o us → length mid < length us → ⊥
not_past {us = us} (none s ts) y v l = let x : length us ≤ length ts = passes_shrinks y in omega (arith, x, l)
not_past (one s p t ts mid w x) (none _ _) (u, behind, e, v) l =
    let same : t ≡ u = cc in
    let over : most_open < length (nest s t).marks = subst (λ z. most_open < length (nest s z).marks) (sym same) v in
    omega (arith, w, over)
not_past (one s p t ts mid w x) (one _ _ _ _ _ k y) v l = not_past x y v l

-- ways to the same place lead to the same state
same_state : {s p o : Nest} {ts mid us : List Lexeme} → Passes s ts p mid → Passes s ts o us → length mid ≡ length us → (p ≡ o) × (mid ≡ us)
same_state (none s ts) (none _ _) l = (refl, refl)
same_state (none s _) (one _ o t ts us w y) l = let x : length us ≤ length ts = passes_shrinks y in absurd (omega (arith, x, l))
same_state (one s p t ts mid w x) (none _ _) l = let y : length mid ≤ length ts = passes_shrinks x in absurd (omega (arith, y, l))
same_state (one s p t ts mid w x) (one _ _ _ _ _ k y) l = same_state x y l

got_not_stops : {A : Type 0} (o : Reading A) (a : A) (us : List Lexeme) (k : ℕ) → o ≡ Got a us → stops o ≡ Some k → ⊥
got_not_stops o a us k e h = cc

stuck_at : {A : Type 0} (o : Reading A) (us : List Lexeme) (k : ℕ) → o ≡ Stuck us → stops o ≡ Some k → k ≡ length us
stuck_at o us k e h = let x : Some (length us) ≡ Some k = subst (λ z. stops z ≡ Some k) e h in let y : length us ≡ k = cc in sym y

deep_at : {A : Type 0} (o : Reading A) (us : List Lexeme) (k : ℕ) → o ≡ Deep us → stops o ≡ Some k → k ≡ length us
deep_at o us k e h = let x : Some (length us) ≡ Some k = subst (λ z. stops z ≡ Some k) e h in let y : length us ≡ k = cc in sym y

-- where reading stops, there is a way to that place
stop_passes : {A : Type 0} (E : A → Nest → Type 0) (n k : ℕ) (s : Nest) (ts : List Lexeme) (o : Reading A) → stops o ≡ Some k → Nests E n s ts o → (p : Nest) × (us : List Lexeme) × Passes s ts p us × (k ≡ length us)
stop_passes {A = A} E n k s ts (Got a us) e x = absurd (got_not_stops (Got a us) a us k refl e)
stop_passes {A = A} E n k s ts (Stuck us) e (p, x) = (p, us, x, stuck_at {A = A} (Stuck us) us k refl e)
stop_passes {A = A} E n k s ts (Deep us) e (p, x, v) = (p, us, x, deep_at {A = A} (Deep us) us k refl e)

-- ---- from a state of the first kind, with tokens enough; after what is got nothing is too deep
module _ {A B : Type 0} {P M : Nest → Type 0} {n : ℕ} {S : A → List Lexeme → List Lexeme → Type 0} {T : B → List Lexeme → List Lexeme → Type 0}
    (r : Reader A) (q : Reader B) (hr : Law P (λ a. M) Anything n S r) (hq : Law P (λ b. M) Anything n T q)
    (s : Nest) (start : P s) (never : (u : Nest) (us : List Lexeme) → M u → Over u us → ⊥) (ts : List Lexeme) (enough : length ts ≤ n) where
  -- what is got goes no less far than what is too deep
  got_deep : {X Y : Type 0} (o : Reading X) (p : Reading Y) (a : X) (mid us : List Lexeme) → Nests (λ a. M) n s ts o → Nests (λ b. M) n s ts p → o ≡ Got a mid → p ≡ Deep us → length mid ≤ length us → ⊥
  got_deep {X = X} {Y = Y} o p a mid us ho hp e f l = by (subst (Nests (λ (x : X). M) n s ts) e ho) (subst (Nests (λ (y : Y). M) n s ts) f hp) (le_cases (length mid) (length us) l)
    where
      by : Nests (λ (x : X). M) n s ts (Got a mid) → Nests (λ (y : Y). M) n s ts (Deep us) → (length mid < length us) ⊎ (length mid ≡ length us) → ⊥
      by (v, x, m) (w, y, over) (inl less) = not_past x y (over enough) less
      by (v, x, m) (w, y, over) (inr same) = let z = same_state x y same in never v mid m (subst (λ u. Over u mid) (sym z.0) (subst (λ z. Over w z) (sym z.1) (over enough)))

  -- what stops goes no further than what is too deep
  stop_deep : {X Y : Type 0} (o : Reading X) (p : Reading Y) (k : ℕ) (us : List Lexeme) → Nests (λ a. M) n s ts o → Nests (λ b. M) n s ts p → stops o ≡ Some k → p ≡ Deep us → k < length us → ⊥
  stop_deep {X = X} {Y = Y} o p k us ho hp e f l = by (stop_passes (λ (x : X). M) n k s ts o e ho) (subst (Nests (λ (y : Y). M) n s ts) f hp)
    where
      by : (v : Nest) × (vs : List Lexeme) × Passes s ts v vs × (k ≡ length vs) → Nests (λ (y : Y). M) n s ts (Deep us) → ⊥
      by (v, vs, x, c) (w, y, over) = not_past x y (over enough) (omega (arith, c, l))

  -- only the first was got
  pub only_first : (a : A) (mid : List Lexeme) (k : ℕ) → run r ts ≡ Got a mid → stops (run q ts) ≡ Some k → run (both r q) ts ≡ Got (OnlyFirst a) mid
  only_first a mid k e f = by (run (both r q) ts) (both_merged r q ts)
    where
      by : (w : Reading (Both A B)) → Merged (run r ts) (run q ts) w → w ≡ Got (OnlyFirst a) mid
      by _ (both_got c b us g h) = absurd (got_not_stops (run q ts) b us k h f)
      by _ (first_got c us g l) = let x = got_is us mid c a (run r ts) g e in ap (λ z. Got (OnlyFirst z) us) x.1 ∙ ap (Got (OnlyFirst a)) x.0
      by _ (second_got b us h l) = absurd (got_not_stops (run q ts) b us k h f)
      by _ (first_stuck us vs g h l) = absurd (stuck_not_got (run r ts) us mid a g e)
      by _ (second_stuck us vs h g l) = absurd (stuck_not_got (run r ts) vs mid a g e)
      by _ (first_deep us g l) = absurd (got_not_deep (run r ts) mid us a e g)
      by _ (second_deep us h l) = let x : length mid < suc (length us) = subst (Below (suc (length us))) e l in absurd (got_deep (run r ts) (run q ts) a mid us (hr.leads s ts start) (hq.leads s ts start) e h (omega (arith, x)))

  -- only the second was got
  pub only_second : (b : B) (mid : List Lexeme) (k : ℕ) → stops (run r ts) ≡ Some k → run q ts ≡ Got b mid → run (both r q) ts ≡ Got (OnlySecond b) mid
  only_second b mid k e f = by (run (both r q) ts) (both_merged r q ts)
    where
      by : (w : Reading (Both A B)) → Merged (run r ts) (run q ts) w → w ≡ Got (OnlySecond b) mid
      by _ (both_got a c us g h) = absurd (got_not_stops (run r ts) a us k g e)
      by _ (second_got c us h l) = let x = got_is us mid c b (run q ts) h f in ap (λ z. Got (OnlySecond z) us) x.1 ∙ ap (Got (OnlySecond b)) x.0
      by _ (first_got a us g l) = absurd (got_not_stops (run r ts) a us k g e)
      by _ (first_stuck us vs g h l) = absurd (stuck_not_got (run q ts) vs mid b h f)
      by _ (second_stuck us vs h g l) = absurd (stuck_not_got (run q ts) us mid b h f)
      by _ (second_deep us h l) = absurd (got_not_deep (run q ts) mid us b f h)
      by _ (first_deep us g l) = let x : length mid < suc (length us) = subst (Below (suc (length us))) f l in absurd (got_deep (run q ts) (run r ts) b mid us (hq.leads s ts start) (hr.leads s ts start) f g (omega (arith, x)))

  -- neither was got: the place of the one that came further
  pub neither : (j k : ℕ) → stops (run r ts) ≡ Some j → stops (run q ts) ≡ Some k → stops (run (both r q) ts) ≡ Some (min j k)
  neither j k e f = by (run (both r q) ts) (both_merged r q ts)
    where
      by : (w : Reading (Both A B)) → Merged (run r ts) (run q ts) w → stops w ≡ Some (min j k)
      by _ (both_got a b us g h) = absurd (got_not_stops (run r ts) a us j g e)
      by _ (first_got a us g l) = absurd (got_not_stops (run r ts) a us j g e)
      by _ (second_got b us h l) = absurd (got_not_stops (run q ts) b us k h f)
      by _ (first_stuck us vs g h l) = let x = stuck_at (run r ts) us j g e in let y = stuck_at (run q ts) vs k h f in ap Some (omega (arith, x, y, l))
      by _ (second_stuck us vs h g l) = let x = stuck_at (run r ts) vs j g e in let y = stuck_at (run q ts) us k h f in ap Some (omega (arith, x, y, l))
      by _ (first_deep us g l) = elim (le_cases (min k (length us)) (length us) (omega arith)) [
        | inl x ↦ absurd (stop_deep (run q ts) (run r ts) k us (hq.leads s ts start) (hr.leads s ts start) f g (omega (arith, x)))
        | inr x ↦ ap Some (let y = deep_at (run r ts) us j g e in omega (arith, x, y))
      ]
      by _ (second_deep us h l) = elim (le_cases (min j (length us)) (length us) (omega arith)) [
        | inl x ↦ absurd (stop_deep (run r ts) (run q ts) j us (hr.leads s ts start) (hq.leads s ts start) e h (omega (arith, x)))
        | inr x ↦ ap Some (let y = deep_at (run q ts) us k h f in omega (arith, x, y))
      ]

  -- both were got
  pub given_both : ((a : A) (b : B) (us rest behind : List Lexeme) → S a us rest → T b us behind → rest ≡ behind) → (a : A) (b : B) (mid us : List Lexeme) → run r ts ≡ Got a mid → run q ts ≡ Got b us → run (both r q) ts ≡ Got (BothGot a b) mid
  given_both same_end a b mid us e f = by (run (both r q) ts) (both_merged r q ts)
    where
      same : mid ≡ us
      same = same_end a b ts mid us (hr.sound ts mid a e).0 (hq.sound ts us b f).0

      by : (w : Reading (Both A B)) → Merged (run r ts) (run q ts) w → w ≡ Got (BothGot a b) mid
      by _ (both_got c d vs g h) = let x = got_is vs mid c a (run r ts) g e in let y = got_is vs us d b (run q ts) h f in ap (λ z. Got (BothGot z d) vs) x.1 ∙ ap (λ z. Got (BothGot a z) vs) y.1 ∙ ap (Got (BothGot a b)) x.0
      by _ (first_got c vs g l) =
          let x = got_is vs mid c a (run r ts) g e in
          let y : length us < length vs = subst (Below (length vs)) f l in
          let z : length vs ≡ length us = ap length (x.0 ∙ same) in
          absurd (omega (arith, y, z))
      by _ (second_got d vs h l) =
          let x = got_is vs us d b (run q ts) h f in
          let y : length mid < length vs = subst (Below (length vs)) e l in
          let z : length vs ≡ length mid = ap length (x.0 ∙ sym same) in
          absurd (omega (arith, y, z))
      by _ (first_stuck vs ws g h l) = absurd (stuck_not_got (run r ts) vs mid a g e)
      by _ (second_stuck vs ws h g l) = absurd (stuck_not_got (run r ts) ws mid a g e)
      by _ (first_deep vs g l) = absurd (got_not_deep (run r ts) mid vs a e g)
      by _ (second_deep vs h l) = absurd (got_not_deep (run q ts) us vs b f h)
