-- The law of two readers over the same tokens, and what hangs on what they got.
use Rattle.std.proofs.Common.{◌≡◌, ℕ, suc, ◌+◌, ◌≤◌, ◌<◌, List, [], ◌∷◌, ◌++◌, length, length-append, append-nil, append_assoc, inl, inr, refl, ap, sym, ◌∙◌, subst, arith}
use Rattle.isle_lexer.specs.Lexeme.{Lexeme}
use Rattle.isle_reading.specs.Reader.{Reading, Got, Stuck, Deep, Reader, after, run, bind}
use Rattle.isle_reading.specs.Combinators.{Both, OnlyFirst, OnlySecond, BothGot, both}
use Rattle.isle_reading.specs.Nesting.{Nest}
use Rattle.isle_reading.specs.Relations.{Whole, Taken, Begun, Anything}
use Rattle.isle_reading.proofs.Running.{run-bind, same_front, stuck_not_got, stuck_not_deep, got_not_deep, got_is, after_got, after_stuck, after_deep}
use Rattle.isle_reading.proofs.Passes.{Nests}
use Rattle.isle_reading.proofs.Law.{Hits, hit, too_deep, Law, Then, Either, then_whole, then_begun, first_begun, then_ends, then_leads, then_hits}
use Rattle.isle_reading.proofs.Merging.{Below, Merged, both_got, first_got, second_got, first_stuck, second_stuck, first_deep, second_deep, both_merged}

-- what stands in front of fewer tokens begins with what stands in front of more
split : (front rest other us : List Lexeme) → front ++ rest ≡ other ++ us → length us < length rest → (more : List Lexeme) × (other ≡ front ++ more) × (rest ≡ more ++ us)
split [] rest other us e l = (other, refl, e)
split (x ∷ front) rest [] us e l =
    let a : length (x ∷ (front ++ rest)) ≡ length us = ap length e in
    let b : length (front ++ rest) ≡ length front + length rest = length-append front rest in
    absurd (omega (arith, a, b, l))
split (x ∷ front) rest (y ∷ other) us e l =
    let same : x ≡ y = cc in
    let behind : front ++ rest ≡ other ++ us = cc in
    let z = split front rest other us behind l in
    (z.0, ap (λ v. v ∷ other) (sym same) ∙ ap (λ v. x ∷ v) z.1, z.2)

-- nothing that is spelt is begun further on than another that ends if it does
too_far : {A B : Type 0} (S : A → List Lexeme → List Lexeme → Type 0) (T : B → List Lexeme → List Lexeme → Type 0) → ((a : A) (b : B) (ts rest behind : List Lexeme) → S a ts rest → T b ts behind → rest ≡ behind)
    → (b : B) (ts rest us : List Lexeme) → Taken Anything T b ts rest → Begun Anything S ts us → length us < length rest → ⊥
too_far S T same b ts rest us (front, e, w) (other, f, (others, a, v)) l = by (split front rest other us (sym e ∙ f) l)
  where
    by : (more : List Lexeme) × (other ≡ front ++ more) × (rest ≡ more ++ us) → ⊥
    by ([], g, h) = let x : length rest ≡ length us = ap length h in omega (arith, x, l)
    by (t ∷ more, g, h) =
        let whole : S a (front ++ ((t ∷ more) ++ others)) [] = subst (λ z. S a z []) (append-nil (other ++ others) ∙ ap (λ z. z ++ others) g ∙ append_assoc front (t ∷ more) others) (v [] tt) in
        let x : [] ≡ t ∷ (more ++ others) = same a b (front ++ ((t ∷ more) ++ others)) [] ((t ∷ more) ++ others) whole (w ((t ∷ more) ++ others) tt) in
        cc

-- what both readers leave, if each takes a token
pub both_less : {A B : Type 0} (n : ℕ) (r : Reader A) (q : Reader B) → ((a : A) (ts rest : List Lexeme) → run r ts ≡ Got a rest → length rest < length ts) → ((b : B) (ts rest : List Lexeme) → run q ts ≡ Got b rest → length rest < length ts)
    → (z : Both A B) (ts mid : List Lexeme) → run (both r q) ts ≡ Got z mid → length ts ≤ suc n → length mid ≤ n
both_less {A = A} {B = B} n r q hr hq z ts mid e l = let x : length mid < length ts = by z mid (subst (Merged (run r ts) (run q ts)) e (both_merged r q ts)) in omega (arith, l, x)
  where
    by : (z : Both A B) (mid : List Lexeme) → Merged (run r ts) (run q ts) (Got z mid) → length mid < length ts
    by _ _ (both_got a b mid e f) = hr a ts mid e
    by _ _ (first_got a mid e l) = hr a ts mid e
    by _ _ (second_got b mid f l) = hq b ts mid f

module _ {A B X : Type 0} {P M : Nest → Type 0} {E : X → Nest → Type 0} {D : List Lexeme → Type 0} {n : ℕ} (m : ℕ)
    {S : A → List Lexeme → List Lexeme → Type 0} {T : B → List Lexeme → List Lexeme → Type 0} {U : A → X → List Lexeme → List Lexeme → Type 0} {V : B → X → List Lexeme → List Lexeme → Type 0}
    (r : Reader A) (q : Reader B) (k : Both A B → Reader X) (hr : Law P (λ a. M) Anything n S r) (hq : Law P (λ b. M) Anything n T q)
    (first : (a : A) → Law M E D m (U a) (k (OnlyFirst a))) (second : (b : B) → Law M E D m (V b) (k (OnlySecond b)))
    (together : (a : A) (b : B) → Law M E D m (Either (U a) (V b)) (k (BothGot a b)))
    (same_end : (a : A) (b : B) (ts rest behind : List Lexeme) → S a ts rest → T b ts behind → rest ≡ behind)
    (short : (z : Both A B) (ts mid : List Lexeme) → run (both r q) ts ≡ Got z mid → length ts ≤ n → length mid ≤ m) where
  abbrev Fork : X → List Lexeme → List Lexeme → Type 0
  Fork = Either (Then S U) (Then T V)

  fork_left : (x : X) (front : List Lexeme) → Whole D (Then S U) x front → Whole D Fork x front
  fork_left x front w tail d = inl (w tail d)

  fork_right : (x : X) (front : List Lexeme) → Whole D (Then T V) x front → Whole D Fork x front
  fork_right x front w tail d = inr (w tail d)

  -- what both got, and one of two after it
  fork_both : (a : A) (b : B) (x : X) (f1 f2 : List Lexeme) → Whole Anything S a f1 → Whole Anything T b f1 → Whole D (Either (U a) (V b)) x f2 → Whole D Fork x (f1 ++ f2)
  fork_both a b x f1 f2 s t w tail d = by (w tail d)
    where
      by : Either (U a) (V b) x (f2 ++ tail) tail → Fork x ((f1 ++ f2) ++ tail) tail
      by (inl u) = inl (a, f2 ++ tail, subst (λ z. S a z (f2 ++ tail)) (sym (append_assoc f1 f2 tail)) (s (f2 ++ tail) tt), u)
      by (inr v) = inr (b, f2 ++ tail, subst (λ z. T b z (f2 ++ tail)) (sym (append_assoc f1 f2 tail)) (t (f2 ++ tail) tt), v)

  -- the tokens that both took
  both_taken : (a : A) (b : B) (ts mid : List Lexeme) → Taken Anything S a ts mid → Taken Anything T b ts mid → (front : List Lexeme) × (ts ≡ front ++ mid) × Whole Anything S a front × Whole Anything T b front
  both_taken a b ts mid x y = (x.0, x.1, x.2, subst (Whole Anything T b) (same_front y.0 x.0 mid (sym y.1 ∙ x.1)) y.2)

  -- what hangs on what was got
  abbrev Behind : Both A B → X → List Lexeme → List Lexeme → Type 0
  Behind (OnlyFirst a) = U a
  Behind (OnlySecond b) = V b
  Behind (BothGot a b) = Either (U a) (V b)

  law_behind : (z : Both A B) → Law M E D m (Behind z) (k z)
  law_behind (OnlyFirst a) = first a
  law_behind (OnlySecond b) = second b
  law_behind (BothGot a b) = together a b

  fork_is : (a : A) (b : B) (x : X) (ts mid rest : List Lexeme) → S a ts mid → T b ts mid → Either (U a) (V b) x mid rest → Fork x ts rest
  fork_is a b x ts mid rest s t (inl u) = inl (a, mid, s, u)
  fork_is a b x ts mid rest s t (inr v) = inr (b, mid, t, v)

  sound_behind : (x : X) (ts mid rest : List Lexeme) (z : Both A B) → Merged (run r ts) (run q ts) (Got z mid) → Behind z x mid rest × Taken D (Behind z) x mid rest → Fork x ts rest × Taken D Fork x ts rest
  sound_behind x ts _ rest _ (both_got a b mid e f) u =
      let s = hr.sound ts mid a e in
      let t = hq.sound ts mid b f in
      let y = both_taken a b ts mid s.1 t.1 in
      (fork_is a b x ts mid rest s.0 t.0 u.0, (y.0 ++ u.1.0, y.1 ∙ ap (λ z. y.0 ++ z) u.1.1 ∙ sym (append_assoc y.0 u.1.0 rest), fork_both a b x y.0 u.1.0 y.2 y.3 u.1.2))
  sound_behind x ts _ rest _ (first_got a mid e l) u =
      let s = hr.sound ts mid a e in
      (inl (a, mid, s.0, u.0), (s.1.0 ++ u.1.0, s.1.1 ∙ ap (λ z. s.1.0 ++ z) u.1.1 ∙ sym (append_assoc s.1.0 u.1.0 rest), fork_left x (s.1.0 ++ u.1.0) (then_whole S U a x s.1.0 u.1.0 (λ ts rest v d. tt) s.1.2 u.1.2)))
  sound_behind x ts _ rest _ (second_got b mid f l) u =
      let t = hq.sound ts mid b f in
      (inr (b, mid, t.0, u.0), (t.1.0 ++ u.1.0, t.1.1 ∙ ap (λ z. t.1.0 ++ z) u.1.1 ∙ sym (append_assoc t.1.0 u.1.0 rest), fork_right x (t.1.0 ++ u.1.0) (then_whole T V b x t.1.0 u.1.0 (λ ts rest v d. tt) t.1.2 u.1.2)))

  sound : (ts rest : List Lexeme) (x : X) → run (bind (both r q) k) ts ≡ Got x rest → Fork x ts rest × Taken D Fork x ts rest
  sound ts rest x e =
      let y = after_got (run (both r q) ts) (λ z us. run (k z) us) x rest (sym (run-bind (both r q) k ts) ∙ e) in
      sound_behind x ts y.1 rest y.0 (subst (Merged (run r ts) (run q ts)) y.2 (both_merged r q ts)) ((law_behind y.0).sound y.1 rest x y.3)

  -- ---- what is spelt is got

  hits_behind : (ts mid rest : List Lexeme) (z : Both A B) (x : X) → run (both r q) ts ≡ Got z mid → Hits (run (k z) mid) x rest → Hits (run (bind (both r q) k) ts) x rest
  hits_behind ts mid rest z x e h = then_hits (run (both r q) ts) (λ z us. run (k z) us) (run (bind (both r q) k) ts) z x mid rest (run-bind (both r q) k ts) (hit e) h

  hits_deep : (ts us rest : List Lexeme) (x : X) → run (both r q) ts ≡ Deep us → Hits (run (bind (both r q) k) ts) x rest
  hits_deep ts us rest x e = too_deep us (run-bind (both r q) k ts ∙ ap (λ o. after o (λ z us. run (k z) us)) e)

  left_hits : (ts mid rest : List Lexeme) (a : A) (x : X) (w : Reading (Both A B)) → run (both r q) ts ≡ w → Merged (run r ts) (run q ts) w → S a ts mid → U a x mid rest → D rest → Hits (run r ts) a mid → Hits (run (bind (both r q) k) ts) x rest
  left_hits ts mid rest a x _ is (both_got c b us e f) s u d (hit g) =
      let y = got_is us mid c a (run r ts) e g in
      hits_behind ts us rest (BothGot c b) x is ((together c b).complete us rest x (inl (subst (λ z. U c x z rest) (sym y.0) (subst (λ z. U z x mid rest) (sym y.1) u))) d)
  left_hits ts mid rest a x _ is (first_got c us e l) s u d (hit g) =
      let y = got_is us mid c a (run r ts) e g in
      hits_behind ts us rest (OnlyFirst c) x is ((first c).complete us rest x (subst (λ z. U c x z rest) (sym y.0) (subst (λ z. U z x mid rest) (sym y.1) u)) d)
  left_hits ts mid rest a x _ is (second_got b us f l) s u d (hit g) =
      let same : length mid ≡ length us = ap length (same_end a b ts mid us s (hq.sound ts us b f).0) in
      let less : length mid < length us = subst (Below (length us)) g l in
      absurd (omega (arith, same, less))
  left_hits ts mid rest a x _ is (first_stuck us vs e f l) s u d (hit g) = absurd (stuck_not_got (run r ts) us mid a e g)
  left_hits ts mid rest a x _ is (second_stuck us vs f e l) s u d (hit g) = absurd (stuck_not_got (run r ts) vs mid a e g)
  left_hits ts mid rest a x _ is (first_deep us e l) s u d h = hits_deep ts us rest x is
  left_hits ts mid rest a x _ is (second_deep us f l) s u d h = hits_deep ts us rest x is
  left_hits ts mid rest a x _ is (both_got c b us e f) s u d (too_deep vs g) = absurd (got_not_deep (run r ts) us vs c e g)
  left_hits ts mid rest a x _ is (first_got c us e l) s u d (too_deep vs g) = absurd (got_not_deep (run r ts) us vs c e g)
  left_hits ts mid rest a x _ is (second_got b us f l) s u d (too_deep vs g) =
      absurd (too_far S T same_end b ts us vs (hq.sound ts us b f).1 (hr.deepens ts vs g) (subst (Below (length us)) g l))
  left_hits ts mid rest a x _ is (first_stuck us vs e f l) s u d (too_deep ws g) = absurd (stuck_not_deep (run r ts) us ws e g)
  left_hits ts mid rest a x _ is (second_stuck us vs f e l) s u d (too_deep ws g) = absurd (stuck_not_deep (run r ts) vs ws e g)

  right_hits : (ts mid rest : List Lexeme) (b : B) (x : X) (w : Reading (Both A B)) → run (both r q) ts ≡ w → Merged (run r ts) (run q ts) w → T b ts mid → V b x mid rest → D rest → Hits (run q ts) b mid → Hits (run (bind (both r q) k) ts) x rest
  right_hits ts mid rest b x _ is (both_got a c us e f) t v d (hit g) =
      let y = got_is us mid c b (run q ts) f g in
      hits_behind ts us rest (BothGot a c) x is ((together a c).complete us rest x (inr (subst (λ z. V c x z rest) (sym y.0) (subst (λ z. V z x mid rest) (sym y.1) v))) d)
  right_hits ts mid rest b x _ is (second_got c us f l) t v d (hit g) =
      let y = got_is us mid c b (run q ts) f g in
      hits_behind ts us rest (OnlySecond c) x is ((second c).complete us rest x (subst (λ z. V c x z rest) (sym y.0) (subst (λ z. V z x mid rest) (sym y.1) v)) d)
  right_hits ts mid rest b x _ is (first_got a us e l) t v d (hit g) =
      let same : length us ≡ length mid = ap length (same_end a b ts us mid (hr.sound ts us a e).0 t) in
      let less : length mid < length us = subst (Below (length us)) g l in
      absurd (omega (arith, same, less))
  right_hits ts mid rest b x _ is (first_stuck us vs e f l) t v d (hit g) = absurd (stuck_not_got (run q ts) vs mid b f g)
  right_hits ts mid rest b x _ is (second_stuck us vs f e l) t v d (hit g) = absurd (stuck_not_got (run q ts) us mid b f g)
  right_hits ts mid rest b x _ is (first_deep us e l) t v d h = hits_deep ts us rest x is
  right_hits ts mid rest b x _ is (second_deep us f l) t v d h = hits_deep ts us rest x is
  right_hits ts mid rest b x _ is (both_got a c us e f) t v d (too_deep vs g) = absurd (got_not_deep (run q ts) us vs c f g)
  right_hits ts mid rest b x _ is (second_got c us f l) t v d (too_deep vs g) = absurd (got_not_deep (run q ts) us vs c f g)
  right_hits ts mid rest b x _ is (first_got a us e l) t v d (too_deep vs g) =
      absurd (too_far T S (λ b a ts rest behind t s. sym (same_end a b ts behind rest s t)) a ts us vs (hr.sound ts us a e).1 (hq.deepens ts vs g) (subst (Below (length us)) g l))
  right_hits ts mid rest b x _ is (first_stuck us vs e f l) t v d (too_deep ws g) = absurd (stuck_not_deep (run q ts) vs ws f g)
  right_hits ts mid rest b x _ is (second_stuck us vs f e l) t v d (too_deep ws g) = absurd (stuck_not_deep (run q ts) us ws f g)

  complete : (ts rest : List Lexeme) (x : X) → Fork x ts rest → D rest → Hits (run (bind (both r q) k) ts) x rest
  complete ts rest x (inl (a, mid, s, u)) d = left_hits ts mid rest a x (run (both r q) ts) refl (both_merged r q ts) s u d (hr.complete ts mid a s tt)
  complete ts rest x (inr (b, mid, t, v)) d = right_hits ts mid rest b x (run (both r q) ts) refl (both_merged r q ts) t v d (hq.complete ts mid b t tt)

  -- ---- what was taken begins something

  left_begun : (ts rest : List Lexeme) → Begun D (Then S U) ts rest → Begun D Fork ts rest
  left_begun ts rest y = (y.0, y.1, (y.2.0, y.2.1, fork_left y.2.1 (y.0 ++ y.2.0) y.2.2))

  right_begun : (ts rest : List Lexeme) → Begun D (Then T V) ts rest → Begun D Fork ts rest
  right_begun ts rest y = (y.0, y.1, (y.2.0, y.2.1, fork_right y.2.1 (y.0 ++ y.2.0) y.2.2))

  first_left : (ts rest : List Lexeme) → Begun Anything S ts rest → Begun D Fork ts rest
  first_left ts rest y = left_begun ts rest (first_begun S U (λ a x ts rest u d. tt) ts rest (λ a. (first a).ends) y)

  first_right : (ts rest : List Lexeme) → Begun Anything T ts rest → Begun D Fork ts rest
  first_right ts rest y = right_begun ts rest (first_begun T V (λ b x ts rest v d. tt) ts rest (λ b. (second b).ends) y)

  begun_behind : (ts mid rest : List Lexeme) (z : Both A B) → Merged (run r ts) (run q ts) (Got z mid) → Begun D (Behind z) mid rest → Begun D Fork ts rest
  begun_behind ts _ rest _ (both_got a b mid e f) u =
      let y = both_taken a b ts mid (hr.sound ts mid a e).1 (hq.sound ts mid b f).1 in (
        y.0 ++ u.0,
        y.1 ∙ ap (λ z. y.0 ++ z) u.1 ∙ sym (append_assoc y.0 u.0 rest),
        (u.2.0, u.2.1, subst (λ z. Whole D Fork u.2.1 z) (sym (append_assoc y.0 u.0 u.2.0)) (fork_both a b u.2.1 y.0 (u.0 ++ u.2.0) y.2 y.3 u.2.2)),
      )
  begun_behind ts _ rest _ (first_got a mid e l) u = left_begun ts rest (then_begun S U (λ a x ts rest u d. tt) a ts mid rest (hr.sound ts mid a e).1 u)
  begun_behind ts _ rest _ (second_got b mid f l) u = right_begun ts rest (then_begun T V (λ b x ts rest v d. tt) b ts mid rest (hq.sound ts mid b f).1 u)

  stuck_begun : (ts rest : List Lexeme) → Merged (run r ts) (run q ts) (Stuck rest) → Begun D Fork ts rest
  stuck_begun ts _ (first_stuck rest us e f l) = first_left ts rest (hr.closes ts rest e)
  stuck_begun ts _ (second_stuck rest us f e l) = first_right ts rest (hq.closes ts rest f)

  deep_begun : (ts rest : List Lexeme) → Merged (run r ts) (run q ts) (Deep rest) → Begun D Fork ts rest
  deep_begun ts _ (first_deep rest e l) = first_left ts rest (hr.deepens ts rest e)
  deep_begun ts _ (second_deep rest f l) = first_right ts rest (hq.deepens ts rest f)

  closes : (ts rest : List Lexeme) → run (bind (both r q) k) ts ≡ Stuck rest → Begun D Fork ts rest
  closes ts rest e = elim (after_stuck (run (both r q) ts) (λ z us. run (k z) us) rest (sym (run-bind (both r q) k ts) ∙ e)) [
    | inl y ↦ stuck_begun ts rest (subst (Merged (run r ts) (run q ts)) y (both_merged r q ts))
    | inr y ↦ begun_behind ts y.1 rest y.0 (subst (Merged (run r ts) (run q ts)) y.2 (both_merged r q ts)) ((law_behind y.0).closes y.1 rest y.3)
  ]

  deepens : (ts rest : List Lexeme) → run (bind (both r q) k) ts ≡ Deep rest → Begun D Fork ts rest
  deepens ts rest e = elim (after_deep (run (both r q) ts) (λ z us. run (k z) us) rest (sym (run-bind (both r q) k ts) ∙ e)) [
    | inl y ↦ deep_begun ts rest (subst (Merged (run r ts) (run q ts)) y (both_merged r q ts))
    | inr y ↦ begun_behind ts y.1 rest y.0 (subst (Merged (run r ts) (run q ts)) y.2 (both_merged r q ts)) ((law_behind y.0).deepens y.1 rest y.3)
  ]

  -- ---- where it leads

  merged_leads : (s : Nest) (ts : List Lexeme) (o : Reading A) (p : Reading B) (w : Reading (Both A B)) → Merged o p w → Nests (λ a. M) n s ts o → Nests (λ b. M) n s ts p → Nests (λ z. M) n s ts w
  merged_leads s ts o p _ (both_got a b rest e f) ho hp = subst (Nests (λ a. M) n s ts) e ho
  merged_leads s ts o p _ (first_got a rest e l) ho hp = subst (Nests (λ a. M) n s ts) e ho
  merged_leads s ts o p _ (second_got b rest f l) ho hp = subst (Nests (λ b. M) n s ts) f hp
  merged_leads s ts o p _ (first_stuck rest us e f l) ho hp = subst (Nests (λ a. M) n s ts) e ho
  merged_leads s ts o p _ (second_stuck rest us f e l) ho hp = subst (Nests (λ b. M) n s ts) f hp
  merged_leads s ts o p _ (first_deep rest e l) ho hp = subst (Nests (λ a. M) n s ts) e ho
  merged_leads s ts o p _ (second_deep rest f l) ho hp = subst (Nests (λ b. M) n s ts) f hp

  leads : (s : Nest) (ts : List Lexeme) → P s → Nests E n s ts (run (bind (both r q) k) ts)
  leads s ts p = subst (Nests E n s ts) (sym (run-bind (both r q) k ts))
      (then_leads (λ z. M) E n m s ts (run (both r q) ts) (λ z us. run (k z) us) (λ z mid. short z ts mid)
      (merged_leads s ts (run r ts) (run q ts) (run (both r q) ts) (both_merged r q ts) (hr.leads s ts p) (hq.leads s ts p)) (λ z p2 mid. (law_behind z).leads p2 mid))

  pub law_both : Law P E D n Fork (bind (both r q) k)
  law_both = record {
    sound = sound;
    complete = complete;
    closes = closes;
    deepens = deepens;
    leads = leads;
    ends = let y = then_ends S U (λ a x ts rest u d. tt) hr.ends (λ a. (first a).ends) in (y.0, y.1, fork_left y.1 y.0 y.2);
  }
