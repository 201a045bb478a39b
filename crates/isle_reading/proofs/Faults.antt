-- Tokens spell one value at most; and where reading stops is the place where they go wrong, the only one.
use Rattle.std.proofs.Common.{◌≡◌, ℕ, ◌≤◌, List, [], ◌∷◌, ◌++◌, length, append-nil, append_assoc, ◌⊎◌, inl, inr, refl, ap, sym, ◌∙◌, subst, arith, Some}
use Rattle.std.specs.Prelude.{fold}
use Rattle.isle_lexer.specs.Lexeme.{Lexeme}
use Rattle.isle_reading.specs.Reader.{Reading, Got, Stuck, Deep, Reader, run}
use Rattle.isle_reading.specs.Nesting.{Nest, nest, nothing_open, depth, most_open}
use Rattle.isle_reading.specs.Relations.{Begun, Ended}
use Rattle.isle_reading.specs.Places.{Accepted, Starts, GoesWrong, wrong, too_deep, missing, IsFault, place_left, IsFaultAt}
use Rattle.isle_reading.specs.Views.{stops}
use Rattle.isle_reading.proofs.Running.{stuck_not_got, stuck_not_deep, got_is, same_front, stuck_here}
use Rattle.isle_reading.proofs.Passes.{Over, Nests, passed_front, front_shallow, last_shallow, shallow_not_over}
use Rattle.isle_reading.proofs.Law as law
use Rattle.isle_reading.proofs.Law.{Hits, hit, Law}

-- ---- a reader up to the end of the text

module _ {A : Type 0} {P : Nest → Type 0} {E : A → Nest → Type 0} {n : ℕ} (S : A → List Lexeme → List Lexeme → Type 0) (r : Reader A) (h : Law P E Ended n S r) (start : P nothing_open) where
  -- what is got is spelt, and nests no deeper than may be
  pub got_spelt : ((a : A) (ts rest : List Lexeme) → S a ts rest → rest ≡ []) → (ts rest : List Lexeme) (a : A) → run r ts ≡ Got a rest → S a ts [] × (depth ts ≤ most_open)
  got_spelt to_end ts rest a e = by (h.sound ts rest a e).0 (subst (Nests E n nothing_open ts) e (h.leads nothing_open ts start))
    where
      by : S a ts rest → Nests E n nothing_open ts (Got a rest) → S a ts [] × (depth ts ≤ most_open)
      by s (p, x, _) =
          let none = to_end a ts rest s in
          let y = passed_front x in
          let whole : ts ≡ y.0 = y.1 ∙ ap (λ z. y.0 ++ z) none ∙ append-nil y.0 in
          (subst (S a ts) none s, subst (λ z. depth z ≤ most_open) (sym whole) y.2)

  -- what is spelt, and nests no deeper, is got
  pub spelt_got : (ts : List Lexeme) (a : A) → length ts ≤ n → S a ts [] → depth ts ≤ most_open → run r ts ≡ Got a []
  spelt_got ts a l s d = by (run r ts) (h.complete ts [] a s refl) (h.leads nothing_open ts start)
    where
      by : (o : Reading A) → Hits o a [] → Nests E n nothing_open ts o → o ≡ Got a []
      by o (hit e) x = e
      by o (law.too_deep rest e) x = let y = subst (Nests E n nothing_open ts) e x in absurd (shallow_not_over nothing_open y.0 ts rest d y.1 (y.2 l))

  -- tokens spell one value at most
  pub spelt_once : (ts : List Lexeme) (a b : A) → length ts ≤ n → depth ts ≤ most_open → S a ts [] → S b ts [] → a ≡ b
  spelt_once ts a b l d s t = (got_is [] [] a b (run r ts) (spelt_got ts a l s d) (spelt_got ts b l t d)).1

  starts : (ts rest front : List Lexeme) → ts ≡ front ++ rest → Begun Ended S ts rest → Starts (Accepted S) front
  starts ts rest front e (other, f, (others, a, w)) =
      let same = same_front other front rest (sym f ∙ e) in
      (others, (a, subst (λ z. S a (z ++ others) []) same (subst (λ z. S a z []) (append-nil (other ++ others)) (w [] refl))))

  -- with the token at which reading is stuck nothing begins
  stuck_wrong : (front behind : List Lexeme) (t : Lexeme) → run r (front ++ t ∷ behind) ≡ Stuck (t ∷ behind) → Starts (Accepted S) (front ++ t ∷ []) → ⊥
  stuck_wrong front behind t e (others, (a, s)) =
      by (h.complete (front ++ t ∷ others) [] a (subst (λ z. S a z []) (append_assoc front (t ∷ []) others) s) refl) (stuck_here r front behind others t e)
    where
      by : Hits (run r (front ++ t ∷ others)) a [] → run r (front ++ t ∷ others) ≡ Stuck (t ∷ others) → ⊥
      by (hit g) f = stuck_not_got _ (t ∷ others) [] a f g
      by (law.too_deep q g) f = stuck_not_deep _ (t ∷ others) q f g

  missing_there : (ts : List Lexeme) → run r ts ≡ Stuck [] → Accepted S ts → ⊥
  missing_there ts e (a, s) = by (h.complete ts [] a s refl)
    where
      by : Hits (run r ts) a [] → ⊥
      by (hit g) = stuck_not_got _ [] [] a e g
      by (law.too_deep q g) = stuck_not_deep _ [] q e g

  stuck_goes : (ts front rest : List Lexeme) → ts ≡ front ++ rest → run r ts ≡ Stuck rest → GoesWrong (Accepted S) front rest
  stuck_goes ts front [] e f = missing refl (missing_there front (subst (λ z. run r z ≡ Stuck []) (e ∙ append-nil front) f))
  stuck_goes ts front (t ∷ behind) e f = wrong t behind refl (stuck_wrong front behind t (subst (λ z. run r z ≡ Stuck (t ∷ behind)) e f))

  deep_goes : (front rest : List Lexeme) → Over (fold nest nothing_open front) rest → GoesWrong (Accepted S) front rest
  deep_goes front rest (t, behind, e, l) = too_deep t behind e (let x : length (nest (fold nest nothing_open front) t).marks ≤ depth (front ++ t ∷ []) = last_shallow nothing_open front t in omega (arith, x, l))

  -- where reading stops is the place where tokens go wrong
  pub stop_fault : (ts : List Lexeme) (left : ℕ) → length ts ≤ n → stops (run r ts) ≡ Some left → IsFault (Accepted S) ts left
  stop_fault ts left l e = by (run r ts) refl e (h.leads nothing_open ts start)
    where
      by : (o : Reading A) → run r ts ≡ o → stops o ≡ Some left → Nests E n nothing_open ts o → IsFault (Accepted S) ts left
      by (Got a rest) is f x = cc
      by (Stuck rest) is f (p, x) = let y = passed_front x in record {
        front = y.0;
        rest = rest;
        split = y.1;
        counted = let c : length rest ≡ left = cc (f) in sym c;
        starts = starts ts rest y.0 y.1 (h.closes ts rest is);
        shallow = y.2;
        goes_wrong = stuck_goes ts y.0 rest y.1 is;
      }
      by (Deep rest) is f (p, x, over) = let y = passed_front x in record {
        front = y.0;
        rest = rest;
        split = y.1;
        counted = let c : length rest ≡ left = cc (f) in sym c;
        starts = starts ts rest y.0 y.1 (h.deepens ts rest is);
        shallow = y.2;
        goes_wrong = deep_goes y.0 rest (subst (λ z. Over z rest) (sym y.3) (over l));
      }

-- ---- one place at most

-- what stands in front of more starts with it
starts_front : (accepted : List Lexeme → Type 0) (front more : List Lexeme) → Starts accepted (front ++ more) → Starts accepted front
starts_front accepted front more (others, s) = (more ++ others, subst accepted (append_assoc front more others) s)

-- one of them stands in front of the other, or they are the same
abbrev Apart : List Lexeme → List Lexeme → List Lexeme → List Lexeme → Type 0
Apart front rest other behind = (rest ≡ behind) ⊎ ((t : Lexeme) × (us more : List Lexeme) × (rest ≡ t ∷ us) × (other ≡ (front ++ t ∷ []) ++ more)) ⊎ ((t : Lexeme) × (us more : List Lexeme) × (behind ≡ t ∷ us) × (front ≡ (other ++ t ∷ []) ++ more))

more_apart : (x y : Lexeme) (front rest other behind : List Lexeme) → x ≡ y → Apart front rest other behind → Apart (x ∷ front) rest (y ∷ other) behind
more_apart x y front rest other behind e (inl h) = inl h
more_apart x y front rest other behind e (inr (inl (t, us, more, f, h))) = inr (inl (t, us, more, f, ap (λ z. z ∷ other) (sym e) ∙ ap (λ z. x ∷ z) h))
more_apart x y front rest other behind e (inr (inr (t, us, more, f, h))) = inr (inr (t, us, more, f, ap (λ z. z ∷ front) e ∙ ap (λ z. y ∷ z) h))

apart : (front rest other behind : List Lexeme) → front ++ rest ≡ other ++ behind → Apart front rest other behind
apart [] rest [] behind e = inl e
apart [] rest (y ∷ other) behind e = inr (inl (y, other ++ behind, other, e, refl))
apart (x ∷ front) rest [] behind e = inr (inr (x, front ++ rest, front, sym e, refl))
apart (x ∷ front) rest (y ∷ other) behind e =
    let same : x ≡ y = cc in
    let behind_it : front ++ rest ≡ other ++ behind = cc in
    more_apart x y front rest other behind same (apart front rest other behind behind_it)

-- nothing that goes on well goes wrong there
not_earlier : (accepted : List Lexeme → Type 0) (front rest other more : List Lexeme) (t : Lexeme) (us : List Lexeme) → GoesWrong accepted front rest → rest ≡ t ∷ us → other ≡ (front ++ t ∷ []) ++ more
    → Starts accepted other → depth other ≤ most_open → ⊥
not_earlier accepted front rest other more t us (wrong u behind e w) f g s d =
    let same : u ≡ t = cc (e, f) in
    w (starts_front accepted (front ++ u ∷ []) more (subst (Starts accepted) (g ∙ ap (λ z. (front ++ z ∷ []) ++ more) (sym same)) s))
not_earlier accepted front rest other more t us (too_deep u behind e l) f g s d =
    let same : u ≡ t = cc (e, f) in
    let x : depth ((front ++ u ∷ []) ++ more) ≤ most_open = subst (λ z. depth z ≤ most_open) (g ∙ ap (λ z. (front ++ z ∷ []) ++ more) (sym same)) d in
    let y : depth (front ++ u ∷ []) ≤ most_open = front_shallow nothing_open (front ++ u ∷ []) more most_open x in
    omega (arith, y, l)
not_earlier accepted front rest other more t us (missing e w) f g s d = let x : [] ≡ t ∷ us = sym e ∙ f in cc

pub fault_once : (accepted : List Lexeme → Type 0) (ts : List Lexeme) (m n : ℕ) → IsFault accepted ts m → IsFault accepted ts n → m ≡ n
fault_once accepted ts m n f g = by (apart f.front f.rest g.front g.rest (sym f.split ∙ g.split))
  where
    by : Apart f.front f.rest g.front g.rest → m ≡ n
    by (inl e) = f.counted ∙ ap length e ∙ sym g.counted
    by (inr (inl (t, us, more, e, h))) = absurd (not_earlier accepted f.front f.rest g.front more t us f.goes_wrong e h g.starts g.shallow)
    by (inr (inr (t, us, more, e, h))) = absurd (not_earlier accepted g.front g.rest f.front more t us g.goes_wrong e h f.starts f.shallow)

-- what is accepted, and nests no deeper than may be, does not go wrong
pub fault_unspelt : (accepted : List Lexeme → Type 0) (ts : List Lexeme) (m : ℕ) → IsFault accepted ts m → accepted ts → depth ts ≤ most_open → ⊥
fault_unspelt accepted ts m f s d = by f.rest f.goes_wrong f.split
  where
    by : (rest : List Lexeme) → GoesWrong accepted f.front rest → ts ≡ f.front ++ rest → ⊥
    by [] (wrong t behind e w) k = let x : [] ≡ t ∷ behind = e in cc
    by [] (too_deep t behind e l) k = let x : [] ≡ t ∷ behind = e in cc
    by [] (missing e w) k = w (subst accepted (k ∙ append-nil f.front) s)
    by (t ∷ us) g k = not_earlier accepted f.front (t ∷ us) ts us t us g refl (k ∙ sym (append_assoc f.front (t ∷ []) us)) ([], subst accepted (sym (append-nil ts)) s) d

-- what is accepted, said otherwise
pub fault_map : (accepted taken : List Lexeme → Type 0) (ts : List Lexeme) (m : ℕ) → ((us : List Lexeme) → accepted us → taken us) → ((us : List Lexeme) → taken us → accepted us) → IsFault accepted ts m → IsFault taken ts m
fault_map accepted taken ts m to from f = record {
  front = f.front;
  rest = f.rest;
  split = f.split;
  counted = f.counted;
  starts = (f.starts.0, to (f.front ++ f.starts.0) f.starts.1);
  shallow = f.shallow;
  goes_wrong = by f.goes_wrong;
}
  where
    by : GoesWrong accepted f.front f.rest → GoesWrong taken f.front f.rest
    by (wrong t behind e w) = wrong t behind e (λ s. w (s.0, from ((f.front ++ t ∷ []) ++ s.0) s.1))
    by (too_deep t behind e l) = too_deep t behind e l
    by (missing e w) = missing e (λ s. w (from f.front s))

-- the same of places in a text
pub fault_at_once : (accepted : List Lexeme → Type 0) (ts : List Lexeme) (end m n : ℕ) → IsFaultAt accepted ts end m → IsFaultAt accepted ts end n → m ≡ n
fault_at_once accepted ts end m n f g = f.stands ∙ ap (λ k. place_left ts k end) (fault_once accepted ts f.left g.left f.fault g.fault) ∙ sym g.stands
