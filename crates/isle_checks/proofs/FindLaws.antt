-- Finding, one rule after another, and one group after another.
use Rattle.std.proofs.Common.{◌≡◌, ◌⊎◌, inl, inr, ⊎_elim, ℕ, ◌+◌, ◌<◌, ◌≤◌, List, [], ◌∷◌, ◌++◌, length, get_or, take, refl, sym, ap, ◌∙◌, subst, arith, Option, Some, None}
use Rattle.std.specs.Prelude.{Contains}
use Rattle.std.proofs.lemmas.List.{take_more}
use Rattle.std.proofs.lemmas.List.Elements.{Contains-append_left, Contains-append_right, Contains-append_cases}
use Rattle.isle_core.proofs.Contained.{head_contained, contained_cases, none_contained}
use Rattle.isle_checks.specs.declared.placed.Check.{Check}
use Rattle.isle_checks.specs.declared.placed.Placed.{Placed}
use Rattle.isle_checks.specs.Makes.{Makes}
use Rattle.isle_checks.specs.Firsts.{Found, Has, HasUpTo, After, IsMade, Finds, IsFirstMaker, AreBelow}

-- no rule was looked at
pub found_none : (check : Check) (makers : List Placed) (found : Found) → Finds check makers [] found found
found_none check makers found = record { long = refl; sound = λ j i h. inl h; kept = λ j i h. record { k = i; le = omega arith; has = h }; complete = λ a b c d m. absurd (none_contained b d) }

-- what is made among fewer is made among more
pub made_among : (check : Check) (ms ns os ps : List Placed) (i j : ℕ) → ((a : Placed) → Contains ms a → Contains ns a) → ((a : Placed) → Contains os a → Contains ps a) → IsMade check ms os i j → IsMade check ns ps i j
made_among check ms ns os ps i j h k d = record { maker = d.maker; other = d.other; maker_among = h d.maker d.maker_among; other_among = k d.other d.other_among; maker_place = d.maker_place; other_place = d.other_place; makes = d.makes }

-- what is found up to a place stays so
pub up_to_then : (mid new : Found) → ((j i : ℕ) → Has mid j i → HasUpTo new j i) → (j i : ℕ) → HasUpTo mid j i → HasUpTo new j i
up_to_then mid new kept j i h = let n = kept j h.k h.has in record { k = n.k; le = let a = n.le in let b = h.le in omega (arith, a, b); has = n.has }

-- one rule more
pub find_more : (check : Check) (makers others : List Placed) (i : ℕ) (b : Placed) (old mid new : Found) (r : Option ℕ) → i < length others → b ≡ get_or others i b → Finds check makers (take i others) old mid → IsFirstMaker check makers b r → After mid new b.place r
    → Finds check makers (take (i + 1) others) old new
find_more check makers others i b old mid new r lt is h first after = subst (λ os. Finds check makers os old new) (sym more) (record {
  long = long_of r after ∙ h.long;
  sound = λ j k has. ⊎_elim (λ m. sound_old j k m) (λ m. inr m) (sound_of r first after j k has);
  kept = λ j k has. up_to_then mid new (kept_of r after) j k (h.kept j k has);
  complete = λ a c d e m. ⊎_elim (λ f. up_to_then mid new (kept_of r after) c.place a.place (h.complete a c d f m)) (λ f. complete_of r first after a c d (one_of c f) m) (Contains-append_cases (take i others) (b ∷ []) c e);
})
  where
    more : take (i + 1) others ≡ take i others ++ b ∷ []
    more = take_more others i b lt ∙ ap (λ x. take i others ++ x ∷ []) (sym is)

    one_of : (c : Placed) → Contains (b ∷ []) c → b ≡ c
    one_of c f = ⊎_elim (λ e. e) (λ d. absurd (none_contained c d)) (contained_cases b [] c f)

    long_of : (r : Option ℕ) → After mid new b.place r → length new ≡ length mid
    long_of None a = ap length a
    long_of (Some p) a = a.long

    kept_of : (r : Option ℕ) → After mid new b.place r → (j k : ℕ) → Has mid j k → HasUpTo new j k
    kept_of None a j k has = record { k = k; le = omega arith; has = subst (λ f. Has f j k) (sym a) has }
    kept_of (Some p) a j k has = a.kept j k has

    last : (c : Placed) → b ≡ c → Contains (take i others ++ b ∷ []) c
    last c e = subst (Contains (take i others ++ b ∷ [])) e (Contains-append_right (take i others) (b ∷ []) b (head_contained b []))

    sound_old : (j k : ℕ) → Has mid j k → Has old j k ⊎ IsMade check makers (take i others ++ b ∷ []) k j
    sound_old j k has = ⊎_elim (λ m. inl m) (λ m. inr (made_among check makers makers (take i others) (take i others ++ b ∷ []) k j (λ a c. c) (λ a c. Contains-append_left (take i others) (b ∷ []) a c) m)) (h.sound j k has)

    sound_of : (r : Option ℕ) → IsFirstMaker check makers b r → After mid new b.place r → (j k : ℕ) → Has new j k → Has mid j k ⊎ IsMade check makers (take i others ++ b ∷ []) k j
    sound_of None f a j k has = inl (subst (λ x. Has x j k) a has)
    sound_of (Some p) f a j k has = ⊎_elim (λ m. inl m) (λ m. inr (record { maker = f.0.0; other = b; maker_among = f.0.1; other_among = last b refl; maker_place = f.0.2 ∙ sym m.1; other_place = sym m.0; makes = f.0.3 })) (a.sound j k has)

    complete_of : (r : Option ℕ) → IsFirstMaker check makers b r → After mid new b.place r → (a c : Placed) → Contains makers a → b ≡ c → Makes check a c → HasUpTo new c.place a.place
    complete_of None f g a c d e m = absurd (f a d (subst (Makes check a) (sym e) m))
    complete_of (Some p) f g a c d e m =
        let le : p ≤ a.place = f.1 a d (subst (Makes check a) (sym e) m) in
        subst (λ (x : Placed). HasUpTo new x.place a.place) e (record { k = g.here.k; le = let n = g.here.le in omega (arith, n, le); has = g.here.has })

-- ---- of several finds

-- no rule was compared with these
pub nobody_found : (check : Check) (others : List Placed) (found : Found) → Finds check [] others found found
nobody_found check others found = record { long = refl; sound = λ j i h. inl h; kept = λ j i h. record { k = i; le = omega arith; has = h }; complete = λ a b c d m. absurd (none_contained a c) }

-- the one rule for which a maker was noted
pub one_found : (check : Check) (makers : List Placed) (b : Placed) (old new : Found) (r : Option ℕ) → IsFirstMaker check makers b r → After old new b.place r → Finds check makers (b ∷ []) old new
one_found check makers b old new r first after = find_more check makers (b ∷ []) 0 b old old new r (omega arith) refl (found_none check makers old) first after

-- as many places are left
pub noted_long : (old new : Found) (j : ℕ) (r : Option ℕ) → After old new j r → length new ≡ length old
noted_long old new j None a = ap length a
noted_long old new j (Some p) a = a.long

module _ (check : Check) (old mid new : Found) where
  -- first these makers were compared, then those
  pub find_makers : (ms ns os : List Placed) → Finds check ms os old mid → Finds check ns os mid new → Finds check (ms ++ ns) os old new
  find_makers ms ns os f g = record {
    long = g.long ∙ f.long;
    sound = λ j i has. ⊎_elim
        (λ k. ⊎_elim (λ d. inl d) (λ d. inr (made_among check ms (ms ++ ns) os os i j (λ a c. Contains-append_left ms ns a c) (λ a c. c) d)) (f.sound j i k))
        (λ d. inr (made_among check ns (ms ++ ns) os os i j (λ a c. Contains-append_right ms ns a c) (λ a c. c) d))
        (g.sound j i has);
    kept = λ j i has. up_to_then mid new g.kept j i (f.kept j i has);
    complete = λ a b c d m. ⊎_elim (λ k. up_to_then mid new g.kept b.place a.place (f.complete a b k d m)) (λ k. g.complete a b k d m) (Contains-append_cases ms ns a c);
  }

  -- first these rules were looked at, then those
  pub find_others : (ms os ps : List Placed) → Finds check ms os old mid → Finds check ms ps mid new → Finds check ms (os ++ ps) old new
  find_others ms os ps f g = record {
    long = g.long ∙ f.long;
    sound = λ j i has. ⊎_elim
        (λ k. ⊎_elim (λ d. inl d) (λ d. inr (made_among check ms ms os (os ++ ps) i j (λ a c. c) (λ a c. Contains-append_left os ps a c) d)) (f.sound j i k))
        (λ d. inr (made_among check ms ms ps (os ++ ps) i j (λ a c. c) (λ a c. Contains-append_right os ps a c) d))
        (g.sound j i has);
    kept = λ j i has. up_to_then mid new g.kept j i (f.kept j i has);
    complete = λ a b c d m. ⊎_elim (λ k. up_to_then mid new g.kept b.place a.place (f.complete a b c k m)) (λ k. g.complete a b c k m) (Contains-append_cases os ps b d);
  }

-- each of these stands among those
abbrev pub Within : List Placed → List Placed → Type 0
Within part group = (a : Placed) → Contains part a → Contains group a

-- what more rules make is made by the fewer that were compared
pub find_enlarged : (check : Check) (ms ns os ps : List Placed) (old new : Found) → Within ms ns → Within os ps → ((a b : Placed) → Contains ns a → Contains ps b → Makes check a b → Contains ms a × Contains os b)
    → Finds check ms os old new → Finds check ns ps old new
find_enlarged check ms ns os ps old new h k made f = record {
  long = f.long;
  sound = λ j i has. ⊎_elim (λ d. inl d) (λ d. inr (made_among check ms ns os ps i j h k d)) (f.sound j i has);
  kept = f.kept;
  complete = λ a b c d m. let e = made a b c d m in f.complete a b e.0 e.1 m;
}

-- one rule more
pub find_next : (check : Check) (makers others : List Placed) (i : ℕ) (b : Placed) (old mid new : Found) → i < length others → b ≡ get_or others i b → Finds check makers (take i others) old mid → Finds check makers (b ∷ []) mid new
    → Finds check makers (take (i + 1) others) old new
find_next check makers others i b old mid new lt is f g =
    let more : take (i + 1) others ≡ take i others ++ b ∷ [] = take_more others i b lt ∙ ap (λ x. take i others ++ x ∷ []) (sym is) in
    subst (λ os. Finds check makers os old new) (sym more) (find_others check old mid new makers (take i others) (b ∷ []) f g)

-- places lie below a number in a part, and if as many were found
pub below_part : (group part : List Placed) (n m : ℕ) → Within part group → m ≡ n → AreBelow n group → AreBelow m part
below_part group part n m h e k a c = subst (λ x. a.place < x) (sym e) (k a (h a c))
