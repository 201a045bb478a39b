-- Names that end in other bytes are apart, whatever folders they lie in.
use Rattle.std.proofs.Common.{◌≡◌, ℕ, ◌+◌, List, [], ◌∷◌, ◌++◌, length, Bool, true, false, refl, sym, ap, ◌∙◌, arith}
use Rattle.std.specs.Prelude.{◌||◌}
use Rattle.std.specs.Str.{bytes_eq}
use Rattle.std.proofs.lemmas.Slice.Eq.{bytes_eq-Decides}
use Rattle.isle_meta.specs.Layout.{joined_name}
use Rattle.isle_meta.specs.TableNames.{is_among, repeats, repeats_after}

-- ---- ends of one length

length_joined : (x s : List ℕ) → length (x ++ s) ≡ length x + length s
length_joined [] s = omega arith
length_joined (c ∷ x) s = let l = length_joined x s in omega (arith, l)

longer : (c : ℕ) (x s t : List ℕ) → length s ≡ length t → s ≡ (c ∷ x) ++ t → ⊥
longer c x s t l e =
    let whole : length s ≡ length ((c ∷ x) ++ t) = ap length e in
    let parts = length_joined (c ∷ x) t in
    omega (arith, l, whole, parts)

rest_same : (c d : ℕ) (v w : List ℕ) → c ∷ v ≡ d ∷ w → v ≡ w
rest_same c d v w e = cc

-- texts that are equal have equal ends
ends_same : (x y s t : List ℕ) → length s ≡ length t → x ++ s ≡ y ++ t → s ≡ t
ends_same [] [] s t l e = e
ends_same [] (d ∷ y) s t l e = absurd (longer d y s t l e)
ends_same (c ∷ x) [] s t l e = absurd (longer c x t s (sym l) (sym e))
ends_same (c ∷ x) (d ∷ y) s t l e = ends_same x y s t l (rest_same c d (x ++ s) (y ++ t) e)

differs : (v w : List ℕ) → bytes_eq v w ≡ false → v ≡ w → ⊥
differs v w h e = let k : true ≡ false = sym ((bytes_eq-Decides v w).1 e) ∙ h in absurd cc

-- so texts of other ends are others
ends_tell_two : (x y s t : List ℕ) → length s ≡ length t → bytes_eq s t ≡ false → bytes_eq (x ++ s) (y ++ t) ≡ false
ends_tell_two x y s t l h = one (bytes_eq (x ++ s) (y ++ t)) refl
  where
    one : (b : Bool) → bytes_eq (x ++ s) (y ++ t) ≡ b → bytes_eq (x ++ s) (y ++ t) ≡ false
    one false e = e
    one true e = absurd (differs s t h (ends_same x y s t l ((bytes_eq-Decides (x ++ s) (y ++ t)).0 e)))

-- ---- lists of names

-- the name ends in these eight bytes
pub record EndsIn (name end : List ℕ) : Type 0 where
  pub front : List ℕ
  pub whole : name ≡ front ++ end
  pub long : length end ≡ 8

-- each name ends in the bytes beside it
abbrev pub AreEnds : (names ends : List (List ℕ)) → Type 0
AreEnds [] [] = Unit {0}
AreEnds [] (end ∷ ends) = ⊥
AreEnds (name ∷ names) [] = ⊥
AreEnds (name ∷ names) (end ∷ ends) = EndsIn name end × AreEnds names ends

either : (a b : Bool) → (a || b) ≡ false → (a ≡ false) × (b ≡ false)
either true b h = absurd cc
either false b h = (refl, h)

both : (a b : Bool) → a ≡ false → b ≡ false → (a || b) ≡ false
both true b h k = absurd cc
both false b h k = k

two_tell : (n m s t : List ℕ) → EndsIn n s → EndsIn m t → bytes_eq s t ≡ false → bytes_eq n m ≡ false
two_tell n m s t a b h =
    ap (λ v. bytes_eq v m) a.whole ∙ ap (λ w. bytes_eq (a.front ++ s) w) b.whole ∙ ends_tell_two a.front b.front s t (a.long ∙ sym b.long) h

among_tell : (n s : List ℕ) → EndsIn n s → (names ends : List (List ℕ)) → AreEnds names ends → is_among s ends ≡ false → is_among n names ≡ false
among_tell n s a [] [] e h = refl
among_tell n s a [] (t ∷ ends) e h = absurd e
among_tell n s a (m ∷ names) [] e h = absurd e
among_tell n s a (m ∷ names) (t ∷ ends) e h =
    let parts = either (bytes_eq s t) (is_among s ends) h in
    both (bytes_eq n m) (is_among n names) (two_tell n m s t a e.0 parts.0) (among_tell n s a names ends e.1 parts.1)

one_more : (n s : List ℕ) → EndsIn n s → (names ends : List (List ℕ)) → AreEnds names ends → AreEnds (names ++ n ∷ []) (ends ++ s ∷ [])
one_more n s a [] [] e = (a, tt)
one_more n s a [] (t ∷ ends) e = absurd e
one_more n s a (m ∷ names) [] e = absurd e
one_more n s a (m ∷ names) (t ∷ ends) e = (e.0, one_more n s a names ends e.1)

after_tell : (names ends earlier earlier_ends : List (List ℕ)) → AreEnds names ends → AreEnds earlier earlier_ends → repeats_after earlier_ends ends ≡ false
    → repeats_after earlier names ≡ false
after_tell [] [] earlier earlier_ends e k h = refl
after_tell [] (s ∷ ends) earlier earlier_ends e k h = absurd e
after_tell (n ∷ names) [] earlier earlier_ends e k h = absurd e
after_tell (n ∷ names) (s ∷ ends) earlier earlier_ends e k h =
    let parts = either (is_among s earlier_ends) (repeats_after (earlier_ends ++ s ∷ []) ends) h in
    both (is_among n earlier) (repeats_after (earlier ++ n ∷ []) names) (among_tell n s e.0 earlier earlier_ends k parts.0)
    (after_tell names ends (earlier ++ n ∷ []) (earlier_ends ++ s ∷ []) e.1 (one_more n s e.0 earlier earlier_ends k) parts.1)

-- names whose ends don't repeat don't, either
pub ends_tell : (names ends : List (List ℕ)) → AreEnds names ends → repeats ends ≡ false → repeats names ≡ false
ends_tell names ends e h = after_tell names ends [] [] e tt h

-- ---- names in folders

joined_again : (x f s : List ℕ) → x ++ (f ++ s) ≡ (x ++ f) ++ s
joined_again [] f s = refl
joined_again (c ∷ x) f s = ap (λ v. c ∷ v) (joined_again x f s)

-- a name in a folder ends as it does by itself
pub joined_ends : (folder f s : List ℕ) → length s ≡ 8 → EndsIn (joined_name folder (f ++ s)) s
joined_ends [] f s l = record { front = f; whole = refl; long = l }
joined_ends (b ∷ folder) f s l = record { front = (b ∷ folder) ++ (47 ∷ f); whole = joined_again (b ∷ folder) (47 ∷ f) s; long = l }
