-- The short name is what a search from the end finds.
use Rattle.std.proofs.Common.{◌≡◌, ℕ, zero, suc, ◌<◌, ◌≤◌, List, [], ◌∷◌, ◌++◌, length, take, drop, Bool, true, false, refl, ap, ◌∙◌, arith}
use Rattle.std.specs.Prelude.{◌||◌, codes, if◌then◌else◌}
use Rattle.std.specs.Str.Pattern.{LacksTextAt}
use Rattle.std.proofs.lemmas.Slice.Eq.{bytes_eq-Decides}
use Rattle.isle_meta.specs.ShortName.{begins_mark, has_mark, short_name}

-- the text begins so if its first two bytes are the mark
mark_split : (s : List ℕ) → begins_mark s ≡ true → s ≡ codes "::" ++ drop 2 s
mark_split [] e = absurd cc
mark_split (a ∷ []) e = let k : take 2 (a ∷ []) ≡ codes "::" = (bytes_eq-Decides (take 2 (a ∷ [])) (codes "::")).0 e in absurd cc
mark_split (a ∷ b ∷ s) e = let k : a ∷ b ∷ [] ≡ codes "::" = (bytes_eq-Decides (a ∷ b ∷ []) (codes "::")).0 e in cc

-- where the mark never stands
lacks_one : (b : ℕ) (bs : List ℕ) → LacksTextAt (codes "::") (b ∷ bs) 0 → has_mark bs ≡ false → has_mark (b ∷ bs) ≡ false
lacks_one b bs h e = one (begins_mark (b ∷ bs)) refl
  where
    one : (t : Bool) → begins_mark (b ∷ bs) ≡ t → (begins_mark (b ∷ bs) || has_mark bs) ≡ false
    one false p = ap (λ u. u || has_mark bs) p ∙ e
    one true p = absurd (h (drop 2 (b ∷ bs)) (mark_split (b ∷ bs) p))

lacks_mark : (s : List ℕ) → ((i : ℕ) → i ≤ length s → LacksTextAt (codes "::") s i) → has_mark s ≡ false
lacks_mark [] h = refl
lacks_mark (b ∷ bs) h = lacks_one b bs (h 0 (omega arith)) (lacks_mark bs (λ i le r. h (suc i) (omega arith) r))

-- without a mark the whole text is the name
choose : (X : List ℕ) (Y : List ℕ) (Z : List ℕ) (t u : Bool) → (t || u) ≡ false → (if u then X else (if t then Y else Z)) ≡ Z
choose X Y Z true u e = absurd cc
choose X Y Z false true e = absurd cc
choose X Y Z false false e = refl

whole : (s : List ℕ) → has_mark s ≡ false → short_name s ≡ s
whole [] e = refl
whole (b ∷ bs) e = choose (short_name bs) (drop 2 (b ∷ bs)) (b ∷ bs) (begins_mark (b ∷ bs)) (has_mark bs) e

pub short_none : (s : List ℕ) → ((i : ℕ) → i ≤ length s → LacksTextAt (codes "::") s i) → short_name s ≡ s
short_none s h = whole s (lacks_mark s h)

-- a text that begins with the mark
begins_from : (s rest : List ℕ) → s ≡ codes "::" ++ rest → begins_mark s ≡ true
begins_from s rest e = ap begins_mark e

or_true : (t : Bool) → (t || true) ≡ true
or_true true = refl
or_true false = refl

-- none of these begins in an empty text
none_in_empty : (i : ℕ) (rest : List ℕ) → drop i [] ≡ codes "::" ++ rest → ⊥
none_in_empty zero rest e = absurd cc
none_in_empty (suc i) rest e = absurd cc

-- a mark further on
has_from : (s : List ℕ) (i : ℕ) (rest : List ℕ) → drop i s ≡ codes "::" ++ rest → has_mark s ≡ true
has_from [] i rest e = absurd (none_in_empty i rest e)
has_from (b ∷ bs) zero rest e = ap (λ t. t || has_mark bs) (begins_from (b ∷ bs) rest e)
has_from (b ∷ bs) (suc i) rest e = ap (λ t. begins_mark (b ∷ bs) || t) (has_from bs i rest e) ∙ or_true (begins_mark (b ∷ bs))

-- the name is that of the rest
further : (X Y Z : List ℕ) (t u : Bool) → u ≡ true → (if u then X else (if t then Y else Z)) ≡ X
further X Y Z t u e = rw e refl

here : (X Y Z : List ℕ) (t u : Bool) → u ≡ false → t ≡ true → (if u then X else (if t then Y else Z)) ≡ Y
here X Y Z t u e k = rw (e, k) refl

pub short_found : (s : List ℕ) (i : ℕ) (rest : List ℕ) → drop i s ≡ codes "::" ++ rest → ((k : ℕ) → i < k → k ≤ length s → LacksTextAt (codes "::") s k) → short_name s ≡ rest
short_found [] i rest e h = absurd (none_in_empty i rest e)
short_found (b ∷ bs) zero rest e h =
    here (short_name bs) (drop 2 (b ∷ bs)) (b ∷ bs) (begins_mark (b ∷ bs)) (has_mark bs) (lacks_mark bs (λ k le r. h (suc k) (omega arith) (omega arith) r)) (begins_from (b ∷ bs) rest e)
    ∙ ap (drop 2) e
short_found (b ∷ bs) (suc i) rest e h =
    further (short_name bs) (drop 2 (b ∷ bs)) (b ∷ bs) (begins_mark (b ∷ bs)) (has_mark bs) (has_from bs i rest e)
    ∙ short_found bs i rest e (λ k lt le r. h (suc k) (omega arith) (omega arith) r)
