-- What searches in texts find, as their definitions say it.
use Rattle.std.proofs.Common.{◌≡◌, ℕ, zero, suc, ◌+◌, ◌-◌, ◌<◌, ◌≤◌, List, [], ◌∷◌, ◌++◌, length, take, drop, Bool, true, false, eqb, Option, Some, None, refl, sym, ap, ap₂, ◌∙◌, arith}
use Rattle.std.specs.Prelude.{◌||◌, MatchBool, MatchOption, option_map, codes, if◌then◌else◌}
use Rattle.std.specs.List.{ends_with}
use Rattle.std.specs.Option.{option_copied}
use Rattle.std.specs.Str.Pattern.{FindsText, FindsTextSuffix, HasMatch, LacksTextAt}
use Rattle.std.proofs.lemmas.Bool.Decides.{Decides-eqb}
use Rattle.std.proofs.lemmas.Slice.Eq.{ends_is, starts_is}
use denote.Ref.{Bor}
use Rattle.isle_pulley_rows.specs.BinaryParts.{before_end, split}
use Rattle.isle_pulley_rows.specs.Words.{begins_with, holds}

-- ---- at the front

-- a text that begins with a word is the word and more
begins_split : (word text : List ℕ) → begins_with word text ≡ true → text ≡ word ++ drop (length word) text
begins_split word text e = (starts_is Decides-eqb text word _ refl).0 e

begins_from : (word text rest : List ℕ) → text ≡ word ++ rest → begins_with word text ≡ true
begins_from word text rest e = sym refl ∙ (starts_is Decides-eqb text word _ refl).1 rest e

-- where the word doesn't stand the text doesn't begin with it
begins_not : (word text : List ℕ) → LacksTextAt word text 0 → begins_with word text ≡ false
begins_not word text h = one (begins_with word text) refl
  where
    one : (t : Bool) → begins_with word text ≡ t → t ≡ false
    one false p = refl
    one true p = absurd (h (drop (length word) text) (begins_split word text p))

-- ---- further on

-- no word of some bytes stands in an empty text
none_in_empty : (a : ℕ) (word : List ℕ) (i : ℕ) (rest : List ℕ) → drop i [] ≡ (a ∷ word) ++ rest → ⊥
none_in_empty a word zero rest e = absurd cc
none_in_empty a word (suc i) rest e = absurd cc

or_true : (t : Bool) → (t || true) ≡ true
or_true true = refl
or_true false = refl

holds_from : (a : ℕ) (word text : List ℕ) (i : ℕ) (rest : List ℕ) → drop i text ≡ (a ∷ word) ++ rest → holds (a ∷ word) text ≡ true
holds_from a word [] i rest e = absurd (none_in_empty a word i rest e)
holds_from a word (b ∷ bs) zero rest e = ap (λ t. t || holds (a ∷ word) bs) (begins_from (a ∷ word) (b ∷ bs) rest e)
holds_from a word (b ∷ bs) (suc i) rest e =
    ap (λ t. begins_with (a ∷ word) (b ∷ bs) || t) (holds_from a word bs i rest e) ∙ or_true (begins_with (a ∷ word) (b ∷ bs))

holds_not : (word text : List ℕ) → ((i : ℕ) → i ≤ length text → LacksTextAt word text i) → holds word text ≡ false
holds_not word [] h = refl
holds_not word (b ∷ bs) h =
    ap (λ t. t || holds word bs) (begins_not word (b ∷ bs) (h 0 (omega arith))) ∙ holds_not word bs (λ i le r. h (suc i) (omega arith) r)

-- what `contains` tells
pub contains_is : (word text : List ℕ) (r : Bool) → 0 < length word → MatchBool r (HasMatch (FindsText word) text) (FindsText word text None)
    → r ≡ holds word text
contains_is [] text r lt h = absurd (omega arith)
contains_is (a ∷ word) text true lt h = sym (holds_from a word text h.0 (drop h.1 text) h.2.1.split)
contains_is (a ∷ word) text false lt h = sym (holds_not (a ∷ word) text h)

-- ---- the first `, `

pub split_found : (text : List ℕ) (i : ℕ) (rest : List ℕ) → drop i text ≡ codes ", " ++ rest → ((k : ℕ) → k < i → LacksTextAt (codes ", ") text k)
    → split text ≡ Some (take i text, rest)
split_found [] i rest e h = absurd (none_in_empty 44 (codes " ") i rest e)
split_found (b ∷ bs) zero rest e h =
    ap (λ (t : Bool). if t then Some ([], drop 2 (b ∷ bs)) else option_map (λ (p : List ℕ × List ℕ). (b ∷ p.0, p.1)) (split bs)) (begins_from (codes ", ") (b ∷ bs) rest e)
    ∙ ap (λ (d : List ℕ). Some ([], d)) (ap (drop 2) e)
split_found (b ∷ bs) (suc i) rest e h =
    ap (λ (t : Bool). if t then Some ([], drop 2 (b ∷ bs)) else option_map (λ (p : List ℕ × List ℕ). (b ∷ p.0, p.1)) (split bs)) (begins_not (codes ", ") (b ∷ bs) (h 0 (omega arith)))
    ∙ ap (option_map (λ (p : List ℕ × List ℕ). (b ∷ p.0, p.1))) (split_found bs i rest e (λ k lt r. h (suc k) (omega arith) r))

pub split_none : (text : List ℕ) → ((i : ℕ) → i ≤ length text → LacksTextAt (codes ", ") text i) → split text ≡ None
split_none [] h = refl
split_none (b ∷ bs) h =
    ap (λ (t : Bool). if t then Some ([], drop 2 (b ∷ bs)) else option_map (λ (p : List ℕ × List ℕ). (b ∷ p.0, p.1)) (split bs)) (begins_not (codes ", ") (b ∷ bs) (h 0 (omega arith)))
    ∙ ap (option_map (λ (p : List ℕ × List ℕ). (b ∷ p.0, p.1))) (split_none bs (λ i le r. h (suc i) (omega arith) r))

-- ---- at the end

ends_not : (text : List ℕ) → FindsTextSuffix (codes " >") text None → ends_with eqb text (codes " >") ≡ false
ends_not text h = one (ends_with eqb text (codes " >")) refl
  where
    one : (t : Bool) → ends_with eqb text (codes " >") ≡ t → t ≡ false
    one false p = refl
    one true p = absurd (h _ ((ends_is Decides-eqb text (codes " >") _ refl).0 p))

pub strip_end_is : (text : List ℕ) (r : Option (Bor (List ℕ)))
    → MatchOption r (FindsTextSuffix (codes " >") text None) (λ x. (n : ℕ) × FindsTextSuffix (codes " >") text (Some n) × (x.now ≡ take (length text - n) text) × (length x.now + n ≡ length text))
    → option_copied r ≡ before_end text
strip_end_is text None h = sym (ap (λ (t : Bool). if t then Some (take (length text - 2) text) else None) (ends_not text h))
strip_end_is text (Some x) h =
    ap Some (h.2 ∙ ap (λ n. take (length text - n) text) h.1.0)
    ∙ sym (ap (λ (t : Bool). if t then Some (take (length text - 2) text) else None) ((ends_is Decides-eqb text (codes " >") _ refl).1 _ h.1.1))

-- what `split_once` gives
pub split_is : (text : List ℕ) (r : Option (Bor (List ℕ) × Bor (List ℕ)))
    → MatchOption r (FindsText (codes ", ") text None) (λ x. (i : ℕ) × (j : ℕ) × FindsText (codes ", ") text (Some (i, j)) × (x.0.now ≡ take i text) × (x.1.now ≡ drop j text) × (i ≤ j) × (length x.0.now ≡ i) × (length x.1.now + j ≡ length text))
    → option_map (λ (p : Bor (List ℕ) × Bor (List ℕ)). (p.0.now, p.1.now)) r ≡ split text
split_is text None h = sym (split_none text h)
split_is text (Some x) h =
    ap₂ (λ (a b : List ℕ). Some (a, b)) h.3 h.4 ∙ sym (split_found text h.0 (drop h.1 text) h.2.1.split h.2.0)
