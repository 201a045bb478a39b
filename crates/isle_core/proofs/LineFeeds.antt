-- The next line feed of a text, and the lines after it.
use Rattle.std.proofs.Common.{◌≡◌, ℕ, zero, suc, ◌+◌, ◌-◌, ◌<◌, ◌≤◌, List, [], ◌∷◌, ◌++◌, Bool, true, false, eqb, drop, length, refl, sym, ap, ◌∙◌, append_assoc, arith, length-drop}
use Rattle.std.proofs.lemmas.List.{append-nil}
use Rattle.std.specs.List.{position_or_len, after_first}
use Rattle.isle_core.specs.LineStarts.{starts_from}

-- where the next line feed stands
abbrev place : List ℕ → ℕ
place bs = position_or_len (λ b. eqb b 10) bs

-- a line begins after it
line_next : (n k : ℕ) (bs : List ℕ) → k ≡ place bs + 1 → place bs < length bs → starts_from n bs ≡ (n + k) ∷ starts_from (n + k) (drop k bs)
line_next n k [] e h = absurd (omega arith)
line_next n zero (b ∷ bs) e h = absurd (omega arith)
line_next n (suc j) (b ∷ bs) e h = one (eqb b 10) refl (λ later some. line_next (n + 1) j bs later some)
  where
    one : (t : Bool) → eqb b 10 ≡ t → (j ≡ place bs + 1 → place bs < length bs → starts_from (n + 1) bs ≡ (n + 1 + j) ∷ starts_from (n + 1 + j) (drop j bs)) → starts_from n (b ∷ bs) ≡ (n + suc j) ∷ starts_from (n + suc j) (drop j bs)
    one true is go =
        let p : place (b ∷ bs) ≡ 0 = rw is refl in
        let none : j ≡ 0 = omega arith in
        rw (is, none) refl
    one false is go =
        let p : place (b ∷ bs) ≡ 1 + place bs = rw is refl in
        let more : n + 1 + j ≡ n + suc j = omega arith in
        rw is (go (omega arith) (omega arith) ∙ ap (λ k. k ∷ starts_from k (drop j bs)) more)

-- and none if there is no line feed
none_next : (n : ℕ) (bs : List ℕ) → place bs ≡ length bs → starts_from n bs ≡ []
none_next n [] h = refl
none_next n (b ∷ bs) h = one (eqb b 10) refl (λ none. none_next (n + 1) bs none)
  where
    one : (t : Bool) → eqb b 10 ≡ t → (place bs ≡ length bs → starts_from (n + 1) bs ≡ []) → starts_from n (b ∷ bs) ≡ []
    one true is go = let p : place (b ∷ bs) ≡ 0 = rw is refl in absurd (omega arith)
    one false is go = let p : place (b ∷ bs) ≡ 1 + place bs = rw is refl in rw is (go (omega arith))

-- one line more
pub feeds_more : (text rest after starts items all : List ℕ) → length rest ≤ length text → starts ++ starts_from (length text - length rest) rest ≡ all → place rest < length rest → after ≡ after_first (λ b. eqb b 10) rest
    → items ≡ starts ++ (length text - length after) ∷ [] → (length after ≤ length text) × (items ++ starts_from (length text - length after) after ≡ all)
feeds_more text rest after starts items all within so_far some is pushed =
    let short : length after ≡ length rest - (place rest + 1) = ap length is ∙ length-drop (place rest + 1) rest in
    let at : length text - length rest + (place rest + 1) ≡ length text - length after = omega arith in (
      omega arith,
      ap (λ xs. xs ++ starts_from (length text - length after) after) pushed
          ∙ append_assoc starts ((length text - length after) ∷ []) (starts_from (length text - length after) after)
          ∙ ap (λ xs. starts ++ xs) (sym (line_next (length text - length rest) (place rest + 1) rest refl some ∙ rw (at, ← is) refl))
          ∙ so_far,
    )

-- no line more
pub feeds_end : (n : ℕ) (rest starts all : List ℕ) → starts ++ starts_from n rest ≡ all → place rest ≡ length rest → starts ≡ all
feeds_end n rest starts all so_far none = sym (append-nil starts) ∙ ap (λ xs. starts ++ xs) (sym (none_next n rest none)) ∙ so_far
