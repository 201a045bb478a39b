-- Texts of numbers in a row, by what is left of them.
use Rattle.std.proofs.Common.{◌≡◌, ℕ, suc, ◌+◌, ◌-◌, ◌<◌, List, ◌∷◌, ◌++◌, sym, ap, ◌∙◌, append_assoc, arith}
use Rattle.std.specs.List.{flat_map, range_with_len}

-- the first of the numbers that are left, and the others
pub left_more : (i n : ℕ) → i < n → range_with_len i (n - i) ≡ i ∷ range_with_len (i + 1) (n - (i + 1))
left_more i n lt =
    let more : n - i ≡ suc (n - (i + 1)) = omega (arith, lt) in
    ap (range_with_len i) more

-- a text more
pub one_more : (f : ℕ → List ℕ) (i n : ℕ) (old new whole : List ℕ) → i < n → old ++ flat_map f (range_with_len i (n - i)) ≡ whole → new ≡ old ++ f i → new ++ flat_map f (range_with_len (i + 1) (n - (i + 1))) ≡ whole
one_more f i n old new whole lt before is =
    ap (λ xs. xs ++ flat_map f (range_with_len (i + 1) (n - (i + 1)))) is
    ∙ append_assoc old (f i) (flat_map f (range_with_len (i + 1) (n - (i + 1))))
    ∙ ap (λ xs. old ++ flat_map f xs) (sym (left_more i n lt))
    ∙ before
