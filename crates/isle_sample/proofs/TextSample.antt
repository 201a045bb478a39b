-- The text of the sample is that of its lines, and these are small.
use Rattle.std.proofs.Common.{◌≡◌, ℕ, zero, suc, ◌+◌, ◌<◌, ◌≤◌, ◌%◌, List, [], ◌∷◌, ◌++◌, map, flat_map, refl, sym, ap, ap₂, ◌∙◌, append-nil, arith}
use Rattle.std.specs.List.{range_with_len, AllByRecursion}
use Rattle.std.proofs.lemmas.List.Concat.{flat_map-append}
use Rattle.std.proofs.lemmas.List.Folds.{flat_map-map}
use Rattle.isle_sample.specs.Sample.{declaration, row, rows, last_rule, term_text, sample}
use Rattle.isle_sample.proofs.SampleLines.{Line, Gives, Otherwise, line_text, row_lines, term_lines, lines, IsSmall}

-- ---- the same text

-- parts whose texts are those of their lines
parts_text : {A B C : Type 0} (f : B → List C) (g : A → List B) (h : A → List C) → ((x : A) → h x ≡ flat_map f (g x))
    → (xs : List A) → flat_map h xs ≡ flat_map f (flat_map g xs)
parts_text f g h e [] = refl
parts_text f g h e (x ∷ xs) =
    ap₂ (λ ys zs. ys ++ zs) (e x) (parts_text f g h e xs) ∙ sym (flat_map-append f (g x) (flat_map g xs))

row_text : (i count a : ℕ) → row i a count ≡ flat_map line_text (row_lines i a count)
row_text i count a = sym (flat_map-map line_text (λ b. Gives i a b) (range_with_len 0 count))

rows_text : (i count : ℕ)
    → rows i count ≡ flat_map line_text (flat_map (λ a. row_lines i a count) (range_with_len 0 count))
rows_text i count =
    parts_text line_text (λ a. row_lines i a count) (λ a. row i a count) (row_text i count) (range_with_len 0 count)

one_text : (i : ℕ) → term_text i ≡ flat_map line_text (term_lines i)
one_text i =
    let pairs : List Line = flat_map (λ a. row_lines i a (i % 4 + 1)) (range_with_len 0 (i % 4 + 1)) in
    ap (λ xs. declaration i ++ xs)
    (ap₂ (λ xs ys. xs ++ ys) (rows_text i (i % 4 + 1)) (sym (append-nil (last_rule i)))
    ∙ sym (flat_map-append line_text pairs (Otherwise i ∷ [])))

-- the text of the sample is that of its lines
pub sample_lines : (n : ℕ) → sample n ≡ flat_map line_text (lines n)
sample_lines n = parts_text line_text term_lines term_text one_text (range_with_len 0 n)

-- ---- small lines

all_joined : {X : Type 0} (P : X → Type 0) (xs ys : List X) → AllByRecursion P xs → AllByRecursion P ys
    → AllByRecursion P (xs ++ ys)
all_joined P [] ys h k = k
all_joined P (x ∷ xs) ys h k = (h.0, all_joined P xs ys h.1 k)

all_listed : {X : Type 0} (P : X → Type 0) (f : ℕ → X) (at count : ℕ) → ((i : ℕ) → i < at + count → P (f i))
    → AllByRecursion P (map f (range_with_len at count))
all_listed P f at zero h = tt
all_listed P f at (suc count) h = (h at (omega arith), all_listed P f (at + 1) count (λ i l. h i (omega (arith, l))))

all_parts : {X : Type 0} (P : X → Type 0) (f : ℕ → List X) (at count : ℕ)
    → ((i : ℕ) → i < at + count → AllByRecursion P (f i))
    → AllByRecursion P (flat_map f (range_with_len at count))
all_parts P f at zero h = tt
all_parts P f at (suc count) h =
    all_joined P (f at) (flat_map f (range_with_len (at + 1) count)) (h at (omega arith))
    (all_parts P f (at + 1) count (λ i l. h i (omega (arith, l))))

row_small : (i count a : ℕ) → count ≤ 4 → a < count → AllByRecursion IsSmall (row_lines i a count)
row_small i count a most l =
    all_listed IsSmall (λ b. Gives i a b) 0 count (λ b m. (omega (arith, most, l), omega (arith, most, m)))

one_small : (i : ℕ) → AllByRecursion IsSmall (term_lines i)
one_small i =
    let count : ℕ = i % 4 + 1 in
    let most : count ≤ 4 = omega arith in
    let pairs : List Line = flat_map (λ a. row_lines i a count) (range_with_len 0 count) in
    let small : AllByRecursion IsSmall pairs =
    all_parts IsSmall (λ a. row_lines i a count) 0 count (λ a l. row_small i count a most (omega (arith, l))) in
    (tt, all_joined IsSmall pairs (Otherwise i ∷ []) small (tt, tt))

-- the numbers of each rule of the sample are below four
pub lines_small : (n : ℕ) → AllByRecursion IsSmall (lines n)
lines_small n = all_parts IsSmall term_lines 0 n (λ i l. one_small i)
