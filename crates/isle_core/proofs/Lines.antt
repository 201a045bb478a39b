-- Where lines begin, and the number of a line.
use Rattle.std.proofs.Common.{◌≡◌, ℕ, zero, suc, ◌+◌, ◌<◌, ◌≤◌, List, [], ◌∷◌, length, take, get_or, Bool, true, false, cond, eqb, leb, refl, sym, ap, ◌∙◌, arith}
use Rattle.std.specs.Prelude.{count_by}
use Rattle.std.specs.List.{AllWithin}
use Rattle.std.specs.List.Sorted.{IsPartitionPoint, IsPartitionedBy}
use Rattle.std.proofs.lemmas.List.Sums.{sum_by-cons}
use Rattle.std.proofs.lemmas.List.Sorted.{IsPartitionedBy-leb}
use Rattle.std.proofs.lemmas.Bool.{le-leb, lt-leb}
use Rattle.isle_core.specs.Printed.{line_of}
use Rattle.isle_core.specs.LineStarts.{starts_from, starts_of}

-- ---- starts rise

after_onto : (c : Bool) (n : ℕ) (starts : List ℕ) (k d : ℕ) → ((k : ℕ) → k < length starts → n + 1 < get_or starts k d) → k < length (cond c ((n + 1) ∷ starts) starts) → n < get_or (cond c ((n + 1) ∷ starts) starts) k d
after_onto true n starts zero d rest lt = omega arith
after_onto true n starts (suc k) d rest lt = let h = rest k (omega (arith, lt)) in omega (arith, h)
after_onto false n starts k d rest lt = let h = rest k lt in omega (arith, h)

-- every start lies after the first place
after : (n : ℕ) (bs : List ℕ) (k d : ℕ) → k < length (starts_from n bs) → n < get_or (starts_from n bs) k d
after n [] k d lt = absurd (omega (arith, lt))
after n (b ∷ bs) k d lt = after_onto (eqb b 10) n (starts_from (n + 1) bs) k d (λ j. after (n + 1) bs j d) lt

rise_onto : (c : Bool) (n : ℕ) (starts : List ℕ) (i j d : ℕ) → ((k : ℕ) → k < length starts → n < get_or starts k d) → ((i j : ℕ) → i ≤ j → j < length starts → get_or starts i d ≤ get_or starts j d)
    → i ≤ j → j < length (cond c (n ∷ starts) starts) → get_or (cond c (n ∷ starts) starts) i d ≤ get_or (cond c (n ∷ starts) starts) j d
rise_onto true n starts zero zero d above rest le lt = omega arith
rise_onto true n starts zero (suc j) d above rest le lt = let h = above j (omega (arith, lt)) in omega (arith, h)
rise_onto true n starts (suc i) zero d above rest le lt = absurd (omega (arith, le))
rise_onto true n starts (suc i) (suc j) d above rest le lt = rest i j (omega (arith, le)) (omega (arith, lt))
rise_onto false n starts i j d above rest le lt = rest i j le lt

rise : (n : ℕ) (bs : List ℕ) (i j d : ℕ) → i ≤ j → j < length (starts_from n bs) → get_or (starts_from n bs) i d ≤ get_or (starts_from n bs) j d
rise n [] i j d le lt = absurd (omega (arith, lt))
rise n (b ∷ bs) i j d le lt = rise_onto (eqb b 10) (n + 1) (starts_from (n + 1) bs) i j d (λ k. after (n + 1) bs k d) (λ k l. rise (n + 1) bs k l d) le lt

-- ---- how many starts lie before a place

count_cons : (p : ℕ → Bool) (x : ℕ) (xs : List ℕ) → count_by p (x ∷ xs) ≡ cond (p x) 1 0 + count_by p xs
count_cons p x xs = sum_by-cons (λ y. cond (p y) 1 0) x xs

none_onto : (c : Bool) (n m : ℕ) (starts : List ℕ) → m ≤ n → count_by (λ s. leb s m) starts ≡ 0 → count_by (λ s. leb s m) (cond c ((n + 1) ∷ starts) starts) ≡ 0
none_onto true n m starts le rest = count_cons (λ s. leb s m) (n + 1) starts ∙ rw (lt-leb (n + 1) m (omega (arith, le)), rest) refl
none_onto false n m starts le rest = rest

none_before : (n m : ℕ) (bs : List ℕ) → m ≤ n → count_by (λ s. leb s m) (starts_from n bs) ≡ 0
none_before n m [] le = refl
none_before n m (b ∷ bs) le = none_onto (eqb b 10) n m (starts_from (n + 1) bs) le (none_before (n + 1) m bs (omega (arith, le)))

some_onto : (c : Bool) (n d : ℕ) (starts : List ℕ) (k : ℕ) → count_by (λ s. leb s ((n + 1) + d)) starts ≡ k → count_by (λ s. leb s ((n + 1) + d)) (cond c ((n + 1) ∷ starts) starts) ≡ cond c 1 0 + k
some_onto true n d starts k rest = count_cons (λ s. leb s ((n + 1) + d)) (n + 1) starts ∙ rw (le-leb (n + 1) ((n + 1) + d) (omega arith)) (ap (λ m. 1 + m) rest)
some_onto false n d starts k rest = rest ∙ omega arith

starts_before : (n d : ℕ) (bs : List ℕ) → count_by (λ s. leb s (n + d)) (starts_from n bs) ≡ count_by (λ b. eqb b 10) (take d bs)
starts_before n zero bs = none_before n (n + 0) bs (omega arith)
starts_before n (suc d) [] = refl
starts_before n (suc d) (b ∷ bs) =
    let next : n + suc d ≡ (n + 1) + d = omega arith in
    ap (λ m. count_by (λ s. leb s m) (starts_from n (b ∷ bs))) next
    ∙ some_onto (eqb b 10) n d (starts_from (n + 1) bs) _ (starts_before (n + 1) d bs)
    ∙ sym (count_cons (λ c. eqb c 10) b (take d bs))

-- the elements that pass stand before a point, and the others after it
count_at : (p : ℕ → Bool) (xs : List ℕ) (k : ℕ) → k ≤ length xs → AllWithin (λ y. p y ≡ true) xs 0 k → AllWithin (λ y. p y ≡ false) xs k (length xs) → count_by p xs ≡ k
count_at p [] k le passed failed = omega (arith, le)
count_at p (x ∷ xs) zero le passed failed =
    let h = count_at p xs zero (omega arith) (λ i d low lt. absurd (omega (arith, lt))) (λ i d low lt. failed (suc i) d (omega arith) (omega (arith, lt))) in
    count_cons p x xs ∙ rw (failed 0 x (omega arith) (omega arith)) (omega (arith, h))
count_at p (x ∷ xs) (suc k) le passed failed =
    let h = count_at p xs k (omega (arith, le)) (λ i d low lt. passed (suc i) d (omega arith) (omega (arith, lt))) (λ i d low lt. failed (suc i) d (omega (arith, low)) (omega (arith, lt))) in
    count_cons p x xs ∙ rw (passed 0 x (omega arith) (omega arith)) (omega (arith, h))

pub starts_partitioned : (text : List ℕ) (offset : ℕ) → IsPartitionedBy (λ s. leb s offset) (starts_of text)
starts_partitioned text offset = IsPartitionedBy-leb (λ s. s) (starts_of text) offset (λ i j d le lt. rise 0 text i j d le lt)

-- as many line feeds stand before a place as lines begin before it
pub feeds_before : (text : List ℕ) (offset k : ℕ) → k ≤ length (starts_of text) → IsPartitionPoint (λ s. leb s offset ≡ true) (λ s. leb s offset ≡ false) (starts_of text) k → count_by (λ b. eqb b 10) (take offset text) ≡ k
feeds_before text offset k le h = sym (starts_before 0 offset text) ∙ ap (λ m. count_by (λ s. leb s m) (starts_of text)) (omega arith) ∙ count_at (λ s. leb s offset) (starts_of text) k le h.0 h.1

pub line_is : (text : List ℕ) (offset k : ℕ) → k ≤ length (starts_of text) → IsPartitionPoint (λ s. leb s offset ≡ true) (λ s. leb s offset ≡ false) (starts_of text) k → 1 + k ≡ line_of text offset
line_is text offset k le h = ap (λ n. 1 + n) (sym (feeds_before text offset k le h))
