-- The path at the number of a binding.
use Rattle.std.proofs.Common.{rules, ◌≡◌, ℕ, zero, suc, ◌+◌, ◌≤◌, List, [], ◌∷◌, ◌++◌, length, get_or, fold, refl, ap, ◌∙◌, arith, length-append, append_assoc}
use Rattle.std.specs.Prelude.{slice_get, Some, None}
use Rattle.isle_core.specs.declared.rule_sets.Binding.{Binding}
use Rattle.isle_core.specs.Path.{Path, Nowhere, path_over, add_path, paths_of}

-- paths that more follow
record Onward (ps qs : List Path) : Type 0 where
  more : List Path
  is : qs ≡ ps ++ more

onward : (ps : List Path) (bs : List Binding) → Onward ps (fold add_path ps bs)
onward ps [] = record { more = []; is = search rules }
onward ps (b ∷ bs) =
    let h = onward (add_path ps b) bs in
    record { more = path_over ps b ∷ h.more; is = h.is ∙ append_assoc ps (path_over ps b ∷ []) h.more }

first_of : (ps more : List Path) (p d : Path) → get_or ((ps ++ p ∷ []) ++ more) (length ps) d ≡ p
first_of [] more p d = refl
first_of (q ∷ ps) more p d = first_of ps more p d

-- the path at a binding's number is made over some paths
from : (ps : List Path) (bs : List Binding) (i : ℕ) (b : Binding) → slice_get bs i ≡ Some b → (qs : List Path) × (get_or (fold add_path ps bs) (length ps + i) Nowhere ≡ path_over qs b)
from ps [] i b e = absurd cc
from ps (c ∷ bs) zero b e =
    let h = onward (add_path ps c) bs in
    let same : c ≡ b = cc in
    (ps, rw (h.is) (ap (λ n. get_or ((ps ++ path_over ps c ∷ []) ++ h.more) n Nowhere) (omega arith) ∙ first_of ps h.more (path_over ps c) Nowhere ∙ ap (path_over ps) same))
from ps (c ∷ bs) (suc i) b e =
    let h = from (add_path ps c) bs i b e in
    let n : length ps + suc i ≡ length (add_path ps c) + i = rw (length-append ps (path_over ps c ∷ [])) (omega arith) in
    (h.0, ap (λ k. get_or (fold add_path (add_path ps c) bs) k Nowhere) n ∙ h.1)

pub path_of : (bs : List Binding) (i : ℕ) (b : Binding) → slice_get bs i ≡ Some b → (qs : List Path) × (get_or (paths_of bs) i Nowhere ≡ path_over qs b)
path_of bs i b e =
    let h = from [] bs i b e in
    (h.0, ap (λ n. get_or (paths_of bs) n Nowhere) (omega arith) ∙ h.1)

-- as many paths as bindings
count : (ps : List Path) (bs : List Binding) → length (fold add_path ps bs) ≡ length ps + length bs
count ps [] = omega arith
count ps (b ∷ bs) = count (add_path ps b) bs ∙ rw (length-append ps (path_over ps b ∷ [])) (omega arith)

past : {A : Type 0} (xs : List A) (i : ℕ) (d : A) → length xs ≤ i → get_or xs i d ≡ d
past [] i d h = search rules
past (x ∷ xs) zero d h = absurd (omega (arith, h))
past (x ∷ xs) (suc i) d h = past xs i d (omega (arith, h))

beyond : {A : Type 0} (xs : List A) (i : ℕ) → slice_get xs i ≡ None → length xs ≤ i
beyond [] i e = omega arith
beyond (x ∷ xs) zero e = absurd cc
beyond (x ∷ xs) (suc i) e = let h = beyond xs i e in omega (arith, h)

pub path_none : (bs : List Binding) (i : ℕ) → slice_get bs i ≡ None → get_or (paths_of bs) i Nowhere ≡ Nowhere
path_none bs i e = let n = count [] bs in let le = beyond bs i e in past (paths_of bs) i Nowhere (omega (arith, le, n))
