-- Names that are joined to one folder differ where the names do.
use Rattle.std.proofs.Common.{◌≡◌, ℕ, List, [], ◌∷◌, ◌++◌, map, Bool, true, refl, sym, ap, ap₂, ◌∙◌, arith}
use Rattle.std.specs.Prelude.{◌||◌, ◌&&◌, ◌==◌}
use Rattle.std.specs.Str.{bytes_eq}
use Rattle.std.proofs.lemmas.Bool.Decides.{nat_tests}
use Rattle.isle_meta.specs.Layout.{joined_name}
use Rattle.isle_meta.specs.TableNames.{is_among, repeats, repeats_after}

one_byte : (c : ℕ) (b : Bool) → ((c == c) && b) ≡ b
one_byte c b = let same : (c == c) ≡ true = grind (arith, nat_tests) in ap (λ t. t && b) same

behind : (front v w : List ℕ) → bytes_eq (front ++ v) (front ++ w) ≡ bytes_eq v w
behind [] v w = refl
behind (c ∷ front) v w = one_byte c (bytes_eq (front ++ v) (front ++ w)) ∙ behind front v w

joined_same : (folder v w : List ℕ) → bytes_eq (joined_name folder v) (joined_name folder w) ≡ bytes_eq v w
joined_same [] v w = refl
joined_same (c ∷ folder) v w = behind (c ∷ folder) (47 ∷ v) (47 ∷ w)

among_joined : (folder name : List ℕ) (names : List (List ℕ)) → is_among (joined_name folder name) (map (joined_name folder) names) ≡ is_among name names
among_joined folder name [] = refl
among_joined folder name (n ∷ names) = ap₂ (λ a b. a || b) (joined_same folder name n) (among_joined folder name names)

map_joined : (f : List ℕ → List ℕ) (xs ys : List (List ℕ)) → map f (xs ++ ys) ≡ map f xs ++ map f ys
map_joined f [] ys = refl
map_joined f (x ∷ xs) ys = ap (λ zs. f x ∷ zs) (map_joined f xs ys)

after_joined : (folder : List ℕ) (earlier names : List (List ℕ))
    → repeats_after (map (joined_name folder) earlier) (map (joined_name folder) names) ≡ repeats_after earlier names
after_joined folder earlier [] = refl
after_joined folder earlier (n ∷ names) =
    ap₂ (λ a b. a || b) (among_joined folder n earlier)
    (ap (λ ns. repeats_after ns (map (joined_name folder) names)) (sym (map_joined (joined_name folder) earlier (n ∷ []))) ∙ after_joined folder (earlier ++ n ∷ []) names)

-- so names repeat in a folder just where they do by themselves
pub repeats_joined : (folder : List ℕ) (names : List (List ℕ)) → repeats (map (joined_name folder) names) ≡ repeats names
repeats_joined folder names = after_joined folder [] names
