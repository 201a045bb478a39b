-- Names that are lent, in ascending order.
use Rattle.std.proofs.Common.{◌≡◌, ℕ, List, [], ◌∷◌, Ordering, Less, Equal, Greater, refl, ap}
use Rattle.std.specs.Ordering.{match_ordering, nat_cmp}
use Rattle.std.specs.BTreeSet.{insert_key}
use Rattle.std.specs.Cmp.Lexicographic.{slice_cmp}
use denote.Ref.{Bor}
use Rattle.isle_prelude.specs.Lent.{lent}

-- a name is put at its place among names that are lent as among names
pub insert_lent : (names : List (Bor (List ℕ))) (name : Bor (List ℕ)) → lent (insert_key (λ (x y : Bor (List ℕ)). slice_cmp nat_cmp x.now y.now) names name) ≡ insert_key (slice_cmp nat_cmp) (lent names) name.now
insert_lent [] name = refl
insert_lent (x ∷ xs) name = one (slice_cmp nat_cmp name.now x.now) (insert_lent xs name)
  where
    one : (o : Ordering) → lent (insert_key (λ (x y : Bor (List ℕ)). slice_cmp nat_cmp x.now y.now) xs name) ≡ insert_key (slice_cmp nat_cmp) (lent xs) name.now → lent (match_ordering o (name ∷ x ∷ xs) (x ∷ xs) (x ∷ insert_key (λ (x y : Bor (List ℕ)). slice_cmp nat_cmp x.now y.now) xs name)) ≡ match_ordering o (name.now ∷ x.now ∷ lent xs) (x.now ∷ lent xs) (x.now ∷ insert_key (slice_cmp nat_cmp) (lent xs) name.now)
    one Less e = refl
    one Equal e = refl
    one Greater e = ap (λ ks. x.now ∷ ks) e
