-- A name more in a set of names.
use Rattle.std.proofs.Common.{◌≡◌, ℕ, ◌+◌, ◌<◌, List, ◌∷◌, length, drop, map, get_or, Bool, true, false, cond, refl, sym, ap, ◌∙◌}
use Rattle.std.specs.Prelude.{◌||◌}
use Rattle.std.specs.Str.{bytes_eq}
use Rattle.std.specs.Ordering.{nat_cmp}
use Rattle.std.specs.Cmp.Lexicographic.{slice_cmp, nat_list_eq_equiv}
use Rattle.std.specs.BTreeSet.{BTreeSet, Updates}
use Rattle.std.proofs.lemmas.List.{drop_more}
use Rattle.std.proofs.lemmas.Map.Text.{is_eq-slice_cmp}
use denote.Ref.{Bor}
use Rattle.isle_operand_names.specs.Names.{is_among}
use Rattle.isle_operand_names.specs.Sets.{has_name}

cond_or : (b c : Bool) → cond b true c ≡ (b || c)
cond_or true c = refl
cond_or false c = refl

pub name_more : (old new : BTreeSet (Bor (List ℕ))) (key : Bor (List ℕ)) (other : List ℕ) → Updates (λ (x y : Bor (List ℕ)). slice_cmp nat_cmp x.now y.now) old new key true
    → has_name new other ≡ (bytes_eq other key.now || has_name old other)
name_more old new key other u =
    let q : Bor (List ℕ) = record { ref_ptr = key.ref_ptr; now = other } in
    u.0 q
    ∙ ap (λ b. cond b true (has_name old other)) (is_eq-slice_cmp key.now other ∙ nat_list_eq_equiv.symm key.now other)
    ∙ cond_or (bytes_eq other key.now) (has_name old other)

rotated : (a b c : Bool) → ((a || b) || c) ≡ (b || (a || c))
rotated true true c = refl
rotated true false c = refl
rotated false true c = refl
rotated false false c = refl

-- one of the names that are left joins the set
pub among_more : (names : List (Bor (List ℕ))) (i : ℕ) (key d : Bor (List ℕ)) (old new : BTreeSet (Bor (List ℕ))) → i < length names → key ≡ get_or names i d → Updates (λ (x y : Bor (List ℕ)). slice_cmp nat_cmp x.now y.now) old new key true
    → ((name : List ℕ) → (has_name old name || is_among name (map (λ (x : Bor (List ℕ)). x.now) (drop i names))) ≡ is_among name (map (λ (x : Bor (List ℕ)). x.now) names))
    → (name : List ℕ) → (has_name new name || is_among name (map (λ (x : Bor (List ℕ)). x.now) (drop (i + 1) names))) ≡ is_among name (map (λ (x : Bor (List ℕ)). x.now) names)
among_more names i key d old new lt is updates before name =
    ap (λ b. b || is_among name (map (λ (x : Bor (List ℕ)). x.now) (drop (i + 1) names))) (name_more old new key name updates)
    ∙ rotated (bytes_eq name key.now) (has_name old name) (is_among name (map (λ (x : Bor (List ℕ)). x.now) (drop (i + 1) names)))
    ∙ ap (λ xs. has_name old name || is_among name (map (λ (x : Bor (List ℕ)). x.now) xs)) (sym (drop_more names i d lt ∙ ap (λ x. x ∷ drop (i + 1) names) (sym is)))
    ∙ before name
