-- A set with one name more.
use Rattle.std.proofs.Common.{◌≡◌, ℕ, List, Bool, true, false, refl, ap, ◌∙◌}
use Rattle.std.specs.Prelude.{◌||◌, cond}
use Rattle.std.specs.Str.{bytes_eq}
use Rattle.std.specs.Ordering.{nat_cmp}
use Rattle.std.specs.Cmp.Lexicographic.{slice_cmp, nat_list_eq_equiv}
use Rattle.std.specs.BTreeSet.{BTreeSet, Updates}
use Rattle.std.proofs.lemmas.Map.Text.{is_eq-slice_cmp}
use denote.Ref.{Bor}
use Rattle.isle_lawful_names.specs.NameSet.{has_name}

cond_or : (b c : Bool) → cond b true c ≡ (b || c)
cond_or true c = refl
cond_or false c = refl

pub name_more : (old new : BTreeSet (Bor (List ℕ))) (key : Bor (List ℕ)) (other : List ℕ) → Updates (λ (x y : Bor (List ℕ)). slice_cmp nat_cmp x.now y.now) old new key true
    → has_name new other ≡ (bytes_eq other key.now || has_name old other)
name_more old new key other u =
    let q : Bor (List ℕ) = record { ref_ptr = key.ref_ptr; now = other } in
    u.0 q
    ∙ ap (λ b. cond b true (has_name old other)) (is_eq-slice_cmp key.now other ∙ nat_list_eq_equiv.symm key.now other)
    ∙ cond_or (bytes_eq other key.now) (has_name old other)
