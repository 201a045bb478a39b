-- Names that don't repeat are distinct.
use Rattle.std.proofs.Common.{◌≡◌, ℕ, Bool, true, false, cond, List, [], ◌∷◌, ◌++◌, length, Option, Some, None, refl, sym, ap, ◌∙◌}
use Rattle.std.specs.Prelude.{is_some}
use Rattle.std.specs.List.{AllByRecursion, IsDistinct}
use Rattle.std.specs.Str.{bytes_eq}
use Rattle.std.proofs.lemmas.Bool.{or_parts}
use Rattle.isle_declarations.specs.Symbols.{index_of}
use Rattle.isle_declarations.specs.Repeats.{repeats, repeats_after}
use Rattle.isle_declarations.proofs.SymbolLaws.{index_of_more, none_of}

-- none of these names is among those
AreNew : List (List ℕ) → List (List ℕ) → Type 0
AreNew before names = AllByRecursion (λ name. is_some (index_of before name) ≡ false) names

-- each of these is another name
AreOther : List ℕ → List (List ℕ) → Type 0
AreOther first names = AllByRecursion (λ name. bytes_eq first name ≡ false) names

neither : (b : Bool) (n : ℕ) (o : Option ℕ) → is_some (cond b (Some n) o) ≡ false → (b ≡ false) × (is_some o ≡ false)
neither true n o e = absurd cc
neither false n o e = (refl, e)

new_parts : (before : List (List ℕ)) (first : List ℕ) (names : List (List ℕ)) → index_of before first ≡ None → AreNew (before ++ first ∷ []) names → AreOther first names × AreNew before names
unfolding AreNew AreOther
new_parts before first [] absent h = (tt, tt)
new_parts before first (name ∷ names) absent h =
    let here = neither (bytes_eq first name) (length before) (index_of before name) (ap is_some (sym (index_of_more before first name absent)) ∙ h.0) in
    let rest = new_parts before first names absent h.1 in
    ((here.0, rest.0), (here.1, rest.1))

distinct_after : (before names : List (List ℕ)) → repeats_after before names ≡ false → IsDistinct bytes_eq names × AreNew before names
unfolding IsDistinct AreNew AreOther
distinct_after before [] h = (tt, tt)
distinct_after before (name ∷ names) h =
    let k = or_parts (is_some (index_of before name)) (repeats_after (before ++ name ∷ []) names) h in
    let rest = distinct_after (before ++ name ∷ []) names k.1 in
    let apart = new_parts before name names (none_of (index_of before name) k.0) rest.1 in
    ((apart.0, rest.0), (k.0, apart.1))

-- names that don't repeat are distinct
pub distinct_names : (names : List (List ℕ)) → repeats names ≡ false → IsDistinct bytes_eq names
distinct_names names h = (distinct_after [] names h).0
