-- The parts of a unit's source: its names are cut where its tracked inputs end.
use Rattle.std.proofs.Common.{◌≡◌, ℕ, List, [], ◌∷◌, ◌++◌, length, take, drop, Option, Some, refl, sym, ap, ◌∙◌}
use Rattle.std.specs.Prelude.{String, string_bytes}
use Rattle.std.specs.Option.{option_map_or}
use Rattle.std.specs.declared.alloc.Global.{Global}
use Rattle.std.proofs.lemmas.List.{drop-map, take-map}
use Rattle.isle_core.specs.Inputs.{bytes_each}
use Rattle.isle_units.specs.Units.{inputs_of}
use Rattle.isle_units.specs.declared.compilation.IsleCompilation.{IsleCompilation}
use Rattle.isle_build.specs.UnitSource.{tracked_of, unit_named}

front_is : (xs ys : List (List ℕ)) → take (length xs) (xs ++ ys) ≡ xs
front_is [] ys = refl
front_is (x ∷ xs) ys = ap (λ zs. x ∷ zs) (front_is xs ys)

left_is : (xs ys : List (List ℕ)) → drop (length xs) (xs ++ ys) ≡ ys
left_is [] ys = refl
left_is (x ∷ xs) ys = left_is xs ys

-- the first so many names are those of tracked inputs
pub front_tracked : (names : List (String Global)) (u : IsleCompilation) (n : ℕ) → n ≡ length u.tracked_inputs → bytes_each names ≡ inputs_of u → bytes_each (take n names) ≡ u.tracked_inputs
front_tracked names u n e h =
    sym (take-map string_bytes n names) ∙ ap (take n) h ∙ ap (λ k. take k (inputs_of u)) e ∙ front_is u.tracked_inputs u.untracked_inputs

-- what is left are those of generated ones
pub left_generated : (names : List (String Global)) (u : IsleCompilation) (n : ℕ) → n ≡ length u.tracked_inputs → bytes_each names ≡ inputs_of u → bytes_each (drop n names) ≡ u.untracked_inputs
left_generated names u n e h =
    sym (drop-map string_bytes n names) ∙ ap (drop n) h ∙ ap (λ k. drop k (inputs_of u)) e ∙ left_is u.tracked_inputs u.untracked_inputs

-- the tracked inputs of the unit of a name
pub tracked_listed : (name : List ℕ) (u : IsleCompilation) → unit_named name ≡ Some u → tracked_of name ≡ u.tracked_inputs
tracked_listed name u e = ap (λ (found : Option IsleCompilation). option_map_or (λ (v : IsleCompilation). v.tracked_inputs) found []) e
