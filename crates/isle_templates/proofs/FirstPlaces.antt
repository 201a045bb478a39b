-- The first place of each variable, after one more is joined.
use Rattle.std.proofs.Common.{◌≡◌, ℕ, suc, Bool, true, false, cond, eqb, List, [], ◌∷◌, ◌++◌, length, Option, Some, None, refl, sym, ap, ◌∙◌}
use Rattle.std.specs.Prelude.{option_map, is_some}
use Rattle.std.proofs.lemmas.Bool.{eqb-true, eq-eqb}
use Rattle.isle_scope.specs.Places.{Sets}
use Rattle.isle_templates.specs.FirstPlaces.{FindsPlaces}
use Rattle.isle_templates.specs.Renumbered.{place_of}

none_of : (o : Option ℕ) → is_some o ≡ false → o ≡ None
none_of None e = refl
none_of (Some n) e = cc

-- one that stands nowhere is not the first, and stands nowhere after it
nowhere : (first : Bool) (place : Option ℕ) → cond first (Some 0) (option_map suc place) ≡ None → (first ≡ false) × (place ≡ None)
nowhere true place e = cc
nowhere false None e = (refl, refl)
nowhere false (Some n) e = cc

-- a new variable stands at the end, and each other where it stood
place_of_more : (xs : List ℕ) (new x : ℕ) → place_of xs new ≡ None → place_of (xs ++ new ∷ []) x ≡ cond (eqb new x) (Some (length xs)) (place_of xs x)
place_of_more [] new x e = refl
place_of_more (y ∷ ys) new x e =
    let apart = nowhere (eqb y new) (place_of ys new) e in
    pick apart.0 (place_of_more ys new x apart.1) (eqb y x) refl (eqb new x) refl
  where
    pick : eqb y new ≡ false → place_of (ys ++ new ∷ []) x ≡ cond (eqb new x) (Some (length ys)) (place_of ys x) → (first : Bool) → eqb y x ≡ first → (last : Bool) → eqb new x ≡ last
        → cond first (Some 0) (option_map suc (place_of (ys ++ new ∷ []) x)) ≡ cond last (Some (length (y ∷ ys))) (cond first (Some 0) (option_map suc (place_of ys x)))
    pick differs rest true is true was = let same = eq-eqb y new (eqb-true y x is ∙ sym (eqb-true new x was)) in cc
    pick differs rest true is false was = refl
    pick differs rest false is true was = ap (option_map suc) (rest ∙ ap (λ b. cond b (Some (length ys)) (place_of ys x)) was)
    pick differs rest false is false was = ap (option_map suc) (rest ∙ ap (λ b. cond b (Some (length ys)) (place_of ys x)) was)

-- a variable that is not there yet is placed at the end
pub finds_more : (xs more : List ℕ) (old new : ℕ → Option ℕ) (key place : ℕ) → more ≡ xs ++ key ∷ [] → FindsPlaces xs old → is_some (old key) ≡ false → place ≡ length xs → Sets old new key (Some place)
    → FindsPlaces more new
finds_more xs more old new key place added were absent is sets = record {
  finds = λ x.
      sets x
      ∙ rw (is, were.finds x) (sym (place_of_more xs key x (sym (were.finds key) ∙ none_of (old key) absent)))
      ∙ ap (λ ys. place_of ys x) (sym added);
}
