-- New numbers tell variables apart.
use Rattle.std.proofs.Common.{◌≡◌, ⊎_elim, ℕ, suc, List, [], ◌∷◌, map, Bool, true, false, cond, eqb, Option, Some, None, refl, sym, ap, ◌∙◌, subst}
use Rattle.std.specs.Prelude.{Contains, slice_get, option_map}
use Rattle.std.proofs.lemmas.Bool.{eqb-true, eq-eqb}
use Rattle.std.proofs.lemmas.Option.{same_Some}
use Rattle.isle_base.specs.declared.ids.TypeId.{TypeId}
use Rattle.isle_core.proofs.Contained.{head_contained, tail_contained, contained_cases, none_contained}
use Rattle.isle_core.specs.TypedVariables.{HaveOneType}
use Rattle.isle_templates.specs.Renumbered.{place_of, number_or}
use Rattle.isle_templates.proofs.RenamedBuilt.{new_variable}

-- at its place stands the variable
pub place_at : (xs : List ℕ) (x i : ℕ) → place_of xs x ≡ Some i → slice_get xs i ≡ Some x
place_at [] x i e = cc
place_at (y ∷ ys) x i e = pick (λ j k. place_at ys x j k) (eqb y x) refl e
  where
    behind : (o : Option ℕ) → ((j : ℕ) → o ≡ Some j → slice_get ys j ≡ Some x) → option_map suc o ≡ Some i → slice_get (y ∷ ys) i ≡ Some x
    behind None at k = cc
    behind (Some j) at k = subst (λ n. slice_get (y ∷ ys) n ≡ Some x) (same_Some (suc j) i k) (at j refl)

    pick : ((j : ℕ) → place_of ys x ≡ Some j → slice_get ys j ≡ Some x) → (b : Bool) → eqb y x ≡ b → cond b (Some 0) (option_map suc (place_of ys x)) ≡ Some i → slice_get (y ∷ ys) i ≡ Some x
    pick at true same k = subst (λ n. slice_get (y ∷ ys) n ≡ Some x) (same_Some 0 i k) (ap Some (eqb-true y x same))
    pick at false other k = behind (place_of ys x) at k

-- one that is there has a place
pub place_there : (xs : List ℕ) (x : ℕ) → Contains xs x → (i : ℕ) × (place_of xs x ≡ Some i)
place_there [] x h = absurd (none_contained x h)
place_there (y ∷ ys) x h = pick (λ c. place_there ys x c) (eqb y x) refl
  where
    pick : (Contains ys x → (i : ℕ) × (place_of ys x ≡ Some i)) → (b : Bool) → eqb y x ≡ b → (i : ℕ) × (cond b (Some 0) (option_map suc (place_of ys x)) ≡ Some i)
    pick later true same = (0, refl)
    pick later false other = ⊎_elim (λ (e : y ≡ x). let same = eq-eqb y x e in cc) (λ c. let k = later c in (suc k.0, ap (option_map suc) k.1)) (contained_cases y ys x h)

-- variables with one new number are one
pub one_to_one : (order : List ℕ) (x y : ℕ) → Contains order x → Contains order y → number_or x (place_of order x) ≡ number_or y (place_of order y) → x ≡ y
one_to_one order x y h k e =
    let i = place_there order x h in
    let j = place_there order y k in
    let same : i.0 ≡ j.0 = sym (ap (number_or x) i.1) ∙ e ∙ ap (number_or y) j.1 in
    same_Some x y (sym (place_at order x i.0 i.1) ∙ ap (slice_get order) same ∙ place_at order y j.0 j.1)

-- a variable under its new number was there
pub old_variable : (order : List ℕ) (vars : List (TypeId × ℕ)) (w : TypeId × ℕ) → Contains (map (new_variable order) vars) w → (v : TypeId × ℕ) × Contains vars v × (new_variable order v ≡ w)
old_variable order [] w c = absurd (none_contained w c)
old_variable order (v ∷ vars) w c = ⊎_elim
    (λ (e : new_variable order v ≡ w). (v, head_contained v vars, e))
    (λ d. let k = old_variable order vars w d in (k.0, tail_contained v vars k.0 k.1, k.2))
    (contained_cases (new_variable order v) (map (new_variable order) vars) w c)

-- variables of one type each have one type each under their new numbers
pub one_type_renamed : (order : List ℕ) (vars : List (TypeId × ℕ)) → ((v : TypeId × ℕ) → Contains vars v → Contains order v.1) → HaveOneType vars → HaveOneType (map (new_variable order) vars)
one_type_renamed order vars known one ty of x c d =
    let v = old_variable order vars (ty, x) c in
    let w = old_variable order vars (of, x) d in
    let same = one_to_one order v.0.1 w.0.1 (known v.0 v.1) (known w.0 w.1) (ap (λ u. u.1) v.2 ∙ sym (ap (λ u. u.1) w.2)) in
    sym (ap (λ u. u.0) v.2) ∙ one v.0.0 w.0.0 w.0.1 (subst (λ n. Contains {X = TypeId × ℕ} vars (v.0.0, n)) same v.1) w.1 ∙ ap (λ u. u.0) w.2
