-- The names that a pattern binds after no variables are those that stand in it.
use Rattle.std.proofs.Common.{◌≡◌, ℕ, ◌+◌, Bool, true, false, cond, List, [], ◌∷◌, ◌++◌, Option, Some, None, refl, sym, ap, ◌∙◌}
use Rattle.std.specs.Prelude.{◌||◌, not, is_some, fold, option_map}
use Rattle.std.specs.List.{list_any}
use Rattle.std.specs.Str.{bytes_eq}
use Rattle.std.proofs.lemmas.Slice.Eq.{bytes_eq-Decides}
use Rattle.isle_declarations.specs.Symbols.{index_of, added}
use Rattle.isle_terms.specs.NewVariables.{joined}
use Rattle.isle_terms.specs.Scope.{no_variables}

later_or : (b c : Bool) (o : Option ℕ) → is_some (cond b (Some 0) (option_map (λ (n : ℕ). n + 1) o)) ≡ b || is_some o
later_or true c o = refl
later_or false c None = refl
later_or false c (Some n) = refl

index_joined : (names : List (List ℕ)) (new name : List ℕ) → is_some (index_of (names ++ new ∷ []) name) ≡ is_some (index_of names name) || bytes_eq new name
index_joined [] new name = later_or (bytes_eq new name) true None ∙ or_false (bytes_eq new name)
  where
    or_false : (b : Bool) → b || false ≡ b
    or_false true = refl
    or_false false = refl
index_joined (n ∷ names) new name =
    later_or (bytes_eq n name) true (index_of (names ++ new ∷ []) name) ∙ ap (λ b. bytes_eq n name || b) (index_joined names new name)
    ∙ or_assoc (bytes_eq n name) (is_some (index_of names name)) (bytes_eq new name) ∙ ap (λ b. b || bytes_eq new name) (sym (later_or (bytes_eq n name) true (index_of names name)))
  where
    or_assoc : (a b c : Bool) → a || (b || c) ≡ (a || b) || c
    or_assoc true b c = refl
    or_assoc false b c = refl

or_assoc : (a b c : Bool) → a || (b || c) ≡ (a || b) || c
or_assoc true b c = refl
or_assoc false b c = refl

-- a name is among names with one more if it is among them, or is that one
in_added : (names : List (List ℕ)) (new name : List ℕ) → is_some (index_of (added names new) name) ≡ is_some (index_of names name) || bytes_eq new name
in_added names new name = by (is_some (index_of names new)) refl
  where
    known : (b : Bool) → is_some (index_of names new) ≡ true → bytes_eq new name ≡ b → is_some (index_of names name) ≡ is_some (index_of names name) || b
    known true there e = let here : is_some (index_of names name) ≡ true = ap (λ n. is_some (index_of names n)) (sym ((bytes_eq-Decides new name).0 e)) ∙ there in here ∙ ap (λ b. b || true) (sym here)
    known false there e = or_false (is_some (index_of names name))
      where
        or_false : (b : Bool) → b ≡ b || false
        or_false true = refl
        or_false false = refl

    by : (b : Bool) → is_some (index_of names new) ≡ b → is_some (index_of (cond b names (names ++ new ∷ [])) name) ≡ is_some (index_of names name) || bytes_eq new name
    by true e = known (bytes_eq new name) e refl
    by false e = index_joined names new name

-- so among all of a list
in_fold : (xs names : List (List ℕ)) (name : List ℕ) → is_some (index_of (fold added names xs) name) ≡ is_some (index_of names name) || is_some (index_of xs name)
in_fold [] names name = or_false (is_some (index_of names name))
  where
    or_false : (b : Bool) → b ≡ b || false
    or_false true = refl
    or_false false = refl
in_fold (x ∷ xs) names name =
    in_fold xs (added names x) name ∙ ap (λ b. b || is_some (index_of xs name)) (in_added names x name) ∙ sym (or_assoc (is_some (index_of names name)) (bytes_eq x name) (is_some (index_of xs name)))
    ∙ ap (λ b. is_some (index_of names name) || b) (sym (later_or (bytes_eq x name) true (index_of xs name)))

-- so one of these is missing among those that are bound where it is missing among those that stand there
pub names_same : (params names : List (List ℕ)) → list_any (λ (param : List ℕ). not (is_some (index_of (fold (joined no_variables) [] names) param))) params ≡ list_any (λ (param : List ℕ). not (is_some (index_of names param))) params
names_same [] names = refl
names_same (param ∷ params) names =
    ap (λ b. not b || list_any (λ (param : List ℕ). not (is_some (index_of (fold (joined no_variables) [] names) param))) params) (in_fold names [] param)
    ∙ ap (λ b. not (is_some (index_of names param)) || b) (names_same params names)
