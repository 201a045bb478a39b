-- The names in definitions are symbols, and each symbol's text is its name.
use Rattle.std.proofs.Common.{◌≡◌, ◌⊎◌, inl, inr, ℕ, List, [], ◌∷◌, ◌++◌, Bool, true, false, cond, Option, Some, None, refl, ap, ◌∙◌, subst}
use Rattle.std.specs.Prelude.{fold, flat_map, is_some}
use Rattle.isle_core.specs.Terms.{symbol_text}
use Rattle.isle_ast.specs.Tree.{Def}
use Rattle.isle_declarations.specs.DeclaredTypes.{made_terms}
use Rattle.isle_declarations.specs.Names.{def_names}
use Rattle.isle_declarations.specs.Symbols.{index_of, number_or, added, symbols}
use Rattle.isle_declarations.proofs.SymbolLaws.{stands}
use Rattle.isle_types.specs.TypeEnvironment.{sym_in, type_env_of}
use Rattle.isle_prelude_accepted.proofs.Has.{Has, has_front, has_back, has_flat, place_found, placed_there}

still_there : (names : List (List ℕ)) (x name : List ℕ) (b : Bool) → Has names name → Has (cond b names (names ++ x ∷ [])) name
still_there names x name true i = i
still_there names x name false i = has_front names (x ∷ []) name i

now_there : (names : List (List ℕ)) (x : List ℕ) (o : Option ℕ) → index_of names x ≡ o → Has (cond (is_some o) names (names ++ x ∷ [])) x
now_there names x None e = has_back names (x ∷ []) x (inl refl)
now_there names x (Some n) e = placed_there names x n e

-- what is there stays so while names are added
added_stays : (more names : List (List ℕ)) (name : List ℕ) → Has names name → Has (fold added names more) name
added_stays [] names name i = i
added_stays (x ∷ more) names name i = added_stays more (added names x) name (still_there names x name (is_some (index_of names x)) i)

-- what is added is there
added_there : (more names : List (List ℕ)) (name : List ℕ) → Has more name → Has (fold added names more) name
added_there [] names name i = absurd i
added_there (x ∷ more) names name i = by (λ j. added_there more (added names x) name j) i
  where
    by : (Has more name → Has (fold added (added names x) more) name) → (x ≡ name) ⊎ Has more name → Has (fold added (added names x) more) name
    by rest (inl e) = added_stays more (added names x) name (subst (Has (added names x)) e (now_there names x (index_of names x) refl))
    by rest (inr j) = rest j

-- a name in a definition is a symbol
pub is_symbol : (defs : List Def) (d : Def) (name : List ℕ) → Has defs d → Has (def_names d) name → Has (symbols defs) name
is_symbol defs d name i j =
    added_stays (made_terms defs) (fold added [] (flat_map def_names defs)) name (added_there (flat_map def_names defs) [] name (has_flat def_names defs d name i j))

-- its text is the name
pub text_is : (defs : List Def) (name : List ℕ) → Has (symbols defs) name → symbol_text (type_env_of defs) (sym_in defs name) ≡ name
text_is defs name i =
    let r = place_found (symbols defs) name i in
    ap (λ o. symbol_text (type_env_of defs) (record { 0 = number_or o })) r.1 ∙ stands (symbols defs) name r.0 r.1
