-- Names that were met before, as a set has them.
use Rattle.std.proofs.Common.{◌≡◌, ℕ, List, [], ◌∷◌, ◌++◌, Bool, true, false, refl, sym, ap, ◌∙◌}
use Rattle.std.specs.Prelude.{◌↔◌, ◌||◌, not, is_some, IsTrue, Contains}
use Rattle.std.specs.List.{list_any}
use Rattle.std.specs.Str.{bytes_eq}
use Rattle.std.specs.Ordering.{nat_cmp}
use Rattle.std.specs.Cmp.Lexicographic.{slice_cmp, nat_list_eq_equiv}
use Rattle.std.specs.BTreeSet.{BTreeSet, Updates}
use Rattle.std.proofs.lemmas.List.Folds.{list_any-append}
use Rattle.std.proofs.lemmas.Map.Views.{Contains-from_any, list_any-from_Contains}
use Rattle.std.proofs.lemmas.Slice.Eq.{bytes_eq-Decides}
use denote.Ref.{Bor}
use Rattle.isle_core.specs.Rule.{Environment}
use Rattle.isle_lawful_names.proofs.SetSteps.{name_more}
use Rattle.isle_lawful_names.specs.NameSet.{HasNames}
use Rattle.isle_lawful_names.specs.Claims.{Claim}
use Rattle.isle_lawful_names.specs.Judges.{Found, Judges, JudgesBehind}
use Rattle.isle_lawful_names.proofs.FoundLaws.{judged_first, judged_then}

-- ---- a name among others

pub new_from_test : (names : List (List ℕ)) (name : List ℕ) → list_any (bytes_eq name) names ≡ false → Contains names name → ⊥
new_from_test names name none c = let some = list_any-from_Contains nat_list_eq_equiv name names c in absurd cc

pub test_from_new : (names : List (List ℕ)) (name : List ℕ) → (Contains names name → ⊥) → list_any (bytes_eq name) names ≡ false
test_from_new names name h = one (list_any (bytes_eq name) names) refl
  where
    one : (b : Bool) → list_any (bytes_eq name) names ≡ b → b ≡ false
    one false e = refl
    one true e = absurd (h (Contains-from_any (λ x y s. (bytes_eq-Decides x y).0 s) name names e))

-- a test says so
pub new_told : (names : List (List ℕ)) (name : List ℕ) (there told : Bool) → told ≡ not there → there ≡ list_any (bytes_eq name) names → IsTrue told ↔ (Contains names name → ⊥)
new_told names name true told is e = (λ t. absurd cc, λ h. let k : true ≡ false = e ∙ test_from_new names name h in absurd cc)
new_told names name false told is e = (λ t c. new_from_test names name (sym e) c, λ h. is)

-- ---- a set with one name more

turned : (a b : Bool) → (a || b) ≡ (b || (a || false))
turned true true = refl
turned true false = refl
turned false true = refl
turned false false = refl

pub names_more : (earlier : List (List ℕ)) (old new : BTreeSet (Bor (List ℕ))) (key : Bor (List ℕ)) → Updates (λ (x y : Bor (List ℕ)). slice_cmp nat_cmp x.now y.now) old new key true → HasNames earlier old
    → HasNames (earlier ++ key.now ∷ []) new
names_more earlier old new key u h name =
    name_more old new key name u
    ∙ ap (λ b. bytes_eq name key.now || b) (h name)
    ∙ turned (bytes_eq name key.now) (list_any (bytes_eq name) earlier)
    ∙ sym (list_any-append (bytes_eq name) earlier (key.now ∷ []))

-- none is in an empty set
pub none_there : (set : BTreeSet (Bor (List ℕ))) → set.keys ≡ [] → HasNames [] set
none_there set e name = rw e refl

-- ---- names that are judged after those of a set

-- some of them, and then others that hang on no earlier ones
pub behind_then : (env : Environment) (of : List (List ℕ) → List Claim) (names : List (List ℕ)) (old new : BTreeSet (Bor (List ℕ))) (none found : Found) (cs : List Claim) → JudgesBehind env of names old new none → is_some none ≡ false → Judges env cs found
    → JudgesBehind env (λ earlier. of earlier ++ cs) names old new found
behind_then env of names old new none found cs h e k =
    record { judged = λ earlier has. judged_then env (of earlier) cs none found (h.judged earlier has) e k; more = λ earlier has is. h.more earlier has e }

-- one is found among the first ones
pub behind_first : (env : Environment) (of rest : List (List ℕ) → List Claim) (names all : List (List ℕ)) (old new : BTreeSet (Bor (List ℕ))) (found : Found) → JudgesBehind env of names old new found → is_some found ≡ true
    → JudgesBehind env (λ earlier. of earlier ++ rest earlier) all old new found
behind_first env of rest names all old new found h e =
    record { judged = λ earlier has. judged_first env (of earlier) (rest earlier) found (h.judged earlier has) e; more = λ earlier has is. absurd cc }
