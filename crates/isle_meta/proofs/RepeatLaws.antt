-- Names that repeat, with a set of those that were met.
use Rattle.std.proofs.Common.{◌≡◌, ℕ, ◌+◌, ◌<◌, ◌≤◌, List, [], ◌∷◌, ◌++◌, length, get_or, take, drop, Bool, true, false, refl, sym, ap, ◌∙◌, subst}
use Rattle.std.specs.Prelude.{◌↔◌, ◌||◌, not, IsTrue, Contains}
use Rattle.std.specs.BTreeSet.{BTreeSet}
use Rattle.std.proofs.lemmas.List.{drop_more, map_more}
use Rattle.std.proofs.Math.ListN.{drop_of_length-le}
use denote.Ref.{Bor}
use Rattle.isle_lawful_names.specs.NameSet.{HasNames}
use Rattle.isle_lawful_names.proofs.NameSteps.{test_from_new, new_from_test, none_there}
use Rattle.isle_meta.specs.TableNames.{is_among, repeats_after, repeats, texts}

-- the names before this place are met, and whether one repeats is whether one does from here on
pub record RepeatsFrom (i : ℕ) (names : List (Bor (List ℕ))) (met : BTreeSet (Bor (List ℕ))) : Type 0 where
  pub known : HasNames (texts (take i names)) met
  pub same : repeats_after (texts (take i names)) (texts (drop i names)) ≡ repeats (texts names)

-- a name that is new is not among those before
pub not_among : (earlier : List (List ℕ)) (name : List ℕ) (fresh : Bool) → fresh ≡ true → (IsTrue fresh ↔ (Contains earlier name → ⊥)) → is_among name earlier ≡ false
not_among earlier name fresh e h = test_from_new earlier name (h.0 e)

-- and one that is not new is
pub among : (earlier : List (List ℕ)) (name : List ℕ) (fresh : Bool) → fresh ≡ false → (IsTrue fresh ↔ (Contains earlier name → ⊥)) → is_among name earlier ≡ true
among earlier name fresh e h = one (is_among name earlier) refl
  where
    one : (b : Bool) → is_among name earlier ≡ b → b ≡ true
    one true k = refl
    one false k = let t : fresh ≡ true = h.1 (new_from_test earlier name k) in absurd cc

pub repeats_begin : (names : List (Bor (List ℕ))) (met : BTreeSet (Bor (List ℕ))) → met.keys ≡ [] → RepeatsFrom 0 names met
repeats_begin names met e = record { known = none_there met e; same = refl }

-- how the names that are left begin
left_split : (names : List (Bor (List ℕ))) (i : ℕ) (d : Bor (List ℕ)) → i < length names → texts (drop i names) ≡ (get_or names i d).now ∷ texts (drop (i + 1) names)
left_split names i d lt = ap texts (drop_more names i d lt)

-- how those before grow
pub before_more : (names : List (Bor (List ℕ))) (i : ℕ) (d : Bor (List ℕ)) → i < length names → texts (take (i + 1) names) ≡ texts (take i names) ++ (get_or names i d).now ∷ []
before_more names i d lt = map_more (λ (n : Bor (List ℕ)). n.now) names i d lt

pub repeats_on : (names : List (Bor (List ℕ))) (i : ℕ) (d : Bor (List ℕ)) (old new : BTreeSet (Bor (List ℕ))) (fresh : Bool) → i < length names → fresh ≡ true
    → (IsTrue fresh ↔ (Contains (texts (take i names)) (get_or names i d).now → ⊥)) → HasNames (texts (take i names) ++ (get_or names i d).now ∷ []) new → RepeatsFrom i names old → RepeatsFrom (i + 1) names new
repeats_on names i d old new fresh lt e h has r =
    let name = (get_or names i d).now in
    record {
      known = subst (λ ns. HasNames ns new) (sym (before_more names i d lt)) has;
      same =
          ap (λ ns. repeats_after ns (texts (drop (i + 1) names))) (before_more names i d lt)
          ∙ ap (λ b. b || repeats_after (texts (take i names) ++ name ∷ []) (texts (drop (i + 1) names))) (sym (not_among (texts (take i names)) name fresh e h))
          ∙ ap (λ ns. repeats_after (texts (take i names)) ns) (sym (left_split names i d lt))
          ∙ r.same;
    }

pub repeats_out : (names : List (Bor (List ℕ))) (i : ℕ) (d : Bor (List ℕ)) (old : BTreeSet (Bor (List ℕ))) (fresh : Bool) → i < length names → fresh ≡ false
    → (IsTrue fresh ↔ (Contains (texts (take i names)) (get_or names i d).now → ⊥)) → RepeatsFrom i names old → true ≡ repeats (texts names)
repeats_out names i d old fresh lt e h r =
    let name = (get_or names i d).now in
    ap (λ b. b || repeats_after (texts (take i names) ++ name ∷ []) (texts (drop (i + 1) names))) (sym (among (texts (take i names)) name fresh e h))
    ∙ ap (λ ns. repeats_after (texts (take i names)) ns) (sym (left_split names i d lt))
    ∙ r.same

pub repeats_end : (names : List (Bor (List ℕ))) (i : ℕ) (met : BTreeSet (Bor (List ℕ))) → length names ≤ i → RepeatsFrom i names met → false ≡ repeats (texts names)
repeats_end names i met past r = ap (λ ns. repeats_after (texts (take i names)) (texts ns)) (sym (drop_of_length-le names past)) ∙ r.same

-- a name is among those before, or one of others repeats
pub among_or : (earlier : List (List ℕ)) (name : List ℕ) (fresh repeated r : Bool) → (IsTrue fresh ↔ (Contains earlier name → ⊥)) → repeated ≡ r → (not fresh || repeated) ≡ (is_among name earlier || r)
among_or earlier name true repeated r h e = ap (λ b. b || repeated) (sym (not_among earlier name true refl h)) ∙ ap (λ b. is_among name earlier || b) e
among_or earlier name false repeated r h e = ap (λ b. b || r) (sym (among earlier name false refl h))

-- one of two names is among those before, or one of others repeats
pub among_two : (earlier cased : List (List ℕ)) (name camel : List ℕ) (fresh new repeated r : Bool) → (IsTrue fresh ↔ (Contains earlier name → ⊥)) → (IsTrue new ↔ (Contains cased camel → ⊥)) → repeated ≡ r
    → ((not fresh || not new) || repeated) ≡ ((is_among name earlier || is_among camel cased) || r)
among_two earlier cased name camel true true repeated r h k e =
    ap (λ b. b || repeated) (sym (not_among cased camel true refl k) ∙ ap (λ b. b || is_among camel cased) (sym (not_among earlier name true refl h))) ∙ ap (λ b. (is_among name earlier || is_among camel cased) || b) e
among_two earlier cased name camel true false repeated r h k e =
    ap (λ b. b || repeated) (sym (among cased camel false refl k) ∙ ap (λ b. b || is_among camel cased) (sym (not_among earlier name true refl h))) ∙ ap (λ b. (is_among name earlier || is_among camel cased) || b) e
among_two earlier cased name camel false new repeated r h k e = ap (λ b. (b || is_among camel cased) || r) (sym (among earlier name false refl h))
