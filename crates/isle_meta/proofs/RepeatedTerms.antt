-- Terms that repeat earlier ones, with a set of those that were met.
use Rattle.std.proofs.Common.{◌≡◌, ℕ, ◌+◌, ◌<◌, ◌≤◌, List, [], ◌∷◌, ◌++◌, length, get_or, take, drop, Bool, true, false, refl, sym, ap, ◌∙◌, subst, append_assoc, append-nil}
use Rattle.std.specs.Prelude.{◌↔◌, ◌||◌, not, IsTrue, Contains}
use Rattle.std.specs.BTreeSet.{BTreeSet}
use Rattle.std.proofs.lemmas.List.{drop_more, take_all, take_more}
use Rattle.std.proofs.Math.ListN.{drop_of_length-le}
use denote.Ref.{Bor}
use Rattle.isle_lawful_names.specs.NameSet.{HasNames}
use Rattle.isle_meta.specs.TableNames.{is_among, repeats_after}
use Rattle.isle_meta.proofs.RepeatLaws.{among, not_among}

-- the set has the earlier names and the terms before this place, and whether one of all terms repeats is known from what was found and from those
-- that are left
pub record TermsFrom (earlier terms : List (List ℕ)) (n : ℕ) (met : BTreeSet (Bor (List ℕ))) (found : Bool) : Type 0 where
  pub known : HasNames (earlier ++ take n terms) met
  pub same : (found || repeats_after (earlier ++ take n terms) (drop n terms)) ≡ repeats_after earlier terms

pub terms_begin : (earlier terms : List (List ℕ)) (met : BTreeSet (Bor (List ℕ))) → HasNames earlier met → TermsFrom earlier terms 0 met false
terms_begin earlier terms met h =
    record {
      known = subst (λ ns. HasNames ns met) (sym (append-nil earlier)) h;
      same = ap (λ ns. repeats_after ns terms) (append-nil earlier);
    }

-- a name that isn't new is among those before
not_new : (earlier : List (List ℕ)) (name : List ℕ) (fresh : Bool) → (IsTrue fresh ↔ (Contains earlier name → ⊥)) → not fresh ≡ is_among name earlier
not_new earlier name true h = sym (not_among earlier name true refl h)
not_new earlier name false h = sym (among earlier name false refl h)

or_joined : (a b c : Bool) → ((a || b) || c) ≡ (a || (b || c))
or_joined true b c = refl
or_joined false b c = refl

grown : (earlier terms : List (List ℕ)) (n : ℕ) (t : List ℕ) → n < length terms → t ≡ get_or terms n t → (earlier ++ take n terms) ++ t ∷ []
    ≡ earlier ++ take (n + 1) terms
grown earlier terms n t lt at =
    append_assoc earlier (take n terms) (t ∷ [])
    ∙ ap (λ z. earlier ++ z) (ap (λ y. take n terms ++ y ∷ []) at ∙ sym (take_more terms n t lt))

pub terms_on : (earlier terms : List (List ℕ)) (n : ℕ) (t : List ℕ) (old new : BTreeSet (Bor (List ℕ))) (found fresh : Bool) → n < length terms → t
    ≡ get_or terms n t
    → (IsTrue fresh ↔ (Contains (earlier ++ take n terms) t → ⊥)) → HasNames ((earlier ++ take n terms) ++ t ∷ []) new → TermsFrom earlier terms n old found
    → TermsFrom earlier terms (n + 1) new (found || not fresh)
terms_on earlier terms n t old new found fresh lt at f has s =
    let before = earlier ++ take n terms in
    let rest = drop (n + 1) terms in
    record {
      known = subst (λ ns. HasNames ns new) (grown earlier terms n t lt at) has;
      same =
          ap (λ ns. (found || not fresh) || repeats_after ns rest) (sym (grown earlier terms n t lt at))
          ∙ or_joined found (not fresh) (repeats_after (before ++ t ∷ []) rest)
          ∙ ap (λ b. found || (b || repeats_after (before ++ t ∷ []) rest)) (not_new before t fresh f)
          ∙ ap (λ y. found || repeats_after before (y ∷ rest)) at
          ∙ sym (ap (λ ys. found || repeats_after before ys) (drop_more terms n t lt))
          ∙ s.same;
    }

or_false : (b : Bool) → (b || false) ≡ b
or_false true = refl
or_false false = refl

pub terms_told : (earlier terms : List (List ℕ)) (n : ℕ) (met : BTreeSet (Bor (List ℕ))) (found : Bool) → length terms ≤ n
    → TermsFrom earlier terms n met found → found ≡ repeats_after earlier terms
terms_told earlier terms n met found past s =
    sym (or_false found) ∙ ap (λ ys. found || repeats_after (earlier ++ take n terms) ys) (sym (drop_of_length-le terms past)) ∙ s.same

pub terms_met : (earlier terms : List (List ℕ)) (n : ℕ) (met : BTreeSet (Bor (List ℕ))) (found : Bool) → length terms ≤ n
    → TermsFrom earlier terms n met found → HasNames (earlier ++ terms) met
terms_met earlier terms n met found past s = subst (λ ts. HasNames (earlier ++ ts) met) (take_all n terms past) s.known
