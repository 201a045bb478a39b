-- Errors that are reported one after another.
use Rattle.std.proofs.Common.{◌≡◌, ℕ, zero, suc, ◌+◌, ◌<◌, List, [], ◌∷◌, ◌++◌, length, map, get_or, Bool, true, false, Option, Some, None, refl, sym, ap, ◌∙◌, subst, arith, append_assoc, append-nil}
use Rattle.std.specs.Prelude.{IfSome, slice_get, slice_index_or}
use Rattle.std.proofs.lemmas.List.{map-append}
use Rattle.isle_core.specs.declared.errors.Error.{Error}
use Rattle.isle_core.specs.declared.position.Pos.{Pos}
use Rattle.isle_core.specs.declared.rule_sets.FlatRule.{FlatRule}
use Rattle.isle_checks.specs.declared.placed.Check.{Check}
use Rattle.isle_checks.specs.declared.placed.Check.TheVariants as check
use Rattle.isle_checks.specs.Makes.{MakesAt}
use Rattle.isle_checks.specs.Firsts.{Found, IsFirst, AreFirstsOfTerm}
use Rattle.isle_checks.specs.CheckList.{RuleError, Unreached, Overlap, Shadowed, single, span_at, unreachable_of, overlap_of, shadow_of, errors_of, told}
use Rattle.isle_checks.specs.Errors.{places_of, AreUnreachable, errors_below, IsSoundAlone, Joined, JoinedOf}
use Rattle.isle_checks.proofs.FirstLaws.{made_of, few_rules, firsts_of_single, firsts_of_multi}
use Rattle.isle_checks.proofs.PlacedLaws.{get_there, length_of}

span_there : (fs : List FlatRule) (i : ℕ) (f : FlatRule) → i < length fs → span_at (places_of fs) i ≡ Some (single (get_or fs i f).pos)
span_there [] i f lt = absurd (omega (arith, lt))
span_there (g ∷ fs) zero f lt = refl
span_there (g ∷ fs) (suc i) f lt = span_there fs i f (omega (arith, lt))

-- one error more
one_joined : (old new : List Error) (e : Error) (r : RuleError) → told e ≡ Some r → new ≡ old ++ e ∷ [] → Joined old new (r ∷ [])
one_joined old new e r says is = ap (map told) is ∙ map-append told old (e ∷ []) ∙ ap (λ x. map told old ++ x ∷ []) says

pub none_joined : (errors : List Error) → Joined errors errors []
none_joined errors = sym (append-nil (map told errors))

pub unreachable_joined : (fs : List FlatRule) (j : ℕ) (g : FlatRule) (old new : List Error) (e : Error) → j < length fs → told e ≡ Some (Unreached (Some (single (get_or fs j g).pos))) → new ≡ old ++ e ∷ [] → Joined old new (unreachable_of (places_of fs) j true)
unreachable_joined fs j g old new e lt says more = subst (Joined old new) (sym (ap (λ s. Unreached s ∷ []) (span_there fs j g lt))) (one_joined old new e _ says more)

pub overlap_joined : (fs : List FlatRule) (i j : ℕ) (f g : FlatRule) (old new : List Error) (e : Error) → i < length fs → j < length fs
    → told e ≡ Some (Overlap (Some (single (get_or fs i f).pos)) (Some (single (get_or fs j g).pos))) → new ≡ old ++ e ∷ [] → Joined old new (overlap_of (places_of fs) j (Some i))
overlap_joined fs i j f g old new e lt lt' says more =
    subst (Joined old new) (sym (ap (λ s. Overlap s (span_at (places_of fs) j) ∷ []) (span_there fs i f lt) ∙ ap (λ s. Overlap (Some (single (get_or fs i f).pos)) s ∷ []) (span_there fs j g lt'))) (one_joined old new e _ says more)

pub shadow_joined : (fs : List FlatRule) (i j : ℕ) (f g : FlatRule) (old new : List Error) (e : Error) → i < length fs → j < length fs
    → told e ≡ Some (Shadowed (Some (single (get_or fs j g).pos)) (Some (single (get_or fs i f).pos))) → new ≡ old ++ e ∷ [] → Joined old new (shadow_of (places_of fs) j (Some i))
shadow_joined fs i j f g old new e lt lt' says more =
    subst (Joined old new) (sym (ap (λ s. Shadowed s (span_at (places_of fs) i) ∷ []) (span_there fs j g lt') ∙ ap (λ s. Shadowed (Some (single (get_or fs j g).pos)) s ∷ []) (span_there fs i f lt))) (one_joined old new e _ says more)

pub joined_then : (old mid new : List Error) (es fs : List RuleError) → Joined old mid es → Joined mid new fs → Joined old new (es ++ fs)
joined_then old mid new es fs h k = k ∙ ap (λ xs. xs ++ map Some fs) h ∙ append_assoc (map told old) (map Some es) (map Some fs) ∙ ap (λ xs. map told old ++ xs) (sym (map-append Some es fs))

item_is : {X : Type 0} (xs : List X) (j : ℕ) (x d : X) → j < length xs → x ≡ get_or xs j x → slice_index_or xs j d ≡ x
item_is [] j x d lt e = absurd (omega (arith, lt))
item_is (y ∷ xs) zero x d lt e = sym e
item_is (y ∷ xs) (suc j) x d lt e = item_is xs j x d (omega (arith, lt)) e

-- the errors of one rule more
pub rule_joined : (ps : List Pos) (us : List Bool) (os ss : Found) (n : ℕ) (u : Bool) (o s : Option ℕ) (old mid part half new : List Error) → n < length us → u ≡ get_or us n u → n < length os → o ≡ get_or os n o → n < length ss → s ≡ get_or ss n s
    → Joined old mid (errors_below ps us os ss n) → Joined mid part (unreachable_of ps n u) → Joined part half (overlap_of ps n o) → Joined half new (shadow_of ps n s) → Joined old new (errors_below ps us os ss (n + 1))
rule_joined ps us os ss n u o s old mid part half new below same lt is lt' is' h j k l =
    let after : n + 1 ≡ suc n = omega arith in
    rw (after, item_is us n u false below same, item_is os n o None lt is, item_is ss n s None lt' is')
    (joined_then old mid new (errors_below ps us os ss n) (errors_of ps n u o s) h (joined_then mid half new (unreachable_of ps n u ++ overlap_of ps n o) (shadow_of ps n s) (joined_then mid part half (unreachable_of ps n u) (overlap_of ps n o) j k) l))

-- of as many rules it was told
pub told_below : (fs : List FlatRule) (us : List Bool) (i : ℕ) → AreUnreachable fs us → i < length fs → i < length us
told_below [] us i h lt = absurd (omega (arith, lt))
told_below (f ∷ fs) [] i h lt = absurd h
told_below (f ∷ fs) (u ∷ us) zero h lt = omega arith
told_below (f ∷ fs) (u ∷ us) (suc i) h lt = let le = told_below fs us i h.1 (omega (arith, lt)) in omega (arith, le)

below_of : (c : Check) (multi : Bool) (fs : List FlatRule) (j : ℕ) (o : Option ℕ) → IsFirst (λ i. (multi ≡ false) × MakesAt c fs i j) o → IfSome o (λ i. i < length fs)
below_of c multi fs j None h = tt
below_of c multi fs j (Some i) h = let m = made_of c i j (slice_get fs i) (slice_get fs j) h.0.1 in length_of fs i m.0 m.2

pub maker_below : (c : Check) (multi : Bool) (fs : List FlatRule) (os : Found) (j : ℕ) (o : Option ℕ) → j < length os → o ≡ get_or os j o → AreFirstsOfTerm c multi fs os → IfSome o (λ i. i < length fs)
maker_below c multi fs os j o lt e h = below_of c multi fs j o (h.each j o (get_there os j o lt e))

-- ---- one rule

none_of_one : (c : Check) (multi : Bool) (f : FlatRule) → AreFirstsOfTerm c multi (f ∷ []) (None ∷ [])
none_of_one c true f = firsts_of_multi c (f ∷ []) (None ∷ []) refl
none_of_one c false f = firsts_of_single c (f ∷ []) (None ∷ []) (few_rules c (f ∷ []) (None ∷ []) (omega arith) refl)

-- nothing is wrong with one that is reachable
pub sound_alone : (multi : Bool) (fs : List FlatRule) (errors : List Error) → IsSoundAlone fs → JoinedOf multi fs errors errors
sound_alone multi [] errors h = absurd h
sound_alone multi (f ∷ []) errors h = record {
  unreachable = false ∷ [];
  overlaps = None ∷ [];
  shadows = None ∷ [];
  are_unreachable = ((λ e. absurd cc, λ k. absurd (h k)), tt);
  first_overlaps = none_of_one check.Overlaps multi f;
  first_shadows = none_of_one check.Shadows multi f;
  joined = none_joined errors;
}
sound_alone multi (f ∷ g ∷ fs) errors h = absurd h
