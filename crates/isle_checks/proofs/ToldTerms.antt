-- The errors of terms, one after the other.
use Rattle.std.proofs.Common.{◌≡◌, ℕ, zero, suc, ◌+◌, ◌<◌, ◌≤◌, List, [], ◌∷◌, ◌++◌, length, map, get_or, Bool, true, false, not, ◌&&◌, Some, refl, sym, ap, ◌∙◌, subst, arith, append_assoc, append-nil, true≢false}
use Rattle.std.specs.Prelude.{◌↔◌, IsTrue, slice_get, drop, eqb}
use Rattle.std.specs.List.{IsDistinct}
use Rattle.std.specs.Option.{option_map_or}
use Rattle.std.proofs.lemmas.List.{map-append, drop_more}
use Rattle.isle_core.specs.declared.TermId.{TermId}
use Rattle.isle_core.specs.declared.errors.Error.{Error}
use Rattle.isle_core.specs.declared.position.Pos.{Pos}
use Rattle.isle_core.specs.declared.rule_sets.RuleSet.{RuleSet}
use Rattle.isle_core.specs.declared.types.Term.{Term}
use Rattle.isle_core.specs.ExternalSig.{is_recursive}
use Rattle.isle_walks.specs.Walks.{on_closed_walk, AreClosedTold}
use Rattle.isle_checks.specs.ClosedWalks.{IsOnClosedWalk}
use Rattle.isle_checks.specs.Graph.{IsGraph, ids_of}
use Rattle.isle_checks.specs.Recursions.{is_marked, IsUnmarked, told_before, AreUnmarked, recursion_error, IsRecursionList}
use Rattle.isle_checks.proofs.PlaceLaws.{item_at}
use Rattle.isle_checks.proofs.WalkLaws.{closed_term, term_closed, long_graph}

-- the errors of the first so many terms
pub record AreToldBelow (terms : List Term) (sets : List (TermId × RuleSet)) (i : ℕ) (errors : List Error) : Type 0 where
  pub done : List Pos
  pub are : errors ≡ map recursion_error done
  pub rest : (ps : List Pos) → AreUnmarked terms sets (drop i sets) ps → AreUnmarked terms sets sets (done ++ ps)

pub none_told : (terms : List Term) (sets : List (TermId × RuleSet)) → AreToldBelow terms sets 0 []
none_told terms sets = record { done = []; are = refl; rest = λ ps h. h }

marked_is : (terms : List Term) (id : TermId) (t : Term) → slice_get terms id.0 ≡ Some t → is_marked terms id ≡ is_recursive t.kind
marked_is terms id t found = ap (λ o. option_map_or (λ (u : Term). is_recursive u.kind) o false) found

-- what is known of a term is that it is on a closed walk and not marked
told_is : (terms : List Term) (sets : List (TermId × RuleSet)) (graph : List (List ℕ)) (i : ℕ) (s : TermId × RuleSet) (t : Term) (b : Bool) → IsGraph terms sets graph → IsDistinct eqb (ids_of sets) → slice_get sets i ≡ Some s → slice_get terms s.0.0 ≡ Some t
    → b ≡ on_closed_walk graph i && not (is_recursive t.kind) → IsTrue b ↔ IsUnmarked terms sets s.0
told_is terms sets graph i s t b g once at found is = subst (λ x. IsTrue x ↔ IsUnmarked terms sets s.0) (sym is) (by (on_closed_walk graph i) (is_recursive t.kind) refl refl)
  where
    walk : on_closed_walk graph i ≡ true → IsOnClosedWalk terms sets s.0
    walk e = closed_term terms sets g.table g.places once i s at (subst (λ x. on_closed_walk x i ≡ true) g.is e)

    closed : IsOnClosedWalk terms sets s.0 → on_closed_walk graph i ≡ true
    closed w = subst (λ x. on_closed_walk x i ≡ true) (sym g.is) (term_closed terms sets g.table g.places once i s at w)

    by : (c m : Bool) → on_closed_walk graph i ≡ c → is_recursive t.kind ≡ m → IsTrue (c && not m) ↔ IsUnmarked terms sets s.0
    by true true e f = (λ k. absurd (true≢false (sym k)), λ (u : IsUnmarked terms sets s.0). absurd (true≢false (sym f ∙ sym (marked_is terms s.0 t found) ∙ u.1)))
    by true false e f = (λ k. (walk e, marked_is terms s.0 t found ∙ f), λ u. refl)
    by false m e f = (λ k. absurd (true≢false (sym k)), λ (u : IsUnmarked terms sets s.0). absurd (true≢false (sym (closed u.0) ∙ e)))

pub term_at : (terms : List Term) (i : ℕ) (t d : Term) → i < length terms → t ≡ get_or terms i d → slice_get terms i ≡ Some t
term_at [] i t d lt is = absurd (omega (arith, lt))
term_at (x ∷ terms) zero t d lt is = ap Some (sym is)
term_at (x ∷ terms) (suc i) t d lt is = term_at terms i t d (omega (arith, lt)) is

bool_at : (bs : List Bool) (i : ℕ) (b d : Bool) → slice_get bs i ≡ Some b → d ≡ get_or bs i d → d ≡ b
bool_at [] i b d at is = cc
bool_at (x ∷ bs) zero b d at is = is ∙ (let e : Some x ≡ Some b = at in cc)
bool_at (x ∷ bs) (suc i) b d at is = bool_at bs i b d at is

-- what the search told of the place of a rule set
pub closed_at : (graph : List (List ℕ)) (closed : List Bool) (sets : List (TermId × RuleSet)) (terms : List Term) (i : ℕ) (b : Bool) (told : List (List ℕ)) → told ≡ graph → IsGraph terms sets graph → i < length sets → b ≡ get_or closed i b → AreClosedTold told closed → b ≡ on_closed_walk graph i
closed_at graph closed sets terms i b told is g lt item h =
    let many : length told ≡ length sets = ap length is ∙ ap length g.is ∙ long_graph terms g.table sets in
    bool_at closed i (on_closed_walk told i) b (h.told i (subst (λ n. i < n) (sym many) lt)) item ∙ ap (λ x. on_closed_walk x i) is

-- one term more
pub told_more : (terms : List Term) (sets : List (TermId × RuleSet)) (graph : List (List ℕ)) (i : ℕ) (s d : TermId × RuleSet) (t : Term) (old new : List Error) (b : Bool) → IsGraph terms sets graph → IsDistinct eqb (ids_of sets) → i < length sets → s ≡ get_or sets i d → slice_get terms s.0.0 ≡ Some t
    → b ≡ on_closed_walk graph i && not (is_recursive t.kind) → new ≡ old ++ map recursion_error (told_before b (Some t) []) → AreToldBelow terms sets i old → AreToldBelow terms sets (i + 1) new
told_more terms sets graph i s d t old new b g once lt item found is more h =
    let at = item_at sets i s d lt item in
    let left : drop i sets ≡ s ∷ drop (i + 1) sets = drop_more sets i d lt ∙ ap (λ x. x ∷ drop (i + 1) sets) (sym item) in
    record {
      done = h.done ++ told_before b (Some t) [];
      are = more ∙ ap (λ es. es ++ map recursion_error (told_before b (Some t) [])) h.are ∙ sym (map-append recursion_error h.done (told_before b (Some t) []));
      rest = λ ps k.
          subst (AreUnmarked terms sets sets) (split b ps)
          (h.rest (told_before b (Some t) ps)
          (subst (λ xs. AreUnmarked terms sets xs (told_before b (Some t) ps)) (sym left)
          (b, ps, told_is terms sets graph i s t b g once at found is, k, ap (λ o. told_before b o ps) (sym found))));
    }
  where
    split : (c : Bool) (ps : List Pos) → h.done ++ told_before c (Some t) ps ≡ (h.done ++ told_before c (Some t) []) ++ ps
    split true ps = sym (append_assoc h.done (t.decl_pos ∷ []) ps)
    split false ps = ap (λ xs. xs ++ ps) (sym (append-nil h.done))

-- all of them
pub told_all : (terms : List Term) (sets : List (TermId × RuleSet)) (i : ℕ) (errors : List Error) → length sets ≤ i → AreToldBelow terms sets i errors → IsRecursionList terms sets errors
told_all terms sets i errors le h =
    let none : drop i sets ≡ [] = drop_all sets i le in
    (h.done, subst (AreUnmarked terms sets sets) (append-nil h.done) (h.rest [] (subst (λ xs. AreUnmarked terms sets xs []) (sym none) refl)), h.are)
  where
    drop_all : (xs : List (TermId × RuleSet)) (k : ℕ) → length xs ≤ k → drop k xs ≡ []
    drop_all [] zero l = refl
    drop_all [] (suc k) l = refl
    drop_all (x ∷ xs) zero l = absurd (omega (arith, l))
    drop_all (x ∷ xs) (suc k) l = drop_all xs k (omega (arith, l))
