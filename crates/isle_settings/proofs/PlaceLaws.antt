-- The marked places, in order: those that are marked, ascending.
use Rattle.std.proofs.Common.{◌≡◌, ⊎_elim, ℕ, zero, suc, ◌+◌, ◌<◌, List, [], ◌∷◌, Bool, true, false, get_or, Result, Ok, Err, Vec, Global, refl, sym, ap, subst, ◌∙◌, arith}
use Rattle.std.specs.Prelude.{◌↔◌, Contains, IfOk}
use Rattle.std.specs.List.{All, AllPairs}
use Rattle.std.proofs.lemmas.List.Elements.{Contains-get_or}
use Rattle.std.proofs.lemmas.List.Kept.{AllPairs-cons}
use Rattle.isle_core.proofs.Contained.{head_contained, tail_contained, contained_cases, none_contained}
use Rattle.isle_outside.specs.declared.errors.OutOfMemory.{OutOfMemory}
use Rattle.isle_settings.specs.Marks.{IsMarked, marked_from}
use Rattle.isle_settings.specs.PresetClosure.{AreReached, Reaches}
use Rattle.isle_settings.specs.declared.group.SettingGroup.{SettingGroup}

-- a place among them is marked
pub place_marked : (marks : List Bool) (k p : ℕ) → Contains (marked_from k marks) p → (i : ℕ) × (p ≡ k + i) × IsMarked marks i
place_marked [] k p c = absurd (none_contained p c)
place_marked (true ∷ marks) k p c = ⊎_elim (λ (e : k ≡ p). (0, omega (arith, e), refl)) (λ (d : Contains (marked_from (k + 1) marks) p). behind (place_marked marks (k + 1) p d)) (contained_cases k (marked_from (k + 1) marks) p c)
  where
    behind : (i : ℕ) × (p ≡ k + 1 + i) × IsMarked marks i → (i : ℕ) × (p ≡ k + i) × IsMarked (true ∷ marks) i
    behind f = (suc f.0, omega (arith, f.1), f.2)
place_marked (false ∷ marks) k p c = behind (place_marked marks (k + 1) p c)
  where
    behind : (i : ℕ) × (p ≡ k + 1 + i) × IsMarked marks i → (i : ℕ) × (p ≡ k + i) × IsMarked (false ∷ marks) i
    behind f = (suc f.0, omega (arith, f.1), f.2)

-- a marked place is among them
pub marked_place : (marks : List Bool) (k i p : ℕ) → p ≡ k + i → IsMarked marks i → Contains (marked_from k marks) p
marked_place [] k i p e m = absurd cc
marked_place (true ∷ marks) k zero p e m = let same : k ≡ p = omega (arith, e) in subst (λ q. Contains (k ∷ marked_from (k + 1) marks) q) same (head_contained k (marked_from (k + 1) marks))
marked_place (true ∷ marks) k (suc i) p e m = tail_contained k (marked_from (k + 1) marks) p (marked_place marks (k + 1) i p (omega (arith, e)) m)
marked_place (false ∷ marks) k zero p e m = absurd cc
marked_place (false ∷ marks) k (suc i) p e m = marked_place marks (k + 1) i p (omega (arith, e)) m

-- those from a place on aren't below it
later : (marks : List Bool) (k : ℕ) → All (λ p. k < p) (marked_from (k + 1) marks)
later marks k = λ i d lt. let c = Contains-get_or (marked_from (k + 1) marks) i d lt in let f = place_marked marks (k + 1) (get_or (marked_from (k + 1) marks) i d) c in omega (arith, f.1)

-- they ascend
pub places_ascend : (marks : List Bool) (k : ℕ) → AllPairs (λ (a b : ℕ). a < b) (marked_from k marks)
places_ascend [] k = λ i j d lt within. absurd (omega arith)
places_ascend (true ∷ marks) k = AllPairs-cons (λ (a b : ℕ). a < b) k (marked_from (k + 1) marks) (later marks k) (places_ascend marks (k + 1))
places_ascend (false ∷ marks) k = places_ascend marks (k + 1)

-- the marked places are those that a preset reaches, where the marks are
are_reached : (group : SettingGroup) (preset : ℕ) (marks : List Bool) → ((flag : ℕ) → IsMarked marks flag ↔ Reaches group.presets preset flag) → AreReached group preset (marked_from 0 marks)
are_reached group preset marks h = record {
  exact = λ flag. (
    λ (c : Contains (marked_from 0 marks) flag). let f = place_marked marks 0 flag c in let same : f.0 ≡ flag = omega (arith, f.1) in (h flag).0 (subst (λ n. IsMarked marks n) same f.2),
    λ (r : Reaches group.presets preset flag). marked_place marks 0 flag flag (omega arith) ((h flag).1 r),
  );
  ascending = places_ascend marks 0;
}

-- so of a list of them that is made
pub places_reached : (r : Result (Vec ℕ Global) OutOfMemory) (group : SettingGroup) (preset : ℕ) (marks now : List Bool) → IfOk r (λ places. places.items ≡ marked_from 0 now) → now ≡ marks
    → ((flag : ℕ) → IsMarked marks flag ↔ Reaches group.presets preset flag) → IfOk r (λ flags. AreReached group preset flags.items)
places_reached (Ok v) group preset marks now h e k = subst (λ xs. AreReached group preset xs) (sym (h ∙ ap (marked_from 0) e)) (are_reached group preset marks k)
places_reached (Err x) group preset marks now h e k = tt
