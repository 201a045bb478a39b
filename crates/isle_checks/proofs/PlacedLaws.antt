-- Rules with their places.
use Rattle.std.proofs.Common.{◌≡◌, ◌⊎◌, inl, inr, ⊎_elim, ℕ, zero, suc, ◌+◌, ◌<◌, List, [], ◌∷◌, ◌++◌, length, get_or, refl, sym, ap, ◌∙◌, subst, arith, Some}
use Rattle.std.specs.Prelude.{Contains, slice_get}
use Rattle.std.specs.List.{AllByRecursion}
use Rattle.std.proofs.lemmas.List.Elements.{Contains-append_left, Contains-append_right, Contains-append_cases}
use Rattle.isle_core.specs.declared.rule_sets.FlatRule.{FlatRule}
use Rattle.isle_core.proofs.Contained.{head_contained, contained_cases, none_contained}
use Rattle.isle_core.proofs.OptionLaws.{some_same}
use Rattle.isle_checks.specs.declared.placed.Placed.{Placed}
use Rattle.isle_checks.specs.Lists.{Rises}
use Rattle.isle_checks.specs.Firsts.{ArePlaced}

-- one is the only one
pub only_one : {X : Type 0} (x y : X) → Contains (x ∷ []) y → x ≡ y
only_one x y c = ⊎_elim (λ e. e) (λ d. absurd (none_contained y d)) (contained_cases x [] y c)

all_push : {X : Type 0} (P : X → Type 0) (xs : List X) (y : X) → AllByRecursion P xs → P y → AllByRecursion P (xs ++ y ∷ [])
all_push P [] y h k = (k, tt)
all_push P (x ∷ xs) y h k = (h.0, all_push P xs y h.1 k)

-- places rise where one more stands after all
pub rises_push : (group : List Placed) (b : Placed) → Rises group → ((a : Placed) → Contains group a → a.place < b.place) → Rises (group ++ b ∷ [])
rises_push [] b h lt = (tt, tt)
rises_push (a ∷ later) b h lt = (all_push (λ (c : Placed). a.place < c.place) later b h.0 (lt a (head_contained a later)), rises_push later b h.1 (λ c k. lt c (tail a later c k)))
  where
    tail : (x : Placed) (xs : List Placed) (y : Placed) → Contains xs y → Contains (x ∷ xs) y
    tail x xs y c = (suc c.0, omega arith, c.2)

-- the rules so far with their places
pub record PlacedSoFar (rules : List FlatRule) (i : ℕ) (group : List Placed) : Type 0 where
  pub each : (a : Placed) → Contains group a → (slice_get rules a.place ≡ Some a.rule.now) × (a.place < i)
  pub all : (j : ℕ) (f : FlatRule) → j < i → slice_get rules j ≡ Some f → (a : Placed) × Contains group a × (a.place ≡ j) × (a.rule.now ≡ f)
  pub rise : Rises group

pub none_placed : (rules : List FlatRule) → PlacedSoFar rules 0 []
none_placed rules = record { each = λ a c. absurd (none_contained a c); all = λ j f lt e. absurd (omega (arith, lt)); rise = tt }

pub get_there : {X : Type 0} (xs : List X) (i : ℕ) (x : X) → i < length xs → x ≡ get_or xs i x → slice_get xs i ≡ Some x
get_there [] i x lt e = absurd (omega (arith, lt))
get_there (y ∷ ys) zero x lt e = ap Some (sym e)
get_there (y ∷ ys) (suc i) x lt e = get_there ys i x (omega (arith, lt)) e

pub placed_more : (rules : List FlatRule) (i : ℕ) (group new : List Placed) (b : Placed) → i < length rules → b.place ≡ i → b.rule.now ≡ get_or rules i b.rule.now → new ≡ group ++ b ∷ [] → PlacedSoFar rules i group → PlacedSoFar rules (i + 1) new
placed_more rules i group new b lt at is more h = subst (PlacedSoFar rules (i + 1)) (sym more) (record {
  each = λ a c. ⊎_elim (λ d. let k = h.each a d in (k.0, let n = k.1 in omega (arith, n))) (λ d. subst (λ (x : Placed). (slice_get rules x.place ≡ Some x.rule.now) × (x.place < i + 1)) (only_one b a d) (here, omega (arith, at))) (Contains-append_cases group (b ∷ []) a c);
  all = λ j f less e. ⊎_elim (λ d. let k = h.all j f d e in (k.0, Contains-append_left group (b ∷ []) k.0 k.1, k.2, k.3)) (λ (d : j ≡ i). (b, Contains-append_right group (b ∷ []) b (head_contained b []), at ∙ sym d, some_same b.rule.now f (sym here ∙ ap (slice_get rules) (at ∙ sym d) ∙ e))) (below j less);
  rise = rises_push group b h.rise (λ a c. let n = (h.each a c).1 in omega (arith, at, n));
})
  where
    here : slice_get rules b.place ≡ Some b.rule.now
    here = ap (slice_get rules) at ∙ get_there rules i b.rule.now lt is

    below : (j : ℕ) → j < i + 1 → (j < i) ⊎ (j ≡ i)
    below j less = split j i less
      where
        split : (j i : ℕ) → j < i + 1 → (j < i) ⊎ (j ≡ i)
        split zero zero less' = inr refl
        split zero (suc i) less' = inl (omega arith)
        split (suc j) zero less' = absurd (omega (arith, less'))
        split (suc j) (suc i) less' = ⊎_elim (λ h. inl (omega (arith, h))) (λ h. inr (ap suc h)) (split j i (omega (arith, less')))

pub length_of : {X : Type 0} (xs : List X) (i : ℕ) (x : X) → slice_get xs i ≡ Some x → i < length xs
length_of [] i x e = cc
length_of (y ∷ ys) zero x e = omega arith
length_of (y ∷ ys) (suc i) x e = let h = length_of ys i x e in omega (arith, h)

pub all_placed : (rules : List FlatRule) (group : List Placed) (i : ℕ) → i ≡ length rules → PlacedSoFar rules i group → ArePlaced rules group
all_placed rules group i e h = record { each = λ a c. (h.each a c).0; all = λ j f k. h.all j f (let lt = length_of rules j f k in omega (arith, lt, e)) k; rise = h.rise }
