-- How many of some numbers are not used yet.
use Rattle.std.proofs.Common.{◌≡◌, ⊎_elim, ℕ, suc, ◌+◌, ◌≤◌, List, [], ◌∷◌, ◌++◌, length, Bool, true, false, cond, eqb, Option, Some, None, T, refl, sym, ap, ◌∙◌, subst, arith}
use Rattle.std.specs.Prelude.{◌||◌, Contains}
use Rattle.std.specs.List.{list_any}
use Rattle.std.proofs.Math.Dec.{eqb_refl}
use Rattle.isle_core.specs.declared.BindingId.{BindingId}
use Rattle.isle_core.specs.ArmPlaces.{bound_within}
use Rattle.isle_core.specs.Bindable.{bound_by}
use Rattle.isle_core.proofs.Contained.{contained_cases}

-- whether a number is used
abbrev pub is_used : List ℕ → ℕ → Bool
is_used used n = list_any (λ (m : ℕ). eqb m n) used

-- a number counts that is one of a kind and not used
abbrev pub left_one : (of_kind used : Bool) → ℕ
left_one true true = 0
left_one true false = 1
left_one false used = 0

-- how many do
abbrev pub left_of : (ℕ → Bool) → List ℕ → List ℕ → ℕ
left_of kind used [] = 0
left_of kind used (n ∷ l) = left_one (kind n) (is_used used n) + left_of kind used l

-- ---- one number more is used

pub used_push : (used : List ℕ) (k n : ℕ) → is_used (used ++ k ∷ []) n ≡ (is_used used n || eqb k n)
used_push [] k n = or_false (eqb k n)
  where
    or_false : (b : Bool) → (b || false) ≡ b
    or_false true = refl
    or_false false = refl
used_push (m ∷ used) k n = ap (λ b. eqb m n || b) (used_push used k n) ∙ or_assoc (eqb m n) (is_used used n) (eqb k n)
  where
    or_assoc : (a b c : Bool) → (a || (b || c)) ≡ ((a || b) || c)
    or_assoc true b c = refl
    or_assoc false b c = refl

one_less : (of_kind used more : Bool) → left_one of_kind (used || more) ≤ left_one of_kind used
one_less true true more = omega arith
one_less true false true = omega arith
one_less true false false = omega arith
one_less false used more = omega arith

-- no more are left then
pub push_less : (kind : ℕ → Bool) (used : List ℕ) (k : ℕ) (l : List ℕ) → left_of kind (used ++ k ∷ []) l ≤ left_of kind used l
push_less kind used k [] = omega arith
push_less kind used k (n ∷ l) =
    let rest = push_less kind used k l in
    let one : left_one (kind n) (is_used (used ++ k ∷ []) n) ≤ left_one (kind n) (is_used used n) = subst (λ b. left_one (kind n) b ≤ left_one (kind n) (is_used used n)) (sym (used_push used k n)) (one_less (kind n) (is_used used n) (eqb k n)) in
    omega (arith, rest, one)

eqb_self : (n : ℕ) → eqb n n ≡ true
eqb_self n = true_of (eqb n n) (eqb_refl n)
  where
    true_of : (b : Bool) → T b → b ≡ true
    true_of true t = refl
    true_of false t = absurd t

-- one less, if it is one of them and not used before
first_one : (kind : ℕ → Bool) (used : List ℕ) (k : ℕ) (l : List ℕ) → kind k ≡ true → is_used used k ≡ false → suc (left_of kind (used ++ k ∷ []) (k ∷ l)) ≤ left_of kind used (k ∷ l)
first_one kind used k l of_kind free =
    let rest = push_less kind used k l in
    let now : left_one (kind k) (is_used (used ++ k ∷ []) k) ≡ 0 = ap (left_one (kind k)) (used_push used k k ∙ ap (λ b. b || eqb k k) free ∙ eqb_self k) ∙ ap (λ b. left_one b true) of_kind in
    let before : left_one (kind k) (is_used used k) ≡ 1 = ap (left_one (kind k)) free ∙ ap (λ b. left_one b false) of_kind in
    omega (arith, rest, now, before)

later_one : (kind : ℕ → Bool) (used : List ℕ) (k n : ℕ) (l : List ℕ) → suc (left_of kind (used ++ k ∷ []) l) ≤ left_of kind used l → suc (left_of kind (used ++ k ∷ []) (n ∷ l)) ≤ left_of kind used (n ∷ l)
later_one kind used k n l rest =
    let one : left_one (kind n) (is_used (used ++ k ∷ []) n) ≤ left_one (kind n) (is_used used n) = subst (λ b. left_one (kind n) b ≤ left_one (kind n) (is_used used n)) (sym (used_push used k n)) (one_less (kind n) (is_used used n) (eqb k n)) in
    omega (arith, rest, one)

pub push_one : (kind : ℕ → Bool) (used : List ℕ) (k : ℕ) (l : List ℕ) → Contains l k → kind k ≡ true → is_used used k ≡ false → suc (left_of kind (used ++ k ∷ []) l) ≤ left_of kind used l
push_one kind used k [] c of_kind free = let bad = c.1 in absurd (omega (arith, bad))
push_one kind used k (n ∷ l) c of_kind free = ⊎_elim
    (λ (same : n ≡ k). subst (λ x. suc (left_of kind (used ++ k ∷ []) (x ∷ l)) ≤ left_of kind used (x ∷ l)) (sym same) (first_one kind used k l of_kind free))
    (λ d. later_one kind used k n l (push_one kind used k l d of_kind free)) (contained_cases n l k c)

-- ---- bindings

-- what is bound by an order, and within an arm, leaves no more
pub order_less : (kind : ℕ → Bool) (l : List ℕ) (used : List ℕ) (order : List BindingId) → left_of kind (bound_by used order) l ≤ left_of kind used l
order_less kind l used [] = omega arith
order_less kind l used (b ∷ order) = let one = push_less kind used b.0 l in let rest = order_less kind l (used ++ b.0 ∷ []) order in omega (arith, one, rest)

pub places_less : (kind : ℕ → Bool) (l : List ℕ) (used : List ℕ) (places : List (Option BindingId)) → left_of kind (bound_within used places) l ≤ left_of kind used l
places_less kind l used [] = omega arith
places_less kind l used (None ∷ places) = places_less kind l used places
places_less kind l used (Some b ∷ places) = let one = push_less kind used b.0 l in let rest = places_less kind l (used ++ b.0 ∷ []) places in omega (arith, one, rest)

-- ---- two kinds

-- those of a kind and the others are no more than all
pub both_kinds : (kind other : ℕ → Bool) → ((n : ℕ) → other n ≡ cond (kind n) false true) → (l : List ℕ) → left_of kind [] l + left_of other [] l ≤ length l
both_kinds kind other h [] = omega arith
both_kinds kind other h (n ∷ l) =
    let rest = both_kinds kind other h l in
    let one : left_one (kind n) false + left_one (other n) false ≤ 1 = subst (λ b. left_one (kind n) false + left_one b false ≤ 1) (sym (h n)) (pick (kind n)) in
    omega (arith, rest, one)
  where
    pick : (b : Bool) → left_one b false + left_one (cond b false true) false ≤ 1
    pick true = omega arith
    pick false = omega arith
