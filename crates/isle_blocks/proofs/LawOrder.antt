-- Rules in falling order.
use Rattle.std.proofs.Common.{◌≡◌, ℕ, suc, ◌<◌, ◌≤◌, List, [], ◌∷◌, false, map, length, get_or, arith}
use Rattle.std.specs.Cmp.{IsStrictWeakOrder}
use Rattle.std.specs.Ordering.{int_cmp, is_lt}
use Rattle.std.proofs.lemmas.Cmp.{int_cmp_total}
use Rattle.std.proofs.lemmas.List.Sorted.{ranks_by, IsStrictWeakOrder-flip}
use Rattle.isle_core.specs.declared.rule_sets.FlatRule.{FlatRule}
use Rattle.isle_blocks.specs.Order.{is_above, NoneAbove, Falls}

pub above_order : IsStrictWeakOrder is_above
above_order = IsStrictWeakOrder-flip (λ f g. is_lt (int_cmp f.prio g.prio)) (ranks_by int_cmp_total (λ (f : FlatRule). f.prio))

-- what falls where each stands after those that are no lower
pub falls_from : {A : Type 0} (rule : A → FlatRule) (xs : List A) → ((i j : ℕ) (d : A) → i ≤ j → j < length xs → is_above (rule (get_or xs j d)) (rule (get_or xs i d)) ≡ false) → Falls (map rule xs)
falls_from rule [] h = tt
falls_from {A} rule (x ∷ xs) h = (none xs (λ j k. h 0 (suc j) x (omega arith) (omega arith)), falls_from rule xs (λ i j d a b. h (suc i) (suc j) d (omega arith) (omega arith)))
  where
    none : (ys : List A) → ((j : ℕ) → j < length ys → is_above (rule (get_or ys j x)) (rule x) ≡ false) → NoneAbove (rule x) (map rule ys)
    none [] k = tt
    none (y ∷ ys) k = (k 0 (omega arith), none ys (λ j l. k (suc j) (omega arith)))
