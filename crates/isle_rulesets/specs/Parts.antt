-- How lists of numbers are compared: the first two that differ decide.
use Rattle.std.specs.Prelude.{◌≡◌, List, Bool, nat_eq, Option, Some, refl}
use Rattle.std.specs.declared.cmp.Ordering.{Ordering}
use Rattle.std.specs.Ordering.{nat_cmp, eq_by_cmp}
use Rattle.std.specs.Cmp.{IsPartialEquivalence, IsEquivalence, IsPartialOrder, IsTotalOrder, Agrees, partial_equiv_from_equiv, on_equiv, on_po, on_total, nat_eq_equiv, nat_cmp_total, unsigned_po, unsigned_ties}
use Rattle.std.specs.Cmp.Lexicographic.{pointwise, slice_cmp, slice_partial_cmp, lists_equiv, lists_po, lists_total, lists_agrees, lists_ties}
use Rattle.isle_core.specs.declared.BindingId.{BindingId}

-- two numbers are one
abbrev number_eq : BindingId → BindingId → Bool
number_eq a b = nat_eq a.0 b.0

-- the lower number first
abbrev number_cmp : BindingId → BindingId → Ordering
number_cmp a b = nat_cmp a.0 b.0

-- so as an order that always answers
abbrev number_partial_cmp : BindingId → BindingId → Option Ordering
number_partial_cmp a b = Some (nat_cmp a.0 b.0)

-- as many numbers, each the same
abbrev pub parts_eq : List BindingId → List BindingId → Bool
parts_eq = pointwise number_eq

-- the order of lists of numbers
abbrev pub parts_cmp : List BindingId → List BindingId → Ordering
parts_cmp = slice_cmp number_cmp

-- so as one that always answers
abbrev pub parts_partial_cmp : List BindingId → List BindingId → Option Ordering
parts_partial_cmp = slice_partial_cmp number_partial_cmp

-- ---- the laws of comparisons

pub parts_eq_equiv : IsEquivalence parts_eq
parts_eq_equiv = lists_equiv (on_equiv (λ (b : BindingId). b.0) nat_eq_equiv)

pub parts_eq_per : IsPartialEquivalence parts_eq
parts_eq_per = partial_equiv_from_equiv parts_eq_equiv

pub parts_po : IsPartialOrder parts_eq parts_partial_cmp
parts_po = lists_po (on_po (λ (b : BindingId). b.0) unsigned_po)

pub parts_total : IsTotalOrder parts_cmp
parts_total = lists_total (on_total (λ (b : BindingId). b.0) nat_cmp_total)

pub parts_agree : Agrees parts_partial_cmp parts_cmp
parts_agree = lists_agrees (λ a b. refl)

pub parts_tie : (xs ys : List BindingId) → parts_eq xs ys ≡ eq_by_cmp parts_cmp xs ys
parts_tie = lists_ties number_cmp (λ a b. unsigned_ties a.0 b.0)
