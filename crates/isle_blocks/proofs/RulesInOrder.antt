-- The impure calls of rules in another order.
use Rattle.std.proofs.Common.{⊎_elim, ℕ, List, ◌++◌}
use Rattle.std.specs.Prelude.{Contains}
use Rattle.std.proofs.lemmas.List.Elements.{Contains-append_left, Contains-append_right, Contains-append_cases}
use Rattle.isle_core.specs.declared.rule_sets.FlatRule.{FlatRule}
use Rattle.isle_core.specs.Occurrences.{occurrences}
use Rattle.isle_core.specs.Path.{Path}
use Rattle.isle_core.specs.Rule.{Environment}
use Rattle.isle_core.specs.Serializable.{occurrences_of}
use Rattle.isle_core.specs.StandsFor.{EachOnce}
use Rattle.isle_blocks.specs.Reordered.{PutIn, here, later, IsReordered, nothing, more}
use Rattle.isle_blocks.proofs.OncePairs.{each_first, each_second, each_apart, each_both}

module _ (env : Environment) (ps : List Path) where
  abbrev of_rule : FlatRule → List ℕ
  of_rule f = occurrences env ps f.ordered

  abbrev of_rules : List FlatRule → List ℕ
  of_rules fs = occurrences_of env ps fs

  -- those of rules with one more are its own and those of the rules
  put_calls : (f : FlatRule) (gs hs : List FlatRule) (k : ℕ) → PutIn f gs hs → Contains (of_rules hs) k → Contains (of_rule f ++ of_rules gs) k
  put_calls f gs hs k (here gs') c = c
  put_calls f gs hs k (later g gs' hs' i) c =
      let xs = of_rule f in
      let ys = of_rule g in
      let zs = of_rules gs' in
      ⊎_elim
      (λ j. Contains-append_right xs (ys ++ zs) k (Contains-append_left ys zs k j))
      (λ j. ⊎_elim (λ l. Contains-append_left xs (ys ++ zs) k l) (λ l. Contains-append_right xs (ys ++ zs) k (Contains-append_right ys zs k l)) (Contains-append_cases xs zs k (put_calls f gs' hs' k i j)))
      (Contains-append_cases ys (of_rules hs') k c)

  -- each stands once if it does there
  put_once : (f : FlatRule) (gs hs : List FlatRule) → PutIn f gs hs → EachOnce (of_rule f ++ of_rules gs) → EachOnce (of_rules hs)
  put_once f gs hs (here gs') h = h
  put_once f gs hs (later g gs' hs' i) h =
      let xs = of_rule f in
      let ys = of_rule g in
      let zs = of_rules gs' in
      let both = each_second xs (ys ++ zs) h in
      let without = each_both xs zs (each_first xs (ys ++ zs) h) (each_second ys zs both) (λ k c d. each_apart xs (ys ++ zs) h k c (Contains-append_right ys zs k d)) in
      each_both ys (of_rules hs') (each_first ys zs both) (put_once f gs' hs' i without)
      (λ k c d. ⊎_elim (λ j. each_apart xs (ys ++ zs) h k j (Contains-append_left ys zs k c)) (λ j. each_apart ys zs both k c j) (Contains-append_cases xs zs k (put_calls f gs' hs' k i d)))

  -- those of rules in another order are those of the rules
  order_calls : (fs gs : List FlatRule) (k : ℕ) → IsReordered fs gs → Contains (of_rules gs) k → Contains (of_rules fs) k
  order_calls fs gs k nothing c = c
  order_calls fs gs k (more f fs' gs' gs'' h i) c =
      let xs = of_rule f in
      ⊎_elim (λ j. Contains-append_left xs (of_rules fs') k j) (λ j. Contains-append_right xs (of_rules fs') k (order_calls fs' gs' k h j)) (Contains-append_cases xs (of_rules gs') k (put_calls f gs' gs k i c))

  pub occurrences_in_order : (fs gs : List FlatRule) → IsReordered fs gs → EachOnce (of_rules fs) → EachOnce (of_rules gs)
  occurrences_in_order fs gs nothing o = o
  occurrences_in_order fs gs (more f fs' gs' gs'' h i) o =
      let xs = of_rule f in
      let ys = of_rules fs' in
      put_once f gs' gs i (each_both xs (of_rules gs') (each_first xs ys o) (occurrences_in_order fs' gs' h (each_second xs ys o)) (λ k c d. each_apart xs ys o k c (order_calls fs' gs' k h d)))
