use Rattle.std.proofs.Common.{rules, refl, ◌∙◌, subst}
use Rattle.std.specs.List.Sorted.{IsPermutation}
use Rattle.std.proofs.lemmas.List.Sorted.{IsNonDecreasingBy-from_sort_by_key}
use Rattle.isle_blocks.specs.Turns.{rank}
use Rattle.isle_blocks.proofs.arrangement.arrange_way.Goals as goal

pub returns : goal.returns
returns c = record {
  rule = refl;
  tests = subst (λ cs. IsPermutation cs c.sort_by_key.new.self.items) (c.in_ok-early.ensures.items ∙ c.as_slice.ensures.value) c.in_ok-sort_by_key.ensures.permutation;
  sorted = IsNonDecreasingBy-from_sort_by_key (λ t. rank c.args.turns.now t.0) _ c.in_ok-sort_by_key.ensures.sorted (λ a r q k. search rules);
  late = c.as_slice-3.ensures.value;
}
