use Rattle.std.proofs.Common.{rules, ℤ}
use Rattle.std.specs.declared.cmp.Reverse.{Reverse}
use Rattle.std.proofs.lemmas.List.Sorted.{IsPermutation-trans, answers_always}
use Rattle.isle_blocks.specs.declared.arrangement.Arranged.{Arranged}
use Rattle.isle_blocks.proofs.ArrangedWays.{sorted_falls}
use Rattle.isle_blocks.proofs.arrangement.sort_ways.Goals as goal

-- falling priorities
abbrev falling : Arranged → Reverse ℤ
falling a = record { 0 = a.rule.now.prio }

pub returns-clause-permutation : goal.returns-clause-permutation
returns-clause-permutation c = IsPermutation-trans _ _ _ c.in_ok-sort_by.ensures.permutation c.in_ok-sort_by_key.ensures.permutation

pub returns-clause-falls : goal.returns-clause-falls
returns-clause-falls c = sorted_falls c.sort_by_key.new.self.items (c.in_ok-sort_by_key.ensures.sorted falling (answers_always _ _ _ (λ f a r f' k. search rules)))
