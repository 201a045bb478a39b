use Rattle.std.proofs.Common.{◌≡◌, ℕ, ◌<◌, ◌≤◌, length, cond, Ordering, Less, Equal, Greater, refl, arith}
use Rattle.std.specs.Ordering.{MatchOrdering, nat_cmp, is_lt, ord_max}
use Rattle.std.proofs.lemmas.Cmp.{ranked}
use Rattle.isle_blocks.proofs.ShortWays.{deeper}
use Rattle.isle_blocks.proofs.serialization.depth_of.Goals as goal

-- the greater of two numbers is above both
above : (a b : ℕ) → (a ≤ ord_max nat_cmp a b) × (b ≤ ord_max nat_cmp a b)
above a b = pick (nat_cmp b a) (ranked b a (nat_cmp b a) refl)
  where
    pick : (o : Ordering) → MatchOrdering o (b < a) (b ≡ a) (a < b) → (a ≤ cond (is_lt o) a b) × (b ≤ cond (is_lt o) a b)
    pick Less h = (omega arith, omega (arith, h))
    pick Equal h = (omega (arith, h), omega arith)
    pick Greater h = (omega (arith, h), omega arith)

pub loop-way-preserved : goal.loop-way-preserved
loop-way-preserved c =
    let w = c.way-item.result in
    let is : c.max-depth.result ≡ ord_max nat_cmp c.loop-way.depth (length w.early.now) = c.max-depth.ensures in
    let both = above c.loop-way.depth (length w.early.now) in
    deeper c.args.ways.now c.loop-way.way-index w w c.loop-way.depth c.max-depth.result c.loop-way-test.true c.way-item.is (omega (arith, is, both.0)) (omega (arith, is, both.1)) c.loop-way.invariant
