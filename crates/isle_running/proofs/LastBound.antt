-- What the newest binding of a local holds.
use Rattle.std.proofs.Common.{◌≡◌, ℕ, List, [], ◌∷◌, fold, Bool, true, false, Option, Some, None, refl, ap, ◌∙◌}
use Rattle.std.specs.Prelude.{◌==◌, if◌then◌else◌}
use Rattle.isle_scope.specs.Table.{newest, held as table_held}
use Rattle.isle_tree.specs.Run.{newer, look}
use Rattle.isle_running.specs.RunViews.{held, locals}
use Rattle.isle_running.specs.Locals.{held_or}
use Rattle.isle_running.specs.declared.holding.Holding.{Holding}

one_more : (n : ℕ) (o : Option Holding) (p : ℕ × Holding) → held_or (newest n o p) ≡ newer n (held_or o) (p.0, held p.1)
one_more n o p = by (p.0 == n)
  where
    by : (same : Bool) → held_or (if same then Some p.1 else o) ≡ (if same then held p.1 else held_or o)
    by true = refl
    by false = refl

held_fold : (n : ℕ) (o : Option Holding) (ps : List (ℕ × Holding)) → held_or (fold (newest n) o ps) ≡ fold (newer n) (held_or o) (locals ps)
held_fold n o [] = refl
held_fold n o (p ∷ ps) = held_fold n (newest n o p) ps ∙ ap (λ h. fold (newer n) h (locals ps)) (one_more n o p)

-- what the table has of a local is what it holds
pub table_looks : (ps : List (ℕ × Holding)) (n : ℕ) (o : Option Holding) → o ≡ table_held ps n → held_or o ≡ look (locals ps) n
table_looks ps n o e = ap held_or e ∙ held_fold n None ps
