-- A variable's place stays after more patterns.
use Rattle.std.proofs.Common.{◌≡◌, ℕ, suc, List, [], ◌∷◌, Bool, true, false, cond, eqb, Option, Some, None, refl, sym, ap, ◌∙◌}
use Rattle.std.proofs.lemmas.Bool.{eqb-true}
use Rattle.isle_core.specs.Opening.{Opening, opening, part_path}
use Rattle.isle_core.specs.Pattern.{Pattern, Patterns, NoPattern, APattern, Var, Term, BindPattern, And}
use Rattle.isle_core.specs.Path.{Path, Arg}
use Rattle.isle_core.specs.Tests.{Places, met_after, after, after_parts, after_each, args_after}
use Rattle.isle_core.specs.Rule.{Environment}

-- so after a variable
pub met_keeps : (o : Option Path) (x y : ℕ) (p q : Path) (places : Places) → places x ≡ o → places y ≡ Some q → met_after o x p places y ≡ Some q
met_keeps (Some r) x y p q places e h = h
met_keeps None x y p q places e h = pick (eqb x y) refl
  where
    pick : (b : Bool) → eqb x y ≡ b → cond b (Some p) (places y) ≡ Some q
    pick true t = let same : x ≡ y = eqb-true x y t in let bad : None ≡ Some q = sym e ∙ ap places same ∙ h in cc
    pick false t = h

mutual
  -- so after one pattern
  pub after_keeps : (r : Pattern) (env : Environment) (p : Path) (places : Places) (y : ℕ) (q : Path) → places y ≡ Some q → after env r p places y ≡ Some q
  after_keeps (Var ty x) env p places y q h = met_keeps (places x.0) x.0 y p q places refl h
  after_keeps (Term ty term rs) env p places y q h = parts_keep rs env (opening env term) 0 p places y q h
  after_keeps (BindPattern ty x r) env p places y q h = after_keeps r env p (met_after (places x.0) x.0 p places) y q (met_keeps (places x.0) x.0 y p q places refl h)
  after_keeps (And ty rs) env p places y q h = each_keep rs env p places y q h
  after_keeps r env p places y q h = h

  -- and after several on one path
  pub each_keep : (rs : Patterns) (env : Environment) (p : Path) (places : Places) (y : ℕ) (q : Path) → places y ≡ Some q → after_each env rs p places y ≡ Some q
  each_keep NoPattern env p places y q h = h
  each_keep (APattern r rs) env p places y q h = each_keep rs env p (after env r p places) y q (after_keeps r env p places y q h)

  -- and after parts
  pub parts_keep : (rs : Patterns) (env : Environment) (opened : Opening) (i : ℕ) (p : Path) (places : Places) (y : ℕ) (q : Path) → places y ≡ Some q → after_parts env opened rs i p places y ≡ Some q
  parts_keep NoPattern env opened i p places y q h = h
  parts_keep (APattern r rs) env opened i p places y q h = parts_keep rs env opened (suc i) p (after env r (part_path opened i p) places) y q (after_keeps r env (part_path opened i p) places y q h)

-- a place stays after more patterns
pub args_keep : (env : Environment) (qs : List Pattern) (n : ℕ) (places : Places) (y : ℕ) (q : Path) → places y ≡ Some q → args_after env qs n places y ≡ Some q
args_keep env [] n places y q h = h
args_keep env (r ∷ qs) n places y q h = args_keep env qs (suc n) (after env r (Arg n) places) y q (after_keeps r env (Arg n) places y q h)
