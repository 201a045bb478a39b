-- How often a parameter stands in a template with patterns in place of its parameters.
use Rattle.std.proofs.Common.{◌≡◌, ℕ, suc, ◌+◌, ◌≤◌, Bool, true, false, cond, eqb, List, [], ◌∷◌, ◌++◌, Option, Some, None, refl, ap, arith}
use Rattle.std.specs.Prelude.{slice_get}
use Rattle.isle_base.specs.declared.ids.TypeId.{TypeId}
use Rattle.isle_base.specs.declared.ids.VarId.{VarId}
use Rattle.isle_core.specs.Pattern as pattern
use Rattle.isle_core.specs.Pattern.{Pattern, Patterns, NoPattern, APattern}
use Rattle.isle_templates.specs.NodeCount.{pattern_nodes, patterns_nodes}
use Rattle.isle_templates.specs.Occurrences.{times_in}
use Rattle.isle_templates.specs.Renumbered.{pattern_variables, patterns_variables}
use Rattle.isle_templates.specs.Substituted.{pattern_or, argument, substituted, all_substituted}
use Rattle.isle_templates.proofs.OccurrenceSums.{sum_over, sum_over-append}

pub times-append : (xs ys : List ℕ) (x : ℕ) → times_in (xs ++ ys) x ≡ times_in xs x + times_in ys x
times-append [] ys x = omega arith
times-append (y ∷ xs) ys x = pick (eqb y x) (times-append xs ys x)
  where
    pick : (here : Bool) → times_in (xs ++ ys) x ≡ times_in xs x + times_in ys x → cond here (suc (times_in (xs ++ ys) x)) (times_in (xs ++ ys) x) ≡ cond here (suc (times_in xs x)) (times_in xs x) + times_in ys x
    pick true rest = omega (arith, rest)
    pick false rest = rest

-- the variables of what stands for a parameter
abbrev pub standing : ℕ → Option Pattern → List ℕ
standing y None = y ∷ []
standing y (Some p) = pattern_variables p

-- how often one stands in what stands for another
abbrev pub standing_in : List Pattern → ℕ → ℕ → ℕ
standing_in args x y = times_in (standing y (slice_get args y)) x

argument_variables : (ty : TypeId) (v : VarId) (o : Option Pattern) → pattern_variables (pattern_or (pattern.Var ty v) o) ≡ standing v.0 o
argument_variables ty v None = refl
argument_variables ty v (Some p) = refl

argument_times : (args : List Pattern) (x : ℕ) (ty : TypeId) (v : VarId) → times_in (pattern_variables (argument args ty v)) x ≡ standing_in args x v.0
argument_times args x ty v = ap (λ ys. times_in ys x) (argument_variables ty v (slice_get args v.0))

module _ (args : List Pattern) (x : ℕ) where
  mutual
    pub substituted_times : (p : Pattern) → times_in (pattern_variables (substituted args p)) x ≡ sum_over (standing_in args x) (pattern_variables p)
    substituted_times (pattern.BindPattern ty v p) =
        let here = argument_times args x ty v in
        let rest = substituted_times p in
        let first = times-append (pattern_variables (argument args ty v)) (pattern_variables (substituted args p) ++ []) x in
        let second = times-append (pattern_variables (substituted args p)) [] x in
        omega (arith, here, rest, first, second)
    substituted_times (pattern.Var ty v) = let here = argument_times args x ty v in omega (arith, here)
    substituted_times (pattern.ConstBool b) = refl
    substituted_times (pattern.ConstInt ty n) = refl
    substituted_times (pattern.ConstPrim ty name) = refl
    substituted_times (pattern.Term ty term ps) = all_substituted_times ps
    substituted_times (pattern.Wildcard ty) = refl
    substituted_times (pattern.And ty ps) = all_substituted_times ps

    all_substituted_times : (ps : Patterns) → times_in (patterns_variables (all_substituted args ps)) x ≡ sum_over (standing_in args x) (patterns_variables ps)
    all_substituted_times NoPattern = refl
    all_substituted_times (APattern p ps) =
        let first = substituted_times p in
        let rest = all_substituted_times ps in
        let one = times-append (pattern_variables (substituted args p)) (patterns_variables (all_substituted args ps)) x in
        let other = sum_over-append (standing_in args x) (pattern_variables p) (patterns_variables ps) in
        omega (arith, first, rest, one, other)

-- ---- no parameter stands more often than there are nodes

one_place_more : (y x : ℕ) (ys : List ℕ) → times_in (y ∷ ys) x ≤ suc (times_in ys x)
one_place_more y x ys = pick (eqb y x)
  where
    pick : (here : Bool) → cond here (suc (times_in ys x)) (times_in ys x) ≤ suc (times_in ys x)
    pick true = omega arith
    pick false = omega arith

module _ (x : ℕ) where
  mutual
    pub few_times : (p : Pattern) → times_in (pattern_variables p) x ≤ pattern_nodes (substituted [] p)
    few_times (pattern.BindPattern ty v p) = let rest = few_times p in let more = one_place_more v.0 x (pattern_variables p) in omega (arith, rest, more)
    few_times (pattern.Var ty v) = let more = one_place_more v.0 x [] in omega (arith, more)
    few_times (pattern.ConstBool b) = omega arith
    few_times (pattern.ConstInt ty n) = omega arith
    few_times (pattern.ConstPrim ty name) = omega arith
    few_times (pattern.Term ty term ps) = let rest = all_few_times ps in omega (arith, rest)
    few_times (pattern.Wildcard ty) = omega arith
    few_times (pattern.And ty ps) = let rest = all_few_times ps in omega (arith, rest)

    all_few_times : (ps : Patterns) → times_in (patterns_variables ps) x ≤ patterns_nodes (all_substituted [] ps)
    all_few_times NoPattern = omega arith
    all_few_times (APattern p ps) =
        let first = few_times p in
        let rest = all_few_times ps in
        let both = times-append (pattern_variables p) (patterns_variables ps) x in
        omega (arith, first, rest, both)
