-- How many nodes a template has with patterns in place of its parameters.
use Rattle.std.proofs.Common.{◌≡◌, ℕ, zero, suc, ◌+◌, ◌-◌, ◌*◌, ◌<◌, Bool, true, false, cond, eqb, List, [], ◌∷◌, ◌++◌, length, Option, Some, None, refl, sym, ap, ◌∙◌, arith}
use Rattle.std.specs.Prelude.{Contains, slice_get}
use Rattle.std.proofs.lemmas.Bool.{eq-eqb, ne_eqb}
use Rattle.std.proofs.lemmas.List.Elements.{Contains-append_left, Contains-append_right}
use Rattle.isle_core.proofs.Contained.{head_contained, tail_contained}
use Rattle.isle_base.specs.declared.ids.TypeId.{TypeId}
use Rattle.isle_base.specs.declared.ids.VarId.{VarId}
use Rattle.isle_core.specs.Pattern as pattern
use Rattle.isle_core.specs.Pattern.{Pattern, Patterns, NoPattern, APattern}
use Rattle.isle_templates.specs.Arguments.{weighed}
use Rattle.isle_templates.specs.NodeCount.{pattern_nodes, patterns_nodes}
use Rattle.isle_templates.specs.Occurrences.{times_in}
use Rattle.isle_templates.specs.Renumbered.{pattern_variables, patterns_variables}
use Rattle.isle_templates.specs.Substituted.{pattern_or, argument, substituted, all_substituted}

-- each pattern has a node
pub one_node : (p : Pattern) → 0 < pattern_nodes p
one_node (pattern.BindPattern ty x p) = omega arith
one_node (pattern.Var ty x) = omega arith
one_node (pattern.ConstBool b) = omega arith
one_node (pattern.ConstInt ty n) = omega arith
one_node (pattern.ConstPrim ty name) = omega arith
one_node (pattern.Term ty term ps) = omega arith
one_node (pattern.Wildcard ty) = omega arith
one_node (pattern.And ty ps) = omega arith

-- how many more nodes stand for a parameter than its own
abbrev pub extra : Option Pattern → ℕ
extra None = 0
extra (Some p) = pattern_nodes p - 1

-- so many more for all of these parameters
abbrev pub extras : List Pattern → List ℕ → ℕ
extras args [] = 0
extras args (x ∷ xs) = extra (slice_get args x) + extras args xs

extras-append : (args : List Pattern) (xs ys : List ℕ) → extras args (xs ++ ys) ≡ extras args xs + extras args ys
extras-append args [] ys = omega arith
extras-append args (x ∷ xs) ys = let rest = extras-append args xs ys in omega arith

argument_nodes : (ty : TypeId) (x : VarId) (o : Option Pattern) → pattern_nodes (pattern_or (pattern.Var ty x) o) ≡ 1 + extra o
argument_nodes ty x None = omega arith
argument_nodes ty x (Some p) = let one = one_node p in omega arith

mutual
  -- a template has those nodes that it has with each parameter in place, and so many more
  pub substituted_nodes : (args : List Pattern) (p : Pattern) → pattern_nodes (substituted args p) ≡ pattern_nodes (substituted [] p) + extras args (pattern_variables p)
  substituted_nodes args (pattern.BindPattern ty x p) =
      let rest = substituted_nodes args p in
      let here = argument_nodes ty x (slice_get args x.0) in
      omega arith
  substituted_nodes args (pattern.Var ty x) = let here = argument_nodes ty x (slice_get args x.0) in omega arith
  substituted_nodes args (pattern.ConstBool b) = omega arith
  substituted_nodes args (pattern.ConstInt ty n) = omega arith
  substituted_nodes args (pattern.ConstPrim ty name) = omega arith
  substituted_nodes args (pattern.Term ty term ps) = let rest = all_substituted_nodes args ps in omega arith
  substituted_nodes args (pattern.Wildcard ty) = omega arith
  substituted_nodes args (pattern.And ty ps) = let rest = all_substituted_nodes args ps in omega arith

  all_substituted_nodes : (args : List Pattern) (ps : Patterns) → patterns_nodes (all_substituted args ps) ≡ patterns_nodes (all_substituted [] ps) + extras args (patterns_variables ps)
  all_substituted_nodes args NoPattern = omega arith
  all_substituted_nodes args (APattern p ps) =
      let first = substituted_nodes args p in
      let rest = all_substituted_nodes args ps in
      let both = extras-append args (pattern_variables p) (patterns_variables ps) in
      omega arith

-- ---- what stands at a parameter counts as often as it does

-- the pattern of this number counts once
abbrev once : ℕ → ℕ → List Pattern → ℕ
once x i [] = 0
once x i (p ∷ ps) = cond (eqb x i) (pattern_nodes p - 1) 0 + once x (suc i) ps

none_once : (x i : ℕ) (ps : List Pattern) → x < i → once x i ps ≡ 0
none_once x i [] lt = refl
none_once x i (p ∷ ps) lt =
    let other = ne_eqb x i (λ e. omega arith) in
    let rest = none_once x (suc i) ps (omega arith) in
    ap (λ b. cond b (pattern_nodes p - 1) 0 + once x (suc i) ps) other ∙ omega (arith, rest)

once_at : (x i : ℕ) (ps : List Pattern) → once (x + i) i ps ≡ extra (slice_get ps x)
once_at x i [] = refl
once_at zero i (p ∷ ps) =
    let same = eq-eqb (0 + i) i (omega arith) in
    let rest = none_once (0 + i) (suc i) ps (omega arith) in
    ap (λ b. cond b (pattern_nodes p - 1) 0 + once (0 + i) (suc i) ps) same ∙ omega (arith, rest)
once_at (suc x) i (p ∷ ps) =
    let other = ne_eqb (suc x + i) i (λ e. omega arith) in
    let next : suc x + i ≡ x + suc i = omega arith in
    ap (λ b. cond b (pattern_nodes p - 1) 0 + once (suc x + i) (suc i) ps) other ∙ ap (λ y. 0 + once y (suc i) ps) next ∙ omega (arith, once_at x (suc i) ps)

none_weighed : (i : ℕ) (ps : List Pattern) → weighed (times_in []) i ps ≡ 0
none_weighed i [] = refl
none_weighed i (p ∷ ps) = omega (arith, none_weighed (suc i) ps)

one_weighed : (x : ℕ) (xs : List ℕ) (i : ℕ) (ps : List Pattern) → weighed (times_in (x ∷ xs)) i ps ≡ once x i ps + weighed (times_in xs) i ps
one_weighed x xs i [] = omega arith
one_weighed x xs i (p ∷ ps) = pick (eqb x i) (one_weighed x xs (suc i) ps)
  where
    pick : (here : Bool) → weighed (times_in (x ∷ xs)) (suc i) ps ≡ once x (suc i) ps + weighed (times_in xs) (suc i) ps
        → cond here (suc (times_in xs i)) (times_in xs i) * (pattern_nodes p - 1) + weighed (times_in (x ∷ xs)) (suc i) ps ≡ cond here (pattern_nodes p - 1) 0 + once x (suc i) ps + (times_in xs i * (pattern_nodes p - 1) + weighed (times_in xs) (suc i) ps)
    pick true rest = omega (arith, rest)
    pick false rest = omega (arith, rest)

pub extras_weighed : (args : List Pattern) (xs : List ℕ) → extras args xs ≡ weighed (times_in xs) 0 args
extras_weighed args [] = sym (none_weighed 0 args)
extras_weighed args (x ∷ xs) =
    let here = once_at x 0 args in
    let first : once x 0 args ≡ extra (slice_get args x) = ap (λ y. once y 0 args) {x = x} {y = x + 0} (omega arith) ∙ here in
    let rest = extras_weighed args xs in
    omega (arith, one_weighed x xs 0 args)

pub weighed-append : (times : ℕ → ℕ) (i : ℕ) (ps qs : List Pattern) → weighed times i (ps ++ qs) ≡ weighed times i ps + weighed times (i + length ps) qs
weighed-append times i [] qs = ap (λ j. weighed times j qs) {x = i} {y = i + 0} (omega arith) ∙ omega arith
weighed-append times i (p ∷ ps) qs =
    let rest = weighed-append times (suc i) ps qs in
    let later : weighed times (suc i + length ps) qs ≡ weighed times (i + suc (length ps)) qs = ap (λ j. weighed times j qs) (omega arith) in
    omega arith

-- ---- only what stands at parameters that occur matters

mutual
  pub substituted_alike : (args others : List Pattern) (p : Pattern) → ((x : ℕ) → Contains (pattern_variables p) x → slice_get args x ≡ slice_get others x) → substituted args p ≡ substituted others p
  substituted_alike args others (pattern.BindPattern ty x p) alike =
      ap (λ a. pattern.And ty (APattern (pattern_or (pattern.Var ty x) a) (APattern (substituted args p) NoPattern))) (alike x.0 (head_contained x.0 (pattern_variables p)))
      ∙ ap (λ q. pattern.And ty (APattern (argument others ty x) (APattern q NoPattern))) (substituted_alike args others p (λ y c. alike y (tail_contained x.0 (pattern_variables p) y c)))
  substituted_alike args others (pattern.Var ty x) alike = ap (pattern_or (pattern.Var ty x)) (alike x.0 (head_contained x.0 []))
  substituted_alike args others (pattern.ConstBool b) alike = refl
  substituted_alike args others (pattern.ConstInt ty n) alike = refl
  substituted_alike args others (pattern.ConstPrim ty name) alike = refl
  substituted_alike args others (pattern.Term ty term ps) alike = ap (pattern.Term ty term) (all_alike args others ps alike)
  substituted_alike args others (pattern.Wildcard ty) alike = refl
  substituted_alike args others (pattern.And ty ps) alike = ap (pattern.And ty) (all_alike args others ps alike)

  all_alike : (args others : List Pattern) (ps : Patterns) → ((x : ℕ) → Contains (patterns_variables ps) x → slice_get args x ≡ slice_get others x) → all_substituted args ps ≡ all_substituted others ps
  all_alike args others NoPattern alike = refl
  all_alike args others (APattern p ps) alike =
      ap (λ q. APattern q (all_substituted args ps)) (substituted_alike args others p (λ x c. alike x (Contains-append_left (pattern_variables p) (patterns_variables ps) x c)))
      ∙ ap (APattern (substituted others p)) (all_alike args others ps (λ x c. alike x (Contains-append_right (pattern_variables p) (patterns_variables ps) x c)))
