-- Steps in which code counts how often parameters stand in templates.
use Rattle.std.proofs.Common.{◌≡◌, ℕ, suc, ◌+◌, ◌-◌, ◌*◌, ◌^◌, ◌<◌, ◌≤◌, min, Bool, true, false, cond, eqb, List, [], ◌∷◌, ◌++◌, length, map, take, get_or, Option, refl, sym, ap, ◌∙◌, arith}
use Rattle.std.specs.Prelude.{Contains, slice_get, option_map}
use Rattle.std.specs.Option.{unwrap_or}
use Rattle.std.proofs.lemmas.List.{length-map}
use Rattle.std.proofs.lemmas.Option.{slice_get-map, slice_get_read, slice_get_past}
use Rattle.isle_base.specs.declared.ids.TypeId.{TypeId}
use Rattle.isle_base.specs.declared.ids.VarId.{VarId}
use Rattle.isle_core.proofs.SeesRules.{pattern-bind}
use Rattle.isle_core.specs.declared.rules.Pattern.{Pattern as CodePattern}
use Rattle.isle_core.specs.declared.rules.Pattern.TheVariants as code_pattern
use Rattle.isle_core.specs.Pattern as pattern
use Rattle.isle_core.specs.Pattern.{Pattern}
use Rattle.isle_core.specs.RuleViews.{pattern as elaborated, patterns_of}
use Rattle.isle_templates.specs.Occurrences.{AreAdded, CountsTimes, times_in, times_kept}
use Rattle.isle_templates.specs.Renumbered.{pattern_variables, patterns_variables}
use Rattle.isle_templates.specs.SameCount.{SameCount}
use Rattle.isle_templates.specs.Substituted.{substituted, expanded}
use Rattle.isle_templates.proofs.ExpansionSteps.{seen_more, times_there}
use Rattle.isle_templates.proofs.OccurrenceLaws.{times-append, standing_in, standing, substituted_times}
use Rattle.isle_templates.proofs.OccurrenceSums.{sum_over, by_times, sum_by_times, same_by_times, often_by_times}
use Rattle.isle_templates.proofs.SameCounts.{same_times, same_products}

-- ---- what is added

added_alike : (first second : ℕ → ℕ) (old new : List ℕ) → ((x : ℕ) → SameCount (first x) (second x)) → AreAdded first old new → AreAdded second old new
added_alike first second old new same are = record { added = λ x. let here = same x in let was = are.added x in omega (arith, here, was) }

added_then : (first second all : ℕ → ℕ) (old middle new : List ℕ) → ((x : ℕ) → SameCount (first x + second x) (all x)) → AreAdded first old middle → AreAdded second middle new → AreAdded all old new
added_then first second all old middle new same one other = record { added = λ x. let here = same x in let was = one.added x in let is = other.added x in omega (arith, here, was, is) }

-- a place of one parameter
one_place : (y x often : ℕ) → cond (eqb y x) often 0 ≡ often * times_in (y ∷ []) x
one_place y x often = pick (eqb y x)
  where
    pick : (b : Bool) → cond b often 0 ≡ often * cond b 1 0
    pick true = omega arith
    pick false = omega arith

-- one before others
place_before : (y x often : ℕ) (ys : List ℕ) → cond (eqb y x) often 0 + often * times_in ys x ≡ often * times_in (y ∷ ys) x
place_before y x often ys = pick (eqb y x)
  where
    pick : (b : Bool) → cond b often 0 + often * times_in ys x ≡ often * cond b (suc (times_in ys x)) (times_in ys x)
    pick true = omega arith
    pick false = omega arith

pub bind_added : (whole : List (Option Pattern)) (p : CodePattern) (ty : TypeId) (v : VarId) (inner q : CodePattern) (index often : ℕ) (old middle new : List ℕ) → p ≡ code_pattern.BindPattern ty v inner → q ≡ inner → index ≡ v.0 → AreAdded (λ x. cond (eqb index x) often 0) old middle
    → AreAdded (λ x. often * times_in (pattern_variables (expanded whole (elaborated q))) x) middle new → AreAdded (λ x. often * times_in (pattern_variables (expanded whole (elaborated p))) x) old new
bind_added whole p ty v inner q index often old middle new is same place =
    added_then (λ x. cond (eqb index x) often 0) (λ x. often * times_in (pattern_variables (expanded whole (elaborated q))) x) (λ x. often * times_in (pattern_variables (expanded whole (elaborated p))) x) old middle new
    (λ x.
    let seen : elaborated p ≡ pattern.BindPattern ty v (elaborated q) = ap elaborated is ∙ pattern-bind ty v inner ∙ ap (λ r. pattern.BindPattern ty v (elaborated r)) (sym same) in
    let whole_seen : often * times_in (pattern_variables (expanded whole (elaborated p))) x ≡ often * times_in (v.0 ∷ pattern_variables (expanded whole (elaborated q))) x = ap (λ r. often * times_in (pattern_variables (expanded whole r)) x) seen in
    let here : cond (eqb index x) often 0 ≡ cond (eqb v.0 x) often 0 = ap (λ y. cond (eqb y x) often 0) place in
    let both = place_before v.0 x often (pattern_variables (expanded whole (elaborated q))) in
    omega (arith, whole_seen, here, both))

-- ---- parts

variables-append : (ps : List Pattern) (p : Pattern) (x : ℕ) → times_in (patterns_variables (patterns_of (ps ++ p ∷ []))) x ≡ times_in (patterns_variables (patterns_of ps)) x + times_in (pattern_variables p) x
variables-append [] p x = let one = times-append (pattern_variables p) [] x in omega (arith, one)
variables-append (q ∷ ps) p x =
    let rest = variables-append ps p x in
    let first = times-append (pattern_variables q) (patterns_variables (patterns_of (ps ++ p ∷ []))) x in
    let second = times-append (pattern_variables q) (patterns_variables (patterns_of ps)) x in
    omega (arith, rest, first, second)

pub each_more : (often : ℕ) (g : Pattern → Pattern) (xs : List CodePattern) (i : ℕ) (p : CodePattern) (old middle new : List ℕ) → i < length xs → p ≡ get_or xs i p
    → AreAdded (λ x. often * times_in (patterns_variables (patterns_of (map g (map elaborated (take i xs))))) x) old middle → AreAdded (λ x. often * times_in (pattern_variables (g (elaborated p))) x) middle new
    → AreAdded (λ x. often * times_in (patterns_variables (patterns_of (map g (map elaborated (take (i + 1) xs))))) x) old new
each_more often g xs i p old middle new lt is =
    added_then (λ x. often * times_in (patterns_variables (patterns_of (map g (map elaborated (take i xs))))) x) (λ x. often * times_in (pattern_variables (g (elaborated p))) x) (λ x. often * times_in (patterns_variables (patterns_of (map g (map elaborated (take (i + 1) xs))))) x) old middle new
    (λ x.
    let more : times_in (patterns_variables (patterns_of (map g (map elaborated (take (i + 1) xs))))) x ≡ times_in (patterns_variables (patterns_of (map g (map elaborated (take i xs))))) x + times_in (pattern_variables (g (elaborated p))) x =
    ap (λ ps. times_in (patterns_variables (patterns_of ps)) x) (seen_more g xs i p lt is) ∙ variables-append (map g (map elaborated (take i xs))) (g (elaborated p)) x in
    let product = ap (λ n. often * n) more in
    omega (arith, product))

-- ---- what stands for the parameters of a template

-- so often each of the first ones
abbrev pub of_first : (often : ℕ) (args : List Pattern) (times : List ℕ) → ℕ → ℕ → ℕ
of_first often args times n x = by_times (standing_in args x) (λ i. often * times_kept times i) n

-- one more
pub opened_more : (often inside : ℕ) (args : List Pattern) (times : List ℕ) (n : ℕ) (ys : List ℕ) (old middle new : List ℕ) → SameCount inside (often * times_kept times n) → standing n (slice_get args n) ≡ ys
    → AreAdded (of_first often args times n) old middle → AreAdded (λ x. inside * times_in ys x) middle new → AreAdded (of_first often args times (n + 1)) old new
opened_more often inside args times n ys old middle new same is =
    added_then (of_first often args times n) (λ x. inside * times_in ys x) (of_first often args times (n + 1)) old middle new
    (λ x.
    let here : standing_in args x n ≡ times_in ys x = ap (λ zs. times_in zs x) is in
    let product : SameCount (inside * times_in ys x) (often * times_kept times n * standing_in args x n) = same_products inside (often * times_kept times n) (times_in ys x) (standing_in args x n) same (ap (λ m. min m 4097) (sym here)) in
    let next : of_first often args times (suc n) x ≡ of_first often args times (n + 1) x = ap (λ m. of_first often args times m x) {x = suc n} {y = n + 1} (omega arith) in
    omega (arith, product, next))

-- the factor that code makes
pub inside_same : (often times t inside : ℕ) → inside ≡ min (often * times) (2 ^ 64 - 1) → times ≡ t → SameCount inside (often * t)
inside_same often times t inside is same = let product : often * times ≡ often * t = ap (λ n. often * n) same in omega (arith, is, product)

-- a parameter that stands for itself
pub own_added : (n often : ℕ) (old new : List ℕ) → AreAdded (λ x. cond (eqb n x) often 0) old new → AreAdded (λ x. often * times_in (n ∷ []) x) old new
own_added n often old new = added_alike (λ x. cond (eqb n x) often 0) (λ x. often * times_in (n ∷ []) x) old new (λ x. ap (λ m. min m 4097) (one_place n x often))

-- what stands for a parameter that is given
pub given : (g : Pattern → Pattern) (xs : List CodePattern) (i : ℕ) (p : CodePattern) → i < length xs → p ≡ get_or xs i p → standing i (slice_get (map g (map elaborated xs)) i) ≡ pattern_variables (g (elaborated p))
given g xs i p lt is = ap (standing i) (slice_get-map g (map elaborated xs) i ∙ ap (λ o. option_map g o) (slice_get-map elaborated xs i ∙ ap (λ o. option_map elaborated o) (slice_get_read xs (length xs) i p refl lt is)))

-- and for one that is not
pub not_given : (g : Pattern → Pattern) (xs : List CodePattern) (i : ℕ) → length xs ≤ i → standing i (slice_get (map g (map elaborated xs)) i) ≡ i ∷ []
not_given g xs i le =
    let long : length (map g (map elaborated xs)) ≡ length xs = length-map (map elaborated xs) g ∙ length-map xs elaborated in
    ap (standing i) (slice_get_past (map g (map elaborated xs)) i (omega (arith, le, long)))

-- a parameter that isn't in the list stands nowhere
pub none_past : (t : Pattern) (times : List ℕ) → CountsTimes (pattern_variables t) times → (y : ℕ) → length times ≤ y → Contains (pattern_variables t) y → ⊥
none_past t times are y le c =
    let there = times_there (pattern_variables t) y c in
    let none : times_kept times y ≡ 0 = ap (λ o. unwrap_or o 0) (slice_get_past times y le) in
    let same = are.counts y in
    omega (arith, there, none, same)

pub opened_all : (often : ℕ) (args : List Pattern) (t : Pattern) (times : List ℕ) (n : ℕ) (old new : List ℕ) → CountsTimes (pattern_variables t) times → length times ≤ n → AreAdded (of_first often args times n) old new
    → AreAdded (λ x. often * times_in (pattern_variables (substituted args t)) x) old new
opened_all often args t times n old new are le = added_alike (of_first often args times n) (λ x. often * times_in (pattern_variables (substituted args t)) x) old new
    (λ x.
    let sum = substituted_times args x t in
    let by : sum_over (standing_in args x) (pattern_variables t) ≡ by_times (standing_in args x) (times_in (pattern_variables t)) n = sum_by_times (standing_in args x) (pattern_variables t) n (λ y far c. absurd (none_past t times are y (omega (arith, le, far)) c)) in
    let alike = same_times often (by_times (standing_in args x) (times_kept times) n) (by_times (standing_in args x) (times_in (pattern_variables t)) n) (same_by_times (standing_in args x) (times_kept times) (times_in (pattern_variables t)) n are.counts) in
    let each = often_by_times often (standing_in args x) (times_kept times) n in
    let whole = ap (λ m. often * m) (sum ∙ by) in
    omega (arith, alike, each, whole))
