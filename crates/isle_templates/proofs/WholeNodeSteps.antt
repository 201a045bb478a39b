-- Steps in which code counts the nodes of templates with those that they use put in.
use Rattle.std.proofs.Common.{◌≡◌, ℕ, suc, ◌+◌, ◌-◌, ◌*◌, ◌^◌, ◌<◌, ◌≤◌, min, List, [], ◌∷◌, ◌++◌, length, map, drop, take, get_or, Option, Some, refl, ap, ◌∙◌, arith}
use Rattle.std.specs.Prelude.{slice_get, option_map}
use Rattle.std.proofs.lemmas.List.{length-map, take_all}
use Rattle.std.proofs.lemmas.Option.{slice_get-map, slice_get_read, slice_get_past}
use Rattle.isle_core.specs.declared.rules.Pattern.{Pattern as CodePattern}
use Rattle.isle_core.specs.Pattern.{Pattern}
use Rattle.isle_core.specs.RuleViews.{pattern as elaborated, patterns_of}
use Rattle.isle_templates.specs.declared.template.Kept.{Kept}
use Rattle.isle_templates.specs.NodeCount.{pattern_nodes, patterns_nodes}
use Rattle.isle_templates.specs.Occurrences.{times_in, times_kept}
use Rattle.isle_templates.specs.Renumbered.{pattern_variables}
use Rattle.isle_templates.specs.SameCount.{SameCount}
use Rattle.isle_templates.specs.Standing.{IsKept}
use Rattle.isle_templates.specs.Substituted.{substituted, all_substituted}
use Rattle.isle_templates.proofs.ExpansionSteps.{seen_more}
use Rattle.isle_templates.proofs.OccurrenceSums.{sum_over, by_times, sum_by_times, same_by_times}
use Rattle.isle_templates.proofs.PutInLaws.{none_left, put_inside}
use Rattle.isle_templates.proofs.SameCounts.{same_extras}
use Rattle.isle_templates.proofs.SubstitutedNodes.{one_node, extra, extras, substituted_nodes}

-- ---- parts

base-append : (ps : List Pattern) (p : Pattern) → patterns_nodes (all_substituted [] (patterns_of (ps ++ p ∷ []))) ≡ patterns_nodes (all_substituted [] (patterns_of ps)) + pattern_nodes (substituted [] p)
base-append [] p = omega arith
base-append (q ∷ ps) p = let rest = base-append ps p in omega arith

-- the nodes of parts
abbrev pub base_of : List Pattern → ℕ
base_of ps = patterns_nodes (all_substituted [] (patterns_of ps))

pub each_more : (g : Pattern → Pattern) (xs : List CodePattern) (i : ℕ) (p : CodePattern) (nodes part sum : ℕ) → i < length xs → p ≡ get_or xs i p → SameCount nodes (base_of (map g (map elaborated (take i xs)))) → SameCount part (pattern_nodes (substituted [] (g (elaborated p))))
    → sum ≡ min (nodes + part) (2 ^ 64 - 1) → SameCount sum (base_of (map g (map elaborated (take (i + 1) xs))))
each_more g xs i p nodes part sum lt is before here sum_is =
    let more : base_of (map g (map elaborated (take (i + 1) xs))) ≡ base_of (map g (map elaborated (take i xs))) + pattern_nodes (substituted [] (g (elaborated p))) = ap base_of (seen_more g xs i p lt is) ∙ base-append (map g (map elaborated (take i xs))) (g (elaborated p)) in
    omega (arith, before, here, sum_is, more)

pub each_all : (g : Pattern → Pattern) (xs : List CodePattern) (i nodes : ℕ) → length xs ≤ i → SameCount nodes (base_of (map g (map elaborated (take i xs)))) → SameCount nodes (base_of (map g (map elaborated xs)))
each_all g xs i nodes le h = h ∙ ap (λ ys. min (base_of (map g (map elaborated ys))) 4097) (take_all i xs le)

-- a node more
pub and_base : (ps : List Pattern) (nodes sum : ℕ) → SameCount nodes (base_of ps) → sum ≡ min (nodes + 1) (2 ^ 64 - 1) → SameCount sum (suc (base_of ps))
and_base ps nodes sum same is = omega (arith, same, is)

-- ---- a template with patterns in place of its parameters

-- how many more nodes stand for a parameter than its own
abbrev pub extra_in : List Pattern → ℕ → ℕ
extra_in args y = extra (slice_get (map (substituted []) args) y)

extras_are : (args : List Pattern) (ys : List ℕ) → extras (map (substituted []) args) ys ≡ sum_over (extra_in args) ys
extras_are args [] = refl
extras_are args (y ∷ ys) = ap (λ n. extra_in args y + n) (extras_are args ys)

and_nothing : (ps : List Pattern) → ps ++ [] ≡ ps
and_nothing [] = refl
and_nothing (p ∷ ps) = ap (λ qs. p ∷ qs) (and_nothing ps)

nothing_after : (ps : List Pattern) → ps ++ drop (length ps) [] ≡ ps
nothing_after ps = ap (λ rest. ps ++ rest) (none_left (length ps)) ∙ and_nothing ps

opened_again : (args : List Pattern) (t : Pattern) → substituted [] (substituted args t) ≡ substituted (map (substituted []) args) t
opened_again args t = put_inside (Some t) (record { 0 = 0 }) (record { 0 = 0 }) args [] ∙ ap (λ ps. substituted ps t) (nothing_after (map (substituted []) args))

none_past : (args : List Pattern) (y : ℕ) → length args ≤ y → extra_in args y ≡ 0
none_past args y le = ap extra (slice_get_past (map (substituted []) args) y (let long = length-map args (substituted []) in omega (arith, le, long)))

opened_base : (args : List Pattern) (t : Pattern) (n : ℕ) → length args ≤ n → pattern_nodes (substituted [] (substituted args t)) ≡ pattern_nodes (substituted [] t) + by_times (extra_in args) (times_in (pattern_variables t)) n
opened_base args t n le =
    ap pattern_nodes (opened_again args t) ∙ substituted_nodes (map (substituted []) args) t
    ∙ ap (λ m. pattern_nodes (substituted [] t) + m) (extras_are args (pattern_variables t) ∙ sum_by_times (extra_in args) (pattern_variables t) n (λ y far c. none_past args y (omega (arith, le, far))))

-- what stands for a parameter that is given
given : (g : Pattern → Pattern) (xs : List CodePattern) (i : ℕ) (p : CodePattern) → i < length xs → p ≡ get_or xs i p → extra_in (map g (map elaborated xs)) i ≡ pattern_nodes (substituted [] (g (elaborated p))) - 1
given g xs i p lt is =
    ap extra (slice_get-map (substituted []) (map g (map elaborated xs)) i ∙ ap (option_map (substituted [])) (slice_get-map g (map elaborated xs) i ∙ ap (option_map g) (slice_get-map elaborated xs i ∙ ap (option_map elaborated) (slice_get_read xs (length xs) i p refl lt is))))

pub opened_more : (g : Pattern → Pattern) (xs : List CodePattern) (i : ℕ) (p : CodePattern) (inner : List (Option Pattern)) (t : Pattern) (k : Kept) (nodes part less more sum : ℕ) → IsKept inner t k → i < length xs → p ≡ get_or xs i p
    → SameCount nodes (k.nodes + by_times (extra_in (map g (map elaborated xs))) (times_kept k.times.items) i) → SameCount part (pattern_nodes (substituted [] (g (elaborated p)))) → less ≡ part - 1 → more ≡ min (times_kept k.times.items i * less) (2 ^ 64 - 1)
    → sum ≡ min (nodes + more) (2 ^ 64 - 1) → SameCount sum (k.nodes + by_times (extra_in (map g (map elaborated xs))) (times_kept k.times.items) (i + 1))
opened_more g xs i p inner t k nodes part less more sum kept lt is before here less_is more_is sum_is =
    let some = one_node (substituted [] t) in
    let base = kept.nodes in
    let one = given g xs i p lt is in
    let times = times_kept k.times.items i in
    let product : times * extra_in (map g (map elaborated xs)) i ≡ times * (pattern_nodes (substituted [] (g (elaborated p))) - 1) = ap (λ m. times * m) one in
    let made : more ≡ min (times * (part - 1)) (2 ^ 64 - 1) = more_is ∙ ap (λ m. min (times * m) (2 ^ 64 - 1)) less_is in
    let all = same_extras nodes (k.nodes + by_times (extra_in (map g (map elaborated xs))) (times_kept k.times.items) i) times part (pattern_nodes (substituted [] (g (elaborated p)))) more sum before (omega (arith, some, base)) here made sum_is in
    let next : by_times (extra_in (map g (map elaborated xs))) (times_kept k.times.items) (suc i) ≡ by_times (extra_in (map g (map elaborated xs))) (times_kept k.times.items) (i + 1) = ap (by_times (extra_in (map g (map elaborated xs))) (times_kept k.times.items)) {x = suc i} {y = i + 1} (omega arith) in
    omega (arith, all, product, next)

pub opened_all : (g : Pattern → Pattern) (xs : List CodePattern) (i : ℕ) (inner : List (Option Pattern)) (t : Pattern) (k : Kept) (nodes : ℕ) → IsKept inner t k → length xs ≤ i → SameCount nodes (k.nodes + by_times (extra_in (map g (map elaborated xs))) (times_kept k.times.items) i)
    → SameCount nodes (pattern_nodes (substituted [] (substituted (map g (map elaborated xs)) t)))
opened_all g xs i inner t k nodes kept le h =
    let long : length (map g (map elaborated xs)) ≡ length xs = length-map (map elaborated xs) g ∙ length-map xs elaborated in
    let base = kept.nodes in
    let alike = same_by_times (extra_in (map g (map elaborated xs))) (times_kept k.times.items) (times_in (pattern_variables t)) i kept.times.counts in
    let whole = opened_base (map g (map elaborated xs)) t i (omega (arith, long, le)) in
    omega (arith, h, base, alike, whole)
