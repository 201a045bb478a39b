-- Steps in which code counts nodes.
use Rattle.std.proofs.Common.{◌≡◌, ℕ, zero, suc, ◌+◌, ◌-◌, ◌*◌, ◌^◌, ◌<◌, ◌≤◌, min, List, [], ◌∷◌, ◌++◌, length, map, Option, Some, None, sym, ap, ◌∙◌, subst, arith}
use Rattle.std.proofs.lemmas.List.{map-append}
use Rattle.isle_core.specs.declared.rules.Pattern.{Pattern as CodePattern}
use Rattle.isle_core.specs.Pattern.{Pattern}
use Rattle.isle_core.specs.RuleViews.{pattern as elaborated, patterns_of}
use Rattle.isle_templates.specs.declared.counted.Counted.{Counted}
use Rattle.isle_templates.specs.declared.counted.Parts.{Parts}
use Rattle.isle_templates.specs.Arguments.{needed_one, weighed, AreArguments}
use Rattle.isle_templates.specs.Counted.{IsCounted, AreParts}
use Rattle.isle_templates.specs.NodeCount.{pattern_nodes, patterns_nodes}
use Rattle.isle_templates.proofs.SubstitutedNodes.{weighed-append}

-- one more pattern
nodes-append : (ps qs : List Pattern) → patterns_nodes (patterns_of (ps ++ qs)) ≡ patterns_nodes (patterns_of ps) + patterns_nodes (patterns_of qs)
nodes-append [] qs = omega arith
nodes-append (p ∷ ps) qs = let rest = nodes-append ps qs in omega arith

elaborated_more : (found more : List CodePattern) (ps : List Pattern) (p : Pattern) (q : CodePattern) → map elaborated found ≡ ps → elaborated q ≡ p → more ≡ found ++ q ∷ [] → map elaborated more ≡ ps ++ p ∷ []
elaborated_more found more ps p q before here is = ap (map elaborated) is ∙ map-append elaborated found (q ∷ []) ∙ ap (λ xs. xs ++ elaborated q ∷ []) before ∙ ap (λ x. ps ++ x ∷ []) here

-- ---- parts of a pattern

pub none_taken : (base : ℕ) (ps : List Pattern) (p : Pattern) (part : Option Counted) → part ≡ None → IsCounted p part → 4096 < base + patterns_nodes (patterns_of (ps ++ p ∷ []))
none_taken base ps p part is h =
    let large : 4096 < pattern_nodes p = subst (IsCounted p) is h in
    omega (arith, nodes-append ps (p ∷ []))

pub not_taken : (base : ℕ) (ps : List Pattern) (p : Pattern) (old : Parts) (part : Option Counted) (c : Counted) (sum : ℕ) → part ≡ Some c → AreParts base ps old → IsCounted p part → sum ≡ min (old.nodes + c.nodes) (2 ^ 64 - 1) → 4096 < sum
    → 4096 < base + patterns_nodes (patterns_of (ps ++ p ∷ []))
not_taken base ps p old part c sum is are h sum_is large =
    let counted = subst (IsCounted p) is h in
    omega (arith, nodes-append ps (p ∷ []), counted.1, are.1)

pub taken : (base : ℕ) (ps : List Pattern) (p : Pattern) (old new : Parts) (part : Option Counted) (c : Counted) → part ≡ Some c → AreParts base ps old → IsCounted p part → new.nodes ≡ min (old.nodes + c.nodes) (2 ^ 64 - 1)
    → new.patterns.items ≡ old.patterns.items ++ c.pattern ∷ [] → AreParts base (ps ++ p ∷ []) new
taken base ps p old new part c is are h sum_is items =
    let counted = subst (IsCounted p) is h in
    (elaborated_more old.patterns.items new.patterns.items ps p c.pattern are.0 counted.0 items, omega (arith, nodes-append ps (p ∷ []), counted.1, are.1, new.small))

-- ---- what stands for parameters

weighed_more : (of : ℕ → ℕ) (ps : List Pattern) (p : Pattern) (times : ℕ) → times ≡ of (length ps) → weighed of 0 (ps ++ p ∷ []) ≡ weighed of 0 ps + times * (pattern_nodes p - 1)
weighed_more of ps p times is = weighed-append of 0 ps (p ∷ []) ∙ ap (λ n. weighed of 0 ps + (n * (pattern_nodes p - 1) + 0)) (ap of {x = 0 + length ps} {y = length ps} (omega arith) ∙ sym is) ∙ omega arith

-- a pattern with too many nodes stands somewhere
large_needed : (times : ℕ) (p : Pattern) → 4096 < pattern_nodes (needed_one times p) → 4096 ≤ times * (pattern_nodes (needed_one times p) - 1)
large_needed zero p h = absurd (omega arith)
large_needed (suc n) p h = omega arith

pub none_accepted : (base : ℕ) (of : ℕ → ℕ) (ps : List Pattern) (p : Pattern) (times : ℕ) (part : Option Counted) → 0 < base → times ≡ of (length ps) → part ≡ None → IsCounted (needed_one times p) part → 4096 < base + weighed of 0 (ps ++ needed_one times p ∷ [])
none_accepted base of ps p times part some is none h =
    let large : 4096 < pattern_nodes (needed_one times p) = subst (IsCounted (needed_one times p)) none h in
    omega (arith, weighed_more of ps (needed_one times p) times is, large_needed times p large)

pub not_accepted : (base : ℕ) (of : ℕ → ℕ) (ps : List Pattern) (p : Pattern) (times : ℕ) (old : Parts) (part : Option Counted) (c : Counted) (more sum : ℕ) → times ≡ of (length ps) → part ≡ Some c → AreArguments base of ps old → IsCounted p part
    → more ≡ min (times * (c.nodes - 1)) (2 ^ 64 - 1) → sum ≡ min (old.nodes + more) (2 ^ 64 - 1) → 4096 < sum → 4096 < base + weighed of 0 (ps ++ p ∷ [])
not_accepted base of ps p times old part c more sum is there are h more_is sum_is large =
    let counted = subst (IsCounted p) there h in
    let product : times * (c.nodes - 1) ≡ times * (pattern_nodes p - 1) = ap (λ n. times * (n - 1)) counted.1 in
    omega (arith, weighed_more of ps p times is, product, are.1)

pub accepted : (base : ℕ) (of : ℕ → ℕ) (ps : List Pattern) (p : Pattern) (times : ℕ) (old new : Parts) (part : Option Counted) (c : Counted) (more : ℕ) → times ≡ of (length ps) → part ≡ Some c → AreArguments base of ps old → IsCounted p part
    → more ≡ min (times * (c.nodes - 1)) (2 ^ 64 - 1) → new.nodes ≡ min (old.nodes + more) (2 ^ 64 - 1) → new.patterns.items ≡ old.patterns.items ++ c.pattern ∷ [] → AreArguments base of (ps ++ p ∷ []) new
accepted base of ps p times old new part c more is there are h more_is sum_is items =
    let counted = subst (IsCounted p) there h in
    let product : times * (c.nodes - 1) ≡ times * (pattern_nodes p - 1) = ap (λ n. times * (n - 1)) counted.1 in
    (elaborated_more old.patterns.items new.patterns.items ps p c.pattern are.0 counted.0 items, omega (arith, weighed_more of ps p times is, product, are.1, new.small))
