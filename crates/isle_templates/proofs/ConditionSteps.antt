-- Steps in which code puts templates in place of terms in conditions and rules.
use Rattle.std.proofs.Common.{◌≡◌, ℕ, ℤ, ◌+◌, ◌-◌, ◌^◌, ◌<◌, ◌≤◌, min, List, [], ◌∷◌, ◌++◌, map, Option, Some, None, refl, sym, ap, ◌∙◌, subst, arith}
use Rattle.std.proofs.lemmas.List.{map-append}
use Rattle.isle_core.specs.declared.rules.Expr.{Expr as CodeExpr}
use Rattle.isle_core.specs.declared.rules.IfLet.{IfLet as CodeIfLet}
use Rattle.isle_core.specs.Pattern.{Pattern}
use Rattle.isle_core.specs.Rule.{IfLet, Rule}
use Rattle.isle_core.specs.RuleViews.{pattern as elaborated_pattern, expr as elaborated_expr, iflet as elaborated, patterns_of}
use Rattle.isle_templates.specs.declared.counted.Conditions.{Conditions}
use Rattle.isle_templates.specs.declared.counted.Counted.{Counted}
use Rattle.isle_templates.specs.Counted.{IsCounted}
use Rattle.isle_templates.specs.CountedConditions.{AreConditions}
use Rattle.isle_templates.specs.Elaborated.{condition_expanded, rule_expanded}
use Rattle.isle_templates.specs.Substituted.{expanded}
use Rattle.isle_templates.specs.NodeCount.{pattern_nodes, patterns_nodes, expr_nodes, condition_nodes, rule_nodes, total}

-- one more condition
total-append : (cs ds : List IfLet) → total (map condition_nodes (cs ++ ds)) ≡ total (map condition_nodes cs) + total (map condition_nodes ds)
total-append [] ds = omega arith
total-append (c ∷ cs) ds = let rest = total-append cs ds in omega arith

-- a condition of these parts
abbrev condition : Pattern → CodeExpr → IfLet
condition p rhs = record { lhs = p; rhs = elaborated_expr rhs }

pub none_taken : (base : ℕ) (cs : List IfLet) (p : Pattern) (lhs : Option Counted) (rhs : CodeExpr) → lhs ≡ None → IsCounted p lhs → 4096 < base + total (map condition_nodes (cs ++ condition p rhs ∷ []))
none_taken base cs p lhs rhs is h =
    let large : 4096 < pattern_nodes p = subst (IsCounted p) is h in
    omega (arith, total-append cs (condition p rhs ∷ []))

pub not_taken : (base : ℕ) (cs : List IfLet) (p : Pattern) (old : Conditions) (lhs : Option Counted) (rhs : CodeExpr) (c : Counted) (of_rhs more sum : ℕ) → lhs ≡ Some c → AreConditions base cs old → IsCounted p lhs → of_rhs ≡ min (expr_nodes (elaborated_expr rhs)) (2 ^ 64 - 1)
    → more ≡ min (c.nodes + of_rhs) (2 ^ 64 - 1) → sum ≡ min (old.nodes + more) (2 ^ 64 - 1) → 4096 < sum → 4096 < base + total (map condition_nodes (cs ++ condition p rhs ∷ []))
not_taken base cs p old lhs rhs c of_rhs more sum is are h rhs_is more_is sum_is large =
    let counted = subst (IsCounted p) is h in
    omega (arith, total-append cs (condition p rhs ∷ []), counted.1, are.1)

pub taken : (base : ℕ) (cs : List IfLet) (p : Pattern) (old new : Conditions) (lhs : Option Counted) (rhs : CodeExpr) (c : Counted) (of_rhs more : ℕ) → lhs ≡ Some c → AreConditions base cs old → IsCounted p lhs → of_rhs ≡ min (expr_nodes (elaborated_expr rhs)) (2 ^ 64 - 1)
    → more ≡ min (c.nodes + of_rhs) (2 ^ 64 - 1) → new.nodes ≡ min (old.nodes + more) (2 ^ 64 - 1) → new.iflets.items ≡ old.iflets.items ++ record { lhs = c.pattern; rhs = rhs } ∷ [] → AreConditions base (cs ++ condition p rhs ∷ []) new
taken base cs p old new lhs rhs c of_rhs more is are h rhs_is more_is sum_is items =
    let counted = subst (IsCounted p) is h in (
      ap (map elaborated) items
          ∙ map-append elaborated old.iflets.items (record { lhs = c.pattern; rhs = rhs } ∷ [])
          ∙ ap (λ xs. xs ++ condition (elaborated_pattern c.pattern) rhs ∷ []) are.0
          ∙ ap (λ q. cs ++ condition q rhs ∷ []) counted.0,
      omega (arith, total-append cs (condition p rhs ∷ []), counted.1, are.1),
    )

-- ---- conditions in order

pub conditions_more : (g : IfLet → IfLet) (base : ℕ) (done : List CodeIfLet) (x : CodeIfLet) (conditions : Conditions) → AreConditions base (map g (map elaborated done) ++ g (elaborated x) ∷ []) conditions → AreConditions base (map g (map elaborated (done ++ x ∷ []))) conditions
conditions_more g base done x conditions h =
    subst (λ cs. AreConditions base cs conditions) (sym (ap (map g) (map-append elaborated done (x ∷ [])) ∙ map-append g (map elaborated done) (elaborated x ∷ []))) h

-- there are no fewer nodes with those after them
pub too_many : (g : IfLet → IfLet) (base : ℕ) (all done rest : List CodeIfLet) (x : CodeIfLet) → done ++ x ∷ rest ≡ all → 4096 < base + total (map condition_nodes (map g (map elaborated done) ++ g (elaborated x) ∷ [])) → 4096 < base + total (map condition_nodes (map g (map elaborated all)))
too_many g base all done rest x is h =
    let split : map g (map elaborated all) ≡ map g (map elaborated done) ++ (g (elaborated x) ∷ map g (map elaborated rest)) =
    sym (ap (λ xs. map g (map elaborated xs)) is) ∙ ap (map g) (map-append elaborated done (x ∷ rest)) ∙ map-append g (map elaborated done) (elaborated x ∷ map elaborated rest) in
    let whole : total (map condition_nodes (map g (map elaborated all))) ≡ total (map condition_nodes (map g (map elaborated done) ++ (g (elaborated x) ∷ map g (map elaborated rest)))) = ap (λ cs. total (map condition_nodes cs)) split in
    omega (arith, total-append (map g (map elaborated done)) (g (elaborated x) ∷ []), total-append (map g (map elaborated done)) (g (elaborated x) ∷ map g (map elaborated rest)))

-- ---- rules

patterns_total : (ps : List Pattern) → patterns_nodes (patterns_of ps) ≡ total (map pattern_nodes ps)
patterns_total [] = refl
patterns_total (p ∷ ps) = ap (λ n. pattern_nodes p + n) (patterns_total ps)

-- patterns that are too large
pub large_args : (templates : List (Option Pattern)) (r : Rule) (n : ℕ) → n ≡ min (expr_nodes r.rhs) (2 ^ 64 - 1) → 4096 < n + patterns_nodes (patterns_of (map (expanded templates) r.args)) → 4096 < rule_nodes (rule_expanded templates r)
large_args templates r n is large = omega (arith, patterns_total (map (expanded templates) r.args))

-- conditions that are too large after these patterns
pub large_conditions : (templates : List (Option Pattern)) (r : Rule) (n m : ℕ) → n ≡ min (expr_nodes r.rhs) (2 ^ 64 - 1) → m ≡ n + patterns_nodes (patterns_of (map (expanded templates) r.args)) → 4096 < m + total (map condition_nodes (map (condition_expanded templates) r.iflets))
    → 4096 < rule_nodes (rule_expanded templates r)
large_conditions templates r n m is sum large = omega (arith, patterns_total (map (expanded templates) r.args))

-- and few enough
pub few_nodes : (templates : List (Option Pattern)) (r : Rule) (n m k : ℕ) → n ≡ min (expr_nodes r.rhs) (2 ^ 64 - 1) → n ≤ 4096 → m ≡ n + patterns_nodes (patterns_of (map (expanded templates) r.args)) → k ≡ m + total (map condition_nodes (map (condition_expanded templates) r.iflets)) → k ≤ 4096
    → rule_nodes (rule_expanded templates r) ≤ 4096
few_nodes templates r n m k is small sum all few = omega (arith, patterns_total (map (expanded templates) r.args))

-- a rule with other patterns and conditions
abbrev changed : Rule → List Pattern → List IfLet → ℤ → Rule
changed r args iflets prio = record { id = r.id; root_term = r.root_term; args = args; iflets = iflets; rhs = r.rhs; prio = prio; pos = r.pos; name = r.name }

pub rule_made : (templates : List (Option Pattern)) (r : Rule) (args : List Pattern) (iflets : List IfLet) (prio : ℤ) → args ≡ map (expanded templates) r.args → iflets ≡ map (condition_expanded templates) r.iflets → prio ≡ r.prio → changed r args iflets prio ≡ rule_expanded templates r
rule_made templates r args iflets prio e f g = ap (λ ps. changed r ps iflets prio) e ∙ ap (λ cs. changed r (map (expanded templates) r.args) cs prio) f ∙ ap (changed r (map (expanded templates) r.args) (map (condition_expanded templates) r.iflets)) g
