-- Steps in which code puts templates in place of terms.
use Rattle.std.proofs.Common.{◌≡◌, ⊎_elim, ℕ, zero, suc, ◌+◌, ◌<◌, ◌≤◌, Bool, true, false, cond, eqb, List, [], ◌∷◌, ◌++◌, length, map, take, get_or, Option, Some, refl, sym, ap, ◌∙◌, subst, arith}
use Rattle.std.specs.Prelude.{Contains, slice_get}
use Rattle.std.proofs.lemmas.Bool.{eq-eqb}
use Rattle.std.proofs.lemmas.List.{map_more, map-append, length-map, length-take-le, take_all}
use Rattle.isle_base.specs.declared.ids.TypeId.{TypeId}
use Rattle.isle_base.specs.declared.ids.TermId.{TermId}
use Rattle.isle_core.proofs.Contained.{contained_cases, none_contained}
use Rattle.isle_core.specs.declared.rules.Pattern.{Pattern as CodePattern}
use Rattle.isle_core.specs.declared.rules.Pattern.TheVariants as code_pattern
use Rattle.isle_core.specs.Pattern as pattern
use Rattle.isle_core.specs.Pattern.{Pattern, Patterns, NoPattern, APattern}
use Rattle.isle_core.specs.RuleViews.{pattern as elaborated, patterns_of}
use Rattle.isle_templates.specs.declared.counted.Parts.{Parts}
use Rattle.isle_core.proofs.SeesRules.{pattern-term, pattern-and}
use Rattle.isle_templates.specs.declared.template.Kept.{Kept}
use Rattle.isle_templates.specs.Arguments.{needed_one, needed, weighed, AreArguments}
use Rattle.isle_templates.specs.Counted.{AreParts}
use Rattle.isle_templates.specs.NodeCount.{pattern_nodes, patterns_nodes}
use Rattle.isle_templates.specs.Occurrences.{times_in, times_kept}
use Rattle.isle_templates.specs.Renumbered.{pattern_variables}
use Rattle.isle_templates.specs.Standing.{IsKept}
use Rattle.isle_templates.specs.Substituted.{substituted, expanded, all_expanded, template_of, opened}
use Rattle.isle_templates.proofs.OccurrenceLaws.{few_times}
use Rattle.isle_templates.proofs.SubstitutedNodes.{one_node, substituted_nodes, substituted_alike, extras_weighed}

-- parts one by one
pub parts_each : (templates : List (Option Pattern)) (ps : List Pattern) → all_expanded templates (patterns_of ps) ≡ map (expanded templates) ps
parts_each templates [] = refl
parts_each templates (p ∷ ps) = ap (λ qs. expanded templates p ∷ qs) (parts_each templates ps)

-- ---- the parts of a pattern

-- one more
pub seen_more : (g : Pattern → Pattern) (xs : List CodePattern) (i : ℕ) (x : CodePattern) → i < length xs → x ≡ get_or xs i x → map g (map elaborated (take (i + 1) xs)) ≡ map g (map elaborated (take i xs)) ++ g (elaborated x) ∷ []
seen_more g xs i x lt is =
    ap (map g) (map_more elaborated xs i x lt ∙ ap (λ y. map elaborated (take i xs) ++ elaborated y ∷ []) (sym is)) ∙ map-append g (map elaborated (take i xs)) (elaborated x ∷ [])

pub parts_more : (base : ℕ) (g : Pattern → Pattern) (xs : List CodePattern) (i : ℕ) (x : CodePattern) (parts : Parts) → i < length xs → x ≡ get_or xs i x → AreParts base (map g (map elaborated (take i xs)) ++ g (elaborated x) ∷ []) parts
    → AreParts base (map g (map elaborated (take (i + 1) xs))) parts
parts_more base g xs i x parts lt is h = subst (λ ps. AreParts base ps parts) (sym (seen_more g xs i x lt is)) h

-- the first ones have no more nodes than all
first_nodes : (g : Pattern → Pattern) (n : ℕ) (xs : List CodePattern) → patterns_nodes (patterns_of (map g (map elaborated (take n xs)))) ≤ patterns_nodes (patterns_of (map g (map elaborated xs)))
first_nodes g zero xs = omega arith
first_nodes g (suc n) [] = omega arith
first_nodes g (suc n) (x ∷ xs) = let rest = first_nodes g n xs in omega arith

pub too_many : (base : ℕ) (g : Pattern → Pattern) (xs : List CodePattern) (i : ℕ) (x : CodePattern) → i < length xs → x ≡ get_or xs i x → 4096 < base + patterns_nodes (patterns_of (map g (map elaborated (take i xs)) ++ g (elaborated x) ∷ []))
    → 4096 < base + patterns_nodes (patterns_of (map g (map elaborated xs)))
too_many base g xs i x lt is h =
    let more : patterns_nodes (patterns_of (map g (map elaborated (take (i + 1) xs)))) ≡ patterns_nodes (patterns_of (map g (map elaborated (take i xs)) ++ g (elaborated x) ∷ [])) = ap (λ ps. patterns_nodes (patterns_of ps)) (seen_more g xs i x lt is) in
    omega (arith, first_nodes g (i + 1) xs)

-- ---- the arguments of a template

needed-append : (times : ℕ → ℕ) (k : ℕ) (ps : List Pattern) (p : Pattern) → needed times k (ps ++ p ∷ []) ≡ needed times k ps ++ needed_one (times (k + length ps)) p ∷ []
needed-append times k [] p = ap (λ n. needed_one (times n) p ∷ []) {x = k} {y = k + 0} (omega arith)
needed-append times k (q ∷ ps) p =
    ap (λ qs. needed_one (times k) q ∷ qs) (needed-append times (suc k) ps p)
    ∙ ap (λ n. needed_one (times k) q ∷ needed times (suc k) ps ++ needed_one (times n) p ∷ []) {x = suc k + length ps} {y = k + suc (length ps)} (omega arith)

length-needed : (times : ℕ → ℕ) (k : ℕ) (ps : List Pattern) → length (needed times k ps) ≡ length ps
length-needed times k [] = refl
length-needed times k (p ∷ ps) = ap suc (length-needed times (suc k) ps)

count_so_far : (g : Pattern → Pattern) (xs : List CodePattern) (i : ℕ) → i < length xs → length (map g (map elaborated (take i xs))) ≡ i
count_so_far g xs i lt = length-map (map elaborated (take i xs)) g ∙ length-map (take i xs) elaborated ∙ length-take-le i xs (omega arith)

-- as many as there are so far
pub place_is : (times : ℕ → ℕ) (g : Pattern → Pattern) (xs : List CodePattern) (i : ℕ) → i < length xs → i ≡ length (needed times 0 (map g (map elaborated (take i xs))))
place_is times g xs i lt = sym (length-needed times 0 (map g (map elaborated (take i xs))) ∙ count_so_far g xs i lt)

needed_more : (times : ℕ → ℕ) (g : Pattern → Pattern) (xs : List CodePattern) (i : ℕ) (x : CodePattern) → i < length xs → x ≡ get_or xs i x
    → needed times 0 (map g (map elaborated (take (i + 1) xs))) ≡ needed times 0 (map g (map elaborated (take i xs))) ++ needed_one (times i) (g (elaborated x)) ∷ []
needed_more times g xs i x lt is =
    ap (needed times 0) (seen_more g xs i x lt is) ∙ needed-append times 0 (map g (map elaborated (take i xs))) (g (elaborated x))
    ∙ ap (λ n. needed times 0 (map g (map elaborated (take i xs))) ++ needed_one (times n) (g (elaborated x)) ∷ []) {x = 0 + length (map g (map elaborated (take i xs)))} {y = i} (omega (arith, count_so_far g xs i lt))

pub arguments_more : (base : ℕ) (times : ℕ → ℕ) (g : Pattern → Pattern) (xs : List CodePattern) (i : ℕ) (x : CodePattern) (t : ℕ) (parts : Parts) → i < length xs → x ≡ get_or xs i x → t ≡ times i
    → AreArguments base times (needed times 0 (map g (map elaborated (take i xs))) ++ needed_one t (g (elaborated x)) ∷ []) parts → AreArguments base times (needed times 0 (map g (map elaborated (take (i + 1) xs)))) parts
arguments_more base times g xs i x t parts lt is times_is h =
    subst (λ ps. AreArguments base times ps parts) (sym (needed_more times g xs i x lt is)) (subst (λ n. AreArguments base times (needed times 0 (map g (map elaborated (take i xs))) ++ needed_one n (g (elaborated x)) ∷ []) parts) times_is h)

-- the first ones have no more nodes than all
first_weighed : (times : ℕ → ℕ) (g : Pattern → Pattern) (k n : ℕ) (xs : List CodePattern) → weighed times k (needed times k (map g (map elaborated (take n xs)))) ≤ weighed times k (needed times k (map g (map elaborated xs)))
first_weighed times g k zero xs = omega arith
first_weighed times g k (suc n) [] = omega arith
first_weighed times g k (suc n) (x ∷ xs) = let rest = first_weighed times g (suc k) n xs in omega arith

-- what stands at parameters that occur is what is needed
needed_at : (times : ℕ → ℕ) (k : ℕ) (ps : List Pattern) (x : ℕ) → 0 < times (k + x) → slice_get (needed times k ps) x ≡ slice_get ps x
needed_at times k [] x some = refl
needed_at times k (p ∷ ps) zero some = ap Some (one (times k) (subst (λ n. 0 < times n) {x = k + 0} {y = k} (omega arith) some))
  where
    one : (n : ℕ) → 0 < n → needed_one n p ≡ p
    one zero lt = absurd (omega arith)
    one (suc n) lt = refl
needed_at times k (p ∷ ps) (suc x) some = needed_at times (suc k) ps x (subst (λ n. 0 < times n) (omega arith) some)

pub times_there : (xs : List ℕ) (x : ℕ) → Contains xs x → 0 < times_in xs x
times_there [] x c = absurd (none_contained x c)
times_there (y ∷ ys) x c = pick (eqb y x) refl (λ d. times_there ys x d)
  where
    pick : (here : Bool) → eqb y x ≡ here → (Contains ys x → 0 < times_in ys x) → 0 < cond here (suc (times_in ys x)) (times_in ys x)
    pick true same later = omega arith
    pick false other later = ⊎_elim (λ (e : y ≡ x). let same = eq-eqb y x e in absurd cc) (λ d. later d) (contained_cases y ys x c)

same_opened : (template : Pattern) (args : List Pattern) → substituted (needed (times_in (pattern_variables template)) 0 args) template ≡ substituted args template
same_opened template args = substituted_alike (needed (times_in (pattern_variables template)) 0 args) args template
    (λ x c. needed_at (times_in (pattern_variables template)) 0 args x (subst (λ n. 0 < times_in (pattern_variables template) n) {x = x} {y = 0 + x} (omega arith) (times_there (pattern_variables template) x c)))

opened_nodes : (template : Pattern) (args : List Pattern) → pattern_nodes (substituted args template) ≡ pattern_nodes (substituted [] template) + weighed (times_in (pattern_variables template)) 0 (needed (times_in (pattern_variables template)) 0 args)
opened_nodes template args =
    let needs = needed (times_in (pattern_variables template)) 0 args in
    ap pattern_nodes (sym (same_opened template args)) ∙ substituted_nodes needs template ∙ ap (λ n. pattern_nodes (substituted [] template) + n) (extras_weighed needs (pattern_variables template))

-- a template has a node
pub some_base : (template : Pattern) (base : ℕ) → base ≡ pattern_nodes (substituted [] template) → 0 < base
some_base template base is = let one = one_node (substituted [] template) in omega arith

-- the arguments of a template are taken in
pub too_many_opened : (template : Pattern) (base : ℕ) (params : List ℕ) (g : Pattern → Pattern) (xs : List CodePattern) (i : ℕ) (x : CodePattern) (t : ℕ) → base ≡ pattern_nodes (substituted [] template) → params ≡ pattern_variables template → i < length xs → x ≡ get_or xs i x → t ≡ times_in params i
    → 4096 < base + weighed (times_in params) 0 (needed (times_in params) 0 (map g (map elaborated (take i xs))) ++ needed_one t (g (elaborated x)) ∷ []) → 4096 < pattern_nodes (substituted (map g (map elaborated xs)) template)
too_many_opened template base params g xs i x t base_is params_is lt is times_is h =
    let times = times_in params in
    let more : needed times 0 (map g (map elaborated (take (i + 1) xs))) ≡ needed times 0 (map g (map elaborated (take i xs))) ++ needed_one t (g (elaborated x)) ∷ [] =
    needed_more times g xs i x lt is ∙ ap (λ n. needed times 0 (map g (map elaborated (take i xs))) ++ needed_one n (g (elaborated x)) ∷ []) (sym times_is) in
    let large : 4096 < base + weighed times 0 (needed times 0 (map g (map elaborated (take (i + 1) xs)))) = subst (λ ps. 4096 < base + weighed times 0 ps) (sym more) h in
    let all : pattern_nodes (substituted (map g (map elaborated xs)) template) ≡ pattern_nodes (substituted [] template) + weighed times 0 (needed times 0 (map g (map elaborated xs))) =
    subst (λ ps. pattern_nodes (substituted (map g (map elaborated xs)) template) ≡ pattern_nodes (substituted [] template) + weighed (times_in ps) 0 (needed (times_in ps) 0 (map g (map elaborated xs)))) (sym params_is) (opened_nodes template (map g (map elaborated xs))) in
    omega (arith, first_weighed times g 0 (i + 1) xs, base_is, large, all)

pub all_opened : (template : Pattern) (base : ℕ) (params : List ℕ) (g : Pattern → Pattern) (xs : List CodePattern) (i : ℕ) (parts : Parts) (made : CodePattern) → base ≡ pattern_nodes (substituted [] template) → params ≡ pattern_variables template → length xs ≤ i
    → AreArguments base (times_in params) (needed (times_in params) 0 (map g (map elaborated (take i xs)))) parts → elaborated made ≡ substituted (map elaborated parts.patterns.items) template
    → (elaborated made ≡ substituted (map g (map elaborated xs)) template) × (parts.nodes ≡ pattern_nodes (substituted (map g (map elaborated xs)) template))
all_opened template base params g xs i parts made base_is params_is le h made_is =
    let all = map g (map elaborated xs) in
    let are : AreArguments base (times_in (pattern_variables template)) (needed (times_in (pattern_variables template)) 0 all) parts =
    subst (λ ps. AreArguments base (times_in ps) (needed (times_in ps) 0 all) parts) params_is (subst (λ ys. AreArguments base (times_in params) (needed (times_in params) 0 (map g (map elaborated ys))) parts) (take_all i xs le) h) in (
      made_is ∙ ap (λ ps. substituted ps template) are.0 ∙ same_opened template all,
      are.1 ∙ ap (λ n. n + weighed (times_in (pattern_variables template)) 0 (needed (times_in (pattern_variables template)) 0 all)) base_is ∙ sym (opened_nodes template all),
    )

-- ---- what stands for a term

-- so that it is seen as its parts are
pub term_seen : (whole : List (Option Pattern)) (p : CodePattern) (ty : TypeId) (term : TermId) (parts xs : List CodePattern) → p ≡ code_pattern.Term ty term parts → xs ≡ parts → opened (template_of whole term) ty term (map (expanded whole) (map elaborated xs)) ≡ expanded whole (elaborated p)
term_seen whole p ty term parts xs is same =
    ap (opened (template_of whole term) ty term) (ap (λ ys. map (expanded whole) (map elaborated ys)) same ∙ sym (parts_each whole (map elaborated parts))) ∙ sym (ap (λ q. expanded whole q) (ap elaborated is ∙ pattern-term ty term parts))

pub and_seen : (whole : List (Option Pattern)) (p : CodePattern) (ty : TypeId) (parts xs : List CodePattern) → p ≡ code_pattern.And ty parts → xs ≡ parts → pattern.And ty (patterns_of (map (expanded whole) (map elaborated xs))) ≡ expanded whole (elaborated p)
and_seen whole p ty parts xs is same =
    ap (λ qs. pattern.And ty (patterns_of qs)) (ap (λ ys. map (expanded whole) (map elaborated ys)) same ∙ sym (parts_each whole (map elaborated parts))) ∙ sym (ap (λ q. expanded whole q) (ap elaborated is ∙ pattern-and ty parts))

-- a template that is too large
pub large_opened : (inner : List (Option Pattern)) (t : Pattern) (k : Kept) (args : List Pattern) → IsKept inner t k → 4096 < k.nodes → 4096 < pattern_nodes (substituted args t)
large_opened inner t k args kept lt = let sum = substituted_nodes args t in let is = kept.nodes in omega arith

-- the nodes of one that is not are exact
pub few_kept : (inner : List (Option Pattern)) (t : Pattern) (k : Kept) → IsKept inner t k → k.nodes ≤ 4096 → k.nodes ≡ pattern_nodes (substituted [] t)
few_kept inner t k kept le = let is = kept.nodes in omega arith

-- so is how often its parameters stand in it
pub few_times_kept : (inner : List (Option Pattern)) (t : Pattern) (k : Kept) → IsKept inner t k → k.nodes ≤ 4096 → (x : ℕ) → times_kept k.times.items x ≡ times_in (pattern_variables t) x
few_times_kept inner t k kept le x = let is = kept.nodes in let same = kept.times.counts x in let few = few_times x t in omega (arith, le, is, same, few)
