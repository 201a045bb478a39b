-- Steps in which code puts templates into others.
use Rattle.std.proofs.Common.{◌≡◌, ℕ, zero, suc, ◌<◌, ◌≤◌, List, [], ◌∷◌, ◌++◌, Bool, true, false, length, map, drop, take, get_or, Option, refl, sym, ap, ◌∙◌, arith}
use Rattle.std.specs.Prelude.{Contains, slice_get, nat_le}
use Rattle.std.proofs.lemmas.Bool.{leb-true, leb-false}
use Rattle.std.proofs.lemmas.List.{length-map, drop-map}
use Rattle.isle_base.specs.declared.ids.TypeId.{TypeId}
use Rattle.isle_base.specs.declared.ids.TermId.{TermId}
use Rattle.isle_core.proofs.SeesRules.{pattern-term, pattern-and}
use Rattle.isle_core.specs.declared.rules.Pattern.{Pattern as CodePattern}
use Rattle.isle_core.specs.declared.rules.Pattern.TheVariants as code_pattern
use Rattle.isle_core.specs.Pattern as pattern
use Rattle.isle_core.specs.Pattern.{Pattern}
use Rattle.isle_core.specs.RuleViews.{pattern as elaborated, patterns_of}
use Rattle.isle_templates.specs.NodeCount.{pattern_nodes, patterns_nodes}
use Rattle.isle_templates.specs.Occurrences.{CountsTimes}
use Rattle.isle_templates.specs.PutIn.{put_in, with_rest}
use Rattle.isle_templates.specs.Renumbered.{pattern_variables}
use Rattle.isle_templates.specs.Substituted.{substituted, expanded, all_expanded, template_of}
use Rattle.isle_templates.proofs.OccurrenceSteps.{none_past}
use Rattle.isle_templates.proofs.PutInLaws.{put_inside}
use Rattle.isle_templates.proofs.SubstitutedNodes.{substituted_alike}
use Rattle.isle_templates.proofs.SubstitutionSteps.{parts_each}

-- ---- patterns after others

pub rest_begins : (parts args : List CodePattern) → map elaborated parts ++ map elaborated (drop (length parts) args) ≡ with_rest (map elaborated parts) (map elaborated args)
rest_begins parts args =
    ap (λ rest. map elaborated parts ++ rest) (sym (drop-map elaborated (length parts) args))
    ∙ ap (λ n. map elaborated parts ++ drop n (map elaborated args)) (sym (length-map parts elaborated))

-- a pattern that stands for a parameter hangs on those up to it
taken_alike : (args : List Pattern) (most x : ℕ) → x < most → slice_get (take most args) x ≡ slice_get args x
taken_alike args zero x lt = absurd (omega arith)
taken_alike [] (suc most) x lt = refl
taken_alike (q ∷ args) (suc most) zero lt = refl
taken_alike (q ∷ args) (suc most) (suc x) lt = taken_alike args most x (omega arith)

rest_alike : (parts args : List Pattern) (most x : ℕ) → x < most → slice_get (with_rest parts (take most args)) x ≡ slice_get (with_rest parts args) x
rest_alike [] args most x lt = taken_alike args most x lt
rest_alike (p ∷ parts) args zero x lt = absurd (omega arith)
rest_alike (p ∷ parts) args (suc most) zero lt = refl
rest_alike (p ∷ parts) [] (suc most) (suc x) lt = refl
rest_alike (p ∷ parts) (q ∷ args) (suc most) (suc x) lt = rest_alike parts args most x (omega arith)

-- those at parameters that stand in the template are enough
pub filled_enough : (t : Pattern) (times : List ℕ) (parts args : List Pattern) → CountsTimes (pattern_variables t) times → substituted (with_rest parts (take (length times) args)) t ≡ substituted (with_rest parts args) t
filled_enough t times parts args are = substituted_alike (with_rest parts (take (length times) args)) (with_rest parts args) t (λ x c. within x c (nat_le (suc x) (length times)) refl)
  where
    within : (x : ℕ) → Contains (pattern_variables t) x → (b : Bool) → nat_le (suc x) (length times) ≡ b → slice_get (with_rest parts (take (length times) args)) x ≡ slice_get (with_rest parts args) x
    within x c true e = rest_alike parts args (length times) x (leb-true (suc x) (length times) e)
    within x c false e = let past = leb-false (suc x) (length times) e in absurd (none_past t times are x (omega (arith, past)) c)

-- ---- parts

each_after : (args : List Pattern) (whole : List (Option Pattern)) (ps : List Pattern) → map (λ p. substituted args (expanded whole p)) ps ≡ map (substituted args) (all_expanded whole (patterns_of ps))
each_after args whole [] = refl
each_after args whole (p ∷ ps) = ap (λ qs. substituted args (expanded whole p) ∷ qs) (each_after args whole ps)

pub term_seen : (whole : List (Option Pattern)) (args : List Pattern) (p : CodePattern) (ty : TypeId) (term : TermId) (parts xs found : List CodePattern) → p ≡ code_pattern.Term ty term parts → xs ≡ parts → map elaborated found ≡ map (λ q. substituted args (expanded whole q)) (map elaborated xs)
    → put_in (template_of whole term) ty term (map elaborated found) args ≡ substituted args (expanded whole (elaborated p))
term_seen whole args p ty term parts xs found is same h =
    ap (λ ps. put_in (template_of whole term) ty term ps args) (h ∙ ap (λ ys. map (λ q. substituted args (expanded whole q)) (map elaborated ys)) same ∙ each_after args whole (map elaborated parts))
    ∙ sym (put_inside (template_of whole term) ty term (all_expanded whole (patterns_of (map elaborated parts))) args)
    ∙ sym (ap (λ q. substituted args (expanded whole q)) (ap elaborated is ∙ pattern-term ty term parts))

pub and_seen : (whole : List (Option Pattern)) (args : List Pattern) (p : CodePattern) (ty : TypeId) (parts xs found : List CodePattern) → p ≡ code_pattern.And ty parts → xs ≡ parts → map elaborated found ≡ map (λ q. substituted args (expanded whole q)) (map elaborated xs)
    → elaborated (code_pattern.And ty found) ≡ substituted args (expanded whole (elaborated p))
and_seen whole args p ty parts xs found is same h =
    pattern-and ty found
    ∙ ap (λ ps. pattern.And ty (patterns_of ps)) (h ∙ ap (λ ys. map (λ q. substituted args (expanded whole q)) (map elaborated ys)) same ∙ each_after args whole (map elaborated parts))
    ∙ ap (pattern.And ty) (sym (parts_each args (all_expanded whole (patterns_of (map elaborated parts)))))
    ∙ sym (ap (λ q. substituted args (expanded whole q)) (ap elaborated is ∙ pattern-and ty parts))

-- ---- that it ends

-- a pattern among others has no more nodes than they have
pub item_nodes : (xs : List CodePattern) (i : ℕ) (x : CodePattern) → i < length xs → x ≡ get_or xs i x → pattern_nodes (elaborated x) ≤ patterns_nodes (patterns_of (map elaborated xs))
item_nodes [] i x lt is = absurd (omega arith)
item_nodes (y ∷ xs) zero x lt is = let same = ap (λ q. pattern_nodes (elaborated q)) is in omega arith
item_nodes (y ∷ xs) (suc i) x lt is = let rest = item_nodes xs i x (omega arith) is in omega arith
