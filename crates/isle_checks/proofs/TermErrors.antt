-- The errors of terms, one after another.
use Rattle.std.proofs.Common.{◌≡◌, ℕ, ◌+◌, ◌<◌, ◌≤◌, List, [], ◌∷◌, ◌++◌, length, map, take, get_or, Bool, true, false, cond, Some, refl, sym, ap, ◌∙◌, subst, arith, append_assoc, append-nil}
use Rattle.std.specs.Prelude.{filter}
use Rattle.std.specs.List.{AllByRecursion}
use Rattle.std.proofs.lemmas.List.{map-append, take_more, take_all}
use Rattle.std.proofs.lemmas.List.Elements.{recursion_from_All}
use Rattle.isle_core.specs.declared.TermId.{TermId}
use Rattle.isle_core.specs.declared.errors.Error.{Error}
use Rattle.isle_core.specs.declared.rule_sets.RuleSet.{RuleSet}
use Rattle.isle_core.specs.Path.{paths_of}
use Rattle.isle_core.specs.StandsFor.{StandsFor}
use Rattle.isle_core.specs.BuiltRule.{IsBuiltRule}
use Rattle.isle_core.specs.Rule.{Environment, Rule, rules_of}
use Rattle.isle_rulesets.specs.Grouping.{AreRuleSets}
use Rattle.isle_checks.specs.CheckList.{RuleError, positions, is_multi, AreErrorsOfTerm, AreErrorsOfTerms, Tell, TellTerms, IsCheckList}
use Rattle.isle_checks.specs.Errors.{places_of, errors_below, Joined, JoinedOf}
use Rattle.isle_core.specs.Scope.{IsScopedRule}
use Rattle.isle_checks.specs.Built.{AreBuilt}
use Rattle.isle_checks.proofs.FlatTests.{IsReady}
use Rattle.isle_checks.proofs.ListChecks.{same_length, same_positions, are_errors}
use Rattle.isle_checks.proofs.MakerLaws.{of_all, at_contained}

-- ---- the rules of a term are built

filter_at : {X : Type 0} (P : X → Type 0) (x : X) (xs : List X) (t : Bool) → P x → AllByRecursion P xs → AllByRecursion P (cond t (x ∷ xs) xs)
filter_at P x xs true h k = (h, k)
filter_at P x xs false h k = k

pub all_filter : {X : Type 0} (P : X → Type 0) (test : X → Bool) (xs : List X) → AllByRecursion P xs → AllByRecursion P (filter test xs)
all_filter P test [] h = tt
all_filter P test (x ∷ xs) h = filter_at P x (filter test xs) (test x) h.0 (all_filter P test xs h.1)

-- ---- one term more

terms_push : (env : Environment) (ids : List TermId) (id : TermId) (es fs : List RuleError) → AreErrorsOfTerms env ids es → AreErrorsOfTerm env id fs → AreErrorsOfTerms env (ids ++ id ∷ []) (es ++ fs)
terms_push env [] id es fs h k = (fs, [], k, refl, ap (λ xs. xs ++ fs) h ∙ sym (append-nil fs))
terms_push env (x ∷ ids) id es fs h k = (h.0, h.1 ++ fs, h.2, terms_push env ids id h.1 fs h.3 k, ap (λ xs. xs ++ fs) h.4 ∙ append_assoc h.0 h.1 fs)

tell_more : (old new : List Error) (es fs : List RuleError) → Tell old es → Joined old new fs → Tell new (es ++ fs)
tell_more old new es fs h k = k ∙ ap (λ xs. xs ++ map Some fs) h ∙ sym (map-append Some es fs)

-- rules of built forms whose variables are bound are ready
all_ready : (env : Environment) (rules : List Rule) → AllByRecursion (IsBuiltRule env.terms) rules → AllByRecursion IsScopedRule rules → AllByRecursion (IsReady env) rules
all_ready env [] b s = tt
all_ready env (r ∷ rules) b s = (record { built = b.0; scoped = s.0 }, all_ready env rules b.1 s.1)

-- the errors of a term join
pub term_more : (env : Environment) (ids : List TermId) (id : TermId) (set : RuleSet) (old new : List Error) → AreBuilt env → StandsFor env set (rules_of env id) → JoinedOf (is_multi env id) set.rules old new → TellTerms env ids old → TellTerms env (ids ++ id ∷ []) new
term_more env ids id set old new built stands joined h =
    let rules = rules_of env id in
    let ps = paths_of set.bindings in
    let all : AllByRecursion (IsReady env) rules = all_filter (IsReady env) _ env.rules (all_ready env env.rules (recursion_from_All (IsBuiltRule env.terms) env.rules built.forms) (recursion_from_All IsScopedRule env.rules built.bound)) in
    let es = errors_below (places_of set.rules) joined.unreachable joined.overlaps joined.shadows (length set.rules) in
    let same : es ≡ errors_below (positions rules) joined.unreachable joined.overlaps joined.shadows (length rules) =
    ap (λ xs. errors_below xs joined.unreachable joined.overlaps joined.shadows (length set.rules)) (same_positions env ps rules set.rules 0 stands.flat) ∙ ap (errors_below (positions rules) joined.unreachable joined.overlaps joined.shadows) (same_length env ps rules set.rules 0 stands.flat) in
    let of_term : AreErrorsOfTerm env id es = subst (AreErrorsOfTerm env id) (sym same) (are_errors env ps stands.once rules set.rules 0 all stands.flat (is_multi env id) joined.unreachable joined.overlaps joined.shadows joined.are_unreachable joined.first_overlaps joined.first_shadows (length rules) (omega arith)) in
    (h.0 ++ es, terms_push env ids id h.0 es h.1 of_term, tell_more old new h.0 es h.2 joined.joined)

-- ---- all terms

-- the terms of sets
abbrev pub ids_of : List (TermId × RuleSet) → List TermId
ids_of sets = map (λ (s : TermId × RuleSet). s.0) sets

pub none_told : (env : Environment) → TellTerms env [] []
none_told env = ([], refl, refl)

-- one set more
pub set_more : (env : Environment) (sets : List (TermId × RuleSet)) (i : ℕ) (s : TermId × RuleSet) (old new : List Error) → i < length sets → s ≡ get_or sets i s → AreRuleSets env sets
    → (StandsFor env s.1 (rules_of env s.0) → TellTerms env (ids_of (take i sets)) old → TellTerms env (ids_of (take i sets) ++ s.0 ∷ []) new) → TellTerms env (ids_of (take i sets)) old → TellTerms env (ids_of (take (i + 1) sets)) new
set_more env sets i s old new lt is h step so_far =
    let more : ids_of (take (i + 1) sets) ≡ ids_of (take i sets) ++ s.0 ∷ [] = ap ids_of (take_more sets i s lt ∙ ap (λ x. take i sets ++ x ∷ []) (sym is)) ∙ map-append (λ (x : TermId × RuleSet). x.0) (take i sets) (s ∷ []) in
    let stands : StandsFor env s.1 (rules_of env s.0) = of_all (λ (x : TermId × RuleSet). StandsFor env x.1 (rules_of env x.0)) sets s (recursion_from_All _ sets h.stand) (at_contained sets i s lt is) in
    subst (λ ids. TellTerms env ids new) (sym more) (step stands so_far)

pub all_told : (env : Environment) (sets : List (TermId × RuleSet)) (i : ℕ) (errors : List Error) → length sets ≤ i → AreRuleSets env sets → TellTerms env (ids_of (take i sets)) errors → IsCheckList env errors
all_told env sets i errors le h so_far = subst (λ ids. TellTerms env ids errors) (ap ids_of (take_all i sets le) ∙ h.ids) so_far
