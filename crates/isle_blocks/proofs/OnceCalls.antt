-- The ordered calls of a rule set that stands for rules: none stands twice, and those that answer several times hold an impure call.
use Rattle.std.proofs.Common.{◌≡◌, ⊎_elim, ℕ, ◌+◌, List, [], ◌∷◌, Bool, true, false, cond, refl, ap, sym, subst}
use Rattle.std.specs.Prelude.{◌||◌, ◌&&◌}
use Rattle.std.specs.List.{AllByRecursion}
use Rattle.isle_core.specs.declared.TermId.{TermId}
use Rattle.isle_core.specs.declared.rule_sets.FlatRule.{FlatRule}
use Rattle.isle_core.specs.declared.rule_sets.RuleSet.{RuleSet}
use Rattle.isle_core.specs.declared.types.ReturnKind.TheVariants as return_kind
use Rattle.isle_core.specs.Calling.{Calling, ByTurns, ByCases, NoCall, calling, answers_often, is_ordered, impure}
use Rattle.isle_core.specs.HoldsImpure.{holds_impure, hold_impure, takes_turn}
use Rattle.isle_core.specs.Iterators.{calls_multi}
use Rattle.isle_core.specs.Making.{Making, MakesVariant, MakesStruct, MakesNothing}
use Rattle.isle_core.specs.Path.{Path, Called, Paths, paths_of}
use Rattle.isle_core.specs.RightSide.{term_path}
use Rattle.isle_core.specs.Rule.{Environment, Rule}
use Rattle.isle_core.specs.StandsFor.{IsFlat, AreFlat, StandsFor}
use Rattle.isle_core.proofs.Contained.{contained_cases, none_contained}
use Rattle.isle_core.proofs.FirstItems.{among_firsts, firsts_once}
use Rattle.isle_blocks.specs.CallsOnce.{HasCallsOnce}
use Rattle.isle_blocks.specs.RuleReads.{AlwaysAnswers, OrdersCallsOnce}
use Rattle.isle_blocks.proofs.EachOrdered.{IsEach, IsOfCalls, rule_calls_each}

-- ---- calls that answer several times

-- a path that holds an impure call, if it answers several times
abbrev IsLate : Environment → Path → Type 0
IsLate env q = calls_multi env q ≡ true → holds_impure env q ≡ true

-- an ordered call that answers several times
called_late : (env : Environment) (c : Calling) (p : Path) → (takes_turn c ≡ true → holds_impure env p ≡ true) → (is_ordered c || (answers_often c && holds_impure env p)) ≡ true → answers_often c ≡ true → holds_impure env p ≡ true
called_late env (ByTurns callee kind) p turn e often = turn refl
called_late env (ByCases callee return_kind.Plain) p turn e often = cc
called_late env (ByCases callee return_kind.Option) p turn e often = cc
called_late env (ByCases callee return_kind.Iterator) p turn e often = e
called_late env NoCall p turn e often = cc

late_one : (env : Environment) → IsOfCalls env (IsLate env)
late_one env term made ps instance = pick (is_ordered (calling env term) || (answers_often (calling env term) && holds_impure env (term_path made term ps instance))) refl
  where
    late : (m : Making) → (is_ordered (calling env term) || (answers_often (calling env term) && holds_impure env (term_path m term ps instance))) ≡ true → IsLate env (term_path m term ps instance)
    late (MakesVariant ty variant) e often = cc
    late (MakesStruct ty) e often = cc
    late MakesNothing e often = called_late env (calling env term) (Called term ps instance) (λ turn. ap (λ b. b || hold_impure env ps) turn) e often

    pick : (b : Bool) → (is_ordered (calling env term) || (answers_often (calling env term) && holds_impure env (term_path made term ps instance))) ≡ b → IsEach (IsLate env) (cond b (term_path made term ps instance ∷ []) [])
    pick true e q c = ⊎_elim
        (λ (same : term_path made term ps instance ≡ q). subst (IsLate env) same (late made e))
        (λ j. absurd (none_contained q j))
        (contained_cases (term_path made term ps instance) [] q c)
    pick false e q c = absurd (none_contained q c)

-- ---- pure calls that always answer

-- no pure call that always answers
abbrev IsApart : Environment → Path → Type 0
IsApart env q = (term : TermId) (qs : Paths) (instance : ℕ) → q ≡ Called term qs instance → AlwaysAnswers (calling env term) → ⊥

-- an ordered call is impure, or may be answered otherwise
called_apart : (env : Environment) (c : Calling) (p : Path) → (is_ordered c || (answers_often c && holds_impure env p)) ≡ true → AlwaysAnswers c → ⊥
called_apart env (ByTurns callee kind) p e always = always
called_apart env (ByCases callee return_kind.Plain) p e always = cc
called_apart env (ByCases callee return_kind.Option) p e always = always
called_apart env (ByCases callee return_kind.Iterator) p e always = always
called_apart env NoCall p e always = always

apart_one : (env : Environment) → IsOfCalls env (IsApart env)
apart_one env term made ps instance = pick (is_ordered (calling env term) || (answers_often (calling env term) && holds_impure env (term_path made term ps instance))) refl
  where
    same_term : (a b : TermId) (xs ys : Paths) (i j : ℕ) → Called a xs i ≡ Called b ys j → a ≡ b
    same_term a b xs ys i j h = cc

    apart : (m : Making) → (is_ordered (calling env term) || (answers_often (calling env term) && holds_impure env (term_path m term ps instance))) ≡ true → IsApart env (term_path m term ps instance)
    apart (MakesVariant ty variant) e of qs k is always = absurd cc
    apart (MakesStruct ty) e of qs k is always = absurd cc
    apart MakesNothing e of qs k is always = called_apart env (calling env term) (Called term ps instance) e (subst (λ x. AlwaysAnswers (calling env x)) (sym (same_term term of ps qs instance k is)) always)

    pick : (b : Bool) → (is_ordered (calling env term) || (answers_often (calling env term) && holds_impure env (term_path made term ps instance))) ≡ b → IsEach (IsApart env) (cond b (term_path made term ps instance ∷ []) [])
    pick true e q c = ⊎_elim
        (λ (same : term_path made term ps instance ≡ q). subst (IsApart env) same (apart made e))
        (λ j. absurd (none_contained q j))
        (contained_cases (term_path made term ps instance) [] q c)
    pick false e q c = absurd (none_contained q c)

-- ---- rule sets

rule_once : (env : Environment) (ps : List Path) (r : Rule) (n : ℕ) (f : FlatRule) → IsFlat env ps r n f → HasCallsOnce env ps f × OrdersCallsOnce env ps f
rule_once env ps r n f h = (
  record { once = firsts_once h.ordered; late = λ q k. rule_calls_each env (IsLate env) (late_one env) r n q (among_firsts q h.ordered k) },
  record {
    once = firsts_once h.ordered;
    apart = λ term qs instance k. rule_calls_each env (IsApart env) (apart_one env) r n (Called term qs instance) (among_firsts (Called term qs instance) h.ordered k) term qs instance refl;
  },
)

rules_once : (env : Environment) (ps : List Path) (rs : List Rule) (n : ℕ) (fs : List FlatRule) → AreFlat env ps rs n fs → AllByRecursion (HasCallsOnce env ps) fs × AllByRecursion (OrdersCallsOnce env ps) fs
rules_once env ps [] n [] h = (tt, tt)
rules_once env ps [] n (f ∷ fs) h = absurd h
rules_once env ps (r ∷ rs) n [] h = absurd h
rules_once env ps (r ∷ rs) n (f ∷ fs) h =
    let one = rule_once env ps r n f h.0 in
    let rest = rules_once env ps rs (n + impure env r.rhs) fs h.1 in
    ((one.0, rest.0), (one.1, rest.1))

pub set_once : (env : Environment) (s : RuleSet) (rules : List Rule) → StandsFor env s rules → AllByRecursion (HasCallsOnce env (paths_of s.bindings)) s.rules
set_once env s rules h = (rules_once env (paths_of s.bindings) rules 0 s.rules h.flat).0

-- and none of its ordered calls is pure and always answers
pub set_orders_once : (env : Environment) (s : RuleSet) (rules : List Rule) → StandsFor env s rules → AllByRecursion (OrdersCallsOnce env (paths_of s.bindings)) s.rules
set_orders_once env s rules h = (rules_once env (paths_of s.bindings) rules 0 s.rules h.flat).1
