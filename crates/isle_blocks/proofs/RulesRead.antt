-- The paths that rules speak of are lists that hold what the rules of a set read that stands for them.
use Rattle.std.proofs.Common.{◌≡◌, ◌↔◌, ⊎_elim, ℕ, ◌+◌, ◌≤◌, List, [], ◌∷◌, get_or, take, true, Some, map, sym, ap, ◌∙◌, subst, arith}
use Rattle.std.specs.Prelude.{Contains, slice_get}
use Rattle.std.specs.List.{AllByRecursion}
use Rattle.std.proofs.lemmas.List.Elements.{Contains-append_left, Contains-append_right}
use Rattle.std.proofs.lemmas.Option.{slice_get-get_or}
use Rattle.isle_core.specs.declared.BindingId.{BindingId}
use Rattle.isle_core.specs.declared.TypeId.{TypeId}
use Rattle.isle_core.specs.declared.rule_sets.Binding.{Binding}
use Rattle.isle_core.specs.declared.rule_sets.Binding.TheVariants as binding
use Rattle.isle_core.specs.declared.rule_sets.Constraint.{Constraint}
use Rattle.isle_core.specs.declared.rule_sets.FlatRule.{FlatRule}
use Rattle.isle_core.specs.declared.rule_sets.RuleSet.{RuleSet}
use Rattle.isle_core.specs.declared.types.ReturnKind.{ReturnKind}
use Rattle.isle_core.specs.declared.types.Term.{Term}
use Rattle.isle_core.specs.Block.{Block}
use Rattle.isle_core.specs.Calling.{Calling, ByTurns, ByCases, NoCall, may_be_nothing, is_fallible, calling, impure}
use Rattle.isle_core.specs.ExternalCall.{IsCall}
use Rattle.isle_core.specs.Iterators.{calls_multi}
use Rattle.isle_core.specs.Path.{Path, Nowhere, at, path_over, paths_of}
use Rattle.isle_core.specs.Rule.{Environment, Rule}
use Rattle.isle_core.specs.RulePaths.{rule_paths, rules_paths}
use Rattle.isle_core.specs.RuleSet.{is_test, equal_test, flat_tests}
use Rattle.isle_core.specs.Serializable.{IsSerializableCall, AreSerializableCalls, IsSerializableRule, IsSerializable, constraint_tests}
use Rattle.isle_core.specs.Served.{IsTested}
use Rattle.isle_core.specs.StandsFor.{IsFlat, AreFlat, StandsFor}
use Rattle.isle_core.specs.Tests.{Test, rule_tests}
use Rattle.isle_core.proofs.BindingPaths.{IsThere, path_before, paths_count}
use Rattle.isle_core.proofs.Contained.{contained_cases, none_contained}
use Rattle.isle_core.proofs.FirstItems.{among_firsts}
use Rattle.isle_core.proofs.ListLaws.{filter_from}
use Rattle.isle_core.proofs.RulePairs.{all_from, all_at}
use Rattle.isle_blocks.specs.AskedBound.{AsksAtMost, HavePaths}
use Rattle.isle_blocks.specs.AskedCalls.{asked_calls}
use Rattle.isle_blocks.specs.RuleReads.{IsOver, IsCallAmong, IsListAmong, HoldsReads, HoldAllReads, lengths}
use Rattle.isle_blocks.proofs.HeldPaths.{IsHeld, IsTestHeld, IsRuleHeld, rule_held}
use Rattle.isle_blocks.proofs.MappedLists.{map_has}

-- ---- bindings stand somewhere

over_there : (qs : List Path) (x : Binding) → IsThere (path_over qs x)
over_there qs (binding.Argument index) = tt
over_there qs x = tt

some_path : (p q : Path) → Some p ≡ Some q → p ≡ q
some_path p q e = cc

-- no binding of a set stands nowhere
none_nowhere : (bs : List Binding) → Contains (paths_of bs) Nowhere → ⊥
none_nowhere bs c =
    let low = c.1 in
    let count = paths_count bs in
    let x = get_or bs c.0 (binding.Argument 0) in
    let there : slice_get bs c.0 ≡ Some x = slice_get-get_or bs c.0 (binding.Argument 0) (omega (arith, low, count)) in
    subst IsThere (some_path (path_over (take c.0 (paths_of bs)) x) Nowhere (sym (path_before bs c.0 x there) ∙ slice_get-get_or (paths_of bs) c.0 Nowhere c.1 ∙ ap Some c.2)) (over_there (take c.0 (paths_of bs)) x)

-- ---- ordered calls

call_fallible : (c : Calling) (kind : ReturnKind) → IsCall kind c → may_be_nothing kind ≡ true → is_fallible c ≡ true
call_fallible (ByTurns callee of) kind h e = ap may_be_nothing h ∙ e
call_fallible (ByCases callee of) kind h e = ap may_be_nothing h ∙ e
call_fallible NoCall kind h e = absurd h

-- each of them is ready after some
call_at : (env : Environment) (t : Term) (tests : List Test) (ps done xs : List Path) (p : Path) → AreSerializableCalls env t tests ps done xs → Contains xs p → (before : List Path) × IsSerializableCall env t tests ps before p
call_at env t tests ps done [] p h c = absurd (none_contained p c)
call_at env t tests ps done (x ∷ xs) p h c = ⊎_elim (λ (same : x ≡ p). (done, subst (IsSerializableCall env t tests ps done) same h.0)) (λ d. call_at env t tests ps (x ∷ done) xs p h.1 d) (contained_cases x xs p c)

-- ---- one rule

rule_reads : (env : Environment) (t : Term) (tys : List TypeId) (ps : List Path) (r : Rule) (n : ℕ) (f : FlatRule) (l : List Path) → IsTested env tys r → IsFlat env ps r n f → IsSerializableRule env t ps f → (Contains l Nowhere → ⊥)
    → ((p : Path) → Contains l p ↔ Contains (rule_paths env r n) p) → HoldsReads ps l f
rule_reads env t tys ps r n f l typed flat ready somewhere same = record {
  over = all_from (IsOver l) l (λ p c. (all_at (IsHeld env l somewhere) (rule_paths env r n) p held.paths ((same p).0 c)).over);
  tests = all_from (λ (c : BindingId × Constraint). Contains l (at ps c.0)) f.constraints (λ c k. tested (is_test ps c) (Contains-append_left (map (is_test ps) f.constraints) (map (equal_test ps) f.equals) (is_test ps c) (map_has (is_test ps) f.constraints c k)));
  equals = all_from (λ (e : BindingId × BindingId). Contains l (at ps e.0) × Contains l (at ps e.1)) f.equals
      (λ e k. tested (equal_test ps e) (Contains-append_right (map (is_test ps) f.constraints) (map (equal_test ps) f.equals) (equal_test ps e) (map_has (equal_test ps) f.equals e k)));
  lists = all_from (λ (b : BindingId). IsListAmong ps l (at ps b)) f.iterators listed;
  calls = all_from (λ (b : BindingId). IsCallAmong ps l (at ps b)) f.ordered called;
  result = subst (Contains l) (sym flat.result) held.result;
}
  where
    held : IsRuleHeld env l somewhere r n
    held = rule_held env l somewhere tys r n typed (λ p c. (same p).1 c)

    tested : (x : Test) → Contains (flat_tests ps f) x → IsTestHeld env l somewhere x
    tested x c = all_at (IsTestHeld env l somewhere) (rule_tests env r) x held.tests (flat.no_other x c).0

    listed : (b : BindingId) → Contains f.iterators b → IsListAmong ps l (at ps b)
    listed b c =
        let found = filter_from (calls_multi env) (rule_paths env r n) (at ps b) (among_firsts (at ps b) flat.iterators (map_has (at ps) f.iterators b c)) in
        let own = all_at (IsHeld env l somewhere) (rule_paths env r n) (at ps b) held.paths found.0 in
        record { itself = own.itself; item = λ k. own.chosen found.1 }

    called : (b : BindingId) → Contains f.ordered b → IsCallAmong ps l (at ps b)
    called b c =
        let there = map_has (at ps) f.ordered b c in
        let own = held.calls (at ps b) (among_firsts (at ps b) flat.ordered there) in
        let call = (call_at env t (constraint_tests ps f) ps [] (map (at ps) f.ordered) (at ps b) ready.calls there).1 in
        record { itself = own.itself; inner = λ k. own.inner call.term call.parameters call.instance call.path (call_fallible (calling env call.term) call.kind call.external (call.inner.1 k)) }

-- ---- rules

rules_read : (env : Environment) (t : Term) (tys : List TypeId) (ps : List Path) (rs : List Rule) (n : ℕ) (fs : List FlatRule) (ls : List (List Path)) → AllByRecursion (IsTested env tys) rs → AreFlat env ps rs n fs → AllByRecursion (IsSerializableRule env t ps) fs
    → (Contains (rules_paths env rs n) Nowhere → ⊥) → HavePaths env rs n ls → HoldAllReads ps fs ls
rules_read env t tys ps [] n [] [] typed flat ready somewhere same = tt
rules_read env t tys ps [] n [] (l ∷ ls) typed flat ready somewhere same = absurd same
rules_read env t tys ps [] n (f ∷ fs) ls typed flat ready somewhere same = absurd flat
rules_read env t tys ps (r ∷ rs) n [] ls typed flat ready somewhere same = absurd flat
rules_read env t tys ps (r ∷ rs) n (f ∷ fs) [] typed flat ready somewhere same = absurd same
rules_read env t tys ps (r ∷ rs) n (f ∷ fs) (l ∷ ls) typed flat ready somewhere same =
    let own = rule_paths env r n in
    let more = rules_paths env rs (n + impure env r.rhs) in (
      rule_reads env t tys ps r n f l typed.0 flat.0 ready.0 (λ c. somewhere (Contains-append_left own more Nowhere ((same.0 Nowhere).0 c))) same.0,
      rules_read env t tys ps rs (n + impure env r.rhs) fs ls typed.1 flat.1 ready.1 (λ c. somewhere (Contains-append_right own more Nowhere c)) same.1,
    )

-- in a set that stands for rules, lists of the rules' paths hold what its rules read
pub set_reads : (env : Environment) (t : Term) (tys : List TypeId) (s : RuleSet) (rules : List Rule) (ls : List (List Path)) → StandsFor env s rules → IsSerializable env t s → AllByRecursion (IsTested env tys) rules → HavePaths env rules 0 ls
    → HoldAllReads (paths_of s.bindings) s.rules ls
set_reads env t tys s rules ls stands ready typed same =
    rules_read env t tys (paths_of s.bindings) rules 0 s.rules ls typed stands.flat ready.rules (λ c. none_nowhere s.bindings ((stands.paths Nowhere).1 c)) same

-- so its block asks no more than the rules have paths: the shortest lists have each path of a rule once
pub paths_bound : (env : Environment) (t : Term) (tys : List TypeId) (s : RuleSet) (rules : List Rule) (b : Block) (ls : List (List Path)) → StandsFor env s rules → IsSerializable env t s → AllByRecursion (IsTested env tys) rules → AsksAtMost env s b
    → HavePaths env rules 0 ls → asked_calls env s.bindings b ≤ lengths ls
paths_bound env t tys s rules b ls stands ready typed most same = most ls (set_reads env t tys s rules ls stands ready typed same)
