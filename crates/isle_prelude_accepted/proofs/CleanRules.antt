-- Nothing is wrong with the rules of simple definitions: none tests anything, no two are of one term, and none calls a term with rules.
use Rattle.std.proofs.Common.{◌≡◌, inl, inr, ℕ, suc, ℤ, pos, List, [], ◌∷◌, ◌++◌, get_or, Bool, true, false, cond, Option, Some, None, refl, sym, ap, ap₂, ◌∙◌}
use Rattle.std.proofs.Common.{subst, true≢false, eqb→eq}
use Rattle.std.specs.Prelude.{◌↔◌, ◌==◌, ◌<ℤ◌, ◌||◌, IsTrue, IsSomeAnd, option_map, slice_get}
use Rattle.std.specs.Bool.{passes}
use Rattle.std.specs.List.{AllByRecursion, list_any}
use Rattle.std.proofs.lemmas.Option.{same_Some}
use Rattle.isle_core.specs.declared.TermId.{TermId}
use Rattle.isle_core.specs.CalledTerms.{CalledTerm, Constructor, is_made, unless_made, extracted_in, called_by, called_by_all, called_in, called}
use Rattle.isle_core.specs.Expr.{Expr, Exprs, NoExpr, AnExpr}
use Rattle.isle_core.specs.Expr as expr
use Rattle.isle_core.specs.Path.{Path, Arg}
use Rattle.isle_core.specs.Pattern.{Pattern}
use Rattle.isle_core.specs.Rule.{Environment, Rule, rules_of, IfLet}
use Rattle.isle_core.specs.Terms.{with_rules}
use Rattle.isle_core.specs.Tests.{Test, Is, Equal, HasItem, is_constraint, met_tests, after, args_tests, args_after, iflets_tests, rule_tests}
use Rattle.isle_core.specs.RightSide.{Places, no_places}
use Rattle.isle_core.proofs.AllLaws.{all_append, all_each}
use Rattle.isle_ast.specs.Tree.{Def}
use Rattle.isle_declarations.specs.Heads.{terms_of, heads_of}
use Rattle.isle_declarations.specs.Signatures.{RuleDef, rule_defs, term_named}
use Rattle.isle_declarations.specs.Symbols.{index_of}
use Rattle.isle_declarations.specs.Terms.{terms}
use Rattle.isle_declarations.proofs.SymbolLaws.{stands}
use Rattle.isle_terms.specs.Whole.{Whole, whole_of}
use Rattle.isle_checks.specs.CheckList.{IsClean}
use Rattle.isle_checks.specs.RuleChecks.{Unreachable, Overlaps, Shadows}
use Rattle.isle_checks.specs.RuleErrors.{AreUnmarkedTerms, IsRecursionOf}
use Rattle.isle_checks.specs.RuleWalks.{RulesUse, IsRuleWalk, IsUnmarkedTerm}
use Rattle.isle_checks.proofs.TermErrors.{all_filter}
use Rattle.isle_sample.proofs.CleanErrors.{AreFlawless, clean}
use Rattle.isle_sample.proofs.CleanPairs.{ArePairs, some_at, pairs_none, pairs_numbered}
use Rattle.isle_writing.specs.Erased.{all_erased}
use Rattle.isle_prelude_accepted.proofs.Has.{Has, AreApart}
use Rattle.isle_prelude_accepted.proofs.AtPlaces.{heads_same}
use Rattle.isle_prelude_accepted.proofs.Simple.{AreSimple}
use Rattle.isle_prelude_accepted.proofs.RuleParts.{IsVariable, IsMadeRule}
use Rattle.isle_prelude_accepted.proofs.TypedEnvironment.{AreMadeRules, IsSimpleEnvironment}
use Rattle.isle_prelude_accepted.proofs.TypedExprs.{IsUnruled, CallsOnly, AllCallOnly}

-- ---- tests

-- a test that is no constraint
abbrev IsNoConstraint : Test → Type 0
IsNoConstraint t = is_constraint t ≡ false

no_tests : (env : Environment) (ps : List Pattern) (i : ℕ) (places : Places) → AllByRecursion IsVariable ps
    → AllByRecursion IsNoConstraint (args_tests env ps i places)
no_tests env [] i places h = tt
no_tests env (p ∷ ps) i places h =
    let v = h.0 in
    all_append IsNoConstraint _ _
    (subst (λ q. AllByRecursion IsNoConstraint (Rattle.isle_core.specs.Tests.tests env q (Arg i) places)) (sym v.2) (met (places v.1.0) (Arg i)))
    (no_tests env ps (suc i) (after env p (Arg i) places) h.1)
  where
    met : (o : Option Path) (p : Path) → AllByRecursion IsNoConstraint (met_tests o p)
    met None p = tt
    met (Some q) p = (refl, tt)

tests_nothing : (env : Environment) (w : Whole) (term : List ℕ) (r : Rule) → IsMadeRule w term r → AllByRecursion IsNoConstraint (rule_tests env r)
tests_nothing env w term r m =
    all_append IsNoConstraint (args_tests env r.args 0 no_places) (iflets_tests env r.iflets (args_after env r.args 0 no_places))
    (no_tests env r.args 0 no_places m.variables)
    (subst (λ (cs : List IfLet). AllByRecursion IsNoConstraint (iflets_tests env cs (args_after env r.args 0 no_places))) (sym m.free) tt)

reachable : (env : Environment) (w : Whole) (term : List ℕ) (r : Rule) → IsMadeRule w term r → Unreachable env r → ⊥
reachable env w term r m u = true≢false (all_each IsNoConstraint (rule_tests env r) (Is u.from u.one) (tests_nothing env w term r m) u.tested)

below : (p q a b : ℤ) → p ≡ a → q ≡ b → p <ℤ q → a <ℤ b
below p q a b e f lt = subst (λ x. x <ℤ b) e (subst (λ y. p <ℤ y) f lt)

-- ---- numbers of terms

pub named_at : (w : Whole) (name : List ℕ) (n : TermId) → term_named (terms w.defs) name ≡ Some n → index_of (terms_of (terms w.defs)) name ≡ Some n.0
named_at w name n e = by (index_of (terms_of (terms w.defs)) name) e
  where
    by : (o : Option ℕ) → option_map (λ (k : ℕ). record { 0 = k }) o ≡ Some n → o ≡ Some n.0
    by None k = absurd cc
    by (Some m) k = ap Some (ap (λ (t : TermId). t.0) (same_Some (record { 0 = m }) n k))

-- terms of one number have one name
pub same_name : (w : Whole) (a b : List ℕ) (m n : TermId) → term_named (terms w.defs) a ≡ Some m → term_named (terms w.defs) b ≡ Some n → m.0 ≡ n.0 → a ≡ b
same_name w a b m n e f same =
    let names = terms_of (terms w.defs) in
    sym (stands names a m.0 (named_at w a m e)) ∙ ap (λ k. get_or names k []) same ∙ stands names b n.0 (named_at w b n f)

-- ---- rules of different terms

-- two rules have different terms
abbrev pub OtherRoots : Rule → Rule → Type 0
OtherRoots q r = q.root_term.0 ≡ r.root_term.0 → ⊥

roots_behind : (w : Whole) (term : List ℕ) (q : Rule) (rs : List RuleDef) (xs : List Rule) → IsMadeRule w term q → (Has (heads_of rs) term → ⊥)
    → AreMadeRules w rs xs → AllByRecursion (OtherRoots q) xs
roots_behind w term q [] [] m none h = tt
roots_behind w term q [] (x ∷ xs) m none h = absurd h
roots_behind w term q (r ∷ rs) [] m none h = absurd h
roots_behind w term q (r ∷ rs) (x ∷ xs) m none h =
    ((λ e. none (inl (sym (same_name w term r.term q.root_term x.root_term m.root h.0.root e)))), roots_behind w term q rs xs m (λ i. none (inr i)) h.1)

roots_apart : (w : Whole) (rs : List RuleDef) (xs : List Rule) → AreApart (heads_of rs) → AreMadeRules w rs xs → ArePairs OtherRoots xs
roots_apart w [] [] apart h = tt
roots_apart w [] (x ∷ xs) apart h = absurd h
roots_apart w (r ∷ rs) [] apart h = absurd h
roots_apart w (r ∷ rs) (x ∷ xs) apart h = (roots_behind w r.term x rs xs h.0 apart.0 h.1, roots_apart w rs xs apart.1 h.1)

-- a rule that is made, of some head among these
abbrev IsOf : Whole → List RuleDef → Rule → Type 0
IsOf w rs x = (term : List ℕ) × Has (heads_of rs) term × IsMadeRule w term x

made_wider : (w : Whole) (r : RuleDef) (rs : List RuleDef) (xs : List Rule) → AllByRecursion (IsOf w rs) xs → AllByRecursion (IsOf w (r ∷ rs)) xs
made_wider w r rs [] h = tt
made_wider w r rs (x ∷ xs) h = ((h.0.0, inr h.0.1, h.0.2), made_wider w r rs xs h.1)

each_made : (w : Whole) (rs : List RuleDef) (xs : List Rule) → AreMadeRules w rs xs → AllByRecursion (IsOf w rs) xs
each_made w [] [] h = tt
each_made w [] (x ∷ xs) h = absurd h
each_made w (r ∷ rs) [] h = absurd h
each_made w (r ∷ rs) (x ∷ xs) h = ((r.term, inl refl, h.0), made_wider w r rs xs (each_made w rs xs h.1))

-- ---- calls

mutual
  calls_kept : (env : Environment) (P : ℕ → Type 0) (e : Expr) → CallsOnly P e → AllByRecursion (λ (c : CalledTerm). P c.term.0) (called_by env e)
  calls_kept env P (expr.Term ty term es) h =
      all_append (λ (c : CalledTerm). P c.term.0) (called_by_all env es) (unless_made env Constructor term) (all_kept env P es h.1) (one (is_made env term))
    where
      one : (b : Bool) → AllByRecursion (λ (c : CalledTerm). P c.term.0) (cond b [] (record { term = term; role = Constructor } ∷ []))
      one true = tt
      one false = (h.0, tt)
  calls_kept env P (expr.Var ty x) h = tt
  calls_kept env P (expr.ConstBool b) h = tt
  calls_kept env P (expr.ConstInt ty n) h = tt
  calls_kept env P (expr.ConstPrim ty name) h = tt
  calls_kept env P (expr.Let ty bindings e) h = absurd h

  all_kept : (env : Environment) (P : ℕ → Type 0) (es : Exprs) → AllCallOnly P es → AllByRecursion (λ (c : CalledTerm). P c.term.0) (called_by_all env es)
  all_kept env P NoExpr h = tt
  all_kept env P (AnExpr e es) h =
      all_append (λ (c : CalledTerm). P c.term.0) (called_by env e) (called_by_all env es) (calls_kept env P e h.0) (all_kept env P es h.1)

none_extracted : (env : Environment) (ps : List Pattern) → AllByRecursion IsVariable ps → extracted_in env ps ≡ []
none_extracted env [] h = refl
none_extracted env (p ∷ ps) h = ap₂ (λ xs ys. xs ++ ys) (ap (Rattle.isle_core.specs.CalledTerms.extracted_by env) h.0.2) (none_extracted env ps h.1)

rule_calls : (env : Environment) (w : Whole) (term : List ℕ) (r : Rule) → IsMadeRule w term r
    → AllByRecursion (λ (c : CalledTerm). IsUnruled w c.term.0) (called_in env r)
rule_calls env w term r m =
    let P = λ (c : CalledTerm). IsUnruled w c.term.0 in
    subst (λ xs. AllByRecursion P (xs ++ called_by env r.rhs))
    (sym (ap₂ (λ xs ys. xs ++ ys) (none_extracted env r.args m.variables) (ap (Rattle.isle_core.specs.CalledTerms.called_in_iflets env) m.free)))
    (calls_kept env (IsUnruled w) r.rhs m.calls)

rules_call : (env : Environment) (w : Whole) (rs : List RuleDef) (xs : List Rule) → AllByRecursion (IsOf w rs) xs
    → AllByRecursion (λ (c : CalledTerm). IsUnruled w c.term.0) (called env xs)
rules_call env w rs [] h = tt
rules_call env w rs (x ∷ xs) h =
    all_append (λ (c : CalledTerm). IsUnruled w c.term.0) (called_in env x) (called env xs) (rule_calls env w h.0.0 x h.0.2) (rules_call env w rs xs h.1)

-- a term with a rule has the name of a head
pub ruled_name : (w : Whole) (rs : List RuleDef) (xs : List Rule) (id : TermId) → AllByRecursion (IsOf w rs) xs
    → list_any (λ (r : Rule). r.root_term.0 == id.0) xs ≡ true
    → (name : List ℕ) × Has (heads_of rs) name × (n : TermId) × (term_named (terms w.defs) name ≡ Some n) × (n.0 ≡ id.0)
ruled_name w rs [] id h e = absurd cc
ruled_name w rs (x ∷ xs) id h e = by (x.root_term.0 == id.0) refl (ruled_name w rs xs id h.1) e
  where
    Named : Type 0
    Named = (name : List ℕ) × Has (heads_of rs) name × (n : TermId) × (term_named (terms w.defs) name ≡ Some n) × (n.0 ≡ id.0)

    by : (b : Bool) → (x.root_term.0 == id.0) ≡ b → (list_any (λ (r : Rule). r.root_term.0 == id.0) xs ≡ true → Named)
        → (b || list_any (λ (r : Rule). r.root_term.0 == id.0) xs) ≡ true → Named
    by true s rest k = (h.0.0, h.0.1, x.root_term, h.0.2.root, eqb→eq x.root_term.0 id.0 (passes (x.root_term.0 == id.0) s))
    by false s rest k = rest k

-- ---- all

module _ (defs : List Def) (h : AreSimple (all_erased defs)) (env : Environment) (s : IsSimpleEnvironment defs h env) where
  pub all_rules_made : AllByRecursion (IsOf (whole_of defs) (rule_defs defs)) env.rules
  all_rules_made = each_made (whole_of defs) (rule_defs defs) env.rules s.rules_are

  flawless : (id : TermId) → AreFlawless env (rules_of env id)
  flawless id =
      let w = whole_of defs in
      let Made = IsOf w (rule_defs defs) in
      let rules = rules_of env id in
      let made : AllByRecursion Made rules = all_filter Made (λ (r : Rule). r.root_term.0 == id.0) env.rules all_rules_made in
      let others : ArePairs (λ q r. q.root_term.0 ≡ r.root_term.0 → Overlaps env q r → ⊥) env.rules =
      widen env.rules (roots_apart w (rule_defs defs) env.rules (subst AreApart (heads_same defs) h.heads) s.rules_are) in
      let apart : ArePairs (λ q r. Overlaps env q r → ⊥) rules = pairs_numbered (λ (r : Rule). r.root_term.0) id.0 (λ q r. Overlaps env q r → ⊥) env.rules others in
      record {
        reachable = λ j u. (let f = some_at Made (Unreachable env) rules j made u in reachable env w f.1.0 f.0 f.1.2 f.2);
        apart = λ i j o. pairs_none (Overlaps env) rules i j apart o.0 o.1;
        shown = λ i j o.
            (let first = some_at Made (λ (q : Rule). IsSomeAnd (slice_get rules j) (λ (r : Rule). Shadows env q r)) rules i made o in
            let second = some_at Made (Shadows env first.0) rules j made first.2 in
            (below second.0.prio first.0.prio (pos 0) (pos 0) second.1.2.prio first.1.2.prio second.2.higher).lt);
      }
    where
      widen_one : (q : Rule) (rs : List Rule) → AllByRecursion (OtherRoots q) rs → AllByRecursion (λ r. q.root_term.0 ≡ r.root_term.0 → Overlaps env q r → ⊥) rs
      widen_one q [] k = tt
      widen_one q (r ∷ rs) k = ((λ e o. k.0 e), widen_one q rs k.1)

      widen : (rs : List Rule) → ArePairs OtherRoots rs → ArePairs (λ q r. q.root_term.0 ≡ r.root_term.0 → Overlaps env q r → ⊥) rs
      widen [] k = tt
      widen (r ∷ rs) k = (widen_one r rs k.0, widen rs k.1)

  -- nothing is wrong with the rules
  pub simple_clean : IsClean env
  simple_clean = clean env flawless

  none_used : (one other : TermId) → RulesUse env one other → ⊥
  none_used one other u =
      let w = whole_of defs in
      let P = λ (c : CalledTerm). IsUnruled w c.term.0 in
      let made = all_filter (IsOf w (rule_defs defs)) (λ (r : Rule). r.root_term.0 == one.0) env.rules all_rules_made in
      let called_one : IsUnruled w other.0 =
      all_each P (called env (rules_of env one)) (record { term = other; role = u.0 }) (rules_call env w (rule_defs defs) (rules_of env one) made) u.1 in
      let ruled = ruled_name w (rule_defs defs) env.rules other all_rules_made u.2 in
      called_one.2 (subst (Has (heads_of (rule_defs defs))) (same_name w ruled.0 called_one.0 ruled.2 (record { 0 = other.0 }) ruled.3 called_one.1 ruled.4) ruled.1)

  no_walk : (from : TermId) (between : List TermId) (to : TermId) → IsRuleWalk env from between to → ⊥
  no_walk from [] to walk = none_used from to walk
  no_walk from (next ∷ rest) to walk = none_used from next walk.0

  none_unmarked : (ids : List TermId) → AreUnmarkedTerms env ids []
  none_unmarked [] = refl
  none_unmarked (id ∷ ids) =
      let never : IsTrue false ↔ IsUnmarkedTerm env id = (λ e. absurd (true≢false (sym e)), λ u. absurd (no_walk id u.0.0 id u.0.1)) in
      (false, [], never, none_unmarked ids, refl)

  -- no term uses itself without being marked so
  pub simple_marked : IsRecursionOf env []
  simple_marked = ([], none_unmarked (with_rules env), refl)
