-- What is judged of parts, one after the other, is what the rows say of all.
use denote.Ref.{Bor}
use Rattle.std.proofs.Common.{◌≡◌, ℕ, Bool, true, false, cond, List, [], ◌∷◌, ◌++◌, length, Option, Some, None, refl, sym, ap, ◌∙◌, subst}
use Rattle.std.specs.Prelude.{◌==◌, ◌&&◌, ◌||◌, not, is_some}
use Rattle.std.specs.List.{list_any}
use Rattle.std.proofs.lemmas.List.{length-map}
use Rattle.std.proofs.lemmas.List.Folds.{list_any-append}
use Rattle.isle_core.specs.declared.TermId.{TermId}
use Rattle.isle_core.specs.declared.TypeId.{TypeId}
use Rattle.isle_terms.specs.declared.judged.Judged.{Judged}
use Rattle.isle_sema.specs.declared.known.Called.{Called}
use Rattle.isle_declarations.specs.Signatures.{Signature, RuleDef, externs, extractors, rule_defs, func_named, extractor_named, has_rule, term_named}
use Rattle.isle_sema.specs.Site.{Site, IntegerAt, TruthAt, PartAt, MetAt, UsedAt, CalledAt, TakenAt, ConstantAt, BoundAt}
use Rattle.isle_terms.specs.Whole.{Whole, termed}
use Rattle.isle_declarations.specs.Terms.{terms, is_made}
use Rattle.isle_terms.specs.TypeNames.{type_named}
use Rattle.isle_types.specs.declared.row.Row.TheVariants as row
use Rattle.isle_types.specs.declared.row.Row.{Row}
use Rattle.isle_types.specs.TypeRows.{on}
use Rattle.isle_sema.specs.RulePass.{right_side_of, left_of, sites_of}
use Rattle.isle_sema.specs.RuleRows.{differ, is_untaken, is_mistaken, is_misplaced, is_undeclared, is_met_otherwise, is_unknown, is_mistyped, declared_multis, has_mark, is_multi_used, is_use_of}
use Rattle.isle_sema.specs.Known.{IsCalled, MayBeCalled}
use Rattle.isle_sema.specs.Judging.{is_partial_call, is_impure_call, is_multi_call, is_marked_use, unjudged, judge, judge_all, lowest}
use Rattle.isle_sema.specs.Taken.{row_of}
use Rattle.isle_sema.specs.RuleRows.{is_large}
use Rattle.isle_sema.specs.Templates.{templates}
use Rattle.isle_templates.specs.Multi.{marked, is_multi, AreMultisTold}
use Rattle.isle_types.specs.Fault.{or_later}

-- ---- a call

-- if the code knows a term, there is one
pub when_called : (w : Whole) (old new : Judged) (site : Option Signature → Site) (s : Option Signature) (o : Option Called) (c : Called) → o ≡ Some c → MayBeCalled w s o → ((x : Signature) → IsCalled w x c → new ≡ judge w old (site (Some x))) → new ≡ judge w old (site s)
when_called w old new site None o c is h k = absurd (subst (MayBeCalled w None) is h)
when_called w old new site (Some x) o c is h k = k x (subst (MayBeCalled w (Some x)) is h)

-- a call of a declared term, by what is known of it
pub called_judged : (w : Whole) (s : Signature) (c : Called) (j : Judged) (expected : Option TypeId) (count : ℕ) (differs : Bool) → differs ≡ differ (Some c.ret) expected → IsCalled w s c
    → record {
      multis = j.multis;
      untaken = j.untaken;
      mistaken = j.mistaken;
      misplaced = j.misplaced;
      undeclared = j.undeclared;
      met_otherwise = j.met_otherwise;
      multi_taken = j.multi_taken;
      unknown = (not (count == length c.args.now) || not (c.made || c.external || c.ruled)) || j.unknown;
      mistyped = differs || j.mistyped;
      partial = c.partial || j.partial;
      impure = not c.pure || j.impure;
      multi = c.multi || j.multi;
      unbound = j.unbound;
    }
    ≡ judge w j (CalledAt expected (Some s) count)
called_judged w s c j expected count differs other h =
    let put : ℕ → Bool → Bool → Bool → Bool → Bool → Bool → Bool → Judged = λ n made external ruled differs partial pure multi. record {
      multis = j.multis;
      untaken = j.untaken;
      mistaken = j.mistaken;
      misplaced = j.misplaced;
      undeclared = j.undeclared;
      met_otherwise = j.met_otherwise;
      multi_taken = j.multi_taken;
      unknown = (not (count == n) || not (made || external || ruled)) || j.unknown;
      mistyped = differs || j.mistyped;
      partial = partial || j.partial;
      impure = not pure || j.impure;
      multi = multi || j.multi;
      unbound = j.unbound;
    } in
    let long : length c.args.now ≡ length s.args = sym (length-map c.args.now Some) ∙ ap length (sym h.args) ∙ length-map s.args (type_named w.defs) in
    let made = is_made s.origin in
    let external = is_some (func_named (externs w.defs) s.term) in
    let ruled = has_rule (rule_defs w.defs) s.term in
    let other_type = differ (type_named w.defs s.ret) expected in
    ap (λ n. put n c.made c.external c.ruled differs c.partial c.pure c.multi) long
    ∙ ap (λ b. put (length s.args) b c.external c.ruled differs c.partial c.pure c.multi) (sym h.made)
    ∙ ap (λ b. put (length s.args) made b c.ruled differs c.partial c.pure c.multi) (sym h.external)
    ∙ ap (λ b. put (length s.args) made external b differs c.partial c.pure c.multi) (sym h.ruled)
    ∙ ap (λ b. put (length s.args) made external ruled b c.partial c.pure c.multi) (other ∙ ap (λ ty. differ ty expected) (sym h.ret))
    ∙ ap (λ b. put (length s.args) made external ruled other_type b c.pure c.multi) (sym h.partial)
    ∙ ap (λ b. put (length s.args) made external ruled other_type s.partial b c.multi) (sym h.pure)
    ∙ ap (put (length s.args) made external ruled other_type s.partial s.pure) (sym h.multi)

-- a term in a pattern, by what is known of it
pub taken_judged : (w : Whole) (s : Signature) (c : Called) (j : Judged) (expected : Option TypeId) (count : ℕ) (differs mark : Bool) → mark ≡ marked j.multis.now c.term.0 → differs ≡ differ (Some c.ret) expected → IsCalled w s c
    → record {
      multis = j.multis;
      untaken = (not (count == length c.args.now) || not (c.made || c.extracting)) || j.untaken;
      mistaken = differs || j.mistaken;
      misplaced = j.misplaced;
      undeclared = j.undeclared;
      met_otherwise = j.met_otherwise;
      multi_taken = mark || j.multi_taken;
      unknown = j.unknown;
      mistyped = j.mistyped;
      partial = j.partial;
      impure = j.impure;
      multi = j.multi;
      unbound = j.unbound;
    }
    ≡ judge w j (TakenAt expected (Some s) count)
taken_judged w s c j expected count differs mark known other h =
    let put : ℕ → Bool → Bool → Bool → Bool → Judged = λ n made extracting differs mark. record {
      multis = j.multis;
      untaken = (not (count == n) || not (made || extracting)) || j.untaken;
      mistaken = differs || j.mistaken;
      misplaced = j.misplaced;
      undeclared = j.undeclared;
      met_otherwise = j.met_otherwise;
      multi_taken = mark || j.multi_taken;
      unknown = j.unknown;
      mistyped = j.mistyped;
      partial = j.partial;
      impure = j.impure;
      multi = j.multi;
      unbound = j.unbound;
    } in
    let long : length c.args.now ≡ length s.args = sym (length-map c.args.now Some) ∙ ap length (sym h.args) ∙ length-map s.args (type_named w.defs) in
    let made = is_made s.origin in
    let extracting = is_some (extractor_named (extractors w.defs) s.term) in
    let other_type = differ (type_named w.defs s.ret) expected in
    ap (λ n. put n c.made c.extracting differs mark) long ∙ ap (λ b. put (length s.args) b c.extracting differs mark) (sym h.made) ∙ ap (λ b. put (length s.args) made b differs mark) (sym h.extracting)
    ∙ ap (λ b. put (length s.args) made extracting b mark) (other ∙ ap (λ ty. differ ty expected) (sym h.ret))
    ∙ ap (put (length s.args) made extracting other_type) (known ∙ ap (λ o. on o (λ (n : TermId). marked j.multis.now n.0)) (sym h.term))

-- ---- parts in order

or_swap : (a t b : Bool) → a || (t || b) ≡ (t || a) || b
or_swap true true b = refl
or_swap true false b = refl
or_swap false true b = refl
or_swap false false b = refl

or_false : (a : Bool) → a || false ≡ a
or_false true = refl
or_false false = refl

any_of : (w : Whole) (f : Judged → Bool) (test : Site → Bool) → ((j : Judged) (s : Site) → f (judge w j s) ≡ test s || f j) → (j : Judged) (sites : List Site) → f (judge_all w j sites) ≡ list_any test sites || f j
any_of w f test step j [] = refl
any_of w f test step j (s ∷ sites) = any_of w f test step (judge w j s) sites ∙ ap (λ b. list_any test sites || b) (step j s) ∙ or_swap (list_any test sites) (test s) (f j)

-- a row's answer to parts
pub any_new : (w : Whole) (f : Judged → Bool) (test : Site → Bool) → ((j : Judged) (s : Site) → f (judge w j s) ≡ test s || f j) → (multis : Bor (List Bool)) → f (unjudged multis) ≡ false → (sites : List Site) → f (judge_all w (unjudged multis) sites) ≡ list_any test sites
any_new w f test step multis new sites = any_of w f test step (unjudged multis) sites ∙ ap (λ b. list_any test sites || b) new ∙ or_false (list_any test sites)

-- a row's answer to the parts of both sides
any_both : (w : Whole) (f : Judged → Bool) (test : Site → Bool) → ((j : Judged) (s : Site) → f (judge w j s) ≡ test s || f j) → (multis : Bor (List Bool)) → f (unjudged multis) ≡ false → (ps rs : List Site)
    → f (judge_all w (unjudged multis) ps) || f (judge_all w (unjudged multis) rs) ≡ list_any test (ps ++ rs)
any_both w f test step multis new ps rs =
    ap (λ b. b || f (judge_all w (unjudged multis) rs)) (any_new w f test step multis new ps) ∙ ap (λ b. list_any test ps || b) (any_new w f test step multis new rs) ∙ sym (list_any-append test ps rs)

-- a part with a mark, among these and those before them
marks_any : (w : Whole) (j : Judged) (sites : List Site) → (judge_all w j sites).multi_taken ≡ list_any (is_marked_use w j.multis.now) sites || j.multi_taken
marks_any w j [] = refl
marks_any w j (s ∷ sites) = marks_any w (judge w j s) sites ∙ or_swap (list_any (is_marked_use w j.multis.now) sites) (is_marked_use w j.multis.now s) j.multi_taken

-- the marks are those of terms that are `multi` where a pattern uses them
abbrev pub AreMultis : Whole → List Bool → Type 0
AreMultis w marks = AreMultisTold (templates w) (declared_multis w) marks

mark_is : (w : Whole) (marks : List Bool) → AreMultis w marks → (s : Signature) → has_mark w marks s ≡ is_multi_used w s
mark_is w marks m s = by (term_named (terms w.defs) s.term)
  where
    by : (o : Option TermId) → on o (λ (n : TermId). marked marks n.0) ≡ on o (λ (n : TermId). is_multi (templates w) (declared_multis w) n.0)
    by None = refl
    by (Some n) = m.told n.0

use_is : (w : Whole) (marks : List Bool) → AreMultis w marks → (site : Site) → is_marked_use w marks site ≡ is_use_of (is_multi_used w) site
use_is w marks m (IntegerAt expected) = refl
use_is w marks m (TruthAt expected) = refl
use_is w marks m PartAt = refl
use_is w marks m (MetAt expected bound) = refl
use_is w marks m (UsedAt expected bound) = refl
use_is w marks m (CalledAt expected callee count) = refl
use_is w marks m (TakenAt expected None count) = refl
use_is w marks m (TakenAt expected (Some s) count) = mark_is w marks m s
use_is w marks m (ConstantAt in_pattern expected found) = refl
use_is w marks m (BoundAt ty) = refl

uses_are : (w : Whole) (marks : List Bool) → AreMultis w marks → (sites : List Site) → list_any (is_marked_use w marks) sites ≡ list_any (is_use_of (is_multi_used w)) sites
uses_are w marks m [] = refl
uses_are w marks m (s ∷ sites) = ap (λ b. b || list_any (is_marked_use w marks) sites) (use_is w marks m s) ∙ ap (λ b. is_use_of (is_multi_used w) s || b) (uses_are w marks m sites)

-- whether one of parts uses such a term
uses_judged : (w : Whole) (multis : Bor (List Bool)) → AreMultis w multis.now → (sites : List Site) → (judge_all w (unjudged multis) sites).multi_taken ≡ list_any (is_use_of (is_multi_used w)) sites
uses_judged w multis m sites = marks_any w (unjudged multis) sites ∙ or_false (list_any (is_marked_use w multis.now) sites) ∙ uses_are w multis.now m sites

-- ---- the row of a rule

-- the tests in order
abbrev pub tests : (a b c d e u f g x h i k l : Bool) → Option Row
tests a b c d e u f g x h i k l =
    cond a (Some row.PatternTermMisfit) (cond b (Some row.PatternTypeMisfit) (cond c (Some row.LiteralMisfit) (cond d (Some row.ConstantUndeclared) (cond e (Some row.VariableTypeMisfit) (cond u (Some row.MultiExtractor) (cond f (Some row.ExprNameMisfit) (cond g (Some row.ExprTypeMisfit) (cond x (Some row.ImpureCondition) (cond h (Some row.PartialCall) (cond i (Some row.ImpureCall) (cond k (Some row.MultiCall) (cond l (Some row.ManyNodes) None))))))))))))

-- if they give no row, each fails
pub record AllFail (a b c d e u f g x h i k l : Bool) : Type 0 where
  pub arity : a ≡ false
  pub taken : b ≡ false
  pub literal : c ≡ false
  pub constants : d ≡ false
  pub met : e ≡ false
  pub used : u ≡ false
  pub name : f ≡ false
  pub typing : g ≡ false
  pub condition : x ≡ false
  pub partial : h ≡ false
  pub impure : i ≡ false
  pub multi : k ≡ false
  pub size : l ≡ false

pub tests_fail : (a b c d e u f g x h i k l : Bool) → tests a b c d e u f g x h i k l ≡ None → AllFail a b c d e u f g x h i k l
tests_fail true b c d e u f g x h i k l none = absurd cc
tests_fail false true c d e u f g x h i k l none = absurd cc
tests_fail false false true d e u f g x h i k l none = absurd cc
tests_fail false false false true e u f g x h i k l none = absurd cc
tests_fail false false false false true u f g x h i k l none = absurd cc
tests_fail false false false false false true f g x h i k l none = absurd cc
tests_fail false false false false false false true g x h i k l none = absurd cc
tests_fail false false false false false false false true x h i k l none = absurd cc
tests_fail false false false false false false false false true h i k l none = absurd cc
tests_fail false false false false false false false false false true i k l none = absurd cc
tests_fail false false false false false false false false false false true k l none = absurd cc
tests_fail false false false false false false false false false false false true l none = absurd cc
tests_fail false false false false false false false false false false false false true none = absurd cc
tests_fail false false false false false false false false false false false false false none = record { arity = refl; taken = refl; literal = refl; constants = refl; met = refl; used = refl; name = refl; typing = refl; condition = refl; partial = refl; impure = refl; multi = refl; size = refl }

-- the tests of a rule under what gives its head, over the parts before its right side and those of it, and whether it has too many nodes
abbrev pub tests_of : Whole → RuleDef → Option Signature → List Site → List Site → Bool → Option Row
tests_of w r o ls rs large =
    tests (on o (λ (s : Signature). not (length r.args == length s.args)) || list_any (is_untaken w) (ls ++ rs)) (list_any (is_mistaken w) (ls ++ rs)) (list_any (is_misplaced w) (ls ++ rs)) (list_any is_undeclared (ls ++ rs)) (list_any is_met_otherwise (ls ++ rs)) (on o (λ (s : Signature). not s.multi && list_any (is_use_of (is_multi_used w)) ls)) (list_any (is_unknown w) (ls ++ rs))
    (list_any (is_mistyped w) (ls ++ rs)) (list_any is_impure_call ls) (on o (λ (s : Signature). not s.partial && list_any is_partial_call rs)) (on o (λ (s : Signature). s.pure && list_any is_impure_call rs))
    (on o (λ (s : Signature). not s.multi && list_any is_multi_call (ls ++ rs))) large

row_tests : (w : Whole) (r : RuleDef) → row_of w r ≡ tests_of w r (termed w r.term) (left_of w r) (right_side_of w r).sites (is_large w r)
row_tests w r = refl

-- tests that are the same give one row
same_tests : {a a2 : Bool} {b b2 : Bool} {c c2 : Bool} {d d2 : Bool} {e e2 : Bool} {u u2 : Bool} {f f2 : Bool} {g g2 : Bool} {x x2 : Bool} {h h2 : Bool} {i i2 : Bool} {k k2 : Bool} {l l2 : Bool} → a ≡ a2 → b ≡ b2 → c ≡ c2 → d ≡ d2 → e ≡ e2 → u ≡ u2 → f ≡ f2 → g ≡ g2 → x ≡ x2 → h ≡ h2 → i ≡ i2 → k ≡ k2 → l ≡ l2
    → tests a b c d e u f g x h i k l ≡ tests a2 b2 c2 d2 e2 u2 f2 g2 x2 h2 i2 k2 l2
same_tests ea eb ec ed ee eu ef eg ex eh ei ek el = rw (ea, eb, ec, ed, ee, eu, ef, eg, ex, eh, ei, ek, el) refl

-- the last test stands alone after the others
last_test : (a b c d e u f g x h i k l : Bool) → tests a b c d e u f g x h i k l ≡ or_later (tests a b c d e u f g x h i k false) (cond l (Some row.ManyNodes) None)
last_test true b c d e u f g x h i k l = refl
last_test false true c d e u f g x h i k l = refl
last_test false false true d e u f g x h i k l = refl
last_test false false false true e u f g x h i k l = refl
last_test false false false false true u f g x h i k l = refl
last_test false false false false false true f g x h i k l = refl
last_test false false false false false false true g x h i k l = refl
last_test false false false false false false false true x h i k l = refl
last_test false false false false false false false false true h i k l = refl
last_test false false false false false false false false false true i k l = refl
last_test false false false false false false false false false false true k l = refl
last_test false false false false false false false false false false false true l = refl
last_test false false false false false false false false false false false false true = refl
last_test false false false false false false false false false false false false false = refl

-- what is judged of a rule is the row that it breaks, but for that of its nodes
pub lowest_is : (w : Whole) (r : RuleDef) (s : Signature) (own : Called) (multis : Bor (List Bool)) → AreMultis w multis.now → termed w r.term ≡ Some s → IsCalled w s own
    → or_later (lowest own (length r.args) (judge_all w (unjudged multis) (left_of w r)) (judge_all w (unjudged multis) (right_side_of w r).sites)) (cond (is_large w r) (Some row.ManyNodes) None) ≡ row_of w r
lowest_is w r s own multis marks is h =
    let ls = left_of w r in
    let rs = (right_side_of w r).sites in
    let all = ls ++ rs in
    let long : length own.args.now ≡ length s.args = sym (length-map own.args.now Some) ∙ ap length (sym h.args) ∙ length-map s.args (type_named w.defs) in
    let l = judge_all w (unjudged multis) ls in
    let m = judge_all w (unjudged multis) rs in
    let both : (f : Judged → Bool) (test : Site → Bool) → ((j : Judged) (x : Site) → f (judge w j x) ≡ test x || f j) → f (unjudged multis) ≡ false → f l || f m ≡ list_any test all = λ f test step new. any_both w f test step multis new ls rs in
    let arity : not (length r.args == length own.args.now) || (l.untaken || m.untaken) ≡ not (length r.args == length s.args) || list_any (is_untaken w) all =
    ap (λ n. not (length r.args == n) || (l.untaken || m.untaken)) long ∙ ap (λ b. not (length r.args == length s.args) || b) (both (λ j. j.untaken) (is_untaken w) (λ j x. refl) refl) in
    let condition : l.impure ≡ list_any is_impure_call ls = any_new w (λ j. j.impure) is_impure_call (λ j x. refl) multis refl ls in
    let partial : not own.partial && m.partial ≡ not s.partial && list_any is_partial_call rs = ap (λ b. not b && m.partial) (sym h.partial) ∙ ap (λ b. not s.partial && b) (any_new w (λ j. j.partial) is_partial_call (λ j x. refl) multis refl rs) in
    let impure : own.pure && m.impure ≡ s.pure && list_any is_impure_call rs = ap (λ b. b && m.impure) (sym h.pure) ∙ ap (λ b. s.pure && b) (any_new w (λ j. j.impure) is_impure_call (λ j x. refl) multis refl rs) in
    let multi : not own.multi && (l.multi || m.multi) ≡ not s.multi && list_any is_multi_call all = ap (λ b. not b && (l.multi || m.multi)) (sym h.multi) ∙ ap (λ b. not s.multi && b) (both (λ j. j.multi) is_multi_call (λ j x. refl) refl) in
    let used : not own.multi && l.multi_taken ≡ not s.multi && list_any (is_use_of (is_multi_used w)) ls = ap (λ b. not b && l.multi_taken) (sym h.multi) ∙ ap (λ b. not s.multi && b) (uses_judged w multis marks ls) in
    let none : false ≡ false = refl in
    ap (λ o. or_later o (cond (is_large w r) (Some row.ManyNodes) None)) (same_tests arity (both (λ j. j.mistaken) (is_mistaken w) (λ j x. refl) refl) (both (λ j. j.misplaced) (is_misplaced w) (λ j x. refl) refl) (both (λ j. j.undeclared) is_undeclared (λ j x. refl) refl)
    (both (λ j. j.met_otherwise) is_met_otherwise (λ j x. refl) refl) used (both (λ j. j.unknown) (is_unknown w) (λ j x. refl) refl) (both (λ j. j.mistyped) (is_mistyped w) (λ j x. refl) refl) condition partial impure multi none)
    ∙ sym (row_tests w r ∙ ap (λ (o : Option Signature). tests_of w r o ls rs (is_large w r)) is ∙ last_test _ _ _ _ _ _ _ _ _ _ _ _ (is_large w r))

-- if a rule breaks no row, each test fails
pub row_fails : (w : Whole) (r : RuleDef) → row_of w r ≡ None
    → AllFail (on (termed w r.term) (λ (s : Signature). not (length r.args == length s.args)) || list_any (is_untaken w) (sites_of w r)) (list_any (is_mistaken w) (sites_of w r)) (list_any (is_misplaced w) (sites_of w r)) (list_any is_undeclared (sites_of w r))
    (list_any is_met_otherwise (sites_of w r)) (on (termed w r.term) (λ (s : Signature). not s.multi && list_any (is_use_of (is_multi_used w)) (left_of w r))) (list_any (is_unknown w) (sites_of w r)) (list_any (is_mistyped w) (sites_of w r)) (list_any is_impure_call (left_of w r))
    (on (termed w r.term) (λ (s : Signature). not s.partial && list_any is_partial_call (right_side_of w r).sites)) (on (termed w r.term) (λ (s : Signature). s.pure && list_any is_impure_call (right_side_of w r).sites))
    (on (termed w r.term) (λ (s : Signature). not s.multi && list_any is_multi_call (sites_of w r))) (is_large w r)
row_fails w r h = tests_fail _ _ _ _ _ _ _ _ _ _ _ _ _ h

-- no part of its right side is unknown
pub all_known : (w : Whole) (r : RuleDef) → row_of w r ≡ None → list_any (is_unknown w) (sites_of w r) ≡ false
all_known w r h = (row_fails w r h).name
