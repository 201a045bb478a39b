-- The rules of simple definitions have no fault.
use Rattle.std.proofs.Common.{◌≡◌, ℕ, ℤ, pos, Bool, true, false, List, [], ◌∷◌, ◌++◌, map, length, Option, Some, None, refl, sym, ap, ap₂, ◌∙◌, subst}
use Rattle.std.specs.Prelude.{not, ◌&&◌, ◌==◌, nat_le}
use Rattle.std.specs.List.{AllByRecursion, list_any}
use Rattle.std.proofs.lemmas.Bool.{or_from, eq-eqb}
use Rattle.std.proofs.lemmas.List.{append-nil, length-map}
use Rattle.isle_core.proofs.AllLaws.{all_append}
use Rattle.isle_core.specs.declared.position.Pos.{Pos}
use Rattle.isle_core.specs.Rule.{Rule as CoreRule}
use Rattle.isle_ast.specs.Tree.{Def, TypeDecl, Decl, ExternConstructor, ExternExtractor, ExternConst, Extractor, Converter, Rule, Passed, Pattern, Expr, IfLet}
use Rattle.isle_declarations.specs.Signatures.{Signature}
use Rattle.isle_templates.specs.Elaborated.{rule_expanded}
use Rattle.isle_templates.specs.NodeCount.{rule_nodes}
use Rattle.isle_templates.specs.Substituted.{whole_templates}
use Rattle.isle_types.specs.declared.row.Row.{Row}
use Rattle.isle_types.specs.TypeRows.{on}
use Rattle.isle_terms.specs.Whole.{Whole, whole_of, termed}
use Rattle.isle_sema.specs.Breaks.{breaks}
use Rattle.isle_sema.specs.Fault.{OfRules, rows_of, broken_in, fault_in}
use Rattle.isle_sema.specs.RulePass.{patterns_of, right_side_of, left_of, sites_of, written_pass}
use Rattle.isle_sema.specs.RuleRows.{is_untaken, is_mistaken, is_misplaced, is_undeclared, is_met_otherwise, is_multi_used, is_use_of, is_unknown, is_mistyped}
use Rattle.isle_sema.specs.RuleRows.{is_call_of}
use Rattle.isle_sema.specs.Site.{Site}
use Rattle.isle_sema.specs.Templates.{templates}
use Rattle.isle_writing.specs.Erased.{all_erased}
use Rattle.isle_prelude_accepted.proofs.Simple.{AreSimple, IsSound, IsSoundRule}
use Rattle.isle_prelude_accepted.proofs.Callees.{declared_callee}
use Rattle.isle_prelude_accepted.proofs.RuleParts.{variable_of, IsFresh, rule_on, rule_fit, rule_made, rule_written, few_nodes}
use Rattle.isle_prelude_accepted.proofs.Splits.{none_broken, none_in}
use Rattle.isle_prelude_accepted.proofs.TemplateFaults.{any_none}
use Rattle.isle_prelude_accepted.proofs.TypedExprs.{IsGoodSite}
use Rattle.isle_prelude_accepted.proofs.TypeFaults.{le_true, sound_at}

-- ---- tests of what may be there

on_none : {X : Type 0} (test : X → Bool) (o : Option X) → ((x : X) → test x ≡ false) → on o test ≡ false
on_none test None each = refl
on_none test (Some x) each = each x

and_none : (a b : Bool) → b ≡ false → (a && b) ≡ false
and_none true b e = e
and_none false b e = refl

-- ---- sites

fresh_good : (w : Whole) (site : Site) → IsFresh site → IsGoodSite w site
fresh_good w site f =
    subst (IsGoodSite w) (sym f.1) (record { taken = refl; typed = refl; placed = refl; declared = refl; met = refl; known = refl; fits = refl; whole = refl; once = refl })

all_fresh : (w : Whole) (sites : List Site) → AllByRecursion IsFresh sites → AllByRecursion (IsGoodSite w) sites
all_fresh w [] h = tt
all_fresh w (site ∷ sites) h = (fresh_good w site h.0, all_fresh w sites h.1)

no_use : (test : Signature → Bool) (site : Site) → IsFresh site → is_use_of test site ≡ false
no_use test site f = ap (is_use_of test) f.1

no_call : (test : Signature → Bool) (site : Site) → IsFresh site → is_call_of test site ≡ false
no_call test site f = ap (is_call_of test) f.1

-- ---- one rule

-- a rule of these parts as a definition
abbrev rule_def : Option (List ℕ) → (term : List ℕ) → (params : List (List ℕ)) → Expr → Pos → Def
rule_def name term params rhs at = Rule name (pos 0) term (map variable_of params) [] rhs at

module _ (defs : List Def) (h : AreSimple (all_erased defs)) where
  module _ (before : List Def) (name : Option (List ℕ)) (term : List ℕ) (patterns : List Pattern) (rhs : Expr) (at : Pos) (s : IsSoundRule (all_erased defs) term patterns rhs) where
    rows_kept : AllByRecursion (λ (r : Row). breaks r (record { whole = whole_of defs; before = before }) (rule_def name term s.params rhs at) ≡ false) (rows_of OfRules)
    rows_kept =
        let w = whole_of defs in
        let r = rule_on name term s.params rhs at in
        let f = rule_fit defs h name term patterns rhs at s in
        let c = declared_callee defs h term false false false false s.args s.ret s.declared in
        let fresh : AllByRecursion IsFresh (left_of w r) = subst (AllByRecursion IsFresh) (sym (append-nil (patterns_of w r).sites)) f.left.fresh in
        let good : AllByRecursion (IsGoodSite w) (sites_of w r) =
        all_append (IsGoodSite w) (left_of w r) (right_side_of w r).sites (all_fresh w (left_of w r) fresh) f.right.parts in
        let none = λ (test : Site → Bool) (each : (x : Site) → IsGoodSite w x → test x ≡ false). any_none (IsGoodSite w) test (sites_of w r) each good in
        let right =
        λ (test : Site → Bool) (each : (x : Site) → IsGoodSite w x → test x ≡ false). any_none (IsGoodSite w) test (right_side_of w r).sites each f.right.parts in
        let left = λ (test : Site → Bool) (each : (x : Site) → IsFresh x → test x ≡ false). any_none IsFresh test (left_of w r) each fresh in
        let many : (length (map variable_of s.params) == length c.1.signature.args) ≡ true =
        eq-eqb (length (map variable_of s.params)) (length c.1.signature.args) (length-map s.params variable_of ∙ s.many ∙ sym (ap length c.1.takes)) in
        let small : on (written_pass w 0 r) (λ (x : CoreRule). not (nat_le (rule_nodes (rule_expanded (whole_templates (templates w)) x)) 4096)) ≡ false =
        ap (λ o. on o (λ (x : CoreRule). not (nat_le (rule_nodes (rule_expanded (whole_templates (templates w)) x)) 4096))) (rule_written w name term s.params rhs at f 0)
        ∙ ap not (le_true (rule_nodes (rule_expanded (whole_templates (templates w)) (rule_made w name term s.params rhs at f 0))) 4096 (few_nodes w name term s.params rhs at f (whole_templates (templates w)) 0)) in (
          or_from (on (termed w term) (λ (x : Signature). not (length (map variable_of s.params) == length x.args))) (list_any (is_untaken w) (sites_of w r))
              (ap (λ o. on o (λ (x : Signature). not (length (map variable_of s.params) == length x.args))) c.1.there ∙ ap not many) (none (is_untaken w) (λ x k. k.taken)),
          (
            none (is_mistaken w) (λ x k. k.typed),
            (
              none (is_misplaced w) (λ x k. k.placed),
              (
                none is_undeclared (λ x k. k.declared),
                (
                  none is_met_otherwise (λ x k. k.met),
                  (
                    on_none (λ (x : Signature). not x.multi && list_any (is_use_of (is_multi_used w)) (left_of w r)) (termed w term) (λ x. and_none (not x.multi) _ (left (is_use_of (is_multi_used w)) (no_use (is_multi_used w)))),
                    (
                      none (is_unknown w) (λ x k. k.known),
                      (
                        none (is_mistyped w) (λ x k. k.fits),
                        (
                          left (is_call_of (λ (t : Signature). not t.pure)) (no_call (λ (t : Signature). not t.pure)),
                          (
                            on_none (λ (x : Signature). not x.partial && list_any (is_call_of (λ (t : Signature). t.partial)) (right_side_of w r).sites) (termed w term)
                                (λ x. and_none (not x.partial) _ (right (is_call_of (λ (t : Signature). t.partial)) (λ y k. k.whole))),
                            (
                              ap (λ o. on o (λ (x : Signature). x.pure && list_any (is_call_of (λ (t : Signature). not t.pure)) (right_side_of w r).sites)) c.1.there
                                  ∙ ap (λ (x : Signature). x.pure && list_any (is_call_of (λ (t : Signature). not t.pure)) (right_side_of w r).sites) c.2,
                              (
                                on_none (λ (x : Signature). not x.multi && list_any (is_call_of (λ (t : Signature). t.multi)) (sites_of w r)) (termed w term)
                                    (λ x. and_none (not x.multi) _ (none (is_call_of (λ (t : Signature). t.multi)) (λ y k. k.once))),
                                (small, tt),
                              ),
                            ),
                          ),
                        ),
                      ),
                    ),
                  ),
                ),
              ),
            ),
          ),
        )

  rule_unbroken : (before : List Def) (name : Option (List ℕ)) (prio : ℤ) (term : List ℕ) (args : List Pattern) (iflets : List IfLet) (rhs : Expr) (at : Pos)
      → IsSound (all_erased defs) (Rule name prio term args iflets rhs at) → broken_in OfRules (record { whole = whole_of defs; before = before }) (Rule name prio term args iflets rhs at) ≡ None
  rule_unbroken before name prio term args iflets rhs at s =
      let form : Rule name prio term args iflets rhs at ≡ rule_def name term s.2.params rhs at =
      ap (λ z. Rule name z term args iflets rhs at) s.0 ∙ ap₂ (λ ps cs. Rule name (pos 0) term ps cs rhs at) s.2.are_variables s.1 in
      subst (λ d. broken_in OfRules (record { whole = whole_of defs; before = before }) d ≡ None) (sym form)
      (none_broken (λ (r : Row). breaks r (record { whole = whole_of defs; before = before }) (rule_def name term s.2.params rhs at)) (rows_of OfRules) (rows_kept before name term args rhs at s.2))

  unbroken : (before : List Def) (d : Def) (after : List Def) → defs ≡ before ++ d ∷ after
      → broken_in OfRules (record { whole = whole_of defs; before = before }) d ≡ None
  unbroken before (Rule name prio term args iflets rhs at) after e =
      rule_unbroken before name prio term args iflets rhs at (sound_at defs h before (Rule name prio term args iflets rhs at) after e)
  unbroken before (Extractor term params template at) after e = refl
  unbroken before (TypeDecl name x n body at) after e = refl
  unbroken before (Decl term pure multi partial recursive args ret at) after e = refl
  unbroken before (ExternConstructor term func at) after e = refl
  unbroken before (ExternExtractor term func infallible at) after e = refl
  unbroken before (ExternConst name ty at) after e = refl
  unbroken before (Converter from to term at) after e = refl
  unbroken before (Passed head at) after e = refl

  -- no rule has a fault
  pub rules_unbroken : fault_in OfRules (whole_of defs) ≡ None
  rules_unbroken = none_in OfRules (whole_of defs) [] defs unbroken
