-- The rules of a term call terms that answer several times only where the term itself does.
use Rattle.std.proofs.Common.{◌≡◌, ⊎_elim, ℕ, ◌+◌, Bool, true, false, cond, List, [], ◌∷◌, ◌++◌, map, Option, Some, None, refl, sym, ap, ◌∙◌, subst}
use Rattle.std.specs.Prelude.{◌==◌, ◌&&◌, not, All, filter, option_map, slice_get}
use Rattle.std.specs.List.{AllByRecursion, list_any}
use Rattle.std.specs.Option.{unwrap_or}
use Rattle.std.proofs.lemmas.Bool.{or_parts, eqb-true}
use Rattle.std.proofs.lemmas.List.Elements.{All-from_recursion, recursion_from_All}
use Rattle.std.proofs.lemmas.Option.{same_Some, slice_get-map}
use Rattle.isle_core.specs.declared.TermId.{TermId}
use Rattle.isle_core.specs.declared.types.ExtractorKind.{ExtractorKind}
use Rattle.isle_core.specs.declared.types.ExtractorKind.TheVariants as extractor
use Rattle.isle_core.specs.declared.types.Term.{Term}
use Rattle.isle_core.specs.declared.types.TermKind.{TermKind}
use Rattle.isle_core.specs.declared.types.TermKind.TheVariants as kind
use Rattle.isle_core.specs.CalledTerms.{Extractor, CalledTerm, is_made, unless_made, extracted_by, extracted_by_all, extracted_in, called_by as terms_called, called_in_iflets, called_in, called}
use Rattle.isle_core.specs.Calling.{Calling, ByTurns, ByCases, NoCall, AnswersOnce, HasKind, extracting, extracting_by, extracting_kind, extracting_of, is_several, kind_by, kind_of}
use Rattle.isle_core.specs.Lawful.{called_as}
use Rattle.isle_core.specs.Pattern as core_pattern
use Rattle.isle_core.specs.Pattern.{Pattern as CorePattern, Patterns as CorePatterns, NoPattern as CoreNoPattern, APattern as CoreAPattern}
use Rattle.isle_core.specs.Rule.{Environment, IfLet, Rule, rules_of}
use Rattle.isle_core.specs.Single.{AreOften, AreSingle}
use Rattle.isle_core.proofs.Contained.{contained_cases, none_contained}
use Rattle.isle_ast.specs.Tree.{Def}
use Rattle.isle_declarations.specs.Signatures.{Signature, RuleDef, rule_defs}
use Rattle.isle_declarations.specs.Terms.{terms}
use Rattle.isle_templates.specs.Multi.{marked, uses_one, uses_any}
use Rattle.isle_templates.specs.Elaborated.{condition_expanded, rule_expanded}
use Rattle.isle_templates.specs.Renumbered.{condition_renamed, expr_renamed, order_of}
use Rattle.isle_templates.specs.Substituted.{whole_templates}
use Rattle.isle_terms.specs.Whole.{whole_of, termed, ret_type}
use Rattle.isle_terms.proofs.MadeTerms.{first_there, made_of, term_made}
use Rattle.isle_types.specs.TypeRows.{on}
use Rattle.isle_terms.specs.Locals.{of_patterns}
use Rattle.isle_sema.specs.Judging.{is_multi_call}
use Rattle.isle_sema.specs.RulePass.{patterns_of, conditions_of, right_side_of, left_of, sites_of, rule_pass, rules_pass}
use Rattle.isle_sema.specs.RuleRows.{declared_multis}
use Rattle.isle_sema.specs.Taken.{row_of}
use Rattle.isle_sema.specs.Templates.{templates}
use Rattle.isle_sema.specs.Typing.{Typed}
use Rattle.isle_sema.proofs.AnsweringTerms.{term_answers}
use Rattle.isle_sema.proofs.Firsts.{any_parts}
use Rattle.isle_sema.proofs.Judgements.{row_fails}
use Rattle.isle_sema.proofs.OftenTerms.{Often, often_single}
use Rattle.isle_sema.proofs.RuleLaws.{is_broken, none_fault, none_is}
use Rattle.isle_sema.proofs.RuleRoots.{rule_made, signature_at}
use Rattle.isle_sema.proofs.SingleCalls.{IsSingleKind, AreSingleConditions, expr_single, conditions_single, renamed_terms, both_often, expr_often}
use Rattle.isle_sema.proofs.SingleRules.{single_rule}
use Rattle.isle_sema.proofs.TypedParts.{IsGivenIn, given_in}
use Rattle.isle_sema.proofs.TypedRules.{signature_there}

-- ---- patterns

module _ (env : Environment) (t : Term) (test : ℕ → Bool) (by : (term : TermId) → test term.0 ≡ false → HasKind (Often t) (extracting env term)) where
  extractor_often : (term : TermId) (made : Bool) → HasKind (Often t) (extracting env term) → AreOften (Often t) env (cond made [] (record { term = term; role = Extractor } ∷ []))
  extractor_often term true h o c = absurd (none_contained o c)
  extractor_often term false h o c =
      let own : CalledTerm = record { term = term; role = Extractor } in
      ⊎_elim (λ (e : own ≡ o). subst (λ (x : CalledTerm). HasKind (Often t) (called_as env x.term x.role)) e h) (λ d. absurd (none_contained o d)) (contained_cases own [] o c)

  mutual
    pattern_often : (p : CorePattern) → uses_one test p ≡ false → AreOften (Often t) env (extracted_by env p)
    pattern_often (core_pattern.Var ty x) h o c = absurd (none_contained o c)
    pattern_often (core_pattern.ConstBool b) h o c = absurd (none_contained o c)
    pattern_often (core_pattern.ConstInt ty n) h o c = absurd (none_contained o c)
    pattern_often (core_pattern.ConstPrim ty name) h o c = absurd (none_contained o c)
    pattern_often (core_pattern.Wildcard ty) h o c = absurd (none_contained o c)
    pattern_often (core_pattern.Term ty term ps) h o c =
        let k = or_parts (test term.0) (uses_any test ps) h in
        both_often env t (unless_made env Extractor term) (extracted_by_all env ps) (extractor_often term (is_made env term) (by term k.0)) (patterns_often ps k.1) o c
    pattern_often (core_pattern.BindPattern ty x p) h o c = pattern_often p h o c
    pattern_often (core_pattern.And ty ps) h o c = patterns_often ps h o c

    patterns_often : (ps : CorePatterns) → uses_any test ps ≡ false → AreOften (Often t) env (extracted_by_all env ps)
    patterns_often CoreNoPattern h o c = absurd (none_contained o c)
    patterns_often (CoreAPattern p ps) h o c =
        let k = or_parts (uses_one test p) (uses_any test ps) h in
        both_often env t (extracted_by env p) (extracted_by_all env ps) (pattern_often p k.0) (patterns_often ps k.1) o c

  args_often : (ps : List CorePattern) → list_any (uses_one test) ps ≡ false → AreOften (Often t) env (extracted_in env ps)
  args_often [] h o c = absurd (none_contained o c)
  args_often (p ∷ ps) h o c =
      let k = or_parts (uses_one test p) (list_any (uses_one test) ps) h in
      both_often env t (extracted_by env p) (extracted_in env ps) (pattern_often p k.0) (args_often ps k.1) o c

  iflets_often : (cs : List IfLet) → list_any (λ (c : IfLet). uses_one test c.lhs) cs ≡ false → AreSingleConditions env cs → AreOften (Often t) env (called_in_iflets env cs)
  iflets_often [] h single o c = absurd (none_contained o c)
  iflets_often (d ∷ cs) h single o c =
      let k = or_parts (uses_one test d.lhs) (list_any (λ (c : IfLet). uses_one test c.lhs) cs) h in
      both_often env t (terms_called env d.rhs ++ extracted_by env d.lhs) (called_in_iflets env cs)
      (both_often env t (terms_called env d.rhs) (extracted_by env d.lhs) (expr_often env t d.rhs single.0) (pattern_often d.lhs k.0)) (iflets_often cs k.1 single.1) o c

-- ---- a term without a mark

-- it does not answer several times as an extractor
extractor_single : (env : Environment) (multi : Bool) (t : Term) (how : ExtractorKind) → multi ≡ false → HasKind (Often t) (extracting_by env multi how)
extractor_single env multi t extractor.Absent e = tt
extractor_single env multi t extractor.Internal e = tt
extractor_single env true t (extractor.External func infallible) e = absurd cc
extractor_single env false t (extractor.External func true) e = λ h. absurd cc
extractor_single env false t (extractor.External func false) e = λ h. absurd cc

several_flag : (multi partial : Bool) → is_several (kind_by multi partial) ≡ false → multi ≡ false
several_flag true partial e = cc
several_flag false partial e = refl

kind_single : (env : Environment) (t : Term) (k : TermKind) → IsSingleKind k → HasKind (Often t) (extracting_kind env k)
kind_single env t (kind.Variant ty variant) e = tt
kind_single env t (kind.Struct ty) e = tt
kind_single env t (kind.Decl pure multi partial recursive by how) e = extractor_single env multi t how (several_flag multi partial e)

marked_is : (xs : List Signature) (n : ℕ) (s : Signature) → slice_get xs n ≡ Some s → marked (map (λ (x : Signature). x.multi) xs) n ≡ s.multi
marked_is xs n s at = ap (λ (o : Option Bool). unwrap_or o false) (slice_get-map (λ (x : Signature). x.multi) xs n ∙ ap (option_map (λ (x : Signature). x.multi)) at)

-- if the term answers several times, so may what it calls
any_often : (t : Term) (c : Calling) → is_several (kind_of t.kind) ≡ true → HasKind (Often t) c
any_often t (ByTurns callee k) several = λ e. several
any_often t (ByCases callee k) several = λ e. several
any_often t NoCall several = tt

module _ (defs : List Def) (env : Environment) (g : IsGivenIn defs env) where
  term_single : (t : Term) (n : ℕ) (o : Option Term) → slice_get env.terms n ≡ o → marked (declared_multis (whole_of defs)) n ≡ false → HasKind (Often t) (extracting_of env o)
  term_single t n None at unmarked = tt
  term_single t n (Some c) at unmarked =
      let m = made_of (whole_of defs) (terms defs) env.terms n c g.terms at in
      let a = term_answers defs env n m.signature c g m.there m.made in
      kind_single env t c.kind (a.several ∙ sym (marked_is (terms defs) n m.signature m.there) ∙ unmarked)

  -- ---- a rule

  renamed_single : (order : List ℕ) (templates : List (Option CorePattern)) (cs : List IfLet) → AreSingleConditions env cs → AreSingleConditions env (map (condition_renamed order) (map (condition_expanded templates) cs))
  renamed_single order templates [] h = tt
  renamed_single order templates (c ∷ cs) h = (renamed_terms IsSingleKind env.terms order c.rhs h.0, renamed_single order templates cs h.1)

  -- what a rule calls answers as its term may
  rule_often : (i : ℕ) (r : RuleDef) (x : Rule) (t : Term) → row_of (whole_of defs) r ≡ None → rule_pass (whole_of defs) i r ≡ Some x → slice_get env.terms x.root_term.0 ≡ Some t → AreOften (Often t) env (called_in env x)
  rule_often i r x t row h root =
      let w = whole_of defs in
      let m = rule_made w i r x h in
      let d = signature_there w r.term x.root_term m.root in
      let made = term_made w (terms defs) env.terms x.root_term.0 d.0 g.terms (signature_at w r.term d.0 x.root_term d.1 m.root) in
      let a = term_answers defs env x.root_term.0 d.0 made.term g (signature_at w r.term d.0 x.root_term d.1 m.root) made.made in
      let same : made.term ≡ t = same_Some made.term t (sym made.there ∙ root) in
      let several : is_several (kind_of t.kind) ≡ d.0.multi = ap (λ (u : Term). is_several (kind_of u.kind)) (sym same) ∙ a.several in
      by d.0 d.1 several d.0.multi refl
    where
      single : (s : Signature) → termed (whole_of defs) r.term ≡ Some s → s.multi ≡ false → AreOften (Often t) env (called_in env x)
      single s is e =
          let w = whole_of defs in
          let m = rule_made w i r x h in
          let y = m.written in
          let order = order_of (rule_expanded (whole_templates (templates w)) y) in
          let uses = single_rule w i r s x is e row h in
          let test = marked (declared_multis w) in
          let unmarked : (term : TermId) → test term.0 ≡ false → HasKind (Often t) (extracting env term) = λ term k. term_single t term.0 (slice_get env.terms term.0) refl k in
          let none = ap (λ b. not b && list_any is_multi_call (sites_of w r)) (sym e) ∙ ap (λ (o : Option Signature). on o (λ (z : Signature). not z.multi && list_any is_multi_call (sites_of w r))) (sym is) ∙ (row_fails w r row).multi in
          let both = any_parts is_multi_call (left_of w r) (right_side_of w r).sites none in
          let left = any_parts is_multi_call (patterns_of w r).sites (conditions_of w r).sites both.0 in
          let conditions = conditions_single defs env g (patterns_of w r).scope r.iflets y.iflets m.iflets left.1 in
          let right = expr_single defs env g (of_patterns (conditions_of w r).scope) (conditions_of w r).scope.next (ret_type w (termed w r.term)) r.rhs y.rhs m.rhs both.1 in
          let iflets : AreSingleConditions env x.iflets = ap_iflets m.is (renamed_single order (whole_templates (templates w)) y.iflets conditions) in
          let rhs = subst (λ (z : Rule). AreOften (Often t) env (terms_called env z.rhs)) m.is (expr_often env t (expr_renamed order y.rhs) (renamed_terms IsSingleKind env.terms order y.rhs right)) in
          both_often env t (extracted_in env x.args ++ called_in_iflets env x.iflets) (terms_called env x.rhs)
          (both_often env t (extracted_in env x.args) (called_in_iflets env x.iflets) (args_often env t test unmarked x.args uses.args) (iflets_often env t test unmarked x.iflets uses.iflets iflets)) rhs
        where
          ap_iflets : {z : Rule} → z ≡ x → AreSingleConditions env z.iflets → AreSingleConditions env x.iflets
          ap_iflets e k = subst (λ (u : Rule). AreSingleConditions env u.iflets) e k

      by : (s : Signature) → termed (whole_of defs) r.term ≡ Some s → is_several (kind_of t.kind) ≡ s.multi → (multi : Bool) → s.multi ≡ multi → AreOften (Often t) env (called_in env x)
      by s is several true e = λ o c. any_often t (called_as env o.term o.role) (several ∙ e)
      by s is several false e = single s is e

-- what a rule calls answers as the term may whose number it has
abbrev IsOftenRule : Environment → Rule → Type 0
IsOftenRule env r = (t : Term) → slice_get env.terms r.root_term.0 ≡ Some t → AreOften (Often t) env (called_in env r)

rules_often : (defs : List Def) (env : Environment) (i : ℕ) (rules : List RuleDef) (xs : List Rule) → IsGivenIn defs env → list_any (is_broken (whole_of defs)) rules ≡ false → rules_pass (whole_of defs) i rules ≡ Some xs → AllByRecursion (IsOftenRule env) xs
rules_often defs env i [] xs g rows h = subst (AllByRecursion (IsOftenRule env)) (same_Some [] xs h) tt
rules_often defs env i (r ∷ rules) xs g rows h =
    let w = whole_of defs in
    let f = first_there (rule_pass w i r) (rules_pass w (i + 1) rules) xs h in
    let k = or_parts (is_broken w r) (list_any (is_broken w) rules) rows in
    subst (AllByRecursion (IsOftenRule env)) (sym f.all)
    (λ t root. rule_often defs env g i r f.first t (none_is (row_of w r) k.0) f.here root, rules_often defs env (i + 1) rules f.others g k.1 f.found)

-- ---- the rules of a term

among : (env : Environment) (id : TermId) (t : Term) (r : Rule) (rs : List Rule) (b : Bool) → slice_get env.terms id.0 ≡ Some t → r.root_term.0 == id.0 ≡ b → IsOftenRule env r → AllByRecursion (λ (r : Rule). AreOften (Often t) env (called_in env r)) rs
    → AllByRecursion (λ (r : Rule). AreOften (Often t) env (called_in env r)) (cond b (r ∷ rs) rs)
among env id t r rs true at same h rest = (h t (ap (slice_get env.terms) (eqb-true r.root_term.0 id.0 same) ∙ at), rest)
among env id t r rs false at same h rest = rest

of_terms : (env : Environment) (id : TermId) (t : Term) (rs : List Rule) → slice_get env.terms id.0 ≡ Some t → AllByRecursion (IsOftenRule env) rs → AllByRecursion (λ (r : Rule). AreOften (Often t) env (called_in env r)) (filter (λ (r : Rule). r.root_term.0 == id.0) rs)
of_terms env id t [] at h = tt
of_terms env id t (r ∷ rs) at h = among env id t r (filter (λ (r : Rule). r.root_term.0 == id.0) rs) (r.root_term.0 == id.0) at refl h.0 (of_terms env id t rs at h.1)

-- what the rules of a term call answers several times only where the term does
pub typed_often : (defs : List Def) (env : Environment) (id : TermId) (t : Term) → Typed defs env → slice_get env.terms id.0 ≡ Some t → All (λ (r : Rule). AreOften (Often t) env (called_in env r)) (rules_of env id)
typed_often defs env id t h at =
    let g = given_in h in
    All-from_recursion (λ (r : Rule). AreOften (Often t) env (called_in env r)) (rules_of env id) (of_terms env id t env.rules at (rules_often defs env 0 (rule_defs defs) env.rules g (none_fault (whole_of defs) [] defs g.rules_kept) g.rules))

all_called : (env : Environment) (t : Term) (rs : List Rule) → AllByRecursion (λ (r : Rule). AreOften (Often t) env (called_in env r)) rs → AreOften (Often t) env (called env rs)
all_called env t [] h o c = absurd (none_contained o c)
all_called env t (r ∷ rs) h o c = both_often env t (called_in env r) (called env rs) h.0 (all_called env t rs h.1) o c

-- so the rules of a term that answers at most once call only such terms
pub typed_single : (defs : List Def) (env : Environment) (id : TermId) (t : Term) → Typed defs env → slice_get env.terms id.0 ≡ Some t → AnswersOnce (kind_of t.kind) → AreSingle env (called env (rules_of env id))
typed_single defs env id t h at once =
    often_single env t (called env (rules_of env id)) once (all_called env t (rules_of env id) (recursion_from_All (λ (r : Rule). AreOften (Often t) env (called_in env r)) (rules_of env id) (typed_often defs env id t h at)))
