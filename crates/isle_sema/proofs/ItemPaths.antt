-- Items stand only among the paths of rules of a term that answers several times.
use Rattle.std.proofs.Common.{◌≡◌, ℕ, zero, suc, ◌+◌, List, [], ◌∷◌, ◌++◌, Bool, true, false, cond, Option, Some, None, refl}
use Rattle.std.specs.Prelude.{Contains}
use Rattle.std.specs.List.{AllByRecursion}
use Rattle.isle_core.specs.declared.TermId.{TermId}
use Rattle.isle_core.specs.declared.types.Term.{Term}
use Rattle.isle_core.specs.CalledTerms.{Extractor, called_by, extracted_by, extracted_by_all, unless_made, extracted_in, called_in_iflets, called_in}
use Rattle.isle_core.specs.Calling.{Calling, ByTurns, ByCases, NoCall, HasKind, calling, answers_often, is_fallible, is_several, kind_of, impure}
use Rattle.isle_core.specs.Expr.{Expr}
use Rattle.isle_core.specs.Making.{Making, MakesVariant, MakesStruct, MakesNothing, making}
use Rattle.isle_core.specs.OccurringConstants.{expr_constants}
use Rattle.isle_core.specs.Opening.{Opening, AsVariant, AsStruct, ByExtractor, opening, answer_path, result_path, part_path}
use Rattle.isle_core.specs.Path.{Path, Nowhere, Arg, ConstBool, ConstInt, ConstPrim, Extracted, Called, Chosen, MadeVariant, MadeStruct, VariantField, StructField, Wrapped, Inner, Part, Paths}
use Rattle.isle_core.specs.Pattern as pattern
use Rattle.isle_core.specs.Pattern.{Pattern, Patterns, NoPattern, APattern}
use Rattle.isle_core.specs.RightSide.{term_path, path}
use Rattle.isle_core.specs.Rule.{Environment, IfLet, Rule}
use Rattle.isle_core.specs.RulePaths.{with_inner, expr_paths, opening_paths, pattern_paths, parts_paths, each_paths, args_paths, iflets_paths, rule_paths, rules_paths}
use Rattle.isle_core.specs.Single.{AreOften}
use Rattle.isle_core.specs.Tests.{Places, no_places, met_after, after, after_parts, after_each, args_after, iflets_after, rule_places}
use Rattle.isle_core.proofs.ExprPaths.{ArePlacedSo, all_append, with_placed, constructed, expr_each, path_so}
use Rattle.isle_core.proofs.RulePairs.{all_at}
use Rattle.isle_sema.proofs.OftenTerms.{Often, often_first, often_rest, term_often, OpensOften, opening_often}

module _ (env : Environment) (t : Term) where
  -- an item stands only in a term that answers several times
  abbrev FitsItem : Path → Type 0
  FitsItem (Chosen p) = is_several (kind_of t.kind) ≡ true
  FitsItem Nowhere = Unit {0}
  FitsItem (Arg i) = Unit {0}
  FitsItem (ConstBool ty b) = Unit {0}
  FitsItem (ConstInt ty n) = Unit {0}
  FitsItem (ConstPrim name) = Unit {0}
  FitsItem (Extracted term p) = Unit {0}
  FitsItem (Called term ps k) = Unit {0}
  FitsItem (MadeVariant ty variant ps) = Unit {0}
  FitsItem (MadeStruct ty ps) = Unit {0}
  FitsItem (VariantField variant i p) = Unit {0}
  FitsItem (StructField i p) = Unit {0}
  FitsItem (Wrapped p) = Unit {0}
  FitsItem (Inner p) = Unit {0}
  FitsItem (Part i p) = Unit {0}

  -- a call that answers several times stands in such a term
  several_fits : (c : Calling) → HasKind (Often t) c → answers_often c ≡ true → is_several (kind_of t.kind) ≡ true
  several_fits (ByTurns callee kind) h e = h e
  several_fits (ByCases callee kind) h e = h e
  several_fits NoCall h e = cc

  -- a path with its item or its inner value
  inner_fits : (c : Calling) (p : Path) → FitsItem p → HasKind (Often t) c → AllByRecursion FitsItem (with_inner c p)
  inner_fits c p own h = pick (answers_often c) (is_fallible c) refl
    where
      pick : (b fallible : Bool) → answers_often c ≡ b → AllByRecursion FitsItem (cond b (p ∷ Chosen p ∷ []) (cond fallible (p ∷ Inner p ∷ []) (p ∷ [])))
      pick true fallible e = (own, (several_fits c h e, tt))
      pick false true e = (own, (tt, tt))
      pick false false e = (own, tt)

  answer_fits : (c : Calling) (p : Path) → FitsItem p → HasKind (Often t) c → FitsItem (answer_path c p)
  answer_fits c p own h = pick (answers_often c) (is_fallible c) refl
    where
      pick : (b fallible : Bool) → answers_often c ≡ b → FitsItem (cond b (Chosen p) (cond fallible (Inner p) p))
      pick true fallible e = several_fits c h e
      pick false true e = tt
      pick false false e = own

  term_fits : (mk : Making) (term : TermId) (ps : Paths) (k : ℕ) → HasKind (Often t) (calling env term) → AllByRecursion FitsItem (with_inner (calling env term) (term_path mk term ps k))
  term_fits MakesNothing term ps k h = inner_fits (calling env term) (Called term ps k) tt h
  term_fits (MakesVariant ty variant) term ps k h = inner_fits (calling env term) (MadeVariant ty variant ps) tt h
  term_fits (MakesStruct ty) term ps k h = inner_fits (calling env term) (MadeStruct ty ps) tt h

  -- the paths of an expression
  expr_fits : (e : Expr) (places : Places) (n : ℕ) → AreOften (Often t) env (called_by env e) → ArePlacedSo FitsItem places → AllByRecursion FitsItem (expr_paths env e places n)
  expr_fits e places n often a = expr_each FitsItem env (called_by env e) (expr_constants e) (record {
    nowhere = tt;
    truth = λ b. tt;
    number = λ ty k. tt;
    named = λ ty name c. tt;
    term = λ term ps k own. term_fits (making env term) term ps k (term_often (Often t) env term (λ e. often (constructed term) (own e)));
  }) e places n a (λ o c. c) (λ o c. c)

  -- ---- patterns

  met_fits : (o : Option Path) (x : ℕ) (p : Path) (places : Places) → FitsItem p → ArePlacedSo FitsItem places → ArePlacedSo FitsItem (met_after o x p places)
  met_fits None x p places h a = with_placed FitsItem places x p h a
  met_fits (Some q) x p places h a = a

  result_fits : (count i : ℕ) (p : Path) → FitsItem p → FitsItem (result_path count i p)
  result_fits zero i p h = tt
  result_fits (suc zero) i p h = h
  result_fits (suc (suc count)) i p h = tt

  part_fits : (opened : Opening) (i : ℕ) (p : Path) → OpensOften (Often t) opened → FitsItem (part_path opened i p)
  part_fits (AsVariant ty variant) i p h = tt
  part_fits (AsStruct ty) i p h = tt
  part_fits (ByExtractor term c count) i p h = result_fits count i (answer_path c (Extracted term p)) (answer_fits c (Extracted term p) tt h)

  opening_fits : (opened : Opening) (p : Path) → OpensOften (Often t) opened → AllByRecursion FitsItem (opening_paths opened p)
  opening_fits (AsVariant ty variant) p h = tt
  opening_fits (AsStruct ty) p h = tt
  opening_fits (ByExtractor term c count) p h = inner_fits c (Extracted term p) tt h

  mutual
    -- the paths of a pattern, and where variables stand after it
    pattern_fits : (q : Pattern) (p : Path) (places : Places) → AreOften (Often t) env (extracted_by env q) → FitsItem p → ArePlacedSo FitsItem places → AllByRecursion FitsItem (pattern_paths env q p) × ArePlacedSo FitsItem (after env q p places)
    pattern_fits (pattern.Term ty term qs) p places often h a =
        let o = opening_often (Often t) env term qs often in
        let rest = parts_fit qs (opening env term) 0 p places o (often_rest (Often t) env (unless_made env Extractor term) (extracted_by_all env qs) often) a in
        (all_append FitsItem (opening_paths (opening env term) p) (parts_paths env (opening env term) qs 0 p) (opening_fits (opening env term) p o) rest.0, rest.1)
    pattern_fits (pattern.BindPattern ty x q) p places often h a = pattern_fits q p (met_after (places x.0) x.0 p places) often h (met_fits (places x.0) x.0 p places h a)
    pattern_fits (pattern.And ty qs) p places often h a = each_fit qs p places often h a
    pattern_fits (pattern.Var ty x) p places often h a = (tt, met_fits (places x.0) x.0 p places h a)
    pattern_fits (pattern.ConstBool b) p places often h a = (tt, a)
    pattern_fits (pattern.ConstInt ty n) p places often h a = (tt, a)
    pattern_fits (pattern.ConstPrim ty name) p places often h a = (tt, a)
    pattern_fits (pattern.Wildcard ty) p places often h a = (tt, a)

    parts_fit : (qs : Patterns) (opened : Opening) (i : ℕ) (p : Path) (places : Places) → OpensOften (Often t) opened → AreOften (Often t) env (extracted_by_all env qs) → ArePlacedSo FitsItem places
        → AllByRecursion FitsItem (parts_paths env opened qs i p) × ArePlacedSo FitsItem (after_parts env opened qs i p places)
    parts_fit NoPattern opened i p places o often a = (tt, a)
    parts_fit (APattern q qs) opened i p places o often a =
        let part = part_path opened i p in
        let own = part_fits opened i p o in
        let one = pattern_fits q part places (often_first (Often t) env (extracted_by env q) (extracted_by_all env qs) often) own a in
        let rest = parts_fit qs opened (suc i) p (after env q part places) o (often_rest (Often t) env (extracted_by env q) (extracted_by_all env qs) often) one.1 in
        ((own, all_append FitsItem (pattern_paths env q part) (parts_paths env opened qs (suc i) p) one.0 rest.0), rest.1)

    each_fit : (qs : Patterns) (p : Path) (places : Places) → AreOften (Often t) env (extracted_by_all env qs) → FitsItem p → ArePlacedSo FitsItem places → AllByRecursion FitsItem (each_paths env qs p) × ArePlacedSo FitsItem (after_each env qs p places)
    each_fit NoPattern p places often h a = (tt, a)
    each_fit (APattern q qs) p places often h a =
        let one = pattern_fits q p places (often_first (Often t) env (extracted_by env q) (extracted_by_all env qs) often) h a in
        let rest = each_fit qs p (after env q p places) (often_rest (Often t) env (extracted_by env q) (extracted_by_all env qs) often) h one.1 in
        (all_append FitsItem (pattern_paths env q p) (each_paths env qs p) one.0 rest.0, rest.1)

  args_fit : (qs : List Pattern) (i : ℕ) (places : Places) → AreOften (Often t) env (extracted_in env qs) → ArePlacedSo FitsItem places → AllByRecursion FitsItem (args_paths env qs i) × ArePlacedSo FitsItem (args_after env qs i places)
  args_fit [] i places often a = (tt, a)
  args_fit (q ∷ qs) i places often a =
      let one = pattern_fits q (Arg i) places (often_first (Often t) env (extracted_by env q) (extracted_in env qs) often) tt a in
      let rest = args_fit qs (suc i) (after env q (Arg i) places) (often_rest (Often t) env (extracted_by env q) (extracted_in env qs) often) one.1 in
      ((tt, all_append FitsItem (pattern_paths env q (Arg i)) (args_paths env qs (suc i)) one.0 rest.0), rest.1)

  -- ---- rules

  iflets_fit : (cs : List IfLet) (places : Places) → AreOften (Often t) env (called_in_iflets env cs) → ArePlacedSo FitsItem places → AllByRecursion FitsItem (iflets_paths env cs places) × ArePlacedSo FitsItem (iflets_after env cs places)
  iflets_fit [] places often a = (tt, a)
  iflets_fit (c ∷ cs) places often a =
      let p = path env c.rhs places 0 in
      let own = expr_paths env c.rhs places 0 in
      let here = often_first (Often t) env (called_by env c.rhs ++ extracted_by env c.lhs) (called_in_iflets env cs) often in
      let value = expr_fits c.rhs places 0 (often_first (Often t) env (called_by env c.rhs) (extracted_by env c.lhs) here) a in
      let one = pattern_fits c.lhs p places (often_rest (Often t) env (called_by env c.rhs) (extracted_by env c.lhs) here) (path_so FitsItem env c.rhs places 0 value) a in
      let mid = after env c.lhs p places in
      let rest = iflets_fit cs mid (often_rest (Often t) env (called_by env c.rhs ++ extracted_by env c.lhs) (called_in_iflets env cs) often) one.1 in
      (all_append FitsItem (own ++ pattern_paths env c.lhs p) (iflets_paths env cs mid) (all_append FitsItem own (pattern_paths env c.lhs p) value one.0) rest.0, rest.1)

  rules_fit : (rules : List Rule) (n : ℕ) → AllByRecursion (λ (r : Rule). AreOften (Often t) env (called_in env r)) rules → AllByRecursion FitsItem (rules_paths env rules n)
  rules_fit [] n often = tt
  rules_fit (r ∷ rules) n often =
      let bound = args_after env r.args 0 no_places in
      let conditions = iflets_paths env r.iflets bound in
      let right = expr_paths env r.rhs (rule_places env r) n in
      let front = often_first (Often t) env (extracted_in env r.args ++ called_in_iflets env r.iflets) (called_by env r.rhs) often.0 in
      let one = args_fit r.args 0 no_places (often_first (Often t) env (extracted_in env r.args) (called_in_iflets env r.iflets) front) (record { by = λ x. tt }) in
      let more = iflets_fit r.iflets bound (often_rest (Often t) env (extracted_in env r.args) (called_in_iflets env r.iflets) front) one.1 in
      all_append FitsItem (rule_paths env r n) (rules_paths env rules (n + impure env r.rhs))
      (all_append FitsItem (args_paths env r.args 0) (conditions ++ right) one.0
      (all_append FitsItem conditions right more.0 (expr_fits r.rhs (rule_places env r) n (often_rest (Often t) env (extracted_in env r.args ++ called_in_iflets env r.iflets) (called_by env r.rhs) often.0) more.1)))
      (rules_fit rules (n + impure env r.rhs) often.1)

  -- an item among the paths of rules
  pub item_fits : (rules : List Rule) (n : ℕ) (p : Path) → AllByRecursion (λ (r : Rule). AreOften (Often t) env (called_in env r)) rules → Contains (rules_paths env rules n) (Chosen p) → is_several (kind_of t.kind) ≡ true
  item_fits rules n p often c = all_at FitsItem (rules_paths env rules n) (Chosen p) (rules_fit rules n often) c
