-- Each term that the paths of rules call is called by the rules.
use Rattle.std.proofs.Common.{◌≡◌, ⊎_elim, ℕ, zero, suc, ◌+◌, List, [], ◌∷◌, ◌++◌, Bool, true, false, cond, eqb, Option, Some, None, refl, sym, subst}
use Rattle.std.specs.Prelude.{Contains, slice_get}
use Rattle.std.specs.List.{AllByRecursion}
use Rattle.std.proofs.lemmas.List.Elements.{Contains-append_left, Contains-append_right}
use Rattle.isle_core.specs.declared.TermId.{TermId}
use Rattle.isle_core.specs.declared.types.Term.{Term as CodeTerm}
use Rattle.isle_core.specs.declared.types.TermKind.{TermKind}
use Rattle.isle_core.specs.declared.types.TermKind.TheVariants as term_kind
use Rattle.isle_core.specs.CalledTerms.{Extractor, CalledTerm, is_made_kind, is_made_term, is_made, unless_made, extracted_by, extracted_by_all, called_by, extracted_in, called_in_iflets, called_in, called}
use Rattle.isle_core.specs.Calling.{calling, extracting, answers_often, is_fallible, impure}
use Rattle.isle_core.specs.Expr.{Expr}
use Rattle.isle_core.specs.Making.{Making, MakesVariant, MakesStruct, MakesNothing, making_kind, making_of, making}
use Rattle.isle_core.specs.OccurringConstants.{TypedConstant, expr_constants}
use Rattle.isle_core.specs.Opening.{Opening, AsVariant, AsStruct, ByExtractor, opening_by, opening, answer_path, result_path, part_path}
use Rattle.isle_core.specs.Path.{Path, Arg, Called, Chosen, Extracted, Inner, MadeVariant, MadeStruct, Paths}
use Rattle.isle_core.specs.Pattern.{Pattern, Patterns, NoPattern, APattern, Var, ConstBool, ConstInt, ConstPrim, Wildcard, Term, BindPattern, And}
use Rattle.isle_core.specs.RightSide.{Places, no_places, path, term_path}
use Rattle.isle_core.specs.Rule.{Environment, IfLet, Rule}
use Rattle.isle_core.specs.RulePaths.{with_inner, expr_paths, opening_paths, pattern_paths, parts_paths, each_paths, args_paths, iflets_paths, rule_paths, rules_paths}
use Rattle.isle_core.specs.Tests.{met_after, after, after_parts, after_each, args_after, iflets_after, rule_places}
use Rattle.isle_core.proofs.Contained.{head_contained, contained_cases, none_contained}
use Rattle.isle_core.proofs.ExprPaths.{constructed, ArePlacedSo, HoldsOfParts, all_append, picked, path_so, expr_each}
use Rattle.isle_checks.proofs.CallPaths.{extracted, IsCallOf}

-- a path that calls one of these, if it calls a term
abbrev IsAmong : List CalledTerm → Path → Type 0
IsAmong terms (Called term ps instance) = Contains terms (constructed term)
IsAmong terms (Extracted term p) = Contains terms (extracted term)
IsAmong terms p = Unit {0}

-- so of what a term's pattern takes a path apart by
abbrev IsAmongOpening : List CalledTerm → Opening → Type 0
IsAmongOpening terms (AsVariant ty variant) = Unit {0}
IsAmongOpening terms (AsStruct ty) = Unit {0}
IsAmongOpening terms (ByExtractor term c count) = Contains terms (extracted term)

-- a term that makes nothing is no made one
not_made : (t : Option CodeTerm) → making_of t ≡ MakesNothing → is_made_term t ≡ false
not_made None e = refl
not_made (Some t) e = of_kind t.kind e
  where
    of_kind : (k : TermKind) → making_kind k ≡ MakesNothing → is_made_kind k ≡ false
    of_kind (term_kind.Decl pure multi partial recursive constructor extractor) h = refl
    of_kind (term_kind.Variant ty variant) h = cc
    of_kind (term_kind.Struct ty) h = cc

module _ (env : Environment) (terms : List CalledTerm) where
  -- these are among the terms
  abbrev AreCalled : List CalledTerm → Type 0
  AreCalled those = (o : CalledTerm) → Contains those o → Contains terms o

  called_left : (xs ys : List CalledTerm) → AreCalled (xs ++ ys) → AreCalled xs
  called_left xs ys a o c = a o (Contains-append_left xs ys o c)

  called_right : (xs ys : List CalledTerm) → AreCalled (xs ++ ys) → AreCalled ys
  called_right xs ys a o c = a o (Contains-append_right xs ys o c)

  -- ---- one call

  answer_among : (often fallible : Bool) (p : Path) → IsAmong terms p → AllByRecursion (IsAmong terms) (cond often (p ∷ Chosen p ∷ []) (cond fallible (p ∷ Inner p ∷ []) (p ∷ [])))
  answer_among true fallible p h = (h, (tt, tt))
  answer_among false true p h = (h, (tt, tt))
  answer_among false false p h = (h, tt)

  constructor_among : (mk : Making) (term : TermId) (ps : Paths) (k : ℕ) → making env term ≡ mk → (is_made env term ≡ false → Contains terms (constructed term)) → AllByRecursion (IsAmong terms) (with_inner (calling env term) (term_path mk term ps k))
  constructor_among MakesNothing term ps k e h = answer_among (answers_often (calling env term)) (is_fallible (calling env term)) (Called term ps k) (h (not_made (slice_get env.terms term.0) e))
  constructor_among (MakesVariant ty variant) term ps k e h = answer_among (answers_often (calling env term)) (is_fallible (calling env term)) (MadeVariant ty variant ps) tt
  constructor_among (MakesStruct ty) term ps k e h = answer_among (answers_often (calling env term)) (is_fallible (calling env term)) (MadeStruct ty ps) tt

  parts_among : (constants : List TypedConstant) → HoldsOfParts (IsAmong terms) env terms constants
  parts_among constants = record {
    nowhere = tt;
    truth = λ b. tt;
    number = λ ty v. tt;
    named = λ ty name c. tt;
    term = λ term ps k h. constructor_among (making env term) term ps k refl h;
  }

  opening_among : (term : TermId) → AreCalled (unless_made env Extractor term) → IsAmongOpening terms (opening env term)
  opening_among term a = by (making env term) refl
    where
      by : (mk : Making) → making env term ≡ mk → IsAmongOpening terms (opening_by term mk (extracting env term) (slice_get env.terms term.0))
      by (MakesVariant ty variant) e = tt
      by (MakesStruct ty) e = tt
      by MakesNothing e = a (extracted term) (subst (λ b. Contains (cond b [] (extracted term ∷ [])) (extracted term)) (sym (not_made (slice_get env.terms term.0) e)) (head_contained (extracted term) []))

  opening_paths_among : (opened : Opening) (p : Path) → IsAmongOpening terms opened → AllByRecursion (IsAmong terms) (opening_paths opened p)
  opening_paths_among (AsVariant ty variant) p h = tt
  opening_paths_among (AsStruct ty) p h = tt
  opening_paths_among (ByExtractor term c count) p h = answer_among (answers_often c) (is_fallible c) (Extracted term p) h

  inner_among : (often fallible : Bool) (p : Path) → IsAmong terms p → IsAmong terms (cond often (Chosen p) (cond fallible (Inner p) p))
  inner_among true fallible p h = tt
  inner_among false true p h = tt
  inner_among false false p h = h

  result_among : (count i : ℕ) (p : Path) → IsAmong terms p → IsAmong terms (result_path count i p)
  result_among zero i p h = tt
  result_among (suc zero) i p h = h
  result_among (suc (suc count)) i p h = tt

  part_among : (opened : Opening) (i : ℕ) (p : Path) → IsAmongOpening terms opened → IsAmong terms (part_path opened i p)
  part_among (AsVariant ty variant) i p h = tt
  part_among (AsStruct ty) i p h = tt
  part_among (ByExtractor term c count) i p h = result_among count i (answer_path c (Extracted term p)) (inner_among (answers_often c) (is_fallible c) (Extracted term p) h)

  -- ---- patterns

  met_among : (o : Option Path) (x : ℕ) (p : Path) (places : Places) → IsAmong terms p → ArePlacedSo (IsAmong terms) places → ArePlacedSo (IsAmong terms) (met_after o x p places)
  met_among None x p places k s = record { by = λ y. picked (IsAmong terms) (eqb x y) p (places y) k (s.by y) }
  met_among (Some q) x p places k s = s

  -- each of these paths is so, and each variable stands at such a path
  abbrev AreAllAmong : List Path → Places → Type 0
  AreAllAmong ps places = AllByRecursion (IsAmong terms) ps × ArePlacedSo (IsAmong terms) places

  mutual
    pattern_among : (q : Pattern) (p : Path) (places : Places) → IsAmong terms p → AreCalled (extracted_by env q) → ArePlacedSo (IsAmong terms) places → AreAllAmong (pattern_paths env q p) (after env q p places)
    pattern_among (Var ty x) p places k a s = (tt, met_among (places x.0) x.0 p places k s)
    pattern_among (Term ty term qs) p places k a s =
        let own = unless_made env Extractor term in
        let rest = extracted_by_all env qs in
        let opened = opening_among term (called_left own rest a) in
        let parts = each_part qs (opening env term) 0 p places opened (called_right own rest a) s in
        (all_append (IsAmong terms) (opening_paths (opening env term) p) (parts_paths env (opening env term) qs 0 p) (opening_paths_among (opening env term) p opened) parts.0, parts.1)
    pattern_among (BindPattern ty x q) p places k a s = pattern_among q p (met_after (places x.0) x.0 p places) k a (met_among (places x.0) x.0 p places k s)
    pattern_among (And ty qs) p places k a s = each_among qs p places k a s
    pattern_among (ConstBool b) p places k a s = (tt, s)
    pattern_among (ConstInt ty n) p places k a s = (tt, s)
    pattern_among (ConstPrim ty name) p places k a s = (tt, s)
    pattern_among (Wildcard ty) p places k a s = (tt, s)

    each_part : (qs : Patterns) (opened : Opening) (i : ℕ) (p : Path) (places : Places) → IsAmongOpening terms opened → AreCalled (extracted_by_all env qs) → ArePlacedSo (IsAmong terms) places → AreAllAmong (parts_paths env opened qs i p) (after_parts env opened qs i p places)
    each_part NoPattern opened i p places h a s = (tt, s)
    each_part (APattern q qs) opened i p places h a s =
        let r = part_path opened i p in
        let k = part_among opened i p h in
        let first = pattern_among q r places k (called_left (extracted_by env q) (extracted_by_all env qs) a) s in
        let rest = each_part qs opened (suc i) p (after env q r places) h (called_right (extracted_by env q) (extracted_by_all env qs) a) first.1 in
        ((k, all_append (IsAmong terms) (pattern_paths env q r) (parts_paths env opened qs (suc i) p) first.0 rest.0), rest.1)

    each_among : (qs : Patterns) (p : Path) (places : Places) → IsAmong terms p → AreCalled (extracted_by_all env qs) → ArePlacedSo (IsAmong terms) places → AreAllAmong (each_paths env qs p) (after_each env qs p places)
    each_among NoPattern p places k a s = (tt, s)
    each_among (APattern q qs) p places k a s =
        let first = pattern_among q p places k (called_left (extracted_by env q) (extracted_by_all env qs) a) s in
        let rest = each_among qs p (after env q p places) k (called_right (extracted_by env q) (extracted_by_all env qs) a) first.1 in
        (all_append (IsAmong terms) (pattern_paths env q p) (each_paths env qs p) first.0 rest.0, rest.1)

  -- ---- rules

  expr_among : (e : Expr) (places : Places) (n : ℕ) → AreCalled (called_by env e) → ArePlacedSo (IsAmong terms) places → AllByRecursion (IsAmong terms) (expr_paths env e places n)
  expr_among e places n a s = expr_each (IsAmong terms) env terms (expr_constants e) (parts_among (expr_constants e)) e places n s a (λ c d. d)

  args_among : (qs : List Pattern) (i : ℕ) (places : Places) → AreCalled (extracted_in env qs) → ArePlacedSo (IsAmong terms) places → AreAllAmong (args_paths env qs i) (args_after env qs i places)
  args_among [] i places a s = (tt, s)
  args_among (q ∷ qs) i places a s =
      let first = pattern_among q (Arg i) places tt (called_left (extracted_by env q) (extracted_in env qs) a) s in
      let rest = args_among qs (suc i) (after env q (Arg i) places) (called_right (extracted_by env q) (extracted_in env qs) a) first.1 in
      ((tt, all_append (IsAmong terms) (pattern_paths env q (Arg i)) (args_paths env qs (suc i)) first.0 rest.0), rest.1)

  iflets_among : (cs : List IfLet) (places : Places) → AreCalled (called_in_iflets env cs) → ArePlacedSo (IsAmong terms) places → AreAllAmong (iflets_paths env cs places) (iflets_after env cs places)
  iflets_among [] places a s = (tt, s)
  iflets_among (c ∷ cs) places a s =
      let own = called_left (called_by env c.rhs ++ extracted_by env c.lhs) (called_in_iflets env cs) a in
      let p = path env c.rhs places 0 in
      let values = expr_among c.rhs places 0 (called_left (called_by env c.rhs) (extracted_by env c.lhs) own) s in
      let opened = pattern_among c.lhs p places (path_so (IsAmong terms) env c.rhs places 0 values) (called_right (called_by env c.rhs) (extracted_by env c.lhs) own) s in
      let rest = iflets_among cs (after env c.lhs p places) (called_right (called_by env c.rhs ++ extracted_by env c.lhs) (called_in_iflets env cs) a) opened.1 in (
        all_append (IsAmong terms) (expr_paths env c.rhs places 0 ++ pattern_paths env c.lhs p) (iflets_paths env cs (after env c.lhs p places)) (all_append (IsAmong terms) (expr_paths env c.rhs places 0) (pattern_paths env c.lhs p) values opened.0) rest.0,
        rest.1,
      )

  rule_among : (r : Rule) (n : ℕ) → AreCalled (called_in env r) → AllByRecursion (IsAmong terms) (rule_paths env r n)
  rule_among r n a =
      let before = called_left (extracted_in env r.args ++ called_in_iflets env r.iflets) (called_by env r.rhs) a in
      let args = args_among r.args 0 no_places (called_left (extracted_in env r.args) (called_in_iflets env r.iflets) before) (record { by = λ x. tt }) in
      let bound = args_after env r.args 0 no_places in
      let conditions = iflets_among r.iflets bound (called_right (extracted_in env r.args) (called_in_iflets env r.iflets) before) args.1 in
      let values = expr_among r.rhs (rule_places env r) n (called_right (extracted_in env r.args ++ called_in_iflets env r.iflets) (called_by env r.rhs) a) conditions.1 in
      all_append (IsAmong terms) (args_paths env r.args 0) (iflets_paths env r.iflets bound ++ expr_paths env r.rhs (rule_places env r) n) args.0 (all_append (IsAmong terms) (iflets_paths env r.iflets bound) (expr_paths env r.rhs (rule_places env r) n) conditions.0 values)

  rules_among : (rules : List Rule) (n : ℕ) → AreCalled (called env rules) → AllByRecursion (IsAmong terms) (rules_paths env rules n)
  rules_among [] n a = tt
  rules_among (r ∷ rules) n a =
      let later = n + impure env r.rhs in
      all_append (IsAmong terms) (rule_paths env r n) (rules_paths env rules later) (rule_among r n (called_left (called_in env r) (called env rules) a)) (rules_among rules later (called_right (called_in env r) (called env rules) a))

-- ---- one of the paths

call_among : (terms : List CalledTerm) (o : CalledTerm) (p : Path) → IsAmong terms p → IsCallOf o p → Contains terms o
call_among terms o (Called term ps instance) h e = subst (Contains terms) (sym e) h
call_among terms o (Extracted term p) h e = subst (Contains terms) (sym e) h
call_among terms o p h e = absurd e

one_among : (terms : List CalledTerm) (ps : List Path) (p : Path) → AllByRecursion (IsAmong terms) ps → Contains ps p → IsAmong terms p
one_among terms [] p h c = absurd (none_contained p c)
one_among terms (q ∷ ps) p h c = ⊎_elim (λ e. subst (IsAmong terms) e h.0) (one_among terms ps p h.1) (contained_cases q ps p c)

-- a term that one of the paths of rules calls in a role is called so by the rules
pub path_called : (env : Environment) (rules : List Rule) (n : ℕ) (o : CalledTerm) (p : Path) → Contains (rules_paths env rules n) p → IsCallOf o p → Contains (called env rules) o
path_called env rules n o p c e =
    let terms = called env rules in
    call_among terms o p (one_among terms (rules_paths env rules n) p (rules_among env terms rules n (λ x d. d)) c) e
