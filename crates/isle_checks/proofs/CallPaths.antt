-- Each term that rules call is called by one of their paths.
use Rattle.std.proofs.Common.{◌≡◌, ⊎_elim, ℕ, suc, ◌+◌, List, [], ◌∷◌, ◌++◌, Bool, true, false, cond, Option, Some, None, refl, sym, subst}
use Rattle.std.specs.Prelude.{Contains, slice_get}
use Rattle.std.proofs.lemmas.List.Elements.{Contains-append_cases, Contains-append_left, Contains-append_right}
use Rattle.isle_core.specs.declared.TermId.{TermId}
use Rattle.isle_core.specs.declared.types.Term.{Term as CodeTerm}
use Rattle.isle_core.specs.declared.types.TermKind.{TermKind}
use Rattle.isle_core.specs.declared.types.TermKind.TheVariants as term_kind
use Rattle.isle_core.specs.CalledTerms.{Role, Extractor, Constructor, CalledTerm, is_made_kind, is_made_term, is_made, unless_made, extracted_by, extracted_by_all, called_by, called_by_all, called_by_bindings, extracted_in, called_in_iflets, called_in, called}
use Rattle.isle_core.specs.Calling.{calling, extracting, answers_often, is_fallible, instance_of, impure, impure_all, impure_bindings}
use Rattle.isle_core.specs.Expr as expr
use Rattle.isle_core.specs.Expr.{Expr, Exprs, NoExpr, AnExpr, LetBindings, NoBinding, ABinding}
use Rattle.isle_core.specs.Making.{MakesNothing, making_kind, making_of}
use Rattle.isle_core.specs.Match.{with}
use Rattle.isle_core.specs.Opening.{Opening, opening_by, opening, part_path}
use Rattle.isle_core.specs.Path.{Path, Arg, Called, Chosen, Extracted, Inner, Paths}
use Rattle.isle_core.specs.Pattern as pattern
use Rattle.isle_core.specs.Pattern.{Pattern, Patterns, NoPattern, APattern}
use Rattle.isle_core.specs.RightSide.{Places, no_places, path, paths, let_places, term_path, call_path}
use Rattle.isle_core.specs.Rule.{Environment, IfLet, Rule}
use Rattle.isle_core.specs.RulePaths.{with_inner, expr_paths, exprs_paths, bindings_paths, opening_paths, pattern_paths, parts_paths, each_paths, args_paths, iflets_paths, rule_paths, rules_paths}
use Rattle.isle_core.specs.Tests.{after, args_after, rule_places}
use Rattle.isle_core.proofs.Contained.{head_contained, tail_contained, contained_cases, none_contained}
use Rattle.isle_core.proofs.ExprPaths.{constructed}

-- a term that a pattern calls
abbrev pub extracted : TermId → CalledTerm
extracted term = record { term = term; role = Extractor }

-- a path that is the answer of a term, called in its role
abbrev pub IsCallOf : CalledTerm → Path → Type 0
IsCallOf o (Called term ps instance) = o ≡ constructed term
IsCallOf o (Extracted term p) = o ≡ extracted term
IsCallOf o p = ⊥

-- one of these paths calls a term in its role, which is not a made term
pub record HasCall (env : Environment) (o : CalledTerm) (ps : List Path) : Type 0 where
  pub answer : Path
  pub among : Contains ps answer
  pub calls : IsCallOf o answer
  pub unmade : is_made env o.term ≡ false

-- a term that is not made makes nothing
makes_nothing : (t : Option CodeTerm) → is_made_term t ≡ false → making_of t ≡ MakesNothing
makes_nothing None e = refl
makes_nothing (Some t) e = of_kind t.kind e
  where
    of_kind : (k : TermKind) → is_made_kind k ≡ false → making_kind k ≡ MakesNothing
    of_kind (term_kind.Decl pure multi partial recursive constructor extractor) h = refl
    of_kind (term_kind.Variant ty variant) h = cc
    of_kind (term_kind.Struct ty) h = cc

module _ (env : Environment) (o : CalledTerm) where
  -- ---- among more paths

  in_front : (ps qs : List Path) → HasCall env o ps → HasCall env o (ps ++ qs)
  in_front ps qs h = record { answer = h.answer; among = Contains-append_left ps qs h.answer h.among; calls = h.calls; unmade = h.unmade }

  behind : (ps qs : List Path) → HasCall env o qs → HasCall env o (ps ++ qs)
  behind ps qs h = record { answer = h.answer; among = Contains-append_right ps qs h.answer h.among; calls = h.calls; unmade = h.unmade }

  after_one : (p : Path) (ps : List Path) → HasCall env o ps → HasCall env o (p ∷ ps)
  after_one p ps h = record { answer = h.answer; among = tail_contained p ps h.answer h.among; calls = h.calls; unmade = h.unmade }

  -- the calls of two parts
  of_both : (xs ys : List CalledTerm) (ps qs : List Path) → (Contains xs o → HasCall env o ps) → (Contains ys o → HasCall env o qs) → Contains (xs ++ ys) o → HasCall env o (ps ++ qs)
  of_both xs ys ps qs f g c = ⊎_elim (λ d. in_front ps qs (f d)) (λ d. behind ps qs (g d)) (Contains-append_cases xs ys o c)

  -- ---- one call

  -- what is called here
  called_one : (role : Role) (term : TermId) → Contains (unless_made env role term) o → (o ≡ record { term = term; role = role }) × (is_made env term ≡ false)
  called_one role term c = by (is_made env term) refl c
    where
      by : (b : Bool) → is_made env term ≡ b → Contains (cond b [] (record { term = term; role = role } ∷ [])) o → (o ≡ record { term = term; role = role }) × (is_made env term ≡ false)
      by true e k = absurd (none_contained o k)
      by false e k = ⊎_elim (λ is. (sym is, e)) (λ d. absurd (none_contained o d)) (contained_cases (record { term = term; role = role }) [] o k)

  answer_call : (often fallible : Bool) (p : Path) → IsCallOf o p → is_made env o.term ≡ false → HasCall env o (cond often (p ∷ Chosen p ∷ []) (cond fallible (p ∷ Inner p ∷ []) (p ∷ [])))
  answer_call true fallible p h e = record { answer = p; among = head_contained p (Chosen p ∷ []); calls = h; unmade = e }
  answer_call false true p h e = record { answer = p; among = head_contained p (Inner p ∷ []); calls = h; unmade = e }
  answer_call false false p h e = record { answer = p; among = head_contained p []; calls = h; unmade = e }

  constructor_call : (term : TermId) (ps : Paths) (n : ℕ) → Contains (unless_made env Constructor term) o → HasCall env o (with_inner (calling env term) (call_path env term ps n))
  constructor_call term ps n c =
      let one = called_one Constructor term c in
      let k = instance_of (calling env term) n in
      subst (λ mk. HasCall env o (with_inner (calling env term) (term_path mk term ps k))) (sym (makes_nothing (slice_get env.terms term.0) one.1))
      (answer_call (answers_often (calling env term)) (is_fallible (calling env term)) (Called term ps k) one.0 (subst (λ (x : CalledTerm). is_made env x.term ≡ false) (sym one.0) one.1))

  extractor_call : (term : TermId) (p : Path) → Contains (unless_made env Extractor term) o → HasCall env o (opening_paths (opening env term) p)
  extractor_call term p c =
      let one = called_one Extractor term c in
      subst (λ mk. HasCall env o (opening_paths (opening_by term mk (extracting env term) (slice_get env.terms term.0)) p)) (sym (makes_nothing (slice_get env.terms term.0) one.1))
      (answer_call (answers_often (extracting env term)) (is_fallible (extracting env term)) (Extracted term p) one.0 (subst (λ (x : CalledTerm). is_made env x.term ≡ false) (sym one.0) one.1))

  -- ---- expressions

  mutual
    expr_call : (e : Expr) (places : Places) (n : ℕ) → Contains (called_by env e) o → HasCall env o (expr_paths env e places n)
    expr_call (expr.Term ty term es) places n c =
        let ps = paths env es places n in
        let behind_all = n + impure_all env es in
        of_both (called_by_all env es) (unless_made env Constructor term) (exprs_paths env es places n) (with_inner (calling env term) (call_path env term ps behind_all)) (exprs_call es places n) (constructor_call term ps behind_all) c
    expr_call (expr.Let ty bs inner) places n c =
        let mid = let_places env bs places n in
        let later = n + impure_bindings env bs in
        of_both (called_by_bindings env bs) (called_by env inner) (bindings_paths env bs places n) (expr_paths env inner mid later) (bindings_call bs places n) (expr_call inner mid later) c
    expr_call (expr.Var ty x) places n c = absurd (none_contained o c)
    expr_call (expr.ConstBool b) places n c = absurd (none_contained o c)
    expr_call (expr.ConstInt ty k) places n c = absurd (none_contained o c)
    expr_call (expr.ConstPrim ty name) places n c = absurd (none_contained o c)

    exprs_call : (es : Exprs) (places : Places) (n : ℕ) → Contains (called_by_all env es) o → HasCall env o (exprs_paths env es places n)
    exprs_call NoExpr places n c = absurd (none_contained o c)
    exprs_call (AnExpr e es) places n c =
        let later = n + impure env e in
        of_both (called_by env e) (called_by_all env es) (expr_paths env e places n) (exprs_paths env es places later) (expr_call e places n) (exprs_call es places later) c

    bindings_call : (bs : LetBindings) (places : Places) (n : ℕ) → Contains (called_by_bindings env bs) o → HasCall env o (bindings_paths env bs places n)
    bindings_call NoBinding places n c = absurd (none_contained o c)
    bindings_call (ABinding x ty e more) places n c =
        let mid = with places x.0 (path env e places n) in
        let later = n + impure env e in
        of_both (called_by env e) (called_by_bindings env more) (expr_paths env e places n) (bindings_paths env more mid later) (expr_call e places n) (bindings_call more mid later) c

  -- ---- patterns

  mutual
    pattern_call : (q : Pattern) (p : Path) → Contains (extracted_by env q) o → HasCall env o (pattern_paths env q p)
    pattern_call (pattern.Term ty term qs) p c =
        of_both (unless_made env Extractor term) (extracted_by_all env qs) (opening_paths (opening env term) p) (parts_paths env (opening env term) qs 0 p) (extractor_call term p) (parts_call qs (opening env term) 0 p) c
    pattern_call (pattern.BindPattern ty x q) p c = pattern_call q p c
    pattern_call (pattern.And ty qs) p c = each_call qs p c
    pattern_call (pattern.Var ty x) p c = absurd (none_contained o c)
    pattern_call (pattern.ConstBool b) p c = absurd (none_contained o c)
    pattern_call (pattern.ConstInt ty k) p c = absurd (none_contained o c)
    pattern_call (pattern.ConstPrim ty name) p c = absurd (none_contained o c)
    pattern_call (pattern.Wildcard ty) p c = absurd (none_contained o c)

    parts_call : (qs : Patterns) (opened : Opening) (i : ℕ) (p : Path) → Contains (extracted_by_all env qs) o → HasCall env o (parts_paths env opened qs i p)
    parts_call NoPattern opened i p c = absurd (none_contained o c)
    parts_call (APattern q qs) opened i p c =
        let r = part_path opened i p in
        after_one r (pattern_paths env q r ++ parts_paths env opened qs (suc i) p) (of_both (extracted_by env q) (extracted_by_all env qs) (pattern_paths env q r) (parts_paths env opened qs (suc i) p) (pattern_call q r) (parts_call qs opened (suc i) p) c)

    each_call : (qs : Patterns) (p : Path) → Contains (extracted_by_all env qs) o → HasCall env o (each_paths env qs p)
    each_call NoPattern p c = absurd (none_contained o c)
    each_call (APattern q qs) p c = of_both (extracted_by env q) (extracted_by_all env qs) (pattern_paths env q p) (each_paths env qs p) (pattern_call q p) (each_call qs p) c

  -- ---- rules

  args_call : (qs : List Pattern) (i : ℕ) → Contains (extracted_in env qs) o → HasCall env o (args_paths env qs i)
  args_call [] i c = absurd (none_contained o c)
  args_call (q ∷ qs) i c =
      after_one (Arg i) (pattern_paths env q (Arg i) ++ args_paths env qs (suc i)) (of_both (extracted_by env q) (extracted_in env qs) (pattern_paths env q (Arg i)) (args_paths env qs (suc i)) (pattern_call q (Arg i)) (args_call qs (suc i)) c)

  iflets_call : (cs : List IfLet) (places : Places) → Contains (called_in_iflets env cs) o → HasCall env o (iflets_paths env cs places)
  iflets_call [] places c = absurd (none_contained o c)
  iflets_call (i ∷ cs) places c =
      let p = path env i.rhs places 0 in
      let values = expr_paths env i.rhs places 0 in
      let opened = pattern_paths env i.lhs p in
      let later = after env i.lhs p places in
      of_both (called_by env i.rhs ++ extracted_by env i.lhs) (called_in_iflets env cs) (values ++ opened) (iflets_paths env cs later) (of_both (called_by env i.rhs) (extracted_by env i.lhs) values opened (expr_call i.rhs places 0) (pattern_call i.lhs p)) (iflets_call cs later) c

  rule_call : (r : Rule) (n : ℕ) → Contains (called_in env r) o → HasCall env o (rule_paths env r n)
  rule_call r n c =
      let before = extracted_in env r.args ++ called_in_iflets env r.iflets in
      let bound = args_after env r.args 0 no_places in
      let args = args_paths env r.args 0 in
      let conditions = iflets_paths env r.iflets bound in
      let values = expr_paths env r.rhs (rule_places env r) n in
      ⊎_elim
      (λ d. ⊎_elim (λ a. in_front args (conditions ++ values) (args_call r.args 0 a)) (λ i. behind args (conditions ++ values) (in_front conditions values (iflets_call r.iflets bound i))) (Contains-append_cases (extracted_in env r.args) (called_in_iflets env r.iflets) o d))
      (λ d. behind args (conditions ++ values) (behind conditions values (expr_call r.rhs (rule_places env r) n d)))
      (Contains-append_cases before (called_by env r.rhs) o c)

  -- a term that rules call in a role is called so by one of their paths
  pub rules_call : (rules : List Rule) (n : ℕ) → Contains (called env rules) o → HasCall env o (rules_paths env rules n)
  rules_call [] n c = absurd (none_contained o c)
  rules_call (r ∷ rules) n c =
      let later = n + impure env r.rhs in
      of_both (called_in env r) (called env rules) (rule_paths env r n) (rules_paths env rules later) (rule_call r n) (rules_call rules later) c
