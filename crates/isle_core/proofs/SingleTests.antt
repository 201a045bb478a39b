-- A rule whose terms answer at most once asks for no item of a list.
use Rattle.std.proofs.Common.{◌≡◌, ℕ, suc, List, [], ◌∷◌, ◌++◌, Bool, true, false, cond, Option, Some, None, refl}
use Rattle.std.specs.Prelude.{slice_get}
use Rattle.std.specs.List.{AllByRecursion}
use Rattle.std.proofs.lemmas.List.Elements.{Contains-append_left, Contains-append_right}
use Rattle.isle_base.specs.declared.ids.TermId.{TermId}
use Rattle.isle_core.specs.declared.rule_sets.Constraint.TheVariants as constraint
use Rattle.isle_core.specs.declared.types.ReturnKind.TheVariants as return_kind
use Rattle.isle_core.specs.declared.types.Term.{Term}
use Rattle.isle_core.specs.declared.types.TermKind.{TermKind}
use Rattle.isle_core.specs.declared.types.TermKind.TheVariants as term_kind
use Rattle.isle_core.specs.CalledTerms.{Extractor, Constructor, CalledTerm, is_made_kind, is_made_term, unless_made, extracted_by, extracted_by_all, extracted_in, called_by, called_by_all, called_by_bindings, called_in_iflets, called_in}
use Rattle.isle_core.specs.Calling.{Calling, ByTurns, ByCases, NoCall, IsOnce, is_fallible, answers_often, calling, calling_of, calling_by, kind_of, pure_callee, extracting}
use Rattle.isle_core.specs.Expr as expr
use Rattle.isle_core.specs.Expr.{Expr, Exprs, NoExpr, AnExpr, LetBindings, NoBinding, ABinding}
use Rattle.isle_core.specs.Making.{Making, MakesVariant, MakesStruct, MakesNothing, making}
use Rattle.isle_core.specs.Match.{with}
use Rattle.isle_core.specs.Opening.{Opening, opening_by, opening, part_path}
use Rattle.isle_core.specs.Path.{Path, Arg, Extracted}
use Rattle.isle_core.specs.Pattern as pattern
use Rattle.isle_core.specs.Pattern.{Pattern, Patterns, NoPattern, APattern}
use Rattle.isle_core.specs.RightSide.{call_path, path, paths, let_places}
use Rattle.isle_core.specs.Rule.{Environment, IfLet, Rule}
use Rattle.isle_core.specs.Single.{AreSingle}
use Rattle.isle_core.specs.Terms.{impure_callee}
use Rattle.isle_core.specs.Tests.{Test, Is, Equal, HasItem, Places, no_places, met_tests, met_after, found_tests, opening_tests, tests, parts_tests, each_tests, after, args_tests, args_after, called_tests, all_called_tests, bindings_called_tests, iflets_tests, rule_tests}
use Rattle.isle_core.proofs.AnsweredTerms.{called_here}
use Rattle.isle_core.proofs.PatternTests.{extractor_of, extracted_here, not_made}

-- a test that asks for no item
abbrev pub IsPlainTest : Test → Type 0
IsPlainTest (Is p c) = Unit {0}
IsPlainTest (Equal p q) = Unit {0}
IsPlainTest (HasItem p) = ⊥

all_append : (xs ys : List Test) → AllByRecursion IsPlainTest xs → AllByRecursion IsPlainTest ys → AllByRecursion IsPlainTest (xs ++ ys)
all_append [] ys h k = k
all_append (x ∷ xs) ys h k = (h.0, all_append xs ys h.1 k)

single_first : (env : Environment) (xs ys : List CalledTerm) → AreSingle env (xs ++ ys) → AreSingle env xs
single_first env xs ys h o c = h o (Contains-append_left xs ys o c)

single_rest : (env : Environment) (xs ys : List CalledTerm) → AreSingle env (xs ++ ys) → AreSingle env ys
single_rest env xs ys h o c = h o (Contains-append_right xs ys o c)

-- ---- calls

-- what is answered at most once
once_single : (c : Calling) → IsOnce c → answers_often c ≡ false
once_single (ByTurns callee return_kind.Plain) h = refl
once_single (ByTurns callee return_kind.Option) h = refl
once_single (ByTurns callee return_kind.Iterator) h = absurd h
once_single (ByCases callee return_kind.Plain) h = refl
once_single (ByCases callee return_kind.Option) h = refl
once_single (ByCases callee return_kind.Iterator) h = absurd h
once_single NoCall h = refl

found_plain : (c : Calling) (p : Path) → IsOnce c → AllByRecursion IsPlainTest (found_tests c p)
found_plain c p h = pick (answers_often c) (is_fallible c) (once_single c h)
  where
    pick : (x y : Bool) → x ≡ false → AllByRecursion IsPlainTest (cond x (HasItem p ∷ []) (cond y (Is p constraint.Some ∷ []) []))
    pick true y e = cc
    pick false true e = (tt, tt)
    pick false false e = tt

-- a made term is not called
call_once : (env : Environment) (o : Option Term) → (is_made_term o ≡ false → IsOnce (calling_of env o)) → IsOnce (calling_of env o)
call_once env None h = tt
call_once env (Some t) h = of_kind t.kind h
  where
    of_kind : (k : TermKind) → (is_made_kind k ≡ false → IsOnce (calling_by (kind_of k) (impure_callee env t k) (pure_callee env t k))) → IsOnce (calling_by (kind_of k) (impure_callee env t k) (pure_callee env t k))
    of_kind (term_kind.Variant ty variant) i = tt
    of_kind (term_kind.Struct ty) i = tt
    of_kind (term_kind.Decl pure multi partial recursive by how) i = i refl

constructor_of : TermId → CalledTerm
constructor_of term = record { term = term; role = Constructor }

constructed_once : (env : Environment) (term : TermId) (es : Exprs) → AreSingle env (called_by_all env es ++ unless_made env Constructor term) → IsOnce (calling env term)
unfolding constructor_of
constructed_once env term es h =
    call_once env (slice_get env.terms term.0) (λ e. h (constructor_of term) (Contains-append_right (called_by_all env es) (unless_made env Constructor term) (constructor_of term) (called_here env term e)))

opening_plain : (env : Environment) (term : TermId) (mk : Making) (c : Calling) (t : Option Term) (p : Path) → (mk ≡ MakesNothing → IsOnce c) → AllByRecursion IsPlainTest (opening_tests (opening_by term mk c t) p)
opening_plain env term (MakesVariant ty variant) c t p h = (tt, tt)
opening_plain env term (MakesStruct ty) c t p h = (tt, tt)
opening_plain env term MakesNothing c t p h = found_plain c (Extracted term p) (h refl)

-- ---- patterns

met_plain : (o : Option Path) (p : Path) → AllByRecursion IsPlainTest (met_tests o p)
met_plain None p = tt
met_plain (Some q) p = (tt, tt)

mutual
  pattern_plain : (q : Pattern) (env : Environment) (p : Path) (places : Places) → AreSingle env (extracted_by env q) → AllByRecursion IsPlainTest (tests env q p places)
  pattern_plain (pattern.Var ty x) env p places h = met_plain (places x.0) p
  pattern_plain (pattern.ConstBool b) env p places h = (tt, tt)
  pattern_plain (pattern.ConstInt ty n) env p places h = (tt, tt)
  pattern_plain (pattern.ConstPrim ty name) env p places h = (tt, tt)
  pattern_plain (pattern.Wildcard ty) env p places h = tt
  pattern_plain (pattern.Term ty term qs) env p places h =
      let own = unless_made env Extractor term in
      all_append (opening_tests (opening env term) p) (parts_tests env (opening env term) qs 0 p places)
      (opening_plain env term (making env term) (extracting env term) (slice_get env.terms term.0) p
      (λ none. h (extractor_of term) (Contains-append_left own (extracted_by_all env qs) (extractor_of term) (extracted_here env term (not_made (slice_get env.terms term.0) none)))))
      (parts_plain qs env (opening env term) 0 p places (single_rest env own (extracted_by_all env qs) h))
  pattern_plain (pattern.BindPattern ty x q) env p places h =
      all_append (met_tests (places x.0) p) (tests env q p (met_after (places x.0) x.0 p places)) (met_plain (places x.0) p) (pattern_plain q env p (met_after (places x.0) x.0 p places) h)
  pattern_plain (pattern.And ty qs) env p places h = each_plain qs env p places h

  each_plain : (qs : Patterns) (env : Environment) (p : Path) (places : Places) → AreSingle env (extracted_by_all env qs) → AllByRecursion IsPlainTest (each_tests env qs p places)
  each_plain NoPattern env p places h = tt
  each_plain (APattern q qs) env p places h =
      all_append (tests env q p places) (each_tests env qs p (after env q p places)) (pattern_plain q env p places (single_first env (extracted_by env q) (extracted_by_all env qs) h))
      (each_plain qs env p (after env q p places) (single_rest env (extracted_by env q) (extracted_by_all env qs) h))

  parts_plain : (qs : Patterns) (env : Environment) (o : Opening) (i : ℕ) (p : Path) (places : Places) → AreSingle env (extracted_by_all env qs) → AllByRecursion IsPlainTest (parts_tests env o qs i p places)
  parts_plain NoPattern env o i p places h = tt
  parts_plain (APattern q qs) env o i p places h =
      let at = part_path o i p in
      all_append (tests env q at places) (parts_tests env o qs (suc i) p (after env q at places)) (pattern_plain q env at places (single_first env (extracted_by env q) (extracted_by_all env qs) h))
      (parts_plain qs env o (suc i) p (after env q at places) (single_rest env (extracted_by env q) (extracted_by_all env qs) h))

args_plain : (qs : List Pattern) (env : Environment) (i : ℕ) (places : Places) → AreSingle env (extracted_in env qs) → AllByRecursion IsPlainTest (args_tests env qs i places)
args_plain [] env i places h = tt
args_plain (q ∷ qs) env i places h =
    all_append (tests env q (Arg i) places) (args_tests env qs (suc i) (after env q (Arg i) places)) (pattern_plain q env (Arg i) places (single_first env (extracted_by env q) (extracted_in env qs) h))
    (args_plain qs env (suc i) (after env q (Arg i) places) (single_rest env (extracted_by env q) (extracted_in env qs) h))

-- ---- conditions

mutual
  expr_plain : (e : Expr) (env : Environment) (places : Places) → AreSingle env (called_by env e) → AllByRecursion IsPlainTest (called_tests env e places)
  expr_plain (expr.Var ty x) env places h = tt
  expr_plain (expr.ConstBool b) env places h = tt
  expr_plain (expr.ConstInt ty n) env places h = tt
  expr_plain (expr.ConstPrim ty name) env places h = tt
  expr_plain (expr.Term ty term es) env places h =
      let p = call_path env term (paths env es places 0) 0 in
      all_append (all_called_tests env es places) (found_tests (calling env term) p) (exprs_plain es env places (single_first env (called_by_all env es) (unless_made env Constructor term) h)) (found_plain (calling env term) p (constructed_once env term es h))
  expr_plain (expr.Let ty bs inner) env places h =
      all_append (bindings_called_tests env bs places) (called_tests env inner (let_places env bs places 0)) (bindings_plain bs env places (single_first env (called_by_bindings env bs) (called_by env inner) h))
      (expr_plain inner env (let_places env bs places 0) (single_rest env (called_by_bindings env bs) (called_by env inner) h))

  exprs_plain : (es : Exprs) (env : Environment) (places : Places) → AreSingle env (called_by_all env es) → AllByRecursion IsPlainTest (all_called_tests env es places)
  exprs_plain NoExpr env places h = tt
  exprs_plain (AnExpr e es) env places h =
      all_append (called_tests env e places) (all_called_tests env es places) (expr_plain e env places (single_first env (called_by env e) (called_by_all env es) h)) (exprs_plain es env places (single_rest env (called_by env e) (called_by_all env es) h))

  bindings_plain : (bs : LetBindings) (env : Environment) (places : Places) → AreSingle env (called_by_bindings env bs) → AllByRecursion IsPlainTest (bindings_called_tests env bs places)
  bindings_plain NoBinding env places h = tt
  bindings_plain (ABinding x ty e more) env places h =
      let mid = with places x.0 (path env e places 0) in
      all_append (called_tests env e places) (bindings_called_tests env more mid) (expr_plain e env places (single_first env (called_by env e) (called_by_bindings env more) h)) (bindings_plain more env mid (single_rest env (called_by env e) (called_by_bindings env more) h))

iflets_plain : (cs : List IfLet) (env : Environment) (places : Places) → AreSingle env (called_in_iflets env cs) → AllByRecursion IsPlainTest (iflets_tests env cs places)
iflets_plain [] env places h = tt
iflets_plain (c ∷ cs) env places h =
    let at = path env c.rhs places 0 in
    let own = single_first env (called_by env c.rhs ++ extracted_by env c.lhs) (called_in_iflets env cs) h in
    all_append (called_tests env c.rhs places ++ tests env c.lhs at places) (iflets_tests env cs (after env c.lhs at places))
    (all_append (called_tests env c.rhs places) (tests env c.lhs at places) (expr_plain c.rhs env places (single_first env (called_by env c.rhs) (extracted_by env c.lhs) own)) (pattern_plain c.lhs env at places (single_rest env (called_by env c.rhs) (extracted_by env c.lhs) own)))
    (iflets_plain cs env (after env c.lhs at places) (single_rest env (called_by env c.rhs ++ extracted_by env c.lhs) (called_in_iflets env cs) h))

-- none of a rule's tests asks for an item
pub rule_plain : (env : Environment) (r : Rule) → AreSingle env (called_in env r) → AllByRecursion IsPlainTest (rule_tests env r)
rule_plain env r h =
    let asked = single_first env (extracted_in env r.args ++ called_in_iflets env r.iflets) (called_by env r.rhs) h in
    all_append (args_tests env r.args 0 no_places) (iflets_tests env r.iflets (args_after env r.args 0 no_places)) (args_plain r.args env 0 no_places (single_first env (extracted_in env r.args) (called_in_iflets env r.iflets) asked))
    (iflets_plain r.iflets env (args_after env r.args 0 no_places) (single_rest env (extracted_in env r.args) (called_in_iflets env r.iflets) asked))
