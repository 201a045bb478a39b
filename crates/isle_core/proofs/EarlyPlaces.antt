-- The variables of a rule's patterns and conditions stand at no impure call.
use Rattle.std.proofs.Common.{◌≡◌, inl, ℕ, zero, suc, ◌+◌, List, [], ◌∷◌, ◌++◌, Bool, true, false, cond, eqb, Option, Some, None, refl, ap, ◌∙◌}
use Rattle.std.specs.Prelude.{◌||◌, slice_get}
use Rattle.isle_base.specs.declared.ids.TermId.{TermId}
use Rattle.isle_base.specs.declared.ids.TypeId.{TypeId}
use Rattle.isle_core.specs.Calling.{Calling, answers_often, is_fallible, calling, instance_of, impure, impure_all, impure_bindings}
use Rattle.isle_core.specs.Expr as expr
use Rattle.isle_core.specs.Expr.{Expr, Exprs, NoExpr, AnExpr, LetBindings, NoBinding, ABinding}
use Rattle.isle_core.specs.ExprType.{IsExprOf, AreExprsOf, AreBindingsOf, AreIfLetsOf, in_condition}
use Rattle.isle_core.specs.HoldsImpure.{takes_turn, holds_impure, hold_impure}
use Rattle.isle_core.specs.Making.{Making, making}
use Rattle.isle_core.specs.Match.{with}
use Rattle.isle_core.specs.Opening.{Opening, AsVariant, AsStruct, ByExtractor, opening, answer_path, result_path, part_path}
use Rattle.isle_core.specs.Path.{Path, Arg, Extracted, Called, Chosen, MadeVariant, MadeStruct, VariantField, StructField, Wrapped, Inner, Part, Paths, NoPath, APath}
use Rattle.isle_core.specs.Pattern.{Pattern, Patterns, NoPattern, APattern, Var, Term, BindPattern, And}
use Rattle.isle_core.specs.RightSide.{path_or, term_path, path, paths, let_places}
use Rattle.isle_core.specs.Rule.{Environment, IfLet, Rule}
use Rattle.isle_core.specs.Tests.{Places, no_places, met_after, after, after_parts, after_each, args_after, iflets_after, rule_places}
use Rattle.isle_core.specs.TypedVariables.{typed_variables, let_variables, all_typed}
use Rattle.isle_core.specs.Served.{IsTested}
use Rattle.isle_core.proofs.ConditionTests.{IsAsked, has_cases, makes_variant, makes_struct, asked, some_of}
use Rattle.isle_core.proofs.EachFollows.{TakesPlace, PlacesTake}
use Rattle.isle_core.proofs.TakenItems.{TakesOf, AllTake}

-- a place holds no impure call
abbrev pub IsEarlyPlace : Environment → Option Path → Type 0
IsEarlyPlace env None = Unit {0}
IsEarlyPlace env (Some p) = holds_impure env p ≡ false

-- so of each variable's
pub record AreEarly (env : Environment) (places : Places) : Type 0 where
  pub by : (x : ℕ) → IsEarlyPlace env (places x)

place_with : (env : Environment) (b : Bool) (p : Path) (o : Option Path) → holds_impure env p ≡ false → IsEarlyPlace env o → IsEarlyPlace env (cond b (Some p) o)
place_with env true p o h k = h
place_with env false p o h k = k

pub with_early : (env : Environment) (places : Places) (x : ℕ) (p : Path) → holds_impure env p ≡ false → AreEarly env places → AreEarly env (with places x p)
with_early env places x p h k = record { by = λ y. place_with env (eqb x y) p (places y) h (k.by y) }

met_early : (env : Environment) (o : Option Path) (x : ℕ) (p : Path) (places : Places) → holds_impure env p ≡ false → AreEarly env places → AreEarly env (met_after o x p places)
met_early env None x p places h k = with_early env places x p h k
met_early env (Some q) x p places h k = k

-- ---- patterns

answer_early : (env : Environment) (c : Calling) (p : Path) → holds_impure env p ≡ false → holds_impure env (answer_path c p) ≡ false
answer_early env c p h = pick (answers_often c) (is_fallible c)
  where
    pick : (x y : Bool) → holds_impure env (cond x (Chosen p) (cond y (Inner p) p)) ≡ false
    pick true y = h
    pick false true = h
    pick false false = h

result_early : (env : Environment) (count i : ℕ) (p : Path) → holds_impure env p ≡ false → holds_impure env (result_path count i p) ≡ false
result_early env zero i p h = h
result_early env (suc zero) i p h = h
result_early env (suc (suc count)) i p h = h

pub part_early : (env : Environment) (o : Opening) (i : ℕ) (p : Path) → holds_impure env p ≡ false → holds_impure env (part_path o i p) ≡ false
part_early env (AsVariant ty variant) i p h = h
part_early env (AsStruct ty) i p h = h
part_early env (ByExtractor term c count) i p h = result_early env count i (answer_path c (Extracted term p)) (answer_early env c (Extracted term p) h)

mutual
  pub after_early : (q : Pattern) (env : Environment) (p : Path) (places : Places) → holds_impure env p ≡ false → AreEarly env places → AreEarly env (after env q p places)
  after_early (Var ty x) env p places h k = met_early env (places x.0) x.0 p places h k
  after_early (Term ty term qs) env p places h k = parts_early qs env (opening env term) 0 p places h k
  after_early (BindPattern ty x q) env p places h k = after_early q env p (met_after (places x.0) x.0 p places) h (met_early env (places x.0) x.0 p places h k)
  after_early (And ty qs) env p places h k = each_early qs env p places h k
  after_early q env p places h k = k

  each_early : (qs : Patterns) (env : Environment) (p : Path) (places : Places) → holds_impure env p ≡ false → AreEarly env places → AreEarly env (after_each env qs p places)
  each_early NoPattern env p places h k = k
  each_early (APattern q qs) env p places h k = each_early qs env p (after env q p places) h (after_early q env p places h k)

  parts_early : (qs : Patterns) (env : Environment) (o : Opening) (i : ℕ) (p : Path) (places : Places) → holds_impure env p ≡ false → AreEarly env places → AreEarly env (after_parts env o qs i p places)
  parts_early NoPattern env o i p places h k = k
  parts_early (APattern q qs) env o i p places h k = parts_early qs env o (suc i) p (after env q (part_path o i p) places) h (after_early q env (part_path o i p) places (part_early env o i p h) k)

pub args_early : (env : Environment) (qs : List Pattern) (i : ℕ) (places : Places) → AreEarly env places → AreEarly env (args_after env qs i places)
args_early env [] i places k = k
args_early env (q ∷ qs) i places k = args_early env qs (suc i) (after env q (Arg i) places) (after_early q env (Arg i) places refl k)

-- ---- conditions

path_early : (env : Environment) (o : Option Path) → IsEarlyPlace env o → holds_impure env (path_or o) ≡ false
path_early env None h = refl
path_early env (Some p) h = h

pub term_early : {mk : Making} {d : Calling} {c : _} (env : Environment) (term : TermId) (ps : Paths) (k : ℕ) → IsAsked env c mk d → calling env term ≡ d → hold_impure env ps ≡ false → holds_impure env (term_path mk term ps k) ≡ false
term_early env term ps k (has_cases callee kind) e h = ap (λ x. takes_turn x || hold_impure env ps) e ∙ h
term_early env term ps k (makes_variant ty variant made) e h = h
term_early env term ps k (makes_struct ty made) e h = h

both_early : (a b : Bool) → a ≡ false → b ≡ false → (a || b) ≡ false
both_early a b h k = rw (h, k) refl

module _ (env : Environment) where
  mutual
    pub expr_early : (vars : List (TypeId × ℕ)) (ty : TypeId) (e : Expr) (places : Places) (n : ℕ) → IsExprOf env in_condition vars ty e → AreEarly env places → holds_impure env (path env e places n) ≡ false
    expr_early vars ty (expr.Var of x) places n h k = path_early env (places x.0) (k.by x.0)
    expr_early vars ty (expr.ConstBool b) places n h k = refl
    expr_early vars ty (expr.ConstInt of j) places n h k = refl
    expr_early vars ty (expr.ConstPrim of name) places n h k = refl
    expr_early vars ty (expr.Term of term es) places n h k =
        let c = some_of (slice_get env.terms term.0) _ h.1 in
        let ps = paths env es places n in
        let at = instance_of (calling env term) (n + impure_all env es) in
        answer_early env (calling env term) (term_path (making env term) term ps at) (term_early env term ps at (asked env term c.0 c.1 c.2.0) refl (exprs_early vars c.0.arg_tys es places n c.2.2 k))
    expr_early vars ty (expr.Let of bs inner) places n h k = expr_early (let_variables vars bs) ty inner (let_places env bs places n) (n + impure_bindings env bs) h.2 (bindings_early vars bs places n h.1 k)

    pub exprs_early : (vars : List (TypeId × ℕ)) (tys : List TypeId) (es : Exprs) (places : Places) (n : ℕ) → AreExprsOf env in_condition vars tys es → AreEarly env places → hold_impure env (paths env es places n) ≡ false
    exprs_early vars tys NoExpr places n h k = refl
    exprs_early vars (ty ∷ tys) (AnExpr e es) places n h k =
        both_early (holds_impure env (path env e places n)) (hold_impure env (paths env es places (n + impure env e))) (expr_early vars ty e places n h.0 k) (exprs_early vars tys es places (n + impure env e) h.1 k)
    exprs_early vars [] (AnExpr e es) places n h k = absurd h

    pub bindings_early : (vars : List (TypeId × ℕ)) (bs : LetBindings) (places : Places) (n : ℕ) → AreBindingsOf env in_condition vars bs → AreEarly env places → AreEarly env (let_places env bs places n)
    bindings_early vars NoBinding places n h k = k
    bindings_early vars (ABinding x ty e bs) places n h k =
        bindings_early ((ty, x.0) ∷ vars) bs (with places x.0 (path env e places n)) (n + impure env e) h.2 (with_early env places x.0 (path env e places n) (expr_early vars ty e places n h.1 k) k)

  iflets_early : (cs : List IfLet) (vars : List (TypeId × ℕ)) (places : Places) → AreIfLetsOf env vars cs → AreEarly env places → AreEarly env (iflets_after env cs places)
  iflets_early [] vars places h k = k
  iflets_early (c ∷ cs) vars places h k =
      let q = path env c.rhs places 0 in
      iflets_early cs (vars ++ typed_variables c.lhs) (after env c.lhs q places) h.1 (after_early c.lhs env q places (expr_early vars h.0.ty c.rhs places 0 h.0.rhs k) k)

-- ---- a rule

neither : (a b : Bool) → (a || b) ≡ false → (a ≡ false) × (b ≡ false)
neither true b e = absurd cc
neither false b e = (refl, e)

mutual
  -- the lists within a path without an impure call are settled
  pub early_takes : (p : Path) (env : Environment) (done : List Path) → holds_impure env p ≡ false → TakesOf env done p
  early_takes (Chosen p) env done h = (inl h, early_takes p env done h)
  early_takes (Called term ps k) env done h = all_early_take ps env done (neither (takes_turn (calling env term)) (hold_impure env ps) h).1
  early_takes (Inner p) env done h = early_takes p env done h
  early_takes (MadeVariant ty variant ps) env done h = all_early_take ps env done h
  early_takes (MadeStruct ty ps) env done h = all_early_take ps env done h
  early_takes (VariantField variant i p) env done h = early_takes p env done h
  early_takes (StructField i p) env done h = early_takes p env done h
  early_takes (Extracted term p) env done h = early_takes p env done h
  early_takes (Wrapped p) env done h = early_takes p env done h
  early_takes (Part i p) env done h = early_takes p env done h
  early_takes p env done h = tt

  all_early_take : (ps : Paths) (env : Environment) (done : List Path) → hold_impure env ps ≡ false → AllTake env done ps
  all_early_take NoPath env done h = tt
  all_early_take (APath p ps) env done h = let two = neither (holds_impure env p) (hold_impure env ps) h in (early_takes p env done two.0, all_early_take ps env done two.1)

place_takes : (env : Environment) (done : List Path) (o : Option Path) → IsEarlyPlace env o → TakesPlace env done o
place_takes env done None h = tt
place_takes env done (Some p) h = early_takes p env done h

-- so the lists within the places of a rule are settled
pub rule_takes : (env : Environment) (tys : List TypeId) (r : Rule) (done : List Path) → IsTested env tys r → PlacesTake env done (rule_places env r)
rule_takes env tys r done h =
    let early = iflets_early env r.iflets (all_typed r.args) (args_after env r.args 0 no_places) h.iflets (args_early env r.args 0 no_places (record { by = λ x. tt })) in
    record { by = λ x. place_takes env done (rule_places env r x) (early.by x) }
