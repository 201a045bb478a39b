-- The calls of a rule's paths have an occurrence of their own exactly if they are impure, so the flags of the code tell which paths hold an
-- impure call.
use Rattle.std.proofs.Common.{◌≡◌, ℕ, zero, suc, ◌+◌, List, [], ◌∷◌, Bool, true, false, cond, Option, Some, None, refl, ap, ◌∙◌}
use Rattle.std.specs.Prelude.{◌||◌}
use Rattle.isle_core.specs.declared.TermId.{TermId}
use Rattle.isle_core.specs.Calling.{Calling, ByTurns, ByCases, NoCall, calling, answers_often, is_fallible, instance_of, impure, impure_all, impure_bindings}
use Rattle.isle_core.specs.Expr as expr
use Rattle.isle_core.specs.Expr.{Expr, Exprs, NoExpr, AnExpr, LetBindings, NoBinding, ABinding}
use Rattle.isle_core.specs.HoldsImpure.{takes_turn, holds_impure, hold_impure}
use Rattle.isle_core.specs.Making.{Making, MakesVariant, MakesStruct, MakesNothing, making}
use Rattle.isle_core.specs.Match.{with}
use Rattle.isle_core.specs.Opening.{Opening, AsVariant, AsStruct, ByExtractor, opening, result_path, part_path}
use Rattle.isle_core.specs.Path.{Path, Nowhere, Arg, ConstBool, ConstInt, ConstPrim, Extracted, Called, Chosen, MadeVariant, MadeStruct, VariantField, StructField, Wrapped, Inner, Part, Paths, NoPath, APath}
use Rattle.isle_core.specs.Pattern as pattern
use Rattle.isle_core.specs.Pattern.{Pattern, Patterns, NoPattern, APattern}
use Rattle.isle_core.specs.RightSide.{path_or, term_path, call_path, answer_path, path, paths, let_places}
use Rattle.isle_core.specs.Rule.{Environment, IfLet, Rule}
use Rattle.isle_core.specs.Tests.{Places, no_places, met_after, after, after_parts, after_each, args_after, iflets_after, rule_places}
use Rattle.isle_core.proofs.ExprPaths.{IsPlaceSo, ArePlacedSo, with_placed}
use Rattle.isle_rulesets.specs.Late.{is_own, has_turn, have_turn}

module _ (env : Environment) where
  -- each call has an occurrence exactly if it is impure
  abbrev mutual
    pub IsTold : Path → Type 0
    IsTold (Called term ps k) = (is_own k ≡ takes_turn (calling env term)) × AreTold ps
    IsTold (Extracted term p) = IsTold p
    IsTold (Chosen p) = IsTold p
    IsTold (MadeVariant ty variant ps) = AreTold ps
    IsTold (MadeStruct ty ps) = AreTold ps
    IsTold (VariantField variant i p) = IsTold p
    IsTold (StructField i p) = IsTold p
    IsTold (Wrapped p) = IsTold p
    IsTold (Inner p) = IsTold p
    IsTold (Part i p) = IsTold p
    IsTold Nowhere = Unit {0}
    IsTold (Arg i) = Unit {0}
    IsTold (ConstBool ty b) = Unit {0}
    IsTold (ConstInt ty n) = Unit {0}
    IsTold (ConstPrim name) = Unit {0}

    pub AreTold : Paths → Type 0
    AreTold NoPath = Unit {0}
    AreTold (APath p ps) = IsTold p × AreTold ps

  mutual
    -- so what has a turn holds an impure call
    pub told_same : (p : Path) → IsTold p → has_turn p ≡ holds_impure env p
    told_same (Called term ps k) h = ap (λ b. b || have_turn ps) h.0 ∙ ap (λ b. takes_turn (calling env term) || b) (told_all ps h.1)
    told_same (Extracted term p) h = told_same p h
    told_same (Chosen p) h = told_same p h
    told_same (MadeVariant ty variant ps) h = told_all ps h
    told_same (MadeStruct ty ps) h = told_all ps h
    told_same (VariantField variant i p) h = told_same p h
    told_same (StructField i p) h = told_same p h
    told_same (Wrapped p) h = told_same p h
    told_same (Inner p) h = told_same p h
    told_same (Part i p) h = told_same p h
    told_same Nowhere h = refl
    told_same (Arg i) h = refl
    told_same (ConstBool ty b) h = refl
    told_same (ConstInt ty n) h = refl
    told_same (ConstPrim name) h = refl

    told_all : (ps : Paths) → AreTold ps → have_turn ps ≡ hold_impure env ps
    told_all NoPath h = refl
    told_all (APath p ps) h = ap (λ b. b || have_turn ps) (told_same p h.0) ∙ ap (λ b. holds_impure env p || b) (told_all ps h.1)

  -- ---- expressions

  place_told : (o : Option Path) → IsPlaceSo IsTold o → IsTold (path_or o)
  place_told None h = tt
  place_told (Some p) h = h

  answer_told : (c : Calling) (p : Path) → IsTold p → IsTold (answer_path c p)
  answer_told c p h = pick (answers_often c) (is_fallible c)
    where
      pick : (often fallible : Bool) → IsTold (cond often (Chosen p) (cond fallible (Inner p) p))
      pick true fallible = h
      pick false true = h
      pick false false = h

  instance_told : (c : Calling) (n : ℕ) → is_own (instance_of c n) ≡ takes_turn c
  instance_told (ByTurns callee kind) n = refl
  instance_told (ByCases callee kind) n = refl
  instance_told NoCall n = refl

  term_told : (made : Making) (term : TermId) (ps : Paths) (n : ℕ) → AreTold ps → IsTold (term_path made term ps (instance_of (calling env term) n))
  term_told (MakesVariant ty variant) term ps n h = h
  term_told (MakesStruct ty) term ps n h = h
  term_told MakesNothing term ps n h = (instance_told (calling env term) n, h)

  -- a call of a term
  pub call_told : (term : TermId) (ps : Paths) (n : ℕ) → AreTold ps → IsTold (call_path env term ps n)
  call_told term ps n h = term_told (making env term) term ps n h

  mutual
    pub path_told : (e : Expr) (places : Places) (n : ℕ) → ArePlacedSo IsTold places → IsTold (path env e places n)
    path_told (expr.Var ty x) places n b = place_told (places x.0) (b.by x.0)
    path_told (expr.ConstBool v) places n b = tt
    path_told (expr.ConstInt ty v) places n b = tt
    path_told (expr.ConstPrim ty name) places n b = tt
    path_told (expr.Term ty term es) places n b = answer_told (calling env term) (call_path env term (paths env es places n) (n + impure_all env es)) (call_told term (paths env es places n) (n + impure_all env es) (paths_told es places n b))
    path_told (expr.Let ty bs inner) places n b = path_told inner (let_places env bs places n) (n + impure_bindings env bs) (let_told bs places n b)

    pub paths_told : (es : Exprs) (places : Places) (n : ℕ) → ArePlacedSo IsTold places → AreTold (paths env es places n)
    paths_told NoExpr places n b = tt
    paths_told (AnExpr e es) places n b = (path_told e places n b, paths_told es places (n + impure env e) b)

    pub let_told : (bs : LetBindings) (places : Places) (n : ℕ) → ArePlacedSo IsTold places → ArePlacedSo IsTold (let_places env bs places n)
    let_told NoBinding places n b = b
    let_told (ABinding x ty e bs) places n b = let_told bs (with places x.0 (path env e places n)) (n + impure env e) (with_placed IsTold places x.0 (path env e places n) (path_told e places n b) b)

  -- ---- patterns

  met_told : (o : Option Path) (x : ℕ) (p : Path) (places : Places) → IsTold p → ArePlacedSo IsTold places → ArePlacedSo IsTold (met_after o x p places)
  met_told None x p places h b = with_placed IsTold places x p h b
  met_told (Some q) x p places h b = b

  result_told : (count i : ℕ) (p : Path) → IsTold p → IsTold (result_path count i p)
  result_told zero i p h = h
  result_told (suc zero) i p h = h
  result_told (suc (suc count)) i p h = h

  part_told : (opened : Opening) (i : ℕ) (p : Path) → IsTold p → IsTold (part_path opened i p)
  part_told (AsVariant ty variant) i p h = h
  part_told (AsStruct ty) i p h = h
  part_told (ByExtractor term c count) i p h = result_told count i (answer_path c (Extracted term p)) (answer_told c (Extracted term p) h)

  mutual
    after_told : (q : Pattern) (p : Path) (places : Places) → IsTold p → ArePlacedSo IsTold places → ArePlacedSo IsTold (after env q p places)
    after_told (pattern.Var ty x) p places h b = met_told (places x.0) x.0 p places h b
    after_told (pattern.ConstBool v) p places h b = b
    after_told (pattern.ConstInt ty v) p places h b = b
    after_told (pattern.ConstPrim ty name) p places h b = b
    after_told (pattern.Wildcard ty) p places h b = b
    after_told (pattern.Term ty term qs) p places h b = parts_told qs (opening env term) 0 p places h b
    after_told (pattern.BindPattern ty x q) p places h b = after_told q p (met_after (places x.0) x.0 p places) h (met_told (places x.0) x.0 p places h b)
    after_told (pattern.And ty qs) p places h b = each_told qs p places h b

    each_told : (qs : Patterns) (p : Path) (places : Places) → IsTold p → ArePlacedSo IsTold places → ArePlacedSo IsTold (after_each env qs p places)
    each_told NoPattern p places h b = b
    each_told (APattern q qs) p places h b = each_told qs p (after env q p places) h (after_told q p places h b)

    parts_told : (qs : Patterns) (opened : Opening) (i : ℕ) (p : Path) (places : Places) → IsTold p → ArePlacedSo IsTold places → ArePlacedSo IsTold (after_parts env opened qs i p places)
    parts_told NoPattern opened i p places h b = b
    parts_told (APattern q qs) opened i p places h b = parts_told qs opened (suc i) p (after env q (part_path opened i p) places) h (after_told q (part_path opened i p) places (part_told opened i p h) b)

  args_told : (qs : List Pattern) (i : ℕ) (places : Places) → ArePlacedSo IsTold places → ArePlacedSo IsTold (args_after env qs i places)
  args_told [] i places b = b
  args_told (q ∷ qs) i places b = args_told qs (suc i) (after env q (Arg i) places) (after_told q (Arg i) places tt b)

  iflets_told : (cs : List IfLet) (places : Places) → ArePlacedSo IsTold places → ArePlacedSo IsTold (iflets_after env cs places)
  iflets_told [] places b = b
  iflets_told (c ∷ cs) places b = iflets_told cs (after env c.lhs (path env c.rhs places 0) places) (after_told c.lhs (path env c.rhs places 0) places (path_told c.rhs places 0 b) b)

  -- the variables of a rule
  pub rule_told : (r : Rule) → ArePlacedSo IsTold (rule_places env r)
  rule_told r = iflets_told r.iflets (args_after env r.args 0 no_places) (args_told r.args 0 no_places (record { by = λ x. tt }))
