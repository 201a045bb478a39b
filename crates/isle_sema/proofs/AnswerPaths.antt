-- Only calls that may be nothing have inner values among the paths of rules, and only calls that answer several times have items.
use Rattle.std.proofs.Common.{◌≡◌, ℕ, zero, suc, ◌+◌, Bool, true, false, cond, List, [], ◌∷◌, ◌++◌, Option, Some, None, refl}
use Rattle.std.specs.Prelude.{Contains}
use Rattle.std.specs.List.{AllByRecursion}
use Rattle.isle_core.specs.declared.TermId.{TermId}
use Rattle.isle_core.specs.CalledTerms.{called_by}
use Rattle.isle_core.specs.Calling.{Calling, answers_often, is_fallible, calling, impure}
use Rattle.isle_core.specs.Expr.{Expr}
use Rattle.isle_core.specs.Making.{Making, MakesVariant, MakesStruct, MakesNothing, making}
use Rattle.isle_core.specs.OccurringConstants.{expr_constants}
use Rattle.isle_core.specs.Opening.{Opening, AsVariant, AsStruct, ByExtractor, opening, answer_path, result_path, part_path}
use Rattle.isle_core.specs.Path.{Path, Arg, Called, Chosen, Inner, Extracted, MadeVariant, MadeStruct, Paths}
use Rattle.isle_core.specs.Pattern as pattern
use Rattle.isle_core.specs.Pattern.{Pattern, Patterns, NoPattern, APattern}
use Rattle.isle_core.specs.Rule.{IfLet, Rule, Environment}
use Rattle.isle_core.specs.RightSide.{path, term_path}
use Rattle.isle_core.specs.RulePaths.{opening_paths, pattern_paths, parts_paths, each_paths, args_paths, iflets_paths, with_inner, expr_paths, rule_paths, rules_paths}
use Rattle.isle_core.specs.Tests.{Places, no_places, met_after, after, after_parts, after_each, args_after, iflets_after, rule_places}
use Rattle.isle_core.proofs.ExprPaths.{ArePlacedSo, all_append, with_placed, path_so, expr_each}
use Rattle.isle_core.proofs.RulePairs.{all_at}

-- ---- paths alone

-- a call may be nothing
abbrev MayBeNothing : Environment → Path → Type 0
MayBeNothing env (Called term qs k) = is_fallible (calling env term) ≡ true
MayBeNothing env p = Unit {0}

-- a call answers several times
abbrev AnswersSeveral : Environment → Path → Type 0
AnswersSeveral env (Called term qs k) = answers_often (calling env term) ≡ true
AnswersSeveral env p = Unit {0}

-- an inner value is of a call that may be nothing, and an item of one that answers several times
abbrev pub FitsAnswer : Environment → Path → Type 0
FitsAnswer env (Inner p) = MayBeNothing env p
FitsAnswer env (Chosen p) = AnswersSeveral env p
FitsAnswer env p = Unit {0}

-- so of each of these paths
abbrev pub FitAnswers : Environment → List Path → Type 0
FitAnswers env ps = (p : Path) → Contains ps p → FitsAnswer env p

-- a path with its item or its inner value
inner_fits : (env : Environment) (p : Path) (often fallible : Bool) → FitsAnswer env p → (often ≡ true → FitsAnswer env (Chosen p)) → (fallible ≡ true → FitsAnswer env (Inner p))
    → AllByRecursion (FitsAnswer env) (cond often (p ∷ Chosen p ∷ []) (cond fallible (p ∷ Inner p ∷ []) (p ∷ [])))
inner_fits env p true fallible h o f = (h, (o refl, tt))
inner_fits env p false true h o f = (h, (f refl, tt))
inner_fits env p false false h o f = (h, tt)

-- the value of a term
term_fits : (env : Environment) (mk : Making) (term : TermId) (ps : Paths) (k : ℕ) → AllByRecursion (FitsAnswer env) (with_inner (calling env term) (term_path mk term ps k))
term_fits env MakesNothing term ps k = inner_fits env (Called term ps k) (answers_often (calling env term)) (is_fallible (calling env term)) tt (λ e. e) (λ e. e)
term_fits env (MakesVariant ty variant) term ps k = inner_fits env (MadeVariant ty variant ps) (answers_often (calling env term)) (is_fallible (calling env term)) tt (λ e. tt) (λ e. tt)
term_fits env (MakesStruct ty) term ps k = inner_fits env (MadeStruct ty ps) (answers_often (calling env term)) (is_fallible (calling env term)) tt (λ e. tt) (λ e. tt)

-- the paths of an expression
expr_fits : (env : Environment) (e : Expr) (places : Places) (n : ℕ) → ArePlacedSo (FitsAnswer env) places → AllByRecursion (FitsAnswer env) (expr_paths env e places n)
expr_fits env e places n a = expr_each (FitsAnswer env) env (called_by env e) (expr_constants e) (record {
  nowhere = tt;
  truth = λ b. tt;
  number = λ ty k. tt;
  named = λ ty name c. tt;
  term = λ term ps k own. term_fits env (making env term) term ps k;
}) e places n a (λ t c. c) (λ t c. c)

-- ---- patterns

-- a variable that is met
met_fits : (env : Environment) (o : Option Path) (x : ℕ) (p : Path) (places : Places) → FitsAnswer env p → ArePlacedSo (FitsAnswer env) places → ArePlacedSo (FitsAnswer env) (met_after o x p places)
met_fits env None x p places h a = with_placed (FitsAnswer env) places x p h a
met_fits env (Some q) x p places h a = a

-- what an extractor answers
extracted_fits : (env : Environment) (c : Calling) (term : TermId) (p : Path) → FitsAnswer env (answer_path c (Extracted term p))
extracted_fits env c term p = pick (answers_often c) (is_fallible c)
  where
    pick : (often fallible : Bool) → FitsAnswer env (cond often (Chosen (Extracted term p)) (cond fallible (Inner (Extracted term p)) (Extracted term p)))
    pick true fallible = tt
    pick false true = tt
    pick false false = tt

result_fits : (env : Environment) (count i : ℕ) (p : Path) → FitsAnswer env p → FitsAnswer env (result_path count i p)
result_fits env zero i p h = tt
result_fits env (suc zero) i p h = h
result_fits env (suc (suc count)) i p h = tt

-- a part
part_fits : (env : Environment) (opened : Opening) (i : ℕ) (p : Path) → FitsAnswer env (part_path opened i p)
part_fits env (AsVariant ty variant) i p = tt
part_fits env (AsStruct ty) i p = tt
part_fits env (ByExtractor term c count) i p = result_fits env count i (answer_path c (Extracted term p)) (extracted_fits env c term p)

opening_fits : (env : Environment) (opened : Opening) (p : Path) → AllByRecursion (FitsAnswer env) (opening_paths opened p)
opening_fits env (AsVariant ty variant) p = tt
opening_fits env (AsStruct ty) p = tt
opening_fits env (ByExtractor term c count) p = inner_fits env (Extracted term p) (answers_often c) (is_fallible c) tt (λ e. tt) (λ e. tt)

mutual
  -- the paths of a pattern
  pattern_fits : (q : Pattern) (env : Environment) (p : Path) → AllByRecursion (FitsAnswer env) (pattern_paths env q p)
  pattern_fits (pattern.Term ty term qs) env p = all_append (FitsAnswer env) (opening_paths (opening env term) p) (parts_paths env (opening env term) qs 0 p) (opening_fits env (opening env term) p) (parts_fit qs env (opening env term) 0 p)
  pattern_fits (pattern.BindPattern ty x q) env p = pattern_fits q env p
  pattern_fits (pattern.And ty qs) env p = each_fit qs env p
  pattern_fits (pattern.Var ty x) env p = tt
  pattern_fits (pattern.ConstBool b) env p = tt
  pattern_fits (pattern.ConstInt ty n) env p = tt
  pattern_fits (pattern.ConstPrim ty name) env p = tt
  pattern_fits (pattern.Wildcard ty) env p = tt

  parts_fit : (qs : Patterns) (env : Environment) (opened : Opening) (i : ℕ) (p : Path) → AllByRecursion (FitsAnswer env) (parts_paths env opened qs i p)
  parts_fit NoPattern env opened i p = tt
  parts_fit (APattern q qs) env opened i p =
      let r = part_path opened i p in
      (part_fits env opened i p, all_append (FitsAnswer env) (pattern_paths env q r) (parts_paths env opened qs (suc i) p) (pattern_fits q env r) (parts_fit qs env opened (suc i) p))

  each_fit : (qs : Patterns) (env : Environment) (p : Path) → AllByRecursion (FitsAnswer env) (each_paths env qs p)
  each_fit NoPattern env p = tt
  each_fit (APattern q qs) env p = all_append (FitsAnswer env) (pattern_paths env q p) (each_paths env qs p) (pattern_fits q env p) (each_fit qs env p)

mutual
  -- where variables stand after a pattern
  after_fits : (q : Pattern) (env : Environment) (p : Path) (places : Places) → FitsAnswer env p → ArePlacedSo (FitsAnswer env) places → ArePlacedSo (FitsAnswer env) (after env q p places)
  after_fits (pattern.Var ty x) env p places h a = met_fits env (places x.0) x.0 p places h a
  after_fits (pattern.Term ty term qs) env p places h a = after_parts_fit qs env (opening env term) 0 p places a
  after_fits (pattern.BindPattern ty x q) env p places h a = after_fits q env p (met_after (places x.0) x.0 p places) h (met_fits env (places x.0) x.0 p places h a)
  after_fits (pattern.And ty qs) env p places h a = after_each_fit qs env p places h a
  after_fits (pattern.ConstBool b) env p places h a = a
  after_fits (pattern.ConstInt ty n) env p places h a = a
  after_fits (pattern.ConstPrim ty name) env p places h a = a
  after_fits (pattern.Wildcard ty) env p places h a = a

  after_each_fit : (qs : Patterns) (env : Environment) (p : Path) (places : Places) → FitsAnswer env p → ArePlacedSo (FitsAnswer env) places → ArePlacedSo (FitsAnswer env) (after_each env qs p places)
  after_each_fit NoPattern env p places h a = a
  after_each_fit (APattern q qs) env p places h a = after_each_fit qs env p (after env q p places) h (after_fits q env p places h a)

  after_parts_fit : (qs : Patterns) (env : Environment) (opened : Opening) (i : ℕ) (p : Path) (places : Places) → ArePlacedSo (FitsAnswer env) places → ArePlacedSo (FitsAnswer env) (after_parts env opened qs i p places)
  after_parts_fit NoPattern env opened i p places a = a
  after_parts_fit (APattern q qs) env opened i p places a =
      let r = part_path opened i p in
      after_parts_fit qs env opened (suc i) p (after env q r places) (after_fits q env r places (part_fits env opened i p) a)

-- ---- rules

-- the paths of arguments
args_fit : (env : Environment) (qs : List Pattern) (i : ℕ) → AllByRecursion (FitsAnswer env) (args_paths env qs i)
args_fit env [] i = tt
args_fit env (q ∷ qs) i = (tt, all_append (FitsAnswer env) (pattern_paths env q (Arg i)) (args_paths env qs (suc i)) (pattern_fits q env (Arg i)) (args_fit env qs (suc i)))

args_places : (env : Environment) (qs : List Pattern) (i : ℕ) (places : Places) → ArePlacedSo (FitsAnswer env) places → ArePlacedSo (FitsAnswer env) (args_after env qs i places)
args_places env [] i places a = a
args_places env (q ∷ qs) i places a = args_places env qs (suc i) (after env q (Arg i) places) (after_fits q env (Arg i) places tt a)

-- the expression of a condition
value_fits : (env : Environment) (c : IfLet) (places : Places) → ArePlacedSo (FitsAnswer env) places → FitsAnswer env (path env c.rhs places 0)
value_fits env c places a = path_so (FitsAnswer env) env c.rhs places 0 (expr_fits env c.rhs places 0 a)

-- where variables stand after conditions
iflets_places : (cs : List IfLet) (env : Environment) (places : Places) → ArePlacedSo (FitsAnswer env) places → ArePlacedSo (FitsAnswer env) (iflets_after env cs places)
iflets_places [] env places a = a
iflets_places (c ∷ cs) env places a =
    let p = path env c.rhs places 0 in
    iflets_places cs env (after env c.lhs p places) (after_fits c.lhs env p places (value_fits env c places a) a)

-- the paths of conditions
iflets_fit : (cs : List IfLet) (env : Environment) (places : Places) → ArePlacedSo (FitsAnswer env) places → AllByRecursion (FitsAnswer env) (iflets_paths env cs places)
iflets_fit [] env places a = tt
iflets_fit (c ∷ cs) env places a =
    let p = path env c.rhs places 0 in
    let mid = after env c.lhs p places in
    let own = expr_paths env c.rhs places 0 in
    all_append (FitsAnswer env) (own ++ pattern_paths env c.lhs p) (iflets_paths env cs mid) (all_append (FitsAnswer env) own (pattern_paths env c.lhs p) (expr_fits env c.rhs places 0 a) (pattern_fits c.lhs env p))
    (iflets_fit cs env mid (after_fits c.lhs env p places (value_fits env c places a) a))

each_rule_fits : (rules : List Rule) (env : Environment) (n : ℕ) → AllByRecursion (FitsAnswer env) (rules_paths env rules n)
each_rule_fits [] env n = tt
each_rule_fits (r ∷ rules) env n =
    let bound = args_after env r.args 0 no_places in
    let conditions = iflets_paths env r.iflets bound in
    let right = expr_paths env r.rhs (rule_places env r) n in
    let placed = args_places env r.args 0 no_places (record { by = λ x. tt }) in
    all_append (FitsAnswer env) (rule_paths env r n) (rules_paths env rules (n + impure env r.rhs))
    (all_append (FitsAnswer env) (args_paths env r.args 0) (conditions ++ right) (args_fit env r.args 0)
    (all_append (FitsAnswer env) conditions right (iflets_fit r.iflets env bound placed) (expr_fits env r.rhs (rule_places env r) n (iflets_places r.iflets env bound placed))))
    (each_rule_fits rules env (n + impure env r.rhs))

-- the paths of rules
pub rules_fit : (rules : List Rule) (env : Environment) (n : ℕ) → FitAnswers env (rules_paths env rules n)
rules_fit rules env n p c = all_at (FitsAnswer env) (rules_paths env rules n) p (each_rule_fits rules env n) c
