-- The variables and the paths of patterns stand at arguments, at fields, and at what extractors give.
use Rattle.std.proofs.Common.{ℕ, zero, suc, List, [], ◌∷◌, ◌++◌, Bool, true, false, cond, eqb, Option, Some, None}
use Rattle.std.specs.List.{AllByRecursion}
use Rattle.isle_base.specs.declared.ids.TermId.{TermId}
use Rattle.isle_core.specs.Calling.{Calling, answers_often, is_fallible}
use Rattle.isle_core.specs.Opening.{Opening, AsVariant, AsStruct, ByExtractor, opening, answer_path, result_path, part_path}
use Rattle.isle_core.specs.Path.{Path, Arg, VariantField, StructField, Extracted, Chosen, Inner, Part}
use Rattle.isle_core.specs.Pattern.{Pattern, Patterns, NoPattern, APattern, Var, ConstBool, ConstInt, ConstPrim, Wildcard, Term, BindPattern, And}
use Rattle.isle_core.specs.RulePaths.{opening_paths, pattern_paths, parts_paths, each_paths, args_paths}
use Rattle.isle_core.specs.Tests.{Places, met_after, after, after_parts, after_each, args_after}
use Rattle.isle_core.specs.Rule.{Environment}

-- the answer of an extractor
abbrev pub IsExtracted : Path → Type 0
IsExtracted (Extracted term p) = Unit {0}
IsExtracted p = ⊥

-- an argument, a field, or what an extractor gives
abbrev pub IsOpened : Path → Type 0
IsOpened (Arg i) = Unit {0}
IsOpened (VariantField variant i p) = Unit {0}
IsOpened (StructField i p) = Unit {0}
IsOpened (Extracted term p) = Unit {0}
IsOpened (Inner p) = IsExtracted p
IsOpened (Chosen p) = IsExtracted p
IsOpened (Part i p) = Unit {0}
IsOpened p = ⊥

-- so if there is a path
abbrev pub IsOpenedPlace : Option Path → Type 0
IsOpenedPlace None = Unit {0}
IsOpenedPlace (Some p) = IsOpened p

-- so of each variable
abbrev pub AreOpened : Places → Type 0
AreOpened places = (x : ℕ) → IsOpenedPlace (places x)

answer_opened : (c : Calling) (term : TermId) (p : Path) → IsOpened (answer_path c (Extracted term p))
answer_opened c term p = pick (answers_often c) (is_fallible c)
  where
    pick : (x y : Bool) → IsOpened (cond x (Chosen (Extracted term p)) (cond y (Inner (Extracted term p)) (Extracted term p)))
    pick true y = tt
    pick false true = tt
    pick false false = tt

result_opened : (count i : ℕ) (p : Path) → IsOpened p → IsOpened (result_path count i p)
result_opened zero i p h = tt
result_opened (suc zero) i p h = h
result_opened (suc (suc count)) i p h = tt

part_opened : (opened : Opening) (i : ℕ) (p : Path) → IsOpened (part_path opened i p)
part_opened (AsVariant ty variant) i p = tt
part_opened (AsStruct ty) i p = tt
part_opened (ByExtractor term c count) i p = result_opened count i (answer_path c (Extracted term p)) (answer_opened c term p)

picked : (b : Bool) (p : Path) (o : Option Path) → IsOpened p → IsOpenedPlace o → IsOpenedPlace (cond b (Some p) o)
picked true p o h k = h
picked false p o h k = k

met_opened : (o : Option Path) (x : ℕ) (p : Path) (places : Places) → IsOpened p → AreOpened places → AreOpened (met_after o x p places)
met_opened None x p places h a y = picked (eqb x y) p (places y) h (a y)
met_opened (Some q) x p places h a y = a y

mutual
  after_opened : (q : Pattern) (env : Environment) (p : Path) (places : Places) → IsOpened p → AreOpened places → AreOpened (after env q p places)
  after_opened (Var ty x) env p places h a = met_opened (places x.0) x.0 p places h a
  after_opened (Term ty term qs) env p places h a = parts_opened qs env (opening env term) 0 p places a
  after_opened (BindPattern ty x q) env p places h a = after_opened q env p (met_after (places x.0) x.0 p places) h (met_opened (places x.0) x.0 p places h a)
  after_opened (And ty qs) env p places h a = each_opened qs env p places h a
  after_opened q env p places h a = a

  each_opened : (qs : Patterns) (env : Environment) (p : Path) (places : Places) → IsOpened p → AreOpened places → AreOpened (after_each env qs p places)
  each_opened NoPattern env p places h a = a
  each_opened (APattern q qs) env p places h a = each_opened qs env p (after env q p places) h (after_opened q env p places h a)

  parts_opened : (qs : Patterns) (env : Environment) (opened : Opening) (i : ℕ) (p : Path) (places : Places) → AreOpened places → AreOpened (after_parts env opened qs i p places)
  parts_opened NoPattern env opened i p places a = a
  parts_opened (APattern q qs) env opened i p places a = parts_opened qs env opened (suc i) p (after env q (part_path opened i p) places) (after_opened q env (part_path opened i p) places (part_opened opened i p) a)

-- the variables of arguments stand so
pub args_opened : (env : Environment) (qs : List Pattern) (i : ℕ) (places : Places) → AreOpened places → AreOpened (args_after env qs i places)
args_opened env [] i places a = a
args_opened env (q ∷ qs) i places a = args_opened env qs (suc i) (after env q (Arg i) places) (after_opened q env (Arg i) places tt a)

all_append : (xs ys : List Path) → AllByRecursion IsOpened xs → AllByRecursion IsOpened ys → AllByRecursion IsOpened (xs ++ ys)
all_append [] ys h k = k
all_append (x ∷ xs) ys h k = (h.0, all_append xs ys h.1 k)

opening_opens : (opened : Opening) (p : Path) → AllByRecursion IsOpened (opening_paths opened p)
opening_opens (AsVariant ty variant) p = tt
opening_opens (AsStruct ty) p = tt
opening_opens (ByExtractor term c count) p = pick (answers_often c) (is_fallible c)
  where
    pick : (x y : Bool) → AllByRecursion IsOpened (cond x (Extracted term p ∷ Chosen (Extracted term p) ∷ []) (cond y (Extracted term p ∷ Inner (Extracted term p) ∷ []) (Extracted term p ∷ [])))
    pick true y = (tt, (tt, tt))
    pick false true = (tt, (tt, tt))
    pick false false = (tt, tt)

mutual
  pattern_opens : (q : Pattern) (env : Environment) (p : Path) → AllByRecursion IsOpened (pattern_paths env q p)
  pattern_opens (Term ty term qs) env p = all_append (opening_paths (opening env term) p) (parts_paths env (opening env term) qs 0 p) (opening_opens (opening env term) p) (parts_open qs env (opening env term) 0 p)
  pattern_opens (Var ty x) env p = tt
  pattern_opens (ConstBool b) env p = tt
  pattern_opens (ConstInt ty n) env p = tt
  pattern_opens (ConstPrim ty name) env p = tt
  pattern_opens (Wildcard ty) env p = tt
  pattern_opens (BindPattern ty x q) env p = pattern_opens q env p
  pattern_opens (And ty qs) env p = each_open qs env p

  each_open : (qs : Patterns) (env : Environment) (p : Path) → AllByRecursion IsOpened (each_paths env qs p)
  each_open NoPattern env p = tt
  each_open (APattern q qs) env p = all_append (pattern_paths env q p) (each_paths env qs p) (pattern_opens q env p) (each_open qs env p)

  parts_open : (qs : Patterns) (env : Environment) (opened : Opening) (i : ℕ) (p : Path) → AllByRecursion IsOpened (parts_paths env opened qs i p)
  parts_open NoPattern env opened i p = tt
  parts_open (APattern q qs) env opened i p = (part_opened opened i p, all_append (pattern_paths env q (part_path opened i p)) (parts_paths env opened qs (suc i) p) (pattern_opens q env (part_path opened i p)) (parts_open qs env opened (suc i) p))

-- and so do the paths of arguments' patterns
pub args_open : (env : Environment) (qs : List Pattern) (i : ℕ) → AllByRecursion IsOpened (args_paths env qs i)
args_open env [] i = tt
args_open env (q ∷ qs) i = (tt, all_append (pattern_paths env q (Arg i)) (args_paths env qs (suc i)) (pattern_opens q env (Arg i)) (args_open env qs (suc i)))
