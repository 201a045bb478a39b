-- The paths of a rule's patterns stand somewhere, and none calls a term that answers several times.
use Rattle.std.proofs.Common.{◌≡◌, ℕ, zero, suc, List, [], ◌∷◌, Bool, true, false, cond, eqb, Option, Some, None, refl, sym, ap, ◌∙◌, subst}
use Rattle.std.specs.Prelude.{slice_get}
use Rattle.std.specs.List.{AllByRecursion}
use Rattle.isle_core.specs.declared.TermId.{TermId}
use Rattle.isle_core.specs.declared.types.Term.{Term as CodeTerm}
use Rattle.isle_core.specs.BuiltRule.{IsOpening, IsBuiltPattern, AreBuiltPatterns}
use Rattle.isle_core.specs.Calling.{Calling, is_fallible, answers_often, extracting, extracting_of}
use Rattle.isle_core.specs.Iterators.{calls_multi}
use Rattle.isle_core.specs.Making.{Making, MakesVariant, MakesStruct, MakesNothing, making}
use Rattle.isle_core.specs.Opening.{Opening, AsVariant, AsStruct, ByExtractor, opening, opening_by, answer_path, result_path, part_path}
use Rattle.isle_core.specs.Path.{Path, Nowhere, Arg, Extracted}
use Rattle.isle_core.specs.Pattern.{Pattern, Patterns, NoPattern, APattern, Var, ConstBool, ConstInt, ConstPrim, Term, Wildcard, BindPattern, And}
use Rattle.isle_core.specs.Tests.{Places, no_places, met_after, after, after_parts, after_each, args_after}
use Rattle.isle_core.specs.Rule.{Environment}
use Rattle.isle_core.proofs.OptionLaws.{some_same}

-- it stands somewhere, and calls no such term
abbrev pub IsLone : Environment → Path → Type 0
IsLone env p = (p ≡ Nowhere → ⊥) × (calls_multi env p ≡ false)

-- so does each variable
abbrev pub AreLone : Environment → Places → Type 0
AreLone env places = (x : ℕ) (p : Path) → places x ≡ Some p → IsLone env p

-- ---- parts

-- a term's own extractor, or what is made
abbrev pub IsLoneOpening : Environment → Opening → Type 0
IsLoneOpening env (AsVariant ty variant) = Unit {0}
IsLoneOpening env (AsStruct ty) = Unit {0}
IsLoneOpening env (ByExtractor term c count) = c ≡ extracting env term

lone_by : (env : Environment) (term : TermId) (mk : Making) (t : Option CodeTerm) → IsOpening mk t → slice_get env.terms term.0 ≡ t → IsLoneOpening env (opening_by term mk (extracting_of env t) t)
lone_by env term (MakesVariant ty variant) t o e = tt
lone_by env term (MakesStruct ty) t o e = tt
lone_by env term MakesNothing None o e = absurd o
lone_by env term MakesNothing (Some t) o e = sym (ap (extracting_of env) e)

pub opening_lone : (env : Environment) (term : TermId) → IsOpening (making env term) (slice_get env.terms term.0) → IsLoneOpening env (opening env term)
opening_lone env term o = lone_by env term (making env term) (slice_get env.terms term.0) o refl

pub call_lone : (env : Environment) (term : TermId) (c : Calling) (p : Path) → c ≡ extracting env term → answers_often c ≡ false → IsLone env (Extracted term p)
call_lone env term c p e o = (λ f. cc, sym (ap answers_often e) ∙ o)

answer_lone : (env : Environment) (term : TermId) (c : Calling) (p : Path) (often fallible : Bool) → answers_often c ≡ often → is_fallible c ≡ fallible → c ≡ extracting env term → IsLone env (answer_path c (Extracted term p))
answer_lone env term c p true fallible o f e = rw o (λ g. cc, refl)
answer_lone env term c p false true o f e = rw (o, f) (λ g. cc, refl)
answer_lone env term c p false false o f e = rw (o, f) (call_lone env term c p e o)

result_lone : (env : Environment) (count i : ℕ) (p : Path) → IsLone env p → IsLone env (result_path count i p)
result_lone env zero i p h = (λ f. cc, refl)
result_lone env (suc zero) i p h = h
result_lone env (suc (suc count)) i p h = (λ f. cc, refl)

-- so is each part of what stands somewhere
pub part_lone : (env : Environment) (opened : Opening) (i : ℕ) (p : Path) → IsLoneOpening env opened → IsLone env (part_path opened i p)
part_lone env (AsVariant ty variant) i p o = (λ f. cc, refl)
part_lone env (AsStruct ty) i p o = (λ f. cc, refl)
part_lone env (ByExtractor term c count) i p o = result_lone env count i (answer_path c (Extracted term p)) (answer_lone env term c p (answers_often c) (is_fallible c) refl refl o)

-- ---- variables

with_lone : (env : Environment) (b : Bool) (q : Path) (o : Option Path) (p : Path) → IsLone env q → (o ≡ Some p → IsLone env p) → cond b (Some q) o ≡ Some p → IsLone env p
with_lone env true q o p h k e = subst (IsLone env) (some_same q p e) h
with_lone env false q o p h k e = k e

pub met_lone : (env : Environment) (o : Option Path) (x : ℕ) (p : Path) (places : Places) → IsLone env p → AreLone env places → AreLone env (met_after o x p places)
met_lone env None x p places a w y r e = with_lone env (eqb x y) p (places y) r a (w y r) e
met_lone env (Some q) x p places a w y r e = w y r e

mutual
  -- after a pattern
  pub after_lone : (q : Pattern) (env : Environment) (p : Path) (places : Places) → IsBuiltPattern env.terms q → IsLone env p → AreLone env places → AreLone env (after env q p places)
  after_lone (Var ty x) env p places b a w = met_lone env (places x.0) x.0 p places a w
  after_lone (ConstBool v) env p places b a w = w
  after_lone (ConstInt ty v) env p places b a w = w
  after_lone (ConstPrim ty name) env p places b a w = w
  after_lone (Wildcard ty) env p places b a w = w
  after_lone (Term ty term qs) env p places b a w = after_parts_lone qs env (opening env term) 0 p places (opening_lone env term b.0) b.2 w
  after_lone (BindPattern ty x q) env p places b a w = after_lone q env p (met_after (places x.0) x.0 p places) b a (met_lone env (places x.0) x.0 p places a w)
  after_lone (And ty qs) env p places b a w = after_each_lone qs env p places b a w

  pub after_parts_lone : (qs : Patterns) (env : Environment) (opened : Opening) (i : ℕ) (p : Path) (places : Places) → IsLoneOpening env opened → AreBuiltPatterns env.terms qs → AreLone env places → AreLone env (after_parts env opened qs i p places)
  after_parts_lone NoPattern env opened i p places o b w = w
  after_parts_lone (APattern q qs) env opened i p places o b w =
      after_parts_lone qs env opened (suc i) p (after env q (part_path opened i p) places) o b.1 (after_lone q env (part_path opened i p) places b.0 (part_lone env opened i p o) w)

  pub after_each_lone : (qs : Patterns) (env : Environment) (p : Path) (places : Places) → AreBuiltPatterns env.terms qs → IsLone env p → AreLone env places → AreLone env (after_each env qs p places)
  after_each_lone NoPattern env p places b a w = w
  after_each_lone (APattern q qs) env p places b a w = after_each_lone qs env p (after env q p places) b.1 a (after_lone q env p places b.0 a w)

pub arg_lone : (env : Environment) (i : ℕ) → IsLone env (Arg i)
arg_lone env i = (λ f. cc, refl)

args_lone : (env : Environment) (qs : List Pattern) (i : ℕ) (places : Places) → AllByRecursion (IsBuiltPattern env.terms) qs → AreLone env places → AreLone env (args_after env qs i places)
args_lone env [] i places b w = w
args_lone env (q ∷ qs) i places b w = args_lone env qs (suc i) (after env q (Arg i) places) b.1 (after_lone q env (Arg i) places b.0 (arg_lone env i) w)

pub none_lone : (env : Environment) → AreLone env no_places
none_lone env x p e = cc

-- the variables of patterns
pub place_lone : (env : Environment) (qs : List Pattern) → AllByRecursion (IsBuiltPattern env.terms) qs → AreLone env (args_after env qs 0 no_places)
place_lone env qs b = args_lone env qs 0 no_places b (none_lone env)
