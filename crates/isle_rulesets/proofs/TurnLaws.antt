-- No variable of a rule's patterns and conditions holds an impure call.
use Rattle.std.proofs.Common.{◌≡◌, ℕ, zero, suc, List, [], ◌∷◌, Bool, true, false, cond, eqb, Option, Some, None, refl, subst}
use Rattle.isle_core.specs.Calling.{Calling, answers_often, is_fallible}
use Rattle.isle_core.specs.Match.{with}
use Rattle.isle_core.specs.Opening.{Opening, AsVariant, AsStruct, ByExtractor, opening, answer_path, result_path, part_path}
use Rattle.isle_core.specs.Path.{Path, Arg, Extracted, Chosen, Inner}
use Rattle.isle_core.specs.Pattern as pattern
use Rattle.isle_core.specs.Pattern.{Pattern, Patterns, NoPattern, APattern}
use Rattle.isle_core.specs.RightSide.{path_or}
use Rattle.isle_core.specs.Rule.{Environment}
use Rattle.isle_core.specs.Tests.{Places, no_places, met_after, after, after_parts, after_each, args_after}
use Rattle.isle_core.proofs.OptionLaws.{some_same}
use Rattle.isle_rulesets.specs.Late.{has_turn, HasNoTurns}

pub place_turn : (o : Option Path) → ((p : Path) → o ≡ Some p → has_turn p ≡ false) → has_turn (path_or o) ≡ false
place_turn None h = refl
place_turn (Some p) h = h p refl

some_turn : (b : Bool) (q : Path) (o : Option Path) (p : Path) → has_turn q ≡ false → (o ≡ Some p → has_turn p ≡ false) → cond b (Some q) o ≡ Some p → has_turn p ≡ false
some_turn true q o p h k e = subst (λ r. has_turn r ≡ false) (some_same q p e) h
some_turn false q o p h k e = k e

-- one variable more
pub with_turn : (places : Places) (x : ℕ) (q : Path) → HasNoTurns places → has_turn q ≡ false → HasNoTurns (with places x q)
with_turn places x q w h y p e = some_turn (eqb x y) q (places y) p h (w y p) e

pub answer_turn : (c : Calling) (p : Path) → has_turn p ≡ false → has_turn (answer_path c p) ≡ false
answer_turn c p h = pick (answers_often c) (is_fallible c)
  where
    pick : (often fallible : Bool) → has_turn (cond often (Chosen p) (cond fallible (Inner p) p)) ≡ false
    pick true fallible = h
    pick false true = h
    pick false false = h

met_turn : (o : Option Path) (x : ℕ) (p : Path) (places : Places) → has_turn p ≡ false → HasNoTurns places → HasNoTurns (met_after o x p places)
met_turn None x p places h w = with_turn places x p w h
met_turn (Some q) x p places h w = w

result_turn : (count i : ℕ) (p : Path) → has_turn p ≡ false → has_turn (result_path count i p) ≡ false
result_turn zero i p h = h
result_turn (suc zero) i p h = h
result_turn (suc (suc count)) i p h = h

part_turn : (opened : Opening) (i : ℕ) (p : Path) → has_turn p ≡ false → has_turn (part_path opened i p) ≡ false
part_turn (AsVariant ty variant) i p h = h
part_turn (AsStruct ty) i p h = h
part_turn (ByExtractor term c count) i p h = result_turn count i (answer_path c (Extracted term p)) (answer_turn c (Extracted term p) h)

mutual
  -- after a pattern
  pub after_turn : (q : Pattern) (env : Environment) (p : Path) (places : Places) → has_turn p ≡ false → HasNoTurns places → HasNoTurns (after env q p places)
  after_turn (pattern.Var ty x) env p places h w = met_turn (places x.0) x.0 p places h w
  after_turn (pattern.ConstBool v) env p places h w = w
  after_turn (pattern.ConstInt ty v) env p places h w = w
  after_turn (pattern.ConstPrim ty name) env p places h w = w
  after_turn (pattern.Wildcard ty) env p places h w = w
  after_turn (pattern.Term ty term qs) env p places h w = parts_turn qs env (opening env term) 0 p places h w
  after_turn (pattern.BindPattern ty x q) env p places h w = after_turn q env p (met_after (places x.0) x.0 p places) h (met_turn (places x.0) x.0 p places h w)
  after_turn (pattern.And ty qs) env p places h w = each_turn qs env p places h w

  each_turn : (qs : Patterns) (env : Environment) (p : Path) (places : Places) → has_turn p ≡ false → HasNoTurns places → HasNoTurns (after_each env qs p places)
  each_turn NoPattern env p places h w = w
  each_turn (APattern q qs) env p places h w = each_turn qs env p (after env q p places) h (after_turn q env p places h w)

  parts_turn : (qs : Patterns) (env : Environment) (opened : Opening) (i : ℕ) (p : Path) (places : Places) → has_turn p ≡ false → HasNoTurns places → HasNoTurns (after_parts env opened qs i p places)
  parts_turn NoPattern env opened i p places h w = w
  parts_turn (APattern q qs) env opened i p places h w =
      parts_turn qs env opened (suc i) p (after env q (part_path opened i p) places) h (after_turn q env (part_path opened i p) places (part_turn opened i p h) w)

args_turn : (env : Environment) (qs : List Pattern) (i : ℕ) (places : Places) → HasNoTurns places → HasNoTurns (args_after env qs i places)
args_turn env [] i places w = w
args_turn env (q ∷ qs) i places w = args_turn env qs (suc i) (after env q (Arg i) places) (after_turn q env (Arg i) places refl w)

none_placed : HasNoTurns no_places
none_placed x p e = cc

-- after the arguments
pub first_turn : (env : Environment) (qs : List Pattern) → HasNoTurns (args_after env qs 0 no_places)
first_turn env qs = args_turn env qs 0 no_places none_placed
