-- What stands at a path stays while later calls are made.
use Rattle.std.proofs.Common.{◌≡◌, ℕ, zero, suc, ◌+◌, ◌<◌, ◌≤◌, List, [], ◌∷◌, Bool, true, false, cond, eqb, Option, Some, None, refl, ap, ◌∙◌, arith}
use Rattle.isle_core.specs.Value.{Value}
use Rattle.isle_core.specs.Meaning.{Meaning}
use Rattle.isle_core.specs.Calling.{Calling, ByTurns, ByCases, NoCall, calling, extracting, answers_often, is_fallible, instance_of, one_more, impure, impure_all, impure_bindings}
use Rattle.isle_core.specs.Choice.{Choice}
use Rattle.isle_core.specs.Making.{Making, MakesVariant, MakesStruct, MakesNothing, making}
use Rattle.isle_base.specs.declared.ids.TermId.{TermId}
use Rattle.isle_core.specs.Pattern as pattern
use Rattle.isle_core.specs.Pattern.{Pattern, Patterns, NoPattern, APattern, Var}
use Rattle.isle_core.specs.Expr as expr
use Rattle.isle_core.specs.Expr.{Expr, Exprs, NoExpr, AnExpr, LetBindings, NoBinding, ABinding}
use Rattle.isle_core.specs.Match.{Names, with}
use Rattle.isle_core.specs.Opening.{Opening, AsVariant, AsStruct, ByExtractor, opening, result_path, part_path}
use Rattle.isle_core.specs.Path.{Path, Arg, Called, Chosen, Inner, MadeVariant, MadeStruct, VariantField, StructField, Extracted, Wrapped, Part, Paths, NoPath, APath}
use Rattle.isle_core.specs.RightSide.{path_or, term_path, call_path, answer_path, path, paths, let_places}
use Rattle.isle_core.specs.Tests.{Places, no_places, met_after, after, after_parts, after_each, args_after}
use Rattle.isle_core.specs.ValueAt.{Known, none_made, chosen_held, made_held, field_held, inner_held, extracted_held, wrapped_held, part_held, value_before, call_held, value_at, values_at}
use Rattle.isle_core.specs.Rule.{Environment}
use Rattle.isle_core.proofs.PatternTests.{StandsAt, Agree}

-- ---- occurrences up to a number

-- the calls of a path are among the first n
abbrev mutual
  pub IsUpTo : ℕ → Path → Type 0
  IsUpTo n (Called term ps k) = (k ≤ n) × AreUpTo n ps
  IsUpTo n (Inner p) = IsUpTo n p
  IsUpTo n (MadeVariant ty variant ps) = AreUpTo n ps
  IsUpTo n (MadeStruct ty ps) = AreUpTo n ps
  IsUpTo n (VariantField variant i p) = IsUpTo n p
  IsUpTo n (StructField i p) = IsUpTo n p
  IsUpTo n (Extracted term p) = IsUpTo n p
  IsUpTo n (Wrapped p) = IsUpTo n p
  IsUpTo n (Part i p) = IsUpTo n p
  IsUpTo n (Chosen p) = IsUpTo n p
  IsUpTo n p = Unit {0}

  -- so of paths in order
  pub AreUpTo : ℕ → Paths → Type 0
  AreUpTo n NoPath = Unit {0}
  AreUpTo n (APath p ps) = IsUpTo n p × AreUpTo n ps

mutual
  -- they are among the first of more
  pub up_to_more : (p : Path) (n n' : ℕ) → n ≤ n' → IsUpTo n p → IsUpTo n' p
  up_to_more (Called term ps k) n n' le b = let low : k ≤ n = b.0 in let lower : k ≤ n' = omega arith in (lower, all_up_to_more ps n n' le b.1)
  up_to_more (Inner p) n n' le b = up_to_more p n n' le b
  up_to_more (MadeVariant ty variant ps) n n' le b = all_up_to_more ps n n' le b
  up_to_more (MadeStruct ty ps) n n' le b = all_up_to_more ps n n' le b
  up_to_more (VariantField variant i p) n n' le b = up_to_more p n n' le b
  up_to_more (StructField i p) n n' le b = up_to_more p n n' le b
  up_to_more (Extracted term p) n n' le b = up_to_more p n n' le b
  up_to_more (Wrapped p) n n' le b = up_to_more p n n' le b
  up_to_more (Part i p) n n' le b = up_to_more p n n' le b
  up_to_more (Chosen p) n n' le b = up_to_more p n n' le b
  up_to_more p n n' le b = tt

  -- so of paths in order
  pub all_up_to_more : (ps : Paths) (n n' : ℕ) → n ≤ n' → AreUpTo n ps → AreUpTo n' ps
  all_up_to_more NoPath n n' le b = tt
  all_up_to_more (APath p ps) n n' le b = (up_to_more p n n' le b.0, all_up_to_more ps n n' le b.1)

-- the first n calls have the answers that they had, and the same items are chosen
pub record Kept (n : ℕ) (known known' : Known) : Type 0 where
  pub by : (k : ℕ) → k ≤ n → known'.answers k ≡ known.answers k
  pub choice : known'.choice ≡ known.choice

-- of later calls nothing is known
pub record Fresh (n : ℕ) (known : Known) : Type 0 where
  pub by : (k : ℕ) → n < k → known.answers k ≡ None

-- before all calls nothing is known
pub nothing_fresh : (n : ℕ) (choice : Choice) → Fresh n (none_made choice)
nothing_fresh n choice = record { by = λ k lt. refl }

-- what is kept stays kept
pub kept_on : (n n1 : ℕ) (a b c : Known) → n ≤ n1 → Kept n a b → Kept n1 b c → Kept n a c
kept_on n n1 a b c le k l = record { by = λ j low. l.by j (omega arith) ∙ k.by j low; choice = l.choice ∙ k.choice }

-- nothing changes of itself
pub kept_self : (n : ℕ) (a : Known) → Kept n a a
kept_self n a = record { by = λ j low. refl; choice = refl }

-- of still later calls nothing is known either
pub fresh_more : (n n' : ℕ) (known : Known) → n ≤ n' → Fresh n known → Fresh n' known
fresh_more n n' known le f = record { by = λ j l. f.by j (omega arith) }

mutual
  -- a path of the first n calls has the value that it had
  pub stable : (p : Path) (env : Environment) (m : Meaning) (args : List Value) (n : ℕ) (known known' : Known) → IsUpTo n p → Kept n known known' → value_at env m args known' p ≡ value_at env m args known p
  stable (Called term ps j) env m args n known known' b k =
      ap (λ o. call_held m (calling env term) o (values_at env m args known' ps)) (k.by j b.0) ∙ ap (call_held m (calling env term) (known.answers j)) (all_stable ps env m args n known known' b.1 k)
  stable (Inner p) env m args n known known' b k = ap inner_held (stable p env m args n known known' b k)
  stable (MadeVariant ty variant ps) env m args n known known' b k = ap (made_held env (MakesVariant ty variant)) (all_stable ps env m args n known known' b k)
  stable (MadeStruct ty ps) env m args n known known' b k = ap (made_held env (MakesStruct ty)) (all_stable ps env m args n known known' b k)
  stable (VariantField variant i p) env m args n known known' b k = ap (field_held i) (stable p env m args n known known' b k)
  stable (StructField i p) env m args n known known' b k = ap (field_held i) (stable p env m args n known known' b k)
  stable (Extracted term p) env m args n known known' b k = ap (extracted_held m (extracting env term)) (stable p env m args n known known' b k)
  stable (Wrapped p) env m args n known known' b k = ap wrapped_held (stable p env m args n known known' b k)
  stable (Part i p) env m args n known known' b k = ap (part_held i) (stable p env m args n known known' b k)
  stable (Chosen p) env m args n known known' b k =
      ap (λ (c : Choice). chosen_held (c p) (value_at env m args known' p)) k.choice ∙ ap (chosen_held (known.choice p)) (stable p env m args n known known' b k)
  stable p env m args n known known' b k = refl

  -- so of paths in order
  pub all_stable : (ps : Paths) (env : Environment) (m : Meaning) (args : List Value) (n : ℕ) (known known' : Known) → AreUpTo n ps → Kept n known known' → values_at env m args known' ps ≡ values_at env m args known ps
  all_stable NoPath env m args n known known' b k = refl
  all_stable (APath p ps) env m args n known known' b k =
      ap (λ h. value_before h (values_at env m args known' ps)) (stable p env m args n known known' b.0 k) ∙ ap (value_before (value_at env m args known p)) (all_stable ps env m args n known known' b.1 k)

-- ---- places

-- a place stands on the first n calls
abbrev pub IsPlaceUpTo : ℕ → Option Path → Type 0
IsPlaceUpTo n None = Unit {0}
IsPlaceUpTo n (Some p) = IsUpTo n p

-- each place does
pub record PlacesUpTo (n : ℕ) (places : Places) : Type 0 where
  pub by : (x : ℕ) → IsPlaceUpTo n (places x)

place_more : (o : Option Path) (n n' : ℕ) → n ≤ n' → IsPlaceUpTo n o → IsPlaceUpTo n' o
place_more None n n' le b = tt
place_more (Some p) n n' le b = up_to_more p n n' le b

-- and so on the first of more
pub places_more : (places : Places) (n n' : ℕ) → n ≤ n' → PlacesUpTo n places → PlacesUpTo n' places
places_more places n n' le b = record { by = λ x. place_more (places x) n n' le (b.by x) }

place_up_to : (n : ℕ) (o : Option Path) → IsPlaceUpTo n o → IsUpTo n (path_or o)
place_up_to n None b = tt
place_up_to n (Some p) b = b

place_with : (b : Bool) (n : ℕ) (p : Path) (o : Option Path) → IsUpTo n p → IsPlaceUpTo n o → IsPlaceUpTo n (cond b (Some p) o)
place_with true n p o h k = h
place_with false n p o h k = k

-- and so do they after one more
pub with_up_to : (n x : ℕ) (p : Path) (places : Places) → IsUpTo n p → PlacesUpTo n places → PlacesUpTo n (with places x p)
with_up_to n x p places h b = record { by = λ y. place_with (eqb x y) n p (places y) h (b.by y) }

met_up_to : (o : Option Path) (n x : ℕ) (p : Path) (places : Places) → IsUpTo n p → PlacesUpTo n places → PlacesUpTo n (met_after o x p places)
met_up_to None n x p places h b = with_up_to n x p places h b
met_up_to (Some q) n x p places h b = b

answer_up_to : (c : Calling) (n : ℕ) (p : Path) → IsUpTo n p → IsUpTo n (answer_path c p)
answer_up_to c n p b = pick (answers_often c) (is_fallible c)
  where
    pick : (x y : Bool) → IsUpTo n (cond x (Chosen p) (cond y (Inner p) p))
    pick true y = b
    pick false true = b
    pick false false = b

result_up_to : (count n i : ℕ) (p : Path) → IsUpTo n p → IsUpTo n (result_path count i p)
result_up_to zero n i p h = h
result_up_to (suc zero) n i p h = h
result_up_to (suc (suc count)) n i p h = h

part_up_to : (opened : Opening) (n i : ℕ) (p : Path) → IsUpTo n p → IsUpTo n (part_path opened i p)
part_up_to (AsVariant ty variant) n i p h = h
part_up_to (AsStruct ty) n i p h = h
part_up_to (ByExtractor term c count) n i p h = result_up_to count n i (answer_path c (Extracted term p)) (answer_up_to c n (Extracted term p) h)

mutual
  pub after_up_to : (q : Pattern) (env : Environment) (n : ℕ) (p : Path) (places : Places) → IsUpTo n p → PlacesUpTo n places → PlacesUpTo n (after env q p places)
  after_up_to (Var ty x) env n p places h b = met_up_to (places x.0) n x.0 p places h b
  after_up_to (pattern.Term ty term qs) env n p places h b = parts_up_to qs env (opening env term) n 0 p places h b
  after_up_to (pattern.BindPattern ty x q) env n p places h b = after_up_to q env n p (met_after (places x.0) x.0 p places) h (met_up_to (places x.0) n x.0 p places h b)
  after_up_to (pattern.And ty qs) env n p places h b = each_up_to qs env n p places h b
  after_up_to q env n p places h b = b

  each_up_to : (qs : Patterns) (env : Environment) (n : ℕ) (p : Path) (places : Places) → IsUpTo n p → PlacesUpTo n places → PlacesUpTo n (after_each env qs p places)
  each_up_to NoPattern env n p places h b = b
  each_up_to (APattern q qs) env n p places h b = each_up_to qs env n p (after env q p places) h (after_up_to q env n p places h b)

  parts_up_to : (qs : Patterns) (env : Environment) (opened : Opening) (n i : ℕ) (p : Path) (places : Places) → IsUpTo n p → PlacesUpTo n places → PlacesUpTo n (after_parts env opened qs i p places)
  parts_up_to NoPattern env opened n i p places h b = b
  parts_up_to (APattern q qs) env opened n i p places h b =
      parts_up_to qs env opened n (suc i) p (after env q (part_path opened i p) places) h (after_up_to q env n (part_path opened i p) places (part_up_to opened n i p h) b)

-- those of a rule's patterns stand on no call
pub args_up_to : (env : Environment) (qs : List Pattern) (n i : ℕ) (places : Places) → PlacesUpTo n places → PlacesUpTo n (args_after env qs i places)
args_up_to env [] n i places b = b
args_up_to env (q ∷ qs) n i places b = args_up_to env qs n (suc i) (after env q (Arg i) places) (after_up_to q env n (Arg i) places tt b)

-- before all patterns there is no place
pub none_up_to : (n : ℕ) → PlacesUpTo n no_places
none_up_to n = record { by = λ x. tt }

stands_still : (env : Environment) (m : Meaning) (args : List Value) (n : ℕ) (known known' : Known) (o : Option Value) (q : Option Path) → IsPlaceUpTo n q → Kept n known known' → StandsAt (value_at env m args known) o q → StandsAt (value_at env m args known') o q
stands_still env m args n known known' None None b k h = tt
stands_still env m args n known known' (Some v) (Some p) b k h = stable p env m args n known known' b k ∙ h
stands_still env m args n known known' None (Some p) b k h = absurd h
stands_still env m args n known known' (Some v) None b k h = absurd h

-- names agree with such places still
pub agree_still : (env : Environment) (m : Meaning) (args : List Value) (n : ℕ) (known known' : Known) (names : Names) (places : Places) → PlacesUpTo n places → Kept n known known' → Agree (value_at env m args known) names places → Agree (value_at env m args known') names places
agree_still env m args n known known' names places b k a = record { by = λ x. stands_still env m args n known known' (names x) (places x) (b.by x) k (a.by x) }

-- ---- the paths of expressions

made_up_to : (made : Making) (n : ℕ) (term : TermId) (ps : Paths) (k : ℕ) → k ≤ n → AreUpTo n ps → IsUpTo n (term_path made term ps k)
made_up_to (MakesVariant ty variant) n term ps k le b = b
made_up_to (MakesStruct ty) n term ps k le b = b
made_up_to MakesNothing n term ps k le b = (le, b)

pub instance_up_to : (c : Calling) (n : ℕ) → instance_of c n ≤ one_more c n
instance_up_to (ByTurns callee kind) n = omega arith
instance_up_to (ByCases callee kind) n = omega arith
instance_up_to NoCall n = omega arith

pub one_more_up : (c : Calling) (n k : ℕ) → one_more c (n + k) ≡ n + one_more c k
one_more_up (ByTurns callee kind) n k = omega arith
one_more_up (ByCases callee kind) n k = refl
one_more_up NoCall n k = refl

pub less_one : (c : Calling) (n : ℕ) → n ≤ one_more c n
less_one (ByTurns callee kind) n = omega arith
less_one (ByCases callee kind) n = omega arith
less_one NoCall n = omega arith

mutual
  -- the path of an expression stands on its own calls and earlier ones
  pub path_up_to : (e : Expr) (env : Environment) (places : Places) (n : ℕ) → PlacesUpTo n places → IsUpTo (n + impure env e) (path env e places n)
  path_up_to (expr.Var ty x) env places n b = up_to_more (path_or (places x.0)) n (n + 0) (omega arith) (place_up_to n (places x.0) (b.by x.0))
  path_up_to (expr.Term ty term es) env places n b =
      let c = calling env term in
      let k = n + impure_all env es in
      let i : instance_of c k ≤ one_more c k = instance_up_to c k in
      let up : one_more c k ≡ n + one_more c (impure_all env es) = one_more_up c n (impure_all env es) in
      let low : k ≤ one_more c k = less_one c k in
      answer_up_to c (n + one_more c (impure_all env es)) (call_path env term (paths env es places n) k)
      (made_up_to (making env term) (n + one_more c (impure_all env es)) term (paths env es places n) (instance_of c k) (omega arith) (all_up_to_more (paths env es places n) k (n + one_more c (impure_all env es)) (omega arith) (paths_up_to es env places n b)))
  path_up_to (expr.Let ty bindings inner) env places n b =
      let n1 = n + impure_bindings env bindings in
      let mid = let_places env bindings places n in
      let le : n + impure_bindings env bindings + impure env inner ≤ n + (impure_bindings env bindings + impure env inner) = omega arith in
      up_to_more (path env inner mid n1) (n1 + impure env inner) (n + (impure_bindings env bindings + impure env inner)) le (path_up_to inner env mid n1 (let_up_to bindings env places n b))
  path_up_to e env places n b = tt

  -- so of expressions in order
  pub paths_up_to : (es : Exprs) (env : Environment) (places : Places) (n : ℕ) → PlacesUpTo n places → AreUpTo (n + impure_all env es) (paths env es places n)
  paths_up_to NoExpr env places n b = tt
  paths_up_to (AnExpr e es) env places n b =
      let n1 = n + impure env e in
      let le : n ≤ n + impure env e = omega arith in
      let le1 : n + impure env e ≤ n + (impure env e + impure_all env es) = omega arith in
      let assoc : n + impure env e + impure_all env es ≤ n + (impure env e + impure_all env es) = omega arith in (
        up_to_more (path env e places n) n1 (n + (impure env e + impure_all env es)) le1 (path_up_to e env places n b),
        all_up_to_more (paths env es places n1) (n1 + impure_all env es) (n + (impure env e + impure_all env es)) assoc (paths_up_to es env places n1 (places_more places n n1 le b)),
      )

  -- so after the variables of a `let`
  pub let_up_to : (bs : LetBindings) (env : Environment) (places : Places) (n : ℕ) → PlacesUpTo n places → PlacesUpTo (n + impure_bindings env bs) (let_places env bs places n)
  let_up_to NoBinding env places n b = places_more places n (n + 0) (omega arith) b
  let_up_to (ABinding x ty e more) env places n b =
      let n1 = n + impure env e in
      let p = path env e places n in
      let le : n ≤ n + impure env e = omega arith in
      let assoc : n + impure env e + impure_bindings env more ≤ n + (impure env e + impure_bindings env more) = omega arith in
      places_more (let_places env more (with places x.0 p) n1) (n1 + impure_bindings env more) (n + (impure env e + impure_bindings env more)) assoc
      (let_up_to more env (with places x.0 p) n1 (with_up_to n1 x.0 p places (path_up_to e env places n b) (places_more places n n1 le b)))
