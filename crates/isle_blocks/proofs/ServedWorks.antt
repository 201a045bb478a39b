-- The block of a term that answers several times gives what the term's rules prescribe.
use Rattle.std.proofs.Common.{◌≡◌, ⊎_elim, ℕ, suc, ◌+◌, ◌<◌, ◌≤◌, List, [], ◌∷◌, ◌++◌, map, Option, Some, None, refl, sym, ap, ◌∙◌, subst, arith}
use Rattle.std.specs.Prelude.{Contains}
use Rattle.std.specs.List.{AllByRecursion}
use Rattle.std.proofs.lemmas.List.Elements.{Contains-append_left, Contains-append_right, Contains-append_cases}
use Rattle.isle_core.specs.declared.BindingId.{BindingId}
use Rattle.isle_core.specs.declared.TypeId.{TypeId}
use Rattle.isle_core.specs.declared.rule_sets.FlatRule.{FlatRule}
use Rattle.isle_core.specs.declared.rule_sets.RuleSet.{RuleSet}
use Rattle.isle_core.specs.Block.{Block}
use Rattle.isle_core.specs.BuiltRule.{IsBuiltRule, CallsBuiltTerms}
use Rattle.isle_core.specs.CalledTerms.{called_by, called_in, extracted_in, called_in_iflets, called}
use Rattle.isle_core.specs.Calling.{Calling, ByTurns, ByCases, NoCall, HasKind, impure}
use Rattle.isle_core.specs.Choices.{each_choice, flat_adds}
use Rattle.isle_core.specs.HasType.{HaveTypes}
use Rattle.isle_core.specs.Lawful.{called_as}
use Rattle.isle_core.specs.Meaning.{Meaning}
use Rattle.isle_core.specs.Occurrences.{occurrence_at, occurrences}
use Rattle.isle_core.specs.OccurringConstants.{expr_constants, args_constants, iflets_constants, rule_constants, rules_constants}
use Rattle.isle_core.specs.Pairs.{Placed, placed, PrescribesSeveral}
use Rattle.isle_core.specs.Parts.{Given, nothing_given}
use Rattle.isle_core.specs.Path.{Path, at, paths_of}
use Rattle.isle_core.specs.PatternType.{AreVariantsApart}
use Rattle.isle_core.specs.Rule.{Environment, Rule}
use Rattle.isle_core.specs.Scope.{IsScopedRule, all_variables, iflets_scope}
use Rattle.isle_core.specs.Serializable.{occurrences_of}
use Rattle.isle_core.specs.SeveralRun.{several_outcome}
use Rattle.isle_core.specs.Single.{AreOften}
use Rattle.isle_core.specs.StandsFor.{IsFlat, AreFlat}
use Rattle.isle_core.specs.Tests.{rule_places}
use Rattle.isle_core.specs.Value.{Value, Answer}
use Rattle.isle_core.specs.ValueAt.{Known, nothing_known}
use Rattle.isle_core.specs.Works.{Work, works_add}
use Rattle.isle_core.specs.Served.{IsSupplied, AreServedRules, IsServedSet}
use Rattle.isle_core.proofs.AllPairs.{CoverRules, AreWorksApart, works_prescribe}
use Rattle.isle_core.proofs.AnsweredTerms.{HasAnsweredCalls, Supplies, supplies_less, calls_answered}
use Rattle.isle_core.proofs.CallRanges.{IsInRange, calls_range}
use Rattle.isle_core.proofs.ConditionTests.{supplied_less}
use Rattle.isle_core.proofs.Contained.{head_contained, contained_cases, none_contained}
use Rattle.isle_core.proofs.EachFollows.{AnyOften}
use Rattle.isle_core.proofs.FirstItems.{firsts_within}
use Rattle.isle_core.proofs.ListedChoices.{choice_listed}
use Rattle.isle_core.proofs.PlacedVariables.{rule_placed}
use Rattle.isle_core.proofs.RulePairs.{IsWork, all_from, all_at}
use Rattle.isle_core.proofs.SetMeans.{first_served, patterns_served, conditions_served, has_some}
use Rattle.isle_core.proofs.WorksApart.{IsOwn, IsUnmade, work_apart}
use Rattle.isle_blocks.specs.Added.{AreEarlyLists, Over, rules_over, flats_add, KnowsOnly, AddAnew, AddsSeveral}
use Rattle.isle_blocks.specs.Reordered.{PutIn, here, later, IsReordered, nothing, more}
use Rattle.isle_blocks.proofs.Reorders.{put_all, reorder_all, reorder_has, reorder_keeps, Beside, reorder_beside}

-- ---- works over lists

-- a work over these lists
abbrev with_lists : Work → List Path → Work
with_lists w qs = record { of = w.of; flat = w.flat; lists = qs }

-- works over the lists of rules in order
abbrev over : List Work → List Over → List Work
over [] [] = []
over [] (x ∷ xs) = []
over (w ∷ ws) [] = []
over (w ∷ ws) (x ∷ xs) = with_lists w x.lists ∷ over ws xs

abbrev flats_of : List Work → List FlatRule
flats_of ws = map (λ (w : Work). w.flat) ws

-- each is one of the works
over_from : (ws : List Work) (xs : List Over) (w : Work) → Contains (over ws xs) w → (v : Work) × Contains ws v × (v.of ≡ w.of)
over_from [] [] w c = absurd (none_contained w c)
over_from [] (x ∷ xs) w c = absurd (none_contained w c)
over_from (v ∷ ws) [] w c = absurd (none_contained w c)
over_from (v ∷ ws) (x ∷ xs) w c =
    ⊎_elim (λ (e : with_lists v x.lists ≡ w). (v, head_contained v ws, ap (λ (y : Work). y.of) e))
    (λ d. let r = over_from ws xs w d in (r.0, Contains-append_right (v ∷ []) ws r.0 r.1, r.2)) (contained_cases (with_lists v x.lists) (over ws xs) w c)

-- and each of the works is there
over_has : (ws : List Work) (xs : List Over) (v : Work) → flats_of ws ≡ rules_over xs → Contains ws v → (w : Work) × Contains (over ws xs) w × (w.of ≡ v.of)
over_has [] xs v e c = absurd (none_contained v c)
over_has (w ∷ ws) [] v e c = absurd cc
over_has (w ∷ ws) (x ∷ xs) v e c =
    let first = with_lists w x.lists in
    let tail : flats_of ws ≡ rules_over xs = cc in
    ⊎_elim (λ (is : w ≡ v). (first, head_contained first (over ws xs), ap (λ (y : Work). y.of) is))
    (λ d. let r = over_has ws xs v tail d in (r.0, Contains-append_right (first ∷ []) (over ws xs) r.0 r.1, r.2)) (contained_cases w ws v c)

-- works over lists up to one, that one, and those after it
record SplitWorks (ws : List Work) (xs : List Over) (x : Over) : Type 0 where
  front : List Work
  here' : Work
  behind : List Work
  are : ws ≡ front ++ here' ∷ behind
  fronts : flats_of front ≡ rules_over xs
  flat : here'.flat ≡ x.rule
  lists : here'.lists ≡ x.lists

split_works : (ws : List Work) (xs : List Over) (x : Over) (ys : List Over) → flats_of ws ≡ rules_over (xs ++ x ∷ ys) → SplitWorks (over ws (xs ++ x ∷ ys)) xs x
split_works [] [] x ys e = absurd cc
split_works [] (u ∷ xs) x ys e = absurd cc
split_works (w ∷ ws) [] x ys e = let head : w.flat ≡ x.rule = cc in record { front = []; here' = with_lists w x.lists; behind = over ws ys; are = refl; fronts = refl; flat = head; lists = refl }
split_works (w ∷ ws) (u ∷ xs) x ys e = let head : w.flat ≡ u.rule = cc in let tail : flats_of ws ≡ rules_over (xs ++ x ∷ ys) = cc in longer (over ws (xs ++ x ∷ ys)) (with_lists w u.lists) head (split_works ws xs x ys tail)
  where
    longer : (vs : List Work) (v : Work) → v.flat ≡ u.rule → SplitWorks vs xs x → SplitWorks (v ∷ vs) (u ∷ xs) x
    longer vs v head s = record {
      front = v ∷ s.front;
      here' = s.here';
      behind = s.behind;
      are = ap (λ ys'. v ∷ ys') s.are;
      fronts = ap (λ f. f ∷ flats_of s.front) head ∙ ap (λ fs. u.rule ∷ fs) s.fronts;
      flat = s.flat;
      lists = s.lists;
    }

-- ---- works of different rules

over_apart : (ws : List Work) (xs : List Over) → AreWorksApart ws → AreWorksApart (over ws xs)
over_apart [] [] h = tt
over_apart [] (x ∷ xs) h = tt
over_apart (w ∷ ws) [] h = tt
over_apart (w ∷ ws) (x ∷ xs) h = (
  all_from (λ (v : Work). w.of ≡ v.of → ⊥) (over ws xs) (λ v c same. let r = over_from ws xs v c in all_at (λ (y : Work). w.of ≡ y.of → ⊥) ws r.0 h.0 r.1 (same ∙ sym r.2)),
  over_apart ws xs h.1,
)

put_apart : (w : Work) (ys zs : List Work) → PutIn w ys zs → AllByRecursion (λ (v : Work). w.of ≡ v.of → ⊥) ys → AreWorksApart ys → AreWorksApart zs
put_apart w ys zs (here ys') new h = (new, h)
put_apart w ys zs (later y ys' zs' k) new h = (put_all (λ (v : Work). y.of ≡ v.of → ⊥) w ys' zs' k (λ same. new.0 (sym same)) h.0, put_apart w ys' zs' k new.1 h.1)

reorder_apart : (xs ys : List Work) → IsReordered xs ys → AreWorksApart xs → AreWorksApart ys
reorder_apart xs ys nothing h = tt
reorder_apart xs ys (more x xs' ys' ys'' k i) h = put_apart x ys' ys i (reorder_all (λ (v : Work). x.of ≡ v.of → ⊥) xs' ys' k h.0) (reorder_apart xs' ys' k h.1)

-- those before and after one are other rules'
front_apart : (front : List Work) (w : Work) (behind : List Work) → AreWorksApart (front ++ w ∷ behind) → (v : Work) → Contains front v → v.of ≡ w.of → ⊥
front_apart [] w behind h v c same = none_contained v c
front_apart (x ∷ front) w behind h v c same =
    ⊎_elim (λ (e : x ≡ v). all_at (λ (y : Work). x.of ≡ y.of → ⊥) (front ++ w ∷ behind) w h.0 (Contains-append_right front (w ∷ behind) w (head_contained w behind)) (ap (λ (y : Work). y.of) e ∙ same))
    (λ d. front_apart front w behind h.1 v d same) (contained_cases x front v c)

-- ---- the works of rules

module _ (env : Environment) (m : Meaning) (args : List Value) (tys : List TypeId) (ps : List Path) where
  -- over no lists yet
  abbrev work_of : Rule → ℕ → ℕ → FlatRule → Work
  work_of r n k f = record { of = record { rule = r; before = n; place = k }; flat = f; lists = [] }

  abbrev works_of : List Rule → List FlatRule → ℕ → ℕ → List Work
  works_of [] [] n k = []
  works_of [] (f ∷ fs) n k = []
  works_of (r ∷ rs) [] n k = []
  works_of (r ∷ rs) (f ∷ fs) n k = work_of r n k f ∷ works_of rs fs (n + impure env r.rhs) (suc k)

  flats_are : (rs : List Rule) (fs : List FlatRule) (n k : ℕ) → AreFlat env ps rs n fs → map (λ (w : Work). w.flat) (works_of rs fs n k) ≡ fs
  flats_are [] [] n k h = refl
  flats_are (r ∷ rs) (f ∷ fs) n k h = ap (λ gs. f ∷ gs) (flats_are rs fs (n + impure env r.rhs) (suc k) h.1)
  flats_are [] (f ∷ fs) n k h = absurd h
  flats_are (r ∷ rs) [] n k h = absurd h

  -- each is of a placed rule
  work_placed : (rs : List Rule) (fs : List FlatRule) (n k : ℕ) (w : Work) → Contains (works_of rs fs n k) w → Contains (placed env rs n k) w.of
  work_placed [] [] n k w c = absurd (none_contained w c)
  work_placed [] (f ∷ fs) n k w c = absurd (none_contained w c)
  work_placed (r ∷ rs) [] n k w c = absurd (none_contained w c)
  work_placed (r ∷ rs) (f ∷ fs) n k w c =
      let own : Placed = record { rule = r; before = n; place = k } in
      let rest = placed env rs (n + impure env r.rhs) (suc k) in
      ⊎_elim (λ (e : work_of r n k f ≡ w). subst (λ (x : Work). Contains (own ∷ rest) x.of) e (head_contained own rest)) (λ d. Contains-append_right (own ∷ []) rest w.of (work_placed rs fs (n + impure env r.rhs) (suc k) w d)) (contained_cases (work_of r n k f) (works_of rs fs (n + impure env r.rhs) (suc k)) w c)

  -- and each placed rule has one
  placed_work : (rs : List Rule) (fs : List FlatRule) (n k : ℕ) → AreFlat env ps rs n fs → (p : Placed) → Contains (placed env rs n k) p → (w : Work) × Contains (works_of rs fs n k) w × (w.of ≡ p)
  placed_work [] [] n k h p c = absurd (none_contained p c)
  placed_work [] (f ∷ fs) n k h p c = absurd h
  placed_work (r ∷ rs) [] n k h p c = absurd h
  placed_work (r ∷ rs) (f ∷ fs) n k h p c =
      let own : Placed = record { rule = r; before = n; place = k } in
      let rest = works_of rs fs (n + impure env r.rhs) (suc k) in
      ⊎_elim (λ (e : own ≡ p). (work_of r n k f, head_contained (work_of r n k f) rest, e))
      (λ d. let more = placed_work rs fs (n + impure env r.rhs) (suc k) h.1 p d in (more.0, Contains-append_right (work_of r n k f ∷ []) rest more.0 more.1, more.2)) (contained_cases own (placed env rs (n + impure env r.rhs) (suc k)) p c)

  -- later rules stand after the calls and the places of earlier ones
  behind_all : (rs : List Rule) (fs : List FlatRule) (n k : ℕ) (w : Work) → Contains (works_of rs fs n k) w → (n ≤ w.of.before) × (k ≤ w.of.place)
  behind_all [] [] n k w c = absurd (none_contained w c)
  behind_all [] (f ∷ fs) n k w c = absurd (none_contained w c)
  behind_all (r ∷ rs) [] n k w c = absurd (none_contained w c)
  behind_all (r ∷ rs) (f ∷ fs) n k w c =
      ⊎_elim (λ (e : work_of r n k f ≡ w). subst (λ (x : Work). (n ≤ x.of.before) × (k ≤ x.of.place)) e (omega arith, omega arith))
      (λ d. let more = behind_all rs fs (n + impure env r.rhs) (suc k) w d in let a = more.0 in let b = more.1 in (omega arith, omega arith)) (contained_cases (work_of r n k f) (works_of rs fs (n + impure env r.rhs) (suc k)) w c)

  all_apart : (rs : List Rule) (fs : List FlatRule) (n k : ℕ) → AreWorksApart (works_of rs fs n k)
  all_apart [] [] n k = tt
  all_apart [] (f ∷ fs) n k = tt
  all_apart (r ∷ rs) [] n k = tt
  all_apart (r ∷ rs) (f ∷ fs) n k =
      let rest = works_of rs fs (n + impure env r.rhs) (suc k) in (
        all_from (λ (v : Work). (work_of r n k f).of ≡ v.of → ⊥) rest (λ v c same. let low = (behind_all rs fs (n + impure env r.rhs) (suc k) v c).1 in let here : k ≡ v.of.place = ap (λ (x : Placed). x.place) same in let bad : ⊥ = omega arith in bad),
        all_apart rs fs (n + impure env r.rhs) (suc k),
      )

  -- an occurrence of a work
  abbrev Occurs : Work → ℕ → Type 0
  Occurs w j = (w.of.before < j) × (j ≤ w.of.before + impure env w.of.rule.rhs)

  -- no occurrence is of two rules
  occur_apart : (rs : List Rule) (fs : List FlatRule) (n k : ℕ) (v w : Work) (j : ℕ) → Contains (works_of rs fs n k) v → Contains (works_of rs fs n k) w → Occurs v j → Occurs w j → (v.of ≡ w.of → ⊥) → ⊥
  occur_apart [] [] n k v w j c d a b apart = none_contained v c
  occur_apart [] (f ∷ fs) n k v w j c d a b apart = none_contained v c
  occur_apart (r ∷ rs) [] n k v w j c d a b apart = none_contained v c
  occur_apart (r ∷ rs) (f ∷ fs) n k v w j c d a b apart =
      let own = work_of r n k f in
      let rest = works_of rs fs (n + impure env r.rhs) (suc k) in
      ⊎_elim
      (λ (e : own ≡ v). ⊎_elim (λ (e' : own ≡ w). apart (ap (λ (x : Work). x.of) (sym e ∙ e'))) (λ d'. one_behind v w (subst (λ (x : Work). Occurs x j → j ≤ n + impure env r.rhs) e (λ o. o.1) a) (behind_all rs fs (n + impure env r.rhs) (suc k) w d').0 b.0) (contained_cases own rest w d))
      (λ c'. ⊎_elim (λ (e' : own ≡ w). one_behind w v (subst (λ (x : Work). Occurs x j → j ≤ n + impure env r.rhs) e' (λ o. o.1) b) (behind_all rs fs (n + impure env r.rhs) (suc k) v c').0 a.0) (λ d'. occur_apart rs fs (n + impure env r.rhs) (suc k) v w j c' d' a b apart) (contained_cases own rest w d))
      (contained_cases own rest v c)
    where
      one_behind : (x y : Work) → j ≤ n + impure env r.rhs → n + impure env r.rhs ≤ y.of.before → y.of.before < j → ⊥
      one_behind x y up low over = omega arith

  -- ---- each is served

  any_often : (terms : _) → AreOften AnyOften env terms
  any_often terms o c = of_call (called_as env o.term o.role)
    where
      of_call : (c : Calling) → HasKind AnyOften c
      of_call (ByTurns callee kind) = tt
      of_call (ByCases callee kind) = tt
      of_call NoCall = tt

  supplies_any : (r : Rule) → IsSupplied env m (called_in env r) (rule_constants r) → Supplies AnyOften env m (called_in env r) (rule_constants r)
  supplies_any r h = record { answers = h.answers; often = any_often (called_in env r); named = λ ty name k. has_some _ _ (h.named ty name k) }

  rule_answered : (r : Rule) (n : ℕ) → IsBuiltRule env.terms r → IsScopedRule r → CallsBuiltTerms env.terms r → Supplies AnyOften env m (called_in env r) (rule_constants r) → HasAnsweredCalls AnyOften env m (rule_places env r) n r.rhs
  rule_answered r n b v i h =
      calls_answered r.rhs AnyOften env m (iflets_scope (all_variables r.args) r.iflets) (rule_places env r) n (rule_placed env env.terms r b) b.rhs v.rhs i
      (supplies_less AnyOften env m (called_in env r) (called_by env r.rhs) (rule_constants r) (expr_constants r.rhs) (λ o k. Contains-append_right (extracted_in env r.args ++ called_in_iflets env r.iflets) (called_by env r.rhs) o k)
      (λ c k. Contains-append_right (args_constants r.args ++ iflets_constants r.iflets) (expr_constants r.rhs) c k) h)

  rest_served : (r : Rule) (rs : List Rule) → AreServedRules env m tys (r ∷ rs) → AreServedRules env m tys rs
  rest_served r rs h = record {
    built = h.built.1;
    scoped = h.scoped.1;
    terms = h.terms.1;
    typed = h.typed.1;
    served = supplied_less env m (called env (r ∷ rs)) (called env rs) (rules_constants (r ∷ rs)) (rules_constants rs) (λ o k. Contains-append_right (called_in env r) (called env rs) o k) (λ c k. Contains-append_right (rule_constants r) (rules_constants rs) c k) h.served;
  }

  -- over its lists
  abbrev ServedOver : Work → Type 0
  ServedOver w = (qs : List Path) → AreEarlyLists env ps w.flat qs → IsWork env m tys ps (with_lists w qs)

  works_served : (rs : List Rule) (fs : List FlatRule) (n k : ℕ) → AreServedRules env m tys rs → AreFlat env ps rs n fs → AllByRecursion ServedOver (works_of rs fs n k)
  works_served [] [] n k met h = tt
  works_served [] (f ∷ fs) n k met h = tt
  works_served (r ∷ rs) [] n k met h = tt
  works_served (r ∷ rs) (f ∷ fs) n k met h =
      let served = first_served env m r rs met.served in
      let own : Placed = record { rule = r; before = n; place = k } in (
        λ qs early. record {
          tested = met.typed.0;
          answered = rule_answered r n met.built.0 met.scoped.0 met.terms.0 (supplies_any r served);
          flat = h.0;
          served = patterns_served env m r served;
          supplied = conditions_served env m r served;
          order = early.order;
          same = λ q. let choice = choice_listed env ps own f h.0 q in (λ c. choice.0 ((early.early q).0 c), λ c. (early.early q).1 (choice.1 c));
        },
        works_served rs fs (n + impure env r.rhs) (suc k) (rest_served r rs met) h.1,
      )

  over_served : (ws : List Work) (xs : List Over) → flats_of ws ≡ rules_over xs → AllByRecursion ServedOver ws → AllByRecursion (λ (x : Over). AreEarlyLists env ps x.rule x.lists) xs → AllByRecursion (IsWork env m tys ps) (over ws xs)
  over_served [] [] e h early = tt
  over_served [] (x ∷ xs) e h early = tt
  over_served (w ∷ ws) [] e h early = tt
  over_served (w ∷ ws) (x ∷ xs) e h early =
      let head : w.flat ≡ x.rule = cc in
      let tail : flats_of ws ≡ rules_over xs = cc in
      (h.0 x.lists (subst (λ f. AreEarlyLists env ps f x.lists) (sym head) early.0), over_served ws xs tail h.1 early.1)

  -- its ordered calls are its own
  occurs : (w : Work) (bs : List BindingId) (j : ℕ) → AllByRecursion (IsInRange env w.of.before (impure env w.of.rule.rhs)) (map (at ps) bs) → Contains (occurrences env ps bs) j → Occurs w j
  occurs w [] j h c = absurd (none_contained j c)
  occurs w (b ∷ bs) j h c = ⊎_elim (λ d. h.0 j d) (λ d. occurs w bs j h.1 d) (Contains-append_cases (occurrence_at env (at ps b)) (occurrences env ps bs) j c)

  work_occurs : (w : Work) (j : ℕ) → IsFlat env ps w.of.rule w.of.before w.flat → Contains (occurrences env ps w.flat.ordered) j → Occurs w j
  work_occurs w j flat c =
      occurs w w.flat.ordered j (firsts_within (IsInRange env w.of.before (impure env w.of.rule.rhs)) flat.ordered (calls_range env w.of.rule.rhs (rule_places env w.of.rule) w.of.before)) c

  -- an occurrence of rules is one rule's
  occurs_in : (ws : List Work) (j : ℕ) → Contains (occurrences_of env ps (map (λ (w : Work). w.flat) ws)) j → (w : Work) × Contains ws w × Contains (occurrences env ps w.flat.ordered) j
  occurs_in [] j c = absurd (none_contained j c)
  occurs_in (w ∷ ws) j c =
      ⊎_elim (λ d. (w, head_contained w ws, d)) (λ d. let more = occurs_in ws j d in (more.0, Contains-append_right (w ∷ []) ws more.0 more.1, more.2))
      (Contains-append_cases (occurrences env ps w.flat.ordered) (occurrences_of env ps (map (λ (v : Work). v.flat) ws)) j c)

  -- ---- what they add

  flats_works : (ws : List Work) (xs : List Over) (g : Given) → flats_of ws ≡ rules_over xs → flats_add env m args ps xs g ≡ works_add env m args ps (over ws xs) g
  flats_works [] [] g e = refl
  flats_works [] (x ∷ xs) g e = absurd cc
  flats_works (w ∷ ws) [] g e = absurd cc
  flats_works (w ∷ ws) (x ∷ xs) g e =
      let head : w.flat ≡ x.rule = cc in
      let tail : flats_of ws ≡ rules_over xs = cc in
      flats_works ws xs (each_choice env m args x.lists nothing_known g (flat_adds env m args ps x.rule)) tail
      ∙ ap (λ f. works_add env m args ps (over ws xs) (each_choice env m args x.lists nothing_known g (flat_adds env m args ps f))) (sym head)

  module _ (rs : List Rule) (fs : List FlatRule) (met : AreServedRules env m tys rs) (flat : AreFlat env ps rs 0 fs) (order : List Over) (rules : IsReordered fs (rules_over order)) (early : AllByRecursion (λ (x : Over). AreEarlyLists env ps x.rule x.lists) order) where
    abbrev all : List Work
    all = works_of rs fs 0 0

    -- the works in the order of the rules
    in_order : Beside (λ (w : Work). w.flat) (works_of rs fs 0 0) (rules_over order)
    in_order = reorder_beside (λ (w : Work). w.flat) all (rules_over order) (subst (λ gs. IsReordered gs (rules_over order)) (sym (flats_are rs fs 0 0 flat)) rules)

    -- over their lists
    abbrev works : List Work
    works = over in_order.list order

    works_from : (w : Work) → Contains (over in_order.list order) w → (v : Work) × Contains (works_of rs fs 0 0) v × (v.of ≡ w.of)
    works_from w c = let r = over_from in_order.list order w c in (r.0, reorder_has all in_order.list r.0 in_order.order r.1, r.2)

    ordered_served : AllByRecursion (IsWork env m tys ps) (over in_order.list order)
    ordered_served = over_served in_order.list order in_order.same (reorder_all ServedOver all in_order.list in_order.order (works_served rs fs 0 0 met flat)) early

    ordered_apart : AreWorksApart (over in_order.list order)
    ordered_apart = over_apart in_order.list order (reorder_apart all in_order.list in_order.order (all_apart rs fs 0 0))

    -- an occurrence of a placed rule
    abbrev OccursOf : ℕ → Placed → Type 0
    OccursOf j p = (p.before < j) × (j ≤ p.before + impure env p.rule.rhs)

    -- a rule's calls are unknown after those of other rules
    own_unknown : (front : List Work) (w : Work) (behind : List Work) (known : Known) → over in_order.list order ≡ front ++ w ∷ behind → KnowsOnly (occurrences_of env ps (map (λ (v : Work). v.flat) front)) known → IsUnmade env w known
    own_unknown front w behind known are knows = record { by = λ j own. unknown j own (known.answers j) refl; choice = knows.choice }
      where
        whole : (v : Work) → Contains (front ++ w ∷ behind) v → Contains (over in_order.list order) v
        whole v c = subst (λ ws. Contains ws v) (sym are) c

        of_other : (v : Work) (j : ℕ) → Contains front v → Contains (occurrences env ps v.flat.ordered) j → IsOwn env w j → ⊥
        of_other v j c o own =
            let there = whole v (Contains-append_left front (w ∷ behind) v c) in
            let occurs_there = work_occurs v j (all_at (IsWork env m tys ps) works v ordered_served there).flat o in
            let bare = works_from v there in
            let here_bare = works_from w (whole w (Contains-append_right front (w ∷ behind) w (head_contained w behind))) in
            ⊎_elim (λ (e : j ≡ 0). let low = occurs_there.0 in let bad : ⊥ = omega arith in bad)
            (λ range. occur_apart rs fs 0 0 bare.0 here_bare.0 j bare.1 here_bare.1 (subst (OccursOf j) (sym bare.2) occurs_there) (subst (OccursOf j) (sym here_bare.2) range)
            (λ same. front_apart front w behind (subst AreWorksApart are ordered_apart) v c (sym bare.2 ∙ same ∙ here_bare.2))) own

        unknown : (j : ℕ) → IsOwn env w j → (o : Option Answer) → known.answers j ≡ o → known.answers j ≡ None
        unknown j own None e = e
        unknown j own (Some a) e = let v = occurs_in front j (knows.answers j a e) in absurd (of_other v.0 j v.1 v.2 own)

    -- what a rule adds over its lists, with what a work of it adds over its own
    anew_of : (f h : FlatRule) (qs ls : List Path) (known : Known) (g : Given) → f ≡ h → qs ≡ ls → each_choice env m args qs known g (flat_adds env m args ps f) ≡ each_choice env m args qs nothing_known g (flat_adds env m args ps f)
        → each_choice env m args ls known g (flat_adds env m args ps h) ≡ each_choice env m args ls nothing_known g (flat_adds env m args ps h)
    anew_of f h qs ls known g e k adds =
        subst (λ rs'. each_choice env m args rs' known g (flat_adds env m args ps h) ≡ each_choice env m args rs' nothing_known g (flat_adds env m args ps h)) k
        (subst (λ y. each_choice env m args qs known g (flat_adds env m args ps y) ≡ each_choice env m args qs nothing_known g (flat_adds env m args ps y)) e adds)

    split_anew : (xs : List Over) (x : Over) (known : Known) (g : Given) → KnowsOnly (occurrences_of env ps (rules_over xs)) known → SplitWorks (over in_order.list order) xs x
        → each_choice env m args x.lists known g (flat_adds env m args ps x.rule) ≡ each_choice env m args x.lists nothing_known g (flat_adds env m args ps x.rule)
    split_anew xs x known g knows s =
        let w = s.here' in
        let there : Contains works w = subst (λ ws. Contains ws w) (sym s.are) (Contains-append_right s.front (w ∷ s.behind) w (head_contained w s.behind)) in
        let unmade = own_unknown s.front w s.behind known s.are (subst (λ gs. KnowsOnly (occurrences_of env ps gs) known) (sym s.fronts) knows) in
        anew_of w.flat x.rule w.lists x.lists known g s.flat s.lists (work_apart env m args tys ps w known g (all_at (IsWork env m tys ps) works w ordered_served there) unmade)

    add_anew : AddAnew env m args ps order
    add_anew xs x ys known g e knows = split_anew xs x known g knows (subst (λ all'. SplitWorks (over in_order.list all') xs x) (sym e) (split_works in_order.list xs x ys (in_order.same ∙ ap rules_over e)))

    cover : CoverRules env rs (over in_order.list order)
    cover = record {
      sound = all_from (λ (w : Work). Contains (placed env rs 0 0) w.of) works (λ w c. let r = works_from w c in subst (Contains (placed env rs 0 0)) r.2 (work_placed rs fs 0 0 r.0 r.1));
      all = λ p c.
          let r = placed_work rs fs 0 0 flat p c in
          let w = over_has in_order.list order r.0 in_order.same (reorder_keeps all in_order.list r.0 in_order.order r.1) in
          (w.0, w.1, w.2 ∙ r.2);
    }

    works_add_all : flats_add env m args ps order nothing_given ≡ works_add env m args ps (over in_order.list order) nothing_given
    works_add_all = flats_works in_order.list order nothing_given in_order.same

    prescribed : AreVariantsApart env → HaveTypes env args tys → PrescribesSeveral env m args rs (works_add env m args ps (over in_order.list order) nothing_given)
    prescribed variants types = works_prescribe env m args tys ps variants types rs works ordered_served ordered_apart cover

-- a block that adds what a set adds which stands for checked rules gives what these prescribe
pub several_prescribes : (env : Environment) (m : Meaning) (args : List Value) (tys : List TypeId) (s : RuleSet) (b : Block) (rs : List Rule) → AddsSeveral env s b → IsServedSet env m args tys s rs
    → PrescribesSeveral env m args rs (several_outcome env m args (paths_of s.bindings) b)
several_prescribes env m args tys s b rs adds set =
    let ps = paths_of s.bindings in
    let given = adds.adds m args set.apart (add_anew env m args tys ps rs s.rules set.met set.stands.flat adds.order adds.rules adds.early) ∙ works_add_all env m args tys ps rs s.rules set.met set.stands.flat adds.order adds.rules adds.early in
    subst (PrescribesSeveral env m args rs) (sym given) (prescribed env m args tys ps rs s.rules set.met set.stands.flat adds.order adds.rules adds.early set.variants set.types)
