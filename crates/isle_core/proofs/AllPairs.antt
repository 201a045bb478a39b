-- Flat rules that stand for the rules of a `multi` term, each once, add what the rules prescribe.
use Rattle.std.proofs.Common.{◌≡◌, ⊎_elim, List, [], ◌∷◌, ◌++◌, not, Option, Some, None, refl, sym, ap, ◌∙◌, subst}
use Rattle.std.specs.Prelude.{Contains}
use Rattle.std.specs.List.{AllByRecursion}
use Rattle.std.proofs.lemmas.List.Elements.{Contains-append_left, Contains-append_right}
use Rattle.isle_base.specs.declared.ids.TypeId.{TypeId}
use Rattle.isle_core.specs.Choice.{Choice, first_items}
use Rattle.isle_core.specs.Choices.{choices_over}
use Rattle.isle_core.specs.HasType.{HaveTypes}
use Rattle.isle_core.specs.HoldsImpure.{holds_impure}
use Rattle.isle_core.specs.Iterators.{calls_multi, rule_iterators}
use Rattle.isle_core.specs.Match.{Names}
use Rattle.isle_core.specs.Meaning.{Meaning}
use Rattle.isle_core.specs.Outcome.{chosen_names}
use Rattle.isle_core.specs.Pairs.{Placed, placed, Pair, choice_paths, IsChosen, IsPair, AreOnePair, IsNewPair, EachPairOnce, parts_of, PrescribesSeveral}
use Rattle.isle_core.specs.Parts.{Given, nothing_given, part}
use Rattle.isle_core.specs.Path.{Path}
use Rattle.isle_core.specs.PatternType.{AreVariantsApart}
use Rattle.isle_core.specs.Rule.{Environment, Rule}
use Rattle.isle_core.specs.RulePaths.{rule_paths}
use Rattle.isle_core.specs.Value.{Value}
use Rattle.isle_core.specs.Works.{Work, works_add}
use Rattle.isle_core.proofs.ListLaws.{filter_keeps}
use Rattle.isle_core.proofs.ChoiceLists.{AgreeOn, AreChoicesApart, choices_right, choices_all, choices_once}
use Rattle.isle_core.proofs.Contained.{head_contained, contained_cases, none_contained}
use Rattle.isle_core.proofs.NamesSame.{names_same}
use Rattle.isle_core.proofs.RulePairs.{IsWork, pair_if, pairs_at, work_adds, all_from, all_at}

-- each rule of these has one of the works
pub record CoverRules (env : Environment) (rules : List Rule) (ws : List Work) : Type 0 where
  pub sound : AllByRecursion (λ (w : Work). Contains (placed env rules 0 0) w.of) ws
  pub all : (p : Placed) → Contains (placed env rules 0 0) p → (w : Work) × Contains ws w × (w.of ≡ p)

-- and no two are of one rule
abbrev pub AreWorksApart : List Work → Type 0
AreWorksApart [] = Unit {0}
AreWorksApart (w ∷ ws) = AllByRecursion (λ (v : Work). w.of ≡ v.of → ⊥) ws × AreWorksApart ws

module _ (env : Environment) (m : Meaning) (args : List Value) where
  -- ---- the pairs of choices

  -- what is so of the pairs of choices
  pairs_are : (P : Pair → Type 0) (p : Placed) (cs : List Choice) → ((c : Choice) (names : Names) → Contains cs c → chosen_names env m c args p.rule ≡ Some names → P (record { of = p; choice = c; names = names })) → AllByRecursion P (pairs_at env m args p cs)
  pairs_are P p [] f = tt
  pairs_are P p (c ∷ cs) f = one (chosen_names env m c args p.rule) refl (pairs_are P p cs (λ d names there. f d names (Contains-append_right (c ∷ []) cs d there)))
    where
      one : (o : Option Names) → chosen_names env m c args p.rule ≡ o → AllByRecursion P (pairs_at env m args p cs) → AllByRecursion P (pair_if p c o (pairs_at env m args p cs))
      one None e rest = rest
      one (Some names) e rest = (f c names (head_contained c cs) e, rest)

  -- a choice with which the rule matches has its pair
  pair_there : (p : Placed) (cs : List Choice) (c : Choice) (names : Names) → Contains cs c → chosen_names env m c args p.rule ≡ Some names → Contains (pairs_at env m args p cs) (record { of = p; choice = c; names = names })
  pair_there p [] c names there e = absurd (none_contained c there)
  pair_there p (d ∷ cs) c names there e = ⊎_elim
      (λ (same : d ≡ c). here (chosen_names env m d args p.rule) (ap (λ x. chosen_names env m x args p.rule) same ∙ e) same)
      (λ more. behind (chosen_names env m d args p.rule) (pair_there p cs c names more e))
      (contained_cases d cs c there)
    where
      q : Pair
      q = record { of = p; choice = c; names = names }

      here : (o : Option Names) → o ≡ Some names → d ≡ c → Contains (pair_if p d o (pairs_at env m args p cs)) (record { of = p; choice = c; names = names })
      here None f same = cc
      here (Some others) f same =
          let one : others ≡ names = cc in
          subst (λ x. Contains (pair_if p d (Some others) (pairs_at env m args p cs)) (record { of = p; choice = x; names = names })) same
          (subst (λ y. Contains (pair_if p d (Some others) (pairs_at env m args p cs)) (record { of = p; choice = d; names = y })) one (head_contained (record { of = p; choice = d; names = others }) (pairs_at env m args p cs)))

      behind : (o : Option Names) → Contains (pairs_at env m args p cs) (record { of = p; choice = c; names = names }) → Contains (pair_if p d o (pairs_at env m args p cs)) (record { of = p; choice = c; names = names })
      behind None h = h
      behind (Some others) h = Contains-append_right (record { of = p; choice = d; names = others } ∷ []) (pairs_at env m args p cs) (record { of = p; choice = c; names = names }) h

  new_from : (p : Pair) (qs : List Pair) → AllByRecursion (λ q. AreOnePair env p q → ⊥) qs → IsNewPair env p qs
  new_from p [] h = tt
  new_from p (q ∷ qs) h = (h.0, new_from p qs h.1)

  pairs_once : (p : Placed) (lists : List Path) (cs : List Choice) → ((q : Path) → Contains lists q → Contains (choice_paths env p) q) → AreChoicesApart env m args lists cs → EachPairOnce env (pairs_at env m args p cs)
  pairs_once p lists [] same h = tt
  pairs_once p lists (c ∷ cs) same h = one (chosen_names env m c args p.rule) (pairs_once p lists cs same h.1)
    where
      one : (o : Option Names) → EachPairOnce env (pairs_at env m args p cs) → EachPairOnce env (pair_if p c o (pairs_at env m args p cs))
      one None rest = rest
      one (Some names) rest = (
        new_from (record { of = p; choice = c; names = names }) (pairs_at env m args p cs)
            (pairs_are (λ q. AreOnePair env (record { of = p; choice = c; names = names }) q → ⊥) p cs (λ d others there e both. all_at (λ x. AgreeOn lists c x → ⊥) cs d h.0 there (λ at on. both.items at (same at on)))),
        rest,
      )

  -- ---- all of them

  -- the pairs of works, in order
  abbrev pub all_pairs : List Work → List Pair
  all_pairs [] = []
  all_pairs (w ∷ ws) = pairs_at env m args w.of (choices_over env m args w.lists first_items) ++ all_pairs ws

  each_append : (P : Pair → Type 0) (xs ys : List Pair) → AllByRecursion P xs → AllByRecursion P ys → AllByRecursion P (xs ++ ys)
  each_append P [] ys h k = k
  each_append P (x ∷ xs) ys h k = (h.0, each_append P xs ys h.1 k)

  pairs_of_works : (P : Pair → Type 0) (ws : List Work) → ((w : Work) → Contains ws w → AllByRecursion P (pairs_at env m args w.of (choices_over env m args w.lists first_items))) → AllByRecursion P (all_pairs ws)
  pairs_of_works P [] f = tt
  pairs_of_works P (w ∷ ws) f =
      each_append P (pairs_at env m args w.of (choices_over env m args w.lists first_items)) (all_pairs ws) (f w (head_contained w ws)) (pairs_of_works P ws (λ v there. f v (Contains-append_right (w ∷ []) ws v there)))

  new_append : (p : Pair) (xs ys : List Pair) → IsNewPair env p xs → IsNewPair env p ys → IsNewPair env p (xs ++ ys)
  new_append p [] ys h k = k
  new_append p (x ∷ xs) ys h k = (h.0, new_append p xs ys h.1 k)

  once_append : (xs ys : List Pair) → EachPairOnce env xs → EachPairOnce env ys → AllByRecursion (λ p. IsNewPair env p ys) xs → EachPairOnce env (xs ++ ys)
  once_append [] ys h k between = k
  once_append (x ∷ xs) ys h k between = (new_append x xs ys h.0 between.0, once_append xs ys h.1 k between.1)

  parts_append : (xs ys : List Pair) (g : Given) → parts_of env m (xs ++ ys) g ≡ parts_of env m ys (parts_of env m xs g)
  parts_append [] ys g = refl
  parts_append (x ∷ xs) ys g = parts_append xs ys (part env m x.choice x.of.rule x.names x.of.before g)

  module _ (tys : List TypeId) (ps : List Path) (apart : AreVariantsApart env) (types : HaveTypes env args tys) where
    abbrev AreWorks : List Work → Type 0
    AreWorks ws = AllByRecursion (IsWork env m tys ps) ws

    -- what the works add are the parts of their pairs
    works_parts : (ws : List Work) (g : Given) → AreWorks ws → works_add env m args ps ws g ≡ parts_of env m (all_pairs ws) g
    works_parts [] g h = refl
    works_parts (w ∷ ws) g h =
        let own = pairs_at env m args w.of (choices_over env m args w.lists first_items) in
        ap (works_add env m args ps ws) (work_adds env m args tys ps apart types w g h.0) ∙ works_parts ws (parts_of env m own g) h.1 ∙ sym (parts_append own (all_pairs ws) g)

    works_once : (ws : List Work) → AreWorks ws → AreWorksApart ws → EachPairOnce env (all_pairs ws)
    works_once [] h a = tt
    works_once (w ∷ ws) h a =
        let cs = choices_over env m args w.lists first_items in
        let own = pairs_at env m args w.of cs in
        once_append own (all_pairs ws) (pairs_once w.of w.lists cs (λ q there. (h.0.same q).0 there) (choices_once env m args w.lists first_items h.0.order)) (works_once ws h.1 a.1)
        (pairs_are (λ p. IsNewPair env p (all_pairs ws)) w.of cs (λ c names there e.
        let p : Pair = record { of = w.of; choice = c; names = names } in
        new_from p (all_pairs ws) (pairs_of_works (λ q. AreOnePair env p q → ⊥) ws (λ v inside. pairs_are (λ q. AreOnePair env p q → ⊥) v.of (choices_over env m args v.lists first_items)
        (λ d others within f both. all_at (λ (x : Work). w.of ≡ x.of → ⊥) ws v a.0 inside both.rule)))))

    found_in : (ws : List Work) (w : Work) (p : Pair) → Contains ws w → Contains (pairs_at env m args w.of (choices_over env m args w.lists first_items)) p → Contains (all_pairs ws) p
    found_in [] w p there h = absurd (none_contained w there)
    found_in (v ∷ ws) w p there h =
        let own = pairs_at env m args v.of (choices_over env m args v.lists first_items) in
        ⊎_elim (λ (same : v ≡ w). Contains-append_left own (all_pairs ws) p (subst (λ (x : Work). Contains (pairs_at env m args x.of (choices_over env m args x.lists first_items)) p) (sym same) h))
        (λ more. Contains-append_right own (all_pairs ws) p (found_in ws w p more h)) (contained_cases v ws w there)

    -- each is a pair of the rules
    works_sound : (rules : List Rule) (ws : List Work) → AreWorks ws → AllByRecursion (λ (w : Work). Contains (placed env rules 0 0) w.of) ws → AllByRecursion (IsPair env m args rules) (all_pairs ws)
    works_sound rules [] h among = tt
    works_sound rules (w ∷ ws) h among =
        let cs = choices_over env m args w.lists first_items in
        each_append (IsPair env m args rules) (pairs_at env m args w.of cs) (all_pairs ws)
        (pairs_are (IsPair env m args rules) w.of cs (λ c names there e. record {
          among = among.0;
          chosen = all_from (IsChosen env m args c) (choice_paths env w.of) (λ q on. all_at (IsChosen env m args c) w.lists q (all_at (λ d. AllByRecursion (IsChosen env m args d) w.lists) cs c (choices_right env m args w.lists first_items h.0.order) there) ((h.0.same q).1 on));
          matched = e;
        }))
        (works_sound rules ws h.1 among.1)

    -- a pair of a rule has one among those of its work
    work_found : (rules : List Rule) (w : Work) (q : Pair) → IsWork env m tys ps w → IsPair env m args rules q → w.of ≡ q.of → (p : Pair) × Contains (pairs_at env m args w.of (choices_over env m args w.lists first_items)) p × AreOnePair env p q
    work_found rules w q h pair same =
        let chosen : AllByRecursion (IsChosen env m args q.choice) w.lists = all_from (IsChosen env m args q.choice) w.lists (λ x there. all_at (IsChosen env m args q.choice) (choice_paths env q.of) x pair.chosen (subst (λ (z : Placed). Contains (choice_paths env z) x) same ((h.same x).0 there))) in
        let c = choices_all env m args w.lists first_items q.choice h.order chosen in
        let on : (x : Path) → Contains (choice_paths env w.of) x → c.0 x ≡ q.choice x = λ x there. c.2 x ((h.same x).1 there) in
        let alike = names_same env m c.0 q.choice args tys w.of.rule w.of.before h.tested h.served h.supplied.answers
        (λ x there multi early. on x (filter_keeps (λ z. not (holds_impure env z)) (rule_iterators env w.of.rule w.of.before) x (filter_keeps (calls_multi env) (rule_paths env w.of.rule w.of.before) x there multi) (ap not early))) in
        let matched : chosen_names env m c.0 args w.of.rule ≡ Some q.names = alike ∙ ap (λ (z : Placed). chosen_names env m q.choice args z.rule) same ∙ pair.matched in
        (record { of = w.of; choice = c.0; names = q.names }, pair_there w.of (choices_over env m args w.lists first_items) c.0 q.names c.1 matched, record { rule = same; items = on })

    -- flat rules that stand for the rules of a `multi` term, each once, add what the rules prescribe
    pub works_prescribe : (rules : List Rule) (ws : List Work) → AreWorks ws → AreWorksApart ws → CoverRules env rules ws → PrescribesSeveral env m args rules (works_add env m args ps ws nothing_given)
    works_prescribe rules ws h once cover = record {
      pairs = all_pairs ws;
      listed = record {
        sound = works_sound rules ws h cover.sound;
        once = works_once ws h once;
        all = λ q pair.
            let w = cover.all q.of pair.among in
            let p = work_found rules w.0 q (all_at (IsWork env m tys ps) ws w.0 h w.1) pair w.2 in
            (p.0, found_in ws w.0 p.0 w.1 p.1, p.2);
      };
      given = works_parts ws nothing_given h;
    }
