-- Flat rules, with the items of their lists gone through, add the parts of the pairs of their rules.
use Rattle.std.proofs.Common.{◌≡◌, ⊎_elim, ℕ, zero, suc, ◌+◌, ◌<◌, List, [], ◌∷◌, ◌++◌, length, Bool, true, false, not, cond, Option, Some, None, refl, sym, ap, ◌∙◌, subst, arith}
use Rattle.std.specs.Prelude.{◌↔◌, Contains, slice_get}
use Rattle.std.specs.List.{AllByRecursion}
use Rattle.std.proofs.lemmas.List.Elements.{Contains-append_right}
use Rattle.isle_base.specs.declared.ids.TypeId.{TypeId}
use Rattle.isle_core.specs.Answered.{Item, Held, Absent, One, Optional, Listed}
use Rattle.isle_core.specs.CalledTerms.{extracted_in, called_in_iflets}
use Rattle.isle_core.specs.Choice.{Choice, first_items}
use Rattle.isle_core.specs.Choices.{pick, items_held, item_choices, choices_over, each_choice, flat_adds}
use Rattle.isle_core.specs.HasType.{HaveTypes}
use Rattle.isle_core.specs.HoldsImpure.{holds_impure}
use Rattle.isle_core.specs.Iterators.{calls_multi, rule_iterators}
use Rattle.isle_core.specs.Match.{Names}
use Rattle.isle_core.specs.Meaning.{Meaning}
use Rattle.isle_core.specs.OccurringConstants.{iflets_constants}
use Rattle.isle_core.specs.Outcome.{chosen_names}
use Rattle.isle_core.specs.Pairs.{Placed, Pair, choice_paths, IsChosen, parts_of}
use Rattle.isle_core.specs.Parts.{Given}
use Rattle.isle_core.specs.Path.{Path, Chosen}
use Rattle.isle_core.specs.PatternType.{AreVariantsApart}
use Rattle.isle_core.specs.Rule.{Environment}
use Rattle.isle_core.specs.RulePaths.{rule_paths, args_paths, iflets_paths, expr_paths}
use Rattle.isle_core.specs.RuleSet.{flat_tests}
use Rattle.isle_core.specs.SeveralRun.{on_turns, on_items}
use Rattle.isle_core.specs.SeveralSet.{flat_part}
use Rattle.isle_core.specs.StandsFor.{IsFlat, IsTrivial}
use Rattle.isle_core.specs.Tests.{Test, Is, Equal, HasItem, no_places, args_after, rule_tests, rule_places}
use Rattle.isle_core.specs.Value.{Value}
use Rattle.isle_core.specs.ValueAt.{Known, none_made, item_at, chosen_held, is_item, equal_held, value_at, holds, all_hold}
use Rattle.isle_core.specs.Works.{Work}
use Rattle.isle_core.specs.Served.{AreServed, IsSupplied, IsTested}
use Rattle.isle_core.proofs.ListLaws.{filter_keeps}
use Rattle.isle_core.proofs.AnsweredTerms.{HasAnsweredCalls}
use Rattle.isle_core.proofs.ChoiceLists.{AreListsInOrder, choices_right}
use Rattle.isle_core.proofs.ChosenItems.{items_chosen}
use Rattle.isle_core.proofs.Contained.{head_contained, contained_cases, none_contained}
use Rattle.isle_core.proofs.EachFollows.{AnyOften}
use Rattle.isle_core.proofs.ListTests.{ItemSo, lists_asked}
use Rattle.isle_core.proofs.PartFlat.{part_flat}
use Rattle.isle_core.proofs.PatternTests.{Both}
use Rattle.isle_core.proofs.RuleMatches.{rule_both}
use Rattle.isle_core.proofs.SetMeans.{equal_held-self, flat_same_at}

-- ---- choices one after the other

-- what is done at each choice of a list
abbrev pub at_choices : (Known → Given → Given) → List Choice → Given → Given
at_choices next [] g = g
at_choices next (c ∷ cs) g = at_choices next cs (next (none_made c) g)

at_append : (next : Known → Given → Given) (cs ds : List Choice) (g : Given) → at_choices next (cs ++ ds) g ≡ at_choices next ds (at_choices next cs g)
at_append next [] ds g = refl
at_append next (c ∷ cs) ds g = at_append next cs ds (next (none_made c) g)

turns_at : (next : Known → Given → Given) (more : Choice → List Choice) (turn : Known → Given → Given) (q : Path) (is : List Item) (place : ℕ) (c : Choice) (g : Given) → ((d : Choice) (h : Given) → turn (none_made d) h ≡ at_choices next (more d) h)
    → on_turns q is place (none_made c) g turn ≡ at_choices next (item_choices more c q is place) g
turns_at next more turn q [] place c g h = refl
turns_at next more turn q (i ∷ is) place c g h =
    turns_at next more turn q is (place + 1) c (turn (none_made (pick c q place)) g) h
    ∙ ap (at_choices next (item_choices more c q is (place + 1))) (h (pick c q place) g)
    ∙ sym (at_append next (more (pick c q place)) (item_choices more c q is (place + 1)) g)

items_at : (next : Known → Given → Given) (more : Choice → List Choice) (turn : Known → Given → Given) (q : Path) (held : Held) (c : Choice) (g : Given) → ((d : Choice) (h : Given) → turn (none_made d) h ≡ at_choices next (more d) h)
    → on_items q held (none_made c) g turn ≡ at_choices next (item_choices more c q (items_held held) 0) g
items_at next more turn q (Listed is) c g h = turns_at next more turn q is 0 c g h
items_at next more turn q Absent c g h = refl
items_at next more turn q (One i) c g h = refl
items_at next more turn q (Optional o) c g h = refl

-- what follows each choice is what is done at all of them
pub choices_at : (env : Environment) (m : Meaning) (args : List Value) (qs : List Path) (c : Choice) (g : Given) (next : Known → Given → Given) → each_choice env m args qs (none_made c) g next ≡ at_choices next (choices_over env m args qs c) g
choices_at env m args [] c g next = refl
choices_at env m args (q ∷ qs) c g next =
    items_at next (choices_over env m args qs) (λ now so. each_choice env m args qs now so next) q (value_at env m args (none_made c) q) c g (λ d h. choices_at env m args qs d h next)

-- ---- lists

pub all_from : {A : Type 0} (P : A → Type 0) (xs : List A) → ((x : A) → Contains xs x → P x) → AllByRecursion P xs
all_from P [] f = tt
all_from P (x ∷ xs) f = (f x (head_contained x xs), all_from P xs (λ y c. f y (Contains-append_right (x ∷ []) xs y c)))

pub all_at : {A : Type 0} (P : A → Type 0) (xs : List A) (x : A) → AllByRecursion P xs → Contains xs x → P x
all_at P [] x h c = absurd (none_contained x c)
all_at P (y ∷ xs) x h c = ⊎_elim (λ (e : y ≡ x). subst P e h.0) (λ d. all_at P xs x h.1 d) (contained_cases y xs x c)

-- ---- one rule

-- a flat rule stands for a rule whose arguments have these types and which the meaning serves, and the lists are those at which the rule's
-- items are chosen, in an order
pub record IsWork (env : Environment) (m : Meaning) (tys : List TypeId) (ps : List Path) (w : Work) : Type 0 where
  pub tested : IsTested env tys w.of.rule
  pub answered : HasAnsweredCalls AnyOften env m (rule_places env w.of.rule) w.of.before w.of.rule.rhs
  pub flat : IsFlat env ps w.of.rule w.of.before w.flat
  pub served : AreServed env m (extracted_in env w.of.rule.args)
  pub supplied : IsSupplied env m (called_in_iflets env w.of.rule.iflets) (iflets_constants w.of.rule.iflets)
  pub order : AreListsInOrder [] w.lists
  pub same : (q : Path) → Contains w.lists q ↔ Contains (choice_paths env w.of) q

-- the pair of a choice, if the rule matches with it
abbrev pub pair_if : Placed → Choice → Option Names → List Pair → List Pair
pair_if p c None qs = qs
pair_if p c (Some names) qs = record { of = p; choice = c; names = names } ∷ qs

-- those of choices, in order
abbrev pub pairs_at : Environment → Meaning → List Value → Placed → List Choice → List Pair
pairs_at env m args p [] = []
pairs_at env m args p (c ∷ cs) = pair_if p c (chosen_names env m c args p.rule) (pairs_at env m args p cs)

module _ (env : Environment) (m : Meaning) (args : List Value) (tys : List TypeId) (ps : List Path) (apart : AreVariantsApart env) (types : HaveTypes env args tys) where
  -- the lists of a rule have their chosen items
  abbrev HasChosen : Work → Choice → Type 0
  HasChosen w c = AllByRecursion (IsChosen env m args c) w.lists

  chosen_item : (c : Choice) (p : Path) → IsChosen env m args c p → is_item (value_at env m args (none_made c) (Chosen p)) ≡ true
  chosen_item c p h = ap (λ x. is_item (chosen_held (c p) x)) h.1 ∙ there h.0 (c p) h.2
    where
      there : (is : List Item) (i : ℕ) → i < length is → is_item (item_at (slice_get is i)) ≡ true
      there [] i lt = let bad : ⊥ = omega arith in absurd bad
      there (x ∷ is) zero lt = refl
      there (x ∷ is) (suc i) lt = there is i (omega arith)

  listed : (w : Work) → IsWork env m tys ps w → (p : Path) → Contains (rule_paths env w.of.rule w.of.before) p → calls_multi env p ≡ true → holds_impure env p ≡ false → Contains w.lists p
  listed w h p there multi early = (h.same p).1 (filter_keeps (λ q. not (holds_impure env q)) (rule_iterators env w.of.rule w.of.before) p (filter_keeps (calls_multi env) (rule_paths env w.of.rule w.of.before) p there multi) (ap not early))

  trivial_so : (w : Work) (c : Choice) → IsWork env m tys ps w → HasChosen w c → (t : Test) → ItemSo env (Contains (rule_paths env w.of.rule w.of.before)) t → IsTrivial t → holds env m (value_at env m args (none_made c)) t ≡ true
  trivial_so w c h chosen (Is p d) so trivial = absurd trivial
  trivial_so w c h chosen (Equal p q) so trivial = subst (λ x. equal_held (value_at env m args (none_made c) p) (value_at env m args (none_made c) x) ≡ true) trivial (equal_held-self (value_at env m args (none_made c) p))
  trivial_so w c h chosen (HasItem p) so trivial = chosen_item c p (all_at (IsChosen env m args c) w.lists p chosen (listed w h p so.0 so.1 so.2))

  -- the rule matches with a choice exactly if its flat rule holds
  work_both : (w : Work) (c : Choice) → IsWork env m tys ps w → HasChosen w c → Both (value_at env m args (none_made c)) (chosen_names env m c args w.of.rule) (all_hold env m (value_at env m args (none_made c)) (flat_tests ps w.flat)) (rule_places env w.of.rule)
  work_both w c h chosen =
      let val = value_at env m args (none_made c) in
      subst (λ b. Both val (chosen_names env m c args w.of.rule) b (rule_places env w.of.rule))
      (sym (flat_same_at env m val ps w.of.rule w.of.before w.flat (λ t there. trivial_so w c h chosen t (all_at (ItemSo env (Contains (rule_paths env w.of.rule w.of.before))) (rule_tests env w.of.rule) t (lists_asked env tys w.of.rule w.of.before h.tested) there)) h.flat))
      (rule_both env m c args tys w.of.rule apart h.tested types h.served h.supplied)

  adds_part : (w : Work) (c : Choice) (o : Option Names) (b : Bool) (qs : List Pair) (g : Given) → IsWork env m tys ps w → HasChosen w c → Both (value_at env m args (none_made c)) o b (rule_places env w.of.rule)
      → parts_of env m (pair_if w.of c o qs) g ≡ parts_of env m qs (cond b (flat_part env m args ps w.flat (none_made c) g) g)
  adds_part w c None b qs g h chosen both = rw both refl
  adds_part w c (Some names) b qs g h chosen both =
      let items = items_chosen env m args c w.of.rule.rhs (rule_places env w.of.rule) w.of.before h.answered (λ p there multi early. all_at (IsChosen env m args c) w.lists p chosen (listed w h p (right_path p there) multi early)) in
      ap (parts_of env m qs) (part_flat env m args c tys ps w.of.rule w.of.before w.flat names g h.tested h.answered items h.flat both.1 ∙ sym (ap (λ x. cond x (flat_part env m args ps w.flat (none_made c) g) g) both.0))
    where
      right_path : (p : Path) → Contains (expr_paths env w.of.rule.rhs (rule_places env w.of.rule) w.of.before) p → Contains (rule_paths env w.of.rule w.of.before) p
      right_path p there =
          let mid = args_after env w.of.rule.args 0 no_places in
          let last = expr_paths env w.of.rule.rhs (rule_places env w.of.rule) w.of.before in
          Contains-append_right (args_paths env w.of.rule.args 0) (iflets_paths env w.of.rule.iflets mid ++ last) p (Contains-append_right (iflets_paths env w.of.rule.iflets mid) last p there)

  choices_add : (w : Work) (cs : List Choice) (g : Given) → IsWork env m tys ps w → AllByRecursion (HasChosen w) cs → at_choices (flat_adds env m args ps w.flat) cs g ≡ parts_of env m (pairs_at env m args w.of cs) g
  choices_add w [] g h chosen = refl
  choices_add w (c ∷ cs) g h chosen =
      choices_add w cs (flat_adds env m args ps w.flat (none_made c) g) h chosen.1
      ∙ sym (adds_part w c (chosen_names env m c args w.of.rule) (all_hold env m (value_at env m args (none_made c)) (flat_tests ps w.flat)) (pairs_at env m args w.of cs) g h chosen.0 (work_both w c h chosen.0))

  -- the pairs of a rule
  abbrev pub work_pairs : Work → List Pair
  work_pairs w = pairs_at env m args w.of (choices_over env m args w.lists first_items)

  -- a flat rule adds their parts
  pub work_adds : (w : Work) (g : Given) → IsWork env m tys ps w → each_choice env m args w.lists (none_made first_items) g (flat_adds env m args ps w.flat) ≡ parts_of env m (work_pairs w) g
  work_adds w g h = choices_at env m args w.lists first_items g (flat_adds env m args ps w.flat) ∙ choices_add w (choices_over env m args w.lists first_items) g h (choices_right env m args w.lists first_items h.order)
