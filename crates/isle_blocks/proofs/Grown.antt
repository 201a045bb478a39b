-- What holds of the tree of a rule set.
use Rattle.std.proofs.Common.{◌≡◌, ℕ, List, [], ◌∷◌, Bool, true, false, Option, Some, None, refl, sym, ap, ◌∙◌, subst, ⊎_elim}
use Rattle.std.specs.Prelude.{Contains}
use Rattle.std.specs.List.{AllByRecursion}
use Rattle.isle_core.specs.declared.BindingId.{BindingId}
use Rattle.isle_core.specs.declared.rule_sets.Binding.{Binding}
use Rattle.isle_core.specs.declared.rule_sets.Constraint.{Constraint}
use Rattle.isle_core.specs.declared.rule_sets.FlatRule.{FlatRule}
use Rattle.isle_core.specs.declared.rule_sets.RuleSet.{RuleSet}
use Rattle.isle_core.specs.declared.types.ReturnKind.{ReturnKind}
use Rattle.isle_core.specs.declared.types.Term.{Term}
use Rattle.isle_core.specs.ApartTests.{AreTestsApart}
use Rattle.isle_core.specs.Block.{Block}
use Rattle.isle_core.specs.BlockLawful.{IsLawfulBlock}
use Rattle.isle_core.specs.BlockRun.{block_outcome}
use Rattle.isle_core.specs.Calling.{kind_of, is_several}
use Rattle.isle_core.specs.Meaning.{Meaning}
use Rattle.isle_core.specs.Occurrences.{occurrences}
use Rattle.isle_core.specs.Path.{Path, paths_of}
use Rattle.isle_core.specs.Rule.{Environment}
use Rattle.isle_core.specs.RuleSet.{flat_holds, gave, given, set_outcome}
use Rattle.isle_core.specs.Serializable.{IsSerializableRule, IsSerializable, occurrences_of}
use Rattle.isle_core.specs.Setting.{setting}
use Rattle.isle_core.specs.StandsFor.{EachOnce}
use Rattle.isle_core.specs.Tests.{Test}
use Rattle.isle_core.specs.Value.{Value}
use Rattle.isle_core.proofs.Contained.{none_contained}
use Rattle.isle_core.proofs.RulePairs.{all_from, all_at}
use Rattle.isle_blocks.specs.ApartRules.{AreRulesApart}
use Rattle.isle_blocks.specs.Arranged.{rules_of, AreArranged, IsGrown}
use Rattle.isle_blocks.specs.AllReturns.{MakesReturns}
use Rattle.isle_blocks.specs.AllTests.{MakesTests}
use Rattle.isle_blocks.specs.CallsOnce.{HasCallsOnce}
use Rattle.std.specs.Ordering.{nat_cmp}
use Rattle.std.specs.BTreeMap.{BTreeMap, get}
use Rattle.isle_blocks.specs.Fields.{FieldKey, key_cmp, shown_cmp, FindsFields, shows, places}
use Rattle.isle_blocks.specs.Several.{HasItsLists, GivesSeveral}
use Rattle.isle_blocks.specs.declared.fields.Fields.{Fields}
use Rattle.isle_blocks.specs.Followers.{FindsInners, FindsItems}
use Rattle.isle_blocks.specs.LoopsApart.{HasLoopsApart}
use Rattle.isle_blocks.specs.Merged.{IsMerged}
use Rattle.isle_blocks.specs.Nest.{next_of}
use Rattle.isle_blocks.specs.Reordered.{IsReordered}
use Rattle.isle_blocks.specs.RuleTests.{TestsRules}
use Rattle.isle_blocks.specs.Tree.{Way, Ground, Tests, IsTree}
use Rattle.isle_blocks.specs.declared.fields.Shown.{Shown}
use Rattle.isle_blocks.proofs.CalledItems.{early_none}
use Rattle.isle_blocks.proofs.LawFirst.{first, first_is_highest}
use Rattle.isle_blocks.proofs.ListsRead.{opened_none}
use Rattle.isle_blocks.proofs.MadeBefore.{within_none}
use Rattle.isle_blocks.proofs.NextLaws.{finds_next}
use Rattle.isle_blocks.proofs.OncePairs.{each_first, each_second}
use Rattle.isle_blocks.proofs.RulesInOrder.{occurrences_in_order}
use Rattle.isle_blocks.proofs.TreeItems.{tree_new}
use Rattle.isle_blocks.proofs.TreeLawful.{AreFreeTests, tree_good}
use Rattle.isle_blocks.proofs.SeveralMerged.{IsListedWay, listed_left, listed_more, listed_no_match}
use Rattle.isle_blocks.proofs.TreeLoops.{IsChosenWay, tree_loops}
use Rattle.isle_blocks.proofs.TreeMakes.{tree_makes}
use Rattle.isle_blocks.proofs.TreeMerged.{tree_merged, untested_no_match}
use Rattle.isle_blocks.proofs.TreeReturned.{tree_returned}
use Rattle.isle_blocks.proofs.TreeRules.{IsGood}
use Rattle.isle_blocks.proofs.TreeRuns.{went, tree_run}
use Rattle.isle_blocks.proofs.ServedWorks.{several_prescribes}
use Rattle.isle_blocks.proofs.TreeSeveral.{IsSeveralWay, tree_adds}
use Rattle.isle_blocks.proofs.TreeStart.{IsStart, start_on, start_among, start_of, start_after, ways_order, way_starts, way_there, rule_way}
use Rattle.isle_blocks.proofs.TreeTests.{IsOf, tree_tests}
use Rattle.isle_blocks.proofs.TreeWays.{IsAfter, AreAfter}

-- the block is a tree of the rules, arranged, by tables of the bindings
pub record IsTreeOf (several : Bool) (bs : List Binding) (fs : List FlatRule) (b : Block) : Type 0 where
  pub found : FieldKey → Option BindingId
  pub counts : Shown → Option ℕ
  pub inners : ℕ → Option BindingId
  pub items : ℕ → Option BindingId
  pub finds : FindsFields bs found counts
  pub found_inners : FindsInners bs inners
  pub found_items : FindsItems bs items
  pub ways : List Way
  pub arranged : AreArranged several bs fs ways
  pub is_tree : IsTree (record { several = several; bindings = bs; shows = shows found counts inners; next = next_of inners items; items = items }) ways [] b

-- what the first rule gives that holds
gives_first : (env : Environment) (m : Meaning) (args : List Value) (s : RuleSet) (kind : ReturnKind) (o : Option FlatRule) → gave kind (went env m args (paths_of s.bindings) o) ≡ given env m args (paths_of s.bindings) kind o
gives_first env m args s kind None = refl
gives_first env m args s kind (Some f) = refl

module _ (several : Bool) (s : RuleSet) (b : Block) (k : IsTreeOf several s.bindings s.rules b) where
  abbrev ps : List Path
  ps = paths_of s.bindings

  starts : (w : Way) → Contains k.ways w → IsStart several s.bindings w
  starts = way_starts several s.bindings s.rules k.ways k.arranged

  there : (w : Way) → Contains k.ways w → Contains s.rules w.rule
  there = way_there several s.bindings s.rules k.ways k.arranged

  order : IsReordered s.rules (rules_of k.ways)
  order = ways_order several s.bindings s.rules k.ways k.arranged

  pub all_after : (env : Environment) (t : Term) → IsSerializable env t s → AreAfter env t s [] k.ways
  all_after env t h = all_from (IsAfter env t s []) k.ways (λ w c. start_after several env t s w h.once (starts w c) (there w c) (all_at (IsSerializableRule env t ps) s.rules w.rule h.rules (there w c)))

  pub tree_of_tests : TestsRules s b
  tree_of_tests = tree_tests s several (shows k.found k.counts k.inners) (next_of k.inners k.items) k.items k.ways [] b k.is_tree (all_from (IsOf s) k.ways (λ w c. start_of several s.bindings s w (starts w c) (there w c)))

  pub tree_of_lawful : (env : Environment) (t : Term) → IsSerializable env t s → (is_several (kind_of t.kind) ≡ true → AllByRecursion (HasCallsOnce env ps) s.rules) → is_several (kind_of t.kind) ≡ several → IsLawfulBlock (setting env t s.bindings) b
  tree_of_lawful env t h calls is =
      let next = next_of k.inners k.items in
      let finds = finds_next s.bindings k.inners k.items k.found_inners k.found_items in
      let after = all_after env t h in
      let free = all_from (AreFreeTests several ps) k.ways (λ w c. (starts w c).free) in
      let apart = occurrences_in_order env ps s.rules (rules_of k.ways) order h.apart in
      let good = tree_good several env t s k.found k.counts k.inners next k.items is k.finds k.found_inners k.found_items finds h.once h.fields h.items k.ways [] b [] [] k.is_tree (within_none env ps) after free apart (λ n c d. none_contained n c) in
      record {
        from = good.lawful;
        loops = good.loops [];
        items = tree_new several env t s k.found k.counts k.inners next k.items is k.finds k.found_inners k.found_items finds h.once h.items k.ways [] b [] k.is_tree (early_none env s.bindings []) after
            (all_from (λ (w : Way). is_several (kind_of t.kind) ≡ true → HasCallsOnce env ps w.rule) k.ways (λ w c e. all_at (HasCallsOnce env ps) s.rules w.rule (calls e) (there w c))) [] (λ n c. absurd (none_contained n c));
      }

  good_ways : AllByRecursion (IsGood s.rules []) k.ways
  good_ways = all_from (IsGood s.rules []) k.ways (λ w i. record { there = there w i; on = start_on several s.bindings w (starts w i); own' = start_among several s.bindings w (starts w i) })

  pub tree_of_makes : MakesTests several s b
  tree_of_makes f source c has_rule has tried =
      let own = rule_way several s.bindings s.rules k.ways k.arranged f has_rule in
      ⊎_elim (λ i. i) (λ i. absurd (none_contained (source, c) i))
      (tree_makes several s.bindings (shows k.found k.counts k.inners) (next_of k.inners k.items) k.items s.rules f source c tried k.ways [] b [] k.is_tree good_ways
      k.arranged.falls own.way own.there own.rule
      ((starts own.way own.there).has (source, c) (subst (λ g. Contains g.constraints (source, c)) (sym own.rule) has)))

  pub tree_of_returns : MakesReturns several s b
  tree_of_returns f has_rule reached =
      let own = rule_way several s.bindings s.rules k.ways k.arranged f has_rule in
      tree_returned (record { several = several; bindings = s.bindings; shows = shows k.found k.counts k.inners; next = next_of k.inners k.items; items = k.items }) s.rules f reached k.ways [] b [] k.is_tree good_ways k.arranged.falls own.way own.there own.rule

  pub tree_of_loops : HasLoopsApart s b
  tree_of_loops =
      tree_loops s (record { several = several; bindings = s.bindings; shows = shows k.found k.counts k.inners; next = next_of k.inners k.items; items = k.items }) k.ways [] b k.is_tree
      (all_from (IsChosenWay s (record { several = several; bindings = s.bindings; shows = shows k.found k.counts k.inners; next = next_of k.inners k.items; items = k.items })) k.ways (λ w c. record { there = there w c; late = (starts w c).chosen }))

-- ---- of a term that answers once

once_tree : (several kind : Bool) (bs : List Binding) (fs : List FlatRule) (b : Block) → kind ≡ several → kind ≡ false → IsTreeOf several bs fs b → IsTreeOf false bs fs b
once_tree several kind bs fs b e answers_once k = subst (λ x. IsTreeOf x bs fs b) (sym e ∙ answers_once) k

no_late_left : (g : Ground) (before : List Test) (bound : List ℕ) (source : BindingId) (w : Way) (c : Constraint) (left : Way) → Tests source w c left → w.late ≡ [] → left.late ≡ []
no_late_left g before bound source w c left k h = k.late ∙ h

once_merged : (s : RuleSet) (b : Block) → IsTreeOf false s.bindings s.rules b → IsMerged b
once_merged s b k =
    let g : Ground = record { several = false; bindings = s.bindings; shows = shows k.found k.counts k.inners; next = next_of k.inners k.items; items = k.items } in
    tree_merged g (λ before bound w. w.late ≡ []) (no_late_left g) (λ before bound source v c left w k' one h. h) (λ before bound w h early. untested_no_match g w bound h)
    k.ways [] b [] k.is_tree (all_from (λ (w : Way). w.late ≡ []) k.ways (λ w c. (way_starts false s.bindings s.rules k.ways k.arranged w c).whole refl))

pub tree_of_once_merged : (several : Bool) (s : RuleSet) (b : Block) → IsTreeOf several s.bindings s.rules b → several ≡ false → IsMerged b
tree_of_once_merged several s b k e = once_merged s b (subst (λ x. IsTreeOf x s.bindings s.rules b) e k)

pub tree_of_means : (several : Bool) (s : RuleSet) (b : Block) → IsTreeOf several s.bindings s.rules b → (env : Environment) (m : Meaning) (t : Term) (args : List Value) (kind : ReturnKind) → IsSerializable env t s → is_several (kind_of t.kind) ≡ several → is_several (kind_of t.kind) ≡ false
    → AreTestsApart env m args s → AreRulesApart env m args s → block_outcome env m args (paths_of s.bindings) b kind ≡ set_outcome env m args (paths_of s.bindings) s.rules kind
tree_of_means several s b tree env m t args kind h is answers_once apart one =
    let k = once_tree several (is_several (kind_of t.kind)) s.bindings s.rules b is answers_once tree in
    let ps = paths_of s.bindings in
    let ok = flat_holds env m args ps in
    let finds = finds_next s.bindings k.inners k.items k.found_inners k.found_items in
    let order = ways_order false s.bindings s.rules k.ways k.arranged in
    ap (gave kind) (tree_run env t m args s answers_once apart k.found k.counts k.inners (next_of k.inners k.items) k.items k.finds k.found_inners k.found_items finds h.once h.fields h.items k.ways [] b [] k.is_tree (within_none env ps) (all_after false s b k env t h) refl)
    ∙ gives_first env m args s kind (first ok (rules_of k.ways))
    ∙ ap (given env m args ps kind) (first_is_highest ok s.rules (rules_of k.ways) order k.arranged.falls one)

-- ---- of a term that answers several times

several_tree : (several kind : Bool) (bs : List Binding) (fs : List FlatRule) (b : Block) → kind ≡ several → kind ≡ true → IsTreeOf several bs fs b → IsTreeOf true bs fs b
several_tree several kind bs fs b e often k = subst (λ x. IsTreeOf x bs fs b) (sym e ∙ often) k

several_merged : (s : RuleSet) (b : Block) → IsTreeOf true s.bindings s.rules b → (env : Environment) (t : Term) → IsSerializable env t s → is_several (kind_of t.kind) ≡ true → IsMerged b
several_merged s b k env t h often =
    let next = next_of k.inners k.items in
    let finds = finds_next s.bindings k.inners k.items k.found_inners k.found_items in
    let g : Ground = record { several = true; bindings = s.bindings; shows = shows k.found k.counts k.inners; next = next; items = k.items } in
    let starts = way_starts true s.bindings s.rules k.ways k.arranged in
    tree_merged g (IsListedWay env t s k.found k.counts k.inners next k.items often k.finds k.found_inners k.found_items finds h.once h.fields h.items)
    (listed_left env t s k.found k.counts k.inners next k.items often k.finds k.found_inners k.found_items finds h.once h.fields h.items)
    (listed_more env t s k.found k.counts k.inners next k.items often k.finds k.found_inners k.found_items finds h.once h.fields h.items)
    (listed_no_match env t s k.found k.counts k.inners next k.items often k.finds k.found_inners k.found_items finds h.once h.fields h.items)
    k.ways [] b [] k.is_tree
    (all_from (IsListedWay env t s k.found k.counts k.inners next k.items often k.finds k.found_inners k.found_items finds h.once h.fields h.items [] []) k.ways
    (λ w c. record { within = within_none env (paths_of s.bindings); opens = opened_none s.bindings; after = all_at (IsAfter env t s []) k.ways w (all_after true s b k env t h) c; free = (starts w c).free refl; chosen = (starts w c).chosen }))

pub tree_of_merged : (several : Bool) (s : RuleSet) (b : Block) → IsTreeOf several s.bindings s.rules b → (env : Environment) (t : Term) → IsSerializable env t s → is_several (kind_of t.kind) ≡ several → IsMerged b
tree_of_merged several s b k env t h is = pick (is_several (kind_of t.kind)) refl
  where
    pick : (kind : Bool) → is_several (kind_of t.kind) ≡ kind → IsMerged b
    pick true often = several_merged s b (several_tree several (is_several (kind_of t.kind)) s.bindings s.rules b is often k) env t h often
    pick false once = once_merged s b (once_tree several (is_several (kind_of t.kind)) s.bindings s.rules b is once k)

-- where each impure call of rules stands once, it does in each rule
once_in : (env : Environment) (qs : List Path) (fs : List FlatRule) → EachOnce (occurrences_of env qs fs) → AllByRecursion (λ (f : FlatRule). EachOnce (occurrences env qs f.ordered)) fs
once_in env qs [] h = tt
once_in env qs (f ∷ fs) h = (each_first (occurrences env qs f.ordered) (occurrences_of env qs fs) h, once_in env qs fs (each_second (occurrences env qs f.ordered) (occurrences_of env qs fs) h))

pub tree_of_several : (several : Bool) (s : RuleSet) (b : Block) → IsTreeOf several s.bindings s.rules b → (env : Environment) (t : Term) → IsSerializable env t s → is_several (kind_of t.kind) ≡ several → is_several (kind_of t.kind) ≡ true
    → AllByRecursion (HasItsLists env (paths_of s.bindings)) s.rules → GivesSeveral env s b
tree_of_several several s b tree env t h is often lists m args tys rules set =
    let k = several_tree several (is_several (kind_of t.kind)) s.bindings s.rules b is often tree in
    let ps = paths_of s.bindings in
    let next = finds_next s.bindings k.inners k.items k.found_inners k.found_items in
    let there = way_there true s.bindings s.rules k.ways k.arranged in
    several_prescribes env m args tys s b rules
    (tree_adds env t s k.found k.counts k.inners (next_of k.inners k.items) k.items often k.finds k.found_inners k.found_items next h.once h.fields h.items k.ways b k.is_tree (ways_order true s.bindings s.rules k.ways k.arranged) (all_after true s b k env t h)
    (all_from (IsSeveralWay env ps) k.ways
    (λ w c. record {
      free = (way_starts true s.bindings s.rules k.ways k.arranged w c).free refl;
      lists = all_at (HasItsLists env ps) s.rules w.rule lists (there w c);
      once = all_at (λ (f : FlatRule). EachOnce (occurrences env ps f.ordered)) s.rules w.rule (once_in env ps s.rules h.apart) (there w c);
    }))) set

-- ---- by the code's tables

-- the tree of the rules, by them
pub grown_by : (several : Bool) (bs b1 b2 b3 b4 : List Binding) (fs rs : List FlatRule) (b : Block) (fields : Fields) (inners items : BTreeMap ℕ BindingId) → b1 ≡ bs → b2 ≡ bs → b3 ≡ bs → b4 ≡ bs → rs ≡ fs
    → FindsFields b1 (get key_cmp fields.found) (get shown_cmp fields.counts) → FindsInners b2 (get nat_cmp inners) → FindsItems b3 (get nat_cmp items)
    → IsGrown (record { several = several; bindings = b4; shows = places fields (get nat_cmp inners); next = next_of (get nat_cmp inners) (get nat_cmp items); items = get nat_cmp items }) rs b → IsTreeOf several bs fs b
grown_by several bs b1 b2 b3 b4 fs rs b fields inners items e1 e2 e3 e4 e5 f g h grown = record {
  found = get key_cmp fields.found;
  counts = get shown_cmp fields.counts;
  inners = get nat_cmp inners;
  items = get nat_cmp items;
  finds = subst (λ xs. FindsFields xs (get key_cmp fields.found) (get shown_cmp fields.counts)) e1 f;
  found_inners = subst (λ xs. FindsInners xs (get nat_cmp inners)) e2 g;
  found_items = subst (λ xs. FindsItems xs (get nat_cmp items)) e3 h;
  ways = same.ways;
  arranged = same.arranged;
  is_tree = same.tree;
}
  where
    same : IsGrown (record { several = several; bindings = bs; shows = places fields (get nat_cmp inners); next = next_of (get nat_cmp inners) (get nat_cmp items); items = get nat_cmp items }) fs b
    same = subst (λ xs. IsGrown (record { several = several; bindings = bs; shows = places fields (get nat_cmp inners); next = next_of (get nat_cmp inners) (get nat_cmp items); items = get nat_cmp items }) xs b) e5
        (subst (λ xs. IsGrown (record { several = several; bindings = xs; shows = places fields (get nat_cmp inners); next = next_of (get nat_cmp inners) (get nat_cmp items); items = get nat_cmp items }) rs b) e4 grown)
