-- An arm for each group is a tree of the ways.
use Rattle.std.proofs.Common.{◌≡◌, ℕ, ◌+◌, ◌<◌, ◌≤◌, List, [], ◌∷◌, ◌++◌, length, get_or, drop, map, refl, sym, ap, ◌∙◌, subst, arith}
use Rattle.std.proofs.lemmas.List.{drop_more, drop_all}
use Rattle.isle_core.specs.declared.BindingId.{BindingId}
use Rattle.isle_core.specs.declared.rule_sets.Constraint.{Constraint}
use Rattle.isle_core.specs.ArmPlaces.{bound_within}
use Rattle.isle_core.specs.Bindable.{bound_by}
use Rattle.isle_core.specs.Block.{Block, Step, Match, Arms, NoArm, Arm}
use Rattle.isle_core.specs.BlockViews.{SeenStep, SeenArm, arms_of}
use Rattle.isle_blocks.specs.declared.gathering.Group.{Group}
use Rattle.isle_blocks.specs.Gathered.{gather, AreGroups}
use Rattle.isle_blocks.specs.Gathered as groups
use Rattle.isle_blocks.specs.Tree.{Way, Ground, source_needs, AllTest, IsTree, AreTrees}
use Rattle.isle_blocks.specs.Tree as tree
use Rattle.isle_blocks.specs.TreeSteps.{arms_before, HaveArms, IsShared}
use Rattle.isle_blocks.specs.Ways.{group}
use Rattle.isle_blocks.proofs.GroupLaws.{gathered_groups}

-- ---- one arm after another

-- if others are arms of the groups that are left, these before them are arms of all
abbrev pub ArmsLeft : Ground → BindingId → List ℕ → (all left : List (Constraint × List Way)) → List SeenArm → Type 0
ArmsLeft g source bound all left arms =
    (js : List (Constraint × Way)) (more : Arms) → AreGroups js all → ((others : List (Constraint × Way)) → AreGroups others left → AreTrees g source others bound more) → AreTrees g source js bound (arms_before arms more)

arms_push : (arms : List SeenArm) (a : SeenArm) (more : Arms) → arms_before (arms ++ a ∷ []) more ≡ arms_before arms (Arm a.0 a.1 a.2 more)
arms_push [] a more = refl
arms_push (b ∷ arms) a more = ap (Arm b.0 b.1 b.2) (arms_push arms a more)

-- the arm of a group before those of the others
one_arm : (g : Ground) (source : BindingId) (bound : List ℕ) (x : Constraint × List Way) (left : List (Constraint × List Way)) (a : SeenArm) (more : Arms) (js : List (Constraint × Way)) → AreGroups js (x ∷ left) → a.0 ≡ x.0 → a.1 ≡ g.shows source x.0
    → IsTree g x.1 (bound_within bound (g.shows source x.0)) a.2 → ((others : List (Constraint × Way)) → AreGroups others left → AreTrees g source others bound more) → AreTrees g source js bound (Arm a.0 a.1 a.2 more)
one_arm g source bound x left a more js (groups.group c is others w ws gs parts k) constraint places body f =
    subst (λ d. AreTrees g source js bound (Arm d a.1 a.2 more)) (sym constraint)
    (subst (λ ps. AreTrees g source js bound (Arm c ps a.2 more)) (sym places) (tree.arm source c js others w ws bound a.2 more parts body (f others k)))

pub arms_more : (g : Ground) (source : BindingId) (bound : List ℕ) (all : List (Constraint × List Way)) (gs : List Group) (i : ℕ) (x d : Group) (arms new : List SeenArm) (a : SeenArm) → i < length gs → x ≡ get_or gs i d → new ≡ arms ++ a ∷ []
    → a.0 ≡ x.constraint → a.1 ≡ g.shows source x.constraint → IsTree g (group x).1 (bound_within bound (g.shows source x.constraint)) a.2 → ArmsLeft g source bound all (map group (drop i gs)) arms → ArmsLeft g source bound all (map group (drop (i + 1) gs)) new
arms_more g source bound all gs i x d arms new a lt is longer constraint places body h = λ js more k f.
    let first : map group (drop i gs) ≡ group x ∷ map group (drop (i + 1) gs) = ap (map group) (drop_more gs i d lt ∙ ap (λ y. y ∷ drop (i + 1) gs) (sym is)) in
    subst (AreTrees g source js bound) (sym (ap (λ xs. arms_before xs more) longer ∙ arms_push arms a more))
    (h js (Arm a.0 a.1 a.2 more) k (λ others o. one_arm g source bound (group x) (map group (drop (i + 1) gs)) a more others (subst (AreGroups others) first o) constraint places body f))

none_left : (g : Ground) (source : BindingId) (bound : List ℕ) (others : List (Constraint × Way)) → AreGroups others [] → AreTrees g source others bound NoArm
none_left g source bound others groups.none = tree.no_arm source bound

-- after the last
pub arms_all : (g : Ground) (source : BindingId) (bound : List ℕ) (ws : List Way) (gs : List Group) (i : ℕ) (arms : List SeenArm) → map group gs ≡ gather [] ws → length gs ≤ i → ArmsLeft g source bound (map group gs) (map group (drop i gs)) arms
    → HaveArms g source ws bound (arms_before arms NoArm)
arms_all g source bound ws gs i arms is le h = λ js tests. h js NoArm (subst (AreGroups js) (sym is) (gathered_groups source ws js tests)) (λ others o. none_left g source bound others (subst (AreGroups others) (ap (map group) (drop_all i gs le)) o))

-- ---- their match

pub arms_seen : (arms : List SeenArm) → arms_before arms NoArm ≡ arms_of arms
arms_seen [] = refl
arms_seen (a ∷ arms) = ap (Arm a.0 a.1 a.2) (arms_seen arms)

shared_of : (g : Ground) (source : BindingId) (ws : List Way) (js : List (Constraint × Way)) (bound : List ℕ) (arms : Arms) (rest : List Way) (more : Block) → AllTest source ws js → tree.StartApart source rest → 0 < length ws
    → AreTrees g source js (bound_by bound (source_needs g bound source)) arms → IsTree g rest (bound_by bound (source_needs g bound source)) more → IsTree g (ws ++ rest) bound (Step (source_needs g bound source) (Match source arms) more)
shared_of g source [] js bound arms rest more tests starts lt trees k = absurd (omega (arith, lt))
shared_of g source (w ∷ ws) (j ∷ js) bound arms rest more tests starts lt trees k = tree.shared source w ws rest j js bound arms more tests starts trees k
shared_of g source (w ∷ ws) [] bound arms rest more tests starts lt trees k = absurd tests

-- a match over the source with these arms, after what the source is read with
pub is_shared : (g : Ground) (source : BindingId) (ws : List Way) (bound : List ℕ) (arms : List SeenArm) (order : List BindingId) (s : SeenStep) → s ≡ (order, Match source (arms_of arms)) → order ≡ source_needs g bound source
    → HaveArms g source ws (bound_by bound (source_needs g bound source)) (arms_before arms NoArm) → IsShared g source ws bound s
is_shared g source ws bound arms order s step needs have = λ js tests lt rest more starts k.
    subst (λ (t : SeenStep). IsTree g (ws ++ rest) bound (Step t.0 t.1 more)) (sym (step ∙ ap (λ (bs : List BindingId). (bs, Match source (arms_of arms))) needs))
    (shared_of g source ws js bound (arms_of arms) rest more tests starts lt (subst (AreTrees g source js (bound_by bound (source_needs g bound source))) (arms_seen arms) (have js tests)) k)
