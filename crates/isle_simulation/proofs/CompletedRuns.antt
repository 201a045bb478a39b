-- A completed block runs as the block: what is bound more are made values alone.
use Rattle.std.proofs.Common.{◌≡◌, ℕ, zero, suc, List, [], ◌∷◌, ◌++◌, length, Bool, true, false, cond, eqb, Option, Some, None, refl, sym, ap, ◌∙◌, subst, append_assoc}
use Rattle.std.specs.Prelude.{◌||◌, IsSome, slice_get}
use Rattle.std.specs.List.{AllByRecursion}
use Rattle.std.proofs.lemmas.Bool.{eqb-true}
use Rattle.std.proofs.lemmas.List.Folds.{list_any-append}
use Rattle.isle_core.specs.declared.BindingId.{BindingId}
use Rattle.isle_core.specs.declared.rule_sets.Binding.{Binding}
use Rattle.isle_core.specs.declared.rule_sets.Binding.TheVariants as binding
use Rattle.isle_core.specs.ArmPlaces.{bound_within}
use Rattle.isle_core.specs.Bindable.{bound_by}
use Rattle.isle_core.specs.Block.{Block, Stop, Step, Control, Match, Equal, Loop, Return, Arms, NoArm, Arm}
use Rattle.isle_core.specs.BlockRun.{bind_one, bind_all, block_run, control_run, arms_run}
use Rattle.isle_core.specs.CallRun.{Went, Goes, Ends, then_go}
use Rattle.isle_core.specs.Meaning.{Meaning}
use Rattle.isle_core.specs.Occurrences.{occurrence_at, occurrences, after_block, after_control, after_arms}
use Rattle.isle_core.specs.Path.{Path, MadeVariant, MadeStruct, NoPath, APath, at}
use Rattle.isle_core.specs.Rule.{Environment}
use Rattle.isle_core.specs.Setting.{Setting, gives_several, paths_in}
use Rattle.isle_core.specs.Value.{Value, Made}
use Rattle.isle_core.specs.ValueAt.{Held, Known, value_at, meets, equal_held}
use Rattle.isle_core.proofs.AllLaws.{all_append}
use Rattle.isle_core.proofs.BindingPaths.{at_before}
use Rattle.isle_tree.specs.declared.tree.Operand.TheVariants as operand
use Rattle.isle_simulation.specs.Completed.{local_parts, each_needed, with_parts, needed, needs, read_for, read_by, with_needs, completed_binds, step_binds, completed, completed_control, completed_arms}
use Rattle.isle_simulation.specs.Operands.{in_place, is_bound, operand_of}

-- ---- made values that need a local

-- the binding is such a value
abbrev pub HasLocal : Setting → BindingId → Type 0
HasLocal s b = IsSome (local_parts (slice_get s.bindings b.0))

-- the path of one
abbrev pub IsLocalPath : Path → Type 0
IsLocalPath (MadeVariant ty variant ps) = Unit {0}
IsLocalPath (MadeStruct ty (APath p ps)) = Unit {0}
IsLocalPath p = ⊥

each_local : (s : Setting) (one : List ℕ → BindingId → List BindingId) → ((bound : List ℕ) (b : BindingId) → AllByRecursion (HasLocal s) (one bound b)) → (bound : List ℕ) (bs : List BindingId) → AllByRecursion (HasLocal s) (each_needed one bound bs)
each_local s one h bound [] = tt
each_local s one h bound (b ∷ bs) = all_append (HasLocal s) (one bound b) (each_needed one (bound_by bound (one bound b)) bs) (h bound b) (each_local s one h (bound_by bound (one bound b)) bs)

-- what is needed is of such values
pub needed_local : (s : Setting) (depth : ℕ) (bound : List ℕ) (b : BindingId) → AllByRecursion (HasLocal s) (needed s depth bound b)
needed_local s zero bound b = tt
needed_local s (suc depth) bound b = one (is_bound bound b) (local_parts (slice_get s.bindings b.0)) refl (λ bound' c. needed_local s depth bound' c)
  where
    one : (x : Bool) (o : Option (List BindingId)) → local_parts (slice_get s.bindings b.0) ≡ o → ((bound' : List ℕ) (c : BindingId) → AllByRecursion (HasLocal s) (needed s depth bound' c)) → AllByRecursion (HasLocal s) (cond x [] (with_parts (needed s depth) bound b o))
    one true o e h = tt
    one false None e h = tt
    one false (Some parts) e h = all_append (HasLocal s) (each_needed (needed s depth) bound parts) (b ∷ []) (each_local s (needed s depth) h bound parts) (subst IsSome (sym e) refl, tt)

pub needs_local : (s : Setting) (bound : List ℕ) (bs : List BindingId) → AllByRecursion (HasLocal s) (needs s bound bs)
needs_local s bound bs = each_local s (needed s (length s.bindings)) (λ bound' b. needed_local s (length s.bindings) bound' b) bound bs

-- its path is that of a made value
pub local_path : (s : Setting) (b : BindingId) → HasLocal s b → IsLocalPath (at (paths_in s) b)
local_path s b h = one (slice_get s.bindings b.0) refl h
  where
    one : (o : Option Binding) → slice_get s.bindings b.0 ≡ o → IsSome (local_parts o) → IsLocalPath (at (paths_in s) b)
    one (Some (binding.MakeVariant ty variant fields)) e k = subst IsLocalPath (sym (at_before s.bindings b (binding.MakeVariant ty variant fields) e)) tt
    one (Some (binding.MakeStruct ty (f ∷ fs))) e k = subst IsLocalPath (sym (at_before s.bindings b (binding.MakeStruct ty (f ∷ fs)) e)) tt
    one (Some (binding.MakeStruct ty [])) e k = absurd cc
    one o e k = absurd cc

path_still : (env : Environment) (m : Meaning) (args : List Value) (p : Path) (known : Known) (made : List Made) → IsLocalPath p → bind_one env m args p known made ≡ Goes known made
path_still env m args (MadeVariant ty variant ps) known made h = refl
path_still env m args (MadeStruct ty (APath p ps)) known made h = refl
path_still env m args (MadeStruct ty NoPath) known made h = absurd h
path_still env m args p known made h = absurd h

path_uncalled : (env : Environment) (p : Path) → IsLocalPath p → occurrence_at env p ≡ []
path_uncalled env (MadeVariant ty variant ps) h = refl
path_uncalled env (MadeStruct ty (APath p ps)) h = refl
path_uncalled env (MadeStruct ty NoPath) h = absurd h
path_uncalled env p h = absurd h

path_local : (env : Environment) (local : ℕ) (p : Path) → IsLocalPath p → in_place env local p ≡ Some (operand.Local local)
path_local env local (MadeVariant ty variant ps) h = refl
path_local env local (MadeStruct ty (APath p ps)) h = refl
path_local env local (MadeStruct ty NoPath) h = absurd h
path_local env local p h = absurd h

-- ---- bind orders

then_same : (w x : Went) (f g : Known → List Made → Went) → w ≡ x → ((known : Known) (made : List Made) → f known made ≡ g known made) → then_go w f ≡ then_go x g
then_same (Goes known made) x f g e h = h known made ∙ ap (λ y. then_go y g) e
then_same (Ends o) x f g e h = ap (λ y. then_go y g) e

module _ (s : Setting) (m : Meaning) (args : List Value) where
  -- made values before others
  before_still : (ns bs : List BindingId) (known : Known) (made : List Made) → AllByRecursion (HasLocal s) ns → bind_all s.env m args (paths_in s) (ns ++ bs) known made ≡ bind_all s.env m args (paths_in s) bs known made
  before_still [] bs known made h = refl
  before_still (n ∷ ns) bs known made h =
      ap (λ w. then_go w (bind_all s.env m args (paths_in s) (ns ++ bs))) (path_still s.env m args (at (paths_in s) n) known made (local_path s n h.0)) ∙ before_still ns bs known made h.1

  alone_still : (ns : List BindingId) (known : Known) (made : List Made) → AllByRecursion (HasLocal s) ns → bind_all s.env m args (paths_in s) ns known made ≡ Goes known made
  alone_still [] known made h = refl
  alone_still (n ∷ ns) known made h = ap (λ w. then_go w (bind_all s.env m args (paths_in s) ns)) (path_still s.env m args (at (paths_in s) n) known made (local_path s n h.0)) ∙ alone_still ns known made h.1

  -- and after them
  behind_still : (bs ns : List BindingId) (known : Known) (made : List Made) → AllByRecursion (HasLocal s) ns → bind_all s.env m args (paths_in s) (bs ++ ns) known made ≡ bind_all s.env m args (paths_in s) bs known made
  behind_still [] ns known made h = alone_still ns known made h
  behind_still (b ∷ bs) ns known made h = then_same (bind_one s.env m args (at (paths_in s) b) known made) _ (bind_all s.env m args (paths_in s) (bs ++ ns)) (bind_all s.env m args (paths_in s) bs) refl (λ known' made'. behind_still bs ns known' made' h)

  completed_binds_run : (bs : List BindingId) (bound : List ℕ) (known : Known) (made : List Made) → bind_all s.env m args (paths_in s) (completed_binds s bound bs) known made ≡ bind_all s.env m args (paths_in s) bs known made
  completed_binds_run [] bound known made = refl
  completed_binds_run (b ∷ bs) bound known made =
      let ns = needs s bound (read_for (slice_get s.bindings b.0)) in
      let rest = completed_binds s (bound_by bound (with_needs s bound b)) bs in
      ap (λ xs. bind_all s.env m args (paths_in s) xs known made) (append_assoc ns (b ∷ []) rest)
      ∙ before_still ns (b ∷ rest) known made (needs_local s bound (read_for (slice_get s.bindings b.0)))
      ∙ then_same (bind_one s.env m args (at (paths_in s) b) known made) _ (bind_all s.env m args (paths_in s) rest) (bind_all s.env m args (paths_in s) bs) refl (λ known' made'. completed_binds_run bs (bound_by bound (with_needs s bound b)) known' made')

  pub step_binds_run : (bs : List BindingId) (c : Control) (bound : List ℕ) (known : Known) (made : List Made) → bind_all s.env m args (paths_in s) (step_binds s bound bs c) known made ≡ bind_all s.env m args (paths_in s) bs known made
  step_binds_run bs c bound known made =
      behind_still (completed_binds s bound bs) (needs s (bound_by bound (completed_binds s bound bs)) (read_by c)) known made (needs_local s (bound_by bound (completed_binds s bound bs)) (read_by c)) ∙ completed_binds_run bs bound known made

  -- ---- blocks

  mutual
    block_same : (b : Block) (bound : List ℕ) (known : Known) (made : List Made) → block_run s.env m args (paths_in s) (completed s bound b) known made ≡ block_run s.env m args (paths_in s) b known made
    block_same Stop bound known made = refl
    block_same (Step bs c more) bound known made =
        let inner = bound_by bound (step_binds s bound bs c) in
        then_same (then_go (bind_all s.env m args (paths_in s) (step_binds s bound bs c) known made) (control_run s.env m args (paths_in s) (completed_control s inner c))) (then_go (bind_all s.env m args (paths_in s) bs known made) (control_run s.env m args (paths_in s) c))
        (block_run s.env m args (paths_in s) (completed s inner more)) (block_run s.env m args (paths_in s) more)
        (then_same (bind_all s.env m args (paths_in s) (step_binds s bound bs c) known made) (bind_all s.env m args (paths_in s) bs known made) (control_run s.env m args (paths_in s) (completed_control s inner c)) (control_run s.env m args (paths_in s) c)
        (step_binds_run bs c bound known made) (λ known' made'. control_same c inner known' made'))
        (λ known' made'. block_same more inner known' made')

    control_same : (c : Control) (bound : List ℕ) (known : Known) (made : List Made) → control_run s.env m args (paths_in s) (completed_control s bound c) known made ≡ control_run s.env m args (paths_in s) c known made
    control_same (Match source arms) bound known made = arms_same arms bound (value_at s.env m args known (at (paths_in s) source)) known made
    control_same (Equal a b body) bound known made =
        ap (λ w. cond (equal_held (value_at s.env m args known (at (paths_in s) a)) (value_at s.env m args known (at (paths_in s) b))) w (Goes known made)) (block_same body bound known made)
    control_same (Loop result body) bound known made = refl
    control_same (Return pos result) bound known made = refl

    arms_same : (arms : Arms) (bound : List ℕ) (h : Held) (known : Known) (made : List Made) → arms_run s.env m args (paths_in s) (completed_arms s bound arms) h known made ≡ arms_run s.env m args (paths_in s) arms h known made
    arms_same NoArm bound h known made = refl
    arms_same (Arm c places body arms) bound h known made =
        ap (λ w. cond (meets s.env m c h) w (arms_run s.env m args (paths_in s) (completed_arms s bound arms) h known made)) (block_same body (bound_within bound places) known made)
        ∙ ap (λ w. cond (meets s.env m c h) (block_run s.env m args (paths_in s) body known made) w) (arms_same arms bound h known made)

-- binding made values changes nothing
pub completed_runs : (s : Setting) (m : Meaning) (args : List Value) (bound : List ℕ) (b : Block) (known : Known) (made : List Made) → block_run s.env m args (paths_in s) (completed s bound b) known made ≡ block_run s.env m args (paths_in s) b known made
completed_runs s m args bound b known made = block_same s m args b bound known made

-- ---- occurrences

before_uncalled : (s : Setting) (ns bs : List BindingId) → AllByRecursion (HasLocal s) ns → occurrences s.env (paths_in s) (ns ++ bs) ≡ occurrences s.env (paths_in s) bs
before_uncalled s [] bs h = refl
before_uncalled s (n ∷ ns) bs h = ap (λ ks. ks ++ occurrences s.env (paths_in s) (ns ++ bs)) (path_uncalled s.env (at (paths_in s) n) (local_path s n h.0)) ∙ before_uncalled s ns bs h.1

behind_uncalled : (s : Setting) (bs ns : List BindingId) → AllByRecursion (HasLocal s) ns → occurrences s.env (paths_in s) (bs ++ ns) ≡ occurrences s.env (paths_in s) bs
behind_uncalled s [] [] h = refl
behind_uncalled s [] (n ∷ ns) h = ap (λ ks. ks ++ occurrences s.env (paths_in s) ns) (path_uncalled s.env (at (paths_in s) n) (local_path s n h.0)) ∙ behind_uncalled s [] ns h.1
behind_uncalled s (b ∷ bs) ns h = ap (λ ks. occurrence_at s.env (at (paths_in s) b) ++ ks) (behind_uncalled s bs ns h)

completed_occurrences : (s : Setting) (bs : List BindingId) (bound : List ℕ) → occurrences s.env (paths_in s) (completed_binds s bound bs) ≡ occurrences s.env (paths_in s) bs
completed_occurrences s [] bound = refl
completed_occurrences s (b ∷ bs) bound =
    let ns = needs s bound (read_for (slice_get s.bindings b.0)) in
    let rest = completed_binds s (bound_by bound (with_needs s bound b)) bs in
    ap (occurrences s.env (paths_in s)) (append_assoc ns (b ∷ []) rest)
    ∙ before_uncalled s ns (b ∷ rest) (needs_local s bound (read_for (slice_get s.bindings b.0)))
    ∙ ap (λ ks. occurrence_at s.env (at (paths_in s) b) ++ ks) (completed_occurrences s bs (bound_by bound (with_needs s bound b)))

pub step_occurrences : (s : Setting) (bs : List BindingId) (c : Control) (bound : List ℕ) → occurrences s.env (paths_in s) (step_binds s bound bs c) ≡ occurrences s.env (paths_in s) bs
step_occurrences s bs c bound =
    behind_uncalled s (completed_binds s bound bs) (needs s (bound_by bound (completed_binds s bound bs)) (read_by c)) (needs_local s (bound_by bound (completed_binds s bound bs)) (read_by c)) ∙ completed_occurrences s bs bound

mutual
  after_block_same : (s : Setting) (b : Block) (bound made : List ℕ) → after_block (gives_several s) s.env (paths_in s) made (completed s bound b) ≡ after_block (gives_several s) s.env (paths_in s) made b
  after_block_same s Stop bound made = refl
  after_block_same s (Step bs c more) bound made =
      let inner = bound_by bound (step_binds s bound bs c) in
      after_block_same s more inner (after_control (gives_several s) s.env (paths_in s) (made ++ occurrences s.env (paths_in s) (step_binds s bound bs c)) (completed_control s inner c))
      ∙ ap (λ ks. after_block (gives_several s) s.env (paths_in s) ks more) (after_control_same s c inner (made ++ occurrences s.env (paths_in s) (step_binds s bound bs c)) ∙ ap (λ ks. after_control (gives_several s) s.env (paths_in s) (made ++ ks) c) (step_occurrences s bs c bound))

  -- the same calls may have been bound after a step
  pub after_control_same : (s : Setting) (c : Control) (bound made : List ℕ) → after_control (gives_several s) s.env (paths_in s) made (completed_control s bound c) ≡ after_control (gives_several s) s.env (paths_in s) made c
  after_control_same s (Match source arms) bound made = ap (λ ks. made ++ ks) (after_arms_same s arms bound made)
  after_control_same s (Equal a b body) bound made = ap (λ ks. made ++ ks) (after_block_same s body bound made)
  after_control_same s (Loop result body) bound made = ap (λ ks. made ++ ks) (after_block_same s body (bound ++ result.0 ∷ []) made)
  after_control_same s (Return pos result) bound made = refl

  after_arms_same : (s : Setting) (arms : Arms) (bound made : List ℕ) → after_arms (gives_several s) s.env (paths_in s) made (completed_arms s bound arms) ≡ after_arms (gives_several s) s.env (paths_in s) made arms
  after_arms_same s NoArm bound made = refl
  after_arms_same s (Arm c places body arms) bound made =
      ap (λ ks. ks ++ after_arms (gives_several s) s.env (paths_in s) made (completed_arms s bound arms)) (after_block_same s body (bound_within bound places) made) ∙ ap (λ ks. after_block (gives_several s) s.env (paths_in s) made body ++ ks) (after_arms_same s arms bound made)

-- ---- what is bound more

-- if more is bound, it is made values that need a local
pub record Adds (s : Setting) (bound more : List ℕ) : Type 0 where
  pub keeps : (b : BindingId) → is_bound bound b ≡ true → is_bound more b ≡ true
  pub only : (b : BindingId) → is_bound bound b ≡ false → is_bound more b ≡ true → HasLocal s b

pub adds_none : (s : Setting) (bound : List ℕ) → Adds s bound bound
adds_none s bound = record { keeps = λ b e. e; only = λ b e f. let bad : false ≡ true = sym e ∙ f in cc }

pub bound_push : (bound : List ℕ) (b c : BindingId) → is_bound (bound ++ b.0 ∷ []) c ≡ (is_bound bound c || eqb b.0 c.0)
bound_push bound b c = list_any-append (λ n. eqb n c.0) bound (b.0 ∷ []) ∙ last (is_bound bound c) (eqb b.0 c.0)
  where
    last : (x y : Bool) → (x || (y || false)) ≡ (x || y)
    last true y = refl
    last false true = refl
    last false false = refl

-- a local more on both sides
pub adds_both : (s : Setting) (bound more : List ℕ) (b : BindingId) → Adds s bound more → Adds s (bound ++ b.0 ∷ []) (more ++ b.0 ∷ [])
adds_both s bound more b a = record {
  keeps = λ c e. bound_push more b c ∙ up (is_bound bound c) (is_bound more c) (eqb b.0 c.0) (a.keeps c) (sym (bound_push bound b c) ∙ e);
  only = λ c e f. down c (is_bound bound c) (is_bound more c) (eqb b.0 c.0) (a.only c) (sym (bound_push bound b c) ∙ e) (sym (bound_push more b c) ∙ f);
}
  where
    up : (x y z : Bool) → (x ≡ true → y ≡ true) → (x || z) ≡ true → (y || z) ≡ true
    up true y z h e = ap (λ w. w || z) (h refl)
    up false true z h e = refl
    up false false z h e = e

    down : (c : BindingId) (x y z : Bool) → (x ≡ false → y ≡ true → HasLocal s c) → (x || z) ≡ false → (y || z) ≡ true → HasLocal s c
    down c true y z h e f = absurd cc
    down c false true z h e f = h refl refl
    down c false false z h e f = absurd (let bad : true ≡ false = sym f ∙ e in cc)

-- and a made value more
pub adds_one : (s : Setting) (bound more : List ℕ) (b : BindingId) → HasLocal s b → Adds s bound more → Adds s bound (more ++ b.0 ∷ [])
adds_one s bound more b h a = record {
  keeps = λ c e. bound_push more b c ∙ ap (λ x. x || eqb b.0 c.0) (a.keeps c e);
  only = λ c e f. pick c (is_bound more c) (eqb b.0 c.0) refl refl (a.only c e) (sym (bound_push more b c) ∙ f);
}
  where
    pick : (c : BindingId) (x y : Bool) → is_bound more c ≡ x → eqb b.0 c.0 ≡ y → (is_bound more c ≡ true → HasLocal s c) → (x || y) ≡ true → HasLocal s c
    pick c true y e f k g = k e
    pick c false true e f k g = subst (λ n. IsSome (local_parts (slice_get s.bindings n))) (eqb-true b.0 c.0 f) h
    pick c false false e f k g = absurd cc

pub adds_more : (s : Setting) (bs : List BindingId) (bound more : List ℕ) → AllByRecursion (HasLocal s) bs → Adds s bound more → Adds s bound (bound_by more bs)
adds_more s [] bound more h a = a
adds_more s (b ∷ bs) bound more h a = adds_more s bs bound (more ++ b.0 ∷ []) h.1 (adds_one s bound more b h.0 a)

pub bound_by-append : (xs ys : List BindingId) (bound : List ℕ) → bound_by bound (xs ++ ys) ≡ bound_by (bound_by bound xs) ys
bound_by-append [] ys bound = refl
bound_by-append (x ∷ xs) ys bound = bound_by-append xs ys (bound ++ x.0 ∷ [])

-- after a binding with what it needs
pub adds_with : (s : Setting) (bound more : List ℕ) (b : BindingId) → Adds s bound more → Adds s (bound ++ b.0 ∷ []) (bound_by more (with_needs s more b))
adds_with s bound more b a =
    let ns = needs s more (read_for (slice_get s.bindings b.0)) in
    subst (Adds s (bound ++ b.0 ∷ [])) (sym (bound_by-append ns (b ∷ []) more)) (adds_both s bound (bound_by more ns) b (adds_more s ns bound more (needs_local s more (read_for (slice_get s.bindings b.0))) a))

pub adds_binds : (s : Setting) (bs : List BindingId) (bound more : List ℕ) → Adds s bound more → Adds s (bound_by bound bs) (bound_by more (completed_binds s more bs))
adds_binds s [] bound more a = a
adds_binds s (b ∷ bs) bound more a =
    let inner = bound_by more (with_needs s more b) in
    subst (Adds s (bound_by (bound ++ b.0 ∷ []) bs)) (sym (bound_by-append (with_needs s more b) (completed_binds s inner bs) more)) (adds_binds s bs (bound ++ b.0 ∷ []) inner (adds_with s bound more b a))

pub adds_step : (s : Setting) (bs : List BindingId) (c : Control) (bound more : List ℕ) → Adds s bound more → Adds s (bound_by bound bs) (bound_by more (step_binds s more bs c))
adds_step s bs c bound more a =
    let xs = completed_binds s more bs in
    let ns = needs s (bound_by more xs) (read_by c) in
    subst (Adds s (bound_by bound bs)) (sym (bound_by-append xs ns more)) (adds_more s ns (bound_by bound bs) (bound_by more xs) (needs_local s (bound_by more xs) (read_by c)) (adds_binds s bs bound more a))

pub adds_within : (s : Setting) (places : List (Option BindingId)) (bound more : List ℕ) → Adds s bound more → Adds s (bound_within bound places) (bound_within more places)
adds_within s [] bound more a = a
adds_within s (None ∷ places) bound more a = adds_within s places bound more a
adds_within s (Some b ∷ places) bound more a = adds_within s places (bound ++ b.0 ∷ []) (more ++ b.0 ∷ []) (adds_both s bound more b a)

-- a made value's operand is its local either way
pub operands_same : (s : Setting) (bound more : List ℕ) (b : BindingId) → Adds s bound more → operand_of s.env s.bindings more b ≡ operand_of s.env s.bindings bound b
operands_same s bound more b a = one (is_bound bound b) (is_bound more b) refl refl
  where
    one : (x y : Bool) → is_bound bound b ≡ x → is_bound more b ≡ y → operand_of s.env s.bindings more b ≡ operand_of s.env s.bindings bound b
    one true true e f = rw (e, f) refl
    one false false e f = rw (e, f) refl
    one true false e f = let bad : false ≡ true = sym f ∙ a.keeps b e in cc
    one false true e f = rw (e, f) (sym (path_local s.env b.0 (at (paths_in s) b) (local_path s b (a.only b e f))))
