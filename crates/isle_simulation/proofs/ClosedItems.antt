-- Each item of a list within the path of what is bound is bound itself: so what is bound before a loop holds none of its items.
use Rattle.std.proofs.Common.{◌≡◌, ⊎_elim, ℕ, suc, List, [], ◌∷◌, ◌++◌, Bool, true, false, eqb, Option, Some, None, refl, sym, ap, ◌∙◌, subst, take}
use Rattle.std.specs.Prelude.{◌||◌, slice_get}
use Rattle.std.proofs.lemmas.Bool.{eqb-true}
use Rattle.isle_core.specs.declared.BindingId.{BindingId}
use Rattle.isle_core.specs.declared.TypeId.{TypeId}
use Rattle.isle_core.specs.declared.rule_sets.Binding.{Binding}
use Rattle.isle_core.specs.declared.rule_sets.Binding.TheVariants as binding
use Rattle.isle_core.specs.declared.rule_sets.Constraint.{Constraint}
use Rattle.isle_core.specs.declared.rule_sets.Constraint.TheVariants as constraint
use Rattle.isle_core.specs.ArmPlaces.{AreParts, ArePlacesOf, bound_within}
use Rattle.isle_core.specs.Bindable.{bound_by}
use Rattle.isle_core.specs.BlockLawful.{Source, AValue, AnOption}
use Rattle.isle_core.specs.Block.{Block, Stop, Step, Control, Match, Equal, Loop, Return, Arms, NoArm, Arm}
use Rattle.isle_core.specs.Path.{Path, Arg, ConstBool, ConstInt, ConstPrim, Chosen, MadeStruct, VariantField, StructField, Inner, NoPath, at, at_all}
use Rattle.isle_core.specs.Readable.{IsInPlace}
use Rattle.isle_core.specs.Setting.{Setting, paths_in}
use Rattle.isle_core.proofs.BindingPaths.{at_before}
use Rattle.isle_simulation.specs.Completed.{step_binds, completed, completed_control, completed_arms}
use Rattle.isle_core.specs.NewItems.{IsNewItem, HasNewItemsFrom, ControlNewItems, ArmsNewItems}
use Rattle.isle_simulation.specs.Operands.{is_bound}
use Rattle.isle_simulation.proofs.BoundTests.{found}
use Rattle.isle_simulation.proofs.CompletedReady.{contained, last_bound}
use Rattle.isle_simulation.proofs.CompletedRuns.{IsLocalPath, Adds, bound_push, adds_both, adds_step, adds_within, local_path}
use Rattle.isle_simulation.proofs.ItemsWithin.{ItemsAre, AllItemsAre, items_mean, first_items_are}
use Rattle.isle_simulation.proofs.Ready.{IsSpelled, IsReady, IsReadyIn, AreReady, IsReadyBind, AreReadyBinds}

-- the path of a binding that is bound
pub record IsBoundPath (s : Setting) (bound : List ℕ) (q : Path) : Type 0 where
  pub of : BindingId
  pub bound' : is_bound bound of ≡ true
  pub is : at (paths_in s) of ≡ q

pub record IsClosed (s : Setting) (bound : List ℕ) : Type 0 where
  pub by : (c : BindingId) → is_bound bound c ≡ true → ItemsAre (IsBoundPath s bound) (at (paths_in s) c)

pub none_closed : (s : Setting) → IsClosed s []
none_closed s = record { by = λ c e. cc }

still_bound : (bound : List ℕ) (b c : BindingId) → is_bound bound c ≡ true → is_bound (bound ++ b.0 ∷ []) c ≡ true
still_bound bound b c e = bound_push bound b c ∙ ap (λ x. x || eqb b.0 c.0) e

-- what is bound stays so
more_items : (s : Setting) (bound : List ℕ) (b : BindingId) (p : Path) → ItemsAre (IsBoundPath s bound) p → ItemsAre (IsBoundPath s (bound ++ b.0 ∷ [])) p
more_items s bound b p h = items_mean p (IsBoundPath s bound) (IsBoundPath s (bound ++ b.0 ∷ [])) (λ q x. record { of = x.of; bound' = still_bound bound b x.of x.bound'; is = x.is }) h

-- one more
more_closed : (s : Setting) (bound : List ℕ) (b : BindingId) → IsClosed s bound → ItemsAre (IsBoundPath s (bound ++ b.0 ∷ [])) (at (paths_in s) b) → IsClosed s (bound ++ b.0 ∷ [])
more_closed s bound b k here = record { by = λ c e. one c (is_bound bound c) (eqb b.0 c.0) refl refl (sym (bound_push bound b c) ∙ e) }
  where
    one : (c : BindingId) (x y : Bool) → is_bound bound c ≡ x → eqb b.0 c.0 ≡ y → (x || y) ≡ true → ItemsAre (IsBoundPath s (bound ++ b.0 ∷ [])) (at (paths_in s) c)
    one c true y e f h = more_items s bound b (at (paths_in s) c) (k.by c e)
    one c false true e f h = subst (λ n. ItemsAre (IsBoundPath s (bound ++ b.0 ∷ [])) (at (paths_in s) (record { 0 = n }))) (eqb-true b.0 c.0 f) here
    one c false false e f h = absurd cc

-- ---- what is read and bound

spelled_items : (P : Path → Type 0) (p : Path) → IsSpelled p → ItemsAre P p
spelled_items P (Arg i) h = tt
spelled_items P (ConstBool ty b) h = tt
spelled_items P (ConstInt ty n) h = tt
spelled_items P (ConstPrim name) h = tt
spelled_items P (MadeStruct ty NoPath) h = tt
spelled_items P p h = absurd h

plain_items : (P : Path → Type 0) (p : Path) → IsInPlace p → ItemsAre P p
plain_items P (Arg i) h = tt
plain_items P (ConstBool ty b) h = tt
plain_items P (ConstInt ty n) h = tt
plain_items P (ConstPrim name) h = tt
plain_items P p h = absurd h

pub ready_items : (s : Setting) (bound : List ℕ) (b : BindingId) (ty : TypeId) → IsClosed s bound → IsReady s bound b ty → ItemsAre (IsBoundPath s bound) (at (paths_in s) b)
ready_items s bound b ty k r = ⊎_elim (λ e. k.by b e) (λ h. spelled_items (IsBoundPath s bound) (at (paths_in s) b) h) r.place

-- so of what a match is over
pub over_items : (s : Setting) (bound : List ℕ) (b : BindingId) (over : Source) → IsClosed s bound → IsReadyIn s bound b over → ItemsAre (IsBoundPath s bound) (at (paths_in s) b)
over_items s bound b (AValue ty) k r = ready_items s bound b ty k r
over_items s bound b (AnOption tys) k r = k.by b r.bound'

all_ready_items : (s : Setting) (bound : List ℕ) (bs : List BindingId) (tys : List TypeId) → IsClosed s bound → AreReady s bound bs tys → AllItemsAre (IsBoundPath s bound) (at_all (paths_in s) bs)
all_ready_items s bound [] [] k r = tt
all_ready_items s bound (b ∷ bs) (ty ∷ tys) k r = (ready_items s bound b ty k r.0, all_ready_items s bound bs tys k r.1)
all_ready_items s bound (b ∷ bs) [] k r = absurd r
all_ready_items s bound [] (ty ∷ tys) k r = absurd r

bind_items : (s : Setting) (bound : List ℕ) (b : BindingId) (o : Option Binding) → IsClosed s bound → IsReadyBind s bound (at (paths_in s) b) o → ItemsAre (IsBoundPath s bound) (at (paths_in s) b)
bind_items s bound b (Some (binding.Constructor term parameters instance)) k is = subst (ItemsAre (IsBoundPath s bound)) (sym is.path) (all_ready_items s bound parameters is.called.arg_tys k is.args)
bind_items s bound b (Some (binding.Extractor term parameter)) k is = subst (ItemsAre (IsBoundPath s bound)) (sym is.path) (ready_items s bound parameter is.called.ret_ty k is.arg)
bind_items s bound b (Some (binding.MatchSome source)) k is = subst (ItemsAre (IsBoundPath s bound)) (sym is.path) (k.by source (found bound source.0 is.bound'))
bind_items s bound b (Some (binding.MatchTuple source field)) k is = subst (ItemsAre (IsBoundPath s bound)) (sym is.path) (k.by source (found bound source.0 is.bound'))
bind_items s bound b (Some (binding.Argument index)) k is = plain_items (IsBoundPath s bound) (at (paths_in s) b) is.0
bind_items s bound b (Some (binding.ConstBool val ty)) k is = plain_items (IsBoundPath s bound) (at (paths_in s) b) is.0
bind_items s bound b (Some (binding.ConstInt val ty)) k is = plain_items (IsBoundPath s bound) (at (paths_in s) b) is.0
bind_items s bound b (Some (binding.ConstPrim val)) k is = plain_items (IsBoundPath s bound) (at (paths_in s) b) is.0
bind_items s bound b (Some (binding.MakeVariant ty variant fields)) k is = subst (ItemsAre (IsBoundPath s bound)) (sym is.path) (all_ready_items s bound fields _ k is.parts)
bind_items s bound b (Some (binding.MakeStruct ty fields)) k is = subst (ItemsAre (IsBoundPath s bound)) (sym is.path) (all_ready_items s bound fields _ k is.parts)
bind_items s bound b o k is = absurd is

-- after a bind order
pub binds_closed : (s : Setting) (binds : List BindingId) (bound : List ℕ) → IsClosed s bound → AreReadyBinds s bound binds → IsClosed s (bound_by bound binds)
binds_closed s [] bound k h = k
binds_closed s (b ∷ binds) bound k h =
    binds_closed s binds (bound ++ b.0 ∷ []) (more_closed s bound b k (more_items s bound b (at (paths_in s) b) (bind_items s bound b (slice_get s.bindings b.0) k h.0))) h.1

-- ---- within arms and loops

-- the parts of a source hold the items that it holds
abbrev PartItems : Setting → BindingId → (ℕ → Binding) → Type 1
PartItems s source part = (P : Path → Type 0) → ItemsAre P (at (paths_in s) source) → (j : ℕ) (b : BindingId) → slice_get s.bindings b.0 ≡ Some (part j) → ItemsAre P (at (paths_in s) b)

parts_closed : (s : Setting) (source : BindingId) (part : ℕ → Binding) (i : ℕ) (places : List (Option BindingId)) (bound : List ℕ) → PartItems s source part → ItemsAre (IsBoundPath s bound) (at (paths_in s) source) → AreParts s part i places → IsClosed s bound → IsClosed s (bound_within bound places)
parts_closed s source part i [] bound each items h k = k
parts_closed s source part i (None ∷ places) bound each items h k = parts_closed s source part (suc i) places bound each items h.1 k
parts_closed s source part i (Some b ∷ places) bound each items h k =
    let more = more_items s bound b (at (paths_in s) source) items in
    parts_closed s source part (suc i) places (bound ++ b.0 ∷ []) each more h.1 (more_closed s bound b k (each (IsBoundPath s (bound ++ b.0 ∷ [])) more i b h.0))

part_items : (s : Setting) (source b : BindingId) (x : Binding) (over : Path → Path) (P : Path → Type 0) → slice_get s.bindings b.0 ≡ Some x → at (paths_in s) b ≡ over (at (take b.0 (paths_in s)) source) → ((p : Path) → ItemsAre P p → ItemsAre P (over p)) → ItemsAre P (at (paths_in s) source) → ItemsAre P (at (paths_in s) b)
part_items s source b x over P e path h items = subst (ItemsAre P) (sym path) (h (at (take b.0 (paths_in s)) source) (first_items_are (paths_in s) b.0 source.0 P items))

pub within_closed : (s : Setting) (bound : List ℕ) (source : BindingId) (c : Constraint) (places : List (Option BindingId)) → ItemsAre (IsBoundPath s bound) (at (paths_in s) source) → ArePlacesOf s source c places → IsClosed s bound → IsClosed s (bound_within bound places)
within_closed s bound source (constraint.Variant ty variant) places items h k =
    parts_closed s source (λ i. binding.MatchVariant source variant (record { 0 = i })) 0 places bound
    (λ P is j b e. part_items s source b (binding.MatchVariant source variant (record { 0 = j })) (VariantField variant j) P e (at_before s.bindings b (binding.MatchVariant source variant (record { 0 = j })) e) (λ p x. x) is) items h.1 k
within_closed s bound source (constraint.Struct ty) places items h k =
    parts_closed s source (λ i. binding.ExtractStruct source (record { 0 = i })) 0 places bound
    (λ P is j b e. part_items s source b (binding.ExtractStruct source (record { 0 = j })) (StructField j) P e (at_before s.bindings b (binding.ExtractStruct source (record { 0 = j })) e) (λ p x. x) is) items h.1 k
within_closed s bound source constraint.Some places items h k =
    parts_closed s source (λ i. binding.MatchSome source) 0 places bound (λ P is j b e. part_items s source b (binding.MatchSome source) Inner P e (at_before s.bindings b (binding.MatchSome source) e) (λ p x. x) is) items h.1 k
within_closed s bound source (constraint.ConstBool val) places items h k = subst (λ ps. IsClosed s (bound_within bound ps)) (sym h) k
within_closed s bound source (constraint.ConstInt val ty) places items h k = subst (λ ps. IsClosed s (bound_within bound ps)) (sym h) k
within_closed s bound source (constraint.ConstPrim val) places items h k = subst (λ ps. IsClosed s (bound_within bound ps)) (sym h) k

-- inside a loop, whose list is bound
pub loop_closed : (s : Setting) (bound : List ℕ) (result source : BindingId) → at (paths_in s) result ≡ Chosen (at (paths_in s) source) → is_bound bound source ≡ true → IsClosed s bound → IsClosed s (bound ++ result.0 ∷ [])
loop_closed s bound result source path there k =
    more_closed s bound result k
    (subst (ItemsAre (IsBoundPath s (bound ++ result.0 ∷ []))) (sym path) (record { of = result; bound' = last_bound bound result; is = path }, more_items s bound result (at (paths_in s) source) (k.by source there)))

-- what is bound before a loop holds none of its items
pub none_of_it : (s : Setting) (bound : List ℕ) (result c : BindingId) (x : IsNewItem s bound result) → IsClosed s bound → is_bound bound c ≡ true → ItemsAre (λ q. q ≡ Chosen (at (paths_in s) x.source) → ⊥) (at (paths_in s) c)
none_of_it s bound result c x k e =
    items_mean (at (paths_in s) c) (IsBoundPath s bound) (λ q. q ≡ Chosen (at (paths_in s) x.source) → ⊥) (λ q h same. x.new h.of (contained bound h.of.0 h.bound') (h.is ∙ same ∙ sym x.path)) (k.by c e)

-- ---- completed blocks

-- a made value is no item
no_item : (p q : Path) → IsLocalPath p → p ≡ Chosen q → ⊥
no_item p q h e = subst IsLocalPath e h

new_still : (s : Setting) (bound more : List ℕ) (result : BindingId) → Adds s bound more → IsNewItem s bound result → IsNewItem s more result
new_still s bound more result a x = record {
  source = x.source;
  is = x.is;
  path = x.path;
  new = λ b c same. one b (is_bound bound b) refl (found more b.0 c) same;
}
  where
    one : (b : BindingId) (y : Bool) → is_bound bound b ≡ y → is_bound more b ≡ true → at (paths_in s) b ≡ at (paths_in s) result → ⊥
    one b true e f same = x.new b (contained bound b.0 e) same
    one b false e f same = no_item (at (paths_in s) b) (at (paths_in s) x.source) (local_path s b (a.only b e f)) (same ∙ x.path)

mutual
  pub completed_new : (b : Block) (s : Setting) (bound more : List ℕ) → Adds s bound more → HasNewItemsFrom s bound b → HasNewItemsFrom s more (completed s more b)
  completed_new Stop s bound more a h = tt
  completed_new (Step binds c rest) s bound more a h =
      let inner = bound_by more (step_binds s more binds c) in
      let after = adds_step s binds c bound more a in
      (control_new c s (bound_by bound binds) inner after h.0, completed_new rest s (bound_by bound binds) inner after h.1)

  control_new : (c : Control) (s : Setting) (bound more : List ℕ) → Adds s bound more → ControlNewItems s bound c → ControlNewItems s more (completed_control s more c)
  control_new (Match source arms) s bound more a h = arms_new arms s bound more a h
  control_new (Equal x y body) s bound more a h = completed_new body s bound more a h
  control_new (Loop result body) s bound more a h = (new_still s bound more result a h.0, completed_new body s (bound ++ result.0 ∷ []) (more ++ result.0 ∷ []) (adds_both s bound more result a) h.1)
  control_new (Return pos result) s bound more a h = tt

  arms_new : (arms : Arms) (s : Setting) (bound more : List ℕ) → Adds s bound more → ArmsNewItems s bound arms → ArmsNewItems s more (completed_arms s more arms)
  arms_new NoArm s bound more a h = tt
  arms_new (Arm c places body arms) s bound more a h =
      (completed_new body s (bound_within bound places) (bound_within more places) (adds_within s places bound more a) h.0, arms_new arms s bound more a h.1)
