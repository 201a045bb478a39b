-- What the statements of a block read is there, and holds what is asked of it.
use Rattle.std.proofs.Common.{◌≡◌, ℕ, suc, List, [], ◌∷◌, ◌++◌, length, take, Bool, true, false, Option, Some, None, slice_get, refl, sym, subst, append_assoc, ap}
use Rattle.std.specs.Prelude.{IsSome, IsTrue}
use Rattle.std.proofs.lemmas.List.{append-nil}
use Rattle.isle_core.specs.declared.types.ReturnKind.{ReturnKind}
use Rattle.isle_core.specs.declared.types.ReturnKind.TheVariants as return_kind
use Rattle.isle_core.specs.declared.BindingId.{BindingId}
use Rattle.isle_core.specs.declared.Sym.{Sym}
use Rattle.isle_core.specs.declared.TypeId.{TypeId}
use Rattle.isle_core.specs.declared.rule_sets.Binding.{Binding}
use Rattle.isle_core.specs.declared.rule_sets.Binding.TheVariants as binding
use Rattle.isle_core.specs.declared.rule_sets.Constraint.{Constraint}
use Rattle.isle_core.specs.declared.rule_sets.Constraint.TheVariants as constraint
use Rattle.isle_core.specs.ArmPlaces.{AreParts, ArePlacesOf, bound_within}
use Rattle.isle_core.specs.Calling.{kind_of}
use Rattle.isle_core.specs.ConstraintType.{IsConstraintOf}
use Rattle.isle_core.specs.Form.{form}
use Rattle.isle_core.specs.HasType.{typed_fields}
use Rattle.isle_core.specs.Path.{VariantField, StructField, Inner, at, Chosen, Path}
use Rattle.isle_core.specs.Block as block
use Rattle.isle_core.specs.Block.{Block, Stop, Step, Control, Arms, Arm, NoArm}
use Rattle.isle_core.specs.BlockLawful.{Source, AValue, AnOption, IsConstraintOver}
use Rattle.isle_core.specs.Bindable.{bound_by}
use Rattle.isle_core.specs.PathType.{IsPathOf, IsTupleOf, IsOptionOf, IsListOf}
use Rattle.isle_core.specs.Rule.{Environment}
use Rattle.isle_core.specs.Setting.{Setting, paths_in, gives_several}
use Rattle.isle_core.proofs.BindingPaths.{HasParts, at_before, path_at, typed_parts, option_parts, list_parts, tuple_parts}
use Rattle.isle_tree.specs.declared.holds.Holds.{Holds}
use Rattle.isle_tree.specs.declared.holds.Holds.TheVariants as holds
use Rattle.isle_tree.specs.declared.holds.Item.TheVariants as item
use Rattle.isle_tree.specs.declared.tree.Operand.{Operand}
use Rattle.isle_tree.specs.declared.tree.Read.{Read}
use Rattle.isle_tree.specs.declared.tree.Read.TheVariants as read
use Rattle.isle_tree.specs.declared.tree.TBind.{TBind}
use Rattle.isle_tree.specs.declared.tree.TPat.{TPat}
use Rattle.isle_tree.specs.declared.tree.TPat.TheVariants as pattern
use Rattle.isle_tree.specs.Program.{IfLet, Body, Done, Then, Loop}
use Rattle.isle_tree.specs.WellFormed.{Locals, Callables, read_holds, is_value, inner_holds, ReadsPattern, field_locals, inner_locals, pattern_locals, IsBodyScoped, AreArmsScoped, each_holds, local_holds, after_let}
use Rattle.isle_simulation.specs.Manner.{bare_manner}
use Rattle.isle_simulation.specs.Patterns.{bind_before, field_binds, leaves_out, pattern_named, some_pattern, pattern_of}
use Rattle.isle_simulation.specs.References.{is_declared}
use Rattle.isle_simulation.proofs.ArmsRun.{same_binds, IsForm, ArmPattern, arm_pattern}
use Rattle.isle_simulation.proofs.Made.{over_value, over_option, some_made}
use Rattle.isle_simulation.proofs.Ready.{IsReady, IsOptionReady, IsReadyIn, IsReadyFrom, IsReadyControl, AreReadyArms, IsLoopReady}
use Rattle.isle_simulation.proofs.Written.{written_operand, written_read, written_test, written_pattern, written_arm, match_read, told_each, block_body, control_stmt, result_stmt, stop_before, written_list}
use Rattle.isle_simulation.specs.TermFns.{callables_of}
use Rattle.isle_simulation.proofs.CalledTerms.{HasCallees}
use Rattle.isle_simulation.proofs.LetsScoped.{one_value, tested_holds, items, HoldsAs, LocalsHold, none_hold, more_hold, operand_one, operand_option, read_one, is_one, within_holds, lets_scoped}
use Rattle.isle_simulation.specs.Statements.{looped_local, list_local}
use Rattle.isle_simulation.proofs.PathTypes.{one_listed}

-- ---- the places of arms

-- a path that is no tuple's, no option's and no list's
record IsNoOption (s : Setting) (b : BindingId) : Type 0 where
  tuple : (tys : List TypeId) → IsTupleOf s.env s.term (at (paths_in s) b) tys → ⊥
  option : (tys : List TypeId) → IsOptionOf s.env s.term (at (paths_in s) b) tys → ⊥
  list : (tys : List TypeId) → IsListOf s.env s.term (at (paths_in s) b) tys → ⊥

places_hold : (s : Setting) (part : ℕ → Binding) (i : ℕ) (fields : List (List ℕ × TypeId)) (places : List (Option BindingId)) (bound : List ℕ) (locals : Locals) (binds : List TBind) → ((j : ℕ) (b : BindingId) → slice_get s.bindings b.0 ≡ Some (part j) → IsNoOption s b)
    → field_binds s.env fields places ≡ Some binds → AreParts s part i places → LocalsHold s bound locals → LocalsHold s (bound_within bound places) (locals ++ field_locals binds)
places_hold s part i fields [] bound locals binds none e k l = subst (λ bs. LocalsHold s bound (locals ++ field_locals bs)) (same_binds [] binds e) (subst (LocalsHold s bound) (sym (append-nil locals)) l)
places_hold s part i [] (p ∷ places) bound locals binds none e k l = cc
places_hold s part i (f ∷ fields) (None ∷ places) bound locals binds none e k l = places_hold s part (suc i) fields places bound locals binds none e k.1 l
places_hold s part i (f ∷ fields) (Some b ∷ places) bound locals binds none e k l =
    one (field_binds s.env fields places) refl e (λ rest r. places_hold s part (suc i) fields places (bound ++ b.0 ∷ []) (locals ++ (b.0, holds.One item.Value) ∷ []) rest none r k.1
    (more_hold s bound locals b (holds.One item.Value) l (record { value = λ ty h. refl; tuple = λ tys h. absurd ((none i b k.0).tuple tys h); option = λ tys h. absurd ((none i b k.0).option tys h); list = λ tys h. absurd ((none i b k.0).list tys h) })))
  where
    here : TBind
    here = record { field = f.0; by_ref = is_declared s.env f.1; local = b.0 }

    inner : List ℕ
    inner = bound_within (bound ++ b.0 ∷ []) places

    one : (o : Option (List TBind)) → field_binds s.env fields places ≡ o → bind_before here o ≡ Some binds → ((rest : List TBind) → field_binds s.env fields places ≡ Some rest → LocalsHold s inner ((locals ++ (b.0, holds.One item.Value) ∷ []) ++ field_locals rest))
        → LocalsHold s inner (locals ++ field_locals binds)
    one None r e' h = cc
    one (Some rest) r e' h =
        subst (λ bs. LocalsHold s inner (locals ++ field_locals bs)) (same_binds (here ∷ rest) binds e') (subst (LocalsHold s inner) (append_assoc locals ((b.0, holds.One item.Value) ∷ []) (field_locals rest)) (h rest r))

-- a field is none
variant_none : (s : Setting) (source : BindingId) (variant : _) (j : ℕ) (b : BindingId) → slice_get s.bindings b.0 ≡ Some (binding.MatchVariant source variant (record { 0 = j })) → IsNoOption s b
variant_none s source variant j b e = record { tuple = λ tys h. none (subst (λ p. IsTupleOf s.env s.term p tys) path h); option = λ tys h. none (subst (λ p. IsOptionOf s.env s.term p tys) path h); list = λ tys h. none (subst (λ p. IsListOf s.env s.term p tys) path h) }
  where
    path : at (paths_in s) b ≡ VariantField variant j (at (take b.0 (paths_in s)) source)
    path = at_before s.bindings b (binding.MatchVariant source variant (record { 0 = j })) e

    none : ⊥ → ⊥
    none x = x

struct_none : (s : Setting) (source : BindingId) (j : ℕ) (b : BindingId) → slice_get s.bindings b.0 ≡ Some (binding.ExtractStruct source (record { 0 = j })) → IsNoOption s b
struct_none s source j b e = record { tuple = λ tys h. none (subst (λ p. IsTupleOf s.env s.term p tys) path h); option = λ tys h. none (subst (λ p. IsOptionOf s.env s.term p tys) path h); list = λ tys h. none (subst (λ p. IsListOf s.env s.term p tys) path h) }
  where
    path : at (paths_in s) b ≡ StructField j (at (take b.0 (paths_in s)) source)
    path = at_before s.bindings b (binding.ExtractStruct source (record { 0 = j })) e

    none : ⊥ → ⊥
    none x = x

form_hold : (s : Setting) (source : BindingId) (ty : TypeId) (c : Constraint) (places : List (Option BindingId)) (bound : List ℕ) (locals : Locals) (p : ArmPattern s.env c places) → ArePlacesOf s source c places → IsForm c → LocalsHold s bound locals
    → LocalsHold s (bound_within bound places) (locals ++ field_locals p.binds)
form_hold s source ty (constraint.Variant of variant) places bound locals p k is l =
    places_hold s (λ i. binding.MatchVariant source variant (record { 0 = i })) 0 (typed_fields s.env p.f.fields) places bound locals p.binds (λ j b e. variant_none s source variant j b e) p.spelled k.1 l
form_hold s source ty (constraint.Struct of) places bound locals p k is l =
    places_hold s (λ i. binding.ExtractStruct source (record { 0 = i })) 0 (typed_fields s.env p.f.fields) places bound locals p.binds (λ j b e. struct_none s source j b e) p.spelled k.1 l
form_hold s source ty c places bound locals p k is l = absurd is

same_local : (a b : Option ℕ) → Some (pattern.Some a) ≡ Some (pattern.Some b) → a ≡ b
same_local a b e = cc

-- the place of an option binds what is within
some_hold : (s : Setting) (source : BindingId) (tys : List TypeId) (places : List (Option BindingId)) (bound : List ℕ) (locals : Locals) (local : Option ℕ) → some_pattern places ≡ Some (pattern.Some local) → IsOptionOf s.env s.term (at (paths_in s) source) tys
    → ArePlacesOf s source constraint.Some places → LocalsHold s bound locals → LocalsHold s (bound_within bound places) (locals ++ inner_locals local (Some (holds.One (items s.env tys))))
some_hold s source tys [] bound locals local e of k l = subst (λ x. LocalsHold s bound (locals ++ inner_locals x (Some (holds.One (items s.env tys))))) (same_local None local e) (subst (LocalsHold s bound) (sym (append-nil locals)) l)
some_hold s source tys (None ∷ []) bound locals local e of k l = subst (λ x. LocalsHold s bound (locals ++ inner_locals x (Some (holds.One (items s.env tys))))) (same_local None local e) (subst (LocalsHold s bound) (sym (append-nil locals)) l)
some_hold s source tys (Some b ∷ []) bound locals local e of k l =
    subst (λ x. LocalsHold s (bound ++ b.0 ∷ []) (locals ++ inner_locals x (Some (holds.One (items s.env tys))))) (same_local (Some b.0) local e) (more_hold s bound locals b (holds.One (items s.env tys)) l (record {
      value = λ ty h. (within (typed_parts s.env s.term (at (paths_in s) b) ty h)).value ty (subst (λ q. IsPathOf s.env s.term q ty) (path (typed_parts s.env s.term (at (paths_in s) b) ty h)) h);
      tuple = λ tys' h. (within (tuple_parts s.env s.term (at (paths_in s) b) tys' h)).tuple tys' (subst (λ q. IsTupleOf s.env s.term q tys') (path (tuple_parts s.env s.term (at (paths_in s) b) tys' h)) h);
      option = λ tys' h. (within (option_parts s.env s.term (at (paths_in s) b) tys' h)).option tys' (subst (λ q. IsOptionOf s.env s.term q tys') (path (option_parts s.env s.term (at (paths_in s) b) tys' h)) h);
      list = λ tys' h. (within (list_parts s.env s.term (at (paths_in s) b) tys' h)).list tys' (subst (λ q. IsListOf s.env s.term q tys') (path (list_parts s.env s.term (at (paths_in s) b) tys' h)) h);
    }))
  where
    path : HasParts (at (paths_in s) b) → at (paths_in s) b ≡ Inner (at (paths_in s) source)
    path parts = path_at s.bindings b (binding.MatchSome source) k.1.0 parts

    within : HasParts (at (paths_in s) b) → HoldsAs s.env s.term (Inner (at (paths_in s) source)) (Some (holds.One (items s.env tys)))
    within parts = within_holds s (at (paths_in s) source) tys of
some_hold s source tys (p ∷ q ∷ places) bound locals local e of k l = cc

named_pattern : (env : Environment) (ty : Sym) (variant : Option Sym) (more : Bool) (binds : List TBind) (h : Option Holds) → IsTrue (is_value h) → ReadsPattern (pattern_named env ty variant more binds) h × (pattern_locals (pattern_named env ty variant more binds) h ≡ field_locals binds)
named_pattern env ty (Some variant) more binds h k = (k, refl)
named_pattern env ty None more binds h k = (k, refl)

-- ---- blocks

result_scoped : (kind : ReturnKind) (r : Read) (fns : Callables) (params : ℕ) (locals : Locals) (ss : Body) → read_holds params locals r ≡ one_value → IsBodyScoped fns kind params locals ss → IsBodyScoped fns kind params locals (Then (result_stmt kind r) ss)
result_scoped return_kind.Plain r fns params locals ss e h = (rw e tt, h)
result_scoped return_kind.Option r fns params locals ss e h = (rw e tt, h)
result_scoped return_kind.Iterator r fns params locals ss e h = (is_one _ e, h)

stop_scoped : (limit : ℕ) (several : Bool) (c : Control) (fns : Callables) (kind : ReturnKind) (params : ℕ) (locals : Locals) (after : Body) → IsBodyScoped fns kind params locals after → IsBodyScoped fns kind params locals (stop_before (bare_manner limit) several c after)
stop_scoped limit true (block.Return pos result) fns kind params locals after h = (tt, h)
stop_scoped limit true (block.Match source arms) fns kind params locals after h = h
stop_scoped limit true (block.Equal a b body) fns kind params locals after h = h
stop_scoped limit true (block.Loop result body) fns kind params locals after h = h
stop_scoped limit false c fns kind params locals after h = h

-- an item of a list holds its results
item_holds : (s : Setting) (p : Path) (tys : List TypeId) → IsListOf s.env s.term p tys → HoldsAs s.env s.term (Chosen p) (Some (holds.One (items s.env tys)))
item_holds s p tys of = record {
  value = λ ty h. ap (λ (xs : List TypeId). Some (holds.One (items s.env xs))) (one_listed s.env s.term p tys (ty ∷ []) of h);
  tuple = λ tys' h. ap (λ (xs : List TypeId). Some (holds.One (items s.env xs))) (one_listed s.env s.term p tys tys' of h.1);
  option = λ tys' h. absurd h;
  list = λ tys' h. absurd h;
}

-- so that of a loop
loop_holds : (s : Setting) (bound : List ℕ) (result : BindingId) (k : IsLoopReady s bound result) → HoldsAs s.env s.term (at (paths_in s) result) (Some (holds.One (items s.env k.tys)))
loop_holds s bound result k = record {
  value = λ ty h. let p = path (typed_parts s.env s.term (at (paths_in s) result) ty h) in here.value ty (subst (λ q. IsPathOf s.env s.term q ty) p h);
  tuple = λ tys h. let p = path (tuple_parts s.env s.term (at (paths_in s) result) tys h) in here.tuple tys (subst (λ q. IsTupleOf s.env s.term q tys) p h);
  option = λ tys h. let p = path (option_parts s.env s.term (at (paths_in s) result) tys h) in here.option tys (subst (λ q. IsOptionOf s.env s.term q tys) p h);
  list = λ tys h. let p = path (list_parts s.env s.term (at (paths_in s) result) tys h) in here.list tys (subst (λ q. IsListOf s.env s.term q tys) p h);
}
  where
    path : HasParts (at (paths_in s) result) → at (paths_in s) result ≡ Chosen (at (paths_in s) k.source)
    path parts = path_at s.bindings result (binding.Iterator k.source) k.is parts

    here : HoldsAs s.env s.term (Chosen (at (paths_in s) k.source)) (Some (holds.One (items s.env k.tys)))
    here = item_holds s (at (paths_in s) k.source) k.tys k.list

-- a loop over a list that is there
loop_scoped : (s : Setting) (bound : List ℕ) (locals : Locals) (result : BindingId) (inside ss : Body) (k : IsLoopReady s bound result) → LocalsHold s bound locals
    → ((after : Locals) → LocalsHold s (bound ++ result.0 ∷ []) after → IsBodyScoped (callables_of s.env) (kind_of s.term.kind) (length s.term.arg_tys) after inside)
    → IsBodyScoped (callables_of s.env) (kind_of s.term.kind) (length s.term.arg_tys) locals ss
    → IsBodyScoped (callables_of s.env) (kind_of s.term.kind) (length s.term.arg_tys) locals (Then (Loop (written_list (looped_local s result)) result.0 inside) ss)
loop_scoped s bound locals result inside ss k l h rest =
    let held : local_holds locals k.source.0 ≡ Some (holds.Several (items s.env k.tys)) = (l.by k.source k.bound').list k.tys k.list in
    subst (λ o. IsBodyScoped (callables_of s.env) (kind_of s.term.kind) (length s.term.arg_tys) locals (Then (Loop (written_list (list_local o)) result.0 inside) ss)) (sym k.is) (
      (
        subst (λ x. IsSome (each_holds x)) (sym held) refl,
        subst (λ x. IsBodyScoped (callables_of s.env) (kind_of s.term.kind) (length s.term.arg_tys) (after_let (each_holds x) result.0 locals) inside) (sym held)
            (h (locals ++ (result.0, holds.One (items s.env k.tys)) ∷ []) (more_hold s bound locals result (holds.One (items s.env k.tys)) l (loop_holds s bound result k))),
      ),
      rest,
    )

-- the body of an arm that tests whether an option is something
some_scoped : (s : Setting) (bound : List ℕ) (locals : Locals) (source : BindingId) (tys : List TypeId) (places : List (Option BindingId)) (inside ss : Body) → LocalsHold s bound locals → IsOptionReady s bound source tys → ArePlacesOf s source constraint.Some places
    → ((after : Locals) → LocalsHold s (bound_within bound places) after → IsBodyScoped (callables_of s.env) (kind_of s.term.kind) (length s.term.arg_tys) after inside)
    → IsBodyScoped (callables_of s.env) (kind_of s.term.kind) (length s.term.arg_tys) locals ss
    → IsBodyScoped (callables_of s.env) (kind_of s.term.kind) (length s.term.arg_tys) locals (Then (IfLet (written_pattern (some_pattern places)) (read.Plain (written_operand s bound source)) inside) ss)
some_scoped s bound locals source tys places inside ss l ready parts h rest =
    let p = some_made places parts.0 in
    let held = operand_option s bound locals source tys l ready in
    subst (λ o. IsBodyScoped (callables_of s.env) (kind_of s.term.kind) (length s.term.arg_tys) locals (Then (IfLet (written_pattern o) (read.Plain (written_operand s bound source)) inside) ss)) (sym p.1) (
      (
        subst (λ x. IsSome (inner_holds x)) (sym held) refl,
        subst (λ x. IsBodyScoped (callables_of s.env) (kind_of s.term.kind) (length s.term.arg_tys) (locals ++ inner_locals p.0 (inner_holds x)) inside) (sym held)
            (h (locals ++ inner_locals p.0 (Some (holds.One (items s.env tys)))) (some_hold s source tys places bound locals p.0 p.1 ready.path parts l)),
      ),
      rest,
    )

-- the body of an arm that tests by a pattern of a variant or a struct
form_scoped : (s : Setting) (bound : List ℕ) (locals : Locals) (source : BindingId) (ty : TypeId) (c : Constraint) (places : List (Option BindingId)) (inside ss : Body) → LocalsHold s bound locals → IsReady s bound source ty → IsConstraintOf s.env c ty → ArePlacesOf s source c places → IsForm c
    → ((after : Locals) → LocalsHold s (bound_within bound places) after → IsBodyScoped (callables_of s.env) (kind_of s.term.kind) (length s.term.arg_tys) after inside)
    → IsBodyScoped (callables_of s.env) (kind_of s.term.kind) (length s.term.arg_tys) locals ss
    → IsBodyScoped (callables_of s.env) (kind_of s.term.kind) (length s.term.arg_tys) locals (Then (IfLet (written_pattern (pattern_of s.env c places)) (written_read s bound true source) inside) ss)
form_scoped s bound locals source ty c places inside ss l ready is parts form h rest =
    let p = arm_pattern s source ty c places is parts form in
    let held = read_holds (length s.term.arg_tys) locals (written_read s bound true source) in
    let value = is_one held (read_one s bound locals true source ty l ready) in
    let k = named_pattern s.env p.f.ty p.f.variant (leaves_out (typed_fields s.env p.f.fields) places) p.binds held value in
    subst (λ o. IsBodyScoped (callables_of s.env) (kind_of s.term.kind) (length s.term.arg_tys) locals (Then (IfLet (written_pattern o) (written_read s bound true source) inside) ss)) (sym p.is) (
      (k.0, subst (λ more. IsBodyScoped (callables_of s.env) (kind_of s.term.kind) (length s.term.arg_tys) (locals ++ more) inside) (sym k.1) (h (locals ++ field_locals p.binds) (form_hold s source ty c places bound locals p parts form l))),
      rest,
    )

within_hold : (s : Setting) (bound : List ℕ) (places : List (Option BindingId)) (locals : Locals) → places ≡ [] → LocalsHold s bound locals → LocalsHold s (bound_within bound places) locals
within_hold s bound places locals e l = subst (λ ps. LocalsHold s (bound_within bound ps) locals) (sym e) l

-- what a match over such reads holds
abbrev HoldsOver : Setting → Source → Option Holds → Type 0
HoldsOver s (AValue ty) held = held ≡ one_value
HoldsOver s (AnOption tys) held = held ≡ Some (holds.Optional (items s.env tys))

match_holds : (s : Setting) (bound : List ℕ) (locals : Locals) (source : BindingId) (over : Source) (c : Constraint) → LocalsHold s bound locals → IsReadyIn s bound source over → IsConstraintOver s.env c over
    → HoldsOver s over (read_holds (length s.term.arg_tys) locals (match_read s bound source c))
match_holds s bound locals source (AValue ty) (constraint.ConstBool val) l ready is = operand_one s bound locals source ty l ready
match_holds s bound locals source (AValue ty) (constraint.ConstInt val of) l ready is = operand_one s bound locals source ty l ready
match_holds s bound locals source (AValue ty) (constraint.ConstPrim val) l ready is = operand_one s bound locals source ty l ready
match_holds s bound locals source (AValue ty) (constraint.Variant of variant) l ready is = read_one s bound locals true source ty l ready
match_holds s bound locals source (AValue ty) (constraint.Struct of) l ready is = read_one s bound locals true source ty l ready
match_holds s bound locals source (AValue ty) constraint.Some l ready is = absurd is
match_holds s bound locals source (AnOption tys) constraint.Some l ready is = operand_option s bound locals source tys l ready
match_holds s bound locals source (AnOption tys) (constraint.ConstBool val) l ready is = cc
match_holds s bound locals source (AnOption tys) (constraint.ConstInt val of) l ready is = cc
match_holds s bound locals source (AnOption tys) (constraint.ConstPrim val) l ready is = cc
match_holds s bound locals source (AnOption tys) (constraint.Variant of variant) l ready is = cc
match_holds s bound locals source (AnOption tys) (constraint.Struct of) l ready is = cc

-- the pattern may be read over what holds this, and what it binds is there within
abbrev IsArmScoped : Setting → List ℕ → Locals → List (Option BindingId) → TPat → Option Holds → Type 0
IsArmScoped s bound locals places pat held = ReadsPattern pat held × LocalsHold s (bound_within bound places) (locals ++ pattern_locals pat held)

constant_arm : (s : Setting) (bound : List ℕ) (locals : Locals) (places : List (Option BindingId)) (o : Operand) (held : Option Holds) → LocalsHold s bound locals → held ≡ one_value → places ≡ [] → IsArmScoped s bound locals places (pattern.Const o) held
constant_arm s bound locals places o held l e none = (is_one held e, subst (LocalsHold s (bound_within bound places)) (sym (append-nil locals)) (within_hold s bound places locals none l))

form_arm : (s : Setting) (bound : List ℕ) (locals : Locals) (source : BindingId) (ty : TypeId) (c : Constraint) (places : List (Option BindingId)) (held : Option Holds) → LocalsHold s bound locals → held ≡ one_value → IsConstraintOf s.env c ty → ArePlacesOf s source c places → IsForm c
    → IsArmScoped s bound locals places (written_pattern (pattern_of s.env c places)) held
form_arm s bound locals source ty c places held l e is parts form =
    let p = arm_pattern s source ty c places is parts form in
    let k = named_pattern s.env p.f.ty p.f.variant (leaves_out (typed_fields s.env p.f.fields) places) p.binds held (is_one held e) in
    subst (λ o. IsArmScoped s bound locals places (written_pattern o) held) (sym p.is)
    (k.0, subst (λ more. LocalsHold s (bound_within bound places) (locals ++ more)) (sym k.1) (form_hold s source ty c places bound locals p parts form l))

some_arm : (s : Setting) (bound : List ℕ) (locals : Locals) (source : BindingId) (tys : List TypeId) (places : List (Option BindingId)) (held : Option Holds) → LocalsHold s bound locals → IsOptionReady s bound source tys → held ≡ Some (holds.Optional (items s.env tys)) → ArePlacesOf s source constraint.Some places
    → IsArmScoped s bound locals places (written_pattern (some_pattern places)) held
some_arm s bound locals source tys places held l ready e parts =
    let p = some_made places parts.0 in
    subst (λ o. IsArmScoped s bound locals places (written_pattern o) held) (sym p.1) (
      subst (λ x. IsSome (inner_holds x)) (sym e) refl,
      subst (λ x. LocalsHold s (bound_within bound places) (locals ++ inner_locals p.0 (inner_holds x))) (sym e) (some_hold s source tys places bound locals p.0 p.1 ready.path parts l),
    )

-- so of one of several arms
arm_scoped : (s : Setting) (bound : List ℕ) (locals : Locals) (source : BindingId) (over : Source) (c : Constraint) (places : List (Option BindingId)) (held : Option Holds) → LocalsHold s bound locals → IsReadyIn s bound source over → HoldsOver s over held
    → IsConstraintOver s.env c over → ArePlacesOf s source c places → IsArmScoped s bound locals places (written_arm s.env c places) held
arm_scoped s bound locals source (AValue ty) (constraint.ConstBool val) places held l ready e is parts = constant_arm s bound locals places (written_test s.env (constraint.ConstBool val)) held l e parts
arm_scoped s bound locals source (AValue ty) (constraint.ConstInt val of) places held l ready e is parts = constant_arm s bound locals places (written_test s.env (constraint.ConstInt val of)) held l e parts
arm_scoped s bound locals source (AValue ty) (constraint.ConstPrim val) places held l ready e is parts = constant_arm s bound locals places (written_test s.env (constraint.ConstPrim val)) held l e parts
arm_scoped s bound locals source (AValue ty) (constraint.Variant of variant) places held l ready e is parts = form_arm s bound locals source ty (constraint.Variant of variant) places held l e is parts tt
arm_scoped s bound locals source (AValue ty) (constraint.Struct of) places held l ready e is parts = form_arm s bound locals source ty (constraint.Struct of) places held l e is parts tt
arm_scoped s bound locals source (AValue ty) constraint.Some places held l ready e is parts = absurd is
arm_scoped s bound locals source (AnOption tys) constraint.Some places held l ready e is parts = some_arm s bound locals source tys places held l ready e parts
arm_scoped s bound locals source (AnOption tys) (constraint.ConstBool val) places held l ready e is parts = cc
arm_scoped s bound locals source (AnOption tys) (constraint.ConstInt val of) places held l ready e is parts = cc
arm_scoped s bound locals source (AnOption tys) (constraint.ConstPrim val) places held l ready e is parts = cc
arm_scoped s bound locals source (AnOption tys) (constraint.Variant of variant) places held l ready e is parts = cc
arm_scoped s bound locals source (AnOption tys) (constraint.Struct of) places held l ready e is parts = cc

module _ (limit : ℕ) where
  mutual
    -- what a block reads, if what follows reads what is there whatever is bound
    block_scoped : (b : Block) (s : Setting) (bound made : List ℕ) (locals : Locals) (end : Body) → HasCallees s.env → LocalsHold s bound locals → IsReadyFrom s bound made b
        → ((after : Locals) → IsBodyScoped (callables_of s.env) (kind_of s.term.kind) (length s.term.arg_tys) after end)
        → IsBodyScoped (callables_of s.env) (kind_of s.term.kind) (length s.term.arg_tys) locals (block_body limit s bound b end)
    block_scoped Stop s bound made locals end names l k h = h locals
    block_scoped (Step binds c more) s bound made locals end names l k h =
        let rest = block_body limit s (bound_by bound binds) more end in
        lets_scoped s bound locals binds (Then (control_stmt limit s (bound_by bound binds) c) (stop_before (bare_manner limit) (gives_several s) c rest)) names l k.0
        (λ after held. control_scoped c s (bound_by bound binds) _ after (stop_before (bare_manner limit) (gives_several s) c rest) names held k.2
        (stop_scoped limit (gives_several s) c (callables_of s.env) (kind_of s.term.kind) (length s.term.arg_tys) after rest (block_scoped more s (bound_by bound binds) _ after end names held k.3 h)))

    control_scoped : (c : Control) (s : Setting) (bound made : List ℕ) (locals : Locals) (ss : Body) → HasCallees s.env → LocalsHold s bound locals → IsReadyControl s bound made c
        → IsBodyScoped (callables_of s.env) (kind_of s.term.kind) (length s.term.arg_tys) locals ss → IsBodyScoped (callables_of s.env) (kind_of s.term.kind) (length s.term.arg_tys) locals (Then (control_stmt limit s bound c) ss)
    control_scoped (block.Match source (Arm (constraint.ConstBool val) places body NoArm)) s bound made locals ss names l k h =
        let v = over_value s bound source (constraint.ConstBool val) k.1.0 (λ e. cc) k.1.1 k.1.2.0 in (
          (
            is_one _ (operand_one s bound locals source v.ty l v.ready),
            is_one _ (tested_holds s.env (constraint.ConstBool val) (length s.term.arg_tys) locals tt),
            block_scoped body s (bound_within bound places) made locals Done names (within_hold s bound places locals k.1.2.1 l) k.1.2.2 (λ after. tt),
          ),
          h,
        )
    control_scoped (block.Match source (Arm (constraint.ConstInt val of) places body NoArm)) s bound made locals ss names l k h =
        let v = over_value s bound source (constraint.ConstInt val of) k.1.0 (λ e. cc) k.1.1 k.1.2.0 in (
          (
            is_one _ (operand_one s bound locals source v.ty l v.ready),
            is_one _ (tested_holds s.env (constraint.ConstInt val of) (length s.term.arg_tys) locals tt),
            block_scoped body s (bound_within bound places) made locals Done names (within_hold s bound places locals k.1.2.1 l) k.1.2.2 (λ after. tt),
          ),
          h,
        )
    control_scoped (block.Match source (Arm (constraint.ConstPrim val) places body NoArm)) s bound made locals ss names l k h =
        let v = over_value s bound source (constraint.ConstPrim val) k.1.0 (λ e. cc) k.1.1 k.1.2.0 in (
          (
            is_one _ (operand_one s bound locals source v.ty l v.ready),
            is_one _ (tested_holds s.env (constraint.ConstPrim val) (length s.term.arg_tys) locals tt),
            block_scoped body s (bound_within bound places) made locals Done names (within_hold s bound places locals k.1.2.1 l) k.1.2.2 (λ after. tt),
          ),
          h,
        )
    control_scoped (block.Match source (Arm (constraint.Variant of variant) places body NoArm)) s bound made locals ss names l k h =
        let v = over_value s bound source (constraint.Variant of variant) k.1.0 (λ e. cc) k.1.1 k.1.2.0 in
        form_scoped s bound locals source v.ty (constraint.Variant of variant) places (block_body limit s (bound_within bound places) body Done) ss l v.ready v.is k.1.2.1 tt
        (λ after held. block_scoped body s (bound_within bound places) made after Done names held k.1.2.2 (λ last. tt)) h
    control_scoped (block.Match source (Arm (constraint.Struct of) places body NoArm)) s bound made locals ss names l k h =
        let v = over_value s bound source (constraint.Struct of) k.1.0 (λ e. cc) k.1.1 k.1.2.0 in
        form_scoped s bound locals source v.ty (constraint.Struct of) places (block_body limit s (bound_within bound places) body Done) ss l v.ready v.is k.1.2.1 tt
        (λ after held. block_scoped body s (bound_within bound places) made after Done names held k.1.2.2 (λ last. tt)) h
    control_scoped (block.Match source (Arm constraint.Some places body NoArm)) s bound made locals ss names l k h =
        let v = over_option s bound source k.1.0 k.1.1 k.1.2.0 in
        some_scoped s bound locals source v.0 places (block_body limit s (bound_within bound places) body Done) ss l v.1 k.1.2.1
        (λ after held. block_scoped body s (bound_within bound places) made after Done names held k.1.2.2 (λ last. tt)) h
    control_scoped (block.Match source (Arm c places body (Arm d others inside arms))) s bound made locals ss names l k h =
        let held = read_holds (length s.term.arg_tys) locals (match_read s bound source c) in
        (each_scoped (Arm c places body (Arm d others inside arms)) s bound made locals source k.1.0 held names l k.1.1 (match_holds s bound locals source k.1.0 c l k.1.1 k.1.2.0) k.1.2, h)
    control_scoped (block.Match source NoArm) s bound made locals ss names l k h = absurd k.0
    control_scoped (block.Equal x y body) s bound made locals ss names l k h =
        ((is_one _ (operand_one s bound locals x k.0.0 l k.0.1), is_one _ (operand_one s bound locals y k.0.0 l k.0.2), block_scoped body s bound made locals Done names l k.1 (λ after. tt)), h)
    control_scoped (block.Loop result body) s bound made locals ss names l k h =
        loop_scoped s bound locals result (block_body limit s (bound ++ result.0 ∷ []) body Done) ss k.0 l (λ after held. block_scoped body s (bound ++ result.0 ∷ []) made after Done names held k.1 (λ last. tt)) h
    control_scoped (block.Return pos result) s bound made locals ss names l k h =
        result_scoped (kind_of s.term.kind) (written_read s bound false result) (callables_of s.env) (length s.term.arg_tys) locals ss (read_one s bound locals false result s.term.ret_ty l k) h

    -- each of several arms, over what holds this
    each_scoped : (arms : Arms) (s : Setting) (bound made : List ℕ) (locals : Locals) (source : BindingId) (over : Source) (held : Option Holds) → HasCallees s.env → LocalsHold s bound locals → IsReadyIn s bound source over → HoldsOver s over held
        → AreReadyArms s bound made source over arms → AreArmsScoped (callables_of s.env) (kind_of s.term.kind) (length s.term.arg_tys) locals held (told_each (bare_manner limit) s bound arms)
    each_scoped NoArm s bound made locals source over held names l ready e k = tt
    each_scoped (Arm c places body arms) s bound made locals source over held names l ready e k =
        let p = arm_scoped s bound locals source over c places held l ready e k.0 k.1 in
        (p.0, block_scoped body s (bound_within bound places) made (locals ++ pattern_locals (written_arm s.env c places) held) Done names p.1 k.2 (λ after. tt), each_scoped arms s bound made locals source over held names l ready e k.3)

  -- what the block of a function reads
  pub root_scoped : (b : Block) (s : Setting) (end : Body) → HasCallees s.env → IsReadyFrom s [] [] b
      → ((after : Locals) → IsBodyScoped (callables_of s.env) (kind_of s.term.kind) (length s.term.arg_tys) after end)
      → IsBodyScoped (callables_of s.env) (kind_of s.term.kind) (length s.term.arg_tys) [] (block_body limit s [] b end)
  root_scoped b s end names k h = block_scoped b s [] [] [] end names (none_hold s) k h
