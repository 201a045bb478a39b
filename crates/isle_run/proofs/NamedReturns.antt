-- A constant that stands in what a Return of a block gives stands in its function.
use Rattle.std.proofs.Common.{◌≡◌, ◌⊎◌, inl, inr, ⊎_elim, ℕ, zero, suc, List, [], ◌∷◌, ◌++◌, map, take, Bool, true, false, Option, Some, None, refl, sym, ap, ◌∙◌, subst}
use Rattle.std.specs.Prelude.{Contains, slice_get, ◌==◌, ◌||◌, if◌then◌else◌}
use Rattle.std.proofs.lemmas.Bool.Decides.{Decides-eqb}
use Rattle.std.proofs.lemmas.List.Elements.{Contains-append_left, Contains-append_right}
use Rattle.isle_core.specs.declared.options.CodegenOptions.{CodegenOptions}
use Rattle.isle_core.specs.declared.BindingId.{BindingId}
use Rattle.isle_core.specs.declared.Sym.{Sym}
use Rattle.isle_core.specs.declared.TypeId.{TypeId}
use Rattle.isle_core.specs.declared.files.Files.{Files}
use Rattle.isle_core.specs.declared.rule_sets.Binding.{Binding}
use Rattle.isle_core.specs.declared.rule_sets.Binding.TheVariants as binding
use Rattle.isle_core.specs.declared.rule_sets.Constraint.{Constraint}
use Rattle.isle_core.specs.declared.rule_sets.Constraint.TheVariants as constraint
use Rattle.isle_core.specs.declared.rule_sets.FlatRule.{FlatRule}
use Rattle.isle_core.specs.declared.types.ReturnKind.{ReturnKind}
use Rattle.isle_core.specs.declared.types.ReturnKind.TheVariants as return_kind
use Rattle.isle_core.specs.declared.types.Term.{Term}
use Rattle.isle_core.specs.ArmPlaces.{AreParts, ArePlacesOf, bound_within}
use Rattle.isle_core.specs.Bindable.{bound_by}
use Rattle.isle_core.specs.Block as block
use Rattle.isle_core.specs.Block.{Block, Stop, Step, Control}
use Rattle.isle_core.specs.BlockLawful.{IsLawfulBlock, Source, AValue, AnOption}
use Rattle.isle_core.specs.Calling.{calling, extracting, kind_of}
use Rattle.isle_core.specs.Form.{Form, form}
use Rattle.isle_core.specs.HasType.{typed_fields}
use Rattle.isle_core.specs.Making.{MakesVariant, MakesStruct}
use Rattle.isle_core.specs.Path.{Path, Nowhere, Arg, ConstBool, ConstInt, ConstPrim, Extracted, Called, Chosen, MadeVariant, MadeStruct, VariantField, StructField, Wrapped, Inner, Part, Paths, NoPath, APath, at, at_all, path_over, paths_of}
use Rattle.isle_core.specs.Readable.{IsInPlace}
use Rattle.isle_core.specs.Rule.{Environment}
use Rattle.isle_core.specs.Setting.{Setting, setting, gives_several}
use Rattle.isle_core.specs.Terms.{sym_text}
use Rattle.isle_core.proofs.BindingPaths.{IsThere, at_before, taken}
use Rattle.isle_core.proofs.Contained.{contained_cases, head_contained, none_contained}
use Rattle.isle_core.proofs.OptionLaws.{some_same}
use Rattle.isle_tree.specs.declared.tree.Operand.{Operand}
use Rattle.isle_tree.specs.declared.tree.Operand.TheVariants as operand
use Rattle.isle_tree.specs.declared.tree.Read.{Read}
use Rattle.isle_tree.specs.declared.tree.Read.TheVariants as read
use Rattle.isle_tree.specs.declared.tree.TExpr.{TExpr}
use Rattle.isle_tree.specs.declared.tree.TExpr.TheVariants as expr
use Rattle.isle_tree.specs.Program as tree
use Rattle.isle_tree.specs.Program.{Body, Done, Then, Function}
use Rattle.isle_simulation.specs.Completed.{completed, completed_control, completed_arms, step_binds}
use Rattle.isle_simulation.specs.Manner.{Manner, manner_of, has_closure, closed_if, arm_manner}
use Rattle.isle_simulation.specs.Operands.{in_place, is_bound}
use Rattle.isle_simulation.specs.References.{read_as, is_reference_in}
use Rattle.isle_simulation.specs.Statements.{binds_list, local_stmt, made_named}
use Rattle.isle_simulation.specs.Telling.{Telling}
use Rattle.isle_simulation.specs.TermFunction.{tail_in, term_function}
use Rattle.isle_simulation.proofs.CompletedReady.{completed_ready}
use Rattle.isle_simulation.proofs.CompletedRuns.{bound_push}
use Rattle.isle_simulation.proofs.Made.{function_made}
use Rattle.isle_simulation.proofs.Ready.{IsSpelled, IsReady, IsReadyIn, AreReady, IsReadyBind, AreReadyBinds, IsReadyFrom, IsReadyControl, AreReadyArms}
use Rattle.isle_simulation.proofs.Written.{written, callee_of, call_expr, extraction_expr, made_expr, reads, field_reads, arm_body, arm_stmt, bound_expr, bound_stmt, lets, match_read, result_stmt, stop_before, told_before, told_body, told_control, told_each, written_operand, written_read, function_of}
use Rattle.isle_operand_names.specs.Names.{operand_names, read_names, reads_names, fields_names, expr_names, patterns_names, stmt_names, body_names, arms_names}
use Rattle.isle_blocks.specs.AllReturns.{HoldsReturn, DoesReturn, HasReturnWithin}
use Rattle.isle_run.specs.PathConstants.{StandsIn, StandsInAny}

-- ---- lists of names

-- what stands in one of two lists
left : (P : List ℕ → Type 0) (xs ys : List (List ℕ)) → ((x : List ℕ) → Contains (xs ++ ys) x → P x) → (x : List ℕ) → Contains xs x → P x
left P xs ys h x c = h x (Contains-append_left xs ys x c)

right : (P : List ℕ → Type 0) (xs ys : List (List ℕ)) → ((x : List ℕ) → Contains (xs ++ ys) x → P x) → (x : List ℕ) → Contains ys x → P x
right P xs ys h x c = h x (Contains-append_right xs ys x c)

-- ---- the names of reads and of what is computed

read_is : (wanted is : Bool) (o : Operand) → read_names (read_as wanted is o) ≡ operand_names o
read_is true true o = refl
read_is true false o = refl
read_is false true o = refl
read_is false false o = refl

local_is : (often : Bool) (n : ℕ) (e : TExpr) → stmt_names (local_stmt often n e) ≡ expr_names e
local_is false n e = refl
local_is true n (expr.Call borrow call) = refl
local_is true n (expr.Read r) = refl
local_is true n (expr.Variant ty variant fields) = refl
local_is true n (expr.Struct ty fields) = refl
local_is true n (expr.Some r) = refl
local_is true n (expr.Try source as_ref) = refl
local_is true n (expr.Tuple source part) = refl

result_is : (k : ReturnKind) (r : Read) → stmt_names (result_stmt k r) ≡ read_names r
result_is return_kind.Plain r = refl
result_is return_kind.Option r = refl
result_is return_kind.Iterator r = refl

-- ---- paths in which a constant stands

stands_there : (c : Sym) (p : Path) → StandsIn c p → IsThere p
stands_there c Nowhere h = h
stands_there c (Arg i) h = tt
stands_there c (ConstBool ty b) h = tt
stands_there c (ConstInt ty n) h = tt
stands_there c (ConstPrim name) h = tt
stands_there c (Extracted term p) h = tt
stands_there c (Called term ps instance) h = tt
stands_there c (Chosen p) h = tt
stands_there c (MadeVariant ty variant ps) h = tt
stands_there c (MadeStruct ty ps) h = tt
stands_there c (VariantField variant field p) h = tt
stands_there c (StructField field p) h = tt
stands_there c (Wrapped p) h = tt
stands_there c (Inner p) h = tt
stands_there c (Part part p) h = tt

-- a path among those before a place is the one among all
stands_taken : (c : Sym) (ps : List Path) (n : ℕ) (b : BindingId) → StandsIn c (at (take n ps) b) → StandsIn c (at ps b)
stands_taken c ps n b h = subst (StandsIn c) (taken ps n b.0 (stands_there c (at (take n ps) b) h)).1 h

-- ---- locals that are bound

is_in : (locals : List ℕ) (b : BindingId) → Contains locals b.0 → is_bound locals b ≡ true
is_in [] b c = absurd (none_contained b.0 c)
is_in (n ∷ locals) b c = one (n == b.0) refl (contained_cases n locals b.0 c) (λ d. is_in locals b d)
  where
    one : (k : Bool) → (n == b.0) ≡ k → (n ≡ b.0) ⊎ Contains locals b.0 → (Contains locals b.0 → is_bound locals b ≡ true) → (k || is_bound locals b) ≡ true
    one true is h later = refl
    one false is (inl e) later = let same : (n == b.0) ≡ true = (Decides-eqb n b.0).1 e in absurd cc
    one false is (inr d) later = later d

either : (x y : Bool) → (x || y) ≡ true → (x ≡ true) ⊎ (y ≡ true)
either true y e = inl refl
either false y e = inr e

module _ (env : Environment) (t : Term) (bs : List Binding) (N : List ℕ → Type 0) where
  abbrev s : Setting
  s = setting env t bs

  abbrev ps : List Path
  ps = paths_of bs

  -- these names are all so
  abbrev Covers : List (List ℕ) → Type 0
  Covers names = (x : List ℕ) → Contains names x → N x

  -- the constants in a path are
  abbrev IsNamed : Path → Type 0
  IsNamed p = (c : Sym) → StandsIn c p → N (sym_text env c)

  abbrev AnyNamed : Paths → Type 0
  AnyNamed qs = (c : Sym) → StandsInAny c qs → N (sym_text env c)

  -- those in the paths of locals are
  abbrev AreNamed : (locals : List ℕ) → Type 0
  AreNamed locals = (b : BindingId) → is_bound locals b ≡ true → IsNamed (at ps b)

  none_named : AreNamed []
  none_named b e = absurd cc

  one_more : (locals : List ℕ) (b : BindingId) → AreNamed locals → IsNamed (at ps b) → AreNamed (locals ++ b.0 ∷ [])
  one_more locals b named own x e = ⊎_elim
      (λ k. named x k)
      (λ k. subst (λ (n : ℕ). IsNamed (at ps (record { 0 = n }))) ((Decides-eqb b.0 x.0).0 k) own)
      (either (is_bound locals x) (b.0 == x.0) (sym (bound_push locals b x) ∙ e))

  -- ---- what is read

  spelled_named : (n : ℕ) (p : Path) → IsSpelled p → Covers (operand_names (written (in_place env n p))) → IsNamed p
  spelled_named n (ConstPrim name) h covers c e = subst (λ (y : Sym). N (sym_text env y)) e (covers (sym_text env name) (head_contained (sym_text env name) []))
  spelled_named n (Arg i) h covers c e = absurd e
  spelled_named n (ConstBool ty b) h covers c e = absurd e
  spelled_named n (ConstInt ty k) h covers c e = absurd e
  spelled_named n (MadeStruct ty NoPath) h covers c e = absurd e
  spelled_named n (MadeStruct ty (APath p qs)) h covers c e = absurd h
  spelled_named n Nowhere h covers c e = absurd h
  spelled_named n (Extracted term p) h covers c e = absurd h
  spelled_named n (Called term qs instance) h covers c e = absurd h
  spelled_named n (Chosen p) h covers c e = absurd h
  spelled_named n (MadeVariant ty variant qs) h covers c e = absurd h
  spelled_named n (VariantField variant field p) h covers c e = absurd h
  spelled_named n (StructField field p) h covers c e = absurd h
  spelled_named n (Wrapped p) h covers c e = absurd h
  spelled_named n (Inner p) h covers c e = absurd h
  spelled_named n (Part part p) h covers c e = absurd h

  ready_named : (locals : List ℕ) (b : BindingId) (ty : TypeId) → IsReady s locals b ty → AreNamed locals → Covers (operand_names (written_operand s locals b)) → IsNamed (at ps b)
  ready_named locals b ty h named covers = one (is_bound locals b) refl h.place covers
    where
      one : (k : Bool) → is_bound locals b ≡ k → (is_bound locals b ≡ true) ⊎ IsSpelled (at ps b) → Covers (operand_names (written (if k then Some (operand.Local b.0) else in_place env b.0 (at ps b)))) → IsNamed (at ps b)
      one true is place all = named b is
      one false is (inl e) all = absurd cc
      one false is (inr spelled) all = spelled_named b.0 (at ps b) spelled all

  read_named : (locals : List ℕ) (wanted : Bool) (b : BindingId) (ty : TypeId) → IsReady s locals b ty → AreNamed locals → Covers (read_names (written_read s locals wanted b)) → IsNamed (at ps b)
  read_named locals wanted b ty h named covers = ready_named locals b ty h named (subst Covers (read_is wanted (is_reference_in s b) (written_operand s locals b)) covers)

  reads_named : (locals : List ℕ) (more : List BindingId) (tys : List TypeId) → AreReady s locals more tys → AreNamed locals → Covers (reads_names (reads s locals tys more)) → AnyNamed (at_all ps more)
  reads_named locals [] [] h named covers c e = absurd e
  reads_named locals (b ∷ more) (ty ∷ tys) h named covers c e = ⊎_elim
      (λ k. read_named locals _ b ty h.0 named (left N (read_names (written_read s locals _ b)) (reads_names (reads s locals tys more)) covers) c k)
      (λ k. reads_named locals more tys h.1 named (right N (read_names (written_read s locals _ b)) (reads_names (reads s locals tys more)) covers) c k) e
  reads_named locals [] (ty ∷ tys) h named covers c e = absurd h
  reads_named locals (b ∷ more) [] h named covers c e = absurd h

  fields_named : (locals : List ℕ) (more : List BindingId) (fs : List (List ℕ × TypeId)) → AreReady s locals more (map (λ (f : List ℕ × TypeId). f.1) fs) → AreNamed locals → Covers (fields_names (field_reads s locals fs more)) → AnyNamed (at_all ps more)
  fields_named locals [] [] h named covers c e = absurd e
  fields_named locals (b ∷ more) (f ∷ fs) h named covers c e = ⊎_elim
      (λ k. read_named locals false b f.1 h.0 named (left N (read_names (written_read s locals false b)) (fields_names (field_reads s locals fs more)) covers) c k)
      (λ k. fields_named locals more fs h.1 named (right N (read_names (written_read s locals false b)) (fields_names (field_reads s locals fs more)) covers) c k) e
  fields_named locals [] (f ∷ fs) h named covers c e = absurd h
  fields_named locals (b ∷ more) [] h named covers c e = absurd h

  -- the fields of what is made
  made_covers : (ty : Sym) (variant : Option Sym) (fs : List (List ℕ × Read)) → Covers (expr_names (made_named env ty variant fs)) → Covers (fields_names fs)
  made_covers ty (Some variant) fs covers = covers
  made_covers ty None [] covers = λ x c. absurd (none_contained x c)
  made_covers ty None (f ∷ fs) covers = covers

  made_all : (locals : List ℕ) (f : Form) (o : Option Form) (fields : List BindingId) → o ≡ Some f → AreReady s locals fields (map (λ (x : List ℕ × TypeId). x.1) (typed_fields env f.fields)) → AreNamed locals → Covers (expr_names (made_expr s locals o fields)) → AnyNamed (at_all ps fields)
  made_all locals f o fields is h named covers =
      fields_named locals fields (typed_fields env f.fields) h named
      (made_covers f.ty f.variant (field_reads s locals (typed_fields env f.fields) fields) (subst (λ (x : Option Form). Covers (expr_names (made_expr s locals x fields))) is covers))

  plain_named : (n : ℕ) (p : Path) → IsInPlace p → Covers (operand_names (written (in_place env n p))) → IsNamed p
  plain_named n (ConstPrim name) h covers c e = spelled_named n (ConstPrim name) tt covers c e
  plain_named n (Arg i) h covers c e = absurd e
  plain_named n (ConstBool ty b) h covers c e = absurd e
  plain_named n (ConstInt ty k) h covers c e = absurd e
  plain_named n Nowhere h covers c e = absurd h
  plain_named n (Extracted term p) h covers c e = absurd h
  plain_named n (Called term qs instance) h covers c e = absurd h
  plain_named n (Chosen p) h covers c e = absurd h
  plain_named n (MadeVariant ty variant qs) h covers c e = absurd h
  plain_named n (MadeStruct ty qs) h covers c e = absurd h
  plain_named n (VariantField variant field p) h covers c e = absurd h
  plain_named n (StructField field p) h covers c e = absurd h
  plain_named n (Wrapped p) h covers c e = absurd h
  plain_named n (Inner p) h covers c e = absurd h
  plain_named n (Part part p) h covers c e = absurd h

  -- ---- what is bound

  bind_named : (locals : List ℕ) (b : BindingId) → IsReadyBind s locals (at ps b) (slice_get bs b.0) → AreNamed locals → Covers (stmt_names (bound_stmt s locals b)) → IsNamed (at ps b)
  bind_named locals b h named covers = of (slice_get bs b.0) h (subst Covers (local_is (binds_list s b) b.0 (bound_expr s locals b (slice_get bs b.0))) covers)
    where
      of : (o : Option Binding) → IsReadyBind s locals (at ps b) o → Covers (expr_names (bound_expr s locals b o)) → IsNamed (at ps b)
      of (Some (binding.Constructor term parameters instance)) k all c e =
          reads_named locals parameters k.called.arg_tys k.args named (subst (λ (x : Option Term). Covers (expr_names (call_expr s locals x (callee_of (calling env term)) parameters))) k.found all) c (subst (StandsIn c) k.path e)
      of (Some (binding.Extractor term parameter)) k all c e =
          reads_named locals (parameter ∷ []) (k.called.ret_ty ∷ []) (k.arg, tt) named (subst (λ (x : Option Term). Covers (expr_names (extraction_expr s locals x (callee_of (extracting env term)) parameter))) k.found all) c (inl (subst (StandsIn c) k.path e))
      of (Some (binding.MatchSome source)) k all c e = named source (is_in locals source k.bound') c (subst (StandsIn c) k.path e)
      of (Some (binding.MatchTuple source field)) k all c e = named source (is_in locals source k.bound') c (subst (StandsIn c) k.path e)
      of (Some (binding.Argument index)) k all c e = plain_named b.0 (at ps b) k.0 all c e
      of (Some (binding.ConstBool val ty)) k all c e = plain_named b.0 (at ps b) k.0 all c e
      of (Some (binding.ConstInt val ty)) k all c e = plain_named b.0 (at ps b) k.0 all c e
      of (Some (binding.ConstPrim val)) k all c e = plain_named b.0 (at ps b) k.0 all c e
      of (Some (binding.MakeVariant ty variant fields)) k all c e = made_all locals k.f (form env (MakesVariant ty variant)) fields k.found k.parts named all c (subst (StandsIn c) k.path e)
      of (Some (binding.MakeStruct ty fields)) k all c e = made_all locals k.f (form env (MakesStruct ty)) fields k.found k.parts named all c (subst (StandsIn c) k.path e)
      of (Some (binding.Iterator source)) k all c e = absurd k
      of (Some (binding.MatchVariant source variant field)) k all c e = absurd k
      of (Some (binding.ExtractStruct source field)) k all c e = absurd k
      of (Some (binding.MakeSome inner)) k all c e = absurd k
      of None k all c e = absurd k

  -- after locals are bound, and what follows them
  lets_named : (locals : List ℕ) (binds : List BindingId) (more : Body) → AreReadyBinds s locals binds → AreNamed locals → Covers (body_names (lets s locals binds more)) → AreNamed (bound_by locals binds) × Covers (body_names more)
  lets_named locals [] more h named covers = (named, covers)
  lets_named locals (b ∷ binds) more h named covers =
      let inner = body_names (lets s (locals ++ b.0 ∷ []) binds more) in
      lets_named (locals ++ b.0 ∷ []) binds more h.1
      (one_more locals b named (bind_named locals b h.0 named (left N (stmt_names (bound_stmt s locals b)) inner covers)))
      (right N (stmt_names (bound_stmt s locals b)) inner covers)

  -- ---- what an arm and a loop bind

  -- the source of a Match
  source_named : (locals : List ℕ) (source : BindingId) (over : Source) → IsReadyIn s locals source over → AreNamed locals → Covers (operand_names (written_operand s locals source)) → IsNamed (at ps source)
  source_named locals source (AValue ty) h named covers = ready_named locals source ty h named covers
  source_named locals source (AnOption tys) h named covers = named source h.bound'

  -- a part of something whose constants are named, by a binding over it
  part_named : (b : BindingId) (source : BindingId) (x : Binding) → slice_get bs b.0 ≡ Some x → ((c : Sym) → StandsIn c (path_over (take b.0 ps) x) → StandsIn c (at ps source)) → IsNamed (at ps source) → IsNamed (at ps b)
  part_named b source x is down named c e = named c (down c (subst (StandsIn c) (at_before bs b x is) e))

  parts_named : (source : BindingId) (part : ℕ → Binding) → ((i n : ℕ) (c : Sym) → StandsIn c (path_over (take n ps) (part i)) → StandsIn c (at ps source)) → (i : ℕ) (places : List (Option BindingId)) (locals : List ℕ) → AreParts s part i places → AreNamed locals → IsNamed (at ps source) → AreNamed (bound_within locals places)
  parts_named source part down i [] locals h named own = named
  parts_named source part down i (None ∷ places) locals h named own = parts_named source part down (suc i) places locals h.1 named own
  parts_named source part down i (Some b ∷ places) locals h named own =
      parts_named source part down (suc i) places (locals ++ b.0 ∷ []) h.1 (one_more locals b named (part_named b source (part i) h.0 (λ c e. down i b.0 c e) own)) own

  within_named : (locals : List ℕ) (source : BindingId) (c : Constraint) (places : List (Option BindingId)) → ArePlacesOf s source c places → AreNamed locals → IsNamed (at ps source) → AreNamed (bound_within locals places)
  within_named locals source (constraint.Variant ty variant) places h named own = parts_named source (λ i. binding.MatchVariant source variant (record { 0 = i })) (λ i n c e. stands_taken c ps n source e) 0 places locals h.1 named own
  within_named locals source (constraint.Struct ty) places h named own = parts_named source (λ i. binding.ExtractStruct source (record { 0 = i })) (λ i n c e. stands_taken c ps n source e) 0 places locals h.1 named own
  within_named locals source constraint.Some places h named own = parts_named source (λ i. binding.MatchSome source) (λ i n c e. stands_taken c ps n source e) 0 places locals h.1 named own
  within_named locals source (constraint.ConstBool val) places h named own = subst (λ (x : List (Option BindingId)). AreNamed (bound_within locals x)) (sym h) named
  within_named locals source (constraint.ConstInt val ty) places h named own = subst (λ (x : List (Option BindingId)). AreNamed (bound_within locals x)) (sym h) named
  within_named locals source (constraint.ConstPrim val) places h named own = subst (λ (x : List (Option BindingId)). AreNamed (bound_within locals x)) (sym h) named

  -- ---- statements

  told_covers : (telling : Telling) (k : Control) (after : Body) → Covers (body_names (told_before telling k after)) → Covers (body_names after)
  told_covers None k after covers = covers
  told_covers (Some line) (block.Match over arms) after covers = covers
  told_covers (Some line) (block.Equal a b body) after covers = covers
  told_covers (Some line) (block.Loop result body) after covers = covers
  told_covers (Some line) (block.Return place result) after covers = covers

  stop_covers : (manner : Manner) (several : Bool) (k : Control) (after : Body) → Covers (body_names (stop_before manner several k after)) → Covers (body_names after)
  stop_covers manner true (block.Return place result) after covers = covers
  stop_covers manner true (block.Match over arms) after covers = covers
  stop_covers manner true (block.Equal a b body) after covers = covers
  stop_covers manner true (block.Loop result body) after covers = covers
  stop_covers manner false k after covers = covers

  closure_covers : (own within : Bool) (inside : Body) → Covers (body_names (closed_if own within inside)) → Covers (body_names inside)
  closure_covers true within inside covers = left N (body_names inside) [] covers
  closure_covers false within inside covers = covers

  arm_covers : (locals : List ℕ) (source : BindingId) (d : Constraint) (places : List (Option BindingId)) (inside : Body) → Covers (stmt_names (arm_stmt s locals source d places inside)) → Covers (operand_names (written_operand s locals source)) × Covers (body_names inside)
  arm_covers locals source (constraint.ConstBool val) places inside covers =
      (left N (operand_names (written_operand s locals source)) _ (left N _ (body_names inside) covers), right N _ (body_names inside) covers)
  arm_covers locals source (constraint.ConstInt val ty) places inside covers =
      (left N (operand_names (written_operand s locals source)) _ (left N _ (body_names inside) covers), right N _ (body_names inside) covers)
  arm_covers locals source (constraint.ConstPrim val) places inside covers =
      (left N (operand_names (written_operand s locals source)) _ (left N _ (body_names inside) covers), right N _ (body_names inside) covers)
  arm_covers locals source (constraint.Variant ty variant) places inside covers =
      (subst Covers (read_is true (is_reference_in s source) (written_operand s locals source)) (right N _ (read_names (written_read s locals true source)) (left N _ (body_names inside) covers)), right N _ (body_names inside) covers)
  arm_covers locals source (constraint.Struct ty) places inside covers =
      (subst Covers (read_is true (is_reference_in s source) (written_operand s locals source)) (right N _ (read_names (written_read s locals true source)) (left N _ (body_names inside) covers)), right N _ (body_names inside) covers)
  arm_covers locals source constraint.Some places inside covers =
      (right N _ (operand_names (written_operand s locals source)) (left N _ (body_names inside) covers), right N _ (body_names inside) covers)

  match_is : (locals : List ℕ) (source : BindingId) (d : Constraint) → read_names (match_read s locals source d) ≡ operand_names (written_operand s locals source)
  match_is locals source (constraint.Variant ty variant) = read_is true (is_reference_in s source) (written_operand s locals source)
  match_is locals source (constraint.Struct ty) = read_is true (is_reference_in s source) (written_operand s locals source)
  match_is locals source (constraint.ConstBool val) = refl
  match_is locals source (constraint.ConstInt val ty) = refl
  match_is locals source (constraint.ConstPrim val) = refl
  match_is locals source constraint.Some = refl

  mutual
    block_named : (manner : Manner) (b : Block) (locals calls : List ℕ) (end : Body) → IsReadyFrom s locals calls b → AreNamed locals → Covers (body_names (told_body manner s locals b end)) → (f : FlatRule) → HoldsReturn f b → IsNamed (at ps f.result)
    block_named manner Stop locals calls end h named covers f r = absurd r
    block_named manner (Step binds k more) locals calls end h named covers f r =
        let now = bound_by locals binds in
        let rest = stop_before manner (gives_several s) k (told_body manner s now more end) in
        let after = lets_named locals binds (told_before manner.telling k (Then (told_control manner s now k) rest)) h.0 named covers in
        let inner = told_covers manner.telling k (Then (told_control manner s now k) rest) after.1 in
        ⊎_elim
        (λ x. control_named manner k now _ h.2 after.0 (left N (stmt_names (told_control manner s now k)) (body_names rest) inner) f x)
        (λ x. block_named manner more now _ end h.3 after.0 (stop_covers manner (gives_several s) k (told_body manner s now more end) (right N (stmt_names (told_control manner s now k)) (body_names rest) inner)) f x) r

    control_named : (manner : Manner) (k : Control) (locals calls : List ℕ) → IsReadyControl s locals calls k → AreNamed locals → Covers (stmt_names (told_control manner s locals k)) → (f : FlatRule) → DoesReturn f k → IsNamed (at ps f.result)
    control_named manner (block.Return place own) locals calls h named covers f r =
        subst (λ (x : BindingId). IsNamed (at ps x)) (sym r.1) (read_named locals false own t.ret_ty h named (subst Covers (result_is (kind_of t.kind) (written_read s locals false own)) covers))
    control_named manner (block.Equal a b body) locals calls h named covers f r =
        block_named manner body locals calls Done h.1 named (right N (operand_names (written_operand s locals a) ++ operand_names (written_operand s locals b)) (body_names (told_body manner s locals body Done)) covers) f r
    control_named manner (block.Loop item body) locals calls h named covers f r =
        block_named manner body (locals ++ item.0 ∷ []) calls Done h.1
        (one_more locals item named (part_named item h.0.source (binding.Iterator h.0.source) h.0.is (λ c e. stands_taken c ps item.0 h.0.source e) (named h.0.source h.0.bound'))) covers f r
    control_named manner (block.Match source block.NoArm) locals calls h named covers f r = absurd r
    control_named manner (block.Match source (block.Arm d places body block.NoArm)) locals calls h named covers f r =
        let inside = told_body (arm_manner manner body) s (bound_within locals places) body Done in
        let parts = arm_covers locals source d places (arm_body manner body inside) covers in
        let own = source_named locals source h.1.0 h.1.1 named parts.0 in
        ⊎_elim
        (λ x. block_named (arm_manner manner body) body (bound_within locals places) calls Done h.1.2.2 (within_named locals source d places h.1.2.1 named own) (closure_covers (has_closure manner body) manner.inside inside parts.1) f x)
        (λ x. absurd x) r
    control_named manner (block.Match source (block.Arm d places body (block.Arm e others more arms))) locals calls h named covers f r =
        let those = told_each manner s locals (block.Arm d places body (block.Arm e others more arms)) in
        let head = read_names (match_read s locals source d) in
        let own = source_named locals source h.1.0 h.1.1 named (subst Covers (match_is locals source d) (left N head (patterns_names those) (left N (head ++ patterns_names those) (arms_names those) covers))) in
        arms_named manner (block.Arm d places body (block.Arm e others more arms)) locals calls source h.1.0 h.1.2 named own (right N (head ++ patterns_names those) (arms_names those) covers) f r

    arms_named : (manner : Manner) (arms : block.Arms) (locals calls : List ℕ) (source : BindingId) (over : Source) → AreReadyArms s locals calls source over arms → AreNamed locals → IsNamed (at ps source) → Covers (arms_names (told_each manner s locals arms)) → (f : FlatRule) → HasReturnWithin f arms → IsNamed (at ps f.result)
    arms_named manner block.NoArm locals calls source over h named own covers f r = absurd r
    arms_named manner (block.Arm d places body arms) locals calls source over h named own covers f r =
        let inside = told_body (arm_manner manner body) s (bound_within locals places) body Done in
        let first = body_names (arm_body manner body inside) in
        ⊎_elim
        (λ x. block_named (arm_manner manner body) body (bound_within locals places) calls Done h.2 (within_named locals source d places h.1 named own) (closure_covers (has_closure manner body) manner.inside inside (left N first (arms_names (told_each manner s locals arms)) covers)) f x)
        (λ x. arms_named manner arms locals calls source over h.3 named own (right N first (arms_names (told_each manner s locals arms)) covers) f x) r

module _ (s : Setting) (f : FlatRule) where
  -- a block whose bind orders are completed has the Returns that it had
  mutual
    completed_returns : (bound : List ℕ) (b : Block) → HoldsReturn f b → HoldsReturn f (completed s bound b)
    completed_returns bound Stop h = h
    completed_returns bound (Step binds k more) (inl h) = inl (does_return (bound_by bound (step_binds s bound binds k)) k h)
    completed_returns bound (Step binds k more) (inr h) = inr (completed_returns (bound_by bound (step_binds s bound binds k)) more h)

    does_return : (bound : List ℕ) (k : Control) → DoesReturn f k → DoesReturn f (completed_control s bound k)
    does_return bound (block.Match over arms) h = arms_return bound arms h
    does_return bound (block.Equal a b body) h = completed_returns bound body h
    does_return bound (block.Loop item body) h = completed_returns (bound ++ item.0 ∷ []) body h
    does_return bound (block.Return place result) h = h

    arms_return : (bound : List ℕ) (arms : block.Arms) → HasReturnWithin f arms → HasReturnWithin f (completed_arms s bound arms)
    arms_return bound block.NoArm h = absurd h
    arms_return bound (block.Arm d places body arms) (inl h) = inl (completed_returns (bound_within bound places) body h)
    arms_return bound (block.Arm d places body arms) (inr h) = inr (arms_return bound arms h)

-- a constant in what a rule gives stands in the function of a lawful block that has the rule's Return
pub function_gives_it : (env : Environment) (t : Term) (bs : List Binding) (options : CodegenOptions) (files : Files) (b : Block) (g : Function) (f : FlatRule) (c : Sym)
    → IsLawfulBlock (setting env t bs) b → HoldsReturn f b → term_function options files (setting env t bs) b ≡ Some g → StandsIn c (at (paths_of bs) f.result) → Contains (body_names g.body) (sym_text env c)
function_gives_it env t bs options files b g f c lawful holds given stands =
    let s = setting env t bs in
    subst (λ (h : Function). Contains (body_names h.body) (sym_text env c)) (some_same (function_of options files env t bs b) g (sym (function_made options files env t bs b lawful) ∙ given))
    (block_named env t bs (Contains (body_names (function_of options files env t bs b).body)) (manner_of options files s) (completed s [] b) [] [] (tail_in files env t b) (completed_ready s b lawful)
    (none_named env t bs (Contains (body_names (function_of options files env t bs b).body))) (λ x k. k) f (completed_returns s f [] b holds) c stands)
