-- The maps of the types of what callees answer, filled from the last term to the first.
use Rattle.std.proofs.Common.{◌≡◌, ℕ, ◌+◌, ◌<◌, List, ◌∷◌, length, drop, get_or, Bool, true, false, cond, Option, Some, refl, sym, ap, ◌∙◌}
use Rattle.std.specs.Prelude.{option_map}
use Rattle.std.specs.List.{find}
use Rattle.std.specs.Str.{bytes_eq}
use Rattle.std.specs.Ordering.{nat_cmp}
use Rattle.std.specs.Cmp.Lexicographic.{slice_cmp, nat_list_eq_equiv}
use Rattle.std.specs.BTreeMap.{BTreeMap, UpdatesBy}
use Rattle.std.proofs.lemmas.List.{drop_more}
use Rattle.std.proofs.lemmas.Map.Text.{btree_map_updates_str}
use denote.Ref.{Bor}
use Rattle.isle_core.specs.declared.TypeId.{TypeId}
use Rattle.isle_core.specs.declared.types.TypeEnv.{TypeEnv}
use Rattle.isle_core.specs.declared.types.Term.{Term}
use Rattle.isle_core.specs.declared.values.Callee.{Callee}
use Rattle.isle_core.specs.declared.values.Callee.TheVariants.{External, Internal}
use Rattle.isle_core.specs.Rule.{Environment}
use Rattle.isle_core.specs.Terms.{impure_callee, goes_to}
use Rattle.isle_run_inputs.specs.AnswerTypes.{type_at, FindsTypes}
use Rattle.isle_run_inputs.specs.Requested.{first_type}
use Rattle.isle_run_inputs.specs.declared.callees.Called.{Called}
use Rattle.isle_run_inputs.specs.Called.{called}

-- what a term's calls go to, whatever else the environment has
abbrev Goes : TypeEnv → Term → Option Callee → Type 0
Goes types t callee = (env : Environment) → env.types ≡ types → callee ≡ impure_callee env t t.kind

-- the first type, by the term at the place
first_at : (env : Environment) (terms : List Term) (i : ℕ) (t d : Term) (goes : Option Callee) (requested : Callee) → i < length terms → t ≡ get_or terms i d → goes ≡ impure_callee env t t.kind
    → first_type env (drop i terms) requested ≡ option_map (λ (x : Term). x.ret_ty) (cond (goes_to requested goes) (Some t) (find (λ (x : Term). goes_to requested (impure_callee env x x.kind)) (drop (i + 1) terms)))
first_at env terms i t d goes requested lt is e =
    ap (λ xs. first_type env xs requested) (drop_more terms i d lt ∙ ap (λ x. x ∷ drop (i + 1) terms) (sym is))
    ∙ ap (λ g. option_map (λ (x : Term). x.ret_ty) (cond (goes_to requested g) (Some t) (find (λ (x : Term). goes_to requested (impure_callee env x x.kind)) (drop (i + 1) terms)))) (sym e)

picked : (here : Bool) (t : Term) (rest : Option Term) → cond here (Some t.ret_ty) (option_map (λ (x : Term). x.ret_ty) rest) ≡ option_map (λ (x : Term). x.ret_ty) (cond here (Some t) rest)
picked true t rest = refl
picked false t rest = refl

-- a name that is inserted
inserted : (key : Bor (List ℕ)) (t : Term) (old new : BTreeMap (Bor (List ℕ)) TypeId) (rest : Option Term) (name : List ℕ)
    → UpdatesBy (λ (x y : Bor (List ℕ)). slice_cmp nat_cmp x.now y.now) (λ (k : Bor (List ℕ)). slice_cmp nat_cmp key.now k.now) old new (Some t.ret_ty)
    → type_at old name ≡ option_map (λ (x : Term). x.ret_ty) rest
    → type_at new name ≡ option_map (λ (x : Term). x.ret_ty) (cond (bytes_eq name key.now) (Some t) rest)
inserted key t old new rest name updates were =
    btree_map_updates_str key.now old new (Some t.ret_ty) updates name
    ∙ ap (λ b. cond b (Some t.ret_ty) (type_at old name)) (sym (nat_list_eq_equiv.symm name key.now))
    ∙ ap (cond (bytes_eq name key.now) (Some t.ret_ty)) were
    ∙ picked (bytes_eq name key.now) t rest

-- a term more that calls an external function
pub external_more : (types : TypeEnv) (terms : List Term) (i : ℕ) (t d : Term) (to : Called) (key : Bor (List ℕ)) (old new internal : BTreeMap (Bor (List ℕ)) TypeId) → i < length terms → t ≡ get_or terms i d
    → Goes types t (called to) → called to ≡ Some (External key.now) → FindsTypes types (drop (i + 1) terms) old internal
    → UpdatesBy (λ (x y : Bor (List ℕ)). slice_cmp nat_cmp x.now y.now) (λ (k : Bor (List ℕ)). slice_cmp nat_cmp key.now k.now) old new (Some t.ret_ty)
    → FindsTypes types (drop i terms) new internal
external_more types terms i t d to key old new internal lt is goes named were updates = record {
  externals = λ env e name.
      inserted key t old new _ name updates (were.externals env e name)
      ∙ sym (first_at env terms i t d (Some (External key.now)) (External name) lt is (sym named ∙ goes env e));
  internals = λ env e name. were.internals env e name ∙ sym (first_at env terms i t d (Some (External key.now)) (Internal name) lt is (sym named ∙ goes env e));
}

-- one that calls a term
pub internal_more : (types : TypeEnv) (terms : List Term) (i : ℕ) (t d : Term) (to : Called) (key : Bor (List ℕ)) (external old new : BTreeMap (Bor (List ℕ)) TypeId) → i < length terms → t ≡ get_or terms i d
    → Goes types t (called to) → called to ≡ Some (Internal key.now) → FindsTypes types (drop (i + 1) terms) external old
    → UpdatesBy (λ (x y : Bor (List ℕ)). slice_cmp nat_cmp x.now y.now) (λ (k : Bor (List ℕ)). slice_cmp nat_cmp key.now k.now) old new (Some t.ret_ty)
    → FindsTypes types (drop i terms) external new
internal_more types terms i t d to key external old new lt is goes named were updates = record {
  externals = λ env e name. were.externals env e name ∙ sym (first_at env terms i t d (Some (Internal key.now)) (External name) lt is (sym named ∙ goes env e));
  internals = λ env e name.
      inserted key t old new _ name updates (were.internals env e name)
      ∙ sym (first_at env terms i t d (Some (Internal key.now)) (Internal name) lt is (sym named ∙ goes env e));
}
