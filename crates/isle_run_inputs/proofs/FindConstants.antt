-- The map of the types of constants, filled from the last to the first.
use Rattle.std.proofs.Common.{◌≡◌, ℕ, ◌+◌, ◌<◌, List, ◌∷◌, length, drop, get_or, Bool, true, false, cond, Option, Some, refl, sym, ap, ◌∙◌, subst}
use Rattle.std.specs.Prelude.{option_map}
use Rattle.std.specs.List.{find}
use Rattle.std.specs.Str.{bytes_eq}
use Rattle.std.specs.Ordering.{nat_cmp}
use Rattle.std.specs.Cmp.Lexicographic.{slice_cmp, nat_list_eq_equiv}
use Rattle.std.specs.BTreeMap.{BTreeMap, UpdatesBy}
use Rattle.std.proofs.lemmas.List.{drop_more}
use Rattle.std.proofs.lemmas.Map.Text.{btree_map_updates_str}
use denote.Ref.{Bor}
use Rattle.isle_core.specs.declared.Sym.{Sym}
use Rattle.isle_core.specs.declared.TypeId.{TypeId}
use Rattle.isle_core.specs.declared.types.TypeEnv.{TypeEnv}
use Rattle.isle_core.specs.Rule.{Environment}
use Rattle.isle_core.specs.Terms.{sym_text, symbol_text}
use Rattle.isle_run_inputs.specs.AnswerTypes.{type_at}
use Rattle.isle_run_inputs.specs.ConstantTypes.{FindsConstants}
use Rattle.isle_run_inputs.specs.Requested.{first_constant}

-- the first type, by the constant at the place
first_at : (env : Environment) (consts : List (Sym × TypeId)) (i : ℕ) (c d : Sym × TypeId) (name : List ℕ) → i < length consts → c ≡ get_or consts i d
    → first_constant env (drop i consts) name ≡ option_map (λ (x : Sym × TypeId). x.1) (cond (bytes_eq name (sym_text env c.0)) (Some c) (find (λ (x : Sym × TypeId). bytes_eq name (sym_text env x.0)) (drop (i + 1) consts)))
first_at env consts i c d name lt is = ap (λ xs. first_constant env xs name) (drop_more consts i d lt ∙ ap (λ x. x ∷ drop (i + 1) consts) (sym is))

picked : (here : Bool) (c : Sym × TypeId) (rest : Option (Sym × TypeId)) → cond here (Some c.1) (option_map (λ (x : Sym × TypeId). x.1) rest) ≡ option_map (λ (x : Sym × TypeId). x.1) (cond here (Some c) rest)
picked true c rest = refl
picked false c rest = refl

-- a constant more
pub constant_more : (types : TypeEnv) (consts given : List (Sym × TypeId)) (i : ℕ) (c d : Sym × TypeId) (key : Bor (List ℕ)) (ty : TypeId) (old new : BTreeMap (Bor (List ℕ)) TypeId) → given ≡ consts → i < length given → c ≡ get_or given i d
    → key.now ≡ symbol_text types c.0 → ty ≡ c.1 → FindsConstants types (drop (i + 1) consts) old
    → UpdatesBy (λ (x y : Bor (List ℕ)). slice_cmp nat_cmp x.now y.now) (λ (k : Bor (List ℕ)). slice_cmp nat_cmp key.now k.now) old new (Some ty)
    → FindsConstants types (drop i consts) new
constant_more types consts given i c d key ty old new same lt is named typed were updates = record {
  finds = λ env e name.
      btree_map_updates_str key.now old new (Some ty) updates name
      ∙ ap (λ b. cond b (Some ty) (type_at old name)) (sym (nat_list_eq_equiv.symm name key.now))
      ∙ ap (λ t. cond (bytes_eq name key.now) (Some t) (type_at old name)) typed
      ∙ ap (cond (bytes_eq name key.now) (Some c.1)) (were.finds env e name)
      ∙ picked (bytes_eq name key.now) c (find (λ (x : Sym × TypeId). bytes_eq name (sym_text env x.0)) (drop (i + 1) consts))
      ∙ ap (λ t. option_map (λ (x : Sym × TypeId). x.1) (cond (bytes_eq name t) (Some c) (find (λ (x : Sym × TypeId). bytes_eq name (sym_text env x.0)) (drop (i + 1) consts)))) (named ∙ ap (λ ts. symbol_text ts c.0) (sym e))
      ∙ sym (first_at env consts i c d name (subst (λ xs. i < length xs) same lt) (is ∙ ap (λ xs. get_or xs i d) same));
}
