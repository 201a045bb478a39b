-- Texts of expressions whose trees give a value, each of their calls being planned.
use Rattle.std.proofs.Common.{◌≡◌, ℕ, ◌<◌, List, [], ◌∷◌, ◌++◌, length, map, Some, refl, sym, subst, arith}
use Rattle.std.specs.Prelude.{slice_get}
use Rattle.isle_base.specs.declared.ids.TermId.{TermId}
use Rattle.isle_base.specs.declared.ids.TypeId.{TypeId}
use Rattle.isle_core.specs.Calling.{Calling}
use Rattle.isle_core.specs.Expr as expr
use Rattle.isle_core.specs.Expr.{Expr, Exprs, NoExpr, AnExpr}
use Rattle.isle_core.specs.ExprType.{Allowed, IsExprOf, AreExprsOf}
use Rattle.isle_core.specs.Form.{made_value}
use Rattle.isle_core.specs.Making.{MakesVariant}
use Rattle.isle_core.specs.Match.{Names}
use Rattle.isle_core.specs.Rule.{Environment}
use Rattle.isle_core.specs.Value.{Value}
use Rattle.isle_ast.specs.Tree as tree
use Rattle.isle_ast.specs.Views.{exprs_of}
use Rattle.isle_declarations.specs.Symbols.{index_of}
use Rattle.isle_prelude.specs.ClifFiles.{variable_exprs, call_on, counted_expr}
use Rattle.isle_prelude_laws.specs.HonestMeaning.{Whole, maker}
use Rattle.isle_prelude_laws.proofs.Gives.{Allows, Values, IsMaker, Gives, a_variable, a_made, a_call, GivesAll, gives_none, gives_one}
use Rattle.isle_prelude_laws.proofs.Mirrored.{IsVariantTerm, makes_of, args_typed}
use Rattle.isle_prelude_laws.proofs.NamedTrees.{Numbers, ExprNamed, ExprsNamed}

module _ (env : Environment) (number : Numbers) (params : List (List ℕ)) (allowed : Allowed) (vars : List (TypeId × ℕ)) (of_name : List ℕ → Value) (val : Values) (calls : Whole → Calling) (P : Allows) where
  -- each parameter has the value of its name
  abbrev pub HasNames : Names → Type 0
  HasNames names = (name : List ℕ) (k : ℕ) → index_of params name ≡ Some k → names k ≡ Some (of_name name)

  -- under all such names the expression gives the value
  abbrev pub GivesAlways : Expr → Value → Type 0
  GivesAlways x v = (names : Names) → HasNames names → Gives env names val calls P x v

  -- so in order
  abbrev pub AllGiveAlways : Exprs → List Value → Type 0
  AllGiveAlways xs vs = (names : Names) → HasNames names → GivesAll env names val calls P xs vs

  -- a typed tree of the text gives some value
  abbrev pub CanGive : tree.Expr → Type 0
  CanGive e = (x : Expr) (ty : TypeId) → ExprNamed number params e x → IsExprOf env allowed vars ty x → (v : Value) × GivesAlways x v

  -- so in order
  abbrev pub CanGiveAll : tree.Exprs → Type 0
  CanGiveAll es = (xs : Exprs) (tys : List TypeId) → ExprsNamed number params es xs → AreExprsOf env allowed vars tys xs → (vs : List Value) × AllGiveAlways xs vs

  -- typed trees of the texts give these values
  abbrev pub GiveThese : tree.Exprs → List Value → Type 0
  GiveThese es vs = (xs : Exprs) (tys : List TypeId) → ExprsNamed number params es xs → AreExprsOf env allowed vars tys xs → AllGiveAlways xs vs

  give_name : (name : List ℕ) (x : Expr) → ExprNamed number params (tree.Name name) x → GivesAlways x (of_name name)
  give_name name x e names held = subst (λ (y : Expr). Gives env names val calls P y (of_name name)) (sym e.2) (a_variable e.0 e.1 (of_name name) (held name e.1.0 e.3))

  pub can_give_name : (name : List ℕ) → CanGive (tree.Name name)
  can_give_name name x ty e typed = (of_name name, give_name name x e)

  pub can_give_nothing : CanGiveAll tree.NoExpr
  can_give_nothing xs tys e typed = ([], λ names held. subst (λ (ys : Exprs). GivesAll env names val calls P ys []) (sym e) gives_none)

  pub can_give_both : (e : tree.Expr) (es : tree.Exprs) → CanGive e → CanGiveAll es → CanGiveAll (tree.AnExpr e es)
  can_give_both e es one more xs tys d typed = both tys (subst (AreExprsOf env allowed vars tys) d.2 typed)
    where
      both : (tys : List TypeId) → AreExprsOf env allowed vars tys (AnExpr d.0 d.1) → (vs : List Value) × AllGiveAlways xs vs
      both [] h = absurd h
      both (ty ∷ tys) h =
          let a = one d.0 ty d.3 h.0 in
          let b = more d.1 tys d.4 h.1 in
          (a.0 ∷ b.0, λ names held. subst (λ (ys : Exprs). GivesAll env names val calls P ys (a.0 ∷ b.0)) (sym d.2) (gives_one d.0 d.1 a.0 b.0 (a.1 names held) (b.1 names held)))

  -- variables give the values of their names
  pub give_variables : (names : List (List ℕ)) → GiveThese (exprs_of (variable_exprs names)) (map of_name names)
  give_variables [] xs tys e typed all held = subst (λ (ys : Exprs). GivesAll env all val calls P ys []) (sym e) gives_none
  give_variables (name ∷ names) xs tys d typed all held = both tys (subst (AreExprsOf env allowed vars tys) d.2 typed) (λ ts h. give_variables names d.1 ts d.4 h all held)
    where
      both : (tys : List TypeId) → AreExprsOf env allowed vars tys (AnExpr d.0 d.1)
          → ((ts : List TypeId) → AreExprsOf env allowed vars ts d.1 → GivesAll env all val calls P d.1 (map of_name names))
          → GivesAll env all val calls P xs (of_name name ∷ map of_name names)
      both [] h go = absurd h
      both (ty ∷ ts) h go = subst (λ (ys : Exprs). GivesAll env all val calls P ys (of_name name ∷ map of_name names)) (sym d.2) (gives_one d.0 d.1 (of_name name) (map of_name names) (give_name name d.0 d.3 all held) (go ts h.1))

  pub can_variables_give : (names : List (List ℕ)) (es : List tree.Expr) → CanGiveAll (exprs_of es) → CanGiveAll (exprs_of (variable_exprs names ++ es))
  can_variables_give [] es more = more
  can_variables_give (name ∷ names) es more = can_give_both (tree.Name name) (exprs_of (variable_exprs names ++ es)) (can_give_name name) (can_variables_give names es more)

  pub only_variables_give : (names : List (List ℕ)) → CanGiveAll (exprs_of (variable_exprs names))
  only_variables_give [] = can_give_nothing
  only_variables_give (name ∷ names) = can_give_both (tree.Name name) (exprs_of (variable_exprs names)) (can_give_name name) (only_variables_give names)

  -- a made term
  pub can_make_give : (name : List ℕ) (es : tree.Exprs) → ((term : TermId) → number name ≡ Some term → IsVariantTerm env term) → CanGiveAll es
      → CanGive (tree.Call name es)
  can_make_give name es made inside x ty e typed =
      let shown : IsExprOf env allowed vars ty (expr.Term e.0 e.1 e.2) = subst (IsExprOf env allowed vars ty) e.3 typed in
      let args = args_typed env allowed vars ty e.2 (slice_get env.terms e.1.0) shown.1 in
      let k = makes_of env allowed vars ty e.1 e.2 (made e.1 e.4) (slice_get env.terms e.1.0) refl shown.1 in
      let parts = inside e.2 args.0 e.5 args.1 in
      let v = made_value env (MakesVariant k.ty k.variant) parts.0 in
      (v, λ names held. subst (λ (y : Expr). Gives env names val calls P y v) (sym e.3) (a_made e.0 e.1 e.2 parts.0 k (parts.1 names held)))

  -- a call on these values
  pub give_call : (w : Whole) (es : tree.Exprs) (vs : List Value) → ((a : TermId) → number (maker w) ≡ Some a → IsMaker env val (calls w) a w)
      → P w vs → GiveThese es vs → (x : Expr) (ty : TypeId) → ExprNamed number params (tree.Call (maker w) es) x → IsExprOf env allowed vars ty x
      → GivesAlways x (val w)
  give_call w es vs makes planned inside x ty e typed names held =
      let shown : IsExprOf env allowed vars ty (expr.Term e.0 e.1 e.2) = subst (IsExprOf env allowed vars ty) e.3 typed in
      let args = args_typed env allowed vars ty e.2 (slice_get env.terms e.1.0) shown.1 in
      subst (λ (y : Expr). Gives env names val calls P y (val w)) (sym e.3) (a_call e.0 e.1 e.2 w vs (makes e.1 e.4) planned (inside e.2 args.0 e.5 args.1 names held))

  pub can_call_give : (w : Whole) (es : tree.Exprs) (vs : List Value) → ((a : TermId) → number (maker w) ≡ Some a → IsMaker env val (calls w) a w)
      → P w vs → GiveThese es vs → CanGive (tree.Call (maker w) es)
  can_call_give w es vs makes planned inside x ty e typed = (val w, give_call w es vs makes planned inside x ty e typed)

  -- values or blocks: nothing, one, or an array of them
  pub can_counted_give : (w : Whole) (names : List (List ℕ)) (es : List tree.Expr)
      → (1 < length names → ((a : TermId) → number (maker w) ≡ Some a → IsMaker env val (calls w) a w) × P w (map of_name names))
      → CanGiveAll (exprs_of es) → CanGiveAll (exprs_of (counted_expr (maker w) names ++ es))
  can_counted_give w [] es makes more = more
  can_counted_give w (x ∷ []) es makes more = can_give_both (tree.Name x) (exprs_of es) (can_give_name x) more
  can_counted_give w (x ∷ y ∷ names) es makes more =
      let all = x ∷ y ∷ names in
      let m = makes (omega arith) in
      can_give_both (call_on (maker w) all) (exprs_of es) (can_call_give w (exprs_of (variable_exprs all)) (map of_name all) m.0 m.1 (give_variables all)) more
