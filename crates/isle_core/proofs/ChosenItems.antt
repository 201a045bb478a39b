-- Where each list of a rule has its chosen item, so has each call of its right side.
use Rattle.std.proofs.Common.{◌≡◌, ℕ, zero, suc, ◌+◌, ◌<◌, List, [], ◌∷◌, map, length, Bool, true, false, cond, Option, Some, None, refl, sym, ap, ◌∙◌, subst, arith}
use Rattle.std.specs.Prelude.{Contains, option_map, slice_get}
use Rattle.std.proofs.lemmas.List.Elements.{Contains-append_left, Contains-append_right}
use Rattle.std.proofs.lemmas.Option.{slice_get-map}
use Rattle.isle_base.specs.declared.ids.TermId.{TermId}
use Rattle.isle_core.specs.declared.types.ReturnKind.{ReturnKind}
use Rattle.isle_core.specs.declared.types.ReturnKind.TheVariants as return_kind
use Rattle.isle_core.specs.declared.values.Callee.{Callee}
use Rattle.isle_core.specs.Answered.{Item, AValue, Listed, a_value, answer_held}
use Rattle.isle_core.specs.Calling.{Calling, ByTurns, ByCases, NoCall, answers_often, is_fallible, is_several, calling, instance_of, impure, impure_all, impure_bindings}
use Rattle.isle_core.specs.Choice.{Choice}
use Rattle.isle_core.specs.Expr as expr
use Rattle.isle_core.specs.Expr.{Expr, Exprs, NoExpr, AnExpr, LetBindings, NoBinding, ABinding}
use Rattle.isle_core.specs.HoldsImpure.{holds_impure}
use Rattle.isle_core.specs.Iterators.{calls_multi}
use Rattle.isle_core.specs.Making.{Making, MakesVariant, MakesStruct, MakesNothing, making}
use Rattle.isle_core.specs.Match.{with}
use Rattle.isle_core.specs.Meaning.{Meaning, case}
use Rattle.isle_core.specs.Pairs.{IsChosen}
use Rattle.isle_core.specs.Path.{Path, Called, Chosen, Inner, Paths}
use Rattle.isle_core.specs.RightSide.{Places, term_path, call_path, path, paths, let_places}
use Rattle.isle_core.specs.Rule.{Environment}
use Rattle.isle_core.specs.RulePaths.{with_inner, expr_paths, exprs_paths, bindings_paths}
use Rattle.isle_core.specs.Value.{Value}
use Rattle.isle_core.specs.ValueAt.{none_made, item_at, chosen_held, case_held, call_held, value_at, values_at}
use Rattle.isle_core.proofs.AnsweredTerms.{IsOfKind, IsTermAnswered, HasAnsweredCalls, AreAnsweredCalls, HaveAnsweredBindings}
use Rattle.isle_core.proofs.Contained.{head_contained}
use Rattle.isle_core.proofs.EachFollows.{AnyOften, HasItems, AllHaveItems, BindingsHaveItems}

there_at : {A : Type 0} (xs : List A) (i : ℕ) → i < length xs → (x : A) × (slice_get xs i ≡ Some x)
there_at [] i lt = let bad : ⊥ = omega arith in absurd bad
there_at (x ∷ xs) zero lt = (x, refl)
there_at (x ∷ xs) (suc i) lt = there_at xs i (omega arith)

mapped_less : (us : List Value) (is : List Item) (i : ℕ) → is ≡ map AValue us → i < length is → i < length us
mapped_less [] [] i e lt = lt
mapped_less (u ∷ us) (j ∷ is) zero e lt = omega arith
mapped_less (u ∷ us) (j ∷ is) (suc i) e lt = let rest : is ≡ map AValue us = cc in let low : i < length us = mapped_less us is i rest (omega arith) in omega arith
mapped_less [] (j ∷ is) i e lt = cc
mapped_less (u ∷ us) [] i e lt = cc

pub call_first : (a b : Bool) (p : Path) → Contains (cond a (p ∷ Chosen p ∷ []) (cond b (p ∷ Inner p ∷ []) (p ∷ []))) p
call_first true b p = head_contained p (Chosen p ∷ [])
call_first false true p = head_contained p (Inner p ∷ [])
call_first false false p = head_contained p []

module _ (env : Environment) (m : Meaning) (args : List Value) (choice : Choice) where
  -- the chosen item of a list that a pure call answers is a value
  item_value : (callee : Callee) (kind : ReturnKind) (p : Path) (vs : Option (List Value)) → is_several kind ≡ true → ((ws : List Value) → IsOfKind kind (answer_held (case m callee ws))) → value_at env m args (none_made choice) p ≡ case_held m (ByCases callee kind) vs → IsChosen env m args choice p
      → (v : Value) × (value_at env m args (none_made choice) (Chosen p) ≡ a_value v)
  item_value callee return_kind.Iterator p None several of at chosen = let bad : Listed chosen.0 ≡ case_held m (ByCases callee return_kind.Iterator) None = sym chosen.1 ∙ at in absurd cc
  item_value callee return_kind.Iterator p (Some vs) several of at chosen =
      let us = of vs in
      let same : Listed chosen.0 ≡ Listed (map AValue us.0) = sym chosen.1 ∙ at ∙ us.1 in
      let items : chosen.0 ≡ map AValue us.0 = cc in
      let there = there_at us.0 (choice p) (mapped_less us.0 chosen.0 (choice p) items chosen.2) in
      (there.0, ap (chosen_held (choice p)) (at ∙ us.1) ∙ ap item_at (slice_get-map AValue us.0 (choice p)) ∙ ap (λ o. item_at (option_map AValue o)) there.1)
  item_value callee return_kind.Plain p vs several of at chosen = absurd cc
  item_value callee return_kind.Option p vs several of at chosen = absurd cc

  -- each list of these paths has its chosen item
  abbrev AllChosen : List Path → Type 0
  AllChosen ps = (p : Path) → Contains ps p → calls_multi env p ≡ true → holds_impure env p ≡ false → IsChosen env m args choice p

  term_item : (mk : Making) (c : Calling) (term : TermId) (ps : Paths) (k : ℕ) (callee : Callee) (kind : ReturnKind) → calling env term ≡ c → IsTermAnswered AnyOften m mk c → c ≡ ByCases callee kind
      → (calls_multi env (term_path mk term ps k) ≡ true → holds_impure env (term_path mk term ps k) ≡ false → IsChosen env m args choice (term_path mk term ps k)) → is_several kind ≡ true → holds_impure env (term_path mk term ps k) ≡ false
      → (v : Value) × (value_at env m args (none_made choice) (Chosen (term_path mk term ps k)) ≡ a_value v)
  term_item MakesNothing (ByCases callee' kind') term ps k callee kind e t same chosen several early =
      let often : answers_often (calling env term) ≡ true = ap answers_often (e ∙ same) ∙ several in
      let at : value_at env m args (none_made choice) (Called term ps k) ≡ case_held m (ByCases callee kind) (values_at env m args (none_made choice) ps) = ap (λ c. call_held m c None (values_at env m args (none_made choice) ps)) (e ∙ same) in
      let of : (ws : List Value) → IsOfKind kind (answer_held (case m callee ws)) = of_same callee' callee kind' kind same t.1 in
      item_value callee kind (Called term ps k) (values_at env m args (none_made choice) ps) several of at (chosen often early)
    where
      of_same : (a b : Callee) (x y : ReturnKind) → ByCases a x ≡ ByCases b y → ((ws : List Value) → IsOfKind x (answer_held (case m a ws))) → (ws : List Value) → IsOfKind y (answer_held (case m b ws))
      of_same a b x y q h ws = let one : a ≡ b = cc in let other : x ≡ y = cc in subst (λ z. IsOfKind z (answer_held (case m b ws))) other (subst (λ z. IsOfKind x (answer_held (case m z ws))) one (h ws))
  term_item MakesNothing (ByTurns callee' kind') term ps k callee kind e t same chosen several early = absurd cc
  term_item MakesNothing NoCall term ps k callee kind e t same chosen several early = absurd t
  term_item (MakesVariant ty variant) c term ps k callee kind e t same chosen several early = let bad : NoCall ≡ ByCases callee kind = sym t ∙ same in absurd cc
  term_item (MakesStruct ty) c term ps k callee kind e t same chosen several early = let bad : NoCall ≡ ByCases callee kind = sym t ∙ same in absurd cc

  mutual
    -- so each call of an expression
    pub items_chosen : (e : Expr) (places : Places) (n : ℕ) → HasAnsweredCalls AnyOften env m places n e → AllChosen (expr_paths env e places n) → HasItems env m args choice places n e
    items_chosen (expr.Var ty x) places n t h = tt
    items_chosen (expr.ConstBool b) places n t h = tt
    items_chosen (expr.ConstInt ty k) places n t h = tt
    items_chosen (expr.ConstPrim ty name) places n t h = tt
    items_chosen (expr.Term ty term es) places n t h =
        let c = calling env term in
        let ps = paths env es places n in
        let p = call_path env term ps (n + impure_all env es) in
        let own = with_inner c p in (
          λ callee kind e several early. term_item (making env term) c term ps (instance_of c (n + impure_all env es)) callee kind refl t.0 e
              (λ multi none. h p (Contains-append_right (exprs_paths env es places n) own p (call_first (answers_often c) (is_fallible c) p)) multi none) several early,
          all_items es places n t.1 (λ q there. h q (Contains-append_left (exprs_paths env es places n) own q there)),
        )
    items_chosen (expr.Let ty bs inner) places n t h =
        let mid = let_places env bs places n in
        let n1 = n + impure_bindings env bs in (
          binding_items bs places n t.0 (λ q there. h q (Contains-append_left (bindings_paths env bs places n) (expr_paths env inner mid n1) q there)),
          items_chosen inner mid n1 t.1 (λ q there. h q (Contains-append_right (bindings_paths env bs places n) (expr_paths env inner mid n1) q there)),
        )

    all_items : (es : Exprs) (places : Places) (n : ℕ) → AreAnsweredCalls AnyOften env m places n es → AllChosen (exprs_paths env es places n) → AllHaveItems env m args choice places n es
    all_items NoExpr places n t h = tt
    all_items (AnExpr e es) places n t h =
        let n1 = n + impure env e in (
          items_chosen e places n t.0 (λ q there. h q (Contains-append_left (expr_paths env e places n) (exprs_paths env es places n1) q there)),
          all_items es places n1 t.1 (λ q there. h q (Contains-append_right (expr_paths env e places n) (exprs_paths env es places n1) q there)),
        )

    binding_items : (bs : LetBindings) (places : Places) (n : ℕ) → HaveAnsweredBindings AnyOften env m places n bs → AllChosen (bindings_paths env bs places n) → BindingsHaveItems env m args choice places n bs
    binding_items NoBinding places n t h = tt
    binding_items (ABinding x ty e more) places n t h =
        let mid = with places x.0 (path env e places n) in
        let n1 = n + impure env e in (
          items_chosen e places n t.0 (λ q there. h q (Contains-append_left (expr_paths env e places n) (bindings_paths env more mid n1) q there)),
          binding_items more mid n1 t.1 (λ q there. h q (Contains-append_right (expr_paths env e places n) (bindings_paths env more mid n1) q there)),
        )
