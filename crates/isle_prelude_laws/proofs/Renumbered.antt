-- A rule whose variables are numbered in order already stays as it is.
use Rattle.std.proofs.Common.{◌≡◌, ℕ, suc, ◌<◌, List, [], ◌∷◌, ◌++◌, length, map, Bool, true, false, cond, Option, Some, None, refl, sym, ap, ◌∙◌, subst, arith}
use Rattle.std.specs.Prelude.{◌==◌, fold, flat_map, option_map, is_some}
use Rattle.std.proofs.lemmas.Bool.{eqb-true}
use Rattle.std.proofs.lemmas.List.{append-nil}
use Rattle.isle_base.specs.declared.ids.TypeId.{TypeId}
use Rattle.isle_base.specs.declared.ids.VarId.{VarId}
use Rattle.isle_core.specs.Expr as expr
use Rattle.isle_core.specs.Expr.{Expr, Exprs, NoExpr, AnExpr, LetBindings, NoBinding, ABinding}
use Rattle.isle_core.specs.Pattern as pattern
use Rattle.isle_core.specs.Pattern.{Pattern}
use Rattle.isle_core.specs.Rule.{Rule}
use Rattle.isle_core.proofs.OptionLaws.{some_same}
use Rattle.isle_templates.specs.Elaborated.{condition_expanded, rule_expanded, elaborated}
use Rattle.isle_templates.specs.Renumbered.{bound_in, pattern_variables, condition_variables, place_of, joined, number_or, new_number, renamed, expr_renamed, exprs_renamed, bindings_renamed, condition_renamed, order_of}
use Rattle.isle_templates.specs.Substituted.{expanded, whole_templates}
use Rattle.isle_prelude_laws.proofs.Operands.{variables_from, IsPlainRule}

-- ---- numbers that are their own places

-- each number that is there stands at its place
abbrev IsCount : List ℕ → Type 0
IsCount xs = (x n : ℕ) → place_of xs x ≡ Some n → n ≡ x

place_below : (xs : List ℕ) (x n : ℕ) → place_of xs x ≡ Some n → n < length xs
place_below [] x n h = absurd cc
place_below (y ∷ ys) x n h = by (λ m e. place_below ys x m e) (y == x) h
  where
    later : ((m : ℕ) → place_of ys x ≡ Some m → m < length ys) → (o : Option ℕ) → place_of ys x ≡ o → option_map suc o ≡ Some n → n < suc (length ys)
    later go None is e = absurd cc
    later go (Some m) is e = let lt = go m is in let same : suc m ≡ n = some_same (suc m) n e in omega (arith, lt, same)

    by : ((m : ℕ) → place_of ys x ≡ Some m → m < length ys) → (b : Bool) → cond b (Some 0) (option_map suc (place_of ys x)) ≡ Some n → n < suc (length ys)
    by go true e = let same : 0 ≡ n = some_same 0 n e in omega (arith, same)
    by go false e = later go (place_of ys x) refl e

place_at_end : (xs : List ℕ) (y x n : ℕ) → place_of (xs ++ y ∷ []) x ≡ Some n → (o : Option ℕ) → place_of xs x ≡ o
    → (is_some o ≡ true → o ≡ Some n) × (is_some o ≡ false → (n ≡ length xs) × (y == x ≡ true))
place_at_end [] y x n h None is = (λ e. absurd cc, λ e. by (y == x) refl h)
  where
    by : (b : Bool) → y == x ≡ b → cond b (Some 0) None ≡ Some n → (n ≡ 0) × (y == x ≡ true)
    by true t e = (sym (some_same 0 n e), t)
    by false t e = absurd cc
place_at_end [] y x n h (Some m) is = absurd cc
place_at_end (z ∷ xs) y x n h o is = by (λ m e. place_at_end xs y x m e) (z == x) h is
  where
    back : (a : Option ℕ) (m : ℕ) → (is_some a ≡ true → a ≡ Some m) → is_some (option_map suc a) ≡ true → option_map suc a ≡ Some (suc m)
    back None m go e = absurd cc
    back (Some k) m go e = ap (option_map suc) (go refl)

    front : (a : Option ℕ) → is_some (option_map suc a) ≡ is_some a
    front None = refl
    front (Some k) = refl

    later : ((m : ℕ) → place_of (xs ++ y ∷ []) x ≡ Some m → (a : Option ℕ) → place_of xs x ≡ a → (is_some a ≡ true → a ≡ Some m) × (is_some a ≡ false → (m ≡ length xs) × (y == x ≡ true)))
        → (q : Option ℕ) → place_of (xs ++ y ∷ []) x ≡ q → option_map suc q ≡ Some n → option_map suc (place_of xs x) ≡ o → (is_some o ≡ true → o ≡ Some n) × (is_some o ≡ false → (n ≡ suc (length xs)) × (y == x ≡ true))
    later go None at e k = absurd cc
    later go (Some m) at e k =
        let r = go m at (place_of xs x) refl in
        let same : suc m ≡ n = some_same (suc m) n e in (
          λ t. sym k ∙ back (place_of xs x) m r.0 (ap is_some k ∙ t) ∙ ap Some same,
          λ t. let s = r.1 (sym (front (place_of xs x)) ∙ ap is_some k ∙ t) in let long = s.0 in (omega (arith, long, same), s.1),
        )

    by : ((m : ℕ) → place_of (xs ++ y ∷ []) x ≡ Some m → (a : Option ℕ) → place_of xs x ≡ a → (is_some a ≡ true → a ≡ Some m) × (is_some a ≡ false → (m ≡ length xs) × (y == x ≡ true)))
        → (b : Bool) → cond b (Some 0) (option_map suc (place_of (xs ++ y ∷ []) x)) ≡ Some n → cond b (Some 0) (option_map suc (place_of xs x)) ≡ o → (is_some o ≡ true → o ≡ Some n) × (is_some o ≡ false → (n ≡ suc (length xs)) × (y == x ≡ true))
    by go true e k = (λ t. sym k ∙ e, λ t. let bad : true ≡ false = ap is_some k ∙ t in absurd cc)
    by go false e k = later go (place_of (xs ++ y ∷ []) x) refl e k

count_more : (xs : List ℕ) → IsCount xs → IsCount (xs ++ length xs ∷ [])
count_more xs h x n e = by (place_of xs x) refl
  where
    by : (o : Option ℕ) → place_of xs x ≡ o → n ≡ x
    by None is = let r = (place_at_end xs (length xs) x n e None is).1 refl in r.0 ∙ eqb-true (length xs) x r.1
    by (Some m) is = let r = (place_at_end xs (length xs) x n e (Some m) is).0 refl in sym (some_same m n r) ∙ h x m is

joined_more : (xs : List ℕ) → IsCount xs → joined xs (length xs) ≡ xs ++ length xs ∷ []
joined_more xs h = by (place_of xs (length xs)) refl
  where
    by : (o : Option ℕ) → place_of xs (length xs) ≡ o → cond (is_some (place_of xs (length xs))) xs (xs ++ length xs ∷ []) ≡ xs ++ length xs ∷ []
    by None is = ap (λ o. cond (is_some o) xs (xs ++ length xs ∷ [])) is
    by (Some n) is = let at = h (length xs) n is in let lt = place_below xs (length xs) n is in let bad : ⊥ = omega (arith, at, lt) in absurd bad

-- numbers in a row
abbrev pub numbers_from : ℕ → List TypeId → List ℕ
numbers_from i [] = []
numbers_from i (ty ∷ tys) = i ∷ numbers_from (suc i) tys

longer : (xs : List ℕ) (y : ℕ) → length (xs ++ y ∷ []) ≡ suc (length xs)
longer [] y = refl
longer (x ∷ xs) y = ap suc (longer xs y)

row_counts : (tys : List TypeId) (xs : List ℕ) (i : ℕ) → i ≡ length xs → IsCount xs → IsCount (fold joined xs (numbers_from i tys))
row_counts [] xs i at h = h
row_counts (ty ∷ tys) xs i at h =
    let one : joined xs i ≡ xs ++ length xs ∷ [] = ap (joined xs) at ∙ joined_more xs h in
    subst (λ ys. IsCount (fold joined ys (numbers_from (suc i) tys))) (sym one) (row_counts tys (xs ++ length xs ∷ []) (suc i) (ap suc at ∙ sym (longer xs (length xs))) (count_more xs h))

none_counted : IsCount []
none_counted x n h = absurd cc

-- ---- numbers that stay

-- each variable keeps its number
abbrev IsKept : List ℕ → Type 0
IsKept order = (x : VarId) → new_number order x ≡ x

kept : (order : List ℕ) → IsCount order → IsKept order
kept order h x = by (place_of order x.0) refl
  where
    by : (o : Option ℕ) → place_of order x.0 ≡ o → new_number order x ≡ x
    by None is = ap (λ o. let v : VarId = record { 0 = number_or x.0 o } in v) is
    by (Some n) is = ap (λ o. let v : VarId = record { 0 = number_or x.0 o } in v) is ∙ ap (λ k. let v : VarId = record { 0 = k } in v) (h x.0 n is)

module _ (order : List ℕ) (h : IsKept order) where
  mutual
    expr_kept : (e : Expr) → expr_renamed order e ≡ e
    expr_kept (expr.Term ty term es) = ap (expr.Term ty term) (exprs_kept es)
    expr_kept (expr.Var ty x) = ap (expr.Var ty) (h x)
    expr_kept (expr.ConstBool b) = refl
    expr_kept (expr.ConstInt ty n) = refl
    expr_kept (expr.ConstPrim ty name) = refl
    expr_kept (expr.Let ty bindings e) = ap (λ bs. expr.Let ty bs (expr_renamed order e)) (bindings_kept bindings) ∙ ap (expr.Let ty bindings) (expr_kept e)

    exprs_kept : (es : Exprs) → exprs_renamed order es ≡ es
    exprs_kept NoExpr = refl
    exprs_kept (AnExpr e es) = ap (λ x. AnExpr x (exprs_renamed order es)) (expr_kept e) ∙ ap (AnExpr e) (exprs_kept es)

    bindings_kept : (bs : LetBindings) → bindings_renamed order bs ≡ bs
    bindings_kept NoBinding = refl
    bindings_kept (ABinding x ty e bs) =
        ap (λ y. ABinding y ty (expr_renamed order e) (bindings_renamed order bs)) (h x) ∙ ap (λ y. ABinding x ty y (bindings_renamed order bs)) (expr_kept e) ∙ ap (ABinding x ty e) (bindings_kept bs)

  args_kept : (i : ℕ) (tys : List TypeId) → map (renamed order) (variables_from i tys) ≡ variables_from i tys
  args_kept i [] = refl
  args_kept i (ty ∷ tys) = ap (λ v. pattern.Var ty v ∷ map (renamed order) (variables_from (suc i) tys)) (h (record { 0 = i })) ∙ ap (λ ps. pattern.Var ty (record { 0 = i }) ∷ ps) (args_kept (suc i) tys)

-- ---- a rule over variables in a row, without variables of its own

args_expanded : (ts : List (Option Pattern)) (i : ℕ) (tys : List TypeId) → map (expanded ts) (variables_from i tys) ≡ variables_from i tys
args_expanded ts i [] = refl
args_expanded ts i (ty ∷ tys) = ap (λ ps. pattern.Var ty (record { 0 = i }) ∷ ps) (args_expanded ts (suc i) tys)

args_numbers : (i : ℕ) (tys : List TypeId) → flat_map pattern_variables (variables_from i tys) ≡ numbers_from i tys
args_numbers i [] = refl
args_numbers i (ty ∷ tys) = ap (λ xs. i ∷ xs) (args_numbers (suc i) tys)

-- what is left of it after elaboration
pub record IsSameRule (r x : Rule) (tys : List TypeId) : Type 0 where
  pub plain : IsPlainRule x tys
  pub rhs : x.rhs ≡ r.rhs

pub plain_elaborated : (ts : List (Option Pattern)) (r : Rule) (tys : List TypeId) → IsPlainRule r tys → bound_in r.rhs ≡ []
    → IsSameRule r (elaborated ts r) tys
plain_elaborated ts r tys plain none =
    let ws = whole_templates ts in
    let y = rule_expanded ws r in
    let args : map (expanded ws) r.args ≡ variables_from 0 tys = ap (map (expanded ws)) plain.args ∙ args_expanded ws 0 tys in
    let iflets : map (condition_expanded ws) r.iflets ≡ [] = ap (map (condition_expanded ws)) plain.iflets in
    let order : order_of y ≡ fold joined [] (numbers_from 0 tys) =
    ap (λ ps. fold joined [] (flat_map pattern_variables ps ++ flat_map condition_variables (map (condition_expanded ws) r.iflets) ++ bound_in r.rhs)) args
    ∙ ap (λ cs. fold joined [] (flat_map pattern_variables (variables_from 0 tys) ++ flat_map condition_variables cs ++ bound_in r.rhs)) iflets
    ∙ ap (λ xs. fold joined [] (flat_map pattern_variables (variables_from 0 tys) ++ [] ++ xs)) none
    ∙ ap (fold joined []) (append-nil (flat_map pattern_variables (variables_from 0 tys) ++ []) ∙ append-nil (flat_map pattern_variables (variables_from 0 tys)) ∙ args_numbers 0 tys) in
    let counts : IsCount (order_of y) = subst IsCount (sym order) (row_counts tys [] 0 refl none_counted) in
    let h = kept (order_of y) counts in
    record {
      plain = record { args = ap (map (renamed (order_of y))) args ∙ args_kept (order_of y) h 0 tys; iflets = ap (map (condition_renamed (order_of y))) iflets };
      rhs = expr_kept (order_of y) h r.rhs;
    }
