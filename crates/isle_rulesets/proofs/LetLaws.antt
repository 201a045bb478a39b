-- The values of a `let` are numbered one after another, and its variables stand at their paths.
use Rattle.std.proofs.Common.{◌≡◌, ◌⊎◌, inl, inr, ⊎_elim, ℕ, zero, suc, ◌<◌, ◌≤◌, ◌+◌, List, [], ◌∷◌, ◌++◌, length, map, take, get_or, Bool, true, false, cond, eqb, eqb-true, Option, Some, None, T, refl, sym, ap, ◌∙◌, subst, arith, append_assoc, append-nil}
use Rattle.std.specs.Prelude.{Contains, IsSome, fold, slice_get}
use Rattle.std.specs.Option.{option_map}
use Rattle.std.proofs.Math.Dec.{eqb_refl}
use Rattle.std.proofs.lemmas.List.{map_more, map-append, take_all}
use Rattle.std.proofs.lemmas.List.Sums.{fold_push}
use Rattle.isle_core.specs.declared.BindingId.{BindingId}
use Rattle.isle_core.specs.declared.TypeId.{TypeId}
use Rattle.isle_core.specs.declared.types.Term.{Term}
use Rattle.isle_core.specs.declared.rules.Expr.{Expr as CodeExpr}
use Rattle.isle_core.specs.declared.rules.Expr.TheVariants as code_expr
use Rattle.isle_core.specs.declared.rules.Expr.TheFolds.{fold-roll-Expr, fold-LetBinding, fold_out-LetBinding}
use Rattle.isle_core.specs.declared.rules.LetBinding.{LetBinding}
use Rattle.isle_core.specs.Expr as pure
use Rattle.isle_core.specs.Expr.{Expr, LetBindings, NoBinding}
use Rattle.isle_core.specs.RuleViews.{SeenBinding, expr, expr_step, bound_step, bindings_of}
use Rattle.isle_core.specs.BuiltRule.{HasBuiltTerms, BindingsHaveBuiltTerms}
use Rattle.isle_core.specs.Calling.{impure, impure_bindings}
use Rattle.isle_core.specs.Match.{with}
use Rattle.isle_core.specs.Path.{Path, paths_of}
use Rattle.isle_core.specs.RightSide.{path, let_places}
use Rattle.isle_core.specs.RulePaths.{expr_paths, bindings_paths}
use Rattle.isle_core.specs.Rule.{Environment}
use Rattle.isle_core.specs.Scope.{let_scope, IsInScope, AreLetsInScope}
use Rattle.isle_core.specs.Tests.{Places}
use Rattle.isle_core.proofs.Contained.{contained_cases, none_contained, head_contained, tail_contained}
use Rattle.isle_scope.specs.Table.{newest, held}
use Rattle.isle_rulesets.specs.Met.{expr_calls, bindings_calls, expr_lists, bindings_lists}
use Rattle.isle_rulesets.specs.Numbering.{Numbered}
use Rattle.isle_rulesets.specs.RightSides.{Variables, names, bound, StandsAt, Stand, AreThere, Grows, NumbersExpr, NumbersLets, Given, Binds}
use Rattle.isle_rulesets.proofs.PatternTestLaws.{env_of}
use Rattle.isle_rulesets.proofs.RightSideLaws.{grows_self, grows_then, behind, stand_kept, stand_there, there_stand, places_of}

-- ---- what contracts see of a `let`

seen_bindings : (bs : List LetBinding) → map (fold-LetBinding Expr SeenBinding expr_step bound_step) bs ≡ map bound bs
seen_bindings [] = refl
seen_bindings (b ∷ bs) = ap (λ c. c ∷ map (fold-LetBinding Expr SeenBinding expr_step bound_step) bs) (fold_out-LetBinding Expr SeenBinding expr_step bound_step b) ∙ ap (λ cs. bound b ∷ cs) (seen_bindings bs)

expr-let : (ty : TypeId) (bs : List LetBinding) (e : CodeExpr) → expr (code_expr.Let ty bs e) ≡ pure.Let ty (bindings_of (map bound bs)) (expr e)
expr-let ty bs e = ap expr (sym (code_expr.rolls-Let ty bs e)) ∙ fold-roll-Expr Expr SeenBinding expr_step bound_step _ ∙ ap (λ cs. pure.Let ty (bindings_of cs) (expr e)) (seen_bindings bs)

-- so of one whose parts were reached
pub let_seen : (e : CodeExpr) (ty : TypeId) (bs cs : List LetBinding) (inner d : CodeExpr) → e ≡ code_expr.Let ty bs inner → cs ≡ bs → d ≡ inner → expr e ≡ pure.Let ty (bindings_of (map bound cs)) (expr d)
let_seen e ty bs cs inner d is parts within = ap expr is ∙ expr-let ty bs inner ∙ ap (λ xs. pure.Let ty (bindings_of (map bound xs)) (expr inner)) (sym parts) ∙ ap (λ x. pure.Let ty (bindings_of (map bound cs)) (expr x)) (sym within)

-- ---- variables that have numbers

some_newest : (x : ℕ) (o : Option BindingId) (b : ℕ × BindingId) (t : Bool) → eqb b.0 x ≡ t → IsSome o → IsSome (cond t (Some b.1) o)
some_newest x o b true e h = refl
some_newest x o b false e h = h

held_on : (vs : Variables) (x : ℕ) (o : Option BindingId) → IsSome o → IsSome (fold (newest x) o vs)
held_on [] x o h = h
held_on (b ∷ vs) x o h = held_on vs x (newest x o b) (some_newest x o b (eqb b.0 x) refl h)

-- a number is itself
pub itself : (x : ℕ) → eqb x x ≡ true
itself x = holds (eqb x x) (eqb_refl x)
  where
    holds : (b : Bool) → T b → b ≡ true
    holds true t = refl
    holds false t = absurd t

held_from : (vs : Variables) (x : ℕ) (o : Option BindingId) → Contains (names vs) x → IsSome (fold (newest x) o vs)
held_from [] x o c = absurd (none_contained x c)
held_from (b ∷ vs) x o c = ⊎_elim (λ e. held_on vs x (newest x o b) (subst (λ t. IsSome (cond t (Some b.1) o)) (sym (ap (λ y. eqb y x) e ∙ itself x)) refl)) (λ d. held_from vs x (newest x o b) d) (contained_cases b.0 (names vs) x c)

-- a variable with a number has one
pub named_held : (vs : Variables) (x : ℕ) → Contains (names vs) x → IsSome (held vs x)
named_held vs x c = held_from vs x None c

-- what is there is not nothing
pub none_held : {A B : Type 0} (f : A → B) (o : Option A) (known : Option B) → o ≡ None → option_map f o ≡ known → IsSome known → ⊥
none_held f None None e same h = cc
none_held f None (Some b) e same h = cc
none_held f (Some a) known e same h = cc

new_or_old : (b : ℕ × BindingId) (vs : Variables) (x : ℕ) (o : Option BindingId) (t : Bool) → eqb b.0 x ≡ t → IsSome (cond t (Some b.1) o) → Contains (b.0 ∷ names vs) x ⊎ IsSome o
new_or_old b vs x o true e h = inl (subst (Contains (b.0 ∷ names vs)) (eqb-true b.0 x e) (head_contained b.0 (names vs)))
new_or_old b vs x o false e h = inr h

named_or : (vs : Variables) (x : ℕ) (o : Option BindingId) → IsSome (fold (newest x) o vs) → Contains (names vs) x ⊎ IsSome o
named_or [] x o h = inr h
named_or (b ∷ vs) x o h = ⊎_elim (λ c. inl (tail_contained b.0 (names vs) x c)) (λ k. new_or_old b vs x o (eqb b.0 x) refl k) (named_or vs x (newest x o b) h)

no_some : (o : Option BindingId) → None ≡ o → IsSome o → ⊥
no_some None e h = cc
no_some (Some b) e h = cc

-- and one that has one is among them
pub held_named : (vs : Variables) (x : ℕ) → IsSome (held vs x) → Contains (names vs) x
held_named vs x h = ⊎_elim (λ c. c) (λ k. absurd (no_some None refl k)) (named_or vs x None h)

-- a variable more stands at the path of its number
with_stands : (ps : List Path) (vs : Variables) (places : Places) (x : ℕ) (b : BindingId) (p : Path) → slice_get ps b.0 ≡ Some p → Stand ps vs places → Stand ps (vs ++ (x, b) ∷ []) (with places x p)
with_stands ps vs places x b p there s = record { by = λ y. subst (λ o. StandsAt ps o (with places x p y)) (sym (fold_push (newest y) None vs (x, b))) (pick y (eqb x y)) }
  where
    pick : (y : ℕ) (t : Bool) → StandsAt ps (cond t (Some b) (held vs y)) (cond t (Some p) (places y))
    pick y true = there
    pick y false = s.by y

-- ---- one variable more

none_more : (k : ℕ) → k ≡ k + 0
none_more k = omega arith

impure_push : (env : Environment) (bs : List SeenBinding) (c : SeenBinding) → impure_bindings env (bindings_of (bs ++ c ∷ [])) ≡ impure_bindings env (bindings_of bs) + impure env c.2
impure_push env [] c = omega arith
impure_push env (b ∷ bs) c = ap (λ n. impure env b.2 + n) (impure_push env bs c) ∙ sym (behind (impure env b.2) (impure_bindings env (bindings_of bs)) (impure env c.2))

places_push : (env : Environment) (bs : List SeenBinding) (c : SeenBinding) (places : Places) (n : ℕ) → let_places env (bindings_of (bs ++ c ∷ [])) places n ≡ with (let_places env (bindings_of bs) places n) c.0.0 (path env c.2 (let_places env (bindings_of bs) places n) (n + impure_bindings env (bindings_of bs)))
places_push env [] c places n = ap (λ k. with places c.0.0 (path env c.2 places k)) (none_more n)
places_push env (b ∷ bs) c places n =
    let mid = with places b.0.0 (path env b.2 places n) in
    let rest = let_places env (bindings_of bs) mid (n + impure env b.2) in
    places_push env bs c mid (n + impure env b.2) ∙ ap (λ k. with rest c.0.0 (path env c.2 rest k)) (behind n (impure env b.2) (impure_bindings env (bindings_of bs)))

calls_push : (env : Environment) (bs : List SeenBinding) (c : SeenBinding) (places : Places) (n : ℕ) → bindings_calls env (bindings_of (bs ++ c ∷ [])) places n ≡ bindings_calls env (bindings_of bs) places n ++ expr_calls env c.2 (let_places env (bindings_of bs) places n) (n + impure_bindings env (bindings_of bs))
calls_push env [] c places n = append-nil (expr_calls env c.2 places n) ∙ ap (expr_calls env c.2 places) (none_more n)
calls_push env (b ∷ bs) c places n =
    let mid = with places b.0.0 (path env b.2 places n) in
    let rest = let_places env (bindings_of bs) mid (n + impure env b.2) in
    ap (λ cs. expr_calls env b.2 places n ++ cs) (calls_push env bs c mid (n + impure env b.2) ∙ ap (λ k. bindings_calls env (bindings_of bs) mid (n + impure env b.2) ++ expr_calls env c.2 rest k) (behind n (impure env b.2) (impure_bindings env (bindings_of bs))))
    ∙ sym (append_assoc (expr_calls env b.2 places n) (bindings_calls env (bindings_of bs) mid (n + impure env b.2)) (expr_calls env c.2 rest (n + impure_bindings env (bindings_of (b ∷ bs)))))

lists_push : (env : Environment) (bs : List SeenBinding) (c : SeenBinding) (places : Places) (n : ℕ) → bindings_lists env (bindings_of (bs ++ c ∷ [])) places n ≡ bindings_lists env (bindings_of bs) places n ++ expr_lists env c.2 (let_places env (bindings_of bs) places n) (n + impure_bindings env (bindings_of bs))
lists_push env [] c places n = append-nil (expr_lists env c.2 places n) ∙ ap (expr_lists env c.2 places) (none_more n)
lists_push env (b ∷ bs) c places n =
    let mid = with places b.0.0 (path env b.2 places n) in
    let rest = let_places env (bindings_of bs) mid (n + impure env b.2) in
    ap (λ cs. expr_lists env b.2 places n ++ cs) (lists_push env bs c mid (n + impure env b.2) ∙ ap (λ k. bindings_lists env (bindings_of bs) mid (n + impure env b.2) ++ expr_lists env c.2 rest k) (behind n (impure env b.2) (impure_bindings env (bindings_of bs))))
    ∙ sym (append_assoc (expr_lists env b.2 places n) (bindings_lists env (bindings_of bs) mid (n + impure env b.2)) (expr_lists env c.2 rest (n + impure_bindings env (bindings_of (b ∷ bs)))))

paths_push : (env : Environment) (bs : List SeenBinding) (c : SeenBinding) (places : Places) (n : ℕ) → bindings_paths env (bindings_of (bs ++ c ∷ [])) places n ≡ bindings_paths env (bindings_of bs) places n ++ expr_paths env c.2 (let_places env (bindings_of bs) places n) (n + impure_bindings env (bindings_of bs))
paths_push env [] c places n = append-nil (expr_paths env c.2 places n) ∙ ap (expr_paths env c.2 places) (none_more n)
paths_push env (b ∷ bs) c places n =
    let mid = with places b.0.0 (path env b.2 places n) in
    let rest = let_places env (bindings_of bs) mid (n + impure env b.2) in
    ap (λ cs. expr_paths env b.2 places n ++ cs) (paths_push env bs c mid (n + impure env b.2) ∙ ap (λ k. bindings_paths env (bindings_of bs) mid (n + impure env b.2) ++ expr_paths env c.2 rest k) (behind n (impure env b.2) (impure_bindings env (bindings_of bs))))
    ∙ sym (append_assoc (expr_paths env b.2 places n) (bindings_paths env (bindings_of bs) mid (n + impure env b.2)) (expr_paths env c.2 rest (n + impure_bindings env (bindings_of (b ∷ bs)))))

scope_push : (scope : List ℕ) (bs : List SeenBinding) (c : SeenBinding) → let_scope scope (bindings_of (bs ++ c ∷ [])) ≡ let_scope scope (bindings_of bs) ++ c.0.0 ∷ []
scope_push scope [] c = refl
scope_push scope (b ∷ bs) c = scope_push (scope ++ b.0.0 ∷ []) bs c

lets_push : (env : Environment) (places : Places) (then : Variables) (old mid new : Numbered) (before middle after : List BindingId) (bs : List SeenBinding) (c : SeenBinding) (b : BindingId) → NumbersLets env places then old mid before middle (bindings_of bs)
    → NumbersExpr env (let_places env (bindings_of bs) places old.calls) mid new middle after c.2 b → NumbersLets env places (then ++ (c.0.0, b) ∷ []) old new before after (bindings_of (bs ++ c ∷ []))
lets_push env places then old mid new before middle after bs c b g h = record {
  grows = rw (paths_push env bs c places old.calls, calls_push env bs c places old.calls, lists_push env bs c places old.calls, impure_push env bs c)
      (grows_then old mid new before middle after (bindings_paths env (bindings_of bs) places old.calls) (expr_paths env c.2 at n) (bindings_calls env (bindings_of bs) places old.calls) (expr_calls env c.2 at n) (bindings_lists env (bindings_of bs) places old.calls) (expr_lists env c.2 at n) (impure_bindings env (bindings_of bs)) (impure env c.2) g.grows
      (subst (λ m. Grows mid new middle after (expr_paths env c.2 at m) (expr_calls env c.2 at m) (expr_lists env c.2 at m) (impure env c.2)) g.grows.calls h.grows));
  stand = subst (Stand (paths_of new.bindings) (then ++ (c.0.0, b) ∷ [])) (sym (places_push env bs c places old.calls))
      (with_stands (paths_of new.bindings) then at c.0.0 b (path env c.2 at n) (subst (λ m. slice_get (paths_of new.bindings) b.0 ≡ Some (path env c.2 at m)) g.grows.calls h.found) (stand_kept (paths_of mid.bindings) (paths_of new.bindings) then at h.grows.extends g.stand));
}
  where
    n : ℕ
    n = old.calls + impure_bindings env (bindings_of bs)

    at : Places
    at = let_places env (bindings_of bs) places old.calls

-- ---- the code's list

-- before the first
pub lets_first : (terms : List Term) (variables : Variables) (n : Numbered) (bs : List BindingId) → Binds terms variables variables n n bs bs NoBinding
lets_first terms variables n bs = record { more = []; longer = sym (append-nil variables); known = refl; numbers = λ env places t s. record { grows = grows_self n bs; stand = s } }

-- after the next one
pub lets_next : (terms : List Term) (variables then longer : Variables) (old mid new : Numbered) (before middle after : List BindingId) (es : List LetBinding) (i : ℕ) (x : LetBinding) (b : BindingId) → i < length es → x ≡ get_or es i x
    → Binds terms variables then old mid before middle (bindings_of (map bound (take i es))) → Given terms then mid new middle after (expr x.val) b → longer ≡ then ++ (x.var.0, b) ∷ []
    → Binds terms variables longer old new before after (bindings_of (map bound (take (i + 1) es)))
lets_next terms variables then longer old mid new before middle after es i x b lt is g h more =
    let one : map bound (take (i + 1) es) ≡ map bound (take i es) ++ bound x ∷ [] = map_more bound es i x lt ∙ ap (λ y. map bound (take i es) ++ bound y ∷ []) (sym is) in
    subst (λ vs. Binds terms variables vs old new before after (bindings_of (map bound (take (i + 1) es)))) (sym more)
    (subst (λ cs. Binds terms variables (then ++ (x.var.0, b) ∷ []) old new before after (bindings_of cs)) (sym one)
    (record {
      more = g.more ++ (x.var.0, b) ∷ [];
      longer = ap (λ vs. vs ++ (x.var.0, b) ∷ []) g.longer ∙ append_assoc variables g.more ((x.var.0, b) ∷ []);
      known = map-append (λ (v : ℕ × BindingId). v.0) then ((x.var.0, b) ∷ []) ∙ ap (λ vs. vs ++ x.var.0 ∷ []) g.known ∙ sym (scope_push (names variables) (map bound (take i es)) (bound x));
      numbers = λ env places t s. let n = g.numbers env places t s in
          lets_push env places then old mid new before middle after (map bound (take i es)) (bound x) b n (h env (let_places env (bindings_of (map bound (take i es))) places old.calls) t n.stand);
    }))

-- after the last one
pub lets_all : (terms : List Term) (variables then : Variables) (old new : Numbered) (before after : List BindingId) (es : List LetBinding) (i : ℕ) → length es ≤ i → Binds terms variables then old new before after (bindings_of (map bound (take i es))) → Binds terms variables then old new before after (bindings_of (map bound es))
lets_all terms variables then old new before after es i le h = subst (λ xs. Binds terms variables then old new before after (bindings_of (map bound xs))) (take_all i es le) h

-- a path stands at the number of each variable after them
pub lets_there : (terms : List Term) (variables then : Variables) (old new : Numbered) (before after : List BindingId) (bs : LetBindings) → AreThere (paths_of old.bindings) variables → Binds terms variables then old new before after bs → AreThere (paths_of new.bindings) then
lets_there terms variables then old new before after bs h g =
    let places = places_of (paths_of old.bindings) variables in
    stand_there (paths_of new.bindings) then (let_places (env_of terms) bs places old.calls) (g.numbers (env_of terms) places refl (there_stand (paths_of old.bindings) variables h)).stand

-- the value of the next one is in scope
pub let_known : (scope : List ℕ) (es : List LetBinding) (i : ℕ) (x : LetBinding) → AreLetsInScope scope (bindings_of (map bound es)) → i < length es → x ≡ get_or es i x → IsInScope (let_scope scope (bindings_of (map bound (take i es)))) (expr x.val)
let_known scope [] i x h lt is = absurd (omega arith)
let_known scope (y ∷ es) zero x h lt is = subst (λ (z : LetBinding). IsInScope scope (expr z.val)) (sym is) h.0
let_known scope (y ∷ es) (suc i) x h lt is = let_known (scope ++ y.var.0 ∷ []) es i x h.1 (omega arith) is

-- and its terms are built
pub let_terms : (terms : List Term) (es : List LetBinding) (i : ℕ) (x : LetBinding) → BindingsHaveBuiltTerms terms (bindings_of (map bound es)) → i < length es → x ≡ get_or es i x → HasBuiltTerms terms (expr x.val)
let_terms terms [] i x h lt is = absurd (omega arith)
let_terms terms (y ∷ es) zero x h lt is = subst (λ (z : LetBinding). HasBuiltTerms terms (expr z.val)) (sym is) h.0
let_terms terms (y ∷ es) (suc i) x h lt is = let_terms terms es i x h.1 (omega arith) is

-- ---- a `let`

-- what it gives, after its values
pub let_given : (terms : List Term) (variables then : Variables) (old mid new : Numbered) (before middle after : List BindingId) (e inner : Expr) (ty : TypeId) (bs : LetBindings) (b : BindingId) → e ≡ pure.Let ty bs inner → Binds terms variables then old mid before middle bs → Given terms then mid new middle after inner b
    → Given terms variables old new before after e b
let_given terms variables then old mid new before middle after e inner ty bs b is g h env places t s =
    let at = let_places env bs places old.calls in
    let n = g.numbers env places t s in
    let k = subst (λ m. NumbersExpr env at (record { bindings = mid.bindings; calls = m; lists = mid.lists }) new middle after inner b) n.grows.calls (h env at t n.stand) in
    subst (λ d. NumbersExpr env places old new before after d b) (sym is)
    (record {
      grows = grows_then old mid new before middle after (bindings_paths env bs places old.calls) (expr_paths env inner at (old.calls + impure_bindings env bs)) (bindings_calls env bs places old.calls) (expr_calls env inner at (old.calls + impure_bindings env bs)) (bindings_lists env bs places old.calls) (expr_lists env inner at (old.calls + impure_bindings env bs)) (impure_bindings env bs) (impure env inner) n.grows
          (subst (λ m. Grows mid new middle after (expr_paths env inner at m) (expr_calls env inner at m) (expr_lists env inner at m) (impure env inner)) n.grows.calls (h env at t n.stand).grows);
      found = k.found;
    })
