-- Lets after lets.
use Rattle.std.proofs.Common.{◌≡◌, ℕ, ◌+◌, ◌<◌, List, [], ◌∷◌, ◌++◌, length, drop, get_or, map, Option, Some, refl, sym, ap, ◌∙◌, append_assoc, subst}
use Rattle.std.proofs.lemmas.List.{drop_more, append-nil}
use Rattle.isle_core.specs.declared.BindingId.{BindingId}
use Rattle.isle_core.specs.Bindable.{bound_by}
use Rattle.isle_core.specs.Setting.{Setting}
use Rattle.isle_tree.specs.declared.tree.Stmt.{Stmt as CodeStmt}
use Rattle.isle_tree.specs.Program.{Body}
use Rattle.isle_tree.specs.Views.{stmt}
use Rattle.isle_simulation.specs.Statements.{bound_expr, binds_list, stmt_before, let_of, lets}
use Rattle.isle_emission.specs.BodyOnto.{body_onto}
use Rattle.isle_emission.specs.Built.{AreComputed}
use Rattle.isle_emission.specs.PushedLets.{PushesLets}
use Rattle.isle_emission.proofs.Onto.{onto_pushed}

-- ---- what lets are of several lists

lets_append : (s : Setting) (bound : List ℕ) (xs ys : List BindingId) (end : Option Body) → lets s bound (xs ++ ys) end ≡ lets s bound xs (lets s (bound_by bound xs) ys end)
lets_append s bound [] ys end = refl
lets_append s bound (x ∷ xs) ys end = ap (stmt_before (let_of (binds_list s x) x.0 (bound_expr s bound x))) (lets_append s (bound ++ x.0 ∷ []) xs ys end)

bound_append : (bound : List ℕ) (xs ys : List BindingId) → bound_by bound (xs ++ ys) ≡ bound_by (bound_by bound xs) ys
bound_append bound [] ys = refl
bound_append bound (x ∷ xs) ys = bound_append (bound ++ x.0 ∷ []) xs ys

pub grown : (first old new : List ℕ) → (more : List ℕ) × (old ≡ first ++ more) → (more : List ℕ) × (new ≡ old ++ more) → (more : List ℕ) × (new ≡ first ++ more)
grown first old new h k = (h.0 ++ k.0, k.1 ∙ ap (λ ls. ls ++ k.0) h.1 ∙ append_assoc first h.0 k.0)

-- each of two lists is computed, if each of both is
pub computed_both : (s : Setting) (bound : List ℕ) (xs ys : List BindingId) → AreComputed s bound (xs ++ ys) → AreComputed s bound xs × AreComputed s (bound_by bound xs) ys
computed_both s bound [] ys h = (tt, h)
computed_both s bound (x ∷ xs) ys h = let k = computed_both s (bound ++ x.0 ∷ []) xs ys h.1 in ((h.0, k.0), k.1)

-- ---- lets that were pushed

pub pushed_nil : (s : Setting) (bound : List ℕ) (out : List CodeStmt) → PushesLets s [] bound bound out out
pushed_nil s bound out = record { lets = λ end. refl; bound = refl; grows = ([], sym (append-nil bound)) }

pub pushed_then : (s : Setting) (xs ys : List BindingId) (old mid new : List ℕ) (before between after : List CodeStmt)
    → PushesLets s xs old mid before between → PushesLets s ys mid new between after → PushesLets s (xs ++ ys) old new before after
pushed_then s xs ys old mid new before between after p q = record {
  lets = λ end. q.lets end ∙ p.lets (lets s mid ys end) ∙ ap (λ ls. body_onto (map stmt before) (lets s old xs (lets s ls ys end))) p.bound ∙ ap (body_onto (map stmt before)) (sym (lets_append s old xs ys end));
  bound = q.bound ∙ ap (λ ls. bound_by ls ys) p.bound ∙ sym (bound_append old xs ys);
  grows = grown old mid new p.grows q.grows;
}

-- those that hang on what the lets before bind
pub pushed_after : (s : Setting) (xs : List BindingId) (rest : List ℕ → List BindingId) (old mid new : List ℕ) (before between after : List CodeStmt)
    → PushesLets s xs old mid before between → PushesLets s (rest mid) mid new between after → PushesLets s (xs ++ rest (bound_by old xs)) old new before after
pushed_after s xs rest old mid new before between after p q =
    subst (λ ls. PushesLets s (xs ++ rest ls) old new before after) p.bound (pushed_then s xs (rest mid) old mid new before between after p q)

-- and so they are computed
pub computed_after : (s : Setting) (xs : List BindingId) (rest : List ℕ → List BindingId) (old mid : List ℕ) (before between : List CodeStmt)
    → PushesLets s xs old mid before between → AreComputed s old (xs ++ rest (bound_by old xs)) → AreComputed s mid (rest mid)
computed_after s xs rest old mid before between p h = subst (λ ls. AreComputed s ls (rest ls)) (sym p.bound) (computed_both s old xs (rest (bound_by old xs)) h).1

-- under another name
pub so_named : {s : Setting} {binds others : List BindingId} {old new : List ℕ} {before after : List CodeStmt} → binds ≡ others → PushesLets s binds old new before after → PushesLets s others old new before after
so_named {s = s} {old = old} {new = new} {before = before} {after = after} is p = subst (λ bs. PushesLets s bs old new before after) is p

-- one
pub pushed_one : (s : Setting) (b : BindingId) (made : CodeStmt) (k : ℕ) (old new : List ℕ) (before after : List CodeStmt)
    → k ≡ b.0 → Some (stmt made) ≡ let_of (binds_list s b) b.0 (bound_expr s old b) → after ≡ before ++ made ∷ [] → new ≡ old ++ k ∷ [] → PushesLets s (b ∷ []) old new before after
pushed_one s b made k old new before after same is pushed bound = record {
  lets = λ end. ap (λ xs. body_onto (map stmt xs) end) pushed ∙ onto_pushed before made end ∙ ap (λ o. body_onto (map stmt before) (stmt_before o end)) is;
  bound = bound ∙ ap (λ j. old ++ j ∷ []) same;
  grows = (k ∷ [], bound);
}

-- ---- loops: what is left to be pushed, after what was

abbrev pub Left : Setting → (all left : List BindingId) → (first old : List ℕ) → (begun before : List CodeStmt) → Type 0
Left s all left first old begun before = (new : List ℕ) (after : List CodeStmt) → PushesLets s left old new before after → PushesLets s all first new begun after

-- and it is computed
pub record IsLeft (s : Setting) (all left : List BindingId) (first old : List ℕ) (begun before : List CodeStmt) : Type 0 where
  pub rest : Left s all left first old begun before
  pub there : AreComputed s old left

-- how what is made for a list begins
abbrev pub Begins : (one : List ℕ → BindingId → List BindingId) → (each : List ℕ → List BindingId → List BindingId) → Type 0
Begins one each = (bound : List ℕ) (b : BindingId) (bs : List BindingId) → each bound (b ∷ bs) ≡ one bound b ++ each (bound_by bound (one bound b)) bs

-- the first of those that are left
first : (one : List ℕ → BindingId → List BindingId) (each : List ℕ → List BindingId → List BindingId) (bs : List BindingId) (i : ℕ) (b d : BindingId) (bound : List ℕ) → Begins one each → i < length bs → b ≡ get_or bs i d
    → each bound (drop i bs) ≡ one bound b ++ each (bound_by bound (one bound b)) (drop (i + 1) bs)
first one each bs i b d bound begins lt item = ap (each bound) (drop_more bs i d lt) ∙ ap (λ x. each bound (x ∷ drop (i + 1) bs)) (sym item) ∙ begins bound b (drop (i + 1) bs)

pub first_there : (s : Setting) (one : List ℕ → BindingId → List BindingId) (each : List ℕ → List BindingId → List BindingId) (bs : List BindingId) (i : ℕ) (b d : BindingId) (bound : List ℕ)
    → Begins one each → i < length bs → b ≡ get_or bs i d → AreComputed s bound (each bound (drop i bs)) → AreComputed s bound (one bound b)
first_there s one each bs i b d bound begins lt item h =
    (computed_both s bound (one bound b) (each (bound_by bound (one bound b)) (drop (i + 1) bs)) (subst (AreComputed s bound) (first one each bs i b d bound begins lt item) h)).0

pub left_more : (s : Setting) (one : List ℕ → BindingId → List BindingId) (each : List ℕ → List BindingId → List BindingId) (all bs : List BindingId) (i : ℕ) (b d : BindingId) (start bound mid : List ℕ) (begun out between : List CodeStmt)
    → Begins one each → i < length bs → b ≡ get_or bs i d → PushesLets s (one bound b) bound mid out between
    → IsLeft s all (each bound (drop i bs)) start bound begun out → IsLeft s all (each mid (drop (i + 1) bs)) start mid begun between
left_more s one each all bs i b d start bound mid begun out between begins lt item p k =
    let whole = first one each bs i b d bound begins lt item in
    record {
      rest = λ new after q.
          let behind = pushed_after s (one bound b) (λ ls. each ls (drop (i + 1) bs)) bound mid new out between after p q in
          k.rest new after (subst (λ xs. PushesLets s xs bound new out after) (sym whole) behind);
      there = computed_after s (one bound b) (λ ls. each ls (drop (i + 1) bs)) bound mid out between p (subst (AreComputed s bound) whole k.there);
    }

pub left_none : (s : Setting) (all left : List BindingId) (start bound : List ℕ) (begun out : List CodeStmt) → left ≡ [] → IsLeft s all left start bound begun out → PushesLets s all start bound begun out
left_none s all left start bound begun out none k = k.rest bound out (subst (λ xs. PushesLets s xs bound bound out out) (sym none) (pushed_nil s bound out))
