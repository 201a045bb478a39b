-- Bind orders after one another.
use Rattle.std.proofs.Common.{◌≡◌, ℕ, ◌+◌, ◌<◌, zero, suc, List, [], ◌∷◌, ◌++◌, length, drop, get_or, true, false, cond, Option, Some, refl, sym, ap, ◌∙◌, append_assoc, subst}
use Rattle.std.specs.Prelude.{slice_get}
use Rattle.std.proofs.lemmas.List.{drop_more, append-nil}
use Rattle.isle_core.specs.declared.BindingId.{BindingId}
use Rattle.isle_core.specs.declared.rule_sets.Binding.{Binding}
use Rattle.isle_core.specs.Bindable.{bound_by}
use Rattle.isle_blocks.specs.Needed.{parts_of, list_before, with_list, is_bound, each_needed, with_parts, unbound, needed}
use Rattle.isle_blocks.specs.Nest.{was_bound, left_one, left_calls, left_item, items_left}
use Rattle.isle_blocks.specs.Pushed.{Pushes}

pub bound_append : (bound : List ℕ) (xs ys : List BindingId) → bound_by bound (xs ++ ys) ≡ bound_by (bound_by bound xs) ys
bound_append bound [] ys = refl
bound_append bound (x ∷ xs) ys = bound_append (bound ++ x.0 ∷ []) xs ys

-- ---- what was put

pub pushed_nil : (bound : List ℕ) (out : List BindingId) → Pushes [] bound bound out out
pushed_nil bound out = record { order = sym (append-nil out); bound = refl }

pub pushed_one : (b : BindingId) (n : ℕ) (old new : List ℕ) (before after : List BindingId) → n ≡ b.0 → after ≡ before ++ b ∷ [] → new ≡ old ++ n ∷ [] → Pushes (b ∷ []) old new before after
pushed_one b n old new before after is order bound = record { order = order; bound = bound ∙ ap (λ k. old ++ k ∷ []) is }

pub pushed_then : (xs ys : List BindingId) (old mid new : List ℕ) (before between after : List BindingId) → Pushes xs old mid before between → Pushes ys mid new between after → Pushes (xs ++ ys) old new before after
pushed_then xs ys old mid new before between after p q = record {
  order = q.order ∙ ap (λ x. x ++ ys) p.order ∙ append_assoc before xs ys;
  bound = q.bound ∙ ap (λ x. bound_by x ys) p.bound ∙ sym (bound_append old xs ys);
}

-- what hangs on what those before bind
pub pushed_after : (xs : List BindingId) (rest : List ℕ → List BindingId) (old mid new : List ℕ) (before between after : List BindingId)
    → Pushes xs old mid before between → Pushes (rest mid) mid new between after → Pushes (xs ++ rest (bound_by old xs)) old new before after
pushed_after xs rest old mid new before between after p q = subst (λ x. Pushes (xs ++ rest x) old new before after) p.bound (pushed_then xs (rest mid) old mid new before between after p q)

-- under another name
pub so_named : {xs ys : List BindingId} {old new : List ℕ} {before after : List BindingId} → xs ≡ ys → Pushes xs old new before after → Pushes ys old new before after
so_named {old = old} {new = new} {before = before} {after = after} is p = subst (λ x. Pushes x old new before after) is p

-- ---- what is needed for one

-- its parts, and then it itself
pub needed_parts : (bs : List Binding) (depth less : ℕ) (bound : List ℕ) (b : BindingId) (parts : List BindingId) → depth ≡ suc less → is_bound bound b ≡ false → Some parts ≡ parts_of bs (slice_get bs b.0)
    → each_needed (needed bs less) bound parts ++ with_list (list_before (slice_get bs b.0)) b ≡ needed bs depth bound b
needed_parts bs depth less bound b parts is free has =
    ap (with_parts (needed bs less) bound (with_list (list_before (slice_get bs b.0)) b)) has ∙ ap (λ c. cond c [] (unbound bs (needed bs less) bound b (slice_get bs b.0))) (sym free) ∙ ap (λ d. needed bs d bound b) (sym is)

-- nothing, if it is bound
pub needed_none : (bs : List Binding) (depth : ℕ) (bound : List ℕ) (b : BindingId) → is_bound bound b ≡ true → needed bs depth bound b ≡ []
needed_none bs zero bound b is = refl
needed_none bs (suc depth) bound b is = ap (λ c. cond c [] (unbound bs (needed bs depth) bound b (slice_get bs b.0))) is

-- ---- loops: what is left to be put, after what was

abbrev pub Left : (all left : List BindingId) → (first old : List ℕ) → (begun before : List BindingId) → Type 0
Left all left first old begun before = (new : List ℕ) (after : List BindingId) → Pushes left old new before after → Pushes all first new begun after

-- how what is put for a list begins
abbrev Begins : (one : List ℕ → BindingId → List BindingId) → (each : List ℕ → List BindingId → List BindingId) → Type 0
Begins one each = (bound : List ℕ) (b : BindingId) (bs : List BindingId) → each bound (b ∷ bs) ≡ one bound b ++ each (bound_by bound (one bound b)) bs

pub left_more : (one : List ℕ → BindingId → List BindingId) (each : List ℕ → List BindingId → List BindingId) (all bs : List BindingId) (i : ℕ) (b d : BindingId) (start bound mid : List ℕ) (begun out between : List BindingId)
    → Begins one each → i < length bs → b ≡ get_or bs i d → Pushes (one bound b) bound mid out between
    → Left all (each bound (drop i bs)) start bound begun out → Left all (each mid (drop (i + 1) bs)) start mid begun between
left_more one each all bs i b d start bound mid begun out between begins lt item p k = λ new after q.
    let first : each bound (drop i bs) ≡ one bound b ++ each (bound_by bound (one bound b)) (drop (i + 1) bs) =
    ap (each bound) (drop_more bs i d lt) ∙ ap (λ x. each bound (x ∷ drop (i + 1) bs)) (sym item) ∙ begins bound b (drop (i + 1) bs) in
    k new after (so_named (sym first) (pushed_after (one bound b) (λ ls. each ls (drop (i + 1) bs)) bound mid new out between after p q))

pub left_none : (all left : List BindingId) (start bound : List ℕ) (begun out : List BindingId) → left ≡ [] → Left all left start bound begun out → Pushes all start bound begun out
left_none all left start bound begun out none k = k bound out (so_named (sym none) (pushed_nil bound out))

-- ---- calls that are left

-- one call more
pub left_step : (inners : ℕ → Option BindingId) (bound : List ℕ) (calls : List BindingId) (i : ℕ) (call d : BindingId) (out new all : List BindingId) → i < length calls → call ≡ get_or calls i d → new ≡ out ++ left_one (was_bound inners bound call) call
    → out ++ left_calls inners bound (drop i calls) ≡ all → new ++ left_calls inners bound (drop (i + 1) calls) ≡ all
left_step inners bound calls i call d out new all lt item is h =
    let each = left_calls inners bound in
    let rest = each (drop (i + 1) calls) in
    let first : each (drop i calls) ≡ left_one (was_bound inners bound call) call ++ rest = ap each (drop_more calls i d lt) ∙ ap (λ x. each (x ∷ drop (i + 1) calls)) (sym item) in
    ap (λ x. x ++ rest) is ∙ append_assoc out (left_one (was_bound inners bound call) call) rest ∙ ap (λ x. out ++ x) (sym first) ∙ h

-- one list more
pub item_step : (items : ℕ → Option BindingId) (called : List ℕ) (lists : List BindingId) (i : ℕ) (list d : BindingId) (out new all : List BindingId) → i < length lists → list ≡ get_or lists i d → new ≡ out ++ left_item (is_bound called list) (items list.0)
    → out ++ items_left items called (drop i lists) ≡ all → new ++ items_left items called (drop (i + 1) lists) ≡ all
item_step items called lists i list d out new all lt item is h =
    let each = items_left items called in
    let rest = each (drop (i + 1) lists) in
    let first : each (drop i lists) ≡ left_item (is_bound called list) (items list.0) ++ rest = ap each (drop_more lists i d lt) ∙ ap (λ x. each (x ∷ drop (i + 1) lists)) (sym item) in
    ap (λ x. x ++ rest) is ∙ append_assoc out (left_item (is_bound called list) (items list.0)) rest ∙ ap (λ x. out ++ x) (sym first) ∙ h
