-- Which inner values and items are found.
use Rattle.std.proofs.Common.{◌≡◌, ⊎_elim, ℕ, ◌+◌, ◌<◌, ltb, List, [], ◌∷◌, ◌++◌, length, get_or, take, Bool, true, false, cond, Option, Some, None, Ordering, Less, Equal, Greater, refl, sym, ap, ◌∙◌, subst, arith}
use Rattle.std.specs.Prelude.{slice_get}
use Rattle.std.specs.Ordering.{nat_cmp, is_eq}
use Rattle.std.specs.BTreeMap.{BTreeMap, get, Updates}
use Rattle.std.proofs.lemmas.Bool.{ltb-true, lt-ltb}
use Rattle.std.proofs.lemmas.List.{take_more, length-take-le}
use Rattle.std.proofs.lemmas.Map.Lookups.{exact_unsigned}
use Rattle.isle_core.specs.declared.BindingId.{BindingId}
use Rattle.isle_core.specs.declared.rule_sets.Binding.{Binding}
use Rattle.isle_core.specs.declared.rule_sets.Binding.TheVariants as binding
use Rattle.isle_core.specs.BindingParts.{list_of, option_of}
use Rattle.isle_core.proofs.OptionLaws.{some_same}
use Rattle.isle_blocks.specs.Followers.{follower, followed, earlier, source_at, FindsFollowers}
use Rattle.isle_blocks.specs.declared.followers.Following.{Following}
use Rattle.isle_blocks.specs.declared.followers.Following.TheVariants as following
use Rattle.isle_blocks.proofs.PushedLists.{get_push, get_last, get_either}

-- ---- one binding more

eq_is : (a b : ℕ) → is_eq (nat_cmp a b) ≡ true → a ≡ b
eq_is a b e = exact_unsigned a b (pick (nat_cmp a b) e)
  where
    pick : (o : Ordering) → is_eq o ≡ true → o ≡ Equal
    pick Less k = cc
    pick Equal k = refl
    pick Greater k = cc

-- if a binding has a source, it is what follows it
pub inner_is : (y : Binding) (s : BindingId) → option_of y ≡ Some s → y ≡ binding.MatchSome s
inner_is (binding.MatchSome source) s e = ap binding.MatchSome (some_same source s e)
inner_is y s e = cc

item_is : (y : Binding) (s : BindingId) → list_of y ≡ Some s → y ≡ binding.Iterator s
item_is (binding.Iterator source) s e = ap binding.Iterator (some_same source s e)
item_is y s e = cc

followed_is : (kind : Following) (y : Binding) (s : BindingId) → followed kind y ≡ Some s → y ≡ follower kind s
followed_is following.Inner y s e = inner_is y s e
followed_is following.Item y s e = item_is y s e

-- what follows a source has it
follower_has : (kind : Following) (s : BindingId) → followed kind (follower kind s) ≡ Some s
follower_has following.Inner s = refl
follower_has following.Item s = refl

source_same : (kind : Following) (y : Binding) (a c : BindingId) → y ≡ follower kind a → y ≡ follower kind c → a ≡ c
source_same kind y a c p q = some_same a c (sym (follower_has kind a) ∙ sym (ap (followed kind) p) ∙ ap (followed kind) q ∙ follower_has kind c)

-- the binding follows nothing before it
other_followers : (kind : Following) (bs : List Binding) (x : Binding) (followers : ℕ → Option BindingId) → source_at kind (length bs) x ≡ None → FindsFollowers kind bs followers → FindsFollowers kind (bs ++ x ∷ []) followers
other_followers kind bs x followers none h = record {
  found = λ c b e. (get_push bs x b.0 (follower kind (record { 0 = c })) (h.found c b e).0, (h.found c b e).1);
  all = λ source b e lt. ⊎_elim (λ k. h.all source b k lt) (λ k. absurd (last source b lt k.0 k.1)) (get_either bs x b.0 (follower kind source) e);
}
  where
    last : (source b : BindingId) → source.0 < b.0 → b.0 ≡ length bs → x ≡ follower kind source → ⊥
    last source b lt is same =
        let less : source.0 < length bs = omega (arith, lt, is) in
        let one : source_at kind (length bs) x ≡ Some source = ap (source_at kind (length bs)) same ∙ ap (earlier (length bs)) (follower_has kind source) ∙ ap (λ t. cond t (Some source) None) (lt-ltb source.0 (length bs) less) in
        cc

-- it follows one
one_follower : (kind : Following) (bs : List Binding) (x : Binding) (source : BindingId) (old new : BTreeMap ℕ BindingId) → source_at kind (length bs) x ≡ Some source → FindsFollowers kind bs (get nat_cmp old)
    → Updates nat_cmp old new source.0 (Some (record { 0 = length bs })) → FindsFollowers kind (bs ++ x ∷ []) (get nat_cmp new)
one_follower kind bs x source old new one h u = record { found = found; all = all }
  where
    is_one : (o : Option BindingId) → followed kind x ≡ o → earlier (length bs) o ≡ Some source → (x ≡ follower kind source) × (source.0 < length bs)
    is_one None k e = cc
    is_one (Some s) k e = pick (ltb s.0 (length bs)) refl e
      where
        pick : (t : Bool) → ltb s.0 (length bs) ≡ t → cond t (Some s) None ≡ Some source → (x ≡ follower kind source) × (source.0 < length bs)
        pick true lt e' = let same = some_same s source e' in (followed_is kind x source (k ∙ ap Some same), subst (λ (z : BindingId). z.0 < length bs) same (ltb-true s.0 (length bs) lt))
        pick false lt e' = cc

    is : (x ≡ follower kind source) × (source.0 < length bs)
    is = is_one (followed kind x) refl one

    found : (c : ℕ) (b : BindingId) → get nat_cmp new c ≡ Some b → (slice_get (bs ++ x ∷ []) b.0 ≡ Some (follower kind (record { 0 = c }))) × (c < b.0)
    found c b e = pick (is_eq (nat_cmp source.0 c)) refl (sym (u.0 c) ∙ e)
      where
        pick : (t : Bool) → is_eq (nat_cmp source.0 c) ≡ t → cond t (Some (record { 0 = length bs })) (get nat_cmp old c) ≡ Some b → (slice_get (bs ++ x ∷ []) b.0 ≡ Some (follower kind (record { 0 = c }))) × (c < b.0)
        pick true k e' =
            let last : length bs ≡ b.0 = ap (λ (z : BindingId). z.0) (some_same (record { 0 = length bs }) b e') in
            let same : source.0 ≡ c = eq_is source.0 c k in
            let below = is.1 in
            (ap (slice_get (bs ++ x ∷ [])) (sym last) ∙ get_last bs x ∙ ap Some is.0 ∙ ap (λ n. Some (follower kind (record { 0 = n }))) same, omega (arith, below, last, same))
        pick false k e' = (get_push bs x b.0 (follower kind (record { 0 = c })) (h.found c b e').0, (h.found c b e').1)

    all : (s b : BindingId) → slice_get (bs ++ x ∷ []) b.0 ≡ Some (follower kind s) → s.0 < b.0 → (e : BindingId) × (get nat_cmp new s.0 ≡ Some e)
    all s b e lt = pick (is_eq (nat_cmp source.0 s.0)) (u.0 s.0) refl
      where
        pick : (t : Bool) → get nat_cmp new s.0 ≡ cond t (Some (record { 0 = length bs })) (get nat_cmp old s.0) → is_eq (nat_cmp source.0 s.0) ≡ t → (e : BindingId) × (get nat_cmp new s.0 ≡ Some e)
        pick true k t = (record { 0 = length bs }, k)
        pick false k t = ⊎_elim
            (λ j. let r = h.all s b j lt in (r.0, k ∙ r.1))
            (λ j. (record { 0 = length bs }, ap (λ (z : BindingId). get nat_cmp new z.0) (source_same kind x s source j.1 is.0) ∙ u.1))
            (get_either bs x b.0 (follower kind s) e)

-- the same of the code's list
pub no_follower_more : (kind : Following) (bs : List Binding) (i : ℕ) (x : Binding) (followers : ℕ → Option BindingId) → i < length bs → x ≡ get_or bs i x → source_at kind i x ≡ None → FindsFollowers kind (take i bs) followers → FindsFollowers kind (take (i + 1) bs) followers
no_follower_more kind bs i x followers lt is none h =
    let long : i ≡ length (take i bs) = sym (length-take-le i bs (omega (arith, lt))) in
    subst (λ xs. FindsFollowers kind xs followers) (sym (take_more bs i x lt ∙ ap (λ y. take i bs ++ y ∷ []) (sym is))) (other_followers kind (take i bs) x followers (subst (λ n. source_at kind n x ≡ None) long none) h)

pub follower_more : (kind : Following) (bs : List Binding) (i : ℕ) (x : Binding) (source : BindingId) (old new : BTreeMap ℕ BindingId) → i < length bs → x ≡ get_or bs i x → source_at kind i x ≡ Some source → FindsFollowers kind (take i bs) (get nat_cmp old)
    → Updates nat_cmp old new source.0 (Some (record { 0 = i })) → FindsFollowers kind (take (i + 1) bs) (get nat_cmp new)
follower_more kind bs i x source old new lt is one h u =
    let long : i ≡ length (take i bs) = sym (length-take-le i bs (omega (arith, lt))) in
    subst (λ xs. FindsFollowers kind xs (get nat_cmp new)) (sym (take_more bs i x lt ∙ ap (λ y. take i bs ++ y ∷ []) (sym is)))
    (one_follower kind (take i bs) x source old new (subst (λ n. source_at kind n x ≡ Some source) long one) h (subst (λ n. Updates nat_cmp old new source.0 (Some (record { 0 = n }))) long u))
