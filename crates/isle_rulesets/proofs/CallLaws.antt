-- A numbering keeps each call once: each impure one, and equal pure ones as one.
use Rattle.std.proofs.Common.{◌≡◌, inl, inr, ⊎_elim, ℕ, ◌<◌, ◌≤◌, suc, List, [], ◌∷◌, ◌++◌, length, Option, Some, Result, Ok, Err, refl, sym, ap, ◌∙◌, subst, arith, append-nil}
use Rattle.std.specs.Prelude.{slice_get, Contains, IfOk}
use Rattle.std.proofs.lemmas.List.Sums.{fold_push}
use Rattle.std.proofs.lemmas.List.Elements.{Contains-append_left, Contains-push_cases}
use Rattle.isle_core.specs.declared.BindingId.{BindingId}
use Rattle.isle_core.specs.declared.TermId.{TermId}
use Rattle.isle_core.specs.declared.rule_sets.Binding.{Binding}
use Rattle.isle_core.specs.declared.types.ReturnKind.{ReturnKind}
use Rattle.isle_core.specs.declared.types.ReturnKind.TheVariants as return_kind
use Rattle.isle_core.specs.declared.rule_sets.Binding.TheVariants as binding
use Rattle.isle_core.specs.Path.{Path, Paths, Chosen, Inner, Called, path_over, add_path, paths_of, at, at_all}
use Rattle.isle_core.specs.StandsFor.{EachOnce}
use Rattle.isle_core.proofs.Contained.{head_contained, tail_contained}
use Rattle.isle_rulesets.specs.declared.keys.Key.{Key}
use Rattle.isle_rulesets.specs.Keys.{key_path}
use Rattle.isle_rulesets.specs.Numbering.{Numbered, Extends, Numbers, next_call, with_value, listed_by, Calls, IsKeyed, IsCallUpTo, AreNumbered}
use Rattle.isle_rulesets.proofs.PlacedPaths.{at_get, get_last, get_either, push_extends, extends_self, extends_more, place_of}
use Rattle.isle_rulesets.proofs.KeyLaws.{parts_kept, path_kept, not_called}
use Rattle.isle_rulesets.proofs.NumberingLaws.{one_longer, once_push, long_paths}

-- ---- kinds of paths

up_to_more : (m n : ℕ) (p : Path) → m ≤ n → IsCallUpTo m p → IsCallUpTo n p
up_to_more m n (Called term ps instance) le h =
    let high = h.1 in
    let up : instance ≤ n = omega arith in
    (h.0, up)
up_to_more m n p le h = absurd h

-- ---- one path more

paths_more : (bs items : List Binding) (b : Binding) (p : Path) → items ≡ bs ++ b ∷ [] → path_over (paths_of bs) b ≡ p → paths_of items ≡ paths_of bs ++ p ∷ []
paths_more bs items b p is over = ap paths_of is ∙ fold_push add_path [] bs b ∙ ap (λ q. paths_of bs ++ q ∷ []) over

last_there : (bs items : List Binding) (p : Path) (m : ℕ) → paths_of items ≡ paths_of bs ++ p ∷ [] → m ≡ length bs → slice_get (paths_of items) m ≡ Some p
last_there bs items p m paths long = ap (λ ps. slice_get ps m) paths ∙ ap (slice_get (paths_of bs ++ p ∷ [])) (long ∙ sym (long_paths bs)) ∙ get_last (paths_of bs) p

-- a numbering after a path that is new
call_pushed : (n : Numbered) (items : List Binding) (numbers : Key → Option BindingId) (p : Path) (k : ℕ) → AreNumbered n numbers → paths_of items ≡ paths_of n.bindings ++ p ∷ [] → n.calls ≤ k → k ≤ length items → IsCallUpTo k p → (Contains (paths_of n.bindings) p → ⊥)
    → AreNumbered (record { bindings = items; calls = k; lists = n.lists }) numbers
call_pushed n items numbers p k a paths le few is new = record {
  parts = λ q b e. parts_kept ps (paths_of items) q more (a.parts q b e);
  found = λ q b e. more.kept b.0 (key_path ps q) (a.found q b e) ∙ ap Some (stays q b e);
  kinds = λ b q e. ⊎_elim (λ h. ⊎_elim (λ o. inl (o.0, o.1 ∙ stays o.0 (record { 0 = b }) o.2, o.2)) (λ c. inr (up_to_more n.calls k q le c)) (a.kinds b q h)) (λ h. inr (subst (IsCallUpTo k) h.1 is)) (get_either ps p b q (subst (λ ps. slice_get ps b ≡ Some q) paths e));
  once = subst EachOnce (sym paths) (once_push ps p a.once new);
  counted = few;
}
  where
    ps : List Path
    ps = paths_of n.bindings

    more : Extends (paths_of n.bindings) (paths_of items)
    more = push_extends (paths_of n.bindings) (paths_of items) p paths

    stays : (q : Key) (b : BindingId) → numbers q ≡ Some b → key_path (paths_of n.bindings) q ≡ key_path (paths_of items) q
    stays q b e = sym (path_kept (paths_of n.bindings) (paths_of items) q more (a.parts q b e))

-- no path is of a later impure call
none_later : (n : Numbered) (numbers : Key → Option BindingId) (p : Path) (m : ℕ) → AreNumbered n numbers → IsCallUpTo m p → (IsCallUpTo n.calls p → ⊥) → Contains (paths_of n.bindings) p → ⊥
none_later n numbers p m a is no_call c =
    let at = place_of (paths_of n.bindings) p c in
    ⊎_elim (λ (h : IsKeyed (paths_of n.bindings) numbers at.0 p). not_called (paths_of n.bindings) m h.0 (subst (IsCallUpTo m) h.1 is)) no_call (a.kinds at.0 p at.1)

-- ---- calls

-- what a numbering is after a call
pub call_more : (old : Numbered) (items : List Binding) (numbers : Key → Option BindingId) (term : TermId) (bs : List BindingId) (m k : ℕ) → AreNumbered old numbers → k ≡ suc old.calls → m ≡ length old.bindings
    → items ≡ old.bindings ++ binding.Constructor term bs k ∷ [] → AreNumbered (record { bindings = items; calls = k; lists = old.lists }) numbers × Calls old (record { bindings = items; calls = k; lists = old.lists }) (next_call old term bs) return_kind.Plain (suc old.calls) (record { 0 = m }) (record { 0 = m })
call_more old items numbers term bs m k a count long is = (
  call_pushed old items numbers p k a paths le few up (none_later old numbers p k a up (λ h. let high = h.1 in omega arith)),
  record {
    found = last_there old.bindings items p m paths long;
    value = last_there old.bindings items p m paths long;
    extends = push_extends (paths_of old.bindings) (paths_of items) p paths;
    only = λ q c. ⊎_elim (λ h. inl h) (λ h. inr (subst (Contains (p ∷ [])) h (head_contained p []))) (Contains-push_cases (paths_of old.bindings) p q (subst (λ ps. Contains ps q) paths c));
    calls = count;
    lists = sym (append-nil old.lists);
  },
)
  where
    qs : Paths
    qs = at_all (paths_of old.bindings) bs

    p : Path
    p = Called term (at_all (paths_of old.bindings) bs) (suc old.calls)

    paths : paths_of items ≡ paths_of old.bindings ++ Called term (at_all (paths_of old.bindings) bs) (suc old.calls) ∷ []
    paths = paths_more old.bindings items (binding.Constructor term bs k) p is (ap (Called term qs) count)

    le : old.calls ≤ k
    le = omega arith

    few : k ≤ length items
    few = let c = a.counted in let l = one_longer old.bindings items (binding.Constructor term bs k) is in omega arith

    up : (0 < suc old.calls) × (suc old.calls ≤ k)
    up =
        let low : 0 < suc old.calls = omega arith in
        let high : suc old.calls ≤ k = omega arith in
        (low, high)

-- a call that has a number is its own value
pub own_value : (n : Numbered) (p : Path) (b : BindingId) → slice_get (paths_of n.bindings) b.0 ≡ Some p → Calls n n p return_kind.Plain n.calls b b
own_value n p b there = record { found = there; value = there; extends = extends_self (paths_of n.bindings); only = λ q c. inl c; calls = refl; lists = sym (append-nil n.lists) }

one_of : (p q : Path) (ps : List Path) → q ≡ p → Contains (p ∷ ps) q
one_of p q ps e = subst (Contains (p ∷ ps)) (sym e) (head_contained p ps)

two_of : (p q r : Path) → q ≡ r → Contains (p ∷ r ∷ []) q
two_of p q r e = tail_contained p (r ∷ []) q (one_of r q [] e)

-- or its inner value is one
pub inner_value : (n new : Numbered) (p : Path) (call value : BindingId) → slice_get (paths_of n.bindings) call.0 ≡ Some p → Numbers n new (Inner p) value → Calls n new p return_kind.Option n.calls call value
inner_value n new p call value there h = record {
  found = h.extends.kept call.0 p there;
  value = h.found;
  extends = h.extends;
  only = λ q c. ⊎_elim (λ d. inl d) (λ e. inr (two_of p q (Inner p) e)) (h.only q c);
  calls = h.calls;
  lists = h.lists ∙ sym (append-nil n.lists);
}

-- or an item of it is one, where the list is met
pub item_value : (n mid new : Numbered) (p : Path) (call value : BindingId) → slice_get (paths_of n.bindings) call.0 ≡ Some p → mid ≡ record { bindings = n.bindings; calls = n.calls; lists = n.lists ++ call ∷ [] } → Numbers mid new (Chosen p) value → Calls n new p return_kind.Iterator n.calls call value
item_value n mid new p call value there is h =
    let met : Numbered = record { bindings = n.bindings; calls = n.calls; lists = n.lists ++ call ∷ [] } in
    let k : Numbers met new (Chosen p) value = subst (λ m. Numbers m new (Chosen p) value) is h in
    record {
      found = k.extends.kept call.0 p there;
      value = k.found;
      extends = k.extends;
      only = λ q c. ⊎_elim (λ d. inl d) (λ e. inr (two_of p q (Chosen p) e)) (k.only q c);
      calls = k.calls;
      lists = k.lists;
    }

-- a key's call was numbered
pub key_called : (old new : Numbered) (p : Path) (b : BindingId) → Numbers old new p b → Calls old new p return_kind.Plain old.calls b b
key_called old new p b h = record {
  found = h.found;
  value = h.found;
  extends = h.extends;
  only = λ q c. ⊎_elim (λ d. inl d) (λ e. inr (one_of p q [] e)) (h.only q c);
  calls = h.calls;
  lists = h.lists ∙ sym (append-nil old.lists);
}

call_of_both : (p q : Path) (kind : ReturnKind) → Contains (p ∷ []) q → Contains (with_value kind p) q
call_of_both p q return_kind.Plain c = c
call_of_both p q return_kind.Option c = Contains-append_left (p ∷ []) (Inner p ∷ []) q c
call_of_both p q return_kind.Iterator c = Contains-append_left (p ∷ []) (Chosen p ∷ []) q c

value_more : (old mid new : Numbered) (p : Path) (kind : ReturnKind) (n : ℕ) (call number value : BindingId) → Calls old mid p return_kind.Plain n call call → Calls mid new p kind mid.calls number value → Calls old new p kind n number value
value_more old mid new p kind n call number value h m = record {
  found = m.found;
  value = m.value;
  extends = extends_more (paths_of old.bindings) (paths_of mid.bindings) (paths_of new.bindings) h.extends m.extends;
  only = λ q c. ⊎_elim (λ d. ⊎_elim (λ k. inl k) (λ k. inr (call_of_both p q kind k)) (h.only q d)) (λ e. inr e) (m.only q c);
  calls = m.calls ∙ h.calls;
  lists = m.lists ∙ ap (λ ls. ls ++ listed_by kind number) (h.lists ∙ append-nil old.lists);
}

-- a call after which its value was numbered
pub call_valued : (old mid new : Numbered) (p : Path) (kind : ReturnKind) (n : ℕ) (call value : BindingId) → Calls old mid p return_kind.Plain n call call → Calls mid new (at (paths_of mid.bindings) call) kind mid.calls call value → Calls old new p kind n call value
call_valued old mid new p kind n call value h m = value_more old mid new p kind n call call value h (subst (λ q. Calls mid new q kind mid.calls call value) (at_get (paths_of mid.bindings) call.0 p h.found) m)

-- so if the value could be numbered
pub inner_given : {E : Type 0} (r : Result BindingId E) (n new : Numbered) (p : Path) (call : BindingId) → slice_get (paths_of n.bindings) call.0 ≡ Some p → IfOk r (Numbers n new (Inner p)) → IfOk r (Calls n new p return_kind.Option n.calls call)
inner_given (Err x) n new p call there h = tt
inner_given (Ok b) n new p call there h = inner_value n new p call b there h

pub item_given : {E : Type 0} (r : Result BindingId E) (n mid new : Numbered) (p : Path) (call : BindingId) → slice_get (paths_of n.bindings) call.0 ≡ Some p → mid ≡ record { bindings = n.bindings; calls = n.calls; lists = n.lists ++ call ∷ [] }
    → IfOk r (Numbers mid new (Chosen (at (paths_of mid.bindings) call))) → IfOk r (Calls n new p return_kind.Iterator n.calls call)
item_given (Err x) n mid new p call there is h = tt
item_given (Ok b) n mid new p call there is h = item_value n mid new p call b there is (subst (λ q. Numbers mid new (Chosen q) b) (ap (λ m. at (paths_of m.bindings) call) is ∙ at_get (paths_of n.bindings) call.0 p there) h)
