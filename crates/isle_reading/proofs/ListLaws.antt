-- The laws of readers of lists.
use Rattle.std.proofs.Common.{◌≡◌, ℕ, zero, suc, ◌+◌, ◌≤◌, ◌<◌, List, [], ◌∷◌, ◌++◌, length, length-append, true, false, inl, inr, refl, ap, sym, ◌∙◌, subst, arith}
use Rattle.isle_lexer.specs.Lexeme.{Lexeme, Close}
use Rattle.isle_reading.specs.Reader.{Got, Stuck, Deep, Reader, Ret, End, Halt, run, bind}
use Rattle.isle_reading.specs.Combinators.{is_close, read_close, many, some, all_from}
use Rattle.isle_reading.specs.Nesting.{Nest}
use Rattle.isle_reading.specs.Relations.{Taken, Begins, Begun, Anything, Ended, Many, none, more, AllFrom, no_item, an_item}
use Rattle.isle_reading.proofs.Running.{stuck_not_got, stuck_not_deep, got_not_deep, got_is, deep_is}
use Rattle.isle_reading.proofs.Passes.{Nests, Steps}
use Rattle.isle_reading.proofs.Passes as passes
use Rattle.isle_reading.proofs.Law.{Hits, hit, too_deep, Law, Heads, Some_token, Nothing, NothingLeft, Then, Either, law_map, law_less, law_next, law_then, law_less_then}
use Rattle.isle_reading.proofs.TokenLaws.{law_ret, CloseS, law_close, law_peek, law_done, law_spent}

-- ---- values up to a parenthesis, or to the end, each of which takes a token

longer : (front : List Lexeme) (ts rest : List Lexeme) → (front ≡ [] → ⊥) → ts ≡ front ++ rest → length rest < length ts
longer [] ts rest some e = absurd (some refl)
longer (t ∷ front) ts rest some e =
    let a : length ts ≡ length (t ∷ (front ++ rest)) = ap length e in
    let b : length (front ++ rest) ≡ length front + length rest = length-append front rest in
    omega (arith, a, b)

-- what is read takes a token, if nothing spells it in front of some tokens
pub takes : {A : Type 0} {P : Nest → Type 0} {E : A → Nest → Type 0} {C : List Lexeme → Type 0} {n : ℕ} {S : A → List Lexeme → List Lexeme → Type 0} (r : Reader A) → Law P E C n S r
    → (some : List Lexeme) → C some → ((a : A) → S a some some → ⊥) → (a : A) (ts rest : List Lexeme) → run r ts ≡ Got a rest → length rest < length ts
takes {S = S} r h some c not a ts rest e =
    let x = (h.sound ts rest a e).1 in
    longer x.0 ts rest (λ z. not a (subst (λ front. S a (front ++ some) some) z (x.2 some c))) x.1

-- one value, and the others
abbrev pub One_more : {A : Type 0} → (A → List Lexeme → List Lexeme → Type 0) → List A → List Lexeme → List Lexeme → Type 0
One_more S = Then S (λ a. Then (Many S) (λ others. Nothing (a ∷ others)))

-- no value, and the parenthesis
abbrev None_more : {A : Type 0} → List A → List Lexeme → List Lexeme → Type 0
None_more {A = A} = Then CloseS (λ c. Nothing {A = List A} [])

module _ {A : Type 0} {P : Nest → Type 0} {C : List Lexeme → Type 0} (E : Nest → Type 0) (n : ℕ) (S : A → List Lexeme → List Lexeme → Type 0) (r : Reader A)
    (h : Law P (λ a. P) C n S r) (follows : (a : A) (ts rest : List Lexeme) → S a ts rest → C ts) (close_follows : (at : ℕ) (ts : List Lexeme) → C (Close at ∷ ts))
    (no_close : (a : A) (ts rest : List Lexeme) → S a ts rest → Heads is_close false ts) (closing : (at : ℕ) → Steps P E (Close at)) where
  closed_not : (a : A) → S a (Close 0 ∷ []) (Close 0 ∷ []) → ⊥
  closed_not a s =
      let x = no_close a (Close 0 ∷ []) (Close 0 ∷ []) s in
      let y : Close 0 ≡ x.0 = cc (x.2) in
      let z : true ≡ false = ap is_close y ∙ x.3 in
      cc

  to : (as' : List A) (ts rest : List Lexeme) → Either None_more (One_more S) as' ts rest → Many S as' ts rest
  to as' ts rest (inl (at, us, e, (p, q))) = subst (λ z. Many S as' z rest) (sym e) (subst (λ z. Many S as' (Close at ∷ z) rest) (sym q) (subst (λ z. Many S z (Close at ∷ rest) rest) (sym p) (none at rest)))
  to as' ts rest (inr (a, mid, s, (others, m2, m, (p, q)))) = subst (λ z. Many S z ts rest) (sym p) (more a others ts mid rest s (subst (λ z. Many S others mid z) q m))

  from : (as' : List A) (ts rest : List Lexeme) → Many S as' ts rest → Either None_more (One_more S) as' ts rest
  from _ _ _ (none at ts) = inl (at, ts, refl, (refl, refl))
  from _ _ _ (more a others ts mid rest s m) = inr (a, mid, s, (others, rest, m, (refl, refl)))

  many_follows : (as' : List A) (ts rest : List Lexeme) → Many S as' ts rest → C ts
  many_follows _ _ _ (none at ts) = close_follows at ts
  many_follows _ _ _ (more a others ts mid rest s m) = follows a ts mid s

  many_some : (as' : List A) (ts rest : List Lexeme) → Many S as' ts rest → Some_token ts
  many_some _ _ _ (none at ts) = (Close at, ts, refl)
  many_some _ _ _ (more a others ts mid rest s m) = let x = no_close a ts mid s in (x.0, x.1, x.2)

  -- values up to a closing parenthesis, at k tokens or fewer
  pub law_many : (k : ℕ) → k ≤ n → Law P (λ as'. E) Anything k (Many S) (many k r)
  unfolding many
  law_many zero le = law_spent many_some (Close 0 ∷ [], [], λ tail c. none 0 tail)
  law_many (suc k) le = law_map to from (law_peek is_close (bind read_close (λ c. Ret [])) (bind r (λ a. bind (many k r) (λ others. Ret (a ∷ others))))
      (λ as' ts rest s c. (Close s.0, s.1, s.2, refl)) (λ as' ts rest s c. no_close s.0 ts s.1 s.2)
      (law_next read_close (λ c. Ret []) (law_close closing) (λ c. law_ret [] (λ q p. p)))
      (law_less_then k r (λ a. bind (many k r) (λ others. Ret (a ∷ others))) (λ a ts mid e l. let x : length mid < length ts = takes r h (Close 0 ∷ []) (close_follows 0 []) closed_not a ts mid e in omega (arith, l, x))
      (λ a b ts rest s d. many_follows s.0 ts s.1 s.2) (law_less (suc k) le h)
      (λ a. law_next (many k r) (λ others. Ret (a ∷ others)) (law_many k (omega (arith, le))) (λ others. law_ret (a ∷ others) (λ q p. p)))))

  -- at least one value
  pub law_some : (k : ℕ) → suc k ≤ n → Law P (λ as'. E) Anything (suc k) (One_more S) (some k r)
  law_some k le = law_less_then k r (λ a. bind (many k r) (λ others. Ret (a ∷ others))) (λ a ts mid e l. let x : length mid < length ts = takes r h (Close 0 ∷ []) (close_follows 0 []) closed_not a ts mid e in omega (arith, l, x))
      (λ a b ts rest s d. many_follows s.0 ts s.1 s.2) (law_less (suc k) le h) (λ a. law_next (many k r) (λ others. Ret (a ∷ others)) (law_many k (omega (arith, le))) (λ others. law_ret (a ∷ others) (λ q p. p)))

-- ---- values up to the end of the text

-- one value, and the others
abbrev Item_more : {St A : Type 0} → (St → A → List Lexeme → List Lexeme → Type 0) → (St → A → St) → St → List A → List Lexeme → List Lexeme → Type 0
Item_more S next s = Then (S s) (λ a. Then (AllFrom S next (next s a)) (λ others. Nothing (a ∷ others)))

module _ {St A : Type 0} {C : List Lexeme → Type 0} (P : Nest → Type 0) (n : ℕ) (S : St → A → List Lexeme → List Lexeme → Type 0) (r : St → Reader A) (next : St → A → St)
    (h : (s : St) → Law P (λ a. P) C n (S s) (r s)) (follows : (s : St) (a : A) (ts rest : List Lexeme) → S s a ts rest → C ts) (end_follows : C [])
    (some : (s : St) (a : A) (ts rest : List Lexeme) → S s a ts rest → Some_token ts) where
  never_none : (s : St) (a : A) → S s a [] [] → ⊥
  never_none s a x = let y = some s a [] [] x in let z : [] ≡ y.0 ∷ y.1 = y.2 in cc

  all_ended : (s : St) (as' : List A) (ts rest : List Lexeme) → AllFrom S next s as' ts rest → rest ≡ []
  all_ended _ _ _ _ (no_item s) = refl
  all_ended _ _ _ _ (an_item s a others ts mid x m) = refl

  all_follows : (s : St) (as' : List A) (ts rest : List Lexeme) → AllFrom S next s as' ts rest → C ts
  all_follows _ _ _ _ (no_item s) = end_follows
  all_follows _ _ _ _ (an_item s a others ts mid x m) = follows s a ts mid x

  all_to : (s : St) (as' : List A) (ts rest : List Lexeme) → Either (NothingLeft []) (Item_more S next s) as' ts rest → AllFrom S next s as' ts rest
  all_to s as' ts rest (inl (p, q, e)) = subst (λ z. AllFrom S next s z ts rest) (sym p) (subst (λ z. AllFrom S next s [] z rest) (sym q) (subst (λ z. AllFrom S next s [] [] z) (sym e) (no_item s)))
  all_to s as' ts rest (inr (a, mid, x, (others, m2, m, (p, q)))) =
      let e = all_ended (next s a) others mid m2 m in
      subst (λ z. AllFrom S next s z ts rest) (sym p) (subst (λ z. AllFrom S next s (a ∷ others) ts z) (sym e ∙ q) (an_item s a others ts mid x (subst (λ z. AllFrom S next (next s a) others mid z) e m)))

  all_from_is : (s : St) (as' : List A) (ts rest : List Lexeme) → AllFrom S next s as' ts rest → Either (NothingLeft []) (Item_more S next s) as' ts rest
  all_from_is _ _ _ _ (no_item s) = inl (refl, refl, refl)
  all_from_is _ _ _ _ (an_item s a others ts mid x m) = inr (a, mid, x, (others, [], m, (refl, refl)))

  no_item_more : (s : St) → Law P (λ as'. P) Ended 0 (AllFrom S next s) (End (Ret []) Halt)
  unfolding run
  no_item_more s = record { sound = sound; complete = complete; closes = closes; deepens = deepens; leads = leads; ends = ended }
    where
      ended : Begins Ended (AllFrom S next s) []
      ended = ([], [], λ tail c. subst (λ z. AllFrom S next s [] z z) (sym c) (no_item s))

      sound : (ts rest : List Lexeme) (as' : List A) → run (End (Ret []) Halt) ts ≡ Got as' rest → AllFrom S next s as' ts rest × Taken Ended (AllFrom S next s) as' ts rest
      sound [] rest as' e = let x = got_is [] rest [] as' _ refl e in
          (subst (λ z. AllFrom S next s z [] rest) x.1 (subst (λ z. AllFrom S next s [] [] z) x.0 (no_item s)), ([], x.0, λ tail c. subst (λ z. AllFrom S next s z tail tail) x.1 (subst (λ z. AllFrom S next s [] z z) (sym c) (no_item s))))
      sound (t ∷ ts) rest as' e = absurd (got_not_deep _ rest (t ∷ ts) as' e refl)

      complete : (ts rest : List Lexeme) (as' : List A) → AllFrom S next s as' ts rest → Ended rest → Hits (run (End (Ret []) Halt) ts) as' rest
      complete [] rest as' m c = hit (ap (λ z. Got z []) (is_none as' [] rest m refl) ∙ ap (Got as') (sym c))
        where
          is_none : (as' : List A) (ts rest : List Lexeme) → AllFrom S next s as' ts rest → ts ≡ [] → [] ≡ as'
          is_none _ _ _ (no_item u) e = refl
          is_none _ _ _ (an_item u a others us mid x m) e = let y = some u a us mid x in absurd (let z : [] ≡ y.0 ∷ y.1 = sym e ∙ y.2 in cc)
      complete (t ∷ ts) rest as' m c = too_deep (t ∷ ts) refl

      closes : (ts rest : List Lexeme) → run {A = List A} (End (Ret []) Halt) ts ≡ Stuck rest → Begun Ended (AllFrom S next s) ts rest
      closes [] rest e = absurd (stuck_not_got _ rest [] [] e refl)
      closes (t ∷ ts) rest e = absurd (stuck_not_deep _ rest (t ∷ ts) e refl)

      deepens : (ts rest : List Lexeme) → run {A = List A} (End (Ret []) Halt) ts ≡ Deep rest → Begun Ended (AllFrom S next s) ts rest
      deepens [] rest e = absurd (got_not_deep _ [] rest [] refl e)
      deepens (t ∷ ts) rest e = ([], deep_is (t ∷ ts) rest _ refl e, ended)

      leads : (q : Nest) (ts : List Lexeme) → P q → Nests (λ (as' : List A). P) 0 q ts (run (End (Ret []) Halt) ts)
      leads q [] p = (q, passes.none q [], p)
      leads q (t ∷ ts) p = (q, passes.none q (t ∷ ts), λ l. absurd (omega (arith, l)))

  -- values up to the end, at k tokens or fewer
  pub law_all_from : (k : ℕ) → k ≤ n → (s : St) → Law P (λ as'. P) Ended k (AllFrom S next s) (all_from k r next s)
  unfolding all_from
  law_all_from zero le s = no_item_more s
  law_all_from (suc k) le s = law_map (all_to s) (all_from_is s) (law_done [] (bind (r s) (λ a. bind (all_from k r next (next s a)) (λ others. Ret (a ∷ others)))) (λ q p. p)
      (λ as' ts rest x. some s x.0 ts x.1 x.2)
      (law_less_then k (r s) (λ a. bind (all_from k r next (next s a)) (λ others. Ret (a ∷ others))) (λ a ts mid e l. let x : length mid < length ts = takes (r s) (h s) [] end_follows (never_none s) a ts mid e in omega (arith, l, x))
      (λ a b ts rest x d. all_follows (next s a) x.0 ts x.1 x.2) (law_less (suc k) le (h s))
      (λ a. law_then (all_from k r next (next s a)) (λ others. Ret (a ∷ others)) (λ others b ts rest x d. x.1 ∙ d) (law_all_from k (omega (arith, le)) (next s a)) (λ others. law_ret (a ∷ others) (λ q p. p)))))
