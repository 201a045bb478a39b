-- What comes of two readers over the same tokens.
use Rattle.std.proofs.Common.{◌≡◌, ℕ, suc, ◌≤◌, ◌<◌, List, [], ◌∷◌, length, Bool, true, false, cond, refl, subst, sym, arith}
use Rattle.std.specs.Prelude.{◌||◌}
use Rattle.isle_lexer.specs.Lexeme.{Lexeme}
use Rattle.isle_reading.specs.Reader.{Reading, Got, Stuck, Deep, Reader, Ret, Ask, Peek, End, Halt, after, run}
use Rattle.isle_reading.specs.Combinators.{Both, OnlyFirst, OnlySecond, BothGot, first_alone, second_alone, first_done, go_on, first_asks, both}
use Rattle.isle_reading.proofs.Running.{run-bind, remains, shrinks}

-- it is stuck, or fewer than n tokens are left
abbrev pub Below : {A : Type 0} → ℕ → Reading A → Type 0
Below n (Got a us) = length us < n
Below n (Stuck us) = Unit {0}
Below n (Deep us) = length us < n

-- what comes of both, by what comes of each: the first that is not stuck, or else the one that came further
pub data Merged {A B : Type 0} (o : Reading A) (p : Reading B) : Reading (Both A B) → Type 0 where
  both_got : (a : A) (b : B) (rest : List Lexeme) → o ≡ Got a rest → p ≡ Got b rest → Merged o p (Got (BothGot a b) rest)
  first_got : (a : A) (rest : List Lexeme) → o ≡ Got a rest → Below (length rest) p → Merged o p (Got (OnlyFirst a) rest)
  second_got : (b : B) (rest : List Lexeme) → p ≡ Got b rest → Below (length rest) o → Merged o p (Got (OnlySecond b) rest)
  first_stuck : (rest us : List Lexeme) → o ≡ Stuck rest → p ≡ Stuck us → length rest ≤ length us → Merged o p (Stuck rest)
  second_stuck : (rest us : List Lexeme) → p ≡ Stuck rest → o ≡ Stuck us → length rest ≤ length us → Merged o p (Stuck rest)
  first_deep : (rest : List Lexeme) → o ≡ Deep rest → Below (suc (length rest)) p → Merged o p (Deep rest)
  second_deep : (rest : List Lexeme) → p ≡ Deep rest → Below (suc (length rest)) o → Merged o p (Deep rest)

below_remains : {A : Type 0} (n : ℕ) (o : Reading A) → length (remains o) ≤ n → Below (suc n) o
below_remains n (Got a us) h = omega (arith, h)
below_remains n (Stuck us) h = tt
below_remains n (Deep us) h = omega (arith, h)

-- a reader leaves no more tokens than there are
below_all : {A : Type 0} (r : Reader A) (ts : List Lexeme) → Below (suc (length ts)) (run r ts)
below_all r ts = below_remains (length ts) (run r ts) (shrinks r ts)

-- one that takes a token leaves fewer
below_ask : {A : Type 0} (fits : Lexeme → Bool) (f : Lexeme → Reader A) (ts : List Lexeme) → Below (length ts) (run (Ask fits f) ts)
unfolding run
below_ask fits f [] = tt
below_ask {A = A} fits f (t ∷ us) = by (fits t) (below_all (f t) us)
  where
    by : (b : Bool) → Below (suc (length us)) (run (f t) us) → Below (suc (length us)) (cond b (run (f t) us) (Stuck (t ∷ us)))
    by true h = h
    by false h = tt

-- ---- one of them alone

first_on : {A B : Type 0} (o : Reading A) (us : List Lexeme) (p : Reading B) → p ≡ Stuck us → length (remains o) ≤ length us → Merged o p (after o (λ a rest. Got (OnlyFirst a) rest))
first_on (Got a rest) us p e l = first_got a rest refl (subst (Below (length rest)) (sym e) tt)
first_on (Stuck rest) us p e l = first_stuck rest us refl e l
first_on (Deep rest) us p e l = first_deep rest refl (subst (Below (suc (length rest))) (sym e) tt)

second_on : {A B : Type 0} (o : Reading A) (us : List Lexeme) (p : Reading B) → o ≡ Stuck us → length (remains p) ≤ length us → Merged o p (after p (λ b rest. Got (OnlySecond b) rest))
second_on o us (Got b rest) e l = second_got b rest refl (subst (Below (length rest)) (sym e) tt)
second_on o us (Stuck rest) e l = second_stuck rest us refl e l
second_on o us (Deep rest) e l = second_deep rest refl (subst (Below (suc (length rest))) (sym e) tt)

first_merged : {A B : Type 0} (r : Reader A) (ts us : List Lexeme) (p : Reading B) → p ≡ Stuck us → length ts ≤ length us → Merged (run r ts) p (run (first_alone r) ts)
unfolding run
first_merged r ts us p e l =
    let x : length (remains (run r ts)) ≤ length ts = shrinks r ts in
    subst (Merged (run r ts) p) (sym (run-bind r (λ a. Ret (OnlyFirst a)) ts)) (first_on (run r ts) us p e (omega (arith, x, l)))

second_merged : {A B : Type 0} (q : Reader B) (ts us : List Lexeme) (o : Reading A) → o ≡ Stuck us → length ts ≤ length us → Merged o (run q ts) (run (second_alone q) ts)
unfolding run
second_merged q ts us o e l =
    let x : length (remains (run q ts)) ≤ length ts = shrinks q ts in
    subst (Merged o (run q ts)) (sym (run-bind q (λ b. Ret (OnlySecond b)) ts)) (second_on o us (run q ts) e (omega (arith, x, l)))

-- ---- both

right_cond : {A B : Type 0} (b : Bool) (o : Reading A) (p p' : Reading B) (w w' : Reading (Both A B)) → Merged o p w → Merged o p' w' → Merged o (cond b p p') (cond b w w')
right_cond true o p p' w w' h k = h
right_cond false o p p' w w' h k = k

left_cond : {A B : Type 0} (b : Bool) (o o' : Reading A) (p : Reading B) (w w' : Reading (Both A B)) → Merged o p w → Merged o' p w' → Merged (cond b o o') p (cond b w w')
left_cond true o o' p w w' h k = h
left_cond false o o' p w w' h k = k

done_merged : {A B : Type 0} (a : A) (q : Reader B) (ts : List Lexeme) → Merged (Got a ts) (run q ts) (run (first_done a q) ts)
unfolding run
done_merged a (Ret b) ts = both_got a b ts refl refl
done_merged a (Ask fits next) ts = first_got a ts refl (below_ask fits next ts)
done_merged a (Peek fits y n) [] = first_got a [] refl tt
done_merged a (Peek fits y n) (t ∷ us) = right_cond (fits t) _ _ _ _ _ (done_merged a y (t ∷ us)) (done_merged a n (t ∷ us))
done_merged a (End y n) [] = done_merged a y []
done_merged a (End y n) (t ∷ us) = done_merged a n (t ∷ us)
done_merged a Halt ts = second_deep ts refl (omega arith)

go_merged : {A B : Type 0} (b c : Bool) (t : Lexeme) (us : List Lexeme) (next : Reader A) (behind : Reader B) (together : Reader (Both A B)) → Merged (run next us) (run behind us) (run together us)
    → Merged (cond b (run next us) (Stuck (t ∷ us))) (cond c (run behind us) (Stuck (t ∷ us))) (cond (b || c) (run (go_on b c together (first_alone next) (second_alone behind)) us) (Stuck (t ∷ us)))
go_merged true true t us next behind together h = h
go_merged true false t us next behind together h = first_merged next us (t ∷ us) (Stuck (t ∷ us)) refl (omega arith)
go_merged false true t us next behind together h = second_merged behind us (t ∷ us) (Stuck (t ∷ us)) refl (omega arith)
go_merged false false t us next behind together h = first_stuck (t ∷ us) (t ∷ us) refl refl (omega arith)

asks_merged : {A B : Type 0} (fits : Lexeme → Bool) (next : Lexeme → Reader A) (together : Lexeme → Reader B → Reader (Both A B)) → ((t : Lexeme) (q : Reader B) (us : List Lexeme) → Merged (run (next t) us) (run q us) (run (together t q) us))
    → (q : Reader B) (ts : List Lexeme) → Merged (run (Ask fits next) ts) (run q ts) (run (first_asks fits next together q) ts)
unfolding run
asks_merged fits next together h (Ret b) ts = second_got b ts refl (below_ask fits next ts)
asks_merged fits next together h (Ask others behind) [] = first_stuck [] [] refl refl (omega arith)
asks_merged fits next together h (Ask others behind) (t ∷ us) = go_merged (fits t) (others t) t us (next t) (behind t) (together t (behind t)) (h t (behind t) us)
asks_merged fits next together h (Peek others y n) [] = first_stuck [] [] refl refl (omega arith)
asks_merged fits next together h (Peek others y n) (t ∷ us) = right_cond (others t) _ _ _ _ _ (asks_merged fits next together h y (t ∷ us)) (asks_merged fits next together h n (t ∷ us))
asks_merged fits next together h (End y n) [] = asks_merged fits next together h y []
asks_merged fits next together h (End y n) (t ∷ us) = asks_merged fits next together h n (t ∷ us)
asks_merged fits next together h Halt ts = second_deep ts refl (below_all (Ask fits next) ts)

pub both_merged : {A B : Type 0} (r : Reader A) (q : Reader B) (ts : List Lexeme) → Merged (run r ts) (run q ts) (run (both r q) ts)
unfolding run both
both_merged (Ret a) q ts = done_merged a q ts
both_merged (Ask fits next) q ts = asks_merged fits next (λ t. both (next t)) (λ t p us. both_merged (next t) p us) q ts
both_merged (Peek fits y n) q [] = second_merged q [] [] (Stuck []) refl (omega arith)
both_merged (Peek fits y n) q (t ∷ us) = left_cond (fits t) _ _ _ _ _ (both_merged y q (t ∷ us)) (both_merged n q (t ∷ us))
both_merged (End y n) q [] = both_merged y q []
both_merged (End y n) q (t ∷ us) = both_merged n q (t ∷ us)
both_merged Halt q ts = first_deep ts refl (below_all q ts)
