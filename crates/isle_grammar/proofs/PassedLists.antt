-- The laws of the readers of lists that are passed over.
use Rattle.std.proofs.Common.{◌≡◌, ℕ, zero, suc, ◌+◌, ◌≤◌, List, [], ◌∷◌, length, true, false, IsTrue, inl, inr, refl, ap, sym, ◌∙◌, subst, arith, Some}
use Rattle.std.specs.Prelude.{◌-◌, is_some}
use Rattle.isle_lexer.specs.Lexeme.{Lexeme, Open, Close, At, Less, Greater, Word}
use Rattle.isle_reading.specs.Reader.{Ret, bind}
use Rattle.isle_reading.specs.Combinators.{is_open, is_close, given, read_open, many}
use Rattle.isle_reading.specs.Nesting.{most_open}
use Rattle.isle_reading.specs.Relations.{Anything, Many, none, more}
use Rattle.isle_reading.proofs.Law.{Law, Heads, Nothing, Then, Either, law_map, law_next, law_states}
use Rattle.isle_reading.proofs.TokenLaws.{OpenS, Token_then, Given, law_given, law_ret, law_ask, law_open, law_peek, law_barred}
use Rattle.isle_reading.proofs.ListLaws.{law_many}
use Rattle.isle_reading.proofs.States.{InPassed, passed_open, passed_close, passed_token, passed_over_more}
use Rattle.isle_grammar.specs.PassedOver.{Any, Anys, AnAny, anys_of}
use Rattle.isle_grammar.specs.PassedOver as passed_over
use Rattle.isle_grammar.specs.Grammar.{any_of, AnyS, token, nested, AnysS, no_any, an_any}
use Rattle.isle_grammar.specs.Reading.{read_token, read_any}

-- ---- a token that is no parenthesis

abbrev TokenS : Any → List Lexeme → List Lexeme → Type 0
TokenS = Token_then (λ t. is_some (any_of t)) (λ t. Given (any_of t))

no_open : (t : Lexeme) → IsTrue (is_some (any_of t)) → is_open t ≡ false
no_open (Open at) h = cc
no_open (Close at) h = cc
no_open (At at) h = refl
no_open (Less at) h = refl
no_open (Greater at) h = refl
no_open (Word at w) h = refl

no_close : (t : Lexeme) → IsTrue (is_some (any_of t)) → is_close t ≡ false
no_close (Open at) h = cc
no_close (Close at) h = cc
no_close (At at) h = refl
no_close (Less at) h = refl
no_close (Greater at) h = refl
no_close (Word at w) h = refl

law_token : (n k : ℕ) → suc k ≤ most_open → Law (InPassed (suc k)) (λ a. InPassed (suc k)) Anything n TokenS read_token
unfolding read_token
law_token n k l = law_ask (λ t. InPassed (suc k)) (λ t. Given (any_of t)) (λ t. is_some (any_of t)) (λ t. given (any_of t)) (λ t is. passed_token k l t (no_open t is) (no_close t is))
    (λ t is. law_states {n = n} n (omega arith) (λ q p a e. p) (λ a q e. e) (law_given {E = λ a. InPassed (suc k)} (any_of t) is)) (Less 0 ∷ [], passed_over.Less, λ tail c. (Less 0, tail, refl, refl, (refl, refl)))

-- ---- ( any* )

abbrev NestedS : Any → List Lexeme → List Lexeme → Type 0
NestedS = Then OpenS (λ o. Then (Many AnyS) (λ items. Nothing (passed_over.Nested (anys_of items))))

anys_to : (items : List Any) (ts rest : List Lexeme) → Many AnyS items ts rest → AnysS (anys_of items) ts rest
anys_to _ _ _ (none at ts) = no_any at ts
anys_to _ _ _ (more a others ts mid rest s m) = an_any a (anys_of others) ts mid rest s (anys_to others mid rest m)

anys_from : (items : Anys) (ts rest : List Lexeme) → AnysS items ts rest → (xs : List Any) × (anys_of xs ≡ items) × Many AnyS xs ts rest
anys_from _ _ _ (no_any at ts) = ([], refl, none at ts)
anys_from _ _ _ (an_any a others ts mid rest s m) = let x = anys_from others mid rest m in (a ∷ x.0, ap (λ z. AnAny a z) x.1, more a x.0 ts mid rest s x.2)

any_to : (a : Any) (ts rest : List Lexeme) → Either NestedS TokenS a ts rest → AnyS a ts rest
any_to a ts rest (inl (o, us, eo, (items, mid, m, (p, q)))) =
    subst (λ z. AnyS z ts rest) (sym p) (subst (λ z. AnyS (passed_over.Nested (anys_of items)) z rest) (sym eo) (nested o (anys_of items) us rest (anys_to items us rest (subst (Many AnyS items us) q m))))
any_to a ts rest (inr (t, us, e, is, (h, q))) = subst (λ z. AnyS a z rest) (sym (e ∙ ap (λ z. t ∷ z) q)) (token t a rest h)

any_from : (a : Any) (ts rest : List Lexeme) → AnyS a ts rest → Either NestedS TokenS a ts rest
any_from _ _ _ (token t a ts h) = inr (t, ts, refl, ap is_some h, (h, refl))
any_from _ _ _ (nested at items ts rest m) = let x = anys_from items ts rest m in inl (at, ts, refl, (x.0, rest, x.2, (ap (λ z. passed_over.Nested z) (sym x.1), refl)))

pub any_heads : (a : Any) (ts rest : List Lexeme) → AnyS a ts rest → Heads is_close false ts
any_heads _ _ _ (token t a ts h) = (t, ts, refl, no_close t (ap is_some h))
any_heads _ _ _ (nested at items ts rest m) = (Open at, ts, refl, refl)

pub law_any : (n d k : ℕ) → suc k + d ≡ most_open → Law (InPassed (suc k)) (λ a. InPassed (suc k)) Anything n AnyS (read_any n d)
unfolding read_any
law_any n zero k e = law_map any_to any_from (law_barred is_open _ (λ a ts rest s c. (Open s.0, s.1, s.2, refl)) (λ a ts rest s c. (s.0, s.1, s.2, no_open s.0 s.3)) (passed_over_more k (omega (arith, e))) (law_token n k (omega (arith, e))))
law_any n (suc d) k e = law_map any_to any_from (law_peek is_open _ _ (λ a ts rest s c. (Open s.0, s.1, s.2, refl)) (λ a ts rest s c. (s.0, s.1, s.2, no_open s.0 s.3)) (inner (law_any n d (suc k) (omega (arith, e)))) (law_token n k (omega (arith, e))))
  where
    inner : Law (InPassed (suc (suc k))) (λ a. InPassed (suc (suc k))) Anything n AnyS (read_any n d)
        → Law (InPassed (suc k)) (λ a. InPassed (suc k)) Anything n NestedS (bind read_open (λ o. bind (many n (read_any n d)) (λ items. Ret (passed_over.Nested (anys_of items)))))
    inner ih = law_next _ _ (law_open (passed_open k (omega (arith, e)))) (λ o.
        law_next _ _ (law_many {C = Anything} (InPassed (suc k)) n AnyS (read_any n d) ih (λ a ts rest s. tt) (λ at ts. tt) any_heads (passed_close (suc k) (omega (arith, e))) n (omega arith)) (λ items. law_ret (passed_over.Nested (anys_of items)) (λ q p. p)))

most_passed : 1 + (most_open - 1) ≡ most_open
unfolding most_open
most_passed = refl

none_passed : 0 ≤ most_open
unfolding most_open
none_passed = omega arith

-- the rest of a list at the top
pub law_anys : (n : ℕ) → Law (InPassed 1) (λ items. InPassed 0) Anything n (Many AnyS) (many n (read_any n (most_open - 1)))
law_anys n = law_many {C = Anything} (InPassed 0) n AnyS (read_any n (most_open - 1)) (law_any n (most_open - 1) 0 most_passed) (λ a ts rest s. tt) (λ at ts. tt) any_heads (passed_close 0 none_passed) n (omega arith)
