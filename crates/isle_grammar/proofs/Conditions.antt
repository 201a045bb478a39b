-- The laws of the readers of conditions, and of a rule's conditions and right side.
use Rattle.std.proofs.Common.{◌≡◌, ℕ, zero, suc, ◌+◌, ◌-◌, ◌≤◌, List, [], ◌∷◌, length, true, false, inl, inr, refl, ap, sym, ◌∙◌, subst, arith, Option, Some, None}
use Rattle.std.specs.Prelude.{codes}
use Rattle.isle_lexer.specs.Lexeme.{Lexeme, Open, Close, At, Less, Greater, Word}
use Rattle.isle_reading.specs.Reader.{Ret, bind}
use Rattle.isle_reading.specs.Combinators.{is_close, read_close, both}
use Rattle.isle_reading.specs.Names.{NameS, symbol}
use Rattle.isle_reading.specs.Nesting.{Mark, Round, Nest, most_open}
use Rattle.isle_reading.specs.Relations.{Begins, Anything}
use Rattle.isle_reading.proofs.Passes.{Steps}
use Rattle.isle_reading.proofs.Law.{Law, Heads, Nothing, Then, Either, law_map, law_then, law_next, law_states}
use Rattle.isle_reading.proofs.TokenLaws.{OpenS, CloseS, WordS, law_ret, law_open, law_close, law_word, law_peek, law_spent}
use Rattle.isle_reading.proofs.ListLaws.{takes}
use Rattle.isle_reading.proofs.States.{Inside, Behind, inside_open, inside_close, inside_word, close_behind, behind_inside}
use Rattle.isle_reading.proofs.BothLaw.{law_both, both_less}
use Rattle.isle_ast.specs.Tree.{Pattern, Patterns, Expr, Exprs, Lets, IfLet}
use Rattle.isle_ast.specs.Tree as tree
use Rattle.isle_grammar.specs.Grammar.{PatternS, word_pattern, bound, list, PatternsS, no_pattern, a_pattern, ExprS, word_expr, let_in, call, ExprsS, no_expr, an_expr, LetsS, no_let, a_let, IfHead, IsIfLet, IsIf, if_head, IfLetS, if_let, if_only, TailS, last, more}
use Rattle.isle_grammar.specs.Reading.{read_expr, read_if_head, if_behind, read_iflet, read_form, behind_form, read_tail}
use Rattle.isle_grammar.proofs.PatternLaws.{NoAt, law_pattern}
use Rattle.isle_grammar.proofs.Expressions.{Closed, expr_heads, law_closed, law_expr, law_expr_behind, a_name, a_whole}

-- ---- conditions

abbrev IfBehind : IfHead → IfLet → List Lexeme → List Lexeme → Type 0
IfBehind IsIfLet = Then PatternS (λ p. Then ExprS (λ e. Closed (record { lhs = p; rhs = e })))
IfBehind IsIf = Then ExprS (λ e. Closed (record { lhs = tree.Wildcard; rhs = e }))

abbrev ListI : IfLet → List Lexeme → List Lexeme → Type 0
ListI = Then OpenS (λ o. Then (WordS if_head) IfBehind)

if_behind_to : (o n : ℕ) (w : List ℕ) (h : IfHead) (i : IfLet) (us rest : List Lexeme) → if_head w ≡ Some h → IfBehind h i us rest → IfLetS i (Open o ∷ Word n w ∷ us) rest
if_behind_to o n w IsIfLet i us rest hw (p, mid, s, (e, m2, t, (c, m3, ec, (f, g)))) = subst (λ z. IfLetS z (Open o ∷ Word n w ∷ us) rest) (sym f) (if_let o n c w p e us mid rest hw s (subst (ExprS e mid) (ec ∙ ap (λ z. Close c ∷ z) g) t))
if_behind_to o n w IsIf i us rest hw (e, m2, t, (c, m3, ec, (f, g))) = subst (λ z. IfLetS z (Open o ∷ Word n w ∷ us) rest) (sym f) (if_only o n c w e us rest hw (subst (ExprS e us) (ec ∙ ap (λ z. Close c ∷ z) g) t))

if_to : (i : IfLet) (ts rest : List Lexeme) → ListI i ts rest → IfLetS i ts rest
if_to i ts rest (o, vs, eo, (h, us, (n, w, ew, hw), s)) = subst (λ z. IfLetS i z rest) (sym (eo ∙ ap (λ z. Open o ∷ z) ew)) (if_behind_to o n w h i us rest hw s)

if_from : (i : IfLet) (ts rest : List Lexeme) → IfLetS i ts rest → ListI i ts rest
if_from _ _ _ (if_let at n c w p e ts mid rest h s t) = (at, Word n w ∷ ts, refl, (IsIfLet, ts, (n, w, refl, h), (p, mid, s, (e, Close c ∷ rest, t, (c, rest, refl, (refl, refl))))))
if_from _ _ _ (if_only at n c w e ts rest h t) = (at, Word n w ∷ ts, refl, (IsIf, ts, (n, w, refl, h), (e, Close c ∷ rest, t, (c, rest, refl, (refl, refl)))))

if_heads : (i : IfLet) (ts rest : List Lexeme) → IfLetS i ts rest → Heads is_close false ts
if_heads _ _ _ (if_let at n c w p e ts mid rest h s t) = (Open at, Word n w ∷ ts, refl, refl)
if_heads _ _ _ (if_only at n c w e ts rest h t) = (Open at, Word n w ∷ ts, refl, refl)

expr_no_at : (e : Expr) (ts rest : List Lexeme) → ExprS e ts rest → NoAt ts
expr_no_at _ _ _ (word_expr at w e ts h) = (Word at w, ts, refl, refl)
expr_no_at _ _ _ (let_in at n o c w ls e ts mid rest h m s) = (Open at, Word n w ∷ Open o ∷ ts, refl, refl)
expr_no_at _ _ _ (call at n w f es ts rest h m) = (Open at, Word n w ∷ ts, refl, refl)

law_condition : (E : Nest → Type 0) (n d : ℕ) (ms : List Mark) → suc (length ms) + suc d ≡ most_open → ((at : ℕ) → Steps (Inside (Round ∷ Round ∷ ms)) E (Close at)) → Law (Inside (Round ∷ ms)) (λ i. E) Anything n IfLetS (read_iflet n d)
unfolding read_iflet read_if_head
law_condition E n d ms e closing = law_map if_to if_from (law_next _ _ (law_open (inside_open (Round ∷ ms) tt (omega (arith, e)))) (λ o.
    law_next _ _ (law_word if_head (codes "if", IsIf, refl) (inside_word (Round ∷ Round ∷ ms) if_head (omega (arith, e)))) law_behind))
  where
    law_rhs : (p : Pattern) → Law {A = IfLet} (Inside (Round ∷ Round ∷ ms)) (λ i. E) Anything n (Then ExprS (λ e. Closed {A = IfLet} (record { lhs = p; rhs = e }))) (bind (read_expr n d) (λ e. bind read_close (λ c. Ret (record { lhs = p; rhs = e }))))
    law_rhs p = law_next _ _ (law_expr n d (Round ∷ ms) (omega (arith, e))) (λ v. law_closed ms closing (record { lhs = p; rhs = v }))

    law_behind : (h : IfHead) → Law (Inside (Round ∷ Round ∷ ms)) (λ i. E) Anything n (IfBehind h) (if_behind n d h)
    law_behind IsIfLet = law_then _ _ (λ p i ts rest s c. expr_no_at s.0 ts s.1 s.2) (law_pattern n d (Round ∷ Round ∷ ms) tt (omega (arith, e))) law_rhs
    law_behind IsIf = law_rhs tree.Wildcard

-- ---- a condition and an expression end at one place

-- after this many open parentheses
abbrev skip : ℕ → List Lexeme → Option (List Lexeme)
skip zero ts = Some ts
skip (suc k) [] = None
skip (suc k) (Open at ∷ ts) = skip (suc (suc k)) ts
skip (suc k) (Close at ∷ ts) = skip k ts
skip (suc k) (At at ∷ ts) = skip (suc k) ts
skip (suc k) (Less at ∷ ts) = skip (suc k) ts
skip (suc k) (Greater at ∷ ts) = skip (suc k) ts
skip (suc k) (Word at w ∷ ts) = skip (suc k) ts

mutual
  skip-pattern : {p : Pattern} {ts rest : List Lexeme} (k : ℕ) → PatternS p ts rest → skip (suc k) ts ≡ skip (suc k) rest
  skip-pattern k (word_pattern at w p ts h) = refl
  skip-pattern k (bound at n w p ts rest h s) = skip-pattern k s
  skip-pattern k (list at n w h ps ts rest e m) = skip-patterns (suc k) m

  skip-patterns : {ps : Patterns} {ts rest : List Lexeme} (k : ℕ) → PatternsS ps ts rest → skip (suc k) ts ≡ skip k rest
  skip-patterns k (no_pattern at ts) = refl
  skip-patterns k (a_pattern p ps ts mid rest s m) = skip-pattern k s ∙ skip-patterns k m

name-skips : {w : List ℕ} {ts rest : List Lexeme} (k : ℕ) → NameS w ts rest → skip (suc k) ts ≡ skip (suc k) rest
name-skips k (symbol at w ts h) = refl

mutual
  skip-expr : {e : Expr} {ts rest : List Lexeme} (k : ℕ) → ExprS e ts rest → skip (suc k) ts ≡ skip (suc k) rest
  skip-expr k (word_expr at w e ts h) = refl
  skip-expr k (let_in at n o c w ls e ts mid rest h m s) = skip-lets (suc (suc k)) m ∙ skip-expr (suc k) s
  skip-expr k (call at n w f es ts rest h m) = skip-exprs (suc k) m

  skip-exprs : {es : Exprs} {ts rest : List Lexeme} (k : ℕ) → ExprsS es ts rest → skip (suc k) ts ≡ skip k rest
  skip-exprs k (no_expr at ts) = refl
  skip-exprs k (an_expr e es ts mid rest s m) = skip-expr k s ∙ skip-exprs k m

  skip-lets : {ls : Lets} {ts rest : List Lexeme} (k : ℕ) → LetsS ls ts rest → skip (suc k) ts ≡ skip k rest
  skip-lets k (no_let at ts) = refl
  skip-lets k (a_let at c x t e ls ts us vs mid rest sx st s m) = name-skips (suc k) sx ∙ name-skips (suc k) st ∙ skip-expr (suc k) s ∙ skip-lets k m

expr_ends : {e : Expr} {ts rest : List Lexeme} (at : ℕ) (us : List Lexeme) → ts ≡ Open at ∷ us → ExprS e ts rest → skip 1 us ≡ Some rest
expr_ends at us o (word_expr n w e ts h) = cc
expr_ends at us o (let_in a n p c w ls e ts mid rest h m s) = let x : us ≡ Word n w ∷ Open p ∷ ts = cc in ap (skip 1) x ∙ skip-lets 1 m ∙ skip-expr 0 s
expr_ends at us o (call a n w f es ts rest h m) = let x : us ≡ Word n w ∷ ts = cc in ap (skip 1) x ∙ skip-exprs 0 m

if_ends : {i : IfLet} {ts rest : List Lexeme} → IfLetS i ts rest → (at : ℕ) × (us : List Lexeme) × (ts ≡ Open at ∷ us) × (skip 1 us ≡ Some rest)
if_ends (if_let at n c w p e ts mid rest h s t) = (at, Word n w ∷ ts, refl, skip-pattern 0 s ∙ skip-expr 0 t)
if_ends (if_only at n c w e ts rest h t) = (at, Word n w ∷ ts, refl, skip-expr 0 t)

some_is : (us vs : List Lexeme) → Some us ≡ Some vs → us ≡ vs
some_is us vs e = cc

pub same_end : (e : Expr) (i : IfLet) (ts rest behind : List Lexeme) → ExprS e ts rest → IfLetS i ts behind → rest ≡ behind
same_end e i ts rest behind s t = let x = if_ends t in some_is rest behind (sym (expr_ends x.0 x.1 x.2 s) ∙ x.3)

-- ---- iflet* E )

abbrev LastS : Expr → List IfLet × Expr → List Lexeme → List Lexeme → Type 0
LastS e = Closed ([], e)

abbrev MoreS : IfLet → List IfLet × Expr → List Lexeme → List Lexeme → Type 0
MoreS i = Then TailS (λ x. Nothing (i ∷ x.0, x.1))

tail_to : (x : List IfLet × Expr) (ts rest : List Lexeme) → Either (Then ExprS LastS) (Then IfLetS MoreS) x ts rest → TailS x ts rest
tail_to x ts rest (inl (e, mid, s, (c, us, ec, (f, g)))) = subst (λ z. TailS z ts rest) (sym f) (last c e ts rest (subst (ExprS e ts) (ec ∙ ap (λ z. Close c ∷ z) g) s))
tail_to x ts rest (inr (i, mid, s, (y, us, t, (f, g)))) = subst (λ z. TailS z ts rest) (sym f) (more i y ts mid rest s (subst (TailS y mid) g t))

tail_from : (x : List IfLet × Expr) (ts rest : List Lexeme) → TailS x ts rest → Either (Then ExprS LastS) (Then IfLetS MoreS) x ts rest
tail_from _ _ _ (last c e ts rest s) = inl (e, Close c ∷ rest, s, (c, rest, refl, (refl, refl)))
tail_from _ _ _ (more i x ts mid rest s t) = inr (i, mid, s, (x, rest, t, (refl, refl)))

tail_heads : (x : List IfLet × Expr) (ts rest : List Lexeme) → TailS x ts rest → Heads is_close false ts
tail_heads _ _ _ (last c e ts rest s) = expr_heads e ts (Close c ∷ rest) s
tail_heads _ _ _ (more i x ts mid rest s t) = if_heads i ts mid s

not_close : {A : Type 0} (S : A → List Lexeme → List Lexeme → Type 0) → ((a : A) (ts rest : List Lexeme) → S a ts rest → Heads is_close false ts) → (a : A) → S a (Close 0 ∷ []) (Close 0 ∷ []) → ⊥
not_close S heads a s =
    let x = heads a (Close 0 ∷ []) (Close 0 ∷ []) s in
    let y : Close 0 ≡ x.0 = cc (x.2) in
    let z : true ≡ false = ap is_close y ∙ x.3 in
    cc

-- ---- in a rule's list

most_one : 1 + (most_open - 1) ≡ most_open
unfolding most_open
most_one = refl

most_two : 1 + suc (most_open - 2) ≡ most_open
unfolding most_open
most_two = refl

few_open : 2 ≤ most_open
unfolding most_open
few_open = omega arith

-- after them no `@` is open whose pattern goes on
pub law_right : (n : ℕ) → Law (Inside (Round ∷ [])) (λ e. Behind (Round ∷ [])) Anything n ExprS (read_expr n (most_open - 1))
unfolding most_open
law_right n = law_expr_behind n 254 [] most_two

pub law_if : (n : ℕ) → Law (Inside (Round ∷ [])) (λ i. Behind (Round ∷ [])) Anything n IfLetS (read_iflet n (most_open - 2))
law_if n = law_condition (Behind (Round ∷ [])) n (most_open - 2) [] most_two (close_behind Round (Round ∷ []) (omega (arith, few_open)))

tail_ends : Begins Anything TailS []
tail_ends = (Word 0 (codes "a") ∷ Close 0 ∷ [], ([], a_name), λ tail c. last 0 a_name (Word 0 (codes "a") ∷ Close 0 ∷ tail) tail (a_whole (Close 0 ∷ tail)))

pub law_tail : (n k : ℕ) → k ≤ n → Law (Inside (Round ∷ [])) (λ x. Inside []) Anything k TailS (read_tail n k)
unfolding read_tail read_form
law_tail n zero l = law_spent (λ x ts rest s. let y = tail_heads x ts rest s in (y.0, y.1, y.2)) tail_ends
law_tail n (suc k) l = law_map tail_to tail_from (law_forms (law_tail n k (omega (arith, l))))
  where
    closed : (v : Expr) → Law (Inside (Round ∷ [])) (λ x. Inside []) Anything k (LastS v) (bind read_close (λ c. Ret ([], v)))
    closed v = law_next _ _ (law_close (inside_close Round [] (omega (arith, few_open)))) (λ c. law_ret ([], v) (λ q p. p))

    others : Law (Inside (Round ∷ [])) (λ x. Inside []) Anything k TailS (read_tail n k) → (i : IfLet) → Law (Inside (Round ∷ [])) (λ x. Inside []) Anything k (MoreS i) (bind (read_tail n k) (λ x. Ret (i ∷ x.0, x.1)))
    others ih i = law_next _ _ ih (λ x. law_ret (i ∷ x.0, x.1) (λ q p. p))

    law_e : Law (Inside (Round ∷ [])) (λ e. Inside (Round ∷ [])) Anything (suc k) ExprS (read_expr n (most_open - 1))
    law_e = law_states (suc k) l (λ q p. p) (λ a q e. behind_inside (Round ∷ []) q e) (law_right n)

    law_i : Law (Inside (Round ∷ [])) (λ i. Inside (Round ∷ [])) Anything (suc k) IfLetS (read_iflet n (most_open - 2))
    law_i = law_states (suc k) l (λ q p. p) (λ a q e. behind_inside (Round ∷ []) q e) (law_if n)

    law_forms : Law (Inside (Round ∷ [])) (λ x. Inside []) Anything k TailS (read_tail n k)
        → Law (Inside (Round ∷ [])) (λ x. Inside []) Anything (suc k) (Either (Then ExprS LastS) (Then IfLetS MoreS)) (bind (both (read_expr n (most_open - 1)) (read_iflet n (most_open - 2))) (behind_form (read_tail n k)))
    law_forms ih = law_both k (read_expr n (most_open - 1)) (read_iflet n (most_open - 2)) (behind_form (read_tail n k)) law_e law_i closed (others ih)
        (λ v i. law_peek is_close _ _ (λ x ts rest s c. (Close s.0, s.1, s.2, refl)) (λ x ts rest s c. tail_heads s.0 ts s.1 s.2) (closed v) (others ih i))
        same_end
        (both_less k (read_expr n (most_open - 1)) (read_iflet n (most_open - 2)) (takes (read_expr n (most_open - 1)) law_e (Close 0 ∷ []) tt (not_close ExprS expr_heads)) (takes (read_iflet n (most_open - 2)) law_i (Close 0 ∷ []) tt (not_close IfLetS if_heads)))
