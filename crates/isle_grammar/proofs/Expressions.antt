-- The laws of the readers of expressions.
use Rattle.std.proofs.Common.{◌≡◌, ℕ, zero, suc, ◌+◌, ◌≤◌, List, [], ◌∷◌, length, true, false, inl, inr, refl, ap, sym, ◌∙◌, subst, arith, Option, Some, None}
use Rattle.std.specs.Prelude.{codes}
use Rattle.isle_lexer.specs.Lexeme.{Lexeme, Open, Close, At, Word}
use Rattle.isle_lexer.specs.Word.{kind}
use Rattle.isle_reading.specs.Reader.{Ret, bind}
use Rattle.isle_reading.specs.Combinators.{is_open, is_close, read_open, read_close}
use Rattle.isle_reading.specs.Names.{NameS, symbol, name_of}
use Rattle.isle_reading.specs.Nesting.{Mark, Round, Nest, most_open}
use Rattle.isle_reading.specs.Relations.{Begins, Anything, Many, none, more}
use Rattle.isle_reading.proofs.Passes.{Steps}
use Rattle.isle_reading.proofs.Law.{Law, Heads, Nothing, Then, Either, law_map, law_next}
use Rattle.isle_reading.proofs.TokenLaws.{OpenS, CloseS, WordS, WordSteps, Gives, law_ret, law_open, law_close, law_word, law_peek, law_barred, law_walled}
use Rattle.isle_reading.proofs.ListLaws.{law_many}
use Rattle.isle_reading.proofs.NameLaws.{law_name, a_named, a_plain}
use Rattle.isle_reading.proofs.States.{Inside, Behind, inside_open, inside_close, inside_word, inside_over, close_behind, behind_word}
use Rattle.isle_ast.specs.Tree.{Expr, Exprs, AnExpr, Lets, ALet}
use Rattle.isle_ast.specs.Tree as tree
use Rattle.isle_ast.specs.Views.{exprs_of, SeenBinding, lets_of}
use Rattle.isle_grammar.specs.Grammar.{expr_of, ExprHead, IsLet, IsCall, expr_head, ExprS, word_expr, let_in, call, ExprsS, no_expr, an_expr, LetsS, no_let, a_let}
use Rattle.isle_grammar.specs.Reading.{read_leaf, read_expr_head, expr_behind, read_expr, read_bindings, read_binding}

abbrev leaf_of : List ℕ → Option Expr
leaf_of w = expr_of w (kind w)

abbrev pub Closed : {A : Type 0} → A → A → List Lexeme → List Lexeme → Type 0
Closed a = Then CloseS (λ c. Nothing a)

-- ( x T E )
abbrev BindingS : SeenBinding → List Lexeme → List Lexeme → Type 0
BindingS = Then OpenS (λ o. Then NameS (λ x. Then NameS (λ t. Then ExprS (λ e. Closed ((x, t, e))))))

abbrev BindingsS : List SeenBinding → List Lexeme → List Lexeme → Type 0
BindingsS = Then OpenS (λ o. Many BindingS)

abbrev BehindS : ExprHead → Expr → List Lexeme → List Lexeme → Type 0
BehindS IsLet = Then BindingsS (λ ls. Then ExprS (λ e. Closed (tree.Let (lets_of ls) e)))
BehindS (IsCall w) = Then (Many ExprS) (λ es. Nothing (tree.Call w (exprs_of es)))

abbrev ListE : Expr → List Lexeme → List Lexeme → Type 0
ListE = Then OpenS (λ o. Then (WordS expr_head) BehindS)

exprs_to : (es : List Expr) (ts rest : List Lexeme) → Many ExprS es ts rest → ExprsS (exprs_of es) ts rest
exprs_to _ _ _ (none at ts) = no_expr at ts
exprs_to _ _ _ (more e others ts mid rest s m) = an_expr e (exprs_of others) ts mid rest s (exprs_to others mid rest m)

exprs_from : (es : Exprs) (ts rest : List Lexeme) → ExprsS es ts rest → (xs : List Expr) × (exprs_of xs ≡ es) × Many ExprS xs ts rest
exprs_from _ _ _ (no_expr at ts) = ([], refl, none at ts)
exprs_from _ _ _ (an_expr e others ts mid rest s m) = let x = exprs_from others mid rest m in (e ∷ x.0, ap (λ z. AnExpr e z) x.1, more e x.0 ts mid rest s x.2)

lets_to : (ls : List SeenBinding) (ts rest : List Lexeme) → Many BindingS ls ts rest → LetsS (lets_of ls) ts rest
lets_to _ _ _ (none at ts) = no_let at ts
lets_to _ _ _ (more b others ts mid rest (at, us, eo, (x, vs, sx, (t, ws, st, (e, m2, se, (c, m3, ec, (p, q)))))) m) =
    subst (λ z. LetsS (ALet z.0 z.1 z.2 (lets_of others)) ts rest) (sym p)
    (subst (λ z. LetsS (ALet x t e (lets_of others)) z rest) (sym eo)
    (a_let at c x t e (lets_of others) us vs ws mid rest sx st (subst (ExprS e ws) (ec ∙ ap (λ z. Close c ∷ z) q) se) (lets_to others mid rest m)))

lets_from : (ls : Lets) (ts rest : List Lexeme) → LetsS ls ts rest → (xs : List SeenBinding) × (lets_of xs ≡ ls) × Many BindingS xs ts rest
lets_from _ _ _ (no_let at ts) = ([], refl, none at ts)
lets_from _ _ _ (a_let at c x t e ls ts us vs mid rest sx st se m) =
    let y = lets_from ls mid rest m in
    ((x, t, e) ∷ y.0, ap (λ z. ALet x t e z) y.1, more _ y.0 (Open at ∷ ts) mid rest (at, ts, refl, (x, us, sx, (t, vs, st, (e, Close c ∷ mid, se, (c, mid, refl, (refl, refl)))))) y.2)

behind_to : (o n : ℕ) (w : List ℕ) (h : ExprHead) (e : Expr) (us rest : List Lexeme) → expr_head w ≡ Some h → BehindS h e us rest → ExprS e (Open o ∷ Word n w ∷ us) rest
behind_to o n w IsLet e us rest hw (ls, mid, (b, vs, eb, m), (x, m2, sx, (c, m3, ec, (p, q)))) =
    subst (λ z. ExprS z (Open o ∷ Word n w ∷ us) rest) (sym p)
    (subst (λ z. ExprS (tree.Let (lets_of ls) x) (Open o ∷ Word n w ∷ z) rest) (sym eb) (let_in o n b c w (lets_of ls) x vs mid rest hw (lets_to ls vs mid m) (subst (ExprS x mid) (ec ∙ ap (λ z. Close c ∷ z) q) sx)))
behind_to o n w (IsCall f) e us rest hw (es, mid, m, (p, q)) = subst (λ z. ExprS z (Open o ∷ Word n w ∷ us) rest) (sym p) (call o n w f (exprs_of es) us rest hw (exprs_to es us rest (subst (Many ExprS es us) q m)))

expr_to : (e : Expr) (ts rest : List Lexeme) → Either ListE (WordS leaf_of) e ts rest → ExprS e ts rest
expr_to e ts rest (inl (o, vs, eo, (h, us, (n, w, ew, hw), s))) = subst (λ z. ExprS e z rest) (sym (eo ∙ ap (λ z. Open o ∷ z) ew)) (behind_to o n w h e us rest hw s)
expr_to e ts rest (inr (at, w, f, h)) = subst (λ z. ExprS e z rest) (sym f) (word_expr at w e rest h)

expr_from : (e : Expr) (ts rest : List Lexeme) → ExprS e ts rest → Either ListE (WordS leaf_of) e ts rest
expr_from _ _ _ (word_expr at w e ts h) = inr (at, w, refl, h)
expr_from _ _ _ (let_in at n o c w ls e ts mid rest h m s) =
    let x = lets_from ls ts mid m in
    inl (at, Word n w ∷ Open o ∷ ts, refl, (IsLet, Open o ∷ ts, (n, w, refl, h), (x.0, mid, (o, ts, refl, x.2), (e, Close c ∷ rest, s, (c, rest, refl, (ap (λ z. tree.Let z e) (sym x.1), refl))))))
expr_from _ _ _ (call at n w f es ts rest h m) = let x = exprs_from es ts rest m in inl (at, Word n w ∷ ts, refl, (IsCall f, ts, (n, w, refl, h), (x.0, rest, x.2, (ap (λ z. tree.Call f z) (sym x.1), refl))))

pub expr_heads : (e : Expr) (ts rest : List Lexeme) → ExprS e ts rest → Heads is_close false ts
expr_heads _ _ _ (word_expr at w e ts h) = (Word at w, ts, refl, refl)
expr_heads _ _ _ (let_in at n o c w ls e ts mid rest h m s) = (Open at, Word n w ∷ Open o ∷ ts, refl, refl)
expr_heads _ _ _ (call at n w f es ts rest h m) = (Open at, Word n w ∷ ts, refl, refl)

an_expr_head : Gives expr_head
an_expr_head = (codes "let", IsLet, refl)

-- a list's reader of values inside it, and its law's shape
abbrev pub ExprLaw : ℕ → ℕ → Type 0
ExprLaw n d = (ms : List Mark) → suc (length ms) + d ≡ most_open → Law (Inside (Round ∷ ms)) (λ e. Inside (Round ∷ ms)) Anything n ExprS (read_expr n d)

pub law_closed : {A : Type 0} {n : ℕ} {E : Nest → Type 0} (ms : List Mark) → ((at : ℕ) → Steps (Inside (Round ∷ Round ∷ ms)) E (Close at)) → (a : A) → Law (Inside (Round ∷ Round ∷ ms)) (λ a. E) Anything n (Closed a) (bind read_close (λ c. Ret a))
law_closed ms closing a = law_next _ _ (law_close closing) (λ c. law_ret a (λ q p. p))

list_heads : (e : Expr) (ts rest : List Lexeme) → ListE e ts rest → Anything rest → Heads is_open true ts
list_heads e ts rest s c = (Open s.0, s.1, s.2, refl)

word_heads : (e : Expr) (ts rest : List Lexeme) → WordS leaf_of e ts rest → Anything rest → Heads is_open false ts
word_heads e ts rest s c = (Word s.0 s.1, rest, s.2, refl)

abbrev pub a_name : Expr
a_name = tree.Name (codes "a")

pub a_whole : (tail : List Lexeme) → ExprS a_name (Word 0 (codes "a") ∷ tail) tail
a_whole tail = word_expr 0 (codes "a") a_name tail (ap (expr_of (codes "a")) a_plain)

law_leaf : {E : Nest → Type 0} (n : ℕ) (ms : List Mark) → WordSteps (Inside (Round ∷ ms)) (λ e. E) leaf_of → Law (Inside (Round ∷ ms)) (λ e. E) Anything n (WordS leaf_of) read_leaf
unfolding read_leaf
law_leaf n ms steps = law_word leaf_of (codes "a", a_name, ap (expr_of (codes "a")) a_plain) steps

binding_ends : Begins Anything BindingS []
binding_ends = (
  Open 0 ∷ Word 0 (codes "a") ∷ Word 0 (codes "a") ∷ Word 0 (codes "a") ∷ Close 0 ∷ [],
  (codes "a", codes "a", a_name),
  λ tail c.
      (0, _, refl, (codes "a", _, symbol 0 (codes "a") _ a_named, (codes "a", _, symbol 0 (codes "a") _ a_named, (a_name, _, a_whole (Close 0 ∷ tail), (0, tail, refl, (refl, refl)))))),
)

bindings_end : Begins Anything BindingsS []
bindings_end = (Open 0 ∷ Close 0 ∷ [], [], λ tail c. (0, Close 0 ∷ tail, refl, none 0 tail))

binding_heads : (b : SeenBinding) (ts rest : List Lexeme) → BindingS b ts rest → Heads is_close false ts
binding_heads b ts rest s = (Open s.0, s.1, s.2, refl)

-- inside as many lists, if so many more may be open
law_binding : (n d : ℕ) → ((k : ℕ) → d ≡ suc k → ExprLaw n k) → (ms : List Mark) → suc (length ms) + d ≡ most_open → Law (Inside (Round ∷ ms)) (λ b. Inside (Round ∷ ms)) Anything n BindingS (read_binding n d)
unfolding read_expr
law_binding n zero h ms e = law_walled is_open (λ b ts rest s c. (Open s.0, s.1, s.2, refl)) (inside_over (Round ∷ ms) tt (omega (arith, e))) binding_ends
law_binding n (suc d) h ms e =
    law_next _ _ (law_open (inside_open (Round ∷ ms) tt (omega (arith, e)))) (λ o.
    law_next _ _ (law_name (inside_word (Round ∷ Round ∷ ms) name_of (omega (arith, e)))) (λ x. law_next _ _ (law_name (inside_word (Round ∷ Round ∷ ms) name_of (omega (arith, e)))) (λ t.
    law_next _ _ (h d refl (Round ∷ ms) (omega (arith, e))) (λ v. law_closed ms (inside_close Round (Round ∷ ms) (omega (arith, e))) (x, t, v)))))

law_bindings : (n d : ℕ) → ((k : ℕ) → d ≡ suc (suc k) → ExprLaw n k) → (ms : List Mark) → suc (length ms) + d ≡ most_open → Law (Inside (Round ∷ ms)) (λ ls. Inside (Round ∷ ms)) Anything n BindingsS (read_bindings n d)
unfolding read_expr
law_bindings n zero h ms e = law_walled is_open (λ b ts rest s c. (Open s.0, s.1, s.2, refl)) (inside_over (Round ∷ ms) tt (omega (arith, e))) bindings_end
law_bindings n (suc d) h ms e =
    law_next _ _ (law_open (inside_open (Round ∷ ms) tt (omega (arith, e)))) (λ o.
    law_many {C = Anything} (Inside (Round ∷ ms)) n BindingS (read_binding n d) (law_binding n d (λ k f. h k (ap suc f)) (Round ∷ ms) (omega (arith, e))) (λ b ts rest s. tt) (λ at ts. tt) binding_heads (inside_close Round (Round ∷ ms) (omega (arith, e))) n (omega arith))

law_list : (E : Nest → Type 0) (n d : ℕ) → ((k : ℕ) → k ≤ d → ExprLaw n k) → (ms : List Mark) → suc (length ms) + suc d ≡ most_open → ((at : ℕ) → Steps (Inside (Round ∷ Round ∷ ms)) E (Close at))
    → Law (Inside (Round ∷ ms)) (λ e. E) Anything n ListE (bind read_open (λ o. bind read_expr_head (λ h. expr_behind n (read_expr n d) (read_bindings n d) h)))
unfolding read_expr_head
law_list E n d h ms e closing = law_next _ _ (law_open (inside_open (Round ∷ ms) tt (omega (arith, e)))) (λ o. law_next _ _ (law_word expr_head an_expr_head (inside_word (Round ∷ Round ∷ ms) expr_head (omega (arith, e)))) law_behind)
  where
    law_behind : (x : ExprHead) → Law (Inside (Round ∷ Round ∷ ms)) (λ e. E) Anything n (BehindS x) (expr_behind n (read_expr n d) (read_bindings n d) x)
    law_behind IsLet = law_next _ _ (law_bindings n d (λ k f. h k (omega (arith, f))) (Round ∷ ms) (omega (arith, e))) (λ ls.
        law_next _ _ (h d (omega arith) (Round ∷ ms) (omega (arith, e))) (λ v. law_closed ms closing (tree.Let (lets_of ls) v)))
    law_behind (IsCall w) = law_next _ _
        (law_many {C = Anything} E n ExprS (read_expr n d) (h d (omega arith) (Round ∷ ms) (omega (arith, e))) (λ e ts rest s. tt) (λ at ts. tt) expr_heads closing n (omega arith))
        (λ es. law_ret (tree.Call w (exprs_of es)) (λ q p. p))

law_level : (n d : ℕ) → ((k : ℕ) → suc k ≤ d → ExprLaw n k) → ExprLaw n d
unfolding read_expr
law_level n zero h ms e = law_map expr_to expr_from (law_barred is_open _ list_heads word_heads (inside_over (Round ∷ ms) tt (omega (arith, e))) (law_leaf n ms (inside_word (Round ∷ ms) leaf_of (omega (arith, e)))))
law_level n (suc d) h ms e = law_map expr_to expr_from (law_peek is_open _ _ list_heads word_heads
    (law_list (Inside (Round ∷ ms)) n d (λ k l. h k (omega (arith, l))) ms e (inside_close Round (Round ∷ ms) (omega (arith, e)))) (law_leaf n ms (inside_word (Round ∷ ms) leaf_of (omega (arith, e)))))

law_below : (n d k : ℕ) → k ≤ d → ExprLaw n k
law_below n zero k l = law_level n k (λ j m. absurd (omega (arith, l, m)))
law_below n (suc d) k l = law_level n k (λ j m. law_below n d j (omega (arith, l, m)))

pub law_expr : (n d : ℕ) → ExprLaw n d
law_expr n d = law_below n d d (omega arith)

-- after an expression no `@` is open whose pattern goes on
pub law_expr_behind : (n d : ℕ) (ms : List Mark) → suc (length ms) + suc d ≡ most_open → Law (Inside (Round ∷ ms)) (λ e. Behind (Round ∷ ms)) Anything n ExprS (read_expr n (suc d))
unfolding read_expr
law_expr_behind n d ms e = law_map expr_to expr_from (law_peek is_open _ _ list_heads word_heads
    (law_list (Behind (Round ∷ ms)) n d (λ k l. law_below n d k l) ms e (close_behind Round (Round ∷ ms) (omega (arith, e)))) (law_leaf n ms (behind_word (Round ∷ ms) leaf_of (omega (arith, e)))))
