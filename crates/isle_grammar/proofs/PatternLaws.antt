-- The laws of the readers of patterns.
use Rattle.std.proofs.Common.{◌≡◌, ℕ, zero, suc, ◌+◌, List, [], ◌∷◌, length, true, false, inl, inr, refl, ap, sym, ◌∙◌, subst, arith, Option, Some, None}
use Rattle.std.specs.Prelude.{codes}
use Rattle.isle_lexer.specs.Lexeme.{Lexeme, Open, Close, At, Word}
use Rattle.isle_lexer.specs.Word.{WordKind, Number, Malformed, Truth, Dollar, Underscore, Plain, kind, names, IsName}
use Rattle.isle_reading.specs.Reader.{Reader, Ret, Peek, Halt, bind}
use Rattle.isle_reading.specs.Combinators.{is_open, is_close, is_at, read_open, read_at, many}
use Rattle.isle_reading.specs.Nesting.{Mark, Round, Sign, settled, most_open}
use Rattle.isle_reading.specs.Relations.{Many, none, more}
use Rattle.isle_reading.proofs.Law.{Law, Heads, Nothing, Then, Either, law_map, law_then, law_next}
use Rattle.isle_reading.proofs.TokenLaws.{OpenS, AtS, WordS, Gives, law_ret, law_open, law_at, law_word, law_peek, law_barred}
use Rattle.isle_reading.proofs.ListLaws.{law_many}
use Rattle.isle_reading.proofs.NameLaws.{a_plain}
use Rattle.isle_reading.proofs.States.{Inside, Behind, InList, inside_open, inside_close, inside_word, inside_over, behind_word, behind_inside, behind_at, behind_over}
use Rattle.isle_ast.specs.Tree.{Pattern, Patterns, APattern}
use Rattle.isle_ast.specs.Tree as tree
use Rattle.isle_ast.specs.Views.{patterns_of}
use Rattle.isle_grammar.specs.Grammar.{pattern_of, PatternHead, IsAnd, IsTerm, pattern_head, listed, PatternS, word_pattern, bound, list, PatternsS, no_pattern, a_pattern}
use Rattle.isle_grammar.specs.Reading.{First, Leaf, Symbol, first_of, read_first, symbol_of, suffix, read_pattern_head, read_pattern}

-- no `@` may follow
abbrev pub NoAt : List Lexeme → Type 0
NoAt = Heads is_at false

-- ---- a pattern's first word

abbrev first_word : List ℕ → Option First
first_word w = first_of w (kind w)

-- one that is a pattern by itself alone
leaf_first : (w : List ℕ) (k : WordKind) (p : Pattern) → first_of w k ≡ Some (Leaf p) → pattern_of w k ≡ Some p
leaf_first w (Number n) p e = let x : tree.Int n ≡ p = cc in ap Some x
leaf_first w Malformed p e = cc
leaf_first w (Truth b) p e = cc
leaf_first w (Dollar name) p e = let x : tree.Const name ≡ p = cc in ap Some x
leaf_first w Underscore p e = cc
leaf_first w Plain p e = cc

-- a symbol
symbol_first : (w : List ℕ) (k : WordKind) (x : List ℕ) → first_of w k ≡ Some (Symbol x) → (w ≡ x) × (names k ≡ true) × (pattern_of w k ≡ Some (symbol_of w k))
symbol_first w (Number n) x e = cc
symbol_first w Malformed x e = cc
symbol_first w (Truth b) x e = (cc, refl, refl)
symbol_first w (Dollar name) x e = cc
symbol_first w Underscore x e = (cc, refl, refl)
symbol_first w Plain x e = (cc, refl, refl)

name_first : (w : List ℕ) (k : WordKind) → names k ≡ true → first_of w k ≡ Some (Symbol w)
name_first w (Number n) e = cc
name_first w Malformed e = cc
name_first w (Truth b) e = refl
name_first w (Dollar name) e = cc
name_first w Underscore e = refl
name_first w Plain e = refl

a_first : Gives first_word
a_first = (codes "a", Symbol (codes "a"), ap (first_of (codes "a")) a_plain)

a_pattern_head : Gives pattern_head
unfolding kind
a_pattern_head = (codes "a", IsTerm (codes "a"), refl)

-- ---- the grammar as shapes

abbrev SuffixS : First → Pattern → List Lexeme → List Lexeme → Type 0
SuffixS (Leaf p) = Nothing p
SuffixS (Symbol x) = Either (Then AtS (λ a. Then PatternS (λ p. Nothing (tree.Bind x p)))) (Nothing (symbol_of x (kind x)))

abbrev WordP : Pattern → List Lexeme → List Lexeme → Type 0
WordP = Then (WordS first_word) SuffixS

abbrev ListP : Pattern → List Lexeme → List Lexeme → Type 0
ListP = Then OpenS (λ o. Then (WordS pattern_head) (λ h. Then (Many PatternS) (λ ps. Nothing (listed h (patterns_of ps)))))

patterns_to : (ps : List Pattern) (ts rest : List Lexeme) → Many PatternS ps ts rest → PatternsS (patterns_of ps) ts rest
patterns_to _ _ _ (none at ts) = no_pattern at ts
patterns_to _ _ _ (more p others ts mid rest s m) = a_pattern p (patterns_of others) ts mid rest s (patterns_to others mid rest m)

patterns_from : (ps : Patterns) (ts rest : List Lexeme) → PatternsS ps ts rest → (xs : List Pattern) × (patterns_of xs ≡ ps) × Many PatternS xs ts rest
patterns_from _ _ _ (no_pattern at ts) = ([], refl, none at ts)
patterns_from _ _ _ (a_pattern p others ts mid rest s m) = let x = patterns_from others mid rest m in (p ∷ x.0, ap (λ z. APattern p z) x.1, more p x.0 ts mid rest s x.2)

leaf_to : (at : ℕ) (w : List ℕ) (p q : Pattern) (mid rest : List Lexeme) → pattern_of w (kind w) ≡ Some p → Nothing p q mid rest → PatternS q (Word at w ∷ mid) rest
leaf_to at w p q mid rest h (e, f) = subst (λ z. PatternS z (Word at w ∷ mid) rest) (sym e) (subst (λ z. PatternS p (Word at w ∷ z) rest) (sym f) (word_pattern at w p rest h))

symbol_to : (at : ℕ) (w : List ℕ) (q : Pattern) (mid rest : List Lexeme) → first_word w ≡ Some (Symbol w) → SuffixS (Symbol w) q mid rest → PatternS q (Word at w ∷ mid) rest
symbol_to at w q mid rest h (inl (n, us, e, (p, m2, s, (f, g)))) =
    let x = symbol_first w (kind w) w h in
    subst (λ z. PatternS z (Word at w ∷ mid) rest) (sym f) (subst (λ z. PatternS (tree.Bind w p) (Word at w ∷ z) rest) (sym e) (bound at n w p us rest x.1 (subst (PatternS p us) g s)))
symbol_to at w q mid rest h (inr s) = leaf_to at w (symbol_of w (kind w)) q mid rest (symbol_first w (kind w) w h).2 s

suffix_to : (at : ℕ) (w : List ℕ) (f : First) (q : Pattern) (mid rest : List Lexeme) → first_word w ≡ Some f → SuffixS f q mid rest → PatternS q (Word at w ∷ mid) rest
suffix_to at w (Leaf p) q mid rest h s = leaf_to at w p q mid rest (leaf_first w (kind w) p h) s
suffix_to at w (Symbol x) q mid rest h s =
    let e = (symbol_first w (kind w) x h).0 in
    symbol_to at w q mid rest (h ∙ ap (λ z. Some (Symbol z)) (sym e)) (subst (λ z. SuffixS (Symbol z) q mid rest) (sym e) s)

pattern_to : (p : Pattern) (ts rest : List Lexeme) → Either ListP WordP p ts rest → PatternS p ts rest
pattern_to p ts rest (inl (o, vs, eo, (h, us, (n, w, ew, hw), (ps, mid, m, (e, f))))) =
    subst (λ z. PatternS z ts rest) (sym e) (subst (λ z. PatternS (listed h (patterns_of ps)) z rest) (sym (eo ∙ ap (λ z. Open o ∷ z) ew)) (list o n w h (patterns_of ps) us rest hw (patterns_to ps us rest (subst (Many PatternS ps us) f m))))
pattern_to p ts rest (inr (q, mid, (at, w, e, hw), s)) = subst (λ z. PatternS p z rest) (sym e) (suffix_to at w q p mid rest hw s)

-- a word that is a pattern by itself
word_from : (at : ℕ) (w : List ℕ) (k : WordKind) (p : Pattern) (ts : List Lexeme) → kind w ≡ k → pattern_of w k ≡ Some p → (f : First) × (first_of w k ≡ Some f) × SuffixS f p ts ts
word_from at w (Number n) p ts e h = (Leaf (tree.Int n), refl, (let x : tree.Int n ≡ p = cc in sym x, refl))
word_from at w Malformed p ts e h = cc
word_from at w (Truth b) p ts e h = (Symbol w, refl, inr (let x : tree.Truth b ≡ p = cc in sym x ∙ sym (ap (symbol_of w) e), refl))
word_from at w (Dollar name) p ts e h = (Leaf (tree.Const name), refl, (let x : tree.Const name ≡ p = cc in sym x, refl))
word_from at w Underscore p ts e h = (Symbol w, refl, inr (let x : tree.Wildcard ≡ p = cc in sym x ∙ sym (ap (symbol_of w) e), refl))
word_from at w Plain p ts e h = (Symbol w, refl, inr (let x : tree.Var w ≡ p = cc in sym x ∙ sym (ap (symbol_of w) e), refl))

pattern_from : (p : Pattern) (ts rest : List Lexeme) → PatternS p ts rest → Either ListP WordP p ts rest
pattern_from _ _ _ (word_pattern at w p ts h) = let x = word_from at w (kind w) p ts refl h in inr (x.0, ts, (at, w, refl, x.1), x.2)
pattern_from _ _ _ (bound at n w p ts rest h s) = inr (Symbol w, At n ∷ ts, (at, w, refl, name_first w (kind w) h), inl (n, ts, refl, (p, rest, s, (refl, refl))))
pattern_from _ _ _ (list at n w h ps ts rest hw m) =
    let x = patterns_from ps ts rest m in
    inl (at, Word n w ∷ ts, refl, (h, ts, (n, w, refl, hw), (x.0, rest, x.2, (ap (λ z. listed h z) (sym x.1), refl))))

pub pattern_heads : (p : Pattern) (ts rest : List Lexeme) → PatternS p ts rest → Heads is_close false ts
pattern_heads _ _ _ (word_pattern at w p ts h) = (Word at w, ts, refl, refl)
pattern_heads _ _ _ (bound at n w p ts rest h s) = (Word at w, At n ∷ ts, refl, refl)
pattern_heads _ _ _ (list at n w h ps ts rest hw m) = (Open at, Word n w ∷ ts, refl, refl)

pub pattern_no_at : (p : Pattern) (ts rest : List Lexeme) → PatternS p ts rest → NoAt ts
pattern_no_at _ _ _ (word_pattern at w p ts h) = (Word at w, ts, refl, refl)
pattern_no_at _ _ _ (bound at n w p ts rest h s) = (Word at w, At n ∷ ts, refl, refl)
pattern_no_at _ _ _ (list at n w h ps ts rest hw m) = (Open at, Word n w ∷ ts, refl, refl)

-- ---- the law

-- what stands after a word, if the readers after an `@` are barred or read
law_suffix : (n : ℕ) (ms : List Mark) (binds : List ℕ → Reader Pattern)
    → ((x : List ℕ) → Law (Behind ms) (λ p. Inside (settled ms)) NoAt n (SuffixS (Symbol x)) (Peek is_at (binds x) (Ret (symbol_of x (kind x))))) → (f : First)
    → Law (Behind ms) (λ p. Inside (settled ms)) NoAt n (SuffixS f) (suffix binds f)
law_suffix n ms binds h (Leaf p) = law_ret p (behind_inside ms)
law_suffix n ms binds h (Symbol x) = h x

at_heads : (x : List ℕ) (p : Pattern) (ts rest : List Lexeme) → Then AtS (λ a. Then PatternS (λ p. Nothing (tree.Bind x p))) p ts rest → NoAt rest → Heads is_at true ts
at_heads x p ts rest s c = (At s.0, s.1, s.2, refl)

symbol_heads : (x : List ℕ) (p : Pattern) (ts rest : List Lexeme) → Nothing (symbol_of x (kind x)) p ts rest → NoAt rest → Heads is_at false ts
symbol_heads x p ts rest s c = subst NoAt (sym s.1) c

list_heads : (p : Pattern) (ts rest : List Lexeme) → ListP p ts rest → NoAt rest → Heads is_open true ts
list_heads p ts rest s c = (Open s.0, s.1, s.2, refl)

word_heads : (p : Pattern) (ts rest : List Lexeme) → WordP p ts rest → NoAt rest → Heads is_open false ts
word_heads p ts rest s c = (Word s.2.0 s.2.1, s.1, s.2.2, refl)

pub law_pattern : (n d : ℕ) (ms : List Mark) → InList ms → length ms + d ≡ most_open → Law (Inside ms) (λ p. Inside (settled ms)) NoAt n PatternS (read_pattern n d)
unfolding read_pattern read_first read_pattern_head
law_pattern n zero ms l e = law_map pattern_to pattern_from (law_barred is_open _ list_heads word_heads (inside_over ms l (omega (arith, e)))
    (law_next _ _ (law_word first_word a_first (behind_word ms first_word (omega (arith, e))))
    (law_suffix n ms (λ x. Halt) (λ x. law_barred is_at (Ret (symbol_of x (kind x))) (at_heads x) (symbol_heads x) (behind_over ms l (omega (arith, e))) (law_ret (symbol_of x (kind x)) (behind_inside ms))))))
law_pattern n (suc d) ms l e = law_map pattern_to pattern_from (law_peek is_open _ _ list_heads word_heads (nested (λ us k f. law_pattern n d us k f))
    (law_next _ _ (law_word first_word a_first (behind_word ms first_word (omega (arith, e))))
    (law_suffix n ms _ (λ x. law_peek is_at _ (Ret (symbol_of x (kind x))) (at_heads x) (symbol_heads x) (binds (λ us k f. law_pattern n d us k f) x) (law_ret (symbol_of x (kind x)) (behind_inside ms))))))
  where
    nested : ((us : List Mark) → InList us → length us + d ≡ most_open → Law (Inside us) (λ p. Inside (settled us)) NoAt n PatternS (read_pattern n d))
        → Law (Inside ms) (λ p. Inside (settled ms)) NoAt n ListP (bind read_open (λ o. bind read_pattern_head (λ h. bind (many n (read_pattern n d)) (λ ps. Ret (listed h (patterns_of ps))))))
    nested ih = law_next _ _ (law_open (inside_open ms l (omega (arith, e)))) (λ o. law_next _ _ (law_word pattern_head a_pattern_head (inside_word (Round ∷ ms) pattern_head (omega (arith, e)))) (λ h.
        law_next _ _
        (law_many {C = NoAt} (Inside (settled ms)) n PatternS (read_pattern n d) (ih (Round ∷ ms) tt (omega (arith, e))) pattern_no_at (λ at ts. (Close at, ts, refl, refl)) pattern_heads (inside_close Round ms (omega (arith, e))) n (omega arith))
        (λ ps. law_ret (listed h (patterns_of ps)) (λ q p. p))))

    binds : ((us : List Mark) → InList us → length us + d ≡ most_open → Law (Inside us) (λ p. Inside (settled us)) NoAt n PatternS (read_pattern n d))
        → (x : List ℕ) → Law (Behind ms) (λ p. Inside (settled ms)) NoAt n (Then AtS (λ a. Then PatternS (λ p. Nothing (tree.Bind x p)))) (bind read_at (λ a. bind (read_pattern n d) (λ p. Ret (tree.Bind x p))))
    binds ih x = law_next _ _ (law_at (behind_at ms l (omega (arith, e)))) (λ a. law_then _ _ (λ p b ts rest s c. subst NoAt (sym s.1) c) (ih (Sign ∷ ms) tt (omega (arith, e))) (λ p. law_ret (tree.Bind x p) (λ q p. p)))
