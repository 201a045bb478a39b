-- The tokens of definitions nest no deeper than their heights say.
use native.Mathlib.Nat.{max-le}
use Rattle.std.proofs.Common.{◌≡◌, ℕ, zero, suc, ◌+◌, ◌≤◌, ℤ, pos, negsuc, List, [], ◌∷◌, length, Bool, true, false, Option, Some, None, refl, sym, ap, subst, codes, arith}
use Rattle.std.specs.Prelude.{max, if◌then◌else◌}
use Rattle.std.specs.List.{AllByRecursion}
use Rattle.isle_lexer.specs.Lexeme.{Lexeme, Open, Close, At, Word}
use Rattle.isle_reading.specs.Nesting.{Mark, Round, Passed, Last, Headless, Awaiting, Other, Nest, nothing_open, is_passed, settled, here_by, opened, closed, signed, worded, nest, deepest}
use Rattle.isle_reading.specs.Nesting as nesting
use Rattle.isle_ast.specs.Tree.{Pattern, Patterns, NoPattern, APattern, Expr, Exprs, NoExpr, AnExpr, Lets, NoLet, ALet, IfLet, Def}
use Rattle.isle_ast.specs.Tree as tree
use Rattle.isle_ast.specs.Views.{patterns_of}
use Rattle.isle_ast.specs.declared.tree.AstBody.{AstBody}
use Rattle.isle_ast.specs.declared.tree.AstBody.TheVariants as body
use Rattle.isle_ast.specs.declared.tree.AstFields.{AstFields}
use Rattle.isle_ast.specs.declared.tree.AstFields.TheVariants as fields
use Rattle.isle_ast.specs.declared.tree.AstVariant.{AstVariant}
use Rattle.isle_writing.specs.Text.{truth_text, number_text}
use Rattle.isle_writing.specs.Height.{pattern_height, patterns_height, expr_height, exprs_height, lets_height, iflets_height, def_height}
use Rattle.isle_writing.specs.LaidDefs.{LaidDef, laid_defs}
use Rattle.isle_writing.specs.Writable.{IsNamed}
use Rattle.isle_writing.proofs.Pieces.{Piece, Blank, Opens, Closes, Sign, Spelt, lexemes_at}
use Rattle.isle_writing.proofs.Laid.{mark_pieces, names_pieces, joined_pieces, pattern_pieces, patterns_pieces, expr_pieces, exprs_pieces, lets_pieces, named_pieces, shape_pieces, variant_pieces, variants_pieces, body_pieces, flags_pieces, rule_name_pieces, prio_pieces, iflets_pieces, def_pieces, laid_pieces}

-- ---- token by token

-- a state after a token that leaves nothing open to the next
abbrev state : List Mark → Nest
state ms = record { marks = ms; last = Other }

-- a state in which the next word or parenthesis is no head of a definition
abbrev entered : Bool → List Mark → Nest
entered true ms = record { marks = ms; last = Awaiting }
entered false ms = record { marks = ms; last = Other }

-- the marks where the next token stands
abbrev standing : Bool → List Mark → List Mark
standing true ms = ms
standing false ms = settled ms

word_step : (b : Bool) (ms : List Mark) (w : List ℕ) (at : ℕ) (ts : List Lexeme) (n : ℕ) → length (standing b ms) ≤ n → deepest (state (standing b ms)) ts ≤ n
    → deepest (entered b ms) (Word at w ∷ ts) ≤ n
word_step true ms w at ts n l h = max-le l h
word_step false ms w at ts n l h = max-le l h

opened_is : (x base : List Mark) → settled x ≡ Round ∷ base → opened x ≡ state (Round ∷ x)
opened_is [] base e = cc
opened_is (Round ∷ x) base e = refl
opened_is (Passed ∷ x) base e = cc
opened_is (nesting.Sign ∷ x) base e = refl

signed_is : (x base : List Mark) → settled x ≡ Round ∷ base → signed x ≡ entered true (nesting.Sign ∷ x)
signed_is [] base e = cc
signed_is (Round ∷ x) base e = refl
signed_is (Passed ∷ x) base e = cc
signed_is (nesting.Sign ∷ x) base e = refl

open_step : (b : Bool) (ms base : List Mark) (at : ℕ) (ts : List Lexeme) (n : ℕ) → settled (standing b ms) ≡ Round ∷ base → suc (length (standing b ms)) ≤ n
    → deepest (state (Round ∷ standing b ms)) ts ≤ n → deepest (entered b ms) (Open at ∷ ts) ≤ n
open_step true ms base at ts n e l h = subst (λ (s : Nest). max (length s.marks) (deepest s ts) ≤ n) (sym (opened_is ms base e)) (max-le l h)
open_step false ms base at ts n e l h = subst (λ (s : Nest). max (length s.marks) (deepest s ts) ≤ n) (sym (opened_is (settled ms) base e)) (max-le l h)

sign_step : (x base : List Mark) (at : ℕ) (ts : List Lexeme) (n : ℕ) → settled x ≡ Round ∷ base → suc (length x) ≤ n → deepest (entered true (nesting.Sign ∷ x)) ts ≤ n → deepest (state x) (At at ∷ ts) ≤ n
sign_step x base at ts n e l h = subst (λ (s : Nest). max (length s.marks) (deepest s ts) ≤ n) (sym (signed_is x base e)) (max-le l h)

-- ---- pieces inside a parenthesis

-- from each state inside a parenthesis in which these marks are open, the tokens of these pieces nest so deep at most
record Goes (base : List Mark) (ps : List Piece) (n : ℕ) : Type 0 where
  nests : (ms : List Mark) (at : ℕ) → settled ms ≡ Round ∷ base → deepest (state ms) (lexemes_at at ps) ≤ n

longer : (ms base : List Mark) → settled ms ≡ Round ∷ base → length (settled ms) ≡ suc (length base)
longer ms base e = ap length e

goes_word : (base : List Mark) (w : List ℕ) (ps : List Piece) (n : ℕ) → suc (length base) ≤ n → Goes base ps n → Goes base (Spelt w ∷ ps) n
goes_word base w ps n l g = record {
  nests = λ ms at e. word_step false ms w at (lexemes_at (at + length w) ps) n (omega (arith, l, longer ms base e)) (g.nests (settled ms) (at + length w) (ap settled e));
}

goes_blank : (base : List Mark) (b : ℕ) (ps : List Piece) (n : ℕ) → Goes base ps n → Goes base (Blank b ∷ ps) n
goes_blank base b ps n g = record { nests = λ ms at e. g.nests ms (at + 1) e }

goes_open : (base : List Mark) (ps : List Piece) (n : ℕ) → 2 + length base ≤ n → Goes (Round ∷ base) ps n → Goes base (Opens ∷ ps) n
goes_open base ps n l g = record {
  nests = λ ms at e. open_step false ms base at (lexemes_at (at + 1) ps) n (ap settled e) (omega (arith, l, longer ms base e)) (g.nests (Round ∷ settled ms) (at + 1) (ap (λ z. Round ∷ z) e));
}

closes_step : (x ms : List Mark) (at : ℕ) (ts : List Lexeme) (n : ℕ) → settled ms ≡ Round ∷ x → length x ≤ n → deepest (state x) ts ≤ n → deepest (state ms) (Close at ∷ ts) ≤ n
closes_step x ms at ts n e l h = subst (λ z. max (length (closed z)) (deepest (state (closed z)) ts) ≤ n) (sym e) (max-le l h)

goes_close : (x base : List Mark) (ps : List Piece) (n : ℕ) → settled x ≡ Round ∷ base → length x ≤ n → Goes base ps n → Goes x (Closes ∷ ps) n
goes_close x base ps n so l g = record { nests = λ ms at e. closes_step x ms at (lexemes_at (at + 1) ps) n e l (g.nests x (at + 1) so) }

-- ---- patterns

-- a parenthesis, a word, and pieces inside
listed_deep : (base : List Mark) (b : Bool) (ms : List Mark) (w : List ℕ) (ps : List Piece) (at n : ℕ) → settled (standing b ms) ≡ Round ∷ base → suc (length (standing b ms)) ≤ n → Goes (standing b ms) ps n
    → deepest (entered b ms) (lexemes_at at (Opens ∷ Spelt w ∷ ps)) ≤ n
listed_deep base b ms w ps at n e l g =
    open_step b ms base at (lexemes_at (at + 1) (Spelt w ∷ ps)) n e l
    (word_step false (Round ∷ standing b ms) w (at + 1) (lexemes_at (at + 1 + length w) ps) n l (g.nests (Round ∷ standing b ms) (at + 1 + length w) refl))

mutual
  pattern_deep : (p : Pattern) (base : List Mark) (b : Bool) (ms : List Mark) (at : ℕ) (ps : List Piece) (n : ℕ) → settled (standing b ms) ≡ Round ∷ base
      → length (standing b ms) + pattern_height p ≤ n → Goes base ps n → deepest (entered b ms) (lexemes_at at (pattern_pieces p ps)) ≤ n
  pattern_deep (tree.Int k) base b ms at ps n e l g = word_step b ms (number_text k) at _ n (omega (arith, l)) (g.nests (standing b ms) _ e)
  pattern_deep (tree.Truth t) base b ms at ps n e l g = word_step b ms (truth_text t) at _ n (omega (arith, l)) (g.nests (standing b ms) _ e)
  pattern_deep (tree.Const name) base b ms at ps n e l g = word_step b ms (36 ∷ name) at _ n (omega (arith, l)) (g.nests (standing b ms) _ e)
  pattern_deep tree.Wildcard base b ms at ps n e l g = word_step b ms (codes "_") at _ n (omega (arith, l)) (g.nests (standing b ms) _ e)
  pattern_deep (tree.Var name) base b ms at ps n e l g = word_step b ms name at _ n (omega (arith, l)) (g.nests (standing b ms) _ e)
  pattern_deep (tree.Bind name p) base b ms at ps n e l g =
      word_step b ms name at (lexemes_at (at + length name) (Blank 32 ∷ Sign ∷ Blank 32 ∷ pattern_pieces p ps)) n (omega (arith, l))
      (sign_step (standing b ms) base (at + length name + 1) (lexemes_at (at + length name + 1 + 1 + 1) (pattern_pieces p ps)) n e (omega (arith, l))
      (pattern_deep p base true (nesting.Sign ∷ standing b ms) (at + length name + 1 + 1 + 1) ps n e (omega (arith, l)) g))
  pattern_deep (tree.And parts) base b ms at ps n e l g =
      listed_deep base b ms (codes "and") (patterns_pieces parts (Closes ∷ ps)) at n e (omega (arith, l)) (patterns_deep parts (standing b ms) (Closes ∷ ps) n (omega (arith, l)) (goes_close (standing b ms) base ps n e (omega (arith, l)) g))
  pattern_deep (tree.Term name parts) base b ms at ps n e l g =
      listed_deep base b ms name (patterns_pieces parts (Closes ∷ ps)) at n e (omega (arith, l)) (patterns_deep parts (standing b ms) (Closes ∷ ps) n (omega (arith, l)) (goes_close (standing b ms) base ps n e (omega (arith, l)) g))

  patterns_deep : (parts : Patterns) (base : List Mark) (ps : List Piece) (n : ℕ) → suc (length base) + patterns_height parts ≤ n → Goes base ps n → Goes base (patterns_pieces parts ps) n
  patterns_deep NoPattern base ps n l g = g
  patterns_deep (APattern p others) base ps n l g = record {
    nests = λ ms at e. pattern_deep p base false ms (at + 1) (patterns_pieces others ps) n (ap settled e) (omega (arith, l, longer ms base e)) (patterns_deep others base ps n (omega (arith, l)) g);
  }

goes_pattern : (p : Pattern) (base : List Mark) (ps : List Piece) (n : ℕ) → suc (length base) + pattern_height p ≤ n → Goes base ps n → Goes base (pattern_pieces p ps) n
goes_pattern p base ps n l g = record { nests = λ ms at e. pattern_deep p base false ms at ps n (ap settled e) (omega (arith, l, longer ms base e)) g }

-- ---- expressions

-- in a parenthesis more
close_back : (base : List Mark) (ps : List Piece) (n : ℕ) → suc (length base) ≤ n → Goes base ps n → Goes (Round ∷ base) (Closes ∷ ps) n
close_back base ps n l g = goes_close (Round ∷ base) base ps n refl l g

mutual
  goes_expr : (e : Expr) (base : List Mark) (ps : List Piece) (n : ℕ) → suc (length base) + expr_height e ≤ n → Goes base ps n → Goes base (expr_pieces e ps) n
  goes_expr (tree.Number k) base ps n l g = goes_word base (number_text k) ps n (omega (arith, l)) g
  goes_expr (tree.Fact b) base ps n l g = goes_word base (truth_text b) ps n (omega (arith, l)) g
  goes_expr (tree.Constant name) base ps n l g = goes_word base (36 ∷ name) ps n (omega (arith, l)) g
  goes_expr (tree.Name name) base ps n l g = goes_word base name ps n (omega (arith, l)) g
  goes_expr (tree.Let ls e) base ps n l g =
      let inner : Goes (Round ∷ base) (Blank 32 ∷ expr_pieces e (Closes ∷ ps)) n =
      goes_blank (Round ∷ base) 32 _ n (goes_expr e (Round ∷ base) (Closes ∷ ps) n (omega (arith, l)) (close_back base ps n (omega (arith, l)) g)) in
      goes_open base _ n (omega (arith, l)) (goes_word (Round ∷ base) (codes "let") _ n (omega (arith, l)) (goes_blank (Round ∷ base) 32 _ n (goes_open (Round ∷ base) _ n (omega (arith, l))
      (goes_lets ls (Round ∷ Round ∷ base) (Closes ∷ Blank 32 ∷ expr_pieces e (Closes ∷ ps)) n (omega (arith, l)) (close_back (Round ∷ base) _ n (omega (arith, l)) inner)))))
  goes_expr (tree.Call name es) base ps n l g =
      goes_open base _ n (omega (arith, l)) (goes_word (Round ∷ base) name _ n (omega (arith, l)) (goes_exprs es (Round ∷ base) (Closes ∷ ps) n (omega (arith, l)) (close_back base ps n (omega (arith, l)) g)))

  goes_exprs : (es : Exprs) (base : List Mark) (ps : List Piece) (n : ℕ) → suc (length base) + exprs_height es ≤ n → Goes base ps n → Goes base (exprs_pieces es ps) n
  goes_exprs NoExpr base ps n l g = g
  goes_exprs (AnExpr e es) base ps n l g = goes_blank base 32 _ n (goes_expr e base (exprs_pieces es ps) n (omega (arith, l)) (goes_exprs es base ps n (omega (arith, l)) g))

  goes_lets : (ls : Lets) (base : List Mark) (ps : List Piece) (n : ℕ) → suc (length base) + lets_height ls ≤ n → Goes base ps n → Goes base (lets_pieces [] ls ps) n
  goes_lets NoLet base ps n l g = g
  goes_lets (ALet var ty e ls) base ps n l g =
      goes_open base _ n (omega (arith, l)) (goes_word (Round ∷ base) var _ n (omega (arith, l)) (goes_blank (Round ∷ base) 32 _ n (goes_word (Round ∷ base) ty _ n (omega (arith, l))
      (goes_blank (Round ∷ base) 32 _ n (goes_expr e (Round ∷ base) _ n (omega (arith, l)) (close_back base _ n (omega (arith, l)) (goes_more ls base ps n (omega (arith, l)) g)))))))

  goes_more : (ls : Lets) (base : List Mark) (ps : List Piece) (n : ℕ) → suc (length base) + lets_height ls ≤ n → Goes base ps n → Goes base (lets_pieces (32 ∷ []) ls ps) n
  goes_more NoLet base ps n l g = g
  goes_more (ALet var ty e ls) base ps n l g =
      goes_blank base 32 _ n (goes_open base _ n (omega (arith, l)) (goes_word (Round ∷ base) var _ n (omega (arith, l)) (goes_blank (Round ∷ base) 32 _ n (goes_word (Round ∷ base) ty _ n (omega (arith, l))
      (goes_blank (Round ∷ base) 32 _ n (goes_expr e (Round ∷ base) _ n (omega (arith, l)) (close_back base _ n (omega (arith, l)) (goes_more ls base ps n (omega (arith, l)) g))))))))

-- ---- parts of definitions

goes_mark : (b : Bool) (w : List ℕ) (base : List Mark) (ps : List Piece) (n : ℕ) → suc (length base) ≤ n → Goes base ps n → Goes base (mark_pieces b w ps) n
goes_mark true w base ps n l g = goes_word base w _ n l (goes_blank base 32 ps n g)
goes_mark false w base ps n l g = g

goes_names : (names : List (List ℕ)) (base : List Mark) (ps : List Piece) (n : ℕ) → suc (length base) ≤ n → Goes base ps n → Goes base (names_pieces names ps) n
goes_names [] base ps n l g = g
goes_names (w ∷ names) base ps n l g = goes_blank base 32 _ n (goes_word base w _ n l (goes_names names base ps n l g))

goes_joined : (names : List (List ℕ)) (base : List Mark) (ps : List Piece) (n : ℕ) → suc (length base) ≤ n → Goes base ps n → Goes base (joined_pieces names ps) n
goes_joined [] base ps n l g = g
goes_joined (w ∷ names) base ps n l g = goes_word base w _ n l (goes_names names base ps n l g)

goes_named : (fs : List (List ℕ × List ℕ)) (base : List Mark) (ps : List Piece) (n : ℕ) → 2 + length base ≤ n → Goes base ps n → Goes base (named_pieces fs ps) n
goes_named [] base ps n l g = g
goes_named (f ∷ fs) base ps n l g =
    goes_blank base 32 _ n (goes_open base _ n (omega (arith, l)) (goes_word (Round ∷ base) f.0 _ n (omega (arith, l)) (goes_blank (Round ∷ base) 32 _ n (goes_word (Round ∷ base) f.1 _ n (omega (arith, l))
    (close_back base _ n (omega (arith, l)) (goes_named fs base ps n l g))))))

goes_shape : (fs : AstFields) (base : List Mark) (ps : List Piece) (n : ℕ) → 2 + length base ≤ n → Goes base ps n → Goes base (shape_pieces fs ps) n
goes_shape fields.Unit base ps n l g = g
goes_shape (fields.Named fs) base ps n l g = goes_named fs base ps n l g
goes_shape (fields.Tuple ts) base ps n l g = goes_names ts base ps n (omega (arith, l)) g

goes_variant : (name : List ℕ) (fs : AstFields) (base : List Mark) (ps : List Piece) (n : ℕ) → 3 + length base ≤ n → Goes base ps n → Goes base (variant_pieces name fs ps) n
goes_variant name fields.Unit base ps n l g = goes_word base name ps n (omega (arith, l)) g
goes_variant name (fields.Named fs) base ps n l g =
    goes_open base _ n (omega (arith, l)) (goes_word (Round ∷ base) name _ n (omega (arith, l)) (goes_named fs (Round ∷ base) _ n (omega (arith, l)) (close_back base ps n (omega (arith, l)) g)))
goes_variant name (fields.Tuple ts) base ps n l g =
    goes_open base _ n (omega (arith, l)) (goes_word (Round ∷ base) name _ n (omega (arith, l)) (goes_names ts (Round ∷ base) _ n (omega (arith, l)) (close_back base ps n (omega (arith, l)) g)))

goes_variants : (vs : List AstVariant) (base : List Mark) (ps : List Piece) (n : ℕ) → 3 + length base ≤ n → Goes base ps n → Goes base (variants_pieces vs ps) n
goes_variants [] base ps n l g = g
goes_variants (v ∷ vs) base ps n l g = goes_blank base 10 _ n (goes_blank base 32 _ n (goes_blank base 32 _ n (goes_variant v.name v.fields base _ n l (goes_variants vs base ps n l g))))

goes_body : (b : AstBody) (base : List Mark) (ps : List Piece) (n : ℕ) → 4 + length base ≤ n → Goes base ps n → Goes base (body_pieces b ps) n
goes_body (body.Primitive name) base ps n l g =
    goes_open base _ n (omega (arith, l)) (goes_word (Round ∷ base) (codes "primitive") _ n (omega (arith, l)) (goes_blank (Round ∷ base) 32 _ n (goes_word (Round ∷ base) name _ n (omega (arith, l)) (close_back base ps n (omega (arith, l)) g))))
goes_body (body.Enum vs) base ps n l g =
    goes_open base _ n (omega (arith, l)) (goes_word (Round ∷ base) (codes "enum") _ n (omega (arith, l)) (goes_variants vs (Round ∷ base) _ n (omega (arith, l)) (close_back base ps n (omega (arith, l)) g)))
goes_body (body.Struct fs) base ps n l g =
    goes_open base _ n (omega (arith, l)) (goes_word (Round ∷ base) (codes "struct") _ n (omega (arith, l)) (goes_shape fs (Round ∷ base) _ n (omega (arith, l)) (close_back base ps n (omega (arith, l)) g)))

goes_flags : (pure multi partial recursive : Bool) (base : List Mark) (ps : List Piece) (n : ℕ) → suc (length base) ≤ n → Goes base ps n → Goes base (flags_pieces pure multi partial recursive ps) n
goes_flags pure multi partial recursive base ps n l g =
    goes_mark pure (codes "pure") base _ n l (goes_mark multi (codes "multi") base _ n l (goes_mark partial (codes "partial") base _ n l (goes_mark recursive (codes "rec") base ps n l g)))

goes_rule_name : (name : Option (List ℕ)) (base : List Mark) (ps : List Piece) (n : ℕ) → suc (length base) ≤ n → Goes base ps n → Goes base (rule_name_pieces name ps) n
goes_rule_name None base ps n l g = g
goes_rule_name (Some name) base ps n l g = goes_word base name _ n l (goes_blank base 32 ps n g)

goes_prio : (z : Bool) (k : ℤ) (base : List Mark) (ps : List Piece) (n : ℕ) → suc (length base) ≤ n → Goes base ps n → Goes base (prio_pieces z k ps) n
goes_prio true k base ps n l g = goes_word base (number_text k) _ n l (goes_blank base 32 ps n g)
goes_prio false (pos zero) base ps n l g = g
goes_prio false (pos (suc k)) base ps n l g = goes_word base (number_text (pos (suc k))) _ n l (goes_blank base 32 ps n g)
goes_prio false (negsuc k) base ps n l g = goes_word base (number_text (negsuc k)) _ n l (goes_blank base 32 ps n g)

goes_iflets : (is : List IfLet) (base : List Mark) (ps : List Piece) (n : ℕ) → suc (length base) + iflets_height is ≤ n → Goes base ps n → Goes base (iflets_pieces is ps) n
goes_iflets [] base ps n l g = g
goes_iflets (i ∷ is) base ps n l g =
    goes_open base _ n (omega (arith, l)) (goes_word (Round ∷ base) (codes "if-let") _ n (omega (arith, l)) (goes_blank (Round ∷ base) 32 _ n (goes_pattern i.lhs (Round ∷ base) _ n (omega (arith, l))
    (goes_blank (Round ∷ base) 32 _ n (goes_expr i.rhs (Round ∷ base) _ n (omega (arith, l)) (close_back base _ n (omega (arith, l)) (goes_blank base 32 _ n (goes_iflets is base ps n (omega (arith, l)) g))))))))

-- ---- definitions

-- outside of all parentheses, the tokens of these pieces nest so deep at most
pub record Top (ps : List Piece) (n : ℕ) : Type 0 where
  pub nests : (at : ℕ) → deepest nothing_open (lexemes_at at ps) ≤ n

end_line : (ps : List Piece) (n : ℕ) → Top ps n → Goes [] (Closes ∷ Blank 10 ∷ ps) n
end_line ps n t = record { nests = λ ms at e. closes_step [] ms at (lexemes_at (at + 1 + 1) ps) n e (omega arith) (t.nests (at + 1 + 1)) }

-- a parenthesis and the word of a definition
begins : (w : List ℕ) (ps : List Piece) (n : ℕ) → is_passed w ≡ false → 1 ≤ n → Goes [] ps n → Top (Opens ∷ Spelt w ∷ ps) n
begins w ps n e l g = record { nests = nests }
  where
    nests : (at : ℕ) → deepest nothing_open (lexemes_at at (Opens ∷ Spelt w ∷ ps)) ≤ n
    nests at =
        max-le l (subst (λ (b : Bool). max (length (if b then Passed ∷ [] else Round ∷ [])) (deepest (state (if b then Passed ∷ [] else Round ∷ [])) (lexemes_at (at + 1 + length w) ps)) ≤ n) (sym e)
        (max-le l (g.nests (Round ∷ []) _ refl)))

top_def : (z : Bool) (d : Def) (ps : List Piece) (n : ℕ) → IsNamed d → def_height d ≤ n → Top ps n → Top (def_pieces z d ps) n
top_def z (tree.TypeDecl name is_extern is_nodebug b spot) ps n h l t =
    begins (codes "type") _ n refl (omega (arith, l)) (goes_blank [] 32 _ n (goes_word [] name _ n (omega (arith, l)) (goes_blank [] 32 _ n (goes_mark is_extern (codes "extern") [] _ n (omega (arith, l))
    (goes_mark is_nodebug (codes "nodebug") [] _ n (omega (arith, l)) (goes_body b [] _ n (omega (arith, l)) (end_line ps n t)))))))
top_def z (tree.Decl term pure multi partial recursive args ret spot) ps n h l t =
    begins (codes "decl") _ n refl (omega (arith, l)) (goes_blank [] 32 _ n (goes_flags pure multi partial recursive [] _ n (omega (arith, l)) (goes_word [] term _ n (omega (arith, l)) (goes_blank [] 32 _ n
    (goes_open [] _ n (omega (arith, l)) (goes_joined args (Round ∷ []) _ n (omega (arith, l)) (close_back [] _ n (omega (arith, l)) (goes_blank [] 32 _ n (goes_word [] ret _ n (omega (arith, l)) (end_line ps n t))))))))))
top_def z (tree.ExternConstructor term func spot) ps n h l t =
    begins (codes "extern") _ n refl l (goes_blank [] 32 _ n (goes_word [] (codes "constructor") _ n l (goes_blank [] 32 _ n (goes_word [] term _ n l (goes_blank [] 32 _ n (goes_word [] func _ n l (end_line ps n t)))))))
top_def z (tree.ExternExtractor term func infallible spot) ps n h l t =
    begins (codes "extern") _ n refl l (goes_blank [] 32 _ n (goes_word [] (codes "extractor") _ n l (goes_blank [] 32 _ n (goes_mark infallible (codes "infallible") [] _ n l
    (goes_word [] term _ n l (goes_blank [] 32 _ n (goes_word [] func _ n l (end_line ps n t))))))))
top_def z (tree.ExternConst name ty spot) ps n h l t =
    begins (codes "extern") _ n refl l (goes_blank [] 32 _ n (goes_word [] (codes "const") _ n l (goes_blank [] 32 _ n (goes_word [] (36 ∷ name) _ n l (goes_blank [] 32 _ n (goes_word [] ty _ n l (end_line ps n t)))))))
top_def z (tree.Extractor term params p spot) ps n h l t =
    begins (codes "extractor") _ n refl (omega (arith, l)) (goes_blank [] 32 _ n (goes_open [] _ n (omega (arith, l)) (goes_word (Round ∷ []) term _ n (omega (arith, l)) (goes_names params (Round ∷ []) _ n (omega (arith, l))
    (close_back [] _ n (omega (arith, l)) (goes_blank [] 32 _ n (goes_pattern p [] _ n (omega (arith, l)) (end_line ps n t))))))))
top_def z (tree.Converter from to term spot) ps n h l t =
    begins (codes "convert") _ n refl l (goes_blank [] 32 _ n (goes_word [] from _ n l (goes_blank [] 32 _ n (goes_word [] to _ n l (goes_blank [] 32 _ n (goes_word [] term _ n l (end_line ps n t)))))))
top_def z (tree.Rule name prio term args iflets rhs spot) ps n h l t =
    begins (codes "rule") _ n refl (omega (arith, l)) (goes_blank [] 32 _ n (goes_rule_name name [] _ n (omega (arith, l)) (goes_prio z prio [] _ n (omega (arith, l)) (goes_open [] _ n (omega (arith, l))
    (goes_word (Round ∷ []) term _ n (omega (arith, l)) (patterns_deep (patterns_of args) (Round ∷ []) _ n (omega (arith, l)) (close_back [] _ n (omega (arith, l)) (goes_blank [] 32 _ n
    (goes_iflets iflets [] _ n (omega (arith, l)) (goes_expr rhs [] _ n (omega (arith, l)) (end_line ps n t)))))))))))
top_def z (tree.Passed head spot) ps n h l t = absurd h

-- definitions that nest no deeper than so
pub top_defs : (ls : List LaidDef) (n : ℕ) → AllByRecursion (λ (d : Def). IsNamed d × (def_height d ≤ n)) (laid_defs ls) → Top (laid_pieces ls) n
top_defs [] n h = record { nests = λ at. omega arith }
top_defs (l ∷ ls) n h = top_def l.shows_zero l.def (laid_pieces ls) n h.0.0 h.0.1 (top_defs ls n h.1)
