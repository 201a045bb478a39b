-- The text of lines spells their definitions.
use Rattle.std.proofs.Common.{◌≡◌, ℕ, ◌+◌, ◌*◌, ◌-◌, ◌<◌, ◌≤◌, pos, negsuc, List, [], ◌∷◌, ◌++◌, length, drop, map, flat_map, fold, Some, None, refl, sym, ap, subst, ◌∙◌, codes, arith, length-drop}
use Rattle.std.specs.List.{AllByRecursion}
use Rattle.std.proofs.lemmas.Str.{IsUtf8-from_ascii}
use Rattle.isle_lexer.specs.Token.{Between, Coming, coming}
use Rattle.isle_lexer.specs.Lexeme.{Lexeme, lexeme, lexemes}
use Rattle.isle_lexer.specs.Word.{kind}
use Rattle.isle_lexer.proofs.Coming.{at_end, whole}
use Rattle.isle_reading.specs.Names.{symbol}
use Rattle.isle_reading.specs.Relations.{none, more, no_word}
use Rattle.isle_reading.specs.Nesting.{Nest, nothing_open, nest, deepest, depth, most_open}
use Rattle.isle_ast.specs.Tree as tree
use Rattle.isle_grammar.specs.Grammar.{word_pattern, pattern_of, word_expr, expr_of, last, unnamed, unwritten, written, no_flags, DefS, decl, rule, FileS, no_def, a_def}
use Rattle.isle_grammar.specs.Spelling.{SpellsTokens, Spells}
use Rattle.isle_printer.specs.Number.{numeral}
use Rattle.isle_sample.specs.Sample.{term_name}
use Rattle.isle_sample.proofs.SampleLines.{Line, Declares, Gives, Otherwise, line_text, line_def, place, defs_at, u8_name, IsSmall}
use Rattle.isle_sample.proofs.TextPieces.{lexemes_at}
use Rattle.isle_sample.proofs.TextLines.{line_pieces, line_bytes, line_apart, line_words, lines_ascii}
use Rattle.isle_sample.proofs.ReadPieces.{Reads, pieces_read, bytes_after}
use Rattle.isle_sample.proofs.ReadWords.{name_is, name_no_flag, small_number, last_number, last_priority, wildcard, type_is_name}

-- ---- tokens

-- the tokens of lines, the first at this place
abbrev line_lexemes : ℕ → List Line → List Lexeme
line_lexemes at [] = []
line_lexemes at (l ∷ ls) = lexemes_at at (line_pieces l) ++ line_lexemes (at + length (line_text l)) ls

-- what comes of a text from a place on are these tokens, and each comment ends
record Comes (text : List ℕ) (at : ℕ) (ls : List Lexeme) : Type 0 where
  tokens : map (lexeme text) (coming text Between at).tokens ≡ ls
  closed : (coming text Between at).unclosed ≡ None

lines_come : (text : List ℕ) (at : ℕ) (ls : List Line) → drop at text ≡ flat_map line_text ls
    → Comes text at (line_lexemes at ls)
lines_come text at [] e =
    let left : length (drop at text) ≡ length text - at = length-drop at text in
    let none_left : length (drop at text) ≡ 0 = ap length e in
    let ends = at_end text at Between (omega (arith, left, none_left)) in
    record {
      tokens = ap (λ (c : Coming). map (lexeme text) c.tokens) ends;
      closed = ap (λ (c : Coming). c.unclosed) ends;
    }
lines_come text at (l ∷ ls) e =
    let next : ℕ = at + length (line_text l) in
    let reads : Reads text at (lexemes_at at (line_pieces l)) next =
    pieces_read text at (line_pieces l) (flat_map line_text ls) next (line_apart l) (line_words l)
    (e ∙ ap (λ bs. bs ++ flat_map line_text ls) (sym (line_bytes l))) (ap (λ bs. at + length bs) (line_bytes l)) in
    let others : Comes text next (line_lexemes next ls) =
    lines_come text next ls (bytes_after text at (line_text l) (flat_map line_text ls) e) in
    record {
      tokens = reads.tokens ∙ ap (λ xs. lexemes_at at (line_pieces l) ++ xs) others.tokens;
      closed = reads.unclosed ∙ others.closed;
    }

-- ---- definitions

pattern_number : (n : ℕ) → n < 16 → pattern_of (numeral 10 n) (kind (numeral 10 n)) ≡ Some (tree.Int (pos n))
pattern_number n l = ap (pattern_of (numeral 10 n)) (small_number n l)

expr_number : (n : ℕ) → n < 16 → expr_of (numeral 10 n) (kind (numeral 10 n)) ≡ Some (tree.Number (pos n))
expr_number n l = ap (expr_of (numeral 10 n)) (small_number n l)

line_spells : (l : Line) → IsSmall l → (at : ℕ) (rest : List Lexeme)
    → DefS 0 (line_def l (place at)) (lexemes_at at (line_pieces l) ++ rest) rest
line_spells (Declares i) h at rest =
    decl _ _ _ _ _ (codes "decl") (term_name i) u8_name no_flags (u8_name ∷ u8_name ∷ []) _ _ _ rest
    refl (no_word _ _ _) (name_is i) (name_no_flag i)
    (more _ _ _ _ _ (symbol _ _ _ type_is_name) (more _ _ _ _ _ (symbol _ _ _ type_is_name) (none _ _)))
    (symbol _ _ _ type_is_name)
line_spells (Gives i a b) h at rest =
    rule _ _ _ (codes "rule") (term_name i) None (pos 0) (tree.Int (pos a) ∷ tree.Int (pos b) ∷ []) []
    (tree.Number (pos (4 * a + b))) _ _ _ _ _ rest
    refl (unnamed _) (unwritten _) (symbol _ _ _ (name_is i))
    (more _ _ _ _ _ (word_pattern _ _ _ _ (pattern_number a (omega (arith, h.0))))
    (more _ _ _ _ _ (word_pattern _ _ _ _ (pattern_number b (omega (arith, h.1)))) (none _ _)))
    (last _ _ _ _ (word_expr _ _ _ _ (expr_number (4 * a + b) (omega (arith, h.0, h.1)))))
line_spells (Otherwise i) h at rest =
    rule _ _ _ (codes "rule") (term_name i) None (negsuc 0) (tree.Wildcard ∷ tree.Wildcard ∷ []) []
    (tree.Number (pos 255)) _ _ _ _ _ rest
    refl (unnamed _) (written _ _ _ _ last_priority (omega arith)) (symbol _ _ _ (name_is i))
    (more _ _ _ _ _ (word_pattern _ _ _ _ fits_all) (more _ _ _ _ _ (word_pattern _ _ _ _ fits_all) (none _ _)))
    (last _ _ _ _ (word_expr _ _ _ _ (ap (expr_of (codes "255")) last_number)))
  where
    fits_all : pattern_of (codes "_") (kind (codes "_")) ≡ Some tree.Wildcard
    fits_all = ap (pattern_of (codes "_")) wildcard

lines_spell : (at : ℕ) (ls : List Line) → AllByRecursion IsSmall ls → FileS 0 (line_lexemes at ls) (defs_at at ls)
lines_spell at [] h = no_def
lines_spell at (l ∷ ls) h =
    let next : ℕ = at + length (line_text l) in
    a_def (line_def l (place at)) (defs_at next ls) _ (line_lexemes next ls)
    (line_spells l h.0 at (line_lexemes next ls)) (lines_spell next ls h.1)

-- ---- nesting

within_both : (s : Nest) (ts us : List Lexeme) (n : ℕ) → deepest s ts ≤ n → deepest (fold nest s ts) us ≤ n
    → deepest s (ts ++ us) ≤ n
within_both s [] us n h k = k
within_both s (t ∷ ts) us n h k =
    let others : deepest (nest s t) (ts ++ us) ≤ n = within_both (nest s t) ts us n (omega (arith, h)) k in
    omega (arith, h, others)

line_within : (l : Line) (at : ℕ) → deepest nothing_open (lexemes_at at (line_pieces l)) ≤ 2
line_within (Declares i) at = omega arith
line_within (Gives i a b) at = omega arith
line_within (Otherwise i) at = omega arith

line_closed : (l : Line) (at : ℕ) → fold nest nothing_open (lexemes_at at (line_pieces l)) ≡ nothing_open
line_closed (Declares i) at = refl
line_closed (Gives i a b) at = refl
line_closed (Otherwise i) at = refl

lines_within : (at : ℕ) (ls : List Line) → depth (line_lexemes at ls) ≤ 2
lines_within at [] = omega arith
lines_within at (l ∷ ls) =
    let next : ℕ = at + length (line_text l) in
    within_both nothing_open (lexemes_at at (line_pieces l)) (line_lexemes next ls) 2 (line_within l at)
    (subst (λ s. deepest s (line_lexemes next ls) ≤ 2) (sym (line_closed l at)) (lines_within next ls))

lines_shallow : (at : ℕ) (ls : List Line) → depth (line_lexemes at ls) ≤ most_open
unfolding most_open
lines_shallow at ls = let within : depth (line_lexemes at ls) ≤ 2 = lines_within at ls in omega (arith, within)

-- ---- the whole text

-- the text of small lines spells their definitions
pub lines_read : (ls : List Line) → AllByRecursion IsSmall ls → Spells 0 (flat_map line_text ls) (defs_at 0 ls)
lines_read ls h =
    let text : List ℕ = flat_map line_text ls in
    let comes : Comes text 0 (line_lexemes 0 ls) = lines_come text 0 ls refl in
    let is : lexemes text ≡ line_lexemes 0 ls =
    ap (λ (c : Coming). map (lexeme text) c.tokens) (sym (whole text)) ∙ comes.tokens in
    let spelt : SpellsTokens 0 (line_lexemes 0 ls) (defs_at 0 ls) =
    record { shallow = lines_shallow 0 ls; definitions = lines_spell 0 ls h } in
    record {
      utf8 = IsUtf8-from_ascii text (lines_ascii ls);
      closed = ap (λ (c : Coming). c.unclosed) (sym (whole text)) ∙ comes.closed;
      tokens = subst (λ ts. SpellsTokens 0 ts (defs_at 0 ls)) (sym is) spelt;
    }
