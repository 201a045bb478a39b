-- Definitions stand where their text has tokens.
use Rattle.std.proofs.Common.{◌≡◌, ℕ, ◌<◌, List, [], ◌∷◌, length, map, Bool, true, false, refl, sym, subst}
use Rattle.std.specs.Prelude.{◌==◌, if◌then◌else◌, slice_index}
use Rattle.std.specs.List.{AllByRecursion}
use Rattle.isle_lexer.specs.Token.{tokens_of}
use Rattle.isle_lexer.specs.declared.token.Tok.{Tok}
use Rattle.isle_lexer.specs.Lexeme.{Lexeme, Open, Close, At, Less, Greater, Word, lexeme, lexemes}
use Rattle.isle_ast.specs.Tree.{Def}
use Rattle.isle_reading.specs.Combinators.{place}
use Rattle.isle_reading.specs.Names.{NameS, symbol}
use Rattle.isle_reading.specs.Relations.{Many, none, more, WordsFrom, no_word, a_word}
use Rattle.isle_grammar.specs.Grammar.{PatternS, word_pattern, bound, list, PatternsS, no_pattern, a_pattern, ExprS, word_expr, let_in, call, ExprsS, no_expr, an_expr, LetsS, no_let, a_let, IfLetS, if_let, if_only, TailS, last}
use Rattle.isle_grammar.specs.Grammar as grammar
use Rattle.isle_grammar.specs.Grammar.{FieldS, field, ShapeS, unit, named, tuple, VariantS, plain, shaped, BodyS, primitive, enum, struct, AnyS, token, nested, AnysS, no_any, an_any, RuleNameS, unnamed, named_rule, PrioS, unwritten, written}
use Rattle.isle_grammar.specs.Grammar.{DefS, type_decl, decl, extern_constructor, extern_extractor, extern_infallible, extern_const, extractor, convert, rule, passed, FileS, no_def, a_def}
use Rattle.isle_ast.specs.Positions.{place_of, IsWithin, AreWithin}
use Rattle.isle_grammar.specs.Spelling.{Spells}
use Rattle.isle_lexer.proofs.Begun.{Before, tokens_before}

-- ---- tokens with their bytes

-- each begins before this place
abbrev pub Within : ℕ → List Lexeme → Type 0
Within n ls = AllByRecursion (λ (l : Lexeme). place l < n) ls

pick_place : (c : Bool) (l m : Lexeme) (n : ℕ) → place l ≡ n → place m ≡ n → place (if c then l else m) ≡ n
pick_place true l m n e f = e
pick_place false l m n e f = f

lexeme_place : (text : List ℕ) (t : Tok) → place (lexeme text t) ≡ t.from
lexeme_place text t =
    pick_place (slice_index text t.from == 40) _ _ t.from refl
    (pick_place (slice_index text t.from == 41) _ _ t.from refl
    (pick_place (slice_index text t.from == 64) _ _ t.from refl
    (pick_place (slice_index text t.from == 60) _ _ t.from refl
    (pick_place (slice_index text t.from == 62) _ _ t.from refl refl))))

all_within : (text : List ℕ) (n : ℕ) (ts : List Tok) → Before n ts → Within n (map (lexeme text) ts)
all_within text n [] h = tt
all_within text n (t ∷ ts) h = (subst (λ x. x < n) (sym (lexeme_place text t)) h.0, all_within text n ts h.1)

-- the tokens of a text begin in it
pub lexemes_within : (text : List ℕ) → Within (length text) (lexemes text)
lexemes_within text = all_within text (length text) (tokens_of text) (tokens_before text)

-- ---- what stands after a form begins there too

many_keeps : {A : Type 0} {S : A → List Lexeme → List Lexeme → Type 0} (n : ℕ) → ((a : A) (ts rest : List Lexeme) → S a ts rest → Within n ts → Within n rest)
    → {xs : List A} {ts rest : List Lexeme} → Many S xs ts rest → Within n ts → Within n rest
many_keeps n keeps (none at ts) h = h.1
many_keeps n keeps (more a others ts mid rest s m) h = many_keeps n keeps m (keeps a ts mid s h)

name_keeps : (n : ℕ) (w : List ℕ) (ts rest : List Lexeme) → NameS w ts rest → Within n ts → Within n rest
name_keeps n w ts rest (symbol at v us k) h = h.1

mutual
  pattern_keeps : {p : _} {ts rest : List Lexeme} (n : ℕ) → PatternS p ts rest → Within n ts → Within n rest
  pattern_keeps n (word_pattern at w p us k) h = h.1
  pattern_keeps n (bound at m x p us rest k s) h = pattern_keeps n s h.1.1
  pattern_keeps n (list at m w head ps us rest k s) h = patterns_keep n s h.1.1

  patterns_keep : {ps : _} {ts rest : List Lexeme} (n : ℕ) → PatternsS ps ts rest → Within n ts → Within n rest
  patterns_keep n (no_pattern at us) h = h.1
  patterns_keep n (a_pattern p others us mid rest s m) h = patterns_keep n m (pattern_keeps n s h)

mutual
  expr_keeps : {e : _} {ts rest : List Lexeme} (n : ℕ) → ExprS e ts rest → Within n ts → Within n rest
  expr_keeps n (word_expr at w e us k) h = h.1
  expr_keeps n (let_in at m o c w ls e us mid rest k l s) h = (expr_keeps n s (lets_keep n l h.1.1.1)).1
  expr_keeps n (call at m w name args us rest k s) h = exprs_keep n s h.1.1

  exprs_keep : {es : _} {ts rest : List Lexeme} (n : ℕ) → ExprsS es ts rest → Within n ts → Within n rest
  exprs_keep n (no_expr at us) h = h.1
  exprs_keep n (an_expr e others us mid rest s m) h = exprs_keep n m (expr_keeps n s h)

  lets_keep : {ls : _} {ts rest : List Lexeme} (n : ℕ) → LetsS ls ts rest → Within n ts → Within n rest
  lets_keep n (no_let at us) h = h.1
  lets_keep n (a_let at c x ty e others ts us vs mid rest sx st se m) h = lets_keep n m (expr_keeps n se (name_keeps n ty us vs st (name_keeps n x ts us sx h.1))).1

iflet_keeps : {i : _} {ts rest : List Lexeme} (n : ℕ) → IfLetS i ts rest → Within n ts → Within n rest
iflet_keeps n (if_let at m c w p e us mid rest k s t) h = (expr_keeps n t (pattern_keeps n s h.1.1)).1
iflet_keeps n (if_only at m c w e us rest k t) h = (expr_keeps n t h.1.1).1

tail_keeps : {x : _} {ts rest : List Lexeme} (n : ℕ) → TailS x ts rest → Within n ts → Within n rest
tail_keeps n (last c e us rest s) h = (expr_keeps n s h).1
tail_keeps n (grammar.more i x us mid rest s t) h = tail_keeps n t (iflet_keeps n s h)

field_keeps : (n : ℕ) (x : _) (ts rest : List Lexeme) → FieldS x ts rest → Within n ts → Within n rest
field_keeps n _ _ _ (field at c f t ts mid rest sf st) h = (name_keeps n t mid _ st (name_keeps n f ts mid sf h.1)).1

shape_keeps : {fs : _} {ts rest : List Lexeme} (n : ℕ) → ShapeS fs ts rest → Within n ts → Within n rest
shape_keeps n (unit at us) h = h.1
shape_keeps n (named f others us rest m) h = many_keeps n (field_keeps n) m h
shape_keeps n (tuple t others us rest m) h = many_keeps n (name_keeps n) m h

variant_keeps : (n : ℕ) (v : _) (ts rest : List Lexeme) → VariantS v ts rest → Within n ts → Within n rest
variant_keeps n _ _ _ (plain name us rest s) h = name_keeps n name us rest s h
variant_keeps n _ _ _ (shaped at name fs us mid rest s t) h = shape_keeps n t (name_keeps n name us mid s h.1)

body_keeps : {b : _} {ts rest : List Lexeme} (n : ℕ) → BodyS b ts rest → Within n ts → Within n rest
body_keeps n (primitive at m c w name us rest k s) h = (name_keeps n name us _ s h.1.1).1
body_keeps n (enum at m w vs us rest k s) h = many_keeps n (variant_keeps n) s h.1.1
body_keeps n (struct at m w fs us rest k s) h = shape_keeps n s h.1.1

mutual
  any_keeps : {a : _} {ts rest : List Lexeme} (n : ℕ) → AnyS a ts rest → Within n ts → Within n rest
  any_keeps n (token t a us k) h = h.1
  any_keeps n (nested at items us rest m) h = anys_keep n m h.1

  anys_keep : {items : _} {ts rest : List Lexeme} (n : ℕ) → AnysS items ts rest → Within n ts → Within n rest
  anys_keep n (no_any at us) h = h.1
  anys_keep n (an_any a others us mid rest s m) h = anys_keep n m (any_keeps n s h)

words_keep : {St : Type 0} {next : _} {k : ℕ} {s v : St} {ts rest : List Lexeme} (n : ℕ) → WordsFrom next k s v ts rest → Within n ts → Within n rest
words_keep n (no_word k s us) h = h
words_keep n (a_word k at w s u v us rest e m) h = words_keep n m h.1

rule_name_keeps : {o : _} {ts rest : List Lexeme} (n : ℕ) → RuleNameS o ts rest → Within n ts → Within n rest
rule_name_keeps n (unnamed us) h = h
rule_name_keeps n (named_rule at w us k) h = h.1

prio_keeps : {z : _} {ts rest : List Lexeme} (n : ℕ) → PrioS z ts rest → Within n ts → Within n rest
prio_keeps n (unwritten us) h = h
prio_keeps n (written at w m us k f) h = h.1

-- what stands after a definition
def_keeps : {file : ℕ} {d : Def} {ts rest : List Lexeme} (n : ℕ) → DefS file d ts rest → Within n ts → Within n rest
def_keeps n (type_decl at h c head name marks b ts us vs rest eh sn sm sb) w = (body_keeps n sb (words_keep n sm (name_keeps n name ts us sn w.1.1))).1
def_keeps n (decl at h m o c head term ret flags args ts us mid rest eh sf sn fl ms rs) w =
    let behind = words_keep n sf w.1.1 in
    (name_keeps n ret mid _ rs (many_keeps n (name_keeps n) ms behind.1.1)).1
def_keeps n (extern_constructor at h k c head second term func ts mid rest eh es st sf) w = (name_keeps n func mid _ sf (name_keeps n term ts mid st w.1.1.1)).1
def_keeps n (extern_extractor at h k c head second term func ts mid rest eh es st sf) w = (name_keeps n func mid _ sf (name_keeps n term ts mid st w.1.1.1)).1
def_keeps n (extern_infallible at h k i c head second third term func ts mid rest eh es et st sf) w = (name_keeps n func mid _ sf (name_keeps n term ts mid st w.1.1.1.1)).1
def_keeps n (extern_const at h k d c head second v name ty ts rest eh es ev st) w = (name_keeps n ty ts _ st w.1.1.1.1).1
def_keeps n (extractor at h o c head term params p ts us mid rest eh st m sp) w = (pattern_keeps n sp (many_keeps n (name_keeps n) m (name_keeps n term ts us st w.1.1.1))).1
def_keeps n (convert at h c head from to term ts us vs rest eh sf st sn) w = (name_keeps n term vs _ sn (name_keeps n to us vs st (name_keeps n from ts us sf w.1.1))).1
def_keeps n (rule at h o head term name prio args iflets rhs ts us vs ws mid rest eh sn sp st ms sy) w =
    let behind = prio_keeps n sp (rule_name_keeps n sn w.1.1) in
    tail_keeps n sy (many_keeps n (λ p us rest s. pattern_keeps n s) ms (name_keeps n term vs ws st behind.1))
def_keeps n (passed at h head items ts rest eh m) w = many_keeps n (λ a us rest s. any_keeps n s) m w.1.1

-- a definition's parenthesis is the first of its tokens
def_place : {file : ℕ} {d : Def} {ts rest : List Lexeme} (text : List ℕ) → DefS file d ts rest → Within (length text) ts → IsWithin file text (place_of d)
def_place text (type_decl at h c head name marks b ts us vs rest eh sn sm sb) w = record { named = refl; before = w.0 }
def_place text (decl at h m o c head term ret flags args ts us mid rest eh sf sn fl ms rs) w = record { named = refl; before = w.0 }
def_place text (extern_constructor at h k c head second term func ts mid rest eh es st sf) w = record { named = refl; before = w.0 }
def_place text (extern_extractor at h k c head second term func ts mid rest eh es st sf) w = record { named = refl; before = w.0 }
def_place text (extern_infallible at h k i c head second third term func ts mid rest eh es et st sf) w = record { named = refl; before = w.0 }
def_place text (extern_const at h k d c head second v name ty ts rest eh es ev st) w = record { named = refl; before = w.0 }
def_place text (extractor at h o c head term params p ts us mid rest eh st m sp) w = record { named = refl; before = w.0 }
def_place text (convert at h c head from to term ts us vs rest eh sf st sn) w = record { named = refl; before = w.0 }
def_place text (rule at h o head term name prio args iflets rhs ts us vs ws mid rest eh sn sp st ms sy) w = record { named = refl; before = w.0 }
def_place text (passed at h head items ts rest eh m) w = record { named = refl; before = w.0 }

file_within : {file : ℕ} {ts : List Lexeme} {defs : List Def} (text : List ℕ) → FileS file ts defs → Within (length text) ts → AreWithin file text defs
file_within text no_def w = tt
file_within text (a_def d others ts rest s behind) w = (def_place text s w, file_within text behind (def_keeps (length text) s w))

-- the definitions that a text spells stand in it
pub spelt_within : (file : ℕ) (text : List ℕ) (defs : List Def) → Spells file text defs → AreWithin file text defs
spelt_within file text defs h = file_within text h.tokens.definitions (lexemes_within text)
