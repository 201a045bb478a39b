-- The text of definitions spells nothing if one declares a term that has the name of a flag.
use Rattle.std.proofs.Common.{◌≡◌, ℕ, ◌+◌, ◌≤◌, List, [], ◌∷◌, length, Bool, true, false, ◌⊎◌, inl, inr, refl, sym, ap, ◌∙◌, subst, codes, arith}
use Rattle.std.specs.Prelude.{◌||◌, bytes_eq}
use Rattle.std.proofs.lemmas.Bool.{true≢false}
use Rattle.isle_lexer.specs.Lexeme.{Lexeme, Open, Close, At, Less, Greater, Word}
use Rattle.isle_lexer.specs.Word.{is_flag}
use Rattle.isle_reading.specs.Reader.{Reading, Got, run}
use Rattle.isle_reading.specs.Nesting.{nothing_open, depth, most_open}
use Rattle.isle_reading.specs.Relations.{WordsFrom, no_word, a_word}
use Rattle.isle_reading.proofs.Running.{got_is}
use Rattle.isle_reading.proofs.Passes.{Nests, shallow_not_over}
use Rattle.isle_reading.proofs.Law as law
use Rattle.isle_reading.proofs.Law.{Hits, hit}
use Rattle.isle_reading.proofs.States.{Inside, inside_start}
use Rattle.isle_ast.specs.Tree.{Def}
use Rattle.isle_ast.specs.Tree as tree
use Rattle.isle_grammar.specs.Grammar.{Flags, no_flags, with_flag, DefS, type_decl, decl, extern_constructor, extern_extractor, extern_infallible, extern_const, extractor, convert, rule, passed, FileS, no_def, a_def}
use Rattle.isle_grammar.specs.Reading.{read_def}
use Rattle.isle_grammar.proofs.Definitions.{law_def}
use Rattle.isle_writing.specs.LaidDefs.{LaidDef, laid_defs, laid_texts}
use Rattle.isle_writing.specs.Writable.{AreWritable}
use Rattle.isle_writing.specs.Spelt.{declares_flag, declare_flag, SpellsNone}
use Rattle.isle_writing.proofs.Pieces.{Piece, lexemes_at}
use Rattle.isle_writing.proofs.Laid.{mark_pieces, def_pieces, laid_pieces}
use Rattle.isle_writing.proofs.Read.{def_read}
use Rattle.isle_writing.proofs.Spells.{laid_shallow, laid_lexemes}

-- ---- a declaration of such a term

-- words that are flags, and a parenthesis after them
abbrev AreFlags : List Lexeme → Type 0
AreFlags [] = ⊥
AreFlags (Open at ∷ ts) = Unit {0}
AreFlags (Close at ∷ ts) = ⊥
AreFlags (At at ∷ ts) = ⊥
AreFlags (Less at ∷ ts) = ⊥
AreFlags (Greater at ∷ ts) = ⊥
AreFlags (Word at w ∷ ts) = (is_flag w ≡ true) × AreFlags ts

-- no name stands between them
no_name : (k : ℕ) (s v : Flags) (ts us : List Lexeme) (n o : ℕ) (term : List ℕ) → WordsFrom with_flag k s v ts (Word n term ∷ Open o ∷ us) → AreFlags ts → is_flag term ≡ false → ⊥
no_name k _ _ _ us n o term (no_word _ s _) h none = true≢false (sym h.0 ∙ none)
no_name _ _ v _ us n o term (a_word k at w s u _ ts _ e x) h none = no_name k u v ts us n o term x h.1 none

-- what a definition is that begins with the word `decl`
record Declares (ts : List Lexeme) : Type 0 where
  flags : Flags
  us : List Lexeme
  n : ℕ
  o : ℕ
  term : List ℕ
  words : WordsFrom with_flag 4 no_flags flags ts (Word n term ∷ Open o ∷ us)
  no_flag : is_flag term ≡ false

differs : (w : List ℕ) → codes "decl" ≡ w → bytes_eq w (codes "decl") ≡ false → ⊥
differs w e f = true≢false (ap (λ z. bytes_eq z (codes "decl")) e ∙ f)

declares : (file : ℕ) (d : Def) (at h : ℕ) (ts rest : List Lexeme) → DefS file d (Open at ∷ Word h (codes "decl") ∷ ts) rest → Declares ts
declares file _ _ _ _ _ (type_decl at h c head name marks b ts us vs rest e x y z) = absurd (differs (codes "type") e refl)
declares file _ _ _ _ _ (decl at h n o c head term ret flags args ts us mid rest e x is none y z) =
    record { flags = flags; us = us; n = n; o = o; term = term; words = x; no_flag = none }
declares file _ _ _ _ _ (extern_constructor at h k c head second term func ts mid rest e f x y) = absurd (differs (codes "extern") e refl)
declares file _ _ _ _ _ (extern_extractor at h k c head second term func ts mid rest e f x y) = absurd (differs (codes "extern") e refl)
declares file _ _ _ _ _ (extern_infallible at h k i c head second third term func ts mid rest e f g x y) = absurd (differs (codes "extern") e refl)
declares file _ _ _ _ _ (extern_const at h k d c head second w name ty ts rest e f g x) = absurd (differs (codes "extern") e refl)
declares file _ _ _ _ _ (extractor at h o c head term params p ts us mid rest e x y z) = absurd (differs (codes "extractor") e refl)
declares file _ _ _ _ _ (convert at h c head from to term ts us vs rest e x y z) = absurd (differs (codes "convert") e refl)
declares file _ _ _ _ _ (rule at h o head term name prio args iflets rhs ts us vs ws mid rest e x y z v w) = absurd (differs (codes "rule") e refl)
declares file _ _ _ _ _ (passed at h head items ts rest e x) = absurd (true≢false (sym e))

mark_flags : (b : Bool) (w : List ℕ) (ps : List Piece) → is_flag w ≡ true → ((at : ℕ) → AreFlags (lexemes_at at ps)) → (at : ℕ) → AreFlags (lexemes_at at (mark_pieces b w ps))
mark_flags true w ps h k at = (h, k (at + length w + 1))
mark_flags false w ps h k at = k at

refused : (z : Bool) (d : Def) (file at : ℕ) (e : Def) (ps : List Piece) (rest : List Lexeme) → declares_flag d ≡ true → DefS file e (lexemes_at at (def_pieces z d ps)) rest → ⊥
refused z (tree.TypeDecl name is_extern is_nodebug b spot) file at e ps rest h x = absurd cc
refused z (tree.Decl term pure multi partial recursive args ret spot) file at e ps rest h x =
    let y = declares file e _ _ _ rest x in
    no_name 4 no_flags y.flags _ y.us y.n y.o y.term y.words
    (mark_flags pure (codes "pure") _ refl (mark_flags multi (codes "multi") _ refl (mark_flags partial (codes "partial") _ refl (mark_flags recursive (codes "rec") _ refl (λ at. (h, tt))))) _) y.no_flag
refused z (tree.ExternConstructor term func spot) file at e ps rest h x = absurd cc
refused z (tree.ExternExtractor term func infallible spot) file at e ps rest h x = absurd cc
refused z (tree.ExternConst name ty spot) file at e ps rest h x = absurd cc
refused z (tree.Extractor term params p spot) file at e ps rest h x = absurd cc
refused z (tree.Converter from to term spot) file at e ps rest h x = absurd cc
refused z (tree.Rule name prio term args iflets rhs spot) file at e ps rest h x = absurd cc
refused z (tree.Passed head spot) file at e ps rest h x = absurd cc

-- ---- the definitions in front of it

def_got : (file : ℕ) (d : Def) (ts rest : List Lexeme) → DefS file d ts rest → depth ts ≤ most_open → run (read_def (length ts) file) ts ≡ Got d rest
def_got file d ts rest s shallow =
    let n : ℕ = length ts in
    let h = law_def n file in
    by (run (read_def n file) ts) (h.complete ts rest d s tt) (h.leads nothing_open ts inside_start)
  where
    by : (o : Reading Def) → Hits o d rest → Nests (λ d. Inside []) (length ts) nothing_open ts o → o ≡ Got d rest
    by o (hit e) x = e
    by o (law.too_deep r e) x = let y = subst (Nests (λ d. Inside []) (length ts) nothing_open ts) e x in absurd (shallow_not_over nothing_open y.0 ts r shallow y.1 (y.2 (omega arith)))

-- what is left after a definition is one list of tokens
left_once : (file : ℕ) (d e : Def) (ts us vs : List Lexeme) → DefS file d ts us → DefS file e ts vs → depth ts ≤ most_open → us ≡ vs
left_once file d e ts us vs x y shallow = (got_is us vs d e _ (def_got file d ts us x shallow) (def_got file e ts vs y shallow)).0

first_or : (a b : Bool) → (a || b) ≡ true → (a ≡ true) ⊎ ((a ≡ false) × (b ≡ true))
first_or true b h = inl refl
first_or false b h = inr (refl, h)

-- what a file's tokens begin with
record Starts (file : ℕ) (ts : List Lexeme) : Type 0 where
  first : Def
  others : List Def
  rest : List Lexeme
  spelt : DefS file first ts rest
  behind : FileS file rest others

starts : (file : ℕ) (ts : List Lexeme) (found : List Def) (t : Lexeme) (us : List Lexeme) → ts ≡ t ∷ us → FileS file ts found → Starts file ts
starts file _ _ t us e no_def = absurd cc
starts file _ _ t us e (a_def d others ts rest x m) = record { first = d; others = others; rest = rest; spelt = x; behind = m }

-- the tokens of a definition begin with a parenthesis
opens : (z : Bool) (d : Def) (at : ℕ) (ps : List Piece) → (us : List Lexeme) × (lexemes_at at (def_pieces z d ps) ≡ Open at ∷ us)
opens z (tree.TypeDecl name is_extern is_nodebug b spot) at ps = (_, refl)
opens z (tree.Decl term pure multi partial recursive args ret spot) at ps = (_, refl)
opens z (tree.ExternConstructor term func spot) at ps = (_, refl)
opens z (tree.ExternExtractor term func infallible spot) at ps = (_, refl)
opens z (tree.ExternConst name ty spot) at ps = (_, refl)
opens z (tree.Extractor term params p spot) at ps = (_, refl)
opens z (tree.Converter from to term spot) at ps = (_, refl)
opens z (tree.Rule name prio term args iflets rhs spot) at ps = (_, refl)
opens z (tree.Passed head spot) at ps = (_, refl)

nothing_spelt : (ls : List LaidDef) (file at : ℕ) (found : List Def) → AreWritable (laid_defs ls) → declare_flag (laid_defs ls) ≡ true
    → FileS file (lexemes_at at (laid_pieces ls)) found → ⊥
nothing_spelt [] file at found h k s = absurd cc
nothing_spelt (l ∷ ls) file at found h k s =
    let o = opens l.shows_zero l.def at (laid_pieces ls) in
    let x : Starts file (lexemes_at at (laid_pieces (l ∷ ls))) = starts file _ found (Open at) o.0 o.1 s in
    by x (λ end others g m. nothing_spelt ls file end others h.1 g m) (first_or (declares_flag l.def) (declare_flag (laid_defs ls)) k)
  where
    by : Starts file (lexemes_at at (laid_pieces (l ∷ ls)))
        → ((end : ℕ) (others : List Def) → declare_flag (laid_defs ls) ≡ true → FileS file (lexemes_at end (laid_pieces ls)) others → ⊥)
        → (declares_flag l.def ≡ true) ⊎ ((declares_flag l.def ≡ false) × (declare_flag (laid_defs ls) ≡ true)) → ⊥
    by x later (inl f) = refused l.shows_zero l.def file at x.first (laid_pieces ls) x.rest f x.spelt
    by x later (inr f) =
        let r = def_read l.shows_zero l.def file at (laid_pieces ls) h.0.0 f.0 in
        let left = left_once file _ x.first _ _ x.rest r.1 x.spelt (laid_shallow (l ∷ ls) at h) in
        later r.0 x.others f.1 (subst (λ ts. FileS file ts x.others) (sym left) x.behind)

-- the text of such definitions spells none
pub texts_spell_none : (ls : List LaidDef) → AreWritable (laid_defs ls) → declare_flag (laid_defs ls) ≡ true → SpellsNone (laid_texts ls)
texts_spell_none ls h k file found s = nothing_spelt ls file 0 found h k (subst (λ ts. FileS file ts found) (laid_lexemes ls h) s.tokens.definitions)
