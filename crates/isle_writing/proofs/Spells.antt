-- The text of definitions spells them.
use Rattle.std.proofs.Common.{◌≡◌, ℕ, ◌≤◌, List, [], ◌∷◌, Bool, true, false, refl, sym, ap, ap₂, ◌∙◌, subst}
use Rattle.std.specs.Prelude.{◌||◌}
use Rattle.std.specs.List.{AllByRecursion}
use Rattle.isle_core.specs.declared.position.Pos.{Pos}
use Rattle.isle_lexer.specs.Lexeme.{lexemes}
use Rattle.isle_reading.specs.Nesting.{depth, most_open}
use Rattle.isle_ast.specs.Tree.{Def, TypeDecl, Decl, ExternConstructor, ExternExtractor, ExternConst, Extractor, Converter, Rule, Passed}
use Rattle.isle_grammar.specs.Grammar.{FileS, no_def, a_def}
use Rattle.isle_grammar.specs.Spelling.{SpellsTokens, Spells}
use Rattle.isle_grammar.proofs.SpeltOnce.{spelt_once}
use Rattle.isle_writing.specs.LaidDefs.{LaidDef, laid_defs, laid_texts}
use Rattle.isle_writing.specs.Erased.{placed, erased, all_erased}
use Rattle.isle_writing.specs.Writable.{IsNamed, AreWritable}
use Rattle.isle_writing.specs.Spelt.{declares_flag, declare_flag, SpellsOnly}
use Rattle.isle_writing.proofs.Pieces.{bytes_of, lexemes_at}
use Rattle.isle_writing.proofs.Laid.{laid_pieces}
use Rattle.isle_writing.proofs.Bytes.{laid_bytes}
use Rattle.isle_writing.proofs.Apart.{laid_apart}
use Rattle.isle_writing.proofs.Ascii.{pieces_utf8}
use Rattle.isle_writing.proofs.Lexing.{pieces_lexemes, pieces_closed}
use Rattle.isle_writing.proofs.Read.{def_read}
use Rattle.isle_writing.proofs.Deep.{top_defs}

-- ---- places

placed_erased : (to : Pos) (d : Def) → erased (placed to d) ≡ erased d
placed_erased to (TypeDecl name is_extern is_nodebug body at) = refl
placed_erased to (Decl term pure multi partial recursive args ret at) = refl
placed_erased to (ExternConstructor term func at) = refl
placed_erased to (ExternExtractor term func infallible at) = refl
placed_erased to (ExternConst name ty at) = refl
placed_erased to (Extractor term params template at) = refl
placed_erased to (Converter from result term at) = refl
placed_erased to (Rule name prio term args iflets rhs at) = refl
placed_erased to (Passed head at) = refl

-- ---- definitions in order

pub no_first : (a b : Bool) → (a || b) ≡ false → (a ≡ false) × (b ≡ false)
no_first true b h = absurd cc
no_first false b h = (refl, h)

-- what can be written has names
pub all_named : (ds : List Def) → AreWritable ds → AllByRecursion (λ (d : Def). IsNamed d) ds
all_named [] h = tt
all_named (d ∷ ds) h = (h.0.0, all_named ds h.1)

-- the tokens spell these definitions at some places
record Finds (file at : ℕ) (ls : List LaidDef) : Type 0 where
  found : List Def
  spelt : FileS file (lexemes_at at (laid_pieces ls)) found
  same : all_erased found ≡ all_erased (laid_defs ls)

laid_read : (ls : List LaidDef) (file at : ℕ) → AllByRecursion (λ (d : Def). IsNamed d) (laid_defs ls) → declare_flag (laid_defs ls) ≡ false → Finds file at ls
laid_read [] file at h k = record { found = []; spelt = no_def; same = refl }
laid_read (l ∷ ls) file at h k =
    let none = no_first (declares_flag l.def) (declare_flag (laid_defs ls)) k in
    let here = def_read l.shows_zero l.def file at (laid_pieces ls) h.0 none.0 in
    let others : Finds file here.0 ls = laid_read ls file here.0 h.1 none.1 in
    let to : Pos = record { file = file; offset = at } in
    record {
      found = placed to l.def ∷ others.found;
      spelt = a_def (placed to l.def) others.found _ _ here.1 others.spelt;
      same = ap₂ (λ x xs. x ∷ xs) (placed_erased to l.def) others.same;
    }

-- ---- the whole text

-- they nest no deeper than may be
pub laid_shallow : (ls : List LaidDef) (at : ℕ) → AreWritable (laid_defs ls) → depth (lexemes_at at (laid_pieces ls)) ≤ most_open
unfolding most_open
laid_shallow ls at h = (top_defs ls 256 h).nests at

-- the tokens of the text
pub laid_lexemes : (ls : List LaidDef) → AreWritable (laid_defs ls) → lexemes (laid_texts ls) ≡ lexemes_at 0 (laid_pieces ls)
laid_lexemes ls h = ap lexemes (sym (laid_bytes ls)) ∙ pieces_lexemes (laid_pieces ls) (laid_apart ls (all_named (laid_defs ls) h))

laid_spells : (ls : List LaidDef) (file : ℕ) → AreWritable (laid_defs ls) → declare_flag (laid_defs ls) ≡ false
    → (found : List Def) × Spells file (laid_texts ls) found × (all_erased found ≡ all_erased (laid_defs ls))
laid_spells ls file h k =
    let named = all_named (laid_defs ls) h in
    let apart = laid_apart ls named in
    let finds : Finds file 0 ls = laid_read ls file 0 named k in
    let spelt : SpellsTokens file (lexemes_at 0 (laid_pieces ls)) finds.found = record { shallow = laid_shallow ls 0 h; definitions = finds.spelt } in
    let spells : Spells file (bytes_of (laid_pieces ls)) finds.found =
    record {
      utf8 = pieces_utf8 (laid_pieces ls) apart;
      closed = pieces_closed (laid_pieces ls) apart;
      tokens = subst (λ ts. SpellsTokens file ts finds.found) (sym (pieces_lexemes (laid_pieces ls) apart)) spelt;
    } in
    (finds.found, subst (λ text. Spells file text finds.found) (laid_bytes ls) spells, finds.same)

-- the text of definitions spells them and no others, if no declared term has the name of a flag
pub texts_spell_only : (ls : List LaidDef) → AreWritable (laid_defs ls) → declare_flag (laid_defs ls) ≡ false → SpellsOnly (laid_texts ls) (laid_defs ls)
texts_spell_only ls h k = record {
  some = λ file. laid_spells ls file h k;
  only = λ file found s. let x = laid_spells ls file h k in ap all_erased (spelt_once s x.1) ∙ x.2;
}
