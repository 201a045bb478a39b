-- A text spells one t at most, and none where it goes wrong.
use Rattle.std.proofs.Common.{◌≡◌, ℕ, List, [], ◌∷◌, refl, ap, sym, ◌∙◌, Option, Some, None}
use Rattle.std.specs.Prelude.{option_map, Result, Ok, Err, IfOk}
use Rattle.std.specs.Str.{IsUtf8}
use Rattle.isle_lexer.specs.Lexeme.{lexemes}
use Rattle.isle_lexer.specs.Token.{IsClosed, unclosed}
use Rattle.isle_meta.specs.declared.clif.InstructionFormat.{InstructionFormat}
use Rattle.isle_meta.specs.declared.clif.Instruction.{Instruction}
use Rattle.isle_meta.specs.declared.tables.Tables.{Tables}
use Rattle.isle_tables.specs.declared.fail.TablesFail.{TablesFail}
use Rattle.isle_tables.specs.declared.item.InstRow.{InstRow}
use Rattle.isle_tables.specs.declared.item.Item.{Item}
use Rattle.isle_tables.specs.Grammar.{ItemsS}
use Rattle.isle_tables.specs.Places.{IsTablesFault, comment, tokens, lost}
use Rattle.isle_tables.specs.Resolved.{with_row, first_place, resolved, lost_at, first_lost, gathered, format_in, row_in, tables_with, tables_of, lost_of}
use Rattle.isle_tables.specs.Spelling.{SpellsTables}
use Rattle.isle_tables.proofs.Faults.{items_once, wrong_unspelt}

same_some : {A : Type 0} (a b : A) → Some a ≡ Some b → a ≡ b
same_some a b e = cc

-- a text spells one t at most
pub tables_once : (text : List ℕ) (t u : Tables) → SpellsTables text t → SpellsTables text u → u ≡ t
tables_once text t u s k = same_some u t (sym k.tables ∙ ap tables_of (items_once (lexemes text) k.items s.items k.spelt s.spelt) ∙ s.tables)

-- ---- names without a format

lost_row : (row : InstRow) (p later : Option ℕ) (at : ℕ) (others : Option (List Instruction)) → (later ≡ Some at → others ≡ None) → lost_at row p later ≡ Some at → with_row row p others ≡ None
lost_row row None later at others h e = refl
lost_row row (Some place) later at others h e = by others (h e)
  where
    by : (o : Option (List Instruction)) → o ≡ None → with_row row (Some place) o ≡ None
    by None f = refl
    by (Some is) f = cc

-- if a name has no format, there are no instructions
pub lost_unresolved : (fs : List InstructionFormat) (rows : List InstRow) (at : ℕ) → first_lost fs rows ≡ Some at → resolved fs rows ≡ None
lost_unresolved fs [] at e = cc
lost_unresolved fs (row ∷ rows) at e = lost_row row (first_place fs row.format) (first_lost fs rows) at (resolved fs rows) (lost_unresolved fs rows at) e

none_some : {A : Type 0} (a : A) → None ≡ Some a → ⊥
none_some a e = cc

lost_no_tables : (items : List Item) (at : ℕ) (t : Tables) → lost_of items ≡ Some at → tables_of items ≡ Some t → ⊥
lost_no_tables items at t e f =
    none_some t (sym (ap (λ (o : Option (List Instruction)). option_map (tables_with items) o) (lost_unresolved (gathered format_in items) (gathered row_in items) at e)) ∙ f)

closed_not : (text : List ℕ) (at : ℕ) → unclosed text ≡ Some at → IsClosed text → ⊥
closed_not text at e c = none_some at (sym c ∙ e)

-- where a text goes wrong, it spells nothing
pub fault_unspelt : (text : List ℕ) (at : ℕ) (t : Tables) → IsTablesFault text at → SpellsTables text t → ⊥
fault_unspelt text at t (comment e) s = closed_not text at e s.closed
fault_unspelt text at t (tokens c w) s = wrong_unspelt (lexemes text) _ at w (s.items, s.spelt)
fault_unspelt text at t (lost items c k e) s = lost_no_tables s.items at t (ap lost_of (items_once (lexemes text) s.items items s.spelt k) ∙ e) s.tables

-- ---- what the code gives

-- the tables of spelt items are spelt
pub items_spell : (text : List ℕ) (items : List Item) (t : Tables) → IsUtf8 text → IsClosed text → ItemsS items (lexemes text) → tables_of items ≡ Some t → SpellsTables text t
items_spell text items t u c s e = record { utf8 = u; closed = c; items = items; spelt = s; tables = e }

-- and no others
pub only_these : (text : List ℕ) (items : List Item) (result : Result Tables TablesFail) → IsUtf8 text → IsClosed text → ItemsS items (lexemes text) → IfOk result (λ t. tables_of items ≡ Some t)
    → IfOk result (λ t. (others : Tables) → SpellsTables text others → others ≡ t)
only_these text items (Ok t) u c s e = λ others k. tables_once text t others (items_spell text items t u c s e) k
only_these text items (Err fail) u c s e = tt
