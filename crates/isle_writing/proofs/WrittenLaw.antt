-- What the text of definitions spells, and how it grows.
use Rattle.std.proofs.Common.{◌≡◌, ℕ, List, [], ◌∷◌, ◌++◌, refl, sym, ap, ◌∙◌, subst, append_assoc, append-nil, map}
use Rattle.isle_ast.specs.Tree.{Def}
use Rattle.isle_writing.specs.Text.{def_text, def_texts}
use Rattle.isle_writing.specs.LaidDefs.{LaidDef, laid_defs, laid_texts, plain, text_by}
use Rattle.isle_writing.specs.Writable.{AreWritable}
use Rattle.isle_writing.specs.Spelt.{AreSpelt}
use Rattle.isle_writing.proofs.Spells.{texts_spell_only}
use Rattle.isle_writing.proofs.Flagged.{texts_spell_none}

-- the text of definitions that can be written spells them and no others, whichever have a priority 0 written; but nothing, if one declares a term that has
-- the name of a flag
pub laid_spelt : (text : List ℕ) (ls : List LaidDef) → AreWritable (laid_defs ls) → text ≡ laid_texts ls → AreSpelt text (laid_defs ls)
laid_spelt text ls h e = subst (λ t. AreSpelt t (laid_defs ls)) (sym e) (record { named = λ k. texts_spell_only ls h k; flagged = λ k. texts_spell_none ls h k })

plain_defs : (ds : List Def) → laid_defs (map plain ds) ≡ ds
plain_defs [] = refl
plain_defs (d ∷ ds) = ap (λ es. d ∷ es) (plain_defs ds)

-- the text of definitions none of which has a priority 0 written
pub plain_texts : (ds : List Def) → laid_texts (map plain ds) ≡ def_texts ds
plain_texts [] = refl
plain_texts (d ∷ ds) = ap (λ z. def_text d ++ z) (plain_texts ds)

-- such a text
pub written_spelt : (text : List ℕ) (ds : List Def) → AreWritable ds → text ≡ def_texts ds → AreSpelt text ds
written_spelt text ds h e =
    subst (λ es. AreSpelt text es) (plain_defs ds)
    (laid_spelt text (map plain ds) (subst (λ es. AreWritable es) (sym (plain_defs ds)) h) (e ∙ sym (plain_texts ds)))

-- the text of definitions and of more, by which have a priority 0 written
pub laid_joined : (ls ms : List LaidDef) → laid_texts (ls ++ ms) ≡ laid_texts ls ++ laid_texts ms
laid_joined [] ms = refl
laid_joined (l ∷ ls) ms =
    let t : List ℕ = text_by l.shows_zero l.def in
    ap (λ z. t ++ z) (laid_joined ls ms) ∙ sym (append_assoc t (laid_texts ls) (laid_texts ms))

-- the text of definitions and of more
pub texts_joined : (ds es : List Def) → def_texts (ds ++ es) ≡ def_texts ds ++ def_texts es
texts_joined [] es = refl
texts_joined (d ∷ ds) es = ap (λ z. def_text d ++ z) (texts_joined ds es) ∙ sym (append_assoc (def_text d) (def_texts ds) (def_texts es))

-- the text of definitions and of one more, which `push_def` appends
pub texts_pushed : (ds : List Def) (d : Def) → def_texts (ds ++ d ∷ []) ≡ def_texts ds ++ def_text d
texts_pushed ds d = texts_joined ds (d ∷ []) ∙ ap (λ z. def_texts ds ++ z) (append-nil (def_text d))
