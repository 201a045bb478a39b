-- Names of instructions as words of rule texts.
use Rattle.std.proofs.Common.{◌≡◌, ℕ, List}
use Rattle.std.specs.List.{AllByRecursion, list_all}
use Rattle.isle_meta.specs.TableNames.{IsTermName}
use Rattle.isle_meta.proofs.NameWords.{begun_symbol, begun_word, stable_false, stable_identifier, stable_identifiers, stable_true}
use Rattle.isle_printer.specs.Token.{is_word_byte}
use Rattle.isle_spelling.specs.Identifier.{IsIdentifier, begins}
use Rattle.isle_writing.specs.Writable.{NamesOne}
use Rattle.isle_writing.proofs.Names.{names_one}

-- what may name a term stands where the grammar has a name
pub term_named : (w : List ℕ) → IsTermName w → NamesOne w
term_named w t = names_one w (begun_word w t.begins t.word) (begun_symbol w t.begins)

-- ---- an instruction's names

-- a term's name, one more name, and others
pub stable_names : (term camel : List ℕ) (others : List (List ℕ)) → ((IsTermName term × IsIdentifier camel × AllByRecursion IsIdentifier others → ⊥) → ⊥)
    → IsTermName term × IsIdentifier camel × AllByRecursion IsIdentifier others
stable_names term camel others h = (
  record {
    begins = stable_true (begins term) (λ no. h (λ all. no all.0.begins));
    word = stable_true (list_all is_word_byte term) (λ no. h (λ all. no all.0.word));
    free = stable_false _ (λ no. h (λ all. no all.0.free));
  },
  stable_identifier camel (λ no. h (λ all. no all.1)),
  stable_identifiers others (λ no. h (λ all. no all.2)),
)
