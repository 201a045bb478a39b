-- Files: exact, with the place where one goes wrong.
use Rattle.std.proofs.Common.{◌≡◌, ℕ, ◌≤◌, List, [], length, refl, sym, subst, arith, Some}
use Rattle.isle_lexer.specs.Lexeme.{Lexeme}
use Rattle.isle_reading.specs.Reader.{Got, run}
use Rattle.isle_reading.specs.Combinators.{stays}
use Rattle.isle_reading.specs.Nesting.{depth, most_open}
use Rattle.isle_reading.specs.Relations.{Ended, AllFrom, no_item, an_item}
use Rattle.isle_reading.specs.Places.{IsFault}
use Rattle.isle_reading.specs.Views.{stops}
use Rattle.isle_reading.proofs.Law.{Law, law_map}
use Rattle.isle_reading.proofs.ListLaws.{law_all_from}
use Rattle.isle_reading.proofs.Faults.{got_spelt, spelt_once, stop_fault, fault_map}
use Rattle.isle_reading.proofs.States.{Inside, inside_start}
use Rattle.isle_ast.specs.Tree.{Def}
use Rattle.isle_grammar.specs.Grammar.{DefS, FileS, no_def, a_def}
use Rattle.isle_grammar.specs.Reading.{read_def, read_file}
use Rattle.isle_grammar.specs.Spelling.{IsFile}
use Rattle.isle_grammar.proofs.Definitions.{law_def, def_some}

-- a file, and nothing after it
abbrev Whole_file : ℕ → List Def → List Lexeme → List Lexeme → Type 0
Whole_file file ds ts rest = FileS file ts ds × (rest ≡ [])

file_to : (file : ℕ) (s : Unit {0}) (ds : List Def) (ts rest : List Lexeme) → AllFrom (λ s. DefS file) stays s ds ts rest → Whole_file file ds ts rest
file_to file _ _ _ _ (no_item s) = (no_def, refl)
file_to file _ _ _ _ (an_item s d others ts rest x m) = (a_def d others ts rest x (file_to file s others rest [] m).0, refl)

all_of : (file : ℕ) (ds : List Def) (ts : List Lexeme) → FileS file ts ds → AllFrom (λ s. DefS file) stays tt ds ts []
all_of file _ _ no_def = no_item tt
all_of file _ _ (a_def d others ts rest x m) = an_item tt d others ts rest x (all_of file others rest m)

law_file : (n file : ℕ) → Law (Inside []) (λ ds. Inside []) Ended n (Whole_file file) (read_file n file)
law_file n file = law_map (file_to file tt) (λ ds ts rest s. subst (AllFrom (λ s. DefS file) stays tt ds ts) (sym s.1) (all_of file ds ts s.0))
    (law_all_from (Inside []) n (λ s. DefS file) (λ s. read_def n file) stays (λ s. law_def n file) (λ s d ts rest x. tt) tt (λ s. def_some file) n (omega arith) tt)

-- what is got is spelt
pub file_got : (n file : ℕ) (ts rest : List Lexeme) (ds : List Def) → run (read_file n file) ts ≡ Got ds rest → FileS file ts ds × (depth ts ≤ most_open)
file_got n file ts rest ds h = let x = got_spelt (Whole_file file) (read_file n file) (law_file n file) inside_start (λ ds ts rest s. s.1) ts rest ds h in (x.0.0, x.1)

-- where reading stops is the place
pub file_stops : (n file left : ℕ) (ts : List Lexeme) → length ts ≤ n → stops (run (read_file n file) ts) ≡ Some left → IsFault (IsFile file) ts left
file_stops n file left ts l h = fault_map _ (IsFile file) ts left (λ us s. (s.0, s.1.0)) (λ us s. (s.0, (s.1, refl))) (stop_fault (Whole_file file) (read_file n file) (law_file n file) inside_start ts left l h)

-- tokens spell one list of definitions at most
pub file_once : (file : ℕ) (ts : List Lexeme) (ds es : List Def) → depth ts ≤ most_open → FileS file ts ds → FileS file ts es → ds ≡ es
file_once file ts ds es d s t = spelt_once (Whole_file file) (read_file (length ts) file) (law_file (length ts) file) inside_start ts ds es (omega arith) d (s, refl) (t, refl)
