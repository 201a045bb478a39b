-- Definitions and terms stand in the files.
use Rattle.std.proofs.Common.{◌≡◌, ℕ, suc, ◌+◌, ◌<◌, ◌≤◌, List, [], ◌∷◌, ◌++◌, length, Some, refl, sym, ap, ◌∙◌, subst, arith, ⊎_elim}
use Rattle.std.specs.Prelude.{Contains, slice_get, slice_index_or}
use Rattle.std.specs.List.{AllByRecursion}
use Rattle.std.proofs.lemmas.List.Elements.{recursion_from_All, Contains-get_or}
use Rattle.isle_core.specs.declared.files.Files.{Files}
use Rattle.isle_core.specs.declared.types.Term.{Term}
use Rattle.isle_core.specs.Places.{LiesIn, text_in}
use Rattle.isle_core.specs.Rule.{Environment, Rule}
use Rattle.isle_core.proofs.Contained.{contained_cases, none_contained}
use Rattle.isle_ast.specs.Tree.{Def}
use Rattle.isle_ast.specs.Positions.{place_of, AreWithin}
use Rattle.isle_grammar.proofs.Within.{spelt_within}
use Rattle.isle_sema.specs.Typing.{Typed, fault}
use Rattle.isle_sema.proofs.TypedTerms.{typed_places}
use Rattle.isle_sema.proofs.RulePlaces.{rule_places}
use Rattle.isle_checks.proofs.PlacedErrors.{LieIn}
use Rattle.isle_core.specs.declared.position.Pos.{Pos}
use Rattle.isle_core.specs.declared.errors.Error.{Error}
use Rattle.isle_core.specs.ErrorLines.{IsPlaced}
use Rattle.isle_types.specs.Gathered.{TellsTyping}
use Rattle.isle_sema.proofs.ToldFaults.{told_lies}
use Rattle.isle_grammar.proofs.TextFaults.{fault_within}
use Rattle.isle_codegen.specs.Source.{Source, GoesWrong, here, later}
use Rattle.isle_codegen.specs.Emission.{ArePlaced, DefsArePlaced}

within_files : (files : Files) (file : ℕ) (text : List ℕ) (defs : List Def) → file < length files.file_names → file < length files.file_texts → text_in files file ≡ text → AreWithin file text defs → DefsArePlaced files defs
within_files files file text [] n t e h = tt
within_files files file text (d ∷ defs) n t e h = (
  record {
    named = subst (λ (x : ℕ). x < length files.file_names) (sym h.0.named) n;
    found = subst (λ (x : ℕ). x < length files.file_texts) (sym h.0.named) t;
    within = subst (λ (x : ℕ). (place_of d).offset ≤ length (text_in files x)) (sym h.0.named) (subst (λ (bs : List ℕ). (place_of d).offset ≤ length bs) (sym e) (omega (arith, h.0.before)));
  },
  within_files files file text defs n t e h.1,
)

both_placed : (files : Files) (ds es : List Def) → DefsArePlaced files ds → DefsArePlaced files es → DefsArePlaced files (ds ++ es)
both_placed files [] es h k = k
both_placed files (d ∷ ds) es h k = (h.0, both_placed files ds es h.1 k)

-- the texts are those of the files from that number on
source_from : (files : Files) (file : ℕ) (texts : List (List ℕ)) (defs : List Def) → length files.file_texts ≡ length files.file_names → file + length texts ≡ length files.file_texts
    → ((i : ℕ) → i < length texts → text_in files (file + i) ≡ slice_index_or texts i []) → Source file texts defs → DefsArePlaced files defs
source_from files file [] defs same many each h = subst (DefsArePlaced files) (sym h) tt
source_from files file (text ∷ texts) defs same many each h =
    let here : text_in files file ≡ text = ap (text_in files) {y = file + 0} (omega arith) ∙ each 0 (omega arith) in
    subst (DefsArePlaced files) (sym h.4)
    (both_placed files h.0 h.1
    (within_files files file text h.0 (omega (arith, same, many)) (omega (arith, many)) here (spelt_within file text h.0 h.2))
    (source_from files (file + 1) texts h.1 same (omega (arith, many)) (λ i lt. ap (text_in files) {y = file + suc i} (omega arith) ∙ each (suc i) (omega (arith, lt))) h.3))

-- the definitions that the texts of files spell stand in them
pub source_placed : (files : Files) (defs : List Def) → length files.file_texts ≡ length files.file_names → Source 0 files.file_texts defs → DefsArePlaced files defs
source_placed files defs same h = source_from files 0 files.file_texts defs same (omega arith) (λ i lt. ap (text_in files) {y = i} (omega arith)) h

wrong_from : (files : Files) (file : ℕ) (texts : List (List ℕ)) (pos : Pos) → length files.file_texts ≡ length files.file_names → file + length texts ≡ length files.file_texts
    → ((i : ℕ) → i < length texts → text_in files (file + i) ≡ slice_index_or texts i []) → GoesWrong file texts pos → LiesIn files pos
wrong_from files _ _ _ same many each (here file at text texts f) =
    let is : text_in files file ≡ text = ap (text_in files) {y = file + 0} (omega arith) ∙ each 0 (omega arith) in
    record {
      named = omega (arith, same, many);
      found = omega (arith, many);
      within = subst (λ (bs : List ℕ). at ≤ length bs) (sym is) (fault_within file at text f);
    }
wrong_from files _ _ _ same many each (later file text texts defs pos spelt wrong) =
    wrong_from files (file + 1) texts pos same (omega (arith, many)) (λ i lt. ap (text_in files) {y = file + suc i} (omega arith) ∙ each (suc i) (omega (arith, lt))) wrong

-- the texts of files go wrong in the files
pub wrong_placed : (files : Files) (pos : Pos) → length files.file_texts ≡ length files.file_names → GoesWrong 0 files.file_texts pos → LiesIn files pos
wrong_placed files pos same wrong = wrong_from files 0 files.file_texts pos same (omega arith) (λ i lt. ap (text_in files) {y = i} (omega arith)) wrong

placed_among : (files : Files) (defs : List Def) (d : Def) → DefsArePlaced files defs → Contains defs d → LiesIn files (place_of d)
placed_among files [] d h c = absurd (none_contained d c)
placed_among files (e ∷ defs) d h c = ⊎_elim (λ same. subst (λ (x : Def). LiesIn files (place_of x)) same h.0) (λ k. placed_among files defs d h.1 k) (contained_cases e defs d c)

each_placed : (files : Files) (ts : List Term) → ((i : ℕ) (t : Term) → slice_get ts i ≡ Some t → LiesIn files t.decl_pos) → AllByRecursion (λ (t : Term). LiesIn files t.decl_pos) ts
each_placed files [] h = tt
each_placed files (t ∷ ts) h = (h 0 t refl, each_placed files ts (λ i u e. h (suc i) u e))

-- the terms of definitions that stand in the files are declared there
pub terms_placed : (files : Files) (defs : List Def) (env : Environment) → Typed defs env → DefsArePlaced files defs → ArePlaced files env
terms_placed files defs env h k =
    each_placed files env.terms (λ i t e. let d = typed_places defs env i t h e in subst (LiesIn files) d.2 (placed_among files defs d.0 k d.1))

-- and so are their rules
pub rules_placed : (files : Files) (defs : List Def) (env : Environment) → Typed defs env → DefsArePlaced files defs → LieIn files env.rules
rules_placed files defs env h k =
    recursion_from_All (λ (r : Rule). LiesIn files r.pos) env.rules
    (λ i r lt. let d = rule_places defs env _ h (Contains-get_or env.rules i r lt) in subst (LiesIn files) d.2 (placed_among files defs d.0 k d.1))

-- an error of typing stands where a definition does
pub typing_placed : (files : Files) (defs : List Def) (error : Error) → DefsArePlaced files defs → TellsTyping (fault defs) (Some error) → IsPlaced files error
typing_placed files defs error placed told =
    let at = told_lies (LiesIn files) defs error placed told in
    subst (IsPlaced files) (sym at.2.is) at.1
