-- What a definition breaks of the rows of declarations, by what it is.
use Rattle.std.proofs.Common.{◌≡◌, ℕ, Bool, true, false, cond, List, [], ◌∷◌, ◌++◌, take, Option, Some, None, refl, sym, ap, ◌∙◌, subst}
use Rattle.std.specs.Prelude.{◌&&◌, ◌||◌, not, is_some, option_map, option_and_then, IfOk, Result, Ok, Err}
use Rattle.std.specs.List.{cons_option}
use Rattle.std.proofs.lemmas.List.{append_assoc, append-nil}
use Rattle.std.proofs.lemmas.List.Elements.{filter_map-append}
use Rattle.std.proofs.lemmas.Option.{same_Some}
use Rattle.isle_core.specs.declared.TermId.{TermId}
use Rattle.isle_core.specs.declared.TypeId.{TypeId}
use Rattle.isle_core.specs.declared.position.Pos.{Pos}
use Rattle.isle_ast.specs.Tree as tree
use Rattle.isle_ast.specs.Tree.{Def, Pattern}
use Rattle.isle_declarations.specs.DeclaredTypes.{made_terms}
use Rattle.isle_declarations.specs.Heads.{terms_of, extern_terms, extractor_terms}
use Rattle.isle_declarations.specs.Signatures.{Signature, signatures, externs, extractors, signature_named, func_named, term_named}
use Rattle.isle_declarations.specs.Symbols.{index_of}
use Rattle.isle_declarations.specs.Terms.{terms}
use Rattle.isle_declarations.proofs.NumberLaws.{has_func}
use Rattle.isle_types.specs.TypeRows.{on}
use Rattle.isle_types.specs.declared.row.Row.{Row}
use Rattle.isle_types.specs.declared.row.Row.TheVariants as row
use Rattle.isle_terms.specs.declared.converters.Converter.{Converter}
use Rattle.isle_terms.specs.declared.converters.Converters.{Converters}
use Rattle.isle_terms.specs.declared.counts.Counts.{Counts}
use Rattle.isle_terms.specs.declared.misfit.Misfit.{Misfit}
use Rattle.isle_terms.specs.Converters.{Conversion, converter_of, converters, converter_pass, fits, is_misfit, repeats_after, types_of}
use Rattle.isle_terms.specs.ConverterViews.{AreFound, AreMet, IsRight, IsJoined, taken_converter, taken_converters}
use Rattle.isle_terms.specs.Misfits.{ArePlaced, IsJudged, here, misfit_row, repeated_row, misdeclared_row}
use Rattle.isle_terms.specs.TermFault.{term_row}
use Rattle.isle_terms.specs.TermPass.{tree_before}
use Rattle.isle_terms.specs.Tests.{is_misconverting}
use Rattle.isle_terms.specs.Whole.{Whole, whole_of}
use Rattle.isle_terms.proofs.ConverterLaws.{found_more, not_kept}
use Rattle.isle_terms.proofs.DeclaredTerms.{declared_term}
use Rattle.isle_terms.proofs.MadeTerms.{first_there}

-- ---- heads

-- a head whose term is declared is wrong if the term has an external constructor
pub headed : (all : List Def) (term : List ℕ) (s : Signature) (o : Option ℕ) (given : Bool) → signature_named (signatures all) term ≡ Some s → o ≡ index_of (extern_terms (externs all)) term → is_some o ≡ given
    → not (is_some (signature_named (signatures all) term)) || is_some (func_named (externs all) term) ≡ given
headed all term s o given declared at is =
    ap (λ p. not (is_some p) || is_some (func_named (externs all) term)) declared ∙ has_func (externs all) term ∙ ap is_some (sym at) ∙ is

-- ---- converters

-- one more that is taken
pub taken_more : (w : Whole) (done cs : List Conversion) (c : Conversion) (listed : List (TypeId × TypeId × TermId)) (t : TypeId × TypeId × TermId) → taken_converters w done cs ≡ Some listed → taken_converter w (done ++ cs) c ≡ Some t
    → taken_converters w done (cs ++ c ∷ []) ≡ Some (listed ++ t ∷ [])
taken_more w done [] c listed t all one =
    let own : taken_converter w done c ≡ Some t = ap (λ xs. taken_converter w xs c) (sym (append-nil done)) ∙ one in
    ap (λ o. tree_before o (Some [])) own ∙ ap (λ xs. Some (xs ++ t ∷ [])) (same_Some [] listed all)
taken_more w done (x ∷ cs) c listed t all one =
    let f = first_there (taken_converter w done x) (taken_converters w (done ++ x ∷ []) cs) listed all in
    let rest = taken_more w (done ++ x ∷ []) cs c f.others t f.found (ap (λ xs. taken_converter w xs c) (append_assoc done (x ∷ []) cs) ∙ one) in
    ap (λ o. tree_before o (taken_converters w (done ++ x ∷ []) (cs ++ c ∷ []))) f.here ∙ ap (tree_before (Some f.first)) rest ∙ ap (λ xs. Some (xs ++ t ∷ [])) (sym f.all)

converted : (bs : List Def) (c : Conversion) (pos : Pos) → converters (bs ++ tree.Converter c.from c.to c.term pos ∷ []) ≡ converters bs ++ c ∷ []
converted bs c pos = filter_map-append converter_of bs (tree.Converter c.from c.to c.term pos ∷ [])

no_misfit : (a b : Bool) → a || b ≡ false → None ≡ cond a (Some row.TermUndeclared) (cond b (Some row.ConverterMisfit) None)
no_misfit true b h = absurd cc
no_misfit false true h = absurd cc
no_misfit false false h = refl

-- one that is right is met
pub converter_met : (all bs : List Def) (c : Conversion) (pos : Pos) (k : Converter) (old new : Converters) → IsRight all (converters bs) c k → IsJoined old k new → AreMet all bs old → IsJudged all bs (tree.Converter c.from c.to c.term pos) None new
converter_met all bs c pos k old new right joined met =
    let fine = not_kept (is_misconverting all (converters bs) c) (converter_pass (whole_of all) c) (k.from, k.to, k.term) right.taken in
    record {
      row = no_misfit (not (is_some (signature_named (signatures all) c.term))) (is_misfit all (converters bs) c) fine.0;
      after = λ none. record {
        taken = ap (taken_converters (whole_of all) []) (converted bs c pos) ∙ taken_more (whole_of all) [] (converters bs) c old.listed.items (k.from, k.to, k.term) met.taken right.taken ∙ ap Some (sym joined.listed);
        finds = subst (λ cs. AreFound all cs new) (sym (converted bs c pos)) (found_more all (converters bs) c old new k right met.finds joined);
      };
    }

-- one of a declared term that is not taken is wrong
untaken_misfit : (all : List Def) (cs : List Conversion) (c : Conversion) → is_some (signature_named (signatures all) c.term) ≡ true → taken_converter (whole_of all) cs c ≡ None → is_misfit all cs c ≡ true
untaken_misfit all cs c declared none = by (types_of all c) refl (is_misfit all cs c) refl
  where
    unfit : Bool
    unfit = on (signature_named (signatures all) c.term) (λ (s : Signature). not (fits c s))

    placed : TypeId × TypeId → Option TermId → Option (TypeId × TypeId × TermId)
    placed found o = option_map (λ (term : TermId). (found.0, found.1, term)) o

    termless : (found : TypeId × TypeId) (o : Option ℕ) → is_some o ≡ true → placed found (option_map (λ (n : ℕ). record { 0 = n }) o) ≡ None → ⊥
    termless found None some h = cc
    termless found (Some n) some h = cc

    by : (types : Option (TypeId × TypeId)) → types_of all c ≡ types → (b : Bool) → is_misfit all cs c ≡ b → is_misfit all cs c ≡ true
    by types e true f = f
    by None e false f = ap (λ o. repeats_after all cs o || unfit) e
    by (Some found) e false f =
        let fine : is_misconverting all cs c ≡ false = ap (λ b. not b || is_misfit all cs c) declared ∙ f in
        let pass : converter_pass (whole_of all) c ≡ None = ap (λ b. cond b None (converter_pass (whole_of all) c)) (sym fine) ∙ none in
        let made : placed found (term_named (terms all) c.term) ≡ None = ap (option_and_then (λ (p : TypeId × TypeId). placed p (term_named (terms all) c.term))) (sym e) ∙ pass in
        absurd (termless found (index_of (terms_of (terms all)) c.term) (declared_term all c.term declared) made)

-- and so it breaks its row
pub converter_refused : (all bs : List Def) (c : Conversion) (pos : Pos) (m : Misfit) (met : Converters) → misfit_row m ≡ row.ConverterMisfit → is_some (signature_named (signatures all) c.term) ≡ true → taken_converter (whole_of all) (converters bs) c ≡ None
    → IsJudged all bs (tree.Converter c.from c.to c.term pos) (Some m) met
converter_refused all bs c pos m met of declared none = record {
  row = ap Some of ∙ sym (ap (λ b. cond (not b) (Some row.TermUndeclared) (cond (is_misfit all (converters bs) c) (Some row.ConverterMisfit) None)) declared ∙ ap (λ b. cond b (Some row.ConverterMisfit) None) (untaken_misfit all (converters bs) c declared none));
  after = λ e. absurd cc;
}

-- ---- definitions that are no converters

-- the converters so far are those after one more
pub still_met : (all bs : List Def) (d : Def) (found : Converters) → converter_of d ≡ None → AreMet all bs found → AreMet all (bs ++ d ∷ []) found
still_met all bs d found none met =
    let same : converters (bs ++ d ∷ []) ≡ converters bs = filter_map-append converter_of bs (d ∷ []) ∙ ap (λ o. converters bs ++ cons_option o []) none ∙ append-nil (converters bs) in
    let moved : (taken_converters (whole_of all) [] (converters (bs ++ d ∷ [])) ≡ Some found.listed.items) × AreFound all (converters (bs ++ d ∷ [])) found =
    subst (λ cs. (taken_converters (whole_of all) [] cs ≡ Some found.listed.items) × AreFound all cs found) (sym same) (met.taken, met.finds) in
    record { taken = moved.0; finds = moved.1 }

-- what was found of one, by its row
pub other_judged : (all bs : List Def) (d : Def) (found : Option Misfit) (met : Converters) → converter_of d ≡ None → option_map misfit_row found ≡ term_row (here all bs) d → AreMet all bs met → IsJudged all bs d found met
other_judged all bs d found met none row_is h = record { row = row_is; after = λ e. still_met all bs d met none h }

not_repeated : (a : Bool) (rest : Option Row) → None ≡ cond a (Some row.DeclarationRepeats) None → rest ≡ cond a (Some row.DeclarationRepeats) rest
not_repeated true rest h = absurd cc
not_repeated false rest h = refl

-- a declaration whose term is not given before
pub declaration_judged : (all bs : List Def) (term : List ℕ) (pure multi partial recursive : Bool) (given args : List (List ℕ)) (ret : List ℕ) (pos : Pos) (count : ℕ) (first found : Option Misfit) (met : Converters) → given ≡ args → first ≡ None
    → take count (terms_of (signatures all)) ≡ terms_of (signatures bs) → option_map misfit_row first ≡ repeated_row all (take count (terms_of (signatures all))) term → option_map misfit_row found ≡ misdeclared_row all (multi && partial) given ret
    → AreMet all bs met → IsJudged all bs (tree.Decl term pure multi partial recursive args ret pos) found met
declaration_judged all bs term pure multi partial recursive given args ret pos count first found met same none placed first_is row_is h =
    let apart = ap (option_map misfit_row) (sym none) ∙ first_is ∙ ap (λ names. repeated_row all names term) placed in
    let again = is_some (index_of (terms_of (signatures bs)) term) || is_some (index_of (made_terms all) term) in
    let own : option_map misfit_row found ≡ misdeclared_row all (multi && partial) args ret = row_is ∙ ap (λ names. misdeclared_row all (multi && partial) names ret) same in
    other_judged all bs (tree.Decl term pure multi partial recursive args ret pos) found met refl (own ∙ not_repeated again (misdeclared_row all (multi && partial) args ret) apart) h

-- what a call gives of an extractor by a template
pub template_judged : {E : Type 0} (r : Result (Option Misfit) E) (all : List Def) (term : List ℕ) (given params : List (List ℕ)) (template : Pattern) (pos : Pos) (counts : Counts) (met : Converters) → given ≡ params
    → IfOk r (λ found. (bs : List Def) (t : Pattern) (p : Pos) → take counts.extractors (extractor_terms (extractors all)) ≡ extractor_terms (extractors bs) → option_map misfit_row found ≡ term_row (here all bs) (tree.Extractor term given t p))
    → IfOk r (λ found. (bs : List Def) → ArePlaced all bs counts → AreMet all bs met → IsJudged all bs (tree.Extractor term params template pos) found met)
template_judged (Err e) all term given params template pos counts met same h = tt
template_judged (Ok found) all term given params template pos counts met same h = λ bs placed so_far.
    other_judged all bs (tree.Extractor term params template pos) found met refl (h bs template pos placed.extractors ∙ ap (λ ps. term_row (here all bs) (tree.Extractor term ps template pos)) same) so_far

-- and what one gives of a converter
pub converter_judged : {E : Type 0} (r : Result (Option Misfit) E) (all : List Def) (from to term : List ℕ) (pos : Pos) (counts : Counts) (old new : Converters)
    → IfOk r (λ found. (bs : List Def) (p : Pos) → AreMet all bs old → IsJudged all bs (tree.Converter from to term p) found new)
    → IfOk r (λ found. (bs : List Def) → ArePlaced all bs counts → AreMet all bs old → IsJudged all bs (tree.Converter from to term pos) found new)
converter_judged (Err e) all from to term pos counts old new h = tt
converter_judged (Ok found) all from to term pos counts old new h = λ bs placed so_far. h bs pos so_far
