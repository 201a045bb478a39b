-- The fault of declarations, one definition after the other.
use Rattle.std.proofs.Common.{◌≡◌, ℕ, ◌+◌, ◌<◌, ◌≤◌, List, [], ◌∷◌, ◌++◌, map, length, get_or, take, Option, Some, None, sym, ap, ◌∙◌, arith}
use Rattle.std.specs.Prelude.{drop, option_map, filter_map}
use Rattle.std.specs.List.{cons_option}
use Rattle.std.proofs.lemmas.List.{drop_more, take_more, map-append, length-append, length-map, take-append-drop, take-append-le, take_all, append-nil}
use Rattle.std.proofs.lemmas.List.Elements.{filter_map-append}
use Rattle.isle_core.specs.declared.position.Pos.{Pos}
use Rattle.isle_ast.specs.Positions.{place_of}
use Rattle.isle_ast.specs.Tree as tree
use Rattle.isle_ast.specs.Tree.{Def}
use Rattle.isle_ast.specs.Views.{def, defs as seen}
use Rattle.isle_ast.specs.declared.tree.Def.{Def as CodeDef}
use Rattle.isle_declarations.specs.Heads.{terms_of, extern_terms, extractor_terms}
use Rattle.isle_declarations.specs.Signatures.{Signature, Extern, ExtractorDef, signature_of, extern_of, extractor_of}
use Rattle.isle_types.specs.Fault.{or_later, fault_after}
use Rattle.isle_types.specs.declared.row.Row.{Row}
use Rattle.isle_terms.specs.declared.counts.Counts.{Counts}
use Rattle.isle_terms.specs.Misfits.{AreCounted, ArePlaced, counts_after, here, one_more}
use Rattle.isle_terms.specs.TermFault.{term_row}

-- ---- the fault that is left

-- the fault of the definitions from the i-th on
abbrev pub fault_from : ℕ → List CodeDef → Option (Row × Pos)
fault_from i ds = fault_after (λ bs d. term_row (here (seen ds) bs) d) (seen (take i ds)) (seen (drop i ds))

-- the definitions up to one, with it
pub seen_more : (ds : List CodeDef) (i : ℕ) (x d : CodeDef) → i < length ds → x ≡ get_or ds i d → seen (take (i + 1) ds) ≡ seen (take i ds) ++ def x ∷ []
seen_more ds i x d lt is = ap seen (take_more ds i d lt) ∙ map-append def (take i ds) (get_or ds i d ∷ []) ∙ ap (λ y. seen (take i ds) ++ def y ∷ []) (sym is)

-- that of one, or else of those after it
pub fault_step : (ds : List CodeDef) (i : ℕ) (x d : CodeDef) → i < length ds → x ≡ get_or ds i d
    → fault_from i ds ≡ or_later (option_map (λ (r : Row). (r, place_of (def x))) (term_row (here (seen ds) (seen (take i ds))) (def x))) (fault_from (i + 1) ds)
fault_step ds i x d lt is =
    let broken : List Def → Def → Option Row = λ bs y. term_row (here (seen ds) bs) y in
    ap (λ xs. fault_after broken (seen (take i ds)) (seen xs)) (drop_more ds i d lt ∙ ap (λ y. y ∷ drop (i + 1) ds) (sym is))
    ∙ ap (λ bs. or_later (option_map (λ (r : Row). (r, place_of (def x))) (broken (seen (take i ds)) (def x))) (fault_after broken bs (seen (drop (i + 1) ds)))) (sym (seen_more ds i x d lt is))

-- ---- counts

count_more : {X : Type 0} (o : Option X) (xs : List X) → one_more o (length xs) ≡ length (xs ++ cons_option o [])
count_more None xs = ap length (sym (append-nil xs))
count_more (Some x) xs = sym (length-append xs (x ∷ []))

length_more : {X : Type 0} (f : Def → Option X) (bs : List Def) (d : Def) (n : ℕ) → n ≡ length (filter_map f bs) → one_more (f d) n ≡ length (filter_map f (bs ++ d ∷ []))
length_more f bs d n is = ap (one_more (f d)) is ∙ count_more (f d) (filter_map f bs) ∙ ap length (sym (filter_map-append f bs (d ∷ [])))

few_more : (bs : List Def) (d : Def) (c : Counts) → c.signatures + c.externs + c.extractors ≤ length bs → (counts_after d c).signatures + (counts_after d c).externs + (counts_after d c).extractors ≤ length (bs ++ d ∷ [])
few_more bs (tree.Decl term pure multi partial recursive args ret pos) c le = let e = length-append bs (tree.Decl term pure multi partial recursive args ret pos ∷ []) in omega (arith, e)
few_more bs (tree.TypeDecl name is_extern is_nodebug body pos) c le = let e = length-append bs (tree.TypeDecl name is_extern is_nodebug body pos ∷ []) in omega (arith, e)
few_more bs (tree.ExternConstructor term func pos) c le = let e = length-append bs (tree.ExternConstructor term func pos ∷ []) in omega (arith, e)
few_more bs (tree.ExternExtractor term func infallible pos) c le = let e = length-append bs (tree.ExternExtractor term func infallible pos ∷ []) in omega (arith, e)
few_more bs (tree.ExternConst name ty pos) c le = let e = length-append bs (tree.ExternConst name ty pos ∷ []) in omega (arith, e)
few_more bs (tree.Extractor term params template pos) c le = let e = length-append bs (tree.Extractor term params template pos ∷ []) in omega (arith, e)
few_more bs (tree.Converter from to term pos) c le = let e = length-append bs (tree.Converter from to term pos ∷ []) in omega (arith, e)
few_more bs (tree.Rule name prio term args iflets rhs pos) c le = let e = length-append bs (tree.Rule name prio term args iflets rhs pos ∷ []) in omega (arith, e)
few_more bs (tree.Passed head pos) c le = let e = length-append bs (tree.Passed head pos ∷ []) in omega (arith, e)

-- one definition more is counted
pub counted_more : (bs : List Def) (d : Def) (c : Counts) → AreCounted bs c → AreCounted (bs ++ d ∷ []) (counts_after d c)
counted_more bs d c h = record {
  signatures = length_more signature_of bs d c.signatures h.signatures;
  externs = length_more extern_of bs d c.externs h.externs;
  extractors = length_more extractor_of bs d c.extractors h.extractors;
  few = few_more bs d c h.few;
}

taken_first : {X : Type 0} (xs ys : List X) → take (length xs) (xs ++ ys) ≡ xs
taken_first xs ys = take-append-le (length xs) xs ys (omega arith) ∙ take_all (length xs) xs (omega arith)

first_names : {X : Type 0} (f : Def → Option X) (g : X → List ℕ) (bs more : List Def) (n : ℕ) → n ≡ length (filter_map f bs) → take n (map g (filter_map f (bs ++ more))) ≡ map g (filter_map f bs)
first_names f g bs more n is =
    ap (λ xs. take n (map g xs)) (filter_map-append f bs more) ∙ ap (take n) (map-append g (filter_map f bs) (filter_map f more)) ∙ ap (λ k. take k (map g (filter_map f bs) ++ map g (filter_map f more))) (is ∙ sym (length-map (filter_map f bs) g))
    ∙ taken_first (map g (filter_map f bs)) (map g (filter_map f more))

-- as many of the names of all as are counted are those before
pub placed_from : (ds : List CodeDef) (i : ℕ) (c : Counts) → AreCounted (seen (take i ds)) c → ArePlaced (seen ds) (seen (take i ds)) c
placed_from ds i c h =
    let all : seen (take i ds) ++ seen (drop i ds) ≡ seen ds = sym (map-append def (take i ds) (drop i ds)) ∙ ap seen (take-append-drop i ds) in
    record {
      signatures = ap (λ xs. take c.signatures (terms_of (filter_map signature_of xs))) (sym all) ∙ first_names signature_of (λ (s : Signature). s.term) (seen (take i ds)) (seen (drop i ds)) c.signatures h.signatures;
      externs = ap (λ xs. take c.externs (extern_terms (filter_map extern_of xs))) (sym all) ∙ first_names extern_of (λ (x : Extern). x.term) (seen (take i ds)) (seen (drop i ds)) c.externs h.externs;
      extractors = ap (λ xs. take c.extractors (extractor_terms (filter_map extractor_of xs))) (sym all) ∙ first_names extractor_of (λ (x : ExtractorDef). x.term) (seen (take i ds)) (seen (drop i ds)) c.extractors h.extractors;
    }
