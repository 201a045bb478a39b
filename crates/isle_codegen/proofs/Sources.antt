-- The definitions that texts spell together, text by text.
use Rattle.std.proofs.Common.{◌≡◌, ℕ, zero, suc, ◌+◌, ◌<◌, ◌≤◌, List, [], ◌∷◌, ◌++◌, length, take, get_or, refl, sym, ap, ◌∙◌, subst, append_assoc, append-nil, arith}
use Rattle.std.proofs.lemmas.List.{take_more, take_all}
use Rattle.isle_ast.specs.Tree.{Def}
use Rattle.isle_grammar.specs.Spelling.{Spells}
use Rattle.isle_grammar.proofs.SpeltOnce.{spelt_once}
use Rattle.isle_grammar.specs.Spelling.{IsTextFault}
use Rattle.isle_grammar.proofs.TextFaults.{fault_unspelt}
use Rattle.isle_core.specs.declared.position.Pos.{Pos}
use Rattle.isle_codegen.specs.Source.{Source, GoesWrong, here, later}

-- one text more
source_more : (n : ℕ) (ts : List (List ℕ)) (t : List ℕ) (ds es : List Def) → Source n ts ds → Spells (n + length ts) t es → Source n (ts ++ t ∷ []) (ds ++ es)
source_more n [] t ds es h k =
    let at : n + 0 ≡ n = omega arith in
    (es, [], subst (λ m. Spells m t es) at k, refl, ap (λ xs. xs ++ es) h ∙ sym (append-nil es))
source_more n (u ∷ ts) t ds es h k =
    let at : n + suc (length ts) ≡ n + 1 + length ts = omega arith in
    (h.0, h.1 ++ es, h.2, source_more (n + 1) ts t h.1 es h.3 (subst (λ m. Spells m t es) at k), ap (λ xs. xs ++ es) h.4 ∙ append_assoc h.0 h.1 es)

-- the next text is read too
pub source_next : (texts : List (List ℕ)) (i : ℕ) (t : List ℕ) (ds es : List Def) → i < length texts → t ≡ get_or texts i t → length (take i texts) ≡ i
    → Source 0 (take i texts) ds → Spells i t es → Source 0 (take (i + 1) texts) (ds ++ es)
source_next texts i t ds es lt is len h k =
    let all : take (i + 1) texts ≡ take i texts ++ t ∷ [] = take_more texts i t lt ∙ ap (λ y. take i texts ++ y ∷ []) (sym is) in
    let at : i ≡ 0 + length (take i texts) = omega arith in
    subst (λ ts. Source 0 ts (ds ++ es)) (sym all) (source_more 0 (take i texts) t ds es h (subst (λ m. Spells m t es) at k))

-- two lists that the same texts spell are one
pub source_once : (n : ℕ) (ts : List (List ℕ)) (ds es : List Def) → Source n ts ds → Source n ts es → es ≡ ds
source_once n [] ds es h k = k ∙ sym h
source_once n (t ∷ ts) ds es h k =
    let first : k.0 ≡ h.0 = spelt_once k.2 h.2 in
    let others : k.1 ≡ h.1 = source_once (n + 1) ts h.1 k.1 h.3 k.3 in
    k.4 ∙ ap (λ xs. xs ++ k.1) first ∙ ap (λ xs. h.0 ++ xs) others ∙ sym h.4

wrong_at : (n : ℕ) (ts : List (List ℕ)) (i at : ℕ) (t : List ℕ) (ds : List Def) → i < length ts → t ≡ get_or ts i t → Source n (take i ts) ds → IsTextFault (n + i) t at
    → GoesWrong n ts (record { file = n + i; offset = at })
wrong_at n [] i at t ds lt is s f = absurd (omega (arith, lt))
wrong_at n (u ∷ ts) zero at t ds lt is s f =
    let same : n ≡ n + 0 = omega arith in
    let fault : IsTextFault n u at = subst (λ x. IsTextFault n x at) is (subst (λ m. IsTextFault m t at) (sym same) f) in
    subst (λ m. GoesWrong n (u ∷ ts) (record { file = m; offset = at })) same (here n at u ts fault)
wrong_at n (u ∷ ts) (suc i) at t ds lt is s f =
    let same : n + 1 + i ≡ n + suc i = omega arith in
    let behind : GoesWrong (n + 1) ts (record { file = n + 1 + i; offset = at }) = wrong_at (n + 1) ts i at t s.1 (omega (arith, lt)) is s.3 (subst (λ m. IsTextFault m t at) (sym same) f) in
    later n u ts s.0 (record { file = n + suc i; offset = at }) s.2 (subst (λ m. GoesWrong (n + 1) ts (record { file = m; offset = at })) same behind)

-- a text goes wrong after those that spell definitions
pub source_wrong : (texts : List (List ℕ)) (i : ℕ) (t : List ℕ) (ds : List Def) (pos : Pos) → i < length texts → t ≡ get_or texts i t → Source 0 (take i texts) ds → pos.file ≡ i → IsTextFault i t pos.offset
    → GoesWrong 0 texts pos
source_wrong texts i t ds pos lt is s file f =
    let same : i ≡ 0 + i = omega arith in
    let wrong : GoesWrong 0 texts (record { file = 0 + i; offset = pos.offset }) = wrong_at 0 texts i pos.offset t ds lt is s (subst (λ m. IsTextFault m t pos.offset) same f) in
    subst (λ m. GoesWrong 0 texts (record { file = m; offset = pos.offset })) (sym (file ∙ same)) wrong

-- texts of which one goes wrong spell no definitions
pub wrong_unspelt : (n : ℕ) (ts : List (List ℕ)) (pos : Pos) (ds : List Def) → GoesWrong n ts pos → Source n ts ds → ⊥
wrong_unspelt _ _ _ ds (here file at text texts f) s = fault_unspelt file at text s.0 f s.2
wrong_unspelt _ _ _ ds (later file text texts es pos spelt wrong) s = wrong_unspelt (file + 1) texts pos s.1 wrong s.3

-- no text is left
pub source_all : (texts : List (List ℕ)) (i : ℕ) (ds : List Def) → length texts ≤ i → Source 0 (take i texts) ds → Source 0 texts ds
source_all texts i ds le h = subst (λ ts. Source 0 ts ds) (take_all i texts le) h
