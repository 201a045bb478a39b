-- A name's term is the one at the name's place.
use Rattle.std.proofs.Common.{◌≡◌, ℕ, zero, suc, ◌+◌, Bool, true, false, cond, List, [], ◌∷◌, map, Option, Some, None, refl, sym, ap, ◌∙◌, subst}
use Rattle.std.specs.Prelude.{is_some, option_map, option_and_then, slice_get}
use Rattle.std.specs.Str.{bytes_eq}
use Rattle.std.proofs.lemmas.Option.{same_Some}
use Rattle.isle_core.specs.declared.Sym.{Sym}
use Rattle.isle_core.specs.declared.TypeId.{TypeId}
use Rattle.isle_core.specs.declared.types.Term.{Term}
use Rattle.isle_core.specs.declared.types.TypeEnv.{TypeEnv}
use Rattle.isle_declarations.specs.DeclaredTypes.{Constant, constants}
use Rattle.isle_declarations.specs.Symbols.{index_of}
use Rattle.isle_declarations.specs.Signatures.{Signature, Extracting, ByFunction, ByTemplate, ExtractorDef, externs, extractors, rule_defs, term_named, func_named, extractor_named, has_rule}
use Rattle.isle_declarations.specs.Terms.{terms as all_terms, is_made}
use Rattle.isle_declarations.specs.Heads.{terms_of, extern_terms, extractor_terms, heads_of}
use Rattle.isle_declarations.specs.declared.collected.KnownExtractor.{KnownExtractor}
use Rattle.isle_declarations.specs.declared.collected.KnownExtractor.TheVariants as known
use Rattle.isle_declarations.specs.Tables.{extractor_known}
use Rattle.isle_declarations.proofs.LookUps.{at_place, named_at, named_is}
use Rattle.isle_declarations.proofs.NumberLaws.{has_func, has_head}
use Rattle.isle_sema.specs.declared.known.Called.{Called}
use Rattle.isle_terms.specs.Whole.{Whole, termed, constant_type}
use Rattle.isle_terms.specs.TermPass.{term_pass, terms_pass}
use Rattle.isle_sema.specs.Known.{is_template, is_templated, MayBeCalled}
use Rattle.isle_terms.proofs.MadeTerms.{first_there, term_made, term_is, types_are}

-- there are as many terms as signatures
term_past : (w : Whole) (sigs : List Signature) (terms : List Term) (i : ℕ) → terms_pass w sigs ≡ Some terms → slice_get terms i ≡ None → slice_get sigs i ≡ None
term_past w [] terms zero h past = refl
term_past w [] terms (suc i) h past = refl
term_past w (d ∷ sigs) terms zero h past =
    let f = first_there (term_pass w d) (terms_pass w sigs) terms h in
    let bad : Some f.first ≡ None = ap (λ (ts : List Term). slice_get ts 0) (sym f.all) ∙ past in
    absurd cc
term_past w (d ∷ sigs) terms (suc i) h past =
    let f = first_there (term_pass w d) (terms_pass w sigs) terms h in
    term_past w sigs f.others i f.found (ap (λ (ts : List Term). slice_get ts (suc i)) (sym f.all) ∙ past)

-- ---- what is known of a name

-- if no term is of the name, none is called
pub known_absent : (w : Whole) (name : List ℕ) → index_of (terms_of (all_terms w.defs)) name ≡ None → MayBeCalled w (termed w name) None
known_absent w name absent = let none : termed w name ≡ None = named_at (all_terms w.defs) name ∙ ap (at_place (all_terms w.defs)) absent in subst (λ o. MayBeCalled w o None) (sym none) tt

-- nor if nothing stands at its place
pub known_beyond : (w : Whole) (name : List ℕ) (place : ℕ) → index_of (terms_of (all_terms w.defs)) name ≡ Some place → slice_get (all_terms w.defs) place ≡ None → MayBeCalled w (termed w name) None
known_beyond w name place at past = let none : termed w name ≡ None = named_at (all_terms w.defs) name ∙ ap (at_place (all_terms w.defs)) at ∙ past in subst (λ o. MayBeCalled w o None) (sym none) tt

-- or no term
pub known_past : (w : Whole) (terms : List Term) (name : List ℕ) (place : ℕ) → terms_pass w (all_terms w.defs) ≡ Some terms → index_of (terms_of (all_terms w.defs)) name ≡ Some place → slice_get terms place ≡ None → MayBeCalled w (termed w name) None
known_past w terms name place made at past = known_beyond w name place at (term_past w (all_terms w.defs) terms place made past)

named_later : {X : Type 0} (x : X) (b : Bool) (o : Option X) (p : Option ℕ) → is_some o ≡ is_some p → is_some (cond b (Some x) o) ≡ is_some (cond b (Some 0) (option_map (λ (n : ℕ). n + 1) p))
named_later x true o p h = refl
named_later x false o None h = h
named_later x false o (Some n) h = h

-- a term has an external extractor if it is among their terms
has_extractor : (xs : List ExtractorDef) (name : List ℕ) → is_some (extractor_named xs name) ≡ is_some (index_of (extractor_terms xs) name)
has_extractor [] name = refl
has_extractor (x ∷ xs) name = named_later x (bytes_eq x.term name) (extractor_named xs name) (index_of (extractor_terms xs) name) (has_extractor xs name)

-- what is known of an extractor tells that it takes values apart by a template
abbrev pub tells_template : Option KnownExtractor → Bool
tells_template None = false
tells_template (Some (known.Function number infallible)) = false
tells_template (Some known.Template) = true

pub template_told : (syms : List (List ℕ)) (o : Option ExtractorDef) → tells_template (option_map (extractor_known syms) o) ≡ is_templated o
template_told syms None = refl
template_told syms (Some x) = by x.by
  where
    by : (how : Extracting) → tells_template (option_map (extractor_known syms) (Some (record { term = x.term; by = how; pos = x.pos }))) ≡ is_template how
    by (ByFunction func infallible) = refl
    by (ByTemplate t) = refl

-- the term of a name
pub known_at : (w : Whole) (terms : List Term) (name : List ℕ) (place : ℕ) (t : Term) (s : Signature) (c : Called) → terms_pass w (all_terms w.defs) ≡ Some terms → index_of (terms_of (all_terms w.defs)) name ≡ Some place
    → slice_get terms place ≡ Some t → slice_get (all_terms w.defs) place ≡ Some s → c.term ≡ record { 0 = place } → c.args.now ≡ t.arg_tys → c.ret ≡ t.ret_ty → s.pure ≡ c.pure → s.multi ≡ c.multi → s.partial ≡ c.partial → is_made s.origin ≡ c.made
    → c.external ≡ is_some (index_of (extern_terms (externs w.defs)) name) → c.extracting ≡ is_some (index_of (extractor_terms (extractors w.defs)) name) → c.templated ≡ is_templated (extractor_named (extractors w.defs) name)
    → c.ruled ≡ is_some (index_of (heads_of (rule_defs w.defs)) name) → MayBeCalled w (termed w name) (Some c)
known_at w terms name place t s c made at term given id args ret pure multi partial by_type is_external is_extracting by_template is_ruled =
    let is : termed w name ≡ Some s = named_at (all_terms w.defs) name ∙ ap (at_place (all_terms w.defs)) at ∙ given in
    let named : s.term ≡ name = named_is (all_terms w.defs) name s is in
    let m = term_made w (all_terms w.defs) terms place s made given in
    let one : m.term ≡ t = same_Some m.term t (sym m.there ∙ term) in
    let is_term = term_is w s t (m.made ∙ ap Some one) in
    subst (λ o. MayBeCalled w o (Some c)) (sym is)
    (record {
      term = ap (term_named (all_terms w.defs)) named ∙ ap (option_map (λ (n : ℕ). record { 0 = n })) at ∙ ap Some (sym id);
      args = types_are w.defs s.args t.arg_tys is_term.args ∙ ap (map Some) (sym args);
      ret = is_term.ret ∙ ap Some (sym ret);
      pure = pure;
      multi = multi;
      partial = partial;
      made = by_type;
      external = ap (λ n. is_some (func_named (externs w.defs) n)) named ∙ has_func (externs w.defs) name ∙ sym is_external;
      extracting = ap (λ n. is_some (extractor_named (extractors w.defs) n)) named ∙ has_extractor (extractors w.defs) name ∙ sym is_extracting;
      templated = ap (λ n. is_templated (extractor_named (extractors w.defs) n)) named ∙ sym by_template;
      ruled = ap (has_rule (rule_defs w.defs)) named ∙ sym (has_head (rule_defs w.defs) name) ∙ sym is_ruled;
    })

-- ---- constants

-- the type of a constant at its name's place
pub constant_at : (w : Whole) (names : List (List ℕ)) (types : TypeEnv) (name : List ℕ) (place : ℕ) (o : Option (Sym × TypeId)) → names ≡ map (λ (c : Constant). c.name) (constants w.defs) → types ≡ w.types
    → index_of names name ≡ Some place → slice_get types.consts place ≡ o → option_map (λ (c : Sym × TypeId). c.1) o ≡ constant_type w name
constant_at w names types name place o all same at is =
    ap (option_map (λ (c : Sym × TypeId). c.1)) (sym is ∙ ap (λ (ts : TypeEnv). slice_get ts.consts place) same)
    ∙ ap (λ p. option_map (λ (c : Sym × TypeId). c.1) (option_and_then (slice_get w.types.consts) p)) (sym at ∙ ap (λ ns. index_of ns name) all)

-- a name that no constant has
pub constant_absent : (w : Whole) (names : List (List ℕ)) (name : List ℕ) → names ≡ map (λ (c : Constant). c.name) (constants w.defs) → index_of names name ≡ None → None ≡ constant_type w name
constant_absent w names name all none = ap (λ p. option_map (λ (c : Sym × TypeId). c.1) (option_and_then (slice_get w.types.consts) p)) (sym none ∙ ap (λ ns. index_of ns name) all)
