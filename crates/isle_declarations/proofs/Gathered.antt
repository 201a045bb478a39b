-- Definitions that are gathered one after the other, with the numbers of their names.
use Rattle.std.proofs.Common.{◌≡◌, ℕ, ◌+◌, ◌<◌, List, [], ◌∷◌, ◌++◌, length, map, get_or, Option, Some, None, refl, sym, ap, ◌∙◌}
use Rattle.std.specs.Prelude.{fold, flat_map, drop, filter_map, option_to_list}
use Rattle.std.specs.List.{AllByRecursion, cons_option}
use Rattle.std.proofs.lemmas.List.{drop_more, map-append, append_assoc}
use Rattle.isle_ast.specs.declared.tree.Def.{Def as CodeDef}
use Rattle.isle_ast.specs.Tree.{Def}
use Rattle.isle_ast.specs.Views.{def}
use Rattle.isle_declarations.specs.declared.collected.Signature.{Signature as CodeSignature}
use Rattle.isle_declarations.specs.declared.collected.Extern.{Extern as CodeExtern}
use Rattle.isle_declarations.specs.declared.collected.Extracting.{Extracting as CodeExtracting}
use Rattle.isle_declarations.specs.declared.collected.Extracting.TheVariants as by
use Rattle.isle_declarations.specs.declared.collected.ExtractorDef.{ExtractorDef as CodeExtractor}
use Rattle.isle_declarations.specs.declared.collected.RuleDef.{RuleDef as CodeRule}
use Rattle.isle_declarations.specs.declared.collected.Item.{Item}
use Rattle.isle_declarations.specs.declared.collected.Definitions.{Definitions}
use Rattle.isle_declarations.specs.DeclaredTypes.{made_of, made_terms}
use Rattle.isle_declarations.specs.Names.{def_names}
use Rattle.isle_declarations.specs.Symbols.{index_of, added}
use Rattle.isle_declarations.specs.Numbered.{AreNumbered}
use Rattle.isle_declarations.specs.Signatures.{signature_of, extern_of, extractor_of, rule_of}
use Rattle.isle_declarations.specs.Collected.{signature, extern, extractor, rule, item_signatures, item_externs, item_extractors, item_rules, IsFunctionNumbered, HaveNumbers, IsItem, AreFound, AreCollected}
use Rattle.isle_declarations.proofs.SymbolLaws.{kept}
use Rattle.isle_declarations.proofs.Interned.{def_names_from, defs_more, flat_mapped}
use Rattle.isle_declarations.proofs.NumberLaws.{numbered_kept, numbered_more}

-- a number stays while names are added
pub stays_numbered : (more names new : List (List ℕ)) (name : List ℕ) (n : ℕ) → new ≡ fold added names more → index_of names name ≡ Some n → index_of new name ≡ Some n
stays_numbered more names new name n is e = ap (λ ns. index_of ns name) is ∙ kept more names name n e

-- one name with its number
pub numbered_one : (syms : List (List ℕ)) (name : List ℕ) (n : ℕ) → index_of syms name ≡ Some n → AreNumbered syms (name ∷ []) (n ∷ [])
numbered_one syms name n e = ap (λ o. o ∷ []) e

-- each function has its name's number
abbrev AreFunctions : List (List ℕ) → List CodeExtractor → Type 0
AreFunctions syms es = AllByRecursion (λ (x : CodeExtractor). IsFunctionNumbered syms x.by) es

-- some definitions are gathered, and the others are left
pub record AreGathered (ds : List CodeDef) (i : ℕ) (syms : List (List ℕ)) (sigs : List CodeSignature) (xs : List CodeExtern) (es : List CodeExtractor) (rules : List CodeRule) : Type 0 where
  pub named : fold added [] (def_names_from 0 ds) ≡ fold added syms (def_names_from i ds)
  pub declared : filter_map signature_of (map def ds) ≡ map signature sigs ++ filter_map signature_of (map def (drop i ds))
  pub external : filter_map extern_of (map def ds) ≡ map extern xs ++ filter_map extern_of (map def (drop i ds))
  pub extracting : filter_map extractor_of (map def ds) ≡ map extractor es ++ filter_map extractor_of (map def (drop i ds))
  pub ruled : filter_map rule_of (map def ds) ≡ map rule rules ++ filter_map rule_of (map def (drop i ds))
  pub numbers : HaveNumbers syms sigs xs es rules

cons_is : {Y : Type 0} (o : Option Y) (ys : List Y) → cons_option o ys ≡ option_to_list o ++ ys
cons_is None ys = refl
cons_is (Some y) ys = refl

-- one kind of definitions, with one more
kind_more : {X Y : Type 0} (f : Def → Option Y) (seen : X → Y) (ds : List CodeDef) (i : ℕ) (x d : CodeDef) (xs more one : List X) → i < length ds → x ≡ get_or ds i d
    → more ≡ xs ++ one → map seen one ≡ option_to_list (f (def x)) → filter_map f (map def ds) ≡ map seen xs ++ filter_map f (map def (drop i ds))
    → filter_map f (map def ds) ≡ map seen more ++ filter_map f (map def (drop (i + 1) ds))
kind_more f seen ds i x d xs more one lt is added_one is_one h =
    let rest = filter_map f (map def (drop (i + 1) ds)) in
    h ∙ ap (λ ys. map seen xs ++ filter_map f (map def ys)) (drop_more ds i d lt ∙ ap (λ y. y ∷ drop (i + 1) ds) (sym is))
    ∙ ap (λ ys. map seen xs ++ ys) (cons_is (f (def x)) rest ∙ ap (λ ys. ys ++ rest) (sym is_one))
    ∙ sym (append_assoc (map seen xs) (map seen one) rest) ∙ ap (λ ys. ys ++ rest) (sym (map-append seen xs one) ∙ ap (map seen) (sym added_one))

-- numbers of one kind, with one more
numbers_more : {X : Type 0} (name_of : X → List ℕ) (number_of : X → ℕ) (more syms new : List (List ℕ)) (xs all one : List X) → new ≡ fold added syms more → all ≡ xs ++ one
    → AreNumbered syms (map name_of xs) (map number_of xs) → AreNumbered new (map name_of one) (map number_of one) → AreNumbered new (map name_of all) (map number_of all)
numbers_more name_of number_of more syms new xs all one is added_one h k =
    let old : AreNumbered new (map name_of xs) (map number_of xs) = rw is (numbered_kept more syms (map name_of xs) (map number_of xs) h) in
    rw (added_one, map-append name_of xs one, map-append number_of xs one) (numbered_more new (map name_of xs) (map name_of one) (map number_of xs) (map number_of one) old k)

-- a function's number stays while names are added
function_kept : (more syms new : List (List ℕ)) (x : CodeExtracting) → new ≡ fold added syms more → IsFunctionNumbered syms x → IsFunctionNumbered new x
function_kept more syms new (by.Function func_number func infallible) is h = stays_numbered more syms new func.now func_number is h
function_kept more syms new (by.Template params template) is h = tt

functions_kept : (more syms new : List (List ℕ)) (es : List CodeExtractor) → new ≡ fold added syms more → AreFunctions syms es → AreFunctions new es
functions_kept more syms new [] is h = tt
functions_kept more syms new (x ∷ es) is h = (function_kept more syms new x.by is h.0, functions_kept more syms new es is h.1)

functions_behind : (syms : List (List ℕ)) (es one : List CodeExtractor) → AreFunctions syms es → AreFunctions syms one → AreFunctions syms (es ++ one)
functions_behind syms [] one h k = k
functions_behind syms (x ∷ es) one h k = (h.0, functions_behind syms es one h.1 k)

-- numbers of functions, with one more
functions_more : (more syms new : List (List ℕ)) (es all one : List CodeExtractor) → new ≡ fold added syms more → all ≡ es ++ one → AreFunctions syms es → AreFunctions new one → AreFunctions new all
functions_more more syms new es all one is added_one h k = rw added_one (functions_behind new es one (functions_kept more syms new es is h) k)

-- one definition more
pub gathered_more : (ds : List CodeDef) (i : ℕ) (x d : CodeDef) (item : Item) (syms new : List (List ℕ)) (sigs all_sigs : List CodeSignature) (xs all_xs : List CodeExtern) (es all_es : List CodeExtractor) (rules all_rules : List CodeRule) → i < length ds → x ≡ get_or ds i d
    → new ≡ fold added syms (def_names (def x)) → IsItem new (def x) item → all_sigs ≡ sigs ++ item_signatures item → all_xs ≡ xs ++ item_externs item → all_es ≡ es ++ item_extractors item → all_rules ≡ rules ++ item_rules item
    → AreGathered ds i syms sigs xs es rules → AreGathered ds (i + 1) new all_sigs all_xs all_es all_rules
gathered_more ds i x d item syms new sigs all_sigs xs all_xs es all_es rules all_rules lt is named it s e k r h = record {
  named = h.named ∙ defs_more ds i x d syms lt is ∙ ap (λ names. fold added names (def_names_from (i + 1) ds)) (sym named);
  declared = kind_more signature_of signature ds i x d sigs all_sigs (item_signatures item) lt is s it.declared h.declared;
  external = kind_more extern_of extern ds i x d xs all_xs (item_externs item) lt is e it.external h.external;
  extracting = kind_more extractor_of extractor ds i x d es all_es (item_extractors item) lt is k it.extracting h.extracting;
  ruled = kind_more rule_of rule ds i x d rules all_rules (item_rules item) lt is r it.ruled h.ruled;
  numbers = record {
    of_signatures = numbers_more (λ (s : CodeSignature). s.term.now) (λ (s : CodeSignature). s.number) (def_names (def x)) syms new sigs all_sigs (item_signatures item) named s h.numbers.of_signatures it.numbers.of_signatures;
    of_externs = numbers_more (λ (x : CodeExtern). x.term.now) (λ (x : CodeExtern). x.number) (def_names (def x)) syms new xs all_xs (item_externs item) named e h.numbers.of_externs it.numbers.of_externs;
    of_funcs = numbers_more (λ (x : CodeExtern). x.func.now) (λ (x : CodeExtern). x.func_number) (def_names (def x)) syms new xs all_xs (item_externs item) named e h.numbers.of_funcs it.numbers.of_funcs;
    of_extractors = numbers_more (λ (x : CodeExtractor). x.term.now) (λ (x : CodeExtractor). x.number) (def_names (def x)) syms new es all_es (item_extractors item) named k h.numbers.of_extractors it.numbers.of_extractors;
    of_extracting = functions_more (def_names (def x)) syms new es all_es (item_extractors item) named k h.numbers.of_extracting it.numbers.of_extracting;
    of_rules = numbers_more (λ (r : CodeRule). r.term.now) (λ (r : CodeRule). r.number) (def_names (def x)) syms new rules all_rules (item_rules item) named r h.numbers.of_rules it.numbers.of_rules;
  };
}

-- numbers stay while names are added
all_kept : (more syms new : List (List ℕ)) (sigs : List CodeSignature) (xs : List CodeExtern) (es : List CodeExtractor) (rules : List CodeRule) → new ≡ fold added syms more → HaveNumbers syms sigs xs es rules → HaveNumbers new sigs xs es rules
all_kept more syms new sigs xs es rules is h = record {
  of_signatures = rw is (numbered_kept more syms (map (λ (s : CodeSignature). s.term.now) sigs) (map (λ (s : CodeSignature). s.number) sigs) h.of_signatures);
  of_externs = rw is (numbered_kept more syms (map (λ (x : CodeExtern). x.term.now) xs) (map (λ (x : CodeExtern). x.number) xs) h.of_externs);
  of_funcs = rw is (numbered_kept more syms (map (λ (x : CodeExtern). x.func.now) xs) (map (λ (x : CodeExtern). x.func_number) xs) h.of_funcs);
  of_extractors = rw is (numbered_kept more syms (map (λ (x : CodeExtractor). x.term.now) es) (map (λ (x : CodeExtractor). x.number) es) h.of_extractors);
  of_extracting = functions_kept more syms new es is h.of_extracting;
  of_rules = rw is (numbered_kept more syms (map (λ (r : CodeRule). r.term.now) rules) (map (λ (r : CodeRule). r.number) rules) h.of_rules);
}

-- the terms that types make are added to what was found
pub collected : (defs : List Def) (made : List (List (List ℕ))) (given : Definitions) (new : List (List ℕ)) → made ≡ map made_of defs → new ≡ fold added given.symbols (flat_map (λ names. names) made) → AreFound defs given
    → AreCollected defs (record { symbols = new; signatures = given.signatures; externs = given.externs; extractors = given.extractors; rules = given.rules })
collected defs made given new of is h = record {
  named = is ∙ ap (fold added given.symbols) (ap (flat_map (λ names. names)) of ∙ flat_mapped made_of defs) ∙ ap (λ names. fold added names (made_terms defs)) h.named;
  declared = h.declared;
  external = h.external;
  extracting = h.extracting;
  ruled = h.ruled;
  numbers = all_kept (flat_map (λ names. names) made) given.symbols new given.signatures.items given.externs.items given.extractors.items given.rules.items is h.numbers;
}
