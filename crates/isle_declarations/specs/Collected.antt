-- What contracts see of the collected declarations and rules.
use Rattle.std.specs.Prelude.{◌≡◌, ℕ, List, [], ◌∷◌, Some, map, fold, flat_map, option_map, option_to_list}
use Rattle.std.specs.List.{AllByRecursion}
use Rattle.isle_ast.specs.Tree.{Def}
use Rattle.isle_ast.specs.Views.{pattern, expr, iflet}
use Rattle.isle_declarations.specs.declared.collected.Signature.{Signature as CodeSignature}
use Rattle.isle_declarations.specs.declared.collected.RuleDef.{RuleDef as CodeRule}
use Rattle.isle_declarations.specs.declared.collected.Extern.{Extern as CodeExtern}
use Rattle.isle_declarations.specs.declared.collected.Extracting.{Extracting as CodeExtracting}
use Rattle.isle_declarations.specs.declared.collected.Extracting.TheVariants as by
use Rattle.isle_declarations.specs.declared.collected.ExtractorDef.{ExtractorDef as CodeExtractor}
use Rattle.isle_declarations.specs.declared.collected.KnownExtractor.{KnownExtractor}
use Rattle.isle_declarations.specs.declared.collected.KnownExtractor.TheVariants as known
use Rattle.isle_declarations.specs.declared.collected.Definitions.{Definitions}
use Rattle.isle_declarations.specs.declared.collected.Item.{Item}
use Rattle.isle_declarations.specs.declared.collected.Item.TheVariants as item
use Rattle.isle_declarations.specs.declared.terms.Origin.TheVariants as origin
use Rattle.isle_declarations.specs.Names.{def_names}
use Rattle.isle_declarations.specs.Symbols.{index_of, added, symbols}
use Rattle.isle_declarations.specs.Signatures.{Signature, Extern, Extracting, ByFunction, ByTemplate, ExtractorDef, RuleDef, signature_of, extern_of, extractor_of, rule_of, signatures, externs, extractors, rule_defs}
use Rattle.isle_declarations.specs.Numbered.{AreNumbered}

-- a declaration
abbrev pub signature : CodeSignature → Signature
signature s = record { term = s.term.now; pure = s.pure; multi = s.multi; partial = s.partial; recursive = s.recursive; args = s.args.now; ret = s.ret.now; pos = s.pos; origin = origin.Declared }

-- an external constructor
abbrev pub extern : CodeExtern → Extern
extern x = record { term = x.term.now; func = x.func.now }

-- how an extractor takes values apart
abbrev pub extracting : CodeExtracting → Extracting
extracting (by.Function func_number func infallible) = ByFunction func.now infallible
extracting (by.Template params template) = ByTemplate (record { params = params.now; pattern = pattern template.now })

-- what is known of it
abbrev pub known_by : CodeExtracting → KnownExtractor
known_by (by.Function func_number func infallible) = known.Function func_number infallible
known_by (by.Template params template) = known.Template

-- an extractor
abbrev pub extractor : CodeExtractor → ExtractorDef
extractor x = record { term = x.term.now; by = extracting x.by; pos = x.pos }

-- a rule
abbrev pub rule : CodeRule → RuleDef
rule r = record { name = option_map (λ n. n.now) r.name; prio = r.prio; term = r.term.now; args = map pattern r.args.now; iflets = map iflet r.iflets.now; rhs = expr r.rhs.now; pos = r.pos }

-- the declaration that an item is
abbrev pub item_signatures : Item → List CodeSignature
item_signatures (item.Declared s) = s ∷ []
item_signatures (item.External x) = []
item_signatures (item.Extractor x) = []
item_signatures (item.Rule r) = []
item_signatures item.Other = []

-- the external constructor that it is
abbrev pub item_externs : Item → List CodeExtern
item_externs (item.Declared s) = []
item_externs (item.External x) = x ∷ []
item_externs (item.Extractor x) = []
item_externs (item.Rule r) = []
item_externs item.Other = []

-- the extractor that it is
abbrev pub item_extractors : Item → List CodeExtractor
item_extractors (item.Declared s) = []
item_extractors (item.External x) = []
item_extractors (item.Extractor x) = x ∷ []
item_extractors (item.Rule r) = []
item_extractors item.Other = []

-- the rule that it is
abbrev pub item_rules : Item → List CodeRule
item_rules (item.Declared s) = []
item_rules (item.External x) = []
item_rules (item.Extractor x) = []
item_rules (item.Rule r) = r ∷ []
item_rules item.Other = []

-- the number of a function that takes values apart is that of its name; a template has none
abbrev pub IsFunctionNumbered : List (List ℕ) → CodeExtracting → Type 0
IsFunctionNumbered syms (by.Function func_number func infallible) = index_of syms func.now ≡ Some func_number
IsFunctionNumbered syms (by.Template params template) = Unit {0}

-- the numbers of the names are those among these symbols
pub record HaveNumbers (syms : List (List ℕ)) (sigs : List CodeSignature) (xs : List CodeExtern) (es : List CodeExtractor) (rules : List CodeRule) : Type 0 where
  pub of_signatures : AreNumbered syms (map (λ (s : CodeSignature). s.term.now) sigs) (map (λ (s : CodeSignature). s.number) sigs)
  pub of_externs : AreNumbered syms (map (λ (x : CodeExtern). x.term.now) xs) (map (λ (x : CodeExtern). x.number) xs)
  pub of_funcs : AreNumbered syms (map (λ (x : CodeExtern). x.func.now) xs) (map (λ (x : CodeExtern). x.func_number) xs)
  pub of_extractors : AreNumbered syms (map (λ (x : CodeExtractor). x.term.now) es) (map (λ (x : CodeExtractor). x.number) es)
  pub of_extracting : AllByRecursion (λ (x : CodeExtractor). IsFunctionNumbered syms x.by) es
  pub of_rules : AreNumbered syms (map (λ (r : CodeRule). r.term.now) rules) (map (λ (r : CodeRule). r.number) rules)

-- the same of all that was gathered
abbrev pub AreAllNumbered : Definitions → Type 0
AreAllNumbered given = HaveNumbers given.symbols given.signatures.items given.externs.items given.extractors.items given.rules.items

-- the item is what the definition is, with numbers among these symbols
pub record IsItem (syms : List (List ℕ)) (d : Def) (i : Item) : Type 0 where
  pub declared : map signature (item_signatures i) ≡ option_to_list (signature_of d)
  pub external : map extern (item_externs i) ≡ option_to_list (extern_of d)
  pub extracting : map extractor (item_extractors i) ≡ option_to_list (extractor_of d)
  pub ruled : map rule (item_rules i) ≡ option_to_list (rule_of d)
  pub numbers : HaveNumbers syms (item_signatures i) (item_externs i) (item_extractors i) (item_rules i)

-- the names, declarations, external constructors, extractors, and rules in definitions, with their numbers
pub record AreFound (defs : List Def) (given : Definitions) : Type 0 where
  pub named : given.symbols ≡ fold added [] (flat_map def_names defs)
  pub declared : map signature given.signatures.items ≡ signatures defs
  pub external : map extern given.externs.items ≡ externs defs
  pub extracting : map extractor given.extractors.items ≡ extractors defs
  pub ruled : map rule given.rules.items ≡ rule_defs defs
  pub numbers : AreAllNumbered given

-- the same with the symbols, among which are the terms that types make
pub record AreCollected (defs : List Def) (given : Definitions) : Type 0 where
  pub named : given.symbols ≡ symbols defs
  pub declared : map signature given.signatures.items ≡ signatures defs
  pub external : map extern given.externs.items ≡ externs defs
  pub extracting : map extractor given.extractors.items ≡ extractors defs
  pub ruled : map rule given.rules.items ≡ rule_defs defs
  pub numbers : AreAllNumbered given

-- the declarations of definitions, with the numbers of their names
pub record AreSignatures (defs : List Def) (sigs : List CodeSignature) : Type 0 where
  pub seen : map signature sigs ≡ signatures defs
  pub numbered : AreNumbered (symbols defs) (map (λ (s : CodeSignature). s.term.now) sigs) (map (λ (s : CodeSignature). s.number) sigs)

-- their external constructors, with the numbers of their terms
pub record AreExterns (defs : List Def) (xs : List CodeExtern) : Type 0 where
  pub seen : map extern xs ≡ externs defs
  pub numbered : AreNumbered (symbols defs) (map (λ (x : CodeExtern). x.term.now) xs) (map (λ (x : CodeExtern). x.number) xs)

-- their extractors, with the numbers of their terms
pub record AreExtractors (defs : List Def) (xs : List CodeExtractor) : Type 0 where
  pub seen : map extractor xs ≡ extractors defs
  pub numbered : AreNumbered (symbols defs) (map (λ (x : CodeExtractor). x.term.now) xs) (map (λ (x : CodeExtractor). x.number) xs)

-- their rules, with the numbers of their heads
pub record AreRules (defs : List Def) (rules : List CodeRule) : Type 0 where
  pub seen : map rule rules ≡ rule_defs defs
  pub numbered : AreNumbered (symbols defs) (map (λ (r : CodeRule). r.term.now) rules) (map (λ (r : CodeRule). r.number) rules)
