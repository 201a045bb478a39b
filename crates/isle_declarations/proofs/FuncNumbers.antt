-- The number of a term's function stands at the place of the term's external constructor.
use Rattle.std.proofs.Common.{◌≡◌, ℕ, List, map, Option, Some, None, refl, sym, ap, ◌∙◌}
use Rattle.std.specs.Prelude.{option_map, slice_get}
use Rattle.std.proofs.lemmas.Option.{slice_get-map}
use Rattle.isle_ast.specs.Tree.{Def}
use Rattle.isle_declarations.specs.declared.collected.Extern.{Extern as CodeExtern}
use Rattle.isle_declarations.specs.declared.collected.Definitions.{Definitions}
use Rattle.isle_declarations.specs.Symbols.{index_of, number_or, symbols}
use Rattle.isle_declarations.specs.Signatures.{Extern, externs, func_named}
use Rattle.isle_declarations.specs.Collected.{extern, AreCollected}
use Rattle.isle_declarations.specs.Heads.{extern_terms}
use Rattle.isle_declarations.specs.Numbered.{AreNumbered}
use Rattle.isle_declarations.proofs.LookUps.{at_place, func_at}
use Rattle.isle_declarations.proofs.NumberLaws.{number_at}

func_number : (syms : List (List ℕ)) (xs : List CodeExtern) (p : ℕ) (o : Option CodeExtern) → AreNumbered syms (map (λ (x : CodeExtern). x.func.now) xs) (map (λ (x : CodeExtern). x.func_number) xs) → slice_get xs p ≡ o
    → option_map (λ (x : CodeExtern). x.func_number) o ≡ option_map (λ (f : List ℕ). number_or (index_of syms f)) (option_map (λ (x : Extern). x.func) (option_map extern o))
func_number syms xs p None h at = refl
func_number syms xs p (Some x) h at = ap (λ o. Some (number_or o)) (sym (number_at (λ (x : CodeExtern). x.func.now) (λ (x : CodeExtern). x.func_number) syms xs p x h at))

func_at_place : (syms : List (List ℕ)) (xs : List CodeExtern) (o : Option ℕ) → AreNumbered syms (map (λ (x : CodeExtern). x.func.now) xs) (map (λ (x : CodeExtern). x.func_number) xs)
    → option_map (λ (x : CodeExtern). x.func_number) (at_place xs o) ≡ option_map (λ (f : List ℕ). number_or (index_of syms f)) (option_map (λ (x : Extern). x.func) (at_place (map extern xs) o))
func_at_place syms xs None h = refl
func_at_place syms xs (Some p) h =
    func_number syms xs p (slice_get xs p) h refl ∙ ap (λ o. option_map (λ (f : List ℕ). number_or (index_of syms f)) (option_map (λ (x : Extern). x.func) o)) (sym (slice_get-map extern xs p))

-- the number of the function of a name's external constructor, whose place is known
pub func_found : (defs : List Def) (given : Definitions) (name : List ℕ) (o : Option ℕ) → AreCollected defs given → o ≡ index_of (extern_terms (externs defs)) name
    → option_map (λ (x : CodeExtern). x.func_number) (at_place given.externs.items o) ≡ option_map (λ (f : List ℕ). number_or (index_of (symbols defs) f)) (func_named (externs defs) name)
func_found defs given name o k at =
    let func : Option Extern → Option (List ℕ) = option_map (λ (x : Extern). x.func) in
    func_at_place given.symbols given.externs.items o k.numbers.of_funcs
    ∙ ap (λ (syms : List (List ℕ)). option_map (λ (f : List ℕ). number_or (index_of syms f)) (func (at_place (map extern given.externs.items) o))) k.named
    ∙ ap (option_map (λ (f : List ℕ). number_or (index_of (symbols defs) f))) (ap (λ (xs : List Extern). func (at_place xs o)) k.external ∙ ap (λ p. func (at_place (externs defs) p)) at ∙ sym (func_at (externs defs) name))

-- a name without an external constructor
pub func_absent : (defs : List Def) (name : List ℕ) → index_of (extern_terms (externs defs)) name ≡ None → None ≡ option_map (λ (f : List ℕ). number_or (index_of (symbols defs) f)) (func_named (externs defs) name)
func_absent defs name none =
    sym (ap (option_map (λ (f : List ℕ). number_or (index_of (symbols defs) f))) (func_at (externs defs) name ∙ ap (λ o. option_map (λ (x : Extern). x.func) (at_place (externs defs) o)) none))
