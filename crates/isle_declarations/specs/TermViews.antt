-- What contracts see of the terms that were gathered.
use Rattle.std.specs.Prelude.{◌≡◌, ℕ, List, map}
use Rattle.isle_ast.specs.Tree.{Def}
use Rattle.isle_declarations.specs.declared.terms.ArgTypes.{ArgTypes}
use Rattle.isle_declarations.specs.declared.terms.ArgTypes.TheVariants.{Plain, Named}
use Rattle.isle_declarations.specs.declared.terms.TermDef.{TermDef}
use Rattle.isle_declarations.specs.declared.terms.Terms.{Terms}
use Rattle.isle_declarations.specs.Heads.{terms_of}
use Rattle.isle_declarations.specs.Tables.{HasFirsts}
use Rattle.isle_declarations.specs.Signatures.{Signature}
use Rattle.isle_declarations.specs.Symbols.{symbols}
use Rattle.isle_declarations.specs.Terms.{terms}

-- the names of types
abbrev pub arg_types : ArgTypes → List (List ℕ)
arg_types (Plain types) = types.now
arg_types (Named fields) = map (λ (f : List ℕ × List ℕ). f.1) fields.now

-- a term
abbrev pub term_def : TermDef → Signature
term_def t = record { term = t.term.now; pure = t.pure; multi = t.multi; partial = t.partial; recursive = t.recursive; args = arg_types t.args; ret = t.ret.now; pos = t.pos; origin = t.origin }

-- the terms of definitions, with the first place of each name
pub record AreTerms (defs : List Def) (found : Terms) : Type 0 where
  pub seen : map term_def found.terms.items ≡ terms defs
  pub places : HasFirsts (symbols defs) (terms_of (terms defs)) found.places
