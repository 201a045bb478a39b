-- What the code that resolves names sees.
use Rattle.std.specs.Prelude.{◌≡◌, ℕ, List, Bool, true, false, Option, Some, None, is_some, map}
use Rattle.isle_sema.specs.declared.known.Called.{Called}
use Rattle.isle_declarations.specs.Terms.{terms, is_made}
use Rattle.isle_declarations.specs.Signatures.{Signature, Extracting, ByFunction, ByTemplate, ExtractorDef, externs, extractors, rule_defs, term_named, func_named, extractor_named, has_rule}
use Rattle.isle_terms.specs.TypeNames.{type_named}
use Rattle.isle_terms.specs.Whole.{Whole, termed}

-- an extractor takes values apart by a template
abbrev pub is_template : Extracting → Bool
is_template (ByFunction func infallible) = false
is_template (ByTemplate t) = true

-- so does that of a term, if it has one
abbrev pub is_templated : Option ExtractorDef → Bool
is_templated None = false
is_templated (Some x) = is_template x.by

-- what is known of a term
pub record IsCalled (w : Whole) (s : Signature) (c : Called) : Type 0 where
  pub term : term_named (terms w.defs) s.term ≡ Some c.term
  pub args : map (type_named w.defs) s.args ≡ map Some c.args.now
  pub ret : type_named w.defs s.ret ≡ Some c.ret
  pub made : is_made s.origin ≡ c.made
  pub pure : s.pure ≡ c.pure
  pub multi : s.multi ≡ c.multi
  pub partial : s.partial ≡ c.partial
  pub external : is_some (func_named (externs w.defs) s.term) ≡ c.external
  pub extracting : is_some (extractor_named (extractors w.defs) s.term) ≡ c.extracting
  pub templated : is_templated (extractor_named (extractors w.defs) s.term) ≡ c.templated
  pub ruled : has_rule (rule_defs w.defs) s.term ≡ c.ruled

-- the same if the term may not be there
abbrev pub MayBeCalled : Whole → Option Signature → Option Called → Type 0
MayBeCalled w None None = Unit {0}
MayBeCalled w (Some s) (Some c) = IsCalled w s c
MayBeCalled w None (Some c) = ⊥
MayBeCalled w (Some s) None = ⊥

-- what is known is of the term of this name
pub record IsHead (w : Whole) (name : List ℕ) (own : Called) : Type 0 where
  pub signature : Signature
  pub there : termed w name ≡ Some signature
  pub called : IsCalled w signature own
