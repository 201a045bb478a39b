-- What a value was taken apart into, by numbers.
use Rattle.std.specs.Prelude.{◌≡◌, ℕ, List, [], ◌∷◌, ◌++◌, Bool, Some, slice_get}
use Rattle.isle_core.specs.declared.BindingId.{BindingId}
use Rattle.isle_core.specs.declared.TermId.{TermId}
use Rattle.isle_core.specs.declared.rule_sets.Constraint.TheVariants as constraint
use Rattle.isle_core.specs.declared.types.ExtractorKind.{ExtractorKind}
use Rattle.isle_core.specs.declared.types.ExtractorKind.TheVariants as extractor
use Rattle.isle_core.specs.declared.types.ReturnKind.{ReturnKind}
use Rattle.isle_core.specs.declared.types.ReturnKind.TheVariants as return_kind
use Rattle.isle_core.specs.declared.types.TermKind.{TermKind}
use Rattle.isle_core.specs.declared.types.TermKind.TheVariants as kind
use Rattle.isle_core.specs.Calling.{extractor_kind}
use Rattle.isle_core.specs.Opening.{opening, part_path}
use Rattle.isle_core.specs.Path.{Path, Chosen, VariantField, StructField, Inner, Part, at, paths_of}
use Rattle.isle_core.specs.RulePaths.{opening_paths}
use Rattle.isle_core.specs.Tests.{Places, Test, Is, HasItem, opening_tests}
use Rattle.isle_core.specs.Rule.{Environment}
use Rattle.isle_rulesets.specs.declared.made.Made.{Made}
use Rattle.isle_rulesets.specs.declared.made.Made.TheVariants as made
use Rattle.isle_rulesets.specs.declared.opening.Opened.{Opened}
use Rattle.isle_rulesets.specs.declared.opening.Opened.TheVariants as opened
use Rattle.isle_rulesets.specs.declared.pattern_tests.PatternTests.{PatternTests}
use Rattle.isle_rulesets.specs.Keys.{IsThere}
use Rattle.isle_rulesets.specs.Met.{opening_lists}
use Rattle.isle_rulesets.specs.Numbering.{Numbered, Extends, value_by, listed_by}
use Rattle.isle_rulesets.specs.PatternTests.{HasTests, Reads}

-- how often an extractor answers
abbrev pub kind_by : (multi : Bool) → ExtractorKind → ReturnKind
kind_by multi extractor.Absent = return_kind.Plain
kind_by multi extractor.Internal = return_kind.Plain
kind_by multi (extractor.External func infallible) = extractor_kind multi infallible

-- so that of a term of this kind
abbrev pub extracts_by : TermKind → ReturnKind
extracts_by (kind.Variant ty variant) = return_kind.Plain
extracts_by (kind.Struct ty) = return_kind.Plain
extracts_by (kind.Decl pure multi partial recursive by how) = kind_by multi how

-- a field of what is made
abbrev pub made_part : Made → ℕ → Path → Path
made_part (made.Variant ty variant) i p = VariantField variant i p
made_part (made.Struct ty) i p = StructField i p

-- the path of a part
abbrev pub opened_part : List Path → Opened → ℕ → Path
opened_part ps (opened.Made m source) i = made_part m i (at ps source)
opened_part ps (opened.Result answer) i = at ps answer
opened_part ps (opened.Results answer) i = Part i (at ps answer)

-- a path stands at the number
abbrev pub IsOpenedThere : List Path → Opened → Type 0
IsOpenedThere ps (opened.Made m source) = IsThere ps source
IsOpenedThere ps (opened.Result answer) = IsThere ps answer
IsOpenedThere ps (opened.Results answer) = IsThere ps answer

-- the value of an answer beside it
abbrev pub value_beside : ReturnKind → Path → List Path
value_beside return_kind.Plain p = []
value_beside return_kind.Option p = Inner p ∷ []
value_beside return_kind.Iterator p = Chosen p ∷ []

-- what is tested of an answer: that it is something, if it may be nothing; of a list, that it has an item
abbrev pub tested_by : ReturnKind → Path → List Test
tested_by return_kind.Plain p = []
tested_by return_kind.Option p = Is p constraint.Some ∷ []
tested_by return_kind.Iterator p = HasItem p ∷ []

-- an answer at a number is tested so, wherever bindings have paths
abbrev pub Asks : PatternTests → PatternTests → ReturnKind → BindingId → Type 0
Asks d e kind call = (ps : List Path) (places : Places) (ts : List Test) → HasTests ps places ts d → HasTests ps places (ts ++ tested_by kind (at ps call)) e

-- the answer's value has this number, and the answer is tested and met if it is a list
pub record Answers (old new : Numbered) (d e : PatternTests) (kind : ReturnKind) (p : Path) (b : BindingId) : Type 0 where
  pub reads : Reads old new d e (value_beside kind p) (listed_by kind p) (λ places. places) (λ places. tested_by kind p)
  pub found : slice_get (paths_of new.bindings) b.0 ≡ Some (value_by kind p)

-- a term's pattern takes a path apart: what it calls is numbered, what it tests was gathered, and the parts are its parts
pub record OpensAt (env : Environment) (old new : Numbered) (d e : PatternTests) (term : TermId) (p : Path) (o : Opened) : Type 0 where
  pub reads : Reads old new d e (opening_paths (opening env term) p) (opening_lists (opening env term) p) (λ places. places) (λ places. opening_tests (opening env term) p)
  pub parts : (ps : List Path) → Extends (paths_of new.bindings) ps → (i : ℕ) → opened_part ps o i ≡ part_path (opening env term) i p

-- so of the path of a number
abbrev pub Opens : Environment → Numbered → Numbered → PatternTests → PatternTests → TermId → BindingId → Opened → Type 0
Opens env old new d e term source o = (p : Path) → slice_get (paths_of old.bindings) source.0 ≡ Some p → OpensAt env old new d e term p o
