-- The environment of a sample.
use Rattle.std.specs.Prelude.{◌≡◌, ℕ, ◌+◌, ◌*◌, ◌<◌, ℤ, pos, negsuc, List, [], ◌∷◌, length, None, Some, false, slice_get}
use Rattle.isle_core.specs.declared.TypeId.{TypeId}
use Rattle.isle_core.specs.declared.position.Pos.{Pos}
use Rattle.isle_core.specs.declared.types.Term.{Term}
use Rattle.isle_core.specs.declared.types.TermKind.TheVariants as kind
use Rattle.isle_core.specs.declared.types.ConstructorKind.TheVariants as constructor
use Rattle.isle_core.specs.declared.types.ExtractorKind.TheVariants as extractor
use Rattle.isle_core.specs.Pattern.{Pattern}
use Rattle.isle_core.specs.Pattern as pattern
use Rattle.isle_core.specs.Expr as expr
use Rattle.isle_core.specs.Rule.{Rule, Environment}
use Rattle.isle_declarations.specs.Symbols.{sym_of}
use Rattle.isle_types.specs.Builtins.{builtins}
use Rattle.isle_sample.specs.Sample.{term_name}
use Rattle.isle_sample.proofs.SampleLines.{Line, Declares, Gives, Otherwise, line_text, lines, place}

-- the type u8
abbrev pub u8 : TypeId
u8 = record { 0 = 1 }

-- the term of a declaration
abbrev pub line_term : (syms : List (List ℕ)) → (i : ℕ) → Pos → Term
line_term syms i at = record {
  name = sym_of syms (term_name i);
  decl_pos = at;
  arg_tys = u8 ∷ u8 ∷ [];
  ret_ty = u8;
  kind = kind.Decl false false false false constructor.Internal extractor.Absent;
}

-- the terms of lines, the first line at this place
abbrev pub terms_at : (syms : List (List ℕ)) → (at : ℕ) → List Line → List Term
terms_at syms at [] = []
terms_at syms at (Declares i ∷ ls) = line_term syms i (place at) ∷ terms_at syms (at + length (line_text (Declares i))) ls
terms_at syms at (Gives i a b ∷ ls) = terms_at syms (at + length (line_text (Gives i a b))) ls
terms_at syms at (Otherwise i ∷ ls) = terms_at syms (at + length (line_text (Otherwise i))) ls

-- a rule of the term of this number without conditions, which gives a number
abbrev pub line_rule : (number i : ℕ) → List Pattern → (given : ℕ) → ℤ → Pos → Rule
line_rule number i args given prio at = record {
  id = record { 0 = number };
  root_term = record { 0 = i };
  args = args;
  iflets = [];
  rhs = expr.ConstInt u8 (pos given);
  prio = prio;
  pos = at;
  name = None;
}

-- the rules of lines, the first rule of this number, the first line at this place
abbrev pub rules_at : (number at : ℕ) → List Line → List Rule
rules_at number at [] = []
rules_at number at (Declares i ∷ ls) = rules_at number (at + length (line_text (Declares i))) ls
rules_at number at (Gives i a b ∷ ls) =
    line_rule number i (pattern.ConstInt u8 (pos a) ∷ pattern.ConstInt u8 (pos b) ∷ []) (4 * a + b) (pos 0) (place at) ∷ rules_at (number + 1) (at + length (line_text (Gives i a b))) ls
rules_at number at (Otherwise i ∷ ls) =
    line_rule number i (pattern.Wildcard u8 ∷ pattern.Wildcard u8 ∷ []) 255 (negsuc 0) (place at) ∷ rules_at (number + 1) (at + length (line_text (Otherwise i))) ls

-- the environment of the sample of so many terms: builtin types alone, each term's name a symbol, and the terms and rules of its lines
pub record IsSampleEnvironment (n : ℕ) (env : Environment) : Type 0 where
  pub types : env.types.types ≡ builtins
  pub consts : env.types.consts ≡ []
  pub named : (i : ℕ) → i < n → slice_get env.types.syms (sym_of env.types.syms (term_name i)).0 ≡ Some (term_name i)
  pub terms : env.terms ≡ terms_at env.types.syms 0 (lines n)
  pub rules : env.rules ≡ rules_at 0 0 (lines n)
  pub converters : env.converters ≡ []
