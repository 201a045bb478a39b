-- What the typing table says of parts of a rule that were met so far.
use denote.Ref.{Bor}
use Rattle.std.specs.Prelude.{ℕ, List, length, Bool, false, ◌==◌, ◌&&◌, ◌||◌, not, Option, Some, None, fold, if◌then◌else◌}
use Rattle.isle_terms.specs.declared.judged.Judged.{Judged}
use Rattle.isle_sema.specs.declared.known.Called.{Called}
use Rattle.isle_types.specs.declared.row.Row.TheVariants as row
use Rattle.isle_types.specs.declared.row.Row.{Row}
use Rattle.isle_declarations.specs.Signatures.{Signature}
use Rattle.isle_sema.specs.TemplateRows.{is_unbound}
use Rattle.isle_sema.specs.Site.{Site}
use Rattle.isle_terms.specs.Whole.{Whole}
use Rattle.isle_sema.specs.RuleRows.{is_untaken, is_mistaken, is_misplaced, is_undeclared, is_met_otherwise, is_unknown, is_mistyped, is_call_of, has_mark, is_use_of}

-- a call of a term that may answer nothing
abbrev pub is_partial_call : Site → Bool
is_partial_call site = is_call_of (λ (s : Signature). s.partial) site

-- a call of a term that is not `pure`
abbrev pub is_impure_call : Site → Bool
is_impure_call site = is_call_of (λ (s : Signature). not s.pure) site

-- a call of a `multi` term
abbrev pub is_multi_call : Site → Bool
is_multi_call site = is_call_of (λ (s : Signature). s.multi) site

-- a term in a pattern with a mark
abbrev pub is_marked_use : Whole → List Bool → Site → Bool
is_marked_use w marks site = is_use_of (has_mark w marks) site

-- before any part, over these marks of terms
abbrev pub unjudged : Bor (List Bool) → Judged
unjudged multis = record { multis = multis; untaken = false; mistaken = false; misplaced = false; undeclared = false; met_otherwise = false; multi_taken = false; unknown = false; mistyped = false; partial = false; impure = false; multi = false; unbound = false }

-- one part more
abbrev pub judge : Whole → Judged → Site → Judged
judge w j site = record {
  multis = j.multis;
  untaken = is_untaken w site || j.untaken;
  mistaken = is_mistaken w site || j.mistaken;
  misplaced = is_misplaced w site || j.misplaced;
  undeclared = is_undeclared site || j.undeclared;
  met_otherwise = is_met_otherwise site || j.met_otherwise;
  multi_taken = is_marked_use w j.multis.now site || j.multi_taken;
  unknown = is_unknown w site || j.unknown;
  mistyped = is_mistyped w site || j.mistyped;
  partial = is_partial_call site || j.partial;
  impure = is_impure_call site || j.impure;
  multi = is_multi_call site || j.multi;
  unbound = is_unbound site || j.unbound;
}

-- these parts more
abbrev pub judge_all : Whole → Judged → List Site → Judged
judge_all w j sites = fold (judge w) j sites

-- the lowest row that an extractor with a template breaks: whether its term reaches itself and whether it misses a parameter is known, and its
-- parts are judged so
abbrev pub lowest_of_template : (reaches_itself misses : Bool) → Judged → Option Row
lowest_of_template reaches_itself misses j =
    if reaches_itself then Some row.ExtractorReachesItself
    else if j.unbound || (misses || j.met_otherwise) then Some row.TemplateMisfit
    else if j.untaken then Some row.PatternTermMisfit
    else if j.mistaken then Some row.PatternTypeMisfit
    else if j.misplaced then Some row.LiteralMisfit
    else if j.undeclared then Some row.ConstantUndeclared
    else None

-- the lowest row before that of its nodes that a rule of this term breaks, with so many patterns, which are judged so with its conditions,
-- and its right side so
abbrev pub lowest : Called → ℕ → Judged → Judged → Option Row
lowest own count left right =
    if not (count == length own.args.now) || (left.untaken || right.untaken) then Some row.PatternTermMisfit
    else if left.mistaken || right.mistaken then Some row.PatternTypeMisfit
    else if left.misplaced || right.misplaced then Some row.LiteralMisfit
    else if left.undeclared || right.undeclared then Some row.ConstantUndeclared
    else if left.met_otherwise || right.met_otherwise then Some row.VariableTypeMisfit
    else if not own.multi && left.multi_taken then Some row.MultiExtractor
    else if left.unknown || right.unknown then Some row.ExprNameMisfit
    else if left.mistyped || right.mistyped then Some row.ExprTypeMisfit
    else if left.impure then Some row.ImpureCondition
    else if not own.partial && right.partial then Some row.PartialCall
    else if own.pure && right.impure then Some row.ImpureCall
    else if not own.multi && (left.multi || right.multi) then Some row.MultiCall
    else None
