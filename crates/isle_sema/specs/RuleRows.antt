-- The rows of rules and of templates, one definition each, over the parts of a rule or of a template where they stand.
use Rattle.std.specs.Prelude.{ℕ, List, [], length, map, Bool, true, false, ◌==◌, ◌&&◌, ◌||◌, not, Option, Some, None, is_some, nat_le}
use Rattle.std.specs.List.{list_any}
use Rattle.isle_core.specs.declared.TermId.{TermId}
use Rattle.isle_core.specs.declared.TypeId.{TypeId}
use Rattle.isle_core.specs.Rule.{Rule as CoreRule}
use Rattle.isle_ast.specs.Tree.{Def, TypeDecl, Decl, ExternConstructor, ExternExtractor, ExternConst, Extractor, Converter, Rule, Passed}
use Rattle.isle_declarations.specs.Signatures.{Signature, Extracting, ByFunction, ByTemplate, ExtractorDef, RuleDef, rule_of, term_named}
use Rattle.isle_declarations.specs.Terms.{terms}
use Rattle.isle_terms.specs.TypeNames.{type_named}
use Rattle.isle_terms.specs.Expected.{takes_integers, takes_truths}
use Rattle.isle_terms.specs.Whole.{Whole, termed, has_constructor, has_extractor}
use Rattle.isle_sema.specs.Site.{Site, IntegerAt, TruthAt, PartAt, MetAt, UsedAt, CalledAt, TakenAt, ConstantAt, BoundAt}
use Rattle.isle_sema.specs.RulePass.{right_side_of, left_of, sites_of, written_pass}
use Rattle.isle_sema.specs.Templates.{template_pass, templates}
use Rattle.isle_templates.specs.Multi.{marked, is_multi}
use Rattle.isle_templates.specs.Elaborated.{rule_expanded}
use Rattle.isle_templates.specs.NodeCount.{rule_nodes}
use Rattle.isle_templates.specs.Substituted.{whole_templates}
use Rattle.isle_types.specs.TypeRows.{on}
use Rattle.isle_terms.specs.Context.{Context}

-- the parts of a term's template, if its extractor has one
abbrev pub template_sites : Whole → (term : List ℕ) → Extracting → List Site
template_sites w term (ByFunction func infallible) = []
template_sites w term (ByTemplate t) = (template_pass w term t).sites

-- so of an extractor
abbrev pub extractor_sites : Whole → ExtractorDef → List Site
extractor_sites w x = template_sites w x.term x.by

-- the parts of a definition: those of a rule, or of a template
abbrev pub sites_in : Whole → Def → List Site
sites_in w (Rule name prio term args iflets rhs pos) = sites_of w (record { name = name; prio = prio; term = term; args = args; iflets = iflets; rhs = rhs; pos = pos })
sites_in w (Extractor term params template pos) = (template_pass w term (record { params = params; pattern = template })).sites
sites_in w (TypeDecl name is_extern is_nodebug body pos) = []
sites_in w (Decl term pure multi partial recursive args ret pos) = []
sites_in w (ExternConstructor term func pos) = []
sites_in w (ExternExtractor term func infallible pos) = []
sites_in w (ExternConst name ty pos) = []
sites_in w (Converter from to term pos) = []
sites_in w (Passed head pos) = []

-- two types, both known, that differ
abbrev pub differ : Option TypeId → Option TypeId → Bool
differ None expected = false
differ (Some ty) None = false
differ (Some ty) (Some expected) = not (ty.0 == expected.0)

-- a term in a pattern that is not there, has another number of arguments, or has no extractor
abbrev pub is_taken_misfit : Whole → Option Signature → ℕ → Bool
is_taken_misfit w None count = true
is_taken_misfit w (Some s) count = not (count == length s.args) || not (has_extractor w s)

-- a part is one
abbrev pub is_untaken : Whole → Site → Bool
is_untaken w (IntegerAt expected) = false
is_untaken w (TruthAt expected) = false
is_untaken w PartAt = false
is_untaken w (MetAt expected bound) = false
is_untaken w (UsedAt expected bound) = false
is_untaken w (CalledAt expected callee count) = false
is_untaken w (TakenAt expected callee count) = is_taken_misfit w callee count
is_untaken w (ConstantAt in_pattern expected found) = false
is_untaken w (BoundAt ty) = false

-- one stands in a rule or a template, or a rule's head has another number of arguments than its term
abbrev pub pattern_term_misfit : Context → Def → Bool
pattern_term_misfit c d = on (rule_of d) (λ (r : RuleDef). on (termed c.whole r.term) (λ (s : Signature). not (length r.args == length s.args))) || list_any (is_untaken c.whole) (sites_in c.whole d)

-- a term or a constant in a pattern that has another type than the one expected
abbrev pub is_mistaken : Whole → Site → Bool
is_mistaken w (IntegerAt expected) = false
is_mistaken w (TruthAt expected) = false
is_mistaken w PartAt = false
is_mistaken w (MetAt expected bound) = false
is_mistaken w (UsedAt expected bound) = false
is_mistaken w (CalledAt expected callee count) = false
is_mistaken w (TakenAt expected callee count) = on callee (λ (s : Signature). differ (type_named w.defs s.ret) expected)
is_mistaken w (ConstantAt in_pattern expected found) = in_pattern && differ found expected
is_mistaken w (BoundAt ty) = false

-- one stands in a rule or a template
abbrev pub pattern_type_misfit : Context → Def → Bool
pattern_type_misfit c d = list_any (is_mistaken c.whole) (sites_in c.whole d)

-- an integer where no type of integers is expected, or `true` or `false` if another type than bool is
abbrev pub is_misplaced : Whole → Site → Bool
is_misplaced w (IntegerAt expected) = not (takes_integers w.types expected)
is_misplaced w (TruthAt expected) = not (takes_truths w.types expected)
is_misplaced w PartAt = false
is_misplaced w (MetAt expected bound) = false
is_misplaced w (UsedAt expected bound) = false
is_misplaced w (CalledAt expected callee count) = false
is_misplaced w (TakenAt expected callee count) = false
is_misplaced w (ConstantAt in_pattern expected found) = false
is_misplaced w (BoundAt ty) = false

-- one stands so in a rule or a template
abbrev pub literal_misfit : Context → Def → Bool
literal_misfit c d = list_any (is_misplaced c.whole) (sites_in c.whole d)

-- a constant that is not declared
abbrev pub is_undeclared : Site → Bool
is_undeclared (IntegerAt expected) = false
is_undeclared (TruthAt expected) = false
is_undeclared PartAt = false
is_undeclared (MetAt expected bound) = false
is_undeclared (UsedAt expected bound) = false
is_undeclared (CalledAt expected callee count) = false
is_undeclared (TakenAt expected callee count) = false
is_undeclared (ConstantAt in_pattern expected found) = not (is_some found)
is_undeclared (BoundAt ty) = false

-- one stands in a rule or a template
abbrev pub constant_undeclared : Context → Def → Bool
constant_undeclared c d = list_any is_undeclared (sites_in c.whole d)

-- a type that differs from the one that is expected, if there is one
abbrev pub is_other_type : Option (Option TypeId) → Option TypeId → Bool
is_other_type None expected = false
is_other_type (Some ty) expected = differ ty expected

-- a variable of a pattern that was bound at another type
abbrev pub is_met_otherwise : Site → Bool
is_met_otherwise (IntegerAt expected) = false
is_met_otherwise (TruthAt expected) = false
is_met_otherwise PartAt = false
is_met_otherwise (MetAt expected bound) = is_other_type bound expected
is_met_otherwise (UsedAt expected bound) = false
is_met_otherwise (CalledAt expected callee count) = false
is_met_otherwise (TakenAt expected callee count) = false
is_met_otherwise (ConstantAt in_pattern expected found) = false
is_met_otherwise (BoundAt ty) = false

-- a variable that is met again in a rule or a template has another type
abbrev pub variable_type_misfit : Context → Def → Bool
variable_type_misfit c d = list_any is_met_otherwise (sites_in c.whole d)

-- for each term whether its declaration says `multi`
abbrev pub declared_multis : Whole → List Bool
declared_multis w = map (λ (s : Signature). s.multi) (terms w.defs)

-- the term of a signature is `multi` where a pattern uses it, by the marks of terms
abbrev pub has_mark : Whole → List Bool → Signature → Bool
has_mark w marks s = on (term_named (terms w.defs) s.term) (λ (n : TermId). marked marks n.0)

-- it is, with templates replaced
abbrev pub is_multi_used : Whole → Signature → Bool
is_multi_used w s = on (term_named (terms w.defs) s.term) (λ (n : TermId). is_multi (templates w) (declared_multis w) n.0)

-- a term in a pattern of which this holds
abbrev pub is_use_of : (Signature → Bool) → Site → Bool
is_use_of test (IntegerAt expected) = false
is_use_of test (TruthAt expected) = false
is_use_of test PartAt = false
is_use_of test (MetAt expected bound) = false
is_use_of test (UsedAt expected bound) = false
is_use_of test (CalledAt expected callee count) = false
is_use_of test (TakenAt expected callee count) = on callee test
is_use_of test (ConstantAt in_pattern expected found) = false
is_use_of test (BoundAt ty) = false

-- a pattern of a rule or of one of its conditions uses a `multi` term, by itself or through templates, in a rule of a term without `multi`
abbrev pub multi_use : Context → Def → Bool
multi_use c d = on (rule_of d) (λ (r : RuleDef). on (termed c.whole r.term) (λ (s : Signature). not s.multi && list_any (is_use_of (is_multi_used c.whole)) (left_of c.whole r)))

-- a call of a term that is not there, has another number of arguments, or has no constructor
abbrev pub is_call_misfit : Whole → Option Signature → ℕ → Bool
is_call_misfit w None count = true
is_call_misfit w (Some s) count = not (count == length s.args) || not (has_constructor w s)

-- an expression's variable that is not bound, or such a call
abbrev pub is_unknown : Whole → Site → Bool
is_unknown w (IntegerAt expected) = false
is_unknown w (TruthAt expected) = false
is_unknown w PartAt = false
is_unknown w (MetAt expected bound) = false
is_unknown w (UsedAt expected bound) = not (is_some bound)
is_unknown w (CalledAt expected callee count) = is_call_misfit w callee count
is_unknown w (TakenAt expected callee count) = false
is_unknown w (ConstantAt in_pattern expected found) = false
is_unknown w (BoundAt ty) = false

-- one stands in a rule
abbrev pub expr_name_misfit : Context → Def → Bool
expr_name_misfit c d = on (rule_of d) (λ (r : RuleDef). list_any (is_unknown c.whole) (sites_of c.whole r))

-- an expression's variable, constant or call that has another type than the one expected, or a variable of a `let` whose type is not
-- declared
abbrev pub is_mistyped : Whole → Site → Bool
is_mistyped w (IntegerAt expected) = false
is_mistyped w (TruthAt expected) = false
is_mistyped w PartAt = false
is_mistyped w (MetAt expected bound) = false
is_mistyped w (UsedAt expected bound) = is_other_type bound expected
is_mistyped w (CalledAt expected callee count) = on callee (λ (s : Signature). differ (type_named w.defs s.ret) expected)
is_mistyped w (TakenAt expected callee count) = false
is_mistyped w (ConstantAt in_pattern expected found) = not in_pattern && differ found expected
is_mistyped w (BoundAt ty) = not (is_some ty)

-- one stands in a rule
abbrev pub expr_type_misfit : Context → Def → Bool
expr_type_misfit c d = on (rule_of d) (λ (r : RuleDef). list_any (is_mistyped c.whole) (sites_of c.whole r))

-- a call of a term of which this holds
abbrev pub is_call_of : (Signature → Bool) → Site → Bool
is_call_of test (IntegerAt expected) = false
is_call_of test (TruthAt expected) = false
is_call_of test PartAt = false
is_call_of test (MetAt expected bound) = false
is_call_of test (UsedAt expected bound) = false
is_call_of test (CalledAt expected callee count) = on callee test
is_call_of test (TakenAt expected callee count) = false
is_call_of test (ConstantAt in_pattern expected found) = false
is_call_of test (BoundAt ty) = false

-- a condition calls a term that is not `pure`: before the right side calls stand in conditions alone
abbrev pub impure_condition : Context → Def → Bool
impure_condition c d = on (rule_of d) (λ (r : RuleDef). list_any (is_call_of (λ (t : Signature). not t.pure)) (left_of c.whole r))

-- a right side calls a partial term in a term that is not `partial`
abbrev pub partial_call : Context → Def → Bool
partial_call c d = on (rule_of d) (λ (r : RuleDef). on (termed c.whole r.term) (λ (s : Signature). not s.partial && list_any (is_call_of (λ (t : Signature). t.partial)) (right_side_of c.whole r).sites))

-- a right side calls a term that is not `pure` in a `pure` term
abbrev pub impure_call : Context → Def → Bool
impure_call c d = on (rule_of d) (λ (r : RuleDef). on (termed c.whole r.term) (λ (s : Signature). s.pure && list_any (is_call_of (λ (t : Signature). not t.pure)) (right_side_of c.whole r).sites))

-- an expression calls a `multi` term in a rule of a term without `multi`
abbrev pub multi_call : Context → Def → Bool
multi_call c d = on (rule_of d) (λ (r : RuleDef). on (termed c.whole r.term) (λ (s : Signature). not s.multi && list_any (is_call_of (λ (t : Signature). t.multi)) (sites_of c.whole r)))

-- a rule has more than 4,096 nodes when its templates are replaced
abbrev pub is_large : Whole → RuleDef → Bool
is_large w r = on (written_pass w 0 r) (λ (x : CoreRule). not (nat_le (rule_nodes (rule_expanded (whole_templates (templates w)) x)) 4096))

-- a definition is such a rule
abbrev pub many_nodes : Context → Def → Bool
many_nodes c d = on (rule_of d) (is_large c.whole)
