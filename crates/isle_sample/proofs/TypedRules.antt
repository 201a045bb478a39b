-- The rules of lines with types in them.
use Rattle.std.proofs.Common.{◌≡◌, ℕ, ◌+◌, ◌*◌, ◌%◌, ◌<◌, ℤ, pos, negsuc, List, [], ◌∷◌, length, Option, Some, None, refl, ap, ap₂, ◌∙◌, arith}
use Rattle.std.specs.Prelude.{option_map, option_and_then, slice_get}
use Rattle.isle_core.specs.declared.TermId.{TermId}
use Rattle.isle_core.specs.declared.TypeId.{TypeId}
use Rattle.isle_core.specs.declared.position.Pos.{Pos}
use Rattle.isle_core.specs.declared.types.IntType.TheVariants.{U8}
use Rattle.isle_core.specs.declared.types.TypeDef.{TypeDef}
use Rattle.isle_core.specs.declared.types.TypeEnv.{TypeEnv}
use Rattle.isle_core.specs.Int.{wrapped}
use Rattle.isle_core.specs.Pattern as core_pattern
use Rattle.isle_core.specs.Pattern.{Pattern as CorePattern}
use Rattle.isle_core.specs.Expr as core_expr
use Rattle.isle_core.specs.Expr.{Expr as CoreExpr}
use Rattle.isle_ast.specs.Tree as tree
use Rattle.isle_ast.specs.Tree.{Pattern, NoPattern, APattern}
use Rattle.isle_declarations.specs.Signatures.{RuleDef, rule_defs}
use Rattle.isle_templates.specs.Elaborated.{elaborated}
use Rattle.isle_types.specs.Builtins.{builtins}
use Rattle.isle_terms.specs.Reduced.{integer_by, typed_integer}
use Rattle.isle_terms.specs.Scope.{no_variables}
use Rattle.isle_terms.specs.TermPass.{tree_before}
use Rattle.isle_terms.specs.Whole.{Whole}
use Rattle.isle_terms.proofs.MadeTerms.{before_both}
use Rattle.isle_sema.specs.PatternPass.{patterns_pass}
use Rattle.isle_sema.specs.RulePass.{patterns_of, right_side_of, written_from, written_pass, rule_pass, rules_pass}
use Rattle.isle_sema.specs.Templates.{templates}
use Rattle.isle_sample.specs.Sample.{term_name}
use Rattle.isle_sample.proofs.SampleLines.{Line, Declares, Gives, Otherwise, line_text, place, defs_at}
use Rattle.isle_sample.proofs.SampleEnvironment.{u8, line_rule, rules_at}
use Rattle.isle_sample.proofs.TypedLines.{AreTyped}
use Rattle.isle_sample.proofs.TypedWhole.{IsTypedWhole, takes_bytes, gives_byte, is_numbered}

-- ---- numbers

byte_wraps : (k : ℕ) → k < 256 → wrapped U8 (pos k) ≡ pos k
unfolding wrapped
byte_wraps k lt = ap pos (let same : k % 256 ≡ k = omega (arith, lt) in same)

-- a number below 256 is a byte
pub byte_typed : (types : TypeEnv) (k : ℕ) → types.types ≡ builtins → k < 256 → typed_integer types (Some u8) (pos k) ≡ Some (u8, pos k)
byte_typed types k is lt =
    ap (λ (ts : List TypeDef). option_map (λ (z : ℤ). (u8, z)) (integer_by (slice_get ts 1) (pos k))) is
    ∙ ap (λ (z : ℤ). Some (u8, z)) (byte_wraps k lt)

-- ---- rules as they are written

-- a rule of a term on these patterns
abbrev pub rule_on : (i : ℕ) → List Pattern → (given : ℕ) → ℤ → Pos → RuleDef
rule_on i args given prio at = record { name = None; prio = prio; term = term_name i; args = args; iflets = []; rhs = tree.Number (pos given); pos = at }

-- for two numbers
abbrev pub gives_rule : (i a b : ℕ) → Pos → RuleDef
gives_rule i a b at = rule_on i (tree.Int (pos a) ∷ tree.Int (pos b) ∷ []) (4 * a + b) (pos 0) at

-- for all others
abbrev pub otherwise_rule : ℕ → Pos → RuleDef
otherwise_rule i at = rule_on i (tree.Wildcard ∷ tree.Wildcard ∷ []) 255 (negsuc 0) at

-- the patterns of two numbers
numbers_made : (n : ℕ) (w : Whole) (i a b : ℕ) (at : Pos) → IsTypedWhole n w → i < n → a < 256 → b < 256 → (patterns_of w (gives_rule i a b at)).trees ≡ Some (core_pattern.ConstInt u8 (pos a) ∷ core_pattern.ConstInt u8 (pos b) ∷ [])
numbers_made n w i a b at h lt small few =
    ap (λ (es : List (Option TypeId)). (patterns_pass w es no_variables (APattern (tree.Int (pos a)) (APattern (tree.Int (pos b)) NoPattern))).trees) (takes_bytes n w i h lt)
    ∙ ap₂ (λ (x y : Option (TypeId × ℤ)). tree_before (option_map (λ (v : TypeId × ℤ). core_pattern.ConstInt v.0 v.1) x) (tree_before (option_map (λ (v : TypeId × ℤ). core_pattern.ConstInt v.0 v.1) y) (Some [])))
    (byte_typed w.types a h.kinds small) (byte_typed w.types b h.kinds few)

-- two wildcards
wildcards_made : (n : ℕ) (w : Whole) (i : ℕ) (at : Pos) → IsTypedWhole n w → i < n → (patterns_of w (otherwise_rule i at)).trees ≡ Some (core_pattern.Wildcard u8 ∷ core_pattern.Wildcard u8 ∷ [])
wildcards_made n w i at h lt = ap (λ (es : List (Option TypeId)). (patterns_pass w es no_variables (APattern tree.Wildcard (APattern tree.Wildcard NoPattern))).trees) (takes_bytes n w i h lt)

-- the number that a rule gives
given_made : (n : ℕ) (w : Whole) (i : ℕ) (args : List Pattern) (given : ℕ) (prio : ℤ) (at : Pos) → IsTypedWhole n w → i < n → given < 256 → (right_side_of w (rule_on i args given prio at)).tree ≡ Some (core_expr.ConstInt u8 (pos given))
given_made n w i args given prio at h lt small =
    ap (λ (o : Option TypeId). option_map (λ (v : TypeId × ℤ). core_expr.ConstInt v.0 v.1) (typed_integer w.types o (pos given))) (gives_byte n w i h lt)
    ∙ ap (option_map (λ (v : TypeId × ℤ). core_expr.ConstInt v.0 v.1)) (byte_typed w.types given h.kinds small)

-- a rule of these trees
written_of : (n : ℕ) (w : Whole) (k i : ℕ) (args : List Pattern) (given : ℕ) (prio : ℤ) (at : Pos) (trees : List CorePattern) → IsTypedWhole n w → i < n → given < 256
    → (patterns_of w (rule_on i args given prio at)).trees ≡ Some trees → written_pass w k (rule_on i args given prio at) ≡ Some (line_rule k i trees given prio at)
written_of n w k i args given prio at trees h lt small made =
    let r = rule_on i args given prio at in
    ap (option_and_then (λ (term : TermId). written_from w k r term (patterns_of w r).trees (Some []) (right_side_of w r).tree)) (is_numbered n w i h lt)
    ∙ ap₂ (λ (ps : Option (List CorePattern)) (e : Option CoreExpr). written_from w k r (record { 0 = i }) ps (Some []) e) made (given_made n w i args given prio at h lt small)

-- the rule for two numbers as it is written
pub gives_written : (n : ℕ) (w : Whole) (k i a b : ℕ) (at : Pos) → IsTypedWhole n w → i < n → a < 4 → b < 4
    → written_pass w k (gives_rule i a b at) ≡ Some (line_rule k i (core_pattern.ConstInt u8 (pos a) ∷ core_pattern.ConstInt u8 (pos b) ∷ []) (4 * a + b) (pos 0) at)
gives_written n w k i a b at h lt small few =
    written_of n w k i (tree.Int (pos a) ∷ tree.Int (pos b) ∷ []) (4 * a + b) (pos 0) at (core_pattern.ConstInt u8 (pos a) ∷ core_pattern.ConstInt u8 (pos b) ∷ []) h lt (omega (arith, small, few))
    (numbers_made n w i a b at h lt (omega (arith, small)) (omega (arith, few)))

-- the rule for all others
pub otherwise_written : (n : ℕ) (w : Whole) (k i : ℕ) (at : Pos) → IsTypedWhole n w → i < n → written_pass w k (otherwise_rule i at) ≡ Some (line_rule k i (core_pattern.Wildcard u8 ∷ core_pattern.Wildcard u8 ∷ []) 255 (negsuc 0) at)
otherwise_written n w k i at h lt =
    written_of n w k i (tree.Wildcard ∷ tree.Wildcard ∷ []) 255 (negsuc 0) at (core_pattern.Wildcard u8 ∷ core_pattern.Wildcard u8 ∷ []) h lt (omega arith) (wildcards_made n w i at h lt)

-- ---- all rules

-- the rules of lines are those of the environment
pub rules_made : (n next : ℕ) (w : Whole) (k at : ℕ) (ls : List Line) → IsTypedWhole n w → AreTyped n next ls → rules_pass w k (rule_defs (defs_at at ls)) ≡ Some (rules_at k at ls)
rules_made n next w k at [] h t = refl
rules_made n next w k at (Declares i ∷ ls) h t = rules_made n (next + 1) w k (at + length (line_text (Declares i))) ls h t.2
rules_made n next w k at (Gives i a b ∷ ls) h t =
    let r = gives_rule i a b (place at) in
    let rest = at + length (line_text (Gives i a b)) in
    let x = line_rule k i (core_pattern.ConstInt u8 (pos a) ∷ core_pattern.ConstInt u8 (pos b) ∷ []) (4 * a + b) (pos 0) (place at) in
    before_both (rule_pass w k r) (rules_pass w (k + 1) (rule_defs (defs_at rest ls))) x (rules_at (k + 1) rest ls)
    (ap (option_map (elaborated (templates w))) (gives_written n w k i a b (place at) h t.0 t.1 t.2))
    (rules_made n next w (k + 1) rest ls h t.3)
rules_made n next w k at (Otherwise i ∷ ls) h t =
    let r = otherwise_rule i (place at) in
    let rest = at + length (line_text (Otherwise i)) in
    let x = line_rule k i (core_pattern.Wildcard u8 ∷ core_pattern.Wildcard u8 ∷ []) 255 (negsuc 0) (place at) in
    before_both (rule_pass w k r) (rules_pass w (k + 1) (rule_defs (defs_at rest ls))) x (rules_at (k + 1) rest ls)
    (ap (option_map (elaborated (templates w))) (otherwise_written n w k i (place at) h t.0))
    (rules_made n next w (k + 1) rest ls h t.1)
