-- The definitions of a sample break no row.
use Rattle.std.proofs.Common.{◌≡◌, ℕ, ◌+◌, ◌<◌, ◌≤◌, Bool, true, false, cond, pos, List, [], ◌∷◌, ◌++◌, length, Option, Some, None, refl, ap, ◌∙◌, arith}
use Rattle.std.specs.Prelude.{◌==◌, ◌&&◌, ◌||◌, not, is_some, nat_le, slice_get}
use Rattle.std.specs.Option.{option_map_or}
use Rattle.std.specs.List.{list_any, cons_option}
use Rattle.std.proofs.lemmas.List.{append-nil}
use Rattle.isle_core.specs.declared.TypeId.{TypeId}
use Rattle.isle_core.specs.declared.position.Pos.{Pos}
use Rattle.isle_core.specs.declared.types.TypeDef.{TypeDef}
use Rattle.isle_core.specs.Rule.{Rule as CoreRule}
use Rattle.isle_ast.specs.Tree as tree
use Rattle.isle_ast.specs.Tree.{Def, NoPattern, APattern}
use Rattle.isle_declarations.specs.Heads.{terms_of}
use Rattle.isle_declarations.specs.Signatures.{Signature, Extern, signature_of, signatures, externs, func_named}
use Rattle.isle_declarations.specs.DeclaredTypes.{made_terms}
use Rattle.isle_declarations.specs.Symbols.{index_of}
use Rattle.isle_declarations.proofs.SymbolLaws.{index_of_more}
use Rattle.isle_types.specs.declared.row.Row.{Row}
use Rattle.isle_types.specs.declared.row.Row.TheVariants as row
use Rattle.isle_types.specs.TypeRows.{on}
use Rattle.isle_types.proofs.BeforeLaws.{grown}
use Rattle.isle_templates.specs.Elaborated.{rule_expanded}
use Rattle.isle_templates.specs.NodeCount.{rule_nodes}
use Rattle.isle_templates.specs.Substituted.{whole_templates}
use Rattle.isle_terms.specs.Context.{Context}
use Rattle.isle_terms.specs.Expected.{is_integer_def, takes_integers}
use Rattle.isle_terms.specs.TypeNames.{type_named}
use Rattle.isle_terms.specs.Whole.{Whole, declared, termed}
use Rattle.isle_sema.specs.Fault.{OfTypes, OfTerms, OfExtractors, OfRules, broken_in, fault_after}
use Rattle.isle_terms.specs.Scope.{no_variables}
use Rattle.isle_sema.specs.PatternPass.{patterns_pass}
use Rattle.isle_sema.specs.RulePass.{left_of, right_side_of, written_pass}
use Rattle.isle_sema.specs.RuleRows.{is_untaken, is_mistaken, is_misplaced, is_undeclared, is_met_otherwise, is_multi_used, is_use_of, is_unknown, is_mistyped, is_call_of, is_large}
use Rattle.isle_sema.specs.Site.{Site, IntegerAt, PartAt}
use Rattle.isle_sema.specs.Templates.{templates}
use Rattle.isle_sema.proofs.Firsts.{none_later}
use Rattle.isle_sample.specs.Sample.{term_name}
use Rattle.isle_sample.proofs.SampleLines.{Line, Declares, Gives, Otherwise, line_text, line_def, place, defs_at, u8_name}
use Rattle.isle_sample.proofs.SampleEnvironment.{u8}
use Rattle.isle_sample.proofs.TypedNames.{names_apart}
use Rattle.isle_sample.proofs.TypedLines.{AreTyped}
use Rattle.isle_sample.proofs.TypedWhole.{IsTypedWhole, is_declared, takes_bytes, gives_byte}
use Rattle.isle_sample.proofs.TypedRules.{gives_rule, otherwise_rule, gives_written, otherwise_written}

-- ---- types and extractors

-- no line declares a type or a constant
pub types_sound : (w : Whole) (before : List Def) (at : ℕ) (ls : List Line) → fault_after OfTypes w before (defs_at at ls) ≡ None
types_sound w before at [] = refl
types_sound w before at (Declares i ∷ ls) = types_sound w (before ++ line_def (Declares i) (place at) ∷ []) (at + length (line_text (Declares i))) ls
types_sound w before at (Gives i a b ∷ ls) = types_sound w (before ++ line_def (Gives i a b) (place at) ∷ []) (at + length (line_text (Gives i a b))) ls
types_sound w before at (Otherwise i ∷ ls) = types_sound w (before ++ line_def (Otherwise i) (place at) ∷ []) (at + length (line_text (Otherwise i))) ls

-- none is an extractor
pub extractors_sound : (w : Whole) (before : List Def) (at : ℕ) (ls : List Line) → fault_after OfExtractors w before (defs_at at ls) ≡ None
extractors_sound w before at [] = refl
extractors_sound w before at (Declares i ∷ ls) = extractors_sound w (before ++ line_def (Declares i) (place at) ∷ []) (at + length (line_text (Declares i))) ls
extractors_sound w before at (Gives i a b ∷ ls) = extractors_sound w (before ++ line_def (Gives i a b) (place at) ∷ []) (at + length (line_text (Gives i a b))) ls
extractors_sound w before at (Otherwise i ∷ ls) = extractors_sound w (before ++ line_def (Otherwise i) (place at) ∷ []) (at + length (line_text (Otherwise i))) ls

-- ---- declarations and heads

-- the context of a definition
abbrev within : Whole → List Def → Context
within w before = record { whole = w; before = before }

-- a declaration breaks no row if its name is not declared before
declaration_sound : (n : ℕ) (w : Whole) (before : List Def) (i : ℕ) (at : Pos) → IsTypedWhole n w → index_of (terms_of (signatures before)) (term_name i) ≡ None → broken_in OfTerms (within w before) (line_def (Declares i) at) ≡ None
declaration_sound n w before i at h new =
    let repeats = is_some (index_of (terms_of (signatures before)) (term_name i)) || is_some (index_of (made_terms w.defs) (term_name i)) in
    let missing = not (is_some (type_named w.defs u8_name) && (is_some (type_named w.defs u8_name) && (is_some (type_named w.defs u8_name) && true))) in
    let once : repeats ≡ false = ap (λ o. is_some o || is_some (index_of (made_terms w.defs) (term_name i))) new ∙ ap (λ names. is_some (index_of names (term_name i))) h.unmade in
    let known : missing ≡ false = ap (λ (o : Option TypeId). not (is_some o && (is_some o && (is_some o && true)))) h.known in
    ap (λ b. cond b (Some row.DeclarationRepeats) (cond missing (Some row.TypeMissing) None)) once ∙ ap (λ b. cond b (Some row.TypeMissing) None) known

-- a rule's head is declared, and its term has no external constructor
head_sound : (n : ℕ) (w : Whole) (i : ℕ) → IsTypedWhole n w → i < n → (not (is_some (declared w (term_name i))) || is_some (func_named (externs w.defs) (term_name i))) ≡ false
head_sound n w i h lt =
    ap (λ (o : Option Signature). not (is_some o) || is_some (func_named (externs w.defs) (term_name i))) (is_declared n w i h lt).1
    ∙ ap (λ (xs : List Extern). is_some (func_named xs (term_name i))) h.own

-- a name that is not declared is not declared after another one is
still_new : (before : List Def) (i j : ℕ) (at : Pos) → i < j → index_of (terms_of (signatures before)) (term_name i) ≡ None → index_of (terms_of (signatures before)) (term_name j) ≡ None
    → index_of (terms_of (signatures (before ++ line_def (Declares i) at ∷ []))) (term_name j) ≡ None
still_new before i j at lt own new =
    let names = terms_of (signatures before) in
    ap (λ ns. index_of ns (term_name j)) (grown signature_of (λ (s : Signature). s.term) before (line_def (Declares i) at))
    ∙ index_of_more names (term_name i) (term_name j) own
    ∙ ap (λ b. cond b (Some (length names)) (index_of names (term_name j))) (names_apart i j (λ e. absurd (omega (arith, e, lt))))
    ∙ new

-- rules declare nothing
still_none : (before : List Def) (d : Def) (name : List ℕ) → signature_of d ≡ None → index_of (terms_of (signatures before)) name ≡ None → index_of (terms_of (signatures (before ++ d ∷ []))) name ≡ None
still_none before d name other new =
    ap (λ ns. index_of ns name) (grown signature_of (λ (s : Signature). s.term) before d ∙ ap (λ (o : Option Signature). terms_of (signatures before) ++ terms_of (cons_option o [])) other ∙ append-nil (terms_of (signatures before)))
    ∙ new

-- declarations and heads break no row after definitions that declare none of the terms
pub terms_sound : (n next : ℕ) (w : Whole) (before : List Def) (at : ℕ) (ls : List Line) → IsTypedWhole n w → AreTyped n next ls → ((j : ℕ) → next ≤ j → index_of (terms_of (signatures before)) (term_name j) ≡ None)
    → fault_after OfTerms w before (defs_at at ls) ≡ None
terms_sound n next w before at [] h t new = refl
terms_sound n next w before at (Declares i ∷ ls) h t new =
    let own : i ≡ next = t.0 in
    let d = line_def (Declares i) (place at) in
    let rest = at + length (line_text (Declares i)) in
    let here : index_of (terms_of (signatures before)) (term_name i) ≡ None = new i (omega (arith, own)) in
    none_later (λ (r : Row). (r, place at)) (broken_in OfTerms (within w before) d) (fault_after OfTerms w (before ++ d ∷ []) (defs_at rest ls)) (declaration_sound n w before i (place at) h here)
    (terms_sound n (next + 1) w (before ++ d ∷ []) rest ls h t.2 (λ j le. still_new before i j (place at) (omega (arith, le, own)) here (new j (omega (arith, le)))))
terms_sound n next w before at (Gives i a b ∷ ls) h t new =
    let d = line_def (Gives i a b) (place at) in
    let rest = at + length (line_text (Gives i a b)) in
    none_later (λ (r : Row). (r, place at)) (broken_in OfTerms (within w before) d) (fault_after OfTerms w (before ++ d ∷ []) (defs_at rest ls)) (ap (λ b. cond b (Some row.HeadMisfit) None) (head_sound n w i h t.0))
    (terms_sound n next w (before ++ d ∷ []) rest ls h t.3 (λ j le. still_none before d (term_name j) refl (new j le)))
terms_sound n next w before at (Otherwise i ∷ ls) h t new =
    let d = line_def (Otherwise i) (place at) in
    let rest = at + length (line_text (Otherwise i)) in
    none_later (λ (r : Row). (r, place at)) (broken_in OfTerms (within w before) d) (fault_after OfTerms w (before ++ d ∷ []) (defs_at rest ls)) (ap (λ b. cond b (Some row.HeadMisfit) None) (head_sound n w i h t.0))
    (terms_sound n next w (before ++ d ∷ []) rest ls h t.1 (λ j le. still_none before d (term_name j) refl (new j le)))

-- ---- rules

-- the row that a rule breaks, by its term, its count of patterns, what is judged on each side, and whether it is large
abbrev row_by : Whole → Option Signature → (count : ℕ) → (left right : List Site) → (is_large : Bool) → Option Row
row_by w o count left right is_large =
    cond (on o (λ (s : Signature). not (count == length s.args)) || list_any (is_untaken w) (left ++ right)) (Some row.PatternTermMisfit)
    (cond (list_any (is_mistaken w) (left ++ right)) (Some row.PatternTypeMisfit)
    (cond (list_any (is_misplaced w) (left ++ right)) (Some row.LiteralMisfit)
    (cond (list_any is_undeclared (left ++ right)) (Some row.ConstantUndeclared)
    (cond (list_any is_met_otherwise (left ++ right)) (Some row.VariableTypeMisfit)
    (cond (on o (λ (s : Signature). not s.multi && list_any (is_use_of (is_multi_used w)) left)) (Some row.MultiExtractor)
    (cond (list_any (is_unknown w) (left ++ right)) (Some row.ExprNameMisfit)
    (cond (list_any (is_mistyped w) (left ++ right)) (Some row.ExprTypeMisfit)
    (cond (list_any (is_call_of (λ (t : Signature). not t.pure)) left) (Some row.ImpureCondition)
    (cond (on o (λ (s : Signature). not s.partial && list_any (is_call_of (λ (t : Signature). t.partial)) right)) (Some row.PartialCall)
    (cond (on o (λ (s : Signature). s.pure && list_any (is_call_of (λ (t : Signature). not t.pure)) right)) (Some row.ImpureCall)
    (cond (on o (λ (s : Signature). not s.multi && list_any (is_call_of (λ (t : Signature). t.multi)) (left ++ right))) (Some row.MultiCall)
    (cond is_large (Some row.ManyNodes) None))))))))))))

-- an integer may stand where a byte is expected
takes_byte : (n : ℕ) (w : Whole) → IsTypedWhole n w → takes_integers w.types (Some u8) ≡ true
takes_byte n w h = ap (λ (ts : List TypeDef). option_map_or is_integer_def (slice_get ts 1) false) h.kinds

-- a rule has few nodes if what it is written as has few
few_nodes : (w : Whole) (o : Option CoreRule) (x : CoreRule) → o ≡ Some x → not (nat_le (rule_nodes (rule_expanded (whole_templates (templates w)) x)) 4096) ≡ false
    → on o (λ (y : CoreRule). not (nat_le (rule_nodes (rule_expanded (whole_templates (templates w)) y)) 4096)) ≡ false
few_nodes w o x e few = ap (λ (p : Option CoreRule). on p (λ (y : CoreRule). not (nat_le (rule_nodes (rule_expanded (whole_templates (templates w)) y)) 4096))) e ∙ few

-- a rule for two numbers breaks no row
gives_sound : (n : ℕ) (w : Whole) (before : List Def) (i a b : ℕ) (at : Pos) → IsTypedWhole n w → i < n → a < 4 → b < 4 → broken_in OfRules (within w before) (line_def (Gives i a b) at) ≡ None
gives_sound n w before i a b at h lt small few =
    let r = gives_rule i a b at in
    let found = h.there i lt in
    let pair = λ (es : List (Option TypeId)). (patterns_pass w es no_variables (APattern (tree.Int (pos a)) (APattern (tree.Int (pos b)) NoPattern))).sites in
    let small_rule : is_large w r ≡ false = few_nodes w (written_pass w 0 r) _ (gives_written n w 0 i a b at h lt small few) refl in
    ap (row_by w (termed w (term_name i)) 2 (left_of w r) (right_side_of w r).sites) small_rule
    ∙ ap (λ (es : List (Option TypeId)). row_by w (termed w (term_name i)) 2 (pair es) (right_side_of w r).sites false) (takes_bytes n w i h lt)
    ∙ ap (λ (o : Option TypeId). row_by w (termed w (term_name i)) 2 (IntegerAt (Some u8) ∷ IntegerAt (Some u8) ∷ []) (IntegerAt o ∷ []) false) (gives_byte n w i h lt)
    ∙ ap (λ (o : Option Signature). row_by w o 2 (IntegerAt (Some u8) ∷ IntegerAt (Some u8) ∷ []) (IntegerAt (Some u8) ∷ []) false) found.1
    ∙ ap (λ t. cond (not t || (not t || (not t || false))) (Some row.LiteralMisfit) None) (takes_byte n w h)

-- so does that for all others
otherwise_sound : (n : ℕ) (w : Whole) (before : List Def) (i : ℕ) (at : Pos) → IsTypedWhole n w → i < n → broken_in OfRules (within w before) (line_def (Otherwise i) at) ≡ None
otherwise_sound n w before i at h lt =
    let r = otherwise_rule i at in
    let found = h.there i lt in
    let small_rule : is_large w r ≡ false = few_nodes w (written_pass w 0 r) _ (otherwise_written n w 0 i at h lt) refl in
    ap (row_by w (termed w (term_name i)) 2 (PartAt ∷ PartAt ∷ []) (right_side_of w r).sites) small_rule
    ∙ ap (λ (o : Option TypeId). row_by w (termed w (term_name i)) 2 (PartAt ∷ PartAt ∷ []) (IntegerAt o ∷ []) false) (gives_byte n w i h lt)
    ∙ ap (λ (o : Option Signature). row_by w o 2 (PartAt ∷ PartAt ∷ []) (IntegerAt (Some u8) ∷ []) false) found.1
    ∙ ap (λ t. cond (not t || false) (Some row.LiteralMisfit) None) (takes_byte n w h)

-- the rules of lines break no row
pub rules_sound : (n next : ℕ) (w : Whole) (before : List Def) (at : ℕ) (ls : List Line) → IsTypedWhole n w → AreTyped n next ls → fault_after OfRules w before (defs_at at ls) ≡ None
rules_sound n next w before at [] h t = refl
rules_sound n next w before at (Declares i ∷ ls) h t = rules_sound n (next + 1) w (before ++ line_def (Declares i) (place at) ∷ []) (at + length (line_text (Declares i))) ls h t.2
rules_sound n next w before at (Gives i a b ∷ ls) h t =
    let d = line_def (Gives i a b) (place at) in
    let rest = at + length (line_text (Gives i a b)) in
    none_later (λ (r : Row). (r, place at)) (broken_in OfRules (within w before) d) (fault_after OfRules w (before ++ d ∷ []) (defs_at rest ls)) (gives_sound n w before i a b (place at) h t.0 t.1 t.2)
    (rules_sound n next w (before ++ d ∷ []) rest ls h t.3)
rules_sound n next w before at (Otherwise i ∷ ls) h t =
    let d = line_def (Otherwise i) (place at) in
    let rest = at + length (line_text (Otherwise i)) in
    none_later (λ (r : Row). (r, place at)) (broken_in OfRules (within w before) d) (fault_after OfRules w (before ++ d ∷ []) (defs_at rest ls)) (otherwise_sound n w before i (place at) h t.0)
    (rules_sound n next w (before ++ d ∷ []) rest ls h t.1)
