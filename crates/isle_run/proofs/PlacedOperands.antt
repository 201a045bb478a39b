-- What holds of each operand of a function holds of what stands at its places, and of its names.
use Rattle.std.proofs.Common.{ℕ, List, [], ◌∷◌, ◌++◌}
use Rattle.std.specs.List.{AllByRecursion}
use Rattle.isle_core.specs.declared.types.ReturnKind.{ReturnKind}
use Rattle.isle_core.specs.declared.types.ReturnKind.TheVariants as kind
use Rattle.isle_tree.specs.declared.tree.Operand.{Operand}
use Rattle.isle_tree.specs.declared.tree.Operand.TheVariants as operand
use Rattle.isle_tree.specs.declared.tree.Read.{Read}
use Rattle.isle_tree.specs.declared.tree.Read.TheVariants as read
use Rattle.isle_tree.specs.declared.tree.TCall.{TCall}
use Rattle.isle_tree.specs.declared.tree.TExpr.{TExpr}
use Rattle.isle_tree.specs.declared.tree.TExpr.TheVariants as expr
use Rattle.isle_tree.specs.declared.tree.TPat.{TPat}
use Rattle.isle_tree.specs.declared.tree.TPat.TheVariants as pattern
use Rattle.isle_tree.specs.Program.{Stmt, Let, LetList, IfEq, IfLet, Match, Loop, Return, Extend, Overflow, Log, Split, Tail, Body, Done, Then, Arms, NoArm, Arm, Function, Program}
use Rattle.isle_tree.specs.Walk.{of_stmt, of_arms}
use Rattle.isle_tree.specs.WellFormed.{IsStmt, IsBody, AreArms}
use Rattle.isle_operand_names.specs.Names.{operand_names, read_names, reads_names, fields_names, expr_names, pattern_names, patterns_names, stmt_names, body_names, arms_names}
use Rattle.isle_places.specs.DeclaredTypes.{Asked, variant_asked, struct_asked}
use Rattle.isle_places.specs.Told.{Told, AValue, AnOption, ATuple, AnOptionalTuple, AList, AListOfTuples, Untold, Tells, field_told, operand_told, operand_of, pattern_told, read_told}
use Rattle.isle_places.specs.Places.{Place, own_or, where_told, at, reads_places, call_places, params_of, fields_places, expr_places, plain_told, option_told, returned, both_places, pattern_places, told_after, told_inside, stmt_places, body_places, arms_places}
use Rattle.isle_places.specs.Signatures.{signature_of}
use Rattle.isle_codegen.proofs.Operands.{read_operand, reads_operands, fields_operands, expr_operands, pattern_operands, patterns_operands, own_operands, body_operands}
use Rattle.isle_core.proofs.AllLaws.{all_append, all_front, all_back}

module _ (Q : Operand → Type 0) where
  abbrev AllSo : List Operand → Type 0
  AllSo = AllByRecursion Q

  -- ---- places

  abbrev PlacesSo : List Place → Type 0
  PlacesSo = AllByRecursion (λ (x : Place). Q x.0)

  both : (xs ys : List Place) → PlacesSo xs → PlacesSo ys → PlacesSo (xs ++ ys)
  both xs ys h k = all_append (λ (x : Place). Q x.0) xs ys h k

  where_so : (o : Operand) (t : Told) → Q o → PlacesSo (where_told o t)
  where_so o (AValue ty) h = (h, tt)
  where_so o (AnOption ty) h = tt
  where_so o (ATuple tys) h = tt
  where_so o (AnOptionalTuple tys) h = tt
  where_so o (AList ty) h = tt
  where_so o (AListOfTuples tys) h = tt
  where_so o Untold h = tt

  at_so : (o : Operand) (t : Told) → Q o → PlacesSo (at o t)
  at_so o t h = where_so o (own_or o t) h

  -- an operand that is read
  read_so : (r : Read) → Q (read_operand r) → Q (operand_of r)
  read_so (read.Plain o) h = h
  read_so (read.Borrow o) h = h
  read_so (read.Clone o) h = h

  read_at : (r : Read) (t : Told) → Q (read_operand r) → PlacesSo (at (operand_of r) t)
  read_at r t h = at_so (operand_of r) t (read_so r h)

  reads_so : (rs : List Read) (tys : List (List ℕ)) → AllSo (reads_operands rs) → PlacesSo (reads_places rs tys)
  reads_so [] tys h = tt
  reads_so (r ∷ rs) [] h = both (at (operand_of r) Untold) (reads_places rs []) (read_at r Untold h.0) (reads_so rs [] h.1)
  reads_so (r ∷ rs) (ty ∷ tys) h = both (at (operand_of r) (AValue ty)) (reads_places rs tys) (read_at r (AValue ty) h.0) (reads_so rs tys h.1)

  call_so : (p : Program) (call : TCall) → AllSo (reads_operands call.args) → PlacesSo (call_places p call)
  call_so p call h = reads_so call.args (params_of (signature_of p call.callee)) h

  fields_so : (asked : Asked) (fs : List (List ℕ × Read)) → AllSo (fields_operands fs) → PlacesSo (fields_places asked fs)
  fields_so asked [] h = tt
  fields_so asked (f ∷ fs) h = both (at (operand_of f.1) (field_told asked f.0)) (fields_places asked fs) (read_at f.1 (field_told asked f.0) h.0) (fields_so asked fs h.1)

  expr_so : (p : Program) (e : TExpr) → AllSo (expr_operands e) → PlacesSo (expr_places p e)
  expr_so p (expr.Read r) h = read_at r Untold h.0
  expr_so p (expr.Call borrow call) h = call_so p call h
  expr_so p (expr.Variant ty variant fields) h = fields_so (variant_asked p.types ty ty variant) fields h
  expr_so p (expr.Struct ty fields) h = fields_so (struct_asked p.types ty ty) fields h
  expr_so p (expr.Some r) h = read_at r Untold h.0
  expr_so p (expr.Try source as_ref) h = at_so source Untold h.0
  expr_so p (expr.Tuple source part) h = at_so source Untold h.0

  returned_so : (p : Program) (k : ReturnKind) (ty : List ℕ) (e : TExpr) → AllSo (expr_operands e) → PlacesSo (returned p k ty e)
  returned_so p k ty (expr.Read r) h = read_at r (plain_told k ty) h.0
  returned_so p k ty (expr.Some r) h = read_at r (option_told k ty) h.0
  returned_so p k ty (expr.Call borrow call) h = expr_so p (expr.Call borrow call) h
  returned_so p k ty (expr.Variant of variant fields) h = expr_so p (expr.Variant of variant fields) h
  returned_so p k ty (expr.Struct of fields) h = expr_so p (expr.Struct of fields) h
  returned_so p k ty (expr.Try source as_ref) h = expr_so p (expr.Try source as_ref) h
  returned_so p k ty (expr.Tuple source part) h = expr_so p (expr.Tuple source part) h

  tested_so : (f : Function) (tells : Tells) (a b : Operand) → Q a → Q b → PlacesSo (both_places f tells a b)
  tested_so f tells a b h k = both (at a (operand_told f tells b)) (at b (operand_told f tells a)) (at_so a (operand_told f tells b) h) (at_so b (operand_told f tells a) k)

  pattern_so : (f : Function) (tells : Tells) (pat : TPat) (r : Read) → AllSo (pattern_operands pat) → Q (read_operand r) → PlacesSo (pattern_places f tells pat r)
  pattern_so f tells (pattern.Const o) r h k = tested_so f tells o (operand_of r) h.0 (read_so r k)
  pattern_so f tells (pattern.Variant ty variant binds more) r h k = read_at r (AValue ty) k
  pattern_so f tells (pattern.Struct ty binds more) r h k = read_at r (AValue ty) k
  pattern_so f tells (pattern.Some n) r h k = read_at r Untold k

  mutual
    stmt_so : (st : Stmt) (p : Program) (f : Function) (tells : Tells) → IsStmt st → AllSo (of_stmt own_operands st) → PlacesSo (stmt_places p f tells st)
    stmt_so (Let n e) p f tells is h = expr_so p e h
    stmt_so (LetList n call) p f tells is h = call_so p call h
    stmt_so (IfEq a b inside) p f tells is h = both (both_places f tells a b) (body_places p f tells inside) (tested_so f tells a b h.0 h.1.0) (body_so inside p f tells is.2 h.1.1)
    stmt_so (IfLet pat r inside) p f tells is h =
        let now = tells ++ pattern_told p pat (read_told f tells r) in
        both (pattern_places f tells pat r) (body_places p f now inside) (pattern_so f tells pat r (all_front Q (pattern_operands pat) (body_operands inside) h.1) h.0)
        (body_so inside p f now is.2 (all_back Q (pattern_operands pat) (body_operands inside) h.1))
    stmt_so (Match r arms) p f tells is h = arms_so arms p f tells r is.2 h.0 (all_front Q (patterns_operands arms) (of_arms own_operands arms) h.1) (all_back Q (patterns_operands arms) (of_arms own_operands arms) h.1)
    stmt_so (Loop list item inside) p f tells is h = body_so inside p f (told_inside list item tells) is h
    stmt_so (Return e) p f tells is h = returned_so p f.kind f.result e h
    stmt_so (Extend r) p f tells is h = read_at r (AValue f.result) h.0
    stmt_so (Overflow within limit) p f tells is h = tt
    stmt_so (Log term place) p f tells is h = tt
    stmt_so (Split inside within) p f tells is h = body_so inside p f tells is h
    stmt_so (Tail texts) p f tells is h = tt

    -- of the places of a body
    pub body_so : (b : Body) (p : Program) (f : Function) (tells : Tells) → IsBody b → AllSo (body_operands b) → PlacesSo (body_places p f tells b)
    body_so Done p f tells is h = tt
    body_so (Then st ss) p f tells is h =
        both (stmt_places p f tells st) (body_places p f (told_after p f tells st) ss) (stmt_so st p f tells is.0 (all_front Q (of_stmt own_operands st) (body_operands ss) h))
        (body_so ss p f (told_after p f tells st) is.1 (all_back Q (of_stmt own_operands st) (body_operands ss) h))

    -- of those of the arms of a match
    arms_so : (arms : Arms) (p : Program) (f : Function) (tells : Tells) (r : Read) → AreArms arms → Q (read_operand r) → AllSo (patterns_operands arms) → AllSo (of_arms own_operands arms) → PlacesSo (arms_places p f tells r arms)
    arms_so NoArm p f tells r is k h l = tt
    arms_so (Arm pat inside arms) p f tells r is k h l =
        let now = tells ++ pattern_told p pat (read_told f tells r) in
        both (pattern_places f tells pat r ++ body_places p f now inside) (arms_places p f tells r arms)
        (both (pattern_places f tells pat r) (body_places p f now inside) (pattern_so f tells pat r (all_front Q (pattern_operands pat) (patterns_operands arms) h) k) (body_so inside p f now is.1 (all_front Q (body_operands inside) (of_arms own_operands arms) l)))
        (arms_so arms p f tells r is.2 k (all_back Q (pattern_operands pat) (patterns_operands arms) h) (all_back Q (body_operands inside) (of_arms own_operands arms) l))

  -- ---- names

  abbrev NamesSo : List (List ℕ) → Type 0
  NamesSo = AllByRecursion (λ (n : List ℕ). Q (operand.Name n))

  joined : (xs ys : List (List ℕ)) → NamesSo xs → NamesSo ys → NamesSo (xs ++ ys)
  joined xs ys h k = all_append (λ (n : List ℕ). Q (operand.Name n)) xs ys h k

  operand_named : (o : Operand) → Q o → NamesSo (operand_names o)
  operand_named (operand.Name name) h = (h, tt)
  operand_named (operand.Local n) h = tt
  operand_named (operand.Arg n) h = tt
  operand_named (operand.Bool b) h = tt
  operand_named (operand.Int ty z) h = tt
  operand_named (operand.Raw z) h = tt

  read_named : (r : Read) → Q (read_operand r) → NamesSo (read_names r)
  read_named (read.Plain o) h = operand_named o h
  read_named (read.Borrow o) h = operand_named o h
  read_named (read.Clone o) h = operand_named o h

  reads_named : (rs : List Read) → AllSo (reads_operands rs) → NamesSo (reads_names rs)
  reads_named [] h = tt
  reads_named (r ∷ rs) h = joined (read_names r) (reads_names rs) (read_named r h.0) (reads_named rs h.1)

  fields_named : (fs : List (List ℕ × Read)) → AllSo (fields_operands fs) → NamesSo (fields_names fs)
  fields_named [] h = tt
  fields_named (f ∷ fs) h = joined (read_names f.1) (fields_names fs) (read_named f.1 h.0) (fields_named fs h.1)

  expr_named : (e : TExpr) → AllSo (expr_operands e) → NamesSo (expr_names e)
  expr_named (expr.Read r) h = read_named r h.0
  expr_named (expr.Call borrow call) h = reads_named call.args h
  expr_named (expr.Variant ty variant fields) h = fields_named fields h
  expr_named (expr.Struct ty fields) h = fields_named fields h
  expr_named (expr.Some r) h = read_named r h.0
  expr_named (expr.Try source as_ref) h = operand_named source h.0
  expr_named (expr.Tuple source part) h = operand_named source h.0

  pattern_named : (pat : TPat) → AllSo (pattern_operands pat) → NamesSo (pattern_names pat)
  pattern_named (pattern.Const o) h = operand_named o h.0
  pattern_named (pattern.Variant ty variant binds more) h = tt
  pattern_named (pattern.Struct ty binds more) h = tt
  pattern_named (pattern.Some n) h = tt

  patterns_named : (arms : Arms) → AllSo (patterns_operands arms) → NamesSo (patterns_names arms)
  patterns_named NoArm h = tt
  patterns_named (Arm pat inside arms) h =
      joined (pattern_names pat) (patterns_names arms) (pattern_named pat (all_front Q (pattern_operands pat) (patterns_operands arms) h)) (patterns_named arms (all_back Q (pattern_operands pat) (patterns_operands arms) h))

  mutual
    stmt_named : (st : Stmt) → IsStmt st → AllSo (of_stmt own_operands st) → NamesSo (stmt_names st)
    stmt_named (Let n e) is h = expr_named e h
    stmt_named (LetList n call) is h = reads_named call.args h
    stmt_named (IfEq a b inside) is h = joined (operand_names a ++ operand_names b) (body_names inside) (joined (operand_names a) (operand_names b) (operand_named a h.0) (operand_named b h.1.0)) (body_named inside is.2 h.1.1)
    stmt_named (IfLet pat r inside) is h =
        joined (pattern_names pat ++ read_names r) (body_names inside)
        (joined (pattern_names pat) (read_names r) (pattern_named pat (all_front Q (pattern_operands pat) (body_operands inside) h.1)) (read_named r h.0))
        (body_named inside is.2 (all_back Q (pattern_operands pat) (body_operands inside) h.1))
    stmt_named (Match r arms) is h =
        joined (read_names r ++ patterns_names arms) (arms_names arms)
        (joined (read_names r) (patterns_names arms) (read_named r h.0) (patterns_named arms (all_front Q (patterns_operands arms) (of_arms own_operands arms) h.1)))
        (arms_named arms is.2 (all_back Q (patterns_operands arms) (of_arms own_operands arms) h.1))
    stmt_named (Loop list item inside) is h = body_named inside is h
    stmt_named (Return e) is h = expr_named e h
    stmt_named (Extend r) is h = read_named r h.0
    stmt_named (Overflow within limit) is h = tt
    stmt_named (Log term place) is h = tt
    stmt_named (Split inside within) is h = body_named inside is h
    stmt_named (Tail texts) is h = tt

    -- of the names of a body
    pub body_named : (b : Body) → IsBody b → AllSo (body_operands b) → NamesSo (body_names b)
    body_named Done is h = tt
    body_named (Then st ss) is h =
        joined (stmt_names st) (body_names ss) (stmt_named st is.0 (all_front Q (of_stmt own_operands st) (body_operands ss) h)) (body_named ss is.1 (all_back Q (of_stmt own_operands st) (body_operands ss) h))

    -- of those of the bodies of arms
    arms_named : (arms : Arms) → AreArms arms → AllSo (of_arms own_operands arms) → NamesSo (arms_names arms)
    arms_named NoArm is h = tt
    arms_named (Arm pat inside arms) is h =
        joined (body_names inside) (arms_names arms) (body_named inside is.1 (all_front Q (body_operands inside) (of_arms own_operands arms) h)) (arms_named arms is.2 (all_back Q (body_operands inside) (of_arms own_operands arms) h))
