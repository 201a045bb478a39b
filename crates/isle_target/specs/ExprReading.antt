-- Reading what is computed: calls, made values, options, and operands with what goes on them.
use Rattle.std.specs.Prelude.{ℕ, zero, suc, List, [], ◌∷◌, length, Bool, true, false, Option, Some, None, codes, if◌then◌else◌}
use Rattle.isle_core.specs.declared.values.Callee.{Callee}
use Rattle.isle_core.specs.declared.values.Callee.TheVariants as callee
use Rattle.isle_printer.specs.Token.{Token, Word, Mark}
use Rattle.isle_tree.specs.declared.tree.Read.{Read}
use Rattle.isle_tree.specs.declared.tree.TExpr.{TExpr}
use Rattle.isle_tree.specs.declared.tree.TExpr.TheVariants as expr
use Rattle.isle_target.specs.Tokens.{◌>>=◌, Reads, phrase, at, rest, after, any_word}
use Rattle.isle_target.specs.OperandReading.{after_prefix, read_suffixed, read_borrowed, read_read}

-- an option of what is read, from after its ( on
abbrev pub read_some : List Token → Reads TExpr
read_some ts = do
  r ← read_read ts
  ts1 ← after (Mark (codes ")")) r.1
  Some (expr.Some r.0, ts1)

-- one argument more, given how to read those after it
abbrev pub read_arg : (List Token → Reads (List Read)) → List Token → Reads (List Read)
read_arg args ts = do
  ts1 ← after (Mark (codes ",")) ts
  r ← read_read ts1
  more ← args r.1
  Some (r.0 ∷ more.0, more.1)

-- an argument, where what closes them isn't found
abbrev pub read_arg_or : Option (List Token) → (List Token → Reads (List Read)) → List Token → Reads (List Read)
read_arg_or None args ts = read_arg args ts
read_arg_or (Some behind) args ts = Some ([], behind)

-- the arguments after the context, and what closes them, at most so many
unfoldable pub read_args : (end : List Token) → ℕ → List Token → Reads (List Read)
read_args end zero ts = None
read_args end (suc n) ts = read_arg_or (phrase end ts) (read_args end n) ts

-- a name with a ( after it
abbrev pub called_name : List Token → Reads (List ℕ)
called_name ts = do
  name ← any_word ts
  ts1 ← after (Mark (codes "(")) name.1
  Some (name.0, ts1)

-- the function of the trait that is called here, up to the ( after its name
abbrev pub called_trait_fn : List Token → Reads Callee
called_trait_fn ts = do
  ts1 ← phrase (Word (codes "C") ∷ Mark (codes "::") ∷ []) ts
  name ← called_name ts1
  Some (callee.External name.0, name.1)

-- the function of a term that is called here, up to the ( after its name
abbrev pub called_term_fn : List Token → Reads Callee
called_term_fn ts = do
  name ← called_name ts
  term ← after_prefix (codes "constructor_") name.0
  Some (callee.Internal term, name.1)

-- the function that is called here, up to the ( after its name: one of the trait if :: stands after the first word, else one of a term
abbrev pub called : List Token → Reads Callee
called ts = if at (Mark (codes "::")) (rest ts) then called_trait_fn ts else called_term_fn ts

-- a call of this function, behind a & or not, from behind its ( on
abbrev pub read_call : Bool → Callee → List Token → Reads TExpr
read_call borrow to ts = do
  ts1 ← after (Word (codes "ctx")) ts
  args ← read_args (Mark (codes ")") ∷ []) (length ts1) ts1
  Some (expr.Call borrow (record { callee = to; args = args.0 }), args.1)

-- one field of a made value more, given how to read those after it
abbrev pub read_field_read : (List Token → Reads (List (List ℕ × Read))) → List Token → Reads (List (List ℕ × Read))
read_field_read fields ts = do
  name ← any_word ts
  ts1 ← after (Mark (codes ":")) name.1
  r ← read_read ts1
  ts2 ← after (Mark (codes ",")) r.1
  more ← fields ts2
  Some ((name.0, r.0) ∷ more.0, more.1)

-- the fields of a made value, and the } after them, at most so many
unfoldable pub read_field_reads : ℕ → List Token → Reads (List (List ℕ × Read))
read_field_reads zero ts = None
read_field_reads (suc k) ts = if at (Mark (codes "}")) ts then Some ([], rest ts) else read_field_read (read_field_reads k) ts

-- fields between braces, from after the { on: there is one
abbrev pub read_some_fields : List Token → Reads (List (List ℕ × Read))
read_some_fields ts = if at (Mark (codes "}")) ts then None else read_field_reads (length ts) ts

-- fields between braces, if these are there
unfoldable pub read_made_fields : List Token → Reads (List (List ℕ × Read))
read_made_fields ts = if at (Mark (codes "{")) ts then read_some_fields (rest ts) else Some ([], ts)

-- a value that a variant makes
abbrev pub read_variant_made : List Token → Reads TExpr
read_variant_made ts = do
  ty ← any_word ts
  ts1 ← after (Mark (codes "::")) ty.1
  variant ← any_word ts1
  fields ← read_made_fields variant.1
  Some (expr.Variant ty.0 variant.0 fields.0, fields.1)

-- one that a struct makes
abbrev pub read_struct_made : List Token → Reads TExpr
read_struct_made ts = do
  ty ← any_word ts
  fields ← read_made_fields ty.1
  Some (expr.Struct ty.0 fields.0, fields.1)

-- a made value if :: or { stands after the first word, and else an operand with what goes on it
abbrev pub read_made : List Token → Reads TExpr
read_made ts =
    if at (Mark (codes "::")) (rest ts) then read_variant_made ts
    else (if at (Mark (codes "{")) (rest ts) then read_struct_made ts else read_suffixed ts)

-- a call where one begins, and else a made value or an operand
abbrev pub read_called : Reads Callee → List Token → Reads TExpr
read_called None ts = read_made ts
read_called (Some call) ts = read_call false call.0 call.1

-- a call where one begins behind a &, and else an operand
abbrev pub read_reference : Reads Callee → List Token → Reads TExpr
read_reference None ts = do
  r ← read_borrowed ts
  Some (expr.Read r.0, r.1)
read_reference (Some call) ts = read_call true call.0 call.1

-- an option where one begins, and else what is computed without one
abbrev pub read_option : Option (List Token) → List Token → Reads TExpr
read_option None ts = read_called (called ts) ts
read_option (Some inner) ts = read_some inner

-- what a let or a return computes
unfoldable pub read_expr : List Token → Reads TExpr
read_expr ts =
    if at (Mark (codes "&")) ts then read_reference (called (rest ts)) (rest ts)
    else read_option (phrase (Word (codes "Some") ∷ Mark (codes "(") ∷ []) ts) ts
