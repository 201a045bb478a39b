-- Paths that hold an impure call.
use Rattle.std.specs.Prelude.{Bool, true, false, ◌||◌}
use Rattle.isle_core.specs.Calling.{Calling, ByTurns, ByCases, NoCall, calling}
use Rattle.isle_core.specs.Path.{Path, Nowhere, Arg, ConstBool, ConstInt, ConstPrim, Extracted, Called, Chosen, MadeVariant, MadeStruct, VariantField, StructField, Wrapped, Inner, Part, Paths, NoPath, APath}
use Rattle.isle_core.specs.Rule.{Environment}

-- a call that is answered by turns
abbrev pub takes_turn : Calling → Bool
takes_turn (ByTurns callee kind) = true
takes_turn (ByCases callee kind) = false
takes_turn NoCall = false

-- a path that is an impure call, or has one within it
abbrev mutual
  pub holds_impure : Environment → Path → Bool
  holds_impure env (Called term ps instance) = takes_turn (calling env term) || hold_impure env ps
  holds_impure env Nowhere = false
  holds_impure env (Arg i) = false
  holds_impure env (ConstBool ty b) = false
  holds_impure env (ConstInt ty n) = false
  holds_impure env (ConstPrim name) = false
  holds_impure env (Extracted term p) = holds_impure env p
  holds_impure env (Chosen p) = holds_impure env p
  holds_impure env (MadeVariant ty variant ps) = hold_impure env ps
  holds_impure env (MadeStruct ty ps) = hold_impure env ps
  holds_impure env (VariantField variant field p) = holds_impure env p
  holds_impure env (StructField field p) = holds_impure env p
  holds_impure env (Wrapped p) = holds_impure env p
  holds_impure env (Inner p) = holds_impure env p
  holds_impure env (Part part p) = holds_impure env p

  -- so of any of several
  pub hold_impure : Environment → Paths → Bool
  hold_impure env NoPath = false
  hold_impure env (APath p ps) = holds_impure env p || hold_impure env ps
