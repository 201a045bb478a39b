-- Lists within paths, and the order of lists.
use Rattle.std.specs.Prelude.{List, [], ◌∷◌, Contains}
use Rattle.isle_core.specs.Path.{Path, Nowhere, Arg, ConstBool, ConstInt, ConstPrim, Extracted, Called, Chosen, MadeVariant, MadeStruct, VariantField, StructField, Wrapped, Inner, Part, Paths, NoPath, APath}

-- each list within a path whose item is chosen is one of these
abbrev mutual
  pub ListsWithin : List Path → Path → Type 0
  ListsWithin before (Chosen p) = Contains before p × ListsWithin before p
  ListsWithin before (Called term ps k) = AllListsWithin before ps
  ListsWithin before (Inner p) = ListsWithin before p
  ListsWithin before (MadeVariant ty variant ps) = AllListsWithin before ps
  ListsWithin before (MadeStruct ty ps) = AllListsWithin before ps
  ListsWithin before (VariantField variant i p) = ListsWithin before p
  ListsWithin before (StructField i p) = ListsWithin before p
  ListsWithin before (Extracted term p) = ListsWithin before p
  ListsWithin before (Wrapped p) = ListsWithin before p
  ListsWithin before (Part i p) = ListsWithin before p
  ListsWithin before Nowhere = Unit {0}
  ListsWithin before (Arg i) = Unit {0}
  ListsWithin before (ConstBool ty b) = Unit {0}
  ListsWithin before (ConstInt ty n) = Unit {0}
  ListsWithin before (ConstPrim name) = Unit {0}

  -- so of paths in order
  pub AllListsWithin : List Path → Paths → Type 0
  AllListsWithin before NoPath = Unit {0}
  AllListsWithin before (APath p ps) = ListsWithin before p × AllListsWithin before ps

-- lists in an order in which each stands once, after those within it
abbrev pub AreListsInOrder : List Path → List Path → Type 0
AreListsInOrder before [] = Unit {0}
AreListsInOrder before (q ∷ qs) = ListsWithin before q × (Contains before q → ⊥) × AreListsInOrder (q ∷ before) qs
