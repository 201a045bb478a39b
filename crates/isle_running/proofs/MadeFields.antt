-- Fields that are read one after another.
use Rattle.std.proofs.Common.{◌≡◌, ℕ, ◌+◌, ◌<◌, ◌≤◌, List, [], ◌∷◌, ◌++◌, length, drop, get_or, Option, Some, None, refl, sym, ap, ◌∙◌}
use Rattle.std.specs.Prelude.{option_map}
use Rattle.std.proofs.lemmas.List.{drop_more, drop_all}
use Rattle.isle_core.specs.Answered.{Held, Absent, One, Optional, Listed, AValue, ATuple}
use Rattle.isle_core.specs.declared.values.Value.{Value as CodeValue}
use Rattle.isle_core.specs.Value.{Value, FieldValues, NoField, Field}
use Rattle.isle_core.specs.ValueViews.{value, const}
use Rattle.isle_outcomes.specs.Fields.{fields}
use Rattle.isle_tree.specs.declared.tree.Read.{Read}
use Rattle.isle_running.specs.Steps.{field_read}
use Rattle.isle_tree.specs.Run.{Around, Env, read_value, read_fields, field_before}

-- fields in front of others
abbrev pub fields_before : List (List ℕ × CodeValue) → FieldValues → FieldValues
fields_before [] more = more
fields_before (f ∷ fs) more = Field f.0 (value f.1) (fields_before fs more)

before_more : (fs : List (List ℕ × CodeValue)) (f : List ℕ × CodeValue) (more : FieldValues) → fields_before (fs ++ f ∷ []) more ≡ fields_before fs (Field f.0 (value f.1) more)
before_more [] f more = refl
before_more (g ∷ fs) f more = ap (Field g.0 (value g.1)) (before_more fs f more)

before_none : (fs : List (List ℕ × CodeValue)) → fields_before fs NoField ≡ fields fs
before_none [] = refl
before_none (f ∷ fs) = ap (Field f.0 (value f.1)) (before_none fs)

-- a field before others, where it is there
abbrev put : Option (List ℕ × Value) → FieldValues → Option FieldValues
put (Some f) more = Some (Field f.0 f.1 more)
put None more = None

-- a field that is read is before others
read_before : (h : Held) (name : List ℕ) (f : List ℕ × CodeValue) (o : Option FieldValues) → Some (const f) ≡ field_read name h → field_before name h o ≡ option_map (Field f.0 (value f.1)) o
read_before (One (AValue v)) name f None e = refl
read_before (One (AValue v)) name f (Some fs) e = ap (λ o. put o fs) (sym e)
read_before (One (ATuple vs)) name f o e = absurd cc
read_before (Optional i) name f o e = absurd cc
read_before (Listed is) name f o e = absurd cc
read_before Absent name f o e = absurd cc

-- or none is
none_before : (h : Held) (name : List ℕ) (o : Option FieldValues) → None ≡ field_read name h → field_before name h o ≡ None
none_before (One (AValue v)) name o e = absurd cc
none_before (One (ATuple vs)) name o e = refl
none_before (Optional i) name o e = refl
none_before (Listed is) name o e = refl
none_before Absent name o e = refl

module _ (w : Around) (env : Env) (reads : List (List ℕ × Read)) (i : ℕ) (r d : List ℕ × Read) (xs : List (List ℕ × CodeValue)) (lt : i < length reads) (is : r ≡ get_or reads i d)
    (e : read_fields w env reads ≡ option_map (fields_before xs) (read_fields w env (drop i reads))) where
  next : read_fields w env reads ≡ option_map (fields_before xs) (field_before r.0 (read_value w env r.1) (read_fields w env (drop (i + 1) reads)))
  next = e ∙ ap (λ rs. option_map (fields_before xs) (read_fields w env rs)) (drop_more reads i d lt ∙ ap (λ x. x ∷ drop (i + 1) reads) (sym is))

  -- a field more is read
  pub made_more : (f : List ℕ × CodeValue) (ys : List (List ℕ × CodeValue)) → Some (const f) ≡ field_read r.0 (read_value w env r.1) → ys ≡ xs ++ f ∷ []
      → read_fields w env reads ≡ option_map (fields_before ys) (read_fields w env (drop (i + 1) reads))
  made_more f ys read more =
      next ∙ ap (option_map (fields_before xs)) (read_before (read_value w env r.1) r.0 f _ read) ∙ step (read_fields w env (drop (i + 1) reads))
    where
      step : (o : Option FieldValues) → option_map (fields_before xs) (option_map (Field f.0 (value f.1)) o) ≡ option_map (fields_before ys) o
      step None = refl
      step (Some fs) = ap Some (sym (before_more xs f fs) ∙ ap (λ zs. fields_before zs fs) (sym more))

  -- a field is not there
  pub made_none : None ≡ field_read r.0 (read_value w env r.1) → None ≡ read_fields w env reads
  made_none none = sym (next ∙ ap (option_map (fields_before xs)) (none_before (read_value w env r.1) r.0 _ none))

-- all are read
pub made_done : (w : Around) (env : Env) (reads : List (List ℕ × Read)) (i : ℕ) (xs : List (List ℕ × CodeValue)) → length reads ≤ i
    → read_fields w env reads ≡ option_map (fields_before xs) (read_fields w env (drop i reads)) → Some (fields xs) ≡ read_fields w env reads
made_done w env reads i xs le e = sym (e ∙ ap (λ rs. option_map (fields_before xs) (read_fields w env rs)) (drop_all i reads le) ∙ ap Some (before_none xs))
