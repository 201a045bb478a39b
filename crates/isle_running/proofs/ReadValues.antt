-- Values that are read one after another.
use Rattle.std.proofs.Common.{◌≡◌, ℕ, ◌+◌, ◌<◌, ◌≤◌, List, [], ◌∷◌, ◌++◌, length, drop, get_or, Option, Some, None, refl, sym, ap, ◌∙◌, append-nil, append_assoc}
use Rattle.std.specs.Prelude.{option_map}
use Rattle.std.proofs.lemmas.List.{drop_more, drop_all, map-append}
use Rattle.isle_core.specs.Answered.{Held, Absent, One, Optional, Listed, AValue, ATuple}
use Rattle.isle_core.specs.declared.values.Value.{Value as CodeValue}
use Rattle.isle_core.specs.Value.{Value}
use Rattle.isle_core.specs.ValueAt.{value_before}
use Rattle.isle_core.specs.ValueViews.{value, values}
use Rattle.isle_tree.specs.declared.tree.Read.{Read}
use Rattle.isle_tree.specs.Run.{Around, Env, value_in, read_value, read_values}

-- values in front of others, where those are there
abbrev pub values_before : List CodeValue → Option (List Value) → Option (List Value)
values_before xs = option_map (λ (ws : List Value). values xs ++ ws)

-- none are read where one is none
none_before : (h : Held) (o : Option (List Value)) → None ≡ value_in h → value_before h o ≡ None
none_before (One (AValue v)) o e = absurd cc
none_before (One (ATuple vs)) o e = refl
none_before (Optional i) o e = refl
none_before (Listed is) o e = refl
none_before Absent o e = refl

module _ (w : Around) (env : Env) (reads : List Read) (i : ℕ) (r d : Read) (xs : List CodeValue) (lt : i < length reads) (is : r ≡ get_or reads i d)
    (e : read_values w env reads ≡ values_before xs (read_values w env (drop i reads))) where
  next : read_values w env reads ≡ values_before xs (value_before (read_value w env r) (read_values w env (drop (i + 1) reads)))
  next = e ∙ ap (λ rs. values_before xs (read_values w env rs)) (drop_more reads i d lt ∙ ap (λ x. x ∷ drop (i + 1) reads) (sym is))

  -- a value more is read
  pub values_more : (v : CodeValue) (ys : List CodeValue) → Some (value v) ≡ value_in (read_value w env r) → ys ≡ xs ++ v ∷ [] → read_values w env reads ≡ values_before ys (read_values w env (drop (i + 1) reads))
  values_more v ys read more = next ∙ step (read_value w env r) (read_values w env (drop (i + 1) reads)) read
    where
      one_more : (ws : List Value) → values xs ++ value v ∷ ws ≡ values ys ++ ws
      one_more ws = sym (append_assoc (values xs) (value v ∷ []) ws) ∙ ap (λ zs. zs ++ ws) (sym (ap values more ∙ map-append value xs (v ∷ [])))

      step : (h : Held) (o : Option (List Value)) → Some (value v) ≡ value_in h → values_before xs (value_before h o) ≡ values_before ys o
      step (One (AValue u)) None f = refl
      step (One (AValue u)) (Some ws) f =
          let same : u ≡ value v = cc in
          ap Some (ap (λ (x : Value). values xs ++ x ∷ ws) same ∙ one_more ws)
      step (One (ATuple us)) o f = absurd cc
      step (Optional j) o f = absurd cc
      step (Listed js) o f = absurd cc
      step Absent o f = absurd cc

  -- a value is not there
  pub values_none : None ≡ value_in (read_value w env r) → None ≡ read_values w env reads
  values_none none = sym (next ∙ ap (values_before xs) (none_before (read_value w env r) _ none))

-- all are read
pub values_done : (w : Around) (env : Env) (reads : List Read) (i : ℕ) (xs : List CodeValue) → length reads ≤ i → read_values w env reads ≡ values_before xs (read_values w env (drop i reads)) → Some (values xs) ≡ read_values w env reads
values_done w env reads i xs le e = sym (e ∙ ap (λ rs. values_before xs (read_values w env rs)) (drop_all i reads le) ∙ ap Some (append-nil (values xs)))
