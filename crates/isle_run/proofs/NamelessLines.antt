-- Type names of opaque numbers stand in no line.
use Rattle.std.proofs.Common.{◌≡◌, List, [], ◌∷◌, ◌++◌, map, refl, sym, ap, ◌∙◌}
use Rattle.std.specs.Prelude.{codes}
use Rattle.isle_core.specs.Nameless.{nameless, nameless_fields, nameless_made, nameless_end}
use Rattle.isle_core.specs.Value.{Value, Truth, Int, Opaque, Variant, Struct, FieldValues, NoField, Field, Made, End, Gives, GivesSome, GivesNone, IsUnreachable, GivesList}
use Rattle.isle_outcomes.specs.Shown.{value_text, fields_text, variant_head, struct_head, callee_text}
use Rattle.isle_outcomes.specs.Lines.{more_text, listed_text, args_text, call_line, call_lines, end_line, run_lines}

-- a value is shown the same without them, and so are fields
mutual
  unfolding nameless

  value_same : (v : Value) → value_text (nameless v) ≡ value_text v
  value_same (Truth b) = refl
  value_same (Int ty n) = refl
  value_same (Opaque ty n) = refl
  value_same (Variant ty variant fs) = ap (λ t. variant_head ty variant ++ (t ++ codes ")")) (fields_same fs)
  value_same (Struct ty fs) = ap (λ t. struct_head ty ++ (t ++ codes ")")) (fields_same fs)

  fields_same : (fs : FieldValues) → fields_text (nameless_fields fs) ≡ fields_text fs
  fields_same NoField = refl
  fields_same (Field name v fs) = ap (λ t. codes " " ++ (t ++ fields_text (nameless_fields fs))) (value_same v) ∙ ap (λ t. codes " " ++ (value_text v ++ t)) (fields_same fs)

more_same : (vs : List Value) → more_text (map nameless vs) ≡ more_text vs
more_same [] = refl
more_same (v ∷ vs) = ap (λ t. codes ", " ++ (t ++ more_text (map nameless vs))) (value_same v) ∙ ap (λ t. codes ", " ++ (value_text v ++ t)) (more_same vs)

listed_same : (vs : List Value) → listed_text (map nameless vs) ≡ listed_text vs
listed_same [] = refl
listed_same (v ∷ vs) = ap (λ t. t ++ more_text (map nameless vs)) (value_same v) ∙ ap (λ t. value_text v ++ t) (more_same vs)

args_same : (vs : List Value) → args_text (map nameless vs) ≡ args_text vs
args_same [] = refl
args_same (v ∷ vs) = ap (λ t. codes " " ++ (t ++ args_text (map nameless vs))) (value_same v) ∙ ap (λ t. codes " " ++ (value_text v ++ t)) (args_same vs)

end_same : (e : End) → end_line (nameless_end e) ≡ end_line e
end_same (Gives v) = ap (λ t. t ++ codes "\n") (value_same v)
end_same (GivesSome v) = ap (λ t. (codes "Some(" ++ (t ++ codes ")")) ++ codes "\n") (value_same v)
end_same GivesNone = refl
end_same IsUnreachable = refl
end_same (GivesList vs) = ap (λ t. (codes "[" ++ (t ++ codes "]")) ++ codes "\n") (listed_same vs)

calls_same : (cs : List Made) → call_lines (map nameless_made cs) ≡ call_lines cs
calls_same [] = refl
calls_same (c ∷ cs) =
    ap (λ t. (codes "call " ++ (callee_text c.callee ++ (t ++ codes "\n"))) ++ call_lines (map nameless_made cs)) (args_same c.args)
    ∙ ap (λ t. call_line c ++ t) (calls_same cs)

-- a run that is the same but for them has the same lines
pub lines_same : (d e : End) (cs ds : List Made) → nameless_end d ≡ nameless_end e → map nameless_made cs ≡ map nameless_made ds → run_lines (record { end = d; calls = cs }) ≡ run_lines (record { end = e; calls = ds })
lines_same d e cs ds ends calls =
    ap (λ t. t ++ call_lines cs) (sym (end_same d) ∙ ap end_line ends ∙ end_same e)
    ∙ ap (λ t. end_line e ++ t) (sym (calls_same cs) ∙ ap call_lines calls ∙ calls_same ds)
