-- Sizes that formats have, in ascending order.
use Rattle.std.proofs.Common.{◌≡◌, ℕ, ◌+◌, ◌<◌, List, ◌∷◌, length, get_or, drop, Option, Some, None, refl, sym, ap, ◌∙◌}
use Rattle.std.specs.Prelude.{fold, filter_map}
use Rattle.std.specs.List.{cons_option}
use Rattle.std.specs.BTreeSet.{insert_key}
use Rattle.std.specs.Ordering.{nat_cmp}
use Rattle.std.proofs.lemmas.List.{drop_more}
use Rattle.isle_meta.specs.declared.clif.InstructionFormat.{InstructionFormat}
use Rattle.isle_prelude.specs.Arrays.{above_one, value_array_size}
use Rattle.isle_prelude.specs.Sizes.{with_size}

-- the size of a format's array of values
abbrev pub value_size : InstructionFormat → Option ℕ
value_size = value_array_size

-- the size of its array of blocks
abbrev pub block_size : InstructionFormat → Option ℕ
block_size f = above_one f.num_block_operands

-- sizes with those of formats
abbrev pub sizes_from : (InstructionFormat → Option ℕ) → List ℕ → List InstructionFormat → List ℕ
sizes_from size sizes fs = fold (insert_key nat_cmp) sizes (filter_map size fs)

-- one size more, if there is one
size_more : (o : Option ℕ) (sizes more : List ℕ) → fold (insert_key nat_cmp) (with_size sizes o) more ≡ fold (insert_key nat_cmp) sizes (cons_option o more)
size_more None sizes more = refl
size_more (Some n) sizes more = refl

-- the sizes of formats, and those of what is left
pub sizes_next : (size : InstructionFormat → Option ℕ) (fs : List InstructionFormat) (i : ℕ) (f : InstructionFormat) (old new whole : List ℕ) → i < length fs → f ≡ get_or fs i f → new ≡ with_size old (size f)
    → sizes_from size old (drop i fs) ≡ whole → sizes_from size new (drop (i + 1) fs) ≡ whole
sizes_next size fs i f old new whole lt is more so =
    ap (λ ks. sizes_from size ks (drop (i + 1) fs)) more
    ∙ size_more (size f) old (filter_map size (drop (i + 1) fs))
    ∙ ap (λ x. sizes_from size old (x ∷ drop (i + 1) fs)) is
    ∙ sym (ap (sizes_from size old) (drop_more fs i f lt))
    ∙ so
