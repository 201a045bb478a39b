-- The lines that refusals write.
use Rattle.std.specs.Prelude.{ℕ, List, [], ◌∷◌, ◌++◌, map, codes, ◌⊎◌, Bool, false, ◌&&◌, nat_eq, if◌then◌else◌, slice_get, Option}
use Rattle.std.specs.Option.{option_map_or}
use Rattle.std.specs.Str.{bytes_eq}
use Rattle.isle_printer.specs.Number.{numeral}
use Rattle.isle_core.specs.ErrorLines.{masked}
use Rattle.isle_outside.specs.Directory.{Rose}
use Rattle.isle_outside.specs.Sinks.{Took, TookPart}
use Rattle.isle_outside.specs.declared.errors.IoCause.{IoCause}
use Rattle.isle_outside.specs.declared.errors.IoCause.TheVariants as cause
use Rattle.isle_meta.specs.declared.shapes.Shape.{Shape}
use Rattle.isle_meta.specs.declared.shapes.Shape.TheVariants as shape
use Rattle.isle_lawful_names.specs.declared.name_error.NameUse.{NameUse}
use Rattle.isle_lawful_names.specs.declared.name_error.NameUse.TheVariants as use_of

-- a text and the end of its line
abbrev pub line : List ℕ → List ℕ
line text = text ++ 10 ∷ []

-- what stands after the name of a file that was not read: why, in words
abbrev pub cause_end : IoCause → List ℕ
cause_end cause.Fault = line (codes ": fault")
cause_end cause.Absent = line (codes ": absent")
cause_end cause.NotUtf8 = line (codes ": not utf-8")
cause_end cause.TooLong = line (codes ": too long")

-- what stands before the name
unfoldable pub unread_head : List ℕ
unread_head = codes "isle: cannot read file "

-- a file was not read
abbrev pub unread_line : List ℕ → IoCause → List ℕ
unread_line name why = unread_head ++ (map masked name ++ cause_end why)

-- what stands before the name of a unit that isn't listed
unfoldable pub no_unit_head : List ℕ
no_unit_head = codes "isle: no unit "

-- no unit has the name
abbrev pub no_unit_line : List ℕ → List ℕ
no_unit_line unit = no_unit_head ++ (map masked unit ++ codes "\n")

-- the output failed
abbrev pub write_fault_line : List ℕ
write_fault_line = line (codes "isle: write fault")

-- what stands before a word with which no line goes on
unfoldable pub bad_word_head : List ℕ
bad_word_head = codes "isle: bad word "

-- no line goes on with the word
abbrev pub bad_word_line : List ℕ → List ℕ
bad_word_line word = bad_word_head ++ (map masked word ++ codes "\n")

-- what stands before a word that is no target, and after it
unfoldable pub unknown_isa_head : List ℕ
unknown_isa_head = codes "no supported isa found for arch `"

unfoldable pub unknown_isa_end : List ℕ
unknown_isa_end = codes "`\n"

-- no target has the name, or stands for the architecture
abbrev pub unknown_isa_line : List ℕ → List ℕ
unknown_isa_line word = unknown_isa_head ++ (map masked word ++ unknown_isa_end)

-- whether the word of this number stands where a target is wanted: after `isa`
abbrev pub is_target_place : (words : List (List ℕ)) → ℕ → Bool
is_target_place words i = nat_eq i 1 && option_map_or (bytes_eq (codes "isa")) (slice_get words 0) false

-- what is told of the word of this number, with which no line goes on
abbrev pub bad_line : (words : List (List ℕ)) → ℕ → (word : List ℕ) → List ℕ
bad_line words i word = if is_target_place words i then unknown_isa_line word else bad_word_line word

-- a line would go on
abbrev pub missing_word_line : List ℕ
missing_word_line = line (codes "isle: missing word")

-- what stands before the name of a term that has no rules
unfoldable pub no_term_head : List ℕ
no_term_head = codes "isle: no term "

-- another number of arguments
unfoldable pub count_line : List ℕ
count_line = line (codes "isle: argument count")

-- what stands before the number of an argument
unfoldable pub argument_head : List ℕ
argument_head = codes "isle: argument "

-- what stands after the number of an argument
unfoldable pub argument_end : List ℕ
argument_end = codes " has another type\n"

-- what stands before the place where answers go wrong
unfoldable pub answers_head : List ℕ
answers_head = codes "isle: bad answers at "

-- no term with rules has the name
abbrev pub no_term_line : List ℕ → List ℕ
no_term_line term = no_term_head ++ (map masked term ++ codes "\n")

-- the argument of this number is of another type
abbrev pub argument_line : ℕ → List ℕ
argument_line i = argument_head ++ (numeral 10 i ++ argument_end)

-- the answers go wrong at this place
abbrev pub answers_line : ℕ → List ℕ
answers_line at = answers_head ++ (numeral 10 at ++ codes "\n")

-- what stands before a name that may not be emitted
unfoldable pub bad_name_head : List ℕ
bad_name_head = codes "isle: bad name "

-- what stands after it: what it stands for
abbrev pub use_end : NameUse → List ℕ
use_end use_of.File = line (codes ": File")
use_end use_of.TypeName = line (codes ": TypeName")
use_end use_of.Variant = line (codes ": Variant")
use_end use_of.Field = line (codes ": Field")
use_end use_of.Function = line (codes ": Function")
use_end use_of.Term = line (codes ": Term")
use_end use_of.Constant = line (codes ": Constant")

-- a name may not be emitted
abbrev pub bad_name_line : List ℕ → NameUse → List ℕ
bad_name_line name usage = bad_name_head ++ (map masked name ++ use_end usage)

-- what stands before the name of a row that is not supported
unfoldable pub unsupported_head : List ℕ
unsupported_head = codes "isle: unsupported "

-- what stands after it: the shape that it breaks
abbrev pub shape_end : Shape → List ℕ
shape_end shape.BadName = line (codes ": BadName")
shape_end shape.RepeatedName = line (codes ": RepeatedName")
shape_end shape.ReservedName = line (codes ": ReservedName")
shape_end shape.TyOperand = line (codes ": TyOperand")
shape_end shape.FormatIndex = line (codes ": FormatIndex")
shape_end shape.ValueCount = line (codes ": ValueCount")
shape_end shape.BlockCount = line (codes ": BlockCount")
shape_end shape.RawBlockCount = line (codes ": RawBlockCount")
shape_end shape.ImmCount = line (codes ": ImmCount")
shape_end shape.ImmType = line (codes ": ImmType")
shape_end shape.ImmShape = line (codes ": ImmShape")
shape_end shape.NoVarargs = line (codes ": NoVarargs")
shape_end shape.NoTypevar = line (codes ": NoTypevar")
shape_end shape.WrittenImm = line (codes ": WrittenImm")
shape_end shape.AlignedMem = line (codes ": AlignedMem")
shape_end shape.WrittenOperands = line (codes ": WrittenOperands")
shape_end shape.ImplicitOperand = line (codes ": ImplicitOperand")
shape_end shape.AlternateWithoutXmm = line (codes ": AlternateWithoutXmm")
shape_end shape.BinaryOperands = line (codes ": BinaryOperands")
shape_end shape.Results = line (codes ": Results")
shape_end shape.FieldType = line (codes ": FieldType")

-- a row of tables is not supported
abbrev pub unsupported_line : List ℕ → Shape → List ℕ
unsupported_line row shape = unsupported_head ++ (map masked row ++ shape_end shape)

-- memory ran out
abbrev pub memory_line : List ℕ
memory_line = line (codes "isle: out of memory")

-- a sink took all these bytes, or its count rose and it took a front of them
abbrev pub Wrote : Option (List ℕ) → Option (List ℕ) → ℕ → ℕ → List ℕ → Type 0
Wrote old new before after bytes = Took old new bytes ⊎ (TookPart old new bytes × Rose before after)
