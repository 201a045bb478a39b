-- What contracts say of the code's heads, flags and marks.
use Rattle.isle_syntax.specs.declared.body.BodyHead.{BodyHead as CodeBodyHead}
use Rattle.isle_syntax.specs.declared.body.BodyHead.TheVariants as code_body_head
use Rattle.isle_syntax.specs.declared.flags.Flags.{Flags as CodeFlags}
use Rattle.isle_syntax.specs.declared.flags.Marks.{Marks as CodeMarks}
use Rattle.isle_syntax.specs.declared.externs.ExternHead.{ExternHead as CodeExternHead}
use Rattle.isle_syntax.specs.declared.externs.ExternHead.TheVariants as code_extern_head
use Rattle.isle_syntax.specs.declared.definition.Head.{Head as CodeHead}
use Rattle.isle_syntax.specs.declared.definition.Head.TheVariants as code_head
use Rattle.isle_grammar.specs.Grammar.{BodyHead, IsPrimitive, IsEnum, IsStruct, Flags, Marks}
use Rattle.isle_grammar.specs.Reading.{ExternHead, IsConstructor, IsExtractor, IsConst, Head, TypeHead, DeclHead, RuleHead, AnExternHead, ExtractorHead, ConvertHead, PassedHead}

-- what a body is
abbrev pub body_head_seen : CodeBodyHead → BodyHead
body_head_seen code_body_head.Primitive = IsPrimitive
body_head_seen code_body_head.Enum = IsEnum
body_head_seen code_body_head.Struct = IsStruct

-- the flags of a `decl`
abbrev pub flags_seen : CodeFlags → Flags
flags_seen f = record { pure = f.pure; multi = f.multi; partial = f.partial; recursive = f.recursive }

-- the words after a type's name
abbrev pub marks_seen : CodeMarks → Marks
marks_seen m = record { is_extern = m.is_extern; is_nodebug = m.is_nodebug }

-- what an `extern` is
abbrev pub extern_head_seen : CodeExternHead → ExternHead
extern_head_seen code_extern_head.Constructor = IsConstructor
extern_head_seen code_extern_head.Extractor = IsExtractor
extern_head_seen code_extern_head.Const = IsConst

-- what a definition is
abbrev pub head_seen : CodeHead → Head
head_seen code_head.Type = TypeHead
head_seen code_head.Decl = DeclHead
head_seen code_head.Rule = RuleHead
head_seen code_head.Extern = AnExternHead
head_seen code_head.Extractor = ExtractorHead
head_seen code_head.Convert = ConvertHead
head_seen (code_head.Passed w) = PassedHead w
