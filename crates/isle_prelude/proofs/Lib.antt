mod AllLaws
mod AscendingLaws
mod DataLaws
mod DataTexts
mod FileTexts
pub mod FilesWritable
mod FirstLaws
mod FixedNames
pub mod FlagLaws
mod InstructionsWritable
mod ManyLaws
mod NameLaws
mod OperandLaws
mod OrderedLaws
pub mod PreludeWritable
mod SizeLaws
mod SupportedLaws
mod TextLaws
mod TypeTexts
mod TypesWritable
