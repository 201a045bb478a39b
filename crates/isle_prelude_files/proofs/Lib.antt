mod MadeLaws
mod NameLaws
mod WritingLaws
