mod SourceLaws
mod FailureLaws
