pub mod TextLaws
pub mod OperationNames
pub mod NumericNames
pub mod SpeltLaws
pub mod TermLaws
pub mod PrefixLaws
