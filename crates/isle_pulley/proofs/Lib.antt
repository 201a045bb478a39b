mod RuleLaws
mod PieceLaws
mod NameLaws
mod RuleWritable
