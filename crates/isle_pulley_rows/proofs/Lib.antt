mod WordLaws
mod RefusedLaws
