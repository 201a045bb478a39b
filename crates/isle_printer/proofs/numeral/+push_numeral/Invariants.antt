use Rattle.isle_printer.proofs.numeral.+push_numeral.Given as goal

abbrev pub decreases-push_numeral : goal.decreases-push_numeral
decreases-push_numeral l = l.n
