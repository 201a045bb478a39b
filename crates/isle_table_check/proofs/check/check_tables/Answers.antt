use Rattle.isle_table_check.proofs.TableLaws.{first_told}
use Rattle.isle_table_check.proofs.check.check_tables.Goals as goal

pub returns-clause-only : goal.returns-clause-only
returns-clause-only c first k = first_told c.args.tables.now c.check_rows.result first c.check_rows.ensures k
