use Rattle.isle_units.proofs.FolderLaws.{bytes_sorted, still_listed}
use Rattle.isle_units.proofs.paths.sorted_names.Goals as goal

pub returns-clause-names : goal.returns-clause-names
returns-clause-names g c = still_listed _ c.args.folder.now c.in_ok-names.names.items c.sort.new.self.items c.in_ok-names.ensures.names c.in_ok-sort.ensures.permutation

pub returns-clause-sorted : goal.returns-clause-sorted
returns-clause-sorted g c = bytes_sorted c.sort.new.self.items c.in_ok-sort.ensures.sorted
