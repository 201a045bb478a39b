use Rattle.isle_units.proofs.FolderLaws.{file_added, folder_added}
use Rattle.isle_units.proofs.paths.push_input.Goals as goal

pub returns-in-Ok-File-clause-paths : goal.returns-in-Ok-File-clause-paths
returns-in-Ok-File-clause-paths g c = file_added _ c.args.input.now _ _ _ _ _ c.in-Ok-File.field-0-is c.in-Ok-File.ensures.found c.push_file.ensures.ok

pub returns-in-Ok-Folder-clause-paths : goal.returns-in-Ok-Folder-clause-paths
returns-in-Ok-Folder-clause-paths g c = folder_added _ _ c.args.input.now _ _ _ _ _ c.in-Ok-Folder.field-0-is c.in-Ok-Folder.ensures.found c.find.ensures.files c.push_folder.ensures.paths
