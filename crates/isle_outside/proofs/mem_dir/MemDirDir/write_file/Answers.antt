use Rattle.isle_outside.specs.Memory.{files_of}
use Rattle.isle_outside.proofs.WriteLaws.{call_entries, call_holds, call_keeps}
use Rattle.isle_outside.proofs.mem_dir.MemDirDir.write_file.Goals as goal

pub returns-clause-holds : goal.returns-clause-holds
returns-clause-holds c = call_holds c.put_file.result (files_of c.fails_now.new.self.files.items) (files_of c.put_file.new.files.items) c.args.name.now c.args.bytes.now c.put_file.ensures.ok

pub returns-clause-others : goal.returns-clause-others
returns-clause-others c =
    rw (← c.fails_now.ensures.files) (call_keeps c.put_file.result c.fails_now.new.self.files.items c.put_file.new.files.items c.args.name.now c.args.bytes.now c.put_file.ensures.ok c.put_file.ensures.err)

pub returns-clause-entries : goal.returns-clause-entries
returns-clause-entries c =
    rw (← c.fails_now.ensures.files) (call_entries c.put_file.result c.fails_now.new.self.files.items c.put_file.new.files.items c.args.name.now c.args.bytes.now c.put_file.ensures.ok c.put_file.ensures.err)
