use Rattle.mem_system.proofs.Done.{synced_names}
use Rattle.mem_system.proofs.memory.MemSystemSystem.sync_folder.Goals as goal

pub returns-in_ok-note-in-Passes-clause-names : goal.returns-in_ok-note-in-Passes-clause-names
returns-in_ok-note-in-Passes-clause-names c = (synced_names c.args.self.now c.note.new.self (record {
  start_is = c.in_ok-note-in-Passes.ensures.ok.start_is;
  calls_are = c.in_ok-note-in-Passes.ensures.ok.calls_are;
})).names

pub returns-in_ok-note-in-Passes-clause-looks : goal.returns-in_ok-note-in-Passes-clause-looks
returns-in_ok-note-in-Passes-clause-looks c = (synced_names c.args.self.now c.note.new.self (record {
  start_is = c.in_ok-note-in-Passes.ensures.ok.start_is;
  calls_are = c.in_ok-note-in-Passes.ensures.ok.calls_are;
})).looks

pub returns-in_ok-note-in-Passes-clause-named : goal.returns-in_ok-note-in-Passes-clause-named
returns-in_ok-note-in-Passes-clause-named c = (synced_names c.args.self.now c.note.new.self (record {
  start_is = c.in_ok-note-in-Passes.ensures.ok.start_is;
  calls_are = c.in_ok-note-in-Passes.ensures.ok.calls_are;
})).looks.named

pub returns-in_ok-note-in-Passes-clause-free : goal.returns-in_ok-note-in-Passes-clause-free
returns-in_ok-note-in-Passes-clause-free c = (synced_names c.args.self.now c.note.new.self (record {
  start_is = c.in_ok-note-in-Passes.ensures.ok.start_is;
  calls_are = c.in_ok-note-in-Passes.ensures.ok.calls_are;
})).looks.free

pub returns-in_ok-note-in-Passes-clause-reads : goal.returns-in_ok-note-in-Passes-clause-reads
returns-in_ok-note-in-Passes-clause-reads c = (synced_names c.args.self.now c.note.new.self (record {
  start_is = c.in_ok-note-in-Passes.ensures.ok.start_is;
  calls_are = c.in_ok-note-in-Passes.ensures.ok.calls_are;
})).looks.reads

pub returns-in_ok-note-in-Passes-clause-time : goal.returns-in_ok-note-in-Passes-clause-time
returns-in_ok-note-in-Passes-clause-time c = (synced_names c.args.self.now c.note.new.self (record {
  start_is = c.in_ok-note-in-Passes.ensures.ok.start_is;
  calls_are = c.in_ok-note-in-Passes.ensures.ok.calls_are;
})).looks.time
