use Rattle.mem_system.proofs.Done.{synced_file, failed_sync}
use Rattle.mem_system.proofs.memory.MemSystemSystem.sync_file.Goals as goal

pub returns-in_ok-note-in-Passes-clause-still : goal.returns-in_ok-note-in-Passes-clause-still
returns-in_ok-note-in-Passes-clause-still c = λ told. (synced_file c.args.self.now c.note.new.self c.args.file.now.number
    (record {
      start_is = c.in_ok-note-in-Passes.ensures.ok.start_is;
      calls_are = c.in_ok-note-in-Passes.ensures.ok.calls_are;
    })).still

pub returns-in_ok-note-in-Passes-clause-kept : goal.returns-in_ok-note-in-Passes-clause-kept
returns-in_ok-note-in-Passes-clause-kept c = λ told. (synced_file c.args.self.now c.note.new.self c.args.file.now.number
    (record {
      start_is = c.in_ok-note-in-Passes.ensures.ok.start_is;
      calls_are = c.in_ok-note-in-Passes.ensures.ok.calls_are;
    })).kept

pub returns-in_ok-note-in-Passes-clause-others : goal.returns-in_ok-note-in-Passes-clause-others
returns-in_ok-note-in-Passes-clause-others c = λ told. (synced_file c.args.self.now c.note.new.self c.args.file.now.number
    (record {
      start_is = c.in_ok-note-in-Passes.ensures.ok.start_is;
      calls_are = c.in_ok-note-in-Passes.ensures.ok.calls_are;
    })).others

pub returns-in_ok-note-in-Passes-clause-no_more : goal.returns-in_ok-note-in-Passes-clause-no_more
returns-in_ok-note-in-Passes-clause-no_more c = λ told. (synced_file c.args.self.now c.note.new.self c.args.file.now.number
    (record {
      start_is = c.in_ok-note-in-Passes.ensures.ok.start_is;
      calls_are = c.in_ok-note-in-Passes.ensures.ok.calls_are;
    })).no_more

pub returns-in_ok-note-in-Passes-clause-named : goal.returns-in_ok-note-in-Passes-clause-named
returns-in_ok-note-in-Passes-clause-named c = (synced_file c.args.self.now c.note.new.self c.args.file.now.number
    (record {
      start_is = c.in_ok-note-in-Passes.ensures.ok.start_is;
      calls_are = c.in_ok-note-in-Passes.ensures.ok.calls_are;
    })).named

pub returns-in_ok-note-in-Passes-clause-reads : goal.returns-in_ok-note-in-Passes-clause-reads
returns-in_ok-note-in-Passes-clause-reads c = (synced_file c.args.self.now c.note.new.self c.args.file.now.number
    (record {
      start_is = c.in_ok-note-in-Passes.ensures.ok.start_is;
      calls_are = c.in_ok-note-in-Passes.ensures.ok.calls_are;
    })).reads

pub returns-in_ok-note-in-Passes-clause-time : goal.returns-in_ok-note-in-Passes-clause-time
returns-in_ok-note-in-Passes-clause-time c = (synced_file c.args.self.now c.note.new.self c.args.file.now.number
    (record {
      start_is = c.in_ok-note-in-Passes.ensures.ok.start_is;
      calls_are = c.in_ok-note-in-Passes.ensures.ok.calls_are;
    })).time

pub returns-in_ok-note-in-Fails-clause-others : goal.returns-in_ok-note-in-Fails-clause-others
returns-in_ok-note-in-Fails-clause-others c = λ told.
    (failed_sync c.args.self.now c.note-in-Fails.new.self c.args.file.now.number
    (record {
      start_is = c.in_ok-note-in-Fails.ensures.ok.start_is;
      calls_are = c.in_ok-note-in-Fails.ensures.ok.calls_are;
    })).others

pub returns-in_ok-note-in-Fails-clause-failed : goal.returns-in_ok-note-in-Fails-clause-failed
returns-in_ok-note-in-Fails-clause-failed c = λ told.
    (failed_sync c.args.self.now c.note-in-Fails.new.self c.args.file.now.number
    (record {
      start_is = c.in_ok-note-in-Fails.ensures.ok.start_is;
      calls_are = c.in_ok-note-in-Fails.ensures.ok.calls_are;
    })).failed

pub returns-in_ok-note-in-Fails-clause-no_more : goal.returns-in_ok-note-in-Fails-clause-no_more
returns-in_ok-note-in-Fails-clause-no_more c = λ told.
    (failed_sync c.args.self.now c.note-in-Fails.new.self c.args.file.now.number
    (record {
      start_is = c.in_ok-note-in-Fails.ensures.ok.start_is;
      calls_are = c.in_ok-note-in-Fails.ensures.ok.calls_are;
    })).no_more

pub returns-in_ok-note-in-Fails-clause-named : goal.returns-in_ok-note-in-Fails-clause-named
returns-in_ok-note-in-Fails-clause-named c = (failed_sync c.args.self.now c.note-in-Fails.new.self c.args.file.now.number
    (record {
      start_is = c.in_ok-note-in-Fails.ensures.ok.start_is;
      calls_are = c.in_ok-note-in-Fails.ensures.ok.calls_are;
    })).named

pub returns-in_ok-note-in-Fails-clause-reads : goal.returns-in_ok-note-in-Fails-clause-reads
returns-in_ok-note-in-Fails-clause-reads c = (failed_sync c.args.self.now c.note-in-Fails.new.self c.args.file.now.number
    (record {
      start_is = c.in_ok-note-in-Fails.ensures.ok.start_is;
      calls_are = c.in_ok-note-in-Fails.ensures.ok.calls_are;
    })).reads

pub returns-in_ok-note-in-Fails-clause-time : goal.returns-in_ok-note-in-Fails-clause-time
returns-in_ok-note-in-Fails-clause-time c = (failed_sync c.args.self.now c.note-in-Fails.new.self c.args.file.now.number
    (record {
      start_is = c.in_ok-note-in-Fails.ensures.ok.start_is;
      calls_are = c.in_ok-note-in-Fails.ensures.ok.calls_are;
    })).time
