use Rattle.std.proofs.Common.{None, refl, sym, subst}
use Rattle.flash_record.specs.Stated.{stated}
use Rattle.flash_disk.specs.Sound.{IsSoundLayer}
use Rattle.flash_disk.proofs.Entering.{sound_holds, nothing_there, one_there}
use Rattle.flash_disk.proofs.layer.Layer.make_sure.Goals as goal

pub returns-in-Some-read_record-clause-stays : goal.returns-in-Some-read_record-clause-stays
returns-in-Some-read_record-clause-stays g c = record {
  sure = c.enter.ensures.unsure;
  sound = λ told.
      let e = c.in_ok-read_page.ensures in
      let sound = one_there (g.F.Flash.medium c.args.self.now.flash) (g.F.Flash.medium c.read_page.new.self.flash)
      c.args.self.now.state c.read_page.new.self.state c.in-Some.place
      (c.requires.described told) c.in-Some.is (e.reads.only.pages told) e.reads.only.blocks e.reads.state
      c.read_page.new.out
      (e.bytes told)
      (stated c.in-Some-read_record.record) c.in-Some-read_record.ensures.record c.enter.new.self.state
      c.enter.ensures.sound in
      subst (λ f. IsSoundLayer (g.F.Flash.medium f) c.enter.new.self.state) (sym c.enter.ensures.flash) sound;
  failed = λ told. tt;
}

pub returns-in-Some-read_record-clause-described : goal.returns-in-Some-read_record-clause-described
returns-in-Some-read_record-clause-described g c told =
    sound_holds (g.F.Flash.medium c.enter.new.self.flash) c.enter.new.self.state
    ((returns-in-Some-read_record-clause-stays g c).sound told) c.enter.ensures.unsure

pub returns-in_default-read_record-clause-stays : goal.returns-in_default-read_record-clause-stays
returns-in_default-read_record-clause-stays g c = record {
  sure = refl;
  sound = λ told.
      let e = c.in_ok-read_page.ensures in
      nothing_there (g.F.Flash.medium c.args.self.now.flash) (g.F.Flash.medium c.read_page.new.self.flash)
      c.args.self.now.state c.read_page.new.self.state c.in-Some.place
      (c.requires.described told) c.in-Some.is (e.reads.only.pages told) e.reads.only.blocks e.reads.state
      c.read_page.new.out
      (e.bytes told)
      c.in_default-read_record.ensures.record;
  failed = λ told. tt;
}

pub returns-in_default-read_record-clause-described : goal.returns-in_default-read_record-clause-described
returns-in_default-read_record-clause-described g c told =
    sound_holds (g.F.Flash.medium c.read_page.new.self.flash) (record c.read_page.new.self.state { unsure = None })
    ((returns-in_default-read_record-clause-stays g c).sound told) refl
