use Rattle.std.proofs.Common.{◌≡◌, ◌≤◌, length, ◌∙◌, ap, sym, subst, arith}
use Rattle.std.specs.Prelude.{None}
use Rattle.std.specs.List.Sorted.{IsStrictlySortedBy}
use Rattle.std.proofs.lemmas.Map.Entries.{length-keys_of}
use Rattle.per_base.specs.declared.opening.OpenKind.TheVariants.{Write}
use Rattle.per_base.specs.Maps.{size_of}
use Rattle.per_base.specs.Names.{name_cmp}
use Rattle.file_handles.specs.Opening.{busy}
use Rattle.file_handles.specs.Sessions.{blocking}
use Rattle.file_handles.specs.Tables.{Table}
use Rattle.file_handles.specs.lemmas.Named.{busy_by_none, renamed}
use Rattle.file_handles.specs.lemmas.Whole.{whole_beside}
use Rattle.file_handles.proofs.table.FileTable.salvage.Goals as goal

pub invariant_of-self : goal.invariant_of-self
invariant_of-self c =
    let few : length c.self.inside.files.entries ≤ 1024 = c.self.invariant.0.few_files in
    let room : size_of c.self.inside.files.entries ≤ c.self.inside.storage.maximum = c.self.invariant.0.room in (
      renamed c.self.inside.storage c.self.inside.files.entries c.recover_in.new.files.entries
          c.self.inside.handles.entries c.args.name.now c.self.invariant.0
          (busy_by_none (blocking Write c.args.name.now c.self.inside.handles.entries)
          (subst (λ (t : Table). busy (blocking Write c.args.name.now t.session.handles) ≡ None)
          (sym c.self.view_is) c.requires.free))
          c.recover_in.ensures.beside
          (whole_beside c.self.inside.files.entries c.recover_in.new.files.entries c.args.name.now
          c.self.invariant.0.whole c.recover_in.ensures.beside c.recover_in.ensures.file)
          (subst (λ ks. IsStrictlySortedBy name_cmp ks) (sym c.recover_in.ensures.keys) c.self.invariant.0.names)
          (omega (
            arith,
            length-keys_of c.recover_in.new.files.entries,
            length-keys_of c.self.inside.files.entries,
            ap length c.recover_in.ensures.keys,
            few,
          ))
          (omega (arith, c.recover_in.ensures.size, room)),
      c.self.invariant.1 ∙ sym c.recover_in.ensures.size,
    )
