-- Lines of each call and argument: of each event the line that the grammar gives it, computed.
use Rattle.std.specs.Prelude.{◌≡◌, ℕ, List, [], ◌∷◌, map, true, false, pos, negsuc, codes, refl}
use Rattle.std.specs.Fmt.{digits}
use Rattle.per_base.specs.declared.opening.OpenKind.TheVariants as kind
use Rattle.per_base.specs.declared.opening.Origin.TheVariants as origin
use Rattle.value_model.specs.Kinds.{one, two, four, eight, bool_kind, unsigned_kind, signed_kind, text_kind, bytes_kind}
use Rattle.value_model.specs.Kinds.{list_kind, fields_kind}
use Rattle.value_model.specs.Trees.{bool_tree, unsigned_tree, signed_tree, text_tree, bytes_tree, list_tree}
use Rattle.value_model.specs.Trees.{fields_tree}
use Rattle.value_model.specs.Views.{kinds_of, trees_of}
use Rattle.command_text.specs.declared.calls.Call.TheVariants as call
use Rattle.command_text.specs.declared.calls.Event.{Event}
use Rattle.command_text.specs.declared.calls.Event.TheVariants as event
use Rattle.command_text.specs.Grammar.{line_of}
use Rattle.command_text.specs.Reading.{mode_of}

abbrev pub rows : List (Event × List ℕ)
rows =
    (event.App 0 call.Status, codes "0 status") ∷
    (event.App 0 (call.Install (codes "{}")), codes "0 install {}") ∷
    (event.App 0 (call.Update (codes "{}")), codes "0 update {}") ∷
    (event.App 0 call.Finish, codes "0 finish") ∷
    (event.App 0 call.Rollback, codes "0 rollback") ∷
    (event.App 0 call.Wipe, codes "0 wipe") ∷
    (event.App 0 (call.UpdateBegin (codes "{}")), codes "0 update-begin {}") ∷
    (event.App 0 call.UpdateNext, codes "0 update-next") ∷
    (event.App 0 call.UpdateCommit, codes "0 update-commit") ∷
    (event.App 0 call.UpdateAbort, codes "0 update-abort") ∷
    (event.App 0 (call.OpenKvs (codes "s")), codes "0 open-kvs s") ∷
    (event.App 0 (call.OpenFiles (codes "s")), codes "0 open-files s") ∷
    (event.App 0 (call.Close (codes "s")), codes "0 close s") ∷
    (event.App 0 (call.Size (codes "s")), codes "0 size s") ∷
    (event.App 0 (call.RecoverStorage (codes "s")), codes "0 recover-storage s") ∷
    (event.App 0 (call.ResetStorage (codes "s")), codes "0 reset-storage s") ∷
    (event.App 0 (call.Keys (codes "s")), codes "0 keys s") ∷
    (event.App 0 (call.Exists (codes "s") (codes "k")), codes "0 exists s k") ∷
    (event.App 0 (call.Get (codes "s") (codes "k")), codes "0 get s k") ∷
    (event.App 0 (call.GetAs (codes "s") (codes "k") (unsigned_kind one)), codes "0 get-as s k u8") ∷
    (event.App 0 (call.Set (codes "s") (codes "k") (unsigned_tree one 1)), codes "0 set s k u8:1") ∷
    (event.App 0 (call.Remove (codes "s") (codes "k")), codes "0 remove s k") ∷
    (event.App 0 (call.RemoveAll (codes "s")), codes "0 remove-all s") ∷
    (event.App 0 (call.RecoverKey (codes "s") (codes "k")), codes "0 recover-key s k") ∷
    (event.App 0 (call.ResetKey (codes "s") (codes "k")), codes "0 reset-key s k") ∷
    (event.App 0 (call.Sync (codes "s")), codes "0 sync s") ∷
    (event.App 0 (call.Discard (codes "s")), codes "0 discard s") ∷
    (event.App 0 (call.Files (codes "s")), codes "0 files s") ∷
    (event.App 0 (call.FileExists (codes "s") (codes "f")), codes "0 file-exists s f") ∷
    (event.App 0 (call.OpenFile (codes "s") (codes "f") kind.Read (mode_of 0)), codes "0 open-file s f r none") ∷
    (event.App 0 (call.CloseFile (codes "s") 1), codes "0 close-file s 1") ∷
    (event.App 0 (call.Peek (codes "s") 1), codes "0 peek s 1") ∷
    (event.App 0 (call.Byte (codes "s") 1), codes "0 byte s 1") ∷
    (event.App 0 (call.Read (codes "s") 1 2), codes "0 read s 1 2") ∷
    (event.App 0 (call.ReadAll (codes "s") 1), codes "0 read-all s 1") ∷
    (event.App 0 (call.Line (codes "s") 1 10), codes "0 line s 1 0a") ∷
    (event.App 0 (call.Write (codes "s") 1 (0 ∷ [])), codes "0 write s 1 00") ∷
    (event.App 0 (call.SetSize (codes "s") 1 2), codes "0 set-size s 1 2") ∷
    (event.App 0 (call.HandleSize (codes "s") 1), codes "0 handle-size s 1") ∷
    (event.App 0 (call.Position (codes "s") 1), codes "0 position s 1") ∷
    (event.App 0 (call.Seek (codes "s") 1 2), codes "0 seek s 1 2") ∷
    (event.App 0 (call.Move (codes "s") 1 origin.Beginning (pos 2)), codes "0 move s 1 begin 2") ∷
    (event.App 0 (call.Eof (codes "s") 1), codes "0 eof s 1") ∷
    (event.App 0 (call.Flush (codes "s") 1), codes "0 flush s 1") ∷
    (event.App 0 (call.SizeOf (codes "s") (codes "f")), codes "0 size-of s f") ∷
    (event.App 0 (call.Info (codes "s") (codes "f")), codes "0 info s f") ∷
    (event.App 0 (call.Delete (codes "s") (codes "f")), codes "0 delete s f") ∷
    (event.App 0 (call.RecoverFile (codes "s") (codes "f")), codes "0 recover-file s f") ∷
    (event.App 0 (call.ResetFile (codes "s") (codes "f")), codes "0 reset-file s f") ∷
    (event.App 0 (call.Cat (codes "s") (codes "f")), codes "0 cat s f") ∷
    (event.App 0 (call.Put (codes "s") (codes "f") (0 ∷ [])), codes "0 put s f 00") ∷
    (event.Now 0, codes "now 0") ∷
    (event.Now 18446744073709551615, codes "now 18446744073709551615") ∷
    (event.App 1 call.Status, codes "1 status") ∷
    (event.App 7 call.UpdateAbort, codes "7 update-abort") ∷
    (event.App 0 (call.Keys (codes "favourites")), codes "0 keys favourites") ∷
    (event.App 0 (call.Cat (codes "s") (codes "a/B-9_.")), codes "0 cat s a/B-9_.") ∷
    (event.App 0 (call.Get (codes "end") (codes "none")), codes "0 get end none") ∷
    (event.App 0 (call.Get (codes "-x") (codes "0")), codes "0 get -x 0") ∷
    (event.App 0 (call.Peek (codes "s") 0), codes "0 peek s 0") ∷
    (event.App 0 (call.Peek (codes "s") 4294967295), codes "0 peek s 4294967295") ∷
    (event.App 0 (call.Seek (codes "s") 1 0), codes "0 seek s 1 0") ∷ (
      event.App 0 (call.Read (codes "s") 4294967295 18446744073709551615),
      codes "0 read s 4294967295 18446744073709551615",
    ) ∷
    (event.App 0 (call.Line (codes "s") 1 255), codes "0 line s 1 ff") ∷
    (event.App 0 (call.Write (codes "s") 1 []), codes "0 write s 1 ") ∷
    (event.App 0 (call.Write (codes "s") 1 (0 ∷ 255 ∷ [])), codes "0 write s 1 00ff") ∷
    (event.App 0 (call.Put (codes "s") (codes "f") []), codes "0 put s f ") ∷ (
      event.App 0 (call.Move (codes "s") 1 origin.Beginning (pos 9223372036854775807)),
      codes "0 move s 1 begin 9223372036854775807",
    ) ∷
    (event.App 0 (call.Move (codes "s") 1 origin.Current (pos 0)), codes "0 move s 1 current 0") ∷ (
      event.App 0 (call.Move (codes "s") 1 origin.End (negsuc 9223372036854775807)),
      codes "0 move s 1 end -9223372036854775808",
    ) ∷ (
      event.App 0 (call.Install (32 ∷ 123 ∷ 34 ∷ 97 ∷ 34 ∷ 32 ∷ 58 ∷ 32 ∷ 49 ∷ 32 ∷ 125 ∷ 32 ∷ 13 ∷ [])),
      48 ∷ 32 ∷ 105 ∷ 110 ∷ 115 ∷ 116 ∷ 97 ∷ 108 ∷ 108 ∷ 32 ∷ 32 ∷ 123 ∷ 34 ∷ 97 ∷ 34 ∷ 32 ∷ 58 ∷ 32 ∷ 49 ∷ 32 ∷ 125
          ∷ 32 ∷ 13 ∷ [],
    ) ∷
    (event.App 0 (call.Update (codes " two spaces")), codes "0 update  two spaces") ∷ (
      event.App 0 (call.UpdateBegin (195 ∷ 169 ∷ [])),
      48 ∷ 32 ∷ 117 ∷ 112 ∷ 100 ∷ 97 ∷ 116 ∷ 101 ∷ 45 ∷ 98 ∷ 101 ∷ 103
          ∷ 105 ∷ 110 ∷ 32 ∷ 195 ∷ 169 ∷ [],
    ) ∷
    (event.App 0 (call.GetAs (codes "s") (codes "k") bool_kind), codes "0 get-as s k bool") ∷ (
      event.App 0 (call.GetAs (codes "s") (codes "k") (fields_kind
          (kinds_of ((signed_kind one) ∷ text_kind ∷ bytes_kind ∷ [])))),
      codes "0 get-as s k {i8,text,bytes}",
    ) ∷ (
      event.App 0 (call.GetAs (codes "s") (codes "k") (list_kind
          (fields_kind (kinds_of ((unsigned_kind one) ∷ text_kind ∷ []))))),
      codes "0 get-as s k list<{u8,text}>",
    ) ∷ (
      event.App 0 (call.GetAs (codes "s") (codes "k") (list_kind
          (list_kind (list_kind (list_kind (list_kind (list_kind (list_kind (unsigned_kind one))))))))),
      codes "0 get-as s k list<list<list<list<list<list<list<u8>>>>>>>",
    ) ∷
    (event.App 0 (call.Set (codes "s") (codes "k") (bool_tree true)), codes "0 set s k bool:true") ∷
    (event.App 0 (call.Set (codes "s") (codes "k") (bool_tree false)), codes "0 set s k bool:false") ∷
    (event.App 0 (call.Set (codes "s") (codes "k") (unsigned_tree one 255)), codes "0 set s k u8:255") ∷
    (event.App 0 (call.Set (codes "s") (codes "k") (unsigned_tree two 513)), codes "0 set s k u16:513") ∷
    (event.App 0 (call.Set (codes "s") (codes "k") (unsigned_tree four 0)), codes "0 set s k u32:0") ∷ (
      event.App 0 (call.Set (codes "s") (codes "k") (unsigned_tree eight 18446744073709551615)),
      codes "0 set s k u64:18446744073709551615",
    ) ∷
    (event.App 0 (call.Set (codes "s") (codes "k") (signed_tree one (negsuc 127))), codes "0 set s k i8:-128") ∷
    (event.App 0 (call.Set (codes "s") (codes "k") (signed_tree two (negsuc 0))), codes "0 set s k i16:-1") ∷
    (event.App 0 (call.Set (codes "s") (codes "k") (signed_tree four (pos 7))), codes "0 set s k i32:7") ∷ (
      event.App 0 (call.Set (codes "s") (codes "k") (signed_tree eight (negsuc 9223372036854775807))),
      codes "0 set s k i64:-9223372036854775808",
    ) ∷
    (event.App 0 (call.Set (codes "s") (codes "k") (text_tree [])), codes "0 set s k text:\"\"") ∷ (
      event.App 0 (call.Set (codes "s") (codes "k") (text_tree (codes "Home, Munich"))),
      codes "0 set s k text:\"Home, Munich\"",
    ) ∷ (
      event.App 0 (call.Set (codes "s") (codes "k") (text_tree (34 ∷ 92 ∷ 10 ∷ []))),
      codes "0 set s k text:\"\\\"\\\\\\n\"",
    ) ∷ (
      event.App 0 (call.Set (codes "s") (codes "k") (text_tree (97 ∷ 13 ∷ 98 ∷ []))),
      48 ∷ 32 ∷ 115 ∷ 101 ∷ 116 ∷ 32 ∷ 115 ∷ 32 ∷ 107 ∷ 32 ∷ 116 ∷ 101 ∷ 120 ∷ 116 ∷ 58 ∷ 34 ∷ 97 ∷ 13 ∷ 98 ∷ 34
          ∷ [],
    ) ∷
    (event.App 0 (call.Set (codes "s") (codes "k") (bytes_tree [])), codes "0 set s k bytes:") ∷
    (event.App 0 (call.Set (codes "s") (codes "k") (bytes_tree (0 ∷ 255 ∷ []))), codes "0 set s k bytes:00ff") ∷ (
      event.App 0 (call.Set (codes "s") (codes "k") (list_tree (unsigned_kind one)
          (trees_of ((unsigned_tree one 1) ∷ (unsigned_tree one 2) ∷ [])))),
      codes "0 set s k list<u8>[u8:1,u8:2]",
    )
    ∷ (
      event.App 0 (call.Set (codes "s") (codes "k") (fields_tree
          (trees_of ((unsigned_tree one 7) ∷ (list_tree text_kind (trees_of ([]))) ∷ [])))),
      codes "0 set s k {u8:7,list<text>[]}",
    ) ∷
    (event.Now 1060, codes "now 1060") ∷
    (event.App 7 call.Status, codes "7 status") ∷
    (event.App 1 (call.Close (codes "logs")), codes "1 close logs") ∷
    (event.App 2 (call.Exists (codes "s") (codes "k")), codes "2 exists s k") ∷
    (event.App 3 (call.GetAs (codes "s") (codes "k") (signed_kind eight)), codes "3 get-as s k i64") ∷
    (event.App 4 (call.Set (codes "fav") (codes "home") (unsigned_tree two 9)), codes "4 set fav home u16:9") ∷ (
      event.App 5 (call.Read (codes "s") 4294967295 18446744073709551615),
      codes "5 read s 4294967295 18446744073709551615",
    ) ∷
    (event.App 6 (call.Line (codes "s") 1 10), codes "6 line s 1 0a") ∷
    (event.App 0 (call.Move (codes "s") 2 origin.Current (negsuc 4)), codes "0 move s 2 current -5") ∷
    (event.App 0 (call.Write (codes "s") 1 (0 ∷ 10 ∷ 255 ∷ [])), codes "0 write s 1 000aff") ∷
    (event.App 7 (call.Put (codes "-x") (codes "f") []), codes "7 put -x f ") ∷
    (event.App 0 (call.OpenFile (codes "s") (codes "f") kind.Read (mode_of 1)), codes "0 open-file s f r begin") ∷
    (event.App 0 (call.OpenFile (codes "s") (codes "f") kind.Read (mode_of 2)), codes "0 open-file s f r end") ∷
    (event.App 0 (call.OpenFile (codes "s") (codes "f") kind.Read (mode_of 3)), codes "0 open-file s f r begin+end") ∷
    (event.App 0 (call.OpenFile (codes "s") (codes "f") kind.Read (mode_of 4)), codes "0 open-file s f r truncate") ∷ (
      event.App 0 (call.OpenFile (codes "s") (codes "f") kind.Read (mode_of 5)),
      codes "0 open-file s f r begin+truncate",
    ) ∷
    (event.App 0 (call.OpenFile (codes "s") (codes "f") kind.Read (mode_of 6)), codes "0 open-file s f r end+truncate")
    ∷ (
      event.App 0 (call.OpenFile (codes "s") (codes "f") kind.Read (mode_of 7)),
      codes "0 open-file s f r begin+end+truncate",
    ) ∷
    (event.App 0 (call.OpenFile (codes "s") (codes "f") kind.Read (mode_of 8)), codes "0 open-file s f r append") ∷
    (event.App 0 (call.OpenFile (codes "s") (codes "f") kind.Read (mode_of 9)), codes "0 open-file s f r begin+append")
    ∷
    (event.App 0 (call.OpenFile (codes "s") (codes "f") kind.Read (mode_of 10)), codes "0 open-file s f r end+append")
    ∷ (
      event.App 0 (call.OpenFile (codes "s") (codes "f") kind.Read (mode_of 11)),
      codes "0 open-file s f r begin+end+append",
    ) ∷ (
      event.App 0 (call.OpenFile (codes "s") (codes "f") kind.Read (mode_of 12)),
      codes "0 open-file s f r truncate+append",
    ) ∷ (
      event.App 0 (call.OpenFile (codes "s") (codes "f") kind.Read (mode_of 13)),
      codes "0 open-file s f r begin+truncate+append",
    ) ∷ (
      event.App 0 (call.OpenFile (codes "s") (codes "f") kind.Read (mode_of 14)),
      codes "0 open-file s f r end+truncate+append",
    ) ∷ (
      event.App 0 (call.OpenFile (codes "s") (codes "f") kind.Read (mode_of 15)),
      codes "0 open-file s f r begin+end+truncate+append",
    ) ∷
    (event.App 0 (call.OpenFile (codes "s") (codes "f") kind.Write (mode_of 0)), codes "0 open-file s f w none") ∷
    (event.App 0 (call.OpenFile (codes "s") (codes "f") kind.Write (mode_of 1)), codes "0 open-file s f w begin") ∷
    (event.App 0 (call.OpenFile (codes "s") (codes "f") kind.Write (mode_of 2)), codes "0 open-file s f w end") ∷
    (event.App 0 (call.OpenFile (codes "s") (codes "f") kind.Write (mode_of 3)), codes "0 open-file s f w begin+end") ∷
    (event.App 0 (call.OpenFile (codes "s") (codes "f") kind.Write (mode_of 4)), codes "0 open-file s f w truncate") ∷ (
      event.App 0 (call.OpenFile (codes "s") (codes "f") kind.Write (mode_of 5)),
      codes "0 open-file s f w begin+truncate",
    ) ∷
    (event.App 0 (call.OpenFile (codes "s") (codes "f") kind.Write (mode_of 6)), codes "0 open-file s f w end+truncate")
    ∷ (
      event.App 0 (call.OpenFile (codes "s") (codes "f") kind.Write (mode_of 7)),
      codes "0 open-file s f w begin+end+truncate",
    ) ∷
    (event.App 0 (call.OpenFile (codes "s") (codes "f") kind.Write (mode_of 8)), codes "0 open-file s f w append") ∷
    (event.App 0 (call.OpenFile (codes "s") (codes "f") kind.Write (mode_of 9)), codes "0 open-file s f w begin+append")
    ∷
    (event.App 0 (call.OpenFile (codes "s") (codes "f") kind.Write (mode_of 10)), codes "0 open-file s f w end+append")
    ∷ (
      event.App 0 (call.OpenFile (codes "s") (codes "f") kind.Write (mode_of 11)),
      codes "0 open-file s f w begin+end+append",
    ) ∷ (
      event.App 0 (call.OpenFile (codes "s") (codes "f") kind.Write (mode_of 12)),
      codes "0 open-file s f w truncate+append",
    ) ∷ (
      event.App 0 (call.OpenFile (codes "s") (codes "f") kind.Write (mode_of 13)),
      codes "0 open-file s f w begin+truncate+append",
    ) ∷ (
      event.App 0 (call.OpenFile (codes "s") (codes "f") kind.Write (mode_of 14)),
      codes "0 open-file s f w end+truncate+append",
    ) ∷ (
      event.App 0 (call.OpenFile (codes "s") (codes "f") kind.Write (mode_of 15)),
      codes "0 open-file s f w begin+end+truncate+append",
    ) ∷
    (event.App 0 (call.OpenFile (codes "s") (codes "f") kind.ReadWrite (mode_of 0)), codes "0 open-file s f rw none") ∷
    (event.App 0 (call.OpenFile (codes "s") (codes "f") kind.ReadWrite (mode_of 1)), codes "0 open-file s f rw begin") ∷
    (event.App 0 (call.OpenFile (codes "s") (codes "f") kind.ReadWrite (mode_of 2)), codes "0 open-file s f rw end") ∷ (
      event.App 0 (call.OpenFile (codes "s") (codes "f") kind.ReadWrite (mode_of 3)),
      codes "0 open-file s f rw begin+end",
    ) ∷ (
      event.App 0 (call.OpenFile (codes "s") (codes "f") kind.ReadWrite (mode_of 4)),
      codes "0 open-file s f rw truncate",
    ) ∷ (
      event.App 0 (call.OpenFile (codes "s") (codes "f") kind.ReadWrite (mode_of 5)),
      codes "0 open-file s f rw begin+truncate",
    ) ∷ (
      event.App 0 (call.OpenFile (codes "s") (codes "f") kind.ReadWrite (mode_of 6)),
      codes "0 open-file s f rw end+truncate",
    ) ∷ (
      event.App 0 (call.OpenFile (codes "s") (codes "f") kind.ReadWrite (mode_of 7)),
      codes "0 open-file s f rw begin+end+truncate",
    ) ∷
    (event.App 0 (call.OpenFile (codes "s") (codes "f") kind.ReadWrite (mode_of 8)), codes "0 open-file s f rw append")
    ∷ (
      event.App 0 (call.OpenFile (codes "s") (codes "f") kind.ReadWrite (mode_of 9)),
      codes "0 open-file s f rw begin+append",
    ) ∷ (
      event.App 0 (call.OpenFile (codes "s") (codes "f") kind.ReadWrite (mode_of 10)),
      codes "0 open-file s f rw end+append",
    ) ∷ (
      event.App 0 (call.OpenFile (codes "s") (codes "f") kind.ReadWrite (mode_of 11)),
      codes "0 open-file s f rw begin+end+append",
    ) ∷ (
      event.App 0 (call.OpenFile (codes "s") (codes "f") kind.ReadWrite (mode_of 12)),
      codes "0 open-file s f rw truncate+append",
    ) ∷ (
      event.App 0 (call.OpenFile (codes "s") (codes "f") kind.ReadWrite (mode_of 13)),
      codes "0 open-file s f rw begin+truncate+append",
    ) ∷ (
      event.App 0 (call.OpenFile (codes "s") (codes "f") kind.ReadWrite (mode_of 14)),
      codes "0 open-file s f rw end+truncate+append",
    ) ∷ (
      event.App 0 (call.OpenFile (codes "s") (codes "f") kind.ReadWrite (mode_of 15)),
      codes "0 open-file s f rw begin+end+truncate+append",
    ) ∷
    (event.App 0 (call.Install (255 ∷ [])), 48 ∷ 32 ∷ 105 ∷ 110 ∷ 115 ∷ 116 ∷ 97 ∷ 108 ∷ 108 ∷ 32 ∷ 255 ∷ []) ∷
    []

lines : map (λ (row : Event × List ℕ). line_of row.0) rows ≡ map (λ (row : Event × List ℕ). row.1) rows
unfolding digits
lines = refl
