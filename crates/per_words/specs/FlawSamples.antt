-- What a call needs, and where lines stop being lines, computed.
use Rattle.std.specs.Prelude.{◌≡◌, map, codes, Some, None}
use Rattle.std.proofs.Common.{refl}
use Rattle.value_text.specs.Parsing.{scalar_at, scalar_tree_at, tree_at, tree_here, tree_in, value_in}
use Rattle.value_text.specs.Readers.{number_at, number_of, unsigned_at}
use Rattle.value_text.specs.Whole.{unsigned_in}
use Rattle.command_text.specs.Grammar.{Argument, form}
use Rattle.command_text.specs.Grammar as grammar
use Rattle.command_text.specs.declared.calls.Call.{Call}
use Rattle.command_text.specs.declared.calls.Call.TheVariants as call
use Rattle.per_words.specs.Flaws.{flaw_in, needed_after}
use Rattle.per_words.specs.declared.needs.Needed.{Needed}
use Rattle.per_words.specs.declared.needs.Needed.TheVariants as needed

-- what is needed where this argument stands
abbrev pub needed_of : Argument → Needed
needed_of (grammar.name text) = needed.Name
needed_of (grammar.handle h) = needed.Handle
needed_of (grammar.number n) = needed.Number
needed_of (grammar.type k) = needed.TypeText
needed_of (grammar.value v) = needed.ValueText
needed_of (grammar.octets bytes) = needed.Octets
needed_of (grammar.one_byte b) = needed.Octet
needed_of (grammar.manifest text) = needed.Manifest
needed_of (grammar.open_kind k) = needed.OpenKind
needed_of (grammar.open_mode m) = needed.OpenMode
needed_of (grammar.counted_from o) = needed.Origin
needed_of (grammar.offset z) = needed.Offset

-- of each call what is needed is what its line spells
takes_as_spelled : (c : Call) → needed_after (form c).0 ≡ Some (map needed_of (form c).1)
takes_as_spelled call.Status = refl
takes_as_spelled (call.Install j) = refl
takes_as_spelled (call.Update j) = refl
takes_as_spelled call.Finish = refl
takes_as_spelled call.Rollback = refl
takes_as_spelled call.Wipe = refl
takes_as_spelled (call.UpdateBegin j) = refl
takes_as_spelled call.UpdateNext = refl
takes_as_spelled call.UpdateCommit = refl
takes_as_spelled call.UpdateAbort = refl
takes_as_spelled (call.OpenKvs s) = refl
takes_as_spelled (call.OpenFiles s) = refl
takes_as_spelled (call.Close s) = refl
takes_as_spelled (call.Size s) = refl
takes_as_spelled (call.RecoverStorage s) = refl
takes_as_spelled (call.ResetStorage s) = refl
takes_as_spelled (call.Keys s) = refl
takes_as_spelled (call.Exists s k) = refl
takes_as_spelled (call.Get s k) = refl
takes_as_spelled (call.GetAs s k t) = refl
takes_as_spelled (call.Set s k v) = refl
takes_as_spelled (call.Remove s k) = refl
takes_as_spelled (call.RemoveAll s) = refl
takes_as_spelled (call.RecoverKey s k) = refl
takes_as_spelled (call.ResetKey s k) = refl
takes_as_spelled (call.Sync s) = refl
takes_as_spelled (call.Discard s) = refl
takes_as_spelled (call.Files s) = refl
takes_as_spelled (call.FileExists s f) = refl
takes_as_spelled (call.OpenFile s f k m) = refl
takes_as_spelled (call.CloseFile s h) = refl
takes_as_spelled (call.Peek s h) = refl
takes_as_spelled (call.Byte s h) = refl
takes_as_spelled (call.Read s h n) = refl
takes_as_spelled (call.ReadAll s h) = refl
takes_as_spelled (call.Line s h d) = refl
takes_as_spelled (call.Write s h b) = refl
takes_as_spelled (call.SetSize s h n) = refl
takes_as_spelled (call.HandleSize s h) = refl
takes_as_spelled (call.Position s h) = refl
takes_as_spelled (call.Seek s h n) = refl
takes_as_spelled (call.Move s h o z) = refl
takes_as_spelled (call.Eof s h) = refl
takes_as_spelled (call.Flush s h) = refl
takes_as_spelled (call.SizeOf s f) = refl
takes_as_spelled (call.Info s f) = refl
takes_as_spelled (call.Delete s f) = refl
takes_as_spelled (call.RecoverFile s f) = refl
takes_as_spelled (call.ResetFile s f) = refl
takes_as_spelled (call.Cat s f) = refl
takes_as_spelled (call.Put s f b) = refl

no_application : flaw_in (codes "8 status") ≡ Some (record { needed = needed.Application; column = 1 })
no_application = refl

no_call : flaw_in (codes "0 stat") ≡ Some (record { needed = needed.CallWord; column = 3 })
no_call = refl

-- of two spaces the second stands where a call is needed
two_spaces : flaw_in (codes "0  status") ≡ Some (record { needed = needed.CallWord; column = 3 })
two_spaces = refl

no_name : flaw_in (codes "0 get k") ≡ Some (record { needed = needed.Name; column = 8 })
no_name = refl

no_value : flaw_in (codes "0 set k a 35") ≡ Some (record { needed = needed.ValueText; column = 11 })
unfolding value_in tree_in tree_at tree_here scalar_tree_at scalar_at
no_value = refl

too_many : flaw_in (codes "0 get k a b") ≡ Some (record { needed = needed.End; column = 10 })
too_many = refl

no_moment : flaw_in (codes "now -1") ≡ Some (record { needed = needed.Number; column = 5 })
unfolding unsigned_in unsigned_at number_at number_of
no_moment = refl

past_the_end : flaw_in (codes "end ") ≡ Some (record { needed = needed.End; column = 4 })
past_the_end = refl

no_flaw : flaw_in (codes "0 get k a") ≡ None
no_flaw = refl
