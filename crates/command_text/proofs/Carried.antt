-- A call that neither writes by a handle nor puts a file carries no bytes.
use Rattle.std.specs.Prelude.{◌≡◌, ◌≢◌, ℕ, List, None, refl}
use Rattle.command_text.specs.declared.calls.Call.{Call}
use Rattle.command_text.specs.declared.calls.Call.TheVariants as call
use Rattle.command_text.specs.Carried.{call_bytes}

pub no_bytes : (c : Call) → ((s : List ℕ) (h : ℕ) (b : List ℕ) → c ≢ call.Write s h b)
    → ((s n b : List ℕ) → c ≢ call.Put s n b) → call_bytes c ≡ None
no_bytes call.Status w p = refl
no_bytes (call.Install _) w p = refl
no_bytes (call.Update _) w p = refl
no_bytes call.Finish w p = refl
no_bytes call.Rollback w p = refl
no_bytes call.Wipe w p = refl
no_bytes (call.UpdateBegin _) w p = refl
no_bytes call.UpdateNext w p = refl
no_bytes call.UpdateCommit w p = refl
no_bytes call.UpdateAbort w p = refl
no_bytes (call.OpenKvs _) w p = refl
no_bytes (call.OpenFiles _) w p = refl
no_bytes (call.Close _) w p = refl
no_bytes (call.Size _) w p = refl
no_bytes (call.RecoverStorage _) w p = refl
no_bytes (call.ResetStorage _) w p = refl
no_bytes (call.Keys _) w p = refl
no_bytes (call.Exists _ _) w p = refl
no_bytes (call.Get _ _) w p = refl
no_bytes (call.GetAs _ _ _) w p = refl
no_bytes (call.Set _ _ _) w p = refl
no_bytes (call.Remove _ _) w p = refl
no_bytes (call.RemoveAll _) w p = refl
no_bytes (call.RecoverKey _ _) w p = refl
no_bytes (call.ResetKey _ _) w p = refl
no_bytes (call.Sync _) w p = refl
no_bytes (call.Discard _) w p = refl
no_bytes (call.Files _) w p = refl
no_bytes (call.FileExists _ _) w p = refl
no_bytes (call.OpenFile _ _ _ _) w p = refl
no_bytes (call.CloseFile _ _) w p = refl
no_bytes (call.Peek _ _) w p = refl
no_bytes (call.Byte _ _) w p = refl
no_bytes (call.Read _ _ _) w p = refl
no_bytes (call.ReadAll _ _) w p = refl
no_bytes (call.Line _ _ _) w p = refl
no_bytes (call.Write s h b) w p = absurd (w s h b refl)
no_bytes (call.SetSize _ _ _) w p = refl
no_bytes (call.HandleSize _ _) w p = refl
no_bytes (call.Position _ _) w p = refl
no_bytes (call.Seek _ _ _) w p = refl
no_bytes (call.Move _ _ _ _) w p = refl
no_bytes (call.Eof _ _) w p = refl
no_bytes (call.Flush _ _) w p = refl
no_bytes (call.SizeOf _ _) w p = refl
no_bytes (call.Info _ _) w p = refl
no_bytes (call.Delete _ _) w p = refl
no_bytes (call.RecoverFile _ _) w p = refl
no_bytes (call.ResetFile _ _) w p = refl
no_bytes (call.Cat _ _) w p = refl
no_bytes (call.Put s n b) w p = absurd (p s n b refl)
