-- Calls: what is read is spelled so and right, row by row; and what is right and spelled so is read, call by call.
use Rattle.std.proofs.Common.{◌≡◌, ℕ, ◌^◌, List, [], ◌∷◌, ◌++◌, Some, None, inl, inr, refl, sym, ◌∙◌, arith}
use Rattle.std.specs.Prelude.{codes}
use Rattle.std.specs.List.{AllByRecursion}
use Rattle.std.specs.Fmt.{decimal, signed_decimal}
use Rattle.per_base.specs.Fields.{◌>>=◌}
use Rattle.value_text.specs.Parsing.{kind_in, value_in}
use Rattle.value_text.specs.Texts.{type_text, value_text, hex_text, hex_byte_text}
use Rattle.value_text.specs.Whole.{unsigned_in, bytes_in}
use Rattle.value_text.specs.lemmas.Public.{kind_in_takes, kind_in_again, value_in_takes, value_in_again}
use Rattle.value_text.specs.lemmas.Steps.{branch_some}
use Rattle.value_text.specs.lemmas.WholeLaws.{unsigned_in_takes, unsigned_in_again, bytes_in_takes, bytes_in_again}
use Rattle.command_text.specs.declared.calls.Call.{Call}
use Rattle.command_text.specs.declared.calls.Call.TheVariants as call
use Rattle.command_text.specs.Grammar.{type, value, octets, one_byte, number, open_kind, open_mode, counted_from}
use Rattle.command_text.specs.Grammar.{offset, kind_text, mode_text, origin_text, IsArgument, form, form_text}
use Rattle.command_text.specs.Reading.{split, manifest_in, bare_calls, manifest_calls, storage_calls, element_calls}
use Rattle.command_text.specs.Reading.{handle_calls, handle_number_calls, name_in, octet_in, element_in, handle_in}
use Rattle.command_text.specs.Reading.{handle_front, opening_in, distance_in, bare_call, manifest_call, storage_call}
use Rattle.command_text.specs.Reading.{element_call, detail_call, handle_call, handle_number_call, handle_bytes_call}
use Rattle.command_text.specs.Reading.{move_call, call_in}
use Rattle.command_text.proofs.ArgumentLaws.{name_again, manifest_again, octet_takes, octet_again, element_again}
use Rattle.command_text.proofs.ArgumentLaws.{handle_again, element_front_again, handle_front_again, opening_takes}
use Rattle.command_text.proofs.ArgumentLaws.{opening_again, distance_takes, distance_again, first_row_takes}
use Rattle.command_text.proofs.Splits.{split_takes}
use Rattle.command_text.proofs.Shapes.{IsCall, Further, pick_takes, word_takes, manifest_row, storage_row, element_row}
use Rattle.command_text.proofs.Shapes.{handle_row, detail_row, handle_detail_row}

-- ---- the arguments after a storage and a name, or a storage and a handle

a_number : Further (unsigned_in (2 ^ 64)) (λ n. number n ∷ []) decimal
a_number = record {
  spelled = λ rest n e. (unsigned_in_takes (2 ^ 64) rest n e).0;
  right =
      λ rest n e. ((unsigned_in_takes (2 ^ 64) rest n e).1, tt);
  joined = λ word f g n. refl;
}

a_byte : Further octet_in (λ b. one_byte b ∷ []) hex_byte_text
a_byte = record {
  spelled = λ rest b e. (octet_takes rest b e).0;
  right =
      λ rest b e. ((octet_takes rest b e).1, tt);
  joined = λ word f g b. refl;
}

some_bytes : Further bytes_in (λ b. octets b ∷ []) hex_text
some_bytes = record {
  spelled = λ rest b e. (bytes_in_takes rest b e).0;
  right =
      λ rest b e. ((bytes_in_takes rest b e).1, tt);
  joined = λ word f g b. refl;
}

a_type : Further kind_in (λ k. type k ∷ []) type_text
a_type = record {
  spelled = λ rest k e. (kind_in_takes rest k e).1;
  right =
      λ rest k e. ((kind_in_takes rest k e).0, tt);
  joined = λ word f g k. refl;
}

a_value : Further value_in (λ v. value v ∷ []) value_text
a_value = record {
  spelled = λ rest v e. (value_in_takes rest v e).1;
  right =
      λ rest v e. ((value_in_takes rest v e).0, tt);
  joined = λ word f g v. refl;
}

an_opening : Further opening_in (λ x. open_kind x.0 ∷ open_mode x.1 ∷ []) (λ x. kind_text x.0 ++ 32 ∷ mode_text x.1)
an_opening = record {
  spelled = λ rest x e. (opening_takes rest x e).0;
  right =
      λ rest x e. (tt, ((opening_takes rest x e).1, tt));
  joined = λ word f g x. refl;
}

a_distance : Further distance_in (λ x. counted_from x.0 ∷ offset x.1 ∷ [])
    (λ x. origin_text x.0 ++ 32 ∷ signed_decimal x.1)
a_distance = record {
  spelled = λ rest x e. (distance_takes rest x e).0;
  right =
      λ rest x e. (tt, ((distance_takes rest x e).1, tt));
  joined = λ word f g x. refl;
}

-- ---- what is read is spelled so

move_takes : (word text : List ℕ) (c : Call) → move_call word text ≡ Some c → IsCall word text c
unfolding move_call
move_takes word text c e =
    word_takes text (codes "move") _ (handle_detail_row distance_in _ _ a_distance (codes "move")
    (λ s h x. call.Move s h x.0 x.1) (λ s h x. refl) text) word None c (λ none. absurd cc) e

handle_bytes_takes : (word text : List ℕ) (c : Call) → handle_bytes_call word text ≡ Some c → IsCall word text c
unfolding handle_bytes_call
handle_bytes_takes word text c e =
    word_takes text (codes "line") _ (handle_detail_row octet_in _ _ a_byte (codes "line") call.Line (λ s h x. refl)
    text) word _ c
    (word_takes text (codes "write") _ (handle_detail_row bytes_in _ _ some_bytes (codes "write") call.Write
    (λ s h x. refl) text) word _ c (move_takes word text c)) e

handle_number_takes : (word text : List ℕ) (c : Call) → handle_number_call word text ≡ Some c → IsCall word text c
unfolding handle_number_call
handle_number_takes word text c e =
    pick_takes text (λ make. handle_front text >>= λ x. unsigned_in (2 ^ 64) x.2 >>= λ number.
    Some (make x.0 x.1 number)) handle_number_calls (
      handle_detail_row (unsigned_in (2 ^ 64)) _ _ a_number (codes "read") call.Read (λ s h n. refl) text,
      (
        handle_detail_row (unsigned_in (2 ^ 64)) _ _ a_number (codes "set-size") call.SetSize (λ s h n. refl) text,
        (
          handle_detail_row (unsigned_in (2 ^ 64)) _ _ a_number (codes "seek") call.Seek (λ s h n. refl) text,
          tt,
        ),
      ),
    ) word _ c (handle_bytes_takes word text c) e

handle_call_takes : (word text : List ℕ) (c : Call) → handle_call word text ≡ Some c → IsCall word text c
unfolding handle_call
handle_call_takes word text c e =
    pick_takes text (λ make. handle_in text >>= λ x. Some (make x.0 x.1)) handle_calls (
      handle_row (codes "close-file") call.CloseFile (λ s h. refl) text,
      (
        handle_row (codes "peek") call.Peek (λ s h. refl) text,
        (
          handle_row (codes "byte") call.Byte (λ s h. refl) text,
          (
            handle_row (codes "read-all") call.ReadAll (λ s h. refl) text,
            (
              handle_row (codes "handle-size") call.HandleSize (λ s h. refl) text,
              (
                handle_row (codes "position") call.Position (λ s h. refl) text,
                (
                  handle_row (codes "eof") call.Eof (λ s h. refl) text,
                  (
                    handle_row (codes "flush") call.Flush (λ s h. refl) text,
                    tt,
                  ),
                ),
              ),
            ),
          ),
        ),
      ),
    ) word _ c (handle_number_takes word text c) e

detail_takes : (word text : List ℕ) (c : Call) → detail_call word text ≡ Some c → IsCall word text c
unfolding detail_call
detail_takes word text c e =
    word_takes text (codes "get-as") _ (detail_row kind_in _ _ a_type (codes "get-as") call.GetAs (λ s k x. refl) text)
    word _ c
    (word_takes text (codes "set") _ (detail_row value_in _ _ a_value (codes "set") call.Set (λ s k x. refl) text) word
    _ c
    (word_takes text (codes "open-file") _ (detail_row opening_in _ _ an_opening (codes "open-file")
    (λ s k x. call.OpenFile s k x.0 x.1) (λ s k x. refl) text) word _ c
    (word_takes text (codes "put") _ (detail_row bytes_in _ _ some_bytes (codes "put") call.Put (λ s k x. refl) text)
    word _ c (handle_call_takes word text c)))) e

element_call_takes : (word text : List ℕ) (c : Call) → element_call word text ≡ Some c → IsCall word text c
unfolding element_call
element_call_takes word text c e =
    pick_takes text (λ make. element_in text >>= λ x. Some (make x.0 x.1)) element_calls (
      element_row (codes "exists") call.Exists (λ s k. refl) text,
      (
        element_row (codes "get") call.Get (λ s k. refl) text,
        (
          element_row (codes "remove") call.Remove (λ s k. refl) text,
          (
            element_row (codes "recover-key") call.RecoverKey (λ s k. refl) text,
            (
              element_row (codes "reset-key") call.ResetKey (λ s k. refl) text,
              (
                element_row (codes "file-exists") call.FileExists (λ s k. refl) text,
                (
                  element_row (codes "size-of") call.SizeOf (λ s k. refl) text,
                  (
                    element_row (codes "info") call.Info (λ s k. refl) text,
                    (
                      element_row (codes "delete") call.Delete (λ s k. refl) text,
                      (
                        element_row (codes "recover-file") call.RecoverFile (λ s k. refl) text,
                        (
                          element_row (codes "reset-file") call.ResetFile (λ s k. refl) text,
                          (
                            element_row (codes "cat") call.Cat (λ s k. refl) text,
                            tt,
                          ),
                        ),
                      ),
                    ),
                  ),
                ),
              ),
            ),
          ),
        ),
      ),
    ) word _ c (detail_takes word text c) e

storage_call_takes : (word text : List ℕ) (c : Call) → storage_call word text ≡ Some c → IsCall word text c
unfolding storage_call
storage_call_takes word text c e =
    pick_takes text (λ make. name_in text >>= λ s. Some (make s)) storage_calls (
      storage_row (codes "open-kvs") call.OpenKvs (λ s. refl) text,
      (
        storage_row (codes "open-files") call.OpenFiles (λ s. refl) text,
        (
          storage_row (codes "close") call.Close (λ s. refl) text,
          (
            storage_row (codes "size") call.Size (λ s. refl) text,
            (
              storage_row (codes "recover-storage") call.RecoverStorage (λ s. refl) text,
              (
                storage_row (codes "reset-storage") call.ResetStorage (λ s. refl) text,
                (
                  storage_row (codes "keys") call.Keys (λ s. refl) text,
                  (
                    storage_row (codes "remove-all") call.RemoveAll (λ s. refl) text,
                    (
                      storage_row (codes "sync") call.Sync (λ s. refl) text,
                      (
                        storage_row (codes "discard") call.Discard (λ s. refl) text,
                        (
                          storage_row (codes "files") call.Files (λ s. refl) text,
                          tt,
                        ),
                      ),
                    ),
                  ),
                ),
              ),
            ),
          ),
        ),
      ),
    ) word _ c (element_call_takes word text c) e

manifest_call_takes : (word text : List ℕ) (c : Call) → manifest_call word text ≡ Some c → IsCall word text c
unfolding manifest_call
manifest_call_takes word text c e =
    pick_takes text (λ make. manifest_in text >>= λ j. Some (make j)) manifest_calls (
      manifest_row (codes "install") call.Install (λ j. refl) text,
      (
        manifest_row (codes "update") call.Update (λ j. refl) text,
        (
          manifest_row (codes "update-begin") call.UpdateBegin (λ j. refl) text,
          tt,
        ),
      ),
    ) word _ c (storage_call_takes word text c) e

-- the text spells this call
abbrev pub IsCallText : List ℕ → Call → Type 0
IsCallText text c = (form_text (form c) ≡ text) × AllByRecursion IsArgument (form c).1

bare_takes : (text : List ℕ) (c : Call) → bare_call text ≡ Some c → IsCallText text c
unfolding bare_call
bare_takes text c e = first_row_takes IsCallText bare_calls
    ((refl, tt), ((refl, tt), ((refl, tt), ((refl, tt), ((refl, tt), ((refl, tt), ((refl, tt), tt))))))) text c e

pub call_takes : (text : List ℕ) (c : Call) → call_in text ≡ Some c → IsCallText text c
unfolding call_in
call_takes text c e =
    elim (branch_some (split text) (λ parts. manifest_call parts.0 parts.1) (bare_call text) c e) [
      | inl p ↦ let said = manifest_call_takes p.0.0 p.0.1 c p.2 in (said.0 ∙ sym (split_takes text p.0 p.1), said.1)
      | inr p ↦ bare_takes text c p.1
    ]

-- ---- what is spelled so is read

pub call_again : (c : Call) → AllByRecursion IsArgument (form c).1 → call_in (form_text (form c)) ≡ Some c
unfolding call_in bare_call manifest_call storage_call element_call detail_call handle_call handle_number_call
    handle_bytes_call move_call
call_again call.Status p = refl
call_again call.Finish p = refl
call_again call.Rollback p = refl
call_again call.Wipe p = refl
call_again call.UpdateNext p = refl
call_again call.UpdateCommit p = refl
call_again call.UpdateAbort p = refl
call_again (call.Install j) p = rw (manifest_again j p.0.0 p.0.1) refl
call_again (call.Update j) p = rw (manifest_again j p.0.0 p.0.1) refl
call_again (call.UpdateBegin j) p = rw (manifest_again j p.0.0 p.0.1) refl
call_again (call.OpenKvs s) p = rw (name_again s p.0) refl
call_again (call.OpenFiles s) p = rw (name_again s p.0) refl
call_again (call.Close s) p = rw (name_again s p.0) refl
call_again (call.Size s) p = rw (name_again s p.0) refl
call_again (call.RecoverStorage s) p = rw (name_again s p.0) refl
call_again (call.ResetStorage s) p = rw (name_again s p.0) refl
call_again (call.Keys s) p = rw (name_again s p.0) refl
call_again (call.RemoveAll s) p = rw (name_again s p.0) refl
call_again (call.Sync s) p = rw (name_again s p.0) refl
call_again (call.Discard s) p = rw (name_again s p.0) refl
call_again (call.Files s) p = rw (name_again s p.0) refl
call_again (call.Exists s k) p = rw (element_again s k p.0 p.1.0) refl
call_again (call.Get s k) p = rw (element_again s k p.0 p.1.0) refl
call_again (call.Remove s k) p = rw (element_again s k p.0 p.1.0) refl
call_again (call.RecoverKey s k) p = rw (element_again s k p.0 p.1.0) refl
call_again (call.ResetKey s k) p = rw (element_again s k p.0 p.1.0) refl
call_again (call.FileExists s k) p = rw (element_again s k p.0 p.1.0) refl
call_again (call.SizeOf s k) p = rw (element_again s k p.0 p.1.0) refl
call_again (call.Info s k) p = rw (element_again s k p.0 p.1.0) refl
call_again (call.Delete s k) p = rw (element_again s k p.0 p.1.0) refl
call_again (call.RecoverFile s k) p = rw (element_again s k p.0 p.1.0) refl
call_again (call.ResetFile s k) p = rw (element_again s k p.0 p.1.0) refl
call_again (call.Cat s k) p = rw (element_again s k p.0 p.1.0) refl
call_again (call.GetAs s k t) p = rw (element_front_again s k (type_text t) p.0 p.1.0, kind_in_again t p.1.1.0) refl
call_again (call.Set s k v) p = rw (element_front_again s k (value_text v) p.0 p.1.0, value_in_again v p.1.1.0) refl
call_again (call.OpenFile s f k m) p = rw (
  element_front_again s f (kind_text k ++ 32 ∷ mode_text m) p.0 p.1.0,
  opening_again k m p.1.1.1.0,
) refl
call_again (call.Put s f b) p = rw (element_front_again s f (hex_text b) p.0 p.1.0, bytes_in_again b p.1.1.0) refl
call_again (call.CloseFile s h) p = rw (handle_again s h p.0 p.1.0) refl
call_again (call.Peek s h) p = rw (handle_again s h p.0 p.1.0) refl
call_again (call.Byte s h) p = rw (handle_again s h p.0 p.1.0) refl
call_again (call.ReadAll s h) p = rw (handle_again s h p.0 p.1.0) refl
call_again (call.HandleSize s h) p = rw (handle_again s h p.0 p.1.0) refl
call_again (call.Position s h) p = rw (handle_again s h p.0 p.1.0) refl
call_again (call.Eof s h) p = rw (handle_again s h p.0 p.1.0) refl
call_again (call.Flush s h) p = rw (handle_again s h p.0 p.1.0) refl
call_again (call.Read s h n) p = rw (
  handle_front_again s h (decimal n) p.0 p.1.0,
  unsigned_in_again (2 ^ 64) n (omega arith) p.1.1.0,
) refl
call_again (call.SetSize s h n) p = rw (
  handle_front_again s h (decimal n) p.0 p.1.0,
  unsigned_in_again (2 ^ 64) n (omega arith) p.1.1.0,
) refl
call_again (call.Seek s h n) p = rw (
  handle_front_again s h (decimal n) p.0 p.1.0,
  unsigned_in_again (2 ^ 64) n (omega arith) p.1.1.0,
) refl
call_again (call.Line s h d) p = rw (handle_front_again s h (hex_byte_text d) p.0 p.1.0, octet_again d p.1.1.0) refl
call_again (call.Write s h b) p = rw (handle_front_again s h (hex_text b) p.0 p.1.0, bytes_in_again b p.1.1.0) refl
call_again (call.Move s h o z) p = rw (
  handle_front_again s h (origin_text o ++ 32 ∷ signed_decimal z) p.0 p.1.0,
  distance_again o z p.1.1.1.0,
) refl
