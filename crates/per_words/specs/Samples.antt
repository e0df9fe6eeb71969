-- Lines of calls and what is shown of answers, computed.
use Rattle.std.specs.Prelude.{◌≡◌, ℕ, List, [], ◌∷◌, ◌++◌, map, codes, Some, None, true, false}
use Rattle.std.specs.Fmt.{digits}
use Rattle.std.specs.List.{flat_map}
use Rattle.std.proofs.Common.{refl}
use Rattle.per_base.specs.declared.elements.FileInfo.{FileInfo}
use Rattle.per_base.specs.declared.errors.PerError.TheVariants as error
use Rattle.value_model.specs.Trees.{Tree}
use Rattle.value_text.specs.Texts.{value_text, hex_text, hex_byte_text}
use Rattle.command_text.specs.Replies.{answer_text, info_text, status_text}
use Rattle.command_text.specs.declared.replies.Answer.TheVariants as answer
use Rattle.command_text.specs.declared.replies.AppStatus.{AppStatus}
use Rattle.per_words.specs.Apart.{asks_for, named_words, options_in, unknown_in}
use Rattle.per_words.specs.Quoted.{dir_option, quoted}
use Rattle.per_words.specs.Screens.{broken}
use Rattle.per_words.specs.declared.showing.Shown.TheVariants as shown
use Rattle.per_words.specs.declared.words.WordRole.TheVariants as reading
use Rattle.per_words.specs.Shown.{ended, shown_in}
use Rattle.per_words.specs.Words.{call_lines, content_lines, fed_lines, file_lines, manifest_lines}

set_lines : call_lines (codes "set") (codes "0:k") (codes "a" ∷ codes "u8:1" ∷ [])
    ≡ Some (codes "0 open-kvs k" ∷ codes "0 set k a u8:1" ∷ codes "0 sync k" ∷ [])
set_lines = refl

ls_lines : call_lines (codes "ls") (codes "7:maps") []
    ≡ Some (codes "7 open-files maps" ∷ codes "7 files maps" ∷ [])
ls_lines = refl

status_lines : call_lines (codes "status") (codes "3") [] ≡ Some (codes "3 status" ∷ [])
status_lines = refl

reset_lines : call_lines (codes "reset-storage") (codes "0:k") [] ≡ Some (codes "0 reset-storage k" ∷ [])
reset_lines = refl

-- an application alone has no keys, there is no ninth one, and what is no call has no lines
no_lines : call_lines (codes "get") (codes "0") (codes "a" ∷ []) ≡ None
no_lines = refl

ninth : call_lines (codes "get") (codes "8:k") (codes "a" ∷ []) ≡ None
ninth = refl

no_call : call_lines (codes "sync") (codes "0:k") [] ≡ None
no_call = refl

put_lines : content_lines (codes "0:f") (codes "a") ((0 ∷ 255 ∷ []) ∷ [])
    ≡ Some (codes "0 open-files f" ∷ codes "0 put f a 00ff" ∷ codes "0 close f" ∷ [])
unfolding file_lines
put_lines = refl

write_lines : content_lines (codes "0:f") (codes "a") ((0 ∷ []) ∷ (255 ∷ []) ∷ [])
    ≡ Some (codes "0 open-files f" ∷ codes "0 open-file f a w truncate" ∷ codes "0 write f 1 00"
    ∷ codes "0 write f 1 ff" ∷ codes "0 close-file f 1" ∷ codes "0 close f" ∷ [])
unfolding file_lines
write_lines = refl

install_lines : manifest_lines (codes "install") (codes "0") (codes "{\n\"version\":1}\n")
    ≡ Some (codes "0 install {\t\"version\":1}\t" ∷ [])
install_lines = refl

two_fed : fed_lines (codes "0 open-kvs k" ∷ codes "0 keys k" ∷ []) ≡ codes "0 open-kvs k\n0 keys k\n"
two_fed = refl

-- ---- words of a shell

-- after the end of the options a word is an operand
operands : named_words reading.Word
    (codes "get" ∷ codes "--dir" ∷ codes "d" ∷ codes "0:k" ∷ codes "--" ∷ codes "--x" ∷ codes "--" ∷ [])
    ≡ codes "get" ∷ codes "0:k" ∷ codes "--x" ∷ codes "--" ∷ []
operands = refl

no_option : options_in reading.Word (codes "--dir" ∷ codes "--" ∷ codes "--" ∷ codes "--x" ∷ [])
    ≡ codes "--dir" ∷ codes "--" ∷ []
no_option = refl

no_help : asks_for (codes "--help") reading.Word (codes "get" ∷ codes "--" ∷ codes "--help" ∷ []) ≡ false
no_help = refl

version : asks_for (codes "--version") reading.Word (codes "--dir" ∷ codes "d" ∷ codes "--version" ∷ []) ≡ true
version = refl

no_run : unknown_in reading.Word (codes "--dir" ∷ codes "d" ∷ codes "--" ∷ codes "--audit" ∷ [])
    ≡ Some (codes "--audit")
no_run = refl

no_quotes : quoted (codes "/tmp/tmp.x_1") ≡ codes "/tmp/tmp.x_1"
no_quotes = refl

quotes : quoted (codes "it's a b") ≡ codes "'it'\\''s a b'"
quotes = refl

-- a folder whose name begins with a dash, and another
after_sign : dir_option (codes "--y z") ≡ codes "--dir='--y z'"
after_sign = refl

after_space : dir_option (codes "y--") ≡ codes "--dir y--"
after_space = refl

-- ---- a screen

-- a word ends in the last column, and one that would pass it begins a row
two_rows : broken 73 (codes " as u8:1 more") ≡ codes " as\n     u8:1 more"
two_rows = refl

one_row : broken 72 (codes " as u8:1") ≡ codes " as u8:1"
one_row = refl

-- ---- of every answer

value_shown : (v : Tree) → shown_in (answer_text (answer.Val v)) ≡ (shown.Text, value_text v)
value_shown v = refl

info_shown : (i : FileInfo) → shown_in (answer_text (answer.Info i)) ≡ (shown.Text, info_text i)
info_shown i = refl

status_shown : (s : AppStatus) → shown_in (answer_text (answer.Status s)) ≡ (shown.Text, status_text s)
status_shown s = refl

byte_shown : (b : ℕ) → shown_in (answer_text (answer.Byte b)) ≡ (shown.Text, hex_byte_text b)
byte_shown b = refl

octets_shown : (b : ℕ) (bytes : List ℕ)
    → shown_in (answer_text (answer.Octets (b ∷ bytes))) ≡ (shown.Octets, hex_text (b ∷ bytes))
octets_shown b bytes = refl

names_shown : (name : List ℕ) (names : List (List ℕ))
    → shown_in (answer_text (answer.Names (name ∷ names))) ≡ (shown.Names, name ++ flat_map (λ n. 32 ∷ n) names)
names_shown name names = refl

truth_shown : shown_in (answer_text (answer.Truth true)) ≡ (shown.Text, codes "yes")
truth_shown = refl

done_shown : shown_in (answer_text answer.Done) ≡ (shown.Nothing, codes "ok")
done_shown = refl

no_names_shown : shown_in (answer_text (answer.Names [])) ≡ (shown.Nothing, codes "names")
no_names_shown = refl

refused_shown : shown_in (answer_text (answer.Error error.KeyNotFound)) ≡ (shown.Refused, codes "error 2 KeyNotFound")
unfolding digits
refused_shown = refl

failed_shown : shown_in (answer_text (answer.Error error.PhysicalStorageFailure))
    ≡ (shown.Failed, codes "error 4 PhysicalStorageFailure")
unfolding digits
failed_shown = refl

two_names : map ended (codes "a b") ++ 10 ∷ [] ≡ codes "a\nb\n"
two_names = refl
