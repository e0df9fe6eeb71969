-- Replies of each kind: of each the text that is defined for it, computed.
use Rattle.std.specs.Prelude.{◌≡◌, ℕ, List, [], ◌∷◌, map, true, false, negsuc, Some, None, codes, refl}
use Rattle.std.specs.Fmt.{digits}
use Rattle.per_base.specs.declared.elements.Cause.TheVariants as cause
use Rattle.per_base.specs.declared.errors.Holder.TheVariants as holder
use Rattle.per_base.specs.declared.errors.Limit.TheVariants as limit
use Rattle.per_base.specs.declared.errors.PerError.TheVariants as error
use Rattle.per_base.specs.declared.errors.Unit.TheVariants as unit
use Rattle.per_base.specs.declared.reports.ReportKind.TheVariants as report
use Rattle.value_model.specs.Kinds.{four}
use Rattle.value_model.specs.Trees.{signed_tree}
use Rattle.command_text.specs.declared.replies.Answer.TheVariants as answer
use Rattle.command_text.specs.declared.replies.AppStatus.TheVariants as status
use Rattle.command_text.specs.declared.replies.Reply.{Reply}
use Rattle.command_text.specs.Replies.{reply_text}

abbrev pub rows : List (Reply × List ℕ)
rows =
    (record { reports = []; answer = answer.Done }, codes "ok\n") ∷
    (record { reports = []; answer = answer.Val (signed_tree four (negsuc 1)) }, codes "value i32:-2\n") ∷
    (record { reports = []; answer = answer.Byte 10 }, codes "byte 0a\n") ∷
    (record { reports = []; answer = answer.Number 15 }, codes "number 15\n") ∷
    (record { reports = []; answer = answer.Truth true }, codes "yes\n") ∷
    (record { reports = []; answer = answer.Truth false }, codes "no\n") ∷
    (record { reports = []; answer = answer.Handle 1 }, codes "handle 1\n") ∷
    (record { reports = []; answer = answer.Octets [] }, codes "bytes\n") ∷
    (record { reports = []; answer = answer.Octets (10 ∷ 11 ∷ 255 ∷ []) }, codes "bytes 0a0bff\n") ∷
    (record { reports = []; answer = answer.Names [] }, codes "names\n") ∷
    (record { reports = []; answer = answer.Names (codes "a" ∷ codes "b" ∷ []) }, codes "names a b\n") ∷
    (record { reports = []; answer = answer.Status status.Absent }, codes "status absent\n") ∷
    (record { reports = []; answer = answer.Status (status.Active 7 None) }, codes "status version 7\n") ∷
    (record { reports = []; answer = answer.Status (status.Active 2 (Some 1)) }, codes "status version 2 previous 1\n")
    ∷ (
      record {
        reports = [];
        answer = answer.Info (record {
          created = 1000;
          modified = 1060;
          accessed = 1001;
          creation =
              cause.Installation;
          modification = cause.Application;
        });
      },
      codes "info 1000 1060 1001 installation application\n",
    ) ∷ (
      record {
        reports = [];
        answer = answer.Info (record {
          created = 1000;
          modified = 1060;
          accessed = 1001;
          creation =
              cause.Update;
          modification = cause.Reset;
        });
      },
      codes "info 1000 1060 1001 update reset\n",
    ) ∷ (
      record {
        reports = [];
        answer = answer.Info (record {
          created = 1000;
          modified = 1060;
          accessed = 1001;
          creation =
              cause.Recovery;
          modification = cause.Update;
        });
      },
      codes "info 1000 1060 1001 recovery update\n",
    ) ∷
    (record { reports = []; answer = answer.Error error.StorageNotFound }, codes "error 1 StorageNotFound\n") ∷
    (record { reports = []; answer = answer.Error error.KeyNotFound }, codes "error 2 KeyNotFound\n") ∷
    (record { reports = []; answer = answer.Error error.IllegalWriteAccess }, codes "error 3 IllegalWriteAccess\n") ∷ (
      record { reports = []; answer = answer.Error error.PhysicalStorageFailure },
      codes "error 4 PhysicalStorageFailure\n",
    ) ∷ (
      record { reports = []; answer = answer.Error error.InitValueNotAvailable },
      codes "error 8 InitValueNotAvailable\n",
    ) ∷
    (record { reports = []; answer = answer.Error error.FileNotFound }, codes "error 11 FileNotFound\n") ∷
    (record { reports = []; answer = answer.Error error.InvalidPosition }, codes "error 12 InvalidPosition\n") ∷
    (record { reports = []; answer = answer.Error error.IsEof }, codes "error 13 IsEof\n") ∷
    (record { reports = []; answer = answer.Error error.InvalidOpenMode }, codes "error 14 InvalidOpenMode\n") ∷
    (record { reports = []; answer = answer.Error error.InvalidSize }, codes "error 15 InvalidSize\n") ∷
    (record { reports = []; answer = answer.Error error.NotInstalled }, codes "error 20 NotInstalled\n") ∷
    (record { reports = []; answer = answer.Error error.AlreadyInstalled }, codes "error 21 AlreadyInstalled\n") ∷
    (record { reports = []; answer = answer.Error error.NoPreviousVersion }, codes "error 23 NoPreviousVersion\n") ∷
    (record { reports = []; answer = answer.Error error.NotOpen }, codes "error 24 NotOpen\n") ∷
    (record { reports = []; answer = answer.Error error.IllegalReadAccess }, codes "error 26 IllegalReadAccess\n") ∷
    (record { reports = []; answer = answer.Error error.BadName }, codes "error 29 BadName\n") ∷
    (record { reports = []; answer = answer.Error error.NoUpdateInProgress }, codes "error 30 NoUpdateInProgress\n") ∷
    (record { reports = []; answer = answer.Error error.ExportRejected }, codes "error 31 ExportRejected\n") ∷ (
      record { reports = []; answer = answer.Error (error.IntegrityCorrupted unit.Root) },
      codes "error 5 IntegrityCorrupted root\n",
    ) ∷ (
      record { reports = []; answer = answer.Error (error.IntegrityCorrupted (unit.Whole (codes "fav"))) },
      codes "error 5 IntegrityCorrupted fav\n",
    ) ∷ (
      record {
        reports = [];
        answer = answer.Error (error.IntegrityCorrupted (unit.Part (codes "fav") (codes "home")));
      },
      codes "error 5 IntegrityCorrupted fav:home\n",
    ) ∷ (
      record { reports = []; answer = answer.Error (error.ResourceBusy (holder.Storage (codes "fav"))) },
      codes "error 9 ResourceBusy storage fav\n",
    ) ∷ (
      record { reports = []; answer = answer.Error (error.ResourceBusy (holder.Handle 1)) },
      codes "error 9 ResourceBusy handle 1\n",
    ) ∷ (
      record { reports = []; answer = answer.Error (error.ResourceBusy (holder.Update 2)) },
      codes "error 9 ResourceBusy update 2\n",
    ) ∷ (
      record { reports = []; answer = answer.Error (error.DataTypeMismatch (codes "u8") (codes "u16")) },
      codes "error 7 DataTypeMismatch u8 u16\n",
    ) ∷ (
      record { reports = []; answer = answer.Error (error.OutOfStorageSpace 12 8) },
      codes "error 10 OutOfStorageSpace 12 8\n",
    ) ∷
    (record { reports = []; answer = answer.Error (error.ManifestRejected 4) }, codes "error 22 ManifestRejected 4\n") ∷
    (record { reports = []; answer = answer.Error (error.UpdateNotFinished 1) }, codes "error 27 UpdateNotFinished 1\n")
    ∷
    (record { reports = []; answer = answer.Error (error.VersionNotNewer 2 1) }, codes "error 28 VersionNotNewer 2 1\n")
    ∷ (
      record { reports = []; answer = answer.Error (error.LimitReached limit.Elements) },
      codes "error 25 LimitReached elements\n",
    ) ∷ (
      record { reports = []; answer = answer.Error (error.LimitReached limit.Handles) },
      codes "error 25 LimitReached handles\n",
    ) ∷ (
      record { reports = []; answer = answer.Error (error.LimitReached limit.FileBytes) },
      codes "error 25 LimitReached file-bytes\n",
    ) ∷ (
      record { reports = []; answer = answer.Error (error.LimitReached limit.ValueBytes) },
      codes "error 25 LimitReached value-bytes\n",
    ) ∷ (
      record { reports = []; answer = answer.Error (error.LimitReached limit.ValueDepth) },
      codes "error 25 LimitReached value-depth\n",
    ) ∷ (
      record { reports = []; answer = answer.Error (error.LimitReached limit.Generations) },
      codes "error 25 LimitReached generations\n",
    ) ∷ (
      record {
        reports = (record { kind = report.KvsRecovered; storage = codes "cal"; element = None; copies = 1 ∷ [] })
            ∷ [];
        answer = answer.Done;
      },
      codes "report kvs-recovered cal 1\nok\n",
    ) ∷ (
      record {
        reports = (record { kind = report.KvsFailed; storage = codes "cal"; element = None; copies = 1 ∷ [] })
            ∷ [];
        answer = answer.Done;
      },
      codes "report kvs-failed cal 1\nok\n",
    ) ∷ (
      record {
        reports = (record { kind = report.KeyRecovered; storage = codes "cal"; element = None; copies = 1 ∷ [] })
            ∷ [];
        answer = answer.Done;
      },
      codes "report key-recovered cal 1\nok\n",
    ) ∷ (
      record {
        reports = (record { kind = report.KeyFailed; storage = codes "cal"; element = None; copies = 1 ∷ [] })
            ∷ [];
        answer = answer.Done;
      },
      codes "report key-failed cal 1\nok\n",
    ) ∷ (
      record {
        reports = (record {
          kind = report.FilesRecovered;
          storage = codes "cal";
          element = None;
          copies =
              1 ∷ [];
        }) ∷ [];
        answer = answer.Done;
      },
      codes "report files-recovered cal 1\nok\n",
    ) ∷ (
      record {
        reports = (record { kind = report.FilesFailed; storage = codes "cal"; element = None; copies = 1 ∷ [] })
            ∷ [];
        answer = answer.Done;
      },
      codes "report files-failed cal 1\nok\n",
    ) ∷ (
      record {
        reports = (record { kind = report.FileRecovered; storage = codes "cal"; element = None; copies = 1 ∷ [] })
            ∷ [];
        answer = answer.Done;
      },
      codes "report file-recovered cal 1\nok\n",
    ) ∷ (
      record {
        reports = (record { kind = report.FileFailed; storage = codes "cal"; element = None; copies = 1 ∷ [] })
            ∷ [];
        answer = answer.Done;
      },
      codes "report file-failed cal 1\nok\n",
    ) ∷ (
      record {
        reports = (record {
          kind = report.KvsRecovered;
          storage = codes "fav";
          element = None;
          copies =
              2 ∷ 3 ∷ [];
        }) ∷ (record {
          kind = report.KeyFailed;
          storage = codes "fav";
          element =
              Some (codes "home");
          copies = [];
        }) ∷ [];
        answer = answer.Error error.NotOpen;
      },
      codes "report kvs-recovered fav 2,3\nreport key-failed fav:home -\nerror 24 NotOpen\n",
    ) ∷
    []

texts : map (λ (row : Reply × List ℕ). reply_text row.0) rows ≡ map (λ (row : Reply × List ℕ). row.1) rows
unfolding digits
texts = refl
