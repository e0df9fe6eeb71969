-- That a record of calls meets the laws of a disk.
use Rattle.std.specs.Prelude.{◌≡◌, ℕ, List, [], ◌∷◌, length, true}
use Rattle.std.proofs.Common.{refl, sym, ap, ◌∙◌, subst, le_refl, le_trans, take_all}
use Rattle.disk_model.specs.declared.history.Call.{Call}
use Rattle.disk_model.specs.declared.history.Call.TheVariants.{Write, Sync, Read}
use Rattle.disk_model.specs.Image.{Image, put_image, TornImage}
use Rattle.disk_model.specs.Case.{Case, IsSettledAt}
use Rattle.disk_model.specs.Medium.{IsLawful}
use Rattle.disk_model.specs.Written.{put_tears}
use Rattle.disk_model.specs.History.{image_after, cases_after, recorded}

-- a case in which all writes stand
pub record WholeCase (cases : Case → Type 0) (image : Image) : Type 0 where
  pub case : Case
  pub possible : cases case
  pub full : case.full ≡ image
  pub left : case.left ≡ image

-- all writes may stand, whatever was called
pub all_stand : (calls : List Call) (cases : Case → Type 0) (image : Image) → WholeCase cases image
    → WholeCase (cases_after calls cases) (image_after calls image)
all_stand [] cases image start = start
all_stand (Write file at bytes ∷ calls) cases image start =
    let new : Image = put_image image file at bytes.items in
    all_stand calls _ new (record {
      case = record { base = start.case.base; full = new; left = new };
      possible = (
        start.case,
        start.possible,
        record {
          base = refl;
          full = ap (λ i. put_image i file at bytes.items) (sym start.full);
          left = subst (λ old. TornImage file at (length bytes.items) old new) (sym start.left)
              (put_tears image file at bytes.items);
        },
      );
      full = refl;
      left = refl;
    })
all_stand (Sync ∷ calls) cases image start =
    all_stand calls _ image (record {
      case = record { base = image; full = image; left = image };
      possible = (
        start.case,
        start.possible,
        record {
          base = sym start.full;
          full = sym start.full;
          left =
              sym start.full;
        },
      );
      full = refl;
      left = refl;
    })
all_stand (Read ∷ calls) cases image start = all_stand calls cases image start

-- nothing is pending at the start of a record
pub settled : (image : Image) → WholeCase (IsSettledAt image) image
settled image = record {
  case = record { base = image; full = image; left = image };
  possible = record { base = refl; full = refl; left = refl };
  full = refl;
  left = refl;
}

-- a record that leads to what reads give meets the laws
pub record_is_lawful : (image start : Image) (calls : List Call) (faults written : ℕ) → image ≡ image_after calls start
    → IsLawful true (recorded image start calls faults written)
record_is_lawful image start calls faults written tied = record {
  counts_now = λ t c le now. record {
    k = length calls;
    from = le;
    to = le_refl _;
    case = subst (λ xs. cases_after xs (IsSettledAt start) c) (sym (take_all (length calls) calls (le_refl _))) now;
  };
  only_now = λ c past. subst (λ xs. cases_after xs (IsSettledAt start) c) (take_all past.k calls past.from) past.case;
  reads_one = λ told. let whole = all_stand calls (IsSettledAt start) start (settled start) in
      (whole.case, whole.possible, whole.left ∙ sym tied);
  gives = λ told c now left. record {
    k = length calls;
    from = le_refl _;
    to = le_refl _;
    case = subst (λ xs. cases_after xs (IsSettledAt start) c) (sym (take_all (length calls) calls (le_refl _))) now;
    image = left ∙ tied ∙ ap (λ xs. image_after xs start) (sym (take_all (length calls) calls (le_refl _)));
  };
  gave_counts = λ t c le gave. record {
    k = gave.k;
    from = le_trans le gave.from;
    to = gave.to;
    case =
        gave.case;
    image = gave.image;
  };
  gives_only = λ c gave. (
    subst (λ xs. cases_after xs (IsSettledAt start) c) (take_all gave.k calls gave.from) gave.case,
    gave.image ∙ ap (λ xs. image_after xs start) (take_all gave.k calls gave.from) ∙ sym tied,
  );
  gave_left = λ t c gave. record { k = gave.k; from = gave.from; to = gave.to; case = gave.case };
}
