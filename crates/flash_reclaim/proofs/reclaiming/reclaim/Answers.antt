use Rattle.std.proofs.Common.{◌≡◌, ◌∙◌, List, false, Err, sym, ap, subst, arith}
use Rattle.deploy.specs.declared.errors.Stop.{Stop}
use Rattle.flash_disk.specs.declared.forgetting.FileRange.{FileRange}
use Rattle.flash_disk.specs.Kept.{in_ranges}
use Rattle.flash_disk.specs.Sound.{files_on}
use Rattle.flash_reclaim.specs.Naming.{all_kept}
use Rattle.flash_reclaim.specs.Reclaiming.{HandsBackTold, ReclaimsTold}
use Rattle.flash_reclaim.proofs.Chain.{err_is, hands_back, reclaims_told, rose_alone, looks_refused, image_first}
use Rattle.flash_reclaim.proofs.Chain.{seen_reclaims, seen_refused, given_refused, given_reclaims}
use Rattle.flash_reclaim.proofs.Ranges.{kept_true, given_false}
use Rattle.flash_reclaim.proofs.reclaiming.reclaim.Goals as goal

-- ---- the flash was not opened

pub returns-in_err-disk-clause-refused : goal.returns-in_err-disk-clause-refused
returns-in_err-disk-clause-refused g c =
    let told = g.F.Flash.told in
    let medium = g.F.Flash.medium in
    let start = medium c.args.flash in
    let refused = c.in_err-disk.field-0.0 in
    let e = c.in_err-disk.ensures in
    err_is c.from_residual.result refused (λ r. HandsBackTold told start (medium r.flash) r.error)
    c.from_residual.ensures.1
    (hands_back told start (medium refused.flash) refused.error
    (λ tells. looks_refused c.others_stand.ensures.frame c.others_stand.ensures.free_bank c.roots_say.ensures.versions
    told tells start (medium refused.flash) refused.error e.returned_blocks e.opens e.wrong_size.0 (e.unusable tells)
    e.device))

-- ---- the disk counted a fault of its own

pub returns-then-own_faults-gt0-clause-reclaims : goal.returns-then-own_faults-gt0-clause-reclaims
returns-then-own_faults-gt0-clause-reclaims g c =
    let told = g.F.Flash.told in
    let medium = g.F.Flash.medium in
    let start = medium c.args.flash in
    let seen = c.kept_files-found.new.disk in
    let e = c.in_ok-disk.ensures in
    let k = c.kept_files-found.ensures in
    let some = c.if-own_faults-gt0.true in
    subst (λ f. ReclaimsTold told start (medium f) false c.own_faults-own_faults.result) (sym c.into_flash.ensures)
    (reclaims_told told start (medium seen.flash) false c.own_faults-own_faults.result
    (λ tells. seen_reclaims told tells medium c.args.flash c.in_ok-disk.disk seen e.blocks (e.pages tells) e.opens
    k.time (k.idle e.quiet) c.others_stand.ensures.frame c.others_stand.ensures.free_bank
    c.roots_say.ensures.versions c.own_faults-own_faults.result some e.size.0 e.size.1 (e.throughout tells)
    (e.agreed tells)))

-- ---- a root was not read

pub returns-in-Err-clause-refused : goal.returns-in-Err-clause-refused
returns-in-Err-clause-refused g c =
    let told = g.F.Flash.told in
    let medium = g.F.Flash.medium in
    let start = medium c.args.flash in
    let opened = c.in_ok-disk.disk in
    let seen = c.kept_files-found.new.disk in
    let e = c.in_ok-disk.ensures in
    let k = c.kept_files-found.ensures in
    let count = c.own_faults-own_faults.ensures in
    let none = c.if-own_faults-gt0.false in
    let own : seen.own ≡ 0 = omega (arith, count, none) in
    subst (λ f. HandsBackTold told start (medium f) c.error_of.result) (sym c.into_flash-in-Err.ensures)
    (hands_back told start (medium seen.flash) c.error_of.result
    (λ tells. seen_refused told tells medium c.args.flash opened seen e.blocks (e.pages tells) e.opens
    k.time (k.idle e.quiet) c.others_stand.ensures.frame c.others_stand.ensures.free_bank
    c.roots_say.ensures.versions c.error_of.result c.error_of.ensures.size c.error_of.ensures.unusable
    (λ is. rose_alone start.faults (medium opened.flash).faults opened.own (medium seen.flash).faults seen.own e.faults
    e.own.0 own (c.in-Err.ensures.cause (ap (λ (s : Stop). Err s) (c.error_of.ensures.device is))))))

-- ---- files were given up, or that failed

pub returns-in_err-disk-2-clause-refused : goal.returns-in_err-disk-2-clause-refused
returns-in_err-disk-2-clause-refused g c =
    let told = g.F.Flash.told in
    let medium = g.F.Flash.medium in
    let start = medium c.args.flash in
    let opened = c.in_ok-disk.disk in
    let seen = c.kept_files-found.new.disk in
    let refused = c.in_err-disk-2.field-0.0 in
    let e = c.in_ok-disk.ensures in
    let k = c.in-Ok.ensures in
    let f = c.in_err-disk-2.ensures in
    let versions = c.roots_say.ensures.versions in
    let count = c.own_faults-own_faults.ensures in
    let none = c.if-own_faults-gt0.false in
    let own : seen.own ≡ 0 = omega (arith, count, none) in
    let passes = k.passes in
    let first_own = e.own.0 in
    let first_faults = e.faults in
    let same : (medium seen.flash).faults ≡ start.faults = omega (arith, passes, own, first_own, first_faults) in
    err_is c.from_residual-in_err-disk-2.result refused (λ r. HandsBackTold told start (medium r.flash) r.error)
    c.from_residual-in_err-disk-2.ensures.1
    (hands_back told start (medium refused.flash) refused.error
    (λ tells.
    let ranges : c.as_slice.result.now ≡ all_kept (files_on start) = c.as_slice.ensures.value ∙ (k.kept tells
    ∙ ap all_kept (image_first told tells medium c.args.flash opened seen e.blocks (e.pages tells) e.opens k.time
    (k.idle e.quiet))) in
    given_refused told tells medium c.args.flash opened seen e.blocks (e.pages tells) e.opens
    k.time (k.idle e.quiet) c.others_stand.ensures.frame c.others_stand.ensures.free_bank versions
    (in_ranges c.as_slice.result.now)
    (λ file few not. ap (λ (rs : List FileRange). in_ranges rs file) ranges
    ∙ kept_true (files_on start) (versions (files_on start)) file few not)
    (medium refused.flash) (f.gives_up tells) refused.error (f.error tells)
    (λ is. rose_alone start.faults (medium seen.flash).faults seen.own (medium refused.flash).faults seen.own same own
    own (f.device tells is))))

pub returns-clause-reclaims : goal.returns-clause-reclaims
returns-clause-reclaims g c =
    let told = g.F.Flash.told in
    let medium = g.F.Flash.medium in
    let start = medium c.args.flash in
    let opened = c.in_ok-disk.disk in
    let seen = c.kept_files-found.new.disk in
    let now = c.in_ok-disk-2.field-0.disk in
    let whole = c.in_ok-disk-2.field-0.whole in
    let e = c.in_ok-disk.ensures in
    let k = c.in-Ok.ensures in
    let f = c.in_ok-disk-2.ensures in
    let versions = c.roots_say.ensures.versions in
    let count = c.own_faults-own_faults.ensures in
    let none = c.if-own_faults-gt0.false in
    let own : seen.own ≡ 0 = omega (arith, count, none) in
    let passes = k.passes in
    let first_own = e.own.0 in
    let first_faults = e.faults in
    let same : (medium seen.flash).faults ≡ start.faults = omega (arith, passes, own, first_own, first_faults) in
    let flash : now.flash ≡ c.into_flash-2.result = cc (c.into_flash-2.ensures) in
    subst (λ z. ReclaimsTold told start (medium z) whole c.own_faults-own_faults.result) flash
    (reclaims_told told start (medium now.flash) whole c.own_faults-own_faults.result
    (λ tells.
    let ranges : c.as_slice.result.now ≡ all_kept (files_on start) = c.as_slice.ensures.value ∙ (k.kept tells
    ∙ ap all_kept (image_first told tells medium c.args.flash opened seen e.blocks (e.pages tells) e.opens k.time
    (k.idle e.quiet))) in
    given_reclaims told tells medium c.args.flash opened seen e.blocks (e.pages tells) e.opens
    k.time (k.idle e.quiet) c.others_stand.ensures.frame c.others_stand.ensures.free_bank versions
    (in_ranges c.as_slice.result.now)
    (λ file few not. ap (λ (rs : List FileRange). in_ranges rs file) ranges
    ∙ kept_true (files_on start) (versions (files_on start)) file few not)
    (medium now.flash) (f.gives_up tells) whole
    (λ file up. ap (λ (rs : List FileRange). in_ranges rs file) ranges
    ∙ given_false (files_on start) (versions (files_on start)) file up)
    (f.image tells) (f.pages tells) (f.due tells) (f.agreed tells) (f.apart tells) e.size.0 e.size.1
    (e.throughout tells) (e.agreed tells) (f.faults tells ∙ same)
    c.own_faults-own_faults.result (omega (arith, none))))
