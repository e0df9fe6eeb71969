use Rattle.folder_flash.proofs.file.blank_bytes.Goals as goal

pub returns : goal.returns
returns c = record { blank = c.in_ok-bytes.ensures.items_if_clones_equal (λ y h. h) }
