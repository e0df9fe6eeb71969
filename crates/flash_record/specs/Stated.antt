-- What a record that was read says.
use Rattle.flash_record.specs.declared.reading.Record.{Record}
use Rattle.flash_record.specs.PageRecord.{PageRecord}

-- the same parts, as definitions speak of them
abbrev pub stated : Record → PageRecord
stated found = record {
  sequence = found.sequence;
  file = found.file;
  page = found.page;
  len = found.len;
  bytes =
      found.bytes.now;
}
