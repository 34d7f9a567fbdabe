use Rattle.sheet_read.proofs.Checking.{too_long, odd-bytes, as_read}
use Rattle.sheet_read.proofs.reading.read_sheet.Goals as goal
use Rattle.sheet_read.proofs.reading.read_sheet.Goals.{then-bytes-gt-SHEET_BYTES-via-then-bytes-gt-SHEET_BYTES, then-bytes-gt-SHEET_BYTES-via-else-bytes-gt-SHEET_BYTES+then-bytes-ne0}

pub returns-then-bytes-gt-SHEET_BYTES : goal.returns-then-bytes-gt-SHEET_BYTES
returns-then-bytes-gt-SHEET_BYTES c =
    rw c.into.ensures
    (elim c.then-bytes-gt-SHEET_BYTES.branch [
      | then-bytes-gt-SHEET_BYTES-via-then-bytes-gt-SHEET_BYTES w ↦ too_long c.args.bytes.now w.if-bytes-gt-SHEET_BYTES.true
      | then-bytes-gt-SHEET_BYTES-via-else-bytes-gt-SHEET_BYTES+then-bytes-ne0 w ↦ odd-bytes c.args.bytes.now w.if-bytes-ne0.true
    ])

pub returns : goal.returns
returns c =
    as_read c.args.bytes.now c.if-bytes-gt-SHEET_BYTES.false c.if-bytes-ne0.false _ c.words_of-words.ensures _ c.read_words.ensures
