use native.Mathlib.Omega.{arith}
use Rattle.sheet_pairs.proofs.Told.{number_fits, refused-text, few_words, so-many-words, table_fits, read-text}
use Rattle.sheet_pairs.proofs.pairs_table.put_text.Goals as goal

pub slice_bounds-words-end : goal.slice_bounds-words-end
slice_bounds-words-end c = few_words _ _ c.in-Ok.ensures _ c.words_of-words.ensures

pub slice_bounds-put_table-end : goal.slice_bounds-put_table-end
slice_bounds-put_table-end c = so-many-words _ _ c.in-Ok.ensures _ c.words_of-words.ensures

pub put_table-requires : goal.put_table-requires
put_table-requires c = let t = table_fits _ _ c.in-Ok.ensures _ c.words_of-words.ensures in (c.requires, t.0, t.1)

pub put_refusal-requires : goal.put_refusal-requires
put_refusal-requires c = (omega (arith, c.requires), number_fits _ _ _ c.in-Err.ensures)

pub returns-in-Ok : goal.returns-in-Ok
returns-in-Ok c = read-text _ _ c.in-Ok.ensures _ c.words_of-words.ensures _ _ c.put_table.ensures

pub returns-in-Err : goal.returns-in-Err
returns-in-Err c = refused-text _ _ _ c.in-Err.ensures _ _ c.put_refusal.ensures
