use Rattle.std.proofs.Common.{refl}
use native.Mathlib.Omega.{arith}
use Rattle.sheet_pairs.proofs.Told.{told}
use Rattle.sheet_pairs.proofs.pairs_table.pairs_text.Goals as goal

pub returns-clause-length : goal.returns-clause-length
returns-clause-length c = (told c.args.bytes.now _ _ refl (omega arith) c.put_text.ensures).0

pub returns-clause-text : goal.returns-clause-text
returns-clause-text c = (told c.args.bytes.now _ _ refl (omega arith) c.put_text.ensures).1
