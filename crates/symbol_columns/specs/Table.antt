-- "The symbol table is a lent run of such records.": of a table in columns, those of its first rows.
use Rattle.std.specs.Prelude.{List}
use Rattle.symbol_columns.specs.declared.symbol.Symbol.{Symbol}
use Rattle.symbol_columns.specs.declared.table.Table.{Table}
use Rattle.symbol_columns.specs.AsCoded.{read_from}

abbrev pub records : Table → List Symbol
records t = read_from t.columns.now 0 t.count
