-- No rule, but what contracts of the code need: what each line of the code is in the rule's terms.
use Rattle.symbol_update_rule.specs.Line as line
use Rattle.symbol_update_rule.specs.Line.{Line}
use Rattle.symbol_update_rule.specs.declared.lines.Line as coded
use Rattle.symbol_update_rule.specs.declared.lines.Line.TheVariants as code

-- Which line each of the code's is.
abbrev pub of_line : coded.Line → Line
of_line code.Poisoned = line.poisoned
of_line code.IllFormed = line.ill_formed
of_line code.Kept = line.kept
of_line code.TypeReplaced = line.type_replaced
of_line code.BothReplaced = line.both_replaced
of_line code.Conflicting = line.conflicting
