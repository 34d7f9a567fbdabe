use Rattle.type_size_and_depth.proofs.Pointers.{one_more}
use Rattle.type_size_and_depth.proofs.pointer_depths.+depth.Goals as goal

pub overflow_add-result : goal.overflow_add-result
overflow_add-result t c = search one_more
