-- The lines of the update, in the rule's order.
pub data Line : Type 0 where
  poisoned : Line
  ill_formed : Line
  kept : Line
  type_replaced : Line
  both_replaced : Line
  conflicting : Line
