-- "Put of poison", "Put of a type" and "Forward declaration", which is of poison or of a type.
pub data Act : Type 0 where
  put_poison : Act
  put_type : Act
  forward_poison : Act
  forward_type : Act
