-- The lines of the settling, (i) to (vii).
pub data Line : Type 0 where
  i : Line
  ii : Line
  iii : Line
  iv : Line
  v : Line
  vi : Line
  vii : Line
