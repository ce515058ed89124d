-- The cutter's centre at an inner point: the map point plus the rounded offsets. Assumes nothing.
use Rattle.std.specs.Prelude.{ℕ, zero, suc, ◌*◌, List, ◌++◌, ℤ, pos, neg_ℤ, ◌+ℤ◌}
use Rattle.kinds.specs.declared.Mode.{Mode}
use Rattle.words.specs.Word.{word_bytes}
use Rattle.words.specs.Signed.{word_of}
use Rattle.cutter.specs.Offset.{squared_length, offset_of}
use Rattle.cutter.specs.Map.{height_at, dx_at, dy_at}

-- a point of the surface: its column and row, its height, and the differences dx and dy there
pub record Point : Type 0 where
  pub column : ℕ
  pub row : ℕ
  pub height : ℤ
  pub dx : ℤ
  pub dy : ℤ

-- the coordinates of the centre, in micrometres
pub record Centre : Type 0 where
  pub x : ℤ
  pub y : ℤ
  pub z : ℤ

-- the x, y or z of a centre (j is 0, 1 or 2)
abbrev pub coordinate : Centre → ℕ → ℤ
coordinate k zero = k.x
coordinate k (suc zero) = k.y
coordinate k (suc (suc j)) = k.z

-- (column·step, row·step, height) plus the offsets −dx·radius/√Q, −dy·radius/√Q and 2·step·radius/√Q
unfoldable pub centre_of : Mode → ℕ → ℕ → Point → Centre
centre_of mode step radius p =
    let q = squared_length p.dx p.dy step in
    record {
      x = pos (p.column * step) +ℤ offset_of mode (neg_ℤ p.dx) radius q;
      y = pos (p.row * step) +ℤ offset_of mode (neg_ℤ p.dy) radius q;
      z = p.height +ℤ offset_of mode (pos (2 * step)) radius q;
    }

-- the point of a map that is w wide at column c and row q
unfoldable pub point_at : List ℕ → ℕ → ℕ → ℕ → Point
point_at m w c q = record { column = c; row = q; height = height_at m w c q; dx = dx_at m w c q; dy = dy_at m w c q }

-- a record of a list: x, y and z, four bytes each, signed
unfoldable pub record_bytes : Centre → List ℕ
record_bytes k = word_bytes (word_of k.x) ++ word_bytes (word_of k.y) ++ word_bytes (word_of k.z)
