-- What the code knows of 1 over √q and of a radius over √q, in products and squares, and the ranges of its numbers. Assumes nothing.
use Rattle.std.specs.Prelude.{◌≡◌, ℕ, ◌+◌, ◌-◌, ◌*◌, ◌^◌, ◌<◌, ◌≤◌}

-- components and radii up to this one are taken, whatever a map allows
abbrev pub length_most : ℕ
length_most = 100000

-- low over 2^(shift + 1) is at most 1 over √q, and (low + 32) over 2^(shift + 1) is at least that
pub record InverseOf (q low shift : ℕ) : Type 0 where
  pub least : 2 ^ 26 ≤ low
  pub most : low < 2 ^ 28
  pub shifts : shift < 64
  pub below : low * low * q ≤ 4 * (2 ^ shift * 2 ^ shift)
  pub above : 4 * (2 ^ shift * 2 ^ shift) ≤ (low + 32) * (low + 32) * q

-- scale over 2^46 is the radius times such a number, whatever its shift
pub record ScaleOf (q radius scale : ℕ) : Type 0 where
  pub low : ℕ
  pub half : ℕ
  pub half-most : half ≤ 18
  pub inverse : InverseOf q low (27 + half)
  pub is : scale ≡ low * (radius * 2 ^ (18 - half))

-- the ranges of a component's square, a radius, and the normal's squared length q
pub record ComponentRange (square radius q : ℕ) : Type 0 where
  pub radius-most : radius ≤ length_most
  pub squared : square ≤ q
  pub least : 0 < q
  pub most : q < 2 ^ 35

-- those of n, a component times a radius, and of q
pub record QuotientRange (n q : ℕ) : Type 0 where
  pub product-most : n ≤ length_most * length_most
  pub ratio : n * n ≤ length_most * length_most * q
  pub least : 0 < q
  pub most : q < 2 ^ 35

-- start is twice the root of nn over q, floored, or one below it
pub record Started (start nn q : ℕ) : Type 0 where
  pub low : start * start * q ≤ 4 * nn
  pub high : 4 * nn < (start + 2) * (start + 2) * q
  pub start-most : start ≤ 2 * length_most
  pub most : q < 2 ^ 35
