-- A record of a list, as the code reads it. Assumes nothing.
use Rattle.std.specs.Prelude.{ℕ, ◌+◌, ◌*◌, ◌^◌, ◌≤◌, ◌<◌, ◌≡◌, List, pos, nat_abs, ◌-ℤ◌}
use Rattle.std.proofs.Math.IntN.{sub_ℕ}
use Rattle.words.specs.Word.{word_at}
use Rattle.words.specs.Signed.{signed}
use Rattle.cutter.specs.Limits.{radius_most, height_most}
use Rattle.cutter.specs.Centre.{Centre}
use Rattle.cutter.specs.Lift.{lifted}
use Rattle.maps.specs.declared.Point.{Point}

-- the centre with these words
abbrev pub centre_of_words : ℕ → ℕ → ℕ → Centre
centre_of_words x y z = record { x = signed x; y = signed y; z = signed z }

-- the one whose record stands from `at` on
abbrev pub centre_read : List ℕ → ℕ → Centre
centre_read b at = centre_of_words (word_at b at) (word_at b (at + 4)) (word_at b (at + 8))

-- a centre of the point at column c and row q before the lift: x and y are at most a radius away, and z with the heights' bias is not
-- negative
pub record Reaches (step c q : ℕ) (k : Centre) : Type 0 where
  pub x : nat_abs (k.x -ℤ pos (c * step)) ≤ radius_most
  pub y : nat_abs (k.y -ℤ pos (q * step)) ≤ radius_most
  pub biased : ℕ
  pub z : k.z ≡ sub_ℕ biased height_most
  pub small : biased < 2 ^ 30

-- the centre of a point, lifted over the nine heights round it
abbrev pub lifted_at : Point → Centre → Centre
lifted_at p k = lifted p.map.bytes.now p.map.trailer.width p.map.trailer.step p.map.trailer.radius p.column p.row k
