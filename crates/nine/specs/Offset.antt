-- A centre by its offset from its point, and the nine heights round that, as the code has them. Assumes nothing.
use Rattle.std.specs.Prelude.{ℕ, ◌+◌, ◌-◌, ◌*◌, cond, List, ◌++◌, pos, ◌+ℤ◌}
use Rattle.words.specs.Signed.{with_sign}
use Rattle.words.specs.declared.Signed.{Signed}
use Rattle.cutter.specs.Centre.{Centre}
use Rattle.cutter.specs.Lift.{Contact}
use Rattle.raising.specs.Biased.{three_from}
use Rattle.raising.specs.declared.Squares.{Squares}

-- the centre that is x and y away from the point at column c and row q; its z is of no account
abbrev pub centre_from : ℕ → ℕ → ℕ → Signed → Signed → Centre
centre_from step c q x y =
    record {
      x = pos (c * step) +ℤ with_sign x.negative x.magnitude;
      y = pos (q * step) +ℤ with_sign y.negative y.magnitude;
      z = pos 0;
    }

-- the squares of the level distances from a centre with this offset from its point, to the places before, at and behind it
unfoldable pub squares_of : Signed → ℕ → Squares
squares_of offset step =
    let own = offset.magnitude in
    let near = own - step + (step - own) in
    let far = own + step in
    record {
      before = cond offset.negative (near * near) (far * far);
      own = own * own;
      behind = cond offset.negative (far * far) (near * near);
    }

-- the nine round the point at column c and row q of a map that is w wide
abbrev pub nine_from : List ℕ → ℕ → ℕ → ℕ → Squares → Squares → List Contact
nine_from m w c q x y =
    three_from m ((q - 1) * w + c - 1) x y.before
    ++ (three_from m (q * w + c - 1) x y.own ++ three_from m ((q + 1) * w + c - 1) x y.behind)
