-- How the code settles the root of nn over q, rounded, from a start near twice that. Assumes nothing.
use Rattle.std.specs.Prelude.{ℕ, ◌+◌, ◌-◌, ◌*◌, ◌/◌, ◌%◌, ◌^◌, cond, nat_lt}

-- t or the next, by m²·q against 4·nn
unfoldable pub taken_by : ℕ → ℕ → ℕ → ℕ → ℕ → ℕ
taken_by t m tie nn q = cond (nat_lt (m * m * q) (4 * nn + tie)) (t + 1) t

-- the same from the start; where m²·q is 4·nn exactly, t + 1 is taken toward zero, and to the nearest where t + 1 is even
unfoldable pub settled_by : ℕ → ℕ → ℕ → ℕ → ℕ
settled_by rest start nn q =
    let t = (start + (2 - rest) / 2) / 2 in
    taken_by t (2 * t + rest) ((rest + t % 2) / 2) nn q

-- the highest bit of a less b modulo 2^64
unfoldable pub sign_of : ℕ → ℕ → ℕ
sign_of a b = (a + 2 ^ 64 - b) % 2 ^ 64 / 2 ^ 63
