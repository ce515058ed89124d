-- The pattern below an exact result, as it is worked out: nothing leaves a word, and it is the one defined. Assumes nothing.
use mathlib.Core.Path.{◌≡◌, ap}
use mathlib.Core.Bool.{Bool, not, ◌||◌}
use mathlib.Core.Logic.{by_cases}
use Prim.Native.Nat.{ℕ, suc, ◌+◌, ◌*◌, ◌-◌, ◌/◌, ◌%◌, ◌^◌, ◌≤◌, ◌<◌, min}
use native.Mathlib.Nat.{pow-suc, mod-eq_of_lt, div-mul-le_self, mul-le-mul_right, mul-lt-mul_of_pos_right}
use native.Mathlib.Decide.{dec_lt}
use native.Mathlib.Omega.{arith}
use lib.Dec.{eqb, leb}
use lib.Pow.{pow_pos, pow-add, shr_le}
use mir.Syntax.{w64}
use mir.Val.{Fits}
use Rattle.ieee.specs.Format.{Format, least_normal, infinity as infinity_of}
use Rattle.pattern.specs.Format.{FormatLaws}
use Rattle.pattern.proofs.Numbers.{above-normal, above-infinity, sign-fits}
use Rattle.neighbour.specs.Neighbour.{neighbour_of}

-- a shift down and up again leaves no bit but those that have no place
kept_whole : (q lost : ℕ) → q < 2 ^ 64 → q / 2 ^ lost * 2 ^ lost % 2 ^ 64 ≡ q / 2 ^ lost * 2 ^ lost
kept_whole q lost h = mod-eq_of_lt (omega (arith, div-mul-le_self q (2 ^ lost)))

module _ (f : Format) (m p : ℕ) (laws : FormatLaws f m p) (k raised normal : ℕ) (en : normal ≡ least_normal f) (scale : k < 2 ^ suc f.exponent_bits) (up : raised ≡ k - 2) where
  -- the scale's exponent stands above the fraction
  scale-fits : k * normal < 2 ^ 64
  scale-fits =
      rw en
      (omega (
        arith,
        sign-fits f m p laws,
        pow-add 2 f.exponent_bits f.fraction_bits,
        ap (λ (n : ℕ). n * 2 ^ f.fraction_bits) (pow-suc 2 f.exponent_bits),
        mul-lt-mul_of_pos_right scale (pow_pos f.fraction_bits),
      ))

  pub raised-fits : Fits w64 (raised * normal)
  raised-fits = omega (arith, scale-fits, mul-le-mul_right {m = raised} {n = k} normal (omega arith))

  pub pattern-fits : (q lost : ℕ) → q ≤ 2 ^ suc (suc f.fraction_bits) → Fits w64 (raised * normal + q / 2 ^ lost / 2)
  pattern-fits q lost h =
      let b = f.fraction_bits in
      let most : q / 2 ^ lost / 2 ≤ 2 * normal = omega (arith, shr_le q lost, pow-suc 2 (suc b), pow-suc 2 b, en) in
      by_cases (dec_lt k 2)
      (λ l. let z : raised ≡ 0 = omega arith in rw z (omega (arith, most, en, above-normal f m p laws, above-infinity f m p laws, sign-fits f m p laws)))
      (λ l. let u : k ≡ raised + 2 = omega arith in omega (arith, scale-fits, ap (λ (n : ℕ). n * normal) u))

module _ (f : Format) (q k lost raised normal infinity : ℕ) (more : Bool) where
  -- the pattern, were there no end to the exponents
  abbrev unbounded : ℕ
  unbounded = raised * normal + q / 2 ^ lost / 2

  -- with the bits above it, it is the neighbour
  pub worked-out : (t : ℕ) → normal ≡ least_normal f → infinity ≡ infinity_of f → q < 2 ^ 64 → lost ≡ 2 - k → raised ≡ k - 2 → t ≡ min unbounded (infinity - 1)
      → record {
        pattern = t;
        half = eqb (q / 2 ^ lost % 2) 1 || leb infinity unbounded;
        more = (more || not (eqb (q / 2 ^ lost * 2 ^ lost % 2 ^ 64) q)) || leb infinity unbounded;
        beyond = leb infinity unbounded;
      } ≡ neighbour_of f q more k
  unfolding neighbour_of
  worked-out t en ei word el er et = rw (et, kept_whole q lost word, el, er, en, ei)
