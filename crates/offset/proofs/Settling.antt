-- One test settles n over √q, rounded: t and the next are told apart by where 2n over √q lies. Assumes nothing.
use Rattle.std.proofs.Common.{◌≡◌, ℕ, suc, ◌+◌, ◌-◌, ◌*◌, ◌/◌, ◌%◌, ◌^◌, ◌<◌, ◌≤◌, Bool, true, false, cond, not, eqb, sym, refl, ap, ◌∙◌, subst, ap₂, mul-le-mul_right, mul-le-mul, arith, le-ltb, lt-ltb, eq-eqb, ne_eqb}
use mathlib.Core.Logic.{by_cases}
use native.Mathlib.Decide.{dec_lt, dec_le}
use mir.Val.{bool_byte}
use Rattle.kinds.specs.declared.Mode.{Mode}
use Rattle.kinds.specs.declared.Mode.TheVariants.{Nearest, Up, Down, TowardZero}
use Rattle.kinds.specs.Rounding.{rounded_by}
use Rattle.kinds.specs.Guard.{place_of, rest_of}
use Rattle.kinds.proofs.Ties.{toward_zero}
use Rattle.kinds.proofs.Halves.{up-stays, down-stays, down-as-up, up-exact, up-below, up-odd, nearest-even, nearest-above, nearest-half, nearest-rest, up_rest, down-rest, zero_rest}
use Rattle.cutter.specs.Offset.{rounded_over}
use Rattle.offset.specs.declared.Component.{Component}
use Rattle.offset.specs.Inverse.{ScaleOf, ComponentRange, QuotientRange, Started}
use Rattle.offset.specs.Settled.{taken_by, settled_by, sign_of}
use Rattle.offset.proofs.Places.{DoubledOver, rounded-is, squares-are, offset-ranges, offset-short, started}

-- the test, where 2n over √q is known by its floor and what is left
module _ (n q floor left : ℕ) (pos : 0 < q) (doubled : DoubledOver n q floor left) (t m tie : ℕ) where
  -- below the floor, or at it where something is left or a tie counts
  goes-below : m < floor → taken_by t m tie (n * n) q ≡ t + 1
  unfolding taken_by
  goes-below h =
      let e : m * m * q < 4 * (n * n) + tie = omega (arith, doubled.whole, mul-le-mul_right q (mul-le-mul h h)) in
      simp (lt-ltb (m * m * q) (4 * (n * n) + tie) e)

  goes_at : m ≡ floor → 0 < left + tie → taken_by t m tie (n * n) q ≡ t + 1
  unfolding taken_by
  goes_at e h =
      let w : m * m * q + left ≡ 4 * (n * n) = subst (λ (x : ℕ). x * x * q + left ≡ 4 * (n * n)) (sym e) doubled.whole in
      let g : m * m * q < 4 * (n * n) + tie = omega arith in
      simp (lt-ltb (m * m * q) (4 * (n * n) + tie) g)

  stays-above : floor < m → tie ≤ 1 → taken_by t m tie (n * n) q ≡ t
  unfolding taken_by
  stays-above h k =
      let e : 4 * (n * n) + tie ≤ m * m * q = omega (arith, doubled.whole, doubled.last, mul-le-mul_right q (mul-le-mul h h)) in
      simp (le-ltb (m * m * q) (4 * (n * n) + tie) e)

  stays_at : m ≡ floor → left + tie ≡ 0 → taken_by t m tie (n * n) q ≡ t
  unfolding taken_by
  stays_at e h =
      let w : m * m * q + left ≡ 4 * (n * n) = subst (λ (x : ℕ). x * x * q + left ≡ 4 * (n * n)) (sym e) doubled.whole in
      let g : 4 * (n * n) + tie ≤ m * m * q = omega arith in
      simp (le-ltb (m * m * q) (4 * (n * n) + tie) g)

-- from a start that is the floor or one below it
module _ (n q floor left start : ℕ) (pos : 0 < q) (doubled : DoubledOver n q floor left) (low : start ≤ floor) (high : floor ≤ start + 1) where
  toward : settled_by 2 start (n * n) q ≡ floor / 2
  unfolding settled_by
  toward =
      let t : ℕ = (start + 0) / 2 in
      let m : ℕ = 2 * t + 2 in
      let tie : ℕ = (2 + t % 2) / 2 in
      by_cases (dec_lt floor m)
      (λ h.
      let e : t ≡ floor / 2 = omega arith in
      stays-above n q floor left pos doubled t m tie h (omega arith) ∙ e)
      (λ h.
      let e : t + 1 ≡ floor / 2 = omega arith in
      goes_at n q floor left pos doubled t m tie (omega arith) (omega arith) ∙ e)

  outward : settled_by 0 start (n * n) q ≡ rounded_by Up false (floor / 2) (place_of (eqb (floor % 2) 1) (not (eqb left 0)))
  unfolding settled_by
  outward =
      let t : ℕ = (start + 1) / 2 in
      let m : ℕ = 2 * t + 0 in
      let tie : ℕ = (0 + t % 2) / 2 in
      by_cases (dec_lt floor m)
      (λ h.
      let e : t ≡ suc (floor / 2) = omega arith in
      let o : floor % 2 ≡ 1 = omega arith in
      stays-above n q floor left pos doubled t m tie h (omega arith) ∙ simp (eq-eqb (floor % 2) 1 o) (e ∙ up-odd (floor / 2) (not (eqb left 0))))
      (λ h.
      by_cases (dec_lt m floor)
      (λ k.
      let e : t + 1 ≡ suc (floor / 2) = omega arith in
      let o : floor % 2 ≡ 1 = omega arith in
      goes-below n q floor left pos doubled t m tie k ∙ simp (eq-eqb (floor % 2) 1 o) (e ∙ up-odd (floor / 2) (not (eqb left 0))))
      (λ k.
      let same : m ≡ floor = omega arith in
      let z : floor % 2 ≡ 1 → ⊥ = λ x. omega arith in
      by_cases (dec_lt 0 left)
      (λ l.
      let e : t + 1 ≡ suc (floor / 2) = omega arith in
      goes_at n q floor left pos doubled t m tie same (omega arith)
      ∙ simp (ne_eqb (floor % 2) 1 z, ne_eqb left 0 (λ x. omega arith)) (e ∙ up-below (floor / 2)))
      (λ l.
      let e : t ≡ floor / 2 = omega arith in
      stays_at n q floor left pos doubled t m tie same (omega arith)
      ∙ simp (ne_eqb (floor % 2) 1 z, eq-eqb left 0 (omega arith)) (e ∙ up-exact (floor / 2)))))

  halfway : (negative : Bool) → settled_by 1 start (n * n) q ≡ rounded_by Nearest negative (floor / 2) (place_of (eqb (floor % 2) 1) (not (eqb left 0)))
  unfolding settled_by
  halfway negative =
      let t : ℕ = (start + 0) / 2 in
      let m : ℕ = 2 * t + 1 in
      let tie : ℕ = (1 + t % 2) / 2 in
      by_cases (dec_lt floor m)
      (λ h.
      let e : t ≡ floor / 2 = omega arith in
      let z : floor % 2 ≡ 1 → ⊥ = λ x. omega arith in
      stays-above n q floor left pos doubled t m tie h (omega arith)
      ∙ simp (ne_eqb (floor % 2) 1 z) (e ∙ nearest-even (floor / 2) negative (not (eqb left 0))))
      (λ h.
      by_cases (dec_lt m floor)
      (λ k.
      let e : t + 1 ≡ floor / 2 = omega arith in
      let z : floor % 2 ≡ 1 → ⊥ = λ x. omega arith in
      goes-below n q floor left pos doubled t m tie k
      ∙ simp (ne_eqb (floor % 2) 1 z) (e ∙ nearest-even (floor / 2) negative (not (eqb left 0))))
      (λ k.
      let same : m ≡ floor = omega arith in
      let o : floor % 2 ≡ 1 = omega arith in
      let f : floor / 2 ≡ t = omega arith in
      by_cases (dec_lt 0 left)
      (λ l.
      let e : t + 1 ≡ suc (floor / 2) = omega arith in
      goes_at n q floor left pos doubled t m tie same (omega arith)
      ∙ simp (eq-eqb (floor % 2) 1 o, ne_eqb left 0 (λ x. omega arith)) (e ∙ nearest-above (floor / 2) negative))
      (λ l.
      by_cases (dec_lt 0 (t % 2))
      (λ j.
      let e : t + 1 ≡ suc (floor / 2) = omega arith in
      let p : floor / 2 % 2 ≡ 1 = ap (λ (x : ℕ). x % 2) f ∙ omega arith in
      goes_at n q floor left pos doubled t m tie same (omega arith)
      ∙ simp (eq-eqb (floor % 2) 1 o, eq-eqb left 0 (omega arith))
      (e ∙ sym (taken (eq-eqb (floor / 2 % 2) 1 p)) ∙ nearest-half (floor / 2) negative))
      (λ j.
      let e : t ≡ floor / 2 = omega arith in
      let z : t % 2 ≡ 0 = omega arith in
      let w : floor / 2 % 2 ≡ 0 = ap (λ (x : ℕ). x % 2) f ∙ z in
      let p : floor / 2 % 2 ≡ 1 → ⊥ = λ x. omega arith in
      stays_at n q floor left pos doubled t m tie same (omega arith)
      ∙ simp (eq-eqb (floor % 2) 1 o, eq-eqb left 0 (omega arith))
      (e ∙ sym (passed (ne_eqb (floor / 2 % 2) 1 p)) ∙ nearest-half (floor / 2) negative)))))
    where
      taken : eqb (floor / 2 % 2) 1 ≡ true → cond (eqb (floor / 2 % 2) 1) (suc (floor / 2)) (floor / 2) ≡ suc (floor / 2)
      taken e = simp e

      passed : eqb (floor / 2 % 2) 1 ≡ false → cond (eqb (floor / 2 % 2) 1) (suc (floor / 2)) (floor / 2) ≡ floor / 2
      passed e = simp e

  settled_at : (mode : Mode) (negative : Bool)
      → settled_by (rest_of mode negative) start (n * n) q ≡ rounded_by mode negative (floor / 2) (place_of (eqb (floor % 2) 1) (not (eqb left 0)))
  unfolding rest_of
  settled_at Nearest negative = halfway negative
  settled_at Up false = outward
  settled_at Up true = toward ∙ sym (up-stays (floor / 2) (eqb (floor % 2) 1) (not (eqb left 0)))
  settled_at Down false = toward ∙ sym (down-stays (floor / 2) (eqb (floor % 2) 1) (not (eqb left 0)))
  settled_at Down true = outward ∙ down-as-up (floor / 2) (eqb (floor % 2) 1) (not (eqb left 0))
  settled_at TowardZero negative = toward ∙ sym (toward_zero negative (floor / 2) (place_of (eqb (floor % 2) 1) (not (eqb left 0))))

-- the floor and what is left, which the code does not work out
record Found (mode : Mode) (negative : Bool) (n q r : ℕ) : Type 0 where
  floor : ℕ
  left : ℕ
  doubled : DoubledOver n q floor left
  is : r ≡ rounded_by mode negative (floor / 2) (place_of (eqb (floor % 2) 1) (not (eqb left 0)))

module _ (mode : Mode) (negative : Bool) (start n q r : ℕ) (ranges : QuotientRange n q) (started : Started start (n * n) q)
    (e : r ≡ settled_by (rest_of mode negative) start (n * n) q) where
  found : Found mode negative n q r
  found =
      by_cases (dec_le ((start + 1) * (start + 1) * q) (4 * (n * n)))
      (λ h.
      let left : ℕ = 4 * (n * n) - (start + 1) * (start + 1) * q in
      let d : DoubledOver n q (start + 1) left = record { whole = omega arith; last = omega (arith, started.high) } in
      record {
        floor = start + 1;
        left = left;
        doubled = d;
        is = e ∙ settled_at n q (start + 1) left start ranges.least d (omega arith) (omega arith) mode negative;
      })
      (λ h.
      let left : ℕ = 4 * (n * n) - start * start * q in
      let d : DoubledOver n q start left = record { whole = omega (arith, started.low); last = omega (arith, started.low) } in
      record {
        floor = start;
        left = left;
        doubled = d;
        is = e ∙ settled_at n q start left start ranges.least d (omega arith) (omega arith) mode negative;
      })

  pub settled_is : r ≡ rounded_over mode negative n q
  settled_is = rounded-is n q found.floor found.left ranges found.doubled mode negative r found.is

-- component times radius over √q, rounded, from the start that the scale gives; it is not longer than the radius
module _ (mode : Mode) (c : Component) (radius q scale r : ℕ) (ranges : ComponentRange c.square radius q) (s : ScaleOf q radius scale)
    (e : r ≡ settled_by (rest_of mode c.negative) (c.magnitude * scale / 2 ^ 45) (c.square * (radius * radius)) q) where
  pub rounded-is-over : r ≡ rounded_over mode c.negative (c.magnitude * radius) q
  rounded-is-over =
      let n : ℕ = c.magnitude * radius in
      let start : ℕ = c.magnitude * scale / 2 ^ 45 in
      let w : c.square * (radius * radius) ≡ n * n = squares-are c radius q ranges in
      settled_is mode c.negative start n q r (offset-ranges c radius q ranges)
      (subst (λ (x : ℕ). Started start x q) w (started c radius q ranges scale s))
      (e ∙ ap (λ (x : ℕ). settled_by (rest_of mode c.negative) start x q) w)

  pub rounded-short : r ≤ radius
  rounded-short = offset-short c radius q ranges mode c.negative r rounded-is-over

-- ---- each rounding by its own rest

bit-rest : (inward : Bool) → 2 * bool_byte inward ≡ cond inward 2 0
bit-rest true = refl
bit-rest false = refl

module _ (mode : Mode) (negative : Bool) (start nn q x : ℕ) where
  by-rest : (rest : ℕ) → rest ≡ rest_of mode negative → x ≡ settled_by rest start nn q → x ≡ settled_by (rest_of mode negative) start nn q
  by-rest rest z e = e ∙ ap (λ (y : ℕ). settled_by y start nn q) z

  pub by-nearest : mode ≡ Nearest → x ≡ settled_by 1 start nn q → x ≡ settled_by (rest_of mode negative) start nn q
  by-nearest z e = by-rest 1 (nearest-rest negative ∙ ap (λ (m : Mode). rest_of m negative) (sym z)) e

  pub by-up : mode ≡ Up → x ≡ settled_by (2 * bool_byte negative) start nn q → x ≡ settled_by (rest_of mode negative) start nn q
  by-up z e = by-rest (2 * bool_byte negative) (bit-rest negative ∙ up_rest negative ∙ ap (λ (m : Mode). rest_of m negative) (sym z)) e

  pub by_down : mode ≡ Down → x ≡ settled_by (2 * bool_byte (not negative)) start nn q → x ≡ settled_by (rest_of mode negative) start nn q
  by_down z e =
      by-rest (2 * bool_byte (not negative)) (bit-rest (not negative) ∙ down-rest negative ∙ ap (λ (m : Mode). rest_of m negative) (sym z)) e

  pub by_zero : mode ≡ TowardZero → x ≡ settled_by 2 start nn q → x ≡ settled_by (rest_of mode negative) start nn q
  by_zero z e = by-rest 2 (zero_rest negative ∙ ap (λ (m : Mode). rest_of m negative) (sym z)) e

-- ---- the code's numbers

-- the code's sign, by what a difference that wraps is
module _ (a b : ℕ) (small : a < 2 ^ 64) (next : b < 2 ^ 64) where
  pub sign-is : (a + (2 ^ 64 - b)) % 2 ^ 64 / 2 ^ 63 ≡ sign_of a b
  unfolding sign_of
  sign-is = omega arith

  pub sign-most : (a + (2 ^ 64 - b)) % 2 ^ 64 / 2 ^ 63 ≤ 1
  sign-most = omega arith

-- the sign of a difference by the lower words, where it is less than 2^62
sign_below : (a b : ℕ) → a < b → b ≤ a + 2 ^ 62 → sign_of (a % 2 ^ 64) (b % 2 ^ 64) ≡ 1
unfolding sign_of
sign_below a b h k = omega arith

sign_above : (a b : ℕ) → b ≤ a → a ≤ b + 2 ^ 62 → sign_of (a % 2 ^ 64) (b % 2 ^ 64) ≡ 0
unfolding sign_of
sign_above a b h k = omega arith

module _ (rest start nn q : ℕ) (most : rest ≤ 2) (started : Started start nn q) where
  abbrev t : ℕ
  t = (start + (2 - rest) / 2) / 2

  abbrev m : ℕ
  m = 2 * t + rest

  abbrev tie : ℕ
  tie = (rest + t % 2) / 2

  m-least : start ≤ m
  m-least = omega arith

  m-most : m ≤ start + 2
  m-most = omega arith

  -- the two sides of the test are both from start² to (start + 2)², times q
  apart : (start + 2) * (start + 2) * q ≤ start * start * q + 2 ^ 61
  apart = omega (arith, mul-le-mul started.start-most started.most, started.most)

  low-side : start * start * q ≤ m * m * q
  low-side = mul-le-mul_right q (mul-le-mul m-least m-least)

  high-side : m * m * q ≤ (start + 2) * (start + 2) * q
  high-side = mul-le-mul_right q (mul-le-mul m-most m-most)

  settled-by-sign : (x : ℕ) → x ≡ sign_of (m * m * q % 2 ^ 64) ((4 * nn + tie) % 2 ^ 64) → t + x ≡ settled_by rest start nn q
  unfolding settled_by taken_by
  settled-by-sign x e =
      by_cases (dec_lt (m * m * q) (4 * nn + tie))
      (λ h.
      let one : x ≡ 1 = e ∙ sign_below (m * m * q) (4 * nn + tie) h (omega (arith, apart, low-side, started.high)) in
      simp (lt-ltb (m * m * q) (4 * nn + tie) h) (ap (λ (y : ℕ). t + y) one))
      (λ h.
      let k : 4 * nn + tie ≤ m * m * q = omega arith in
      let none : x ≡ 0 = e ∙ sign_above (m * m * q) (4 * nn + tie) k (omega (arith, apart, high-side, started.low)) in
      simp (le-ltb (m * m * q) (4 * nn + tie) k) (ap (λ (y : ℕ). t + y) none ∙ omega arith))

-- with an even rest, by a quarter of both numbers
module _ (i start nn q : ℕ) (most : i ≤ 1) (started : Started start nn q) where
  abbrev whole : ℕ
  whole = (start + 1 - i) / 2

  settled-whole : (x : ℕ) → x ≡ sign_of ((whole + i) * (whole + i) * q % 2 ^ 64) ((nn + i) % 2 ^ 64) → whole + x ≡ settled_by (2 * i) start nn q
  unfolding settled_by taken_by
  settled-whole x e =
      let t : ℕ = (start + (2 - 2 * i) / 2) / 2 in
      let same : (start + 1 - i) / 2 ≡ t = omega arith in
      let u : ℕ = t + i in
      let m : ℕ = 2 * t + 2 * i in
      let four : m * m * q ≡ 4 * (u * u * q) = omega arith in
      let tie : (2 * i + t % 2) / 2 ≡ i = omega arith in
      let f : x ≡ sign_of (u * u * q % 2 ^ 64) ((nn + i) % 2 ^ 64) = rw (← same) e in
      let even : 2 * i ≤ 2 = omega arith in
      by_cases (dec_lt (u * u * q) (nn + i))
      (λ h.
      let one : x ≡ 1 = f ∙ sign_below (u * u * q) (nn + i) h
      (omega (arith, four, apart (2 * i) start nn q even started, low-side (2 * i) start nn q even started, started.high)) in
      let g : m * m * q < 4 * nn + (2 * i + t % 2) / 2 = omega (arith, four, tie) in
      simp (lt-ltb (m * m * q) (4 * nn + (2 * i + t % 2) / 2) g) (ap₂ ◌+◌ same one))
      (λ h.
      let none : x ≡ 0 = f ∙ sign_above (u * u * q) (nn + i) (omega arith)
      (omega (arith, four, apart (2 * i) start nn q even started, high-side (2 * i) start nn q even started, started.low)) in
      let g : 4 * nn + (2 * i + t % 2) / 2 ≤ m * m * q = omega (arith, four, tie) in
      simp (le-ltb (m * m * q) (4 * nn + (2 * i + t % 2) / 2) g) (ap₂ ◌+◌ same none ∙ omega arith))

limit_is : (square radius tie : ℕ) → (square * (4 * (radius * radius)) % 2 ^ 64 + tie) % 2 ^ 64 ≡ (4 * (square * (radius * radius)) + tie) % 2 ^ 64
limit_is square radius tie =
    let w : square * (4 * (radius * radius)) ≡ 4 * (square * (radius * radius)) = omega arith in
    omega arith

-- the code's steps
pub settled-so : (rest start square radius q x : ℕ) → rest ≤ 2 → Started start (square * (radius * radius)) q
    → x ≡ sign_of
    ((2 * ((start + (2 - rest) / 2) / 2) + rest) * (2 * ((start + (2 - rest) / 2) / 2) + rest) * q % 2 ^ 64)
    ((square * (4 * (radius * radius)) % 2 ^ 64 + (rest + (start + (2 - rest) / 2) / 2 % 2) / 2) % 2 ^ 64)
    → (start + (2 - rest) / 2) / 2 + x ≡ settled_by rest start (square * (radius * radius)) q
settled-so rest start square radius q x most started e =
    settled-by-sign rest start (square * (radius * radius)) q most started x (e ∙ ap (sign_of _) (limit_is square radius _))

pub whole-so : (i start square radius q x : ℕ) → i ≤ 1 → Started start (square * (radius * radius)) q
    → x ≡ sign_of (((start + 1 - i) / 2 + i) * ((start + 1 - i) / 2 + i) * q % 2 ^ 64) ((square * (radius * radius) % 2 ^ 64 + i) % 2 ^ 64)
    → (start + 1 - i) / 2 + x ≡ settled_by (2 * i) start (square * (radius * radius)) q
whole-so i start square radius q x most started e =
    let l : (square * (radius * radius) % 2 ^ 64 + i) % 2 ^ 64 ≡ (square * (radius * radius) + i) % 2 ^ 64 = omega arith in
    settled-whole i start (square * (radius * radius)) q most started x (e ∙ ap (sign_of _) l)
