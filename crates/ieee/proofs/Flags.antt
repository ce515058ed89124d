-- The status of an accepted call: five flags, and none that stood is lost. Assumes nothing.
use mathlib.Core.Path.{◌≡◌}
use mathlib.Core.Bool.{Bool, true, false, cond, not, ◌&&◌}
use Prim.Native.Nat.{ℕ, ◌-◌, ◌%◌, ◌^◌, ◌≤◌, ◌<◌, max}
use native.Mathlib.Nat.{mod-lt, mod-eq_of_lt}
use native.Mathlib.Omega.{arith}
use lib.Dec.{lit<, ltb, eqb}
use lib.Bits.{bit_or, or_lt}
use Rattle.kinds.specs.declared.Op.{Op}
use Rattle.kinds.specs.declared.Op.TheVariants.{Reciprocal, Root, InverseRoot}
use Rattle.kinds.specs.Operation.{is_reciprocal}
use Rattle.kinds.specs.declared.Mode.{Mode}
use Rattle.kinds.specs.Flag.{invalid, overflow, underflow, inexact}
use Rattle.numbers.proofs.Bits.{bit, bit-or, or-keeps}
use Rattle.ieee.specs.Format.{Format, infinity, quiet_nan, magnitude_of}
use Rattle.ieee.specs.Rounded.{flags_of, is_overflow, is_underflow, is_inexact}
use Rattle.ieee.specs.Answer.{Answer, answer, to_nan, to_zero, to_infinity, to_finite, answer_of, sign_bit_of, unsigned}
use Rattle.ieee.specs.Call.{status_of}
use Rattle.ieee.proofs.Accepted.{accepted-status}

-- a flag that may be raised is 0 or itself
flag-most : (b : Bool) (x : ℕ) → cond b x 0 ≤ x
flag-most true x = omega arith
flag-most false x = omega arith

-- an answer has no flag but the five
record Few (a : Answer) : Type 0 where
  small : a.flags < 32

either-few : (test : Bool) (x y : Answer) → Few x → Few y → Few (cond test x y)
either-few true x y p q = p
either-few false x y p q = q

-- true of each kind of answer,
few-nan : (f : Format) (t : ℕ) → Few (to_nan f t)
few-nan f t = record { small = omega (arith, flag-most (ltb (t % 2 ^ f.fraction_bits) (2 ^ (f.fraction_bits - 1))) invalid) }

few-zero : (f : Format) (op : Op) (s : ℕ) → Few (to_zero f op s)
few-zero f Reciprocal s = record { small = lit< tt }
few-zero f Root s = record { small = lit< tt }
few-zero f InverseRoot s = record { small = lit< tt }

few-infinity : (f : Format) (op : Op) (s : ℕ) → Few (to_infinity f op s)
few-infinity f Reciprocal s = record { small = lit< tt }
few-infinity f Root s = record { small = lit< tt }
few-infinity f InverseRoot s = record { small = lit< tt }

few-finite : (f : Format) (op : Op) (mode : Mode) (s t : ℕ) → Few (to_finite f op mode s t)
unfolding flags_of
few-finite f op mode s t =
    let x = magnitude_of f t in
    record {
      small = omega (arith, flag-most (is_overflow f op mode (eqb s 1) x) overflow, flag-most (is_underflow f op x) underflow, flag-most (is_inexact f op x) inexact);
    }

-- so of every one
few : (f : Format) (op : Op) (mode : Mode) (b : ℕ) → Few (answer_of f op mode b)
unfolding answer_of
few f op mode b =
    let s = sign_bit_of f b in
    let t = unsigned f b in
    either-few (ltb (infinity f) t) _ _ (few-nan f t)
    (either-few (eqb s 1 && not (eqb t 0) && not (is_reciprocal op)) (answer (quiet_nan f) invalid) _ (record { small = lit< tt })
    (either-few (eqb t 0) _ _ (few-zero f op s)
    (either-few (eqb t (infinity f)) _ _ (few-infinity f op s)
    (few-finite f op mode s t))))

pub flags-small : (f : Format) (op : Op) (mode : Mode) (b : ℕ) → (answer_of f op mode b).flags < 32
flags-small f op mode b = (few f op mode b).small

-- of a call over the format, whose refusal n is 0
module _ (f : Format) (n : ℕ) (op : Op) (mode : Mode) (b status : ℕ) (accepted : n ≡ 0) where
  -- an accepted call returns one of the 32 statuses, its unknown bits zero,
  pub status-small : status_of f n op mode b status < 32
  status-small =
      rw (accepted-status f n op mode b accepted status)
      (or_lt 5 (status % 32) (answer_of f op mode b).flags (mod-lt status (lit< tt)) (flags-small f op mode b))

  -- in which a flag stands exactly where it stood or the answer has it,
  pub status-joins : (k : ℕ) → bit k (status_of f n op mode b status) ≡ max (bit k (status % 32)) (bit k (answer_of f op mode b).flags)
  status-joins k = rw (accepted-status f n op mode b accepted status) (bit-or k (status % 32) _)

  -- so that no flag that stood is lost
  pub status-keeps : (k : ℕ) → bit k (status % 32) ≤ bit k (status_of f n op mode b status)
  status-keeps k = rw (accepted-status f n op mode b accepted status) (or-keeps k (status % 32) _)

-- the answer's flags are known ones, so that joining them leaves none out
pub status-joined : (f : Format) (n : ℕ) (op : Op) (mode : Mode) (b status flags : ℕ) → n ≡ 0 → flags ≡ (answer_of f op mode b).flags
    → bit_or (status % 32) (flags % 32) ≡ status_of f n op mode b status
status-joined f n op mode b status flags z e = rw (e, accepted-status f n op mode b z status, mod-eq_of_lt (flags-small f op mode b))
