-- A reply that was packed into one number for C, taken apart again, and the record call's reply for C. Assumes nothing.
use mathlib.Core.Path.{◌≡◌, refl}
use mathlib.Core.Bool.{false}
use Prim.Native.Nat.{ℕ, ◌/◌, ◌%◌, ◌^◌, ◌<◌}
use native.Mathlib.Omega.{arith}
use Rattle.std.specs.Prelude.{Result, Some, None}
use Rattle.kinds.specs.declared.Refusal.{Refusal}
use Rattle.kinds.specs.Refusal.{refusal_of}
use Rattle.kinds.specs.Rounding.{is_rounding}
use Rattle.plate.specs.Packed.{packed}
use Rattle.plate.specs.declared.ListRecord.{ListRecord}
use Rattle.plate.specs.Record.{told_of, rounding_number, record_for_c}

-- what the bits of a packed reply say is what was packed: bits 0 to 31 the answer, bits 32 to 39 the status, the bits above the refusal
pub unpacked : (refusal status answer : ℕ) → status < 256 → answer < 2 ^ 32
    → (packed refusal status answer % 2 ^ 32 ≡ answer) × (packed refusal status answer / 2 ^ 32 % 256 ≡ status) × (packed refusal status answer / 2 ^ 40 ≡ refusal)
unpacked refusal status answer s a = (omega arith, omega arith, omega arith)

-- C gets the number of a rounding that is known, and for unknown one that is no rounding's
pub rounding-told : (n : ℕ) → rounding_number (Some (record { 0 = n })) ≡ n
rounding-told n = refl

pub unknown-is-none : is_rounding (rounding_number None) ≡ false
unknown-is-none = refl

-- and every other number of a record's reply as it is
pub sizes-told : (r : Result ListRecord Refusal)
    → ((record_for_c r).refusal ≡ refusal_of r) × ((record_for_c r).width ≡ (told_of r).width) × ((record_for_c r).depth ≡ (told_of r).depth)
    × ((record_for_c r).step ≡ (told_of r).step) × ((record_for_c r).radius ≡ (told_of r).radius)
sizes-told r = (refl, refl, refl, refl, refl)

pub coordinates-told : (r : Result ListRecord Refusal)
    → ((record_for_c r).x ≡ (told_of r).x) × ((record_for_c r).y ≡ (told_of r).y) × ((record_for_c r).z ≡ (told_of r).z)
coordinates-told r = (refl, refl, refl)
