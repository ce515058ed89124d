-- From an entry of the lent tables, through the raw answer and its floor, to the pattern below the exact result. Assumes nothing.
use mathlib.Core.Path.{◌≡◌, refl, sym, ◌∙◌}
use mathlib.Core.Bool.{Bool, true, false}
use mathlib.Core.List.{List}
use Prim.Native.Nat.{ℕ, ◌^◌, ◌≤◌, ◌<◌}
use native.Mathlib.Omega.{arith}
use lib.Dec.{lit≤}
use Rattle.kinds.specs.declared.Op.{Op}
use Rattle.kinds.specs.declared.Op.TheVariants.{Reciprocal, Root, InverseRoot}
use Rattle.kinds.specs.Operation.{is_reciprocal}
use Rattle.kinds.specs.declared.Refusal.{Refusal}
use Rattle.kinds.specs.declared.Refusal.TheVariants as R
use Rattle.kinds.specs.Refusal.{asked}
use Rattle.std.specs.Prelude.{Ok, Err}
use Rattle.significand.specs.Width.{k64, t64, Operand}
use Rattle.significand.specs.Distance.{Near, bound_of}
use Rattle.significand.specs.Call.{is_entry, entry_asked}
use Rattle.significand.proofs.Asked.{entry-held, entry-answer}
use Rattle.significand.proofs.Accepted.{operand-near}
use Rattle.ieee.specs.Format.{binary64, magnitude_of}
use Rattle.ieee.specs.Normalized.{significand_of, exponent_parity}
use Rattle.ieee.proofs.Normalized.{significand-is, parity-is}
use Rattle.pattern.specs.Operand.{Scaling}
use Rattle.pattern.specs.declared.operand.Scaled.{Scaled}
use Rattle.neighbour.specs.Scales.{ScalesOf}
use Rattle.neighbour.specs.Neighbour.{BelowResult}
use Rattle.neighbour.specs.declared.scales.Scales.{Scales}
use Rattle.neighbour.specs.declared.Neighbour.{Neighbour}
use Rattle.binary64.specs.Found.{FoundFor}

module _ (t : ℕ) (s : Scaled) (h : Scaling binary64 (magnitude_of binary64 t) s) (k : Scales) (tables : List ℕ) where
  -- the entry of a root's scaled operand is that of the significand and the parity of its magnitude
  same : (op : Op) → is_reciprocal op ≡ false → ScalesOf binary64 op s.exponent k
      → is_entry k64 t64 op s.significand k.parity tables
      ≡ is_entry k64 t64 op (significand_of binary64 (magnitude_of binary64 t)) (exponent_parity binary64 (magnitude_of binary64 t)) tables
  same op root sc =
      let x = magnitude_of binary64 t in
      let few : s.exponent < 2 ^ 12 = omega (arith, h.small) in
      let least : 2 ^ 52 ≤ s.significand = h.least in
      let below : s.significand < 2 ^ 53 = h.below in
      rw (
        significand-is binary64 x s.significand s.exponent h.is least below few,
        ← (sc.parity-is ∙ parity-is binary64 x s.significand s.exponent h.is least below few op root (lit≤ tt) (omega (arith, h.small))),
      )

  -- the reciprocal uses none
  entry-same : (op : Op) → ScalesOf binary64 op s.exponent k
      → is_entry k64 t64 op s.significand k.parity tables
      ≡ is_entry k64 t64 op (significand_of binary64 (magnitude_of binary64 t)) (exponent_parity binary64 (magnitude_of binary64 t)) tables
  unfolding is_entry
  entry-same Reciprocal sc = refl
  entry-same Root sc = same Root refl sc
  entry-same InverseRoot sc = same InverseRoot refl sc

-- a "no" to question 16
refused-as : (b : Bool) (g : ℕ) (e : Refusal) → Err e ≡ asked b R.Entry g → (b ≡ false) × (e ≡ R.Entry)
refused-as true g e h = absurd (let z : ◌≡◌ {A = ℕ} 0 1 = cc in omega arith)
refused-as false g e h = (refl, cc)

module _ (op : Op) (t : ℕ) (s : Scaled) (h : Scaling binary64 (magnitude_of binary64 t) s) (k : Scales) (sc : ScalesOf binary64 op s.exponent k)
    (tables : List ℕ) where
  -- what the raw unit asks
  pub operand-of : Operand k64 t64 op s.significand k.parity
  operand-of = record { significand = record { least = h.least; below = h.below }; parity = sc.one_bit; even = sc.even }

  -- where the entry is M, the raw answer is near
  module _ (g : ℕ) (e : Ok g ≡ entry_asked k64 t64 op s.significand k.parity tables) where
    pub near_of : Near op k64 t64 s.significand k.parity (bound_of op) g
    near_of = operand-near k64 t64 (omega arith) op s.significand k.parity g operand-of (entry-answer k64 t64 op s.significand k.parity tables g e)

    pub found : (n : Neighbour) → BelowResult binary64 op t n → FoundFor op t tables (Ok n)
    found n below = (sym (entry-same t s h k tables op sc) ∙ entry-held k64 t64 op s.significand k.parity tables g e, below)

  pub not_found : (e : Refusal) → Err e ≡ entry_asked k64 t64 op s.significand k.parity tables → FoundFor op t tables (Err e)
  not_found e r =
      let no = refused-as (is_entry k64 t64 op s.significand k.parity tables) _ e r in
      (sym (entry-same t s h k tables op sc) ∙ no.0, no.1)
