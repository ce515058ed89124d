-- The offsets and the centre at a point, as the code works them out. Assumes nothing.
use mathlib.Core.Path.{◌≡◌, refl, ap, ◌∙◌}
use mathlib.Core.List.{List}
use Prim.Native.Nat.{ℕ, ◌+◌, ◌*◌, ◌≤◌}
use native.Mathlib.Nat.{mul-le-mul}
use native.Mathlib.Omega.{arith}
use lib.ListN.{length}
use lib.IntN.{ℤ, pos, neg_ℤ, ◌+ℤ◌}
use Rattle.kinds.specs.declared.Mode.{Mode}
use Rattle.words.specs.Word.{word_at, word_bytes}
use Rattle.words.specs.Signed.{signed, word_of, with_sign}
use Rattle.words.specs.Parts.{parts_of}
use Rattle.words.specs.Splice.{splice}
use Rattle.words.proofs.Splicing.{three-words}
use Rattle.words.proofs.Differences.{abs_neg, signed-small, parts-pos, magnitude-is, negative-is}
use Rattle.words.specs.declared.Signed.{Signed}
use Rattle.cutter.specs.Offset.{squared_length, offset_of}
use Rattle.cutter.proofs.Offsets.{offset-parts}
use Rattle.cutter.proofs.Points.{height-is, record_is}
use Rattle.trailer.specs.declared.Fields.{Fields}
use Rattle.cutter.specs.Map.{Inner, height_at, dx_at, dy_at}
use Rattle.cutter.specs.Centre.{centre_of, point_at, record_bytes}
use Rattle.cutter.specs.Limits.{side_most, step_most}
use Rattle.cutter.specs.Accepted.{Sizes, Steps}
use Rattle.centres.specs.Prepared.{signed_of, squared_of, PreparedOf}
use Rattle.centres.specs.Words.{offset_parts, up_of, offsets_of, words_bytes}
use Rattle.centres.specs.declared.Offsets.{Offsets}
use Rattle.centres.specs.declared.Prepared.{Prepared}
use Rattle.centres.specs.declared.Words.{Words}

-- ---- the offsets

pub offsets_are : (mode : Mode) (p : Prepared) (step radius : ℕ) (x y z : Signed) → x ≡ offset_parts mode (signed_of p.x) radius (squared_of p step)
    → y ≡ offset_parts mode (signed_of p.y) radius (squared_of p step) → z ≡ offset_parts mode (up_of step) radius (squared_of p step)
    → record { x = x; y = y; z = z } ≡ offsets_of mode p step radius
unfolding offsets_of
offsets_are mode p step radius x y z ex ey ez = cc

-- ---- the coordinates of a map point

coordinate-most : (c step : ℕ) → c ≤ side_most → step ≤ step_most → c * step ≤ 640000
coordinate-most c step h k = mul-le-mul h k

module _ (w d c q step radius : ℕ) (s : Sizes w d) (h : Inner w d c q) (g : Steps step radius) where
  column-most : c * step ≤ 640000
  column-most = coordinate-most c step (omega (arith, h.right, s.narrow)) g.step-most

  row-most : q * step ≤ 640000
  row-most = coordinate-most q step (omega (arith, h.below, s.shallow)) g.step-most

-- ---- the centre

-- an offset by sign and magnitude is the component's
offset-is : (mode : Mode) (z : ℤ) (c : Signed) (t : Signed) (radius l : ℕ) → c ≡ parts_of z → t ≡ offset_parts mode c radius l
    → with_sign t.negative t.magnitude ≡ offset_of mode z radius l
offset-is mode z c t radius l e f =
    ap (λ (t : Signed). with_sign t.negative t.magnitude) f
    ∙ offset-parts mode z radius l c.negative c.magnitude _ (negative-is c z e) (magnitude-is c z e) refl

module _ (mode : Mode) (m : List ℕ) (t : Fields) (d c q : ℕ) (p : Prepared) (f : PreparedOf m t c q p) where
  abbrev w : ℕ
  w = t.width

  abbrev step : ℕ
  step = t.step

  abbrev radius : ℕ
  radius = t.radius

  squared-is : squared_of p step ≡ squared_length (dx_at m w c q) (dy_at m w c q) step
  squared-is =
      cc (
        abs_neg (dx_at m w c q),
        abs_neg (dy_at m w c q),
        magnitude-is (signed_of p.x) (neg_ℤ (dx_at m w c q)) f.x,
        magnitude-is (signed_of p.y) (neg_ℤ (dy_at m w c q)) f.y,
        p.x.squared,
        p.y.squared,
      )

  pub centre-is : (o : Offsets) (i u x y z : ℕ) → Sizes w d → Inner w d c q → Steps step radius → o ≡ offsets_of mode p step radius
      → i ≡ q * w + c → u ≡ word_at m (4 * i)
      → x ≡ word_of (signed (c * step) +ℤ with_sign o.x.negative o.x.magnitude)
      → y ≡ word_of (signed (q * step) +ℤ with_sign o.y.negative o.y.magnitude)
      → z ≡ word_of (signed u +ℤ with_sign o.z.negative o.z.magnitude)
      → words_bytes (record { x = x; y = y; z = z }) ≡ record_bytes (centre_of mode step radius (point_at m w c q))
  unfolding words_bytes
  centre-is o i u x y z s h k eo ei eu ex ey ez =
      let l : squared_of p step ≡ squared_length (dx_at m w c q) (dy_at m w c q) step = squared-is in
      let column : signed (c * step) ≡ pos (c * step) = signed-small (c * step) (omega (arith, column-most w d c q step radius s h k)) in
      let row : signed (q * step) ≡ pos (q * step) = signed-small (q * step) (omega (arith, row-most w d c q step radius s h k)) in
      let height : signed u ≡ height_at m w c q = ap signed (rw ei at eu) ∙ height-is m w c q in
      let ox = offset-is mode (neg_ℤ (dx_at m w c q)) (signed_of p.x) o.x radius (squared_of p step) f.x (unfold offsets_of in ap (λ (o : Offsets). o.x) eo) in
      let oy = offset-is mode (neg_ℤ (dy_at m w c q)) (signed_of p.y) o.y radius (squared_of p step) f.y (unfold offsets_of in ap (λ (o : Offsets). o.y) eo) in
      let oz = offset-is mode (pos (2 * step)) (up_of step) o.z radius (squared_of p step) (parts-pos (2 * step)) (unfold offsets_of in ap (λ (o : Offsets). o.z) eo) in
      cc (record_is mode step radius m w c q)

-- ---- the record

pub words-put : (k : Words) (at : ℕ) (l l₁ l₂ l₃ : List ℕ) → at + 12 ≤ length l
    → l₁ ≡ splice at (word_bytes k.x) l → l₂ ≡ splice (at + 4) (word_bytes k.y) l₁ → l₃ ≡ splice (at + 8) (word_bytes k.z) l₂
    → l₃ ≡ splice at (words_bytes k) l
unfolding words_bytes
words-put k at l l₁ l₂ l₃ = three-words at k.x k.y k.z l l₁ l₂ l₃
