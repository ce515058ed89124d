-- What the test of a pattern tells: operand and result are normal numbers. Assumes nothing.
use mathlib.Core.Path.{◌≡◌, refl, sym, ◌∙◌}
use mathlib.Core.Bool.{Bool, true, false, true≢false, ◌&&◌, not, and-false}
use Prim.Native.Nat.{ℕ, ◌+◌, ◌*◌, ◌^◌, ◌≤◌, ◌<◌}
use native.Mathlib.Nat.{mod-eq_of_lt, div-eq_of_lt, div-mul-le_self, lt-div-mul-add}
use native.Mathlib.Omega.{arith}
use borrow.Author.Tests.{leb-true, ltb-true, lt-leb, ne_eqb, not-false}
use lib.Dec.{leb, ltb, eqb}
use lib.Pow.{pow_pos}
use Rattle.kinds.specs.declared.Op.{Op}
use Rattle.kinds.specs.declared.Op.TheVariants.{Reciprocal, Root, InverseRoot}
use Rattle.kinds.specs.declared.Mode.{Mode}
use Rattle.kinds.specs.Operation.{is_reciprocal}
use Rattle.kinds.proofs.Questions.{both-are}
use Rattle.ieee.specs.Format.{binary32, infinity}
use Rattle.ieee.specs.Floor.{scale_of}
use Rattle.ieee.specs.Answer.{is_special, to_finite, answer_of}
use Rattle.pattern.specs.Parts.{PartsOf}
use Rattle.pattern.specs.Operand.{Ordinary}
use Rattle.pattern.specs.Answer.{Answered}
use Rattle.pattern.specs.declared.parts.Parts.{Parts}
use Rattle.pattern.specs.declared.answer.Rounded.{Rounded}
use Rattle.rounding.proofs.Answers.{answer-ordinary}
use Rattle.results.specs.Plain.{Plain}
use Rattle.binary32.specs.Normal.{is_plain}

-- what the test of a pattern tells of its parts
module _ (b : ℕ) (x : Parts) (p : PartsOf binary32 b x) where
  abbrev t : ℕ
  t = x.unsigned

  abbrev f : ℕ
  f = x.exponent

  field-low : f * 2 ^ 23 ≤ t
  field-low = rw p.fields.exponent (div-mul-le_self t (2 ^ 23))

  field-high : t < f * 2 ^ 23 + 2 ^ 23
  field-high = rw p.fields.exponent (lt-div-mul-add (pow_pos 23))

  -- a pattern below the sign's bit is positive, and all of it
  positive : b < 2 ^ 31 → (x.sign ≡ 0) × (t ≡ b)
  positive h = (p.sign ∙ div-eq_of_lt h, p.unsigned ∙ mod-eq_of_lt h)

  module _ (op : Op) (some : 0 < f) (few : f < 255) where
    ordinary : Ordinary binary32 t
    ordinary = record { finite = omega (arith, field-high); some = omega (arith, field-low) }

    plain-from : eqb x.sign 1 && not (is_reciprocal op) ≡ false → (is_reciprocal op ≡ false → x.sign ≡ 0) → 2 ≤ scale_of binary32 op (f + 22) → scale_of binary32 op (f + 22) ≤ 253 → Plain op x
    unfolding is_special
    plain-from e positive least most =
        record {
          ordinary = ordinary;
          fields = p.fields;
          one_bit = p.one_bit;
          some = some;
          positive = positive;
          not-special = rw (lt-leb (infinity binary32) t ordinary.finite, ne_eqb t 0 (λ z. omega (arith, ordinary.some)), e);
          least = least;
          most = most;
        }

  -- a root's exponents, from the pattern
  rooted : leb 8388608 b && ltb b 2139095040 ≡ true → (0 < f) × (f < 255) × (x.sign ≡ 0)
  rooted h =
      let c = both-are (leb 8388608 b) (ltb b 2139095040) h in
      let low = leb-true 8388608 b c.0 in
      let high = ltb-true b 2139095040 c.1 in
      let is = positive (omega arith) in
      (omega (arith, field-high, is.1), omega (arith, field-low, is.1), is.0)

  told : (op : Op) → is_plain op b f ≡ true → Plain op x
  unfolding is_plain
  told Reciprocal h =
      let c = both-are (leb 1 f) (leb f 252) h in
      let some = leb-true 1 f c.0 in
      let few = leb-true f 252 c.1 in
      plain-from Reciprocal (omega arith) (omega arith) (and-false (eqb x.sign 1)) (λ e. absurd (true≢false e)) (omega arith) (omega arith)
  told Root h =
      let c = rooted h in
      plain-from Root c.0 c.1 (rw c.2) (λ _. c.2) (omega (arith, c.1)) (omega (arith, c.1))
  told InverseRoot h =
      let c = rooted h in
      plain-from InverseRoot c.0 c.1 (rw c.2) (λ _. c.2) (omega (arith, c.1)) (omega (arith, c.1))

  module _ (op : Op) (h : Bool) (eh : h ≡ is_plain op b f) (et : not h ≡ false) where
    pub plain : Plain op x
    plain = told op (sym eh ∙ not-false h et)

    -- so that the short way has the answer
    pub plain-answered : (mode : Mode) (r : Rounded) → Answered binary32 (to_finite binary32 op mode x.sign t) r → Answered binary32 (answer_of binary32 op mode b) r
    plain-answered mode r a = answer-ordinary binary32 op mode b x false r p (sym plain.not-special) refl a

-- the test by the case of the operation
module _ (op : Op) (b e : ℕ) where
  pub reciprocal-test : op ≡ Reciprocal → leb 1 e && leb e 252 ≡ is_plain op b e
  unfolding is_plain
  reciprocal-test o = rw o

  pub root-test : op ≡ Root → leb 8388608 b && ltb b 2139095040 ≡ is_plain op b e
  unfolding is_plain
  root-test o = rw o

  pub inverse-test : op ≡ InverseRoot → leb 8388608 b && ltb b 2139095040 ≡ is_plain op b e
  unfolding is_plain
  inverse-test o = rw o
