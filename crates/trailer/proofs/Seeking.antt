-- A list's kind: what the code finds, and that a trailer of each kind is found to be what it is. Assumes nothing.
use mathlib.Core.Path.{◌≡◌, refl, sym, ap, ◌∙◌}
use mathlib.Core.Bool.{Bool, true, false, ◌&&◌}
use mathlib.Core.List.{List, ◌++◌}
use Prim.Native.Nat.{ℕ, ◌+◌, ◌-◌, ◌<◌}
use native.Mathlib.Omega.{arith}
use borrow.Author.Tests.{eqb-true}
use lib.Dec.{leb, eqb}
use lib.ListN.{length, get_or}
use Rattle.kinds.proofs.Questions.{both-are}
use Rattle.words.specs.Word.{reads_at}
use Rattle.trailer.specs.Kinds.{letters_of, length_of}
use Rattle.trailer.specs.Bytes.{ends_in, list_kind, trailer_bytes}
use Rattle.trailer.specs.declared.Kind.{Kind}
use Rattle.trailer.specs.declared.Kind.TheVariants.{Plt1, Cut1, Cut2}
use Rattle.trailer.specs.declared.Fields.{Fields}
use Rattle.trailer.proofs.Readings.{ends-fit}
use Rattle.trailer.proofs.RoundTrip.{ends-own}

-- ---- what the code finds

module _ (m : List ℕ) (r : Bool) (e : r ≡ ends_in Cut1 m) where
  pub kind-first : r ≡ true → Cut1 ≡ list_kind m
  unfolding list_kind
  kind-first p = simp (sym e ∙ p)

  pub kind-last : r ≡ false → Cut2 ≡ list_kind m
  unfolding list_kind
  kind-last p = simp (sym e ∙ p)

-- ---- letters in two places

-- every kind's third letter is a T, and no kind's first
third-letter : (k : Kind) → get_or (letters_of k) 2 0 ≡ 84
third-letter Plt1 = refl
third-letter Cut1 = refl
third-letter Cut2 = refl

first-letter : (k : Kind) → get_or (letters_of k) 0 0 < 84
first-letter Plt1 = omega arith
first-letter Cut1 = omega arith
first-letter Cut2 = omega arith

-- what stands where bytes end in a trailer
module _ (k : Kind) (m : List ℕ) (e : ends_in k m ≡ true) where
  abbrev place : ℕ
  place = length m - length_of k

  reads : reads_at m place (letters_of k) ≡ true
  unfolding ends_in
  reads = (both-are (leb (length_of k) (length m)) (reads_at m place (letters_of k)) e).1

  -- whether its first, second and third letter stand there
  abbrev has_first : Bool
  has_first = eqb (get_or m place 0) (get_or (letters_of k) 0 0)

  abbrev has-second : Bool
  has-second = eqb (get_or m (place + 1) 0) (get_or (letters_of k) 1 0)

  abbrev has-third : Bool
  has-third = eqb (get_or m (place + 2) 0) (get_or (letters_of k) 2 0)

  three : has_first && has-second && has-third ≡ true
  three = (both-are (has_first && has-second && has-third) (eqb (get_or m (place + 3) 0) (get_or (letters_of k) 3 0)) reads).0

  third : get_or m (place + 2) 0 ≡ 84
  third = eqb-true (get_or m (place + 2) 0) (get_or (letters_of k) 2 0) (both-are (has_first && has-second) has-third three).1 ∙ third-letter k

  first : get_or m place 0 < 84
  first =
      let e : get_or m place 0 ≡ get_or (letters_of k) 0 0 =
      eqb-true (get_or m place 0) (get_or (letters_of k) 0 0) (both-are has_first has-second (both-are (has_first && has-second) has-third three).0).0 in
      omega (arith, first-letter k)

-- no bytes end in two kinds whose lengths are two apart
pub two-apart : (j k : Kind) (m : List ℕ) → length_of k ≡ 2 + length_of j → ends_in k m ≡ true → ends_in j m ≡ false
two-apart j k m e p = tested (ends_in j m) refl
  where
    tested : (b : Bool) → ends_in j m ≡ b → ends_in j m ≡ false
    tested true q =
        let at : length m - length_of k + 2 ≡ length m - length_of j = omega (arith, ends-fit k m p) in
        absurd (omega (arith, third k m p, first j m q, ap (λ (x : ℕ). get_or m x 0) at))
    tested false q = q

-- ---- a trailer at the end

pub cut1-found : (l : List ℕ) (f : Fields) → list_kind (l ++ trailer_bytes Cut1 f) ≡ Cut1
cut1-found l f = sym (kind-first (l ++ trailer_bytes Cut1 f) true (sym (ends-own Cut1 f l)) refl)

-- a trailer CUT2 is never taken for CUT1
pub cut2-not-cut1 : (l : List ℕ) (f : Fields) → ends_in Cut1 (l ++ trailer_bytes Cut2 f) ≡ false
cut2-not-cut1 l f = two-apart Cut1 Cut2 (l ++ trailer_bytes Cut2 f) refl (ends-own Cut2 f l)

pub cut2-found : (l : List ℕ) (f : Fields) → list_kind (l ++ trailer_bytes Cut2 f) ≡ Cut2
cut2-found l f = sym (kind-last (l ++ trailer_bytes Cut2 f) false (sym (cut2-not-cut1 l f)) refl)
