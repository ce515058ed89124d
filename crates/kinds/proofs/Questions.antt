-- What a question that was passed tells, and the cases of the numbers. Assumes nothing.
use mathlib.Core.Path.{◌≡◌, refl, sym}
use mathlib.Core.Bool.{Bool, true, false, ◌&&◌, true≢false}
use Prim.Native.Nat.{ℕ, zero, suc, ◌≤◌}
use native.Mathlib.Omega.{arith}
use lib.Dec.{T}
use Rattle.kinds.specs.declared.Mode.{Mode}
use Rattle.kinds.specs.declared.Mode.TheVariants.{Nearest, Up, Down, TowardZero}
use Rattle.kinds.specs.Rounding.{mode_of, number_of}
use Rattle.kinds.specs.Question.{ask, then_ask}

-- a number that is not the question's own came from a later one, and the question was answered yes
pub later : (t : Bool) (n rest k : ℕ) → (n ≡ k → ⊥) → ask t n rest ≡ k → T t × (rest ≡ k)
unfolding ask
later true n rest k h e = (tt, e)
later false n rest k h e = absurd (h e)

-- so it is where no question gave its number
pub yes : (t : Bool) (n rest : ℕ) → ask t (suc n) rest ≡ 0 → T t × (rest ≡ 0)
yes t n rest e = later t (suc n) rest 0 (λ z. omega arith) e

-- one that was answered yes gives what the later ones give,
pub asked : (t : Bool) (n rest : ℕ) → T t → ask t n rest ≡ rest
unfolding ask
asked true n rest h = refl
asked false n rest h = absurd h

-- the same where the answer is a test's value, and its number where it is no
pub ask-yes : (t : Bool) (n rest k : ℕ) → t ≡ true → k ≡ rest → k ≡ ask t n rest
unfolding ask
ask-yes t n rest k e f = rw (e, f)

pub ask-no : (t : Bool) (n rest : ℕ) → t ≡ false → n ≡ ask t n rest
unfolding ask
ask-no t n rest e = rw e

-- a bound of its number and of what the later ones give bounds what it gives
pub ask-most : (t : Bool) (n rest k : ℕ) → n ≤ k → rest ≤ k → ask t n rest ≤ k
unfolding ask
ask-most true n rest k h l = l
ask-most false n rest k h l = h

pub sure : (t : Bool) → T t → t ≡ true
sure true h = refl
sure false h = absurd h

-- a test of two parts that is answered yes is so in both
pub both-are : (a b : Bool) → a && b ≡ true → (a ≡ true) × (b ≡ true)
both-are true b e = (refl, e)
both-are false b e = absurd (true≢false (sym e))

-- ---- two groups of questions

-- an earlier number stands
pub then-first : (a b k : ℕ) → k ≡ a → (k ≡ 0 → ⊥) → k ≡ then_ask a b
unfolding then_ask
then-first zero b k e h = absurd (h e)
then-first (suc a) b k e h = e

-- where there is none, the later group decides
pub then_next : (a b k : ℕ) → a ≡ 0 → k ≡ b → k ≡ then_ask a b
unfolding then_ask
then_next a b k e f = rw (e, f)

-- a number that is not the earlier group's is the later one's
pub then-later : (a b k : ℕ) → (a ≡ k → ⊥) → then_ask a b ≡ k → (a ≡ 0) × (b ≡ k)
unfolding then_ask
then-later zero b k h e = (refl, e)
then-later (suc a) b k h e = absurd (h e)

-- no number at all: none of either
pub then-none : (a b : ℕ) → then_ask a b ≡ 0 → (a ≡ 0) × (b ≡ 0)
unfolding then_ask
then-none zero b e = (refl, e)
then-none (suc a) b e = absurd (let z : suc a ≡ 0 = e in omega arith)

-- no number leaves the later group's
pub then_nothing : (c : ℕ) → then_ask 0 c ≡ c
unfolding then_ask
then_nothing c = refl

-- a group stands behind another where its questions do
pub then_assoc : (a b c : ℕ) → then_ask (then_ask a b) c ≡ then_ask a (then_ask b c)
unfolding then_ask
then_assoc zero b c = refl
then_assoc (suc a) b c = refl

pub then_asked : (t : Bool) (n rest c : ℕ) → then_ask (ask t (suc n) rest) c ≡ ask t (suc n) (then_ask rest c)
unfolding ask then_ask
then_asked true n rest c = refl
then_asked false n rest c = refl

-- ---- the number of a case

pub number-most : (mode : Mode) → number_of mode ≤ 3
number-most Nearest = omega arith
number-most Up = omega arith
number-most Down = omega arith
number-most TowardZero = omega arith

-- a rounding's number is that of its case
pub number-back : (n : ℕ) → n ≤ 3 → number_of (mode_of n) ≡ n
number-back zero h = refl
number-back (suc zero) h = refl
number-back (suc (suc zero)) h = refl
number-back (suc (suc (suc zero))) h = refl
number-back (suc (suc (suc (suc n)))) h = absurd (omega arith)

-- and a case that of its number
pub mode-back : (mode : Mode) → mode_of (number_of mode) ≡ mode
mode-back Nearest = refl
mode-back Up = refl
mode-back Down = refl
mode-back TowardZero = refl
