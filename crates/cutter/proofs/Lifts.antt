-- The lifted z is the least number that is not below z and meets the rule for all heights, and no other is. Assumes nothing.
use Prim.Native.Nat.{ℕ, ◌+◌, ◌-◌, ◌*◌, ◌^◌, ◌≤◌}
use mathlib.Core.Path.{◌≡◌, refl, sym, ap, ap₂, subst, ◌∙◌}
use mathlib.Core.Bool.{Bool, true, false, ◌&&◌, ◌||◌}
use mathlib.Core.List.{List, [], ◌∷◌, ◌++◌}
use native.Mathlib.Nat.{mul-le-mul}
use native.Mathlib.Omega.{arith}
use borrow.Author.Tests.{le-leb, lt-leb}
use lib.Dec.{T, leb, leb→le, le→leb}
use lib.Signed.{le_z, ◌≤ℤ◌}
use lib.IntN.{ℤ, pos, nat_abs, sub_ℕ, ◌+ℤ◌, ◌-ℤ◌, +ℤ_assoc, +ℤ_idr, pos-+ℤ-pos}
use Rattle.numbers.specs.Least.{least, LeastFrom}
use Rattle.numbers.proofs.Least.{Monotone, least-below, least-passes, least-is, both, first, second}
use Rattle.numbers.proofs.Differences.{either, diff-eq, diff-sub, diff-abs, diff-more, over, under, as-diff, each-diff, abs-parts, abs-add, diff-order}
use Rattle.cutter.specs.Centre.{Centre}
use Rattle.cutter.specs.Lift.{Contact, clears, meets, meets_all, lifted_over, contact_at, three_at, nine_at}
use Rattle.cutter.specs.Lifted.{Near, Meets, Each, MeetsAll, LiftedTo}

-- ---- the nine heights

-- one of three numbers round c
three-cases : (P : ℕ → Type 0) (c a : ℕ) → a ≤ c + 1 → c ≤ a + 1 → P (c - 1) → P c → P (c + 1) → P a
three-cases P c a h k before own behind =
    either a c
    (λ l. either a (c + 1) (λ j. subst P (omega arith) behind) (λ j. subst P (omega arith) own))
    (λ l. subst P (omega arith) before)

-- are those at the point's column and row and one away
module _ (P : Contact → Type 0) (m : List ℕ) (w step : ℕ) (k : Centre) (c q : ℕ) where
  abbrev at : ℕ → ℕ → Type 0
  at a b = P (contact_at m w step k a b)

  pub nine-each : Each P (nine_at m w step k c q) → (a b : ℕ) → Near c q a b → at a b
  unfolding nine_at three_at
  nine-each t a b near =
      let r₁ = t.1 in
      let r₂ = r₁.1 in
      let s₀ = r₂.1 in
      let s₁ = s₀.1 in
      let s₂ = s₁.1 in
      let u₀ = s₂.1 in
      let u₁ = u₀.1 in
      let u₂ = u₁.1 in
      three-cases (at a) q b near.below near.above
      (three-cases (λ (a : ℕ). at a (q - 1)) c a near.right near.left t.0 r₁.0 r₂.0)
      (three-cases (λ (a : ℕ). at a q) c a near.right near.left s₀.0 s₁.0 s₂.0)
      (three-cases (λ (a : ℕ). at a (q + 1)) c a near.right near.left u₀.0 u₁.0 u₂.0)

  -- and no others
  pub nine-all : ((a b : ℕ) → Near c q a b → at a b) → Each P (nine_at m w step k c q)
  unfolding nine_at three_at
  nine-all f =
      let g : (a b : ℕ) → a ≤ c + 1 → c ≤ a + 1 → b ≤ q + 1 → q ≤ b + 1 → at a b =
      λ a b right left below above. f a b (record { right = right; left = left; below = below; above = above }) in
      let row : (b : ℕ) → b ≤ q + 1 → q ≤ b + 1 → at (c - 1) b × at c b × at (c + 1) b =
      λ b below above. (g (c - 1) b (omega arith) (omega arith) below above, g c b (omega arith) (omega arith) below above, g (c + 1) b (omega arith) (omega arith) below above) in
      let x = row (q - 1) (omega arith) (omega arith) in
      let y = row q (omega arith) (omega arith) in
      let z = row (q + 1) (omega arith) (omega arith) in
      (x.0, (x.1, (x.2, (y.0, (y.1, (y.2, (z.0, (z.1, (z.2, tt)))))))))

-- ---- one height

-- a height and z, each a difference: one test of squares, where a difference of naturals is 0 where there is none
pub meets-diff : (radius a b c d apart : ℕ)
    → meets radius (record { height = sub_ℕ a b; apart = apart }) (sub_ℕ c d)
    ≡ leb (radius * radius - apart) ((c + b - (a + d)) * (c + b - (a + d)))
unfolding meets clears
meets-diff radius a b c d apart =
    let s : ℕ = radius * radius - apart in
    let x : ℕ = c + b in
    let y : ℕ = a + d in
    either apart (radius * radius)
    (λ h.
    let z : s ≡ 0 = omega arith in
    simp (le-leb (radius * radius) apart h) (sym (le-leb s ((x - y) * (x - y)) (omega arith))))
    (λ h.
    either x y
    (λ k.
    let n : nat_abs (sub_ℕ c d -ℤ sub_ℕ a b) ≡ x - y = ap nat_abs (diff-sub c d a b) ∙ diff-abs (c + b) (d + a) ∙ omega arith in
    simp (lt-leb (radius * radius) apart h, diff-order a b c d ∙ le-leb y x k, n))
    (λ k.
    let z : x - y ≡ 0 = omega arith in
    simp (lt-leb (radius * radius) apart h, diff-order a b c d ∙ lt-leb y x k) (sym (ap (λ (t : ℕ). leb s (t * t)) z ∙ lt-leb s (0 * 0) (omega arith)))))

-- what meets the rule still does higher up
meets-up : (radius : ℕ) (k : Contact) (z : ℤ) (n : ℕ) → T (meets radius k z) → T (meets radius k (z +ℤ pos n))
meets-up radius k z n =
    each-diff (λ (h : ℤ). T (meets radius (record { height = h; apart = k.apart }) z) → T (meets radius (record { height = h; apart = k.apart }) (z +ℤ pos n)))
    (λ a b.
    each-diff (λ (z : ℤ). T (meets radius (record { height = sub_ℕ a b; apart = k.apart }) z) → T (meets radius (record { height = sub_ℕ a b; apart = k.apart }) (z +ℤ pos n)))
    (λ c d t.
    let s : ℕ = radius * radius - k.apart in
    let x : ℕ = c + b - (a + d) in
    let y : ℕ = c + n + b - (a + d) in
    let low : s ≤ x * x = leb→le s (x * x) (subst T (meets-diff radius a b c d k.apart) t) in
    let up : x ≤ y = omega arith in
    subst T (sym (ap (meets radius (record { height = sub_ℕ a b; apart = k.apart })) (diff-more c d n) ∙ meets-diff radius a b (c + n) d k.apart))
    (le→leb s (y * y) (omega (arith, mul-le-mul up up))))
    z)
    k.height

-- far enough above z every height up to a limit is met
meets-high : (radius : ℕ) (k : Contact) (z : ℤ) (limit : ℕ) → nat_abs k.height ≤ limit → T (meets radius k (z +ℤ pos (nat_abs z + limit + radius)))
meets-high radius k z limit h =
    let a : ℕ = over k.height in
    let b : ℕ = under k.height in
    let c : ℕ = over z in
    let d : ℕ = under z in
    let n : ℕ = nat_abs z + limit + radius in
    let s : ℕ = radius * radius - k.apart in
    let y : ℕ = c + n + b - (a + d) in
    let up : radius ≤ y = omega (arith, abs-parts z, abs-parts k.height) in
    let e : z +ℤ pos n ≡ sub_ℕ (c + n) d = ap (λ (x : ℤ). x +ℤ pos n) (as-diff z) ∙ diff-more c d n in
    subst T
    (sym (ap₂ (λ (h x : ℤ). meets radius (record { height = h; apart = k.apart }) x) (as-diff k.height) e ∙ meets-diff radius a b (c + n) d k.apart))
    (le→leb s (y * y) (omega (arith, mul-le-mul up up)))

-- ---- all of them

-- heights from −limit to limit
abbrev pub AllWithin : ℕ → List Contact → Type 0
AllWithin limit ks = Each (λ (k : Contact). nat_abs k.height ≤ limit) ks

pub all_up : (radius : ℕ) (ks : List Contact) (z : ℤ) (n : ℕ) → T (meets_all radius ks z) → T (meets_all radius ks (z +ℤ pos n))
unfolding meets_all
all_up radius [] z n t = tt
all_up radius (k ∷ ks) z n t =
    both (meets radius k (z +ℤ pos n)) (meets_all radius ks (z +ℤ pos n))
    (meets-up radius k z n (first (meets radius k z) (meets_all radius ks z) t))
    (all_up radius ks z n (second (meets radius k z) (meets_all radius ks z) t))

all-high : (radius : ℕ) (ks : List Contact) (z : ℤ) (limit : ℕ) → AllWithin limit ks → T (meets_all radius ks (z +ℤ pos (nat_abs z + limit + radius)))
unfolding meets_all
all-high radius [] z limit h = tt
all-high radius (k ∷ ks) z limit h =
    let x : ℤ = z +ℤ pos (nat_abs z + limit + radius) in
    both (meets radius k x) (meets_all radius ks x) (meets-high radius k z limit h.0) (all-high radius ks z limit h.1)

-- two lists of them
pub all_append : (radius : ℕ) (ks ls : List Contact) (z : ℤ) → meets_all radius (ks ++ ls) z ≡ (meets_all radius ks z && meets_all radius ls z)
unfolding meets_all
all_append radius [] ls z = refl
all_append radius (k ∷ ks) ls z = ap (λ (b : Bool). meets radius k z && b) (all_append radius ks ls z) ∙ and_assoc (meets radius k z) (meets_all radius ks z) (meets_all radius ls z)
  where
    and_assoc : (a b c : Bool) → (a && (b && c)) ≡ ((a && b) && c)
    and_assoc true b c = refl
    and_assoc false b c = refl

-- ---- the rule in statements

module _ (radius : ℕ) (k : Contact) (z : ℤ) where
  meets-of : T (meets radius k z) → Meets radius z k
  unfolding meets clears
  meets-of t l =
      let s : ℕ = radius * radius - k.apart in
      let d : ℕ = nat_abs (z -ℤ k.height) in
      let u : T (le_z k.height z && leb s (d * d)) = subst (λ (b : Bool). T (b || (le_z k.height z && leb s (d * d)))) (lt-leb (radius * radius) k.apart l) t in
      record { above = record { le = first (le_z k.height z) (leb s (d * d)) u }; far = leb→le s (d * d) (second (le_z k.height z) (leb s (d * d)) u) }

  of_meets : Meets radius z k → T (meets radius k z)
  unfolding meets clears
  of_meets m =
      let s : ℕ = radius * radius - k.apart in
      let d : ℕ = nat_abs (z -ℤ k.height) in
      either k.apart (radius * radius)
      (λ h. subst (λ (b : Bool). T (b || (le_z k.height z && leb s (d * d)))) (sym (le-leb (radius * radius) k.apart h)) tt)
      (λ h.
      subst (λ (b : Bool). T (b || (le_z k.height z && leb s (d * d)))) (sym (lt-leb (radius * radius) k.apart h))
      (both (le_z k.height z) (leb s (d * d)) (m h).above.le (le→leb s (d * d) (m h).far)))

all_of : (radius : ℕ) (ks : List Contact) (z : ℤ) → T (meets_all radius ks z) → MeetsAll radius z ks
unfolding meets_all
all_of radius [] z t = tt
all_of radius (k ∷ ks) z t =
    (meets-of radius k z (first (meets radius k z) (meets_all radius ks z) t), all_of radius ks z (second (meets radius k z) (meets_all radius ks z) t))

of-all : (radius : ℕ) (ks : List Contact) (z : ℤ) → MeetsAll radius z ks → T (meets_all radius ks z)
unfolding meets_all
of-all radius [] z m = tt
of-all radius (k ∷ ks) z m = both (meets radius k z) (meets_all radius ks z) (of_meets radius k z m.0) (of-all radius ks z m.1)

-- ---- order

-- what is at least z is so many steps up
pub steps_up : (z x : ℤ) → z ≤ℤ x → x ≡ z +ℤ pos (over x + under z - (over z + under x))
steps_up z x h =
    let a : ℕ = over z in
    let b : ℕ = under z in
    let c : ℕ = over x in
    let d : ℕ = under x in
    let n : ℕ = c + b - (a + d) in
    let l : a + d ≤ c + b = leb→le (a + d) (c + b) (subst T (ap₂ le_z (as-diff z) (as-diff x) ∙ diff-order a b c d) h.le) in
    as-diff x ∙ diff-eq c d (a + n) b (omega arith) ∙ sym (ap (λ (y : ℤ). y +ℤ pos n) (as-diff z) ∙ diff-more a b n)

-- fewer steps go less far
pub up-order : (z : ℤ) (m n : ℕ) → m ≤ n → (z +ℤ pos m) ≤ℤ (z +ℤ pos n)
up-order z m n h =
    let a : ℕ = over z in
    let b : ℕ = under z in
    let at : (k : ℕ) → z +ℤ pos k ≡ sub_ℕ (a + k) b = λ k. ap (λ (y : ℤ). y +ℤ pos k) (as-diff z) ∙ diff-more a b k in
    record { le = subst T (sym (ap₂ le_z (at m) (at n) ∙ diff-order (a + m) b (a + n) b)) (le→leb (a + m + b) (a + n + b) (omega arith)) }

-- ---- the lifted z

-- two steps up are one
two_up : (z : ℤ) (m n : ℕ) → z +ℤ pos m +ℤ pos n ≡ z +ℤ pos (m + n)
two_up z m n = +ℤ_assoc z (pos m) (pos n) ∙ ap (λ (t : ℤ). z +ℤ t) (pos-+ℤ-pos m n)

module _ (radius : ℕ) (ks : List Contact) (z : ℤ) where
  abbrev test : ℕ → Bool
  test n = meets_all radius ks (z +ℤ pos n)

  test-up : Monotone test
  test-up a b h t =
      let e : a + (b - a) ≡ b = omega arith in
      subst (λ (n : ℕ). T (meets_all radius ks (z +ℤ pos n))) e
      (subst (λ (x : ℤ). T (meets_all radius ks x)) (two_up z a (b - a)) (all_up radius ks (z +ℤ pos a) (b - a) t))

  -- where z meets all it is kept
  pub lifted-stays : T (meets_all radius ks z) → lifted_over radius ks z ≡ z
  unfolding lifted_over
  lifted-stays t =
      let none : least 40 test ≡ 0 = omega (arith, least-below 40 test test-up 0 (subst (λ (x : ℤ). T (meets_all radius ks x)) (sym (+ℤ_idr z)) t)) in
      ap (λ (n : ℕ). z +ℤ pos n) none ∙ +ℤ_idr z

  -- a number of steps that meets all, while no smaller one does
  pub lifted-is : (n : ℕ) → n ≤ 2 ^ 40 → T (test n) → ((y : ℕ) → T (test y) → n ≤ y) → lifted_over radius ks z ≡ z +ℤ pos n
  unfolding lifted_over
  lifted-is n h t low = ap (λ (n : ℕ). z +ℤ pos n) (least-is 40 test test-up n t h low)

  module _ (limit : ℕ) (within : AllWithin limit ks) where
    reached : T (test (nat_abs z + limit + radius))
    reached = all-high radius ks z limit within

    -- how far up it goes
    pub steps-most : least 40 test ≤ nat_abs z + limit + radius
    steps-most = least-below 40 test test-up (nat_abs z + limit + radius) reached

    pub steps-pass : nat_abs z + limit + radius ≤ 2 ^ 40 → T (test (least 40 test))
    steps-pass h = least-passes 40 test test-up (nat_abs z + limit + radius) reached h

    pub lifted-abs : nat_abs (lifted_over radius ks z) ≤ nat_abs z + (nat_abs z + limit + radius)
    unfolding lifted_over
    lifted-abs = omega (arith, abs-add z (pos (least 40 test)), steps-most)

    -- THE THEOREM: where the numbers are small
    pub lifted-is-least : nat_abs z + limit + radius ≤ 2 ^ 40 → LiftedTo radius ks z (lifted_over radius ks z)
    unfolding lifted_over
    lifted-is-least h =
        record {
          above = subst (λ (x : ℤ). x ≤ℤ (z +ℤ pos (least 40 test))) (+ℤ_idr z) (up-order z 0 (least 40 test) (omega arith));
          meets = all_of radius ks (z +ℤ pos (least 40 test)) (steps-pass h);
          least = λ x l m.
              let n : ℕ = over x + under z - (over z + under x) in
              let e : x ≡ z +ℤ pos n = steps_up z x l in
              let t : T (test n) = subst (λ (y : ℤ). T (meets_all radius ks y)) e (of-all radius ks x m) in
              subst (λ (y : ℤ). (z +ℤ pos (least 40 test)) ≤ℤ y) (sym e) (up-order z (least 40 test) n (least-below 40 test test-up n t));
        }

  -- where z meets the rule for all, in statements
  pub lifted-keeps : MeetsAll radius z ks → lifted_over radius ks z ≡ z
  lifted-keeps m = lifted-stays (of-all radius ks z m)

-- the nine heights are seen from x and y alone
pub same-nine : (m : List ℕ) (w step c q : ℕ) (k l : Centre) → k.x ≡ l.x → k.y ≡ l.y → nine_at m w step k c q ≡ nine_at m w step l c q
unfolding nine_at three_at contact_at
same-nine m w step c q k l ex ey = cc

-- as code has it, heights and z with a bias
pub lifted-biased : (radius : ℕ) (ks : List Contact) (bias z r : ℕ) → LeastFrom (λ (y : ℕ). meets_all radius ks (sub_ℕ y bias)) z r → r ≤ z + 2 ^ 40
    → sub_ℕ r bias ≡ lifted_over radius ks (sub_ℕ z bias)
lifted-biased radius ks bias z r f h =
    let n : ℕ = r - z in
    let e : z + n ≡ r = omega (arith, f.above) in
    let up : (k : ℕ) → sub_ℕ z bias +ℤ pos k ≡ sub_ℕ (z + k) bias = λ k. diff-more z bias k in
    sym (
    lifted-is radius ks (sub_ℕ z bias) n (omega arith)
    (subst (λ (x : ℤ). T (meets_all radius ks x)) (sym (up n ∙ ap (λ (x : ℕ). sub_ℕ x bias) e)) f.passes)
    (λ y t. omega (arith, f.least (z + y) (omega arith) (subst (λ (x : ℤ). T (meets_all radius ks x)) (up y) t)))
    ∙ up n
    ∙ ap (λ (x : ℕ). sub_ℕ x bias) e
    )
