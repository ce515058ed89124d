-- The lent tables, over k: how many numbers they are, and which stands where. Assumes nothing.
use mathlib.Core.Path.{◌≡◌, refl, ap, sym, ◌∙◌}
use mathlib.Core.Bool.{false, true≢false}
use mathlib.Core.List.{List, [], ◌∷◌, ◌++◌}
use Prim.Native.Nat.{ℕ, zero, suc, ◌+◌, ◌*◌, ◌-◌, ◌/◌, ◌%◌, ◌^◌, ◌≤◌, ◌<◌}
use native.Mathlib.Nat.{div-lt_iff_lt-mul, div-add-mod', mod-lt}
use native.Mathlib.Omega.{arith}
use lib.ListN.{length, get_or, length-append, get_or-append}
use lib.Pow.{pow_pos}
use lib.Seq.{get_or-append-add}
use Rattle.kinds.specs.Operation.{op_of, is_reciprocal}
use Rattle.kinds.specs.declared.Op.{Op}
use Rattle.kinds.specs.declared.Op.TheVariants.{Reciprocal, Root, InverseRoot}
use Rattle.numbers.proofs.Exponents.{power-of}
use Rattle.significand.specs.Steps.{factor_of, multiplier_of}
use Rattle.significand.specs.Tables.{entries_from, table_of, tables, tables_length, tables_before, entry_place}

-- n indices from i up have n entries, and at j stands the entry of i + j
entries-length : (k : ℕ) (op : Op) (p i n : ℕ) → length (entries_from k op p i n) ≡ n
unfolding entries_from
entries-length k op p i zero = refl
entries-length k op p i (suc n) = ap suc (entries-length k op p (suc i) n)

entry-from : (k : ℕ) (op : Op) (p i n j : ℕ) → j < n → get_or (entries_from k op p i n) j 0 ≡ multiplier_of k op (factor_of k (i + j)) p
unfolding entries_from
entry-from k op p i zero j h = absurd (omega arith)
entry-from k op p i (suc n) zero h = ap (λ (x : ℕ). multiplier_of k op (factor_of k x) p) (omega arith)
entry-from k op p i (suc n) (suc j) h =
    entry-from k op p (suc i) n j (omega arith) ∙ ap (λ (x : ℕ). multiplier_of k op (factor_of k x) p) (omega arith)

module _ (k : ℕ) where
  table-length : (op : Op) (p : ℕ) → length (table_of k op p) ≡ 2 ^ k
  table-length op p = entries-length k op p (2 ^ k) (2 ^ k)

  -- LENGTH: four tables of 2^k numbers
  pub tables-length : length (tables k) ≡ tables_length k
  unfolding tables
  tables-length = simp (length-append, entries-length) (omega arith)

  -- a place in a table, the same with more numbers after it, and one past it
  module _ (op : Op) (p j : ℕ) where
    alone : j < 2 ^ k → get_or (table_of k op p) (0 * 2 ^ k + j) 0 ≡ multiplier_of k op (factor_of k (2 ^ k + j)) p
    alone h = let e : 0 * 2 ^ k + j ≡ j = omega arith in rw e (entry-from k op p (2 ^ k) (2 ^ k) j h)

    within : (rest : List ℕ) → j < 2 ^ k → get_or (table_of k op p ++ rest) (0 * 2 ^ k + j) 0 ≡ multiplier_of k op (factor_of k (2 ^ k + j)) p
    within rest h = get_or-append (table_of k op p) rest 0 (0 * 2 ^ k + j) (omega (arith, table-length op p)) ∙ alone h

    past : (q : ℕ) (rest : List ℕ) → get_or (table_of k op p ++ rest) (suc q * 2 ^ k + j) 0 ≡ get_or rest (q * 2 ^ k + j) 0
    past q rest =
        let e : suc q * 2 ^ k + j ≡ length (table_of k op p) + (q * 2 ^ k + j) = omega (arith, table-length op p) in
        ap (λ (x : ℕ). get_or (table_of k op p ++ rest) x 0) e ∙ get_or-append-add (table_of k op p) rest (q * 2 ^ k + j) 0

  -- what stands after the first, the second and the third table
  abbrev after-third : List ℕ
  after-third = table_of k InverseRoot 1

  abbrev after-second : List ℕ
  after-second = table_of k InverseRoot 0 ++ after-third

  abbrev after_first : List ℕ
  after_first = table_of k Root 1 ++ after-second

  -- the entry at j of the table of a root and a parity
  entry_at : (op : Op) (p j : ℕ) → is_reciprocal op ≡ false → p ≤ 1 → j < 2 ^ k
      → get_or (tables k) ((tables_before op + p) * 2 ^ k + j) 0 ≡ multiplier_of k op (factor_of k (2 ^ k + j)) p
  unfolding tables
  entry_at Reciprocal p j root e h = absurd (true≢false root)
  entry_at Root zero j root e h = within Root 0 j after_first h
  entry_at Root (suc zero) j root e h = past Root 0 j 0 after_first ∙ within Root 1 j after-second h
  entry_at InverseRoot zero j root e h = past Root 0 j 1 after_first ∙ past Root 1 j 0 after-second ∙ within InverseRoot 0 j after-third h
  entry_at InverseRoot (suc zero) j root e h = past Root 0 j 2 after_first ∙ past Root 1 j 1 after-second ∙ past InverseRoot 0 j 0 after-third ∙ alone InverseRoot 1 j h
  entry_at Root (suc (suc p)) j root e h = absurd (omega arith)
  entry_at InverseRoot (suc (suc p)) j root e h = absurd (omega arith)

  -- BY PLACE: where `entry_place` says stands M
  pub entry-placed : (op : Op) (p i : ℕ) → is_reciprocal op ≡ false → p ≤ 1 → 2 ^ k ≤ i → i < 2 ^ (k + 1)
      → get_or (tables k) (entry_place k op p i) 0 ≡ multiplier_of k op (factor_of k i) p
  entry-placed op p i root e least below =
      entry_at op p (i - 2 ^ k) root e (omega (arith, power-of (k + 1) (1 ∷ k ∷ []) (omega arith)))
      ∙ ap (λ (x : ℕ). multiplier_of k op (factor_of k x) p) (omega arith)

  -- BY NUMBER: the entry at n
  pub entry-numbered : (n : ℕ) → n < tables_length k
      → get_or (tables k) n 0 ≡ multiplier_of k (op_of (n / 2 ^ k / 2 + 2)) (factor_of k (2 ^ k + n % 2 ^ k)) (n / 2 ^ k % 2)
  entry-numbered n h =
      ap (λ (x : ℕ). get_or (tables k) x 0) (sym (div-add-mod' n (2 ^ k)))
      ∙ go (n / 2 ^ k) (n % 2 ^ k) ((div-lt_iff_lt-mul (pow_pos k)).1 h) (mod-lt n (pow_pos k))
    where
      go : (q j : ℕ) → q < 4 → j < 2 ^ k
          → get_or (tables k) (q * 2 ^ k + j) 0 ≡ multiplier_of k (op_of (q / 2 + 2)) (factor_of k (2 ^ k + j)) (q % 2)
      go zero j l s = entry_at Root 0 j refl (omega arith) s
      go (suc zero) j l s = entry_at Root 1 j refl (omega arith) s
      go (suc (suc zero)) j l s = entry_at InverseRoot 0 j refl (omega arith) s
      go (suc (suc (suc zero))) j l s = entry_at InverseRoot 1 j refl (omega arith) s
      go (suc (suc (suc (suc q)))) j l s = absurd (omega arith)
