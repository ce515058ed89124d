-- The list of an accepted map, whole: its records, and its trailer right behind them. Assumes nothing.
use mathlib.Core.Path.{◌≡◌, sym, ap, ap₂, ◌∙◌}
use mathlib.Core.List.{List}
use Prim.Native.Nat.{ℕ, ◌+◌, ◌*◌, ◌≤◌}
use native.Mathlib.Nat.{zero-add}
use native.Mathlib.Omega.{arith}
use lib.ListN.{length}
use Rattle.kinds.specs.Rounding.{number_of}
use Rattle.kinds.specs.declared.Mode.{Mode}
use Rattle.kinds.specs.declared.Rule.{Rule}
use Rattle.words.specs.Splice.{splice}
use Rattle.words.specs.Joined.{joined}
use Rattle.words.proofs.Splicing.{splice-splice}
use Rattle.trailer.specs.Kinds.{length_of, new_list}
use Rattle.trailer.specs.Bytes.{trailer_bytes}
use Rattle.trailer.specs.declared.Fields.{Fields}
use Rattle.trailer.proofs.Layouts.{length-trailer}
use Rattle.cutter.specs.Map.{trailer_of}
use Rattle.cutter.specs.List.{count_of, record_at, all_records, list_fields, list_length, list_bytes}
use Rattle.cutter.proofs.Lengths.{length-records, list-parts, list-length-is}

held_of : (m : List ℕ) (room : ℕ) → list_length m ≤ room → (t : Fields) → t ≡ trailer_of m → 12 * count_of t.width t.depth + length_of new_list ≤ room
unfolding list_length
held_of m room h t e = rw e h

module _ (m : List ℕ) (t : Fields) (n : ℕ) (e : t ≡ trailer_of m) (is : n ≡ 12 * count_of t.width t.depth) where
  -- the code's length is the list's
  pub length-of : (x : ℕ) → x ≡ length_of new_list → n + x ≡ list_length m
  length-of x f = cc (list-length-is m)

  -- the records, and the trailer with the map's numbers and the rounding's
  pub list_put : (rule : Rule) (mode : Mode) (r : ℕ) (l l₁ l₂ : List ℕ) → list_length m ≤ length l
      → l₁ ≡ splice 0 (joined (record_at rule mode m) (count_of t.width t.depth)) l
      → r ≡ number_of mode
      → l₂ ≡ splice n
      (trailer_bytes new_list (record { distance = n; width = t.width; depth = t.depth; step = t.step; radius = t.radius; rounding = r })) l₁
      → l₂ ≡ splice 0 (list_bytes rule mode m) l
  unfolding all_records
  list_put rule mode r l l₁ l₂ z p g q =
      let f : Fields = list_fields new_list mode m in
      let a : List ℕ = all_records rule mode m in
      let s : record { distance = n; width = t.width; depth = t.depth; step = t.step; radius = t.radius; rounding = r } ≡ f = cc in
      let p' : l₁ ≡ splice 0 a l = p ∙ ap (λ (t : Fields). splice 0 (joined (record_at rule mode m) (count_of t.width t.depth)) l) e in
      let n' : n ≡ 0 + length a = is ∙ ap (λ (t : Fields). 12 * count_of t.width t.depth) e ∙ sym (length-records rule mode m) ∙ sym (zero-add (length a)) in
      q
      ∙ ap (λ (g : Fields). splice n (trailer_bytes new_list g) l₁) s
      ∙ ap₂ (λ (x : ℕ) (y : List ℕ). splice x (trailer_bytes new_list f) y) n' p'
      ∙ splice-splice 0 a (trailer_bytes new_list f) l (omega (arith, n', is, length-trailer new_list f, held_of m (length l) z t e))
      ∙ ap (λ (b : List ℕ). splice 0 b l) (sym (list-parts new_list rule mode m))

-- the buffer holds both
module _ (m : List ℕ) (room : ℕ) (z : list_length m ≤ room) (t : Fields) (e : t ≡ trailer_of m) where
  pub records-room : 12 * count_of t.width t.depth ≤ room
  records-room = omega (arith, held_of m room z t e)

  pub trailer-room : (n x : ℕ) → n ≡ 12 * count_of t.width t.depth → x ≡ room → n + length_of new_list ≤ x
  trailer-room n x f g = omega (arith, held_of m room z t e)
