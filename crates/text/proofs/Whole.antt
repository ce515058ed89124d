-- The whole text: of input that is too long, of a refused map, and of a list. Assumes nothing.
use Rattle.std.specs.Prelude.{Result, Ok, Err}
use mathlib.Core.Path.{◌≡◌, sym, ap, ◌∙◌}
use mathlib.Core.List.{List, [], ◌∷◌, ◌++◌}
use mathlib.Core.Bool.{false, cond}
use Prim.Native.Nat.{ℕ, ◌+◌, ◌-◌, ◌*◌, ◌≤◌, ◌<◌}
use native.Mathlib.Nat.{zero-add}
use native.Mathlib.Omega.{arith}
use borrow.Author.Tests.{lt-ltb, le-ltb, ne_eqb}
use lib.Dec.{ltb, lit<, lit≤}
use lib.ListN.{length}
use lib.IntN.{pos}
use Rattle.kinds.specs.declared.Mode.TheVariants.{Nearest}
use Rattle.kinds.specs.Rounding.{is_rounding}
use Rattle.kinds.specs.declared.Refusal.{Refusal}
use Rattle.kinds.specs.Refusal.{number_of, refusal_of}
use Rattle.kinds.proofs.Refusals.{number-positive}
use Rattle.kinds.proofs.Questions.{later}
use Rattle.words.specs.Joined.{joined}
use Rattle.words.specs.Splice.{splice}
use Rattle.words.proofs.Differences.{either}
use Rattle.words.proofs.Runs.{joined_same}
use Rattle.trailer.specs.Kinds.{length_of}
use Rattle.trailer.specs.declared.Kind.TheVariants.{Plt1}
use Rattle.trailer.specs.declared.Fields.{Fields}
use Rattle.kinds.specs.declared.Rule.TheVariants.{Lifted}
use Rattle.cutter.specs.Map.{trailer_of, width_of, depth_of}
use Rattle.cutter.specs.Centre.{coordinate}
use Rattle.cutter.specs.List.{count_of, column_of, row_of, centre_at, entry_at}
use Rattle.cutter.specs.Call.{map_refusal, list_refusal, buffer_after}
use Rattle.cutter.specs.Accepted.{Sizes}
use Rattle.cutter.proofs.Counts.{count_most}
use Rattle.cutter.proofs.Accepted.{always-room, map-asked, trailer-fits, sizes-of, held_of}
use Rattle.cutter.proofs.Entries.{list_held}
use Rattle.plate.specs.List.{ListCall}
use Rattle.decimal.specs.Put.{PutAt}
use Rattle.printing.specs.Line.{line}
use Rattle.decimal.proofs.Putting.{put-behind, put-within}
use Rattle.text.specs.Text.{map_most, list_most, text_most, sizes_line, record_line, list_text, refused_text, text_refusal, platelist_text}
use Rattle.printing.specs.Entries.{entry_line}
use Rattle.text.specs.Call.{TextCall}

-- the line of the sizes, and the records behind it
pub list_put : (w d : ℕ) → Sizes w d → (b l : List ℕ) (end : ℕ) (l₁ c a : List ℕ) (r : ℕ) (l₂ : List ℕ) → text_most ≤ length l → length b ≤ 48 → b ≡ c
    → PutAt 0 (length b) b l end l₁ → PutAt end (60 * count_of w d) a l₁ r l₂ → PutAt 0 text_most (c ++ a) l r l₂
list_put w d s b l end l₁ c a r l₂ h few e p q =
    rw e at (put-within 0 (length b + 60 * count_of w d) text_most (b ++ a) l r l₂ (omega (arith, count_most w d s))
    (put-behind 0 (length b) (60 * count_of w d) end r b a l l₁ l₂ (omega (arith, count_most w d s)) p q))

-- ---- what is printed

-- input that is too long is refused with 9, whatever its bytes are
pub nine : (m : List ℕ) → map_most < length m → platelist_text m ≡ refused_text 9
unfolding platelist_text text_refusal
nine m h = rw (lt-ltb map_most (length m) h)

-- the buffer for the list is never too short
pub no-eleven : (m : List ℕ) → text_refusal m ≡ 11 → ⊥
unfolding text_refusal list_refusal
no-eleven m e =
    either map_most (length m)
    (λ h. always-room m list_most (lit≤ tt) (later (is_rounding 0) 2 _ 11 (λ z. omega arith) (rw (le-ltb map_most (length m) h) at e)).1)
    (λ h. omega (arith, rw (lt-ltb map_most (length m) h) at e))

module _ (m list out : List ℕ) (room : text_most ≤ length out) where
  -- what was put, as the call says it
  text-call : (b : List ℕ) (n r : ℕ) (list₁ out₁ : List ℕ) → n ≤ length out → platelist_text m ≡ b → PutAt 0 n b out r out₁
      → list₁ ≡ cond (ltb map_most (length m)) list (buffer_after Lifted 0 m list) → TextCall m list out r list₁ out₁
  text-call b n r list₁ out₁ h e p f =
      record {
        fits = omega (arith, p.most, p.same);
        long = p.behind ∙ zero-add (length b) ∙ ap length (sym e);
        text = p.is ∙ ap (λ (x : List ℕ). splice 0 x out) (sym e);
        made = f;
      }

  refused-text : (number : ℕ) → text_refusal m ≡ number → (number ≡ 0 → ⊥) → platelist_text m ≡ refused_text number
  unfolding platelist_text
  refused-text number e n = rw (e, ne_eqb number 0 n)

  -- more bytes than the longest map has
  pub too_long : (b : List ℕ) (r : ℕ) (out₁ : List ℕ) → map_most < length m → b ≡ refused_text 9 → length b ≤ 20
      → PutAt 0 (length b) b out r out₁ → TextCall m list out r list out₁
  unfolding text_refusal
  too_long b r out₁ h e few p =
      text-call b (length b) r list out₁ (omega arith) (nine m h ∙ sym e) p (rw (lt-ltb map_most (length m) h))

  module _ (few : length m ≤ map_most) (held : list_most ≡ length list) (reply : Result ℕ Refusal) (list₁ : List ℕ) (c : ListCall Lifted 0 m list reply list₁) where
    short : ltb map_most (length m) ≡ false
    short = le-ltb map_most (length m) few

    refusal_is : refusal_of reply ≡ text_refusal m
    unfolding text_refusal
    refusal_is = c.refuses ∙ rw (short, held)

    made-is : list₁ ≡ cond (ltb map_most (length m)) list (buffer_after Lifted 0 m list)
    made-is = rw short c.leaves

    -- a refused map
    pub refused-map : (e : Refusal) → reply ≡ Err e → (b : List ℕ) (r : ℕ) (out₁ : List ℕ) → b ≡ refused_text (number_of e) → length b ≤ 20
        → PutAt 0 (length b) b out r out₁ → TextCall m list out r list₁ out₁
    refused-map e f b r out₁ h small p =
        let some : 0 < number_of e = number-positive e in
        text-call b (length b) r list₁ out₁ (omega arith)
        (refused-text (number_of e) (sym refusal_is ∙ ap refusal_of f) (λ z. omega (arith, z, some)) ∙ sym h) p made-is

    -- a list
    module _ (reported : ℕ) (ok : reply ≡ Ok reported) where
      z : refusal_of reply ≡ 0
      z = ap refusal_of ok

      accepted : list_refusal 0 m (length list) ≡ 0
      accepted = sym c.refuses ∙ z

      none : map_refusal m (length list) ≡ 0
      none = map-asked 0 m (length list) accepted

      pub map-long : length_of Plt1 ≤ length m
      map-long = trailer-fits m (length list) none

      -- the line of a record, by its centre
      line-is : (n : ℕ) → n < count_of (width_of m) (depth_of m)
          → entry_line list₁ (width_of m - 2) n ≡ record_line (column_of (width_of m) n) (row_of (width_of m) n) (centre_at Lifted Nearest m n)
      unfolding entry_line
      line-is n h =
          let e : (j : ℕ) → j < 3 → entry_at list₁ n j ≡ coordinate (centre_at Lifted Nearest m n) j =
          λ j l. ap (λ (b : List ℕ). entry_at b n j) c.leaves ∙ (list_held Lifted 0 m list accepted).entry n j h l in
          cc (e 0 (lit< tt), e 1 (lit< tt), e 2 (lit< tt))

      module _ (t : Fields) (e : t ≡ trailer_of m) where
        pub map-sizes : Sizes t.width t.depth
        map-sizes = sizes-of m (length list) none t e

        pub list-held-in : (n : ℕ) → n ≡ length list → 12 * count_of t.width t.depth ≤ n
        list-held-in n f = omega (arith, held_of m (length list) none t e)

        text-is : platelist_text m
            ≡ line (pos t.width ∷ pos t.depth ∷ pos t.step ∷ pos t.radius ∷ [])
            ++ joined (entry_line list₁ (t.width - 2)) (count_of t.width t.depth)
        unfolding platelist_text list_text sizes_line
        text-is =
            rw (← refusal_is, z, e)
            (ap (λ (b : List ℕ). sizes_line m ++ b)
            (sym (joined_same (entry_line list₁ (width_of m - 2)) _ (count_of (width_of m) (depth_of m)) line-is)))

        pub listed : (r : ℕ) (out₁ : List ℕ)
            → PutAt 0 text_most
            (line (pos t.width ∷ pos t.depth ∷ pos t.step ∷ pos t.radius ∷ [])
            ++ joined (entry_line list₁ (t.width - 2)) (count_of t.width t.depth)) out r out₁ → TextCall m list out r list₁ out₁
        listed r out₁ p = text-call _ text_most r list₁ out₁ room text-is p made-is
