-- What the function that makes the text gives back, and what the lent buffers hold after it. Assumes nothing.
use Rattle.std.specs.Prelude.{ℕ, ◌≤◌, ◌≡◌, cond, List, ltb, length}
use Rattle.words.specs.Splice.{splice}
use Rattle.kinds.specs.declared.Rule.TheVariants.{Lifted}
use Rattle.cutter.specs.Call.{buffer_after}
use Rattle.text.specs.Text.{map_most, platelist_text}

-- a call on the bytes m and two buffers that held `list` and `out` gives the text's length, and leaves the buffers with `list₁` and `out₁`:
-- the text stands at the front of one; the list, where there is one, at the front of the other, which a refusal leaves as it was
pub record TextCall (m list out : List ℕ) (r : ℕ) (list₁ out₁ : List ℕ) : Type 0 where
  pub long : r ≡ length (platelist_text m)
  pub fits : r ≤ length out₁
  pub text : out₁ ≡ splice 0 (platelist_text m) out
  pub made : list₁ ≡ cond (ltb map_most (length m)) list (buffer_after Lifted 0 m list)
