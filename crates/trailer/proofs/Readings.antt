-- Bytes that end in the letters of a trailer hold it. Assumes nothing.
use mathlib.Core.Path.{◌≡◌}
use mathlib.Core.Bool.{true}
use mathlib.Core.List.{List}
use Prim.Native.Nat.{ℕ, ◌-◌, ◌≤◌}
use borrow.Author.Tests.{leb-true}
use lib.Dec.{leb}
use lib.ListN.{length}
use Rattle.kinds.proofs.Questions.{both-are}
use Rattle.words.specs.Word.{reads_at}
use Rattle.trailer.specs.Kinds.{letters_of, length_of}
use Rattle.trailer.specs.Bytes.{ends_in}
use Rattle.trailer.specs.declared.Kind.{Kind}

-- bytes that end in a trailer hold it
pub ends-fit : (k : Kind) (m : List ℕ) → ends_in k m ≡ true → length_of k ≤ length m
unfolding ends_in
ends-fit k m e = leb-true (length_of k) (length m) (both-are (leb (length_of k) (length m)) (reads_at m (length m - length_of k) (letters_of k)) e).0
