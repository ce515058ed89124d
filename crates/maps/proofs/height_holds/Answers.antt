-- `maps::height_holds` meets its contract. Assumes nothing.
use Rattle.std.proofs.Common.{◌≡◌, ap, ◌∙◌, leb, nat_abs, arith, FitsSigned, w32, rules, ◌<◌, to_z}
use Rattle.std.proofs.lemmas.Int.{to_z-of_z}
use Rattle.cutter.specs.Limits.{height_most}
use Rattle.words.specs.Word.{word_at}
use Rattle.words.specs.Signed.{signed}
use Rattle.words.proofs.Bits.{cast_signed-is}
use Rattle.maps.proofs.height_holds.Goals as goal

pub returns : goal.returns
returns c =
    let fits : FitsSigned w32 c.from_le_bytes.result = search rules in
    let small : word_at c.args.bytes.now 0 < 4294967296 = omega (arith, c.fits-bytes 0, c.fits-bytes 1, c.fits-bytes 2, c.fits-bytes 3) in
    let is : c.from_le_bytes.result ≡ signed (word_at c.args.bytes.now 0) = c.from_le_bytes.ensures ∙ ap (to_z w32) (omega arith) ∙ cast_signed-is (word_at c.args.bytes.now 0) small in
    ap (λ n. leb n height_most) (c.unsigned_abs.ensures.value ∙ ap nat_abs (to_z-of_z w32 c.from_le_bytes.result fits ∙ is))
