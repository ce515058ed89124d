-- `words::signed_of` meets its contract: the parts of the word's number. Assumes nothing.
use Rattle.std.proofs.Common.{ap, ◌∙◌}
use Rattle.std.proofs.lemmas.Int.{to_z-of_z}
use Rattle.std.specs.Int.{w32}
use Rattle.words.specs.Parts.{parts_of}
use Rattle.words.proofs.Bits.{magnitude-most}
use Rattle.words.proofs.signed_of.Goals as goal

pub returns : goal.returns
returns c =
    let back = to_z-of_z w32 c.i32_of.result (record { sfits = c.i32_of.type_inv }) in
    (c.parts_of.ensures ∙ ap parts_of (back ∙ c.i32_of.ensures), magnitude-most _ _ (c.parts_of.ensures ∙ ap parts_of back) c.i32_of.type_inv)
