-- `text::refused` meets its contract: the number is a line. Assumes nothing.
use Rattle.std.proofs.Common.{◌≡◌, ◌∙◌, rules, length, arith, ap, w32, pos, ℤ, to_z, of_z}
use Rattle.std.proofs.lemmas.Int.{to_z_pos}
use Rattle.kinds.specs.Refusal.{number_of}
use Rattle.text.specs.Text.{refused_text}
use Rattle.text.proofs.refused.Goals as goal

pub push_str-requires-2 : goal.push_str-requires-2
push_str-requires-2 c = (search rules, omega (arith, c.push_str.ensures.len, ap length c.new-text.ensures, ap length c.as_str.ensures.value, c.line.ensures.short))

pub returns : goal.returns
unfolding refused_text
returns c =
    let number : to_z w32 (of_z w32 c.from.result) ≡ pos (number_of c.args.refusal) =
    ap (λ (z : ℤ). to_z w32 (of_z w32 z)) c.from.ensures ∙ to_z_pos w32 c.number.result (omega arith) ∙ ap pos c.number.ensures in
    rw (c.push_str-2.ensures.bytes, c.push_str.ensures.bytes, c.new-text.ensures, c.as_str.ensures.value, c.line.ensures.text, number)
