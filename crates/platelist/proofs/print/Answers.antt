-- What is written is the front of the buffer, and that is the text. Assumes nothing.
use Rattle.std.proofs.Common.{◌≡◌, ℕ, List, OnOk, OnErr, take, length, ap, ◌∙◌, subst}
use Rattle.std.specs.Io.KnownBytes.{Appends}
use Rattle.words.specs.Splice.{splice}
use Rattle.words.proofs.Splicing.{splice-take}
use Rattle.platelist.proofs.print.Goals as goal

-- the front of a buffer that a text was put into
front : (n : ℕ) (b l l₁ : List ℕ) → n ≡ length b → l₁ ≡ splice 0 b l → take n l₁ ≡ b
front n b l l₁ e f = ap (λ (k : ℕ). take k l₁) e ∙ ap (λ (m : List ℕ). take (length b) m) f ∙ splice-take b l

pub returns-clause-ok : goal.returns-clause-ok
returns-clause-ok g c =
    subst
    (λ (b : List ℕ). OnOk c.write_full.result (Appends (g.W.Write.contents c.args.out.now) (g.W.Write.contents c.write_full.new.out) b))
    (front _ _ _ _ c.put_text-end.ensures.long c.put_text-end.ensures.text)
    c.write_full.ensures.ok

pub returns-clause-err : goal.returns-clause-err
returns-clause-err g c =
    subst
    (λ (b : List ℕ). OnErr c.write_full.result ((n : ℕ) × Appends (g.W.Write.contents c.args.out.now) (g.W.Write.contents c.write_full.new.out) (take n b)))
    (front _ _ _ _ c.put_text-end.ensures.long c.put_text-end.ensures.text)
    c.write_full.ensures.err
