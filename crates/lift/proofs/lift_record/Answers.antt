-- `lift::lift_record` meets its contract: three words put back, the last one lifted, are the lifted record. Assumes nothing.
use Rattle.lift.proofs.Records.{record-lifted}
use Rattle.lift.proofs.lift_record.Goals as goal

pub returns : goal.returns
returns c = record-lifted _ _ _ _ _ _ _ _ _ _ _ _ _ _ _ c.requires.room c.word_at-x.ensures c.word_at-y.ensures c.word_at.ensures c.word_at-x.type_inv c.word_at-y.type_inv c.lifted_word-z.ensures c.put_word.ensures c.put_word-2.ensures c.put_word-3.ensures
