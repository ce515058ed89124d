-- `centres::put_words` meets its contract: three words, each right behind the one before, are one splice. Assumes nothing.
use Rattle.centres.proofs.Centres.{words-put}
use Rattle.centres.proofs.put_words.Goals as goal

pub returns : goal.returns
returns c = search words-put
