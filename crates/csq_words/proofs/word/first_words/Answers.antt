use Rattle.csq_words.proofs.NewWords.{pushed}
use Rattle.csq_words.proofs.word.first_words.Goals as goal

pub loop-preserved : goal.loop-preserved
loop-preserved g c =
    pushed c.args.first.0 c.loop.counter _ _ _ _ _ _ c.loop.invariant c.in_ok-push.ensures.items c.in_ok-push-2.ensures.items c.in_ok-push-3.ensures.items
    c.bit_word-clear.ensures (c.unset_word-unset.ensures c.requires.first)
