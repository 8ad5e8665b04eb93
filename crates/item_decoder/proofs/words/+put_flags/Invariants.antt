use Rattle.item_decoder.proofs.words.+put_flags.Given as goal

abbrev pub decreases-put_flags : goal.decreases-put_flags
decreases-put_flags l = l.left
