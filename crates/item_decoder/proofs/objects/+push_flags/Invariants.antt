use Rattle.item_decoder.proofs.objects.+push_flags.Given as goal

abbrev pub decreases-push_flags : goal.decreases-push_flags
decreases-push_flags l = l.left
