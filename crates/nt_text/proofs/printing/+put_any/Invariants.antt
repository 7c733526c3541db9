use Rattle.nt_text.proofs.printing.+put_any.Given as goal

abbrev pub decreases-put_any : goal.decreases-put_any
decreases-put_any l = l.n
