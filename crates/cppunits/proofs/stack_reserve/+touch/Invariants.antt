use Rattle.cppunits.proofs.stack_reserve.+touch.Given as goal

abbrev pub decreases-touch : goal.decreases-touch
decreases-touch l = l.pages
