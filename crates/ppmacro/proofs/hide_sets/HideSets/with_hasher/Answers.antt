use Rattle.ppmacro.specs.code.Members.{hide_sets}
use Rattle.ppmacro.proofs.hide_sets.HideSets.with_hasher.Goals as goal

pub returns : goal.returns
returns c = λ i. record {
  sets = hide_sets (c.new.ensures.names i) (c.in_ok-start.ensures.is i);
  unions = c.new-2.ensures.results i;
  intersections = c.new-3.ensures.results i;
  hashing = c.in_ok-start.ensures.hashing i;
}
