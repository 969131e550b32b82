use Rattle.std.proofs.Common.{refl}
use Rattle.ppserve.proofs.line_prefix.LocationPrefix.put_twice.Goals as goal

pub returns-clause-text : goal.returns-clause-text
returns-clause-text c = rw (c.put-2.ensures.text, c.put_prefix-end-2.ensures.text, c.put-end-2.ensures.text, c.put_prefix-end.ensures.text, c.of-digits.ensures, c.self.view_is) refl
