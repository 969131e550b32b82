use Rattle.ppserve.proofs.BufferedPrinting.{puts_then}
use Rattle.ppserve.proofs.text_output.put_any_spelling.Goals as goal

pub returns : goal.returns
returns g c = puts_then (puts_then (puts_then c.put_bar.ensures c.put_spaces.ensures) c.put_text.ensures) c.put_space_after.ensures
