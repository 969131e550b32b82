use Rattle.std.proofs.Common.{◌≡◌, ℕ, ◌<◌, List, [], ◌∷◌, length, refl, arith, rules}
use Rattle.ppserve.specs.Output.{percent_encoded, fault_text}
use Rattle.ppserve.proofs.BufferedPrinting.{puts_as, puts_then}
use Rattle.ppserve.proofs.output.put_fault_text.Goals as goal

spaced : (words : List ℕ) → 0 < length words → 32 ∷ percent_encoded words ≡ fault_text words
spaced [] h = absurd (omega arith)
spaced (b ∷ bs) h = refl

pub returns : goal.returns
returns g c = puts_as (spaced c.args.text.now (search rules)) (puts_then c.put.ensures c.put_percent_encoded.ensures)
