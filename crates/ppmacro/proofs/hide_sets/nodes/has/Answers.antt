use Rattle.std.proofs.Common.{◌∙◌, ◌%◌, nat_eq}
use Rattle.std.proofs.lemmas.Nat.Bits.{shr_and_one}
use Rattle.ppmacro.specs.code.Nodes.{has_bit}
use Rattle.ppmacro.proofs.Tries.{member-bit}
use Rattle.ppmacro.proofs.hide_sets.nodes.has.Goals as goal

pub returns : goal.returns
returns c =
    let bit = c.args.number % 64 in
    (λ i. nat_eq (shr_and_one c.word_of-bits.result bit i) 1) ∙ (λ i. has_bit (c.word_of-bits.ensures i) bit) ∙ member-bit c.args.nodes.now.keys c.args.set c.args.number
