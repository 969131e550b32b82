use Rattle.std.proofs.Common.{[], ◌∷◌, ◌∙◌, decimal, refl, arith}
use Rattle.ppserve.proofs.BufferPrefix.{front_kept, length_word}
use Rattle.ppserve.proofs.line_prefix.LocationPrefix.set_line.Goals as goal

pub put_number-end-requires : goal.put_number-end-requires
put_number-end-requires c = omega (arith, c.self.invariant)

pub put_byte-self-inside-requires : goal.put_byte-self-inside-requires
put_byte-self-inside-requires c =
    let line = length_word c.args.line (omega (arith, c.ranges.line.fits)) in
    omega (arith, c.self.invariant.1, c.put_number-end.ensures.end, line)

pub invariant_of-self-2 : goal.invariant_of-self-2
invariant_of-self-2 c =
    let line = length_word c.args.line (omega (arith, c.ranges.line.fits)) in
    let behind_line = front_kept c.put_number-end.new.bytes c.put_byte-self-inside.new.bytes (58 ∷ []) c.self.inside.file_len c.put_number-end.result c.put_byte-self-inside.result
    (omega (arith, c.put_number-end.ensures.end))
    (omega (arith, c.self.invariant.1, c.put_number-end.ensures.end, line))
    (omega (arith, c.put_byte-self-inside.ensures.end)) c.put_byte-self-inside.ensures.text in
    let behind_file = front_kept c.self.inside.text c.put_number-end.new.bytes (decimal c.args.line) c.self.inside.file_len c.self.inside.file_len c.put_number-end.result
    (omega arith)
    (omega (arith, c.self.invariant.1))
    (omega (arith, c.put_number-end.ensures.end)) c.put_number-end.ensures.text in (
      omega (arith, c.self.invariant.1, c.put_number-end.ensures.end, c.put_byte-self-inside.ensures.end, line),
      c.self.invariant.1,
      behind_line ∙ (behind_file ∙ c.self.invariant.2),
      rw (c.put_byte-self-inside.ensures.text, c.put_number-end.ensures.text, c.self.invariant.2) refl,
    )
