use Rattle.std.proofs.Common.{[], ◌∷◌, ◌∙◌, decimal, refl, arith}
use Rattle.ppserve.proofs.BufferPrefix.{front_kept, length_word}
use Rattle.ppserve.proofs.line_prefix.LocationPrefix.new.Goals as goal

pub put_number-end-requires : goal.put_number-end-requires
put_number-end-requires c = omega (arith, length_word c.args.file (omega (arith, c.ranges.file.fits)))

pub put_byte-file_len-requires : goal.put_byte-file_len-requires
put_byte-file_len-requires c = omega (arith, c.put_number-end.ensures.end, length_word c.args.file (omega (arith, c.ranges.file.fits)))

pub put_number-end-requires-2 : goal.put_number-end-requires-2
put_number-end-requires-2 c =
    let file = length_word c.args.file (omega (arith, c.ranges.file.fits)) in
    let line = length_word c.args.line (omega (arith, c.ranges.line.fits)) in
    omega (arith, c.put_number-end.ensures.end, c.put_byte-file_len.ensures.end, file, line)

pub put_byte-len-requires : goal.put_byte-len-requires
put_byte-len-requires c =
    let file = length_word c.args.file (omega (arith, c.ranges.file.fits)) in
    let line = length_word c.args.line (omega (arith, c.ranges.line.fits)) in
    omega (arith, c.put_number-end.ensures.end, c.put_byte-file_len.ensures.end, c.put_number-end-2.ensures.end, file, line)

pub invariant_of-result : goal.invariant_of-result
invariant_of-result c =
    let file = length_word c.args.file (omega (arith, c.ranges.file.fits)) in
    let line = length_word c.args.line (omega (arith, c.ranges.line.fits)) in
    let behind_line = front_kept c.put_number-end-2.new.bytes c.put_byte-len.new.bytes (58 ∷ []) c.put_byte-file_len.result c.put_number-end-2.result c.put_byte-len.result
    (omega (arith, c.put_number-end-2.ensures.end))
    (omega (arith, c.put_number-end.ensures.end, c.put_byte-file_len.ensures.end, c.put_number-end-2.ensures.end, file, line))
    (omega (arith, c.put_byte-len.ensures.end)) c.put_byte-len.ensures.text in
    let behind_file = front_kept c.put_byte-file_len.new.bytes c.put_number-end-2.new.bytes (decimal c.args.line) c.put_byte-file_len.result c.put_byte-file_len.result c.put_number-end-2.result
    (omega arith)
    (omega (arith, c.put_number-end.ensures.end, c.put_byte-file_len.ensures.end, file))
    (omega (arith, c.put_number-end-2.ensures.end)) c.put_number-end-2.ensures.text in (
      omega (arith, c.put_number-end.ensures.end, c.put_byte-file_len.ensures.end, c.put_number-end-2.ensures.end, c.put_byte-len.ensures.end, file, line),
      omega (arith, c.put_number-end.ensures.end, c.put_byte-file_len.ensures.end, file),
      behind_line ∙ (behind_file ∙ rw (c.put_byte-file_len.ensures.text, c.put_number-end.ensures.text) refl),
      rw (c.put_byte-len.ensures.text, c.put_number-end-2.ensures.text, c.put_byte-file_len.ensures.text, c.put_number-end.ensures.text) refl,
    )
