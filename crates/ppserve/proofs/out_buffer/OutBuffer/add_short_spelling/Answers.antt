use Rattle.std.proofs.Common.{◌≤◌, length, refl, arith}
use Rattle.std.proofs.lemmas.Grind.{common_steps}
use Rattle.ppserve.proofs.BufferPrefix.{front_left, plain_take}
use Rattle.ppserve.proofs.out_buffer.OutBuffer.add_short_spelling.Goals as goal

pub returns-clause-added : goal.returns-clause-added
returns-clause-added c _ =
    let plain = plain_take c.args.inline.now c.args.len (omega (arith, c.told-inline, c.requires.len)) (λ k from to. c.as_is_prefix.ensures k from (omega (arith, to, c.if-as_is_prefix-len.false))) in
    let within : c.put_byte-self-inside.result ≤ length c.put_byte-self-inside.new.bytes = grind (arith, common_steps) in
    let less : c.put_byte-self-inside.result ≤ c.self.inside.bytes.len = grind (arith, common_steps) in
    let prefix = front_left c.put_byte-self-inside.result c.self.inside.bytes.len c.put_byte-self-inside.new.bytes c.self.inside.bytes.items within less in
    rw (plain, prefix, c.put_byte-self-inside.ensures.text, c.put_prefix-end.ensures.text, c.as_mut_slice-bytes.ensures.value, c.self.view_is) refl
