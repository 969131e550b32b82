use Rattle.std.proofs.Common.{◌≡◌, ℕ, ◌≤◌, ◌++◌, length, take, replicate, ap, ◌∙◌, arith}
use Rattle.std.proofs.lemmas.Grind.{common_steps}
use Rattle.std.proofs.lemmas.List.{take-replicate}
use Rattle.ppprint.specs.Text.{spaces, space_after}
use Rattle.ppserve.specs.code.TextPieces.{bar, with_bars}
use Rattle.ppserve.proofs.BarredLines.{plain_bars, short_joined, unslashed}
use Rattle.ppserve.proofs.BufferPrefix.{front_left}
use Rattle.ppserve.proofs.out_buffer.OutBuffer.add_short_token.Goals as goal

pub returns-clause-added : goal.returns-clause-added
returns-clause-added c _ =
    let text = take c.args.len c.args.inline.now in
    let old = c.args.self.now in
    let begun = bar c.args.is_first in
    let plain : with_bars text ≡ text = plain_bars c.args.inline.now c.args.len (omega (arith, c.told-inline, c.requires.len)) (λ k from to. c.as_is_prefix.ensures k from (omega (arith, to, c.if-as_is_prefix-len.false))) in
    let none : space_after text ≡ 0 = unslashed c.args.inline.now c.args.len c.if-inline-eq92.false in
    let within : c.put_prefix-self-inside.result ≤ length c.put_prefix-self-inside.new.bytes = grind (arith, common_steps) in
    let less : c.put_prefix-self-inside.result ≤ c.self.inside.bytes.len = grind (arith, common_steps) in
    let left = front_left c.put_prefix-self-inside.result c.self.inside.bytes.len c.put_prefix-self-inside.new.bytes c.self.inside.bytes.items within less in
    let blank : take c.args.spaces (replicate 16 32) ≡ spaces c.args.spaces = take-replicate {X = ℕ} c.args.spaces 16 32 c.if-spaces-gt16.false in
    let first = c.put_bar-end.ensures.text ∙ ap (λ z. take c.self.inside.filled z ++ begun) c.as_mut_slice-bytes.ensures.value ∙ ap (λ z. z ++ begun) c.self.view_is in
    let second = c.put_prefix-end.ensures.text ∙ ap (λ z. z ++ take c.args.spaces (replicate 16 32)) first ∙ ap (λ z. old ++ begun ++ z) blank in
    left ∙ c.put_prefix-self-inside.ensures.text ∙ ap (λ z. z ++ text) second ∙ short_joined old begun (spaces c.args.spaces) text plain none
