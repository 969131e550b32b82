use Rattle.std.proofs.Common.{arith, ◌≡◌, ◌∙◌, sym, ℕ, Vec, Global, true, None}
use Rattle.std.proofs.lemmas.Grind.{common_steps}
use Rattle.std.specs.Option.{option_map}
use Rattle.ppunit.proofs.OperandTexts.{named, named_angle, named_more}
use Rattle.ppunit.proofs.including.angle_name.Goals as goal

pub returns-then-is_punct : goal.returns-then-is_punct
returns-then-is_punct c =
    let probe_result : option_map (λ (v : Vec ℕ Global). v.items) c.if-index-tokens.result ≡ named true c.args.tokens.now = grind (arith, common_steps) in
    probe_result ∙ named_angle c.args.tokens.now

pub loop-index-preserved : goal.loop-index-preserved
loop-index-preserved c =
    named_more c.args.tokens.now c.loop-index.index c.index-tokens-index.result c.loop-index.name.items c.extend_from_slice.new.self.items
    c.loop-index-test.true c.index-tokens-index.is (sym c.is_punct.ensures ∙ c.if-is_punct.false)
    (rw (c.in_ok-push_space.ensures, c.as_bytes.ensures) at c.in_ok-extend_from_slice.ensures.items)
    ∙ c.loop-index.invariant

pub returns : goal.returns
returns c =
    let probe_result : named true c.args.tokens.now ≡ None = grind (arith, common_steps) in
    sym probe_result ∙ named_angle c.args.tokens.now
