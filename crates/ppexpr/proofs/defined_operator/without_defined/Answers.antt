use Rattle.std.proofs.Common.{refl, sym}
use Rattle.pptext.proofs.ErrorReturns.{raised}
use Rattle.ppexpr.proofs.DefinedReplacement.{follows_other, follows_defined, follows_end, follows_none}
use Rattle.ppexpr.proofs.defined_operator.without_defined.Goals as goal

pub loop-first-preserved-then-not-is_defined : goal.loop-first-preserved-then-not-is_defined
loop-first-preserved-then-not-is_defined c =
    follows_other c.args.table.now.macros c.args.tokens.now c.loop-first.without_defined c.push_borrowed.new.self c.loop-first.rest.now c.in-Some.following.now c.in-Some.first.now c.in-Some.first.now
    (sym c.if-not-is_defined.ensures) c.in-Some.ensures.cases.0 refl c.in_ok-push_borrowed.ensures c.loop-first.invariant

pub loop-first-preserved : goal.loop-first-preserved
loop-first-preserved c =
    follows_defined c.args.table.now.macros c.args.tokens.now c.loop-first.without_defined c.push_owned.new.self c.loop-first.rest.now c.in-Some.following.now c.in-Some.first.now c.in_ok-defined_value.field-0
    (record { name = c.in-Some-operand.name.now; rest = c.in-Some-operand.following.now })
    (sym c.if-not-is_defined.ensures) c.in-Some.ensures.cases.0 c.in-Some-operand.ensures c.in_ok-defined_value.ensures c.in_ok-push_owned.ensures c.loop-first.invariant

pub returns-in_default-operand : goal.returns-in_default-operand
returns-in_default-operand c =
    raised _ _ _ c.bare.ensures (
      refl,
      follows_none c.args.table.now.macros c.args.tokens.now c.loop-first.without_defined c.loop-first.rest.now c.in-Some.following.now c.in-Some.first.now
          (sym c.if-not-is_defined.ensures) c.in-Some.ensures.cases.0 c.in_default-operand.ensures c.loop-first.invariant,
    )

pub returns : goal.returns
returns c = follows_end c.args.table.now.macros c.args.tokens.now c.loop-first.without_defined c.loop-first.rest.now c.in_default.ensures.cases c.loop-first.invariant
