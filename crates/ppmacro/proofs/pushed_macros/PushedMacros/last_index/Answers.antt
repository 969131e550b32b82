use Rattle.std.proofs.Common.{◌∙◌, ◌-◌, sym, arith}
use Rattle.ppmacro.proofs.LastPushed.{last-found, none-found}
use Rattle.ppmacro.proofs.pushed_macros.PushedMacros.last_index.Goals as goal

pub loop-rest-preserved : goal.loop-rest-preserved
loop-rest-preserved c =
    none-found c.args.name.now c.args.self.now c.self.inside.macros.items c.loop-rest.rest (c.loop-rest.rest - 1) c.index.result.now c.self.view_is (omega (arith, c.loop-rest-test.true))
    c.loop-rest.invariant.0 c.loop-rest.invariant.1 c.index.ensures (sym c.is_named.ensures ∙ c.if-is_named.false)

pub returns-then-is_named : goal.returns-then-is_named
returns-then-is_named c =
    last-found c.args.name.now c.args.self.now c.self.inside.macros.items c.loop-rest.rest (c.loop-rest.rest - 1) c.index.result.now c.self.view_is (omega (arith, c.loop-rest-test.true))
    c.loop-rest.invariant.0 c.loop-rest.invariant.1 c.index.ensures (sym c.is_named.ensures ∙ c.if-is_named.true)
