use Rattle.std.proofs.Common.{◌∙◌, sym, arith}
use Rattle.ppmacro.specs.HideSets.{hidings}
use Rattle.ppmacro.proofs.PoolGrowthLemmas.{keeps-all, keeps-after}
use Rattle.ppexpand.proofs.SkippedTokens.{next-known, more-known}
use Rattle.ppexpand.proofs.PassedSteps.{passed-none, passed-skip, passed-on, passed-fewer, pass_falls}
use Rattle.ppexpand.proofs.lone_steps.pass_lone.Goals as goal

pub loop-named-init : goal.loop-named-init
loop-named-init c = record {
  list_known = c.requires.list_known;
  emitted_known = c.requires.emitted_known;
  keeps = keeps-all c.args.sets.now;
  passed = passed-none c.args.context.now.table.now.macros c.args.context.now.env.now c.args.context.now.level c.args.meter.now (hidings c.args.sets.now c.args.list.now) (hidings c.args.sets.now c.args.emitted.now);
}

pub loop-named-preserved : goal.loop-named-preserved
loop-named-preserved c =
    let macros = c.args.context.now.table.now.macros in
    let env = c.args.context.now.env.now in
    let level = c.args.context.now.level in
    let s = c.args.sets.now in
    let u = c.loop-named.sets in
    let t = c.replace_lone.new.sets in
    let meter = c.loop-named.meter in
    let start = hidings s c.args.list.now in
    let before = hidings s c.args.emitted.now in
    let list = hidings u c.emit_unexpanded.new.list in
    let emitted = hidings u c.emit_unexpanded.new.emitted in
    let next = hidings t c.replace_lone.new.list in
    let more = hidings t c.replace_lone.new.emitted in
    let skipped = passed-skip macros env level meter u c.loop-named.list c.loop-named.emitted c.emit_unexpanded.new.list c.emit_unexpanded.new.emitted c.in_ok-named.ensures.skipped in
    let here = passed-on macros env level 0 0 c.args.meter.now start before meter (hidings u c.loop-named.list) (hidings u c.loop-named.emitted) meter list emitted c.loop-named.invariant.passed skipped in
    let there = passed-on macros env level 0 1 c.args.meter.now start before meter list emitted c.replace_lone.new.meter next more here c.in_ok-replace_lone.ensures.passed in
    record {
      list_known = c.in_ok-replace_lone.ensures.list_known;
      emitted_known = c.in_ok-replace_lone.ensures.emitted_known;
      keeps = keeps-after c.loop-named.invariant.keeps c.in_ok-replace_lone.ensures.keeps;
      passed = passed-fewer macros env level 1 c.args.meter.now start before c.replace_lone.new.meter next more there;
    }

pub loop-named-smaller : goal.loop-named-smaller
loop-named-smaller c =
    let macros = c.args.context.now.table.now.macros in
    let env = c.args.context.now.env.now in
    let level = c.args.context.now.level in
    let u = c.loop-named.sets in
    let t = c.replace_lone.new.sets in
    let meter = c.loop-named.meter in
    let list = hidings u c.emit_unexpanded.new.list in
    let emitted = hidings u c.emit_unexpanded.new.emitted in
    let skipped = passed-skip macros env level meter u c.loop-named.list c.loop-named.emitted c.emit_unexpanded.new.list c.emit_unexpanded.new.emitted c.in_ok-named.ensures.skipped in
    let kept = pass_falls macros env level 0 meter (hidings u c.loop-named.list) (hidings u c.loop-named.emitted) meter list emitted skipped in
    let fell = pass_falls macros env level 1 meter list emitted c.replace_lone.new.meter (hidings t c.replace_lone.new.list) (hidings t c.replace_lone.new.emitted) c.in_ok-replace_lone.ensures.passed in
    omega (arith, kept, fell)

pub replace_lone-requires-clause-named : goal.replace_lone-requires-clause-named
replace_lone-requires-clause-named c =
    let found = rw c.in-Some.is at c.lone_body.ensures.lone in
    record { macro = found.0; named = sym c.in_ok-named.ensures.named ∙ found.1; lone = found.2; chains = found.3 }

pub replace_lone-requires-clause-list_known : goal.replace_lone-requires-clause-list_known
replace_lone-requires-clause-list_known c = next-known c.loop-named.sets _ _ _ _ c.in_ok-named.ensures.skipped c.loop-named.invariant.list_known

pub replace_lone-requires-clause-emitted_known : goal.replace_lone-requires-clause-emitted_known
replace_lone-requires-clause-emitted_known c = more-known c.loop-named.sets _ _ _ _ c.in_ok-named.ensures.skipped c.loop-named.invariant.list_known c.loop-named.invariant.emitted_known

pub returns-in_default-clause-passed : goal.returns-in_default-clause-passed
returns-in_default-clause-passed c =
    let macros = c.args.context.now.table.now.macros in
    let env = c.args.context.now.env.now in
    let level = c.args.context.now.level in
    let s = c.args.sets.now in
    let u = c.loop-named.sets in
    let meter = c.loop-named.meter in
    let skipped = passed-skip macros env level meter u c.loop-named.list c.loop-named.emitted c.emit_unexpanded.new.list c.emit_unexpanded.new.emitted c.in_ok-named.ensures.skipped in
    passed-on macros env level 0 0 c.args.meter.now (hidings s c.args.list.now) (hidings s c.args.emitted.now) meter (hidings u c.loop-named.list) (hidings u c.loop-named.emitted) meter
    (hidings u c.emit_unexpanded.new.list) (hidings u c.emit_unexpanded.new.emitted) c.loop-named.invariant.passed skipped

pub returns-in_default-clause-list_known : goal.returns-in_default-clause-list_known
returns-in_default-clause-list_known c = next-known c.loop-named.sets _ _ _ _ c.in_ok-named.ensures.skipped c.loop-named.invariant.list_known

pub returns-in_default-clause-emitted_known : goal.returns-in_default-clause-emitted_known
returns-in_default-clause-emitted_known c = more-known c.loop-named.sets _ _ _ _ c.in_ok-named.ensures.skipped c.loop-named.invariant.list_known c.loop-named.invariant.emitted_known
