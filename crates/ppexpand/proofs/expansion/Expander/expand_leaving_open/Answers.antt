use Rattle.std.proofs.Common.{◌∙◌, [], None, sym, ap, subst, arith, if◌then◌else◌, ◌≡◌, true}
use Rattle.pptext.proofs.ErrorReturns.{stopped}
use Rattle.ppmacro.specs.HideSets.{hidings, AllKnown}
use Rattle.ppmacro.specs.Substituting.{tokens_of}
use Rattle.ppmacro.proofs.PoolGrowthLemmas.{keeps-all, keeps-after}
use Rattle.ppexpand.specs.Laws.{stays}
use Rattle.ppexpand.proofs.PassedSteps.{follows_pass, pass_falls, follows_nothing}
use Rattle.ppexpand.specs.Budget.{is_exhausted}
use Rattle.ppexpand.specs.OpenInvocations.{open_tokens}
use Rattle.ppexpand.specs.code.Lists.{next_macro}
use Rattle.ppexpand.specs.code.ProgramValues.{HasAdvanced}
use Rattle.ppexpand.proofs.LoopInvariants.{Follows, more_follows, more_falls, end_follows}
use Rattle.ppexpand.proofs.OpenExpansions.{Reaches, reaches_pass, reaches_step, leaves_none, leaves_tokens}
use Rattle.ppexpand.proofs.expansion.Expander.expand_leaving_open.Goals as goal

pub loop-named-init : goal.loop-named-init
loop-named-init c = record {
  low = c.requires.level;
  list_known = c.requires.known;
  emitted_known = rw c.requires.none (record { each = tt });
  keeps = keeps-all c.args.self.now.replacer.sets;
  follows = λ n out d. rw c.requires.none (n, d);
  reaches = (0, stays);
}

pub returns-then-is_empty : goal.returns-then-is_empty
returns-then-is_empty c =
    let macros = c.args.context.now.table.now.macros in
    let env = c.args.context.now.env.now in
    let level = c.args.context.now.level in
    let before = c.loop-named.self.replacer.sets in
    let sets = c.pass_lone.new.sets in
    let start = hidings c.args.self.now.replacer.sets c.args.list.now in
    let list = c.pass_lone.new.list in
    let emitted = c.pass_lone.new.emitted in
    let here = follows_pass macros env level c.args.self.now.meter start 0 c.loop-named.self.meter (hidings before c.loop-named.list) (hidings before c.loop-named.emitted) c.pass_lone.new.meter
    (hidings sets list) (hidings sets emitted) c.in_ok-named.ensures.passed c.loop-named.invariant.follows in
    leaves_none macros env level (follows_nothing macros env level c.args.self.now.meter start (hidings sets emitted) c.pass_lone.new.meter (hidings sets list) (ap (hidings sets) (c.is_empty.ensures c.if-is_empty.true)) here)
    (ap tokens_of c.clear.ensures.items)

pub returns-then-not-branch : goal.returns-then-not-branch
returns-then-not-branch c =
    let macros = c.args.context.now.table.now.macros in
    let env = c.args.context.now.env.now in
    let level = c.args.context.now.level in
    let before = c.loop-named.self.replacer.sets in
    let sets = c.pass_lone.new.sets in
    let start = hidings c.args.self.now.replacer.sets c.args.list.now in
    let list = c.copy_open_invocation.new.list in
    let emitted = c.pass_lone.new.emitted in
    let here = subst (λ l. Follows macros env level c.args.self.now.meter start (hidings sets emitted) c.pass_lone.new.meter (hidings sets l)) (sym c.in_ok-unclosed.ensures.same)
    (follows_pass macros env level c.args.self.now.meter start 0 c.loop-named.self.meter (hidings before c.loop-named.list) (hidings before c.loop-named.emitted) c.pass_lone.new.meter
    (hidings sets c.pass_lone.new.list) (hidings sets emitted) c.in_ok-named.ensures.passed c.loop-named.invariant.follows) in
    leaves_none macros env level
    (end_follows macros env level c.args.self.now.meter start (hidings sets emitted) c.pass_lone.new.meter (hidings sets list) None c.advance-continues.new.self.meter
    (hidings c.advance-continues.new.self.replacer.sets c.advance-continues.new.emitted) here (rw c.if-not-branch.true at c.in_ok-continues.ensures.progress))
    (ap tokens_of c.clear-then-not-branch.ensures.items)

pub returns-in_err-continues : goal.returns-in_err-continues
returns-in_err-continues c =
    let macros = c.args.context.now.table.now.macros in
    let env = c.args.context.now.env.now in
    let level = c.args.context.now.level in
    let before = c.loop-named.self.replacer.sets in
    let sets = c.pass_lone.new.sets in
    let start = hidings c.args.self.now.replacer.sets c.args.list.now in
    let list = c.copy_open_invocation.new.list in
    let emitted = c.pass_lone.new.emitted in
    let meter = c.pass_lone.new.meter in
    let same = sym c.in_ok-unclosed.ensures.same in
    let here = subst (λ l. Follows macros env level c.args.self.now.meter start (hidings sets emitted) meter (hidings sets l)) same
    (follows_pass macros env level c.args.self.now.meter start 0 c.loop-named.self.meter (hidings before c.loop-named.list) (hidings before c.loop-named.emitted) meter
    (hidings sets c.pass_lone.new.list) (hidings sets emitted) c.in_ok-named.ensures.passed c.loop-named.invariant.follows) in
    let on = subst (λ l. Reaches macros env level c.args.self.now.meter start meter (hidings sets l)) same (reaches_pass macros env level c.loop-named.invariant.reaches c.in_ok-named.ensures.passed) in
    let copied : c.args.looks ≡ true → tokens_of c.in_ok-unclosed.field-0.items ≡ (if is_exhausted meter then [] else open_tokens macros (hidings sets list)) =
    λ looked. c.in_ok-unclosed.ensures.is looked macros c.in_ok-named.ensures.named
    ∙ (λ i. if is_exhausted meter then [] else open_tokens macros (hidings sets (same i))) in
    stopped _ _ _ _ c.from_residual-in_err-continues.ensures.1 c.in_err-continues.ensures.progress (λ f ended.
    leaves_tokens macros env level c.args.self.now.meter start (hidings sets emitted) meter (hidings sets list) f c.advance-continues.new.self.meter
    (hidings c.advance-continues.new.self.replacer.sets c.advance-continues.new.emitted) (tokens_of c.in_ok-unclosed.field-0.items) here on ended copied)

pub advance-continues-requires : goal.advance-continues-requires
advance-continues-requires c =
    let macros = c.args.context.now.table.now.macros in
    let same = sym c.in_ok-unclosed.ensures.same in
    record {
      level = c.loop-named.invariant.low;
      hashing = c.in_ok-named.ensures.keeps.hashing ∙ c.loop-named.invariant.keeps.hashing ∙ c.requires.hashing;
      named = c.in_ok-named.ensures.named ∙ ap (λ l. next_macro macros (tokens_of l)) same;
      list_known = subst (AllKnown c.pass_lone.new.sets) same c.in_ok-named.ensures.list_known;
      emitted_known = c.in_ok-named.ensures.emitted_known;
    }

pub loop-named-preserved : goal.loop-named-preserved
loop-named-preserved c =
    let macros = c.args.context.now.table.now.macros in
    let env = c.args.context.now.env.now in
    let level = c.args.context.now.level in
    let before = c.loop-named.self.replacer.sets in
    let sets = c.pass_lone.new.sets in
    let start = hidings c.args.self.now.replacer.sets c.args.list.now in
    let list = c.copy_open_invocation.new.list in
    let emitted = c.pass_lone.new.emitted in
    let meter = c.pass_lone.new.meter in
    let same = sym c.in_ok-unclosed.ensures.same in
    let here = subst (λ l. Follows macros env level c.args.self.now.meter start (hidings sets emitted) meter (hidings sets l)) same
    (follows_pass macros env level c.args.self.now.meter start 0 c.loop-named.self.meter (hidings before c.loop-named.list) (hidings before c.loop-named.emitted) meter
    (hidings sets c.pass_lone.new.list) (hidings sets emitted) c.in_ok-named.ensures.passed c.loop-named.invariant.follows) in
    let on = subst (λ l. Reaches macros env level c.args.self.now.meter start meter (hidings sets l)) same (reaches_pass macros env level c.loop-named.invariant.reaches c.in_ok-named.ensures.passed) in
    let step = rw c.if-not-branch.false at c.in_ok-continues.ensures.progress in
    record {
      low = c.loop-named.invariant.low;
      list_known = c.in_ok-continues.ensures.list_known c.if-not-branch.false;
      emitted_known = c.in_ok-continues.ensures.emitted_known;
      keeps = keeps-after (keeps-after c.loop-named.invariant.keeps c.in_ok-named.ensures.keeps) c.in_ok-continues.ensures.keeps;
      follows = more_follows macros env level c.args.self.now.meter start (hidings sets emitted) meter (hidings sets list) c.advance-continues.new.self.meter
          (hidings c.advance-continues.new.self.replacer.sets c.advance-continues.new.list) (hidings c.advance-continues.new.self.replacer.sets c.advance-continues.new.emitted) here step;
      reaches = reaches_step macros env level (hidings sets emitted) on step;
    }

pub loop-named-smaller : goal.loop-named-smaller
loop-named-smaller c =
    let macros = c.args.context.now.table.now.macros in
    let env = c.args.context.now.env.now in
    let level = c.args.context.now.level in
    let before = c.loop-named.self.replacer.sets in
    let sets = c.pass_lone.new.sets in
    let emitted = c.pass_lone.new.emitted in
    let step = rw c.if-not-branch.false at c.in_ok-continues.ensures.progress in
    let moved = subst (λ l. HasAdvanced macros env level c.pass_lone.new.meter (hidings sets l) (hidings sets emitted) c.advance-continues.new.self.meter
    (hidings c.advance-continues.new.self.replacer.sets c.advance-continues.new.list) (hidings c.advance-continues.new.self.replacer.sets c.advance-continues.new.emitted)) c.in_ok-unclosed.ensures.same step in
    let meter_after = more_falls macros env level c.pass_lone.new.meter (hidings sets c.pass_lone.new.list) (hidings sets emitted) c.advance-continues.new.self.meter
    (hidings c.advance-continues.new.self.replacer.sets c.advance-continues.new.list) (hidings c.advance-continues.new.self.replacer.sets c.advance-continues.new.emitted) moved in
    let passed = pass_falls macros env level 0 c.loop-named.self.meter (hidings before c.loop-named.list) (hidings before c.loop-named.emitted) c.pass_lone.new.meter (hidings sets c.pass_lone.new.list) (hidings sets emitted)
    c.in_ok-named.ensures.passed in
    omega (arith, meter_after, passed)
