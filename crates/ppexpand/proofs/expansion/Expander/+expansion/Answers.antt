use Rattle.std.proofs.Common.{◌≡◌, ◌∙◌, ◌+◌, ◌<◌, ◌≤◌, length, get_or, set, replicate, Ok, Err, Some, None, refl, sym, ap, subst, arith}
use Rattle.std.specs.Option.{option_map}
use Rattle.std.proofs.lemmas.List.{length-replicate, length-set}
use Rattle.pptext.proofs.ErrorReturns.{stopped, if_settled-weaker, raised}
use Rattle.ppmacro.specs.HideSets.{hidings, AllKnown}
use Rattle.ppmacro.specs.Chains.{parameter_names}
use Rattle.ppmacro.specs.Substitution.{argument_at}
use Rattle.ppmacro.specs.Substituting.{lists_of, expansion_if_computed}
use Rattle.ppmacro.specs.declared.hidden_token.ArgumentExpansion.TheVariants.{Unused}
use Rattle.ppmacro.proofs.PoolGrowthLemmas.{hidings-keeps, known-keeps, keeps-all, keeps-after}
use Rattle.ppexpand.specs.ExpansionStep.{ReplacementFault, Replaced, finish_by_parameter}
use Rattle.ppexpand.specs.code.ProgramValues.{given_in, expanded_in, ExpansionsKnown, ExpandsArgument, ExpandsInvocationArguments, deep, ClosedStepsTo, fault_in_arguments, finishes}
use Rattle.ppexpand.proofs.GrowingHideSets.{invocation_of, invocation_of-keeps, invocation_known-keeps, given_known-keeps, expanded-keeps, expanded_known-keeps}
use Rattle.ppexpand.proofs.ArgumentLemmas.{argument_expands, argument_raises, argument-in, argument-known, unused_in, unused_known, expanded_in-set, expanded_known-set, none_yet, one_more, one_refused, all_expanded}
use Rattle.ppexpand.proofs.SkippedTokens.{unhidden-expands}
use Rattle.ppexpand.proofs.PassedSteps.{follows_pass, pass_falls, follows_nothing}
use Rattle.ppexpand.proofs.LoopInvariants.{more_follows, more_falls, end_follows, invocation_taken, invocation_raises, begun_raises}
use Rattle.ppexpand.proofs.expansion.Expander.+expansion.Goals as goal

-- ---- one step

pub advance-returns-in_default-clause-progress : goal.advance-returns-in_default-clause-progress
advance-returns-in_default-clause-progress m c = (rw c.in_default.is at c.in_ok-continues.ensures.progress) c.args.context.now.level

pub advance-returns-in_err-continues-clause-progress : goal.advance-returns-in_err-continues-clause-progress
advance-returns-in_err-continues-clause-progress m c =
    let macros = c.args.context.now.table.now.macros in
    let env = c.args.context.now.env.now in
    let level = c.args.context.now.level in
    let s = c.begin_step.new.self.replacer.sets in
    stopped _ _ _ _ c.from_residual.ensures.1 c.in_err-continues.ensures.progress (λ f begun.
    begun_raises macros env level c.args.self.now.meter (hidings c.args.self.now.replacer.sets c.args.list.now) (hidings c.args.self.now.replacer.sets c.args.emitted.now)
    c.begin_step.new.invocation (λ found. invocation_of s found c.begin_step.new.list) f c.begin_step.new.self.meter (hidings s c.begin_step.new.list) (hidings s c.begin_step.new.emitted) begun)

pub advance-replace_invocation-requires : goal.advance-replace_invocation-requires
advance-replace_invocation-requires m c =
    let known = rw c.in-Some.is at c.in_ok-continues.ensures.invocation_known in (
      omega arith,
      (c.requires.level, (c.in_ok-continues.ensures.keeps.hashing ∙ c.requires.hashing, known)),
    )

pub advance-returns-in_err-replace_invocation-clause-progress : goal.advance-returns-in_err-replace_invocation-clause-progress
advance-returns-in_err-replace_invocation-clause-progress m c =
    let macros = c.args.context.now.table.now.macros in
    let env = c.args.context.now.env.now in
    let level = c.args.context.now.level in
    let s = c.begin_step.new.self.replacer.sets in
    let closed_invocation_step = rw c.in-Some.is at c.in_ok-continues.ensures.progress in
    let invocation = invocation_of s c.in-Some.found c.begin_step.new.list in
    stopped _ _ _ _ c.from_residual-in_err-replace_invocation.ensures.1 c.in_err-replace_invocation.ensures.is (λ f steps.
    invocation_raises macros env level c.args.self.now.meter (hidings c.args.self.now.replacer.sets c.args.list.now) invocation closed_invocation_step.0 _ _ f c.replace_invocation.new.self.meter
    (hidings-keeps _ c.in_err-replace_invocation.ensures.keeps c.in_ok-continues.ensures.emitted_known ∙ closed_invocation_step.3)
    (subst (λ l. ClosedStepsTo macros env level invocation l c.replace_invocation.new.self.meter (ReplacementFault f)) closed_invocation_step.2 steps))

pub advance-returns-clause-progress : goal.advance-returns-clause-progress
advance-returns-clause-progress m c =
    let macros = c.args.context.now.table.now.macros in
    let env = c.args.context.now.env.now in
    let level = c.args.context.now.level in
    let s = c.begin_step.new.self.replacer.sets in
    let t = c.replace_invocation.new.self.replacer.sets in
    let closed_invocation_step = rw c.in-Some.is at c.in_ok-continues.ensures.progress in
    let invocation = invocation_of s c.in-Some.found c.begin_step.new.list in
    invocation_taken macros env level c.args.self.now.meter (hidings c.args.self.now.replacer.sets c.args.list.now) invocation closed_invocation_step.0 t c.replace_invocation.new.list _ _ c.replace_invocation.new.self.meter
    (hidings-keeps _ c.in_ok-replace_invocation.ensures.keeps c.in_ok-continues.ensures.emitted_known ∙ closed_invocation_step.3)
    (subst (λ l. ClosedStepsTo macros env level invocation l c.replace_invocation.new.self.meter (Replaced (hidings t c.replace_invocation.new.list))) closed_invocation_step.2 c.in_ok-replace_invocation.ensures.is)

pub advance-returns-clause-emitted_known : goal.advance-returns-clause-emitted_known
advance-returns-clause-emitted_known m c = known-keeps _ c.in_ok-replace_invocation.ensures.keeps c.in_ok-continues.ensures.emitted_known

pub advance-returns-clause-list_known : goal.advance-returns-clause-list_known
advance-returns-clause-list_known m c = λ continues. c.in_ok-replace_invocation.ensures.known

-- ---- an invocation

pub replace_invocation-returns-in_err-expand_arguments-clause-is : goal.replace_invocation-returns-in_err-expand_arguments-clause-is
replace_invocation-returns-in_err-expand_arguments-clause-is m c =
    stopped _ _ _ _ c.from_residual.ensures.1 c.in_err-expand_arguments.ensures.is (λ f raised. fault_in_arguments (raised c.args.list.now))

pub replace_invocation-finish_invocation-replaced-requires-clause-invocation : goal.replace_invocation-finish_invocation-replaced-requires-clause-invocation
replace_invocation-finish_invocation-replaced-requires-clause-invocation m c = invocation_known-keeps c.args.invocation.now c.in_ok-expand_arguments.ensures.keeps c.requires.invocation_known

pub replace_invocation-finish_invocation-replaced-requires-clause-expanded : goal.replace_invocation-finish_invocation-replaced-requires-clause-expanded
replace_invocation-finish_invocation-replaced-requires-clause-expanded m c =
    subst (ExpansionsKnown c.expand_arguments.new.self.replacer.sets) (sym c.as_slice.ensures.value) c.in_ok-expand_arguments.ensures.known

pub replace_invocation-finish_invocation-replaced-requires-clause-list : goal.replace_invocation-finish_invocation-replaced-requires-clause-list
replace_invocation-finish_invocation-replaced-requires-clause-list m c = known-keeps c.args.list.now c.in_ok-expand_arguments.ensures.keeps c.requires.list_known

pub replace_invocation-returns-clause-is : goal.replace_invocation-returns-clause-is
replace_invocation-returns-clause-is m c =
    let macros = c.args.context.now.table.now.macros in
    let env = c.args.context.now.env.now in
    let level = c.args.context.now.level in
    let list = c.args.list.now in
    let u = c.expand_arguments.new.self.replacer.sets in
    let expanded = c.expand_arguments.new.expanded.items in
    let invocation = invocation_of c.args.self.now.replacer.sets c.args.invocation.now list in
    let args : ExpandsInvocationArguments macros env level invocation c.args.self.now.meter c.expand_arguments.new.self.meter (Ok (expanded_in u c.args.invocation.now.arguments.items expanded)) =
    c.in_ok-expand_arguments.ensures.is list in
    let same = invocation_of-keeps c.args.invocation.now list c.in_ok-expand_arguments.ensures.keeps c.requires.invocation_known c.requires.list_known in
    if_settled-weaker c.finish_invocation-replaced.result _ _
    (λ r e. subst (ClosedStepsTo macros env level invocation c.args.self.now.meter c.expand_arguments.new.self.meter)
    (sym (e ∙ (λ i. finish_by_parameter (same i) (expanded_in u c.args.invocation.now.arguments.items (c.as_slice.ensures.value i)))))
    (finishes args))
    c.finish_invocation-replaced.ensures.is

pub replace_invocation-returns-clause-keeps : goal.replace_invocation-returns-clause-keeps
replace_invocation-returns-clause-keeps m c = keeps-after c.in_ok-expand_arguments.ensures.keeps c.finish_invocation-replaced.ensures.keeps

-- ---- an argument

pub expand_argument-returns-then-context-ge-DEEPEST-clause-is : goal.expand_argument-returns-then-context-ge-DEEPEST-clause-is
expand_argument-returns-then-context-ge-DEEPEST-clause-is m c = raised _ _ _ c.fault_at_expansion.ensures (deep (omega (arith, c.if-context-ge-DEEPEST.true)))

pub expand_argument-returns-then-none_expands-clause-is : goal.expand_argument-returns-then-none_expands-clause-is
expand_argument-returns-then-none_expands-clause-is m c =
    let macros = c.args.context.now.table.now.macros in
    let env = c.args.context.now.env.now in
    let level = c.args.context.now.level in
    let s = c.args.self.now.replacer.sets in
    let list = c.args.argument.now in (
      hidings s list,
      refl,
      argument_expands macros env level c.args.name_token.now.token c.args.self.now.meter c.args.self.now.meter (hidings s list) (hidings s list)
          (omega (arith, c.if-context-ge-DEEPEST.false)) (unhidden-expands macros env (level + 1) c.args.self.now.meter s list (c.none_expands.ensures c.if-none_expands.true)),
    )

pub expand_argument-expand_list-requires : goal.expand_argument-expand_list-requires
expand_argument-expand_list-requires m c = (
  omega (arith, c.if-context-ge-DEEPEST.false),
  (
    omega (arith, c.if-context-ge-DEEPEST.false),
    (c.requires.hashing, (subst (AllKnown c.args.self.now.replacer.sets) (sym c.in_ok-list.ensures) c.requires.known, c.over-emitted.ensures)),
  ),
)

pub expand_argument-returns-in_err-expand_list-clause-is : goal.expand_argument-returns-in_err-expand_list-clause-is
expand_argument-returns-in_err-expand_list-clause-is m c =
    let macros = c.args.context.now.table.now.macros in
    let env = c.args.context.now.env.now in
    let level = c.args.context.now.level in
    let s = c.args.self.now.replacer.sets in
    let t = c.expand_list.new.self.replacer.sets in
    let meter = c.args.self.now.meter in
    let meter_after = c.expand_list.new.self.meter in
    stopped _ _ _ _ c.from_residual-in_err-expand_list.ensures.1 c.in_err-expand_list.ensures.outcome (λ f one.
    subst (λ list. ExpandsArgument macros env level c.args.name_token.now.token meter (hidings s list) meter_after (Err f)) c.in_ok-list.ensures
    (argument_raises macros env level c.args.name_token.now.token meter meter_after (hidings s c.in_ok-list.list) (hidings t c.expand_list.new.emitted) f (omega (arith, c.if-context-ge-DEEPEST.false)) one))

pub expand_argument-returns-clause-is : goal.expand_argument-returns-clause-is
expand_argument-returns-clause-is m c =
    let macros = c.args.context.now.table.now.macros in
    let env = c.args.context.now.env.now in
    let level = c.args.context.now.level in
    let s = c.args.self.now.replacer.sets in
    let t = c.expand_list.new.self.replacer.sets in
    let meter = c.args.self.now.meter in
    let meter_after = c.expand_list.new.self.meter in
    let emitted = hidings t c.expand_list.new.emitted in (
      emitted,
      ap (λ tokens. Some (hidings t tokens)) c.in_ok-tokens.ensures,
      subst (λ list. ExpandsArgument macros env level c.args.name_token.now.token meter (hidings s list) meter_after (Ok emitted)) c.in_ok-list.ensures
          (argument_expands macros env level c.args.name_token.now.token meter meter_after (hidings s c.in_ok-list.list) emitted (omega (arith, c.if-context-ge-DEEPEST.false)) c.in_ok-expand_list.ensures.outcome),
    )

pub expand_argument-returns-clause-known : goal.expand_argument-returns-clause-known
expand_argument-returns-clause-known m c = subst (AllKnown c.expand_list.new.self.replacer.sets) (sym c.in_ok-tokens.ensures) c.in_ok-expand_list.ensures.known

-- ---- the arguments

pub expand_arguments-loop-parameter-init : goal.expand_arguments-loop-parameter-init
expand_arguments-loop-parameter-init m c =
    let macros = c.args.context.now.table.now.macros in
    let env = c.args.context.now.env.now in
    let level = c.args.context.now.level in
    let s = c.args.self.now.replacer.sets in
    let vs = c.args.invocation.now.arguments.items in
    let n = length (parameter_names c.args.invocation.now.definition.now.kind) in
    let none : c.push_unused.new.expanded.items ≡ replicate n Unused = c.in_ok-push_unused.ensures ∙ ap (λ k. replicate k Unused) c.parameter_count.ensures in
    record {
      low = c.requires.level;
      known = subst (ExpansionsKnown s) (sym none) (unused_known s n);
      count = ap length none ∙ length-replicate n Unused;
      keeps = keeps-all s;
      follows = λ following. none_yet macros env level (invocation_of s c.args.invocation.now following) c.args.self.now.meter _ (ap (expanded_in s vs) none ∙ unused_in s vs n);
    }

pub expand_arguments-expand_argument-requires : goal.expand_arguments-expand_argument-requires
expand_arguments-expand_argument-requires m c =
    let u = c.loop-parameter.self.replacer.sets in
    let i = get_or c.expansion_order-order.result.now c.loop-parameter.parameter-index 0 in
    let vs = c.args.invocation.now.arguments.items in
    let tokens_are : c.argument_of-tokens.result.now ≡ argument_at (lists_of vs) i = c.argument_of-tokens.ensures ∙ ap (λ gs. argument_at (lists_of gs) i) c.as_slice.ensures.value in
    let known = given_known-keeps vs c.loop-parameter.invariant.keeps c.requires.known.arguments in (
      omega arith,
      (
        c.loop-parameter.invariant.low,
        (c.loop-parameter.invariant.keeps.hashing ∙ c.requires.hashing, subst (AllKnown u) (sym tokens_are) (argument-known u vs i known)),
      ),
    )

pub expand_arguments-returns-in_err-expansion-clause-is : goal.expand_arguments-returns-in_err-expansion-clause-is
expand_arguments-returns-in_err-expansion-clause-is m c =
    let macros = c.args.context.now.table.now.macros in
    let env = c.args.context.now.env.now in
    let level = c.args.context.now.level in
    let s = c.args.self.now.replacer.sets in
    let u = c.loop-parameter.self.replacer.sets in
    let k = c.loop-parameter.parameter-index in
    let i = get_or c.expansion_order-order.result.now c.loop-parameter.parameter-index 0 in
    let vs = c.args.invocation.now.arguments.items in
    let meter = c.loop-parameter.self.meter in
    let between = c.expand_argument.new.self.meter in
    let order = c.expansion_order-order.ensures.is in
    let tokens_are : c.argument_of-tokens.result.now ≡ argument_at (lists_of vs) i = c.argument_of-tokens.ensures ∙ ap (λ gs. argument_at (lists_of gs) i) c.as_slice.ensures.value in
    let argument : hidings u c.argument_of-tokens.result.now ≡ argument_at (given_in s vs) i =
    ap (hidings u) tokens_are ∙ hidings-keeps (argument_at (lists_of vs) i) c.loop-parameter.invariant.keeps (argument-known s vs i c.requires.known.arguments) ∙ sym (argument-in s vs i) in
    stopped _ _ _ _ c.from_residual-in_err-expansion.ensures.1 c.in_err-expansion.ensures.is (λ f raised following.
    one_refused macros env level (invocation_of s c.args.invocation.now following) c.args.self.now.meter k i _ meter between f
    (subst (λ is. k < length is) order c.loop-parameter-test.true) (ap (λ is. get_or is k 0) order)
    (subst (λ l. ExpandsArgument macros env level c.args.invocation.now.name_token.token meter l between (Err f)) argument raised)
    (c.loop-parameter.invariant.follows following))

pub expand_arguments-put_expansion-requires : goal.expand_arguments-put_expansion-requires
expand_arguments-put_expansion-requires m c =
    let k = c.loop-parameter.parameter-index in
    subst (λ n. get_or c.expansion_order-order.result.now k 0 < n) (sym c.loop-parameter.invariant.count) (c.expansion_order-order.ensures.within k c.loop-parameter-test.true)

pub expand_arguments-loop-parameter-preserved : goal.expand_arguments-loop-parameter-preserved
expand_arguments-loop-parameter-preserved m c =
    let macros = c.args.context.now.table.now.macros in
    let env = c.args.context.now.env.now in
    let level = c.args.context.now.level in
    let s = c.args.self.now.replacer.sets in
    let u = c.loop-parameter.self.replacer.sets in
    let w = c.expand_argument.new.self.replacer.sets in
    let k = c.loop-parameter.parameter-index in
    let i = get_or c.expansion_order-order.result.now c.loop-parameter.parameter-index 0 in
    let vs = c.args.invocation.now.arguments.items in
    let meter = c.loop-parameter.self.meter in
    let between = c.expand_argument.new.self.meter in
    let order = c.expansion_order-order.ensures.is in
    let before = c.loop-parameter.expanded.items in
    let e = c.in_ok-expansion.expansion in
    let keeps = c.in_ok-expansion.ensures.keeps in
    let made = c.in_ok-expansion.ensures.is in
    let tokens = made.0 in
    let tokens_are : c.argument_of-tokens.result.now ≡ argument_at (lists_of vs) i = c.argument_of-tokens.ensures ∙ ap (λ gs. argument_at (lists_of gs) i) c.as_slice.ensures.value in
    let argument : hidings u c.argument_of-tokens.result.now ≡ argument_at (given_in s vs) i =
    ap (hidings u) tokens_are ∙ hidings-keeps (argument_at (lists_of vs) i) c.loop-parameter.invariant.keeps (argument-known s vs i c.requires.known.arguments) ∙ sym (argument-in s vs i) in
    let here_is : option_map (hidings w) (expansion_if_computed (argument_at (lists_of vs) i) e) ≡ Some tokens =
    subst (λ g. option_map (hidings w) (expansion_if_computed g e) ≡ Some tokens) tokens_are made.1 in
    let given_known = given_known-keeps vs c.loop-parameter.invariant.keeps c.requires.known.arguments in
    let put = c.put_expansion.ensures in
    record {
      low = c.loop-parameter.invariant.low;
      known = subst (ExpansionsKnown w) (sym put) (expanded_known-set w before i e (expanded_known-keeps before keeps c.loop-parameter.invariant.known) c.in_ok-expansion.ensures.known);
      count = ap length put ∙ length-set before i e ∙ c.loop-parameter.invariant.count;
      keeps = keeps-after c.loop-parameter.invariant.keeps keeps;
      follows = λ following. one_more macros env level (invocation_of s c.args.invocation.now following) c.args.self.now.meter k i _ _ tokens meter between
          (subst (λ is. k < length is) order c.loop-parameter-test.true) (ap (λ is. get_or is k 0) order)
          (ap (expanded_in w vs) put ∙ expanded_in-set w vs before i e ∙ (λ j. set (expanded-keeps vs before keeps given_known c.loop-parameter.invariant.known j) i (here_is j)))
          (subst (λ l. ExpandsArgument macros env level c.args.invocation.now.name_token.token meter l between (Ok tokens)) argument made.2)
          (c.loop-parameter.invariant.follows following);
    }

pub expand_arguments-returns-clause-is : goal.expand_arguments-returns-clause-is
expand_arguments-returns-clause-is m c =
    let macros = c.args.context.now.table.now.macros in
    let env = c.args.context.now.env.now in
    let level = c.args.context.now.level in
    let s = c.args.self.now.replacer.sets in
    let k = c.loop-parameter.parameter-index in
    (λ following. all_expanded macros env level (invocation_of s c.args.invocation.now following) c.args.self.now.meter k _ c.loop-parameter.self.meter
    (subst (λ is. length is ≤ k) c.expansion_order-order.ensures.is (omega (arith, c.loop-parameter-test.false)))
    (c.loop-parameter.invariant.follows following))

-- ---- a list

pub expand_list-loop-named-init : goal.expand_list-loop-named-init
expand_list-loop-named-init m c = record {
  low = c.requires.level;
  list_known = c.requires.known;
  emitted_known = rw c.requires.none (record { each = tt });
  keeps = keeps-all c.args.self.now.replacer.sets;
  follows = λ n out d. rw c.requires.none (n, d);
}

pub expand_list-advance-continues-requires : goal.expand_list-advance-continues-requires
expand_list-advance-continues-requires m c = (
  omega arith,
  (
    c.loop-named.invariant.low,
    (
      c.in_ok-named.ensures.keeps.hashing ∙ c.loop-named.invariant.keeps.hashing ∙ c.requires.hashing,
      (c.in_ok-named.ensures.named, (c.in_ok-named.ensures.list_known, c.in_ok-named.ensures.emitted_known)),
    ),
  ),
)

pub expand_list-returns-then-is_empty-clause-outcome : goal.expand_list-returns-then-is_empty-clause-outcome
expand_list-returns-then-is_empty-clause-outcome m c =
    let macros = c.args.context.now.table.now.macros in
    let env = c.args.context.now.env.now in
    let level = c.args.context.now.level in
    let before = c.loop-named.self.replacer.sets in
    let sets = c.pass_lone.new.sets in
    let start = hidings c.args.self.now.replacer.sets c.args.list.now in
    let list = c.pass_lone.new.list in
    let emitted = c.pass_lone.new.emitted in
    let here = follows_pass macros env level c.args.self.now.meter start 0 c.loop-named.self.meter (hidings before c.loop-named.list) (hidings before c.loop-named.emitted) c.pass_lone.new.meter
    (hidings sets list) (hidings sets emitted) c.in_ok-named.ensures.passed c.loop-named.invariant.follows in
    follows_nothing macros env level c.args.self.now.meter start (hidings sets emitted) c.pass_lone.new.meter (hidings sets list) (ap (hidings sets) (c.is_empty.ensures c.if-is_empty.true)) here

pub expand_list-returns-then-not-branch-clause-outcome : goal.expand_list-returns-then-not-branch-clause-outcome
expand_list-returns-then-not-branch-clause-outcome m c =
    let macros = c.args.context.now.table.now.macros in
    let env = c.args.context.now.env.now in
    let level = c.args.context.now.level in
    let before = c.loop-named.self.replacer.sets in
    let sets = c.pass_lone.new.sets in
    let start = hidings c.args.self.now.replacer.sets c.args.list.now in
    let list = c.pass_lone.new.list in
    let emitted = c.pass_lone.new.emitted in
    let here = follows_pass macros env level c.args.self.now.meter start 0 c.loop-named.self.meter (hidings before c.loop-named.list) (hidings before c.loop-named.emitted) c.pass_lone.new.meter
    (hidings sets list) (hidings sets emitted) c.in_ok-named.ensures.passed c.loop-named.invariant.follows in
    end_follows macros env level c.args.self.now.meter start (hidings sets emitted) c.pass_lone.new.meter (hidings sets list) None c.advance-continues.new.self.meter
    (hidings c.advance-continues.new.self.replacer.sets c.advance-continues.new.emitted) here (rw c.if-not-branch.true at c.in_ok-continues.ensures.progress)

pub expand_list-returns-in_err-continues-clause-outcome : goal.expand_list-returns-in_err-continues-clause-outcome
expand_list-returns-in_err-continues-clause-outcome m c =
    let macros = c.args.context.now.table.now.macros in
    let env = c.args.context.now.env.now in
    let level = c.args.context.now.level in
    let before = c.loop-named.self.replacer.sets in
    let sets = c.pass_lone.new.sets in
    let start = hidings c.args.self.now.replacer.sets c.args.list.now in
    let list = c.pass_lone.new.list in
    let emitted = c.pass_lone.new.emitted in
    let here = follows_pass macros env level c.args.self.now.meter start 0 c.loop-named.self.meter (hidings before c.loop-named.list) (hidings before c.loop-named.emitted) c.pass_lone.new.meter
    (hidings sets list) (hidings sets emitted) c.in_ok-named.ensures.passed c.loop-named.invariant.follows in
    stopped _ _ _ _ c.from_residual-in_err-continues.ensures.1 c.in_err-continues.ensures.progress (λ f ended.
    end_follows macros env level c.args.self.now.meter start (hidings sets emitted) c.pass_lone.new.meter (hidings sets list) (Some f) c.advance-continues.new.self.meter
    (hidings c.advance-continues.new.self.replacer.sets c.advance-continues.new.emitted) here ended)

pub expand_list-loop-named-preserved : goal.expand_list-loop-named-preserved
expand_list-loop-named-preserved m c =
    let macros = c.args.context.now.table.now.macros in
    let env = c.args.context.now.env.now in
    let level = c.args.context.now.level in
    let before = c.loop-named.self.replacer.sets in
    let sets = c.pass_lone.new.sets in
    let start = hidings c.args.self.now.replacer.sets c.args.list.now in
    let list = c.pass_lone.new.list in
    let emitted = c.pass_lone.new.emitted in
    let here = follows_pass macros env level c.args.self.now.meter start 0 c.loop-named.self.meter (hidings before c.loop-named.list) (hidings before c.loop-named.emitted) c.pass_lone.new.meter
    (hidings sets list) (hidings sets emitted) c.in_ok-named.ensures.passed c.loop-named.invariant.follows in
    record {
      low = c.loop-named.invariant.low;
      list_known = c.in_ok-continues.ensures.list_known c.if-not-branch.false;
      emitted_known = c.in_ok-continues.ensures.emitted_known;
      keeps = keeps-after (keeps-after c.loop-named.invariant.keeps c.in_ok-named.ensures.keeps) c.in_ok-continues.ensures.keeps;
      follows = more_follows macros env level c.args.self.now.meter start (hidings sets emitted) c.pass_lone.new.meter (hidings sets list) c.advance-continues.new.self.meter
          (hidings c.advance-continues.new.self.replacer.sets c.advance-continues.new.list) (hidings c.advance-continues.new.self.replacer.sets c.advance-continues.new.emitted) here (rw c.if-not-branch.false at c.in_ok-continues.ensures.progress);
    }

pub expand_list-loop-named-smaller : goal.expand_list-loop-named-smaller
expand_list-loop-named-smaller m c =
    let macros = c.args.context.now.table.now.macros in
    let env = c.args.context.now.env.now in
    let level = c.args.context.now.level in
    let before = c.loop-named.self.replacer.sets in
    let sets = c.pass_lone.new.sets in
    let list = c.pass_lone.new.list in
    let emitted = c.pass_lone.new.emitted in
    let meter_after = more_falls macros env level c.pass_lone.new.meter (hidings sets list) (hidings sets emitted) c.advance-continues.new.self.meter
    (hidings c.advance-continues.new.self.replacer.sets c.advance-continues.new.list) (hidings c.advance-continues.new.self.replacer.sets c.advance-continues.new.emitted) (rw c.if-not-branch.false at c.in_ok-continues.ensures.progress) in
    let passed = pass_falls macros env level 0 c.loop-named.self.meter (hidings before c.loop-named.list) (hidings before c.loop-named.emitted) c.pass_lone.new.meter (hidings sets list) (hidings sets emitted)
    c.in_ok-named.ensures.passed in
    omega (arith, meter_after, passed)
