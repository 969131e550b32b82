use Rattle.std.proofs.Common.{◌≡◌, suc, ◌≤◌, [], ◌∷◌, length, sym, ap, ◌∙◌, subst, arith, length-append}
use Rattle.ppmacro.specs.HideSetPool.{HideSetPool}
use Rattle.ppmacro.specs.HideSets.{hiding, hidings, AllKnown}
use Rattle.ppexpand.specs.Arguments.{gather, with_token, argument_role, Comma}
use Rattle.ppexpand.specs.code.ProgramValues.{given_in}
use Rattle.ppexpand.specs.code.OpenSearch.{role_value}
use Rattle.ppexpand.proofs.Invocations.{at_inner, at_open, at_close, at_separator, at_comma}
use Rattle.ppexpand.proofs.ResumedSearch.{resumed, resumed-token, resumed-argument, outermost, hidings-push, given-push, known-push, lists_known-push}
use Rattle.ppexpand.proofs.arguments.gather.Goals as goal
use Rattle.ppexpand.proofs.arguments.gather.Goals.{in-Close-2, in-Comma+else-separates, in-Open, in-Inner}

pub returns-in-Close-clause-known : goal.returns-in-Close-clause-known
returns-in-Close-clause-known c = λ sets known.
    let list : AllKnown sets (c.in-Some.hidden ∷ c.next.new.self) = subst (AllKnown sets) c.in-Some.ensures (c.loop-hidden.invariant.list_known sets known) in (
      rw c.in_ok-push-in-Close.ensures (lists_known-push _ _ (c.loop-hidden.invariant.arguments_known sets known) (c.loop-hidden.invariant.argument_known sets known)),
      list.each.0,
      record { each = list.each.1 },
    )

pub loop-hidden-preserved-in-Comma : goal.loop-hidden-preserved-in-Comma
loop-hidden-preserved-in-Comma c =
    let prefix = c.loop-hidden in
    let is_comma : argument_role c.in-Some.hidden.token ≡ Comma = sym c.argument_role.ensures ∙ ap role_value c.in-Comma.is in
    let list : (sets : HideSetPool) → AllKnown sets c.args.list.now → AllKnown sets (c.in-Some.hidden ∷ c.next.new.self) = λ sets known. subst (AllKnown sets) c.in-Some.ensures (c.loop-hidden.invariant.list_known sets known) in
    record {
      same = λ sets.
          (let here = ap (λ hs. resumed (given_in sets prefix.arguments.items) (hidings sets prefix.argument.items) (gather prefix.depth prefix.commas (hidings sets hs))) c.in-Some.ensures in
          let cut = at_separator prefix.depth prefix.commas (hiding sets c.in-Some.hidden) (hidings sets c.next.new.self) is_comma (sym c.separates.ensures ∙ c.if-separates.true) in
          rw (c.in_ok-end_argument-in-Comma.ensures.ended, c.in_ok-end_argument-in-Comma.ensures.begun, c.fewer-commas.ensures, given-push sets prefix.arguments.items prefix.argument)
          (resumed-argument (given_in sets prefix.arguments.items) (hidings sets prefix.argument.items) _
          ∙ ap (resumed (given_in sets prefix.arguments.items) (hidings sets prefix.argument.items)) (sym cut)
          ∙ sym here
          ∙ c.loop-hidden.invariant.same sets));
      arguments_known = λ sets known. rw c.in_ok-end_argument-in-Comma.ensures.ended (lists_known-push _ _ (c.loop-hidden.invariant.arguments_known sets known) (c.loop-hidden.invariant.argument_known sets known));
      argument_known = λ sets known. rw c.in_ok-end_argument-in-Comma.ensures.begun (record { each = tt });
      list_known = λ sets known. record { each = (list sets known).each.1 };
      within = omega (arith, outermost prefix.depth prefix.commas (sym c.separates.ensures ∙ c.if-separates.true));
    }

pub loop-hidden-preserved : goal.loop-hidden-preserved
loop-hidden-preserved c =
    let prefix = c.loop-hidden in
    let space : argument_role c.in-Some.hidden.token ≡ role_value c.argument_role.result = sym c.argument_role.ensures in
    let list : (sets : HideSetPool) → AllKnown sets c.args.list.now → AllKnown sets (c.in-Some.hidden ∷ c.next.new.self) = λ sets known. subst (AllKnown sets) c.in-Some.ensures (c.loop-hidden.invariant.list_known sets known) in
    let step : (sets : HideSetPool)
    → gather prefix.depth prefix.commas (hiding sets c.in-Some.hidden ∷ hidings sets c.next.new.self)
    ≡ with_token (hiding sets c.in-Some.hidden) (gather c.match-argument_role.depth prefix.commas (hidings sets c.next.new.self)) = λ sets.
    elim c.match-argument_role.branch [
      | in-Close-2 w ↦ (let deeper : prefix.depth ≡ suc c.match-argument_role.depth = omega (arith, w.depth-is, w.if-depth-eq0.false) in
          rw deeper (at_close c.match-argument_role.depth prefix.commas (hiding sets c.in-Some.hidden) (hidings sets c.next.new.self) (space ∙ ap role_value w.in-Close.is)))
      | in-Comma+else-separates w ↦ rw w.depth-is (at_comma prefix.depth prefix.commas (hiding sets c.in-Some.hidden) (hidings sets c.next.new.self) (space ∙ ap role_value w.in-Comma.is) (sym w.separates.ensures ∙ w.if-separates.false))
      | in-Open w ↦ (let deeper : c.match-argument_role.depth ≡ suc prefix.depth = omega (arith, w.depth-is) in
          rw deeper (at_open prefix.depth prefix.commas (hiding sets c.in-Some.hidden) (hidings sets c.next.new.self) (space ∙ ap role_value w.in-Open.is)))
      | in-Inner w ↦ rw w.depth-is (at_inner prefix.depth prefix.commas (hiding sets c.in-Some.hidden) (hidings sets c.next.new.self) (space ∙ ap role_value w.in-Inner.is))
    ] in
    let within : c.match-argument_role.depth ≤ suc (length prefix.argument.items) = elim c.match-argument_role.branch [
      | in-Close-2 w ↦ omega (arith, w.depth-is, prefix.invariant.within)
      | in-Comma+else-separates w ↦ omega (arith, w.depth-is, prefix.invariant.within)
      | in-Open w ↦ omega (arith, w.depth-is, prefix.invariant.within)
      | in-Inner w ↦ omega (arith, w.depth-is, prefix.invariant.within)
    ] in
    record {
      same = λ sets.
          (let here = ap (λ hs. resumed (given_in sets prefix.arguments.items) (hidings sets prefix.argument.items) (gather prefix.depth prefix.commas (hidings sets hs))) c.in-Some.ensures in
          rw (c.in_ok-push.ensures, hidings-push sets prefix.argument.items c.in-Some.hidden)
          (resumed-token (given_in sets prefix.arguments.items) (hidings sets prefix.argument.items) (hiding sets c.in-Some.hidden) _
          ∙ ap (resumed (given_in sets prefix.arguments.items) (hidings sets prefix.argument.items)) (sym (step sets))
          ∙ sym here
          ∙ c.loop-hidden.invariant.same sets));
      arguments_known = c.loop-hidden.invariant.arguments_known;
      argument_known = λ sets known. rw c.in_ok-push.ensures (known-push _ _ (c.loop-hidden.invariant.argument_known sets known) (list sets known).each.0);
      list_known = λ sets known. record { each = (list sets known).each.1 };
      within = rw c.in_ok-push.ensures (omega (arith, length-append prefix.argument.items (c.in-Some.hidden ∷ []), within));
    }
