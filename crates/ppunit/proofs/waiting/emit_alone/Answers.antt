use Rattle.std.proofs.Common.{◌≡◌, ◌∙◌, ◌++◌, List, [], map, None, Some, Err, sym, ap, subst}
use Rattle.std.specs.Result.{result_err}
use Rattle.pptext.specs.declared.tokens.Token.{Token}
use Rattle.pptext.specs.declared.tokens.Fault.{Fault}
use Rattle.pptext.specs.declared.sources.Profile.{Profile}
use Rattle.pptext.specs.declared.error.Error.{Error}
use Rattle.pptext.specs.declared.error.Error.TheVariants.{Fault as Faulted}
use Rattle.pptext.specs.Errors.{UnlessOutOfMemory, Raises}
use Rattle.ppexpand.specs.Expansion.{Expansion, IsExpansion}
use Rattle.ppunit.specs.declared.units.Item.{Item}
use Rattle.ppunit.specs.declared.units.Item.TheVariants as item
use Rattle.ppunit.specs.States.{State, emitted, with_meter}
use Rattle.ppunit.specs.Directives.{EmitsText}
use Rattle.ppunit.proofs.EmittedText.{emits_closed, waits_without, waits_at_another_fault}
use Rattle.ppunit.proofs.waiting.emit_alone.Goals as goal

-- the error of the expansion's fault
raises : (profile : Profile) (s t : State) (tokens : List Token) (f : Fault) (e : Error)
    → EmitsText profile s tokens (record { state = t; fault = Some f })
    → Raises e f
    → UnlessOutOfMemory {A = Unit {0}} (Err e) (λ r. EmitsText profile s tokens (record { state = t; fault = result_err r }))
raises profile s t tokens f (Faulted g) emits is = subst (λ (h : Fault). EmitsText profile s tokens (record { state = t; fault = Some h })) (sym is) emits
raises profile s t tokens f e emits is = tt

pub returns-in_default : goal.returns-in_default
returns-in_default c =
    let profile = c.args.profile in
    let tokens = c.args.tokens.now in
    let inside = c.state.inside in
    let x : Expansion = record { tokens = c.in_ok-prefix.field-0.prefix.now ++ c.expand.new.scratch; fault = c.in_ok-prefix.field-0.fault; meter = c.expand.new.meter } in
    let before : State = record {
      macros = inside.macros.macros;
      keeps = inside.keeps;
      items = inside.items;
      deps = inside.deps;
      once = inside.once;
      pushed = inside.pushed;
      meter = inside.meter;
      env = inside.file_context.env;
      directory = inside.file_context.directory;
      shown = inside.file_context.shown;
      system = inside.file_context.system;
      system_rows = inside.system_rows;
      waiting = inside.waiting;
    } in
    let after : State = record before { items = c.extend_if.new.self; meter = x.meter } in
    let expands : IsExpansion before.macros before.env before.meter tokens x = c.in_ok-prefix.ensures in
    let none : before.waiting ≡ [] = subst (λ (s : State). s.waiting ≡ []) (sym c.state.view_is) c.requires in
    let is : after ≡ emitted (with_meter before x.meter) (map item.Token x.tokens) = ap (λ (items : List Item). record after { items = items }) c.in_ok-extend_if.ensures in
    let unfaulted : x.fault ≡ None = c.in_default.is in
    subst (λ (s : State). EmitsText profile s tokens (record { state = after; fault = None })) c.state.view_is
    (emits_closed profile before after tokens x None none expands (waits_without profile before.macros before.env before.meter tokens x expands unfaulted) is (sym unfaulted))

pub returns : goal.returns
returns c =
    let profile = c.args.profile in
    let tokens = c.args.tokens.now in
    let inside = c.state.inside in
    let f : Fault = c.into_fault-fault.result in
    let x : Expansion = record { tokens = c.in_ok-prefix.field-0.prefix.now ++ c.expand.new.scratch; fault = c.in_ok-prefix.field-0.fault; meter = c.expand.new.meter } in
    let before : State = record {
      macros = inside.macros.macros;
      keeps = inside.keeps;
      items = inside.items;
      deps = inside.deps;
      once = inside.once;
      pushed = inside.pushed;
      meter = inside.meter;
      env = inside.file_context.env;
      directory = inside.file_context.directory;
      shown = inside.file_context.shown;
      system = inside.file_context.system;
      system_rows = inside.system_rows;
      waiting = inside.waiting;
    } in
    let after : State = record before { items = c.extend_if-2.new.self; meter = x.meter } in
    let expands : IsExpansion before.macros before.env before.meter tokens x = c.in_ok-prefix.ensures in
    let none : before.waiting ≡ [] = subst (λ (s : State). s.waiting ≡ []) (sym c.state.view_is) c.requires in
    let is : after ≡ emitted (with_meter before x.meter) (map item.Token x.tokens) = ap (λ (items : List Item). record after { items = items }) c.in_ok-extend_if-2.ensures in
    let faulted : x.fault ≡ Some f = c.in-Some.is ∙ ap Some (sym c.into_fault-fault.ensures) in
    let closes = waits_at_another_fault profile before.macros before.env before.meter tokens x expands f faulted (sym c.may_wait.ensures ∙ c.if-may_wait.false) in
    raises profile c.args.state.now after tokens f c.of.result
    (subst (λ (s : State). EmitsText profile s tokens (record { state = after; fault = Some f })) c.state.view_is
    (emits_closed profile before after tokens x (Some f) none expands closes is (sym faulted)))
    c.of.ensures
