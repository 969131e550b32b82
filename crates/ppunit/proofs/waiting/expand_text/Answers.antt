use Rattle.std.proofs.Common.{◌≡◌, ◌∙◌, List, map, ap}
use Rattle.ppexpand.specs.Expansion.{Expansion}
use Rattle.ppunit.specs.declared.units.Item.{Item}
use Rattle.ppunit.specs.declared.units.Item.TheVariants as item
use Rattle.ppunit.specs.States.{State, emitted, with_meter}
use Rattle.ppunit.proofs.EmittedText.{expands_text}
use Rattle.ppunit.proofs.waiting.expand_text.Goals as goal

pub returns : goal.returns
returns c =
    let inside = c.state.inside in
    let taken : State = record {
      macros = inside.macros.macros;
      keeps = inside.keeps;
      items = inside.items;
      deps = inside.deps;
      once = inside.once;
      pushed = inside.pushed;
      meter = inside.meter;
      env = inside.file_context.env;
      directory = inside.file_context.directory;
      shown = inside.file_context.shown;
      system = inside.file_context.system;
      system_rows = inside.system_rows;
      waiting = inside.waiting;
    } in
    let x : Expansion = record { tokens = c.expand_open.new.scratch; fault = c.in_ok-expanded.expanded.fault; meter = c.expand_open.new.meter } in
    let after : State = record taken { items = c.extend_if.new.self; meter = x.meter } in
    let is : after ≡ emitted (with_meter taken x.meter) (map item.Token x.tokens) =
    ap (λ (items : List Item). record after { items = items }) c.in_ok-extend_if.ensures in
    expands_text c.args.state.now c.uncount_waiting.new.state taken after c.in_ok-list.list c.args.tokens.now x c.in_ok-expanded.expanded.unclosed
    c.in_ok-uncount_waiting.ensures c.in_ok-list.ensures.list (c.state.view_is ∙ c.in_ok-list.ensures.none) c.in_ok-expanded.ensures is
