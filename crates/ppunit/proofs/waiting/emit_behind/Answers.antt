use Rattle.std.proofs.Common.{◌≡◌, ◌∙◌, ◌++◌, Bool, true, false, true≢false, ◌&&◌, List, map, refl, sym, ap, subst, if◌then◌else◌}
use Rattle.pptext.specs.declared.tokens.Token.{Token}
use Rattle.ppmacro.specs.Substitution.{unhidden}
use Rattle.ppexpand.specs.OpenInvocations.{begins_open}
use Rattle.ppunit.specs.States.{State, running, with_waiting}
use Rattle.ppunit.specs.Directives.{EmitsText}
use Rattle.ppunit.proofs.EmittedText.{stays_waiting}
use Rattle.ppunit.proofs.waiting.emit_behind.Goals as goal

first_true : (a b : Bool) → (a && b) ≡ true → a ≡ true
first_true true b h = refl
first_true false b h = absurd (true≢false (sym h))

second_true : (a b : Bool) → (a && b) ≡ true → b ≡ true
second_true true b h = h
second_true false b h = absurd (true≢false (sym h))

pub returns-then-branch : goal.returns-then-branch
returns-then-branch c =
    let profile = c.args.profile in
    let tokens = c.args.tokens.now in
    let inside = c.state.inside in
    let before : State = record {
      macros = inside.macros.macros;
      keeps = inside.keeps;
      items = inside.items;
      deps = inside.deps;
      once = inside.once;
      pushed = inside.pushed;
      meter = inside.meter;
      env = inside.file_context.env;
      directory = inside.file_context.directory;
      shown = inside.file_context.shown;
      system = inside.file_context.system;
      system_rows = inside.system_rows;
      waiting = inside.waiting;
    } in
    let now : Bool = begins_open before.macros (map unhidden before.waiting) in
    let later : Bool = begins_open before.macros (map unhidden (before.waiting ++ tokens)) in
    let both : (now && later) ≡ true = sym c.in_ok-append_if_open.ensures.is ∙ c.if-branch.true in
    let appended : c.append_if_open.new.self ≡ before.waiting ++ tokens =
    c.in_ok-append_if_open.ensures.list ∙ ap (λ b. if b then before.waiting ++ tokens else before.waiting) c.if-branch.true in
    let emits = stays_waiting profile before tokens (sym c.is_gnu.ensures ∙ c.if-not-is_gnu.false) (first_true now later both) (second_true now later both) in
    subst (λ (s : State). EmitsText profile s tokens (running (with_waiting before c.append_if_open.new.self))) c.state.view_is
    (subst (λ (ts : List Token). EmitsText profile before tokens (running (with_waiting before ts))) (sym appended) emits)
