use Rattle.std.proofs.Common.{rules, ◌≡◌}
use Rattle.ppunit.specs.States.{is_macro_name}
use Rattle.ppunit.proofs.GuardedFiles.{left_out_by, none_left_out}
use Rattle.ppunit.proofs.guards.is_left_out.Goals as goal

pub returns-in-Some : goal.returns-in-Some
returns-in-Some c =
    let decision : c.is_some.result ≡ is_macro_name c.args.state.now.macros c.in-Some.name.now = search rules in
    left_out_by c.args.state.now c.args.source.now c.in-Some.name.now c.is_some.result c.in-Some.ensures.some decision

pub returns-in-None : goal.returns-in-None
returns-in-None c = none_left_out c.args.state.now c.args.source.now c.in-None.ensures.none
